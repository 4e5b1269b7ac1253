-- The number n / d of a whole number n and a natural number d.
use Rattle.std.specs.Prelude.{ℕ, ℤ, pos}
use Rattle.algebra.specs.Rat.{ℚ, ◌*ℚ◌, inv_ℚ, from_ℤ}

-- n / d, and 0 for d = 0
unfoldable pub frac : ℤ → ℕ → ℚ
frac n d = from_ℤ n *ℚ inv_ℚ (from_ℤ (pos d))
