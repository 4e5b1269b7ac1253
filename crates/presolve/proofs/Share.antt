-- Rule 7: what the kept arc j takes of the flow that stands for both.
use Prim.Native.Nat.{ℕ}
use Rattle.algebra.specs.Rat.{ℚ, ◌+ℚ◌, -ℚ◌}
use Rattle.presolve.proofs.Bounds.{capped}
use Rattle.presolve.specs.LP.{LP}

-- j takes what its upper bound and the image's lower end let it
abbrev pub own-share : LP → (j : ℕ) (L : ℚ) → (ℕ → ℚ) → ℚ
own-share N j L x = capped (N.col j).upper (x j +ℚ -ℚ L)
