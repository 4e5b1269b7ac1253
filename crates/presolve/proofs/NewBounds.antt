-- Rule 5: the bounds of the kept arc j, by its own and by those of the dropped arc k.
use mathlib.Core.Path.{◌≡◌}
use Rattle.algebra.specs.Rat.{ℚ, ◌+ℚ◌, ◌*ℚ◌, -ℚ◌, 0_ℚ as 𝟘, inv_ℚ as inv, ◌<ℚ◌}
use Rattle.presolve.proofs.Bounds.{map_o, merge_l, merge_u}
use Rattle.presolve.specs.LP.{Column}

-- the flow of j at which k's flow is z
abbrev pub image : (r ej ek z : ℚ) → ℚ
image r ej ek z = (r +ℚ -ℚ (ek *ℚ z)) *ℚ inv ej

-- j's new bounds: the tighter of its own and the images of k's, exchanged where e_j and e_k have the same sign
pub data NewBounds (j k j' : Column) (r ej ek : ℚ) : Type 0 where
  exchanged : 𝟘 <ℚ ej *ℚ ek
      → j'.lower ≡ merge_l j.lower (map_o (image r ej ek) k.upper)
      → j'.upper ≡ merge_u j.upper (map_o (image r ej ek) k.lower) → NewBounds j k j' r ej ek
  straight : ej *ℚ ek <ℚ 𝟘
      → j'.lower ≡ merge_l j.lower (map_o (image r ej ek) k.lower)
      → j'.upper ≡ merge_u j.upper (map_o (image r ej ek) k.upper) → NewBounds j k j' r ej ek
