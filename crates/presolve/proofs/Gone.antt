-- What it is that a column is taken out: it is 0 throughout, and nothing else changes but right-hand sides and the constant.
use mathlib.Core.Path.{◌≡◌}
use mathlib.Core.List.{Memᴰ}
use mathlib.Core.Option.{some}
use Prim.Native.Nat.{ℕ}
use Rattle.algebra.specs.Rat.{ℚ, ◌+ℚ◌, ◌*ℚ◌, -ℚ◌, 0_ℚ as 𝟘}
use Rattle.algebra.proofs.Sum.{Once}
use Rattle.presolve.specs.LP.{LP, Column}

-- a column that is taken out
pub record Gone (c : Column) : Type 0 where
  pub coef_0 : (s : ℕ) → c.coef s ≡ 𝟘
  pub cost_0 : c.cost ≡ 𝟘
  pub lower_0 : c.lower ≡ some 𝟘
  pub upper_0 : c.upper ≡ some 𝟘

pub record Removed (N N' : LP) (j : ℕ) (ξ : ℚ) : Type 0 where
  pub rows_same : N'.rows ≡ N.rows
  pub cols_same : N'.cols ≡ N.cols
  pub listed : Once j N.cols
  pub same : (c : ℕ) → Memᴰ c N.cols → ¬ (c ≡ j) → N'.col c ≡ N.col c
  pub gone : Gone (N'.col j)
  pub rhs_is : (s : ℕ) → Memᴰ s N.rows → N'.rhs s ≡ N.rhs s +ℚ -ℚ ((N.col j).coef s *ℚ ξ)
  pub constant_is : N'.constant ≡ N.constant +ℚ (N.col j).cost *ℚ ξ
