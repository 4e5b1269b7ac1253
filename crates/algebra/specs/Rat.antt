-- The rational numbers: fractions, up to being one number; their operations and their order.
use Rattle.std.specs.Prelude.{refl, Bool, T, ℤ, pos}
use Rattle.std.proofs.Math.Bool.{Bool-set}
use mathlib.Core.Quot.{Quot, sound, Quot-set, lift, ind}
use Rattle.std.specs.Int.Signed.{non_neg}
use Rattle.algebra.specs.Ratio.{Frac, rel, add_f, mul_f, neg_f, int_f, inv_f}
use Rattle.algebra.specs.Same.{add-resp, mul-resp, neg-resp, nn-resp, inv-resp}

-- a number is a fraction, and two fractions that are one number are equal here
unfoldable pub ℚ : Type 0
ℚ = Quot rel

-- the number that a fraction is
abbrev pub mk : Frac → ℚ
unfolding ℚ
mk x = Quot.mk x

pub ℚ-set : IsSet ℚ
unfolding ℚ
ℚ-set = Quot-set

-- ---- operations on numbers

-- an operation on fractions as one on numbers, where it gives one number for fractions that are one number
abbrev pub lift1 : (f : Frac → Frac) → ((x y : Frac) → rel x y → rel (f x) (f y)) → ℚ → ℚ
unfolding ℚ
lift1 f c q = lift ℚ-set (λ x. mk (f x)) (λ x y h. sound (c x y h)) q

abbrev pub lift2 : (f : Frac → Frac → Frac) → ((x x' y y' : Frac) → rel x x' → rel y y' → rel (f x y) (f x' y')) → ℚ → ℚ → ℚ
unfolding ℚ
lift2 f c p q = lift ℚ-set (λ x. at x q) (λ x x' h. ind (λ q. ℚ-set (at x q) (at x' q)) (λ y. sound (c x x' y y h refl)) q) p
  where
    at : Frac → ℚ → ℚ
    at x = lift1 (f x) (λ y y'. c x x y y' refl)

infixl 65 ◌+ℚ◌
infixl 70 ◌*ℚ◌
infix 75 -ℚ◌
unfoldable pub ◌+ℚ◌ : ℚ → ℚ → ℚ
◌+ℚ◌ = lift2 add_f add-resp

unfoldable pub ◌*ℚ◌ : ℚ → ℚ → ℚ
◌*ℚ◌ = lift2 mul_f mul-resp

unfoldable pub -ℚ◌ : ℚ → ℚ
-ℚ◌ = lift1 neg_f neg-resp

-- 1 / 0 is 0 here
unfoldable pub inv_ℚ : ℚ → ℚ
inv_ℚ = lift1 inv_f inv-resp

unfoldable pub from_ℤ : ℤ → ℚ
from_ℤ n = mk (int_f n)

abbrev pub 0_ℚ : ℚ
0_ℚ = from_ℤ (pos 0)

abbrev pub 1_ℚ : ℚ
1_ℚ = from_ℤ (pos 1)

-- ---- the order

-- the number is not negative
unfoldable pub nn_ℚ : ℚ → Bool
unfolding ℚ
nn_ℚ = lift Bool-set (λ x. non_neg x.num) nn-resp

infix 50 ◌≤ℚ◌ ◌<ℚ◌
-- q - p is not negative
pub record ◌≤ℚ◌ (p q : ℚ) : Type 0 where
  pub le : T (nn_ℚ (q +ℚ -ℚ p))

-- below: not the other way
abbrev pub ◌<ℚ◌ : ℚ → ℚ → Type 0
p <ℚ q = ¬ (q ≤ℚ p)
