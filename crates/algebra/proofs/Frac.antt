-- What the operations and the order of ℚ are on the numbers n / d.
use mathlib.Core.Path.{◌≡◌, refl, sym, ◌∙◌, ap, ap₂}
use mathlib.Core.Logic.{◌↔◌}
use mathlib.Core.Bool.{true}
use Prim.Native.Nat.{ℕ, ◌*◌, ◌<◌}
use native.Mathlib.Nat.{mul-pos}
use lib.IntN.{ℤ, pos, neg_ℤ, nat_abs, ◌+ℤ◌, ◌*ℤ◌, ◌-ℤ◌}
use lib.Signed.{lt_z, ◌≤ℤ◌}
use Rattle.integer.specs.Whole.{signed, neg-*ℤ}
use Rattle.algebra.specs.Frac.{frac}
use Rattle.algebra.proofs.Ring.{one-mul}
use Rattle.algebra.proofs.Solver.{◌:*◌, ◌:=◌, ring3}
use Rattle.algebra.proofs.Int.{ℤ-ring, ℤ-ordered, lt_z-is}
use Rattle.algebra.specs.Rat.{1_ℚ, ◌+ℚ◌, ◌*ℚ◌, -ℚ◌, inv_ℚ, from_ℤ, ◌≤ℚ◌, ◌<ℚ◌, mk}
use Rattle.algebra.specs.Ratio.{over}
use Rattle.algebra.proofs.Rat.{ℚ-ring, mul_ℚ-one, mul_ℚ-inv, one≢zero_ℚ, mk-div, mk-eq, mk-add, mk-mul, mk-neg, mk-inv, mk-le}
use Rattle.algebra.proofs.Order.{le_of_eq}

frac-is : (n : ℤ) (d : ℕ) (h : 0 < d) → frac n d ≡ mk (over n d h)
unfolding frac
frac-is n d h = mk-div n d h

pub frac-int : (n : ℤ) → frac n 1 ≡ from_ℤ n
unfolding frac
frac-int n = ap (λ t. from_ℤ n *ℚ t) (sym (one-mul ℚ-ring (inv_ℚ 1_ℚ)) ∙ mul_ℚ-inv 1_ℚ one≢zero_ℚ) ∙ mul_ℚ-one (from_ℤ n)

pub frac-neg : (a : ℤ) (b : ℕ) → 0 < b → -ℚ frac a b ≡ frac (neg_ℤ a) b
frac-neg a b hb = ap -ℚ◌ (frac-is a b hb) ∙ mk-neg (over a b hb) ∙ sym (frac-is (neg_ℤ a) b hb)

pub frac-inv : (n : ℤ) (d : ℕ) → 0 < d → 0 < nat_abs n → inv_ℚ (frac n d) ≡ frac (signed n d) (nat_abs n)
frac-inv n d hd hn = ap inv_ℚ (frac-is n d hd) ∙ mk-inv n d hd hn ∙ sym (frac-is (signed n d) (nat_abs n) hn)

module _ (a : ℤ) (b : ℕ) (c : ℤ) (d : ℕ) (hb : 0 < b) (hd : 0 < d) where
  pub frac-add : frac a b +ℚ frac c d ≡ frac (a *ℤ pos d +ℤ c *ℤ pos b) (b * d)
  frac-add = ap₂ ◌+ℚ◌ (frac-is a b hb) (frac-is c d hd) ∙ mk-add (over a b hb) (over c d hd) ∙ sym (frac-is (a *ℤ pos d +ℤ c *ℤ pos b) (b * d) (mul-pos hb hd))

  pub frac-mul : frac a b *ℚ frac c d ≡ frac (a *ℤ c) (b * d)
  frac-mul = ap₂ ◌*ℚ◌ (frac-is a b hb) (frac-is c d hd) ∙ mk-mul (over a b hb) (over c d hd) ∙ sym (frac-is (a *ℤ c) (b * d) (mul-pos hb hd))

  pub frac-eq : a *ℤ pos d ≡ c *ℤ pos b → frac a b ≡ frac c d
  frac-eq h = frac-is a b hb ∙ mk-eq (over a b hb) (over c d hd) h ∙ sym (frac-is c d hd)

  pub frac-le : (a *ℤ pos d) ≤ℤ (c *ℤ pos b) ↔ frac a b ≤ℚ frac c d
  frac-le = rw (frac-is a b hb, frac-is c d hd) (mk-le (over a b hb) (over c d hd))

module _ (a : ℤ) (b : ℕ) (c : ℤ) (d : ℕ) (hb : 0 < b) (hd : 0 < d) where
  pub frac-sub : frac a b +ℚ -ℚ frac c d ≡ frac (a *ℤ pos d -ℤ c *ℤ pos b) (b * d)
  frac-sub = rw (frac-neg c d hd, frac-add a b (neg_ℤ c) d hb hd, neg-*ℤ)

  pub frac-lt : lt_z (a *ℤ pos d) (c *ℤ pos b) ≡ true ↔ frac a b <ℚ frac c d
  frac-lt = (λ e k. is.0 e (le.1 k), λ h. is.1 (λ k. h (le.0 k)))
    where
      is : lt_z (a *ℤ pos d) (c *ℤ pos b) ≡ true ↔ ¬ ((c *ℤ pos b) ≤ℤ (a *ℤ pos d))
      is = lt_z-is (a *ℤ pos d) (c *ℤ pos b)

      le : (c *ℤ pos b) ≤ℤ (a *ℤ pos d) ↔ frac c d ≤ℚ frac a b
      le = frac-le c d a b hd hb

  pub frac-exact : frac a b ≡ frac c d → a *ℤ pos d ≡ c *ℤ pos b
  frac-exact e = ℤ-ordered.le_antisym (a *ℤ pos d) (c *ℤ pos b) ((frac-le a b c d hb hd).1 (le_of_eq e)) ((frac-le c d a b hd hb).1 (le_of_eq (sym e)))

-- a common factor may go
pub frac-reduce : (n : ℤ) (d g : ℕ) → 0 < d → 0 < g → frac (n *ℤ pos g) (d * g) ≡ frac n d
frac-reduce n d g hd hg = frac-eq (n *ℤ pos g) (d * g) n d (mul-pos hd hg) hd (ring3 ℤ-ring n (pos d) (pos g) (λ n d g. n :* g :* d := n :* (d :* g)) refl)
