-- The price rule of one arc in exact numbers, and back.
use mathlib.Core.Path.{◌≡◌, refl, sym, ap, ◌∙◌, subst}
use mathlib.Core.Bool.{Bool, true, false, cond}
use mathlib.Core.Option.{some}
use mathlib.Mathlib.Data.Bool.Basic.{eq-false_of_not-eq-true}
use native.Mathlib.Omega.{arith}
use borrow.Author.Tests.{ne_eqb}
use Rattle.algebra.specs.Rat.{0_ℚ, ◌<ℚ◌}
use Rattle.algebra.proofs.Order.{lt→le}
use Rattle.presolve.specs.Bounds as Bounds
use Rattle.fraction.specs.declared.Fraction.{Fraction}
use Rattle.fraction.specs.Exact.{Proper, zero_fraction, no_lower, no_upper, is_finite, is_less, is_same}
use Rattle.fraction.proofs.Laws.{and_both}
use Rattle.fraction.specs.Value.{value}
use Rattle.fraction.proofs.Value.{value-unique, same-is, is_same_lem}
use Rattle.fraction.proofs.Formulas.{zero-proper, zero_is}
use Rattle.fraction.proofs.Extended.{less-value, value-less}
use Rattle.network.specs.Legal.{Bound}
use Rattle.network.specs.Program.{bound_of}
use Rattle.network.proofs.Bounds.{Number, bound-is, lower-number, upper-number}
use Rattle.slackness.specs.Slackness.{is_at, keeps_rule}

-- for a flow x in form
module _ {x : Fraction} (p : Proper x) where
  at-is : (z : Fraction) → is_at z x ≡ true → bound_of z ≡ some (value x)
  unfolding is_at
  at-is z e = ap bound_of (sym (same-is x z (and_both (is_finite z) _ e).1)) ∙ bound-is p

  is-at : {z : Fraction} → Number z (value x) → is_at z x ≡ true
  unfolding is_at is_finite
  is-at {z} n =
      let e : x ≡ z = value-unique x z p n.proper (sym n.is) in
      rw (ne_eqb z.den 0 (λ q. omega (arith, n.proper.operand.den_pos))) (subst (λ y. is_same x y ≡ true) e (is_same_lem x))

  module _ {l u d : Fraction} (bl : Bound no_lower l) (bu : Bound no_upper u) (q : Proper d) where
    positive : is_less zero_fraction d ≡ true → 0_ℚ <ℚ value d
    positive e = rw zero_is at (less-value zero-proper q e)

    negative : is_less d zero_fraction ≡ true → value d <ℚ 0_ℚ
    negative e = rw zero_is at (less-value q zero-proper e)

    is_positive_lem : 0_ℚ <ℚ value d → is_less zero_fraction d ≡ true
    is_positive_lem n = value-less zero-proper q (rw zero_is n)

    is_negative : value d <ℚ 0_ℚ → is_less d zero_fraction ≡ true
    is_negative n = value-less q zero-proper (rw zero_is n)

    not-positive : value d <ℚ 0_ℚ → is_less zero_fraction d ≡ false
    not-positive n = eq-false_of_not-eq-true (λ e. positive e (lt→le n))

    pub rule-is : keeps_rule l u x d ≡ true → Bounds.Fits (bound_of l) (bound_of u) (value x) (value d)
    unfolding keeps_rule
    rule-is e = record { at_lower = λ n. at-is l (rw (is_positive_lem n) at e); at_upper = λ n. at-is u (rw (not-positive n, is_negative n) at e) }

    pub is-rule : Bounds.Fits (bound_of l) (bound_of u) (value x) (value d) → keeps_rule l u x d ≡ true
    unfolding keeps_rule
    is-rule h = by (is_less zero_fraction d) refl (is_less d zero_fraction) refl
      where
        by : (a : Bool) → is_less zero_fraction d ≡ a → (b : Bool) → is_less d zero_fraction ≡ b → cond a (is_at l x) (cond b (is_at u x) true) ≡ true
        by true f b k = is-at (lower-number bl (h.at_lower (positive f)))
        by false f true k = is-at (upper-number bu (h.at_upper (negative k)))
        by false f false k = refl
