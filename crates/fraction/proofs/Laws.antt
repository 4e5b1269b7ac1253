-- Laws of `Exact`: the tests decide what they are named for; what fits is exact and in form, and what is exact and in form fits.
use mathlib.Core.Path.{◌≡◌, refl, sym, ap, ◌∙◌, subst⁻¹}
use mathlib.Core.Bool.{Bool, true, false, cond, ◌&&◌}
use Prim.Native.Nat.{ℕ, ◌*◌, ◌/◌, ◌≤◌, ◌<◌}
use native.Mathlib.Nat.{eq_of_mul-eq-mul_right}
use native.Mathlib.Omega.{arith}
use borrow.Author.Tests.{le-leb, lt-leb, leb-true, lt-ltb, ltb-true, eq-eqb, ne_eqb, eqb-true}
use lib.Dec.{leb, ltb}
use lib.IntN.{ℤ, pos, nat_abs, ◌*ℤ◌}
use Rattle.integer.specs.Gcd.{gcd, gcd-pos, coprime-quotients, left-product, right-product, right-pos, lowest}
use Rattle.integer.specs.Whole.{signed, nat_abs-signed, nat_abs_mul, same-ratio, same_sign}
use Rattle.fraction.specs.declared.Fraction.{Fraction}
use Rattle.std.specs.Prelude.{Ok, Err, IsErr}
use Rattle.fraction.specs.Exact.{Worked, Operand, Proper, is_operand, is_proper, over, most, fitted, reduce_of, misfit}

-- two different numbers are not equal
pub never {ℓ} : {X : Type ℓ} → ◌≡◌ {A = ℕ} 0 1 → X
never e = absurd (omega arith)

-- ---- the tests

pub and_both : (s t : Bool) → (s && t) ≡ true → (s ≡ true) × (t ≡ true)
and_both true t e = (refl, e)
and_both false t e = never cc

pub operand-is : (x : Fraction) → is_operand x ≡ true → Operand x
unfolding is_operand
operand-is x e =
    let a = and_both (leb (nat_abs x.num) most) _ e in
    let b = and_both (ltb 0 x.den) _ a.1 in
    record { num_in = leb-true _ _ a.0; den_pos = ltb-true _ _ b.0; den_in = leb-true _ _ b.1 }

pub is-operand : (x : Fraction) → Operand x → is_operand x ≡ true
unfolding is_operand
is-operand x h = rw (le-leb _ _ h.num_in, lt-ltb 0 _ h.den_pos, le-leb _ _ h.den_in)

pub operands-are : (x y : Fraction) → (is_operand x && is_operand y) ≡ true → Operand x × Operand y
operands-are x y e = let a = and_both (is_operand x) _ e in (operand-is x a.0, operand-is y a.1)

pub proper-is : (x : Fraction) → is_proper x ≡ true → Proper x
unfolding is_proper
proper-is x e = let a = and_both (is_operand x) _ e in record { operand = operand-is x a.0; coprime = eqb-true _ _ a.1 }

pub is-proper : (x : Fraction) → Proper x → is_proper x ≡ true
unfolding is_proper
is-proper x h = rw (is-operand x h.operand, eq-eqb _ _ h.coprime)

-- ---- when a reduced fraction fits

pub fitted-yes : (n : ℤ) (d : ℕ) → nat_abs n ≤ most → d ≤ most → fitted n d ≡ Ok (over n d)
unfolding fitted
fitted-yes n d h k = rw (le-leb _ _ h, le-leb _ _ k)

-- there is one misfit
pub misfit_is : (w : Worked) → IsErr w → w ≡ Err misfit
misfit_is (Ok x) e = never cc
misfit_is (Err m) e = refl

pub fitted-no-num : (n : ℤ) (d : ℕ) → most < nat_abs n → fitted n d ≡ Err misfit
unfolding fitted
fitted-no-num n d h = rw (lt-leb _ _ h)

pub fitted-no-den : (n : ℤ) (d : ℕ) → most < d → fitted n d ≡ Err misfit
unfolding fitted
fitted-no-den n d h = rw (lt-leb d most h) (no (leb (nat_abs n) most))
  where
    no : (t : Bool) → cond (t && false) (Ok (over n d)) (Err misfit) ≡ Err misfit
    no true = refl
    no false = refl

-- of a result that fits: its parts are within range, and which they are
fitted-is : (n : ℤ) (d : ℕ) (w : Fraction) → fitted n d ≡ Ok w → (nat_abs n ≤ most) × (d ≤ most) × (w ≡ over n d)
unfolding fitted
fitted-is n d w e = by (leb (nat_abs n) most) (leb d most) (leb-true _ _) (leb-true _ _) e
  where
    by : (s t : Bool) → (s ≡ true → nat_abs n ≤ most) → (t ≡ true → d ≤ most) → cond (s && t) (Ok (over n d)) (Err misfit) ≡ Ok w → (nat_abs n ≤ most) × (d ≤ most) × (w ≡ over n d)
    by true true f g e = (f refl, g refl, cc)
    by true false f g e = absurd (let b : ◌≡◌ {A = ℕ} 0 1 = cc in omega arith)
    by false t f g e = absurd (let b : ◌≡◌ {A = ℕ} 0 1 = cc in omega arith)

pub reduce-zero : (z : ℤ) (d : ℕ) → d ≡ 0 → reduce_of z d ≡ Err misfit
unfolding reduce_of
reduce-zero z d h = rw (eq-eqb d 0 h)

-- the answer by the numbers that the code has
pub reduce-by : (z : ℤ) (d s g : ℕ) → (d ≡ 0 → ⊥) → s ≡ nat_abs z → g ≡ gcd s d → reduce_of z d ≡ fitted (signed z (s / g)) (d / g)
unfolding reduce_of
reduce-by z d s g h p q = rw (q, p, ne_eqb d 0 h)

reduced : (z : ℤ) (d : ℕ) → 0 < d → reduce_of z d ≡ fitted (signed z (nat_abs z / gcd (nat_abs z) d)) (d / gcd (nat_abs z) d)
reduced z d h = reduce-by z d (nat_abs z) (gcd (nat_abs z) d) (λ e. omega arith) refl refl

-- ---- what is reduced: exact, in form, and complete

pub reduce-exact : (z : ℤ) (d : ℕ) (w : Fraction) → 0 < d → reduce_of z d ≡ Ok w → w.num *ℤ pos d ≡ z *ℤ pos w.den
reduce-exact z d w h e =
    let p = (fitted-is _ _ w (sym (reduced z d h) ∙ e)).2 in
    rw p (same-ratio z d (nat_abs z / gcd (nat_abs z) d) (d / gcd (nat_abs z) d) (gcd (nat_abs z) d) (left-product (nat_abs z) d) (right-product (nat_abs z) d))

pub reduce-proper : (z : ℤ) (d : ℕ) (w : Fraction) → 0 < d → reduce_of z d ≡ Ok w → Proper w
reduce-proper z d w h e =
    let p = fitted-is _ _ w (sym (reduced z d h) ∙ e) in
    subst⁻¹ Proper p.2
    (record {
      operand = record { num_in = p.0; den_pos = right-pos (nat_abs z) d h; den_in = p.1 };
      coprime = rw (nat_abs-signed z (nat_abs z / gcd (nat_abs z) d)) (coprime-quotients (nat_abs z) d h);
    })

pub reduce-complete : (z : ℤ) (d : ℕ) (w : Fraction) → 0 < d → Proper w → w.num *ℤ pos d ≡ z *ℤ pos w.den → reduce_of z d ≡ Ok w
reduce-complete z d w h p e =
    reduced z d h
    ∙ ap (λ (x : Fraction). fitted x.num x.den) (ap (λ k. over (signed z k) m) (sym same.0) ∙ ap (λ k. over k m) (same_sign z w.num d w.den h p.operand.den_pos e) ∙ ap (λ k. over w.num k) (sym same.1))
    ∙ fitted-yes w.num w.den p.operand.num_in p.operand.den_in
  where
    g : ℕ
    g = gcd (nat_abs z) d

    n : ℕ
    n = nat_abs z / g

    m : ℕ
    m = d / g

    sizes : nat_abs w.num * d ≡ nat_abs z * w.den
    sizes = sym (nat_abs_mul w.num (pos d)) ∙ ap nat_abs e ∙ nat_abs_mul z (pos w.den)

    times : {a b : ℕ} (k : ℕ) → a ≡ b → k * a ≡ k * b
    times k e = ap (λ n. k * n) e

    shared : nat_abs w.num * m * g ≡ n * w.den * g
    shared = omega (arith, sizes, times (nat_abs w.num) (right-product (nat_abs z) d), times w.den (left-product (nat_abs z) d))

    same : (nat_abs w.num ≡ n) × (w.den ≡ m)
    same =
        lowest (nat_abs w.num) w.den n m p.operand.den_pos (right-pos (nat_abs z) d h) p.coprime (coprime-quotients (nat_abs z) d h)
        (eq_of_mul-eq-mul_right g (gcd-pos (nat_abs z) d h) (nat_abs w.num * m) (n * w.den) shared)
