-- Each operation is the one of ℚ where its result fits, and it is a misfit only where no fraction in form has that value.
use mathlib.Core.Path.{◌≡◌, refl, sym, ap, ◌∙◌}
use mathlib.Core.Bool.{Bool, true, false, cond}
use mathlib.Core.Logic.{⊎_elim}
use Prim.Native.Nat.{ℕ, ◌*◌, ◌≤◌, ◌<◌}
use native.Mathlib.Nat.{mul-pos, eq-zero-or-pos}
use native.Mathlib.Omega.{arith}
use borrow.Author.Tests.{eq-eqb, ne_eqb, eqb-true, le-leb}
use lib.IntN.{ℤ, pos, negsuc, neg_ℤ, nat_abs, zero-*ℤ}
use Rattle.std.proofs.lemmas.Bool.Decides.{Decides-int_eq}
use Rattle.integer.specs.Whole.{signed, nat_abs-neg_ℤ, nat_abs-signed}
use Rattle.algebra.specs.Rat.{◌+ℚ◌, ◌*ℚ◌, -ℚ◌, inv_ℚ, 0_ℚ}
use Rattle.algebra.specs.Frac.{frac}
use Rattle.algebra.proofs.Frac.{frac-int, frac-eq, frac-exact, frac-add, frac-mul, frac-neg, frac-inv}
use Rattle.fraction.specs.declared.Fraction.{Fraction}
use Rattle.std.specs.Prelude.{Ok, Err}
use Rattle.fraction.specs.Exact.{Operand, Proper, over, most, and_then, is_operand, is_same, reduce_of, sum_of, difference_of, product_of, quotient_of, negation_of, reciprocal_of, from_words, den_word, misfit}
use Rattle.fraction.specs.Value.{value, Works}
use Rattle.fraction.proofs.Laws.{and_both, is-operand, reduce-exact, reduce-proper, reduce-complete}

pub reduce-works : (n : ℤ) (d : ℕ) → 0 < d → Works (reduce_of n d) (frac n d)
unfolding value
reduce-works n d h =
    record {
      exact = λ z e. frac-eq z.num z.den n d (reduce-proper n d z h e).operand.den_pos h (reduce-exact n d z h e);
      proper = λ z e. reduce-proper n d z h e;
      complete = λ z p e. reduce-complete n d z h p (frac-exact z.num z.den n d p.operand.den_pos h e);
    }

-- ---- the four operations

pub sum-works : (x y : Fraction) → Operand x → Operand y → Works (sum_of x y) (value x +ℚ value y)
unfolding sum_of value
sum-works x y p q =
    rw (is-operand x p, is-operand y q, frac-add x.num x.den y.num y.den p.den_pos q.den_pos)
    (reduce-works _ (x.den * y.den) (mul-pos p.den_pos q.den_pos))

pub product-works : (x y : Fraction) → Operand x → Operand y → Works (product_of x y) (value x *ℚ value y)
unfolding product_of value
product-works x y p q =
    rw (is-operand x p, is-operand y q, frac-mul x.num x.den y.num y.den p.den_pos q.den_pos)
    (reduce-works _ (x.den * y.den) (mul-pos p.den_pos q.den_pos))

-- the negation and the reciprocal of an operand are operands
abbrev pub minus : Fraction → Fraction
minus x = over (neg_ℤ x.num) x.den

pub minus-operand : (x : Fraction) → Operand x → Operand (minus x)
minus-operand x p = record { num_in = rw nat_abs-neg_ℤ p.num_in; den_pos = p.den_pos; den_in = p.den_in }

pub negation-is : (x : Fraction) → Operand x → negation_of x ≡ Ok (minus x)
unfolding negation_of
negation-is x p = rw (is-operand x p)

pub minus-value : (x : Fraction) → Operand x → value (minus x) ≡ -ℚ (value x)
unfolding value
minus-value x p = sym (frac-neg x.num x.den p.den_pos)

abbrev pub turned : Fraction → Fraction
turned x = over (signed x.num x.den) (nat_abs x.num)

turned-operand : (x : Fraction) → Operand x → 0 < nat_abs x.num → Operand (turned x)
turned-operand x p h = record { num_in = rw nat_abs-signed p.den_in; den_pos = h; den_in = p.num_in }

reciprocal_is : (x : Fraction) → Operand x → 0 < nat_abs x.num → reciprocal_of x ≡ Ok (turned x)
unfolding reciprocal_of
reciprocal_is x p h = let k : nat_abs x.num ≡ 0 → ⊥ = λ e. omega arith in rw (is-operand x p, ne_eqb _ _ k)

turned-value : (x : Fraction) → Operand x → 0 < nat_abs x.num → value (turned x) ≡ inv_ℚ (value x)
unfolding value
turned-value x p h = sym (frac-inv x.num x.den p.den_pos h)

pub difference-works : (x y : Fraction) → Operand x → Operand y → Works (difference_of x y) (value x +ℚ (-ℚ (value y)))
unfolding difference_of
difference-works x y p q = rw (negation-is y q, ← minus-value y q) (sum-works x (minus y) p (minus-operand y q))

-- 0 has numerator 0
pub zero-value : (x : Fraction) → Operand x → nat_abs x.num ≡ 0 → value x ≡ 0_ℚ
unfolding value
zero-value x p h = ap (λ (n : ℤ). frac n x.den) (none x.num h) ∙ frac-eq (pos 0) x.den (pos 0) 1 p.den_pos (omega arith) (sym (zero-*ℤ (pos x.den))) ∙ frac-int (pos 0)
  where
    none : (n : ℤ) → nat_abs n ≡ 0 → n ≡ pos 0
    none (pos n) e = ap pos e
    none (negsuc n) e = absurd (let k = e in omega arith)

pub quotient-works : (x y : Fraction) → Operand x → Operand y → ¬ (value y ≡ 0_ℚ) → Works (quotient_of x y) (value x *ℚ inv_ℚ (value y))
unfolding quotient_of
quotient-works x y p q n =
    ⊎_elim (λ z. absurd (n (zero-value y q z)))
    (λ h. rw (reciprocal_is y q h, ← turned-value y q h) (product-works x (turned y) p (turned-operand y q h)))
    (eq-zero-or-pos (nat_abs y.num))

-- there is no quotient by 0
pub quotient-by-zero : (x y : Fraction) → nat_abs y.num ≡ 0 → quotient_of x y ≡ Err misfit
unfolding quotient_of reciprocal_of
quotient-by-zero x y h = rw (eq-eqb _ _ h) (either (is_operand y))
  where
    either : (t : Bool) → and_then (cond t (Err misfit) (Err misfit)) (product_of x) ≡ Err misfit
    either true = refl
    either false = refl

-- ---- a value is written in one way

pub value-unique : (x y : Fraction) → Proper x → Proper y → value x ≡ value y → x ≡ y
unfolding value
value-unique x y p q e =
    let a : reduce_of y.num y.den ≡ Ok x = (reduce-works y.num y.den q.operand.den_pos).complete x p e in
    let b : reduce_of y.num y.den ≡ Ok y = (reduce-works y.num y.den q.operand.den_pos).complete y q refl in
    let c : Ok x ≡ Ok y = sym a ∙ b in cc

pub same-is : (x y : Fraction) → is_same x y ≡ true → x ≡ y
unfolding is_same
same-is x y e = let a = and_both _ _ e in ap (λ (n : ℤ). over n x.den) ((Decides-int_eq _ _).0 a.0) ∙ ap (over y.num) (eqb-true _ _ a.1)

pub is_same_lem : (x : Fraction) → is_same x x ≡ true
unfolding is_same
is_same_lem x = rw ((Decides-int_eq x.num x.num).1 refl, eq-eqb x.den x.den refl)

-- ---- words: what was read is written back

pub words_back : (n d : ℤ) → (from_words n d).den ≤ most → den_word (from_words n d).den ≡ d
unfolding from_words den_word
words_back n (pos d) h = rw (le-leb d most h)
words_back n (negsuc d) h = absurd (let k = h in omega arith)
