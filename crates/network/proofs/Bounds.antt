-- Bounds in exact numbers: which of them are numbers, and how they compare.
use mathlib.Core.Path.{◌≡◌, refl, sym, ap, ◌∙◌, subst}
use mathlib.Core.Bool.{true, false}
use mathlib.Core.Logic.{inl, inr}
use mathlib.Core.Option.{some, none}
use native.Mathlib.Omega.{arith}
use borrow.Author.Tests.{ne_eqb}
use Rattle.algebra.specs.Rat.{ℚ, ◌≤ℚ◌, ◌<ℚ◌}
use Rattle.presolve.proofs.Bounds.{some_inj, none-some}
use Rattle.fraction.specs.declared.Fraction.{Fraction}
use Rattle.fraction.specs.Exact.{Proper, no_lower, no_upper, is_finite, is_less}
use Rattle.fraction.specs.Value.{value}
use Rattle.fraction.proofs.Laws.{never}
use Rattle.fraction.specs.Extended.{absent-lower, absent-upper}
use Rattle.fraction.proofs.Extended.{proper-figure, less-is, less-value, not-less}
use Rattle.network.specs.Legal.{Bound}
use Rattle.network.specs.Program.{bound_of}

-- a fraction in form is a bound, and the marks are none
pub bound-is : {z : Fraction} → Proper z → bound_of z ≡ some (value z)
unfolding bound_of is_finite
bound-is {z} p = rw (ne_eqb z.den 0 (λ e. omega (arith, p.operand.den_pos)))

pub no_lower_lem : bound_of no_lower ≡ none
unfolding bound_of is_finite
no_lower_lem = refl

pub no-upper : bound_of no_upper ≡ none
unfolding bound_of is_finite
no-upper = refl

-- by its form
pub finite-bound : (z : Fraction) → is_finite z ≡ true → bound_of z ≡ some (value z)
unfolding bound_of
finite-bound z e = rw e

pub mark-bound : (z : Fraction) → is_finite z ≡ false → bound_of z ≡ none
unfolding bound_of
mark-bound z e = rw e

-- a bound that is a number is a fraction in form of that value
pub record Number (z : Fraction) (q : ℚ) : Type 0 where
  pub proper : Proper z
  pub is : value z ≡ q

number-of : {mark z : Fraction} {q : ℚ} → bound_of mark ≡ none → Bound mark z → bound_of z ≡ some q → Number z q
number-of m (inl p) e = record { proper = p; is = some_inj (sym (bound-is p) ∙ e) }
number-of m (inr z) e = absurd (none-some (sym m ∙ sym (ap bound_of z) ∙ e))

pub lower-number : {z : Fraction} {q : ℚ} → Bound no_lower z → bound_of z ≡ some q → Number z q
lower-number = number-of no_lower_lem

pub upper-number : {z : Fraction} {q : ℚ} → Bound no_upper z → bound_of z ≡ some q → Number z q
upper-number = number-of no-upper

-- a bound that is no mark is a fraction in form; so is one that is both a lower and an upper bound
pub finite-proper : {z : Fraction} → Bound no_lower z → is_finite z ≡ true → Proper z
unfolding is_finite
finite-proper (inl p) e = p
finite-proper (inr m) e = never (let f = rw m at e in cc)

pub both-proper : {z : Fraction} → Bound no_lower z → Bound no_upper z → Proper z
both-proper (inl p) b = p
both-proper (inr m) (inl q) = q
both-proper (inr m) (inr n) = absurd ((less-is absent-lower absent-lower).0 (subst (λ k. is_less no_lower k ≡ true) (sym n ∙ m) ((less-is absent-lower absent-upper).1 tt)))

-- ---- a fraction v within bounds, or outside of them

module _ {v : Fraction} (p : Proper v) where
  pub not-under : {l : Fraction} → Bound no_lower l → is_less v l ≡ false → (q : ℚ) → bound_of l ≡ some q → q ≤ℚ value v
  not-under b e q f = let n = lower-number b f in rw (← n.is) (not-less p n.proper e)

  pub not-over : {u : Fraction} → Bound no_upper u → is_less u v ≡ false → (q : ℚ) → bound_of u ≡ some q → value v ≤ℚ q
  not-over b e q f = let n = upper-number b f in rw (← n.is) (not-less n.proper p e)

  -- what lies beyond a bound, the bound is a number
  pub under : {l : Fraction} → Bound no_lower l → is_less v l ≡ true → (bound_of l ≡ some (value l)) × (value v <ℚ value l)
  under (inl q) e = (bound-is q, less-value p q e)
  under (inr m) e = absurd ((less-is (proper-figure p) absent-lower).0 (rw m at e))

  pub over : {u : Fraction} → Bound no_upper u → is_less u v ≡ true → (bound_of u ≡ some (value u)) × (value u <ℚ value v)
  over (inl q) e = (bound-is q, less-value q p e)
  over (inr m) e = absurd ((less-is absent-upper (proper-figure p)).0 (rw m at e))

-- bounds that cross are two numbers
pub crossing : {l u : Fraction} → Bound no_lower l → Bound no_upper u → is_less u l ≡ true → (bound_of l ≡ some (value l)) × (bound_of u ≡ some (value u)) × (value u <ℚ value l)
crossing (inl p) b e = let o = over p b e in (bound-is p, o.0, o.1)
crossing (inr m) (inl q) e = absurd ((less-is (proper-figure q) absent-lower).0 (rw m at e))
crossing (inr m) (inr n) e = absurd ((less-is absent-upper absent-lower).0 (rw (m, n) at e))
