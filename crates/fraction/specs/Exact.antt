-- What each operation on fractions answers, over numbers of any size (01, "The problem and its figures").
use Rattle.std.specs.Prelude.{◌≡◌, Bool, cond, ◌&&◌, not, ℕ, ◌*◌, ◌/◌, ◌≤◌, ◌<◌, ℤ, pos, negsuc, neg_ℤ, nat_abs, ◌+ℤ◌, ◌*ℤ◌, leb, ltb, eqb}
use Rattle.std.specs.Int.Signed.{lt_z}
use Rattle.std.specs.Ordering.{int_eq}
use Rattle.integer.specs.Gcd.{gcd}
use Rattle.integer.specs.Whole.{signed}
use Rattle.fraction.specs.declared.Fraction.{Fraction}
use Rattle.fraction.specs.declared.Misfit.{Misfit}
use Rattle.std.specs.Prelude.{Result, Ok, Err}

-- what an operation answers: the exact result, or that it does not fit
abbrev pub Worked : Type 0
Worked = Result Fraction Misfit

abbrev pub misfit : Misfit
misfit = record {}

abbrev pub over : ℤ → ℕ → Fraction
over n d = record { num = n; den = d }

-- what stands where there is nothing: every number is 0
abbrev pub no_figure : Fraction
no_figure = over (pos 0) 0

-- the greatest numerator and denominator
abbrev pub most : ℕ
most = 2147483647

-- zero is written 0 over 1
abbrev pub zero_fraction : Fraction
zero_fraction = over (pos 0) 1

-- the marks: an absent lower bound and an absent upper bound
abbrev pub no_lower : Fraction
no_lower = over (negsuc 0) 0

abbrev pub no_upper : Fraction
no_upper = over (pos 1) 0

-- ---- what is a fraction

-- what an operation can be worked on: a numerator within range over a denominator from 1 on within range
pub record Operand (x : Fraction) : Type 0 where
  pub num_in : nat_abs x.num ≤ most
  pub den_pos : 0 < x.den
  pub den_in : x.den ≤ most

-- a fraction in form: no common divisor above 1, so that zero is 0 over 1
pub record Proper (x : Fraction) : Type 0 where
  pub operand : Operand x
  pub coprime : gcd (nat_abs x.num) x.den ≡ 1

-- the tests that decide them (`operand-is`, `proper-is`)
unfoldable pub is_operand : Fraction → Bool
is_operand x = leb (nat_abs x.num) most && (ltb 0 x.den && leb x.den most)

unfoldable pub is_proper : Fraction → Bool
is_proper x = is_operand x && eqb (gcd (nat_abs x.num) x.den) 1

-- ---- the operations

-- "fits": the parts are within range
unfoldable pub fitted : ℤ → ℕ → Worked
fitted n d = cond (leb (nat_abs n) most && leb d most) (Ok (over n d)) (Err misfit)

-- z over d, fully reduced; there is no fraction over 0
unfoldable pub reduce_of : ℤ → ℕ → Worked
reduce_of z d = cond (eqb d 0) (Err misfit) (fitted (signed z (nat_abs z / gcd (nat_abs z) d)) (d / gcd (nat_abs z) d))

unfoldable pub sum_of : Fraction → Fraction → Worked
sum_of x y = cond (is_operand x && is_operand y) (reduce_of (x.num *ℤ pos y.den +ℤ y.num *ℤ pos x.den) (x.den * y.den)) (Err misfit)

unfoldable pub product_of : Fraction → Fraction → Worked
product_of x y = cond (is_operand x && is_operand y) (reduce_of (x.num *ℤ y.num) (x.den * y.den)) (Err misfit)

unfoldable pub negation_of : Fraction → Worked
negation_of x = cond (is_operand x) (Ok (over (neg_ℤ x.num) x.den)) (Err misfit)

-- 1 over x: the two parts exchanged, the sign on top; there is none of 0
unfoldable pub reciprocal_of : Fraction → Worked
reciprocal_of x = cond (is_operand x) (cond (eqb (nat_abs x.num) 0) (Err misfit) (Ok (over (signed x.num x.den) (nat_abs x.num)))) (Err misfit)

-- go on with a result that fits
abbrev pub and_then : Worked → (Fraction → Worked) → Worked
and_then (Ok x) f = f x
and_then (Err m) f = Err m

-- x less y is x and the negation of y; x over y is x times 1 over y
unfoldable pub difference_of : Fraction → Fraction → Worked
difference_of x y = and_then (negation_of y) (sum_of x)

unfoldable pub quotient_of : Fraction → Fraction → Worked
quotient_of x y = and_then (reciprocal_of y) (product_of x)

-- ---- comparison

-- x is less than y: two marks by their numerators, else by the cross products, by which a mark lies beyond every fraction
unfoldable pub is_less : Fraction → Fraction → Bool
is_less x y = cond (eqb x.den 0 && eqb y.den 0) (lt_z x.num y.num) (lt_z (x.num *ℤ pos y.den) (y.num *ℤ pos x.den))

-- two figures are written alike
unfoldable pub is_same : Fraction → Fraction → Bool
is_same x y = int_eq x.num y.num && eqb x.den y.den

unfoldable pub is_zero : Fraction → Bool
is_zero x = is_same x zero_fraction

-- a bound that is no mark
unfoldable pub is_finite : Fraction → Bool
is_finite z = not (eqb z.den 0)

-- ---- words of a record

-- a word as a denominator: a number below 0 is read as one beyond range, so that no fraction and no mark has it
abbrev pub den_of : ℤ → ℕ
den_of (pos d) = d
den_of (negsuc d) = 4294967295

unfoldable pub from_words : ℤ → ℤ → Fraction
from_words n d = over n (den_of d)

-- a denominator as a word: one beyond range is written as -1
unfoldable pub den_word : ℕ → ℤ
den_word d = cond (leb d most) (pos d) (negsuc 0)
