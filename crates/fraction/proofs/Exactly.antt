-- What is worked and fits, in exact numbers.
use mathlib.Core.Path.{◌≡◌, refl, subst}
use mathlib.Core.Bool.{true}
use Rattle.algebra.specs.Rat.{ℚ, ◌+ℚ◌}
use Rattle.fraction.specs.declared.Fraction.{Fraction}
use Rattle.fraction.specs.Exact.{Worked}
use Rattle.std.specs.Prelude.{Ok, Err}
use Rattle.fraction.specs.Exact.{Proper}
use Rattle.fraction.specs.Formula.{◌⊕◌, ◌⊖◌, is_fit, figure_of}
use Rattle.fraction.proofs.Laws.{never}
use Rattle.fraction.specs.Value.{value}
use Rattle.fraction.proofs.Formulas.{Gives, less_ℚ, plus-fits, minus-fits, plus-gives, minus-gives}

-- q is the value of w, where w fits, and the result is then in form
abbrev pub Exactly : Worked → ℚ → Type 0
Exactly w q = (z : Fraction) → w ≡ Ok z → Proper z × (value z ≡ q)

pub gives : {w : Worked} {q : ℚ} → Exactly w q → Gives w q
gives k z e = (k z e).1

pub same : {w : Worked} {p q : ℚ} → p ≡ q → Exactly w p → Exactly w q
same {w} e k = subst (Exactly w) e k

module _ {x y : Worked} {p q : ℚ} (g : Gives x p) (h : Gives y q) where
  pub plus-exactly : Exactly (x ⊕ y) (p +ℚ q)
  plus-exactly z e = ((plus-fits e).is.proper, plus-gives g h z e)

  pub minus-exactly : Exactly (x ⊖ y) (less_ℚ p q)
  minus-exactly z e = ((minus-fits e).is.proper, minus-gives g h z e)

-- what fits is in form and exact
pub fit_is : (w : Worked) {q : ℚ} → Exactly w q → is_fit w ≡ true → Proper (figure_of w) × (value (figure_of w) ≡ q)
fit_is (Ok z) k e = k z refl
fit_is (Err m) k e = never cc
