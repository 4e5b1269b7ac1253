-- Being legal is a proposition, so that a type can hold it.
use Rattle.std.specs.Prelude.{◌≡◌, ◌⊎◌}
use mathlib.Core.Path.{refl, ap, ◌∙◌}
use mathlib.Core.Logic.{inl, inr}
use native.Mathlib.Omega.{arith}
use denote.Struct.Props.{props}
use Rattle.fraction.specs.declared.Fraction.{Fraction}
use Rattle.fraction.specs.Exact.{Proper, no_lower, no_upper}
use Rattle.network.specs.declared.Net.{Net}
use Rattle.network.specs.Legal.{Legal}

form-prop : {f : Fraction} → IsProp (Proper f)
form-prop = hlevel props

mark-prop : {f mark : Fraction} → IsProp (f ≡ mark)
mark-prop = hlevel props

-- a fraction in form is no mark
module _ {mark f : Fraction} (over : mark.den ≡ 0) where
  no_mark : Proper f → f ≡ mark → ⊥
  no_mark p e = omega (arith, p.operand.den_pos, ap (λ (x : Fraction). x.den) e ∙ over)

  bound-prop : IsProp (Proper f ⊎ (f ≡ mark))
  bound-prop (inl p) (inl q) = ap inl (form-prop p q)
  bound-prop (inl p) (inr e) = absurd (no_mark p e)
  bound-prop (inr e) (inl p) = absurd (no_mark p e)
  bound-prop (inr d) (inr e) = ap inr (mark-prop d e)

lower-prop : {f : Fraction} → IsProp (Proper f ⊎ (f ≡ no_lower))
lower-prop = bound-prop refl

upper-prop : {f : Fraction} → IsProp (Proper f ⊎ (f ≡ no_upper))
upper-prop = bound-prop refl

pub legal-prop : (net : Net) → IsProp (Legal net)
legal-prop net = hlevel (lower-prop, upper-prop, props)
