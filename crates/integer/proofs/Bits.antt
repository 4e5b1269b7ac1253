-- Numbers of one width are compared by their bits.
use Rattle.std.specs.Prelude.{◌≡◌, ◌<◌, eqb, ℤ}
use Rattle.std.proofs.Common.{sym, ap, ◌∙◌, eqb-true, eq-eqb, to_z-of_z}
use Rattle.std.specs.Int.Signed.{mag}
use Rattle.std.specs.Int.{Width, w32}
use mir.Val.{SFits, to_z, of_z}
use Rattle.integer.specs.Whole.{eq_z, eq_z-true, eq_z-refl, same_test}

pub eqb-bits : {w : Width} {a b : ℤ} → SFits w a → SFits w b → eqb (of_z w a) (of_z w b) ≡ eq_z a b
eqb-bits {w} {a} {b} f g =
    same_test _ _
    (λ t. let e : a ≡ b = sym (to_z-of_z f) ∙ ap (to_z w) (eqb-true (of_z w a) (of_z w b) t) ∙ to_z-of_z g in rw e (eq_z-refl b))
    (λ t. eq-eqb _ _ (ap (of_z w) (eq_z-true a b t)))

pub eqb-words : (a b : ℤ) → mag a < 2147483648 → mag b < 2147483648 → eqb (of_z w32 a) (of_z w32 b) ≡ eq_z a b
eqb-words a b f g = eqb-bits {w = w32} {a = a} {b = b} (record { sfits = f }) (record { sfits = g })
