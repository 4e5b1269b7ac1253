-- Figures written one after the other.
use mathlib.Core.Path.{◌≡◌, refl, ◌∙◌}
use mathlib.Core.List.{List, [], ◌∷◌, ◌++◌}
use Prim.Native.Nat.{ℕ, ◌+◌, ◌*◌}
use native.Mathlib.Numerals.{add-one}
use native.Mathlib.Omega.{arith}
use lib.IntN.{ℤ}
use lib.ListN.{length}
use Rattle.fraction.specs.declared.Fraction.{Fraction}
use Rattle.fraction.specs.Words.{whole_of}
use Rattle.step.specs.declared.Old.{Old}
use Rattle.step_log.specs.Log.{update_figures, number_figures, figures_of, with_figure, with_figures}

-- figures behind others; p is where they begin
pub figures-append : (zs : List ℤ) (at p : ℕ) (fs gs : List Fraction) → at + 2 * length fs ≡ p → with_figures zs at (fs ++ gs) ≡ with_figures (with_figures zs at fs) p gs
unfolding with_figures
figures-append zs at p [] gs e = let f : at ≡ p = omega (arith, e) in rw f
figures-append zs at p (f ∷ fs) gs e = figures-append (with_figure zs at f) (at + 2) p fs gs (omega (arith, e, add-one (length fs)))

pub four-written : (zs : List ℤ) (at : ℕ) (a b c d : Fraction) → with_figures zs at (a ∷ b ∷ c ∷ d ∷ []) ≡ with_figure (with_figure (with_figure (with_figure zs at a) (at + 2) b) (at + 4) c) (at + 6) d
unfolding with_figures
four-written zs at a b c d =
    let four : at + 2 + 2 ≡ at + 4 = omega arith in
    let six : at + 4 + 2 ≡ at + 6 = omega arith in
    rw (four, six)

pub eight-written : (zs : List ℤ) (at : ℕ) (a b c d e f g h : Fraction)
    → with_figures zs at (a ∷ b ∷ c ∷ d ∷ e ∷ f ∷ g ∷ h ∷ [])
    ≡ with_figure (with_figure (with_figure (with_figure (with_figure (with_figure (with_figure (with_figure zs at a) (at + 2) b) (at + 4) c) (at + 6) d) (at + 8) e) (at + 10) f) (at + 12) g) (at + 14) h
eight-written zs at a b c d e f g h =
    let ten : at + 8 + 2 ≡ at + 10 = omega arith in
    let twelve : at + 8 + 4 ≡ at + 12 = omega arith in
    let fourteen : at + 8 + 6 ≡ at + 14 = omega arith in
    figures-append zs at (at + 8) (a ∷ b ∷ c ∷ d ∷ []) (e ∷ f ∷ g ∷ h ∷ []) refl ∙ rw (four-written zs at a b c d, four-written (with_figure (with_figure (with_figure (with_figure zs at a) (at + 2) b) (at + 4) c) (at + 6) d) (at + 8) e f g h, ten, twelve, fourteen)

-- a step's figures, part by part
pub step-written : (zs : List ℤ) (at rule place : ℕ) (old : Old)
    → with_figures zs at (figures_of rule place old)
    ≡ with_figures (with_figures (with_figures (with_figures (with_figures (with_figure (with_figure (with_figure (with_figure zs at (whole_of rule)) (at + 2) (whole_of place)) (at + 4) (whole_of old.node)) (at + 6) old.supply) (at + 8) (update_figures old.one)) (at + 24) (update_figures old.two)) (at + 40) (update_figures old.three)) (at + 56) (update_figures old.four)) (at + 72) (number_figures old.new)
step-written zs at rule place old =
    figures-append zs at (at + 8) (whole_of rule ∷ whole_of place ∷ whole_of old.node ∷ old.supply ∷ []) _ refl
    ∙ rw (four-written zs at (whole_of rule) (whole_of place) (whole_of old.node) old.supply)
    (figures-append _ (at + 8) (at + 24) (update_figures old.one) _ (omega arith)
    ∙ figures-append _ (at + 24) (at + 40) (update_figures old.two) _ (omega arith)
    ∙ figures-append _ (at + 40) (at + 56) (update_figures old.three) _ (omega arith)
    ∙ figures-append _ (at + 56) (at + 72) (update_figures old.four) _ (omega arith))
