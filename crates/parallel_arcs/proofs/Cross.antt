-- The cheap test is right: where it says no, rule 7 passes.
use Rattle.std.specs.Prelude.{Ok, Err}
use mathlib.Core.Path.{◌≡◌, refl, sym, ◌∙◌}
use mathlib.Core.Bool.{Bool, true, false, ◌&&◌}
use Prim.Native.Nat.{ℕ}
use native.Mathlib.Nat.{mul-pos}
use lib.Dec.{eqb}
use lib.IntN.{pos, ◌*ℤ◌}
use borrow.Author.Tests.{eq-eqb}
use Rattle.integer.specs.Whole.{eq_z-refl, *ℤ-assoc}
use Rattle.algebra.proofs.Ring.{combo2}
use Rattle.algebra.proofs.Solver.{◌:+◌, ◌:*◌, ◌:-◌, ◌:=◌, ring5}
use Rattle.algebra.proofs.Rat.{ℚ-ring}
use Rattle.algebra.proofs.Frac.{frac-mul, frac-exact}
use Rattle.fraction.specs.declared.Fraction.{Fraction}
use Rattle.fraction.specs.Value.{value}
use Rattle.fraction.proofs.Laws.{never}
use Rattle.network.specs.declared.Arc.{Arc}
use Rattle.step.specs.Outcome.{Outcome}
use Rattle.step.specs.declared.Halt.TheVariants.{Passes, NoFlow}
use Rattle.parallel_arcs.specs.ParallelArcs.{alike}
use Rattle.parallel_arcs.specs.internal.Multiple.{is_cross, is_multiple}
use Rattle.parallel_arcs.proofs.Figures.{Times, times-is, ratio-is}
use Rattle.parallel_arcs.proofs.Laws.{Met, alike-met}

-- y is g times x, and b is g times a
cross-is : (g x a y b : Fraction) → Times g y x → Times g b a → is_cross x a y b ≡ true
unfolding is_cross value
cross-is g x a y b t u =
    let n = x.num *ℤ b.num in
    let m = y.num *ℤ a.num in
    let q = sym (frac-mul x.num x.den b.num b.den t.x_pos u.y_pos) ∙ combo2 ℚ-ring (value x) (value a) u.is (sym t.is) (ring5 ℚ-ring (value g) (value x) (value a) (value y) (value b) (λ g x a y b. x :* b :- y :* a := x :* (b :- g :* a) :+ a :* (g :* x :- y)) refl) ∙ frac-mul y.num y.den a.num a.den t.y_pos u.x_pos in
    let e : n *ℤ pos y.den *ℤ pos a.den ≡ m *ℤ pos x.den *ℤ pos b.den = *ℤ-assoc n _ _ ∙ frac-exact n _ m _ (mul-pos t.x_pos u.y_pos) (mul-pos t.y_pos u.x_pos) q ∙ sym (*ℤ-assoc m _ _) in
    rw e (eq_z-refl (m *ℤ pos x.den *ℤ pos b.den))

-- ---- what holds wherever the rule answers: where it doesn't, the rule passes

module _ (constant : Fraction) (j : ℕ) (tj : Arc) (k : ℕ) (tk : Arc) where
  passes-unless : (b : Bool) → ((x : Outcome) → Met constant j tj k tk x → b ≡ true) → b ≡ false → alike constant j tj k tk ≡ Err Passes
  passes-unless b h e = by (alike constant j tj k tk) refl
    where
      by : (o : Outcome) → alike constant j tj k tk ≡ o → o ≡ Err Passes
      by (Err Passes) q = refl
      by (Err NoFlow) q = never (let z = sym e ∙ h _ (alike-met constant j tj k tk tt q) in cc)
      by (Ok c) q = never (let z = sym e ∙ h _ (alike-met constant j tj k tk tt q) in cc)

  -- THE CHEAP TEST
  pub not-multiple : is_multiple tj tk ≡ false → alike constant j tj k tk ≡ Err Passes
  unfolding is_multiple
  not-multiple = passes-unless _ (λ x m. let a = ratio-is tj tk m.ratio in rw (cross-is _ _ _ _ _ (times-is _ _ _ m.cost_times) a, cross-is _ _ _ _ _ (times-is _ _ _ m.b_times) a))

  pub ends-differ : (eqb tk.from tj.from && eqb tk.to tj.to) ≡ false → alike constant j tj k tk ≡ Err Passes
  ends-differ = passes-unless _ (λ x m. rw (eq-eqb _ _ m.from_same, eq-eqb _ _ m.to_same))
