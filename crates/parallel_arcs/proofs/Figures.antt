-- The figures of rule 7 in exact numbers: the common fraction, the image of k's bounds, and the sums of bounds.
use mathlib.Core.Path.{◌≡◌, refl, sym, ap, ◌∙◌}
use mathlib.Core.Bool.{true, false}
use mathlib.Core.Logic.{inl, inr}
use mathlib.Core.Option.{some, none}
use Prim.Native.Nat.{◌<◌}
use Rattle.algebra.proofs.Ring.{combo2}
use Rattle.algebra.proofs.Solver.{◌:+◌, ◌:*◌, ◌:-◌, :neg, :1, ◌:=◌, ring4}
use Rattle.algebra.specs.Rat.{◌*ℚ◌, -ℚ◌, inv_ℚ as inv}
use Rattle.algebra.proofs.Rat.{ℚ-ring, mul_ℚ-inv as mul_inv, mul_ℚ-comm as mul_comm, ≤ℚ-antisym as le_antisym}
use Rattle.presolve.proofs.Bounds.{map_o-is, map_o-none}
use Rattle.presolve.specs.Net.{column}
use Rattle.presolve.proofs.Parallel.{add_o, Room, Image, times_o, straight, exchanged}
use Rattle.fraction.specs.declared.Fraction.{Fraction}
use Rattle.fraction.specs.Exact.{Worked}
use Rattle.std.specs.Prelude.{Ok, Err}
use Rattle.fraction.specs.Exact.{Proper, zero_fraction, no_lower, no_upper, is_less, is_finite}
use Rattle.fraction.proofs.Extended.{not-less}
use Rattle.fraction.specs.Formula.{◌⊕◌, ◌⊗◌}
use Rattle.fraction.proofs.Laws.{never}
use Rattle.fraction.specs.Value.{value}
use Rattle.fraction.proofs.Value.{same-is}
use Rattle.fraction.proofs.Formulas.{given, times-gives, plus-gives, over-gives, times-fits, plus-fits, over-fits, over-nonzero, zero-proper, zero_is, Nonzero, nonzero-value}
use Rattle.network.specs.declared.Arc.{Arc}
use Rattle.network.specs.Legal.{Bound}
use Rattle.network.specs.Program.{bound_of, exact_arc}
use Rattle.network.proofs.Bounds.{bound-is, no-upper, finite-bound, mark-bound, lower-number, not-over}
use Rattle.step.proofs.Lines.{split}
use Rattle.step.proofs.Figures.{below-zero}
use Rattle.parallel_arcs.specs.ParallelArcs.{ratio_of, is_figure, is_times, low_bound, high_bound, low_end, high_end, upper_sum}

-- ---- the common fraction

-- y is g times x, and both have denominators above 0
pub record Times (g y x : Fraction) : Type 0 where
  pub is : value y ≡ value g *ℚ value x
  pub y_pos : 0 < y.den
  pub x_pos : 0 < x.den

pub times-is : (g y x : Fraction) → is_times g y x ≡ true → Times g y x
unfolding is_times
times-is g y x e = by (Ok g ⊗ Ok x) refl e
  where
    by : (w : Worked) → Ok g ⊗ Ok x ≡ w → is_figure w y ≡ true → Times g y x
    by (Err m) q e = never cc
    by (Ok z) q e =
        let o = times-fits q in
        let r : x ≡ o.right = let f = o.right_fits in cc in
        rw (← same-is z y e) (record { is = times-gives (given g) (given x) z q; y_pos = o.is.proper.operand.den_pos; x_pos = rw r o.is.right_operand.den_pos })

pub ratio-is : (tj tk : Arc) {g : Fraction} → ratio_of tj tk ≡ Ok g → Times g tk.a tj.a
unfolding ratio_of
ratio-is tj tk {g} e =
    let o = over-fits e in
    let l : tk.a ≡ o.left = let f = o.left_fits in cc in
    let r : tj.a ≡ o.right = let f = o.right_fits in cc in
    record {
      is = combo2 ℚ-ring (-ℚ value tj.a) (-ℚ value tk.a) (over-gives (given tk.a) (given tj.a) g e) (mul_inv (value tj.a) (over-nonzero (Ok tk.a) (Ok tj.a) _ (given tj.a) e)) (ring4 ℚ-ring (value tk.a) (value tj.a) (inv (value tj.a)) (value g) (λ y x i g. y :- g :* x := :neg x :* (g :- y :* i) :+ :neg y :* (x :* i :- :1)) refl);
      y_pos = rw l o.is.left_operand.den_pos;
      x_pos = rw r o.is.right_operand.den_pos;
    }

-- ---- the image

module _ (g : Fraction) where
  end_is : (z : Fraction) {v : Fraction} → is_finite z ≡ true → Ok z ⊗ Ok g ≡ Ok v → Proper v × (bound_of v ≡ times_o (value g) (bound_of z))
  end_is z {v} f e =
      let p : Proper v = (times-fits {x = Ok z} {y = Ok g} e).is.proper in
      (p, bound-is p ∙ ap some (times-gives (given z) (given g) v e ∙ mul_comm (value z) (value g)) ∙ sym (map_o-is _ (finite-bound z f)))

  pub low_is : (z : Fraction) {v : Fraction} → is_finite z ≡ true → low_end g z ≡ Ok v → Proper v × (bound_of v ≡ times_o (value g) (bound_of z))
  unfolding low_end
  low_is = end_is

  high_is : (z : Fraction) {v : Fraction} → high_end g z ≡ Ok v → bound_of v ≡ times_o (value g) (bound_of z)
  unfolding high_end
  high_is z {v} e = split (is_finite z) (λ f. (end_is z f (rw f at e)).1) (λ f. let q : v ≡ no_upper = let h = rw f at e in cc in rw (q, mark-bound z f) (no-upper ∙ sym (map_o-none _)))

  -- exchanged if g < 0
  pub image-is : (t : Arc) {low high : Fraction} → Nonzero g → is_finite (low_bound t g) ≡ true → low_end g (low_bound t g) ≡ Ok low → high_end g (high_bound t g) ≡ Ok high → Image (column (exact_arc t)) (value g) (bound_of low) (bound_of high)
  image-is t n f l h =
      rw ((low_is (low_bound t g) f l).1, high_is (high_bound t g) h)
      (split (is_less g zero_fraction) (λ s. rw s (exchanged (below-zero n.proper s))) (λ s. rw s (straight (λ k. nonzero-value n.proper n.nonzero (le_antisym _ _ k (rw zero_is at (not-less n.proper zero-proper s)))))))

-- ---- the sums of bounds

pub sum_is : (u v : Fraction) {w : Fraction} → bound_of u ≡ some (value u) → bound_of v ≡ some (value v) → Ok u ⊕ Ok v ≡ Ok w → Proper w × (bound_of w ≡ add_o (bound_of u) (bound_of v))
sum_is u v {w} a b e = let p : Proper w = (plus-fits {x = Ok u} {y = Ok v} e).is.proper in (p, rw (a, b) (bound-is p ∙ ap some (plus-gives (given u) (given v) w e)))

pub upper-sum-is : (u v : Fraction) {w : Fraction} → upper_sum u v ≡ Ok w → Bound no_upper w × (bound_of w ≡ add_o (bound_of u) (bound_of v))
unfolding upper_sum
upper-sum-is u v {w} e =
    split (is_finite u)
    (λ a. split (is_finite v)
    (λ b. let s = sum_is u v (finite-bound u a) (finite-bound v b) (rw (a, b) at e) in (inl s.0, s.1))
    (λ b. rw (finite-bound u a, mark-bound v b) (none_above (let f = rw (a, b) at e in cc))))
    (λ a. rw (mark-bound u a) (none_above (let f = rw a at e in cc)))
  where
    none_above : w ≡ no_upper → Bound no_upper w × (bound_of w ≡ none)
    none_above q = (inr q, rw q no-upper)

-- ---- bounds that don't cross

pub room : {l u : Fraction} → Bound no_lower l → Bound no_upper u → is_less u l ≡ false → Room (bound_of l) (bound_of u)
room a b e l u p q = let n = lower-number a p in rw (← n.is) (not-over n.proper b e u q)
