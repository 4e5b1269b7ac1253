-- Rule 3 keeps the laws of a rule.
use mathlib.Core.Path.{◌≡◌, refl, sym, ap, ap₂, ◌∙◌, subst}
use mathlib.Core.Bool.{true, false}
use mathlib.Core.List.{[], ◌∷◌}
use mathlib.Core.Logic.{◌⊎◌, inl, inr, ⊎_elim}
use Prim.Native.Nat.{ℕ}
use native.Mathlib.Omega.{arith}
use borrow.Author.Tests.{eqb-true}
use Rattle.algebra.proofs.Ring.{combo}
use Rattle.algebra.proofs.Solver.{◌:+◌, ◌:*◌, ◌:-◌, :0, :1, ◌:=◌, ring1, ring3}
use Rattle.algebra.proofs.Rat.{ℚ-ring, mul_ℚ-inv}
use Rattle.algebra.specs.Rat.{◌+ℚ◌, ◌*ℚ◌, -ℚ◌, ◌≤ℚ◌, 0_ℚ, inv_ℚ}
use Rattle.algebra.proofs.Sum.{none, step, only-other}
use Rattle.algebra.specs.Sum.{only}
use Rattle.presolve.specs.LP.{InBounds}
use Rattle.presolve.specs.LP as LP
use Rattle.presolve.proofs.Removed.{Removed}
use Rattle.presolve.proofs.Single.{SingleAt, forced, single-back, single-sound, single-no-flow}
use Rattle.presolve.proofs.Spoke.{spoke-e}
use Rattle.fraction.specs.declared.Fraction.{Fraction}
use Rattle.std.specs.Prelude.{Ok, Err}
use Rattle.fraction.specs.Exact.{Proper, no_figure, is_less}
use Rattle.fraction.specs.Formula.{◌⊘◌}
use Rattle.fraction.specs.Value.{value}
use Rattle.fraction.proofs.Formulas.{given, over-gives, over-fits}
use Rattle.network.specs.declared.Arc.{Arc}
use Rattle.network.specs.declared.Net.{Net}
use Rattle.network.specs.declared.Side.{Side}
use Rattle.network.specs.declared.pair.Pair.{Pair}
use Rattle.network.specs.Network.{arc_at, supply_at, is_here, degree_of, touching_after, side_of, with_arc, with_supply, without, applied}
use Rattle.network.specs.Legal.{Legal}
use Rattle.network.specs.Pair.{with_price, with_flow, exact_pair}
use Rattle.network.specs.Program.{program_of}
use Rattle.network.proofs.Kept.{here-number}
use Rattle.network.proofs.Bounds.{not-under, not-over, under, over}
use Rattle.fraction.proofs.Exactly.{same}
use Rattle.step.specs.declared.Change.{Change}
use Rattle.step.specs.Outcome.{Outcome}
use Rattle.step.specs.declared.Halt.TheVariants.{Passes, NoFlow}
use Rattle.step.specs.declared.Restored.{Restored}
use Rattle.step.specs.Dropped.{supply_less, cost_added, dropping}
use Rattle.step.specs.Outcome.{only_where}
use Rattle.step.specs.Back.{old_one, restored}
use Rattle.step.proofs.Frame.{no-level}
use Rattle.step.proofs.Touch.{touching-first}
use Rattle.step.proofs.Exactly.{listed-node, rhs_is, spoke_of, alone}
use Rattle.step.proofs.Lines.{Answers, only-met, flow-met, fits-met, not-shown, not-changed, figure-met, made-is}
use Rattle.step.proofs.Removing.{supply-less, cost_added_lem, dropped-framed, level-less, one-removed}
use Rattle.step.proofs.Node.{AtNode, ArcsAt, arcs-here}
use Rattle.step.proofs.Figures.{Sized, Holds, itself, flow-put, price-put, over-exactly}
use Rattle.step.proofs.Laws.{supply-small, no_old, Right, right_of, RuleLaws}
use Rattle.single_arc.specs.SingleArc.{forced_out, single, single_arc, single_back, rule}
use Rattle.single_arc.proofs.Tried.{passes, tried}

-- ---- what an answer says

abbrev arc : Net → ℕ → ℕ
arc net i = touching_after net i 0

abbrev side : Net → ℕ → Side
side net i = side_of (arc_at net (arc net i)) i

-- at a node of degree 1 the flow v fits
record Single (net : Net) (i : ℕ) (x : Outcome) : Type 0 where
  here : is_here net i ≡ true
  single : degree_of net i ≡ 1
  v : Fraction
  flow : (Ok (supply_at net i) ⊘ Ok (side net i).e) ≡ Ok v

-- it is outside the bounds
abbrev Outside : Arc → Fraction → Type 0
Outside t v = (is_less v t.lower ≡ true) ⊎ (is_less t.upper v ≡ true)

-- or within them; this is the change
record Forced (constant : Fraction) (i j : ℕ) (t : Arc) (w : Side) (r r' v : Fraction) (x : Outcome) : Type 0 where
  s : Fraction
  k : Fraction
  not_below : is_less v t.lower ≡ false
  not_above : is_less t.upper v ≡ false
  supply : supply_less w.other r' w.o v ≡ Ok s
  cost : cost_added constant t.cost v ≡ Ok k
  is : Ok (record { edit = dropping j w.other s 0 no_figure i k; old = old_one i r (record { number = j; arc = t }) }) ≡ x

single-met : (net : Net) (i : ℕ) {x : Outcome} → Answers x → single_arc net i ≡ x → (m : Single net i x) × ((Outside (arc_at net (arc net i)) m.v × ((Err NoFlow) ≡ x)) ⊎ Forced net.constant i (arc net i) (arc_at net (arc net i)) (side net i) (supply_at net i) (supply_at net (side net i).other) m.v x)
unfolding single_arc single forced_out
single-met net i a e =
    let h = only-met a _ _ e in
    let d = only-met a _ _ h.1 in
    let v = fits-met a _ _ d.1 in (
      record { here = h.0; single = eqb-true _ _ d.0; v = v.0; flow = v.1 },
      ⊎_elim (λ o. inl (inl o.0, o.1)) (λ l. ⊎_elim (λ o. inl (inr o.0, o.1)) (λ u. let s = fits-met a _ _ u.1 in let k = fits-met a _ _ s.2 in inr (record { s = s.0; k = k.0; not_below = l.0; not_above = u.0; supply = s.1; cost = k.1; is = k.2 })) (flow-met _ _ l.1)) (flow-met _ _ v.2),
    )

-- ---- in exact numbers

module _ (net : Net) (g : Legal net) (i : ℕ) {x : Outcome} (m : Single net i x) where
  abbrev j : ℕ
  j = arc net i

  abbrev t : Arc
  t = arc_at net j

  abbrev w : Side
  w = side net i

  abbrev N : LP.LP
  N = program_of net

  one : ArcsAt net i (j ∷ [])
  one = arcs-here net g i m.here _ m.single (touching-first net i 0, tt)

  abbrev at : AtNode net i j
  at = one.each.0

  single-at : SingleAt N i (spoke_of net i j)
  single-at = record { listed_i = listed-node net g i m.here; at_j = at.spoke; alone = λ c l n. alone net g i (j ∷ []) one.all c (step n none) }

  abbrev v : Fraction
  v = m.v

  proper : Proper v
  proper = (over-fits m.flow).is.proper

  -- the flow that the rule works out is the forced one
  flow-is : value v ≡ forced N i (spoke_of net i j)
  flow-is = over-gives (given (supply_at net i)) (given w.e) v m.flow ∙ ap (λ r. r *ℚ inv_ℚ (value w.e)) (sym (rhs_is net i m.here))

  removed : {x z : Fraction} → supply_less w.other (supply_at net w.other) w.o v ≡ Ok x → cost_added net.constant t.cost v ≡ Ok z → Removed N (program_of (applied net (dropping j w.other x 0 no_figure i z))) j (value v)
  unfolding applied with_arc with_supply without
  removed {x} {z} q k = one-removed net g j (record { node = w.other; supply = x }) (record { node = 0; supply = no_figure }) i z (value v) at.used stays (λ h. goes) (cost_added_lem net.constant t.cost v k).1
    where
      ends : (s : ℕ) → (s ≡ i → ⊥) → (N.col j).coef s ≡ only w.other (value w.o) s
      ends s n = single-at.at_j.ends s ∙ ap (λ k. k +ℚ only w.other (value w.o) s) (only-other i s (value w.e) (λ e. n (sym e))) ∙ ring1 ℚ-ring (only w.other (value w.o) s) (λ o. :0 :+ o := o) refl

      stays : (s : ℕ) → is_here net s ≡ true → (s ≡ i → ⊥) → value (supply_at (with_supply net w.other x) s) ≡ value (supply_at net s) +ℚ -ℚ ((N.col j).coef s *ℚ value v)
      stays s h n = level-less net w.other (supply_at net w.other) w.o v g.supply_long (λ l. refl) q s (here-number g s h) ∙ ap (λ k. value (supply_at net s) +ℚ -ℚ (k *ℚ value v)) (sym (ends s n))

      goes : 0_ℚ ≡ value (supply_at net i) +ℚ -ℚ ((N.col j).coef i *ℚ value v)
      goes =
          combo ℚ-ring (value (supply_at net i)) (mul_ℚ-inv (value w.e) single-at.at_j.nonzero)
          (ring3 ℚ-ring (value (supply_at net i)) (value w.e) (inv_ℚ (value w.e)) (λ r e i. :0 :- (r :- e :* (r :* i)) := r :* (e :* i :- :1)) refl)
          ∙ ap₂ (λ k f. value (supply_at net i) +ℚ -ℚ (k *ℚ f)) (sym (spoke-e single-at.at_j)) (sym (flow-is ∙ ap (λ r. r *ℚ inv_ℚ (value w.e)) (rhs_is net i m.here)))

  within : is_less v t.lower ≡ false → is_less t.upper v ≡ false → InBounds (N.col j) (forced N i (spoke_of net i j))
  within a b =
      record {
        above = λ z e. subst (λ k. z ≤ℚ k) flow-is (not-under proper at.legal.lower_bound a z (sym (ap (λ k. k.lower) at.column) ∙ e));
        below = λ z e. subst (λ k. k ≤ℚ z) flow-is (not-over proper at.legal.upper_bound b z (sym (ap (λ k. k.upper) at.column) ∙ e));
      }

  outside : Outside t v → ¬ (InBounds (N.col j) (forced N i (spoke_of net i j)))
  outside (inl a) k =
      let u = under proper at.legal.lower_bound a in
      u.1 (subst (λ z. value t.lower ≤ℚ z) (sym flow-is) (k.above _ (ap (λ k. k.lower) at.column ∙ u.0)))
  outside (inr b) k =
      let u = over proper at.legal.upper_bound b in
      u.1 (subst (λ z. z ≤ℚ value t.upper) (sym flow-is) (k.below _ (ap (λ k. k.upper) at.column ∙ u.0)))

  undone : (pair : Pair) → Sized pair → (r : Restored) → single_back (old_one i (supply_at net i) (record { number = j; arc = t })) pair ≡ Ok r → Holds (restored pair r) (single-back N i (spoke_of net i j) (exact_pair pair))
  unfolding single_back restored with_flow with_price
  undone pair z r e =
      let v = figure-met _ _ e in
      let p = figure-met _ _ v.2 in
      let a = same (ap (λ r. r *ℚ inv_ℚ (value w.e)) (sym (rhs_is net i m.here))) (over-exactly (given _) (given _)) v.0 v.1 in
      rw (made-is p.2) (price-put (flow-put (itself z) j v.0 at.number a) i p.0 (here-number g i m.here) (at.quotes pair p.0 p.1))

  right : {c : Change} → Forced net.constant i j t w (supply_at net i) (supply_at net w.other) v (Ok c) → Right net c (single_back c.old)
  right f =
      right_of g single_back f.is (dropped-framed net j _ _ i (supply-less w.other _ _ _ f.supply) no-level (cost_added_lem net.constant t.cost v f.cost).0 (λ k l t. ⊎_elim (λ e. e) (λ z. absurd z) (one.all k t))) (inl m.here)
      (record { arcs = ((at.number.1, refl), (no_old g).1); named = λ x u. u; node = (here-number g i m.here).1; supply = supply-small g i m.here; new = omega arith }) (single-back N i (spoke_of net i j))
      (single-sound (record { place = single-at; within = within f.not_below f.not_above; removed = subst (Removed N (program_of (applied net (dropping j w.other f.s 0 no_figure i f.k))) j) flow-is (removed f.supply f.cost) }))
      undone

unused : (net : Net) (i : ℕ) → is_here net i ≡ false → single_arc net i ≡ Err Passes
unfolding single_arc only_where
unused net i e = rw e

-- RULE 3
pub laws : {P : Net → Type 0} → RuleLaws P rule
laws = record {
  few_places = omega arith;
  unused = λ net g. unused net;
  at_nodes = λ e. record { elsewhere = passes; given = tried };
  no_flow = λ net g p i e. let m = single-met net i tt e in ⊎_elim (λ o. single-no-flow (single-at net g i m.0) (outside net g i m.0 o.0)) (λ f. not-shown f.is) m.1;
  right = λ net g p i e. let m = single-met net i tt e in ⊎_elim (λ o. not-changed o.1) (right net g i m.0) m.1;
}
