-- Rule 4 keeps the laws of a rule, where rule 1 passes.
use mathlib.Core.Path.{◌≡◌, refl, sym, ap, ◌∙◌}
use mathlib.Core.Bool.{true, false}
use mathlib.Core.Option.{none}
use Prim.Native.Nat.{ℕ, ◌≤◌}
use native.Mathlib.Omega.{arith}
use lib.Dec.{eqb}
use borrow.Author.Tests.{eqb-true, eqb-false, not-true, not-false}
use Rattle.algebra.specs.Rat.{ℚ, ◌*ℚ◌, 0_ℚ, inv_ℚ, ◌<ℚ◌}
use Rattle.presolve.proofs.Removed.{Removed}
use Rattle.presolve.proofs.Costly.{CostlyArc, costly-sound}
use Rattle.presolve.proofs.TakeOut.{costly-arc}
use Rattle.fraction.specs.declared.Fraction.{Fraction}
use Rattle.fraction.specs.Exact.{Worked}
use Rattle.std.specs.Prelude.{Ok, Err}
use Rattle.fraction.specs.Exact.{Proper, is_finite, is_less}
use Rattle.fraction.specs.Value.{value}
use Rattle.fraction.proofs.Value.{same-is}
use Rattle.fraction.proofs.Extended.{less-value}
use Rattle.fraction.specs.Formula.{◌⊕◌, ◌⊗◌, ◌⊘◌}
use Rattle.fraction.proofs.Formulas.{Gives, given, times-gives, over-gives, plus-gives, over-fits, plus-fits, zero-proper, zero_is}
use Rattle.fraction.proofs.Laws.{and_both, never}
use Rattle.loops.proofs.Laws.{any_some}
use Rattle.network.specs.declared.Arc.{Arc}
use Rattle.network.specs.declared.Net.{Net}
use Rattle.network.specs.declared.Edit.{Edit}
use Rattle.network.specs.Network.{arc_at, is_used, is_root, applied}
use Rattle.network.specs.Legal.{Legal}
use Rattle.network.specs.Program.{bound_of, exact_of, program_of}
use Rattle.network.proofs.Sane.{sane}
use Rattle.network.proofs.Kept.{here-number}
use Rattle.network.proofs.Bounds.{bound-is, no-upper, finite-proper, not-over}
use Rattle.step.specs.declared.Change.{Change}
use Rattle.step.specs.Outcome.{Outcome}
use Rattle.step.specs.declared.Halt.TheVariants.{Passes}
use Rattle.step.specs.Outcome.{only_where}
use Rattle.step.specs.Dropped.{dropped_at, lower_back}
use Rattle.step.proofs.Exactly.{arc-in, arc-place}
use Rattle.step.proofs.Lines.{Answers, only-met, split}
use Rattle.step.proofs.Removing.{lower-right, dropped-shows}
use Rattle.step.proofs.Laws.{Right, RuleLaws}
use Rattle.step.proofs.Touch.{unlike}
use Rattle.step.specs.Applies.{Passing}
use Rattle.closed_arc.specs.ClosedArc as Closed
use Rattle.closed_arc.proofs.Laws.{uncrossed}
use Rattle.costly_arc.specs.CostlyArc.{is_positive, is_under, is_open_root, is_costlier, has_pair, costly_arc, rule}

-- a formula that fits and is above 0, or below c
module _ {q : ℚ} where
  positive-is : (w : Worked) → Gives w q → ((z : Fraction) → w ≡ Ok z → Proper z) → is_positive w ≡ true → 0_ℚ <ℚ q
  positive-is (Err m) h p e = never cc
  positive-is (Ok x) h p e = rw (← h x refl, ← zero_is) (less-value zero-proper (p x refl) e)

  under-is : (w : Worked) (c : Fraction) → Proper c → Gives w q → ((z : Fraction) → w ≡ Ok z → Proper z) → is_under w c ≡ true → q <ℚ value c
  under-is (Err m) c k h p e = never cc
  under-is (Ok x) c k h p e = rw (← h x refl) (less-value (p x refl) k e)

module _ (net : Net) (g : Legal net) where
  -- a root arc at node i without upper bound
  record OpenRoot (k i : ℕ) : Type 0 where
    used : 1 ≤ (arc_at net k).from
    loops : (arc_at net k).from ≡ (arc_at net k).to
    at : (arc_at net k).from ≡ i
    unbounded : bound_of (arc_at net k).upper ≡ none

  open-root : (k i : ℕ) → 1 ≤ i → is_open_root (arc_at net k) i ≡ true → OpenRoot k i
  unfolding is_open_root is_root
  open-root k i l e =
      let x = and_both (eqb (arc_at net k).from (arc_at net k).to) _ e in
      let y = and_both (eqb (arc_at net k).from i) _ x.1 in
      let z : (arc_at net k).from ≡ i = eqb-true _ _ y.0 in
      record { used = rw z l; loops = eqb-true _ _ x.0; at = z; unbounded = ap bound_of (same-is _ _ y.1) ∙ no-upper }

  -- what an answer says: the arc, and the pair of root arcs that the rule finds
  record Costly (j : ℕ) (o : Outcome) : Type 0 where
    no_root : is_root (arc_at net j) ≡ false
    finite : is_finite (arc_at net j).lower ≡ true
    dropped : dropped_at net j (arc_at net j).lower ≡ o
    k : ℕ
    m : ℕ
    first : is_open_root (arc_at net k) (arc_at net j).from ≡ true
    second : is_open_root (arc_at net m) (arc_at net j).to ≡ true
    rate₁ : is_positive (Ok (arc_at net j).a ⊘ Ok (arc_at net k).a) ≡ true
    rate₂ : is_positive (Ok (arc_at net j).b ⊘ Ok (arc_at net m).a) ≡ true
    under : is_under (Ok (arc_at net k).cost ⊗ Ok (arc_at net j).a ⊘ Ok (arc_at net k).a ⊕ Ok (arc_at net m).cost ⊗ Ok (arc_at net j).b ⊘ Ok (arc_at net m).a) (arc_at net j).cost ≡ true

  costly-met : (j : ℕ) {o : Outcome} → Answers o → costly_arc net j ≡ o → Costly j o
  unfolding costly_arc has_pair is_costlier
  costly-met j {o} a e =
      let t = arc_at net j in
      let r = only-met a _ _ e in
      let f = only-met a _ _ r.1 in
      let p = only-met a _ _ f.1 in
      let x = any_some _ 97 p.0 in
      let y = and_both (is_open_root (arc_at net x.0) t.from) _ x.2 in
      let z = any_some _ 97 y.1 in
      let u = and_both (is_open_root (arc_at net z.0) t.to) _ z.2 in
      let v = and_both (is_positive (Ok t.a ⊘ Ok (arc_at net x.0).a)) _ u.1 in
      let q = and_both (is_positive (Ok t.b ⊘ Ok (arc_at net z.0).a)) _ v.1 in
      record { no_root = not-true _ r.0; finite = f.0; dropped = p.1; k = x.0; m = z.0; first = y.0; second = u.0; rate₁ = v.0; rate₂ = q.0; under = q.1 }

  -- an arc that is no root arc is in use
  rootless-used : (j : ℕ) → is_root (arc_at net j) ≡ false → 1 ≤ (arc_at net j).from
  unfolding is_root
  rootless-used j e =
      split (eqb (arc_at net j).from 0)
      (λ q. never (let z = sym e ∙ ap (λ (t : Arc). eqb t.from t.to) (g.unused j (eqb-true _ _ q)) in cc))
      (λ q. let n = eqb-false (arc_at net j).from 0 q in omega arith)

  -- the arc and the root arcs in exact numbers, where the bounds do not cross
  module _ {j : ℕ} {o : Outcome} (w : Costly j o) (room : is_less (arc_at net j).upper (arc_at net j).lower ≡ false) where
    abbrev t : Arc
    t = arc_at net j

    abbrev x : Arc
    x = arc_at net w.k

    abbrev y : Arc
    y = arc_at net w.m

    ratio : (a b : Fraction) → is_positive (Ok a ⊘ Ok b) ≡ true → 0_ℚ <ℚ value a *ℚ inv_ℚ (value b)
    ratio a b e = positive-is (Ok a ⊘ Ok b) (over-gives (given a) (given b)) (λ z q. (over-fits q).is.proper) e

    share : (c a b : Fraction) → Gives (Ok c ⊗ Ok a ⊘ Ok b) (value c *ℚ value a *ℚ inv_ℚ (value b))
    share c a b = over-gives (times-gives (given c) (given a)) (given b)

    pair-arc : (c : Edit) → Removed (program_of net) (program_of (applied net c)) j (value t.lower)
        → CostlyArc (program_of net) (program_of (applied net c)) j w.k w.m t.from t.to (value t.a) (value t.b) (value x.a) (value y.a) (value t.lower)
    unfolding exact_of is_root
    pair-arc c r =
        let used = rootless-used j w.no_root in
        let legal = g.used j used in
        let proper = finite-proper legal.lower_bound w.finite in
        let first = open-root w.k t.from used w.first in
        let second = open-root w.m t.to (here-number g t.to legal.to_here).0 w.second in
        let C =
        costly-arc (exact_of net) (sane g) j w.k w.m (arc-place net g j used) (arc-in net j used) (arc-place net g w.k first.used) (arc-in net w.k first.used) (arc-place net g w.m second.used) (arc-in net w.m second.used) (value t.lower)
        (eqb-false _ _ w.no_root) first.loops second.loops first.at second.at first.unbounded second.unbounded (ratio t.a x.a w.rate₁) (ratio t.b y.a w.rate₂)
        (under-is _ t.cost legal.cost_proper (plus-gives (share x.cost t.a x.a) (share y.cost t.b y.a)) (λ z q. (plus-fits q).is.proper) w.under)
        (bound-is proper) (not-over proper legal.upper_bound room) in
        record { ends = C.ends; root₁ = C.root₁; root₂ = C.root₂; different = C.different; rate₁ = C.rate₁; rate₂ = C.rate₂; costly = C.costly; lower_is = C.lower_is; room = C.room; removed = r }

  right : (j : ℕ) {c : Change} → is_less (arc_at net j).upper (arc_at net j).lower ≡ false → Costly j (Ok c) → Right net c (lower_back c.old)
  right j room h =
      let used = rootless-used j h.no_root in
      lower-right net g j used (finite-proper (g.used j used).lower_bound h.finite) h.dropped (λ e r. costly-sound (pair-arc h room e r))

unused : (net : Net) → Legal net → (j : ℕ) → is_used net j ≡ false → costly_arc net j ≡ Err Passes
unfolding costly_arc is_root only_where
unused net g j e = rw (g.unused j (eqb-true _ _ (not-false _ e)))

-- RULE 4
pub laws : {P : Net → Type 0} → ((net : Net) → P net → Passing Closed.rule net) → RuleLaws P rule
laws first = record {
  few_places = omega arith;
  unused = unused;
  at_nodes = λ e. unlike e;
  no_flow = λ net g p j e. dropped-shows net j _ (costly-met net g j tt e).dropped;
  right = λ net g p j e. let h = costly-met net g j tt e in right net g j (uncrossed g (first net p) j (rootless-used net g j h.no_root)) h;
}
