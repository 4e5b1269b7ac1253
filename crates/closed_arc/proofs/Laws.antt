-- Rule 1 keeps the laws of a rule.
use Rattle.std.specs.Prelude.{Ok, Err}
use mathlib.Core.Path.{◌≡◌, sym, ap, ◌∙◌}
use mathlib.Core.Bool.{true, false}
use mathlib.Core.Logic.{◌⊎◌, inl, inr, ⊎_elim}
use Prim.Native.Nat.{ℕ, ◌≤◌}
use native.Mathlib.Omega.{arith}
use borrow.Author.Tests.{eqb-false, ne_eqb, not-true}
use Rattle.presolve.specs.LP as LP
use Rattle.presolve.proofs.Named.{once-mem}
use Rattle.presolve.proofs.Closed.{closed-sound, closed-no-flow}
use Rattle.fraction.specs.Exact.{is_less}
use Rattle.fraction.proofs.Value.{same-is}
use Rattle.network.specs.declared.Net.{Net}
use Rattle.network.specs.Network.{arc_at, is_used}
use Rattle.network.specs.Legal.{Legal}
use Rattle.network.specs.Program.{bound_of, program_of}
use Rattle.network.proofs.Bounds.{bound-is, both-proper, crossing}
use Rattle.network.proofs.Kept.{used-number}
use Rattle.step.specs.declared.Change.{Change}
use Rattle.step.specs.Outcome.{Outcome}
use Rattle.step.specs.declared.Halt.TheVariants.{Passes, NoFlow}
use Rattle.fraction.proofs.Laws.{never}
use Rattle.step.specs.Outcome.{only_where, no_flow_where}
use Rattle.step.specs.Dropped.{dropped_at, lower_back}
use Rattle.step.specs.Applies.{Passing}
use Rattle.step.proofs.Exactly.{listed-arc, column-is}
use Rattle.step.proofs.Lines.{Answers, only-met, flow-met, not-changed, split}
use Rattle.step.proofs.Removing.{lower-right, dropped-shows}
use Rattle.step.proofs.Laws.{Right, RuleLaws}
use Rattle.step.proofs.Touch.{unlike}
use Rattle.closed_arc.specs.ClosedArc.{closed, closed_arc, rule}

-- what an answer says: the bounds cross; or they are one number, and the arc is dropped there
record Closed (net : Net) (j : ℕ) (x : Outcome) : Type 0 where
  used : 1 ≤ (arc_at net j).from
  shows : ((is_less (arc_at net j).upper (arc_at net j).lower ≡ true) × ((Err NoFlow) ≡ x)) ⊎ (((arc_at net j).lower ≡ (arc_at net j).upper) × (dropped_at net j (arc_at net j).lower ≡ x))

closed-met : (net : Net) (j : ℕ) {x : Outcome} → Answers x → closed_arc net j ≡ x → Closed net j x
unfolding closed
closed-met net j a e =
    let u = only-met a _ _ e in
    let n = eqb-false (arc_at net j).from 0 (not-true _ u.0) in
    record { used = omega arith; shows = ⊎_elim inl (λ b. let c = only-met a _ _ b.1 in inr (same-is _ _ c.0, c.1)) (flow-met _ _ u.1) }

-- where it passes, the bounds of no arc in use cross
pub uncrossed : {net : Net} → Legal net → Passing rule net → (j : ℕ) → 1 ≤ (arc_at net j).from → is_less (arc_at net j).upper (arc_at net j).lower ≡ false
unfolding closed only_where no_flow_where
uncrossed {net} g p j u =
    let n = used-number g j u in
    let e = p j n.0 n.1 in
    split (is_less (arc_at net j).upper (arc_at net j).lower) (λ q. never (let z = rw (ne_eqb (arc_at net j).from 0 (λ n. omega arith), q) at e in cc)) (λ q. q)

module _ (net : Net) (g : Legal net) (j : ℕ) (used : 1 ≤ (arc_at net j).from) where
  right : {c : Change} → (arc_at net j).lower ≡ (arc_at net j).upper → dropped_at net j (arc_at net j).lower ≡ Ok c → Right net c (lower_back c.old)
  right same dropped =
      let proper = both-proper (g.used j used).lower_bound (rw (← same) at (g.used j used).upper_bound) in
      lower-right net g j used proper dropped
      (λ e r. closed-sound (record { lower_is = ap (λ k. k.lower) (column-is net j used) ∙ bound-is proper; upper_is = ap (λ k. k.upper) (column-is net j used) ∙ ap bound_of (sym same) ∙ bound-is proper; removed = r }))

  no_flow : is_less (arc_at net j).upper (arc_at net j).lower ≡ true → LP.NoFlow (program_of net)
  no_flow crossed =
      let c = crossing (g.used j used).lower_bound (g.used j used).upper_bound crossed in
      closed-no-flow _ _ (once-mem (listed-arc net g j used)) (ap (λ k. k.lower) (column-is net j used) ∙ c.0) (ap (λ k. k.upper) (column-is net j used) ∙ c.1) c.2

unused : (net : Net) (j : ℕ) → is_used net j ≡ false → closed_arc net j ≡ Err Passes
unfolding closed only_where
unused net j e = rw e

-- RULE 1
pub laws : {P : Net → Type 0} → RuleLaws P rule
laws = record {
  few_places = omega arith;
  unused = λ net g. unused net;
  at_nodes = λ e. unlike e;
  no_flow = λ net g p j e. let m = closed-met net j tt e in ⊎_elim (λ c. no_flow net g j m.used c.0) (λ c. dropped-shows net j _ c.1) m.shows;
  right = λ net g p j e. let m = closed-met net j tt e in ⊎_elim (λ c. not-changed c.1) (λ c. right net g j m.used c.0 c.1) m.shows;
}
