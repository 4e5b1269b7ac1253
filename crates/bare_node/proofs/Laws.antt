-- Rule 2 keeps the laws of a rule.
use Rattle.std.specs.Prelude.{Ok, Err}
use mathlib.Core.Path.{◌≡◌, refl, sym, ap, ◌∙◌}
use mathlib.Core.Bool.{true, false}
use mathlib.Core.List.{[]}
use mathlib.Core.Logic.{◌⊎◌, inl, inr, ⊎_elim}
use Prim.Native.Nat.{ℕ}
use native.Mathlib.Omega.{arith}
use lib.Dec.{lit≤}
use borrow.Author.Tests.{eqb-true, not-true}
use Rattle.algebra.specs.Rat.{0_ℚ}
use Rattle.presolve.specs.LP as LP
use Rattle.presolve.proofs.Named.{once-mem}
use Rattle.presolve.proofs.Bare.{Untouched, bare-back, bare-sound, bare-no-flow}
use Rattle.fraction.specs.Exact.{no_figure, is_zero}
use Rattle.algebra.proofs.Sum.{none}
use Rattle.fraction.specs.Value.{value}
use Rattle.fraction.proofs.Formulas.{zero-proper, zero_is, nonzero-value}
use Rattle.network.specs.declared.Net.{Net}
use Rattle.network.specs.declared.Edit.{Edit}
use Rattle.network.specs.Network.{arc_at, supply_at, is_here, is_touching, degree_of, no_update, no_supply_update, edit_one, applied}
use Rattle.network.specs.Legal.{Legal}
use Rattle.network.specs.Pair.{with_price, with_flow}
use Rattle.network.specs.Program.{exact_of, program_of}
use Rattle.network.proofs.Kept.{here-number}
use Rattle.step.specs.declared.Change.{Change}
use Rattle.step.specs.Outcome.{Outcome}
use Rattle.step.specs.declared.Halt.TheVariants.{Passes, NoFlow}
use Rattle.step.specs.Outcome.{only_where}
use Rattle.step.specs.Back.{old_one, restored}
use Rattle.step.proofs.Frame.{no-level, no_names, supply-same}
use Rattle.step.proofs.Exactly.{zero-figure, listed-node, rhs_is, alone, column-kept, rhs-off}
use Rattle.step.proofs.Lines.{Answers, only-met, flow-met, not-shown, not-changed, made-is, met}
use Rattle.step.proofs.Removing.{dropped-framed, rhs-after}
use Rattle.step.proofs.Node.{arcs-here}
use Rattle.step.proofs.Figures.{itself, price-put}
use Rattle.step.proofs.Laws.{no_old, Right, right_of, RuleLaws}
use Rattle.bare_node.specs.BareNode.{bare, bare_node, bare_back, rule}
use Rattle.bare_node.proofs.Tried.{passes, tried}

abbrev dropping : Net → ℕ → Edit
dropping net i = edit_one no_update no_supply_update no_supply_update i net.constant

-- what an answer says of the node: it has a supply; or it has none, and is dropped
record Bare (net : Net) (i : ℕ) (x : Outcome) : Type 0 where
  here : is_here net i ≡ true
  bare : degree_of net i ≡ 0
  shows : ((is_zero (supply_at net i) ≡ false) × ((Err NoFlow) ≡ x)) ⊎ ((is_zero (supply_at net i) ≡ true) × (Ok (record { edit = dropping net i; old = old_one i no_figure no_update }) ≡ x))

bare-met : (net : Net) (i : ℕ) {x : Outcome} → Answers x → bare_node net i ≡ x → Bare net i x
unfolding bare_node bare
bare-met net i a e =
    let h = only-met a _ _ e in
    let d = only-met a _ _ h.1 in
    record { here = h.0; bare = eqb-true _ _ d.0; shows = ⊎_elim (λ z. inl (not-true _ z.0, z.1)) (λ z. inr (met _ z.0, z.1)) (flow-met _ _ d.1) }

module _ (net : Net) (g : Legal net) (i : ℕ) {x : Outcome} (m : Bare net i x) where
  no-arc : (k : ℕ) → is_touching (arc_at net k) i ≡ true → ⊥
  no-arc = (arcs-here net g i m.here [] m.bare tt).all

  untouched : Untouched (program_of net) i
  untouched k l = alone net g i [] no-arc k none

  right : {c : Change} → is_zero (supply_at net i) ≡ true → ◌≡◌ {A = Outcome} (Ok (record { edit = dropping net i; old = old_one i no_figure no_update })) (Ok c) → Right net c (bare_back c.old)
  unfolding applied bare_back exact_of restored with_flow with_price
  right zero e =
      right_of g bare_back e (dropped-framed net 0 no_supply_update no_supply_update i no-level no-level g.constant_proper (λ k l t. absurd (no-arc k t))) (inl m.here)
      (record { arcs = no_old g; named = λ x u. u; node = (here-number g i m.here).1; supply = lit≤ tt; new = omega arith }) (bare-back i 0_ℚ)
      (bare-sound 0_ℚ (record { bare = untouched; rows_same = refl; cols_same = refl; same = λ k l. column-kept net (dropping net i) k (no_names k); rhs_is = λ s l. rhs-after net g (dropping net i) (program_of net).rhs (λ s h n. ap value (supply-same net (dropping net i) s (λ l. absurd (omega arith)) (λ l. absurd (omega arith))) ∙ sym (rhs_is net s h)) (λ h. sym (rhs_is net i h ∙ zero-figure _ zero)) (λ s h. sym (rhs-off net s h)) s; constant_is = refl }))
      (λ pair z r q. rw (made-is q) (price-put (itself z) i _ (here-number g i m.here) (zero-proper, zero_is)))

  no_flow : is_zero (supply_at net i) ≡ false → LP.NoFlow (program_of net)
  no_flow nonzero = bare-no-flow i untouched (once-mem (listed-node net g i m.here)) (λ z. nonzero-value (g.supply_proper i m.here) nonzero (sym (rhs_is net i m.here) ∙ z))

unused : (net : Net) (i : ℕ) → is_here net i ≡ false → bare_node net i ≡ Err Passes
unfolding bare_node only_where
unused net i e = rw e

-- RULE 2
pub laws : {P : Net → Type 0} → RuleLaws P rule
laws = record {
  few_places = omega arith;
  unused = λ net g. unused net;
  at_nodes = λ e. record { elsewhere = passes; given = tried };
  no_flow = λ net g p i e. let m = bare-met net i tt e in ⊎_elim (λ z. no_flow net g i m z.0) (λ z. not-shown z.1) m.shows;
  right = λ net g p i e. let m = bare-met net i tt e in ⊎_elim (λ z. not-changed z.1) (λ z. right net g i m z.0 z.1) m.shows;
}
