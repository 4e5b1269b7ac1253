-- The rules keep the laws, and so does every reduction by them.
use Rattle.std.specs.Prelude.{Err}
use mathlib.Core.Path.{◌≡◌, refl, sym}
use mathlib.Core.Bool.{true, false}
use Prim.Native.Nat.{ℕ, ◌+◌, ◌≤◌, ◌<◌}
use native.Mathlib.Omega.{arith}
use lib.ListN.{length}
use borrow.Author.Tests.{eq-eqb}
use Rattle.presolve.specs.LP as LP
use Rattle.network.specs.declared.Net.{Net}
use Rattle.network.specs.declared.pair.Pair.{Pair}
use Rattle.network.specs.Network.{is_here}
use Rattle.network.specs.Legal.{Legal}
use Rattle.network.specs.Pair.{exact_pair}
use Rattle.network.specs.Program.{program_of}
use Rattle.step.specs.declared.Next.{Next}
use Rattle.step.specs.declared.Next.TheVariants.{Stops, Refuted, Takes}
use Rattle.step.specs.declared.Halt.TheVariants.{Passes}
use Rattle.step.specs.Run.{rule_of, back_of, at, way_back}
use Rattle.step.proofs.Fewer.{left-within, legal-left}
use Rattle.step.proofs.Figures.{Sized}
use Rattle.step.specs.Applies.{NoneApplies}
use Rattle.step.proofs.Laws.{AtNodes}
use Rattle.step.proofs.RunLaws.{Lawful, rule-places, rule-unused, rule-at-nodes, NextLaws, RunLaws, next-laws, stops-none, run-laws, run-done, run_ends, restored-solved}
use Rattle.closed_arc.specs.ClosedArc.{closed_arc}
use Rattle.closed_arc.proofs.Laws as ClosedArc
use Rattle.bare_node.proofs.Laws as BareNode
use Rattle.single_arc.proofs.Laws as SingleArc
use Rattle.costly_arc.proofs.Laws as CostlyArc
use Rattle.two_arcs.proofs.Laws as TwoArcs
use Rattle.crossing.proofs.Laws as Crossing
use Rattle.parallel_arcs.proofs.Laws as ParallelArcs
use Rattle.rules.specs.Tried.{is_of_nodes}
use Rattle.rules.specs.Table.{rules, last_rule, next_of, reduced}

-- THE TABLE IS LAWFUL: a row for each rule; rules 4 and 7 come where rule 1 has passed
pub lawful : Lawful (λ net. Unit {0}) rules
lawful = (ClosedArc.laws, (BareNode.laws, (SingleArc.laws, (CostlyArc.laws (λ net p. p.0.0.1), (TwoArcs.laws, (Crossing.laws, (ParallelArcs.laws (λ net p. p.0.0.0.0.0.1), tt)))))))

pub few_places : (r : ℕ) → (rule_of rules r).last ≤ 96
few_places = rule-places (λ net. Unit {0}) 1 rules lawful

-- a rule passes at a number not in use: rules of nodes, and rule 1
pub node-unused : {net : Net} → Legal net → (k i : ℕ) → is_of_nodes k ≡ true → is_here net i ≡ false → (rule_of rules k).at net i ≡ Err Passes
node-unused {net} g k i n h = rule-unused (λ net. Unit {0}) 1 rules lawful net g k i (rw (n, h))

-- how a rule of nodes is tried
pub at_nodes : (k : ℕ) → is_of_nodes k ≡ true → AtNodes (rule_of rules k)
at_nodes = rule-at-nodes (λ net. Unit {0}) 1 rules lawful

pub closed-beyond : {net : Net} → Legal net → (j : ℕ) → net.m < j → closed_arc net j ≡ Err Passes
closed-beyond {net} g j l = lawful.0.unused net g j (rw (eq-eqb _ _ (g.arcs_beyond j l)))

-- what the search finds
pub next-right : (net : Net) → Legal net → NextLaws net (back_of rules) (next_of net)
next-right = next-laws rules lawful (omega arith) last_rule

module _ (net : Net) (g : Legal net) where
  pub whole : RunLaws net (back_of rules) (reduced net)
  whole = run-laws next_of (back_of rules) next-right 128 net g

  -- "there are at most n + m steps"
  pub few_steps : length (reduced net).steps ≤ net.n + net.m
  few_steps = omega (arith, whole.few, left-within g)

  -- "until none applies": unless it is no flow, no rule applies to what is left at any place
  pub none-applies : ((k i : ℕ) → (reduced net).ends ≡ Refuted k i → ⊥) → NoneApplies last_rule rules (reduced net).net
  none-applies n = by (reduced net).ends (run_ends next_of (back_of rules) next-right 128 net) n (run-done next_of (back_of rules) next-right 128 net g (legal-left g))
    where
      by : (e : Next) → e ≡ next_of (reduced net).net → ((k i : ℕ) → e ≡ Refuted k i → ⊥) → ((s : _) → e ≡ Takes s → ⊥) → NoneApplies last_rule rules (reduced net).net
      by Stops q a b = stops-none last_rule rules (reduced net).net (sym q)
      by (Refuted k i) q a b = absurd (a k i refl)
      by (Takes s) q a b = absurd (b s refl)

  -- no flow is right
  pub flowless : (k i : ℕ) → (reduced net).ends ≡ Refuted k i → LP.NoFlow (program_of net)
  flowless = whole.flowless

  -- a pair that solves what is left, brought back, is in form and solves the network given, at the same value
  pub restored : (pair : Pair) → Sized pair → LP.Solved (program_of (reduced net).net) (exact_pair pair) → {q : Pair} → way_back (back_of rules) (reduced net).steps (at pair) ≡ at q → Sized q × LP.Solved (program_of net) (exact_pair q) × (LP.value (program_of net) (exact_pair q).flow ≡ LP.value (program_of (reduced net).net) (exact_pair pair).flow)
  restored = restored-solved whole
