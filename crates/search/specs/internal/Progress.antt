-- A run under way, whose arcs stand in the lent list and whose steps stand in the log.
use Rattle.std.specs.Prelude.{Option, ◌≡◌, List, ℕ, ◌+◌, ◌-◌, ◌≤◌, ℤ, length, drop}
use Rattle.network.specs.declared.Arc.{Arc}
use Rattle.network.specs.declared.Net.{Net}
use Rattle.network.specs.declared.Nodes.{Nodes}
use Rattle.network.specs.Limits.{max_arcs, max_steps}
use Rattle.network.specs.Network.{applied}
use Rattle.network.specs.ArcList.{nodes_of, net_in}
use Rattle.network.specs.Legal.{Legal}
use Rattle.step.specs.declared.Step.{Step}
use Rattle.step.specs.declared.Next.{Next}
use Rattle.step.specs.declared.Next.TheVariants.{Takes}
use Rattle.step.specs.Run.{Run, run_of}
use Rattle.costly_arc.specs.Seen.{Seen, Known, nothing_seen, marked_all}
use Rattle.rules.specs.Table.{next_of}
use Rattle.step_log.specs.Log.{logged}
use Rattle.search.specs.declared.Contradiction.{Contradiction}
use Rattle.search.specs.declared.Ran.{Ran}
use Rattle.search.specs.declared.Progress.{Progress}
use Rattle.search.specs.Search.{ends_of}

-- the run `at` on the network net after a step
abbrev pub moved : Progress → Net → Seen → Step → Progress
moved at net seen s =
    record { nodes = nodes_of (applied net s.change.edit); steps = at.steps + 1; seen = marked_all seen s.change.edit (at.steps + 1) }

abbrev pub begun : Nodes → Progress
begun nodes = record { nodes = nodes; steps = 0; seen = nothing_seen }

-- at its end
abbrev pub ended : Progress → Option Contradiction → Ran
ended at end = record { nodes = at.nodes; steps = at.steps; contradiction = end }

-- ---- the run

-- a network on which the run goes on after so many steps
pub record Ready (net : Net) (seen : Seen) (steps : ℕ) : Type 0 where
  pub legal : Legal net
  pub known : Known net steps seen
  pub few : steps ≤ max_steps
  pub done : (s : Step) → (run_of next_of (max_steps - steps) net).ends ≡ Takes s → ⊥

-- what a run comes to: how many steps, the end, what is left, and the log
pub record Told : Type 0 where
  pub steps : ℕ
  pub ends : Next
  pub net : Net
  pub log : List ℤ

-- a run after k steps, with the log zs; one at its end, with net left
abbrev pub told_of : Run → ℕ → List ℤ → Told
told_of run k zs = record { steps = k + length run.steps; ends = run.ends; net = run.net; log = logged k run.steps zs }

abbrev pub told_at : Ran → Net → List ℤ → Told
told_at r net zs = record { steps = r.steps; ends = ends_of r.contradiction; net = net; log = zs }

-- at the end of a run; what lies behind the arcs in the list stays
pub record Finished (run : Run) (log : List ℤ) (arcs : List Arc) (r : Ran) (log' : List ℤ) (arcs' : List Arc) : Type 0 where
  pub told : told_of run 0 log ≡ told_at r (net_in r.nodes arcs') log'
  pub long : length arcs' ≡ length arcs
  pub behind : drop max_arcs arcs' ≡ drop max_arcs arcs
