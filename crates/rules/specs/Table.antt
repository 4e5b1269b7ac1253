-- The rules in the order in which they are tried (01, "The six reductions"; 02, 2026-02).
use Rattle.std.specs.Prelude.{List, [], ◌∷◌, ℕ, length}
use Rattle.network.specs.declared.Net.{Net}
use Rattle.network.specs.Limits.{max_steps}
use Rattle.step.specs.declared.Next.{Next}
use Rattle.step.specs.Run.{Rule, next_by, Run, run_of}
use Rattle.closed_arc.specs.ClosedArc as ClosedArc
use Rattle.bare_node.specs.BareNode as BareNode
use Rattle.single_arc.specs.SingleArc as SingleArc
use Rattle.costly_arc.specs.CostlyArc as CostlyArc
use Rattle.two_arcs.specs.TwoArcs as TwoArcs
use Rattle.crossing.specs.Tried as Crossing
use Rattle.parallel_arcs.specs.ParallelArcs as ParallelArcs

-- a new rule is a row at the end
abbrev pub rules : List Rule
rules = ClosedArc.rule ∷ BareNode.rule ∷ SingleArc.rule ∷ CostlyArc.rule ∷ TwoArcs.rule ∷ Crossing.rule ∷ ParallelArcs.rule ∷ []

-- the highest rule that is tried
abbrev pub last_rule : ℕ
last_rule = length rules

-- "After each step the search starts again: rule 1 at the arcs upward, rule 2 at the nodes upward, then 3 (nodes), 4 (arcs), 5 (nodes), 6 (nodes)." (01)
-- "Rule 7, after 6, tried at arc j upward" (02)
abbrev pub next_of : Net → Next
next_of net = next_by last_rule rules net

abbrev pub reduced : Net → Run
reduced net = run_of next_of max_steps net
