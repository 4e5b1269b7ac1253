-- The rules as a table, the fixed order of search, steps until none applies, and the way back over them.
use Rattle.std.specs.Prelude.{Result, Ok, Err}
use Rattle.fraction.specs.declared.Misfit.{Misfit}
use Rattle.fraction.specs.Exact.{misfit}
use Rattle.std.specs.Prelude.{Bool, true, false, cond, List, [], ◌∷◌, ℕ, zero, suc, eqb}
use Rattle.network.specs.declared.Net.{Net}
use Rattle.network.specs.declared.pair.Pair.{Pair}
use Rattle.network.specs.Network.{applied}
use Rattle.step.specs.declared.Old.{Old}
use Rattle.step.specs.Outcome.{Outcome}
use Rattle.step.specs.declared.Halt.TheVariants.{Passes, NoFlow}
use Rattle.step.specs.Back.{Undone}
use Rattle.step.specs.declared.Step.{Step}
use Rattle.step.specs.declared.Next.{Next}
use Rattle.step.specs.declared.Next.TheVariants.{Stops, Refuted, Takes}
use Rattle.step.specs.Around.{Trial, no_trial}
use Rattle.step.specs.Back.{restored}

-- a rule: its last place (`max_arcs` for arcs, `max_nodes` for nodes), what it answers at a place, and its way back
pub record Rule : Type 0 where
  pub last : ℕ
  pub at : Net → ℕ → Outcome
  pub back : Old → Pair → Undone
  -- for those who try it: no definition below reads this
  pub trial : Trial

-- rule r of a table whose first is number k; where there is none, one that passes everywhere
unfoldable pub rule_from : ℕ → List Rule → ℕ → Rule
rule_from k [] r = record { last = 0; at = λ net i. Err Passes; back = λ old pair. Err misfit; trial = no_trial }
rule_from k (R ∷ rules) r = cond (eqb r k) R (rule_from (suc k) rules r)

abbrev pub rule_of : List Rule → ℕ → Rule
rule_of rules r = rule_from 1 rules r

-- ---- the next step

abbrev pub is_found : Next → Bool
is_found Stops = false
is_found (Refuted k i) = true
is_found (Takes s) = true

-- the answer of rule k at place i, or, where it passes, what comes after it
abbrev pub or_else : ℕ → ℕ → Outcome → Next → Next
or_else k i (Err Passes) rest = rest
or_else k i (Err NoFlow) rest = Refuted k i
or_else k i (Ok c) rest = Takes (record { rule = k; place = i; change = c })

-- rule k at `many` places from i upward, then what comes after it
unfoldable pub upward : (ℕ → Outcome) → ℕ → ℕ → ℕ → Next → Next
upward rule k zero i rest = rest
upward rule k (suc many) i rest = or_else k i (rule i) (upward rule k many (suc i) rest)

-- the next h rules in order, of numbers k upward: "the first that applies is the next step"
unfoldable pub next_from : ℕ → ℕ → List Rule → Net → Next
next_from zero k rules net = Stops
next_from (suc h) k [] net = Stops
next_from (suc h) k (R ∷ rules) net = upward (R.at net) k R.last 1 (next_from h (suc k) rules net)

-- of rules 1 to h
abbrev pub next_by : ℕ → List Rule → Net → Next
next_by h rules net = next_from h 1 rules net

-- ---- the run

-- the steps taken, the network that is left, and what the search finds there
pub record Run : Type 0 where
  pub steps : List Step
  pub net : Net
  pub ends : Next

abbrev pub after : Step → Run → Run
after s run = record { steps = s ∷ run.steps; net = run.net; ends = run.ends }

-- "after each step the search starts again": at most `many` steps
unfoldable pub run_by : Next → (Net → Run) → Net → Run
run_by Stops on net = record { steps = []; net = net; ends = Stops }
run_by (Refuted k i) on net = record { steps = []; net = net; ends = Refuted k i }
run_by (Takes s) on net = after s (on (applied net s.change.edit))

unfoldable pub run_of : (Net → Next) → ℕ → Net → Run
run_of next zero net = record { steps = []; net = net; ends = next net }
run_of next (suc many) net = run_by (next net) (run_of next many) net

-- ---- the way back

-- of the rule that took the step
abbrev pub back_of : List Rule → Step → Pair → Undone
back_of rules s pair = (rule_of rules s.rule).back s.change.old pair

-- a pair on its way back, or too wide a figure
abbrev pub Way : Type 0
Way = Result Pair Misfit

abbrev pub at : Pair → Way
at pair = Ok pair

abbrev pub arrived : Undone → Pair → Way
arrived (Ok r) pair = Ok (restored pair r)
arrived (Err m) pair = Err m

abbrev pub undo : (Pair → Undone) → Way → Way
undo back (Ok pair) = arrived (back pair) pair
undo back (Err m) = Err m

-- the steps undone, the last first
unfoldable pub way_back : (Step → Pair → Undone) → List Step → Way → Way
way_back back [] way = way
way_back back (s ∷ steps) way = undo (back s) (way_back back steps way)
