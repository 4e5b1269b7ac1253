-- Whether rules of a table apply to a network, and where.
use Rattle.std.specs.Prelude.{Err}
use Rattle.std.specs.Prelude.{◌≡◌, List, ℕ, ◌≤◌, length}
use Rattle.network.specs.declared.Net.{Net}
use Rattle.step.specs.declared.Halt.TheVariants.{Passes, NoFlow}
use Rattle.step.specs.Run.{Rule, rule_of}

-- a rule passes at all its places
abbrev pub Passing : Rule → Net → Type 0
Passing R net = (i : ℕ) → 1 ≤ i → i ≤ R.last → R.at net i ≡ Err Passes

-- so do rules 1 to h of a table
abbrev pub NoneApplies : ℕ → List Rule → Net → Type 0
NoneApplies h rules net = (r : ℕ) → 1 ≤ r → r ≤ h → Passing (rule_of rules r) net

-- rule r of a table answers no flow at place i
pub record Shown (rules : List Rule) (net : Net) (r i : ℕ) : Type 0 where
  pub rule : (1 ≤ r) × (r ≤ length rules)
  pub place : (1 ≤ i) × (i ≤ (rule_of rules r).last)
  pub shows : (rule_of rules r).at net i ≡ Err NoFlow
