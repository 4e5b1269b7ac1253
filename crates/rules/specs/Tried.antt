-- The tests before a rule is tried.
use Rattle.std.specs.Prelude.{Bool, ◌&&◌, ◌||◌, not, ℕ, eqb}
use Rattle.fraction.specs.declared.Fraction.{Fraction}
use Rattle.fraction.specs.Exact.{is_less, is_same, is_zero}
use Rattle.network.specs.declared.Arc.{Arc}
use Rattle.network.specs.Limits.{max_nodes}
use Rattle.step.specs.Run.{rule_of}
use Rattle.rules.specs.declared.tried.Asks.{Asks}
use Rattle.rules.specs.Table.{rules}

-- rule 1: the arc is in use, and l > u or l = u
unfoldable pub is_closed : Arc → Bool
is_closed t = not (eqb t.from 0) && (is_less t.upper t.lower || is_same t.lower t.upper)

-- whether rule k goes over the nodes
abbrev pub is_of_nodes : ℕ → Bool
is_of_nodes k = eqb (rule_of rules k).last max_nodes

-- how many places rule k has, and what it asks of a node
abbrev pub asks_of : ℕ → Asks
asks_of k = record { places = (rule_of rules k).last; degree = (rule_of rules k).trial.degree; balanced = (rule_of rules k).trial.balanced }

-- whether a supply is what a rule asks for
abbrev pub may_apply : Asks → Fraction → Bool
may_apply asks r = not asks.balanced || is_zero r
