-- The figures of the optimality test (01, "The optimality test"), and its questions 9 to 12.
use Rattle.std.specs.Prelude.{Bool, cond, ◌&&◌, not, List, [], ◌∷◌, ℕ, ◌+◌}
use Rattle.loops.specs.Loops.{all, upto}
use Rattle.fraction.specs.declared.Fraction.{Fraction}
use Rattle.fraction.specs.Exact.{Worked}
use Rattle.std.specs.Prelude.{Ok}
use Rattle.fraction.specs.Exact.{zero_fraction, is_less, is_same}
use Rattle.fraction.specs.Formula.{is_fit, figure_of, ◌⊕◌, ◌⊖◌, ◌⊗◌}
use Rattle.network.specs.declared.Arc.{Arc}
use Rattle.network.specs.declared.Net.{Net}
use Rattle.network.specs.declared.pair.Pair.{Pair}
use Rattle.network.specs.Network.{arc_at, supply_at, is_touching, is_root, side_of}
use Rattle.network.specs.Pair.{price_at, flow_at}
use Rattle.slackness.specs.Slackness.{keeps_rule}
use Rattle.records.specs.declared.refusal.Refusal.{Refusal}
use Rattle.records.specs.Questions.{Question, ◌asks◌}

-- ---- the balance of node i: multiplier × flow over the arcs touching it; "sums start at 0 and run over the arcs upward"

abbrev pub balance_turn : Net → Pair → ℕ → ℕ → Worked → Worked
balance_turn net pair i j w = cond (is_touching (arc_at net (j + 1)) i) (w ⊕ Ok (side_of (arc_at net (j + 1)) i).e ⊗ Ok (flow_at pair (j + 1))) w

unfoldable pub balance_of : Net → Pair → ℕ → Worked
balance_of net pair i = upto (balance_turn net pair i) net.m (Ok zero_fraction)

-- ---- "reduced cost d = c - a × price(from) - b × price(to), the last term absent for a root arc"

unfoldable pub reduced_cost : Arc → Pair → Worked
reduced_cost t pair =
    cond (is_root t) (Ok t.cost ⊖ Ok t.a ⊗ Ok (price_at pair t.from))
    (Ok t.cost ⊖ Ok t.a ⊗ Ok (price_at pair t.from) ⊖ Ok t.b ⊗ Ok (price_at pair t.to))

-- ---- "the value is the sum of c × flow, arcs upward"; "A network record now has a constant, .. and the value's sum starts from it" (02, 2026-01)

abbrev pub value_turn : Net → Pair → ℕ → Worked → Worked
value_turn net pair j w = w ⊕ Ok (arc_at net (j + 1)).cost ⊗ Ok (flow_at pair (j + 1))

unfoldable pub value_of : Net → Pair → Worked
value_of net pair = upto (value_turn net pair) net.m (Ok net.constant)

-- ---- 9. "Do all balances, reduced costs and the value fit?" Nodes and arcs are counted from 0 here

abbrev pub balance_fits : Net → Pair → ℕ → Bool
balance_fits net pair i = is_fit (balance_of net pair (i + 1))

abbrev pub cost_fits : Net → Pair → ℕ → Bool
cost_fits net pair j = is_fit (reduced_cost (arc_at net (j + 1)) pair)

unfoldable pub all_fit : Net → Pair → Bool
all_fit net pair = all (balance_fits net pair) net.n && (all (cost_fits net pair) net.m && is_fit (value_of net pair))

-- ---- 10. "Balanced at every node?"

abbrev pub is_balanced : Net → Pair → ℕ → Bool
is_balanced net pair i = is_same (figure_of (balance_of net pair (i + 1))) (supply_at net (i + 1))

-- ---- 11. "Within all bounds?"

unfoldable pub is_within : Arc → Fraction → Bool
is_within t x = not (is_less x t.lower) && not (is_less t.upper x)

abbrev pub is_within_at : Net → Pair → ℕ → Bool
is_within_at net pair j = is_within (arc_at net (j + 1)) (flow_at pair (j + 1))

-- ---- 12. "Price rule kept?" (complementary slackness) "d > 0 only where l is finite and flow = l; d < 0 only where u is finite and flow = u"

abbrev pub keeps_rule_at : Net → Pair → ℕ → Bool
keeps_rule_at net pair j =
    keeps_rule (arc_at net (j + 1)).lower (arc_at net (j + 1)).upper (flow_at pair (j + 1)) (figure_of (reduced_cost (arc_at net (j + 1)) pair))

-- ---- the questions of a pair on a network, each asked whole before the next

unfoldable pub test_questions : Net → Pair → List Question
test_questions net pair =
    Refusal.Width asks all_fit net pair
    ∷ Refusal.Balance asks all (is_balanced net pair) net.n
    ∷ Refusal.Bounds asks all (is_within_at net pair) net.m
    ∷ Refusal.Prices asks all (keeps_rule_at net pair) net.m
    ∷ []
