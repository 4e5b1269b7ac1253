-- Rule 7, parallel arcs (02, 2026-02): a column that is a multiple of another.
use Rattle.std.specs.Prelude.{Bool, false, cond, ◌&&◌, ℕ, ◌+◌, ◌-◌, eqb}
use Rattle.loops.specs.Loops.{scan}
use Rattle.fraction.specs.declared.Fraction.{Fraction}
use Rattle.fraction.specs.Exact.{Worked}
use Rattle.std.specs.Prelude.{Ok, Err}
use Rattle.fraction.specs.Exact.{zero_fraction, no_figure, no_upper, is_finite, is_less, is_same}
use Rattle.fraction.specs.Formula.{◌⊕◌, ◌⊖◌, ◌⊗◌, ◌⊘◌}
use Rattle.network.specs.declared.Arc.{Arc}
use Rattle.network.specs.declared.Net.{Net}
use Rattle.network.specs.declared.Edit.{Edit}
use Rattle.network.specs.declared.pair.Pair.{Pair}
use Rattle.network.specs.Limits.{max_arcs}
use Rattle.network.specs.Network.{no_arc, no_supply_update, edit_two, arc_at, is_used}
use Rattle.network.specs.Pair.{flow_at}
use Rattle.step.specs.declared.Old.{Old}
use Rattle.step.specs.Outcome.{Outcome}
use Rattle.step.specs.declared.Halt.TheVariants.{Passes, NoFlow}
use Rattle.step.specs.Back.{Undone}
use Rattle.step.specs.Figure.{smaller}
use Rattle.step.specs.Outcome.{◌>>=◌, ◌>>◌, only_where, fits}
use Rattle.step.specs.Back.{figure, old_two, two_flows}
use Rattle.step.specs.Around.{no_trial}
use Rattle.step.specs.Run.{Rule}

-- "a, b and c of k are a common fraction g times those of j": g is that of a, which must fit
unfoldable pub ratio_of : Arc → Arc → Worked
ratio_of tj tk = Ok tk.a ⊘ Ok tj.a

-- y is exactly g times x: a product that doesn't fit is no figure of an arc
abbrev pub is_figure : Worked → Fraction → Bool
is_figure (Ok x) y = is_same x y
is_figure (Err m) y = false

unfoldable pub is_times : Fraction → Fraction → Fraction → Bool
is_times g y x = is_figure (Ok g ⊗ Ok x) y

-- "k's bounds times g, exchanged if g < 0, give an image": the bounds that give its lower and its upper end
abbrev pub low_bound : Arc → Fraction → Fraction
low_bound tk g = cond (is_less g zero_fraction) tk.upper tk.lower

abbrev pub high_bound : Arc → Fraction → Fraction
high_bound tk g = cond (is_less g zero_fraction) tk.lower tk.upper

unfoldable pub low_end : Fraction → Fraction → Worked
low_end g z = Ok z ⊗ Ok g

-- no upper end where the bound is absent
unfoldable pub high_end : Fraction → Fraction → Worked
high_end g z = cond (is_finite z) (Ok z ⊗ Ok g) (Ok no_upper)

-- "none above where either has none above"
unfoldable pub upper_sum : Fraction → Fraction → Worked
upper_sum u v = cond (is_finite u && is_finite v) (Ok u ⊕ Ok v) (Ok no_upper)

-- arc j, t, with other bounds, and arc k dropped; the constant stays
abbrev pub joining : Fraction → ℕ → Arc → Fraction → Fraction → ℕ → Edit
joining constant j t l u k = edit_two (record { number = j; arc = record { from = t.from; to = t.to; cost = t.cost; lower = l; upper = u; a = t.a; b = t.b } }) (record { number = k; arc = no_arc }) no_supply_update no_supply_update 0 constant

-- "j's lower bound and the image's lower end are finite. j gets the sums of bounds; k is dropped"
-- arc k, tk, is g times arc j, tj
unfoldable pub joined : Fraction → ℕ → Arc → ℕ → Arc → Fraction → Outcome
joined constant j tj k tk g = do
  only_where (is_finite tj.lower)
  only_where (is_finite (low_bound tk g))
  low ← fits (low_end g (low_bound tk g))
  high ← fits (high_end g (high_bound tk g))
  l ← fits (Ok tj.lower ⊕ Ok low)
  u ← fits (upper_sum tj.upper high)
  Ok (record { edit = joining constant j tj l u k; old = old_two 0 no_figure (record { number = j; arc = tj }) (record { number = k; arc = tk }) })

-- "both have the same from and to, and a, b and c of k are a common fraction g times those of j"
unfoldable pub alike : Fraction → ℕ → Arc → ℕ → Arc → Outcome
alike constant j tj k tk = do
  only_where (eqb tk.from tj.from)
  only_where (eqb tk.to tj.to)
  g ← fits (ratio_of tj tk)
  only_where (is_times g tk.b tj.b)
  only_where (is_times g tk.cost tj.cost)
  joined constant j tj k tk g

-- the answer at k or, where the rule passes there, at the next number: "a misfit passing over that k alone"
abbrev pub or_next : Outcome → (ℕ → Outcome) → ℕ → Outcome
or_next (Err Passes) next k = next k
or_next (Err NoFlow) next k = Err NoFlow
or_next (Ok c) next k = Ok c

-- "tried at arc j upward, then k > j upward"; "the step's place is j"
unfoldable pub parallel_arc : Net → ℕ → Outcome
parallel_arc net j = do
  only_where (is_used net j)
  scan or_next (Err Passes) (λ k. alike net.constant j (arc_at net j) k (arc_at net k)) (max_arcs - j) (j + 1)

-- "Going back, k's image first stands at its lower end: j takes the smaller of its upper bound and (flow - that lower end); k's flow is
-- (flow - j's new flow) ÷ g." g and the lower end are those of the step, where they fitted.
unfoldable pub parallel_back_by : Old → Fraction → Undone
parallel_back_by old flow = do
  let j = old.one.number
  let tj = old.one.arc
  let tk = old.two.arc
  g ← figure (ratio_of tj tk)
  low ← figure (low_end g (low_bound tk g))
  rest ← figure (Ok flow ⊖ Ok low)
  let x = smaller tj.upper rest
  y ← figure ((Ok flow ⊖ Ok x) ⊘ Ok g)
  Ok (two_flows old.two.number y j x)

unfoldable pub parallel_back : Old → Pair → Undone
parallel_back old pair = parallel_back_by old (flow_at pair old.one.number)

abbrev pub rule : Rule
rule = record { last = max_arcs; at = parallel_arc; back = parallel_back; trial = no_trial }
