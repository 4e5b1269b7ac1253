-- The marked instances of document 01, with the constants of document 02, 2026-01, and a worked example of ours, as one table: what the definitions
-- compute, and what is written.
use Rattle.std.specs.Prelude.{Result, Ok, Err, ⊤, ◌≡◌, refl, Bool, true, false, List, [], ◌∷◌, ◌++◌, map, ℕ, ◌+◌, ◌-◌, ℤ, pos, neg_ℤ, length}
use Rattle.integer.specs.Gcd.{gcd, gcd_by}
use Rattle.loops.specs.Loops.{zeros, build, upto, count, all, any, scan}
use Rattle.fraction.specs.declared.Fraction.{Fraction}
use Rattle.fraction.specs.Exact.{Worked, misfit}
use Rattle.fraction.specs.Exact.{over, no_upper, is_operand, is_proper, fitted, reduce_of, sum_of, product_of, difference_of, quotient_of, negation_of, reciprocal_of, is_less, is_same, is_zero, from_words, den_word, is_finite}
use Rattle.fraction.specs.Formula.{divided, subtracted, negated, added, multiplied}
use Rattle.network.specs.declared.Arc.{Arc}
use Rattle.network.specs.declared.Net.{Net}
use Rattle.network.specs.Limits.{max_arcs}
use Rattle.network.specs.Network.{no_arc, empty_net, updates_of, with_arc, with_supply, with_node, without, applied, is_touching, degree_of, touching_after, is_root, far_end, side_of}
use Rattle.network.specs.declared.ArcUpdate.{ArcUpdate}
use Rattle.records.specs.Limits.{network_room, stack_room, pair_room, value_room, scratch_room}
use Rattle.records.specs.Arrays.{figure_at}
use Rattle.records.specs.Network.{sizes_right, figures_right, ends_right, multipliers_right, questions, role_of, is_permitted, is_end, has_ends, arc_in, is_weighted, net_of, read_of}
use Rattle.network.specs.Pair.{no_pair, flow_at, with_price, with_flow}
use Rattle.records.specs.Pair.{has_sizes, is_pair, pair_of as pair_read}
use Rattle.survivors.specs.Survivors.{arc_rank, rank_of, pack_node, pack_arc, packed_of}
use Rattle.records.specs.Arrays.{arrays_of, has_room, record_of}
use Rattle.fraction.specs.Words.{word_of}
use Rattle.records.specs.Network.{role_figure, figure_of, network_of}
use Rattle.figures.specs.Figures.{balance_of, reduced_cost, value_of, all_fit, is_within, test_questions}
use Rattle.slackness.specs.Slackness.{is_at, keeps_rule}
use Rattle.optimality.specs.Test.{pair_questions}
use Rattle.step.specs.Outcome.{Outcome}
use Rattle.step.specs.Outcome.{only_where, no_flow_where, fits}
use Rattle.step.specs.Dropped.{supply_less, cost_added, gained, dropped, lower_back}
use Rattle.step.specs.Back.{figure, restored, quote_at}
use Rattle.step.specs.Run.{rule_from, upward, next_from, run_by, run_of, Way, at, undo, way_back}
use Rattle.closed_arc.specs.ClosedArc.{closed}
use Rattle.bare_node.specs.BareNode.{bare, bare_node, bare_back}
use Rattle.single_arc.specs.SingleArc.{forced_out, single, single_arc, single_back}
use Rattle.costly_arc.specs.CostlyArc.{is_open_root, is_costlier, has_pair, costly_arc}
use Rattle.two_arcs.specs.TwoArcs.{same_sign, tighter, image_of, merged, kept, two, two_arcs, two_back}
use Rattle.crossing.specs.Crossing.{signed_after, crossed as crossed_arc, crossed_at, crossing, crossing_back}
use Rattle.step.specs.Junction.{has_sign_at, is_free, is_apart}
use Rattle.parallel_arcs.specs.ParallelArcs.{ratio_of, is_times, low_end, high_end, upper_sum, joined, alike, parallel_arc, parallel_back, parallel_back_by}
use Rattle.rules.specs.Table.{reduced}
use Rattle.survivors.specs.Survivors.{spread_of}
use Rattle.records.specs.declared.refusal.Refusal.{Refusal}
use Rattle.records.specs.Questions.{number_in}
use Rattle.reduction.specs.declared.End.{End}
use Rattle.reduction.specs.declared.End.TheVariants.{Reduced, NoFlow}
use Rattle.records.specs.Stack.{stack_record, same_words}
use Rattle.records.specs.Stack as Stack
use Rattle.reduction.specs.Reduce.{is_roomy, reduce_table, refusal_of, answer_of, output_of, stack_of}
use Rattle.restoration.specs.Restore.{is_roomy as is_roomy_back, offer_table, run_table, restore_table, refusal_of as refusal_back, out_of, values_of, brought_back}
use Rattle.records.specs.Pair.{pair_figure, pair_words}
use Rattle.text.specs.Text.{separator, digit, pieces, value_from, words_in, words_of}
use Rattle.text.specs.Line.{digits_in, digits, behind_spaces, spaced, line_of}
use Rattle.answers.specs.Answers.{record_lines, reduce_text}
use Rattle.answers.specs.Restoring.{split_of, restore_text}

pub record Row : Type 1 where
  pub Compared : Type 0
  pub computed : Compared
  pub documented : Compared

abbrev row : (A : Type 0) → A → A → Row
row A x y = record { Compared = A; computed = x; documented = y }

-- every row holds
abbrev pub All : List Row → Type 0
All [] = Unit
All (r ∷ rs) = (r.computed ≡ r.documented) × All rs

-- ---- A, E and F: reducing, with the least that may be lent

-- the answer, all words of the network output and all words of the stack
abbrev Reducing : Type 0
Reducing = Result End Refusal × (List ℤ × List ℤ)

abbrev reducing_by : Result ⊤ Refusal → List ℤ → Reducing
reducing_by q xs = (answer_of q (reduced (read_of xs)), (output_of q (reduced (read_of xs)) network_room, stack_of q (reduced (read_of xs)) stack_room))

abbrev reducing : List ℤ → Reducing
reducing xs = reducing_by (refusal_of xs network_room stack_room scratch_room max_arcs) xs

-- "words behind a record are zero"
abbrev filled : ℕ → List ℤ → List ℤ
filled k xs = xs ++ zeros (k - length xs)

abbrev outcome : Result End Refusal → List ℤ → List ℤ → Reducing
outcome r net stack = (r, (filled network_room net, filled stack_room stack))

abbrev neg : ℕ → ℤ
neg k = neg_ℤ (pos k)

-- A, its reducing half, with its constants 0 and 14 (02, 2026-01). The text given: sizes, numerators, denominators
abbrev given : List ℤ
given =
    (pos 3 ∷ pos 3 ∷ [])
    ++ (pos 0 ∷ pos 4 ∷ neg 5 ∷ pos 2 ∷ pos 1 ∷ pos 2 ∷ pos 1 ∷ pos 0 ∷ pos 3 ∷ pos 1 ∷ neg 1 ∷ pos 1 ∷ pos 2 ∷ pos 2 ∷ pos 0 ∷ pos 1 ∷ pos 1 ∷ neg 1 ∷ pos 3 ∷ pos 2 ∷ pos 7 ∷ pos 0 ∷ pos 1 ∷ pos 1 ∷ neg 1 ∷ [])
    ++ (pos 1 ∷ pos 1 ∷ pos 1 ∷ pos 1 ∷ pos 1 ∷ pos 1 ∷ pos 1 ∷ pos 1 ∷ pos 1 ∷ pos 1 ∷ pos 1 ∷ pos 1 ∷ pos 1 ∷ pos 1 ∷ pos 1 ∷ pos 0 ∷ pos 1 ∷ pos 1 ∷ pos 1 ∷ pos 1 ∷ pos 1 ∷ pos 1 ∷ pos 0 ∷ pos 1 ∷ pos 2 ∷ [])

-- what is printed: sizes, numerators, denominators; then step count, rules, places
abbrev left : List ℤ
left =
    (pos 2 ∷ pos 2 ∷ [])
    ++ (pos 14 ∷ pos 4 ∷ neg 4 ∷ pos 1 ∷ pos 2 ∷ pos 1 ∷ pos 0 ∷ pos 3 ∷ pos 1 ∷ neg 1 ∷ pos 1 ∷ pos 2 ∷ pos 2 ∷ pos 0 ∷ pos 1 ∷ pos 1 ∷ neg 1 ∷ [])
    ++ (pos 1 ∷ pos 1 ∷ pos 1 ∷ pos 1 ∷ pos 1 ∷ pos 1 ∷ pos 1 ∷ pos 1 ∷ pos 1 ∷ pos 1 ∷ pos 1 ∷ pos 1 ∷ pos 1 ∷ pos 1 ∷ pos 0 ∷ pos 1 ∷ pos 1 ∷ [])

abbrev stack : List ℤ
stack = pos 1 ∷ pos 3 ∷ pos 3 ∷ []

abbrev A : Row
A = row Reducing (reducing given) (outcome (Ok Reduced) left stack)

-- A and B: restoring, with the least that may be lent

-- the answer with the paper's number, all words of the pair and all words of the values
abbrev Return : Type 0
Return = (Result ⊤ Refusal × ℕ) × (List ℤ × List ℤ)

abbrev return_by : Result ⊤ Refusal → List ℤ → List ℤ → Return
return_by q xs ys =
    ((q, number_in q), (out_of q (read_of xs) (brought_back (reduced (read_of xs)) ys) pair_room, values_of q (read_of xs) (reduced (read_of xs)) ys (brought_back (reduced (read_of xs)) ys) value_room))

abbrev restoring : List ℤ → List ℤ → List ℤ → Return
restoring xs zs ys = return_by (refusal_back xs zs ys pair_room value_room scratch_room max_arcs) xs ys

-- A, its restoring half: prices 2 and 0, flows 3 and 1
abbrev offered : ℕ → ℕ → List ℤ
offered x y = (pos 2 ∷ pos 2 ∷ []) ++ (pos 2 ∷ pos 0 ∷ pos x ∷ pos y ∷ []) ++ (pos 1 ∷ pos 1 ∷ pos 1 ∷ pos 1 ∷ [])

abbrev back : List ℤ
back = (pos 3 ∷ pos 3 ∷ []) ++ (pos 2 ∷ pos 0 ∷ pos 7 ∷ pos 3 ∷ pos 1 ∷ pos 2 ∷ []) ++ (pos 1 ∷ pos 1 ∷ pos 1 ∷ pos 1 ∷ pos 1 ∷ pos 1 ∷ [])

-- both values are 19 (02, 2026-01)
abbrev A-back : Row
A-back = row Return (restoring given stack (offered 3 1)) ((Ok tt, 0), (filled pair_room back, pos 19 ∷ pos 1 ∷ pos 19 ∷ pos 1 ∷ []))

-- B. A's pair with flows 2 and 2, prices unchanged: refusal 12
abbrev B : Row
B = row Return (restoring given stack (offered 2 2)) ((Err Refusal.Prices, 12), (zeros pair_room, zeros value_room))

-- E. n = 0, m = 0: reduced, no steps; the constant is 0
abbrev nothing : List ℤ
nothing = pos 0 ∷ pos 0 ∷ pos 0 ∷ pos 1 ∷ []

abbrev E : Row
E = row Reducing (reducing nothing) (outcome (Ok Reduced) nothing (pos 0 ∷ []))

-- F. One node, supply 1, no arc: no flow, rule 2, place 1; supply 0: one step
abbrev one_node : ℤ → List ℤ
one_node r = pos 1 ∷ pos 0 ∷ pos 0 ∷ r ∷ pos 1 ∷ pos 1 ∷ []

abbrev F : Row
F =
    row (Reducing × Reducing) (reducing (one_node (pos 1)), reducing (one_node (pos 0)))
    (outcome (Ok (NoFlow 2 1)) [] (pos 0 ∷ []), outcome (Ok Reduced) nothing (pos 1 ∷ pos 2 ∷ pos 1 ∷ []))

-- ---- G, H and I: a rule at one place of a small network

abbrev whole : ℕ → Fraction
whole k = over (pos k) 1

abbrev arc : ℕ → ℕ → Fraction → Fraction → Fraction → Fraction → Fraction → Arc
arc from to c l u a b = record { from = from; to = to; cost = c; lower = l; upper = u; a = a; b = b }

abbrev with_arcs : ℕ → List Arc → Net → Net
with_arcs j [] net = net
with_arcs j (t ∷ ts) net = with_arcs (j + 1) ts (with_arc net j t)

-- n nodes of supply 0, and arcs, both numbered from 1, and the constant 0
abbrev network : ℕ → List Arc → Net
network n ts = with_arcs 1 ts (upto (λ i net. with_node net (i + 1) (whole 0)) n (empty_net n (length ts) (whole 0)))

-- G. Rule 4, l = 0, root arcs without upper bound, multipliers 1 throughout, c1 = 2, c2 = 3: cost 6 applies, 5 doesn't
abbrev costing : ℕ → Net
costing c =
    network 2
    (arc 1 2 (whole c) (whole 0) no_upper (whole 1) (whole 1)
    ∷ arc 1 1 (whole 2) (whole 0) no_upper (whole 1) (whole 0)
    ∷ arc 2 2 (whole 3) (whole 0) no_upper (whole 1) (whole 0)
    ∷ [])

-- whether a rule gives a step, and the arcs that it puts
abbrev puts : Outcome → Bool × List Arc
puts (Err h) = (false, [])
puts (Ok c) = (true, map (λ (u : ArcUpdate). u.arc) (updates_of c.edit))

abbrev is_step : Outcome → Bool
is_step o = (puts o).0

-- at arc 1
abbrev G : Row
G = row (Bool × Bool) (is_step (costly_arc (costing 6) 1), is_step (costly_arc (costing 5) 1)) (true, false)

-- H. Rule 5, r = 0, ej = -1/2, oj = 1, cj = 3, bounds 0 and none; ek = 1, ok = -1, ck = 1, bounds 0 and 4: multipliers 1 and -1/2, cost 7/2, bounds 0 and 8
abbrev two_arcs_at_one : Net
two_arcs_at_one = network 3 (arc 1 2 (whole 3) (whole 0) no_upper (over (neg 1) 2) (whole 1) ∷ arc 1 3 (whole 1) (whole 0) (whole 4) (whole 1) (over (neg 1) 1) ∷ [])

-- at node 1: the kept arc, and none for k
abbrev H : Row
H =
    row (Bool × List Arc) (puts (two_arcs two_arcs_at_one 1))
    (true, arc 2 3 (over (pos 7) 2) (whole 0) (whole 8) (whole 1) (over (neg 1) 2) ∷ no_arc ∷ no_arc ∷ no_arc ∷ [])

-- I. Rule 6, N: e -1/2, o 1, c 1; P: e 2, o -1, c 4: multipliers 2 and -1/2, cost 4
abbrev arc_n : ℕ → Arc
arc_n k = arc 1 k (whole 1) (whole 0) no_upper (over (neg 1) 2) (whole 1)

abbrev arc_p : ℕ → Arc
arc_p k = arc 1 k (whole 4) (whole 0) no_upper (whole 2) (over (neg 1) 1)

-- from N's other end to P's
abbrev crossed : ℕ → ℕ → Arc
crossed i k = arc i k (whole 4) (whole 0) no_upper (whole 2) (over (neg 1) 2)

-- at node 1: the four new arcs
abbrev I : Row
I =
    row (Bool × List Arc) (puts (crossing (network 5 (arc_n 2 ∷ arc_n 3 ∷ arc_p 4 ∷ arc_p 5 ∷ [])) 1))
    (true, crossed 2 4 ∷ crossed 2 5 ∷ crossed 3 4 ∷ crossed 3 5 ∷ [])

-- ---- J: an operation on its own

-- J. 2147483647 + 1 doesn't fit; 1/2 + 1/2 is 1 over 1
abbrev J : Row
J = row (Worked × Worked) (sum_of (over (pos 2147483647) 1) (over (pos 1) 1), sum_of (over (pos 1) 2) (over (pos 1) 2)) ((Err misfit), Ok (over (pos 1) 1))

-- ---- K: a worked example of ours, not the papers'

-- K. Rule 7 (02, 2026-02), g = -1/2: two arcs from node 1 to node 2, one of cost 2, bounds 0 and 3, multipliers 2 and -1, the other of cost -1, bounds -4 and 2,
-- multipliers -1 and 1/2, whose image goes from -1 to 2: bounds -1 and 5
abbrev roads : Net
roads = network 2 (arc 1 2 (whole 2) (whole 0) (whole 3) (whole 2) (over (neg 1) 1) ∷ arc 1 2 (over (neg 1) 1) (over (neg 4) 1) (whole 2) (over (neg 1) 1) (over (pos 1) 2) ∷ [])

-- the flows of arcs 1 and 2 that come back from the flow x of arc 1
abbrev flows_in : Way → List Fraction
flows_in (Err m) = []
flows_in (Ok pair) = flow_at pair 1 ∷ flow_at pair 2 ∷ []

abbrev back_by : Outcome → Fraction → List Fraction
back_by (Err h) x = []
back_by (Ok c) x = flows_in (undo (parallel_back c.old) (at (with_flow no_pair 1 x)))

-- back with flow 4: 4 - (-1) is above 3, so that arc 1 takes 3, and arc 2 (4 - 3) ÷ (-1/2); with flow 1: arc 1 takes 1 - (-1), and arc 2 its upper bound
abbrev K : Row
K =
    row ((Bool × List Arc) × (List Fraction × List Fraction)) (puts (parallel_arc roads 1), (back_by (parallel_arc roads 1) (whole 4), back_by (parallel_arc roads 1) (whole 1)))
    ((true, arc 1 2 (whole 2) (over (neg 1) 1) (whole 5) (whole 2) (over (neg 1) 1) ∷ no_arc ∷ no_arc ∷ no_arc ∷ []), (whole 3 ∷ over (neg 2) 1 ∷ [], whole 2 ∷ whole 2 ∷ []))

-- computed on its own: it and the rows of whole texts are too much at once
worked : K.computed ≡ K.documented
unfolding gcd gcd_by upto scan is_operand fitted reduce_of sum_of product_of difference_of quotient_of negation_of reciprocal_of is_less is_same is_finite added subtracted multiplied divided with_arc with_supply with_node with_flow with_price only_where fits figure restored ratio_of is_times low_end high_end upper_sum joined alike parallel_arc parallel_back parallel_back_by
worked = refl

-- ---- the table

-- A as the programs have it: the text given, and the lines that are printed, as bytes

abbrev text_given : List ℕ
text_given = 51 ∷ 32 ∷ 51 ∷ 10 ∷ 48 ∷ 32 ∷ 52 ∷ 32 ∷ 45 ∷ 53 ∷ 32 ∷ 50 ∷ 32 ∷ 49 ∷ 32 ∷ 50 ∷ 32 ∷ 49 ∷ 32 ∷ 48 ∷ 32 ∷ 51 ∷ 32 ∷ 49 ∷ 32 ∷ 45 ∷ 49 ∷ 32 ∷ 49 ∷ 32 ∷ 50 ∷ 32 ∷ 50 ∷ 32 ∷ 48 ∷ 32 ∷ 49 ∷ 32 ∷ 49 ∷ 32 ∷ 45 ∷ 49 ∷ 32 ∷ 51 ∷ 32 ∷ 50 ∷ 32 ∷ 55 ∷ 32 ∷ 48 ∷ 32 ∷ 49 ∷ 32 ∷ 49 ∷ 32 ∷ 45 ∷ 49 ∷ 10 ∷ 49 ∷ 32 ∷ 49 ∷ 32 ∷ 49 ∷ 32 ∷ 49 ∷ 32 ∷ 49 ∷ 32 ∷ 49 ∷ 32 ∷ 49 ∷ 32 ∷ 49 ∷ 32 ∷ 49 ∷ 32 ∷ 49 ∷ 32 ∷ 49 ∷ 32 ∷ 49 ∷ 32 ∷ 49 ∷ 32 ∷ 49 ∷ 32 ∷ 49 ∷ 32 ∷ 48 ∷ 32 ∷ 49 ∷ 32 ∷ 49 ∷ 32 ∷ 49 ∷ 32 ∷ 49 ∷ 32 ∷ 49 ∷ 32 ∷ 49 ∷ 32 ∷ 48 ∷ 32 ∷ 49 ∷ 32 ∷ 50 ∷ 10 ∷ []

abbrev lines_reduced : List ℕ
lines_reduced = 114 ∷ 101 ∷ 100 ∷ 117 ∷ 99 ∷ 101 ∷ 100 ∷ 10 ∷ 50 ∷ 32 ∷ 50 ∷ 10 ∷ 49 ∷ 52 ∷ 32 ∷ 52 ∷ 32 ∷ 45 ∷ 52 ∷ 32 ∷ 49 ∷ 32 ∷ 50 ∷ 32 ∷ 49 ∷ 32 ∷ 48 ∷ 32 ∷ 51 ∷ 32 ∷ 49 ∷ 32 ∷ 45 ∷ 49 ∷ 32 ∷ 49 ∷ 32 ∷ 50 ∷ 32 ∷ 50 ∷ 32 ∷ 48 ∷ 32 ∷ 49 ∷ 32 ∷ 49 ∷ 32 ∷ 45 ∷ 49 ∷ 10 ∷ 49 ∷ 32 ∷ 49 ∷ 32 ∷ 49 ∷ 32 ∷ 49 ∷ 32 ∷ 49 ∷ 32 ∷ 49 ∷ 32 ∷ 49 ∷ 32 ∷ 49 ∷ 32 ∷ 49 ∷ 32 ∷ 49 ∷ 32 ∷ 49 ∷ 32 ∷ 49 ∷ 32 ∷ 49 ∷ 32 ∷ 49 ∷ 32 ∷ 48 ∷ 32 ∷ 49 ∷ 32 ∷ 49 ∷ 10 ∷ 49 ∷ 10 ∷ 51 ∷ 10 ∷ 51 ∷ 10 ∷ []

abbrev A-text : Row
A-text = row (List ℕ) (reduce_text text_given) lines_reduced

abbrev text_offered : List ℕ
text_offered = 51 ∷ 32 ∷ 51 ∷ 10 ∷ 48 ∷ 32 ∷ 52 ∷ 32 ∷ 45 ∷ 53 ∷ 32 ∷ 50 ∷ 32 ∷ 49 ∷ 32 ∷ 50 ∷ 32 ∷ 49 ∷ 32 ∷ 48 ∷ 32 ∷ 51 ∷ 32 ∷ 49 ∷ 32 ∷ 45 ∷ 49 ∷ 32 ∷ 49 ∷ 32 ∷ 50 ∷ 32 ∷ 50 ∷ 32 ∷ 48 ∷ 32 ∷ 49 ∷ 32 ∷ 49 ∷ 32 ∷ 45 ∷ 49 ∷ 32 ∷ 51 ∷ 32 ∷ 50 ∷ 32 ∷ 55 ∷ 32 ∷ 48 ∷ 32 ∷ 49 ∷ 32 ∷ 49 ∷ 32 ∷ 45 ∷ 49 ∷ 10 ∷ 49 ∷ 32 ∷ 49 ∷ 32 ∷ 49 ∷ 32 ∷ 49 ∷ 32 ∷ 49 ∷ 32 ∷ 49 ∷ 32 ∷ 49 ∷ 32 ∷ 49 ∷ 32 ∷ 49 ∷ 32 ∷ 49 ∷ 32 ∷ 49 ∷ 32 ∷ 49 ∷ 32 ∷ 49 ∷ 32 ∷ 49 ∷ 32 ∷ 49 ∷ 32 ∷ 48 ∷ 32 ∷ 49 ∷ 32 ∷ 49 ∷ 32 ∷ 49 ∷ 32 ∷ 49 ∷ 32 ∷ 49 ∷ 32 ∷ 49 ∷ 32 ∷ 48 ∷ 32 ∷ 49 ∷ 32 ∷ 50 ∷ 10 ∷ 49 ∷ 10 ∷ 51 ∷ 10 ∷ 51 ∷ 10 ∷ 50 ∷ 32 ∷ 50 ∷ 10 ∷ 50 ∷ 32 ∷ 48 ∷ 32 ∷ 51 ∷ 32 ∷ 49 ∷ 10 ∷ 49 ∷ 32 ∷ 49 ∷ 32 ∷ 49 ∷ 32 ∷ 49 ∷ 10 ∷ []

abbrev lines_restored : List ℕ
lines_restored = 114 ∷ 101 ∷ 115 ∷ 116 ∷ 111 ∷ 114 ∷ 101 ∷ 100 ∷ 10 ∷ 51 ∷ 32 ∷ 51 ∷ 10 ∷ 50 ∷ 32 ∷ 48 ∷ 32 ∷ 55 ∷ 32 ∷ 51 ∷ 32 ∷ 49 ∷ 32 ∷ 50 ∷ 10 ∷ 49 ∷ 32 ∷ 49 ∷ 32 ∷ 49 ∷ 32 ∷ 49 ∷ 32 ∷ 49 ∷ 32 ∷ 49 ∷ 10 ∷ 49 ∷ 57 ∷ 32 ∷ 49 ∷ 10 ∷ 49 ∷ 57 ∷ 32 ∷ 49 ∷ 10 ∷ []

abbrev A-back-text : Row
A-back-text = row (List ℕ) (restore_text text_offered) lines_restored

abbrev pub table : List Row
table = A ∷ A-text ∷ A-back ∷ A-back-text ∷ B ∷ E ∷ F ∷ G ∷ H ∷ I ∷ J ∷ K ∷ []

pub marked : All table
unfolding gcd gcd_by build upto count all any scan is_operand is_proper fitted reduce_of sum_of product_of difference_of quotient_of negation_of reciprocal_of is_less is_same is_zero is_finite from_words den_word added subtracted multiplied divided negated with_arc with_supply with_node without applied is_touching degree_of touching_after is_root far_end side_of figure_at sizes_right figures_right ends_right multipliers_right questions role_of is_permitted is_end has_ends arc_in is_weighted net_of read_of rank_of pack_node pack_arc packed_of arrays_of word_of role_figure figure_of has_room record_of network_of with_price with_flow has_sizes is_pair pair_read balance_of reduced_cost value_of all_fit is_within is_at keeps_rule test_questions pair_questions only_where no_flow_where fits supply_less cost_added dropped lower_back figure restored quote_at upward next_from rule_from run_by run_of way_back closed bare bare_node bare_back forced_out single single_arc single_back is_open_root is_costlier has_pair costly_arc same_sign tighter image_of gained merged kept two two_arcs two_back has_sign_at signed_after is_free is_apart crossed_arc crossed_at crossing crossing_back ratio_of is_times joined alike parallel_arc parallel_back parallel_back_by arc_rank spread_of stack_record Stack.stack_of same_words is_roomy reduce_table is_roomy_back offer_table run_table restore_table brought_back pair_figure pair_words separator digit pieces value_from words_in words_of digits_in digits behind_spaces spaced line_of record_lines reduce_text split_of restore_text
marked = (refl, (refl, (refl, (refl, (refl, (refl, (refl, (refl, (refl, (refl, (refl, (worked, tt))))))))))))
