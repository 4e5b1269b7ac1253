-- What restoring answers, the words that it writes, and what that says in exact numbers.
use Rattle.std.specs.Prelude.{◌≡◌, Bool, true, false, ◌&&◌, List, [], ◌∷◌, ◌++◌, ◌↔◌, ◌⊎◌, ℕ, leb, ℤ, Result, Ok, Err, ⊤}
use Rattle.loops.specs.Loops.{zeros}
use Rattle.presolve.specs.LP.{Solved, Optimal}
use Rattle.presolve.specs.LP as LP
use Rattle.fraction.specs.declared.Fraction.{Fraction}
use Rattle.fraction.specs.Exact.{from_words}
use Rattle.fraction.specs.Formula.{is_fit, figure_of}
use Rattle.fraction.specs.Value.{value}
use Rattle.network.specs.declared.Arc.{Arc}
use Rattle.network.specs.declared.Net.{Net}
use Rattle.network.specs.declared.pair.Pair.{Pair}
use Rattle.fraction.specs.Words.{word}
use Rattle.network.specs.Limits.{max_arcs}
use Rattle.records.specs.Limits.{pair_room, value_room, scratch_room}
use Rattle.records.specs.Network.{questions, read_of}
use Rattle.survivors.specs.Survivors.{packed_of}
use Rattle.network.specs.Pair.{no_pair, exact_pair}
use Rattle.records.specs.Cut.{cut_pair}
use Rattle.records.specs.Pair.{is_pair, pair_of, pair_words}
use Rattle.records.specs.Values.{four_words}
use Rattle.network.specs.ArcList.{no_arcs}
use Rattle.network.specs.Program.{program_of}
use Rattle.step.specs.declared.Next.{Next}
use Rattle.step.specs.declared.Next.TheVariants.{Stops, Refuted, Takes}
use Rattle.step.specs.Run.{Run, back_of, Way, at, way_back}
use Rattle.rules.specs.Table.{rules, reduced}
use Rattle.figures.specs.Figures.{value_of}
use Rattle.optimality.specs.Test.{pair_in, pair_questions, Proven}
use Rattle.records.specs.declared.refusal.Refusal.{Refusal}
use Rattle.records.specs.Questions.{Question, ◌asks◌, first_no, number_in}
use Rattle.records.specs.Stack.{stack_record, same_words}
use Rattle.survivors.specs.Survivors.{spread_of}

-- ---- what a call works on: a run, the reduced network, and the pair that words hold there, brought back over the steps

abbrev pub reduced_net : Run → Net
reduced_net run = packed_of run.net

unfoldable pub brought_back : Run → List ℤ → Way
brought_back run ys = way_back (back_of rules) run.steps (at (spread_of run.net (pair_in (reduced_net run) ys)))

-- the pair at the end of the way
abbrev pub pair_back : Way → Pair
pair_back (Err m) = no_pair
pair_back (Ok pair) = pair

-- "the reduced value, then the original's"
abbrev pub reduced_value : Run → List ℤ → Fraction
reduced_value run ys = figure_of (value_of (reduced_net run) (pair_in (reduced_net run) ys))

abbrev pub original_value : Net → Way → Fraction
original_value net way = figure_of (value_of net (pair_back way))

-- ---- the questions, in order, of the words of the network, the stack and the pair, and of the lengths of the lent pair, values, scratch and arc list

-- words for the pair, the values and scratch, and an arc list of at least `max_arcs` records
unfoldable pub is_roomy : ℕ → ℕ → ℕ → ℕ → Bool
is_roomy out values scratch arcs = leb pair_room out && (leb value_room values && (leb scratch_room scratch && leb max_arcs arcs))

abbrev pub is_reduced : Next → Bool
is_reduced Stops = true
is_reduced (Takes s) = true
is_reduced (Refuted rule place) = false

abbrev pub is_stack : Run → List ℤ → Bool
is_stack run zs = same_words zs (stack_record run.steps)

abbrev pub is_back : Net → Way → Bool
is_back net (Err m) = false
is_back net (Ok pair) = is_fit (value_of net pair)

-- "Did the reduction end in a reduced network? 6", "Is the stack offered the one that it gives, length included? 7", 8 to 12 on the reduced network
unfoldable pub offer_table : Bool → Bool → Net → List ℤ → List Question
offer_table ended stack net ys = Refusal.NoFlow asks ended ∷ Refusal.Stack asks stack ∷ pair_questions net ys

-- "Does every figure of the way back fit, the original's value included? 13"
abbrev pub back_table : Net → Way → List Question
back_table net way = Refusal.WayBack asks is_back net way ∷ []

unfoldable pub run_table : Net → Run → List ℤ → List ℤ → List Question
run_table net run zs ys = offer_table (is_reduced run.ends) (is_stack run zs) (reduced_net run) ys ++ back_table net (brought_back run ys)

-- "Are the lent outputs and scratch long enough? 1"; then 2 to 5, and 6 to 13
unfoldable pub restore_table : List ℤ → List ℤ → List ℤ → ℕ → ℕ → ℕ → ℕ → List Question
restore_table xs zs ys out values scratch arcs = Refusal.Room asks is_roomy out values scratch arcs ∷ (questions xs ++ run_table (read_of xs) (reduced (read_of xs)) zs ys)

abbrev pub refusal_of : List ℤ → List ℤ → List ℤ → ℕ → ℕ → ℕ → ℕ → Result ⊤ Refusal
refusal_of xs zs ys out values scratch arcs = first_no (restore_table xs zs ys out values scratch arcs)

-- those before question 8
unfoldable pub earlier_table : List ℤ → List ℤ → ℕ → ℕ → ℕ → ℕ → List Question
earlier_table xs zs out values scratch arcs =
    Refusal.Room asks is_roomy out values scratch arcs ∷ (questions xs ++ (Refusal.NoFlow asks is_reduced (reduced (read_of xs)).ends ∷ Refusal.Stack asks is_stack (reduced (read_of xs)) zs ∷ []))

-- ---- the words written, by the first question that is answered by no

abbrev pub out_of : Result ⊤ Refusal → Net → Way → ℕ → List ℤ
out_of (Ok x) net way o = pair_words net.n net.m (pair_back way) o
out_of (Err q) net way o = zeros o

abbrev pub values_of : Result ⊤ Refusal → Net → Run → List ℤ → Way → ℕ → List ℤ
values_of (Ok x) net run ys way v = four_words (reduced_value run ys) (original_value net way) v
values_of (Err q) net run ys way v = zeros v

-- what is given back and written where the questions come to q
pub record Written (q : Result ⊤ Refusal) (net : Net) (run : Run) (ys : List ℤ) (r : Result ⊤ Refusal) (out values : List ℤ) (o v : ℕ) : Type 0 where
  pub result : r ≡ q
  pub out_is : out ≡ out_of q net (brought_back run ys) o
  pub values_is : values ≡ values_of q net run ys (brought_back run ys) v

-- ---- demand 3, in exact numbers, on the network given

-- the pair that a record of these sizes holds, as it was written
abbrev pub written_pair : Net → List ℤ → Pair
written_pair net out = pair_of out net.n net.m

pub record Optimum (net : Net) (run : Run) (ys out values : List ℤ) : Type 0 where
  -- the pair passed the test on the reduced network
  pub tested : first_no (pair_questions (reduced_net run) ys) ≡ Ok tt
  pub proven : Proven (reduced_net run) ys
  -- the words written are a pair in form of the network's sizes, and the pair solves it: balanced, within bounds, keeping the price rule
  pub in_form : is_pair (cut_pair net out) net.n net.m ≡ true
  pub solved : Solved (program_of net) (exact_pair (written_pair net out))
  -- its flow is feasible, every feasible flow costs at least as much, and the value written is its cost, with the network's constant
  pub optimal : Optimal (program_of net) (exact_pair (written_pair net out)).flow
  pub cost : value (from_words (word values 2) (word values 3)) ≡ LP.value (program_of net) (exact_pair (written_pair net out)).flow
  -- "The reduced and the restored value are then equal for every pair that restoring brings back" (02, 2026-01): they are written in the same words
  pub same_values : (word values 0 ≡ word values 2) × (word values 1 ≡ word values 3)

-- ---- a call: the words of the network, the stack and the pair, the lengths of the lent pair, values, scratch and arc list; the result, all words written, and the records

pub record Restoration (xs zs ys : List ℤ) (o v w k : ℕ) (r : Result ⊤ Refusal) (out values scratch : List ℤ) (arcs : List Arc) : Type 0 where
  -- the first refusal that applies
  pub number : number_in r ≡ number_in (first_no (restore_table xs zs ys o v w k))
  pub result : r ≡ first_no (restore_table xs zs ys o v w k)
  pub out_is : out ≡ out_of (first_no (restore_table xs zs ys o v w k)) (read_of xs) (brought_back (reduced (read_of xs)) ys) o
  pub values_is : values ≡ values_of (first_no (restore_table xs zs ys o v w k)) (read_of xs) (reduced (read_of xs)) ys (brought_back (reduced (read_of xs)) ys) v
  pub scratch_is : scratch ≡ zeros w
  pub arcs_is : arcs ≡ no_arcs k
  -- where none of 1 to 7 applies, the answer is restored or 13 exactly where the pair is proven on the reduced network
  pub exactly : first_no (earlier_table xs zs o v w k) ≡ Ok tt → ((number_in r ≡ 0) ⊎ (number_in r ≡ 13)) ↔ Proven (reduced_net (reduced (read_of xs))) ys
  -- 6 only where the network given has no feasible flow, in fractions of any width
  pub flowless : number_in r ≡ 6 → LP.NoFlow (program_of (read_of xs))
  pub optimum : r ≡ Ok tt → Optimum (read_of xs) (reduced (read_of xs)) ys out values
