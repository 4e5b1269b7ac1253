-- What the optimality test answers, the words that it writes, and what that says in exact numbers (01, "The optimality test").
use Rattle.std.specs.Prelude.{◌≡◌, true, ◌↔◌, List, ◌∷◌, ◌++◌, ℕ, leb, ℤ, Result, Ok, Err, ⊤}
use Rattle.loops.specs.Loops.{zeros}
use Rattle.presolve.specs.LP.{Solved, Optimal}
use Rattle.presolve.specs.LP as LP
use Rattle.fraction.specs.Exact.{from_words}
use Rattle.fraction.specs.Formula.{figure_of}
use Rattle.fraction.specs.Value.{value}
use Rattle.network.specs.declared.Net.{Net}
use Rattle.network.specs.declared.pair.Pair.{Pair}
use Rattle.fraction.specs.Words.{word}
use Rattle.records.specs.Questions.{Question, ◌asks◌, first_no, number_in}
use Rattle.records.specs.declared.refusal.Refusal.{Refusal}
use Rattle.records.specs.Network.{questions, read_of}
use Rattle.records.specs.Pair.{is_pair, pair_of}
use Rattle.network.specs.Pair.{exact_pair}
use Rattle.network.specs.Program.{program_of}
use Rattle.records.specs.Values.{two_words}
use Rattle.figures.specs.Figures.{value_of, all_fit, test_questions}
use Rattle.optimality.specs.declared.Examined.{Examined}

-- ---- the questions, in their order

-- the pair that words hold, for a network's sizes
abbrev pub pair_in : Net → List ℤ → Pair
pair_in net ys = pair_of ys net.n net.m

-- of a pair's words, on a network: "Has the pair the reduced sizes, length and only fractions? 8", then 9 to 12
unfoldable pub pair_questions : Net → List ℤ → List Question
pair_questions net ys = Refusal.Pair asks is_pair ys net.n net.m ∷ test_questions net (pair_in net ys)

-- of a call, by the words of the network and the pair and the room for values ("2 for the test on its own"): 1, 2 to 5, then 8 to 12 "of the network given"
unfoldable pub test_table : List ℤ → List ℤ → ℕ → List Question
test_table xs ys room = Refusal.Room asks leb 2 room ∷ (questions xs ++ pair_questions (read_of xs) ys)

-- ---- a pair's words, on a network: the pair, and its value

abbrev pub examined : Net → List ℤ → Examined
examined net ys = record { pair = pair_in net ys; value = figure_of (value_of net (pair_in net ys)) }

-- ---- the value as two words, where no question is answered by no

abbrev pub values_by : Result ⊤ Refusal → Net → Pair → ℕ → List ℤ
values_by (Ok x) net pair room = two_words (figure_of (value_of net pair)) room
values_by (Err q) net pair room = zeros room

-- ---- in exact numbers

-- the words hold a pair in form, every tested figure fits, and the pair is balanced, within bounds and keeps the price rule, exactly
pub record Proven (net : Net) (ys : List ℤ) : Type 0 where
  pub in_form : is_pair ys net.n net.m ≡ true
  pub fits : all_fit net (pair_in net ys) ≡ true
  pub solved : Solved (program_of net) (exact_pair (pair_in net ys))

-- its flow is feasible, and no feasible flow has a smaller value; the two words are its value, the constant in it
pub record Least (net : Net) (ys values : List ℤ) : Type 0 where
  pub optimal : Optimal (program_of net) (exact_pair (pair_in net ys)).flow
  pub cost : value (from_words (word values 0) (word values 1)) ≡ LP.value (program_of net) (exact_pair (pair_in net ys)).flow

-- ---- a call: the words of the network and the pair, the room for values; the result and the words written

pub record Tested (xs ys : List ℤ) (room : ℕ) (r : Result ⊤ Refusal) (values : List ℤ) : Type 0 where
  pub result : r ≡ first_no (test_table xs ys room)
  -- the paper's number
  pub number : number_in r ≡ number_in (first_no (test_table xs ys room))
  pub values_are : values ≡ values_by (first_no (test_table xs ys room)) (read_of xs) (pair_in (read_of xs) ys) room
  -- where none of 1 to 5 applies, exactly the proven pairs pass
  pub exactly : first_no (Refusal.Room asks leb 2 room ∷ questions xs) ≡ Ok tt → (r ≡ Ok tt) ↔ Proven (read_of xs) ys
  pub least : r ≡ Ok tt → Least (read_of xs) ys values
