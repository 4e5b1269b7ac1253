-- The lines that the programs print (01, "Instances", A), as bytes.
use Rattle.std.specs.Prelude.{◌≡◌, List, [], ◌∷◌, ◌++◌, map, ℕ, ◌+◌, ◌*◌, ◌≤◌, ℤ, length, take, drop, replicate, Result, Ok, Err}
use Rattle.std.proofs.Math.Option.{Option, some, none}
use Rattle.fraction.specs.Words.{word, natural_of}
use Rattle.network.specs.Limits.{max_arcs}
use Rattle.records.specs.Limits.{network_room, stack_room, scratch_room}
use Rattle.records.specs.Network.{figures, read_of}
use Rattle.fraction.specs.Words.{word_of}
use Rattle.records.specs.declared.refusal.Refusal.{Refusal}
use Rattle.records.specs.Questions.{number_of}
use Rattle.reduction.specs.declared.End.{End}
use Rattle.reduction.specs.declared.End.TheVariants.{Reduced, NoFlow}
use Rattle.reduction.specs.Reduce.{refusal_of, answer_of, output_of, stack_of, values_of}
use Rattle.presolve.specs.LP as LP
use Rattle.network.specs.Program.{program_of}
use Rattle.rules.specs.Table.{reduced}
use Rattle.text.specs.Text.{words_of}
use Rattle.text.specs.Line.{line_of}
use Rattle.text.specs.Placed.{Put}

-- the kinds of answer: "reduced" and its line end, "no flow ", "refused "
abbrev pub reduced_bytes : List ℕ
reduced_bytes = 114 ∷ 101 ∷ 100 ∷ 117 ∷ 99 ∷ 101 ∷ 100 ∷ 10 ∷ []

abbrev pub no_flow_bytes : List ℕ
no_flow_bytes = 110 ∷ 111 ∷ 32 ∷ 102 ∷ 108 ∷ 111 ∷ 119 ∷ 32 ∷ []

abbrev pub refused_bytes : List ℕ
refused_bytes = 114 ∷ 101 ∷ 102 ∷ 117 ∷ 115 ∷ 101 ∷ 100 ∷ 32 ∷ []

-- the size that word k of a record says
abbrev pub size_at : List ℤ → ℕ → ℕ
size_at xs k = natural_of (word xs k)

-- a line of count words of a record, from a place on
abbrev pub part_line : List ℤ → ℕ → ℕ → List ℕ
part_line xs from count = line_of (take count (drop from xs))

-- two parallel arrays of k words behind so many sizes: the line of the sizes, of the first array and of the second
unfoldable pub record_lines : List ℤ → ℕ → ℕ → List ℕ
record_lines xs sizes k = part_line xs 0 sizes ++ (part_line xs sizes k ++ part_line xs (sizes + k) k)

-- sizes, numerators, denominators
abbrev pub network_lines : List ℤ → List ℕ
network_lines xs = record_lines xs 2 (figures (size_at xs 0) (size_at xs 1))

-- step count, rules, places
abbrev pub stack_lines : List ℤ → List ℕ
stack_lines xs = record_lines xs 1 (size_at xs 0)

-- a refusal, with its number
abbrev pub refused_lines : Refusal → List ℕ
refused_lines q = refused_bytes ++ line_of (word_of (number_of q) ∷ [])

-- an end, with the words of the reduced network and of the stack
abbrev pub end_lines : End → List ℤ → List ℤ → List ℕ
end_lines Reduced net stack = reduced_bytes ++ (network_lines net ++ stack_lines stack)
end_lines (NoFlow rule place) net stack = no_flow_bytes ++ (line_of (map word_of (values_of (NoFlow rule place))) ++ stack_lines stack)

-- an answer
abbrev pub reduced_lines : Result End Refusal → List ℤ → List ℤ → List ℕ
reduced_lines (Ok end) net stack = end_lines end net stack
reduced_lines (Err q) net stack = refused_lines q

-- ---- the reducing program

-- a network's words, reduced into slices of the lengths that question 1 asks for
abbrev pub reduced_text : List ℤ → List ℕ
reduced_text xs =
    reduced_lines (answer_of (refusal_of xs network_room stack_room scratch_room max_arcs) (reduced (read_of xs))) (output_of (refusal_of xs network_room stack_room scratch_room max_arcs) (reduced (read_of xs)) network_room)
    (stack_of (refusal_of xs network_room stack_room scratch_room max_arcs) (reduced (read_of xs)) stack_room)

-- question 14 first
abbrev pub on_words : (List ℤ → List ℕ) → Option (List ℤ) → List ℕ
on_words f none = refused_lines Refusal.Text
on_words f (some xs) = f xs

unfoldable pub reduce_text : List ℕ → List ℕ
reduce_text text = on_words reduced_text (words_of text)

-- how many bytes a program lends for its answer
abbrev pub answer_room : ℕ
answer_room = 65536

-- what is printed says this: no flow only where the network given has no feasible flow, in fractions of any width
abbrev pub NoFlowRight : List ℕ → Type 0
NoFlowRight text = (xs : List ℤ) (rule place : ℕ) → words_of text ≡ some xs → answer_of (refusal_of xs network_room stack_room scratch_room max_arcs) (reduced (read_of xs)) ≡ Ok (NoFlow rule place) → LP.NoFlow (program_of (read_of xs))

abbrev pub no_bytes : ℕ → List ℕ
no_bytes n = replicate n 0

-- ---- what a function that prints says: the bytes written from a place on, and how many they are at most

pub record Printed (d : List ℕ) (at : ℕ) (bytes : List ℕ) (most r : ℕ) (e : List ℕ) : Type 0 where
  pub put : Put d at bytes r e
  pub few : length bytes ≤ most

-- of the lines of records with so many words
abbrev pub most_of : ℕ → ℕ
most_of n = 3 * (n * 12 + 1)

-- of an answer, and so of every answer of the reducing program
abbrev pub most_reduced : ℕ → ℕ → ℕ
most_reduced net stack = 33 + (most_of net + most_of stack)
