-- The restoring program: its text split by the sizes, and the lines that it prints (01, "Questions before work", "Instances", A).
use Rattle.std.specs.Prelude.{◌≡◌, cond, List, [], ◌∷◌, ◌++◌, ℕ, ◌+◌, ◌*◌, leb, ℤ, length, take, drop, Option, Some, None, Result, Ok, Err, ⊤}
use Rattle.std.proofs.Math.Option.{some}
use Rattle.records.specs.declared.refusal.Refusal.{Refusal}
use Rattle.fraction.specs.Words.{word}
use Rattle.network.specs.Limits.{max_nodes, max_arcs}
use Rattle.records.specs.Limits.{pair_room, value_room, scratch_room}
use Rattle.records.specs.Network.{size_of, figures, read_of}
use Rattle.network.specs.Limits.{max_steps}
use Rattle.rules.specs.Table.{reduced}
use Rattle.restoration.specs.Restore.{refusal_of, out_of, values_of, brought_back, Optimum}
use Rattle.text.specs.Text.{words_of}
use Rattle.answers.specs.declared.restoring.Parts.{Parts}
use Rattle.answers.specs.Answers.{refused_lines, size_at, part_line, record_lines, most_of, on_words}

-- ---- "Restoring splits its text by the sizes": the words of the network, of the stack and of the pair, or a refusal

pub record Words : Type 0 where
  pub network : List ℤ
  pub stack : List ℤ
  pub pair : List ℤ

abbrev pub words_in : Parts → Words
words_in p = record { network = p.network.now; stack = p.stack.now; pair = p.pair.now }

-- "a stack cut short or with s outside 0 to 128 is 7", of the words behind the network's; "the rest is the pair"
abbrev pub split_stack : List ℤ → List ℤ → Option ℕ → Result Words Refusal
split_stack net xs None = Err Refusal.Stack
split_stack net xs (Some s) = cond (leb (1 + 2 * s) (length xs)) (Ok (record { network = net; stack = take (1 + 2 * s) xs; pair = drop (1 + 2 * s) xs })) (Err Refusal.Stack)

abbrev pub split_behind : List ℤ → List ℤ → Result Words Refusal
split_behind net xs = split_stack net xs (size_of (word xs 0) max_steps)

-- "a network cut short (fewer than two words included) or with sizes outside the limits is 2"
abbrev pub split_at : List ℤ → ℕ → Result Words Refusal
split_at xs e = cond (leb e (length xs)) (split_behind (take e xs) (drop e xs)) (Err Refusal.Sizes)

abbrev pub split_by : List ℤ → Option ℕ → Option ℕ → Result Words Refusal
split_by xs (Some n) (Some m) = split_at xs (2 + 2 * figures n m)
split_by xs (Some n) None = Err Refusal.Sizes
split_by xs None s = Err Refusal.Sizes

unfoldable pub split_of : List ℤ → Result Words Refusal
split_of xs = split_by xs (size_of (word xs 0) max_nodes) (size_of (word xs 1) max_arcs)

-- ---- the lines: kind, sizes, numerators, denominators, reduced value, value

-- "restored" and its line end
abbrev pub restored_bytes : List ℕ
restored_bytes = 114 ∷ 101 ∷ 115 ∷ 116 ∷ 111 ∷ 114 ∷ 101 ∷ 100 ∷ 10 ∷ []

abbrev pub pair_lines : List ℤ → List ℕ
pair_lines xs = record_lines xs 2 (size_at xs 0 + size_at xs 1)

abbrev pub value_lines : List ℤ → List ℕ
value_lines xs = part_line xs 0 2 ++ part_line xs 2 2

abbrev pub restored_lines : Result ⊤ Refusal → List ℤ → List ℤ → List ℕ
restored_lines (Ok x) pair values = restored_bytes ++ (pair_lines pair ++ value_lines values)
restored_lines (Err q) pair values = refused_lines q

-- ---- the program

-- restored into slices of the lengths that question 1 asks for
abbrev pub restored_text : List ℤ → List ℤ → List ℤ → List ℕ
restored_text xs zs ys =
    restored_lines (refusal_of xs zs ys pair_room value_room scratch_room max_arcs) (out_of (refusal_of xs zs ys pair_room value_room scratch_room max_arcs) (read_of xs) (brought_back (reduced (read_of xs)) ys) pair_room)
    (values_of (refusal_of xs zs ys pair_room value_room scratch_room max_arcs) (read_of xs) (reduced (read_of xs)) ys (brought_back (reduced (read_of xs)) ys) value_room)

abbrev pub on_split : Result Words Refusal → List ℕ
on_split (Ok w) = restored_text w.network w.stack w.pair
on_split (Err q) = refused_lines q

-- question 14 first, then the split
unfoldable pub restore_text : List ℕ → List ℕ
restore_text text = on_words (λ ws. on_split (split_of ws)) (words_of text)

-- what is printed says this: restored only with an optimum of the network given, of the cost printed
abbrev pub OptimumRight : List ℤ → List ℤ → List ℤ → Type 0
OptimumRight xs zs ys =
    refusal_of xs zs ys pair_room value_room scratch_room max_arcs ≡ Ok tt → Optimum (read_of xs) (reduced (read_of xs)) ys (out_of (refusal_of xs zs ys pair_room value_room scratch_room max_arcs) (read_of xs) (brought_back (reduced (read_of xs)) ys) pair_room)
    (values_of (refusal_of xs zs ys pair_room value_room scratch_room max_arcs) (read_of xs) (reduced (read_of xs)) ys (brought_back (reduced (read_of xs)) ys) value_room)

abbrev pub RestoredRight : List ℕ → Type 0
RestoredRight text = (ws : List ℤ) (w : Words) → words_of text ≡ some ws → split_of ws ≡ Ok w → OptimumRight w.network w.stack w.pair

-- how many bytes an answer has at most
abbrev pub most_restored : ℕ → ℕ → ℕ
most_restored pair values = 33 + (most_of pair + most_of values)
