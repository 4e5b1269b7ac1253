-- The parts of a restoring text lie one behind the other in it.
use mathlib.Core.Path.{◌≡◌, ap, ◌∙◌}
use mathlib.Core.Bool.{Bool, true, false, cond}
use mathlib.Core.List.{List, ◌++◌}
use Prim.Native.Nat.{ℕ, ◌+◌, ◌*◌}
use lib.Dec.{leb}
use lib.IntN.{ℤ}
use lib.ListN.{length, take, drop}
use Rattle.std.specs.Prelude.{Option, Some, None, Ok, Err}
use Rattle.std.proofs.lemmas.List.{take-append-drop}
use Rattle.fraction.proofs.Laws.{never}
use Rattle.fraction.specs.Words.{word}
use Rattle.records.specs.declared.refusal.Refusal.{Refusal}
use Rattle.records.specs.Network.{size_of}
use Rattle.answers.specs.Restoring.{Words, split_stack, split_at, split_by, split_of}

-- all words of the text
abbrev pub all_words : Words → List ℤ
all_words w = w.network ++ (w.stack ++ w.pair)

module _ (w : Words) where
  stack-inside : (net xs : List ℤ) (s : Option ℕ) → split_stack net xs s ≡ Ok w → all_words w ≡ net ++ xs
  stack-inside net xs None h = never cc
  stack-inside net xs (Some s) h = by (leb (1 + 2 * s) (length xs)) h
    where
      by : (b : Bool) → cond b (Ok (record { network = net; stack = take (1 + 2 * s) xs; pair = drop (1 + 2 * s) xs })) (Err Refusal.Stack) ≡ Ok w → all_words w ≡ net ++ xs
      by true h = let e : w ≡ record { network = net; stack = take (1 + 2 * s) xs; pair = drop (1 + 2 * s) xs } = cc in ap all_words e ∙ ap (λ ys. net ++ ys) (take-append-drop (1 + 2 * s) xs)
      by false h = never cc

  at-inside : (xs : List ℤ) (e : ℕ) → split_at xs e ≡ Ok w → all_words w ≡ xs
  at-inside xs e h = by (leb e (length xs)) h
    where
      by : (b : Bool) → cond b (split_stack (take e xs) (drop e xs) (size_of (word (drop e xs) 0) 128)) (Err Refusal.Sizes) ≡ Ok w → all_words w ≡ xs
      by true h = stack-inside (take e xs) (drop e xs) _ h ∙ take-append-drop e xs
      by false h = never cc

  pub split-inside : (xs : List ℤ) → split_of xs ≡ Ok w → all_words w ≡ xs
  unfolding split_of
  split-inside xs h = by (size_of (word xs 0) 32) (size_of (word xs 1) 96) h
    where
      by : (n m : Option ℕ) → split_by xs n m ≡ Ok w → all_words w ≡ xs
      by (Some n) (Some m) h = at-inside xs _ h
      by (Some n) None h = never cc
      by None m h = never cc
