-- The stack's record (01, "Records").
use Rattle.std.specs.Prelude.{Bool, true, false, ◌&&◌, List, [], ◌∷◌, ◌++◌, map, ℕ, ◌-◌, ℤ, length}
use Rattle.integer.specs.Whole.{eq_z}
use Rattle.loops.specs.Loops.{zeros}
use Rattle.fraction.specs.Words.{word_of}
use Rattle.step.specs.declared.Step.{Step}

-- "s, the number of steps; then s rule numbers; then s places (a node or arc number of the original)"
unfoldable pub stack_record : List Step → List ℤ
stack_record steps = word_of (length steps) ∷ map (λ (s : Step). word_of s.rule) steps ++ map (λ (s : Step). word_of s.place) steps

-- "words behind a record are zero": so many words in all
unfoldable pub stack_of : List Step → ℕ → List ℤ
stack_of steps room = stack_record steps ++ zeros (room - length (stack_record steps))

-- the same words, as many
unfoldable pub same_words : List ℤ → List ℤ → Bool
same_words [] [] = true
same_words [] (y ∷ ys) = false
same_words (x ∷ xs) [] = false
same_words (x ∷ xs) (y ∷ ys) = eq_z x y && same_words xs ys
