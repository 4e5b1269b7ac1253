-- Instances, computed from the definitions.
use mathlib.Core.Path.{◌≡◌, refl}
use mathlib.Core.List.{[], ◌∷◌}
use mathlib.Core.Option.{some, none}
use lib.IntN.{pos, negsuc}
use Rattle.text.specs.Text.{separator, digit, pieces, value_from, words_in, words_of}
use Rattle.text.specs.Line.{digits_in, digits, behind_spaces, spaced, line_of}

-- "-007 2147483647\n"
two-words : words_of (45 ∷ 48 ∷ 48 ∷ 55 ∷ 32 ∷ 50 ∷ 49 ∷ 52 ∷ 55 ∷ 52 ∷ 56 ∷ 51 ∷ 54 ∷ 52 ∷ 55 ∷ 10 ∷ []) ≡ some (negsuc 6 ∷ pos 2147483647 ∷ [])
unfolding separator digit pieces value_from words_in words_of
two-words = refl

-- " \r\n"
no_words : words_of (32 ∷ 13 ∷ 10 ∷ []) ≡ some []
unfolding separator digit pieces value_from words_in words_of
no_words = refl

-- "-2147483648"
least : words_of (45 ∷ 50 ∷ 49 ∷ 52 ∷ 55 ∷ 52 ∷ 56 ∷ 51 ∷ 54 ∷ 52 ∷ 56 ∷ []) ≡ some (negsuc 2147483647 ∷ [])
unfolding separator digit pieces value_from words_in words_of
least = refl

-- "-0 -000 00000000007"
zeros : words_of (45 ∷ 48 ∷ 32 ∷ 45 ∷ 48 ∷ 48 ∷ 48 ∷ 32 ∷ 48 ∷ 48 ∷ 48 ∷ 48 ∷ 48 ∷ 48 ∷ 48 ∷ 48 ∷ 48 ∷ 48 ∷ 55 ∷ []) ≡ some (pos 0 ∷ pos 0 ∷ pos 7 ∷ [])
unfolding separator digit pieces value_from words_in words_of
zeros = refl

-- "2147483648"
above : words_of (50 ∷ 49 ∷ 52 ∷ 55 ∷ 52 ∷ 56 ∷ 51 ∷ 54 ∷ 52 ∷ 56 ∷ []) ≡ none
unfolding separator digit pieces value_from words_in words_of
above = refl

-- "-2147483649"
below : words_of (45 ∷ 50 ∷ 49 ∷ 52 ∷ 55 ∷ 52 ∷ 56 ∷ 51 ∷ 54 ∷ 52 ∷ 57 ∷ []) ≡ none
unfolding separator digit pieces value_from words_in words_of
below = refl

-- "1 - 2"
minus-alone : words_of (49 ∷ 32 ∷ 45 ∷ 32 ∷ 50 ∷ []) ≡ none
unfolding separator digit pieces value_from words_in words_of
minus-alone = refl

-- "--1"
two-minuses : words_of (45 ∷ 45 ∷ 49 ∷ []) ≡ none
unfolding separator digit pieces value_from words_in words_of
two-minuses = refl

-- "+1"
plus : words_of (43 ∷ 49 ∷ []) ≡ none
unfolding separator digit pieces value_from words_in words_of
plus = refl

-- "1-1"
minus-within : words_of (49 ∷ 45 ∷ 49 ∷ []) ≡ none
unfolding separator digit pieces value_from words_in words_of
minus-within = refl

-- "1\t2"
tab : words_of (49 ∷ 9 ∷ 50 ∷ []) ≡ none
unfolding separator digit pieces value_from words_in words_of
tab = refl

-- bytes 0, 11, 12 and 128
other-bytes : (words_of (0 ∷ []) ≡ none) × (words_of (11 ∷ []) ≡ none) × (words_of (12 ∷ []) ≡ none) × (words_of (128 ∷ []) ≡ none)
unfolding separator digit pieces value_from words_in words_of
other-bytes = (refl, refl, refl, refl)

-- -12, 0, 7
line : line_of (negsuc 11 ∷ pos 0 ∷ pos 7 ∷ []) ≡ 45 ∷ 49 ∷ 50 ∷ 32 ∷ 48 ∷ 32 ∷ 55 ∷ 10 ∷ []
unfolding digits_in digits behind_spaces spaced line_of
line = refl

empty-line : line_of [] ≡ 10 ∷ []
unfolding digits_in digits behind_spaces spaced line_of
empty-line = refl

ends : line_of (negsuc 2147483647 ∷ pos 2147483647 ∷ []) ≡ 45 ∷ 50 ∷ 49 ∷ 52 ∷ 55 ∷ 52 ∷ 56 ∷ 51 ∷ 54 ∷ 52 ∷ 56 ∷ 32 ∷ 50 ∷ 49 ∷ 52 ∷ 55 ∷ 52 ∷ 56 ∷ 51 ∷ 54 ∷ 52 ∷ 55 ∷ 10 ∷ []
unfolding digits_in digits behind_spaces spaced line_of
ends = refl
