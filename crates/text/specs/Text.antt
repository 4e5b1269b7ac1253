-- The words of a text: decimal words between spaces and line ends, each a minus sign or none, then digits, with a value within signed 32 bits.
use Rattle.std.specs.Prelude.{List, [], ◌∷◌, ◌++◌, Bool, true, false, cond, ◌&&◌, ◌||◌, ◌≡◌, ℕ, ◌+◌, ◌-◌, ◌*◌, length, replicate, leb, eqb, ℤ, pos, neg_ℤ, Option as Optional, Some, None}
use Rattle.std.proofs.Math.Option.{Option, some, none}

-- a space or a line end
unfoldable pub separator : ℕ → Bool
separator b = eqb b 32 || (eqb b 10 || eqb b 13)

-- one of 0 to 9
unfoldable pub digit : ℕ → Bool
digit b = leb 48 b && leb b 57

-- a byte before the first of some pieces
abbrev pub onto : ℕ → List (List ℕ) → List (List ℕ)
onto b [] = (b ∷ []) ∷ []
onto b (p ∷ ps) = (b ∷ p) ∷ ps

-- what stands between the separators of a text; where two follow each other, nothing
unfoldable pub pieces : List ℕ → List (List ℕ)
pieces [] = [] ∷ []
pieces (b ∷ t) = cond (separator b) ([] ∷ pieces t) (onto b (pieces t))

-- the value of digits that follow a value v
unfoldable pub value_from : ℕ → List ℕ → Option ℕ
value_from v [] = some v
value_from v (b ∷ ds) = cond (digit b) (value_from (v * 10 + (b - 48)) ds) none

-- the value of digits, one at least
abbrev pub value_of : List ℕ → Option ℕ
value_of [] = none
value_of (b ∷ ds) = value_from 0 (b ∷ ds)

-- the largest value within signed 32 bits, behind a minus sign and without one
abbrev pub limit : Bool → ℕ
limit true = 2147483648
limit false = 2147483647

-- a value behind a minus sign, or without one
abbrev pub with_sign : Bool → ℕ → ℤ
with_sign true v = neg_ℤ (pos v)
with_sign false v = pos v

-- a word's value, where it is within signed 32 bits
abbrev pub signed : Bool → Option ℕ → Option ℤ
signed minus none = none
signed minus (some v) = cond (leb v (limit minus)) (some (with_sign minus v)) none

-- a word: a minus sign or none, then digits
abbrev pub word_of : List ℕ → Option ℤ
word_of [] = none
word_of (b ∷ ds) = cond (eqb b 45) (signed true (value_of ds)) (signed false (value_of (b ∷ ds)))

-- a word and the words behind it, where neither is refused
abbrev pub both : Option ℤ → Option (List ℤ) → Option (List ℤ)
both none ws = none
both (some z) none = none
both (some z) (some ws) = some (z ∷ ws)

-- the words of pieces; an empty piece is no word
unfoldable pub words_in : List (List ℕ) → Option (List ℤ)
words_in [] = some []
words_in ([] ∷ ps) = words_in ps
words_in ((b ∷ p) ∷ ps) = both (word_of (b ∷ p)) (words_in ps)

-- the most bytes of a text
abbrev pub max_bytes : ℕ
max_bytes = 24576

-- the words of a text; none where it is refused
unfoldable pub words_of : List ℕ → Option (List ℤ)
words_of text = cond (leb (length text) max_bytes) (words_in (pieces text)) none

-- words for which there is room
abbrev pub fitted : ℕ → Option (List ℤ) → Option (List ℤ)
fitted room none = none
fitted room (some ws) = cond (leb (length ws) room) (some ws) none

-- the answer of a reading, how many words there are, and the words that it leaves in a slice of so many: zeros behind them
abbrev pub answer : Option (List ℤ) → Optional ℕ
answer none = None
answer (some ws) = Some (length ws)

abbrev pub padded : ℕ → Option (List ℤ) → List ℤ
padded room none = replicate room (pos 0)
padded room (some ws) = ws ++ replicate (room - length ws) (pos 0)

-- what reading a text into a slice of room words gives: the answer r, and the slice's words
pub record Read (text : List ℕ) (room : ℕ) (r : Optional ℕ) (words : List ℤ) : Type 0 where
  pub result : r ≡ answer (fitted room (words_of text))
  pub words_are : words ≡ padded room (fitted room (words_of text))
