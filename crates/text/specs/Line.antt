-- The bytes of numbers and of lines.
use Rattle.std.specs.Prelude.{List, [], ◌∷◌, ◌++◌, Bool, true, false, ℕ, zero, suc, ◌+◌, ◌/◌, ◌%◌, ltb, ℤ, pos, negsuc}

-- the digits of n, by whether it has one alone; `front` gives the digits of a number that are before the last
abbrev pub digits_by : Bool → ℕ → (ℕ → List ℕ) → List ℕ
digits_by true n front = (48 + n) ∷ []
digits_by false n front = front (n / 10) ++ ((48 + n % 10) ∷ [])

-- the digits of n, without leading zeros, where it has at most so many
unfoldable pub digits_in : ℕ → ℕ → List ℕ
digits_in zero n = []
digits_in (suc most) n = digits_by (ltb n 10) n (digits_in most)

-- the digits of n: never more than n + 1
unfoldable pub digits : ℕ → List ℕ
digits n = digits_in (suc n) n

-- the bytes of a number: a minus sign in front of a negative one
abbrev pub decimal : ℤ → List ℕ
decimal (pos n) = digits n
decimal (negsuc n) = 45 ∷ digits (suc n)

-- words with a space before each
unfoldable pub behind_spaces : List ℤ → List ℕ
behind_spaces [] = []
behind_spaces (z ∷ zs) = 32 ∷ (decimal z ++ behind_spaces zs)

-- words one space apart
unfoldable pub spaced : List ℤ → List ℕ
spaced [] = []
spaced (z ∷ zs) = decimal z ++ behind_spaces zs

-- a line of words
unfoldable pub line_of : List ℤ → List ℕ
line_of zs = spaced zs ++ (10 ∷ [])
