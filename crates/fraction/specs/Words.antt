-- Words as numbers and figures (01, "Records": records are slices of signed 32-bit words).
use Rattle.std.specs.Prelude.{cond, List, ℕ, leb, ℤ, pos, negsuc, get_or}
use Rattle.fraction.specs.declared.Fraction.{Fraction}
use Rattle.fraction.specs.Exact.{over, most}

-- the word at a place; 0 outside
abbrev pub word : List ℤ → ℕ → ℤ
word xs k = get_or xs k (pos 0)

-- a number as a word; 0 where it is beyond range
unfoldable pub word_of : ℕ → ℤ
word_of k = cond (leb k most) (pos k) (pos 0)

-- a whole number is itself over 1
abbrev pub whole_of : ℕ → Fraction
whole_of k = over (word_of k) 1

-- a word as a number; 0 below zero
abbrev pub natural_of : ℤ → ℕ
natural_of (pos i) = i
natural_of (negsuc i) = 0
