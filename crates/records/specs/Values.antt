-- Values as words (01, "Records").
use Rattle.std.specs.Prelude.{List, ◌∷◌, ℕ, ◌+◌, ◌-◌, ℤ, set}
use Rattle.loops.specs.Loops.{zeros}
use Rattle.fraction.specs.declared.Fraction.{Fraction}
use Rattle.fraction.specs.Exact.{den_word}

-- a fraction's two words, and zeros: room words
abbrev pub two_words : Fraction → ℕ → List ℤ
two_words f room = f.num ∷ den_word f.den ∷ zeros (room - 2)

-- "the reduced value, then the original's", and zeros
abbrev pub four_words : Fraction → Fraction → ℕ → List ℤ
four_words x y room = x.num ∷ den_word x.den ∷ y.num ∷ den_word y.den ∷ zeros (room - 4)

-- a fraction's two words put at a place
unfoldable pub with_value : List ℤ → ℕ → Fraction → List ℤ
with_value zs at f = set (set zs at f.num) (at + 1) (den_word f.den)
