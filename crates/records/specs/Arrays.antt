-- Two parallel arrays behind the sizes, as every record of figures has them (01, "Records").
use Rattle.std.specs.Prelude.{Bool, cond, ◌&&◌, List, ◌∷◌, ◌++◌, ℕ, ◌+◌, ◌-◌, leb, ℤ}
use Rattle.loops.specs.Loops.{build, zeros}
use Rattle.fraction.specs.declared.Fraction.{Fraction}
use Rattle.fraction.specs.Exact.{from_words, den_word}
use Rattle.fraction.specs.Words.{word, word_of}
use Rattle.network.specs.Limits.{max_nodes, max_arcs}

-- figure k of t: two sizes come first, then t numerators, then t denominators
unfoldable pub figure_at : List ℤ → ℕ → ℕ → Fraction
figure_at xs t k = from_words (word xs (2 + k)) (word xs (2 + t + k))

-- the numerators of figures f 0 to f (t - 1), then as many denominators, and zeros: room words
abbrev pub numerators : (ℕ → Fraction) → ℕ → List ℤ
numerators f t = build t (λ k. (f k).num)

abbrev pub denominators : (ℕ → Fraction) → ℕ → List ℤ
denominators f t = build t (λ k. den_word (f k).den)

unfoldable pub arrays_of : (ℕ → Fraction) → ℕ → ℕ → List ℤ
arrays_of f t room = numerators f t ++ (denominators f t ++ zeros (room - t - t))

-- sizes within the limits, and at least so many words of room
unfoldable pub has_room : ℕ → ℕ → ℕ → ℕ → Bool
has_room least n m room = leb n max_nodes && (leb m max_arcs && leb least room)

-- "sizes come first, then two parallel arrays", of t figures, and zeros: room words; zeros alone where it has no room
unfoldable pub record_of : ℕ → ℕ → ℕ → (ℕ → Fraction) → ℕ → ℕ → List ℤ
record_of least n m f t room = cond (has_room least n m room) (word_of n ∷ word_of m ∷ arrays_of f t (room - 2)) (zeros room)
