-- The words of figures put over those of a slice: numerators over one, denominators over another.
use Rattle.std.specs.Prelude.{List, ℕ, ◌+◌, ℤ, length, get_or, set}
use Rattle.loops.specs.Loops.{upto}
use Rattle.fraction.specs.declared.Fraction.{Fraction}
use Rattle.fraction.specs.Exact.{no_figure, den_word}
use Rattle.fraction.specs.Words.{word_of}
use Rattle.network.specs.declared.Arc.{Arc}
use Rattle.network.specs.Network.{no_arc}
use Rattle.records.specs.Network.{arc_figure, role_figure}

-- the sizes over the first two words
abbrev pub sized : ℕ → ℕ → List ℤ → List ℤ
sized n m s = set (set s 0 (word_of n)) 1 (word_of m)

-- the two words of a figure
abbrev pub num_of : Fraction → ℤ
num_of f = f.num

abbrev pub den_of : Fraction → ℤ
den_of f = den_word f.den

-- those of figure k of an array
abbrev pub nums_in : List Fraction → ℕ → ℤ
nums_in fs k = num_of (get_or fs k no_figure)

abbrev pub dens_in : List Fraction → ℕ → ℤ
dens_in fs k = den_of (get_or fs k no_figure)

-- f 0 to f (t - 1), from place k on
unfoldable pub put_from : (ℕ → ℤ) → ℕ → ℕ → List ℤ → List ℤ
put_from f k t = upto (λ r s. set s (k + r) (f r)) t

-- one word of each of the seven figures of arcs, behind the constant and n supplies
abbrev pub arc_put : (Fraction → ℤ) → List Arc → ℕ → ℕ → List ℤ → List ℤ
arc_put word arcs n j = put_from (λ r. word (role_figure (get_or arcs j no_arc) r)) (arc_figure n j) 7

unfoldable pub arcs_put : (Fraction → ℤ) → List Arc → ℕ → List ℤ → List ℤ
arcs_put word arcs n = upto (arc_put word arcs n) (length arcs)
