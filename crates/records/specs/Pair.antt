-- A pair's record (01, "Records"): question 8, the pair that it holds, and the record of a pair.
use Rattle.std.specs.Prelude.{Bool, cond, ◌&&◌, List, ℕ, ◌+◌, ◌-◌, ◌*◌, eqb, leb, ℤ, pos, length}
use Rattle.integer.specs.Whole.{eq_z}
use Rattle.loops.specs.Loops.{all, upto}
use Rattle.fraction.specs.declared.Fraction.{Fraction}
use Rattle.fraction.specs.Exact.{is_proper}
use Rattle.fraction.specs.Words.{word}
use Rattle.network.specs.declared.pair.Pair.{Pair}
use Rattle.network.specs.Limits.{max_nodes, max_arcs}
use Rattle.network.specs.Pair.{no_pair, price_at, flow_at, with_price, with_flow}
use Rattle.records.specs.Limits.{pair_room}
use Rattle.records.specs.Arrays.{figure_at, record_of}

-- ---- 8. "Has the pair the reduced sizes, length and only fractions?"

unfoldable pub has_sizes : List ℤ → ℕ → ℕ → Bool
has_sizes ys n m = eqb (length ys) (2 + 2 * (n + m)) && (eq_z (word ys 0) (pos n) && eq_z (word ys 1) (pos m))

abbrev pub is_fraction : List ℤ → ℕ → ℕ → Bool
is_fraction ys t k = is_proper (figure_at ys t k)

unfoldable pub is_pair : List ℤ → ℕ → ℕ → Bool
is_pair ys n m = has_sizes ys n m && all (is_fraction ys (n + m)) (n + m)

-- ---- the pair that a record holds: "node prices p, then flows"

abbrev pub price_turn : List ℤ → ℕ → ℕ → Pair → Pair
price_turn ys t i pair = with_price pair (i + 1) (figure_at ys t i)

abbrev pub flow_turn : List ℤ → ℕ → ℕ → ℕ → Pair → Pair
flow_turn ys n t j pair = with_flow pair (j + 1) (figure_at ys t (n + j))

-- none where the sizes are beyond the limits
unfoldable pub pair_of : List ℤ → ℕ → ℕ → Pair
pair_of ys n m = cond (leb n max_nodes && leb m max_arcs) (upto (flow_turn ys n (n + m)) m (upto (price_turn ys (n + m)) n no_pair)) no_pair

-- ---- the record of a pair

-- figure k of a pair's record: "node prices p, then flows"
unfoldable pub pair_figure : ℕ → Pair → ℕ → Fraction
pair_figure n pair k = cond (leb (k + 1) n) (price_at pair (k + 1)) (flow_at pair (k - n + 1))

-- "n, m; then n + m numerators; then denominators"
unfoldable pub pair_words : ℕ → ℕ → Pair → ℕ → List ℤ
pair_words n m pair room = record_of pair_room n m (pair_figure n pair) (n + m) room
