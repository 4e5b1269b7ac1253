-- A network's record (01, "Records"; 02, 2026-01): the questions 2 to 5 in their order ("Questions before work"), the network that it holds, and the record of a network.
use Rattle.std.specs.Prelude.{Bool, false, cond, Option, Some, None, ◌&&◌, ◌||◌, not, List, [], ◌∷◌, ℕ, ◌+◌, ◌-◌, ◌*◌, ◌/◌, ◌%◌, eqb, leb, ℤ, pos, negsuc, length}
use Rattle.loops.specs.Loops.{all, upto}
use Rattle.fraction.specs.declared.Fraction.{Fraction}
use Rattle.fraction.specs.Exact.{zero_fraction, no_lower, no_upper, is_proper, is_same, is_zero}
use Rattle.fraction.specs.Words.{word, whole_of, natural_of}
use Rattle.network.specs.declared.Arc.{Arc}
use Rattle.network.specs.declared.Net.{Net}
use Rattle.network.specs.Limits.{max_nodes, max_arcs}
use Rattle.network.specs.Network.{empty_net, arc_at, supply_at, is_number, is_root, with_arc, with_node}
use Rattle.network.specs.ArcList.{replaced}
use Rattle.records.specs.declared.refusal.Refusal.{Refusal}
use Rattle.records.specs.Limits.{network_room}
use Rattle.records.specs.Questions.{Question, ◌asks◌}
use Rattle.records.specs.Arrays.{figure_at, record_of}

-- "A network record now has a constant, the first fraction of each array" (02, 2026-01): the constant, the supplies, then the arcs' figures
abbrev pub figures : ℕ → ℕ → ℕ
figures n m = 1 + n + 7 * m

-- the first figure of the arc of number j + 1
abbrev pub arc_figure : ℕ → ℕ → ℕ
arc_figure n j = 1 + n + 7 * j

-- ---- 2. "Are n and m within limits and the length exactly right?"

-- a word as a size up to a limit; and whether it is one
abbrev pub size_of : ℤ → ℕ → Option ℕ
size_of (pos n) limit = cond (leb n limit) (Some n) None
size_of (negsuc n) limit = None

abbrev pub is_size : ℕ → ℤ → Bool
is_size limit (pos n) = leb n limit
is_size limit (negsuc n) = false

-- n and m
abbrev pub n_of : List ℤ → ℕ
n_of xs = natural_of (word xs 0)

abbrev pub m_of : List ℤ → ℕ
m_of xs = natural_of (word xs 1)

unfoldable pub sizes_right : List ℤ → Bool
sizes_right xs = is_size max_nodes (word xs 0) && (is_size max_arcs (word xs 1) && eqb (length xs) (2 + 2 * figures (n_of xs) (m_of xs)))

-- ---- 3. "Is each figure a fraction in form, or a permitted mark?"

-- which of an arc's seven figures figure k is, from 0; of the constant and of a supply 0
unfoldable pub role_of : ℕ → ℕ → ℕ
role_of n k = cond (leb k n) 0 ((k - n - 1) % 7)

-- "an absent lower bound is written -1 over 0, an absent upper bound 1 over 0; these two marks stand nowhere else"
unfoldable pub is_permitted : ℕ → Fraction → Bool
is_permitted role f = is_proper f || cond (eqb role 3) (is_same f no_lower) (cond (eqb role 4) (is_same f no_upper) false)

abbrev pub is_in_form : List ℤ → ℕ → ℕ → ℕ → Bool
is_in_form xs n t k = is_permitted (role_of n k) (figure_at xs t k)

unfoldable pub figures_right : List ℤ → Bool
figures_right xs = all (is_in_form xs (n_of xs) (figures (n_of xs) (m_of xs))) (figures (n_of xs) (m_of xs))

-- ---- 4. "Are all ends whole and from 1 to n?"

unfoldable pub is_end : ℕ → Fraction → Bool
is_end n f = eqb f.den 1 && is_number n (natural_of f.num)

unfoldable pub has_ends : List ℤ → ℕ → ℕ → ℕ → Bool
has_ends xs n t j = is_end n (figure_at xs t (arc_figure n j)) && is_end n (figure_at xs t (arc_figure n j + 1))

unfoldable pub ends_right : List ℤ → Bool
ends_right xs = all (has_ends xs (n_of xs) (figures (n_of xs) (m_of xs))) (m_of xs)

-- ---- 5. "Is every a nonzero, and b zero exactly where from = to?"

-- the arc of number j + 1: its seven figures in their order
unfoldable pub arc_in : List ℤ → ℕ → ℕ → ℕ → Arc
arc_in xs n t j =
    record {
      from = natural_of (figure_at xs t (arc_figure n j)).num;
      to = natural_of (figure_at xs t (arc_figure n j + 1)).num;
      cost = figure_at xs t (arc_figure n j + 2);
      lower = figure_at xs t (arc_figure n j + 3);
      upper = figure_at xs t (arc_figure n j + 4);
      a = figure_at xs t (arc_figure n j + 5);
      b = figure_at xs t (arc_figure n j + 6);
    }

unfoldable pub is_weighted : Arc → Bool
is_weighted t = not (is_zero t.a) && cond (is_root t) (is_zero t.b) (not (is_zero t.b))

abbrev pub is_weighted_at : List ℤ → ℕ → ℕ → ℕ → Bool
is_weighted_at xs n t j = is_weighted (arc_in xs n t j)

unfoldable pub multipliers_right : List ℤ → Bool
multipliers_right xs = all (is_weighted_at xs (n_of xs) (figures (n_of xs) (m_of xs))) (m_of xs)

-- ---- the questions of a network's record

unfoldable pub questions : List ℤ → List Question
questions xs = Refusal.Sizes asks sizes_right xs ∷ Refusal.Form asks figures_right xs ∷ Refusal.Ends asks ends_right xs ∷ Refusal.Multipliers asks multipliers_right xs ∷ []

-- ---- the network that a record holds

abbrev pub node_turn : List ℤ → ℕ → ℕ → Net → Net
node_turn xs t i net = with_node net (i + 1) (figure_at xs t (i + 1))

abbrev pub arc_turn : List ℤ → ℕ → ℕ → ℕ → Net → Net
arc_turn xs n t j net = with_arc net (j + 1) (arc_in xs n t j)

-- the constant, nodes 1 to n with their supplies, arcs 1 to m
unfoldable pub net_of : List ℤ → ℕ → ℕ → Net
net_of xs n m = upto (arc_turn xs n (figures n m)) m (upto (node_turn xs (figures n m)) n (empty_net n m (figure_at xs (figures n m) 0)))

-- none where question 2 is answered by no
unfoldable pub read_of : List ℤ → Net
read_of xs = cond (sizes_right xs) (net_of xs (n_of xs) (m_of xs)) (empty_net 0 0 zero_fraction)

-- ---- the same, into the lent list

-- the arcs of a network's record put into the list, where question 2 is answered by yes
abbrev pub load_turn : List ℤ → ℕ → ℕ → ℕ → List Arc → List Arc
load_turn words n t j xs = replaced xs (j + 1) (arc_in words n t j)

unfoldable pub loaded : List ℤ → List Arc → List Arc
loaded words xs = cond (sizes_right words) (upto (load_turn words (n_of words) (figures (n_of words) (m_of words))) (m_of words) xs) xs

-- ---- the record of a network

-- "an arc has seven figures", in their order
unfoldable pub role_figure : Arc → ℕ → Fraction
role_figure t r =
    cond (eqb r 0) (whole_of t.from)
    (cond (eqb r 1) (whole_of t.to) (cond (eqb r 2) t.cost (cond (eqb r 3) t.lower (cond (eqb r 4) t.upper (cond (eqb r 5) t.a t.b)))))

-- figure k: the constant, "supplies, then the arcs' figures"
unfoldable pub figure_of : Net → ℕ → Fraction
figure_of net k =
    cond (eqb k 0) net.constant
    (cond (leb k net.n) (supply_at net k) (role_figure (arc_at net ((k - net.n - 1) / 7 + 1)) ((k - net.n - 1) % 7)))

-- "n, m; then n + 7m numerators; then as many denominators", with the constant before each
unfoldable pub network_of : Net → ℕ → List ℤ
network_of net room = record_of network_room net.n net.m (figure_of net) (figures net.n net.m) room
