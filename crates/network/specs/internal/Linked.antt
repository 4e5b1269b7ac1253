-- Arcs taken from the last number down: the next parallel arc of each, and the last arc taken between any two nodes.
use Rattle.std.specs.Prelude.{Bool, cond, ◌&&◌, List, ℕ, ◌+◌, ◌*◌, leb, ltb, get_or, set}
use Rattle.network.specs.Limits.{node_places, arc_places}

-- the place of the nodes f and e
abbrev pub place_of : ℕ → ℕ → ℕ
place_of f e = f * node_places + e

-- arc j from f to e, in use, has a place
abbrev pub is_placed : ℕ → ℕ → ℕ → Bool
is_placed j f e = ltb j arc_places && (leb 1 f && (ltb f node_places && ltb e node_places))

-- arc j from f to e is taken: the last one there is its next, and now it is the last
abbrev pub next_of : List ℕ → List ℕ → ℕ → ℕ → ℕ → List ℕ
next_of next last j f e = cond (is_placed j f e) (set next j (get_or last (place_of f e) 0)) next

abbrev pub last_of : List ℕ → ℕ → ℕ → ℕ → List ℕ
last_of last j f e = cond (is_placed j f e) (set last (place_of f e) j) last
