-- What a run keeps of rule 4's earlier searches, so that no pair of root arcs is tried again.
use Rattle.std.specs.Prelude.{◌≡◌, Bool, true, false, cond, ◌&&◌, not, List, [], ◌∷◌, ℕ, ◌≤◌, ◌<◌, ltb, length, get_or, set, replicate}
use Rattle.fraction.specs.Exact.{is_finite}
use Rattle.network.specs.declared.Arc.{Arc}
use Rattle.network.specs.declared.Net.{Net}
use Rattle.network.specs.declared.ArcUpdate.{ArcUpdate}
use Rattle.network.specs.declared.Edit.{Edit}
use Rattle.network.specs.Limits.{arc_places}
use Rattle.network.specs.Network.{arc_at, is_root}
use Rattle.costly_arc.specs.CostlyArc.{is_open_root, is_costlier}
use Rattle.costly_arc.specs.declared.Times.{Times}

-- the times of each arc, by its number
abbrev pub Seen : Type 0
Seen = List Times

-- the times of an arc before every search
abbrev pub never : Times
never = record { put = 0; sought = 0 }

-- when arc k was put; when a pair was last sought for it, in vain
abbrev pub put_at : Seen → ℕ → ℕ
put_at seen k = (get_or seen k never).put

abbrev pub sought_at : Seen → ℕ → ℕ
sought_at seen k = (get_or seen k never).sought

-- "Not a root arc, l finite"
unfoldable pub is_candidate : Arc → Bool
is_candidate t = not (is_root t) && is_finite t.lower

-- the root arcs x and y make t costly
unfoldable pub is_pair : Arc → Arc → Arc → Bool
is_pair t x y = is_open_root x t.from && (is_open_root y t.to && is_costlier t x y)

-- arc k was put before the time w
abbrev pub is_old : Seen → ℕ → ℕ → Bool
is_old seen w k = ltb (put_at seen k) w

-- no two root arcs put before the time w make t costly
abbrev pub Searched : Net → Seen → ℕ → Arc → Type 0
Searched net seen w t = (x y : ℕ) → x < arc_places → y < arc_places → is_old seen w x ≡ true → is_old seen w y ≡ true → is_pair t (arc_at net x) (arc_at net y) ≡ false

-- no search is later than now, and for each arc its last search was in vain
pub record Known (net : Net) (now : ℕ) (seen : Seen) : Type 0 where
  pub past : (j : ℕ) → sought_at seen j ≤ now
  pub long : length seen ≡ arc_places
  pub vain : (j : ℕ) → Searched net seen (sought_at seen j) (arc_at net j)

-- nothing is known
abbrev pub nothing_seen : Seen
nothing_seen = replicate arc_places never

-- arc k is put now, and no pair was sought for it; the same, where there is such a number; so for the arcs of an edit
abbrev pub put_now : Seen → ℕ → ℕ → Seen
put_now seen k now = set seen k (record { put = now; sought = 0 })

unfoldable pub marked : Seen → ℕ → ℕ → Seen
marked seen k now = cond (ltb k arc_places) (put_now seen k now) seen

abbrev pub marked_by : Seen → List ArcUpdate → ℕ → Seen
marked_by seen [] now = seen
marked_by seen (u ∷ us) now = marked_by (marked seen u.number now) us now

abbrev pub marked_all : Seen → Edit → ℕ → Seen
marked_all seen edit now = marked_by seen (edit.one ∷ edit.two ∷ edit.three ∷ edit.four ∷ []) now
