-- The nodes and arcs that are left: a change that puts arcs only at numbers in use, and drops a node or an arc in use, leaves fewer.
use mathlib.Core.Path.{◌≡◌, sym, ◌∙◌}
use mathlib.Core.Bool.{Bool, true, false}
use mathlib.Core.List.{List, [], ◌∷◌}
use mathlib.Core.Logic.{◌⊎◌, inl, inr, ⊎_elim}
use Prim.Native.Nat.{ℕ, zero, suc, ◌+◌, ◌≤◌, ◌<◌}
use native.Mathlib.Omega.{arith}
use lib.Dec.{ltb, leb}
use borrow.Author.Tests.{le-leb, ltb-true, ltb-false}
use Rattle.loops.specs.Loops.{count}
use Rattle.loops.proofs.Laws.{count-mono, count_under, count-but-first}
use Rattle.network.specs.declared.Net.{Net}
use Rattle.network.specs.declared.ArcUpdate.{ArcUpdate}
use Rattle.network.specs.declared.Edit.{Edit}
use Rattle.network.specs.Network.{no_arc, arc_at, is_here, with_arc, with_supply, without, with_update, with_updates, updates_of, with_supply_update, applied}
use Rattle.network.specs.Legal.{Legal}
use Rattle.network.proofs.Kept.{here-number, used-number, arc-either, here-either}
use Rattle.step.proofs.Each.{All, all_map}
use Rattle.step.proofs.Frame.{Puts, Tame, Framed, node-gone}
use Rattle.step.proofs.Touch.{unlike}
use Rattle.step.proofs.Lines.{split}

abbrev pub has_arc : Net → ℕ → Bool
has_arc net j = leb 1 (arc_at net j).from

abbrev pub left_of : Net → ℕ
left_of net = count (is_here net) 33 + count (has_arc net) 97

-- of the numbers from 1 to top
count-within : (p : ℕ → Bool) (top : ℕ) → p 0 ≡ false → ((k : ℕ) → top < k → p k ≡ false) → (n : ℕ) → count p n ≤ top
unfolding count
count-within p top first beyond zero = omega arith
count-within p top first beyond (suc n) =
    let c = count-within p top first beyond n in
    split (ltb top n) (λ e. rw (beyond n (ltb-true top n e)) c) (λ e. omega (arith, count-but-first p n first, ltb-false top n e))

module _ {net : Net} (g : Legal net) where
  pub left-within : left_of net ≤ net.n + net.m
  left-within =
      let a = count-within (is_here net) net.n g.no_node g.nodes_beyond 33 in
      let b = count-within (has_arc net) net.m (rw g.no-arc) (λ k l. rw (g.arcs_beyond k l)) 97 in
      omega arith

  pub legal-left : left_of net ≤ 128
  legal-left = omega (arith, left-within, g.few_nodes, g.few_arcs)

-- ---- a change that puts arcs only at numbers in use, and drops a node or an arc in use

-- an arc in use that is dropped; or the node that is dropped is in use
pub record LostArc (net : Net) (c : Edit) : Type 0 where
  pub number : ℕ
  pub used : 1 ≤ (arc_at net number).from
  pub dropped : arc_at (applied net c) number ≡ no_arc

abbrev pub Lost : Net → Edit → Type 0
Lost net c = (is_here net c.gone ≡ true) ⊎ LostArc net c

abbrev pub Fewer : Net → Edit → Type 0
Fewer net c = left_of (applied net c) < left_of net

module _ (net : Net) where
  updates-under : (ps : List ArcUpdate) (q : Net) → All (Tame net) ps → ((i : ℕ) → has_arc q i ≡ true → has_arc net i ≡ true) → (i : ℕ) → has_arc (with_updates q ps) i ≡ true → has_arc net i ≡ true
  updates-under [] q w was = was
  updates-under (p ∷ ps) q w was = updates-under ps (with_update q p) w.1 (λ i h. ⊎_elim (λ e. was i (rw e at h)) (λ v. put i v (rw v.2 at h) w.0) (arc-either q p.number p.arc i))
    where
      put : (i : ℕ) → (1 ≤ p.number) × (i ≡ p.number) × (arc_at (with_update q p) i ≡ p.arc) → leb 1 p.arc.from ≡ true → Tame net p → has_arc net i ≡ true
      put i v h (inl z) = unlike (rw z at h)
      put i v h (inr u) = rw v.1 (le-leb 1 _ (u v.0))

  change-under : (c : Edit) → Framed net c → (i : ℕ) → has_arc (applied net c) i ≡ true → has_arc net i ≡ true
  unfolding applied with_supply without
  change-under c f = updates-under (updates_of c) net (all_map (λ p (h : Puts net c.gone p × Tame net p). h.1) (updates_of c) f.arcs) (λ i h. h)

  pub nodes-under : (c : Edit) (i : ℕ) → is_here (applied net c) i ≡ true → is_here net i ≡ true
  unfolding applied with_arc with_supply
  nodes-under c i h = ⊎_elim (λ e. sym e ∙ h) (λ w. unlike (sym w.2 ∙ h)) (here-either (with_supply_update (with_supply_update (with_updates net (updates_of c)) c.left) c.right) c.gone i)

pub fewer : {net : Net} → Legal net → (c : Edit) → Framed net c → Lost net c → Fewer net c
fewer {net} g c w (inl e) =
    let a = count-mono (has_arc net) (has_arc (applied net c)) 97 (change-under net c w) in
    let b = count_under (is_here net) (is_here (applied net c)) 33 c.gone (omega (arith, (here-number g _ e).1)) e (node-gone net c g (here-number g _ e)) (nodes-under net c) in
    omega arith
fewer {net} g c w (inr s) =
    let a = count_under (has_arc net) (has_arc (applied net c)) 97 s.number (omega (arith, (used-number g _ s.used).1)) (le-leb 1 _ s.used) (rw s.dropped) (change-under net c w) in
    let b = count-mono (is_here net) (is_here (applied net c)) 33 (nodes-under net c) in
    omega arith
