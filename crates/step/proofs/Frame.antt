-- What a change does to a legal network, for every rule.
use mathlib.Core.Path.{◌≡◌, refl, sym, ap, ◌∙◌}
use mathlib.Core.Bool.{true, false}
use mathlib.Core.List.{List, [], ◌∷◌}
use mathlib.Core.Logic.{◌⊎◌, inl, inr, ⊎_elim}
use Prim.Native.Nat.{ℕ, zero, suc, ◌≤◌}
use native.Mathlib.Omega.{arith}
use lib.ListN.{length, get_or, drop}
use lib.Seq.{get_or-set_same}
use borrow.Author.Tests.{le-leb, ne_eqb}
use Rattle.fraction.specs.declared.Fraction.{Fraction}
use Rattle.fraction.specs.Exact.{Proper, no_figure}
use Rattle.network.specs.declared.Arc.{Arc}
use Rattle.network.specs.declared.Net.{Net}
use Rattle.network.specs.declared.ArcUpdate.{ArcUpdate}
use Rattle.network.specs.declared.SupplyUpdate.{SupplyUpdate}
use Rattle.network.specs.declared.Edit.{Edit}
use Rattle.network.specs.Network.{no_arc, arc_at, supply_at, is_here, is_number, is_touching, with_arc, with_supply, without, no_update, no_edit, with_update, with_updates, updates_of, with_supply_update, applied}
use Rattle.network.specs.Legal.{Legal, MayPut}
use Rattle.network.proofs.Kept.{long, used-number, touching-used, moved, arc-either, supply-either, here-either, arc-kept, supply-kept, constant-kept, node_kept}
use Rattle.fraction.proofs.Laws.{never}
use Rattle.step.proofs.Each.{All, Any, all_map, none_any}
use Rattle.step.proofs.Lines.{split}

-- what may be put at a number where node `gone` is dropped: no arc, or a legal one that does not touch it
pub record Puts (net : Net) (gone : ℕ) (p : ArcUpdate) : Type 0 where
  pub may : MayPut net p.number p.arc
  pub clear : 1 ≤ gone → is_touching p.arc gone ≡ false

-- it is no arc, or stands at a number in use
abbrev pub Tame : Net → ArcUpdate → Type 0
Tame net p = (p.arc ≡ no_arc) ⊎ (1 ≤ p.number → 1 ≤ (arc_at net p.number).from)

-- a supply of a node is a fraction in form; number 0 is no node
abbrev pub Levels : SupplyUpdate → Type 0
Levels l = 1 ≤ l.node → Proper l.supply

-- a change whose parts are legal: whatever touches the dropped node is among the arcs that it replaces
pub record Framed (net : Net) (c : Edit) : Type 0 where
  pub arcs : All (λ p. Puts net c.gone p × Tame net p) (updates_of c)
  pub left : Levels c.left
  pub right : Levels c.right
  pub constant : Proper c.constant
  pub only : (j : ℕ) → 1 ≤ c.gone → is_touching (arc_at net j) c.gone ≡ true → Any (λ p. j ≡ p.number) (updates_of c)

-- no arc may be put at any number, and no supply is set
pub no-arc-puts : (net : Net) (gone k : ℕ) → Puts net gone (record { number = k; arc = no_arc }) × Tame net (record { number = k; arc = no_arc })
unfolding is_touching
no-arc-puts net gone k = (record { may = inl refl; clear = λ l. rw (ne_eqb 0 gone (λ e. omega arith)) }, inl refl)

pub no-level : {f : Fraction} → Levels (record { node = 0; supply = f })
no-level l = absurd (omega arith)

-- the numbers of updates: j is none of them. Number 0 names nothing.
abbrev pub Unnamed : List ArcUpdate → ℕ → Type 0
Unnamed ps j = All (λ p. 1 ≤ p.number → j ≡ p.number → ⊥) ps

-- what no update has, none of no edit's has
pub no-updates : (P : ArcUpdate → Type 0) → P no_update → All P (updates_of no_edit)
no-updates P h = (h, (h, (h, (h, tt))))

pub no_names : (j : ℕ) → Unnamed (updates_of no_edit) j
no_names j = no-updates (λ p. 1 ≤ p.number → j ≡ p.number → ⊥) (λ l z. absurd (omega arith))

-- an array stays as long
pub long-put : (net : Net) (k : ℕ) (t : Arc) → length net.arcs ≡ 97 → length (with_arc net k t).arcs ≡ 97
unfolding with_arc
long-put net k t h = long no_arc t net.arcs k (is_number 96 k) ∙ h

pub long-supply : (net : Net) (k : ℕ) (r : Fraction) → length net.supply ≡ 33 → length (with_supply net k r).supply ≡ 33
unfolding with_supply
long-supply net k r h = long no_figure r net.supply k (is_number 32 k) ∙ h

-- arc k replaced by t: what stands at k, and at the other numbers
module _ (net : Net) (k : ℕ) (t : Arc) where
  pub arc-put : length net.arcs ≡ 97 → (1 ≤ k) × (k ≤ 96) → arc_at (with_arc net k t) k ≡ t
  unfolding with_arc
  arc-put h l = rw (le-leb 1 k l.0, le-leb k 96 l.1) (get_or-set_same net.arcs k t no_arc (omega arith))

  pub arc-left : (j : ℕ) → (1 ≤ k → j ≡ k → ⊥) → arc_at (with_arc net k t) j ≡ arc_at net j
  arc-left j ne = ⊎_elim (λ e. e) (λ w. absurd (ne w.0 w.1)) (arc-either net k t j)

  -- an arc that still touches a node, where one is put that does not: its number is another, and it touched before
  still : (i j : ℕ) → length net.arcs ≡ 97 → is_touching t i ≡ false → (1 ≤ j) × (j ≤ 96) → is_touching (arc_at (with_arc net k t) j) i ≡ true → (j ≡ k → ⊥) × (is_touching (arc_at net j) i ≡ true)
  still i j h c l e =
      let ne : j ≡ k → ⊥ = λ q. never (let z = sym e ∙ ap (λ (n : ℕ). is_touching (arc_at (with_arc net k t) n) i) q ∙ ap (λ (t : Arc). is_touching t i) (arc-put h (rw q at l)) ∙ c in cc) in
      (ne, rw (arc-left j (λ l. ne)) at e)

  -- what may be put before may be put after
  again : {gone : ℕ} (p : ArcUpdate) → Puts net gone p → Puts (with_arc net k t) gone p
  unfolding with_arc
  again p h = record { may = ⊎_elim inl (λ w. inr (w.0, moved w.1 w.1.from_here w.1.to_here)) h.may; clear = h.clear }

-- ---- arcs replaced one after the other

pub long-puts : (ps : List ArcUpdate) (net : Net) → length net.arcs ≡ 97 → length (with_updates net ps).arcs ≡ 97
long-puts [] net h = h
long-puts (p ∷ ps) net h = long-puts ps (with_update net p) (long-put net _ _ h)

-- an arc whose number is not among them stays
pub arcs-left : (ps : List ArcUpdate) (net : Net) (j : ℕ) → Unnamed ps j → arc_at (with_updates net ps) j ≡ arc_at net j
arcs-left [] net j u = refl
arcs-left (p ∷ ps) net j u = arcs-left ps (with_update net p) j u.1 ∙ arc-left net _ _ j u.0

-- the one at place k of the list stands at its number, where none after it has that number
arcs-put : (ps : List ArcUpdate) (k : ℕ) (net : Net) → length net.arcs ≡ 97 → (1 ≤ (get_or ps k no_update).number) × ((get_or ps k no_update).number ≤ 96) → Unnamed (drop (suc k) ps) (get_or ps k no_update).number → arc_at (with_updates net ps) (get_or ps k no_update).number ≡ (get_or ps k no_update).arc
arcs-put [] k net h l u = absurd (omega (arith, l.0))
arcs-put (p ∷ ps) zero net h l u = arcs-left ps (with_update net p) p.number u ∙ arc-put net _ _ h l
arcs-put (p ∷ ps) (suc k) net h l u = arcs-put ps k (with_update net p) (long-put net _ _ h) l u

module _ (gone : ℕ) where
  puts-kept : (ps : List ArcUpdate) {net : Net} → Legal net → All (Puts net gone) ps → Legal (with_updates net ps)
  puts-kept [] g h = g
  puts-kept (p ∷ ps) {net} g h = puts-kept ps (arc-kept g _ _ h.0.may) (all_map (again net _ _) ps h.1)

  -- an arc that still touches node `gone` has none of their numbers, and touched it before
  puts-still : (ps : List ArcUpdate) {net : Net} → Legal net → All (Puts net gone) ps → 1 ≤ gone → (j : ℕ) → (1 ≤ j) × (j ≤ 96) → is_touching (arc_at (with_updates net ps) j) gone ≡ true → All (λ p. j ≡ p.number → ⊥) ps × (is_touching (arc_at net j) gone ≡ true)
  puts-still [] g h l j n e = (tt, e)
  puts-still (p ∷ ps) {net} g h l j n e =
      let r = puts-still ps (arc-kept g _ _ h.0.may) (all_map (again net _ _) ps h.1) l j n e in
      let s = still net _ _ gone j g.arcs_long (h.0.clear l) n r.1 in
      ((s.0, r.0), s.1)

-- such a change keeps a network legal
pub framed_kept : (net : Net) → Legal net → (c : Edit) → Framed net c → Legal (applied net c)
unfolding applied with_supply without
framed_kept net g c f = constant-kept (node_kept (supply-kept (supply-kept now _ _ f.left) _ _ f.right) c.gone free) c.constant f.constant
  where
    puts : All (Puts net c.gone) (updates_of c)
    puts = all_map (λ p (h : Puts net c.gone p × Tame net p). h.0) (updates_of c) f.arcs

    now : Legal (with_updates net (updates_of c))
    now = puts-kept c.gone (updates_of c) g puts

    free : 1 ≤ c.gone → (j : ℕ) → is_touching (arc_at (with_updates net (updates_of c)) j) c.gone ≡ false
    free l j =
        split (is_touching (arc_at (with_updates net (updates_of c)) j) c.gone)
        (λ e. let s = puts-still c.gone (updates_of c) g puts l j (used-number now j (touching-used now j c.gone l e)) e in absurd (none_any (λ p. j ≡ p.number) (updates_of c) s.0 (f.only j l s.1)))
        (λ e. e)

-- ---- what stands where after a change

-- the supply of node k replaced by r; node k dropped
module _ (net : Net) (k : ℕ) where
  pub supply-put : (r : Fraction) → length net.supply ≡ 33 → (1 ≤ k) × (k ≤ 32) → supply_at (with_supply net k r) k ≡ r
  unfolding with_supply
  supply-put r h l = rw (le-leb 1 k l.0, le-leb k 32 l.1) (get_or-set_same net.supply k r no_figure (omega arith))

  pub supply-left : (r : Fraction) (i : ℕ) → (1 ≤ k → i ≡ k → ⊥) → supply_at (with_supply net k r) i ≡ supply_at net i
  supply-left r i ne = ⊎_elim (λ e. e) (λ w. absurd (ne w.0 w.1)) (supply-either net k r i)

module _ (net : Net) (c : Edit) where
  pub arc-same : (j : ℕ) → Unnamed (updates_of c) j → arc_at (applied net c) j ≡ arc_at net j
  unfolding applied with_supply without
  arc-same j u = arcs-left (updates_of c) net j u

  pub supply-same : (i : ℕ) → (1 ≤ c.left.node → i ≡ c.left.node → ⊥) → (1 ≤ c.right.node → i ≡ c.right.node → ⊥) → supply_at (applied net c) i ≡ supply_at net i
  unfolding applied with_arc without
  supply-same i a b = supply-left _ _ _ i b ∙ supply-left _ _ _ i a

  pub here-same : (i : ℕ) → (1 ≤ c.gone → i ≡ c.gone → ⊥) → is_here (applied net c) i ≡ is_here net i
  unfolding applied with_arc with_supply without
  here-same i n = ⊎_elim (λ e. e) (λ w. absurd (n w.0 w.1)) (here-either (with_supply_update (with_supply_update (with_updates net (updates_of c)) c.left) c.right) c.gone i)

  module _ (g : Legal net) where
    -- the update at place k stands at its number, where none after it has that number
    pub arc-stands : (k : ℕ) → (1 ≤ (get_or (updates_of c) k no_update).number) × ((get_or (updates_of c) k no_update).number ≤ 96) → Unnamed (drop (suc k) (updates_of c)) (get_or (updates_of c) k no_update).number → arc_at (applied net c) (get_or (updates_of c) k no_update).number ≡ (get_or (updates_of c) k no_update).arc
    unfolding applied with_supply without
    arc-stands k l u = arcs-put (updates_of c) k net g.arcs_long l u

    pub node-gone : (1 ≤ c.gone) × (c.gone ≤ 32) → is_here (applied net c) c.gone ≡ false
    unfolding applied with_arc with_supply without
    node-gone l = rw (le-leb 1 _ l.0, le-leb _ 32 l.1) (get_or-set_same net.here c.gone false false (omega (arith, g.here_long, l.1)))
