-- An arc, a supply or a dropped node that is legal keeps a network legal.
use mathlib.Core.Path.{◌≡◌, refl, sym, ap, ◌∙◌}
use mathlib.Core.Bool.{Bool, true, false, cond, ◌||◌}
use mathlib.Core.List.{List}
use mathlib.Core.Logic.{◌⊎◌, inl, inr, ⊎_elim}
use Prim.Native.Nat.{ℕ, ◌≤◌, ◌<◌}
use native.Mathlib.Omega.{arith}
use lib.Dec.{eqb, ltb, leb}
use lib.ListN.{length, get_or, set, length-set}
use lib.Seq.{get_or-set_same, get_or-set_other, set_out}
use borrow.Author.Tests.{leb-true, ltb-true, ltb-false, eqb-true, eqb-false, ne_eqb}
use Rattle.fraction.specs.declared.Fraction.{Fraction}
use Rattle.fraction.specs.Exact.{Proper, no_figure}
use Rattle.fraction.proofs.Laws.{and_both, never}
use Rattle.network.specs.declared.Arc.{Arc}
use Rattle.network.specs.declared.Net.{Net}
use Rattle.network.specs.Network.{no_arc, arc_at, supply_at, is_here, is_number, is_touching, with_arc, with_supply, with_constant, without}
use Rattle.network.specs.Legal.{LegalArc, Legal, MayPut}

-- ---- one element replaced: what stands at a place then, and the length

module _ {A : Type 0} (d v : A) (l : List A) (j : ℕ) where
  set-at-either : (i : ℕ) → (get_or (set l j v) i d ≡ get_or l i d) ⊎ ((i ≡ j) × (get_or (set l j v) i d ≡ v))
  set-at-either i = by (eqb i j) refl (ltb j (length l)) refl
    where
      by : (s : Bool) → eqb i j ≡ s → (t : Bool) → ltb j (length l) ≡ t → (get_or (set l j v) i d ≡ get_or l i d) ⊎ ((i ≡ j) × (get_or (set l j v) i d ≡ v))
      by false e t f = inl (get_or-set_other l j i v d (eqb-false i j e))
      by true e true f = let q = eqb-true i j e in inr (q, rw q (get_or-set_same l j v d (ltb-true _ _ f)))
      by true e false f = inl (rw (set_out l j v (ltb-false _ _ f)))

  either : (b : Bool) (i : ℕ) → (get_or (cond b (set l j v) l) i d ≡ get_or l i d) ⊎ ((b ≡ true) × (i ≡ j) × (get_or (cond b (set l j v) l) i d ≡ v))
  either true i = ⊎_elim (λ e. inl e) (λ (w : (i ≡ j) × (get_or (set l j v) i d ≡ v)). inr (refl, w.0, w.1)) (set-at-either i)
  either false i = inl refl

  pub long : (b : Bool) → length (cond b (set l j v) l) ≡ length l
  long true = length-set l j v
  long false = refl

-- ---- numbers in use

module _ {net : Net} (g : Legal net) where
  pub here-within : (i : ℕ) → is_here net i ≡ true → (1 ≤ i) × (i ≤ net.n)
  here-within i e = by (ltb i 1) refl (ltb net.n i) refl
    where
      by : (s : Bool) → ltb i 1 ≡ s → (t : Bool) → ltb net.n i ≡ t → (1 ≤ i) × (i ≤ net.n)
      by true a t b = let z : i ≡ 0 = omega (arith, ltb-true i 1 a) in never (let f = sym (rw z at e) ∙ g.no_node in cc)
      by false a true b = never (let f = sym e ∙ g.nodes_beyond i (ltb-true net.n i b) in cc)
      by false a false b = (ltb-false i 1 a, ltb-false net.n i b)

  pub used-within : (j : ℕ) → 1 ≤ (arc_at net j).from → (1 ≤ j) × (j ≤ net.m)
  used-within j e = by (ltb j 1) refl (ltb net.m j) refl
    where
      by : (s : Bool) → ltb j 1 ≡ s → (t : Bool) → ltb net.m j ≡ t → (1 ≤ j) × (j ≤ net.m)
      by true a t b = let z : j ≡ 0 = omega (arith, ltb-true j 1 a) in absurd (omega (arith, rw z at e, g.no-arc))
      by false a true b = absurd (omega (arith, g.arcs_beyond j (ltb-true net.m j b)))
      by false a false b = (ltb-false j 1 a, ltb-false net.m j b)

  pub here-number : (i : ℕ) → is_here net i ≡ true → (1 ≤ i) × (i ≤ 32)
  here-number i e = let h = here-within i e in (h.0, omega (arith, h.1, g.few_nodes))

  pub used-number : (j : ℕ) → 1 ≤ (arc_at net j).from → (1 ≤ j) × (j ≤ 96)
  used-number j e = let h = used-within j e in (h.0, omega (arith, h.1, g.few_arcs))

  -- an arc that touches a node is in use
  pub touching-used : (j i : ℕ) → 1 ≤ i → is_touching (arc_at net j) i ≡ true → 1 ≤ (arc_at net j).from
  unfolding is_touching
  touching-used j i h e = by (ltb (arc_at net j).from 1) refl
    where
      by : (s : Bool) → ltb (arc_at net j).from 1 ≡ s → 1 ≤ (arc_at net j).from
      by true a =
          let z : (arc_at net j).from ≡ 0 = omega (arith, ltb-true (arc_at net j).from 1 a) in
          let n : eqb 0 i ≡ false = ne_eqb 0 i (λ q. omega arith) in
          never (let f = sym (rw (g.unused j z, n) at e) in cc)
      by false a = ltb-false (arc_at net j).from 1 a

-- an arc is legal in another network that has its ends
pub moved : {p q : Net} {t : Arc} → LegalArc p t → is_here q t.from ≡ true → is_here q t.to ≡ true → LegalArc q t
moved h f g =
    record { from_here = f; to_here = g; cost_proper = h.cost_proper; lower_bound = h.lower_bound; upper_bound = h.upper_bound; a_proper = h.a_proper; b_proper = h.b_proper; a_nonzero = h.a_nonzero; b_zero = h.b_zero }

-- ---- one part of a change

number-low : (top j : ℕ) → is_number top j ≡ true → 1 ≤ j
number-low top j e = leb-true 1 j (and_both (leb 1 j) _ e).0

pub arc-either : (net : Net) (j : ℕ) (t : Arc) (i : ℕ) → (arc_at (with_arc net j t) i ≡ arc_at net i) ⊎ ((1 ≤ j) × (i ≡ j) × (arc_at (with_arc net j t) i ≡ t))
unfolding with_arc
arc-either net j t i = ⊎_elim (λ e. inl e) (λ w. inr (number-low 96 j w.0, w.1, w.2)) (either no_arc t net.arcs j (is_number 96 j) i)

pub supply-either : (net : Net) (j : ℕ) (r : Fraction) (i : ℕ) → (supply_at (with_supply net j r) i ≡ supply_at net i) ⊎ ((1 ≤ j) × (i ≡ j) × (supply_at (with_supply net j r) i ≡ r))
unfolding with_supply
supply-either net j r i = ⊎_elim (λ e. inl e) (λ w. inr (number-low 32 j w.0, w.1, w.2)) (either no_figure r net.supply j (is_number 32 j) i)

pub here-either : (net : Net) (j i : ℕ) → (is_here (without net j) i ≡ is_here net i) ⊎ ((1 ≤ j) × (i ≡ j) × (is_here (without net j) i ≡ false))
unfolding without
here-either net j i = ⊎_elim (λ e. inl e) (λ w. inr (number-low 32 j w.0, w.1, w.2)) (either false false net.here j (is_number 32 j) i)

module _ {net : Net} (g : Legal net) where
  from-pos : {t : Arc} → LegalArc net t → 1 ≤ t.from
  from-pos h = (here-number g _ h.from_here).0

  pub arc-kept : (j : ℕ) (t : Arc) → MayPut net j t → Legal (with_arc net j t)
  unfolding with_arc
  arc-kept j t ok =
      record {
        here_long = g.here_long;
        supply_long = g.supply_long;
        arcs_long = long no_arc t net.arcs j (is_number 96 j) ∙ g.arcs_long;
        few_nodes = g.few_nodes;
        few_arcs = g.few_arcs;
        no_node = g.no_node;
        no-arc = ⊎_elim (λ e. ap (λ (t : Arc). t.from) e ∙ g.no-arc) (λ w. absurd (omega (arith, w.0, w.1))) (arc-either net j t 0);
        nodes_beyond = g.nodes_beyond;
        arcs_beyond = λ i l. ⊎_elim (λ e. ap (λ (t : Arc). t.from) e ∙ g.arcs_beyond i l) (λ w. ap (λ (t : Arc). t.from) w.2 ∙ beyond (rw w.1 at l) ok) (arc-either net j t i);
        constant_proper = g.constant_proper;
        supply_proper = g.supply_proper;
        unused = λ i z. ⊎_elim (λ e. e ∙ g.unused i (rw e at z)) (λ w. w.2 ∙ none (rw w.2 at z) ok) (arc-either net j t i);
        used = λ i l. ⊎_elim (λ e. rw e (let h = g.used i (rw e at l) in moved h h.from_here h.to_here)) (λ w. rw w.2 (some (rw w.2 at l) ok)) (arc-either net j t i);
      }
    where
      beyond : net.m < j → MayPut net j t → t.from ≡ 0
      beyond l (inl e) = ap (λ (t : Arc). t.from) e
      beyond l (inr h) = absurd (omega (arith, h.0))

      none : t.from ≡ 0 → MayPut net j t → t ≡ no_arc
      none z (inl e) = e
      none z (inr h) = absurd (omega (arith, from-pos h.1))

      some : 1 ≤ t.from → MayPut net j t → LegalArc (with_arc net j t) t
      some l (inl e) = absurd (omega (arith, ap (λ (t : Arc). t.from) e))
      some l (inr h) = moved h.1 h.1.from_here h.1.to_here

  -- another constant and other supplies, in form
  figures-kept : (k : Fraction) (l : List Fraction) → Proper k → length l ≡ 33 → ((i : ℕ) → is_here net i ≡ true → Proper (get_or l i no_figure)) → Legal (record { n = net.n; m = net.m; constant = k; here = net.here; supply = l; arcs = net.arcs })
  figures-kept k l proper long all =
      record {
        here_long = g.here_long;
        supply_long = long;
        arcs_long = g.arcs_long;
        few_nodes = g.few_nodes;
        few_arcs = g.few_arcs;
        no_node = g.no_node;
        no-arc = g.no-arc;
        nodes_beyond = g.nodes_beyond;
        arcs_beyond = g.arcs_beyond;
        constant_proper = proper;
        supply_proper = all;
        unused = g.unused;
        used = λ i l. let h = g.used i l in moved h h.from_here h.to_here;
      }

  pub supply-kept : (j : ℕ) (r : Fraction) → (1 ≤ j → Proper r) → Legal (with_supply net j r)
  unfolding with_supply
  supply-kept j r ok =
      figures-kept net.constant _ g.constant_proper (long no_figure r net.supply j (is_number 32 j) ∙ g.supply_long)
      (λ i e. ⊎_elim (λ q. rw q (g.supply_proper i e)) (λ w. rw w.2 (ok w.0)) (supply-either net j r i))

  pub constant-kept : (k : Fraction) → Proper k → Legal (with_constant net k)
  constant-kept k proper = figures-kept k net.supply proper g.supply_long g.supply_proper

  -- a node that no arc touches may be dropped
  pub node_kept : (j : ℕ) → (1 ≤ j → (i : ℕ) → is_touching (arc_at net i) j ≡ false) → Legal (without net j)
  unfolding without is_touching
  node_kept j free =
      record {
        here_long = long false false net.here j (is_number 32 j) ∙ g.here_long;
        supply_long = g.supply_long;
        arcs_long = g.arcs_long;
        few_nodes = g.few_nodes;
        few_arcs = g.few_arcs;
        no_node = ⊎_elim (λ e. e ∙ g.no_node) (λ w. w.2) (here-either net j 0);
        no-arc = g.no-arc;
        nodes_beyond = λ i l. ⊎_elim (λ e. e ∙ g.nodes_beyond i l) (λ w. w.2) (here-either net j i);
        arcs_beyond = g.arcs_beyond;
        constant_proper = g.constant_proper;
        supply_proper = λ i e. ⊎_elim (λ q. g.supply_proper i (sym q ∙ e)) (λ w. never (let f = sym e ∙ w.2 in cc)) (here-either net j i);
        unused = g.unused;
        used = λ i l. let h = g.used i l in moved h (stays _ h.from_here (λ k. (apart i k).0)) (stays _ h.to_here (λ k. (apart i k).1));
      }
    where
      apart : (i : ℕ) → 1 ≤ j → ((arc_at net i).from ≡ j → ⊥) × ((arc_at net i).to ≡ j → ⊥)
      apart i k = by (eqb (arc_at net i).from j) refl (eqb (arc_at net i).to j) refl (free k i)
        where
          by : (s : Bool) → eqb (arc_at net i).from j ≡ s → (t : Bool) → eqb (arc_at net i).to j ≡ t → (s || t) ≡ false → ((arc_at net i).from ≡ j → ⊥) × ((arc_at net i).to ≡ j → ⊥)
          by true a t b e = never cc
          by false a true b e = never cc
          by false a false b e = (eqb-false _ _ a, eqb-false _ _ b)

      stays : (i : ℕ) → is_here net i ≡ true → (1 ≤ j → i ≡ j → ⊥) → is_here (without net j) i ≡ true
      stays i e ne = ⊎_elim (λ q. q ∙ e) (λ w. absurd (ne w.0 w.1)) (here-either net j i)
