-- The survivors are no more than there is room for, and they are a legal network where the whole was.
use mathlib.Core.Path.{◌≡◌, refl, sym, ap, ◌∙◌}
use mathlib.Core.Bool.{Bool, true, false, cond, ◌&&◌}
use mathlib.Core.Logic.{inr}
use Prim.Native.Nat.{ℕ, zero, suc, ◌+◌, ◌≤◌, ◌<◌}
use native.Mathlib.Numerals.{add-one}
use native.Mathlib.Omega.{arith}
use lib.Dec.{eqb, ltb, leb}
use lib.ListN.{get_or, length-set}
use lib.Seq.{get_or-set_same, get_or-set_other}
use borrow.Author.Tests.{lt-ltb, ltb-true, ltb-false, le-leb, lt-leb, leb-true, eqb-true, eqb-false, eq-eqb, ne_eqb}
use Rattle.loops.specs.Loops.{build, upto, count}
use Rattle.loops.proofs.Laws.{get_or-build, upto-keeps, count_same, count-le, count-mono, count_under, count-shift, count-some}
use Rattle.fraction.specs.declared.Fraction.{Fraction}
use Rattle.fraction.specs.Exact.{Proper, no_figure}
use Rattle.fraction.proofs.Laws.{and_both, never}
use Rattle.network.specs.declared.Arc.{Arc}
use Rattle.network.specs.declared.Net.{Net}
use Rattle.network.specs.Network.{no_arc, empty_net, arc_at, supply_at, is_here, is_used, is_root, with_arc, with_supply, with_node}
use Rattle.survivors.specs.Survivors.{rank_of, renumbered, with_sizes, pack_node, pack_arc, packed_of}
use Rattle.survivors.specs.internal.Ranks.{placed}
use Rattle.network.specs.Legal.{LegalArc, Legal}
use Rattle.network.proofs.Numbers.{number, get_or-all}
use Rattle.network.proofs.Kept.{here-number, moved, arc-kept}
use Rattle.network.proofs.Sane.{used-from}

-- ---- new numbers

-- beyond the last number nothing is counted
rank-past : (net : Net) (i : ℕ) → 33 ≤ i → rank_of net 32 ≡ rank_of net i
unfolding rank_of
rank-past net i h = count_same (λ k. is_here net k && leb k i) (λ k. is_here net k && leb k 32) 33 (λ k l. rw (le-leb k 32 (omega arith), le-leb k i (omega arith)))

-- as a list has them
pub placed-is : (net : Net) (i : ℕ) → placed (build 33 (rank_of net)) i ≡ rank_of net i
placed-is net i = by (ltb i 33) refl
  where
    by : (b : Bool) → ltb i 33 ≡ b → cond b (get_or (build 33 (rank_of net)) i 0) (get_or (build 33 (rank_of net)) 32 0) ≡ rank_of net i
    by true e = get_or-build 33 (rank_of net) 0 i (ltb-true i 33 e)
    by false e = get_or-build 33 (rank_of net) 0 32 (omega arith) ∙ rank-past net i (ltb-false i 33 e)

module _ {net : Net} (g : Legal net) where
  -- how many nodes are left
  abbrev total : ℕ
  total = count (λ k. is_here net (k + 1)) 32

  up_to : (i : ℕ) → is_here net i ≡ true → (is_here net i && leb i i) ≡ true
  up_to i e = rw (e, le-leb i i (omega arith))

  rank-low : (i : ℕ) → is_here net i ≡ true → 1 ≤ rank_of net i
  unfolding rank_of
  rank-low i e = let h = here-number g i e in count-some (λ k. is_here net k && leb k i) 33 i (omega arith) (up_to i e)

  rank-high : (i : ℕ) → rank_of net i ≤ total
  unfolding rank_of
  rank-high i =
      let s = count-shift (λ k. is_here net k && leb k i) 32 (rw g.no_node) in
      rw s (count-mono (λ k. is_here net (k + 1)) (λ k. is_here net (k + 1) && leb (k + 1) i) 32 (λ k e. (and_both (is_here net (k + 1)) _ e).0))

  rank_less : (i j : ℕ) → is_here net j ≡ true → i < j → rank_of net i < rank_of net j
  unfolding rank_of
  rank_less i j e l =
      let h = here-number g j e in
      count_under (λ k. is_here net k && leb k j) (λ k. is_here net k && leb k i) 33 j (omega arith) (up_to j e)
      (rw (e, lt-leb j i l))
      (λ k q. let b = and_both (is_here net k) _ q in rw (b.0, le-leb k j (omega (arith, leb-true k i b.1))))

  pub rank-root : (i j : ℕ) → is_here net i ≡ true → is_here net j ≡ true → eqb (rank_of net i) (rank_of net j) ≡ eqb i j
  rank-root i j e f = by (ltb i j) refl (ltb j i) refl
    where
      by : (s : Bool) → ltb i j ≡ s → (t : Bool) → ltb j i ≡ t → eqb (rank_of net i) (rank_of net j) ≡ eqb i j
      by true a t b = let l = ltb-true i j a in ne_eqb (rank_of net i) (rank_of net j) (λ q. omega (arith, rank_less i j f l)) ∙ sym (ne_eqb i j (λ q. omega arith))
      by false a true b = let l = ltb-true j i b in ne_eqb (rank_of net i) (rank_of net j) (λ q. omega (arith, rank_less j i e l)) ∙ sym (ne_eqb i j (λ q. omega arith))
      by false a false b =
          let q : i ≡ j = omega (arith, ltb-false i j a, ltb-false j i b) in
          eq-eqb _ _ (ap (rank_of net) q) ∙ sym (eq-eqb i j q)

-- ---- the network so far: legal, with all its numbers up to n

empty-legal : {constant : Fraction} → Proper constant → Legal (empty_net 0 0 constant)
empty-legal ok =
    record {
      here_long = refl;
      supply_long = refl;
      arcs_long = refl;
      few_nodes = omega arith;
      few_arcs = omega arith;
      no_node = refl;
      no-arc = refl;
      nodes_beyond = λ i l. get_or-all 33 i false;
      arcs_beyond = λ j l. ap (λ (t : Arc). t.from) (get_or-all 97 j no_arc);
      constant_proper = ok;
      supply_proper = λ i e. never (let f = sym e ∙ get_or-all 33 i false in cc);
      unused = λ j e. get_or-all 97 j no_arc;
      used = λ j l. absurd (omega (arith, ap (λ (t : Arc). t.from) (get_or-all 97 j no_arc)));
    }

-- sizes may grow
sizes-legal : {p : Net} → Legal p → (n m : ℕ) → p.n ≤ n → p.m ≤ m → n ≤ 32 → m ≤ 96 → Legal (with_sizes p n m)
sizes-legal g n m a b h k =
    record {
      here_long = g.here_long;
      supply_long = g.supply_long;
      arcs_long = g.arcs_long;
      few_nodes = h;
      few_arcs = k;
      no_node = g.no_node;
      no-arc = g.no-arc;
      nodes_beyond = λ i l. g.nodes_beyond i (omega (arith, a, l));
      arcs_beyond = λ j l. g.arcs_beyond j (omega (arith, b, l));
      constant_proper = g.constant_proper;
      supply_proper = g.supply_proper;
      unused = g.unused;
      used = λ j l. let h = g.used j l in moved h h.from_here h.to_here;
    }

module _ {p : Net} (g : Legal p) (j : ℕ) (r : Fraction) (h : j < 32) where
  here-new : is_here (with_node p (j + 1) r) (j + 1) ≡ true
  unfolding with_node with_supply
  here-new = rw (number 32 j h) (get_or-set_same p.here (j + 1) true false (omega (arith, g.here_long)))

  here-old : (i : ℕ) → (i ≡ j + 1 → ⊥) → is_here (with_node p (j + 1) r) i ≡ is_here p i
  unfolding with_node with_supply
  here-old i ne = rw (number 32 j h) (get_or-set_other p.here (j + 1) i true false ne)

  here-still : (i : ℕ) → is_here p i ≡ true → is_here (with_node p (j + 1) r) i ≡ true
  here-still i e = by (eqb i (j + 1)) refl
    where
      by : (s : Bool) → eqb i (j + 1) ≡ s → is_here (with_node p (j + 1) r) i ≡ true
      by true q = rw (eqb-true i (j + 1) q) here-new
      by false q = here-old i (eqb-false i (j + 1) q) ∙ e

  node-legal : j < p.n → Proper r → Legal (with_node p (j + 1) r)
  unfolding with_node with_supply
  node-legal l ok =
      record {
        here_long = rw (number 32 j h) (length-set p.here (j + 1) true ∙ g.here_long);
        supply_long = rw (number 32 j h) (length-set p.supply (j + 1) r ∙ g.supply_long);
        arcs_long = g.arcs_long;
        few_nodes = g.few_nodes;
        few_arcs = g.few_arcs;
        no_node = here-old 0 (λ q. omega arith) ∙ g.no_node;
        no-arc = g.no-arc;
        nodes_beyond = λ i q. here-old i (λ e. omega (arith, l, q, e)) ∙ g.nodes_beyond i q;
        arcs_beyond = g.arcs_beyond;
        constant_proper = g.constant_proper;
        supply_proper = λ i e. supplied i e (eqb i (j + 1)) refl;
        unused = g.unused;
        used = λ i l. let t = g.used i l in moved t (here-still _ t.from_here) (here-still _ t.to_here);
      }
    where
      supplied : (i : ℕ) → is_here (with_node p (j + 1) r) i ≡ true → (s : Bool) → eqb i (j + 1) ≡ s → Proper (supply_at (with_node p (j + 1) r) i)
      supplied i e true q = rw (number 32 j h, eqb-true i (j + 1) q, get_or-set_same p.supply (j + 1) r no_figure (omega (arith, g.supply_long))) ok
      supplied i e false q =
          let ne = eqb-false i (j + 1) q in
          rw (number 32 j h, get_or-set_other p.supply (j + 1) i r no_figure ne) (g.supply_proper i (sym (here-old i ne) ∙ e))

-- a legal network whose nodes are 1 to n
pub record Numbered (p : Net) (n : ℕ) : Type 0 where
  pub legal : Legal p
  pub here : (k : ℕ) → 1 ≤ k → k ≤ n → is_here p k ≡ true

-- the nodes up to i are packed
abbrev Packed : Net → ℕ → Net → Type 0
Packed net i p = (p.n ≡ count (λ k. is_here net (k + 1)) i) × Numbered p (count (λ k. is_here net (k + 1)) i)

module _ {net : Net} (g : Legal net) where
  node-packed : (i : ℕ) (p : Net) → i < 32 → Packed net i p → Packed net (suc i) (pack_node net i p)
  unfolding count pack_node with_node with_supply
  node-packed i p h k = next (is_here net (i + 1)) refl
    where
      room : p.n < 32
      room = omega (arith, k.0, count-le (λ k. is_here net (k + 1)) i)

      sized : Legal (with_sizes p (p.n + 1) p.m)
      sized = sizes-legal k.1.legal (p.n + 1) p.m (omega arith) (omega arith) (omega (arith, room)) k.1.legal.few_arcs

      at : (j : ℕ) → 1 ≤ j → j ≤ count (λ k. is_here net (k + 1)) i + 1 → (s : Bool) → eqb j (p.n + 1) ≡ s → is_here (with_node (with_sizes p (p.n + 1) p.m) (p.n + 1) (supply_at net (i + 1))) j ≡ true
      at j a b true q = rw (eqb-true j (p.n + 1) q) (here-new sized p.n (supply_at net (i + 1)) room)
      at j a b false q = here-still sized p.n (supply_at net (i + 1)) room j (k.1.here j a (omega (arith, k.0, eqb-false j (p.n + 1) q)))

      grown : is_here net (i + 1) ≡ true → Numbered (with_node (with_sizes p (p.n + 1) p.m) (p.n + 1) (supply_at net (i + 1))) (count (λ k. is_here net (k + 1)) i + 1)
      grown e =
          record {
            legal = node-legal sized p.n (supply_at net (i + 1)) room (omega arith) (g.supply_proper (i + 1) e);
            here = λ j a b. at j a b (eqb j (p.n + 1)) refl;
          }

      next : (s : Bool) → is_here net (i + 1) ≡ s → Packed net (suc i) (pack_node net i p)
      next false e = rw e k
      next true e = rw (e, lt-ltb p.n 32 room) (same, grown e)
        where
          same : (with_node (with_sizes p (p.n + 1) p.m) (p.n + 1) (supply_at net (i + 1))).n ≡ count (λ k. is_here net (k + 1)) i + 1
          same = ap (λ (n : ℕ). n + 1) k.0

  nodes-packed : (i : ℕ) → i ≤ 32 → Packed net i (upto (pack_node net) i (empty_net 0 0 net.constant))
  unfolding upto count
  nodes-packed zero h = (refl, record { legal = empty-legal g.constant_proper; here = λ k a b. absurd (omega arith) })
  nodes-packed (suc i) h = node-packed i _ (omega (arith, add-one i)) (nodes-packed i (omega (arith, add-one i)))

  -- an arc between the new numbers of its ends
  renumbered-legal : {p : Net} {t : Arc} → Numbered p (total g) → LegalArc net t → LegalArc p (renumbered net t)
  unfolding is_root
  renumbered-legal {p} {t} k h =
      record {
        from_here = k.here _ (rank-low g _ h.from_here) (rank-high g _);
        to_here = k.here _ (rank-low g _ h.to_here) (rank-high g _);
        cost_proper = h.cost_proper;
        lower_bound = h.lower_bound;
        upper_bound = h.upper_bound;
        a_proper = h.a_proper;
        b_proper = h.b_proper;
        a_nonzero = h.a_nonzero;
        b_zero = h.b_zero ∙ sym (rank-root g t.from t.to h.from_here h.to_here);
      }

  arc-packed : (j : ℕ) (p : Net) → Numbered p (total g) → Numbered (pack_arc net j p) (total g)
  unfolding pack_arc with_arc
  arc-packed j p k = by (is_used net (j + 1) && ltb p.m 96) refl
    where
      by : (s : Bool) → (is_used net (j + 1) && ltb p.m 96) ≡ s → Numbered (pack_arc net j p) (total g)
      by false e = rw e k
      by true e =
          let b = and_both (is_used net (j + 1)) _ e in
          let sized = sizes-legal k.legal p.n (p.m + 1) (omega arith) (omega arith) k.legal.few_nodes (omega (arith, ltb-true p.m 96 b.1)) in
          let fresh = renumbered-legal (record { legal = sized; here = k.here }) (g.used (j + 1) (used-from g (j + 1) b.0)) in
          rw e (record { legal = arc-kept sized (p.m + 1) (renumbered net (arc_at net (j + 1))) (inr (omega arith, fresh)); here = k.here })

  pub packed-numbered : Numbered (packed_of net) (total g)
  unfolding packed_of
  packed-numbered = upto-keeps (λ p. Numbered p (total g)) (pack_arc net) arc-packed 96 _ (nodes-packed 32 (omega arith)).1

-- the survivors of a legal network are one
pub packed-legal : {net : Net} → Legal net → Legal (packed_of net)
packed-legal g = (packed-numbered g).legal
