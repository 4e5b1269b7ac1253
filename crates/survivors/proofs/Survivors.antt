-- What is left of a legal network, at its new numbers; and a pair that is optimal there, read at them, is optimal in the whole and has the same value there.
use mathlib.Core.Path.{◌≡◌, refl, sym, ap, ap₂, ◌∙◌, subst}
use mathlib.Core.Bool.{Bool, true, false, cond}
use mathlib.Core.List.{List}
use Prim.Native.Nat.{ℕ, zero, suc, ◌+◌, ◌-◌, ◌≤◌, ◌<◌}
use native.Mathlib.Numerals.{add-one}
use native.Mathlib.Omega.{arith}
use lib.Dec.{T}
use lib.ListN.{replicate}
use borrow.Author.Tests.{lt-ltb, eq-eqb, ne_eqb}
use Rattle.loops.specs.Loops.{upto, count}
use Rattle.loops.proofs.Laws.{count-le, count-shift}
use Rattle.algebra.specs.Rat.{ℚ, ◌+ℚ◌, 0_ℚ}
use Rattle.algebra.specs.Sum.{range, only}
use Rattle.algebra.proofs.Sum.{range-mem}
use Rattle.presolve.specs.LP.{LP, Pair}
use Rattle.presolve.proofs.Step.{SoundStep, then}
use Rattle.presolve.proofs.Renumber.{Numbering, Renumbered, survivor, find, renumber-sound}
use Rattle.presolve.proofs.Spare.{listed, Spare, spare-sound}
use Rattle.presolve.specs.Net.{column, column_at, rhs_at}
use Rattle.presolve.proofs.Net.{column-in, gone-out, rhs-in, rhs-out, row_out}
use Rattle.fraction.specs.Exact.{no_figure}
use Rattle.fraction.specs.Value.{value}
use Rattle.network.specs.declared.Arc.{Arc}
use Rattle.network.specs.declared.Net.{Net}
use Rattle.network.specs.Network.{no_arc, empty_net, arc_at, supply_at, is_here, with_arc, with_supply, with_node, is_used}
use Rattle.survivors.specs.Survivors.{rank_of, arc_rank, renumbered, pack_node, pack_arc, packed_of}
use Rattle.network.specs.Legal.{Legal, Gapless}
use Rattle.network.specs.Program.{exact_arc, exact_of, program_of}
use Rattle.network.proofs.Numbers.{number}
use Rattle.network.proofs.Kept.{here-number, used-number}
use Rattle.survivors.proofs.Packed.{rank-root, packed-legal}
use Rattle.network.proofs.Sane.{is_true, used-from, sane}
use Rattle.survivors.proofs.Ranks.{rank_is, count-more, found, numbers, numbering, mem-numbers, run-numbering, packs, packs-at}

-- ---- the survivors, list by list

module _ (net : Net) where
  -- how many of the nodes 1 to i, and of the arcs 1 to j, are left
  abbrev nodes : ℕ → ℕ
  nodes i = count (λ k. is_here net (k + 1)) i

  abbrev arcs : ℕ → ℕ
  arcs j = count (λ k. is_used net (k + 1)) j

  abbrev new_arcs : List Arc → ℕ → List Arc
  new_arcs l j = packs (is_used net) (λ k. renumbered net (arc_at net k)) l j

  -- the nodes up to i
  abbrev nodes_to : ℕ → Net
  nodes_to i = record { n = nodes i; m = 0; constant = net.constant; here = packs (is_here net) (λ _. true) (replicate 33 false) i; supply = packs (is_here net) (supply_at net) (replicate 33 no_figure) i; arcs = replicate 97 no_arc }

  node-more : (i : ℕ) → i < 32 → (b : Bool) → is_here net (i + 1) ≡ b → pack_node net i (nodes_to i) ≡ nodes_to (suc i)
  unfolding count packs pack_node with_node with_supply
  node-more i h true e = let room : nodes i < 32 = omega (arith, count-le (λ k. is_here net (k + 1)) i) in rw (e, lt-ltb (nodes i) 32 room, number 32 (nodes i) room)
  node-more i h false e = rw e

  nodes-are : (i : ℕ) → i ≤ 32 → upto (pack_node net) i (empty_net 0 0 net.constant) ≡ nodes_to i
  unfolding upto count packs
  nodes-are zero h = refl
  nodes-are (suc i) h = rw (nodes-are i (omega (arith, add-one i))) (node-more i (omega (arith, add-one i)) (is_here net (i + 1)) refl)

  module _ (p : Net) where
    -- the arcs up to j, behind the nodes of p
    abbrev arcs_to : ℕ → Net
    arcs_to j = record { n = p.n; m = arcs j; constant = p.constant; here = p.here; supply = p.supply; arcs = new_arcs p.arcs j }

    arc-more : (j : ℕ) → j < 96 → (b : Bool) → is_used net (j + 1) ≡ b → pack_arc net j (arcs_to j) ≡ arcs_to (suc j)
    unfolding count packs pack_arc with_arc
    arc-more j h true e = let room : arcs j < 96 = omega (arith, count-le (λ k. is_used net (k + 1)) j) in rw (e, lt-ltb (arcs j) 96 room, number 96 (arcs j) room)
    arc-more j h false e = rw e

    arcs_are : p.m ≡ 0 → (j : ℕ) → j ≤ 96 → upto (pack_arc net) j p ≡ arcs_to j
    unfolding upto count packs
    arcs_are z zero h = rw (← z)
    arcs_are z (suc j) h = rw (arcs_are z j (omega (arith, add-one j))) (arc-more j (omega (arith, add-one j)) (is_used net (j + 1)) refl)

  pub packed-is : packed_of net ≡ arcs_to (nodes_to 32) 96
  unfolding packed_of
  packed-is = rw (nodes-are 32 (omega arith)) (arcs_are _ refl 96 (omega arith))

-- ---- what stands at a new number

module _ {net : Net} (g : Legal net) where
  unused-0 : is_used net 0 ≡ false
  unused-0 = rw (eq-eqb (arc_at net 0).from 0 g.no-arc)

  -- n and m are how many are left
  pub nodes-left : (packed_of net).n ≡ count (is_here net) 33
  nodes-left = ap (λ (p : Net). p.n) (packed-is net) ∙ sym (count-shift (is_here net) 32 g.no_node)

  pub arcs-left : (packed_of net).m ≡ count (is_used net) 97
  arcs-left = ap (λ (p : Net). p.m) (packed-is net) ∙ sym (count-shift (is_used net) 96 unused-0)

  -- a new number is one more than how many are left before it
  rank-node : (i : ℕ) → is_here net i ≡ true → rank_of net i ≡ count (is_here net) i + 1
  unfolding rank_of
  rank-node i e = let h = here-number g i e in rank_is (is_here net) 33 i (omega arith) e

  rank-arc : (j : ℕ) → is_used net j ≡ true → arc_rank net j ≡ count (is_used net) j + 1
  unfolding arc_rank
  rank-arc j e = let h = used-number g j (used-from g j e) in rank_is (is_used net) 97 j (omega arith) e

  -- a node in use, and an arc in use, at their new numbers
  pub node-there : (i : ℕ) → is_here net i ≡ true → is_here (packed_of net) (rank_of net i) ≡ true
  node-there i e = let h = here-number g i e in rw (packed-is net, rank-node i e) (packs-at (is_here net) (λ _. true) (replicate 33 false) false 32 i g.no_node (omega arith) (omega arith) e)

  pub supply-there : (i : ℕ) → is_here net i ≡ true → supply_at (packed_of net) (rank_of net i) ≡ supply_at net i
  supply-there i e = let h = here-number g i e in rw (packed-is net, rank-node i e) (packs-at (is_here net) (supply_at net) (replicate 33 no_figure) no_figure 32 i g.no_node (omega arith) (omega arith) e)

  pub arc-there : (j : ℕ) → is_used net j ≡ true → arc_at (packed_of net) (arc_rank net j) ≡ renumbered net (arc_at net j)
  arc-there j e =
      let h = used-number g j (used-from g j e) in
      rw (packed-is net, rank-arc j e) (packs-at (is_used net) (λ k. renumbered net (arc_at net k)) (replicate 97 no_arc) no_arc 96 j unused-0 (omega arith) (omega arith) e)

  nodes-numbered : Numbering (is_here net) (rank_of net) (range 33) (numbers (packed_of net).n)
  nodes-numbered = rw nodes-left (numbering (is_here net) (rank_of net) 33 (λ i l e. rank-node i e))

  arcs-numbered : Numbering (is_used net) (arc_rank net) (range 97) (numbers (packed_of net).m)
  arcs-numbered = rw arcs-left (numbering (is_used net) (arc_rank net) 97 (λ j l e. rank-arc j e))

  -- new numbers are from 1 to n, and from 1 to m
  pub node-number : (i : ℕ) → is_here net i ≡ true → (1 ≤ rank_of net i) × (rank_of net i ≤ (packed_of net).n)
  node-number i e =
      let h = here-number g i e in
      let c = count-more (is_here net) i 33 (omega arith) e in
      (omega (arith, rank-node i e), omega (arith, rank-node i e, nodes-left))

  pub arc-number : (j : ℕ) → is_used net j ≡ true → (1 ≤ arc_rank net j) × (arc_rank net j ≤ (packed_of net).m)
  arc-number j e =
      let h = used-number g j (used-from g j e) in
      let c = count-more (is_used net) j 97 (omega arith) e in
      (omega (arith, rank-arc j e), omega (arith, rank-arc j e, arcs-left))

  -- and each of these is one
  pub node_of : (k : ℕ) → 1 ≤ k → k ≤ (packed_of net).n → (i : ℕ) × (is_here net i ≡ true) × (k ≡ rank_of net i)
  node_of k a b = let v = survivor nodes-numbered k (mem-numbers _ k a b) in (v.old, is_true _ v.is_kept, v.number)

  pub arc-of : (k : ℕ) → 1 ≤ k → k ≤ (packed_of net).m → (j : ℕ) × (is_used net j ≡ true) × (k ≡ arc_rank net j)
  arc-of k a b = let v = survivor arcs-numbered k (mem-numbers _ k a b) in (v.old, is_true _ v.is_kept, v.number)

  -- so the nodes in use are 1 to n, and the arcs in use 1 to m
  pub node-within : (k : ℕ) → 1 ≤ k → k ≤ (packed_of net).n → is_here (packed_of net) k ≡ true
  node-within k a b = let v = node_of k a b in rw v.2 (node-there v.0 v.1)

  pub node-beyond : (k : ℕ) → (packed_of net).n < k → is_here (packed_of net) k ≡ false
  node-beyond = (packed-legal g).nodes_beyond

  pub arc-within : (k : ℕ) → 1 ≤ k → k ≤ (packed_of net).m → is_used (packed_of net) k ≡ true
  arc-within k a b =
      let v = arc-of k a b in
      let f = (g.used v.0 (used-from g v.0 v.1)).from_here in
      rw (v.2, arc-there v.0 v.1, ne_eqb (rank_of net (arc_at net v.0).from) 0 (λ q. omega (arith, rank-node _ f)))

  pub arc-beyond : (k : ℕ) → (packed_of net).m < k → is_used (packed_of net) k ≡ false
  arc-beyond k l = rw (eq-eqb (arc_at (packed_of net) k).from 0 ((packed-legal g).arcs_beyond k l))

  pub packed-gapless : Gapless (packed_of net)
  packed-gapless =
      record {
        node_in = node-within;
        arc-in = λ k a b. used-from (packed-legal g) k (arc-within k a b);
      }

-- ---- a pair of the survivors, read at their new numbers; 0 elsewhere

abbrev pub spread : Net → Pair → Pair
spread net s = record { flow = λ j. cond (is_used net j) (s.flow (arc_rank net j)) 0_ℚ; price = λ i. cond (is_here net i) (s.price (rank_of net i)) 0_ℚ }

module _ {net : Net} (g : Legal net) where
  -- the program of the survivors, without spare places
  abbrev left : LP
  left = listed (program_of (packed_of net)) (numbers (packed_of net).n) (numbers (packed_of net).m)

  spare : Spare (program_of (packed_of net)) (is_here (packed_of net)) (is_used (packed_of net)) (numbers (packed_of net).n) (numbers (packed_of net).m)
  unfolding exact_of
  spare =
      let h = packed-legal g in
      record {
        rows_in = run-numbering (is_here (packed_of net)) (packed_of net).n h.no_node (node-within g) (node-beyond g) 33 (omega (arith, h.few_nodes));
        cols_in = run-numbering (is_used (packed_of net)) (packed_of net).m (unused-0 h) (arc-within g) (arc-beyond g) 97 (omega (arith, h.few_arcs));
        gone_col = λ c m n. gone-out (exact_of (packed_of net)) c n;
        gone_row = λ c s m i n. row_out (exact_of (packed_of net)) (sane h) c s m n;
        gone_rhs = λ s m n. rhs-out (exact_of (packed_of net)) s n;
      }

  -- a column and a right-hand side at their new numbers
  column-there : (j : ℕ) → T (is_used net j) → column_at (exact_of (packed_of net)) (arc_rank net j) ≡ column (exact_arc (renumbered net (arc_at net j)))
  unfolding exact_of
  column-there j k =
      let e = is_true (is_used net j) k in
      let h = arc-number g j e in
      column-in (exact_of (packed_of net)) (arc_rank net j) (subst T (sym (arc-within g (arc_rank net j) h.0 h.1)) tt) ∙ ap (λ (t : Arc). column (exact_arc t)) (arc-there g j e)

  rhs-there : (i : ℕ) → T (is_here net i) → rhs_at (exact_of (packed_of net)) (rank_of net i) ≡ value (supply_at net i)
  unfolding exact_of
  rhs-there i k =
      let e = is_true (is_here net i) k in
      rhs-in (exact_of (packed_of net)) (rank_of net i) (subst T (sym (node-there g i e)) tt) ∙ ap value (supply-there g i e)

  -- the factor at a node, and at its new number
  only-there : (k i : ℕ) (v : ℚ) → is_here net k ≡ true → T (is_here net i) → only k v i ≡ only (rank_of net k) v (rank_of net i)
  only-there k i v e f = rw (rank-root g i k (is_true (is_here net i) f) e)

  renumbers : Renumbered (program_of net) left (is_here net) (is_used net) (rank_of net) (arc_rank net)
  unfolding exact_of
  renumbers =
      record {
        rows = nodes-numbered g;
        cols = arcs-numbered g;
        origin = λ k. find (is_used net) 97 (k - 1);
        origin_is = λ j m k. rw (rank-arc g j (is_true (is_used net j) k)) (found (is_used net) 97 j (range-mem j 97 m) (is_true (is_used net j) k));
        coef_is = λ j i m k mi ki.
            let t = g.used j (used-from g j (is_true (is_used net j) k)) in
            ap (λ c. c.coef i) (column-in (exact_of net) j k) ∙ ap₂ ◌+ℚ◌ (only-there _ i (value (arc_at net j).a) t.from_here ki) (only-there _ i (value (arc_at net j).b) t.to_here ki) ∙ sym (ap (λ c. c.coef (rank_of net i)) (column-there j k));
        cost_is = λ j m k. ap (λ c. c.cost) (column-in (exact_of net) j k) ∙ sym (ap (λ c. c.cost) (column-there j k));
        lower_is = λ j m k. ap (λ c. c.lower) (column-in (exact_of net) j k) ∙ sym (ap (λ c. c.lower) (column-there j k));
        upper_is = λ j m k. ap (λ c. c.upper) (column-in (exact_of net) j k) ∙ sym (ap (λ c. c.upper) (column-there j k));
        rhs_is = λ i m k. rhs-in (exact_of net) i k ∙ sym (rhs-there i k);
        constant_is = ap (λ (p : Net). value p.constant) (sym (packed-is net));
        gone_col = λ j m n. gone-out (exact_of net) j n;
        gone_row = λ j i m mi n. row_out (exact_of net) (sane g) j i m n;
        gone_rhs = λ i m n. rhs-out (exact_of net) i n;
      }

  -- taking the survivors alone is a sound step
  pub survivors-sound : SoundStep (program_of net) (program_of (packed_of net)) (spread net)
  survivors-sound = then (renumber-sound renumbers (λ _. 0_ℚ)) (spare-sound spare)
