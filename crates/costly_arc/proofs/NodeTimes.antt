-- The loop over the arcs that finds each node's time.
use mathlib.Core.Path.{◌≡◌, refl, sym, ◌∙◌}
use mathlib.Core.Bool.{true, false, ◌&&◌}
use mathlib.Core.List.{List}
use Prim.Native.Nat.{ℕ, ◌+◌, ◌≤◌, ◌<◌}
use native.Mathlib.Nat.{not-suc-le-zero}
use native.Mathlib.Omega.{arith}
use borrow.Author.Tests.{eq-eqb, eqb-true, eqb-false, lt-ltb, ltb-true, ltb-false}
use lib.Dec.{eqb, ltb}
use lib.ListN.{length, get_or, replicate, length-set, length-replicate}
use lib.Seq.{get_or-set_same, get_or-set_other}
use Rattle.fraction.proofs.Laws.{and_both}
use Rattle.network.specs.declared.Arc.{Arc}
use Rattle.network.specs.declared.Net.{Net}
use Rattle.network.specs.Network.{arc_at, is_root}
use Rattle.step.proofs.Lines.{split}
use Rattle.step.proofs.Touch.{unlike}
use Rattle.costly_arc.specs.CostlyArc.{is_open_root}
use Rattle.costly_arc.specs.Seen.{Seen, put_at}
use Rattle.costly_arc.specs.internal.Due.{Covers, later}

-- at its head, with the times by the arcs below k
pub record Timed (net : Net) (seen : Seen) (times : List ℕ) (k : ℕ) : Type 0 where
  pub upto : k ≤ 97
  pub long : length times ≡ 33
  pub covers : (i x : ℕ) → i < 33 → x < k → is_open_root (arc_at net x) i ≡ true → put_at seen x < get_or times i 0

pub timed-none : (net : Net) (seen : Seen) → Timed net seen (replicate 33 0) 0
timed-none net seen = record { upto = omega arith; long = length-replicate {A = ℕ} 33 0; covers = λ i x l m e. absurd (not-suc-le-zero m) }

-- a root arc's node is its from node
pub root-at : (t : Arc) (i : ℕ) → is_open_root t i ≡ true → (t.from ≡ i) × (is_open_root t t.from ≡ true)
unfolding is_open_root
root-at t i e =
    let r = and_both (is_root t) _ e in
    let f = and_both (eqb t.from i) _ r.1 in
    (eqb-true _ _ f.0, rw (r.0, eq-eqb t.from t.from refl) f.1)

-- a later time: no node's is earlier than before, and its own is not before p
later-grows : (ts : List ℕ) (j p i : ℕ) → length ts ≡ 33 → get_or ts i 0 ≤ get_or (later ts j p) i 0
later-grows ts j p i long =
    split (ltb j 33 && ltb (get_or ts j 0) p)
    (λ e. let b = and_both (ltb j 33) _ e in
    rw e (split (eqb i j) (λ f. rw (eqb-true i j f, get_or-set_same ts j p 0 (omega (arith, ltb-true j 33 b.0))) (omega (arith, ltb-true (get_or ts j 0) p b.1))) (λ f. rw (get_or-set_other ts j i p 0 (eqb-false i j f)) (omega arith))))
    (λ e. rw e (omega arith))

later-own : (ts : List ℕ) (i p : ℕ) → length ts ≡ 33 → i < 33 → p ≤ get_or (later ts i p) i 0
later-own ts i p long l = rw (lt-ltb i 33 l) (split (ltb (get_or ts i 0) p) (λ e. rw (e, get_or-set_same ts i p 0 (omega arith)) (omega arith)) (λ e. rw e (ltb-false (get_or ts i 0) p e)))

module _ {net : Net} {seen : Seen} {times : List ℕ} {k : ℕ} (h : Timed net seen times k) (l : k < 97) {to : List ℕ} where
  timed-next : length to ≡ 33 → ((i : ℕ) → get_or times i 0 ≤ get_or to i 0) → ((i : ℕ) → i < 33 → is_open_root (arc_at net k) i ≡ true → put_at seen k < get_or to i 0) → Timed net seen to (k + 1)
  timed-next long grows own =
      record {
        upto = omega arith;
        long = long;
        covers = λ i x m n o. split (eqb x k) (λ f. let z = eqb-true x k f in rw z (own i m (rw z at o))) (λ f. let d = eqb-false x k f in omega (arith, h.covers i x m (omega arith) o, grows i));
      }

  pub timed-skip : is_open_root (arc_at net k) (arc_at net k).from ≡ false → to ≡ times → Timed net seen to (k + 1)
  timed-skip e q = timed-next (rw q h.long) (λ i. rw q (omega arith)) (λ i m o. unlike (sym e ∙ (root-at (arc_at net k) i o).1))

  pub timed-more : {a : ℕ} → a ≡ put_at seen k + 1 → to ≡ later times (arc_at net k).from a → Timed net seen to (k + 1)
  timed-more {a} d q =
      let f = (arc_at net k).from in
      timed-next (rw q (split (ltb f 33 && ltb (get_or times f 0) a) (λ e. rw (e, length-set times f a) h.long) (λ e. rw e h.long))) (λ i. rw q (later-grows times f a i h.long))
      (λ i m o. let z : f ≡ i = (root-at (arc_at net k) i o).0 in rw (q, ← z) (omega (arith, later-own times f a h.long (rw (← z) at m))))

pub timed-all : {net : Net} {seen : Seen} {times : List ℕ} {k : ℕ} → Timed net seen times k → 97 ≤ k → Covers net seen times
timed-all {k = k} h l i x m n = let e : k ≡ 97 = omega (arith, h.upto) in h.covers i x m (omega arith)
