-- What is known of earlier searches, and that a run keeps it.
use mathlib.Core.Path.{◌≡◌, refl, ap, ◌∙◌}
use mathlib.Core.List.{[], ◌∷◌}
use mathlib.Core.Bool.{true, false, and-false}
use Prim.Native.Nat.{ℕ, zero, suc, ◌≤◌, ◌<◌}
use native.Mathlib.Omega.{arith}
use borrow.Author.Tests.{lt-leb, ltb-true, ltb-false, eqb-true, eqb-false}
use lib.Dec.{ltb, eqb}
use lib.ListN.{set, replicate, length-set, length-replicate}
use lib.Seq.{get_or-set_same, get_or-set_other}
use Rattle.network.specs.declared.Arc.{Arc}
use Rattle.network.specs.declared.Net.{Net}
use Rattle.network.specs.declared.Edit.{Edit}
use Rattle.network.specs.Network.{arc_at, with_arc, with_supply, without, applied}
use Rattle.step.proofs.Frame.{arc-left}
use Rattle.step.proofs.Lines.{split}
use Rattle.costly_arc.specs.declared.Times.{Times}
use Rattle.costly_arc.specs.CostlyArc.{has_pair}
use Rattle.costly_arc.specs.Seen.{Seen, never, put_at, sought_at, is_old, Searched, Known, nothing_seen, put_now, marked, marked_all}
use Rattle.costly_arc.proofs.Pairs.{each-pair}

-- where the times v are written at j
sought-set : (s : Seen) (j i : ℕ) (v : Times) (n : ℕ) → sought_at s i ≤ n → v.sought ≤ n → sought_at (set s j v) i ≤ n
sought-set [] j i v n h k = h
sought-set (x ∷ s) zero zero v n h k = k
sought-set (x ∷ s) zero (suc i) v n h k = h
sought-set (x ∷ s) (suc j) zero v n h k = h
sought-set (x ∷ s) (suc j) (suc i) v n h k = sought-set s j i v n h k

sought-zero : (s : Seen) (k now : ℕ) → sought_at (put_now s k now) k ≤ 0
sought-zero [] k now = omega arith
sought-zero (x ∷ s) zero now = omega arith
sought-zero (x ∷ s) (suc k) now = sought-zero s k now

zeros : (n j : ℕ) → sought_at (replicate n never) j ≤ 0
zeros zero j = omega arith
zeros (suc n) zero = omega arith
zeros (suc n) (suc j) = zeros n j

-- ---- before the first search, and as time goes on

pub searched-never : (net : Net) (seen : Seen) (t : Arc) → Searched net seen 0 t
searched-never net seen t x y l m e f = absurd (omega (arith, ltb-true (put_at seen x) 0 e))

pub known-nothing : (net : Net) → Known net 0 nothing_seen
known-nothing net =
    record {
      past = λ j. zeros 97 j;
      long = length-replicate 97 never;
      vain = λ j x y l m e f. absurd (omega (arith, ltb-true (put_at nothing_seen x) (sought_at nothing_seen j) e, zeros 97 j));
    }

-- ---- a pair was sought, in vain

abbrev pub sought_now : Seen → ℕ → ℕ → Seen
sought_now seen j now = set seen j (record { put = put_at seen j; sought = now })

-- no arc is put
pub put-sought : (seen : Seen) (j now i : ℕ) → put_at (sought_now seen j now) i ≡ put_at seen i
put-sought [] j now i = refl
put-sought (x ∷ s) zero now zero = refl
put-sought (x ∷ s) zero now (suc i) = refl
put-sought (x ∷ s) (suc j) now zero = refl
put-sought (x ∷ s) (suc j) now (suc i) = put-sought s j now i

pub known-sought : {net : Net} {now : ℕ} {seen : Seen} → Known net now seen → (j : ℕ) → has_pair net (arc_at net j) ≡ false → Known net now (sought_now seen j now)
known-sought {net} {now} {seen} k j e = record { past = λ i. sought-set seen j i _ now (k.past i) (omega arith); long = length-set seen j _ ∙ k.long; vain = vain }
  where
    vain : (i : ℕ) → Searched net (sought_now seen j now) (sought_at (sought_now seen j now) i) (arc_at net i)
    vain i x y l m p q =
        split (eqb i j) (λ f. rw (eqb-true i j f) (each-pair net (arc_at net j) e x y l m))
        (λ f. let o : sought_at (sought_now seen j now) i ≡ sought_at seen i = ap (λ (t : Times). t.sought) (get_or-set_other seen j i _ never (eqb-false i j f)) in
        k.vain i x y l m (rw (o, put-sought seen j now x) at p) (rw (o, put-sought seen j now y) at q))

-- ---- arcs are put

-- an arc of no number is not put
put-out : (net : Net) (k : ℕ) (a : Arc) → 97 ≤ k → with_arc net k a ≡ net
unfolding with_arc
put-out net k a g = rw (lt-leb k 96 (omega arith), and-false)

known-put : {net : Net} {now : ℕ} {seen : Seen} → Known net now seen → (k : ℕ) (a : Arc) → Known (with_arc net k a) now (marked seen k now)
unfolding marked
known-put {net} {now} {seen} h k a =
    split (ltb k 97)
    (λ e. rw e (record { past = λ j. sought-set seen k j _ now (h.past j) (omega arith); long = length-set seen k _ ∙ h.long; vain = vain (ltb-true k 97 e) }))
    (λ e. rw (e, put-out net k a (ltb-false k 97 e)) h)
  where
    after : Seen
    after = put_now seen k now

    -- what is old still is no arc that was put, and was old
    old : k < 97 → (w x : ℕ) → w ≤ now → is_old after w x ≡ true → (x ≡ k → ⊥) × (is_old seen w x ≡ true)
    old l w x p e =
        let ne : x ≡ k → ⊥ = λ q. let s : put_at after x ≡ now = rw q (ap (λ (t : Times). t.put) (get_or-set_same seen k _ never (omega (arith, h.long)))) in omega (arith, ltb-true (put_at after x) w e, s) in
        let o : put_at after x ≡ put_at seen x = ap (λ (t : Times). t.put) (get_or-set_other seen k x _ never ne) in
        (ne, rw o at e)

    vain : k < 97 → (j : ℕ) → Searched (with_arc net k a) after (sought_at after j) (arc_at (with_arc net k a) j)
    vain l j x y lx ly p q =
        split (eqb j k)
        (λ f. let p' : is_old after (sought_at after k) x ≡ true = rw (eqb-true j k f) at p in absurd (omega (arith, ltb-true (put_at after x) (sought_at after k) p', sought-zero seen k now)))
        (λ f. let ne = eqb-false j k f in
        let o : sought_at after j ≡ sought_at seen j = ap (λ (t : Times). t.sought) (get_or-set_other seen k j _ never ne) in
        let u = old l _ x (h.past j) (rw o at p) in
        let v = old l _ y (h.past j) (rw o at q) in
        rw (arc-left net k a j (λ _. ne), arc-left net k a x (λ _. u.0), arc-left net k a y (λ _. v.0)) (h.vain j x y lx ly u.1 v.1))

-- a step taken now
pub known-after : {net : Net} {now : ℕ} {seen : Seen} → Known net now seen → (edit : Edit) → Known (applied net edit) now (marked_all seen edit now)
unfolding applied without with_supply
known-after h edit =
    let k = known-put (known-put (known-put (known-put h edit.one.number edit.one.arc) edit.two.number edit.two.arc) edit.three.number edit.three.arc) edit.four.number edit.four.arc in
    record { past = k.past; long = k.long; vain = k.vain }

-- what is known stays known as time goes on
pub known-later : {net : Net} {now later : ℕ} {seen : Seen} → Known net now seen → now ≤ later → Known net later seen
known-later k h = record { past = λ j. omega (arith, k.past j); long = k.long; vain = k.vain }
