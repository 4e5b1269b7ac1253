-- The degrees of all nodes, counted in one pass over the arcs.
use mathlib.Core.Path.{◌≡◌, refl, sym, ap, ◌∙◌}
use mathlib.Core.Bool.{Bool, true, false, cond, ◌||◌}
use mathlib.Core.List.{List}
use Prim.Native.Nat.{ℕ, zero, suc, min, ◌+◌, ◌≤◌, ◌<◌}
use native.Mathlib.Numerals.{add-one}
use native.Mathlib.Omega.{arith}
use borrow.Author.Tests.{eqb-true, eqb-false, ltb-true, ltb-false, lt-ltb}
use lib.Dec.{eqb, ltb}
use lib.ListN.{get_or-eq_default, length, get_or, set, replicate, length-set, length-replicate}
use lib.Seq.{get_or-set_same, get_or-set_other}
use Rattle.loops.specs.Loops.{tally, count}
use Rattle.loops.proofs.Laws.{count-le}
use Rattle.network.specs.declared.Arc.{Arc}
use Rattle.network.specs.declared.Net.{Net}
use Rattle.network.specs.Network.{arc_at, is_touching, is_root, raised, counted_at, AreDegreesTo}

raised_long : (ds : List ℕ) (f : ℕ) → length (raised ds f) ≡ length ds
raised_long ds f = by (ltb f 33)
  where
    by : (b : Bool) → length (cond b (set ds f (get_or ds f 0 + 1)) ds) ≡ length ds
    by true = length-set ds f _
    by false = refl

raised-other : (ds : List ℕ) (f i : ℕ) → (i ≡ f → ⊥) → get_or (raised ds f) i 0 ≡ get_or ds i 0
raised-other ds f i n = by (ltb f 33)
  where
    by : (b : Bool) → get_or (cond b (set ds f (get_or ds f 0 + 1)) ds) i 0 ≡ get_or ds i 0
    by true = get_or-set_other ds f i _ 0 n
    by false = refl

raised_at : (ds : List ℕ) → length ds ≡ 33 → (f i : ℕ) → i < 33 → get_or (raised ds f) i 0 ≡ tally (eqb f i) (get_or ds i 0)
raised_at ds long f i l = by (eqb f i) refl
  where
    by : (b : Bool) → eqb f i ≡ b → get_or (raised ds f) i 0 ≡ tally b (get_or ds i 0)
    by true e = rw (eqb-true f i e, lt-ltb i 33 l) (get_or-set_same ds i (get_or ds i 0 + 1) 0 (omega arith))
    by false e = raised-other ds f i (λ q. eqb-false f i e (sym q))

-- at the head of the loop, with the arcs below j counted
pub record Tallied (net : Net) (ds : List ℕ) (j : ℕ) : Type 0 where
  pub upto : j ≤ 97
  pub long : length ds ≡ 33
  pub is : (i : ℕ) → i < 33 → get_or ds i 0 ≡ count (λ k. is_touching (arc_at net k) i) j

pub zero-at : (n i : ℕ) → ◌≡◌ {A = ℕ} (get_or (replicate n 0) i 0) 0
zero-at zero i = refl
zero-at (suc n) zero = refl
zero-at (suc n) (suc i) = zero-at n i

pub tallied-none : (net : Net) → Tallied net (replicate 33 0) 0
unfolding count
tallied-none net = record { upto = omega arith; long = length-replicate {A = ℕ} 33 0; is = λ i l. zero-at 33 i }

pub tallied-le : {net : Net} {ds : List ℕ} {j : ℕ} → Tallied net ds j → (i : ℕ) → get_or ds i 0 ≤ 97
tallied-le {net} {ds} {j} h i = by (ltb i 33) refl
  where
    by : (b : Bool) → ltb i 33 ≡ b → get_or ds i 0 ≤ 97
    by true e = omega (arith, h.is i (ltb-true i 33 e), count-le (λ k. is_touching (arc_at net k) i) j)
    by false e = let g : 33 ≤ i = ltb-false i 33 e in rw (get_or-eq_default ds 0 {n = i} (omega (arith, h.long))) (omega arith)

-- an arc from f to t is counted, at both ends or at its one
pub tallied-two : {net : Net} {ds one to : List ℕ} {j : ℕ} → Tallied net ds j → j < 97 → ((arc_at net j).from ≡ (arc_at net j).to → ⊥) → one ≡ raised ds (arc_at net j).from → to ≡ raised one (arc_at net j).to → Tallied net to (j + 1)
unfolding count is_touching
tallied-two {net} {ds} {one} {to} {j} h l n d e =
    rw (e, d)
    (record {
      upto = omega arith;
      long = raised_long (raised ds f) t ∙ raised_long ds f ∙ h.long;
      is = λ i m. rw (add-one j) (raised_at (raised ds f) (raised_long ds f ∙ h.long) t i m ∙ ap (tally (eqb t i)) (raised_at ds h.long f i m ∙ ap (tally (eqb f i)) (h.is i m)) ∙ by i (eqb f i) refl (eqb t i) refl _);
    })
  where
    f : ℕ
    f = (arc_at net j).from

    t : ℕ
    t = (arc_at net j).to

    by : (i : ℕ) (a : Bool) → eqb f i ≡ a → (b : Bool) → eqb t i ≡ b → (x : ℕ) → tally b (tally a x) ≡ tally (a || b) x
    by i true p true q x = absurd (n (eqb-true f i p ∙ sym (eqb-true t i q)))
    by i true p false q x = refl
    by i false p b q x = refl

pub tallied-root : {net : Net} {ds to : List ℕ} {j : ℕ} → Tallied net ds j → j < 97 → (arc_at net j).from ≡ (arc_at net j).to → to ≡ raised ds (arc_at net j).from → Tallied net to (j + 1)
unfolding count is_touching
tallied-root {net} {ds} {to} {j} h l n e =
    rw e
    (record {
      upto = omega arith;
      long = raised_long ds f ∙ h.long;
      is = λ i m. rw (add-one j, ← n) (raised_at ds h.long f i m ∙ ap (tally (eqb f i)) (h.is i m) ∙ by (eqb f i) _);
    })
  where
    f : ℕ
    f = (arc_at net j).from

    by : (a : Bool) (x : ℕ) → tally a x ≡ tally (a || a) x
    by true x = refl
    by false x = refl

-- the same by both ends at once
pub tallied-more : {net : Net} {ds to : List ℕ} {j : ℕ} {t : Arc} → Tallied net ds j → j < 97 → t ≡ arc_at net j → to ≡ counted_at ds t → Tallied net to (j + 1)
unfolding is_root
tallied-more {net} {ds} {to} {j} {t} h l q e = by (eqb (arc_at net j).from (arc_at net j).to) refl (rw q at e)
  where
    by : (b : Bool) → eqb (arc_at net j).from (arc_at net j).to ≡ b → to ≡ cond b (raised ds (arc_at net j).from) (raised (raised ds (arc_at net j).from) (arc_at net j).to) → Tallied net to (j + 1)
    by true p e = tallied-root h l (eqb-true _ _ p) e
    by false p e = tallied-two h l (eqb-false _ _ p) refl e

-- of the numbers up to m
pub tallied-to : {net : Net} {j : ℕ} {ds : List ℕ} (m : ℕ) → Tallied net ds j → j ≡ min m 96 + 1 → AreDegreesTo net m ds
tallied-to {net} {j} m h e i l = h.is i l ∙ ap (count (λ k. is_touching (arc_at net k) i)) (e ∙ by (ltb m 96) refl)
  where
    by : (b : Bool) → ltb m 96 ≡ b → min m 96 + 1 ≡ cond b (m + 1) 97
    by true f = let g = ltb-true m 96 f in omega arith
    by false f = let g = ltb-false m 96 f in omega arith
