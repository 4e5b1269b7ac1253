-- The next parallel arc of each arc, found in one pass over the arcs from the last number down.
use mathlib.Core.Path.{◌≡◌, refl, sym, ap, ◌∙◌, subst}
use mathlib.Core.Bool.{Bool, true, false, cond, ◌&&◌}
use mathlib.Core.List.{List}
use mathlib.Core.Logic.{⊎_elim}
use Prim.Native.Nat.{ℕ, suc, ◌+◌, ◌≤◌, ◌<◌}
use native.Mathlib.Nat.{eq-or-lt_of_le}
use native.Mathlib.Numerals.{add-one}
use native.Mathlib.Omega.{arith}
use lib.Dec.{eqb, leb, ltb}
use lib.ListN.{length, get_or, set, replicate, length-set, length-replicate}
use lib.Seq.{get_or-set_same, get_or-set_other}
use borrow.Author.Tests.{lt-ltb, leb-true, leb-false, eqb-true, eqb-false, eq-eqb, ne_eqb}
use Rattle.fraction.proofs.Laws.{and_both, never}
use Rattle.network.specs.declared.Arc.{Arc}
use Rattle.network.specs.declared.Net.{Net}
use Rattle.network.specs.Network.{arc_at, is_used, is_parallel, parallel_after, AreParallel}
use Rattle.network.specs.Legal.{Legal}
use Rattle.network.specs.internal.Linked.{place_of, next_of, last_of}
use Rattle.network.proofs.First.{First, first-none, first-here, first_more, scan-first, first-same}
use Rattle.network.proofs.Kept.{here-number, used-number}
use Rattle.network.proofs.Tally.{zero-at}

-- arc k goes from f to e
abbrev between : Net → ℕ → ℕ → ℕ → Bool
between net f e k = eqb (arc_at net k).from f && eqb (arc_at net k).to e

-- the arcs after number j are taken
pub record Linked (net : Net) (next last : List ℕ) (j : ℕ) : Type 0 where
  pub few : j ≤ 96
  pub next_long : length next ≡ 97
  pub last_long : length last ≡ 1089
  pub last_is : (f e : ℕ) → 1 ≤ f → f < 33 → e < 33 → First (between net f e) j (get_or last (place_of f e) 0)
  pub next_off : (i : ℕ) → (arc_at net i).from ≡ 0 → get_or next i 0 ≡ 0
  pub next_is : (i : ℕ) → j < i → 1 ≤ (arc_at net i).from → First (between net (arc_at net i).from (arc_at net i).to) i (get_or next i 0)

module _ {net : Net} (g : Legal net) where
  -- none yet: those above m are not in use
  pub linked-none : Linked net (replicate 97 0) (replicate 1089 0) net.m
  linked-none =
      record {
        few = g.few_arcs;
        next_long = length-replicate {A = ℕ} 97 0;
        last_long = length-replicate {A = ℕ} 1089 0;
        last_is = λ f e l a b. subst (First (between net f e) net.m) (sym (zero-at 1089 (place_of f e))) (first-none (between net f e) net.m (λ x h k. rw (ne_eqb (arc_at net x).from f (λ z. omega (arith, g.arcs_beyond x h, z)))));
        next_off = λ i z. zero-at 97 i;
        next_is = λ i l u. absurd (omega (arith, g.arcs_beyond i l));
      }

  -- arc j is taken, where it is in use
  module _ {next last : List ℕ} {j : ℕ} (h : Linked net next last (suc j)) where
    abbrev f₀ : ℕ
    f₀ = (arc_at net (suc j)).from

    abbrev e₀ : ℕ
    e₀ = (arc_at net (suc j)).to

    linked-off : f₀ ≡ 0 → Linked net next last j
    linked-off z =
        record {
          few = omega (arith, h.few, add-one j);
          next_long = h.next_long;
          last_long = h.last_long;
          last_is = λ f e a b c. first_more (between net f e) j (rw (ne_eqb f₀ f (λ q. omega (arith, q, z)))) (h.last_is f e a b c);
          next_off = h.next_off;
          next_is = λ i a u. ⊎_elim (λ q. absurd (omega (arith, z, rw (← q) at u))) (λ m. h.next_is i m u) (eq-or-lt_of_le a);
        }

    linked_on : 1 ≤ f₀ → f₀ < 33 → e₀ < 33 → Linked net (set next (suc j) (get_or last (place_of f₀ e₀) 0)) (set last (place_of f₀ e₀) (suc j)) j
    linked_on l m n =
        record {
          few = omega (arith, h.few, add-one j);
          next_long = length-set next (suc j) _ ∙ h.next_long;
          last_long = length-set last _ (suc j) ∙ h.last_long;
          last_is = λ f e a b c. last-at f e a b c (between net f e (suc j)) refl;
          next_off = λ i z. get_or-set_other next (suc j) i _ 0 (λ q. omega (arith, l, rw q at z)) ∙ h.next_off i z;
          next_is = λ i a u. ⊎_elim (λ z. next_here i z u) (λ k. subst (First _ i) (sym (get_or-set_other next (suc j) i _ 0 (λ z. omega (arith, z, k)))) (h.next_is i k u)) (eq-or-lt_of_le a);
        }
      where
        last-at : (f e : ℕ) → 1 ≤ f → f < 33 → e < 33 → (b : Bool) → between net f e (suc j) ≡ b → First (between net f e) j (get_or (set last (place_of f₀ e₀) (suc j)) (place_of f e) 0)
        last-at f e a b c true y =
            let z = and_both (eqb f₀ f) _ y in
            let p : place_of f₀ e₀ ≡ place_of f e = rw (eqb-true f₀ f z.0, eqb-true e₀ e z.1) in
            subst (First (between net f e) j) (sym (ap (λ k. get_or (set last k (suc j)) (place_of f e) 0) p ∙ get_or-set_same last (place_of f e) (suc j) 0 (omega (arith, h.last_long)))) (first-here (between net f e) j h.few y)
        last-at f e a b c false y =
            let apart : place_of f e ≡ place_of f₀ e₀ → ⊥ = λ z. let u : f₀ ≡ f = omega (arith, z) in let v : e₀ ≡ e = omega (arith, z) in never (let k = rw (eq-eqb f₀ f u, eq-eqb e₀ e v) at y in cc) in
            subst (First (between net f e) j) (sym (get_or-set_other last (place_of f₀ e₀) (place_of f e) (suc j) 0 apart)) (first_more (between net f e) j y (h.last_is f e a b c))

        next_here : (i : ℕ) → suc j ≡ i → 1 ≤ (arc_at net i).from → First (between net (arc_at net i).from (arc_at net i).to) i (get_or (set next (suc j) (get_or last (place_of f₀ e₀) 0)) i 0)
        next_here i z u = rw (← z) (subst (First _ (suc j)) (sym (get_or-set_same next (suc j) _ 0 (omega (arith, h.few, h.next_long)))) (h.last_is f₀ e₀ l m n))

    linked-one : {next' last' : List ℕ} {t : Arc} → t ≡ arc_at net (suc j) → (next' ≡ next_of next last (suc j) t.from t.to) × (last' ≡ last_of last (suc j) t.from t.to) → Linked net next' last' j
    linked-one {next'} {last'} q w = by (leb 1 f₀) refl
      where
        by : (b : Bool) → leb 1 f₀ ≡ b → Linked net next' last' j
        by false e =
            let s : ltb (suc j) 97 ≡ true = lt-ltb (suc j) 97 (omega (arith, h.few)) in
            rw (w.0, w.1, q, s, e) (linked-off (omega (arith, leb-false 1 f₀ e)))
        by true e =
            let u = leb-true 1 f₀ e in
            let a = g.used (suc j) u in
            let m : f₀ < 33 = omega (arith, (here-number g _ a.from_here).1) in
            let n : e₀ < 33 = omega (arith, (here-number g _ a.to_here).1) in
            rw (w.0, w.1, q, lt-ltb (suc j) 97 (omega (arith, h.few)), e, lt-ltb f₀ 33 m, lt-ltb e₀ 33 n) (linked_on u m n)

  pub linked-more : {next last next' last' : List ℕ} {j k : ℕ} {t : Arc} → Linked net next last j → k + 1 ≡ j → t ≡ arc_at net (k + 1) → (next' ≡ next_of next last (k + 1) t.from t.to) × (last' ≡ last_of last (k + 1) t.from t.to) → Linked net next' last' k
  linked-more {k = k} h e q w = linked-one (rw (← e, add-one k) at h) (rw (add-one k) at q) (rw (add-one k) at w)

  -- all are taken
  pub linked-all : {next last : List ℕ} → Linked net next last 0 → AreParallel net next
  unfolding is_parallel parallel_after
  linked-all {next} h j = by (eqb (arc_at net j).from 0) refl
    where
      by : (b : Bool) → eqb (arc_at net j).from 0 ≡ b → get_or next j 0 ≡ cond (is_used net j) (parallel_after net j) 0
      by true e = rw e (h.next_off j (eqb-true _ _ e))
      by false e = let n = eqb-false (arc_at net j).from 0 e in let u : 1 ≤ (arc_at net j).from = omega arith in rw e (first-same (h.next_is j (used-number g j u).0 u) (scan-first (between net (arc_at net j).from (arc_at net j).to) j))
