-- The arcs at a node: the next one after a number, and all of them.
use mathlib.Core.Path.{◌≡◌, refl, sym, ◌∙◌}
use mathlib.Core.Bool.{Bool, true, false, cond, ◌&&◌, and-false}
use mathlib.Core.List.{List, [], ◌∷◌}
use mathlib.Core.Logic.{inl, inr, ⊎_elim}
use Prim.Native.Nat.{ℕ, zero, suc, ◌+◌, ◌≤◌, ◌<◌}
use native.Mathlib.Nat.{not-suc-le-zero, lt_irrefl, eq-or-lt_of_le, le_of_suc-le-suc}
use native.Mathlib.Numerals.{add-one}
use native.Mathlib.Omega.{arith}
use lib.Dec.{eqb, ltb}
use lib.ListN.{length}
use borrow.Author.Tests.{ltb-true, ltb-false, lt-ltb, le-ltb, eqb-true, eqb-false, eq-eqb, ne_eqb}
use Rattle.fraction.proofs.Laws.{and_both, never}
use Rattle.loops.specs.Loops.{count}
use Rattle.loops.proofs.Laws.{count_same}
use Rattle.network.specs.declared.Net.{Net}
use Rattle.network.specs.Network.{arc_at, is_touching, degree_of, touching_after}
use Rattle.network.specs.Legal.{Legal}
use Rattle.network.proofs.First.{First, scan-first}
use Rattle.network.proofs.Kept.{used-number, touching-used}
use Rattle.step.proofs.Each.{All, Any, Apart, all_map}
use Rattle.step.proofs.Lines.{split}

pub unlike {ℓ} : {X : Type ℓ} → false ≡ true → X
unlike e = never cc

-- ---- numbers that pass a test

-- where some number is counted, there is one
count-some : (p : ℕ → Bool) (n : ℕ) → 1 ≤ count p n → (x : ℕ) × (x < n) × (p x ≡ true)
unfolding count
count-some p zero h = absurd (omega arith)
count-some p (suc n) h = split (p n) (λ e. (n, omega (arith, add-one n), e)) (λ e. let s = count-some p n (rw e at h) in (s.0, omega (arith, s.1, add-one n), s.2))

-- two tests that agree but at k, where only the first passes
count-one-less : (p q : ℕ → Bool) (n k : ℕ) → k < n → p k ≡ true → q k ≡ false → ((i : ℕ) → (i ≡ k → ⊥) → q i ≡ p i) → count q n + 1 ≡ count p n
unfolding count
count-one-less p q zero k l t f h = absurd (not-suc-le-zero l)
count-one-less p q (suc n) k l t f h =
    ⊎_elim
    (λ (e : k ≡ n). let c = count_same p q n (λ i m. h i (λ z. lt_irrefl n (rw (z, e) at m))) in rw (← e) (rw (t, f) (rw (e, c))))
    (λ (m : k < n). let c = count-one-less p q n k m t f h in rw (h n (λ z. lt_irrefl n (rw (← z) at m))) (split (p n) (λ e. rw e (omega arith)) (λ e. rw e c)))
    (eq-or-lt_of_le (le_of_suc-le-suc l))

-- a test with one number less
abbrev but : (ℕ → Bool) → ℕ → ℕ → Bool
but p a x = cond (eqb x a) false (p x)

but-other : (p : ℕ → Bool) (a x : ℕ) → (x ≡ a → ⊥) → but p a x ≡ p x
but-other p a x ne = rw (ne_eqb x a ne)

count-but : (p : ℕ → Bool) (n a : ℕ) → a < n → p a ≡ true → count (but p a) n + 1 ≡ count p n
count-but p n a l t = count-one-less p (but p a) n a l t (rw (eq-eqb a a refl)) (but-other p a)

count_none : (p : ℕ → Bool) (n : ℕ) → count p n ≡ 0 → (x : ℕ) → x < n → p x ≡ true → ⊥
count_none p n e x l t = omega (arith, count-but p n x l t)

-- a number after k, to 96, that passes
pub record At (p : ℕ → Bool) (k x : ℕ) : Type 0 where
  pub above : k < x
  pub within : x ≤ 96
  pub passes : p x ≡ true

-- xs are all of them, each once
pub record These (p : ℕ → Bool) (k : ℕ) (xs : List ℕ) : Type 0 where
  pub each : All (At p k) xs
  pub apart : Apart xs
  pub all : (x : ℕ) → At p k x → Any (λ y. x ≡ y) xs

-- each of them is the first after the one before it
abbrev pub Upward : (ℕ → Bool) → ℕ → List ℕ → Type 0
Upward p k [] = Unit {0}
Upward p k (x ∷ xs) = First p k x × Upward p x xs

module _ (p : ℕ → Bool) where
  -- how many numbers after k, to 96, pass
  abbrev after : ℕ → ℕ → Bool
  after k x = ltb k x && p x

  after_is : (k x : ℕ) → k < x → p x ≡ true → after k x ≡ true
  after_is k x h t = rw (lt-ltb k x h) t

  -- where there is one more of them, the first of them is one
  next : (k j d : ℕ) → count (after k) 97 ≡ suc d → First p k j → (1 ≤ j) × (count (after j) 97 ≡ d)
  next k j d e f = (one, omega (arith, e, add-one d, count-one-less (after k) (after j) 97 j (omega (arith, f.within)) (after_is k j (f.above one) (f.passes one)) (rw (le-ltb j j (omega arith))) agree))
    where
      one : 1 ≤ j
      one =
          let s = count-some (after k) 97 (omega (arith, e, add-one d)) in
          let b = and_both (ltb k s.0) _ s.2 in
          (f.least s.0 (ltb-true _ _ b.0) (omega (arith, s.1)) b.1).0

      agree : (x : ℕ) → (x ≡ j → ⊥) → after j x ≡ after k x
      agree x ne =
          split (ltb j x) (λ a. rw (a, lt-ltb k x (omega (arith, ltb-true j x a, f.above one))))
          (λ a. rw a (split (after k x)
          (λ t. let b = and_both (ltb k x) _ t in let g = ltb-false j x a in let m = (f.least x (ltb-true k x b.0) (omega (arith, f.within)) b.1).1 in absurd (ne (omega arith)))
          (λ t. sym t)))

  -- as many upward as pass
  pub upward-all : (xs : List ℕ) (k : ℕ) → count (after k) 97 ≡ length xs → Upward p k xs → These p k xs
  upward-all [] k e c = record { each = tt; apart = tt; all = λ x m. absurd (count_none (after k) 97 e x (omega (arith, m.within)) (after_is k x m.above m.passes)) }
  upward-all (j ∷ xs) k e c =
      let f = c.0 in
      let n = next k j (length xs) e f in
      let r = upward-all xs j n.1 c.1 in
      record {
        each = (record { above = f.above n.0; within = f.within; passes = f.passes n.0 }, all_map (λ y m. record { above = omega (arith, m.above, f.above n.0); within = m.within; passes = m.passes }) xs r.each);
        apart = (all_map (λ y m z. omega (arith, m.above)) xs r.each, r.apart);
        all = λ x m. ⊎_elim (λ z. inl (sym z)) (λ l. inr (r.all x (record { above = l; within = m.within; passes = m.passes }))) (eq-or-lt_of_le (f.least x m.above m.within m.passes).1);
      }

-- as many different ones as pass
pub different-all : (xs : List ℕ) (p : ℕ → Bool) → count p 97 ≡ length xs → All (At p 0) xs → Apart xs → (x : ℕ) → At p 0 x → Any (λ y. x ≡ y) xs
different-all [] p e w d x m = absurd (count_none p 97 e x (omega (arith, m.within)) m.passes)
different-all (a ∷ xs) p e w d x m =
    split (eqb x a) (λ q. inl (eqb-true x a q))
    (λ q. inr (different-all xs (but p a) (omega (arith, count-but p 97 a (omega (arith, w.0.within)) w.0.passes, e, add-one (length xs))) (others xs w.1 d.0) d.1 x (still x (eqb-false x a q) m)))
  where
    still : (y : ℕ) → (y ≡ a → ⊥) → At p 0 y → At (but p a) 0 y
    still y ne m = record { above = m.above; within = m.within; passes = but-other p a y ne ∙ m.passes }

    others : (ys : List ℕ) → All (At p 0) ys → All (λ y. a ≡ y → ⊥) ys → All (At (but p a) 0) ys
    others [] w d = tt
    others (y ∷ ys) w d = (still y (λ z. d.0 (sym z)) w.0, others ys w.1 d.1)

-- ---- the arcs at a node

abbrev pub touches : Net → ℕ → ℕ → Bool
touches net i j = is_touching (arc_at net j) i

pub touching-first : (net : Net) (i k : ℕ) → First (touches net i) k (touching_after net i k)
unfolding touching_after
touching-first net i k = scan-first (touches net i) k

-- only numbers of 1 to 96 have an arc at a node
module _ {net : Net} (g : Legal net) (i : ℕ) (h : 1 ≤ i) where
  pub touching-at : (x : ℕ) → touches net i x ≡ true → At (touches net i) 0 x
  touching-at x t = let n = used-number g x (touching-used g x i h t) in record { above = n.0; within = n.1; passes = t }

  -- as many upward as the degree are all arcs at the node
  pub touching-all : (xs : List ℕ) → degree_of net i ≡ length xs → Upward (touches net i) 0 xs → These (touches net i) 0 xs
  unfolding degree_of
  touching-all xs e = upward-all (touches net i) xs 0 (count_same (touches net i) (after (touches net i) 0) 97 (λ x l. split (touches net i x) (λ t. rw (lt-ltb 0 x (touching-at x t).above, t)) (λ t. rw (t, and-false))) ∙ e)
