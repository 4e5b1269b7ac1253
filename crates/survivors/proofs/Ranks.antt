-- The numbers below a bound that pass a test, numbered from 1 in their order: how many they are, sums over them, and what stands at each number of a list that they are packed into.
use mathlib.Core.Path.{◌≡◌, refl, sym, ◌∙◌, subst}
use mathlib.Core.Bool.{Bool, true, false, cond, ◌&&◌, and-false}
use mathlib.Core.List.{List, [], ◌∷◌, Memᴰ}
use mathlib.Core.Logic.{⊎_elim}
use Prim.Native.Nat.{ℕ, zero, suc, ◌+◌, ◌-◌, ◌≤◌, ◌<◌}
use native.Mathlib.Nat.{eq-or-lt_of_le, le_of_suc-le-suc}
use native.Mathlib.Numerals.{add-one}
use native.Mathlib.Omega.{arith}
use lib.Dec.{T, ltb, leb}
use lib.ListN.{length, get_or, set, length-set}
use lib.Seq.{get_or-set_same, get_or-set_other}
use borrow.Author.Tests.{le-leb, lt-leb, ltb-true, ltb-false}
use Rattle.loops.specs.Loops.{tally, count}
use Rattle.loops.proofs.Laws.{count_same, count-shift, count-le}
use Rattle.fraction.proofs.Laws.{never}
use Rattle.algebra.specs.Sum.{range}
use Rattle.presolve.proofs.Renumber.{Numbering, end, drop, keep, find, find-is}
use Rattle.presolve.proofs.Renumber as Renumber
use Rattle.network.proofs.Sane.{is_true}

-- ---- how many

module _ (p : ℕ → Bool) where
  -- those up to i
  pub rank_up : (n i : ℕ) → i < n → count (λ k. p k && leb k i) n ≡ count p (i + 1)
  unfolding count
  rank_up zero i h = absurd (omega arith)
  rank_up (suc n) i h =
      ⊎_elim
      (λ (q : i ≡ n). rw (← q) (rw (le-leb i i (omega arith), whole (p i), count_same p (λ k. p k && leb k i) i (λ k l. up k l), add-one i)))
      (λ (l : i < n). rw (lt-leb n i l, and-false) (rank_up n i l))
      (eq-or-lt_of_le (le_of_suc-le-suc h))
    where
      whole : (b : Bool) → (b && true) ≡ b
      whole true = refl
      whole false = refl

      up : (k : ℕ) → k < i → (p k && leb k i) ≡ p k
      up k l = rw (le-leb k i (omega arith)) (whole (p k))

  -- where i is one of them
  pub rank_is : (n i : ℕ) → i < n → p i ≡ true → count (λ k. p k && leb k i) n ≡ count p i + 1
  unfolding count
  rank_is n i h e = rank_up n i h ∙ rw (add-one i, e)

  pub count-more : (i n : ℕ) → i < n → p i ≡ true → count p i < count p n
  unfolding count
  count-more i zero h e = absurd (omega arith)
  count-more i (suc n) h e =
      ⊎_elim (λ (q : i ≡ n). rw (← q) (rw e (omega arith))) (λ (l : i < n). next (p n) (count-more i n l e)) (eq-or-lt_of_le (le_of_suc-le-suc h))
    where
      next : (b : Bool) → count p i < count p n → count p i < tally b (count p n)
      next true c = omega arith
      next false c = c

  -- as presolve counts
  count-is : (n : ℕ) → Renumber.count p n ≡ count p n
  unfolding count Renumber.count
  count-is zero = refl
  count-is (suc n) = rw (count-is n) (by (p n))
    where
      by : (b : Bool) → cond b (suc (count p n)) (count p n) ≡ tally b (count p n)
      by true = sym (add-one (count p n))
      by false = refl

  -- a number is found by its rank
  pub found : (n i : ℕ) → i < n → p i ≡ true → find p n (count p i + 1 - 1) ≡ i
  found n i h e = let q : count p i + 1 - 1 ≡ Renumber.count p i = omega (arith, count-is i) in rw q (find-is p n i h (subst T (sym e) tt))

-- ---- lists of them

-- m, .., 2, 1
pub numbers : ℕ → List ℕ
numbers zero = []
numbers (suc m) = suc m ∷ numbers m

pub numbering : (p : ℕ → Bool) (rank : ℕ → ℕ) (n : ℕ) → ((i : ℕ) → i < n → p i ≡ true → rank i ≡ count p i + 1) → Numbering p rank (range n) (numbers (count p n))
unfolding range count numbers
numbering p rank zero h = end
numbering p rank (suc n) h = by (p n) refl (numbering p rank n (λ i l. h i (omega (arith, add-one n))))
  where
    by : (b : Bool) → p n ≡ b → Numbering p rank (range n) (numbers (count p n)) → Numbering p rank (n ∷ range n) (numbers (tally b (count p n)))
    by true e rest =
        let r : rank n ≡ suc (count p n) = h n (omega arith) e ∙ add-one (count p n) in
        rw add-one (subst (λ (k : ℕ). Numbering p rank (n ∷ range n) (k ∷ numbers (count p n))) r (keep (subst T (sym e) tt) rest))
    by false e rest = drop (λ t. never (let f = sym e ∙ is_true (p n) t in cc)) rest

pub mem-numbers : (m k : ℕ) → 1 ≤ k → k ≤ m → Memᴰ k (numbers m)
unfolding numbers
mem-numbers zero k a b = absurd (omega arith)
mem-numbers (suc m) k a b = ⊎_elim (λ (q : k ≡ suc m). Memᴰ.head q) (λ (l : k < suc m). Memᴰ.tail (mem-numbers m k a (omega (arith, add-one m)))) (eq-or-lt_of_le b)

-- the numbers 1 to m alone
module _ (p : ℕ → Bool) (m : ℕ) (first : p 0 ≡ false) (low : (k : ℕ) → 1 ≤ k → k ≤ m → p k ≡ true) (beyond : (k : ℕ) → m < k → p k ≡ false) where
  count-run : (i : ℕ) → i ≤ m → count p (suc i) ≡ i
  unfolding count
  count-run zero h = rw first
  count-run (suc i) h = rw (low (suc i) (omega arith) h, count-run i (omega (arith, add-one i))) (add-one i)

  count-all : (n : ℕ) → m < n → count p n ≡ m
  unfolding count
  count-all zero h = absurd (omega arith)
  count-all (suc n) h =
      ⊎_elim (λ (q : m ≡ n). rw (← q) (count-run m (omega arith))) (λ (l : m < n). rw (beyond n l) (count-all n l)) (eq-or-lt_of_le (le_of_suc-le-suc h))

  run-rank : (i : ℕ) → p i ≡ true → i ≡ count p i + 1
  run-rank zero e = never (let f = sym e ∙ first in cc)
  run-rank (suc i) e = by (ltb m (suc i)) refl
    where
      by : (b : Bool) → ltb m (suc i) ≡ b → suc i ≡ count p (suc i) + 1
      by true q = never (let f = sym e ∙ beyond (suc i) (ltb-true m (suc i) q) in cc)
      by false q = rw (count-run i (omega (arith, add-one i, ltb-false m (suc i) q))) (sym (add-one i))

  -- they keep their numbers
  pub run-numbering : (n : ℕ) → m < n → Numbering p (λ k. k) (range n) (numbers m)
  run-numbering n h = subst (λ (c : ℕ). Numbering p (λ k. k) (range n) (numbers c)) (count-all n h) (numbering p (λ k. k) n (λ i l e. run-rank i e))

-- ---- a list that they are packed into

module _ {A : Type 0} (p : ℕ → Bool) (f : ℕ → A) (l : List A) where
  -- f at those of 1 to n, put at 1, 2, ..
  unfoldable pub packs : ℕ → List A
  packs zero = l
  packs (suc n) = cond (p (n + 1)) (set (packs n) (count (λ k. p (k + 1)) n + 1) (f (n + 1))) (packs n)

  packs-long : (n : ℕ) → length (packs n) ≡ length l
  unfolding packs
  packs-long zero = refl
  packs-long (suc n) = by (p (n + 1)) (packs-long n)
    where
      by : (b : Bool) → length (packs n) ≡ length l → length (cond b (set (packs n) (count (λ k. p (k + 1)) n + 1) (f (n + 1))) (packs n)) ≡ length l
      by true q = length-set (packs n) _ _ ∙ q
      by false q = q

  packs-in : (d : A) (n j : ℕ) → j < n → n < length l → p (j + 1) ≡ true → get_or (packs n) (count (λ k. p (k + 1)) j + 1) d ≡ f (j + 1)
  unfolding packs
  packs-in d zero j h k e = absurd (omega arith)
  packs-in d (suc n) j h k e =
      ⊎_elim (λ (q : j ≡ n). rw (← q) (rw e (get_or-set_same (packs j) _ _ d (rw (packs-long j) (omega (arith, count-le (λ k. p (k + 1)) j))))))
      (λ (l : j < n). before l (p (n + 1)) (packs-in d n j l (omega (arith, add-one n)) e))
      (eq-or-lt_of_le (le_of_suc-le-suc h))
    where
      before : j < n → (b : Bool) → get_or (packs n) (count (λ k. p (k + 1)) j + 1) d ≡ f (j + 1) → get_or (cond b (set (packs n) (count (λ k. p (k + 1)) n + 1) (f (n + 1))) (packs n)) (count (λ k. p (k + 1)) j + 1) d ≡ f (j + 1)
      before l true rest = get_or-set_other (packs n) _ _ _ d (λ q. omega (arith, count-more (λ k. p (k + 1)) j n l e)) ∙ rest
      before l false rest = rest

  -- what stands at a number's rank
  pub packs-at : (d : A) (n j : ℕ) → p 0 ≡ false → j ≤ n → n < length l → p j ≡ true → get_or (packs n) (count p j + 1) d ≡ f j
  packs-at d n zero z h k e = never (let q = sym e ∙ z in cc)
  packs-at d n (suc j) z h k e = rw (count-shift p j z, ← add-one j) (packs-in d n j (omega arith) k (rw add-one e))
