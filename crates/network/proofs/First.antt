-- The first number after another, to 96, that passes a test.
use mathlib.Core.Path.{◌≡◌, refl, sym, ap, ◌∙◌}
use mathlib.Core.Bool.{Bool, true, false, cond}
use mathlib.Core.Logic.{⊎_elim}
use Prim.Native.Nat.{ℕ, zero, suc, ◌+◌, ◌-◌, ◌≤◌, ◌<◌}
use native.Mathlib.Nat.{eq-or-lt_of_le}
use native.Mathlib.Numerals.{add-one}
use native.Mathlib.Omega.{arith}
use Rattle.fraction.proofs.Laws.{never}
use Rattle.loops.specs.Loops.{scan}
use Rattle.network.specs.Network.{or_next}

-- j is the first number after k, to 96, that passes p, and 0 where none does
pub record First (p : ℕ → Bool) (k j : ℕ) : Type 0 where
  pub within : j ≤ 96
  pub above : 1 ≤ j → k < j
  pub passes : 1 ≤ j → p j ≡ true
  -- a number after k that passes means that j is one, and not beyond it
  pub least : (x : ℕ) → k < x → x ≤ 96 → p x ≡ true → (1 ≤ j) × (j ≤ x)

module _ (p : ℕ → Bool) where
  -- there is none after k
  pub first-none : (k : ℕ) → ((x : ℕ) → k < x → x ≤ 96 → p x ≡ false) → First p k 0
  first-none k h = record { within = omega arith; above = λ m. absurd (omega arith); passes = λ m. absurd (omega arith); least = λ x a l t. never (let f = h x a l in cc) }

  -- the number after k is it, or is passed over
  pub first-here : (k : ℕ) → suc k ≤ 96 → p (suc k) ≡ true → First p k (suc k)
  first-here k l e = record { within = l; above = λ m. omega (arith, add-one k); passes = λ m. e; least = λ x a l t. (omega (arith, add-one k), omega (arith, add-one k)) }

  pub first_more : (k : ℕ) {j : ℕ} → p (suc k) ≡ false → First p (suc k) j → First p k j
  first_more k e f =
      record { within = f.within; above = λ m. omega (arith, add-one k, f.above m); passes = f.passes; least = λ x a l t. f.least x (⊎_elim (λ z. never (let g = sym e ∙ ap p z ∙ t in cc)) (λ l. l) (eq-or-lt_of_le a)) l t }

  scan-from : (c k : ℕ) → 96 - k ≡ c → First p k (scan or_next 0 (λ j. cond (p j) j 0) c (suc k))
  unfolding scan
  scan-from zero k q = first-none k (λ x a l. absurd (omega arith))
  scan-from (suc c) k q = by (p (suc k)) refl (scan-from c (suc k) (omega (arith, add-one k, add-one c)))
    where
      by : (b : Bool) → p (suc k) ≡ b → First p (suc k) (scan or_next 0 (λ j. cond (p j) j 0) c (suc (suc k))) → First p k (or_next (cond b (suc k) 0) (scan or_next 0 (λ j. cond (p j) j 0) c) (suc (suc k)))
      by true e f = first-here k (omega (arith, add-one k, add-one c)) e
      by false e f = first_more k e f

  pub scan-first : (k : ℕ) → First p k (scan or_next 0 (λ j. cond (p j) j 0) (96 - k) (k + 1))
  scan-first k = rw (add-one k) (scan-from (96 - k) k refl)

-- it is one number
pub first-same : {p : ℕ → Bool} {k a b : ℕ} → First p k a → First p k b → a ≡ b
first-same {p} {k} {a} {b} f h = by a b (λ m. f.least b (h.above m) h.within (h.passes m)) (λ m. h.least a (f.above m) f.within (f.passes m))
  where
    by : (a b : ℕ) → (1 ≤ b → (1 ≤ a) × (a ≤ b)) → (1 ≤ a → (1 ≤ b) × (b ≤ a)) → a ≡ b
    by zero zero f h = refl
    by zero (suc b) f h = omega (arith, (f (omega (arith, add-one b))).0)
    by (suc a) zero f h = omega (arith, (h (omega (arith, add-one a))).0)
    by (suc a) (suc b) f h = omega (arith, (f (omega (arith, add-one b))).1, (h (omega (arith, add-one a))).1)
