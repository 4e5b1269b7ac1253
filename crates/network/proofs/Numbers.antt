-- Lists at the numbers 1 to m.
use mathlib.Core.Path.{◌≡◌, refl, ◌∙◌}
use mathlib.Core.Bool.{Bool, true, false}
use mathlib.Core.List.{List}
use mathlib.Core.Logic.{◌⊎◌, inl, inr, ⊎_elim}
use Prim.Native.Nat.{ℕ, zero, suc, ◌+◌, ◌-◌, ◌<◌}
use native.Mathlib.Nat.{eq-or-lt_of_le, le_of_suc-le-suc}
use native.Mathlib.Numerals.{add-one}
use native.Mathlib.Omega.{arith}
use lib.Dec.{ltb}
use lib.ListN.{length, get_or, set, replicate, length-set}
use lib.Seq.{get_or-set_same, get_or-set_other}
use borrow.Author.Tests.{le-leb, ltb-true, ltb-false}
use Rattle.loops.specs.Loops.{upto}
use Rattle.network.specs.Network.{is_number}

-- ---- f 0, f 1, .., f (m - 1) at the numbers 1 to m of a list

module _ {A : Type 0} (f : ℕ → A) (l : List A) where
  unfoldable pub puts : ℕ → List A
  puts m = upto (λ k t. set t (k + 1) (f k)) m l

  pub puts-long : (m : ℕ) → length (puts m) ≡ length l
  unfolding puts upto
  puts-long zero = refl
  puts-long (suc m) = length-set (puts m) (m + 1) (f m) ∙ puts-long m

  pub puts-out : (d : A) (m j : ℕ) → (j ≡ 0) ⊎ (m < j) → get_or (puts m) j d ≡ get_or l j d
  unfolding puts upto
  puts-out d zero j h = refl
  puts-out d (suc m) j h =
      get_or-set_other (puts m) (m + 1) j (f m) d (λ e. ⊎_elim (λ (z : j ≡ 0). omega arith) (λ (k : suc m < j). omega (arith, add-one m)) h)
      ∙ puts-out d m j (⊎_elim (λ (z : j ≡ 0). inl z) (λ (k : suc m < j). inr (omega (arith, add-one m))) h)

  pub puts-in : (d : A) (m j : ℕ) → j < m → m < length l → get_or (puts m) (j + 1) d ≡ f j
  unfolding puts upto
  puts-in d zero j h k = absurd (omega arith)
  puts-in d (suc m) j h k =
      ⊎_elim
      (λ (e : j ≡ m). rw e (get_or-set_same (puts m) (m + 1) (f m) d (rw (puts-long m) (omega (arith, add-one m)))))
      (λ (i : j < m). get_or-set_other (puts m) (m + 1) (j + 1) (f m) d (λ e. omega arith) ∙ puts-in d m j i (omega (arith, add-one m)))
      (eq-or-lt_of_le (le_of_suc-le-suc h))

pub get_or-all : {A : Type 0} (n i : ℕ) (a : A) → get_or (replicate n a) i a ≡ a
get_or-all zero i a = refl
get_or-all (suc n) zero a = refl
get_or-all (suc n) (suc i) a = get_or-all n i a

pub number : (top k : ℕ) → k < top → is_number top (k + 1) ≡ true
number top k h = rw (le-leb 1 (k + 1) (omega arith), le-leb (k + 1) top (omega arith))

-- a number from 1 to m, and the others
pub by_number : (m j : ℕ) → ((j ≡ 0) ⊎ (m < j)) ⊎ ((j - 1 + 1 ≡ j) × (j - 1 < m))
by_number m j = by (ltb j 1) refl (ltb m j) refl
  where
    by : (s : Bool) → ltb j 1 ≡ s → (t : Bool) → ltb m j ≡ t → ((j ≡ 0) ⊎ (m < j)) ⊎ ((j - 1 + 1 ≡ j) × (j - 1 < m))
    by true e t f = inl (inl (let l = ltb-true j 1 e in omega arith))
    by false e true f = inl (inr (ltb-true m j f))
    by false e false f = let l = ltb-false j 1 e in let i = ltb-false m j f in inr (omega arith, omega arith)
