-- The order of the rational numbers and their signs.
use mathlib.Core.Path.{◌≡◌, refl, sym, subst}
use mathlib.Core.Logic.{◌⊎◌, inl, inr}
use Rattle.algebra.proofs.Solver.{◌:+◌, ◌:*◌, ◌:-◌, :neg, :0, ◌:=◌, ring1, ring2, ring3, ring4}
use Rattle.algebra.specs.Rat.{ℚ, ◌<ℚ◌, ◌+ℚ◌, ◌*ℚ◌, -ℚ◌, ◌≤ℚ◌, 0_ℚ as 𝟘, 1_ℚ as 𝟙}
use Rattle.algebra.proofs.Rat.{ℚ-ring, ≤ℚ-dec as le_dec, ≤ℚ-total as le_total, ≤ℚ-trans as le_trans, ≤ℚ-antisym as le_antisym, add_ℚ-le as add_le, mul_ℚ-nn as mul_nn, mul_ℚ-one as mul_one, add_ℚ-neg as add_neg, one≢zero_ℚ}

pub le_refl : (a : ℚ) → a ≤ℚ a
le_refl a = go (le_total a a)
  where
    go : (a ≤ℚ a) ⊎ (a ≤ℚ a) → a ≤ℚ a
    go (inl h) = h
    go (inr h) = h

pub le_of_eq : {a b : ℚ} → a ≡ b → a ≤ℚ b
le_of_eq {a} h = subst (λ x. a ≤ℚ x) h (le_refl a)

pub lt→le : {a b : ℚ} → a <ℚ b → a ≤ℚ b
lt→le {a} {b} h = go (le_total a b)
  where
    go : (a ≤ℚ b) ⊎ (b ≤ℚ a) → a ≤ℚ b
    go (inl k) = k
    go (inr k) = absurd (h k)

-- which of the three
pub data Sign (a : ℚ) : Type 0 where
  neg : a <ℚ 𝟘 → Sign a
  zer : a ≡ 𝟘 → Sign a
  pos : 𝟘 <ℚ a → Sign a

pub sign : (a : ℚ) → Sign a
sign a = go (le_dec 𝟘 a) (le_dec a 𝟘)
  where
    go : Dec (𝟘 ≤ℚ a) → Dec (a ≤ℚ 𝟘) → Sign a
    go (no h) k = neg h
    go (yes h) (yes k) = zer (le_antisym a 𝟘 k h)
    go (yes h) (no k) = pos k

-- ---- an order is a difference that is not negative

pub sub-nn : {a b : ℚ} → a ≤ℚ b → 𝟘 ≤ℚ b +ℚ -ℚ a
sub-nn {a} {b} h = subst (λ x. x ≤ℚ b +ℚ -ℚ a) (add_neg a) (add_le a b (-ℚ a) h)

pub le-of-nn : {a b : ℚ} → 𝟘 ≤ℚ b +ℚ -ℚ a → a ≤ℚ b
le-of-nn {a} {b} h = subst₂' (ring1 ℚ-ring a (λ a. :0 :+ a := a) refl) (ring2 ℚ-ring a b (λ a b. b :- a :+ a := b) refl) (add_le 𝟘 (b +ℚ -ℚ a) a h)
  where
    subst₂' : {x y u v : ℚ} → x ≡ y → u ≡ v → x ≤ℚ u → y ≤ℚ v
    subst₂' {x} {y} {u} {v} p q t = subst (λ z. y ≤ℚ z) q (subst (λ z. z ≤ℚ u) p t)

-- the general form: r - l is a term that is not negative
pub le-by : {l r s : ℚ} → 𝟘 ≤ℚ s → r +ℚ -ℚ l ≡ s → l ≤ℚ r
le-by h e = le-of-nn (subst (λ x. 𝟘 ≤ℚ x) (sym e) h)

pub add-nn : {a b : ℚ} → 𝟘 ≤ℚ a → 𝟘 ≤ℚ b → 𝟘 ≤ℚ a +ℚ b
add-nn {a} {b} h k = le_trans 𝟘 b (a +ℚ b) k (subst (λ x. x ≤ℚ a +ℚ b) (ring1 ℚ-ring b (λ b. :0 :+ b := b) refl) (add_le 𝟘 a b h))

pub mul_nn' : {a b : ℚ} → 𝟘 ≤ℚ a → 𝟘 ≤ℚ b → 𝟘 ≤ℚ a *ℚ b
mul_nn' {a} {b} h k = mul_nn a b h k

pub add-mono : {a b c d : ℚ} → a ≤ℚ b → c ≤ℚ d → a +ℚ c ≤ℚ b +ℚ d
add-mono {a} {b} {c} {d} h k = le-by (add-nn (sub-nn h) (sub-nn k)) (ring4 ℚ-ring a b c d (λ a b c d. (b :+ d) :- (a :+ c) := (b :- a) :+ (d :- c)) refl)

pub mul_mono : {k a b : ℚ} → 𝟘 ≤ℚ k → a ≤ℚ b → k *ℚ a ≤ℚ k *ℚ b
mul_mono {k} {a} {b} h g = le-by (mul_nn' h (sub-nn g)) (ring3 ℚ-ring k a b (λ k a b. k :* b :- k :* a := k :* (b :- a)) refl)

pub mul-anti : {k a b : ℚ} → k ≤ℚ 𝟘 → a ≤ℚ b → k *ℚ b ≤ℚ k *ℚ a
mul-anti {k} {a} {b} h g = le-by (mul_nn' (sub-nn h) (sub-nn g)) (ring3 ℚ-ring k a b (λ k a b. k :* a :- k :* b := (:0 :- k) :* (b :- a)) refl)

pub neg-le : {a b : ℚ} → a ≤ℚ b → -ℚ b ≤ℚ -ℚ a
neg-le {a} {b} h = le-by (sub-nn h) (ring2 ℚ-ring a b (λ a b. :neg a :- :neg b := b :- a) refl)

pub sq-nn : (a : ℚ) → 𝟘 ≤ℚ a *ℚ a
sq-nn a = go (le_total 𝟘 a)
  where
    go : (𝟘 ≤ℚ a) ⊎ (a ≤ℚ 𝟘) → 𝟘 ≤ℚ a *ℚ a
    go (inl h) = mul_nn' h h
    go (inr h) = le-by (mul_nn' (sub-nn h) (sub-nn h)) (ring1 ℚ-ring a (λ a. a :* a :- :0 := (:0 :- a) :* (:0 :- a)) refl)

pub one-nn : 𝟘 ≤ℚ 𝟙
one-nn = subst (λ x. 𝟘 ≤ℚ x) (mul_one 𝟙) (sq-nn 𝟙)

pub one-pos : 𝟘 <ℚ 𝟙
one-pos h = one≢zero_ℚ (le_antisym 𝟙 𝟘 h one-nn)

-- ---- equality is decided

pub eq-dec : (a b : ℚ) → Dec (a ≡ b)
eq-dec a b = go (le_dec a b) (le_dec b a)
  where
    go : Dec (a ≤ℚ b) → Dec (b ≤ℚ a) → Dec (a ≡ b)
    go (yes h) (yes k) = yes (le_antisym a b h k)
    go (no h) k = no (λ e. h (le_of_eq e))
    go (yes h) (no k) = no (λ e. k (le_of_eq (sym e)))

pub pos-ne : {a : ℚ} → 𝟘 <ℚ a → ¬ (a ≡ 𝟘)
pos-ne h e = h (le_of_eq e)

pub neg-ne : {a : ℚ} → a <ℚ 𝟘 → ¬ (a ≡ 𝟘)
neg-ne h e = h (le_of_eq (sym e))
