-- Ordered commutative rings and fields, and the ordered ring that a ring's numbers that are not negative make of it.
use mathlib.Core.Path.{◌≡◌, refl, subst}
use mathlib.Core.Logic.{◌↔◌, ◌⊎◌, inl, inr}
use mathlib.Core.Bool.{Bool, true, false}
use lib.Dec.{T}
use Rattle.algebra.proofs.Ring.{CommRing, eq-of-sub}
use Rattle.algebra.proofs.Solver.{◌:+◌, ◌:*◌, ◌:-◌, :neg, :0, ◌:=◌, ring2, ring3}

pub record OrderedRing : Type 1 where
  pub ring : CommRing
  pub le : ring.R → ring.R → Type 0
  pub le_dec : (a b : ring.R) → Dec (le a b)
  pub le_total : (a b : ring.R) → le a b ⊎ le b a
  pub le_trans : (a b c : ring.R) → le a b → le b c → le a c
  pub le_antisym : (a b : ring.R) → le a b → le b a → a ≡ b
  pub add_le : (a b c : ring.R) → le a b → le (ring.add a c) (ring.add b c)
  pub mul_nn : (a b : ring.R) → le ring.zr a → le ring.zr b → le ring.zr (ring.mul a b)

pub record OrderedField : Type 1 where
  pub ordered : OrderedRing
  pub inv : ordered.ring.R → ordered.ring.R
  pub mul_inv : (a : ordered.ring.R) → ¬ (a ≡ ordered.ring.zr) → ordered.ring.mul a (inv a) ≡ ordered.ring.un
  pub one≢zero : ¬ (ordered.ring.un ≡ ordered.ring.zr)

-- the test for the numbers that are not negative, and the order that it makes
pub record Cone (𝓡 : CommRing) : Type 1 where
  pub nn : 𝓡.R → Bool
  pub nn_add : (a b : 𝓡.R) → T (nn a) → T (nn b) → T (nn (𝓡.add a b))
  pub nn_mul : (a b : 𝓡.R) → T (nn a) → T (nn b) → T (nn (𝓡.mul a b))
  pub nn_antisym : (a : 𝓡.R) → T (nn a) → T (nn (𝓡.neg a)) → a ≡ 𝓡.zr
  pub nn_total : (a : 𝓡.R) → ¬ (T (nn a)) → T (nn (𝓡.neg a))
  pub le : 𝓡.R → 𝓡.R → Type 0
  pub le_nn : (a b : 𝓡.R) → le a b ↔ T (nn (𝓡.add b (𝓡.neg a)))

module _ (𝓡 : CommRing) (K : Cone 𝓡) where
  open 𝓡 use {R, add as ◌+◌, mul as ◌*◌, neg, zr}
  open K use {nn, le, le_nn}

  infixl 65 ◌+◌
  infixl 70 ◌*◌
  pub nn-same : {a b : R} → a ≡ b → T (nn a) → T (nn b)
  nn-same e h = subst (λ t. T (nn t)) e h

  pub nn-dec : (a : R) → Dec (T (nn a))
  nn-dec a = go (nn a)
    where
      go : (b : Bool) → Dec (T b)
      go true = yes tt
      go false = no (λ h. h)

  pub dec-by : (a b : R) → Dec (T (nn (b + neg a))) → Dec (le a b)
  dec-by a b (yes h) = yes ((le_nn a b).1 h)
  dec-by a b (no h) = no (λ k. h ((le_nn a b).0 k))

  pub total-by : (a b : R) → Dec (T (nn (b + neg a))) → le a b ⊎ le b a
  total-by a b (yes h) = inl ((le_nn a b).1 h)
  total-by a b (no h) = inr ((le_nn b a).1 (nn-same (ring2 𝓡 a b (λ a b. :neg (b :- a) := a :- b) refl) (K.nn_total (b + neg a) h)))

  abbrev pub ordered : OrderedRing
  ordered = record {
    ring = 𝓡;
    le = le;
    le_dec = λ a b. dec-by a b (nn-dec (b + neg a));
    le_total = λ a b. total-by a b (nn-dec (b + neg a));
    le_trans = λ a b c h k. (le_nn a c).1 (nn-same (ring3 𝓡 a b c (λ a b c. (c :- b) :+ (b :- a) := c :- a) refl) (K.nn_add (c + neg b) (b + neg a) ((le_nn b c).0 k) ((le_nn a b).0 h)));
    le_antisym = λ a b h k. eq-of-sub 𝓡 a b (K.nn_antisym (a + neg b) ((le_nn b a).0 k) (nn-same (ring2 𝓡 a b (λ a b. b :- a := :neg (a :- b)) refl) ((le_nn a b).0 h)));
    add_le = λ a b c h. (le_nn (a + c) (b + c)).1 (nn-same (ring3 𝓡 a b c (λ a b c. b :- a := (b :+ c) :- (a :+ c)) refl) ((le_nn a b).0 h));
    mul_nn = λ a b h k. (le_nn zr (a * b)).1 (nn-same (ring2 𝓡 a b (λ a b. (a :- :0) :* (b :- :0) := a :* b :- :0) refl) (K.nn_mul (a + neg zr) (b + neg zr) ((le_nn zr a).0 h) ((le_nn zr b).0 k)));
  }
