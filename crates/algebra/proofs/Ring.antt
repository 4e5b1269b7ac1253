-- Commutative rings, and the laws that follow.
use mathlib.Core.Path.{◌≡◌, sym, ◌∙◌, ap, ap₂}

pub record CommRing : Type 1 where
  pub R : Type 0
  pub add : R → R → R
  pub mul : R → R → R
  pub neg : R → R
  pub zr : R
  pub un : R
  pub add_assoc : (a b c : R) → add (add a b) c ≡ add a (add b c)
  pub add_comm : (a b : R) → add a b ≡ add b a
  pub add-zero : (a : R) → add a zr ≡ a
  pub add_neg : (a : R) → add a (neg a) ≡ zr
  pub mul_assoc : (a b c : R) → mul (mul a b) c ≡ mul a (mul b c)
  pub mul_comm : (a b : R) → mul a b ≡ mul b a
  pub mul_one : (a : R) → mul a un ≡ a
  pub mul_add : (a b c : R) → mul a (add b c) ≡ add (mul a b) (mul a c)

module _ (𝓡 : CommRing) where
  open 𝓡 use {R, add as ◌+◌, mul as ◌*◌, neg, zr, un, add_assoc, add_comm, add-zero, add_neg, mul_assoc, mul_comm, mul_one, mul_add}

  infixl 65 ◌+◌
  infixl 70 ◌*◌
  pub zero-add : (a : R) → zr + a ≡ a
  zero-add a = add_comm zr a ∙ add-zero a

  pub neg-add-self : (a : R) → neg a + a ≡ zr
  neg-add-self a = add_comm (neg a) a ∙ add_neg a

  pub add_left_comm : (a b c : R) → a + (b + c) ≡ b + (a + c)
  add_left_comm a b c = sym (add_assoc a b c) ∙ ap (λ x. x + c) (add_comm a b) ∙ add_assoc b a c

  pub add_sub_cancel : (a b : R) → a + (neg a + b) ≡ b
  add_sub_cancel a b = sym (add_assoc a (neg a) b) ∙ ap (λ x. x + b) (add_neg a) ∙ zero-add b

  pub sub_add_cancel : (a b : R) → neg a + (a + b) ≡ b
  sub_add_cancel a b = sym (add_assoc (neg a) a b) ∙ ap (λ x. x + b) (neg-add-self a) ∙ zero-add b

  pub add-cancel : (a b c : R) → a + b ≡ a + c → b ≡ c
  add-cancel a b c h = sym (sub_add_cancel a b) ∙ ap (λ x. neg a + x) h ∙ sub_add_cancel a c

  pub neg_unique : (a b : R) → a + b ≡ zr → b ≡ neg a
  neg_unique a b h = add-cancel a b (neg a) (h ∙ sym (add_neg a))

  pub neg-neg : (a : R) → neg (neg a) ≡ a
  neg-neg a = sym (neg_unique (neg a) a (neg-add-self a))

  pub neg-zero : neg zr ≡ zr
  neg-zero = sym (neg_unique zr zr (add-zero zr))

  pub mul-zero : (a : R) → a * zr ≡ zr
  mul-zero a = add-cancel (a * zr) (a * zr) zr (sym (mul_add a zr zr) ∙ ap (λ x. a * x) (add-zero zr) ∙ sym (add-zero (a * zr)))

  pub zero-mul : (a : R) → zr * a ≡ zr
  zero-mul a = mul_comm zr a ∙ mul-zero a

  pub one-mul : (a : R) → un * a ≡ a
  one-mul a = mul_comm un a ∙ mul_one a

  pub add-mul : (a b c : R) → (a + b) * c ≡ a * c + b * c
  add-mul a b c = mul_comm (a + b) c ∙ mul_add c a b ∙ ap₂ ◌+◌ (mul_comm c a) (mul_comm c b)

  pub mul-neg : (a b : R) → a * neg b ≡ neg (a * b)
  mul-neg a b = neg_unique (a * b) (a * neg b) (sym (mul_add a b (neg b)) ∙ ap (λ x. a * x) (add_neg b) ∙ mul-zero a)

  pub neg-mul : (a b : R) → neg a * b ≡ neg (a * b)
  neg-mul a b = mul_comm (neg a) b ∙ mul-neg b a ∙ ap neg (mul_comm b a)

  pub mul_left_comm : (a b c : R) → a * (b * c) ≡ b * (a * c)
  mul_left_comm a b c = sym (mul_assoc a b c) ∙ ap (λ x. x * c) (mul_comm a b) ∙ mul_assoc b a c

  pub neg-add : (a b : R) → neg (a + b) ≡ neg a + neg b
  neg-add a b = sym (neg_unique (a + b) (neg a + neg b) e)
    where
      e : a + b + (neg a + neg b) ≡ zr
      e = add_assoc a b (neg a + neg b) ∙ ap (λ x. a + x) (add_left_comm b (neg a) (neg b)) ∙ sym (add_assoc a (neg a) (b + neg b)) ∙ ap₂ ◌+◌ (add_neg a) (add_neg b) ∙ add-zero zr

  -- ---- from one equation to another: l - r is a multiple of p - q, or a sum of multiples

  pub eq-of-sub : (a b : R) → a + neg b ≡ zr → a ≡ b
  eq-of-sub a b h = sym (add-zero a) ∙ ap (λ x. a + x) (sym (neg-add-self b)) ∙ sym (add_assoc a (neg b) b) ∙ ap (λ x. x + b) h ∙ zero-add b

  add-vanish : {a p q : R} (k : R) → p ≡ q → a + k * (p + neg q) ≡ a
  add-vanish {a} {p} {q} k h = ap (λ x. a + k * (x + neg q)) h ∙ ap (λ x. a + k * x) (add_neg q) ∙ ap (λ x. a + x) (mul-zero k) ∙ add-zero a

  pub combo : {l r p q : R} (k : R) → p ≡ q → l + neg r ≡ k * (p + neg q) → l ≡ r
  combo {l} {r} k h e = eq-of-sub l r (e ∙ sym (zero-add _) ∙ add-vanish k h)

  pub combo2 : {l r p q s t : R} (k m : R) → p ≡ q → s ≡ t → l + neg r ≡ k * (p + neg q) + m * (s + neg t) → l ≡ r
  combo2 k m h g e = combo k h (e ∙ add-vanish m g)

  pub combo3 : {l r p q s t u v : R} (k m n : R) → p ≡ q → s ≡ t → u ≡ v → l + neg r ≡ k * (p + neg q) + m * (s + neg t) + n * (u + neg v) → l ≡ r
  combo3 k m n h g f e = combo2 k m h g (e ∙ add-vanish n f)
