-- Inverses and quotients of rational numbers.
use mathlib.Core.Path.{◌≡◌, refl, sym, ◌∙◌, ap}
use Rattle.algebra.proofs.Ring.{combo, combo2, combo3}
use Rattle.algebra.proofs.Solver.{◌:+◌, ◌:*◌, ◌:-◌, :neg, :0, :1, ◌:=◌, ring1, ring2, ring3, ring4, ring6}
use Rattle.algebra.specs.Rat.{ℚ, ◌+ℚ◌, ◌*ℚ◌, -ℚ◌, ◌≤ℚ◌, 0_ℚ as 𝟘, 1_ℚ as 𝟙, inv_ℚ as inv, ◌<ℚ◌}
use Rattle.algebra.proofs.Rat.{ℚ-ring, mul_ℚ-inv as mul_inv}
use Rattle.algebra.proofs.Order.{lt→le, pos-ne, sub-nn, le-by, mul_nn', sq-nn}

pub inv-nn : {a : ℚ} → 𝟘 <ℚ a → 𝟘 ≤ℚ inv a
inv-nn {a} h = le-by (mul_nn' (sq-nn (inv a)) (lt→le h)) (combo ℚ-ring (-ℚ inv a) (mul_inv a (pos-ne h)) (ring2 ℚ-ring a (inv a) (λ a i. i :- :0 :- i :* i :* a := :neg i :* (a :* i :- :1)) refl))

pub mul-cancel : {a b c : ℚ} → ¬ (a ≡ 𝟘) → a *ℚ b ≡ a *ℚ c → b ≡ c
mul-cancel {a} {b} {c} h e = sym (strip b) ∙ ap (λ x. inv a *ℚ x) e ∙ strip c
  where
    strip : (x : ℚ) → inv a *ℚ (a *ℚ x) ≡ x
    strip x = combo ℚ-ring x (mul_inv a h) (ring3 ℚ-ring a (inv a) x (λ a i x. i :* (a :* x) :- x := x :* (a :* i :- :1)) refl)

-- a positive factor may go
pub le-cancel : {k a b : ℚ} → 𝟘 <ℚ k → k *ℚ a ≤ℚ k *ℚ b → a ≤ℚ b
le-cancel {k} {a} {b} h g = le-by (mul_nn' (inv-nn h) (sub-nn g)) (combo ℚ-ring (a +ℚ -ℚ b) (mul_inv k (pos-ne h)) (ring4 ℚ-ring k a b (inv k) (λ k a b i. b :- a :- i :* (k :* b :- k :* a) := (a :- b) :* (k :* i :- :1)) refl))

pub mul-ne : {a b : ℚ} → ¬ (a ≡ 𝟘) → ¬ (b ≡ 𝟘) → ¬ (a *ℚ b ≡ 𝟘)
mul-ne {a} {b} ha hb e = hb (mul-cancel ha (e ∙ ring1 ℚ-ring a (λ a. :0 := a :* :0) refl))

pub inv_unique : {a b : ℚ} → ¬ (a ≡ 𝟘) → a *ℚ b ≡ 𝟙 → b ≡ inv a
inv_unique {a} {b} h e = mul-cancel h (e ∙ sym (mul_inv a h))

pub inv-mul : {a b : ℚ} → ¬ (a ≡ 𝟘) → ¬ (b ≡ 𝟘) → inv a *ℚ inv b ≡ inv (a *ℚ b)
inv-mul {a} {b} ha hb = inv_unique (mul-ne ha hb) (combo2 ℚ-ring (b *ℚ inv b) 𝟙 (mul_inv a ha) (mul_inv b hb)
    (ring4 ℚ-ring a b (inv a) (inv b) (λ a b i k. a :* b :* (i :* k) :- :1 := b :* k :* (a :* i :- :1) :+ :1 :* (b :* k :- :1)) refl))

-- quotients, by cross-multiplication
pub div-eq : (a : ℚ) {b : ℚ} (c : ℚ) {d : ℚ} → ¬ (b ≡ 𝟘) → ¬ (d ≡ 𝟘) → a *ℚ d ≡ c *ℚ b → a *ℚ inv b ≡ c *ℚ inv d
div-eq a {b} c {d} hb hd e = mul-cancel (mul-ne hb hd) (combo3 ℚ-ring 𝟙 (a *ℚ d) (-ℚ (c *ℚ b)) e (mul_inv b hb) (mul_inv d hd)
    (ring6 ℚ-ring a b c d (inv b) (inv d) (λ a b c d i k. b :* d :* (a :* i) :- b :* d :* (c :* k) := :1 :* (a :* d :- c :* b) :+ a :* d :* (b :* i :- :1) :+ :neg (c :* b) :* (d :* k :- :1)) refl))

pub div-add : (a : ℚ) {b : ℚ} (c : ℚ) {d : ℚ} → ¬ (b ≡ 𝟘) → ¬ (d ≡ 𝟘) → a *ℚ inv b +ℚ c *ℚ inv d ≡ (a *ℚ d +ℚ c *ℚ b) *ℚ inv (b *ℚ d)
div-add a {b} c {d} hb hd = combo2 ℚ-ring (-ℚ (c *ℚ inv d)) (-ℚ (a *ℚ inv b)) (mul_inv b hb) (mul_inv d hd)
    (ring6 ℚ-ring a b c d (inv b) (inv d) (λ a b c d i k. a :* i :+ c :* k :- (a :* d :+ c :* b) :* (i :* k) := :neg (c :* k) :* (b :* i :- :1) :+ :neg (a :* i) :* (d :* k :- :1)) refl)
    ∙ ap (λ t. (a *ℚ d +ℚ c *ℚ b) *ℚ t) (inv-mul hb hd)

-- a x ≤ b, where a is positive, is x ≤ b / a
pub le-div : {a b x : ℚ} → 𝟘 <ℚ a → a *ℚ x ≤ℚ b → x ≤ℚ b *ℚ inv a
le-div {a} {b} {x} h g = le-by (mul_nn' (inv-nn h) (sub-nn g)) (combo ℚ-ring x (mul_inv a (pos-ne h)) (ring4 ℚ-ring a b x (inv a) (λ a b x i. b :* i :- x :- i :* (b :- a :* x) := x :* (a :* i :- :1)) refl))
