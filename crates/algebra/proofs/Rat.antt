-- The rational numbers are an ordered field.
use mathlib.Core.Path.{◌≡◌, refl, sym, ◌∙◌, ap, subst}
use mathlib.Core.Logic.{◌↔◌, ◌⊎◌}
use mathlib.Core.HLevel.{Π_prop}
use mathlib.Core.Quot.{sound, ind}
use Prim.Native.Nat.{ℕ, zero, suc, ◌<◌}
use native.Mathlib.Nat.{not-suc-le-zero}
use lib.Dec.{T, T_prop}
use lib.IntN.{ℤ, pos, negsuc, neg_ℤ, nat_abs, ◌+ℤ◌, ◌-ℤ◌, ◌*ℤ◌}
use lib.Signed.{◌≤ℤ◌}
use Rattle.integer.specs.Whole.{signed}
use Rattle.algebra.specs.Ratio.{Frac, over, rel, add_f, mul_f, neg_f}
use Rattle.algebra.specs.Rat.{ℚ, mk, ℚ-set, ◌+ℚ◌, ◌*ℚ◌, -ℚ◌, inv_ℚ, nn_ℚ, from_ℤ, 0_ℚ, 1_ℚ, ◌≤ℚ◌}
use Rattle.algebra.proofs.Ring.{CommRing}
use Rattle.algebra.proofs.Solver.{◌:+◌, ◌:*◌, ◌:-◌, :neg, :0, :1, ◌:=◌, ring1, ring2, ring4, ring6}
use Rattle.algebra.proofs.Ordered.{OrderedRing, OrderedField, Cone, ordered}
use Rattle.algebra.proofs.Int.{ℤ-ring, NN, nn_add, nn_mul, nn_antisym, nn_total, ≤ℤ-nn}

-- ---- what holds of fractions holds of numbers

each : {P : ℚ → Type 0} → ((p : ℚ) → IsProp (P p)) → ((x : Frac) → P (mk x)) → (p : ℚ) → P p
unfolding ℚ
each c h p = ind c h p

each2 : {P : ℚ → ℚ → Type 0} → ((p q : ℚ) → IsProp (P p q)) → ((x y : Frac) → P (mk x) (mk y)) → (p q : ℚ) → P p q
each2 c h p q = each (λ p. c p q) (λ x. each (c (mk x)) (h x) q) p

each3 : {P : ℚ → ℚ → ℚ → Type 0} → ((p q r : ℚ) → IsProp (P p q r)) → ((x y z : Frac) → P (mk x) (mk y) (mk z)) → (p q r : ℚ) → P p q r
each3 c h p q r = each (λ p. c p q r) (λ x. each2 (c (mk x)) (h x) q r) p

-- ---- the laws of a ring, each by an equation of whole numbers

pub add_ℚ-assoc : (p q r : ℚ) → p +ℚ q +ℚ r ≡ p +ℚ (q +ℚ r)
unfolding ◌+ℚ◌ ℚ
add_ℚ-assoc = each3 (λ p q r. ℚ-set _ _) (λ x y z. sound
    (ring6 ℤ-ring x.num (pos x.den) y.num (pos y.den) z.num (pos z.den)
    (λ a b c d e f. ((a :* d :+ c :* b) :* f :+ e :* (b :* d)) :* (b :* (d :* f)) := (a :* (d :* f) :+ (c :* f :+ e :* d) :* b) :* ((b :* d) :* f)) refl))

pub add_ℚ-comm : (p q : ℚ) → p +ℚ q ≡ q +ℚ p
unfolding ◌+ℚ◌ ℚ
add_ℚ-comm = each2 (λ p q. ℚ-set _ _) (λ x y. sound
    (ring4 ℤ-ring x.num (pos x.den) y.num (pos y.den) (λ a b c d. (a :* d :+ c :* b) :* (d :* b) := (c :* b :+ a :* d) :* (b :* d)) refl))

pub add_ℚ-zero : (p : ℚ) → p +ℚ 0_ℚ ≡ p
unfolding ◌+ℚ◌ from_ℤ ℚ
add_ℚ-zero = each (λ p. ℚ-set _ _) (λ x. sound (ring2 ℤ-ring x.num (pos x.den) (λ a b. (a :* :1 :+ :0 :* b) :* b := a :* (b :* :1)) refl))

pub add_ℚ-neg : (p : ℚ) → p +ℚ -ℚ p ≡ 0_ℚ
unfolding ◌+ℚ◌ -ℚ◌ from_ℤ ℚ
add_ℚ-neg = each (λ p. ℚ-set _ _) (λ x. sound (ring2 ℤ-ring x.num (pos x.den) (λ a b. (a :* b :+ :neg a :* b) :* :1 := :0 :* (b :* b)) refl))

pub mul_ℚ-assoc : (p q r : ℚ) → p *ℚ q *ℚ r ≡ p *ℚ (q *ℚ r)
unfolding ◌*ℚ◌ ℚ
mul_ℚ-assoc = each3 (λ p q r. ℚ-set _ _) (λ x y z. sound
    (ring6 ℤ-ring x.num (pos x.den) y.num (pos y.den) z.num (pos z.den)
    (λ a b c d e f. ((a :* c) :* e) :* (b :* (d :* f)) := (a :* (c :* e)) :* ((b :* d) :* f)) refl))

pub mul_ℚ-comm : (p q : ℚ) → p *ℚ q ≡ q *ℚ p
unfolding ◌*ℚ◌ ℚ
mul_ℚ-comm = each2 (λ p q. ℚ-set _ _) (λ x y. sound
    (ring4 ℤ-ring x.num (pos x.den) y.num (pos y.den) (λ a b c d. (a :* c) :* (d :* b) := (c :* a) :* (b :* d)) refl))

pub mul_ℚ-one : (p : ℚ) → p *ℚ 1_ℚ ≡ p
unfolding ◌*ℚ◌ from_ℤ ℚ
mul_ℚ-one = each (λ p. ℚ-set _ _) (λ x. sound (ring2 ℤ-ring x.num (pos x.den) (λ a b. (a :* :1) :* b := a :* (b :* :1)) refl))

pub mul_ℚ-add : (p q r : ℚ) → p *ℚ (q +ℚ r) ≡ p *ℚ q +ℚ p *ℚ r
unfolding ◌*ℚ◌ ◌+ℚ◌ ℚ
mul_ℚ-add = each3 (λ p q r. ℚ-set _ _) (λ x y z. sound
    (ring6 ℤ-ring x.num (pos x.den) y.num (pos y.den) z.num (pos z.den)
    (λ a b c d e f. (a :* (c :* f :+ e :* d)) :* ((b :* d) :* (b :* f)) := ((a :* c) :* (b :* f) :+ (a :* e) :* (b :* d)) :* (b :* (d :* f))) refl))

abbrev pub ℚ-ring : CommRing
ℚ-ring = record {
  R = ℚ;
  add = ◌+ℚ◌;
  mul = ◌*ℚ◌;
  neg = -ℚ◌;
  zr = 0_ℚ;
  un = 1_ℚ;
  add_assoc = add_ℚ-assoc;
  add_comm = add_ℚ-comm;
  add-zero = add_ℚ-zero;
  add_neg = add_ℚ-neg;
  mul_assoc = mul_ℚ-assoc;
  mul_comm = mul_ℚ-comm;
  mul_one = mul_ℚ-one;
  mul_add = mul_ℚ-add;
}

-- ---- the order

pub nn_ℚ-add : (p q : ℚ) → T (nn_ℚ p) → T (nn_ℚ q) → T (nn_ℚ (p +ℚ q))
unfolding nn_ℚ ◌+ℚ◌ ℚ
nn_ℚ-add = each2 (λ p q. Π_prop (λ h. Π_prop (λ k. T_prop (nn_ℚ (p +ℚ q)))))
    (λ x y h k. nn_add (x.num *ℤ pos y.den) (y.num *ℤ pos x.den) (nn_mul x.num (pos y.den) h tt) (nn_mul y.num (pos x.den) k tt))

pub nn_ℚ-mul : (p q : ℚ) → T (nn_ℚ p) → T (nn_ℚ q) → T (nn_ℚ (p *ℚ q))
unfolding nn_ℚ ◌*ℚ◌ ℚ
nn_ℚ-mul = each2 (λ p q. Π_prop (λ h. Π_prop (λ k. T_prop (nn_ℚ (p *ℚ q))))) (λ x y. nn_mul x.num y.num)

pub nn_ℚ-antisym : (p : ℚ) → T (nn_ℚ p) → T (nn_ℚ (-ℚ p)) → p ≡ 0_ℚ
unfolding nn_ℚ -ℚ◌ from_ℤ ℚ
nn_ℚ-antisym = each (λ p. Π_prop (λ h. Π_prop (λ k. ℚ-set _ _)))
    (λ x h k. sound (ap (λ t. t *ℤ pos 1) (nn_antisym x.num h k) ∙ ring1 ℤ-ring (pos x.den) (λ b. :0 :* :1 := :0 :* b) refl))

pub nn_ℚ-total : (p : ℚ) → ¬ (T (nn_ℚ p)) → T (nn_ℚ (-ℚ p))
unfolding nn_ℚ -ℚ◌ ℚ
nn_ℚ-total = each (λ p. Π_prop (λ h. T_prop (nn_ℚ (-ℚ p)))) (λ x. nn_total x.num)

abbrev pub ℚ-cone : Cone ℚ-ring
ℚ-cone = record {
  nn = nn_ℚ;
  nn_add = nn_ℚ-add;
  nn_mul = nn_ℚ-mul;
  nn_antisym = nn_ℚ-antisym;
  nn_total = nn_ℚ-total;
  le = ◌≤ℚ◌;
  le_nn = λ p q. (λ h. h.le, λ h. record { le = h });
}

abbrev pub ℚ-ordered : OrderedRing
ℚ-ordered = ordered ℚ-ring ℚ-cone

pub ≤ℚ-dec : (p q : ℚ) → Dec (p ≤ℚ q)
≤ℚ-dec = ℚ-ordered.le_dec

pub ≤ℚ-total : (p q : ℚ) → p ≤ℚ q ⊎ q ≤ℚ p
≤ℚ-total = ℚ-ordered.le_total

pub ≤ℚ-trans : (p q r : ℚ) → p ≤ℚ q → q ≤ℚ r → p ≤ℚ r
≤ℚ-trans = ℚ-ordered.le_trans

pub ≤ℚ-antisym : (p q : ℚ) → p ≤ℚ q → q ≤ℚ p → p ≡ q
≤ℚ-antisym = ℚ-ordered.le_antisym

pub add_ℚ-le : (p q r : ℚ) → p ≤ℚ q → p +ℚ r ≤ℚ q +ℚ r
add_ℚ-le = ℚ-ordered.add_le

pub mul_ℚ-nn : (p q : ℚ) → 0_ℚ ≤ℚ p → 0_ℚ ≤ℚ q → 0_ℚ ≤ℚ p *ℚ q
mul_ℚ-nn = ℚ-ordered.mul_nn

-- ---- the inverse

pub mul_ℚ-inv : (p : ℚ) → ¬ (p ≡ 0_ℚ) → p *ℚ inv_ℚ p ≡ 1_ℚ
unfolding ◌*ℚ◌ inv_ℚ from_ℤ ℚ
mul_ℚ-inv = each (λ p. Π_prop (λ h. ℚ-set _ _)) (λ x. go x.num x.den x.den_pos)
  where
    go : (a : ℤ) (b : ℕ) (h : 0 < b) → ¬ (mk (over a b h) ≡ 0_ℚ) → mk (over a b h) *ℚ inv_ℚ (mk (over a b h)) ≡ 1_ℚ
    go (pos zero) b h n = absurd (n (sound (ring1 ℤ-ring (pos b) (λ b. :0 :* :1 := :0 :* b) refl)))
    go (pos (suc a)) b h n = sound (ring2 ℤ-ring (pos (suc a)) (pos b) (λ a b. (a :* b) :* :1 := :1 :* (b :* a)) refl)
    go (negsuc a) b h n = sound (ring2 ℤ-ring (pos (suc a)) (pos b) (λ a b. (:neg a :* :neg b) :* :1 := :1 :* (b :* a)) refl)

pub inv_ℚ-zero : inv_ℚ 0_ℚ ≡ 0_ℚ
unfolding inv_ℚ from_ℤ ℚ
inv_ℚ-zero = refl

pub one≢zero_ℚ : ¬ (1_ℚ ≡ 0_ℚ)
unfolding from_ℤ nn_ℚ -ℚ◌
one≢zero_ℚ e = subst (λ p. T (nn_ℚ (-ℚ p))) (sym e) tt

abbrev pub ℚ-field : OrderedField
ℚ-field = record { ordered = ℚ-ordered; inv = inv_ℚ; mul_inv = mul_ℚ-inv; one≢zero = one≢zero_ℚ }

-- ---- the operations and the order on fractions

pub mk-div : (n : ℤ) (d : ℕ) (h : 0 < d) → from_ℤ n *ℚ inv_ℚ (from_ℤ (pos d)) ≡ mk (over n d h)
unfolding from_ℤ inv_ℚ ◌*ℚ◌ ℚ
mk-div n zero h = absurd (not-suc-le-zero h)
mk-div n (suc d) h = sound (ring2 ℤ-ring n (pos (suc d)) (λ n d. (n :* :1) :* d := n :* (:1 :* d)) refl)

pub mk-inv : (n : ℤ) (d : ℕ) (h : 0 < d) (k : 0 < nat_abs n) → inv_ℚ (mk (over n d h)) ≡ mk (over (signed n d) (nat_abs n) k)
unfolding inv_ℚ ℚ
mk-inv (pos zero) d h k = absurd (not-suc-le-zero k)
mk-inv (pos (suc n)) d h k = sound refl
mk-inv (negsuc n) d h k = sound refl

pub mk-neg : (x : Frac) → -ℚ mk x ≡ mk (neg_f x)
unfolding -ℚ◌ ℚ
mk-neg x = refl

module _ (x y : Frac) where
  pub mk-eq : rel x y → mk x ≡ mk y
  unfolding ℚ
  mk-eq h = sound h

  pub mk-add : mk x +ℚ mk y ≡ mk (add_f x y)
  unfolding ◌+ℚ◌ ℚ
  mk-add = refl

  pub mk-mul : mk x *ℚ mk y ≡ mk (mul_f x y)
  unfolding ◌*ℚ◌ ℚ
  mk-mul = refl

  pub mk-le : (x.num *ℤ pos y.den) ≤ℤ (y.num *ℤ pos x.den) ↔ mk x ≤ℚ mk y
  unfolding -ℚ◌ ◌+ℚ◌ nn_ℚ ℚ
  mk-le = (λ h. record { le = subst NN e (nn.0 h) }, λ h. nn.1 (subst NN (sym e) h.le))
    where
      nn : (x.num *ℤ pos y.den) ≤ℤ (y.num *ℤ pos x.den) ↔ NN (y.num *ℤ pos x.den -ℤ x.num *ℤ pos y.den)
      nn = ≤ℤ-nn (x.num *ℤ pos y.den) (y.num *ℤ pos x.den)

      e : y.num *ℤ pos x.den -ℤ x.num *ℤ pos y.den ≡ y.num *ℤ pos x.den +ℤ neg_ℤ x.num *ℤ pos y.den
      e = ring4 ℤ-ring x.num (pos x.den) y.num (pos y.den) (λ a b c d. c :* b :- a :* d := c :* b :+ :neg a :* d) refl
