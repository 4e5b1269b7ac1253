-- Whole numbers: a size with a sign, and the laws of `lib.IntN`'s numbers that the library lacks.
use Rattle.std.specs.Prelude.{◌≡◌, refl, Bool, true, false, not, cond, ℕ, zero, suc, ◌+◌, ◌*◌, ◌-◌, ◌≤◌, ◌<◌, T, ltb, eqb, ℤ, pos, negsuc, neg_ℤ, nat_abs, ◌+ℤ◌, ◌-ℤ◌, ◌*ℤ◌}
use Rattle.std.proofs.Common.{sym, ap, ap₂, ◌∙◌, mul_assoc, mul-pos, zero-lt-suc, le_refl, arith, ltb-true, eqb-true, eq-eqb, ltb→lt}
use Rattle.std.proofs.Math.IntN.{sub_ℕ, +ℤ_assoc, +ℤ_comm, +ℤ_idl, +ℤ_one, suc_ℤ, neg_ℤ-neg_ℤ, neg_ℤ-+ℤ, zero-*ℤ, *ℤ_comm, *ℤ-one, suc_ℤ-*ℤ, one, pos-ne-negsuc}
use Rattle.std.specs.Int.Signed.{lt_z, mag}

-- the number of size n with z's sign
abbrev pub signed : ℤ → ℕ → ℤ
signed (pos _) n = pos n
signed (negsuc _) n = neg_ℤ (pos n)

-- two numbers are equal
abbrev pub eq_z : ℤ → ℤ → Bool
eq_z (pos m) (pos n) = eqb m n
eq_z (pos m) (negsuc n) = false
eq_z (negsuc m) (pos n) = false
eq_z (negsuc m) (negsuc n) = eqb m n

-- ---- tests

-- two tests that are true together are one
pub same_test : (t u : Bool) → (t ≡ true → u ≡ true) → (u ≡ true → t ≡ true) → t ≡ u
same_test true u f g = sym (f refl)
same_test false true f g = g refl
same_test false false f g = refl

pub eq_z-true : (a b : ℤ) → eq_z a b ≡ true → a ≡ b
eq_z-true (pos a) (pos b) e = ap pos (eqb-true a b e)
eq_z-true (pos a) (negsuc b) e = cc
eq_z-true (negsuc a) (pos b) e = cc
eq_z-true (negsuc a) (negsuc b) e = ap negsuc (eqb-true a b e)

pub eq_z-refl : (a : ℤ) → eq_z a a ≡ true
eq_z-refl (pos a) = eq-eqb a a refl
eq_z-refl (negsuc a) = eq-eqb a a refl

below-zero : (n : ℕ) → n < 0 → ⊥
below-zero n h = omega arith

unlike : true ≡ false → ⊥
unlike e = let z : ◌≡◌ {A = ℕ} 0 1 = cc in omega arith

-- of a negative number: one more is not above 0, and its negation is one less than the size
pub one_more : (z : ℤ) → lt_z z (pos 0) ≡ true → z +ℤ pos 1 ≡ neg_ℤ (pos (mag z))
one_more (pos n) e = absurd (below-zero n (ltb-true n 0 e))
one_more (negsuc n) e = +ℤ_one (negsuc n) ∙ next n
  where
    next : (n : ℕ) → suc_ℤ (negsuc n) ≡ neg_ℤ (pos n)
    next zero = refl
    next (suc n) = refl

pub negative-size : (z : ℤ) → lt_z z (pos 0) ≡ true → mag z + 1 ≡ nat_abs z
negative-size (pos n) e = absurd (below-zero n (ltb-true n 0 e))
negative-size (negsuc n) e = omega arith

pub size-pos : (z : ℤ) → lt_z z (pos 0) ≡ false → z ≡ pos (nat_abs z)
size-pos (pos n) e = refl
size-pos (negsuc n) e = absurd (unlike e)

pub signed-neg : (z : ℤ) (q : ℕ) → lt_z z (pos 0) ≡ true → pos 0 -ℤ pos q ≡ signed z q
signed-neg (pos n) q e = absurd (below-zero n (ltb-true n 0 e))
signed-neg (negsuc n) q e = +ℤ_idl (neg_ℤ (pos q))

pub signed-pos : (z : ℤ) (q : ℕ) → lt_z z (pos 0) ≡ false → pos q ≡ signed z q
signed-pos (pos n) q e = refl
signed-pos (negsuc n) q e = absurd (unlike e)

-- ---- sizes

pub nat_abs-neg : (n : ℕ) → nat_abs (neg_ℤ (pos n)) ≡ n
nat_abs-neg zero = refl
nat_abs-neg (suc n) = refl

pub nat_abs-neg_ℤ : (z : ℤ) → nat_abs (neg_ℤ z) ≡ nat_abs z
nat_abs-neg_ℤ (pos n) = nat_abs-neg n
nat_abs-neg_ℤ (negsuc n) = refl

pub nat_abs-signed : (z : ℤ) (n : ℕ) → nat_abs (signed z n) ≡ n
nat_abs-signed (pos _) n = refl
nat_abs-signed (negsuc _) n = nat_abs-neg n

pub nat_abs_mul : (a b : ℤ) → nat_abs (a *ℤ b) ≡ nat_abs a * nat_abs b
nat_abs_mul (pos a) (pos b) = refl
nat_abs_mul (pos a) (negsuc b) = nat_abs-neg (a * suc b)
nat_abs_mul (negsuc a) (pos b) = nat_abs-neg (suc a * b)
nat_abs_mul (negsuc a) (negsuc b) = refl

cond-case : (t : Bool) (x y : ℤ) (P : ℤ → Type 0) → (T t → P x) → (T (not t) → P y) → P (cond t x y)
cond-case true x y P f g = f tt
cond-case false x y P f g = g tt

nat_abs-sub : (a b : ℕ) → nat_abs (sub_ℕ a b) ≤ a + b
nat_abs-sub a b =
    cond-case (ltb a b) (negsuc (b - suc a)) (pos (a - b)) (λ z. nat_abs z ≤ a + b) (λ t. under (ltb→lt a b t)) (λ t. over)
  where
    under : a < b → suc (b - suc a) ≤ a + b
    under h = omega arith

    over : a - b ≤ a + b
    over = omega arith

pub nat_abs-add : (a b : ℤ) → nat_abs (a +ℤ b) ≤ nat_abs a + nat_abs b
nat_abs-add (pos a) (pos b) = le_refl (a + b)
nat_abs-add (pos a) (negsuc b) = nat_abs-sub a (suc b)
nat_abs-add (negsuc a) (pos b) = omega (arith, nat_abs-sub b (suc a))
nat_abs-add (negsuc a) (negsuc b) = omega arith

-- ---- products

-- what holds at each natural number, and at -x where it holds at x, holds at all
sign-ind : (P : ℤ → Type 0) → ((n : ℕ) → P (pos n)) → ((x : ℤ) → P x → P (neg_ℤ x)) → (x : ℤ) → P x
sign-ind P f g (pos n) = f n
sign-ind P f g (negsuc n) = g (pos (suc n)) (f (suc n))

pub neg-*ℤ : (x y : ℤ) → neg_ℤ x *ℤ y ≡ neg_ℤ (x *ℤ y)
neg-*ℤ (pos zero) y = zero-*ℤ y ∙ sym (ap neg_ℤ (zero-*ℤ y))
neg-*ℤ (pos (suc a)) (pos b) = refl
neg-*ℤ (pos (suc a)) (negsuc b) = sym (neg_ℤ-neg_ℤ (pos (suc a * suc b)))
neg-*ℤ (negsuc a) (pos b) = sym (neg_ℤ-neg_ℤ (pos (suc a * b)))
neg-*ℤ (negsuc a) (negsuc b) = refl

pub *ℤ-neg : (x y : ℤ) → x *ℤ neg_ℤ y ≡ neg_ℤ (x *ℤ y)
*ℤ-neg x y = *ℤ_comm x (neg_ℤ y) ∙ neg-*ℤ y x ∙ ap neg_ℤ (*ℤ_comm y x)

pub *ℤ-assoc : (x y z : ℤ) → x *ℤ y *ℤ z ≡ x *ℤ (y *ℤ z)
*ℤ-assoc x y z = sign-ind (λ x. x *ℤ y *ℤ z ≡ x *ℤ (y *ℤ z)) (λ a. at_y a y) step-x x
  where
    at-z : (a b : ℕ) (z : ℤ) → pos a *ℤ pos b *ℤ z ≡ pos a *ℤ (pos b *ℤ z)
    at-z a b z =
        sign-ind (λ z. pos a *ℤ pos b *ℤ z ≡ pos a *ℤ (pos b *ℤ z)) (λ c. ap pos (mul_assoc a b c))
        (λ w h. *ℤ-neg (pos a *ℤ pos b) w ∙ ap neg_ℤ h ∙ sym (*ℤ-neg (pos a) (pos b *ℤ w)) ∙ ap (λ t. pos a *ℤ t) (sym (*ℤ-neg (pos b) w))) z

    at_y : (a : ℕ) (y : ℤ) → pos a *ℤ y *ℤ z ≡ pos a *ℤ (y *ℤ z)
    at_y a y =
        sign-ind (λ y. pos a *ℤ y *ℤ z ≡ pos a *ℤ (y *ℤ z)) (λ b. at-z a b z)
        (λ w h. ap (λ t. t *ℤ z) (*ℤ-neg (pos a) w) ∙ neg-*ℤ (pos a *ℤ w) z ∙ ap neg_ℤ h ∙ sym (*ℤ-neg (pos a) (w *ℤ z)) ∙ ap (λ t. pos a *ℤ t) (sym (neg-*ℤ w z))) y

    step-x : (w : ℤ) → w *ℤ y *ℤ z ≡ w *ℤ (y *ℤ z) → neg_ℤ w *ℤ y *ℤ z ≡ neg_ℤ w *ℤ (y *ℤ z)
    step-x w h = ap (λ t. t *ℤ z) (neg-*ℤ w y) ∙ neg-*ℤ (w *ℤ y) z ∙ ap neg_ℤ h ∙ sym (neg-*ℤ w (y *ℤ z))

swap_mid : (a b c d : ℤ) → a +ℤ b +ℤ (c +ℤ d) ≡ a +ℤ c +ℤ (b +ℤ d)
swap_mid a b c d =
    +ℤ_assoc a b (c +ℤ d) ∙ ap (λ t. a +ℤ t) (sym (+ℤ_assoc b c d) ∙ ap (λ t. t +ℤ d) (+ℤ_comm b c) ∙ +ℤ_assoc c b d) ∙ sym (+ℤ_assoc a c (b +ℤ d))

pub *ℤ-+ℤ : (x y z : ℤ) → x *ℤ (y +ℤ z) ≡ x *ℤ y +ℤ x *ℤ z
*ℤ-+ℤ x y z = sign-ind (λ x. x *ℤ (y +ℤ z) ≡ x *ℤ y +ℤ x *ℤ z) up step x
  where
    up : (n : ℕ) → pos n *ℤ (y +ℤ z) ≡ pos n *ℤ y +ℤ pos n *ℤ z
    up zero = zero-*ℤ (y +ℤ z) ∙ sym (ap₂ ◌+ℤ◌ (zero-*ℤ y) (zero-*ℤ z))
    up (suc n) = suc_ℤ-*ℤ (pos n) (y +ℤ z) ∙ ap (λ t. t +ℤ (y +ℤ z)) (up n) ∙ swap_mid (pos n *ℤ y) (pos n *ℤ z) y z ∙ sym (ap₂ ◌+ℤ◌ (suc_ℤ-*ℤ (pos n) y) (suc_ℤ-*ℤ (pos n) z))

    step : (w : ℤ) → w *ℤ (y +ℤ z) ≡ w *ℤ y +ℤ w *ℤ z → neg_ℤ w *ℤ (y +ℤ z) ≡ neg_ℤ w *ℤ y +ℤ neg_ℤ w *ℤ z
    step w h = neg-*ℤ w (y +ℤ z) ∙ ap neg_ℤ h ∙ neg_ℤ-+ℤ (w *ℤ y) (w *ℤ z) ∙ sym (ap₂ ◌+ℤ◌ (neg-*ℤ w y) (neg-*ℤ w z))

pub *ℤ-un : (x : ℤ) → x *ℤ pos 1 ≡ x
unfolding one
*ℤ-un x = *ℤ-one x

-- ---- ratios

crosswise : (n m g a d : ℕ) → n * g ≡ a → m * g ≡ d → n * d ≡ a * m
crosswise n m g a d p q = rw (← p, ← q) (omega arith)

-- z over d is n over m with z's sign, where both numbers are multiples by one number
pub same-ratio : (z : ℤ) (d n m g : ℕ) → n * g ≡ nat_abs z → m * g ≡ d → signed z n *ℤ pos d ≡ z *ℤ pos m
same-ratio (pos a) d n m g p q = ap pos (crosswise n m g a d p q)
same-ratio (negsuc a) d n m g p q = neg-*ℤ (pos n) (pos d) ∙ ap (λ (k : ℕ). neg_ℤ (pos k)) (crosswise n m g (suc a) d p q)

neg-pos : (k l : ℕ) → 0 < k → neg_ℤ (pos k) ≡ pos l → ⊥
neg-pos zero l h e = omega arith
neg-pos (suc k) l h e = pos-ne-negsuc l k (sym e)

-- of two equal ratios, z over m and y over d, the sign of one is the other's
pub same_sign : (z y : ℤ) (d m : ℕ) → 0 < d → 0 < m → y *ℤ pos d ≡ z *ℤ pos m → signed z (nat_abs y) ≡ y
same_sign (pos a) (pos b) d m hd hm e = refl
same_sign (pos a) (negsuc b) d m hd hm e = absurd (neg-pos (suc b * d) (a * m) (mul-pos (zero-lt-suc b) hd) e)
same_sign (negsuc a) (pos b) d m hd hm e = absurd (neg-pos (suc a * m) (b * d) (mul-pos (zero-lt-suc a) hm) (sym e))
same_sign (negsuc a) (negsuc b) d m hd hm e = refl
