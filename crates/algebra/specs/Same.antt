-- The operations on fractions give one number where they are given one number. These are proofs, and they stand here because the operations on ℚ are defined by them.
use Rattle.std.specs.Prelude.{◌≡◌, refl, Bool, true, false, ℕ, zero, suc, ◌*◌, ◌<◌, T, ℤ, pos, negsuc, neg_ℤ, ◌+ℤ◌, ◌*ℤ◌}
use Rattle.std.proofs.Common.{sym, ◌∙◌, ap, ap₂, subst, not-suc-le-zero, arith}
use Rattle.std.proofs.Math.IntN.{*ℤ_comm}
use Rattle.std.specs.Int.Signed.{non_neg}
use Rattle.integer.specs.Whole.{neg-*ℤ, *ℤ-assoc, *ℤ-+ℤ}
use Rattle.algebra.specs.Ratio.{Frac, over, rel, add_f, mul_f, neg_f, inv_n, inv_f}

-- the two factors in the middle exchanged
swap : (a b c d : ℤ) → a *ℤ b *ℤ (c *ℤ d) ≡ a *ℤ c *ℤ (b *ℤ d)
swap a b c d = *ℤ-assoc a b (c *ℤ d) ∙ ap (λ t. a *ℤ t) (sym (*ℤ-assoc b c d) ∙ ap (λ t. t *ℤ d) (*ℤ_comm b c) ∙ *ℤ-assoc c b d) ∙ sym (*ℤ-assoc a c (b *ℤ d))

add_times : (a b c : ℤ) → (a +ℤ b) *ℤ c ≡ a *ℤ c +ℤ b *ℤ c
add_times a b c = *ℤ_comm (a +ℤ b) c ∙ *ℤ-+ℤ c a b ∙ ap₂ ◌+ℤ◌ (*ℤ_comm c a) (*ℤ_comm c b)

-- one term of a sum over a common denominator
term : (a b a' b' d d' : ℤ) → a *ℤ b' ≡ a' *ℤ b → a *ℤ d *ℤ (b' *ℤ d') ≡ a' *ℤ d' *ℤ (b *ℤ d)
term a b a' b' d d' h = swap a d b' d' ∙ ap₂ ◌*ℤ◌ h (*ℤ_comm d d') ∙ swap a' b d' d

pub add-resp : (x x' y y' : Frac) → rel x x' → rel y y' → rel (add_f x y) (add_f x' y')
add-resp x x' y y' h k = by x.num (pos x.den) x'.num (pos x'.den) y.num (pos y.den) y'.num (pos y'.den) h k
  where
    by : (a b a' b' c d c' d' : ℤ) → a *ℤ b' ≡ a' *ℤ b → c *ℤ d' ≡ c' *ℤ d → (a *ℤ d +ℤ c *ℤ b) *ℤ (b' *ℤ d') ≡ (a' *ℤ d' +ℤ c' *ℤ b') *ℤ (b *ℤ d)
    by a b a' b' c d c' d' h k =
        add_times (a *ℤ d) (c *ℤ b) (b' *ℤ d')
        ∙ ap₂ ◌+ℤ◌ (term a b a' b' d d' h) (ap (λ t. c *ℤ b *ℤ t) (*ℤ_comm b' d') ∙ term c d c' d' b b' k ∙ ap (λ t. c' *ℤ b' *ℤ t) (*ℤ_comm d b))
        ∙ sym (add_times (a' *ℤ d') (c' *ℤ b') (b *ℤ d))

pub mul-resp : (x x' y y' : Frac) → rel x x' → rel y y' → rel (mul_f x y) (mul_f x' y')
mul-resp x x' y y' h k = by x.num (pos x.den) x'.num (pos x'.den) y.num (pos y.den) y'.num (pos y'.den) h k
  where
    by : (a b a' b' c d c' d' : ℤ) → a *ℤ b' ≡ a' *ℤ b → c *ℤ d' ≡ c' *ℤ d → a *ℤ c *ℤ (b' *ℤ d') ≡ a' *ℤ c' *ℤ (b *ℤ d)
    by a b a' b' c d c' d' h k = swap a c b' d' ∙ ap₂ ◌*ℤ◌ h k ∙ swap a' b c' d

pub neg-resp : (x x' : Frac) → rel x x' → rel (neg_f x) (neg_f x')
neg-resp x x' h = neg-*ℤ x.num (pos x'.den) ∙ ap neg_ℤ h ∙ sym (neg-*ℤ x'.num (pos x.den))

-- equal fractions have one sign
nn-half : (a a' : ℤ) (b b' : ℕ) → 0 < b → a *ℤ pos b' ≡ a' *ℤ pos b → T (non_neg a) → T (non_neg a')
nn-half (negsuc n) a' b b' hb h t = absurd t
nn-half (pos n) (pos m) b b' hb h t = tt
nn-half (pos n) (negsuc m) zero b' hb h t = absurd (not-suc-le-zero hb)
nn-half (pos n) (negsuc m) (suc b) b' hb h t = gone (suc m * suc b) (omega arith) (subst (λ z. T (non_neg z)) h tt)
  where
    gone : (k : ℕ) → 0 < k → T (non_neg (neg_ℤ (pos k))) → ⊥
    gone zero h t = omega arith
    gone (suc k) h t = t

pub nn-resp : (x y : Frac) → rel x y → non_neg x.num ≡ non_neg y.num
nn-resp x y h = same (non_neg x.num) (non_neg y.num) (nn-half x.num y.num x.den y.den x.den_pos h) (nn-half y.num x.num y.den x.den y.den_pos (sym h))
  where
    same : (b c : Bool) → (T b → T c) → (T c → T b) → b ≡ c
    same true true f g = refl
    same true false f g = absurd (f tt)
    same false true f g = absurd (g tt)
    same false false f g = refl

pub inv-resp : (x x' : Frac) → rel x x' → rel (inv_f x) (inv_f x')
inv-resp x x' = go x.num x'.num x.den x'.den x.den_pos x'.den_pos
  where
    clash : (n b b' : ℕ) → 0 < b → pos 0 *ℤ pos b' ≡ pos (suc n) *ℤ pos b → ⊥
    clash n b b' h e = let z : 0 * b' ≡ suc n * b = cc in omega arith

    turn : (a b a' b' : ℤ) → a *ℤ b' ≡ a' *ℤ b → b *ℤ a' ≡ b' *ℤ a
    turn a b a' b' h = *ℤ_comm b a' ∙ sym h ∙ *ℤ_comm a b'

    go : (a a' : ℤ) (b b' : ℕ) (hb : 0 < b) (hb' : 0 < b') → rel (over a b hb) (over a' b' hb') → rel (inv_n a b) (inv_n a' b')
    go (pos zero) (pos zero) b b' hb hb' h = refl
    go (pos zero) (pos (suc n)) b b' hb hb' h = absurd (clash n b b' hb h)
    go (pos (suc n)) (pos zero) b b' hb hb' h = absurd (clash n b' b hb' (sym h))
    go (pos (suc n)) (pos (suc m)) b b' hb hb' h = turn (pos (suc n)) (pos b) (pos (suc m)) (pos b') h
    go (negsuc n) (negsuc m) b b' hb hb' h =
        neg-*ℤ (pos b) (pos (suc m)) ∙ ap (λ t. neg_ℤ t) (*ℤ_comm (pos b) (pos (suc m))) ∙ sym (neg-*ℤ (pos (suc m)) (pos b))
        ∙ sym h ∙ neg-*ℤ (pos (suc n)) (pos b') ∙ ap (λ t. neg_ℤ t) (*ℤ_comm (pos (suc n)) (pos b')) ∙ sym (neg-*ℤ (pos b') (pos (suc n)))
    go (pos n) (negsuc m) b b' hb hb' h = absurd (nn-half (pos n) (negsuc m) b b' hb h tt)
    go (negsuc n) (pos m) b b' hb hb' h = absurd (nn-half (pos m) (negsuc n) b' b hb' (sym h) tt)
