-- Laws of finite sums over a list, of functions with one entry changed, and of the numbers below a number.
use mathlib.Core.Path.{◌≡◌, refl, sym, ◌∙◌, ap, ap₂}
use mathlib.Core.Logic.{◌⊎◌, inl, inr}
use mathlib.Core.List.Memᴰ
use mathlib.Core.List.{List, [], ◌∷◌, ◌++◌, Memᴰ}
use mathlib.Core.Bool.{Bool, true, false, cond}
use Prim.Native.Nat.{ℕ, zero, suc, ◌≤◌, ◌<◌, ◌+◌}
use native.Mathlib.Numerals.{add-one}
use native.Mathlib.Decide.{ℕ_discrete}
use native.Mathlib.Omega.{arith}
use lib.Dec.{T, eqb, eqb→eq, eqb_refl}
use Rattle.algebra.proofs.Solver.{◌:+◌, ◌:*◌, :neg, :0, ◌:=◌, ring1, ring2, ring3, ring4}
use Rattle.algebra.specs.Rat.{ℚ, ◌+ℚ◌, ◌*ℚ◌, -ℚ◌, ◌≤ℚ◌, 0_ℚ as 𝟘}
use Rattle.algebra.proofs.Rat.{ℚ-ring, add_ℚ-zero as add-zero, add_ℚ-comm as add_comm}
use Rattle.algebra.specs.Sum.{sum, upd, only, range}
use Rattle.algebra.proofs.Order.{le_refl, add-mono, add-nn}

-- k does not stand in the list
pub data Absent (k : ℕ) : List ℕ → Type 0 where
  none : Absent k []
  step : {x : ℕ} {l : List ℕ} → ¬ (k ≡ x) → Absent k l → Absent k (x ∷ l)

-- k stands in the list once
pub data Once (k : ℕ) : List ℕ → Type 0 where
  here : {x : ℕ} {l : List ℕ} → k ≡ x → Absent k l → Once k (x ∷ l)
  there : {x : ℕ} {l : List ℕ} → ¬ (k ≡ x) → Once k l → Once k (x ∷ l)

module _ {A : Type 0} where
  pub sum_congr : (l : List A) (f g : A → ℚ) → ((a : A) → Memᴰ a l → f a ≡ g a) → sum l f ≡ sum l g
  sum_congr [] f g h = refl
  sum_congr (a ∷ l) f g h = ap₂ ◌+ℚ◌ (h a (Memᴰ.head refl)) (sum_congr l f g (λ b m. h b (Memᴰ.tail m)))

  pub sum-ext : (l : List A) (f g : A → ℚ) → ((a : A) → f a ≡ g a) → sum l f ≡ sum l g
  sum-ext l f g h = sum_congr l f g (λ a m. h a)

  pub sum-le : (l : List A) (f g : A → ℚ) → ((a : A) → Memᴰ a l → f a ≤ℚ g a) → sum l f ≤ℚ sum l g
  sum-le [] f g h = le_refl 𝟘
  sum-le (a ∷ l) f g h = add-mono (h a (Memᴰ.head refl)) (sum-le l f g (λ b m. h b (Memᴰ.tail m)))

  pub sum-nn : (l : List A) (f : A → ℚ) → ((a : A) → Memᴰ a l → 𝟘 ≤ℚ f a) → 𝟘 ≤ℚ sum l f
  sum-nn [] f h = le_refl 𝟘
  sum-nn (a ∷ l) f h = add-nn (h a (Memᴰ.head refl)) (sum-nn l f (λ b m. h b (Memᴰ.tail m)))

  pub sum-add : (l : List A) (f g : A → ℚ) → sum l (λ a. f a +ℚ g a) ≡ sum l f +ℚ sum l g
  sum-add [] f g = ring1 ℚ-ring 𝟘 (λ x. :0 := :0 :+ :0) refl
  sum-add (a ∷ l) f g = ap (λ x. f a +ℚ g a +ℚ x) (sum-add l f g) ∙ ring4 ℚ-ring (f a) (g a) (sum l f) (sum l g) (λ a b c d. a :+ b :+ (c :+ d) := a :+ c :+ (b :+ d)) refl

  pub sum-mul : (l : List A) (k : ℚ) (f : A → ℚ) → sum l (λ a. k *ℚ f a) ≡ k *ℚ sum l f
  sum-mul [] k f = ring1 ℚ-ring k (λ k. :0 := k :* :0) refl
  sum-mul (a ∷ l) k f = ap (λ x. k *ℚ f a +ℚ x) (sum-mul l k f) ∙ ring3 ℚ-ring k (f a) (sum l f) (λ k a s. k :* a :+ k :* s := k :* (a :+ s)) refl

  pub sum-neg : (l : List A) (f : A → ℚ) → sum l (λ a. -ℚ f a) ≡ -ℚ sum l f
  sum-neg [] f = ring1 ℚ-ring 𝟘 (λ x. :0 := :neg :0) refl
  sum-neg (a ∷ l) f = ap (λ x. -ℚ f a +ℚ x) (sum-neg l f) ∙ ring2 ℚ-ring (f a) (sum l f) (λ a s. :neg a :+ :neg s := :neg (a :+ s)) refl

  pub sum-zero : (l : List A) → sum l (λ a. 𝟘) ≡ 𝟘
  sum-zero [] = refl
  sum-zero (a ∷ l) = ap (λ x. 𝟘 +ℚ x) (sum-zero l) ∙ add-zero 𝟘

  pub sum-append : (l m : List A) (f : A → ℚ) → sum (l ++ m) f ≡ sum l f +ℚ sum m f
  sum-append [] m f = ring1 ℚ-ring (sum m f) (λ x. x := :0 :+ x) refl
  sum-append (a ∷ l) m f = ap (λ x. f a +ℚ x) (sum-append l m f) ∙ ring3 ℚ-ring (f a) (sum l f) (sum m f) (λ a b c. a :+ (b :+ c) := a :+ b :+ c) refl

-- two sums may be exchanged
pub sum-swap : {A B : Type 0} (l : List A) (m : List B) (f : A → B → ℚ) → sum l (λ a. sum m (λ b. f a b)) ≡ sum m (λ b. sum l (λ a. f a b))
sum-swap [] m f = sym (sum-zero m)
sum-swap (a ∷ l) m f = ap (λ x. sum m (f a) +ℚ x) (sum-swap l m f) ∙ sym (sum-add m (f a) (λ b. sum l (λ a. f a b)))

-- ---- one entry changed

cond-true : (b : Bool) (v w : ℚ) → T b → cond b v w ≡ v
cond-true true v w t = refl
cond-true false v w t = absurd t

cond-false : (b : Bool) (v w : ℚ) → ¬ (T b) → cond b v w ≡ w
cond-false true v w t = absurd (t tt)
cond-false false v w t = refl

pub upd_same : (f : ℕ → ℚ) (k : ℕ) (v : ℚ) → upd f k v k ≡ v
upd_same f k v = cond-true (eqb k k) v (f k) (eqb_refl k)

pub upd_other : (f : ℕ → ℚ) (k : ℕ) (v : ℚ) (i : ℕ) → ¬ (k ≡ i) → upd f k v i ≡ f i
upd_other f k v i h = cond-false (eqb i k) v (f i) (λ t. h (sym (eqb→eq i k t)))

pub only_same : (k : ℕ) (v : ℚ) → only k v k ≡ v
only_same k v = upd_same (λ j. 𝟘) k v

pub only-other : (k i : ℕ) (v : ℚ) → ¬ (k ≡ i) → only k v i ≡ 𝟘
only-other k i v h = upd_other (λ j. 𝟘) k v i h

-- two functions that differ at k alone: where k stands once, their sums differ as they do at k
pub sum_same : {k : ℕ} {l : List ℕ} (f g : ℕ → ℚ) → Absent k l → ((i : ℕ) → ¬ (k ≡ i) → f i ≡ g i) → sum l f ≡ sum l g
sum_same f g none h = refl
sum_same f g (step {x} {l} n a) h = ap₂ ◌+ℚ◌ (h x n) (sum_same f g a h)

pub sum-change : {k : ℕ} {l : List ℕ} (f g : ℕ → ℚ) → Once k l → ((i : ℕ) → ¬ (k ≡ i) → f i ≡ g i) → sum l f +ℚ g k ≡ sum l g +ℚ f k
sum-change {k} f g (here {x} {l} e a) h =
    ap₂ (λ s t. f s +ℚ t +ℚ g k) (sym e) (sum_same f g a h) ∙ ring3 ℚ-ring (f k) (sum l g) (g k) (λ a s b. a :+ s :+ b := b :+ s :+ a) refl ∙ ap (λ s. g s +ℚ sum l g +ℚ f k) e
sum-change {k} f g (there {x} {l} n o) h =
    ap (λ t. t +ℚ sum l f +ℚ g k) (h x n) ∙ ring3 ℚ-ring (g x) (sum l f) (g k) (λ a s b. a :+ s :+ b := a :+ (s :+ b)) refl
    ∙ ap (λ t. g x +ℚ t) (sum-change f g o h) ∙ ring3 ℚ-ring (g x) (sum l g) (f k) (λ a s b. a :+ (s :+ b) := a :+ s :+ b) refl

-- two functions that differ at j and k alone
pub sum-change2 : {j k : ℕ} {l : List ℕ} (f g : ℕ → ℚ) → ¬ (j ≡ k) → Once j l → Once k l → ((i : ℕ) → ¬ (j ≡ i) → ¬ (k ≡ i) → f i ≡ g i) → sum l f +ℚ (g j +ℚ g k) ≡ sum l g +ℚ (f j +ℚ f k)
sum-change2 {j} {k} {l} f g n oj ok h =
    ring3 ℚ-ring (sum l f) (g j) (g k) (λ s a b. s :+ (a :+ b) := s :+ a :+ b) refl
    ∙ ap (λ t. sum l f +ℚ t +ℚ g k) (sym (upd_same f j (g j)))
    ∙ ap (λ t. t +ℚ g k) (sum-change f m oj (λ i d. sym (upd_other f j (g j) i d)))
    ∙ ring3 ℚ-ring (sum l m) (f j) (g k) (λ s a b. s :+ a :+ b := s :+ b :+ a) refl
    ∙ ap (λ t. t +ℚ f j) (sum-change m g ok m-g)
    ∙ ap (λ t. sum l g +ℚ t +ℚ f j) (upd_other f j (g j) k n)
    ∙ ring3 ℚ-ring (sum l g) (f k) (f j) (λ s a b. s :+ a :+ b := s :+ (b :+ a)) refl
  where
    m : ℕ → ℚ
    m = upd f j (g j)

    m-g' : (i : ℕ) → ¬ (k ≡ i) → Dec (j ≡ i) → m i ≡ g i
    m-g' i d (yes e) = ap m (sym e) ∙ upd_same f j (g j) ∙ ap g e
    m-g' i d (no e) = upd_other f j (g j) i e ∙ h i e d

    m-g : (i : ℕ) → ¬ (k ≡ i) → m i ≡ g i
    m-g i d = m-g' i d (ℕ_discrete j i)

-- a sum of which all but one term, or all but two, are 0
pub sum_one : {k : ℕ} {l : List ℕ} (f : ℕ → ℚ) → Once k l → ((i : ℕ) → ¬ (k ≡ i) → f i ≡ 𝟘) → sum l f ≡ f k
sum_one {k} {l} f o h = sym (add-zero (sum l f)) ∙ sum-change f (λ i. 𝟘) o h ∙ ap (λ t. t +ℚ f k) (sum-zero l) ∙ ring1 ℚ-ring (f k) (λ a. :0 :+ a := a) refl

pub sum-only : {k : ℕ} {l : List ℕ} (v : ℚ) (p : ℕ → ℚ) → Once k l → sum l (λ i. only k v i *ℚ p i) ≡ v *ℚ p k
sum-only {k} v p o = sum_one (λ i. only k v i *ℚ p i) o (λ i n. ap (λ t. t *ℚ p i) (only-other k i v n) ∙ ring1 ℚ-ring (p i) (λ x. :0 :* x := :0) refl) ∙ ap (λ t. t *ℚ p k) (only_same k v)

pub sum-two : {j k : ℕ} {l : List ℕ} (f : ℕ → ℚ) → ¬ (j ≡ k) → Once j l → Once k l → ((i : ℕ) → ¬ (j ≡ i) → ¬ (k ≡ i) → f i ≡ 𝟘) → sum l f ≡ f j +ℚ f k
sum-two {j} {k} {l} f n oj ok h =
    ring1 ℚ-ring (sum l f) (λ s. s := s :+ (:0 :+ :0)) refl ∙ sum-change2 f (λ i. 𝟘) n oj ok h ∙ ap (λ t. t +ℚ (f j +ℚ f k)) (sum-zero l) ∙ ring2 ℚ-ring (f j) (f k) (λ a b. :0 :+ (a :+ b) := a :+ b) refl

-- ---- the numbers below n, each once

range-absent : (k n : ℕ) → n ≤ k → Absent k (range n)
unfolding range
range-absent k zero h = none
range-absent k (suc n) h = step (λ e. apart e h) (range-absent k n (omega arith))
  where
    apart : k ≡ n → suc n ≤ k → ⊥
    apart e h = omega arith

pub range-once : (k n : ℕ) → k < n → Once k (range n)
unfolding range
range-once k zero h = absurd (nothing h)
  where
    nothing : k < zero → ⊥
    nothing h = omega arith
range-once k (suc n) h = go (ℕ_discrete k n) (λ h. range-once k n h)
  where
    go : Dec (k ≡ n) → (k < n → Once k (range n)) → Once k (n ∷ range n)
    go (yes e) f = here e (range-absent k n (omega arith))
    go (no d) f = there d (f (omega arith))

pub range-mem : (k n : ℕ) → Memᴰ k (range n) → k < n
unfolding range
range-mem k zero m = absurd (Memᴰ.not-nil m)
range-mem k (suc n) m = go (Memᴰ.cases_cons m) (λ t. range-mem k n t)
  where
    go : (k ≡ n) ⊎ Memᴰ k (range n) → (Memᴰ k (range n) → k < n) → k < suc n
    go (inl e) f = omega arith
    go (inr t) f = let h : k < n = f t in omega arith

-- one more term
pub sum-range : (n : ℕ) (f : ℕ → ℚ) → sum (range (n + 1)) f ≡ sum (range n) f +ℚ f n
unfolding range
sum-range n f = ap (λ t. sum (range t) f) (add-one n) ∙ add_comm (f n) (sum (range n) f)
