-- Short lists of named columns, each standing once in a longer list: sums over the long list of two functions that differ at the named places alone,
-- and the same names in another order.
use mathlib.Core.Path.{◌≡◌, refl, sym, ◌∙◌, ap, subst}
use mathlib.Core.Logic.{◌⊎◌, inl, inr}
use mathlib.Core.List.Memᴰ
use mathlib.Core.List.{List, [], ◌∷◌, Memᴰ}
use Prim.Native.Nat.{ℕ}
use native.Mathlib.Decide.{ℕ_discrete}
use Rattle.algebra.proofs.Solver.{◌:+◌, :0, ◌:=◌, ring2, ring3}
use Rattle.algebra.specs.Rat.{ℚ, ◌+ℚ◌, 0_ℚ as 𝟘}
use Rattle.algebra.proofs.Rat.{ℚ-ring, add_ℚ-zero as add-zero}
use Rattle.algebra.proofs.Sum.{Absent, none, step, Once, here, there, sum-change, sum_congr, sum-zero, upd_same, upd_other}
use Rattle.algebra.specs.Sum.{sum, upd}

-- no name twice
pub data Distinct : List ℕ → Type 0 where
  nil : Distinct []
  cons : {k : ℕ} {l : List ℕ} → Absent k l → Distinct l → Distinct (k ∷ l)

pub once-mem : {c : ℕ} {l : List ℕ} → Once c l → Memᴰ c l
once-mem (here e a) = Memᴰ.head e
once-mem (there n o) = Memᴰ.tail (once-mem o)

-- named, or not
pub named? : (c : ℕ) (l : List ℕ) → Memᴰ c l ⊎ Absent c l
named? c [] = inr none
named? c (k ∷ l) = go (ℕ_discrete c k) (named? c l)
  where
    go : Dec (c ≡ k) → Memᴰ c l ⊎ Absent c l → Memᴰ c (k ∷ l) ⊎ Absent c (k ∷ l)
    go (yes e) r = inl (Memᴰ.head e)
    go (no n) (inl m) = inl (Memᴰ.tail m)
    go (no n) (inr a) = inr (step n a)

pub absent-mem : {c : ℕ} {l : List ℕ} → Absent c l → Memᴰ c l → ⊥
absent-mem none m = Memᴰ.not-nil m
absent-mem {c} (step {x} {l} n a) m = go (Memᴰ.cases_cons m) (λ t. absent-mem a t)
  where
    go : (c ≡ x) ⊎ Memᴰ c l → (Memᴰ c l → ⊥) → ⊥
    go (inl e) r = n e
    go (inr t) r = r t

pub absent-apart : {k : ℕ} {l : List ℕ} → Absent k l → (c : ℕ) → Memᴰ c l → ¬ (k ≡ c)
absent-apart {l} a c m e = absent-mem a (subst (λ t. Memᴰ t l) (sym e) m)

-- a fact for every name of a list, written out name by name
abbrev pub All : (ℕ → Type 0) → List ℕ → Type 0
All P [] = Unit {0}
All P (k ∷ l) = P k × All P l

pub all-mem : (P : ℕ → Type 0) (l : List ℕ) → All P l → (c : ℕ) → Memᴰ c l → P c
all-mem P [] h c m = absurd (Memᴰ.not-nil m)
all-mem P (k ∷ l) h c m = go (Memᴰ.cases_cons m) (all-mem P l h.1 c)
  where
    go : (c ≡ k) ⊎ Memᴰ c l → (Memᴰ c l → P c) → P c
    go (inl e) r = subst P (sym e) h.0
    go (inr t) r = r t

-- two functions that agree but at the names: their sums over the long list differ as those over the names do
pub sum-named : {l : List ℕ} (names : List ℕ) (f g : ℕ → ℚ) → Distinct names → ((c : ℕ) → Memᴰ c names → Once c l) → ((c : ℕ) → Memᴰ c l → Absent c names → f c ≡ g c)
    → sum l f +ℚ sum names g ≡ sum l g +ℚ sum names f
sum-named {l} [] f g d o h = ap (λ t. t +ℚ 𝟘) (sum_congr l f g (λ c m. h c m none))
sum-named {l} (k ∷ L) f g (cons a d) o h =
    ring3 ℚ-ring (sum l f) (g k) (sum L g) (λ s b t. s :+ (b :+ t) := s :+ b :+ t) refl
    ∙ ap (λ t. sum l f +ℚ t +ℚ sum L g) (sym (upd_same f k (g k)))
    ∙ ap (λ t. t +ℚ sum L g) (sum-change f m (o k (Memᴰ.head refl)) (λ c n. sym (upd_other f k (g k) c n)))
    ∙ ring3 ℚ-ring (sum l m) (f k) (sum L g) (λ s b t. s :+ b :+ t := s :+ t :+ b) refl
    ∙ ap (λ t. t +ℚ f k) (sum-named L m g d (λ c e. o c (Memᴰ.tail e)) agree)
    ∙ ap (λ t. sum l g +ℚ t +ℚ f k) (sum_congr L m f (λ c e. upd_other f k (g k) c (absent-apart a c e)))
    ∙ ring3 ℚ-ring (sum l g) (sum L f) (f k) (λ s t b. s :+ t :+ b := s :+ (b :+ t)) refl
  where
    m : ℕ → ℚ
    m = upd f k (g k)

    agree' : (c : ℕ) → Memᴰ c l → Absent c L → Dec (k ≡ c) → m c ≡ g c
    agree' c i b (yes e) = ap m (sym e) ∙ upd_same f k (g k) ∙ ap g e
    agree' c i b (no n) = upd_other f k (g k) c n ∙ h c i (step (λ e. n (sym e)) b)

    agree : (c : ℕ) → Memᴰ c l → Absent c L → m c ≡ g c
    agree c i b = agree' c i b (ℕ_discrete k c)

-- a function that is 0 but at the names
pub sum-at-named : {l : List ℕ} (names : List ℕ) (f : ℕ → ℚ) → Distinct names → ((c : ℕ) → Memᴰ c names → Once c l) → ((c : ℕ) → Memᴰ c l → Absent c names → f c ≡ 𝟘)
    → sum l f ≡ sum names f
sum-at-named {l} names f d o h =
    sym (add-zero (sum l f)) ∙ ap (λ t. sum l f +ℚ t) (sym (sum-zero names)) ∙ sum-named names f (λ c. 𝟘) d o h ∙ ap (λ t. t +ℚ sum names f) (sum-zero l)
    ∙ ring2 ℚ-ring (sum names f) (sum names f) (λ a b. :0 :+ a := a) refl

-- names told apart
pub apart : {j k : ℕ} {l : List ℕ} → Absent j (k ∷ l) → ¬ (j ≡ k)
apart (step n a) = n

pub further : {j k : ℕ} {l : List ℕ} → Absent j (k ∷ l) → Absent j l
further (step n a) = a

-- ---- a function with the values vs at the names ks

abbrev pub puts : List ℕ → List ℚ → (ℕ → ℚ) → ℕ → ℚ
puts [] vs f = f
puts (k ∷ ks) [] f = f
puts (k ∷ ks) (v ∷ vs) f = upd (puts ks vs f) k v

-- g has the values vs at the names ks
abbrev pub Reads : (ℕ → ℚ) → List ℕ → List ℚ → Type 0
Reads g [] vs = Unit {0}
Reads g (k ∷ ks) [] = Unit {0}
Reads g (k ∷ ks) (v ∷ vs) = (g k ≡ v) × Reads g ks vs

reads-ext : (g h : ℕ → ℚ) (ks : List ℕ) (vs : List ℚ) → ((c : ℕ) → Memᴰ c ks → h c ≡ g c) → Reads g ks vs → Reads h ks vs
reads-ext g h [] vs e r = tt
reads-ext g h (k ∷ ks) [] e r = tt
reads-ext g h (k ∷ ks) (v ∷ vs) e r = (e k (Memᴰ.head refl) ∙ r.0, reads-ext g h ks vs (λ c m. e c (Memᴰ.tail m)) r.1)

pub puts-at : (ks : List ℕ) (vs : List ℚ) (f : ℕ → ℚ) → Distinct ks → Reads (puts ks vs f) ks vs
puts-at [] vs f d = tt
puts-at (k ∷ ks) [] f d = tt
puts-at (k ∷ ks) (v ∷ vs) f (cons a d) = (upd_same (puts ks vs f) k v, reads-ext (puts ks vs f) (upd (puts ks vs f) k v) ks vs (λ c m. upd_other (puts ks vs f) k v c (absent-apart a c m)) (puts-at ks vs f d))

pub puts-off : (ks : List ℕ) (vs : List ℚ) (f : ℕ → ℚ) (c : ℕ) → Absent c ks → puts ks vs f c ≡ f c
puts-off [] vs f c a = refl
puts-off (k ∷ ks) [] f c a = refl
puts-off (k ∷ ks) (v ∷ vs) f c (step n a) = upd_other (puts ks vs f) k v c (λ e. n (sym e)) ∙ puts-off ks vs f c a

-- ---- the names in another order

pub data Perm : List ℕ → List ℕ → Type 0 where
  pnil : Perm [] []
  skip : {k : ℕ} {l m : List ℕ} → Perm l m → Perm (k ∷ l) (k ∷ m)
  swap : {j k : ℕ} {l : List ℕ} → Perm (j ∷ k ∷ l) (k ∷ j ∷ l)
  trans : {l m r : List ℕ} → Perm l m → Perm m r → Perm l r

pub perm-refl : (l : List ℕ) → Perm l l
perm-refl [] = pnil
perm-refl (k ∷ l) = skip (perm-refl l)

pub perm-sym : {l m : List ℕ} → Perm l m → Perm m l
perm-sym pnil = pnil
perm-sym (skip p) = skip (perm-sym p)
perm-sym swap = swap
perm-sym (trans p q) = trans (perm-sym q) (perm-sym p)

pub sum-perm : {l m : List ℕ} (f : ℕ → ℚ) → Perm l m → sum l f ≡ sum m f
sum-perm f pnil = refl
sum-perm f (skip {k} p) = ap (λ t. f k +ℚ t) (sum-perm f p)
sum-perm f (swap {j} {k} {l}) = ring3 ℚ-ring (f j) (f k) (sum l f) (λ a b s. a :+ (b :+ s) := b :+ (a :+ s)) refl
sum-perm f (trans p q) = sum-perm f p ∙ sum-perm f q

pub mem-perm : {l m : List ℕ} {c : ℕ} → Perm l m → Memᴰ c l → Memᴰ c m
mem-perm pnil e = e
mem-perm {c} (skip {k} {l} {m} p) e = go (Memᴰ.cases_cons e) (λ t. mem-perm p t)
  where
    go : (c ≡ k) ⊎ Memᴰ c l → (Memᴰ c l → Memᴰ c m) → Memᴰ c (k ∷ m)
    go (inl e) r = Memᴰ.head e
    go (inr t) r = Memᴰ.tail (r t)
mem-perm {c} (swap {j} {k} {l}) e = go (Memᴰ.cases_cons e)
  where
    go₂ : (c ≡ k) ⊎ Memᴰ c l → Memᴰ c (k ∷ j ∷ l)
    go₂ (inl e) = Memᴰ.head e
    go₂ (inr t) = Memᴰ.tail (Memᴰ.tail t)

    go : (c ≡ j) ⊎ Memᴰ c (k ∷ l) → Memᴰ c (k ∷ j ∷ l)
    go (inl e) = Memᴰ.tail (Memᴰ.head e)
    go (inr t) = go₂ (Memᴰ.cases_cons t)
mem-perm (trans p q) e = mem-perm q (mem-perm p e)

pub absent-perm : {l m : List ℕ} {c : ℕ} → Perm l m → Absent c l → Absent c m
absent-perm {l} {m} {c} p a = go (named? c m)
  where
    go : Memᴰ c m ⊎ Absent c m → Absent c m
    go (inl e) = absurd (absent-mem a (mem-perm (perm-sym p) e))
    go (inr b) = b

pub distinct-perm : {l m : List ℕ} → Perm l m → Distinct l → Distinct m
distinct-perm pnil d = d
distinct-perm (skip p) (cons a d) = cons (absent-perm p a) (distinct-perm p d)
distinct-perm (swap {j} {k} {l}) (cons (step n a) (cons b d)) = cons (step (λ e. n (sym e)) b) (cons a d)
distinct-perm (trans p q) d = distinct-perm q (distinct-perm p d)

-- a name of a list, put first
first-name : {k : ℕ} (m : List ℕ) → Memᴰ k m → (r : List ℕ) × Perm m (k ∷ r)
first-name [] e = absurd (Memᴰ.not-nil e)
first-name {k} (j ∷ m) e = go (Memᴰ.cases_cons e) (λ t. first-name m t)
  where
    go : (k ≡ j) ⊎ Memᴰ k m → (Memᴰ k m → (r : List ℕ) × Perm m (k ∷ r)) → (r : List ℕ) × Perm (j ∷ m) (k ∷ r)
    go (inl q) s = (m, subst (λ t. Perm (j ∷ m) (t ∷ m)) (sym q) (perm-refl (j ∷ m)))
    go (inr t) s = let r = s t in (j ∷ r.0, trans (skip r.1) swap)

-- lists of the same names, none of them twice, differ in their order alone
module _ {k : ℕ} {l m r : List ℕ} (a : Absent k l) (p : Perm m (k ∷ r)) where
  other : {c : ℕ} {t : List ℕ} → ¬ (c ≡ k) → Memᴰ c (k ∷ t) → Memᴰ c t
  other {c} {t} n h = by (Memᴰ.cases_cons h)
    where
      by : (c ≡ k) ⊎ Memᴰ c t → Memᴰ c t
      by (inl q) = absurd (n q)
      by (inr h) = h

  rest_in : ((c : ℕ) → Memᴰ c (k ∷ l) → Memᴰ c m) → (c : ℕ) → Memᴰ c l → Memᴰ c r
  rest_in f c h = other (λ q. absent-apart a c h (sym q)) (mem-perm p (f c (Memᴰ.tail h)))

  rest_back : Distinct (k ∷ r) → ((c : ℕ) → Memᴰ c m → Memᴰ c (k ∷ l)) → (c : ℕ) → Memᴰ c r → Memᴰ c l
  rest_back (cons b d) g c h = other (λ q. absent-apart b c h (sym q)) (g c (mem-perm (perm-sym p) (Memᴰ.tail h)))

tail-distinct : {k : ℕ} {l : List ℕ} → Distinct (k ∷ l) → Distinct l
tail-distinct (cons a d) = d

pub perm-of : (l m : List ℕ) → Distinct l → Distinct m → ((c : ℕ) → Memᴰ c l → Memᴰ c m) → ((c : ℕ) → Memᴰ c m → Memᴰ c l) → Perm l m
perm-of [] [] d e f g = pnil
perm-of [] (j ∷ m) d e f g = absurd (Memᴰ.not-nil (g j (Memᴰ.head refl)))
perm-of (k ∷ l) m (cons a d) e f g =
    let s = first-name m (f k (Memᴰ.head refl)) in
    let e' = distinct-perm s.1 e in
    trans (skip (perm-of l s.0 d (tail-distinct e') (rest_in a s.1 f) (rest_back a s.1 e' g))) (perm-sym s.1)
