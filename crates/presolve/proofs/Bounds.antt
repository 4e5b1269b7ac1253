-- Laws of bounds, each perhaps absent: the tighter of two, what lies within them, and what reduced cost fits a flow within them.
use mathlib.Core.Path.{◌≡◌, refl, sym, ◌∙◌, ap, subst}
use mathlib.Core.Logic.{◌⊎◌, inl, inr}
use mathlib.Core.Option.{Option, none, some}
use Rattle.algebra.proofs.Solver.{◌:*◌, :0, ◌:=◌, ring2}
use Rattle.algebra.specs.Rat.{ℚ, ◌*ℚ◌, ◌≤ℚ◌, 0_ℚ as 𝟘, ◌<ℚ◌}
use Rattle.algebra.proofs.Rat.{ℚ-ring, ≤ℚ-dec as le_dec, ≤ℚ-trans as le_trans, ≤ℚ-antisym as le_antisym}
use Rattle.algebra.proofs.Order.{le_refl, lt→le, eq-dec, le_of_eq, Sign, sign, neg, zer, pos, mul_mono, mul-anti}
use Rattle.presolve.specs.Bounds.{Fits, Within}

pub map_o : {A B : Type 0} → (A → B) → Option A → Option B
map_o f none = none
map_o f (some a) = some (f a)

pub map_o-at : {A B : Type 0} (f : A → B) (a : A) → map_o f (some a) ≡ some (f a)
unfolding map_o
map_o-at f a = refl

pub map_o-none : {A B : Type 0} (f : A → B) → map_o f none ≡ none
unfolding map_o
map_o-none f = refl

pub some_inj : {A : Type 0} {a b : A} → some a ≡ some b → a ≡ b
some_inj h = cc

pub none-some : {A : Type 0} {a : A} → none ≡ some a → ⊥
none-some {A} {a} h = subst D h tt
  where
    D : Option A → Type 0
    D none = Unit {0}
    D (some x) = ⊥

pub map_o-some : {A B : Type 0} (f : A → B) (o : Option A) {b : B} → map_o f o ≡ some b → (a : A) × (o ≡ some a) × (f a ≡ b)
unfolding map_o
map_o-some f none h = absurd (none-some h)
map_o-some f (some a) h = (a, refl, some_inj h)

-- what is there, and a fact of what is there
pub map_o-is : {A B : Type 0} (f : A → B) {o : Option A} {a : A} → o ≡ some a → map_o f o ≡ some (f a)
map_o-is f {a} e = ap (map_o f) e ∙ map_o-at f a

pub map_o-each : {A B : Type 0} (f : A → B) (o : Option A) (P : B → Type 0) → ((a : A) → o ≡ some a → P (f a)) → (b : B) → map_o f o ≡ some b → P b
map_o-each f o P h b e = let t = map_o-some f o e in subst P t.2 (h t.0 t.1)

-- one of two numbers, by a decision
unfoldable pub choose : {A : Type 0} → Dec A → ℚ → ℚ → ℚ
choose (yes a) u v = u
choose (no n) u v = v

-- the greater of two numbers
unfoldable pub larger : ℚ → ℚ → ℚ
larger a b = choose (le_dec b a) a b

pick : {a b : ℚ} → Dec (a ≤ℚ b) → ℚ → ℚ → ℚ
pick (yes h) u v = v
pick (no h) u v = u

-- the greater of two lower bounds
pub merge_l : Option ℚ → Option ℚ → Option ℚ
merge_l none o = o
merge_l (some a) none = some a
merge_l (some a) (some b) = some (pick (le_dec a b) a b)

-- the lesser of two upper bounds
pub merge_u : Option ℚ → Option ℚ → Option ℚ
merge_u none o = o
merge_u (some a) none = some a
merge_u (some a) (some b) = some (pick (le_dec b a) a b)

-- the lesser of an upper bound and a number
pub capped : Option ℚ → ℚ → ℚ
capped none v = v
capped (some u) v = pick (le_dec v u) u v

pub capped_is : (u : Option ℚ) (v : ℚ) → merge_u u (some v) ≡ some (capped u v)
unfolding merge_u capped
capped_is none v = refl
capped_is (some u) v = refl

-- the lesser of two, with a fact that holds of both and what the choice says
pub capped-case : (a b : ℚ) (P : ℚ → Type 0) → (a ≤ℚ b → P a) → (b ≤ℚ a → P b) → P (capped (some a) b)
unfolding capped pick
capped-case a b P f g = go (le_dec b a)
  where
    go : (d : Dec (b ≤ℚ a)) → P (pick d a b)
    go (yes h) = g h
    go (no n) = f (lt→le n)

-- where the other one is absent, or is no tighter
pub merge_l-none : (o : Option ℚ) → merge_l o none ≡ o
unfolding merge_l
merge_l-none none = refl
merge_l-none (some a) = refl

pub none-merge_l : (o : Option ℚ) → merge_l none o ≡ o
unfolding merge_l
none-merge_l o = refl

pub merge_u-none : (o : Option ℚ) → merge_u o none ≡ o
unfolding merge_u
merge_u-none none = refl
merge_u-none (some a) = refl

pub none-merge_u : (o : Option ℚ) → merge_u none o ≡ o
unfolding merge_u
none-merge_u o = refl

pick_first : {a b : ℚ} (d : Dec (a ≤ℚ b)) (u v : ℚ) → (a ≤ℚ b → v ≡ u) → pick d u v ≡ u
unfolding pick
pick_first (yes h) u v e = e h
pick_first (no h) u v e = refl

pick_second : {a b : ℚ} (d : Dec (a ≤ℚ b)) (u v : ℚ) → a ≤ℚ b → pick d u v ≡ v
unfolding pick
pick_second (yes h) u v k = refl
pick_second (no h) u v k = absurd (h k)

module _ {a b : ℚ} where
  pub merge_l-first : b ≤ℚ a → merge_l (some a) (some b) ≡ some a
  unfolding merge_l
  merge_l-first h = ap some (pick_first (le_dec a b) a b (λ k. le_antisym b a h k))

  pub merge_l-second : a ≤ℚ b → merge_l (some a) (some b) ≡ some b
  unfolding merge_l
  merge_l-second h = ap some (pick_second (le_dec a b) a b h)

  pub merge_u-first : a ≤ℚ b → merge_u (some a) (some b) ≡ some a
  unfolding merge_u
  merge_u-first h = ap some (pick_first (le_dec b a) a b (λ k. le_antisym b a k h))

  pub merge_u-second : b ≤ℚ a → merge_u (some a) (some b) ≡ some b
  unfolding merge_u
  merge_u-second h = ap some (pick_second (le_dec b a) a b h)

pick-or : {a b : ℚ} (d : Dec (a ≤ℚ b)) (u v w : ℚ) → pick d u v ≡ w → (u ≡ w) ⊎ (v ≡ w)
unfolding pick
pick-or (yes h) u v w e = inr e
pick-or (no h) u v w e = inl e

pub merge_l-or : (o q : Option ℚ) (v : ℚ) → merge_l o q ≡ some v → (o ≡ some v) ⊎ (q ≡ some v)
unfolding merge_l
merge_l-or none q v h = inr h
merge_l-or (some a) none v h = inl h
merge_l-or (some a) (some b) v h = go (pick-or (le_dec a b) a b v (some_inj h))
  where
    go : (a ≡ v) ⊎ (b ≡ v) → (some a ≡ some v) ⊎ (some b ≡ some v)
    go (inl e) = inl (ap some e)
    go (inr e) = inr (ap some e)

pub merge_u-or : (o q : Option ℚ) (v : ℚ) → merge_u o q ≡ some v → (o ≡ some v) ⊎ (q ≡ some v)
unfolding merge_u
merge_u-or none q v h = inr h
merge_u-or (some a) none v h = inl h
merge_u-or (some a) (some b) v h = go (pick-or (le_dec b a) a b v (some_inj h))
  where
    go : (a ≡ v) ⊎ (b ≡ v) → (some a ≡ some v) ⊎ (some b ≡ some v)
    go (inl e) = inl (ap some e)
    go (inr e) = inr (ap some e)

max-l : (a b : ℚ) (d : Dec (a ≤ℚ b)) → a ≤ℚ pick d a b
unfolding pick
max-l a b (yes h) = h
max-l a b (no h) = le_refl a

max-r : (a b : ℚ) (d : Dec (a ≤ℚ b)) → b ≤ℚ pick d a b
unfolding pick
max-r a b (yes h) = le_refl b
max-r a b (no h) = lt→le h

min-l : (a b : ℚ) (d : Dec (b ≤ℚ a)) → pick d a b ≤ℚ a
unfolding pick
min-l a b (yes h) = h
min-l a b (no h) = le_refl a

min-r : (a b : ℚ) (d : Dec (b ≤ℚ a)) → pick d a b ≤ℚ b
unfolding pick
min-r a b (yes h) = le_refl b
min-r a b (no h) = lt→le h

module _ (x : ℚ) where
  pub merge_l-l : (o q : Option ℚ) → ((v : ℚ) → merge_l o q ≡ some v → v ≤ℚ x) → (v : ℚ) → o ≡ some v → v ≤ℚ x
  unfolding merge_l
  merge_l-l none q h v e = absurd (none-some e)
  merge_l-l (some a) none h v e = h v e
  merge_l-l (some a) (some b) h v e = subst (λ t. t ≤ℚ x) (some_inj e) (le_trans a (pick (le_dec a b) a b) x (max-l a b (le_dec a b)) (h _ refl))

  pub merge_l-r : (o q : Option ℚ) → ((v : ℚ) → merge_l o q ≡ some v → v ≤ℚ x) → (v : ℚ) → q ≡ some v → v ≤ℚ x
  unfolding merge_l
  merge_l-r none q h v e = h v e
  merge_l-r (some a) none h v e = absurd (none-some e)
  merge_l-r (some a) (some b) h v e = subst (λ t. t ≤ℚ x) (some_inj e) (le_trans b (pick (le_dec a b) a b) x (max-r a b (le_dec a b)) (h _ refl))

  pub merge_u-l : (o q : Option ℚ) → ((v : ℚ) → merge_u o q ≡ some v → x ≤ℚ v) → (v : ℚ) → o ≡ some v → x ≤ℚ v
  unfolding merge_u
  merge_u-l none q h v e = absurd (none-some e)
  merge_u-l (some a) none h v e = h v e
  merge_u-l (some a) (some b) h v e = subst (λ t. x ≤ℚ t) (some_inj e) (le_trans x (pick (le_dec b a) a b) a (h _ refl) (min-l a b (le_dec b a)))

  pub merge_u-r : (o q : Option ℚ) → ((v : ℚ) → merge_u o q ≡ some v → x ≤ℚ v) → (v : ℚ) → q ≡ some v → x ≤ℚ v
  unfolding merge_u
  merge_u-r none q h v e = h v e
  merge_u-r (some a) none h v e = absurd (none-some e)
  merge_u-r (some a) (some b) h v e = subst (λ t. x ≤ℚ t) (some_inj e) (le_trans x (pick (le_dec b a) a b) b (h _ refl) (min-r a b (le_dec b a)))

-- a number within both is within the tighter of the two
pub merge_l-both : (x : ℚ) (o q : Option ℚ) → ((v : ℚ) → o ≡ some v → v ≤ℚ x) → ((v : ℚ) → q ≡ some v → v ≤ℚ x) → (v : ℚ) → merge_l o q ≡ some v → v ≤ℚ x
merge_l-both x o q h k v e = go (merge_l-or o q v e)
  where
    go : (o ≡ some v) ⊎ (q ≡ some v) → v ≤ℚ x
    go (inl a) = h v a
    go (inr b) = k v b

pub merge_u-both : (x : ℚ) (o q : Option ℚ) → ((v : ℚ) → o ≡ some v → x ≤ℚ v) → ((v : ℚ) → q ≡ some v → x ≤ℚ v) → (v : ℚ) → merge_u o q ≡ some v → x ≤ℚ v
merge_u-both x o q h k v e = go (merge_u-or o q v e)
  where
    go : (o ≡ some v) ⊎ (q ≡ some v) → x ≤ℚ v
    go (inl a) = h v a
    go (inr b) = k v b

-- ---- flows and reduced costs

-- whether it fits is decided
some-dec : (o : Option ℚ) (x : ℚ) → Dec (o ≡ some x)
some-dec none x = no (λ e. none-some e)
some-dec (some a) x = go (eq-dec a x)
  where
    go : Dec (a ≡ x) → Dec (some a ≡ some x)
    go (yes e) = yes (ap some e)
    go (no n) = no (λ e. n (some_inj e))

pub fits-dec : (l u : Option ℚ) (x d : ℚ) → Dec (Fits l u x d)
fits-dec l u x d = go (sign d)
  where
    go : Sign d → Dec (Fits l u x d)
    go (neg h) = up (some-dec u x)
      where
        up : Dec (u ≡ some x) → Dec (Fits l u x d)
        up (yes e) = yes (record { at_lower = λ k. absurd (k (lt→le h)); at_upper = λ k. e })
        up (no n) = no (λ f. n (f.at_upper h))
    go (pos h) = low (some-dec l x)
      where
        low : Dec (l ≡ some x) → Dec (Fits l u x d)
        low (yes e) = yes (record { at_lower = λ k. e; at_upper = λ k. absurd (k (lt→le h)) })
        low (no n) = no (λ f. n (f.at_lower h))
    go (zer e) = yes (record { at_lower = λ k. absurd (k (le_of_eq e)); at_upper = λ k. absurd (k (le_of_eq (sym e))) })

-- d x ≤ d y, where d fits x and y is within the bounds
pub fits_le : (l u : Option ℚ) (x y d : ℚ) → Fits l u x d → Within l u y → d *ℚ x ≤ℚ d *ℚ y
fits_le l u x y d f w = go (sign d)
  where
    go : Sign d → d *ℚ x ≤ℚ d *ℚ y
    go (neg h) = mul-anti (lt→le h) (w.below x (f.at_upper h))
    go (pos h) = mul_mono (lt→le h) (w.above x (f.at_lower h))
    go (zer e) = le_of_eq (ap (λ t. t *ℚ x) e ∙ ring2 ℚ-ring x y (λ x y. :0 :* x := :0 :* y) refl ∙ ap (λ t. t *ℚ y) (sym e))

pub fits-zero : (l u : Option ℚ) (x d : ℚ) → d ≡ 𝟘 → Fits l u x d
fits-zero l u x d e = record { at_lower = λ h. absurd (h (le_of_eq e)); at_upper = λ h. absurd (h (le_of_eq (sym e))) }

-- where the lower and the upper bound are one number, any reduced cost fits it
pub fits-closed : (l u : Option ℚ) (x d : ℚ) → l ≡ some x → u ≡ some x → Fits l u x d
fits-closed l u x d hl hu = record { at_lower = λ _. hl; at_upper = λ _. hu }

-- a reduced cost that is not negative fits, if the flow is at its lower bound wherever it is positive
pub fits-nn : (l u : Option ℚ) (x d : ℚ) → 𝟘 ≤ℚ d → (𝟘 <ℚ d → l ≡ some x) → Fits l u x d
fits-nn l u x d h f = record { at_lower = f; at_upper = λ n. absurd (n h) }

-- with no upper bound it is never negative
pub fits-above : (l u : Option ℚ) (x d : ℚ) → u ≡ none → Fits l u x d → 𝟘 ≤ℚ d
fits-above l u x d e f = go (le_dec 𝟘 d)
  where
    go : Dec (𝟘 ≤ℚ d) → 𝟘 ≤ℚ d
    go (yes h) = h
    go (no n) = absurd (none-some (sym e ∙ f.at_upper n))
