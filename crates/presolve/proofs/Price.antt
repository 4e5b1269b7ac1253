-- Reduced costs: of a column that blends two others; after a price has changed at one row; and by a column's two ends.
use mathlib.Core.Path.{◌≡◌, refl, sym, ◌∙◌, ap, ap₂, subst}
use mathlib.Core.Bool.{Bool, true, false, cond}
use mathlib.Core.List.{List}
use Prim.Native.Nat.{ℕ}
use native.Mathlib.Decide.{ℕ_discrete}
use lib.Dec.{eqb}
use Rattle.algebra.proofs.Ring.{combo}
use Rattle.algebra.proofs.Solver.{◌:+◌, ◌:*◌, ◌:-◌, :neg, :0, :1, ◌:=◌, ring1, ring2, ring3, ring5, ring6}
use Rattle.algebra.specs.Rat.{ℚ, ◌+ℚ◌, ◌*ℚ◌, -ℚ◌, 0_ℚ as 𝟘, inv_ℚ as inv}
use Rattle.algebra.proofs.Rat.{ℚ-ring, mul_ℚ-inv as mul_inv, add_ℚ-zero as add-zero}
use Rattle.algebra.proofs.Sum.{Once, sum-ext, sum-add, sum-mul, sum-zero, sum-only, only_same, only-other, sum-change, upd_same, upd_other}
use Rattle.algebra.specs.Sum.{sum, only, upd}
use Rattle.presolve.specs.LP.{Column, worth, reduced}

-- c' is m times c and n times d
pub record Blend (c' c d : Column) (m n : ℚ) : Type 0 where
  pub coef_is : (s : ℕ) → c'.coef s ≡ m *ℚ c.coef s +ℚ n *ℚ d.coef s
  pub cost_is : c'.cost ≡ m *ℚ c.cost +ℚ n *ℚ d.cost

pub reduced-blend : (rows : List ℕ) (p : ℕ → ℚ) (c' c d : Column) (m n : ℚ) → Blend c' c d m n → reduced rows c' p ≡ m *ℚ reduced rows c p +ℚ n *ℚ reduced rows d p
unfolding worth
reduced-blend rows p c' c d m n B = ap₂ (λ k w. k +ℚ -ℚ w) B.cost_is w-is
    ∙ ring6 ℚ-ring m n c.cost d.cost (worth rows c p) (worth rows d p) (λ m n a b v w. m :* a :+ n :* b :- (m :* v :+ n :* w) := m :* (a :- v) :+ n :* (b :- w)) refl
  where
    w-is : worth rows c' p ≡ m *ℚ worth rows c p +ℚ n *ℚ worth rows d p
    w-is =
        sum-ext rows (λ s. c'.coef s *ℚ p s) (λ s. m *ℚ (c.coef s *ℚ p s) +ℚ n *ℚ (d.coef s *ℚ p s))
        (λ s. ap (λ t. t *ℚ p s) (B.coef_is s) ∙ ring5 ℚ-ring m (c.coef s) n (d.coef s) (p s) (λ m a n b p. (m :* a :+ n :* b) :* p := m :* (a :* p) :+ n :* (b :* p)) refl)
        ∙ sum-add rows (λ s. m *ℚ (c.coef s *ℚ p s)) (λ s. n *ℚ (d.coef s *ℚ p s))
        ∙ ap₂ ◌+ℚ◌ (sum-mul rows m (λ s. c.coef s *ℚ p s)) (sum-mul rows n (λ s. d.coef s *ℚ p s))

-- a price that a column does not see
pub reduced-unseen : (rows : List ℕ) (c : Column) (p : ℕ → ℚ) (i : ℕ) (π : ℚ) → c.coef i ≡ 𝟘 → reduced rows c (upd p i π) ≡ reduced rows c p
unfolding worth
reduced-unseen rows c p i π h = ap (λ w. c.cost +ℚ -ℚ w) (sum-ext rows (λ s. c.coef s *ℚ upd p i π s) (λ s. c.coef s *ℚ p s) (λ s. go s (ℕ_discrete i s)))
  where
    go : (s : ℕ) → Dec (i ≡ s) → c.coef s *ℚ upd p i π s ≡ c.coef s *ℚ p s
    go s (yes e) = let z : c.coef s ≡ 𝟘 = subst (λ t. c.coef t ≡ 𝟘) e h in
        ap (λ t. t *ℚ upd p i π s) z ∙ ring2 ℚ-ring (upd p i π s) (p s) (λ a b. :0 :* a := :0 :* b) refl ∙ ap (λ t. t *ℚ p s) (sym z)
    go s (no n) = ap (λ t. c.coef s *ℚ t) (upd_other p i π s n)

-- the price at row i at which a column's reduced cost is 0
unfoldable pub breakeven : List ℕ → Column → ℕ → (ℕ → ℚ) → ℚ
breakeven rows c i p = (c.cost +ℚ -ℚ worth rows c (upd p i 𝟘)) *ℚ inv (c.coef i)

worth-at : (rows : List ℕ) (c : Column) (i : ℕ) (p : ℕ → ℚ) (π : ℚ) → Once i rows → worth rows c (upd p i π) ≡ worth rows c (upd p i 𝟘) +ℚ c.coef i *ℚ π
unfolding worth
worth-at rows c i p π o =
    ring2 ℚ-ring (worth rows c (upd p i π)) (c.coef i) (λ s e. s := s :+ e :* :0) refl
    ∙ ap (λ t. worth rows c (upd p i π) +ℚ c.coef i *ℚ t) (sym (upd_same p i 𝟘))
    ∙ sum-change (λ s. c.coef s *ℚ upd p i π s) (λ s. c.coef s *ℚ upd p i 𝟘 s) o (λ s n. ap (λ t. c.coef s *ℚ t) (upd_other p i π s n ∙ sym (upd_other p i 𝟘 s n)))
    ∙ ap (λ t. worth rows c (upd p i 𝟘) +ℚ c.coef i *ℚ t) (upd_same p i π)

-- with the price π at row i a column's reduced cost is its coefficient there times the distance to the break-even price
pub reduced-at : (rows : List ℕ) (c : Column) (i : ℕ) (p : ℕ → ℚ) (π : ℚ) → Once i rows → ¬ (c.coef i ≡ 𝟘) → reduced rows c (upd p i π) ≡ c.coef i *ℚ (breakeven rows c i p +ℚ -ℚ π)
unfolding breakeven
reduced-at rows c i p π o h = ap (λ w. c.cost +ℚ -ℚ w) (worth-at rows c i p π o)
    ∙ combo ℚ-ring (-ℚ (c.cost +ℚ -ℚ worth rows c (upd p i 𝟘))) (mul_inv (c.coef i) h)
    (ring5 ℚ-ring c.cost (worth rows c (upd p i 𝟘)) (c.coef i) π (inv (c.coef i)) (λ k w e π i. k :- (w :+ e :* π) :- e :* ((k :- w) :* i :- π) := :neg (k :- w) :* (e :* i :- :1)) refl)

-- ---- a column by its ends: the coefficient e at row i, and o at row t. Neither an arc's orientation nor a root arc (whose o is 0) is a case of its own.

abbrev pub Ends : Column → ℕ → ℚ → ℕ → ℚ → Type 0
Ends c i e t o = (s : ℕ) → c.coef s ≡ only i e s +ℚ only t o s

-- the other end is another row, or a root arc has none
pub data Other (rows : List ℕ) (i t : ℕ) (o : ℚ) : Type 0 where
  node : ¬ (t ≡ i) → Once t rows → Other rows i t o
  root : o ≡ 𝟘 → Other rows i t o

pub only_zero : (t s : ℕ) → only t 𝟘 s ≡ 𝟘
only_zero t s = go (eqb s t)
  where
    go : (b : Bool) → cond b 𝟘 𝟘 ≡ 𝟘
    go true = refl
    go false = refl

pub only-scale : (k : ℕ) (v w : ℚ) (i : ℕ) → only k (v *ℚ w) i ≡ v *ℚ only k w i
only-scale k v w i = go (eqb i k)
  where
    go : (b : Bool) → cond b (v *ℚ w) 𝟘 ≡ v *ℚ cond b w 𝟘
    go true = refl
    go false = ring1 ℚ-ring v (λ v. :0 := v :* :0) refl

-- a value at one row as a multiple of another
pub only-share : (i : ℕ) (e k : ℚ) (s : ℕ) → ¬ (k ≡ 𝟘) → only i e s ≡ e *ℚ inv k *ℚ only i k s
only-share i e k s h = ap (λ v. only i v s) (combo ℚ-ring (-ℚ e) (mul_inv k h) (ring3 ℚ-ring e k (inv k) (λ e k j. e :- e :* j :* k := :neg e :* (k :* j :- :1)) refl)) ∙ only-scale i (e *ℚ inv k) k s

module _ (rows : List ℕ) (c : Column) (i t : ℕ) (e o : ℚ) (E : Ends c i e t o) (T : Other rows i t o) where
  pub ends_at : c.coef i ≡ e
  ends_at = E i ∙ ap₂ ◌+ℚ◌ (only_same i e) (go T) ∙ add-zero e
    where
      go : Other rows i t o → only t o i ≡ 𝟘
      go (node n u) = only-other t i o n
      go (root z) = ap (λ v. only t v i) z ∙ only_zero t i

  pub ends-worth : Once i rows → (p : ℕ → ℚ) → worth rows c p ≡ e *ℚ p i +ℚ o *ℚ p t
  unfolding worth
  ends-worth oi p =
      sum-ext rows (λ s. c.coef s *ℚ p s) (λ s. only i e s *ℚ p s +ℚ only t o s *ℚ p s)
      (λ s. ap (λ v. v *ℚ p s) (E s) ∙ ring3 ℚ-ring (only i e s) (only t o s) (p s) (λ a b p. (a :+ b) :* p := a :* p :+ b :* p) refl)
      ∙ sum-add rows (λ s. only i e s *ℚ p s) (λ s. only t o s *ℚ p s)
      ∙ ap₂ ◌+ℚ◌ (sum-only e p oi) (go T)
    where
      go : Other rows i t o → sum rows (λ s. only t o s *ℚ p s) ≡ o *ℚ p t
      go (node n u) = sum-only o p u
      go (root z) =
          sum-ext rows (λ s. only t o s *ℚ p s) (λ s. 𝟘) (λ s. ap (λ v. v *ℚ p s) (ap (λ v. only t v s) z ∙ only_zero t s) ∙ ring1 ℚ-ring (p s) (λ p. :0 :* p := :0) refl)
          ∙ sum-zero rows ∙ ring1 ℚ-ring (p t) (λ p. :0 := :0 :* p) refl ∙ ap (λ v. v *ℚ p t) (sym z)

  pub ends-reduced : Once i rows → (p : ℕ → ℚ) → reduced rows c p ≡ c.cost +ℚ -ℚ (e *ℚ p i +ℚ o *ℚ p t)
  ends-reduced oi p = ap (λ w. c.cost +ℚ -ℚ w) (ends-worth oi p)

  -- a price at i is not seen at the other end
  other-price : (p : ℕ → ℚ) (π : ℚ) → o *ℚ upd p i π t ≡ o *ℚ p t
  other-price p π = go T
    where
      go : Other rows i t o → o *ℚ upd p i π t ≡ o *ℚ p t
      go (node n u) = ap (λ v. o *ℚ v) (upd_other p i π t (λ q. n (sym q)))
      go (root z) = ap (λ v. v *ℚ upd p i π t) z ∙ ring2 ℚ-ring (upd p i π t) (p t) (λ a b. :0 :* a := :0 :* b) refl ∙ ap (λ v. v *ℚ p t) (sym z)

  pub ends-reduced-at : Once i rows → (p : ℕ → ℚ) (π : ℚ) → reduced rows c (upd p i π) ≡ c.cost +ℚ -ℚ (o *ℚ p t) +ℚ -ℚ (e *ℚ π)
  ends-reduced-at oi p π = ends-reduced oi (upd p i π) ∙ ap₂ (λ a b. c.cost +ℚ -ℚ (e *ℚ a +ℚ b)) (upd_same p i π) (other-price p π)
      ∙ ring3 ℚ-ring c.cost (o *ℚ p t) (e *ℚ π) (λ k b a. k :- (a :+ b) := k :- b :- a) refl

  -- the break-even price, as a program works it out
  pub ends-breakeven : Once i rows → (p : ℕ → ℚ) → breakeven rows c i p ≡ (c.cost +ℚ -ℚ (o *ℚ p t)) *ℚ inv e
  unfolding breakeven
  ends-breakeven oi p = ap₂ (λ w v. (c.cost +ℚ -ℚ w) *ℚ inv v)
      (ends-worth oi (upd p i 𝟘) ∙ ap₂ (λ a b. e *ℚ a +ℚ b) (upd_same p i 𝟘) (other-price p 𝟘) ∙ ring2 ℚ-ring e (o *ℚ p t) (λ e b. e :* :0 :+ b := b) refl) ends_at
