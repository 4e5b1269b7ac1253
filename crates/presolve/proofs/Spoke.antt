-- An arc seen from one of its nodes, and the arc that passes through the node from one to another.
use mathlib.Core.Path.{◌≡◌, refl, sym, ◌∙◌, ap, ap₂, subst}
use mathlib.Core.List.{Memᴰ}
use mathlib.Core.Option.{none, some}
use Prim.Native.Nat.{ℕ}
use Rattle.algebra.proofs.Ring.{combo, combo2}
use Rattle.algebra.proofs.Solver.{◌:+◌, ◌:*◌, ◌:-◌, :neg, :0, :1, ◌:=◌, ring1, ring2, ring3, ring4, ring5, ring7, ring8}
use Rattle.algebra.specs.Rat.{ℚ, ◌+ℚ◌, ◌*ℚ◌, -ℚ◌, ◌≤ℚ◌, 0_ℚ as 𝟘, 1_ℚ as 𝟙, inv_ℚ as inv, ◌<ℚ◌}
use Rattle.algebra.proofs.Rat.{ℚ-ring, mul_ℚ-inv as mul_inv, inv_ℚ-zero as inv-zero, ≤ℚ-dec as le_dec, ≤ℚ-antisym as le_antisym}
use Rattle.algebra.proofs.Order.{le-by, sub-nn, lt→le, mul_nn', eq-dec, le_of_eq}
use Rattle.algebra.proofs.Inverse.{le-cancel, inv-nn}
use native.Mathlib.Decide.{ℕ_discrete}
use Rattle.algebra.proofs.Sum.{Once, only-other}
use Rattle.algebra.specs.Sum.{only, upd}
unfoldable pub use Rattle.presolve.proofs.Bounds.{larger}
use Rattle.presolve.proofs.Bounds.{choose, capped, capped-case, fits-above}
use Rattle.presolve.specs.LP.{LP, Column, PriceRule, reduced}
use Rattle.presolve.proofs.Price.{Blend, reduced-blend, reduced-unseen, reduced-at, Ends, Other, ends_at, ends-breakeven, only-scale, only-share}

-- the arc, its multiplier e at the node, its other end and the multiplier o there (0 for a root arc)
pub record Spoke : Type 0 where
  pub arc : ℕ
  pub e : ℚ
  pub far : ℕ
  pub o : ℚ

pub record SpokeAt (N : LP) (i : ℕ) (a : Spoke) : Type 0 where
  pub listed : Once a.arc N.cols
  pub ends : Ends (N.col a.arc) i a.e a.far a.o
  pub other : Other N.rows i a.far a.o
  pub nonzero : ¬ (a.e ≡ 𝟘)

-- the node's price at which the arc breaks even
abbrev pub quote : LP → Spoke → (ℕ → ℚ) → ℚ
quote N a p = ((N.col a.arc).cost +ℚ -ℚ (a.o *ℚ p a.far)) *ℚ inv a.e

module _ {N : LP} {i : ℕ} {a : Spoke} (A : SpokeAt N i a) where
  pub spoke-e : (N.col a.arc).coef i ≡ a.e
  spoke-e = ends_at N.rows (N.col a.arc) i a.far a.e a.o A.ends A.other

  -- with the price π at the node, its reduced cost is e times the distance to that price
  pub spoke-reduced : Once i N.rows → (p : ℕ → ℚ) (π : ℚ) → reduced N.rows (N.col a.arc) (upd p i π) ≡ a.e *ℚ (quote N a p +ℚ -ℚ π)
  spoke-reduced oi p π = reduced-at N.rows (N.col a.arc) i p π oi (λ z. A.nonzero (sym spoke-e ∙ z))
      ∙ ap₂ (λ e q. e *ℚ (q +ℚ -ℚ π)) spoke-e (ends-breakeven N.rows (N.col a.arc) i a.far a.e a.o A.ends A.other oi p)

  -- the supply that leaves by the arc: the right-hand sides as a program works them out, and as a multiple of the column
  pub rhs-shift : (N' : LP) → N'.rhs i ≡ 𝟘 → ((s : ℕ) → Memᴰ s N.rows → ¬ (s ≡ i) → N'.rhs s ≡ N.rhs s +ℚ -ℚ only a.far (a.o *ℚ N.rhs i *ℚ inv a.e) s)
      → (s : ℕ) → Memᴰ s N.rows → N'.rhs s ≡ N.rhs s +ℚ -ℚ ((N.col a.arc).coef s *ℚ (N.rhs i *ℚ inv a.e))
  rhs-shift N' zero-i other s m = go (ℕ_discrete s i)
    where
      go : Dec (s ≡ i) → N'.rhs s ≡ N.rhs s +ℚ -ℚ ((N.col a.arc).coef s *ℚ (N.rhs i *ℚ inv a.e))
      go (yes q) = subst (λ t. N'.rhs t ≡ N.rhs t +ℚ -ℚ ((N.col a.arc).coef t *ℚ (N.rhs i *ℚ inv a.e))) (sym q)
          (zero-i ∙ combo ℚ-ring (N.rhs i) (mul_inv a.e A.nonzero) (ring3 ℚ-ring (N.rhs i) a.e (inv a.e) (λ r e i. :0 :- (r :- e :* (r :* i)) := r :* (e :* i :- :1)) refl) ∙ ap (λ e. N.rhs i +ℚ -ℚ (e *ℚ (N.rhs i *ℚ inv a.e))) (sym spoke-e))
      go (no n) = other s m n ∙ ap (λ t. N.rhs s +ℚ -ℚ t)
          (ap (λ w. only a.far w s) (ring3 ℚ-ring a.o (N.rhs i) (inv a.e) (λ o r i. o :* r :* i := r :* i :* o) refl) ∙ only-scale a.far (N.rhs i *ℚ inv a.e) a.o s
          ∙ ring2 ℚ-ring (N.rhs i *ℚ inv a.e) (only a.far a.o s) (λ a b. a :* b := (:0 :+ b) :* a) refl
          ∙ ap (λ t. (t +ℚ only a.far a.o s) *ℚ (N.rhs i *ℚ inv a.e)) (sym (only-other i s a.e (λ q. n (sym q)))) ∙ ap (λ t. t *ℚ (N.rhs i *ℚ inv a.e)) (sym (A.ends s)))

-- y passes m through the node for each unit of its flow: in by `b`, out by `a`
pub record Through (N : LP) (a b : Spoke) (m : ℚ) (y : Column) : Type 0 where
  pub ends : Ends y b.far (-ℚ (m *ℚ (b.o *ℚ inv b.e))) a.far (m *ℚ (a.o *ℚ inv a.e))
  pub cost_is : y.cost ≡ m *ℚ ((N.col a.arc).cost *ℚ inv a.e) +ℚ -ℚ (m *ℚ ((N.col b.arc).cost *ℚ inv b.e))

module _ {N : LP} {i : ℕ} {a b : Spoke} {m : ℚ} {y : Column} (A : SpokeAt N i a) (B : SpokeAt N i b) (T : Through N a b m y) where
  through-blend : Blend y (N.col a.arc) (N.col b.arc) (m *ℚ inv a.e) (-ℚ (m *ℚ inv b.e))
  through-blend = record {
    coef_is = λ s.
        T.ends s
        ∙ ap₂ ◌+ℚ◌ (ap (λ w. only b.far w s) (ring3 ℚ-ring m b.o (inv b.e) (λ m o i. :neg (m :* (o :* i)) := :neg (m :* i) :* o) refl) ∙ only-scale b.far (-ℚ (m *ℚ inv b.e)) b.o s)
        (ap (λ w. only a.far w s) (ring3 ℚ-ring m a.o (inv a.e) (λ m o i. m :* (o :* i) := m :* i :* o) refl) ∙ only-scale a.far (m *ℚ inv a.e) a.o s)
        ∙ combo2 ℚ-ring m (-ℚ m) (only-share i 𝟙 a.e s A.nonzero) (only-share i 𝟙 b.e s B.nonzero)
        (ring8 ℚ-ring m (inv a.e) (inv b.e) (only a.far a.o s) (only b.far b.o s) (only i a.e s) (only i b.e s) (only i 𝟙 s)
        (λ m ia ib fa fb na nb n. :neg (m :* ib) :* fb :+ m :* ia :* fa :- (m :* ia :* (na :+ fa) :+ :neg (m :* ib) :* (nb :+ fb)) := m :* (n :- :1 :* ia :* na) :+ :neg m :* (n :- :1 :* ib :* nb)) refl)
        ∙ ap₂ (λ u v. m *ℚ inv a.e *ℚ u +ℚ -ℚ (m *ℚ inv b.e) *ℚ v) (sym (A.ends s)) (sym (B.ends s));
    cost_is = T.cost_is ∙ ring5 ℚ-ring m (N.col a.arc).cost (inv a.e) (N.col b.arc).cost (inv b.e) (λ m c i d k. m :* (c :* i) :- m :* (d :* k) := m :* i :* c :+ :neg (m :* k) :* d) refl;
  }

  pub through-unseen : y.coef i ≡ 𝟘
  through-unseen = through-blend.coef_is i ∙ ap₂ (λ u v. m *ℚ inv a.e *ℚ u +ℚ -ℚ (m *ℚ inv b.e) *ℚ v) (spoke-e A) (spoke-e B)
      ∙ combo2 ℚ-ring m (-ℚ m) (mul_inv a.e A.nonzero) (mul_inv b.e B.nonzero) (ring5 ℚ-ring m a.e (inv a.e) b.e (inv b.e) (λ m e i f k. m :* i :* e :+ :neg (m :* k) :* f :- :0 := m :* (e :* i :- :1) :+ :neg m :* (f :* k :- :1)) refl)

  pub through-coef : (s : ℕ) → y.coef s ≡ m *ℚ inv a.e *ℚ (N.col a.arc).coef s +ℚ -ℚ (m *ℚ inv b.e) *ℚ (N.col b.arc).coef s
  through-coef = through-blend.coef_is

  pub through-cost : y.cost ≡ m *ℚ inv a.e *ℚ (N.col a.arc).cost +ℚ -ℚ (m *ℚ inv b.e) *ℚ (N.col b.arc).cost
  through-cost = through-blend.cost_is

  -- its reduced cost: what lies between the two quotes
  pub through-reduced : Once i N.rows → (p : ℕ → ℚ) → reduced N.rows y p ≡ m *ℚ (quote N a p +ℚ -ℚ quote N b p)
  through-reduced oi p =
      sym (reduced-unseen N.rows y p i 𝟘 through-unseen)
      ∙ reduced-blend N.rows (upd p i 𝟘) y (N.col a.arc) (N.col b.arc) (m *ℚ inv a.e) (-ℚ (m *ℚ inv b.e)) through-blend
      ∙ ap₂ (λ u v. m *ℚ inv a.e *ℚ u +ℚ -ℚ (m *ℚ inv b.e) *ℚ v) (spoke-reduced A oi p 𝟘) (spoke-reduced B oi p 𝟘)
      ∙ combo2 ℚ-ring (m *ℚ quote N a p) (-ℚ (m *ℚ quote N b p)) (mul_inv a.e A.nonzero) (mul_inv b.e B.nonzero)
      (ring7 ℚ-ring m a.e (inv a.e) b.e (inv b.e) (quote N a p) (quote N b p)
      (λ m e i f k q r. m :* i :* (e :* (q :- :0)) :+ :neg (m :* k) :* (f :* (r :- :0)) :- m :* (q :- r) := m :* q :* (e :* i :- :1) :+ :neg (m :* r) :* (f :* k :- :1)) refl)

-- ---- the signs of e (q - π)

pub nn⁺ : {e q π : ℚ} → 𝟘 <ℚ e → π ≤ℚ q → 𝟘 ≤ℚ e *ℚ (q +ℚ -ℚ π)
nn⁺ h g = mul_nn' (lt→le h) (sub-nn g)

pub nn⁻ : {e q π : ℚ} → e <ℚ 𝟘 → q ≤ℚ π → 𝟘 ≤ℚ e *ℚ (q +ℚ -ℚ π)
nn⁻ {e} {q} {π} h g = le-by (mul_nn' (sub-nn (lt→le h)) (sub-nn g)) (ring3 ℚ-ring e q π (λ e q p. e :* (q :- p) :- :0 := (:0 :- e) :* (p :- q)) refl)

pub pos⁺ : {e q π : ℚ} → 𝟘 <ℚ e → 𝟘 <ℚ e *ℚ (q +ℚ -ℚ π) → π <ℚ q
pos⁺ {e} {q} {π} h g k = g (le-by (mul_nn' (lt→le h) (sub-nn k)) (ring3 ℚ-ring e q π (λ e q p. :0 :- e :* (q :- p) := e :* (p :- q)) refl))

pub pos⁻ : {e q π : ℚ} → e <ℚ 𝟘 → 𝟘 <ℚ e *ℚ (q +ℚ -ℚ π) → q <ℚ π
pos⁻ {e} {q} {π} h g k = g (le-by (mul_nn' (sub-nn (lt→le h)) (sub-nn k)) (ring3 ℚ-ring e q π (λ e q p. :0 :- e :* (q :- p) := (:0 :- e) :* (q :- p)) refl))

-- the inverse of what is not negative is not negative
pub inv-nn₀ : {a : ℚ} → 𝟘 ≤ℚ a → 𝟘 ≤ℚ inv a
inv-nn₀ {a} h = go (le_dec a 𝟘)
  where
    go : Dec (a ≤ℚ 𝟘) → 𝟘 ≤ℚ inv a
    go (yes k) = subst (λ t. 𝟘 ≤ℚ inv t) (le_antisym 𝟘 a h k) (le_of_eq (sym inv-zero))
    go (no n) = inv-nn n

-- ---- the same on either side of a sign σ = ±1: "with" σ is e with 0 < σ e, "against" it e with σ e < 0

pub record PlusMinus (σ : ℚ) : Type 0 where
  pub square : σ *ℚ σ ≡ 𝟙

module _ {σ : ℚ} (u : PlusMinus σ) where
  turn : (m q r : ℚ) → m *ℚ (q +ℚ -ℚ r) ≡ σ *ℚ m *ℚ (σ *ℚ q +ℚ -ℚ (σ *ℚ r))
  turn m q r = combo ℚ-ring (-ℚ (m *ℚ (q +ℚ -ℚ r))) u.square (ring4 ℚ-ring σ m q r (λ s m q r. m :* (q :- r) :- s :* m :* (s :* q :- s :* r) := :neg (m :* (q :- r)) :* (s :* s :- :1)) refl)

  pub with-nn : (e q π : ℚ) → 𝟘 <ℚ σ *ℚ e → σ *ℚ π ≤ℚ σ *ℚ q → 𝟘 ≤ℚ e *ℚ (q +ℚ -ℚ π)
  with-nn e q π h g = subst (λ t. 𝟘 ≤ℚ t) (sym (turn e q π)) (nn⁺ h g)

  pub against-nn : (e q π : ℚ) → σ *ℚ e <ℚ 𝟘 → σ *ℚ q ≤ℚ σ *ℚ π → 𝟘 ≤ℚ e *ℚ (q +ℚ -ℚ π)
  against-nn e q π h g = subst (λ t. 𝟘 ≤ℚ t) (sym (turn e q π)) (nn⁻ h g)

  pub with-pos : (e q π : ℚ) → 𝟘 <ℚ σ *ℚ e → 𝟘 <ℚ e *ℚ (q +ℚ -ℚ π) → σ *ℚ π <ℚ σ *ℚ q
  with-pos e q π h g = pos⁺ h (subst (λ t. 𝟘 <ℚ t) (turn e q π) g)

  pub against-pos : (e q π : ℚ) → σ *ℚ e <ℚ 𝟘 → 𝟘 <ℚ e *ℚ (q +ℚ -ℚ π) → σ *ℚ q <ℚ σ *ℚ π
  against-pos e q π h g = pos⁻ h (subst (λ t. 𝟘 <ℚ t) (turn e q π) g)

  -- from the sign of e (q - π) to the order
  pub with-order : (e q π : ℚ) → 𝟘 <ℚ σ *ℚ e → 𝟘 ≤ℚ e *ℚ (q +ℚ -ℚ π) → σ *ℚ π ≤ℚ σ *ℚ q
  with-order e q π h g = le-cancel h (le-by (subst (λ t. 𝟘 ≤ℚ t) (turn e q π) g) (ring3 ℚ-ring (σ *ℚ e) (σ *ℚ q) (σ *ℚ π) (λ e q p. e :* q :- e :* p := e :* (q :- p)) refl))

  pub with-order⁻ : (e q π : ℚ) → 𝟘 <ℚ σ *ℚ e → e *ℚ (q +ℚ -ℚ π) ≤ℚ 𝟘 → σ *ℚ q ≤ℚ σ *ℚ π
  with-order⁻ e q π h g = le-cancel h (le-by (sub-nn (subst (λ t. t ≤ℚ 𝟘) (turn e q π) g)) (ring3 ℚ-ring (σ *ℚ e) (σ *ℚ q) (σ *ℚ π) (λ e q p. e :* p :- e :* q := :0 :- e :* (q :- p)) refl))

-- the two sides
pub data Side : Type 0 where
  plus : Side
  minus : Side

abbrev pub sgn : Side → ℚ
sgn plus = 𝟙
sgn minus = -ℚ 𝟙

pub sgn-square : (d : Side) → PlusMinus (sgn d)
sgn-square plus = record { square = ring1 ℚ-ring 𝟘 (λ z. :1 :* :1 := :1) refl }
sgn-square minus = record { square = ring1 ℚ-ring 𝟘 (λ z. :neg :1 :* :neg :1 := :1) refl }

pub mul-pos : {a b : ℚ} → 𝟘 <ℚ a → 𝟘 <ℚ b → 𝟘 <ℚ a *ℚ b
mul-pos {a} {b} h k g = k (le-cancel h (le-by (sub-nn g) (ring2 ℚ-ring a b (λ a b. a :* :0 :- a :* b := :0 :- a :* b) refl)))

-- ---- the greater and the lesser of two

-- with a fact that holds of both, and what the choice says
pub larger-is : (a b : ℚ) (P : ℚ → Type 0) → (b ≤ℚ a → P a) → (a ≤ℚ b → P b) → P (larger a b)
unfolding larger choose
larger-is a b P f g = go (le_dec b a)
  where
    go : (d : Dec (b ≤ℚ a)) → P (choose d a b)
    go (yes h) = f h
    go (no n) = g (lt→le n)

-- the one of two that is nearer to a side: the lesser for plus, the greater for minus
abbrev pub nearer : Side → ℚ → ℚ → ℚ
nearer plus a b = capped (some a) b
nearer minus a b = larger a b

pub nearer-is : (d : Side) (a b : ℚ) (P : ℚ → Type 0) → (sgn d *ℚ a ≤ℚ sgn d *ℚ b → P a) → (sgn d *ℚ b ≤ℚ sgn d *ℚ a → P b) → P (nearer d a b)
nearer-is plus a b P f g = capped-case a b P (λ h. f (le-by (sub-nn h) (e a b))) (λ h. g (le-by (sub-nn h) (e b a)))
  where
    e : (a b : ℚ) → 𝟙 *ℚ b +ℚ -ℚ (𝟙 *ℚ a) ≡ b +ℚ -ℚ a
    e a b = ring2 ℚ-ring a b (λ a b. :1 :* b :- :1 :* a := b :- a) refl
nearer-is minus a b P f g = larger-is a b P (λ h. f (le-by (sub-nn h) (e a b))) (λ h. g (le-by (sub-nn h) (e b a)))
  where
    e : (a b : ℚ) → (-ℚ 𝟙) *ℚ b +ℚ -ℚ ((-ℚ 𝟙) *ℚ a) ≡ a +ℚ -ℚ b
    e a b = ring2 ℚ-ring a b (λ a b. :neg :1 :* b :- :neg :1 :* a := a :- b) refl

-- ---- what the price rule says of an arc that passes through

module _ {N : LP} {i : ℕ} {a b : Spoke} {m : ℚ} {y : Column} {σ : ℚ} (u : PlusMinus σ) (h : 𝟘 <ℚ σ *ℚ m) (oi : Once i N.rows) (A : SpokeAt N i a) (B : SpokeAt N i b) (T : Through N a b m y) (x : ℚ) (p : ℕ → ℚ) (f : PriceRule N.rows y x p) where
  -- with no upper bound the quotes are in order
  pub through-order : y.upper ≡ none → σ *ℚ quote N b p ≤ℚ σ *ℚ quote N a p
  through-order e = with-order u m (quote N a p) (quote N b p) h (subst (λ t. 𝟘 ≤ℚ t) (through-reduced A B T oi p) (fits-above y.lower y.upper x (reduced N.rows y p) e f))

  -- where they differ it stands at a bound
  pub through-idle : σ *ℚ quote N b p <ℚ σ *ℚ quote N a p → y.lower ≡ some x
  through-idle lt = f.at_lower (λ g. lt (with-order⁻ u m (quote N a p) (quote N b p) h (subst (λ t. t ≤ℚ 𝟘) (through-reduced A B T oi p) g)))

  pub through-full : σ *ℚ quote N a p <ℚ σ *ℚ quote N b p → y.upper ≡ some x
  through-full lt = f.at_upper (λ g. lt (with-order u m (quote N a p) (quote N b p) h (subst (λ t. 𝟘 ≤ℚ t) (through-reduced A B T oi p) g)))

-- ---- a table with given margins: g is a row's sum, G the sum of the rows and of the columns; the entry g s / G, where 0 / 0 is 0
pub portion : (g h G : ℚ) → 𝟘 ≤ℚ g → 𝟘 ≤ℚ h → G ≡ g +ℚ h → g *ℚ G *ℚ inv G ≡ g
portion g h G hg hh s = go (eq-dec G 𝟘)
  where
    go : Dec (G ≡ 𝟘) → g *ℚ G *ℚ inv G ≡ g
    go (yes z) = let e : g ≡ 𝟘 = le_antisym g 𝟘 (le-by hh (combo2 ℚ-ring 𝟙 (-ℚ 𝟙) s z (ring3 ℚ-ring g h G (λ g h G. :0 :- g :- h := :1 :* (G :- (g :+ h)) :+ :neg :1 :* (G :- :0)) refl))) hg in
        ap (λ t. t *ℚ G *ℚ inv G) e ∙ ring2 ℚ-ring G (inv G) (λ a b. :0 :* a :* b := :0) refl ∙ sym e
    go (no n) = combo ℚ-ring g (mul_inv G n) (ring3 ℚ-ring g G (inv G) (λ g s i. g :* s :* i :- g := g :* (s :* i :- :1)) refl)
