-- Rule 6, crossing (Proposition 4): node i has supply 0 and four arcs, two with negative multipliers (n₁, n₂) and two with positive ones (p₁, p₂), all between 0 and no bound.
-- The node is dropped, and four arcs, one for each n and p, take the four numbers. It is a junction with no transfer arc.
use mathlib.Core.Path.{◌≡◌, refl, sym, ◌∙◌, ap, ap₂}
use mathlib.Core.List.{List, [], ◌∷◌, Memᴰ}
use mathlib.Core.Option.{none}
use Prim.Native.Nat.{ℕ}
use Rattle.algebra.proofs.Solver.{◌:+◌, ◌:*◌, ◌:-◌, :neg, :0, :1, ◌:=◌, ring1, ring2, ring3}
use Rattle.algebra.specs.Rat.{ℚ, ◌+ℚ◌, ◌*ℚ◌, -ℚ◌, ◌≤ℚ◌, 0_ℚ as 𝟘, 1_ℚ as 𝟙, inv_ℚ as inv, ◌<ℚ◌}
use Rattle.algebra.proofs.Rat.{ℚ-ring}
use Rattle.algebra.proofs.Order.{le-by, le_refl, sub-nn, one-pos}
use Rattle.algebra.proofs.Sum.{Absent, Once}
use Rattle.algebra.specs.Sum.{upd}
use Rattle.presolve.proofs.Named.{Distinct, Perm, puts}
use Rattle.presolve.specs.LP.{LP, Column, Pair}
use Rattle.presolve.proofs.Step.{SoundStep, same_back}
use Rattle.presolve.proofs.Price.{Ends}
use Rattle.presolve.proofs.Spoke.{Spoke, SpokeAt, quote, Through, plus, sgn-square, larger, larger-is}
use Rattle.presolve.proofs.Junction.{Open, Branch, Junction, idle, Fair, facts, junction-sound, junction-flow}

abbrev pub four : (a b c d : ℕ) → List ℕ
four a b c d = a ∷ b ∷ c ∷ d ∷ []

pub record Crossing (N N' : LP) (i : ℕ) (n₁ n₂ p₁ p₂ : Spoke) (k₁₁ k₁₂ k₂₁ k₂₂ : ℕ) : Type 0 where
  pub listed_i : Once i N.rows
  pub no_supply : N.rhs i ≡ 𝟘
  pub at_n₁ : SpokeAt N i n₁
  pub at_n₂ : SpokeAt N i n₂
  pub at_p₁ : SpokeAt N i p₁
  pub at_p₂ : SpokeAt N i p₂
  pub neg₁ : n₁.e <ℚ 𝟘
  pub neg₂ : n₂.e <ℚ 𝟘
  pub pos₁ : 𝟘 <ℚ p₁.e
  pub pos₂ : 𝟘 <ℚ p₂.e
  pub open_n₁ : Open (N.col n₁.arc)
  pub open_n₂ : Open (N.col n₂.arc)
  pub open_p₁ : Open (N.col p₁.arc)
  pub open_p₂ : Open (N.col p₂.arc)
  pub different : Distinct (four p₁.arc p₂.arc n₁.arc n₂.arc)
  pub alone : (c : ℕ) → Memᴰ c N.cols → Absent c (four p₁.arc p₂.arc n₁.arc n₂.arc) → (N.col c).coef i ≡ 𝟘
  -- the reduced network: the arc k₁₂ runs from n₁'s far end to p₂'s, and so on
  pub rows_same : N'.rows ≡ N.rows
  pub cols_same : N'.cols ≡ N.cols
  pub renumbered : Perm (four p₁.arc p₂.arc n₁.arc n₂.arc) (four k₁₁ k₁₂ k₂₁ k₂₂)
  pub same : (c : ℕ) → Memᴰ c N.cols → Absent c (four p₁.arc p₂.arc n₁.arc n₂.arc) → N'.col c ≡ N.col c
  pub new₁₁ : Through N p₁ n₁ 𝟙 (N'.col k₁₁)
  pub new₁₂ : Through N p₂ n₁ 𝟙 (N'.col k₁₂)
  pub new₂₁ : Through N p₁ n₂ 𝟙 (N'.col k₂₁)
  pub new₂₂ : Through N p₂ n₂ 𝟙 (N'.col k₂₂)
  pub open₁₁ : Open (N'.col k₁₁)
  pub open₁₂ : Open (N'.col k₁₂)
  pub open₂₁ : Open (N'.col k₂₁)
  pub open₂₂ : Open (N'.col k₂₂)
  pub rhs_is : (s : ℕ) → Memᴰ s N.rows → N'.rhs s ≡ N.rhs s
  pub constant_is : N'.constant ≡ N.constant

-- a new arc's figures as the document gives them: multipliers -(o ÷ e) of n and o ÷ e of p, cost -(c ÷ e) of n + c ÷ e of p
pub crossing-arc : (N : LP) (n p : Spoke) (y : Column) → Ends y n.far (-ℚ (n.o *ℚ inv n.e)) p.far (p.o *ℚ inv p.e)
    → y.cost ≡ -ℚ ((N.col n.arc).cost *ℚ inv n.e) +ℚ (N.col p.arc).cost *ℚ inv p.e → Through N p n 𝟙 y
crossing-arc N n p y h c = record {
  ends = rw (ring1 ℚ-ring (n.o *ℚ inv n.e) (λ x. :neg (:1 :* x) := :neg x) refl, ring1 ℚ-ring (p.o *ℚ inv p.e) (λ x. :1 :* x := x) refl) h;
  cost_is = c ∙ ring2 ℚ-ring ((N.col n.arc).cost *ℚ inv n.e) ((N.col p.arc).cost *ℚ inv p.e) (λ a b. :neg a :+ b := :1 :* b :- :1 :* a) refl;
}

-- ---- postsolve

abbrev pub crossing-flow : (n₁ n₂ p₁ p₂ : Spoke) (k₁₁ k₁₂ k₂₁ k₂₂ : ℕ) → (ℕ → ℚ) → ℕ → ℚ
crossing-flow n₁ n₂ p₁ p₂ k₁₁ k₁₂ k₂₁ k₂₂ x = puts (four p₁.arc p₂.arc n₁.arc n₂.arc)
    ((x k₁₁ +ℚ x k₂₁) *ℚ inv p₁.e ∷ (x k₁₂ +ℚ x k₂₂) *ℚ inv p₂.e ∷ -ℚ ((x k₁₁ +ℚ x k₁₂) *ℚ inv n₁.e) ∷ -ℚ ((x k₂₁ +ℚ x k₂₂) *ℚ inv n₂.e) ∷ []) x

-- the node's price: the larger quote of the two n
abbrev pub crossing_back_lem : LP → (i : ℕ) (n₁ n₂ p₁ p₂ : Spoke) (k₁₁ k₁₂ k₂₁ k₂₂ : ℕ) → Pair → Pair
crossing_back_lem N i n₁ n₂ p₁ p₂ k₁₁ k₁₂ k₂₁ k₂₂ s = record { flow = crossing-flow n₁ n₂ p₁ p₂ k₁₁ k₁₂ k₂₁ k₂₂ s.flow; price = upd s.price i (larger (quote N n₁ s.price) (quote N n₂ s.price)) }

one-with : (e : ℚ) → 𝟘 <ℚ e → 𝟘 <ℚ 𝟙 *ℚ e
one-with e h g = h (le-by (sub-nn g) (ring1 ℚ-ring e (λ e. :0 :- e := :0 :- :1 :* e) refl))

one-against : (e : ℚ) → e <ℚ 𝟘 → 𝟙 *ℚ e <ℚ 𝟘
one-against e h g = h (le-by (sub-nn g) (ring1 ℚ-ring e (λ e. e :- :0 := :1 :* e :- :0) refl))

one-le : {a b : ℚ} → a ≤ℚ b → 𝟙 *ℚ a ≤ℚ 𝟙 *ℚ b
one-le {a} {b} h = le-by (sub-nn h) (ring2 ℚ-ring a b (λ a b. :1 :* b :- :1 :* a := b :- a) refl)

abbrev cross : Spoke → ℕ → ℕ → Branch
cross n k l = record { n = n; ka = k; kb = l; ma = 𝟙; mb = 𝟙 }

module _ {N N' : LP} {i : ℕ} {n₁ n₂ p₁ p₂ : Spoke} {k₁₁ k₁₂ k₂₁ k₂₂ : ℕ} (C : Crossing N N' i n₁ n₂ p₁ p₂ k₁₁ k₁₂ k₂₁ k₂₂) where
  bs : List Branch
  bs = cross n₁ k₁₁ k₁₂ ∷ cross n₂ k₂₁ k₂₂ ∷ []

  junction : Junction N N' i 𝟙 p₁ p₂ 𝟘 𝟘 bs [] none 𝟙
  unfolding bs
  junction = record {
    sign = sgn-square plus;
    listed_i = C.listed_i;
    at_a = C.at_p₁;
    at_b = C.at_p₂;
    with_a = one-with p₁.e C.pos₁;
    with_b = one-with p₂.e C.pos₂;
    lower_a = C.open_p₁.lower_0;
    lower_b = C.open_p₂.lower_0;
    free_a = C.open_p₁.free;
    free_b = C.open_p₂.free;
    branches = (
      record { at_n = C.at_n₁; against = one-against n₁.e C.neg₁; open_n = C.open_n₁; new_a = C.new₁₁; new_b = C.new₁₂; with_a = one-with 𝟙 one-pos; with_b = one-with 𝟙 one-pos; open_a = C.open₁₁; open_b = C.open₁₂ },
      (record { at_n = C.at_n₂; against = one-against n₂.e C.neg₂; open_n = C.open_n₂; new_a = C.new₂₁; new_b = C.new₂₂; with_a = one-with 𝟙 one-pos; with_b = one-with 𝟙 one-pos; open_a = C.open₂₁; open_b = C.open₂₂ }, tt),
    );
    spare_listed = tt;
    spare_gone = tt;
    different = C.different;
    alone = C.alone;
    rows_same = C.rows_same;
    cols_same = C.cols_same;
    renumbered = C.renumbered;
    same = C.same;
    transfer = idle C.no_supply refl refl;
    rhs_is = λ s m. C.rhs_is s m ∙ ring3 ℚ-ring (N.rhs s) ((N.col p₁.arc).coef s) (inv p₁.e) (λ r a i. r := r :- a :* (:0 :* i)) refl ∙ ap (λ t. N.rhs s +ℚ -ℚ ((N.col p₁.arc).coef s *ℚ (t *ℚ inv p₁.e))) (sym C.no_supply);
    constant_is = C.constant_is ∙ ring3 ℚ-ring N.constant (N.col p₁.arc).cost (inv p₁.e) (λ r a i. r := r :+ a :* (:0 :* i)) refl ∙ ap (λ t. N.constant +ℚ (N.col p₁.arc).cost *ℚ (t *ℚ inv p₁.e)) (sym C.no_supply);
  }

  -- the junction's flow, as the document writes it
  flow-is : (x : ℕ → ℚ) → junction-flow N i p₁ p₂ bs [] none 𝟙 x ≡ crossing-flow n₁ n₂ p₁ p₂ k₁₁ k₁₂ k₂₁ k₂₂ x
  unfolding bs
  flow-is x = ap₂ (λ u v. puts (four p₁.arc p₂.arc n₁.arc n₂.arc) (u ∷ v ∷ -ℚ ((𝟙 *ℚ x k₁₁ +ℚ 𝟙 *ℚ x k₁₂) *ℚ inv n₁.e) ∷ -ℚ ((𝟙 *ℚ x k₂₁ +ℚ 𝟙 *ℚ x k₂₂) *ℚ inv n₂.e) ∷ []) x)
      (ap (λ t. (t +ℚ -ℚ 𝟘 +ℚ (𝟙 *ℚ x k₁₁ +ℚ (𝟙 *ℚ x k₂₁ +ℚ 𝟘))) *ℚ inv p₁.e) C.no_supply ∙ ring3 ℚ-ring (x k₁₁) (x k₂₁) (inv p₁.e) (λ y z i. (:0 :- :0 :+ (:1 :* y :+ (:1 :* z :+ :0))) :* i := (y :+ z) :* i) refl)
      (ring3 ℚ-ring (x k₁₂) (x k₂₂) (inv p₂.e) (λ y z i. (:0 :+ (:1 :* y :+ (:1 :* z :+ :0))) :* i := (y :+ z) :* i) refl)
      ∙ ap₂ (λ u v. puts (four p₁.arc p₂.arc n₁.arc n₂.arc) ((x k₁₁ +ℚ x k₂₁) *ℚ inv p₁.e ∷ (x k₁₂ +ℚ x k₂₂) *ℚ inv p₂.e ∷ u ∷ v ∷ []) x)
      (ring3 ℚ-ring (x k₁₁) (x k₁₂) (inv n₁.e) (λ y z i. :neg ((:1 :* y :+ :1 :* z) :* i) := :neg ((y :+ z) :* i)) refl)
      (ring3 ℚ-ring (x k₂₁) (x k₂₂) (inv n₂.e) (λ y z i. :neg ((:1 :* y :+ :1 :* z) :* i) := :neg ((y :+ z) :* i)) refl)

  pub crossing-sound : SoundStep N N' (crossing_back_lem N i n₁ n₂ p₁ p₂ k₁₁ k₁₂ k₂₁ k₂₂)
  unfolding bs
  crossing-sound = same_back (λ s. ap (λ f. record { flow = f; price = upd s.price i (larger (quote N n₁ s.price) (quote N n₂ s.price)) }) (flow-is s.flow))
      (junction-sound junction (λ p. larger (quote N n₁ p) (quote N n₂ p)) (λ s h. larger-is (quote N n₁ s.price) (quote N n₂ s.price) (Fair junction s)
      (λ g. record { n_below = (le_refl _, (one-le g, tt)); a_above = (facts junction s h).0.order_a; b_above = (facts junction s h).0.order_b; a_rest = λ _. rest; b_rest = λ _. ring1 ℚ-ring p₂.e (λ e. :0 := e :* :0) refl })
      (λ g. record { n_below = (one-le g, (le_refl _, tt)); a_above = (facts junction s h).1.0.order_a; b_above = (facts junction s h).1.0.order_b; a_rest = λ _. rest; b_rest = λ _. ring1 ℚ-ring p₂.e (λ e. :0 := e :* :0) refl })))
    where
      rest : 𝟘 ≡ N.rhs i +ℚ -ℚ (p₁.e *ℚ 𝟘)
      rest = ring1 ℚ-ring p₁.e (λ e. :0 := :0 :- e :* :0) refl ∙ ap (λ t. t +ℚ -ℚ (p₁.e *ℚ 𝟘)) (sym C.no_supply)
