-- Rule 8, three-way junction: node i has three arcs. Arcs a and b have multipliers of the supply's sign, finite lower bounds and no upper ones; the third, c, has the other sign, and lies between
-- 0 and no bound. The node is dropped; a and b now run from c's far end, and c's number goes to an added arc that decides how much of the supply goes by b and not by a.
-- That the added arc's lower bound is not above its upper one is asked: without it a feasible network could lose its flows.
use mathlib.Core.Path.{◌≡◌, refl, ◌∙◌, ap, ap₂, subst}
use mathlib.Core.List.{List, [], ◌∷◌, Memᴰ}
use mathlib.Core.Option.{none, some}
use Prim.Native.Nat.{ℕ}
use Rattle.algebra.proofs.Ring.{combo}
use Rattle.algebra.proofs.Solver.{◌:+◌, ◌:*◌, ◌:-◌, :neg, :0, :1, ◌:=◌, ring1, ring3, ring4, ring5}
use Rattle.algebra.specs.Rat.{ℚ, ◌+ℚ◌, ◌*ℚ◌, -ℚ◌, ◌≤ℚ◌, 0_ℚ as 𝟘, inv_ℚ as inv, ◌<ℚ◌}
use Rattle.algebra.proofs.Rat.{ℚ-ring, mul_ℚ-inv as mul_inv}
use Rattle.algebra.proofs.Order.{pos-ne}
use Rattle.algebra.proofs.Sum.{Absent, Once}
use Rattle.algebra.specs.Sum.{only, upd}
use Rattle.presolve.proofs.Named.{Distinct, skip, swap, trans, puts}
use Rattle.presolve.specs.LP.{LP, Column, Pair}
use Rattle.presolve.proofs.Step.{SoundStep, same_back}
use Rattle.presolve.proofs.Price.{Ends}
use Rattle.presolve.proofs.Spoke.{Side, sgn, sgn-square, mul-pos, nearer, nearer-is, Spoke, SpokeAt, quote, Through, rhs-shift}
use Rattle.presolve.proofs.Junction.{Open, Branch, Junction, arc, Fair, fair-a, fair-b, junction-sound, junction-flow}

-- for each unit of the added arc's flow, |e_a e_b| of the supply goes by b
abbrev pub rate : Side → Spoke → Spoke → ℚ
rate d a b = sgn d *ℚ (a.e *ℚ b.e)

pub record ThreeWay (N N' : LP) (i : ℕ) (d : Side) (a b c : Spoke) (la lb : ℚ) : Type 0 where
  pub listed_i : Once i N.rows
  pub at_a : SpokeAt N i a
  pub at_b : SpokeAt N i b
  pub at_c : SpokeAt N i c
  pub with_a : 𝟘 <ℚ sgn d *ℚ a.e
  pub with_b : 𝟘 <ℚ sgn d *ℚ b.e
  pub against_c : sgn d *ℚ c.e <ℚ 𝟘
  pub lower_a : (N.col a.arc).lower ≡ some la
  pub lower_b : (N.col b.arc).lower ≡ some lb
  pub free_a : (N.col a.arc).upper ≡ none
  pub free_b : (N.col b.arc).upper ≡ none
  pub open_c : Open (N.col c.arc)
  pub different : Distinct (a.arc ∷ b.arc ∷ c.arc ∷ [])
  pub alone : (k : ℕ) → Memᴰ k N.cols → Absent k (a.arc ∷ b.arc ∷ c.arc ∷ []) → (N.col k).coef i ≡ 𝟘
  -- the reduced network
  pub rows_same : N'.rows ≡ N.rows
  pub cols_same : N'.cols ≡ N.cols
  pub same : (k : ℕ) → Memᴰ k N.cols → Absent k (a.arc ∷ b.arc ∷ c.arc ∷ []) → N'.col k ≡ N.col k
  pub altered_a : Through N a c a.e (N'.col a.arc)
  pub altered_b : Through N b c b.e (N'.col b.arc)
  pub open_a : Open (N'.col a.arc)
  pub open_b : Open (N'.col b.arc)
  pub added : Through N b a (rate d a b) (N'.col c.arc)
  pub low : ℚ
  pub high : ℚ
  pub lower_added : (N'.col c.arc).lower ≡ some low
  pub upper_added : (N'.col c.arc).upper ≡ some high
  pub low_is : low ≡ lb *ℚ inv (sgn d *ℚ a.e)
  pub high_is : high ≡ (N.rhs i +ℚ -ℚ (a.e *ℚ la)) *ℚ inv (rate d a b)
  pub ordered : low ≤ℚ high
  pub rhs_i : N'.rhs i ≡ 𝟘
  pub rhs_is : (s : ℕ) → Memᴰ s N.rows → ¬ (s ≡ i) → N'.rhs s ≡ N.rhs s +ℚ -ℚ only a.far (a.o *ℚ N.rhs i *ℚ inv a.e) s
  pub constant_is : N'.constant ≡ N.constant +ℚ (N.col a.arc).cost *ℚ N.rhs i *ℚ inv a.e

-- an altered arc's figures: multipliers -(o_c e_k / e_c) at c's far end and o_k at k's, cost c_k -ℚ c_c e_k / e_c
pub altered-arc : (N : LP) (k c : Spoke) (y : Column) → ¬ (k.e ≡ 𝟘) → Ends y c.far (-ℚ (c.o *ℚ k.e *ℚ inv c.e)) k.far k.o
    → y.cost ≡ (N.col k.arc).cost +ℚ -ℚ ((N.col c.arc).cost *ℚ k.e *ℚ inv c.e) → Through N k c k.e y
altered-arc N k c y h E w = record {
  ends = λ s. E s ∙ ap₂ (λ u v. only c.far u s +ℚ only k.far v s) (ring3 ℚ-ring c.o k.e (inv c.e) (λ o e i. :neg (o :* e :* i) := :neg (e :* (o :* i))) refl) (whole k.o);
  cost_is = w ∙ ap₂ (λ u v. u +ℚ -ℚ v) (whole (N.col k.arc).cost) (ring3 ℚ-ring (N.col c.arc).cost k.e (inv c.e) (λ o e i. o :* e :* i := e :* (o :* i)) refl);
}
  where
    whole : (t : ℚ) → t ≡ k.e *ℚ (t *ℚ inv k.e)
    whole t = combo ℚ-ring (-ℚ t) (mul_inv k.e h) (ring3 ℚ-ring k.e t (inv k.e) (λ e t i. t :- e :* (t :* i) := :neg t :* (e :* i :- :1)) refl)

-- the added arc's figures: multipliers -(|e_b| o_a) at a's far end and |e_a| o_b at b's, cost |e_a| c_b -ℚ |e_b| c_a
pub added-arc : (N : LP) (d : Side) (a b : Spoke) (y : Column) → ¬ (a.e ≡ 𝟘) → ¬ (b.e ≡ 𝟘) → Ends y a.far (-ℚ (sgn d *ℚ b.e *ℚ a.o)) b.far (sgn d *ℚ a.e *ℚ b.o)
    → y.cost ≡ sgn d *ℚ a.e *ℚ (N.col b.arc).cost +ℚ -ℚ (sgn d *ℚ b.e *ℚ (N.col a.arc).cost) → Through N b a (rate d a b) y
added-arc N d a b y ha hb E w = record {
  ends = λ s. E s ∙ ap₂ (λ u v. only a.far u s +ℚ only b.far v s) (ap (λ t. -ℚ t) (by-a a.o)) (by-b b.o);
  cost_is = w ∙ ap₂ (λ u v. u +ℚ -ℚ v) (by-b (N.col b.arc).cost) (by-a (N.col a.arc).cost);
}
  where
    by-a : (t : ℚ) → sgn d *ℚ b.e *ℚ t ≡ rate d a b *ℚ (t *ℚ inv a.e)
    by-a t = combo ℚ-ring (-ℚ (sgn d *ℚ b.e *ℚ t)) (mul_inv a.e ha) (ring5 ℚ-ring (sgn d) a.e b.e t (inv a.e) (λ s a b t i. s :* b :* t :- s :* (a :* b) :* (t :* i) := :neg (s :* b :* t) :* (a :* i :- :1)) refl)

    by-b : (t : ℚ) → sgn d *ℚ a.e *ℚ t ≡ rate d a b *ℚ (t *ℚ inv b.e)
    by-b t = combo ℚ-ring (-ℚ (sgn d *ℚ a.e *ℚ t)) (mul_inv b.e hb) (ring5 ℚ-ring (sgn d) a.e b.e t (inv b.e) (λ s a b t i. s :* a :* t :- s :* (a :* b) :* (t :* i) := :neg (s :* a :* t) :* (b :* i :- :1)) refl)

-- the rate has the side's sign
pub rate-with : (d : Side) (a b : Spoke) → 𝟘 <ℚ sgn d *ℚ a.e → 𝟘 <ℚ sgn d *ℚ b.e → 𝟘 <ℚ sgn d *ℚ rate d a b
rate-with d a b h k = subst (λ t. 𝟘 <ℚ t) (ring3 ℚ-ring (sgn d) a.e b.e (λ s a b. s :* a :* (s :* b) := s :* (s :* (a :* b))) refl) (mul-pos h k)

-- ---- postsolve

abbrev pub three-flow : LP → (i : ℕ) (d : Side) (a b c : Spoke) → (ℕ → ℚ) → ℕ → ℚ
three-flow N i d a b c x = puts (a.arc ∷ b.arc ∷ c.arc ∷ [])
    ((N.rhs i +ℚ -ℚ (rate d a b *ℚ x c.arc) +ℚ a.e *ℚ x a.arc) *ℚ inv a.e ∷ (rate d a b *ℚ x c.arc +ℚ b.e *ℚ x b.arc) *ℚ inv b.e ∷ -ℚ ((a.e *ℚ x a.arc +ℚ b.e *ℚ x b.arc) *ℚ inv c.e) ∷ []) x

-- the node's price: the smaller quote of a and b for positive supply, the larger for negative
abbrev pub three_back_lem : LP → (i : ℕ) (d : Side) (a b c : Spoke) → Pair → Pair
three_back_lem N i d a b c s = record { flow = three-flow N i d a b c s.flow; price = upd s.price i (nearer d (quote N a s.price) (quote N b s.price)) }

module _ {N N' : LP} {i : ℕ} {d : Side} {a b c : Spoke} {la lb : ℚ} (C : ThreeWay N N' i d a b c la lb) where
  bs : List Branch
  bs = record { n = c; ka = a.arc; kb = b.arc; ma = a.e; mb = b.e } ∷ []

  junction : Junction N N' i (sgn d) a b la lb bs [] (some c.arc) (rate d a b)
  unfolding bs
  junction = record {
    sign = sgn-square d;
    listed_i = C.listed_i;
    at_a = C.at_a;
    at_b = C.at_b;
    with_a = C.with_a;
    with_b = C.with_b;
    lower_a = C.lower_a;
    lower_b = C.lower_b;
    free_a = C.free_a;
    free_b = C.free_b;
    branches = (record { at_n = C.at_c; against = C.against_c; open_n = C.open_c; new_a = C.altered_a; new_b = C.altered_b; with_a = C.with_a; with_b = C.with_b; open_a = C.open_a; open_b = C.open_b }, tt);
    spare_listed = tt;
    spare_gone = tt;
    different = C.different;
    alone = C.alone;
    rows_same = C.rows_same;
    cols_same = C.cols_same;
    renumbered = trans (skip swap) swap;
    same = C.same;
    transfer = arc C.added pos C.low C.high C.lower_added low-eq C.upper_added high-eq C.ordered;
    rhs_is = rhs-shift C.at_a N' C.rhs_i C.rhs_is;
    constant_is = C.constant_is ∙ ring4 ℚ-ring N.constant (N.col a.arc).cost (N.rhs i) (inv a.e) (λ k c r i. k :+ c :* r :* i := k :+ c :* (r :* i)) refl;
  }
    where
      pos : 𝟘 <ℚ sgn d *ℚ rate d a b
      pos = rate-with d a b C.with_a C.with_b

      low-eq : rate d a b *ℚ C.low ≡ b.e *ℚ lb
      low-eq = ap (λ t. rate d a b *ℚ t) C.low_is ∙ combo ℚ-ring (b.e *ℚ lb) (mul_inv (sgn d *ℚ a.e) (pos-ne C.with_a))
          (ring5 ℚ-ring (sgn d) a.e b.e lb (inv (sgn d *ℚ a.e)) (λ s a b l i. s :* (a :* b) :* (l :* i) :- b :* l := b :* l :* (s :* a :* i :- :1)) refl)

      nonzero : ¬ (rate d a b ≡ 𝟘)
      nonzero z = pos-ne pos (ap (λ t. sgn d *ℚ t) z ∙ ring1 ℚ-ring (sgn d) (λ s. s :* :0 := :0) refl)

      high-eq : rate d a b *ℚ C.high ≡ N.rhs i +ℚ -ℚ (a.e *ℚ la)
      high-eq = ap (λ t. rate d a b *ℚ t) C.high_is ∙ combo ℚ-ring (N.rhs i +ℚ -ℚ (a.e *ℚ la)) (mul_inv (rate d a b) nonzero)
          (ring3 ℚ-ring (rate d a b) (N.rhs i +ℚ -ℚ (a.e *ℚ la)) (inv (rate d a b)) (λ m t i. m :* (t :* i) :- t := t :* (m :* i :- :1)) refl)

  flow-is : (x : ℕ → ℚ) → junction-flow N i a b bs [] (some c.arc) (rate d a b) x ≡ three-flow N i d a b c x
  unfolding bs
  flow-is x = ap₂ (λ u v. puts (a.arc ∷ b.arc ∷ c.arc ∷ []) ((N.rhs i +ℚ -ℚ (rate d a b *ℚ x c.arc) +ℚ u) *ℚ inv a.e ∷ (rate d a b *ℚ x c.arc +ℚ v) *ℚ inv b.e ∷ -ℚ ((a.e *ℚ x a.arc +ℚ b.e *ℚ x b.arc) *ℚ inv c.e) ∷ []) x)
      (ring1 ℚ-ring (a.e *ℚ x a.arc) (λ t. t :+ :0 := t) refl) (ring1 ℚ-ring (b.e *ℚ x b.arc) (λ t. t :+ :0 := t) refl)

  pub three-sound : SoundStep N N' (three_back_lem N i d a b c)
  unfolding bs
  three-sound = same_back (λ s. ap (λ f. record { flow = f; price = upd s.price i (nearer d (quote N a s.price) (quote N b s.price)) }) (flow-is s.flow))
      (junction-sound junction (λ p. nearer d (quote N a p) (quote N b p)) (λ s h. nearer-is d (quote N a s.price) (quote N b s.price) (Fair junction s) (fair-a junction s h) (fair-b junction s h)))
