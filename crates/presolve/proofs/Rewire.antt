-- A step at a node, between two working networks: the node is dropped, a few named arcs are changed or dropped, one supply and the constant shift. So are rules 5, 6 and 8.
use mathlib.Core.Path.{◌≡◌, refl, sym, ◌∙◌, ap, ap₂, subst}
use mathlib.Core.Logic.{◌⊎◌, inl, inr}
use mathlib.Core.List.{List, [], ◌∷◌, Memᴰ}
use mathlib.Core.Option.{none, some}
use Prim.Native.Nat.{ℕ, ◌<◌}
use native.Mathlib.Decide.{ℕ_discrete}
use lib.Dec.{T}
use Rattle.algebra.proofs.Solver.{◌:*◌, ◌:-◌, :0, ◌:=◌, ring1, ring2}
use Rattle.algebra.specs.Rat.{ℚ, ◌+ℚ◌, ◌*ℚ◌, -ℚ◌, 0_ℚ as 𝟘, 1_ℚ as 𝟙, inv_ℚ as inv, ◌<ℚ◌, ◌≤ℚ◌}
use Rattle.algebra.proofs.Rat.{ℚ-ring, add_ℚ-zero as add-zero}
use Rattle.algebra.proofs.Sum.{Absent, step, range-once, range-mem}
use Rattle.algebra.specs.Sum.{only, range}
use Rattle.algebra.proofs.Sum as Sum
use Rattle.presolve.proofs.Named.{Distinct, Perm}
use Rattle.presolve.proofs.Price.{Ends, only_zero}
use Rattle.presolve.proofs.Spoke.{Side, sgn, Spoke, SpokeAt, Through}
use Rattle.presolve.proofs.TwoArcs.{NewBounds, TwoArcs}
use Rattle.presolve.proofs.Junction.{Open}
use Rattle.presolve.proofs.Crossing.{four, Crossing, crossing-arc}
use Rattle.presolve.proofs.ThreeWay.{rate, ThreeWay, altered-arc, added-arc}
use Rattle.presolve.proofs.Net.{gone-out, column-in, rhs-in, rhs-out, column-same, rhs-less}
use Rattle.presolve.specs.LP.{Column}
use Rattle.presolve.specs.Net.{Arc, Working, column, column_at, rhs_at, lp_of}

-- `far` loses v, the constant gains `gain`
pub record Rewired (w w' : Working) (i : ℕ) (names : List ℕ) (far : ℕ) (v gain : ℚ) : Type 0 where
  pub n_same : w'.n ≡ w.n
  pub m_same : w'.m ≡ w.m
  pub node_in : T (w.node? i)
  pub node_out : ¬ (T (w'.node? i))
  pub nodes : (s : ℕ) → s < w.n → ¬ (s ≡ i) → w'.node? s ≡ w.node? s
  pub far_in : T (w.node? far) ⊎ (v ≡ 𝟘)
  pub supplies : (s : ℕ) → s < w.n → ¬ (s ≡ i) → T (w.node? s) → w'.supply s ≡ w.supply s +ℚ -ℚ only far v s
  pub arcs-in : (c : ℕ) → c < w.m → Absent c names → w'.arc? c ≡ w.arc? c
  pub arcs : (c : ℕ) → c < w.m → Absent c names → w'.arc c ≡ w.arc c
  pub constants : w'.constant ≡ w.constant +ℚ gain

module _ {w w' : Working} {i : ℕ} {names : List ℕ} {far : ℕ} {v gain : ℚ} (R : Rewired w w' i names far v gain) where
  pub same_of : (c : ℕ) → Memᴰ c (range w.m) → Absent c names → column_at w' c ≡ column_at w c
  same_of c m a = column-same w w' c (R.arcs-in c (range-mem c w.m m) a) (R.arcs c (range-mem c w.m m) a)

  pub rhs-i-of : rhs_at w' i ≡ 𝟘
  rhs-i-of = rhs-out w' i R.node_out

  pub rhs_of : (s : ℕ) → Memᴰ s (range w.n) → ¬ (s ≡ i) → rhs_at w' s ≡ rhs_at w s +ℚ -ℚ only far v s
  rhs_of s m n = rhs-less w w' far s v R.far_in (R.nodes s (range-mem s w.n m) n) (R.supplies s (range-mem s w.n m) n)

-- a new arc of rule 6
abbrev pub cross-arc : Working → Spoke → Spoke → Arc
cross-arc w n p = record { from = n.far; to = p.far; cost = -ℚ ((w.arc n.arc).cost *ℚ inv n.e) +ℚ (w.arc p.arc).cost *ℚ inv p.e; lower = some 𝟘; upper = none; a = -ℚ (n.o *ℚ inv n.e); b = p.o *ℚ inv p.e }

-- an arc that is in and lies between 0 and no bound
pub record OpenArc (w : Working) (c : ℕ) : Type 0 where
  pub is_in : T (w.arc? c)
  pub lower_0 : (w.arc c).lower ≡ some 𝟘
  pub free : (w.arc c).upper ≡ none

pub open_of : (w : Working) (c : ℕ) → OpenArc w c → Open (column_at w c)
open_of w c O = record { lower_0 = ap (λ t. t.lower) (column-in w c O.is_in) ∙ O.lower_0; free = ap (λ t. t.upper) (column-in w c O.is_in) ∙ O.free }

-- RULE 6 between two working networks
pub crossing-of : (w w' : Working) (i : ℕ) (n₁ n₂ p₁ p₂ : Spoke) (k₁₁ k₁₂ k₂₁ k₂₂ : ℕ)
    → Rewired w w' i (four p₁.arc p₂.arc n₁.arc n₂.arc) i 𝟘 𝟘
    → i < w.n → w.supply i ≡ 𝟘
    → SpokeAt (lp_of w) i n₁ → SpokeAt (lp_of w) i n₂ → SpokeAt (lp_of w) i p₁ → SpokeAt (lp_of w) i p₂
    → n₁.e <ℚ 𝟘 → n₂.e <ℚ 𝟘 → 𝟘 <ℚ p₁.e → 𝟘 <ℚ p₂.e
    → OpenArc w n₁.arc → OpenArc w n₂.arc → OpenArc w p₁.arc → OpenArc w p₂.arc
    → Distinct (four p₁.arc p₂.arc n₁.arc n₂.arc)
    → ((c : ℕ) → Memᴰ c (range w.m) → Absent c (four p₁.arc p₂.arc n₁.arc n₂.arc) → (column_at w c).coef i ≡ 𝟘)
    → Perm (four p₁.arc p₂.arc n₁.arc n₂.arc) (four k₁₁ k₁₂ k₂₁ k₂₂)
    → T (w'.arc? k₁₁) → T (w'.arc? k₁₂) → T (w'.arc? k₂₁) → T (w'.arc? k₂₂)
    → w'.arc k₁₁ ≡ cross-arc w n₁ p₁ → w'.arc k₁₂ ≡ cross-arc w n₁ p₂ → w'.arc k₂₁ ≡ cross-arc w n₂ p₁ → w'.arc k₂₂ ≡ cross-arc w n₂ p₂
    → Crossing (lp_of w) (lp_of w') i n₁ n₂ p₁ p₂ k₁₁ k₁₂ k₂₁ k₂₂
crossing-of w w' i n₁ n₂ p₁ p₂ k₁₁ k₁₂ k₂₁ k₂₂ R hi z N₁ N₂ P₁ P₂ sn₁ sn₂ sp₁ sp₂ on₁ on₂ op₁ op₂ d alone perm t₁₁ t₁₂ t₂₁ t₂₂ e₁₁ e₁₂ e₂₁ e₂₂ = record {
  listed_i = range-once i w.n hi;
  no_supply = rhs-in w i R.node_in ∙ z;
  at_n₁ = N₁;
  at_n₂ = N₂;
  at_p₁ = P₁;
  at_p₂ = P₂;
  neg₁ = sn₁;
  neg₂ = sn₂;
  pos₁ = sp₁;
  pos₂ = sp₂;
  open_n₁ = open_of w n₁.arc on₁;
  open_n₂ = open_of w n₂.arc on₂;
  open_p₁ = open_of w p₁.arc op₁;
  open_p₂ = open_of w p₂.arc op₂;
  different = d;
  alone = alone;
  rows_same = ap range R.n_same;
  cols_same = ap range R.m_same;
  renumbered = perm;
  same = same_of R;
  new₁₁ = through n₁ p₁ on₁ op₁ k₁₁ t₁₁ e₁₁;
  new₁₂ = through n₁ p₂ on₁ op₂ k₁₂ t₁₂ e₁₂;
  new₂₁ = through n₂ p₁ on₂ op₁ k₂₁ t₂₁ e₂₁;
  new₂₂ = through n₂ p₂ on₂ op₂ k₂₂ t₂₂ e₂₂;
  open₁₁ = opened n₁ p₁ k₁₁ t₁₁ e₁₁;
  open₁₂ = opened n₁ p₂ k₁₂ t₁₂ e₁₂;
  open₂₁ = opened n₂ p₁ k₂₁ t₂₁ e₂₁;
  open₂₂ = opened n₂ p₂ k₂₂ t₂₂ e₂₂;
  rhs_is = λ s m. rhs s m (ℕ_discrete s i);
  constant_is = R.constants ∙ add-zero w.constant;
}
  where
    new : (n p : Spoke) (k : ℕ) → T (w'.arc? k) → w'.arc k ≡ cross-arc w n p → column_at w' k ≡ column (cross-arc w n p)
    new n p k t e = column-in w' k t ∙ ap column e

    through : (n p : Spoke) → OpenArc w n.arc → OpenArc w p.arc → (k : ℕ) → T (w'.arc? k) → w'.arc k ≡ cross-arc w n p → Through (lp_of w) p n 𝟙 (column_at w' k)
    through n p on op k t e = subst (Through (lp_of w) p n 𝟙) (sym (new n p k t e)) (crossing-arc (lp_of w) n p (column (cross-arc w n p)) (λ s. refl)
        (ap₂ (λ x y. -ℚ (x.cost *ℚ inv n.e) +ℚ y.cost *ℚ inv p.e) (sym (column-in w n.arc on.is_in)) (sym (column-in w p.arc op.is_in))))

    opened : (n p : Spoke) (k : ℕ) → T (w'.arc? k) → w'.arc k ≡ cross-arc w n p → Open (column_at w' k)
    opened n p k t e = subst Open (sym (new n p k t e)) (record { lower_0 = refl; free = refl })

    rhs : (s : ℕ) → Memᴰ s (range w.n) → Dec (s ≡ i) → rhs_at w' s ≡ rhs_at w s
    rhs s m (yes q) = subst (λ t. rhs_at w' t ≡ rhs_at w t) (sym q) (rhs-i-of R ∙ sym (rhs-in w i R.node_in ∙ z))
    rhs s m (no n) = rhs_of R s m n ∙ ap (λ t. rhs_at w s +ℚ -ℚ t) (only_zero i s) ∙ ring1 ℚ-ring (rhs_at w s) (λ r. r :- :0 := r) refl

-- a shift is none where the far end has the multiplier 0
pub shift_in : (w : Working) (a : Spoke) (r : ℚ) → T (w.node? a.far) ⊎ (a.o ≡ 𝟘) → T (w.node? a.far) ⊎ (a.o *ℚ r *ℚ inv a.e ≡ 𝟘)
shift_in w a r (inl t) = inl t
shift_in w a r (inr z) = inr (ap (λ o. o *ℚ r *ℚ inv a.e) z ∙ ring2 ℚ-ring r (inv a.e) (λ r i. :0 :* r :* i := :0) refl)

-- the arc a takes the supply with it: its far end loses o × r ÷ e, the constant gains c × r ÷ e
abbrev pub Taking : (w w' : Working) (i : ℕ) (a : Spoke) (names : List ℕ) → Type 0
Taking w w' i a names = Rewired w w' i names a.far (a.o *ℚ w.supply i *ℚ inv a.e) ((w.arc a.arc).cost *ℚ w.supply i *ℚ inv a.e)

module _ {w w' : Working} {i : ℕ} (a : Spoke) {names : List ℕ} (R : Taking w w' i a names) (t : T (w.arc? a.arc)) where
  pub taking-rhs : (s : ℕ) → Memᴰ s (range w.n) → ¬ (s ≡ i) → rhs_at w' s ≡ rhs_at w s +ℚ -ℚ only a.far (a.o *ℚ rhs_at w i *ℚ inv a.e) s
  taking-rhs s m n = rhs_of R s m n ∙ ap (λ r. rhs_at w s +ℚ -ℚ only a.far (a.o *ℚ r *ℚ inv a.e) s) (sym (rhs-in w i R.node_in))

  pub taking-constant : w'.constant ≡ w.constant +ℚ (column_at w a.arc).cost *ℚ rhs_at w i *ℚ inv a.e
  taking-constant = R.constants ∙ ap₂ (λ c r. w.constant +ℚ c.cost *ℚ r *ℚ inv a.e) (sym (column-in w a.arc t)) (sym (rhs-in w i R.node_in))

-- RULE 5 between two working networks: k is out, and j's number has the arc e
pub two-of : (w w' : Working) (i : ℕ) (j k : Spoke) (e : Arc)
    → Taking w w' i k (j.arc ∷ k.arc ∷ [])
    → i < w.n → SpokeAt (lp_of w) i j → SpokeAt (lp_of w) i k → T (w.arc? j.arc) → T (w.arc? k.arc) → ¬ (j.arc ≡ k.arc)
    → ((c : ℕ) → Memᴰ c (range w.m) → Absent c (j.arc ∷ k.arc ∷ []) → (column_at w c).coef i ≡ 𝟘)
    → T (w'.arc? j.arc) → ¬ (T (w'.arc? k.arc)) → w'.arc j.arc ≡ e
    → Ends (column e) j.far j.o k.far (-ℚ (k.o *ℚ j.e *ℚ inv k.e)) → e.cost ≡ (w.arc j.arc).cost +ℚ -ℚ ((w.arc k.arc).cost *ℚ j.e *ℚ inv k.e)
    → NewBounds (column (w.arc j.arc)) (column (w.arc k.arc)) (column e) (w.supply i) j.e k.e
    → TwoArcs (lp_of w) (lp_of w') i j k
two-of w w' i j k e R hi J K tj tk d alone nj nk q E c b = record {
  listed_i = range-once i w.n hi;
  at_j = J;
  at_k = K;
  different = d;
  alone = λ c m n n'. alone c m (step n (step n' Sum.none));
  rows_same = ap range R.n_same;
  cols_same = ap range R.m_same;
  same = λ c m n n'. same_of R c m (step n (step n' Sum.none));
  gone_k = gone-out w' k.arc nk;
  ends_new = λ s. ap (λ t. t.coef s) new ∙ E s;
  cost_new = ap (λ t. t.cost) new ∙ c ∙ ap₂ (λ x y. x.cost +ℚ -ℚ (y.cost *ℚ j.e *ℚ inv k.e)) (sym (column-in w j.arc tj)) (sym (column-in w k.arc tk));
  bounds_new = rw (column-in w j.arc tj, column-in w k.arc tk, new, rhs-in w i R.node_in) b;
  rhs_i = rhs-i-of R;
  rhs_is = taking-rhs k R tk;
  constant_is = taking-constant k R tk;
}
  where
    new : column_at w' j.arc ≡ column e
    new = column-in w' j.arc nj ∙ ap column q

-- an altered arc of rule 8: k now runs from c's far end
abbrev pub altered : Working → Spoke → Spoke → Arc
altered w k c = record { from = c.far; to = k.far; cost = (w.arc k.arc).cost +ℚ -ℚ ((w.arc c.arc).cost *ℚ k.e *ℚ inv c.e); lower = some 𝟘; upper = none; a = -ℚ (c.o *ℚ k.e *ℚ inv c.e); b = k.o }

-- an arc that is in, with a lower bound and no upper one
pub record RisingArc (w : Working) (c : ℕ) (l : ℚ) : Type 0 where
  pub is_in : T (w.arc? c)
  pub lower_is : (w.arc c).lower ≡ some l
  pub free : (w.arc c).upper ≡ none

-- the arc that shares the supply out between a and b; it may run either way
pub record SharingArc (w : Working) (d : Side) (a b : Spoke) (e : Arc) : Type 0 where
  pub ends : Ends (column e) a.far (-ℚ (sgn d *ℚ b.e *ℚ a.o)) b.far (sgn d *ℚ a.e *ℚ b.o)
  pub cost_is : e.cost ≡ sgn d *ℚ a.e *ℚ (w.arc b.arc).cost +ℚ -ℚ (sgn d *ℚ b.e *ℚ (w.arc a.arc).cost)

sharing : (w : Working) (i : ℕ) (d : Side) (a b : Spoke) (e : Arc) (y : Column) → SpokeAt (lp_of w) i a → SpokeAt (lp_of w) i b → T (w.arc? a.arc) → T (w.arc? b.arc) → SharingArc w d a b e → y ≡ column e → Through (lp_of w) b a (rate d a b) y
sharing w i d a b e y A B ta tb S q = subst (Through (lp_of w) b a (rate d a b)) (sym q) (added-arc (lp_of w) d a b (column e) A.nonzero B.nonzero S.ends
    (S.cost_is ∙ ap₂ (λ x y. sgn d *ℚ a.e *ℚ x.cost +ℚ -ℚ (sgn d *ℚ b.e *ℚ y.cost)) (sym (column-in w b.arc tb)) (sym (column-in w a.arc ta))))

pub three-of : (w w' : Working) (i : ℕ) (d : Side) (a b c : Spoke) (la lb : ℚ) (e : Arc)
    → Taking w w' i a (a.arc ∷ b.arc ∷ c.arc ∷ [])
    → i < w.n → SpokeAt (lp_of w) i a → SpokeAt (lp_of w) i b → SpokeAt (lp_of w) i c
    → 𝟘 <ℚ sgn d *ℚ a.e → 𝟘 <ℚ sgn d *ℚ b.e → sgn d *ℚ c.e <ℚ 𝟘
    → RisingArc w a.arc la → RisingArc w b.arc lb → OpenArc w c.arc → Distinct (a.arc ∷ b.arc ∷ c.arc ∷ [])
    → ((k : ℕ) → Memᴰ k (range w.m) → Absent k (a.arc ∷ b.arc ∷ c.arc ∷ []) → (column_at w k).coef i ≡ 𝟘)
    → T (w'.arc? a.arc) → T (w'.arc? b.arc) → T (w'.arc? c.arc)
    → w'.arc a.arc ≡ altered w a c → w'.arc b.arc ≡ altered w b c → w'.arc c.arc ≡ e → SharingArc w d a b e
    → (low high : ℚ) → e.lower ≡ some low → e.upper ≡ some high → low ≡ lb *ℚ inv (sgn d *ℚ a.e) → high ≡ (w.supply i +ℚ -ℚ (a.e *ℚ la)) *ℚ inv (rate d a b) → low ≤ℚ high
    → ThreeWay (lp_of w) (lp_of w') i d a b c la lb
three-of w w' i d a b c la lb e R hi A B D sa sb sc ra rb oc dist alone ta tb tc qa qb qc S low high el eu ml mh le = record {
  listed_i = range-once i w.n hi;
  at_a = A;
  at_b = B;
  at_c = D;
  with_a = sa;
  with_b = sb;
  against_c = sc;
  lower_a = ap (λ t. t.lower) (column-in w a.arc ra.is_in) ∙ ra.lower_is;
  lower_b = ap (λ t. t.lower) (column-in w b.arc rb.is_in) ∙ rb.lower_is;
  free_a = ap (λ t. t.upper) (column-in w a.arc ra.is_in) ∙ ra.free;
  free_b = ap (λ t. t.upper) (column-in w b.arc rb.is_in) ∙ rb.free;
  open_c = open_of w c.arc oc;
  different = dist;
  alone = alone;
  rows_same = ap range R.n_same;
  cols_same = ap range R.m_same;
  same = same_of R;
  altered_a = through a A ra ta qa;
  altered_b = through b B rb tb qb;
  open_a = subst Open (sym (new a ta qa)) (record { lower_0 = refl; free = refl });
  open_b = subst Open (sym (new b tb qb)) (record { lower_0 = refl; free = refl });
  added = sharing w i d a b e (column_at w' c.arc) A B ra.is_in rb.is_in S at_c;
  low = low;
  high = high;
  lower_added = ap (λ t. t.lower) at_c ∙ el;
  upper_added = ap (λ t. t.upper) at_c ∙ eu;
  low_is = ml;
  high_is = mh ∙ ap (λ r. (r +ℚ -ℚ (a.e *ℚ la)) *ℚ inv (rate d a b)) (sym (rhs-in w i R.node_in));
  ordered = le;
  rhs_i = rhs-i-of R;
  rhs_is = taking-rhs a R ra.is_in;
  constant_is = taking-constant a R ra.is_in;
}
  where
    new : (k : Spoke) → T (w'.arc? k.arc) → w'.arc k.arc ≡ altered w k c → column_at w' k.arc ≡ column (altered w k c)
    new k t q = column-in w' k.arc t ∙ ap column q

    at_c : column_at w' c.arc ≡ column e
    at_c = column-in w' c.arc tc ∙ ap column qc

    through : (k : Spoke) → SpokeAt (lp_of w) i k → {l : ℚ} → RisingArc w k.arc l → T (w'.arc? k.arc) → w'.arc k.arc ≡ altered w k c → Through (lp_of w) k c k.e (column_at w' k.arc)
    through k K r t q = subst (Through (lp_of w) k c k.e) (sym (new k t q)) (altered-arc (lp_of w) k c (column (altered w k c)) K.nonzero (λ s. refl)
        (ap₂ (λ x y. x.cost +ℚ -ℚ (y.cost *ℚ k.e *ℚ inv c.e)) (sym (column-in w k.arc r.is_in)) (sym (column-in w c.arc oc.is_in))))
