-- Rule 5, two arcs: j and k are the arcs at node i. The node and k are dropped, x_k = (r - e_j x_j) / e_k, and j runs on to k's other end.
use mathlib.Core.Path.{◌≡◌, refl, sym, ◌∙◌, ap, ap₂, subst}
use mathlib.Core.Logic.{◌⊎◌, inl, inr}
use mathlib.Core.List.{[], ◌∷◌, Memᴰ}
use mathlib.Core.Option.{Option, some}
use Prim.Native.Nat.{ℕ}
use Rattle.algebra.proofs.Ring.{combo, combo2, combo3}
use Rattle.algebra.proofs.Solver.{◌:+◌, ◌:*◌, ◌:-◌, :neg, :0, :1, ◌:=◌, ring1, ring2, ring3, ring4, ring5, ring6, ring7, ring8, ring9}
use Rattle.algebra.specs.Rat.{ℚ, ◌+ℚ◌, ◌*ℚ◌, -ℚ◌, ◌≤ℚ◌, 0_ℚ as 𝟘, 1_ℚ as 𝟙, inv_ℚ as inv, ◌<ℚ◌}
use Rattle.algebra.proofs.Rat.{ℚ-ring, mul_ℚ-inv as mul_inv}
use Rattle.algebra.proofs.Order.{lt→le, le-by, sub-nn, mul_nn', sq-nn}
use Rattle.algebra.proofs.Sum.{Once, upd_same, upd_other}
use Rattle.algebra.specs.Sum.{only, upd}
use Rattle.presolve.proofs.Named.{apart, further, once-mem, all-mem, sum-at-named}
use Rattle.presolve.proofs.Bounds.{map_o, map_o-is, map_o-each, map_o-some, merge_l, merge_u, merge_l-or, merge_u-or, merge_l-l, merge_l-r, merge_u-l, merge_u-r, merge_l-both, merge_u-both, fits-dec, fits-zero, choose}
use Rattle.presolve.specs.Bounds.{Fits}
use Rattle.presolve.specs.LP.{LP, Pair, Feasible, Solved, InBounds, PriceRule, reduced, brings}
pub use Rattle.presolve.proofs.NewBounds.{image, NewBounds, exchanged, straight}
use Rattle.presolve.proofs.Removed.{Gone, gone-within}
use Rattle.presolve.proofs.Step.{SoundStep}
use Rattle.presolve.proofs.Frame.{Frame, two-frame, Matched, Paid, frame-value, frame_on, frame-solved, agree-upd, rule-new, within_new}
use Rattle.presolve.proofs.Price.{Blend, reduced-blend, reduced-unseen, Ends, ends-reduced-at, only-scale, only-share}
use Rattle.presolve.proofs.Spoke.{Spoke, SpokeAt, quote, spoke-e, spoke-reduced, rhs-shift}

-- the kept arc j and the dropped arc k; a root arc k has k.o = 0
pub record TwoArcs (N N' : LP) (i : ℕ) (j k : Spoke) : Type 0 where
  pub listed_i : Once i N.rows
  pub at_j : SpokeAt N i j
  pub at_k : SpokeAt N i k
  pub different : ¬ (j.arc ≡ k.arc)
  pub alone : (c : ℕ) → Memᴰ c N.cols → ¬ (c ≡ j.arc) → ¬ (c ≡ k.arc) → (N.col c).coef i ≡ 𝟘
  -- the reduced network
  pub rows_same : N'.rows ≡ N.rows
  pub cols_same : N'.cols ≡ N.cols
  pub same : (c : ℕ) → Memᴰ c N.cols → ¬ (c ≡ j.arc) → ¬ (c ≡ k.arc) → N'.col c ≡ N.col c
  pub gone_k : Gone (N'.col k.arc)
  pub ends_new : Ends (N'.col j.arc) j.far j.o k.far (-ℚ (k.o *ℚ j.e *ℚ inv k.e))
  pub cost_new : (N'.col j.arc).cost ≡ (N.col j.arc).cost +ℚ -ℚ ((N.col k.arc).cost *ℚ j.e *ℚ inv k.e)
  pub bounds_new : NewBounds (N.col j.arc) (N.col k.arc) (N'.col j.arc) (N.rhs i) j.e k.e
  pub rhs_i : N'.rhs i ≡ 𝟘
  pub rhs_is : (s : ℕ) → Memᴰ s N.rows → ¬ (s ≡ i) → N'.rhs s ≡ N.rhs s +ℚ -ℚ only k.far (k.o *ℚ N.rhs i *ℚ inv k.e) s
  pub constant_is : N'.constant ≡ N.constant +ℚ (N.col k.arc).cost *ℚ N.rhs i *ℚ inv k.e

-- ---- postsolve

-- k's flow
abbrev pub two-flow : LP → (i : ℕ) (j k : Spoke) → (ℕ → ℚ) → ℕ → ℚ
two-flow N i j k x = upd x k.arc ((N.rhs i +ℚ -ℚ (j.e *ℚ x j.arc)) *ℚ inv k.e)

-- the node's price: k breaks even, if j then keeps the price rule on its old bounds; else j breaks even
unfoldable pub two-price : LP → (j k : Spoke) → (x p : ℕ → ℚ) → ℚ
two-price N j k x p = choose (fits-dec (N.col j.arc).lower (N.col j.arc).upper (x j.arc) ((N.col j.arc).cost +ℚ -ℚ (j.o *ℚ p j.far) +ℚ -ℚ (j.e *ℚ quote N k p)))
    (quote N k p) (quote N j p)

abbrev pub two_back_lem : LP → (i : ℕ) (j k : Spoke) → Pair → Pair
two_back_lem N i j k s = record { flow = two-flow N i j k s.flow; price = upd s.price i (two-price N j k s.flow s.price) }

-- ---- signs: a - b is w times c - d

module _ {a b c d w : ℚ} (e : a +ℚ -ℚ b ≡ w *ℚ (c +ℚ -ℚ d)) where
  up⁺ : 𝟘 ≤ℚ w → d ≤ℚ c → b ≤ℚ a
  up⁺ h g = le-by (mul_nn' h (sub-nn g)) e

  down⁺ : 𝟘 ≤ℚ w → c ≤ℚ d → a ≤ℚ b
  down⁺ h g = le-by (mul_nn' h (sub-nn g)) (combo ℚ-ring (-ℚ 𝟙) e (ring5 ℚ-ring a b c d w (λ a b c d w. b :- a :- w :* (d :- c) := :neg :1 :* (a :- b :- w :* (c :- d))) refl))

  up⁻ : w ≤ℚ 𝟘 → c ≤ℚ d → b ≤ℚ a
  up⁻ h g = le-by (mul_nn' (sub-nn h) (sub-nn g)) (combo ℚ-ring 𝟙 e (ring5 ℚ-ring a b c d w (λ a b c d w. a :- b :- (:0 :- w) :* (d :- c) := :1 :* (a :- b :- w :* (c :- d))) refl))

  down⁻ : w ≤ℚ 𝟘 → d ≤ℚ c → a ≤ℚ b
  down⁻ h g = le-by (mul_nn' (sub-nn h) (sub-nn g)) (combo ℚ-ring (-ℚ 𝟙) e (ring5 ℚ-ring a b c d w (λ a b c d w. b :- a :- (:0 :- w) :* (c :- d) := :neg :1 :* (a :- b :- w :* (c :- d))) refl))

times-sq⁺ : {s : ℚ} (i : ℚ) → 𝟘 <ℚ s → 𝟘 ≤ℚ s *ℚ (i *ℚ i)
times-sq⁺ i h = mul_nn' (lt→le h) (sq-nn i)

times-sq⁻ : {s : ℚ} (i : ℚ) → s <ℚ 𝟘 → s *ℚ (i *ℚ i) ≤ℚ 𝟘
times-sq⁻ {s} i h = le-by (mul_nn' (sub-nn (lt→le h)) (sq-nn i)) (ring2 ℚ-ring s i (λ s i. :0 :- s :* (i :* i) := (:0 :- s) :* (i :* i)) refl)

-- ---- two flows with e_j x_j + e_k x_k = r

module _ (r ej ek xj xk : ℚ) (hj : ¬ (ej ≡ 𝟘)) (hk : ¬ (ek ≡ 𝟘)) (L : ek *ℚ xk +ℚ ej *ℚ xj ≡ r) where
  -- k's distance from z, and j's distance from the image of z
  k-by-j : (z : ℚ) → xk +ℚ -ℚ z ≡ ej *ℚ ek *ℚ (inv ek *ℚ inv ek) *ℚ (image r ej ek z +ℚ -ℚ xj)
  k-by-j z = combo3 ℚ-ring (-ℚ ((xk +ℚ -ℚ z) *ℚ (ek *ℚ inv ek +ℚ 𝟙))) (-ℚ (ek *ℚ inv ek *ℚ inv ek *ℚ (r +ℚ -ℚ (ek *ℚ z)))) (ek *ℚ inv ek *ℚ inv ek) (mul_inv ek hk) (mul_inv ej hj) L
      (ring8 ℚ-ring ek ej r xk xj z (inv ek) (inv ej) (λ k j r x y z i h.
      x :- z :- j :* k :* (i :* i) :* ((r :- k :* z) :* h :- y)
      := :neg ((x :- z) :* (k :* i :+ :1)) :* (k :* i :- :1) :+ :neg (k :* i :* i :* (r :- k :* z)) :* (j :* h :- :1) :+ k :* i :* i :* (k :* x :+ j :* y :- r)) refl)

  j-by-k : (z : ℚ) → image r ej ek z +ℚ -ℚ xj ≡ ej *ℚ ek *ℚ (inv ej *ℚ inv ej) *ℚ (xk +ℚ -ℚ z)
  j-by-k z = combo2 ℚ-ring (xj +ℚ -ℚ (inv ej *ℚ ek *ℚ (xk +ℚ -ℚ z))) (-ℚ inv ej) (mul_inv ej hj) L
      (ring7 ℚ-ring ek ej r xk xj z (inv ej) (λ k j r x y z h.
      (r :- k :* z) :* h :- y :- j :* k :* (h :* h) :* (x :- z) := (y :- h :* k :* (x :- z)) :* (j :* h :- :1) :+ :neg h :* (k :* x :+ j :* y :- r)) refl)

  -- j at the image of a bound: k at that bound
  at_bound : (o : Option ℚ) → map_o (image r ej ek) o ≡ some xj → o ≡ some xk
  at_bound o e = go (map_o-some (image r ej ek) o e)
    where
      go : ((z : ℚ) × (o ≡ some z) × (image r ej ek z ≡ xj)) → o ≡ some xk
      go t = t.1 ∙ ap some (combo2 ℚ-ring (-ℚ 𝟙) (-ℚ (ej *ℚ ek *ℚ (inv ek *ℚ inv ek))) (k-by-j t.0) t.2
          (ring5 ℚ-ring t.0 xk xj (image r ej ek t.0) (ej *ℚ ek *ℚ (inv ek *ℚ inv ek)) (λ z x y v w. z :- x := :neg :1 :* (x :- z :- w :* (v :- y)) :+ :neg w :* (v :- y)) refl))

module _ {N N' : LP} {i : ℕ} {j k : Spoke} (T : TwoArcs N N' i j k) where
  coef-j : (N.col j.arc).coef i ≡ j.e
  coef-j = spoke-e T.at_j

  coef-k : (N.col k.arc).coef i ≡ k.e
  coef-k = spoke-e T.at_k

  frame : Frame N N' (j.arc ∷ k.arc ∷ []) (j.arc ∷ k.arc ∷ [])
  frame = two-frame T.rows_same T.cols_same T.different T.at_j.listed T.at_k.listed T.same

  -- the new arc is j less e_j / e_k times k
  blend : Blend (N'.col j.arc) (N.col j.arc) (N.col k.arc) 𝟙 (-ℚ (j.e *ℚ inv k.e))
  blend = record {
    coef_is = λ s.
        T.ends_new s
        ∙ ap (λ t. only j.far j.o s +ℚ t) (ap (λ w. only k.far w s) (ring3 ℚ-ring k.o j.e (inv k.e) (λ o e i. :neg (o :* e :* i) := :neg (e :* i) :* o) refl) ∙ only-scale k.far (-ℚ (j.e *ℚ inv k.e)) k.o s)
        ∙ combo ℚ-ring (-ℚ 𝟙) (only-share i j.e k.e s T.at_k.nonzero)
        (ring5 ℚ-ring (only j.far j.o s) (only k.far k.o s) (only i j.e s) (only i k.e s) (j.e *ℚ inv k.e) (λ u v a b q. u :+ :neg q :* v :- (:1 :* (a :+ u) :+ :neg q :* (b :+ v)) := :neg :1 :* (a :- q :* b)) refl)
        ∙ ap₂ (λ a b. 𝟙 *ℚ a +ℚ -ℚ (j.e *ℚ inv k.e) *ℚ b) (sym (T.at_j.ends s)) (sym (T.at_k.ends s));
    cost_is = T.cost_new ∙ ring4 ℚ-ring (N.col j.arc).cost (N.col k.arc).cost j.e (inv k.e) (λ a b e i. a :- b :* e :* i := :1 :* a :+ :neg (e :* i) :* b) refl;
  }

  -- the right-hand sides, the node's own among them
  rhs-all : (s : ℕ) → Memᴰ s N.rows → N'.rhs s ≡ N.rhs s +ℚ -ℚ ((N.col k.arc).coef s *ℚ (N.rhs i *ℚ inv k.e))
  rhs-all = rhs-shift T.at_k N' T.rhs_i T.rhs_is

  module _ (x x' : ℕ → ℚ) (xk : x k.arc ≡ (N.rhs i +ℚ -ℚ (j.e *ℚ x j.arc)) *ℚ inv k.e) (off : (c : ℕ) → ¬ (c ≡ k.arc) → x c ≡ x' c) where
    xj : x j.arc ≡ x' j.arc
    xj = off j.arc T.different

    matched : Matched N N' (j.arc ∷ k.arc ∷ []) (j.arc ∷ k.arc ∷ []) x x'
    matched = record {
      off = λ c a. off c (apart (further a));
      row = λ s m.
          combo2 ℚ-ring ((N.col k.arc).coef s) 𝟙 xk (rhs-all s m)
          (ring9 ℚ-ring ((N.col j.arc).coef s) ((N.col k.arc).coef s) (x j.arc) (x k.arc) (N.rhs s) (N'.rhs s) (N.rhs i) j.e (inv k.e)
          (λ A B y z r r' t e i. A :* y :+ (B :* z :+ :0) :+ r' :- ((:1 :* A :+ :neg (e :* i) :* B) :* y :+ (:0 :+ :0) :+ r) := B :* (z :- (t :- e :* y) :* i) :+ :1 :* (r' :- (r :- B :* (t :* i)))) refl)
          ∙ ap₂ (λ a b. a +ℚ (b +ℚ 𝟘) +ℚ N.rhs s) (ap₂ ◌*ℚ◌ (sym (blend.coef_is s)) xj) (sym (ap (λ a. a *ℚ x' k.arc) (T.gone_k.coef_0 s) ∙ ring1 ℚ-ring (x' k.arc) (λ x. :0 :* x := :0) refl));
    }

    paid : Paid N N' (j.arc ∷ k.arc ∷ []) (j.arc ∷ k.arc ∷ []) x x'
    paid =
        combo2 ℚ-ring (N.col k.arc).cost (-ℚ 𝟙) xk T.constant_is
        (ring9 ℚ-ring (N.col j.arc).cost (N.col k.arc).cost (x j.arc) (x k.arc) N.constant N'.constant (N.rhs i) j.e (inv k.e)
        (λ A B y z k k' t e i. k :+ (A :* y :+ (B :* z :+ :0)) :- (k' :+ ((:1 :* A :+ :neg (e :* i) :* B) :* y :+ (:0 :+ :0))) := B :* (z :- (t :- e :* y) :* i) :+ :neg :1 :* (k' :- (k :+ B :* t :* i))) refl)
        ∙ ap₂ (λ a b. N'.constant +ℚ (a +ℚ (b +ℚ 𝟘))) (ap₂ ◌*ℚ◌ (sym blend.cost_is) xj) (sym (ap (λ a. a *ℚ x' k.arc) T.gone_k.cost_0 ∙ ring1 ℚ-ring (x' k.arc) (λ x. :0 :* x := :0) refl))

    link : k.e *ℚ x k.arc +ℚ j.e *ℚ x j.arc ≡ N.rhs i
    link = combo2 ℚ-ring k.e (N.rhs i +ℚ -ℚ (j.e *ℚ x j.arc)) xk (mul_inv k.e T.at_k.nonzero)
        (ring6 ℚ-ring k.e j.e (x k.arc) (x j.arc) (N.rhs i) (inv k.e) (λ k j x y r i. k :* x :+ j :* y :- r := k :* (x :- (r :- j :* y) :* i) :+ (r :- j :* y) :* (k :* i :- :1)) refl)

    k-j : (z : ℚ) → x k.arc +ℚ -ℚ z ≡ j.e *ℚ k.e *ℚ (inv k.e *ℚ inv k.e) *ℚ (image (N.rhs i) j.e k.e z +ℚ -ℚ x j.arc)
    k-j z = k-by-j (N.rhs i) j.e k.e (x j.arc) (x k.arc) T.at_j.nonzero T.at_k.nonzero link z

    j-k : (z : ℚ) → image (N.rhs i) j.e k.e z +ℚ -ℚ x j.arc ≡ j.e *ℚ k.e *ℚ (inv j.e *ℚ inv j.e) *ℚ (x k.arc +ℚ -ℚ z)
    j-k z = j-by-k (N.rhs i) j.e k.e (x j.arc) (x k.arc) T.at_j.nonzero T.at_k.nonzero link z

    -- j within its new bounds: j and k within their old ones
    within-j : InBounds (N'.col j.arc) (x j.arc) → InBounds (N.col j.arc) (x j.arc)
    within-j w = go T.bounds_new
      where
        go : NewBounds (N.col j.arc) (N.col k.arc) (N'.col j.arc) (N.rhs i) j.e k.e → InBounds (N.col j.arc) (x j.arc)
        go (exchanged q el eu) = record { above = merge_l-l (x j.arc) _ _ (λ z g. w.above z (el ∙ g)); below = merge_u-l (x j.arc) _ _ (λ z g. w.below z (eu ∙ g)) }
        go (straight q el eu) = record { above = merge_l-l (x j.arc) _ _ (λ z g. w.above z (el ∙ g)); below = merge_u-l (x j.arc) _ _ (λ z g. w.below z (eu ∙ g)) }

    within-k : InBounds (N'.col j.arc) (x j.arc) → InBounds (N.col k.arc) (x k.arc)
    within-k w = go T.bounds_new
      where
        go : NewBounds (N.col j.arc) (N.col k.arc) (N'.col j.arc) (N.rhs i) j.e k.e → InBounds (N.col k.arc) (x k.arc)
        go (exchanged q el eu) = record {
          above = λ z e. up⁺ (k-j z) (times-sq⁺ (inv k.e) q) (merge_u-r (x j.arc) _ _ (λ z g. w.below z (eu ∙ g)) (image (N.rhs i) j.e k.e z) (map_o-is _ e));
          below = λ z e. down⁺ (k-j z) (times-sq⁺ (inv k.e) q) (merge_l-r (x j.arc) _ _ (λ z g. w.above z (el ∙ g)) (image (N.rhs i) j.e k.e z) (map_o-is _ e));
        }
        go (straight q el eu) = record {
          above = λ z e. up⁻ (k-j z) (times-sq⁻ (inv k.e) q) (merge_l-r (x j.arc) _ _ (λ z g. w.above z (el ∙ g)) (image (N.rhs i) j.e k.e z) (map_o-is _ e));
          below = λ z e. down⁻ (k-j z) (times-sq⁻ (inv k.e) q) (merge_u-r (x j.arc) _ _ (λ z g. w.below z (eu ∙ g)) (image (N.rhs i) j.e k.e z) (map_o-is _ e));
        }

    -- and the other way round
    within-new-j : InBounds (N.col j.arc) (x j.arc) → InBounds (N.col k.arc) (x k.arc) → InBounds (N'.col j.arc) (x j.arc)
    within-new-j wj wk = go T.bounds_new
      where
        go : NewBounds (N.col j.arc) (N.col k.arc) (N'.col j.arc) (N.rhs i) j.e k.e → InBounds (N'.col j.arc) (x j.arc)
        go (exchanged q el eu) = record {
          above = λ z e. merge_l-both (x j.arc) (N.col j.arc).lower (map_o (image (N.rhs i) j.e k.e) (N.col k.arc).upper) wj.above
              (map_o-each _ (N.col k.arc).upper (λ z. z ≤ℚ x j.arc) (λ z g. down⁺ (j-k z) (times-sq⁺ (inv j.e) q) (wk.below z g))) z (sym el ∙ e);
          below = λ z e. merge_u-both (x j.arc) (N.col j.arc).upper (map_o (image (N.rhs i) j.e k.e) (N.col k.arc).lower) wj.below
              (map_o-each _ (N.col k.arc).lower (λ z. x j.arc ≤ℚ z) (λ z g. up⁺ (j-k z) (times-sq⁺ (inv j.e) q) (wk.above z g))) z (sym eu ∙ e);
        }
        go (straight q el eu) = record {
          above = λ z e. merge_l-both (x j.arc) (N.col j.arc).lower (map_o (image (N.rhs i) j.e k.e) (N.col k.arc).lower) wj.above
              (map_o-each _ (N.col k.arc).lower (λ z. z ≤ℚ x j.arc) (λ z g. down⁻ (j-k z) (times-sq⁻ (inv j.e) q) (wk.above z g))) z (sym el ∙ e);
          below = λ z e. merge_u-both (x j.arc) (N.col j.arc).upper (map_o (image (N.rhs i) j.e k.e) (N.col k.arc).upper) wj.below
              (map_o-each _ (N.col k.arc).upper (λ z. x j.arc ≤ℚ z) (λ z g. up⁻ (j-k z) (times-sq⁻ (inv j.e) q) (wk.below z g))) z (sym eu ∙ e);
        }

  -- ---- the prices

  unseen : (N'.col j.arc).coef i ≡ 𝟘
  unseen = blend.coef_is i ∙ ap₂ (λ a b. 𝟙 *ℚ a +ℚ -ℚ (j.e *ℚ inv k.e) *ℚ b) coef-j coef-k ∙ combo ℚ-ring (-ℚ j.e) (mul_inv k.e T.at_k.nonzero) (ring3 ℚ-ring j.e k.e (inv k.e) (λ j k i. :1 :* j :+ :neg (j :* i) :* k :- :0 := :neg j :* (k :* i :- :1)) refl)

  module _ (p : ℕ → ℚ) where
    dj : ℚ → ℚ
    dj π = reduced N.rows (N.col j.arc) (upd p i π)

    dk : ℚ → ℚ
    dk π = reduced N.rows (N.col k.arc) (upd p i π)

    d' : ℚ
    d' = reduced N.rows (N'.col j.arc) p

    -- one identity holds the three reduced costs together, whatever the node's price
    triangle : (π : ℚ) → 𝟙 *ℚ dj π +ℚ -ℚ (j.e *ℚ inv k.e) *ℚ dk π ≡ d'
    unfolding dj dk d'
    triangle π = sym (reduced-blend N.rows (upd p i π) (N'.col j.arc) (N.col j.arc) (N.col k.arc) 𝟙 (-ℚ (j.e *ℚ inv k.e)) blend) ∙ reduced-unseen N.rows (N'.col j.arc) p i π unseen

    dk-zero : dk (quote N k p) ≡ 𝟘
    unfolding dk
    dk-zero = spoke-reduced T.at_k T.listed_i p (quote N k p) ∙ ring2 ℚ-ring k.e (quote N k p) (λ e q. e :* (q :- q) := :0) refl

    dj-zero : dj (quote N j p) ≡ 𝟘
    unfolding dj
    dj-zero = spoke-reduced T.at_j T.listed_i p (quote N j p) ∙ ring2 ℚ-ring j.e (quote N j p) (λ e q. e :* (q :- q) := :0) refl

    -- j's reduced cost at the first price
    d₁ : ℚ
    d₁ = (N.col j.arc).cost +ℚ -ℚ (j.o *ℚ p j.far) +ℚ -ℚ (j.e *ℚ quote N k p)

    dj-first : dj (quote N k p) ≡ d₁
    unfolding dj d₁
    dj-first = ends-reduced-at N.rows (N.col j.arc) i j.far j.e j.o T.at_j.ends T.at_j.other T.listed_i p (quote N k p)

    d₁-is : d₁ ≡ d'
    d₁-is = sym dj-first ∙ combo2 ℚ-ring 𝟙 (j.e *ℚ inv k.e) (triangle (quote N k p)) dk-zero
        (ring4 ℚ-ring (dj (quote N k p)) (dk (quote N k p)) d' (j.e *ℚ inv k.e) (λ a b d q. a :- d := :1 :* (:1 :* a :+ :neg q :* b :- d) :+ q :* (b :- :0)) refl)

    -- k's reduced cost at the second price
    dk-second : dk (quote N j p) +ℚ -ℚ 𝟘 ≡ j.e *ℚ k.e *ℚ (inv j.e *ℚ inv j.e) *ℚ (𝟘 +ℚ -ℚ d')
    dk-second = combo3 ℚ-ring (-ℚ (b *ℚ (j.e *ℚ inv j.e) *ℚ (j.e *ℚ inv j.e))) (-ℚ (b *ℚ (j.e *ℚ inv j.e +ℚ 𝟙))) (-ℚ (j.e *ℚ inv j.e *ℚ k.e *ℚ inv j.e)) (mul_inv k.e T.at_k.nonzero) (mul_inv j.e T.at_j.nonzero) short
        (ring6 ℚ-ring j.e k.e (inv j.e) (inv k.e) b d' (λ j k h i b d. b :- :0 :- j :* k :* (h :* h) :* (:0 :- d)
        := :neg (b :* (j :* h) :* (j :* h)) :* (k :* i :- :1) :+ :neg (b :* (j :* h :+ :1)) :* (j :* h :- :1) :+ :neg (j :* h :* k :* h) :* (:neg (j :* i) :* b :- d)) refl)
      where
        b : ℚ
        b = dk (quote N j p)

        short : -ℚ (j.e *ℚ inv k.e) *ℚ b ≡ d'
        short = combo2 ℚ-ring 𝟙 (-ℚ 𝟙) (triangle (quote N j p)) dj-zero
            (ring4 ℚ-ring (dj (quote N j p)) b d' (j.e *ℚ inv k.e) (λ a b d q. :neg q :* b :- d := :1 :* (:1 :* a :+ :neg q :* b :- d) :+ :neg :1 :* (a :- :0)) refl)

    -- the second price: j stands at a bound that is not its own, so k stands at the bound that it came from
    module _ (x x' : ℕ → ℚ) (xk : x k.arc ≡ (N.rhs i +ℚ -ℚ (j.e *ℚ x j.arc)) *ℚ inv k.e) (off : (c : ℕ) → ¬ (c ≡ k.arc) → x c ≡ x' c)
        (fit : Fits (N'.col j.arc).lower (N'.col j.arc).upper (x j.arc) d') (bad : ¬ (Fits (N.col j.arc).lower (N.col j.arc).upper (x j.arc) d')) where
      at_k : (o : Option ℚ) → map_o (image (N.rhs i) j.e k.e) o ≡ some (x j.arc) → o ≡ some (x k.arc)
      at_k o e = at_bound (N.rhs i) j.e k.e (x j.arc) (x k.arc) T.at_j.nonzero T.at_k.nonzero (link x x' xk off) o e

      from-lower : (o : Option ℚ) → (N'.col j.arc).lower ≡ merge_l (N.col j.arc).lower (map_o (image (N.rhs i) j.e k.e) o) → 𝟘 <ℚ d' → o ≡ some (x k.arc)
      from-lower o el h = go (merge_l-or (N.col j.arc).lower (map_o (image (N.rhs i) j.e k.e) o) (x j.arc) (sym el ∙ fit.at_lower h))
        where
          go : ((N.col j.arc).lower ≡ some (x j.arc)) ⊎ (map_o (image (N.rhs i) j.e k.e) o ≡ some (x j.arc)) → o ≡ some (x k.arc)
          go (inl a) = absurd (bad (record { at_lower = λ _. a; at_upper = λ g. absurd (g (lt→le h)) }))
          go (inr b) = at_k o b

      from-upper : (o : Option ℚ) → (N'.col j.arc).upper ≡ merge_u (N.col j.arc).upper (map_o (image (N.rhs i) j.e k.e) o) → d' <ℚ 𝟘 → o ≡ some (x k.arc)
      from-upper o eu h = go (merge_u-or (N.col j.arc).upper (map_o (image (N.rhs i) j.e k.e) o) (x j.arc) (sym eu ∙ fit.at_upper h))
        where
          go : ((N.col j.arc).upper ≡ some (x j.arc)) ⊎ (map_o (image (N.rhs i) j.e k.e) o ≡ some (x j.arc)) → o ≡ some (x k.arc)
          go (inl a) = absurd (bad (record { at_lower = λ g. absurd (g (lt→le h)); at_upper = λ _. a }))
          go (inr b) = at_k o b

      fits-k : Fits (N.col k.arc).lower (N.col k.arc).upper (x k.arc) (dk (quote N j p))
      fits-k = go T.bounds_new
        where
          go : NewBounds (N.col j.arc) (N.col k.arc) (N'.col j.arc) (N.rhs i) j.e k.e → Fits (N.col k.arc).lower (N.col k.arc).upper (x k.arc) (dk (quote N j p))
          go (exchanged q el eu) = record {
            at_lower = λ h. from-upper (N.col k.arc).lower eu (λ g. h (down⁺ dk-second (times-sq⁺ (inv j.e) q) g));
            at_upper = λ h. from-lower (N.col k.arc).upper el (λ g. h (up⁺ dk-second (times-sq⁺ (inv j.e) q) g));
          }
          go (straight q el eu) = record {
            at_lower = λ h. from-lower (N.col k.arc).lower el (λ g. h (down⁻ dk-second (times-sq⁻ (inv j.e) q) g));
            at_upper = λ h. from-upper (N.col k.arc).upper eu (λ g. h (up⁻ dk-second (times-sq⁻ (inv j.e) q) g));
          }

  -- ---- the balance at the node, read forwards

  forced : (x : ℕ → ℚ) → Feasible N x → x k.arc ≡ (N.rhs i +ℚ -ℚ (j.e *ℚ x j.arc)) *ℚ inv k.e
  unfolding brings
  forced x f = combo2 ℚ-ring (inv k.e) (-ℚ x k.arc) at_i (mul_inv k.e T.at_k.nonzero)
      (ring6 ℚ-ring (x k.arc) (x j.arc) j.e k.e (N.rhs i) (inv k.e) (λ x y j k r i. x :- (r :- j :* y) :* i := i :* (j :* y :+ (k :* x :+ :0) :- r) :+ :neg x :* (k :* i :- :1)) refl)
    where
      at_i : j.e *ℚ x j.arc +ℚ (k.e *ℚ x k.arc +ℚ 𝟘) ≡ N.rhs i
      at_i =
          ap₂ (λ a b. a *ℚ x j.arc +ℚ (b *ℚ x k.arc +ℚ 𝟘)) (sym coef-j) (sym coef-k)
          ∙ sym (sum-at-named (j.arc ∷ k.arc ∷ []) (λ c. (N.col c).coef i *ℚ x c) frame.distinct (λ c m. all-mem (λ c. Once c N.cols) (j.arc ∷ k.arc ∷ []) frame.listed c m)
          (λ c m a. ap (λ t. t *ℚ x c) (T.alone c m (apart a) (apart (further a))) ∙ ring1 ℚ-ring (x c) (λ x. :0 :* x := :0) refl))
          ∙ f.balance i (once-mem T.listed_i)

  pub two-sound : SoundStep N N' (two_back_lem N i j k)
  unfolding two-price choose dj dk d₁ d'
  two-sound = record {
    solved = λ s h. solved s h;
    same_value = λ s. frame-value frame (two-flow N i j k s.flow) s.flow (matched (back s) s.flow (at_k s) (off s)) (paid (back s) s.flow (at_k s) (off s));
    keeps_flow = λ x f. (upd x k.arc 𝟘, keeps x f);
  }
    where
      back : Pair → ℕ → ℚ
      back s = two-flow N i j k s.flow

      off : (s : Pair) (c : ℕ) → ¬ (c ≡ k.arc) → back s c ≡ s.flow c
      off s c n = upd_other s.flow k.arc ((N.rhs i +ℚ -ℚ (j.e *ℚ s.flow j.arc)) *ℚ inv k.e) c (λ e. n (sym e))

      at_k : (s : Pair) → back s k.arc ≡ (N.rhs i +ℚ -ℚ (j.e *ℚ back s j.arc)) *ℚ inv k.e
      at_k s = upd_same s.flow k.arc ((N.rhs i +ℚ -ℚ (j.e *ℚ s.flow j.arc)) *ℚ inv k.e) ∙ ap (λ t. (N.rhs i +ℚ -ℚ (j.e *ℚ t)) *ℚ inv k.e) (sym (off s j.arc T.different))

      keeps : (x : ℕ → ℚ) → Feasible N x → Feasible N' (upd x k.arc 𝟘)
      keeps x f = frame_on frame x (upd x k.arc 𝟘) (matched x (upd x k.arc 𝟘) (forced x f) o) (
        subst (InBounds (N'.col j.arc)) (o j.arc T.different) (within-new-j x (upd x k.arc 𝟘) (forced x f) o (f.within j.arc (once-mem T.at_j.listed)) (f.within k.arc (once-mem T.at_k.listed))),
        (subst (InBounds (N'.col k.arc)) (sym (upd_same x k.arc 𝟘)) (gone-within (N'.col k.arc) T.gone_k), tt),
      ) f
        where
          o : (c : ℕ) → ¬ (c ≡ k.arc) → x c ≡ upd x k.arc 𝟘 c
          o c n = sym (upd_other x k.arc 𝟘 c (λ e. n (sym e)))

      solved : (s : Pair) → Solved N' s → Solved N (two_back_lem N i j k s)
      solved s h = frame-solved frame (back s) s.flow (upd p i (two-price N j k s.flow p)) p (matched (back s) s.flow (at_k s) (off s))
          (within-j (back s) s.flow (at_k s) (off s) w, (within-k (back s) s.flow (at_k s) (off s) w, tt))
          (agree-upd frame p i (two-price N j k s.flow p) (λ c m a. T.alone c m (apart a) (apart (further a))))
          (go (fits-dec (N.col j.arc).lower (N.col j.arc).upper (s.flow j.arc) (d₁ p))) h
        where
          p : ℕ → ℚ
          p = s.price

          xj : back s j.arc ≡ s.flow j.arc
          xj = off s j.arc T.different

          w : InBounds (N'.col j.arc) (back s j.arc)
          w = subst (InBounds (N'.col j.arc)) (sym xj) (within_new frame s.flow h.feasible j.arc (Memᴰ.head refl))

          fit : Fits (N'.col j.arc).lower (N'.col j.arc).upper (back s j.arc) (d' p)
          fit = subst (λ t. PriceRule N.rows (N'.col j.arc) t p) (sym xj) (rule-new frame s h j.arc (Memᴰ.head refl))

          both : ℚ → Type 0
          both π = PriceRule N.rows (N.col j.arc) (back s j.arc) (upd p i π) × (PriceRule N.rows (N.col k.arc) (back s k.arc) (upd p i π) × Unit {0})

          go : (d : Dec (Fits (N.col j.arc).lower (N.col j.arc).upper (s.flow j.arc) (d₁ p))) → both (choose d (quote N k p) (quote N j p))
          go (yes f) = (rw (dj-first p, xj) f, (fits-zero (N.col k.arc).lower (N.col k.arc).upper (back s k.arc) (dk p (quote N k p)) (dk-zero p), tt))
          go (no n) = (
            fits-zero (N.col j.arc).lower (N.col j.arc).upper (back s j.arc) (dj p (quote N j p)) (dj-zero p),
            (fits-k p (back s) s.flow (at_k s) (off s) fit (λ g. n (rw (d₁-is p, ← xj) g)), tt),
          )
