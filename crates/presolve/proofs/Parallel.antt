-- Rule 7, parallel arcs: arc k is g times arc j, in multipliers and cost. One arc stands for both, under j's number: its bounds are the sums of j's and of the ends of k's image.
-- No lower bound is above the upper one, of either arc: rule 1 comes first and would have answered.
use mathlib.Core.Path.{◌≡◌, refl, sym, ◌∙◌, ap, ap₂, subst}
use mathlib.Core.Logic.{⊎_elim}
use mathlib.Core.List.{List, [], ◌∷◌, Memᴰ}
use mathlib.Core.Option.{Option, none, some}
use Prim.Native.Nat.{ℕ}
use Rattle.algebra.proofs.Ring.{mul-zero, combo, combo2, combo3}
use Rattle.algebra.proofs.Solver.{◌:+◌, ◌:*◌, ◌:-◌, :neg, :0, :1, ◌:=◌, ring1, ring2, ring3, ring4, ring8}
use Rattle.algebra.specs.Rat.{ℚ, ◌+ℚ◌, ◌*ℚ◌, -ℚ◌, ◌≤ℚ◌, 0_ℚ as 𝟘, 1_ℚ as 𝟙, inv_ℚ as inv, ◌<ℚ◌}
use Rattle.algebra.proofs.Rat.{ℚ-ring, mul_ℚ-inv as mul_inv, ≤ℚ-antisym as le_antisym}
use Rattle.algebra.proofs.Order.{lt→le, le-by, le_of_eq, sub-nn, add-mono, mul_mono, mul-anti, pos-ne, neg-ne}
use Rattle.algebra.proofs.Inverse.{mul-cancel, le-cancel}
use Rattle.algebra.proofs.Sum.{Absent, Once}
use Rattle.algebra.specs.Sum.{only}
use Rattle.presolve.proofs.Named.{once-mem, puts, puts-at, puts-off}
use Rattle.presolve.proofs.Bounds.{some_inj, none-some, map_o, map_o-is, map_o-some, map_o-each, merge_u, capped_is, merge_u-or, merge_u-l, merge_u-r}
use Rattle.presolve.specs.Bounds.{Fits, Within}
use Rattle.presolve.specs.LP.{LP, Column, Pair, Feasible, Solved, InBounds, worth, reduced}
use Rattle.presolve.specs.Net.{Arc, touch}
use Rattle.presolve.proofs.Step.{SoundStep}
use Rattle.presolve.proofs.Frame.{Frame, two-frame, Matched, Paid, frame-value, frame_on, frame-solved, agree_same, rule-new, within_new}
pub use Rattle.presolve.proofs.Share.{own-share}
use Rattle.presolve.proofs.Removed.{Gone, gone-within}
use Rattle.presolve.proofs.Price.{reduced-blend, only-scale}

-- ---- the sum of two bounds, none where either is absent

abbrev pub add_o : Option ℚ → Option ℚ → Option ℚ
add_o none q = none
add_o (some a) none = none
add_o (some a) (some b) = some (a +ℚ b)

add_o-some : (p q : Option ℚ) {t : ℚ} → add_o p q ≡ some t → (a b : ℚ) × (p ≡ some a) × (q ≡ some b) × (a +ℚ b ≡ t)
add_o-some none q e = absurd (none-some e)
add_o-some (some a) none e = absurd (none-some e)
add_o-some (some a) (some b) e = (a, b, refl, refl, some_inj e)

-- ---- the image

-- no lower bound above the upper one
abbrev pub Room : Option ℚ → Option ℚ → Type 0
Room l u = (a b : ℚ) → l ≡ some a → u ≡ some b → a ≤ℚ b

-- lo and hi bound g times the flow of k
pub record Image (k : Column) (g : ℚ) (lo hi : Option ℚ) : Type 0 where
  nonzero : ¬ (g ≡ 𝟘)
  into : (x : ℚ) → InBounds k x → Within lo hi (g *ℚ x)
  out : (x : ℚ) → Within lo hi (g *ℚ x) → InBounds k x
  fits : (x d : ℚ) → Fits lo hi (g *ℚ x) d → Fits k.lower k.upper x (g *ℚ d)
  room : Room k.lower k.upper → Room lo hi

-- a negative factor may go, and turns the order
le-turn : {g a b : ℚ} → g <ℚ 𝟘 → g *ℚ a ≤ℚ g *ℚ b → b ≤ℚ a
le-turn {g} {a} {b} h e = le-cancel {k = -ℚ g} (λ z. h (le-by (sub-nn z) (ring1 ℚ-ring g (λ g. g :- :0 := :0 :- :neg g) refl))) (le-by (sub-nn e) (ring3 ℚ-ring g a b (λ g a b. :neg g :* a :- :neg g :* b := g :* b :- g :* a) refl))

-- a bound times g; at the image's end k stands at that bound
abbrev pub times_o : ℚ → Option ℚ → Option ℚ
times_o g o = map_o (λ v. g *ℚ v) o

at-end : {g : ℚ} → ¬ (g ≡ 𝟘) → (o : Option ℚ) (x : ℚ) → times_o g o ≡ some (g *ℚ x) → o ≡ some x
at-end {g} n o x e = let t = map_o-some (λ v. g *ℚ v) o e in t.1 ∙ ap some (mul-cancel n t.2)

module _ {k : Column} {g : ℚ} where
  -- k's bounds times g
  pub straight : 𝟘 <ℚ g → Image k g (times_o g k.lower) (times_o g k.upper)
  straight h = record {
    nonzero = pos-ne h;
    into = λ x w. record { above = map_o-each _ k.lower (λ t. t ≤ℚ g *ℚ x) (λ z e. mul_mono (lt→le h) (w.above z e)); below = map_o-each _ k.upper (λ t. g *ℚ x ≤ℚ t) (λ z e. mul_mono (lt→le h) (w.below z e)) };
    out = λ x w. record { above = λ z e. le-cancel h (w.above _ (map_o-is _ e)); below = λ z e. le-cancel h (w.below _ (map_o-is _ e)) };
    fits = λ x d f. record { at_lower = λ q. at-end (pos-ne h) k.lower x (f.at_lower (λ n. q (rw (mul-zero ℚ-ring g) at (mul_mono (lt→le h) n)))); at_upper = λ q. at-end (pos-ne h) k.upper x (f.at_upper (λ n. q (rw (mul-zero ℚ-ring g) at (mul_mono (lt→le h) n)))) };
    room = λ r a b p q. map_o-each _ k.lower (λ a. a ≤ℚ b) (λ y e. map_o-each _ k.upper (λ b. g *ℚ y ≤ℚ b) (λ z f. mul_mono (lt→le h) (r y z e f)) b q) a p;
  }

  -- exchanged if g is negative
  pub exchanged : g <ℚ 𝟘 → Image k g (times_o g k.upper) (times_o g k.lower)
  exchanged h = record {
    nonzero = neg-ne h;
    into = λ x w. record { above = map_o-each _ k.upper (λ t. t ≤ℚ g *ℚ x) (λ z e. mul-anti (lt→le h) (w.below z e)); below = map_o-each _ k.lower (λ t. g *ℚ x ≤ℚ t) (λ z e. mul-anti (lt→le h) (w.above z e)) };
    out = λ x w. record { above = λ z e. le-turn h (w.below _ (map_o-is _ e)); below = λ z e. le-turn h (w.above _ (map_o-is _ e)) };
    fits = λ x d f. record { at_lower = λ q. at-end (neg-ne h) k.lower x (f.at_upper (λ n. q (rw (mul-zero ℚ-ring g) at (mul-anti (lt→le h) n)))); at_upper = λ q. at-end (neg-ne h) k.upper x (f.at_lower (λ n. q (rw (mul-zero ℚ-ring g) at (mul-anti (lt→le h) n)))) };
    room = λ r a b p q. map_o-each _ k.upper (λ a. a ≤ℚ b) (λ z f. map_o-each _ k.lower (λ b. g *ℚ z ≤ℚ b) (λ y e. mul-anti (lt→le h) (r y z e f)) b q) a p;
  }

-- ---- the flow w of the arc that stands for both: j's share is as large as its upper bound and the image's lower end let it

-- two that add up to what their bounds add up to stand at them
tight : {a b c d : ℚ} → a ≤ℚ c → b ≤ℚ d → a +ℚ b ≡ c +ℚ d → a ≡ c
tight {a} {b} {c} {d} h k e = le_antisym a c h (le-by (sub-nn k) (combo ℚ-ring 𝟙 e (ring4 ℚ-ring a b c d (λ a b c d. a :- c :- (d :- b) := :1 :* (a :+ b :- (c :+ d))) refl)))

both_at : (p q : Option ℚ) {y z : ℚ} → add_o p q ≡ some (y +ℚ z) → ((a b : ℚ) → p ≡ some a → q ≡ some b → a +ℚ b ≡ y +ℚ z → a ≡ y) → (p ≡ some y) × (q ≡ some z)
both_at p q {y} {z} e h =
    let t = add_o-some p q e in
    let s = h t.0 t.1 t.2 t.3 t.4 in
    (t.2 ∙ ap some s, t.3 ∙ ap some (combo2 ℚ-ring 𝟙 (-ℚ 𝟙) t.4 s (ring4 ℚ-ring t.0 t.1 y z (λ a b y z. b :- z := :1 :* (a :+ b :- (y :+ z)) :+ :neg :1 :* (a :- y)) refl)))

module _ {l u lo hi : Option ℚ} where
  sum-within : {y z : ℚ} → Within l u y → Within lo hi z → Within (add_o l lo) (add_o u hi) (y +ℚ z)
  sum-within {y} {z} v w = record {
    above = λ s e. let t = add_o-some l lo e in subst (λ s. s ≤ℚ y +ℚ z) t.4 (add-mono (v.above _ t.2) (w.above _ t.3));
    below = λ s e. let t = add_o-some u hi e in subst (λ s. y +ℚ z ≤ℚ s) t.4 (add-mono (v.below _ t.2) (w.below _ t.3));
  }

  -- a reduced cost that fits the sum fits both
  both-fit : {y z d : ℚ} → Within l u y → Within lo hi z → Fits (add_o l lo) (add_o u hi) (y +ℚ z) d → Fits l u y d × Fits lo hi z d
  both-fit {y} {z} {d} v w f = (record { at_lower = λ q. (low q).0; at_upper = λ q. (high q).0 }, record { at_lower = λ q. (low q).1; at_upper = λ q. (high q).1 })
    where
      low : 𝟘 <ℚ d → (l ≡ some y) × (lo ≡ some z)
      low q = both_at l lo (f.at_lower q) (λ a b s t e. tight (v.above a s) (w.above b t) e)

      high : d <ℚ 𝟘 → (u ≡ some y) × (hi ≡ some z)
      high q = both_at u hi (f.at_upper q) (λ a b s t e. sym (tight (v.below a s) (w.below b t) (sym e)))

  -- both shares are within bounds
  module _ {L w y : ℚ} (e : lo ≡ some L) (wn : Within (add_o l lo) (add_o u hi) w) (rj : Room l u) (rk : Room lo hi) (is : merge_u u (some (w +ℚ -ℚ L)) ≡ some y) where
    own-within : Within l u y
    own-within = record {
      above = λ v f. ⊎_elim (λ a. rj v y f a) (λ b. le-by (sub-nn (wn.above (v +ℚ L) (ap₂ add_o f e))) (combo ℚ-ring (-ℚ 𝟙) (some_inj b) (ring4 ℚ-ring w y v L (λ w y v L. y :- v :- (w :- (v :+ L)) := :neg :1 :* (w :- L :- y)) refl))) (merge_u-or u _ y is);
      below = merge_u-l y u _ (λ v f. le_of_eq (some_inj (sym is ∙ f)));
    }

    rest-within : Within lo hi (w +ℚ -ℚ y)
    rest-within = record {
      above = λ v f. le-by (sub-nn (merge_u-r y u _ (λ v f. le_of_eq (some_inj (sym is ∙ f))) (w +ℚ -ℚ L) refl)) (combo ℚ-ring 𝟙 (some_inj (sym e ∙ f)) (ring4 ℚ-ring w y v L (λ w y v L. w :- y :- v :- (w :- L :- y) := :1 :* (L :- v)) refl));
      below = λ v f. ⊎_elim (λ a. le-by (sub-nn (wn.below (y +ℚ v) (ap₂ add_o a f))) (ring3 ℚ-ring w y v (λ w y v. v :- (w :- y) := y :+ v :- w) refl))
          (λ b. le-by (sub-nn (rk L v e f)) (combo ℚ-ring (-ℚ 𝟙) (some_inj b) (ring4 ℚ-ring w y v L (λ w y v L. v :- (w :- y) :- (v :- L) := :neg :1 :* (w :- L :- y)) refl))) (merge_u-or u _ y is);
    }

-- ---- the step

pub record ParallelArcs (N N' : LP) (j k : ℕ) (g L : ℚ) (lo hi : Option ℚ) : Type 0 where
  pub listed_j : Once j N.cols
  pub listed_k : Once k N.cols
  pub different : ¬ (j ≡ k)
  pub coef_g : (s : ℕ) → (N.col k).coef s ≡ g *ℚ (N.col j).coef s
  pub cost_g : (N.col k).cost ≡ g *ℚ (N.col j).cost
  pub image : Image (N.col k) g lo hi
  pub low-end : lo ≡ some L
  pub room_j : Room (N.col j).lower (N.col j).upper
  pub room_k : Room (N.col k).lower (N.col k).upper
  -- the reduced network
  pub rows_same : N'.rows ≡ N.rows
  pub cols_same : N'.cols ≡ N.cols
  pub same : (c : ℕ) → Memᴰ c N.cols → ¬ (c ≡ j) → ¬ (c ≡ k) → N'.col c ≡ N.col c
  pub new_j : N'.col j ≡ record { coef = (N.col j).coef; cost = (N.col j).cost; lower = add_o (N.col j).lower lo; upper = add_o (N.col j).upper hi }
  pub gone_k : Gone (N'.col k)
  pub rhs_is : (s : ℕ) → Memᴰ s N.rows → N'.rhs s ≡ N.rhs s
  pub constant_is : N'.constant ≡ N.constant

-- postsolve: j takes its own share, and k the rest
abbrev pub parallel-flow : LP → (j k : ℕ) (g L : ℚ) → (ℕ → ℚ) → ℕ → ℚ
parallel-flow N j k g L x = puts (j ∷ k ∷ []) (own-share N j L x ∷ (x j +ℚ -ℚ own-share N j L x) *ℚ inv g ∷ []) x

abbrev pub parallel-back : LP → (j k : ℕ) (g L : ℚ) → Pair → Pair
parallel-back N j k g L s = record { flow = parallel-flow N j k g L s.flow; price = s.price }

module _ {N N' : LP} {j k : ℕ} {g L : ℚ} {lo hi : Option ℚ} (P : ParallelArcs N N' j k g L lo hi) where
  frame : Frame N N' (j ∷ k ∷ []) (j ∷ k ∷ [])
  frame = two-frame P.rows_same P.cols_same P.different P.listed_j P.listed_k P.same

  -- the flow of j in N' is that of j and g times that of k
  module _ (x x' : ℕ → ℚ) (e : x j +ℚ g *ℚ x k ≡ x' j) where
    -- what both bring to a row, or cost
    both : (a b b' : ℚ) → b ≡ g *ℚ a → b' ≡ 𝟘 → a *ℚ x j +ℚ (b *ℚ x k +ℚ 𝟘) ≡ a *ℚ x' j +ℚ (b' *ℚ x' k +ℚ 𝟘)
    both a b b' p q = combo3 ℚ-ring (x k) (-ℚ x' k) a p q e
        (ring8 ℚ-ring a b b' g (x j) (x k) (x' j) (x' k) (λ a b c g y z w v. a :* y :+ (b :* z :+ :0) :- (a :* w :+ (c :* v :+ :0)) := z :* (b :- g :* a) :+ :neg v :* (c :- :0) :+ a :* (y :+ g :* z :- w)) refl)

    matched : ((c : ℕ) → Absent c (j ∷ k ∷ []) → x c ≡ x' c) → Matched N N' (j ∷ k ∷ []) (j ∷ k ∷ []) x x'
    matched off = record { off = off; row = λ s m. rw P.new_j (ap₂ ◌+ℚ◌ (both _ _ _ (P.coef_g s) (P.gone_k.coef_0 s)) (P.rhs_is s m)) }

    paid : Paid N N' (j ∷ k ∷ []) (j ∷ k ∷ []) x x'
    paid = rw P.new_j (ap₂ ◌+ℚ◌ (sym P.constant_is) (both _ _ _ P.cost_g P.gone_k.cost_0))

  -- the reduced cost of k
  cost-k : (p : ℕ → ℚ) → reduced N.rows (N.col k) p ≡ g *ℚ reduced N.rows (N.col j) p
  cost-k p = reduced-blend N.rows p (N.col k) (N.col j) (N.col j) g 𝟘 (record { coef_is = λ s. P.coef_g s ∙ alone ((N.col j).coef s); cost_is = P.cost_g ∙ alone (N.col j).cost }) ∙ sym (alone (reduced N.rows (N.col j) p))
    where
      alone : (a : ℚ) → g *ℚ a ≡ g *ℚ a +ℚ 𝟘 *ℚ a
      alone a = ring2 ℚ-ring g a (λ g a. g :* a := g :* a :+ :0 :* a) refl

  -- ---- back

  module _ (x' : ℕ → ℚ) where
    abbrev x : ℕ → ℚ
    x = parallel-flow N j k g L x'

    abbrev y : ℚ
    y = own-share N j L x'

    abbrev shares : List ℚ
    shares = y ∷ (x' j +ℚ -ℚ y) *ℚ inv g ∷ []

    own : x j ≡ y
    own = (puts-at (j ∷ k ∷ []) shares x' frame.distinct).0

    rest : g *ℚ x k ≡ x' j +ℚ -ℚ y
    rest = ap (λ t. g *ℚ t) (puts-at (j ∷ k ∷ []) shares x' frame.distinct).1.0 ∙ combo ℚ-ring (x' j +ℚ -ℚ y) (mul_inv g P.image.nonzero) (ring3 ℚ-ring g (x' j +ℚ -ℚ y) (inv g) (λ g w i. g :* (w :* i) :- w := w :* (g :* i :- :1)) refl)

    link : x j +ℚ g *ℚ x k ≡ x' j
    link = ap₂ ◌+ℚ◌ own rest ∙ ring2 ℚ-ring y (x' j) (λ y w. y :+ (w :- y) := w) refl

    pairs : Matched N N' (j ∷ k ∷ []) (j ∷ k ∷ []) x x'
    pairs = matched x x' link (puts-off (j ∷ k ∷ []) shares x')

  solved : (s : Pair) → Solved N' s → Solved N (parallel-back N j k g L s)
  unfolding worth
  solved s h =
      let w = rw P.new_j at (within_new frame s.flow h.feasible j (Memᴰ.head refl)) in
      let is = capped_is (N.col j).upper (s.flow j +ℚ -ℚ L) in
      let rk = P.image.room P.room_k in
      let vj : Within (N.col j).lower (N.col j).upper (x s.flow j) = rw (own s.flow) (own-within P.low-end w P.room_j rk is) in
      let vk : Within lo hi (g *ℚ x s.flow k) = rw (rest s.flow) (rest-within P.low-end w P.room_j rk is) in
      let f = both-fit {d = reduced N.rows (N.col j) s.price} vj vk (rw (link s.flow) (rw P.new_j at (rule-new frame s h j (Memᴰ.head refl)))) in
      frame-solved frame (x s.flow) s.flow s.price s.price (pairs s.flow) (vj, (P.image.out _ vk, tt)) (agree_same frame s.price) (f.0, (rw (cost-k s.price) (P.image.fits _ _ f.1), tt)) h

  -- ---- on

  abbrev sums : (ℕ → ℚ) → List ℚ
  sums x = (x j +ℚ g *ℚ x k) ∷ 𝟘 ∷ []

  keeps : (x : ℕ → ℚ) → Feasible N x → Feasible N' (puts (j ∷ k ∷ []) (sums x) x)
  keeps x f =
      let r = puts-at (j ∷ k ∷ []) (sums x) x frame.distinct in
      let within : (c : ℕ) → Once c N.cols → InBounds (N.col c) (x c) = λ c o. f.within c (once-mem o) in
      frame_on frame x _ (matched x _ (sym r.0) (λ c a. sym (puts-off (j ∷ k ∷ []) (sums x) x c a))) (rw (r.0, P.new_j) (sum-within (within j P.listed_j) (P.image.into _ (within k P.listed_k))), (rw r.1.0 (gone-within (N'.col k) P.gone_k), tt)) f

  pub parallel-sound : SoundStep N N' (parallel-back N j k g L)
  parallel-sound = record {
    solved = solved;
    same_value = λ s. frame-value frame (x s.flow) s.flow (pairs s.flow) (paid (x s.flow) s.flow (link s.flow));
    keeps_flow = λ x f. (puts (j ∷ k ∷ []) (sums x) x, keeps x f);
  }

-- the multipliers of an arc that is g times another
pub touch-times : (e f : Arc) (g : ℚ) → f.from ≡ e.from → f.to ≡ e.to → f.a ≡ g *ℚ e.a → f.b ≡ g *ℚ e.b → (s : ℕ) → touch f s ≡ g *ℚ touch e s
touch-times e f g qf qt qa qb s = rw (qf, qt, qa, qb, only-scale e.from g e.a s, only-scale e.to g e.b s) (ring3 ℚ-ring g (only e.from e.a s) (only e.to e.b s) (λ g u v. g :* u :+ g :* v := g :* (u :+ v)) refl)
