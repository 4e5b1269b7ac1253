-- Rule 4, costly arc (Proposition 1): arc n from f to t costs more than two root arcs, one at each of its ends and both without an upper bound, that do the same. It is taken out at its lower bound l.
-- That l is not above the upper bound is asked: rule 1 comes first and would have answered.
use mathlib.Core.Path.{◌≡◌, refl, sym, ◌∙◌, ap, ap₂, subst}
use mathlib.Core.List.{List, [], ◌∷◌, Memᴰ}
use mathlib.Core.Option.{none, some}
use Prim.Native.Nat.{ℕ}
use Rattle.algebra.proofs.Ring.{combo, combo2}
use Rattle.algebra.proofs.Solver.{◌:+◌, ◌:*◌, ◌:-◌, :0, :1, ◌:=◌, ring2, ring10, ring11}
use Rattle.algebra.specs.Rat.{ℚ, ◌+ℚ◌, ◌*ℚ◌, -ℚ◌, ◌≤ℚ◌, 0_ℚ as 𝟘, 1_ℚ as 𝟙, inv_ℚ as inv, ◌<ℚ◌}
use Rattle.algebra.proofs.Rat.{ℚ-ring, ≤ℚ-trans as le_trans}
use Rattle.algebra.proofs.Order.{lt→le, le_of_eq, le-by, sub-nn, add-nn, mul_nn'}
use Rattle.algebra.proofs.Sum.{Absent, Once}
use Rattle.algebra.specs.Sum.{sum, only, upd}
use Rattle.presolve.proofs.Named.{Distinct, cons, apart, further, once-mem, perm-refl, puts, puts-at, puts-off}
use Rattle.presolve.proofs.Bounds.{some_inj, none-some, fits-nn, fits-above}
use Rattle.presolve.specs.LP.{LP, Column, Pair, Feasible, Solved, InBounds, PriceRule, worth, reduced}
use Rattle.presolve.proofs.Step.{SoundStep}
use Rattle.presolve.proofs.Frame.{Frame, frame_on, agree_same}
use Rattle.presolve.proofs.Price.{Blend, reduced-blend, Ends, only-share}
use Rattle.presolve.proofs.Removed.{Removed, gone-within, frame, removed-value, removed-solved}

-- a root arc at row i, with the multiplier e and no upper bound
pub record FreeRoot (N : LP) (r i : ℕ) (e : ℚ) : Type 0 where
  pub listed : Once r N.cols
  pub end : (s : ℕ) → (N.col r).coef s ≡ only i e s
  pub nonzero : ¬ (e ≡ 𝟘)
  pub free : (N.col r).upper ≡ none

pub record CostlyArc (N N' : LP) (n r₁ r₂ f t : ℕ) (a b a₁ a₂ l : ℚ) : Type 0 where
  pub ends : Ends (N.col n) f a t b
  pub root₁ : FreeRoot N r₁ f a₁
  pub root₂ : FreeRoot N r₂ t a₂
  pub different : Distinct (n ∷ r₁ ∷ r₂ ∷ [])
  pub rate₁ : 𝟘 <ℚ a *ℚ inv a₁
  pub rate₂ : 𝟘 <ℚ b *ℚ inv a₂
  pub costly : (N.col r₁).cost *ℚ a *ℚ inv a₁ +ℚ (N.col r₂).cost *ℚ b *ℚ inv a₂ <ℚ (N.col n).cost
  pub lower_is : (N.col n).lower ≡ some l
  pub room : (u : ℚ) → (N.col n).upper ≡ some u → l ≤ℚ u
  pub removed : Removed N N' n l

-- postsolve: the flow l, prices as they are
abbrev pub costly-back : ℕ → ℚ → Pair → Pair
costly-back n l s = record { flow = upd s.flow n l; price = s.price }

module _ {N N' : LP} {n r₁ r₂ f t : ℕ} {a b a₁ a₂ l : ℚ} (C : CostlyArc N N' n r₁ r₂ f t a b a₁ a₂ l) where
  m₁ : ℚ
  m₁ = a *ℚ inv a₁

  m₂ : ℚ
  m₂ = b *ℚ inv a₂

  -- the two root arcs do what the arc does
  covered : (s : ℕ) → (N.col n).coef s ≡ m₁ *ℚ (N.col r₁).coef s +ℚ m₂ *ℚ (N.col r₂).coef s
  unfolding m₁ m₂
  covered s = C.ends s ∙ ap₂ ◌+ℚ◌ (only-share f a a₁ s C.root₁.nonzero) (only-share t b a₂ s C.root₂.nonzero) ∙ ap₂ (λ u v. m₁ *ℚ u +ℚ m₂ *ℚ v) (sym (C.root₁.end s)) (sym (C.root₂.end s))

  -- and cost less: the arc's reduced cost is not negative wherever theirs are not
  both : Column
  both = record { coef = (N.col n).coef; cost = m₁ *ℚ (N.col r₁).cost +ℚ m₂ *ℚ (N.col r₂).cost; lower = none; upper = none }

  blend : Blend both (N.col r₁) (N.col r₂) m₁ m₂
  unfolding both
  blend = record { coef_is = covered; cost_is = refl }

  dear : (p : ℕ → ℚ) → 𝟘 ≤ℚ reduced N.rows (N.col r₁) p → 𝟘 ≤ℚ reduced N.rows (N.col r₂) p → 𝟘 ≤ℚ reduced N.rows (N.col n) p
  unfolding both m₁ m₂ worth
  dear p h₁ h₂ = le-by (add-nn (sub-nn (lt→le C.costly)) (add-nn (mul_nn' (lt→le C.rate₁) h₁) (mul_nn' (lt→le C.rate₂) h₂)))
      (combo ℚ-ring 𝟙 (reduced-blend N.rows p both (N.col r₁) (N.col r₂) m₁ m₂ blend)
      (ring10 ℚ-ring (N.col n).cost (worth N.rows (N.col n) p) (N.col r₁).cost (N.col r₂).cost a (inv a₁) b (inv a₂) (reduced N.rows (N.col r₁) p) (reduced N.rows (N.col r₂) p)
      (λ c w c₁ c₂ a i b j d₁ d₂. c :- w :- :0 :- (c :- (c₁ :* a :* i :+ c₂ :* b :* j) :+ (a :* i :* d₁ :+ b :* j :* d₂)) := :1 :* (a :* i :* c₁ :+ b :* j :* c₂ :- w :- (a :* i :* d₁ :+ b :* j :* d₂))) refl))

  -- a free root's reduced cost is not negative
  root-nn : (s : Pair) → Solved N' s → (r i : ℕ) (e : ℚ) → FreeRoot N r i e → ¬ (r ≡ n) → 𝟘 ≤ℚ reduced N.rows (N.col r) s.price
  root-nn s h r i e R d = fits-above (N.col r).lower (N.col r).upper (s.flow r) (reduced N.rows (N.col r) s.price) R.free
      (subst (λ k. PriceRule N.rows k (s.flow r) s.price) (C.removed.same r (once-mem R.listed) d)
      (subst (λ q. PriceRule q (N'.col r) (s.flow r) s.price) C.removed.rows_same (h.priced r (subst (Memᴰ r) (sym C.removed.cols_same) (once-mem R.listed)))))

  -- ---- on: what the arc carries above l goes over the root arcs

  n≢ : (¬ (n ≡ r₁)) × (¬ (n ≡ r₂))
  n≢ = go C.different
    where
      go : Distinct (n ∷ r₁ ∷ r₂ ∷ []) → (¬ (n ≡ r₁)) × (¬ (n ≡ r₂))
      go (cons h d) = (apart h, apart (further h))

  wide : Frame N N' (n ∷ r₁ ∷ r₂ ∷ []) (n ∷ r₁ ∷ r₂ ∷ [])
  wide = record {
    rows_same = C.removed.rows_same;
    cols_same = C.removed.cols_same;
    distinct = C.different;
    listed = (C.removed.listed, (C.root₁.listed, (C.root₂.listed, tt)));
    renumbered = perm-refl _;
    same = λ c m h. C.removed.same c m (apart h);
  }

  module _ (x : ℕ → ℚ) (fx : Feasible N x) where
    amounts : List ℚ
    amounts = 𝟘 ∷ (x r₁ +ℚ m₁ *ℚ (x n +ℚ -ℚ l)) ∷ (x r₂ +ℚ m₂ *ℚ (x n +ℚ -ℚ l)) ∷ []

    moved : ℕ → ℚ
    moved = puts (n ∷ r₁ ∷ r₂ ∷ []) amounts x

    reads : (moved n ≡ 𝟘) × ((moved r₁ ≡ x r₁ +ℚ m₁ *ℚ (x n +ℚ -ℚ l)) × ((moved r₂ ≡ x r₂ +ℚ m₂ *ℚ (x n +ℚ -ℚ l)) × Unit {0}))
    unfolding moved amounts
    reads = puts-at (n ∷ r₁ ∷ r₂ ∷ []) amounts x C.different

    off : (c : ℕ) → Absent c (n ∷ r₁ ∷ r₂ ∷ []) → x c ≡ moved c
    unfolding moved
    off c h = sym (puts-off (n ∷ r₁ ∷ r₂ ∷ []) amounts x c h)

    stays : (r i : ℕ) (e : ℚ) (R : FreeRoot N r i e) → ¬ (r ≡ n) → N'.col r ≡ N.col r
    stays r i e R d = C.removed.same r (once-mem R.listed) d

    row_is : (s : ℕ) → Memᴰ s N.rows → sum (n ∷ r₁ ∷ r₂ ∷ []) (λ c. (N.col c).coef s *ℚ x c) +ℚ N'.rhs s ≡ sum (n ∷ r₁ ∷ r₂ ∷ []) (λ c. (N'.col c).coef s *ℚ moved c) +ℚ N.rhs s
    row_is s m =
        combo2 ℚ-ring (x n +ℚ -ℚ l) 𝟙 (covered s) (C.removed.rhs_is s m)
        (ring11 ℚ-ring ((N.col n).coef s) ((N.col r₁).coef s) ((N.col r₂).coef s) (x n) (x r₁) (x r₂) m₁ m₂ l (N'.rhs s) (N.rhs s)
        (λ A B D y u v m k l r' r. A :* y :+ (B :* u :+ (D :* v :+ :0)) :+ r' :- (:0 :* :0 :+ (B :* (u :+ m :* (y :- l)) :+ (D :* (v :+ k :* (y :- l)) :+ :0)) :+ r)
        := (y :- l) :* (A :- (m :* B :+ k :* D)) :+ :1 :* (r' :- (r :- A :* l))) refl)
        ∙ ap (λ v. 𝟘 *ℚ 𝟘 +ℚ v +ℚ N.rhs s) (sym (ap₂ (λ u v. u +ℚ (v +ℚ 𝟘))
        (ap₂ ◌*ℚ◌ (ap (λ k. k.coef s) (stays r₁ f a₁ C.root₁ (λ q. n≢.0 (sym q)))) reads.1.0)
        (ap₂ ◌*ℚ◌ (ap (λ k. k.coef s) (stays r₂ t a₂ C.root₂ (λ q. n≢.1 (sym q)))) reads.1.1.0)))
        ∙ ap (λ v. v +ℚ ((N'.col r₁).coef s *ℚ moved r₁ +ℚ ((N'.col r₂).coef s *ℚ moved r₂ +ℚ 𝟘)) +ℚ N.rhs s) (sym (ap₂ ◌*ℚ◌ (C.removed.gone.coef_0 s) reads.0))

    over : 𝟘 ≤ℚ x n +ℚ -ℚ l
    over = sub-nn ((fx.within n (once-mem C.removed.listed)).above l C.lower_is)

    higher : (r i : ℕ) (e m : ℚ) (R : FreeRoot N r i e) → ¬ (r ≡ n) → 𝟘 ≤ℚ m → moved r ≡ x r +ℚ m *ℚ (x n +ℚ -ℚ l) → InBounds (N'.col r) (moved r)
    higher r i e m R d h q = rw (stays r i e R d, q) (record {
      above = λ v g. le_trans v (x r) (x r +ℚ m *ℚ (x n +ℚ -ℚ l)) ((fx.within r (once-mem R.listed)).above v g)
          (le-by (mul_nn' h over) (ring2 ℚ-ring (x r) (m *ℚ (x n +ℚ -ℚ l)) (λ x d. x :+ d :- x := d) refl));
      below = λ v g. absurd (none-some (sym R.free ∙ g));
    })

    on : Feasible N' moved
    unfolding m₁ m₂
    on = frame_on wide x moved (record { off = off; row = row_is }) (
      subst (InBounds (N'.col n)) (sym reads.0) (gone-within (N'.col n) C.removed.gone),
      (
        higher r₁ f a₁ m₁ C.root₁ (λ q. n≢.0 (sym q)) (lt→le C.rate₁) reads.1.0,
        (higher r₂ t a₂ m₂ C.root₂ (λ q. n≢.1 (sym q)) (lt→le C.rate₂) reads.1.1.0, tt),
      ),
    ) fx

  pub costly-sound : SoundStep N N' (costly-back n l)
  costly-sound = record {
    solved = λ s h. removed-solved C.removed s.flow s.price s.price within (agree_same (frame C.removed) s.price)
        (fits-nn (N.col n).lower (N.col n).upper l (reduced N.rows (N.col n) s.price)
        (dear s.price (root-nn s h r₁ f a₁ C.root₁ (λ q. n≢.0 (sym q))) (root-nn s h r₂ t a₂ C.root₂ (λ q. n≢.1 (sym q)))) (λ _. C.lower_is)) h;
    same_value = λ s. removed-value C.removed s.flow;
    keeps_flow = λ x fx. (moved x fx, on x fx);
  }
    where
      within : InBounds (N.col n) l
      within = record { above = λ v g. le_of_eq (some_inj (sym g ∙ C.lower_is)); below = C.room }
