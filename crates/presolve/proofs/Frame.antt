-- The frame of a step: it changes a few named columns and right-hand sides, and nothing else. So a step's proof looks at the named columns alone.
-- The old columns may come back under each other's numbers: `new` is `old` in another order.
use mathlib.Core.Path.{◌≡◌, refl, sym, ◌∙◌, ap, ap₂, subst}
use mathlib.Core.Logic.{◌⊎◌, inl, inr}
use mathlib.Core.List.{List, [], ◌∷◌, Memᴰ}
use Prim.Native.Nat.{ℕ}
use native.Mathlib.Decide.{ℕ_discrete}
use Rattle.algebra.proofs.Ring.{combo2}
use Rattle.algebra.proofs.Solver.{◌:+◌, ◌:*◌, ◌:-◌, :0, :1, ◌:=◌, ring2, ring6}
use Rattle.algebra.specs.Rat.{ℚ, ◌+ℚ◌, ◌*ℚ◌, -ℚ◌, 0_ℚ as 𝟘, 1_ℚ as 𝟙}
use Rattle.algebra.proofs.Rat.{ℚ-ring}
use Rattle.algebra.proofs.Sum.{Absent, step, Once, sum-ext, upd_other}
use Rattle.algebra.specs.Sum.{sum, upd}
use Rattle.algebra.proofs.Sum as Sum
use Rattle.presolve.proofs.Named.{Distinct, nil, cons, apart, further, once-mem, named?, All, all-mem, sum-named, Perm, perm-refl, perm-sym, sum-perm, mem-perm, absent-perm}
use Rattle.presolve.specs.LP.{LP, Pair, Feasible, Solved, InBounds, PriceRule, worth, brings, total, value}

pub record Frame (N N' : LP) (old new : List ℕ) : Type 0 where
  pub rows_same : N'.rows ≡ N.rows
  pub cols_same : N'.cols ≡ N.cols
  pub distinct : Distinct old
  pub listed : All (λ c. Once c N.cols) old
  pub renumbered : Perm old new
  pub same : (c : ℕ) → Memᴰ c N.cols → Absent c old → N'.col c ≡ N.col c

-- two named columns, under their own numbers
pub two-frame : {N N' : LP} {j k : ℕ} → N'.rows ≡ N.rows → N'.cols ≡ N.cols → ¬ (j ≡ k) → Once j N.cols → Once k N.cols → ((c : ℕ) → Memᴰ c N.cols → ¬ (c ≡ j) → ¬ (c ≡ k) → N'.col c ≡ N.col c) → Frame N N' (j ∷ k ∷ []) (j ∷ k ∷ [])
two-frame rows cols different listed_j listed_k same = record {
  rows_same = rows;
  cols_same = cols;
  distinct = cons (step different Sum.none) (cons Sum.none nil);
  listed = (listed_j, (listed_k, tt));
  renumbered = perm-refl _;
  same = λ c m a. same c m (apart a) (apart (further a));
}

-- a flow x of N and a flow x' of N' that belong together: equal but at the named columns, whose shares at each row differ as the right-hand sides do
pub record Matched (N N' : LP) (old new : List ℕ) (x x' : ℕ → ℚ) : Type 0 where
  pub off : (c : ℕ) → Absent c old → x c ≡ x' c
  pub row : (s : ℕ) → Memᴰ s N.rows → sum old (λ c. (N.col c).coef s *ℚ x c) +ℚ N'.rhs s ≡ sum new (λ c. (N'.col c).coef s *ℚ x' c) +ℚ N.rhs s

-- the same for the value
abbrev pub Paid : (N N' : LP) (old new : List ℕ) (x x' : ℕ → ℚ) → Type 0
Paid N N' old new x x' = N.constant +ℚ sum old (λ c. (N.col c).cost *ℚ x c) ≡ N'.constant +ℚ sum new (λ c. (N'.col c).cost *ℚ x' c)

module _ {N N' : LP} {old new : List ℕ} (F : Frame N N' old new) where
  once : (c : ℕ) → Memᴰ c old → Once c N.cols
  once c m = all-mem (λ c. Once c N.cols) old F.listed c m

  pub in-cols : (c : ℕ) → Memᴰ c new → Memᴰ c N'.cols
  in-cols c m = subst (Memᴰ c) (sym F.cols_same) (once-mem (once c (mem-perm (perm-sym F.renumbered) m)))

  -- the price rule at a new column, over N's rows
  pub rule-new : (s : Pair) → Solved N' s → (c : ℕ) → Memᴰ c new → PriceRule N.rows (N'.col c) (s.flow c) s.price
  rule-new s h c m = subst (λ r. PriceRule r (N'.col c) (s.flow c) s.price) F.rows_same (h.priced c (in-cols c m))

  pub within_new : (x' : ℕ → ℚ) → Feasible N' x' → (c : ℕ) → Memᴰ c new → InBounds (N'.col c) (x' c)
  within_new x' f c m = f.within c (in-cols c m)

  -- two sums over all columns, from the sums over the named ones
  sums : (f g : ℕ → ℚ) (a b : ℚ) → ((c : ℕ) → Memᴰ c N.cols → Absent c old → f c ≡ g c) → sum old f +ℚ a ≡ sum new g +ℚ b → sum N.cols f +ℚ a ≡ sum N'.cols g +ℚ b
  sums f g a b h e = combo2 ℚ-ring 𝟙 𝟙 (sum-named old f g F.distinct once h) (e ∙ ap (λ t. t +ℚ b) (sym (sum-perm g F.renumbered)))
      (ring6 ℚ-ring (sum N.cols f) (sum N.cols g) (sum old f) (sum old g) a b (λ f g p q a b. f :+ a :- (g :+ b) := :1 :* (f :+ q :- (g :+ p)) :+ :1 :* (p :+ a :- (q :+ b))) refl)
      ∙ ap (λ l. sum l g +ℚ b) (sym F.cols_same)

  module _ (x x' : ℕ → ℚ) (M : Matched N N' old new x x') where
    rows-differ : (s : ℕ) → Memᴰ s N.rows → brings N x s +ℚ N'.rhs s ≡ brings N' x' s +ℚ N.rhs s
    unfolding brings
    rows-differ s i = sums (λ c. (N.col c).coef s *ℚ x c) (λ c. (N'.col c).coef s *ℚ x' c) (N'.rhs s) (N.rhs s) (λ c m a. ap₂ ◌*ℚ◌ (ap (λ k. k.coef s) (sym (F.same c m a))) (M.off c a)) (M.row s i)

    pub frame-value : Paid N N' old new x x' → value N x ≡ value N' x'
    unfolding total
    frame-value h = ring2 ℚ-ring N.constant (total N x) (λ k t. k :+ t := t :+ k) refl
        ∙ sums (λ c. (N.col c).cost *ℚ x c) (λ c. (N'.col c).cost *ℚ x' c) N.constant N'.constant (λ c m a. ap₂ ◌*ℚ◌ (ap (λ k. k.cost) (sym (F.same c m a))) (M.off c a))
        (ring2 ℚ-ring (sum old (λ c. (N.col c).cost *ℚ x c)) N.constant (λ s k. s :+ k := k :+ s) refl ∙ h ∙ ring2 ℚ-ring N'.constant (sum new (λ c. (N'.col c).cost *ℚ x' c)) (λ k s. k :+ s := s :+ k) refl)
        ∙ ring2 ℚ-ring (total N' x') N'.constant (λ t k. t :+ k := k :+ t) refl

    cancel : {a b c d : ℚ} → a +ℚ d ≡ b +ℚ c → b ≡ d → a ≡ c
    cancel {a} {b} {c} {d} h e = combo2 ℚ-ring 𝟙 𝟙 h e (ring4' a b c d)
      where
        ring4' : (a b c d : ℚ) → a +ℚ -ℚ c ≡ 𝟙 *ℚ (a +ℚ d +ℚ -ℚ (b +ℚ c)) +ℚ 𝟙 *ℚ (b +ℚ -ℚ d)
        ring4' a b c d = ring6 ℚ-ring a b c d a b (λ a b c d u v. a :- c := :1 :* (a :+ d :- (b :+ c)) :+ :1 :* (b :- d)) refl

    -- back to N, if the named columns are within their bounds
    pub frame_back : All (λ c. InBounds (N.col c) (x c)) old → Feasible N' x' → Feasible N x
    frame_back w f = record {
      balance = λ s m. cancel (rows-differ s m) (f.balance s (subst (Memᴰ s) (sym F.rows_same) m));
      within = λ c m. go c m (named? c old);
    }
      where
        go : (c : ℕ) → Memᴰ c N.cols → Memᴰ c old ⊎ Absent c old → InBounds (N.col c) (x c)
        go c m (inl e) = all-mem (λ c. InBounds (N.col c) (x c)) old w c e
        go c m (inr a) = rw (M.off c a) (subst (λ k. InBounds k (x' c)) (F.same c m a) (f.within c (subst (Memᴰ c) (sym F.cols_same) m)))

    -- on to N'
    pub frame_on : All (λ c. InBounds (N'.col c) (x' c)) new → Feasible N x → Feasible N' x'
    frame_on w f = record {
      balance = λ s m. let m₀ : Memᴰ s N.rows = subst (Memᴰ s) F.rows_same m in cancel (sym (rows-differ s m₀)) (f.balance s m₀);
      within = λ c m. go c m (named? c new);
    }
      where
        go : (c : ℕ) → Memᴰ c N'.cols → Memᴰ c new ⊎ Absent c new → InBounds (N'.col c) (x' c)
        go c m (inl e) = all-mem (λ c. InBounds (N'.col c) (x' c)) new w c e
        go c m (inr b) = let a : Absent c old = absent-perm (perm-sym F.renumbered) b in let m₀ : Memᴰ c N.cols = subst (Memᴰ c) F.cols_same m in
            subst (λ k. InBounds k (x' c)) (sym (F.same c m₀ a)) (subst (InBounds (N.col c)) (M.off c a) (f.within c m₀))

  -- the columns that are not named keep the price rule, if the prices agree where such a column has a coefficient
  abbrev pub Agree : (p p' : ℕ → ℚ) → Type 0
  Agree p p' = (c : ℕ) → Memᴰ c N.cols → Absent c old → (s : ℕ) → (N.col c).coef s *ℚ p s ≡ (N.col c).coef s *ℚ p' s

  pub frame-solved : (x x' p p' : ℕ → ℚ) → Matched N N' old new x x' → All (λ c. InBounds (N.col c) (x c)) old → Agree p p' → All (λ c. PriceRule N.rows (N.col c) (x c) p) old
      → Solved N' (record { flow = x'; price = p' }) → Solved N (record { flow = x; price = p })
  unfolding worth
  frame-solved x x' p p' M w ag r h = record { feasible = frame_back x x' M w h.feasible; priced = λ c m. go c m (named? c old) }
    where
      go : (c : ℕ) → Memᴰ c N.cols → Memᴰ c old ⊎ Absent c old → PriceRule N.rows (N.col c) (x c) p
      go c m (inl e) = all-mem (λ c. PriceRule N.rows (N.col c) (x c) p) old r c e
      go c m (inr a) = rw (M.off c a, sum-ext N.rows (λ s. (N.col c).coef s *ℚ p s) (λ s. (N.col c).coef s *ℚ p' s) (ag c m a))
          (subst (λ k. PriceRule N.rows k (x' c) p') (F.same c m a)
          (subst (λ l. PriceRule l (N'.col c) (x' c) p') F.rows_same (h.priced c (subst (Memᴰ c) (sym F.cols_same) m))))

  -- the same prices, or other ones at a row that only named columns touch
  pub agree_same : (p : ℕ → ℚ) → Agree p p
  agree_same p c m a s = refl

  pub agree-upd : (p : ℕ → ℚ) (i : ℕ) (π : ℚ) → ((c : ℕ) → Memᴰ c N.cols → Absent c old → (N.col c).coef i ≡ 𝟘) → Agree (upd p i π) p
  agree-upd p i π h c m a s = go (ℕ_discrete i s)
    where
      go : Dec (i ≡ s) → (N.col c).coef s *ℚ upd p i π s ≡ (N.col c).coef s *ℚ p s
      go (yes e) = let z : (N.col c).coef s ≡ 𝟘 = subst (λ t. (N.col c).coef t ≡ 𝟘) e (h c m a) in
          ap (λ t. t *ℚ upd p i π s) z ∙ ring2 ℚ-ring (upd p i π s) (p s) (λ a b. :0 :* a := :0 :* b) refl ∙ ap (λ t. t *ℚ p s) (sym z)
      go (no n) = ap (λ t. (N.col c).coef s *ℚ t) (upd_other p i π s n)
