-- Laws of networks as linear programs: arcs seen from their nodes, what is in and what is out, and what a step leaves as it is.
use mathlib.Core.Path.{◌≡◌, refl, sym, ◌∙◌, ap, ap₂, subst}
use mathlib.Core.Logic.{◌⊎◌, inl, inr}
use mathlib.Core.List.{List, [], ◌∷◌, Memᴰ}
use mathlib.Core.Bool.{Bool, true, false, cond}
use mathlib.Core.Option.{none}
use Prim.Native.Nat.{ℕ, ◌<◌}
use native.Mathlib.Decide.{ℕ_discrete}
use lib.Dec.{T}
use Rattle.algebra.proofs.Solver.{◌:+◌, ◌:-◌, :0, ◌:=◌, ring1, ring3}
use Rattle.algebra.specs.Rat.{ℚ, ◌+ℚ◌, ◌*ℚ◌, -ℚ◌, 0_ℚ as 𝟘}
use Rattle.algebra.proofs.Rat.{ℚ-ring, add_ℚ-zero as add-zero, add_ℚ-comm as add_comm}
use Rattle.algebra.proofs.Sum.{step, Once, only-other, range-once, range-mem}
use Rattle.algebra.specs.Sum.{only, range}
use Rattle.algebra.proofs.Sum as Sum
use Rattle.presolve.proofs.Named.{Distinct, nil, cons}
use Rattle.presolve.specs.LP.{LP, reduced}
use Rattle.presolve.proofs.Removed.{Gone}
use Rattle.presolve.specs.Net.{Arc, touch, column, Working, out, column_at, rhs_at, lp_of}
use Rattle.presolve.proofs.Price.{Other, node, root, ends-reduced, only_zero}
use Rattle.presolve.proofs.Spoke.{Spoke, SpokeAt}
use Rattle.presolve.proofs.Costly.{FreeRoot}

-- a is never 0, and b is 0 exactly where from = to
pub record Legal (e : Arc) : Type 0 where
  pub a_nonzero : ¬ (e.a ≡ 𝟘)
  pub b_zero : e.from ≡ e.to → e.b ≡ 𝟘
  pub b_nonzero : ¬ (e.from ≡ e.to) → ¬ (e.b ≡ 𝟘)

-- an arc j seen from its two nodes
abbrev pub tail-spoke : ℕ → Arc → Spoke
tail-spoke j e = record { arc = j; e = e.a; far = e.to; o = e.b }

abbrev pub head-spoke : ℕ → Arc → Spoke
head-spoke j e = record { arc = j; e = e.b; far = e.from; o = e.a }

module _ (rows : List ℕ) (e : Arc) (L : Legal e) (of : Once e.from rows) (ot : Once e.to rows) where
  other-to : Other rows e.from e.to e.b
  other-to = go (ℕ_discrete e.from e.to)
    where
      go : Dec (e.from ≡ e.to) → Other rows e.from e.to e.b
      go (yes q) = root (L.b_zero q)
      go (no n) = node (λ q. n (sym q)) ot

  pub at_tail : (N : LP) (j : ℕ) → rows ≡ N.rows → Once j N.cols → N.col j ≡ column e → SpokeAt N e.from (tail-spoke j e)
  at_tail N j r o c = record { listed = o; ends = λ s. ap (λ k. k.coef s) c; other = subst (λ l. Other l e.from e.to e.b) r other-to; nonzero = L.a_nonzero }

  pub at_head : (N : LP) (j : ℕ) → rows ≡ N.rows → Once j N.cols → N.col j ≡ column e → ¬ (e.from ≡ e.to) → SpokeAt N e.to (head-spoke j e)
  at_head N j r o c n = record { listed = o; ends = λ s. ap (λ k. k.coef s) c ∙ add_comm (only e.from e.a s) (only e.to e.b s); other = subst (λ l. Other l e.to e.from e.a) r (node n of); nonzero = L.b_nonzero n }

  pub at-root : (N : LP) (j : ℕ) → Once j N.cols → N.col j ≡ column e → e.from ≡ e.to → e.upper ≡ none → FreeRoot N j e.from e.a
  at-root N j o c q u = record { listed = o; end = λ s. ap (λ k. k.coef s) c ∙ ap (λ t. only e.from e.a s +ℚ t) (ap (λ b. only e.to b s) (L.b_zero q) ∙ only_zero e.to s) ∙ add-zero (only e.from e.a s); nonzero = L.a_nonzero; free = ap (λ k. k.upper) c ∙ u }

  -- the reduced cost as a program works it out
  pub arc-reduced : (p : ℕ → ℚ) → reduced rows (column e) p ≡ e.cost +ℚ -ℚ (e.a *ℚ p e.from) +ℚ -ℚ (e.b *ℚ p e.to)
  arc-reduced p = ends-reduced rows (column e) e.from e.to e.a e.b (λ s. refl) other-to of p ∙ ring3 ℚ-ring e.cost (e.a *ℚ p e.from) (e.b *ℚ p e.to) (λ c u v. c :- (u :+ v) := c :- u :- v) refl

-- an arc does not see a node that is none of its ends
pub touch-off : (e : Arc) (s : ℕ) → ¬ (e.from ≡ s) → ¬ (e.to ≡ s) → touch e s ≡ 𝟘
touch-off e s n m = ap₂ ◌+ℚ◌ (only-other e.from s e.a n) (only-other e.to s e.b m) ∙ add-zero 𝟘

-- ---- a working network

pub out-gone : Gone out
out-gone = record { coef_0 = λ s. refl; cost_0 = refl; lower_0 = refl; upper_0 = refl }

module _ (w : Working) where
  pub column-in : (j : ℕ) → T (w.arc? j) → column_at w j ≡ column (w.arc j)
  unfolding column_at
  column-in j h = go (w.arc? j) h
    where
      go : (b : Bool) → T b → cond b (column (w.arc j)) out ≡ column (w.arc j)
      go true t = refl
      go false t = absurd t

  pub column-out : (j : ℕ) → ¬ (T (w.arc? j)) → column_at w j ≡ out
  unfolding column_at
  column-out j h = go (w.arc? j) h
    where
      go : (b : Bool) → ¬ (T b) → cond b (column (w.arc j)) out ≡ out
      go true t = absurd (t tt)
      go false t = refl

  pub gone-out : (j : ℕ) → ¬ (T (w.arc? j)) → Gone (column_at w j)
  gone-out j h = subst Gone (sym (column-out j h)) out-gone

  pub rhs-in : (i : ℕ) → T (w.node? i) → rhs_at w i ≡ w.supply i
  unfolding rhs_at
  rhs-in i h = go (w.node? i) h
    where
      go : (b : Bool) → T b → cond b (w.supply i) 𝟘 ≡ w.supply i
      go true t = refl
      go false t = absurd t

  pub rhs-out : (i : ℕ) → ¬ (T (w.node? i)) → rhs_at w i ≡ 𝟘
  unfolding rhs_at
  rhs-out i h = go (w.node? i) h
    where
      go : (b : Bool) → ¬ (T b) → cond b (w.supply i) 𝟘 ≡ 𝟘
      go true t = absurd (t tt)
      go false t = refl

  -- what a reduction keeps up: an arc that is in is legal, and its ends are nodes that are in
  pub record Sane : Type 0 where
    pub legal : (j : ℕ) → j < w.m → T (w.arc? j) → Legal (w.arc j)
    pub from_in : (j : ℕ) → j < w.m → T (w.arc? j) → ((w.arc j).from < w.n) × T (w.node? (w.arc j).from)
    pub to_in : (j : ℕ) → j < w.m → T (w.arc? j) → ((w.arc j).to < w.n) × T (w.node? (w.arc j).to)

  -- then no arc touches a node that is out
  pub row_out : Sane → (c s : ℕ) → Memᴰ c (range w.m) → ¬ (T (w.node? s)) → (column_at w c).coef s ≡ 𝟘
  row_out S c s m h = go (dec (w.arc? c))
    where
      dec : (b : Bool) → Dec (T b)
      dec true = yes tt
      dec false = no (λ z. z)

      go : Dec (T (w.arc? c)) → (column_at w c).coef s ≡ 𝟘
      go (yes k) = ap (λ t. t.coef s) (column-in c k) ∙ touch-off (w.arc c) s (λ q. h (subst (λ t. T (w.node? t)) q (S.from_in c (range-mem c w.m m) k).1)) (λ q. h (subst (λ t. T (w.node? t)) q (S.to_in c (range-mem c w.m m) k).1))
      go (no k) = ap (λ t. t.coef s) (column-out c k)

  -- an arc that is in, seen from its nodes
  module _ (S : Sane) (j : ℕ) (h : j < w.m) (k : T (w.arc? j)) where
    once-from : Once (w.arc j).from (range w.n)
    once-from = range-once (w.arc j).from w.n (S.from_in j h k).0

    once-to : Once (w.arc j).to (range w.n)
    once-to = range-once (w.arc j).to w.n (S.to_in j h k).0

    pub tail_of_lem : SpokeAt (lp_of w) (w.arc j).from (tail-spoke j (w.arc j))
    tail_of_lem = at_tail (range w.n) (w.arc j) (S.legal j h k) once-from once-to (lp_of w) j refl (range-once j w.m h) (column-in j k)

    pub head_of : ¬ ((w.arc j).from ≡ (w.arc j).to) → SpokeAt (lp_of w) (w.arc j).to (head-spoke j (w.arc j))
    head_of n = at_head (range w.n) (w.arc j) (S.legal j h k) once-from once-to (lp_of w) j refl (range-once j w.m h) (column-in j k) n

    pub root-of : (w.arc j).from ≡ (w.arc j).to → (w.arc j).upper ≡ none → FreeRoot (lp_of w) j (w.arc j).from (w.arc j).a
    root-of q u = at-root (range w.n) (w.arc j) (S.legal j h k) once-from once-to (lp_of w) j (range-once j w.m h) (column-in j k) q u

    pub reduced-of : (p : ℕ → ℚ) → reduced (range w.n) (column_at w j) p ≡ (w.arc j).cost +ℚ -ℚ ((w.arc j).a *ℚ p (w.arc j).from) +ℚ -ℚ ((w.arc j).b *ℚ p (w.arc j).to)
    reduced-of p = ap (λ c. reduced (range w.n) c p) (column-in j k) ∙ arc-reduced (range w.n) (w.arc j) (S.legal j h k) once-from once-to p

  -- rule 4's three arcs are three: n is no root arc, and the root arcs stand at its two ends
  pub costly-apart : (n r₁ r₂ : ℕ) → ¬ ((w.arc n).from ≡ (w.arc n).to) → (w.arc r₁).from ≡ (w.arc r₁).to → (w.arc r₂).from ≡ (w.arc r₂).to
      → (w.arc r₁).from ≡ (w.arc n).from → (w.arc r₂).from ≡ (w.arc n).to → Distinct (n ∷ r₁ ∷ r₂ ∷ [])
  costly-apart n r₁ r₂ d q₁ q₂ f t = cons (step (λ e. d (subst (λ k. (w.arc k).from ≡ (w.arc k).to) (sym e) q₁)) (step (λ e. d (subst (λ k. (w.arc k).from ≡ (w.arc k).to) (sym e) q₂)) Sum.none))
      (cons (step (λ e. d (sym f ∙ ap (λ k. (w.arc k).from) e ∙ t)) Sum.none) (cons Sum.none nil))

-- ---- two working networks, before and after a step: the fields that every rule asks for

-- a column that the step does not touch
pub column-same : (w w' : Working) (c : ℕ) → w'.arc? c ≡ w.arc? c → w'.arc c ≡ w.arc c → column_at w' c ≡ column_at w c
unfolding column_at
column-same w w' c p q = ap₂ (λ t e. cond t (column e) out) p q

-- a right-hand side away from the dropped node: less v at `far`, which is a node that is in, or v is 0
pub rhs-less : (w w' : Working) (far s : ℕ) (v : ℚ) → T (w.node? far) ⊎ (v ≡ 𝟘) → w'.node? s ≡ w.node? s → (T (w.node? s) → w'.supply s ≡ w.supply s +ℚ -ℚ only far v s)
    → rhs_at w' s ≡ rhs_at w s +ℚ -ℚ only far v s
rhs-less w w' far s v f p h = go (dec (w.node? s))
  where
    dec : (b : Bool) → Dec (T b)
    dec true = yes tt
    dec false = no (λ z. z)

    none-there : ¬ (T (w.node? s)) → T (w.node? far) ⊎ (v ≡ 𝟘) → only far v s ≡ 𝟘
    none-there q (inl t) = only-other far s v (λ x. q (subst (λ y. T (w.node? y)) x t))
    none-there q (inr z) = ap (λ u. only far u s) z ∙ only_zero far s

    go : Dec (T (w.node? s)) → rhs_at w' s ≡ rhs_at w s +ℚ -ℚ only far v s
    go (yes q) = rhs-in w' s (subst T (sym p) q) ∙ h q ∙ ap (λ r. r +ℚ -ℚ only far v s) (sym (rhs-in w s q))
    go (no q) = rhs-out w' s (λ t. q (subst T p t)) ∙ ring1 ℚ-ring 𝟘 (λ z. :0 := :0 :- :0) refl ∙ ap₂ (λ r u. r +ℚ -ℚ u) (sym (rhs-out w s q)) (sym (none-there q f))
