-- Taking an arc, or a node, out of a working network, as functions; and that they are rules 1 to 4 of the theory.
use mathlib.Core.Path.{◌≡◌, refl, sym, ◌∙◌, ap, ap₂, subst}
use mathlib.Core.List.{Memᴰ}
use mathlib.Core.Bool.{Bool, true, false, cond}
use mathlib.Core.Option.{none, some}
use Prim.Native.Nat.{ℕ, ◌<◌}
use lib.Dec.{T, eqb, eqb→eq, eqb_refl}
use Rattle.algebra.proofs.Solver.{◌:*◌, ◌:-◌, :0, ◌:=◌, ring1}
use Rattle.algebra.specs.Rat.{ℚ, ◌+ℚ◌, ◌*ℚ◌, -ℚ◌, ◌≤ℚ◌, 0_ℚ as 𝟘, inv_ℚ as inv, ◌<ℚ◌}
use Rattle.algebra.proofs.Rat.{ℚ-ring}
use Rattle.algebra.specs.Sum.{range}
use Rattle.algebra.proofs.Sum.{range-once}
use Rattle.presolve.proofs.Named.{once-mem}
use Rattle.presolve.specs.LP.{Column}
use Rattle.presolve.proofs.Removed.{Removed}
use Rattle.presolve.proofs.Costly.{FreeRoot, CostlyArc}
use Rattle.presolve.specs.Net.{out, Working, touch, column, lp_of, column_at, rhs_at}
use Rattle.presolve.proofs.Net.{root-of, costly-apart, Sane, column-in, gone-out, rhs-in, rhs-out, row_out}

-- all but k
abbrev pub without : (ℕ → Bool) → ℕ → ℕ → Bool
without f k c = cond (eqb c k) false (f c)

without_other : (f : ℕ → Bool) (k c : ℕ) → ¬ (c ≡ k) → without f k c ≡ f c
without_other f k c n = go (eqb c k) (λ t. n (eqb→eq c k t))
  where
    go : (b : Bool) → (T b → ⊥) → cond b false (f c) ≡ f c
    go true h = absurd (h tt)
    go false h = refl

without-same : (f : ℕ → Bool) (k : ℕ) → ¬ (T (without f k k))
without-same f k = go (eqb k k) (eqb_refl k)
  where
    go : (b : Bool) → T b → ¬ (T (cond b false (f k)))
    go true h t = t
    go false h t = h

-- arc j out at the flow ξ
unfoldable pub arc-out : Working → ℕ → ℚ → Working
arc-out w j ξ = record {
  n = w.n;
  m = w.m;
  node? = w.node?;
  arc? = without w.arc? j;
  constant = w.constant +ℚ (w.arc j).cost *ℚ ξ;
  supply = λ s. w.supply s +ℚ -ℚ (touch (w.arc j) s *ℚ ξ);
  arc = w.arc;
}

dec : (b : Bool) → Dec (T b)
dec true = yes tt
dec false = no (λ z. z)

module _ (w : Working) (S : Sane w) (j : ℕ) (h : j < w.m) (k : T (w.arc? j)) (ξ : ℚ) where
  pub arc-out-removed : Removed (lp_of w) (lp_of (arc-out w j ξ)) j ξ
  unfolding arc-out column_at rhs_at
  arc-out-removed = record {
    rows_same = refl;
    cols_same = refl;
    listed = range-once j w.m h;
    same = λ c m n. ap (λ b. cond b (column (w.arc c)) out) (without_other w.arc? j c n);
    gone = gone-out (arc-out w j ξ) j (without-same w.arc? j);
    rhs_is = λ s m. go s (dec (w.node? s));
    constant_is = ap (λ c. w.constant +ℚ c.cost *ℚ ξ) (sym (column-in w j k));
  }
    where
      go : (s : ℕ) → Dec (T (w.node? s)) → rhs_at (arc-out w j ξ) s ≡ rhs_at w s +ℚ -ℚ ((column_at w j).coef s *ℚ ξ)
      go s (yes q) = rhs-in (arc-out w j ξ) s q ∙ ap₂ (λ r c. r +ℚ -ℚ (c.coef s *ℚ ξ)) (sym (rhs-in w s q)) (sym (column-in w j k))
      go s (no q) = rhs-out (arc-out w j ξ) s q ∙ ring1 ℚ-ring ξ (λ x. :0 := :0 :- :0 :* x) refl ∙ ap₂ (λ r c. r +ℚ -ℚ (c *ℚ ξ)) (sym (rhs-out w s q)) (sym (row_out w S j s (mem j h) q))
        where
          mem : (c : ℕ) → c < w.m → Memᴰ c (range w.m)
          mem c l = once-mem (range-once c w.m l)

-- rule 4: the arc alone. Its root arcs stand at its two ends.
pub costly-arc : (w : Working) (S : Sane w) (n r₁ r₂ : ℕ) (h : n < w.m) (k : T (w.arc? n)) (h₁ : r₁ < w.m) (k₁ : T (w.arc? r₁)) (h₂ : r₂ < w.m) (k₂ : T (w.arc? r₂)) (l : ℚ)
    → ¬ ((w.arc n).from ≡ (w.arc n).to) → (w.arc r₁).from ≡ (w.arc r₁).to → (w.arc r₂).from ≡ (w.arc r₂).to → (w.arc r₁).from ≡ (w.arc n).from → (w.arc r₂).from ≡ (w.arc n).to
    → (w.arc r₁).upper ≡ none → (w.arc r₂).upper ≡ none
    → 𝟘 <ℚ (w.arc n).a *ℚ inv (w.arc r₁).a → 𝟘 <ℚ (w.arc n).b *ℚ inv (w.arc r₂).a
    → (w.arc r₁).cost *ℚ (w.arc n).a *ℚ inv (w.arc r₁).a +ℚ (w.arc r₂).cost *ℚ (w.arc n).b *ℚ inv (w.arc r₂).a <ℚ (w.arc n).cost
    → (w.arc n).lower ≡ some l → ((u : ℚ) → (w.arc n).upper ≡ some u → l ≤ℚ u)
    → CostlyArc (lp_of w) (lp_of (arc-out w n l)) n r₁ r₂ (w.arc n).from (w.arc n).to (w.arc n).a (w.arc n).b (w.arc r₁).a (w.arc r₂).a l
costly-arc w S n r₁ r₂ h k h₁ k₁ h₂ k₂ l d q₁ q₂ f t u₁ u₂ s₁ s₂ c lo room = record {
  ends = λ s. ap (λ c. c.coef s) (column-in w n k);
  root₁ = subst (λ i. FreeRoot (lp_of w) r₁ i (w.arc r₁).a) f (root-of w S r₁ h₁ k₁ q₁ u₁);
  root₂ = subst (λ i. FreeRoot (lp_of w) r₂ i (w.arc r₂).a) t (root-of w S r₂ h₂ k₂ q₂ u₂);
  different = costly-apart w n r₁ r₂ d q₁ q₂ f t;
  rate₁ = s₁;
  rate₂ = s₂;
  costly = subst₃' (λ x y z. x.cost *ℚ (w.arc n).a *ℚ inv (w.arc r₁).a +ℚ y.cost *ℚ (w.arc n).b *ℚ inv (w.arc r₂).a <ℚ z.cost) (sym (column-in w r₁ k₁)) (sym (column-in w r₂ k₂)) (sym (column-in w n k)) c;
  lower_is = ap (λ c. c.lower) (column-in w n k) ∙ lo;
  room = λ u e. room u (sym (ap (λ c. c.upper) (column-in w n k)) ∙ e);
  removed = arc-out-removed w S n h k l;
}
  where
    subst₃' : (P : Column → Column → Column → Type 0) {x y z x' y' z' : Column} → x ≡ x' → y ≡ y' → z ≡ z' → P x y z → P x' y' z'
    subst₃' P {x} {y} {z} {x'} {y'} {z'} p q r g = subst (λ a. P x' y' a) r (subst (λ a. P x' a z) q (subst (λ a. P a y z) p g))
