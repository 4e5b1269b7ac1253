-- What rules 1, 3 and 4 share: column j is taken out at the flow ξ. Its share of each row goes into the right-hand side, its cost into the constant.
use mathlib.Core.Path.{◌≡◌, refl, sym, ◌∙◌, subst}
use mathlib.Core.List.{[], ◌∷◌}
use Prim.Native.Nat.{ℕ}
use Rattle.algebra.proofs.Ring.{combo3}
use Rattle.algebra.proofs.Solver.{◌:+◌, ◌:*◌, ◌:-◌, :neg, :0, :1, ◌:=◌, ring7}
use Rattle.algebra.specs.Rat.{ℚ, -ℚ◌, ◌≤ℚ◌, 0_ℚ as 𝟘, 1_ℚ as 𝟙}
use Rattle.algebra.proofs.Rat.{ℚ-ring}
use Rattle.algebra.proofs.Order.{le_refl}
use Rattle.algebra.proofs.Sum.{Absent, Once, upd_same, upd_other}
use Rattle.algebra.specs.Sum.{upd}
use Rattle.algebra.proofs.Sum as Sum
pub use Rattle.presolve.proofs.Gone.{Gone, Removed}
use Rattle.presolve.proofs.Named.{nil, cons, apart, perm-refl}
use Rattle.presolve.proofs.Bounds.{some_inj}
use Rattle.presolve.specs.LP.{LP, Column, Feasible, Solved, InBounds, PriceRule, value}
use Rattle.presolve.proofs.Frame.{Frame, Matched, Paid, Agree, frame-value, frame_on, frame-solved}

-- a column that is gone has the flow 0
pub gone-within : (c : Column) → Gone c → InBounds c 𝟘
gone-within c g = record {
  above = λ v e. subst (λ t. t ≤ℚ 𝟘) (some_inj (sym g.lower_0 ∙ e)) (le_refl 𝟘);
  below = λ v e. subst (λ t. 𝟘 ≤ℚ t) (some_inj (sym g.upper_0 ∙ e)) (le_refl 𝟘);
}

module _ {N N' : LP} {j : ℕ} {ξ : ℚ} (R : Removed N N' j ξ) where
  pub frame : Frame N N' (j ∷ []) (j ∷ [])
  frame = record {
    rows_same = R.rows_same;
    cols_same = R.cols_same;
    distinct = cons Sum.none nil;
    listed = (R.listed, tt);
    renumbered = perm-refl (j ∷ []);
    same = λ c m a. R.same c m (apart a);
  }

  matched : (x x' : ℕ → ℚ) → x j ≡ ξ → ((c : ℕ) → Absent c (j ∷ []) → x c ≡ x' c) → Matched N N' (j ∷ []) (j ∷ []) x x'
  matched x x' xj off = record {
    off = off;
    row = λ s m. combo3 ℚ-ring ((N.col j).coef s) 𝟙 (-ℚ x' j) xj (R.rhs_is s m) (R.gone.coef_0 s)
        (ring7 ℚ-ring ((N.col j).coef s) (x j) ξ (N'.rhs s) (N.rhs s) ((N'.col j).coef s) (x' j)
        (λ a x ξ r' r a' x'. a :* x :+ :0 :+ r' :- (a' :* x' :+ :0 :+ r) := a :* (x :- ξ) :+ :1 :* (r' :- (r :- a :* ξ)) :+ :neg x' :* (a' :- :0)) refl);
  }

  paid : (x x' : ℕ → ℚ) → x j ≡ ξ → Paid N N' (j ∷ []) (j ∷ []) x x'
  paid x x' xj = combo3 ℚ-ring (N.col j).cost (-ℚ 𝟙) (-ℚ x' j) xj R.constant_is R.gone.cost_0
      (ring7 ℚ-ring (N.col j).cost (x j) ξ N'.constant N.constant (N'.col j).cost (x' j)
      (λ a x ξ k' k a' x'. k :+ (a :* x :+ :0) :- (k' :+ (a' :* x' :+ :0)) := a :* (x :- ξ) :+ :neg :1 :* (k' :- (k :+ a :* ξ)) :+ :neg x' :* (a' :- :0)) refl)

  restored : (x' : ℕ → ℚ) → Matched N N' (j ∷ []) (j ∷ []) (upd x' j ξ) x'
  restored x' = matched (upd x' j ξ) x' (upd_same x' j ξ) (λ c a. upd_other x' j ξ c (λ e. apart a (sym e)))

  pub removed-value : (x' : ℕ → ℚ) → value N (upd x' j ξ) ≡ value N' x'
  removed-value x' = frame-value frame (upd x' j ξ) x' (restored x') (paid (upd x' j ξ) x' (upd_same x' j ξ))

  -- back: the flow ξ at j
  pub removed-solved : (x' p p' : ℕ → ℚ) → InBounds (N.col j) ξ → Agree frame p p' → PriceRule N.rows (N.col j) ξ p
      → Solved N' (record { flow = x'; price = p' }) → Solved N (record { flow = upd x' j ξ; price = p })
  removed-solved x' p p' w ag r h = frame-solved frame (upd x' j ξ) x' p p' (restored x')
      (subst (InBounds (N.col j)) (sym (upd_same x' j ξ)) w, tt) ag (subst (λ t. PriceRule N.rows (N.col j) t p) (sym (upd_same x' j ξ)) r, tt) h

  -- on: a feasible flow that is ξ at j
  pub removed-on : (x : ℕ → ℚ) → x j ≡ ξ → Feasible N x → Feasible N' (upd x j 𝟘)
  removed-on x xj f = frame_on frame x (upd x j 𝟘) (matched x (upd x j 𝟘) xj (λ c a. sym (upd_other x j 𝟘 c (λ e. apart a (sym e)))))
      (subst (InBounds (N'.col j)) (sym (upd_same x j 𝟘)) (gone-within (N'.col j) R.gone), tt) f
