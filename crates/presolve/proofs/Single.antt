-- Rule 3, single arc: one arc j touches node i, so its flow is r / e in every balanced flow. Outside the bounds: no flow. Otherwise arc and node are dropped.
use mathlib.Core.Path.{◌≡◌, refl, sym, ◌∙◌, ap, subst}
use mathlib.Core.List.{[], ◌∷◌, Memᴰ}
use Prim.Native.Nat.{ℕ}
use Rattle.algebra.proofs.Ring.{combo2}
use Rattle.algebra.proofs.Solver.{◌:+◌, ◌:*◌, ◌:-◌, :neg, :0, :1, ◌:=◌, ring1, ring2, ring4}
use Rattle.algebra.specs.Rat.{ℚ, ◌*ℚ◌, -ℚ◌, 0_ℚ as 𝟘, inv_ℚ as inv}
use Rattle.algebra.proofs.Rat.{ℚ-ring, mul_ℚ-inv as mul_inv, add_ℚ-zero as add-zero}
use Rattle.algebra.proofs.Sum.{Once}
use Rattle.algebra.specs.Sum.{upd}
use Rattle.algebra.proofs.Sum as Sum
use Rattle.presolve.proofs.Named.{nil, cons, apart, once-mem, all-mem, sum-at-named}
use Rattle.presolve.proofs.Bounds.{fits-zero}
use Rattle.presolve.specs.LP.{LP, Pair, Feasible, NoFlow, InBounds, PriceRule, reduced, brings}
use Rattle.presolve.proofs.Step.{SoundStep}
use Rattle.presolve.proofs.Frame.{agree-upd}
use Rattle.presolve.proofs.Spoke.{Spoke, SpokeAt, quote, spoke-e, spoke-reduced}
use Rattle.presolve.proofs.Removed.{Removed, frame, removed-value, removed-solved, removed-on}

-- j is the one arc at node i
pub record SingleAt (N : LP) (i : ℕ) (j : Spoke) : Type 0 where
  pub listed_i : Once i N.rows
  pub at_j : SpokeAt N i j
  pub alone : (c : ℕ) → Memᴰ c N.cols → ¬ (c ≡ j.arc) → (N.col c).coef i ≡ 𝟘

-- the flow that the node forces
abbrev pub forced : LP → ℕ → Spoke → ℚ
forced N i j = N.rhs i *ℚ inv j.e

pub record SingleArc (N N' : LP) (i : ℕ) (j : Spoke) : Type 0 where
  pub place : SingleAt N i j
  pub within : InBounds (N.col j.arc) (forced N i j)
  pub removed : Removed N N' j.arc (forced N i j)

pub single-forced : {N : LP} {i : ℕ} {j : Spoke} → SingleAt N i j → (x : ℕ → ℚ) → Feasible N x → x j.arc ≡ forced N i j
unfolding brings
single-forced {N} {i} {j} S x f = combo2 ℚ-ring (inv j.e) (-ℚ x j.arc) at_i (mul_inv j.e S.at_j.nonzero)
    (ring4 ℚ-ring (x j.arc) (N.rhs i) (inv j.e) j.e (λ x r i e. x :- r :* i := i :* (e :* x :- r) :+ :neg x :* (e :* i :- :1)) refl)
  where
    at_i : j.e *ℚ x j.arc ≡ N.rhs i
    at_i =
        ap (λ a. a *ℚ x j.arc) (sym (spoke-e S.at_j)) ∙ sym (add-zero ((N.col j.arc).coef i *ℚ x j.arc))
        ∙ sym (sum-at-named (j.arc ∷ []) (λ c. (N.col c).coef i *ℚ x c) (cons Sum.none nil) (λ c m. all-mem (λ c. Once c N.cols) (j.arc ∷ []) (S.at_j.listed, tt) c m)
        (λ c m a. ap (λ t. t *ℚ x c) (S.alone c m (apart a)) ∙ ring1 ℚ-ring (x c) (λ x. :0 :* x := :0) refl))
        ∙ f.balance i (once-mem S.listed_i)

-- postsolve: the forced flow; the price at which the arc breaks even, (c - o × other price) ÷ e
abbrev pub single-back : LP → ℕ → Spoke → Pair → Pair
single-back N i j s = record { flow = upd s.flow j.arc (forced N i j); price = upd s.price i (quote N j s.price) }

pub single-sound : {N N' : LP} {i : ℕ} {j : Spoke} → SingleArc N N' i j → SoundStep N N' (single-back N i j)
single-sound {N} {N'} {i} {j} A = record {
  solved = λ s h. removed-solved R s.flow (upd s.price i (quote N j s.price)) s.price A.within
      (agree-upd (frame R) s.price i (quote N j s.price) (λ c m a. S.alone c m (apart a))) (rule s.price) h;
  same_value = λ s. removed-value R s.flow;
  keeps_flow = λ x f. (upd x j.arc 𝟘, removed-on R x (single-forced S x f) f);
}
  where
    S : SingleAt N i j
    S = A.place

    R : Removed N N' j.arc (forced N i j)
    R = A.removed

    rule : (p : ℕ → ℚ) → PriceRule N.rows (N.col j.arc) (forced N i j) (upd p i (quote N j p))
    rule p = fits-zero (N.col j.arc).lower (N.col j.arc).upper (forced N i j) (reduced N.rows (N.col j.arc) (upd p i (quote N j p)))
        (spoke-reduced S.at_j S.listed_i p (quote N j p) ∙ ring2 ℚ-ring j.e (quote N j p) (λ e q. e :* (q :- q) := :0) refl)

-- NO FLOW
pub single-no-flow : {N : LP} {i : ℕ} {j : Spoke} → SingleAt N i j → ¬ (InBounds (N.col j.arc) (forced N i j)) → NoFlow N
single-no-flow {N} {i} {j} S out x f = out (subst (InBounds (N.col j.arc)) (single-forced S x f) (f.within j.arc (once-mem S.at_j.listed)))
