-- Weak duality: a pair that keeps the price rule has the least value.
use mathlib.Core.Path.{◌≡◌, refl, sym, ◌∙◌, ap}
use Prim.Native.Nat.{ℕ}
use Rattle.algebra.proofs.Solver.{◌:+◌, ◌:*◌, ◌:-◌, ◌:=◌, ring3}
use Rattle.algebra.specs.Rat.{ℚ, ◌+ℚ◌, ◌*ℚ◌, ◌≤ℚ◌}
use Rattle.algebra.proofs.Rat.{ℚ-ring, mul_ℚ-comm as mul_comm, ≤ℚ-antisym as le_antisym}
use Rattle.algebra.proofs.Order.{add-mono, le_refl}
use Rattle.algebra.specs.Sum.{sum}
use Rattle.algebra.proofs.Sum.{sum-swap, sum-mul, sum-add, sum-ext, sum_congr, sum-le}
use Rattle.presolve.proofs.Bounds.{fits_le}
use Rattle.presolve.specs.LP.{LP, worth, reduced, brings, total, value, Feasible, Pair, Solved, Optimal}

module _ (N : LP) (p : ℕ → ℚ) where
  by_rows : (z : ℕ → ℚ) → Feasible N z → sum N.cols (λ c. worth N.rows (N.col c) p *ℚ z c) ≡ sum N.rows (λ s. p s *ℚ N.rhs s)
  unfolding worth brings
  by_rows z f =
      sum-ext N.cols (λ c. worth N.rows (N.col c) p *ℚ z c) (λ c. sum N.rows (λ s. z c *ℚ ((N.col c).coef s *ℚ p s)))
      (λ c. mul_comm (worth N.rows (N.col c) p) (z c) ∙ sym (sum-mul N.rows (z c) (λ s. (N.col c).coef s *ℚ p s)))
      ∙ sum-swap N.cols N.rows (λ c s. z c *ℚ ((N.col c).coef s *ℚ p s))
      ∙ sum_congr N.rows (λ s. sum N.cols (λ c. z c *ℚ ((N.col c).coef s *ℚ p s))) (λ s. p s *ℚ N.rhs s)
      (λ s m.
      sum-ext N.cols (λ c. z c *ℚ ((N.col c).coef s *ℚ p s)) (λ c. p s *ℚ ((N.col c).coef s *ℚ z c)) (λ c. ring3 ℚ-ring (z c) ((N.col c).coef s) (p s) (λ z a p. z :* (a :* p) := p :* (a :* z)) refl)
      ∙ sum-mul N.cols (p s) (λ c. (N.col c).coef s *ℚ z c)
      ∙ ap (λ t. p s *ℚ t) (f.balance s m))

  cost-split : (z : ℕ → ℚ) → Feasible N z → total N z ≡ sum N.cols (λ c. reduced N.rows (N.col c) p *ℚ z c) +ℚ sum N.rows (λ s. p s *ℚ N.rhs s)
  unfolding total
  cost-split z f =
      sum-ext N.cols (λ c. (N.col c).cost *ℚ z c) (λ c. reduced N.rows (N.col c) p *ℚ z c +ℚ worth N.rows (N.col c) p *ℚ z c)
      (λ c. ring3 ℚ-ring (N.col c).cost (worth N.rows (N.col c) p) (z c) (λ k w z. k :* z := (k :- w) :* z :+ w :* z) refl)
      ∙ sum-add N.cols (λ c. reduced N.rows (N.col c) p *ℚ z c) (λ c. worth N.rows (N.col c) p *ℚ z c)
      ∙ ap (λ t. sum N.cols (λ c. reduced N.rows (N.col c) p *ℚ z c) +ℚ t) (by_rows z f)

-- WEAK DUALITY: the flow of an optimal pair has the least value
pub weak-duality : (N : LP) (s : Pair) → Solved N s → Optimal N s.flow
weak-duality N s h = record { feasible = h.feasible; least = λ y f. add-mono (le_refl N.constant) (less y f) }
  where
    x : ℕ → ℚ
    x = s.flow

    d : ℕ → ℚ
    d c = reduced N.rows (N.col c) s.price

    less : (y : ℕ → ℚ) → Feasible N y → total N x ≤ℚ total N y
    less y f = rw (cost-split N s.price x h.feasible, cost-split N s.price y f) (add-mono
        (sum-le N.cols (λ c. d c *ℚ x c) (λ c. d c *ℚ y c) (λ c m. fits_le (N.col c).lower (N.col c).upper (x c) (y c) (d c) (h.priced c m) (f.within c m)))
        (le_refl _))

-- two optimal pairs have one value
pub one_value : (N : LP) (s t : Pair) → Solved N s → Solved N t → value N s.flow ≡ value N t.flow
one_value N s t h k = le_antisym (value N s.flow) (value N t.flow) ((weak-duality N s h).least t.flow k.feasible) ((weak-duality N t k).least s.flow h.feasible)
