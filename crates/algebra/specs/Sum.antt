-- Finite sums of rational numbers over a list; functions with one entry changed; the numbers below a number.
use Rattle.std.specs.Prelude.{List, [], ◌∷◌, cond, ℕ, zero, suc, eqb}
use Rattle.algebra.specs.Rat.{ℚ, ◌+ℚ◌, 0_ℚ}

-- the sum of f over the members of a list
abbrev pub sum : {A : Type 0} → List A → (A → ℚ) → ℚ
sum [] f = 0_ℚ
sum (a ∷ l) f = f a +ℚ sum l f

-- f, with v at k
abbrev pub upd : (ℕ → ℚ) → ℕ → ℚ → ℕ → ℚ
upd f k v i = cond (eqb i k) v (f i)

-- v at k, and 0 elsewhere
abbrev pub only : ℕ → ℚ → ℕ → ℚ
only k v i = upd (λ j. 0_ℚ) k v i

-- the numbers below n, each once
unfoldable pub range : ℕ → List ℕ
range zero = []
range (suc n) = n ∷ range n
