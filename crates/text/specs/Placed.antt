-- Bytes, or words, written into a slice from a place on.
use Rattle.std.specs.Prelude.{◌≡◌, List, [], ◌∷◌, cond, ℕ, zero, suc, ◌+◌, length, set, ltb}

-- xs over the elements of d from a place on; what would stand beyond the end is left out
unfoldable pub placed : {A : Type 0} → List A → ℕ → List A → List A
placed d at [] = d
placed d at (x ∷ xs) = placed (set d at x) (at + 1) xs

-- the next place of a slice of so many elements; from its end on, the same place
abbrev pub onward : ℕ → ℕ → ℕ
onward room at = cond (ltb at room) (at + 1) at

-- the place behind n elements that are written from a place on
unfoldable pub behind : ℕ → ℕ → ℕ → ℕ
behind room at zero = at
behind room at (suc n) = behind room (onward room at) n

-- what writing bytes into a slice from a place on gives: the place r behind them, and the slice's bytes
pub record Put (d : List ℕ) (at : ℕ) (bytes : List ℕ) (r : ℕ) (e : List ℕ) : Type 0 where
  pub result : r ≡ behind (length d) at (length bytes)
  pub bytes_are : e ≡ placed d at bytes
