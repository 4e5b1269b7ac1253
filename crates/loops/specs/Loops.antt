-- The shapes of loops that the other definitions are said with.
use Rattle.std.specs.Prelude.{List, [], ◌∷◌, ◌++◌, Bool, true, false, ◌&&◌, ◌||◌, ℕ, zero, suc, ◌+◌, drop, replicate, ℤ, pos}

-- f 0, f 1, .., f (n - 1)
unfoldable pub build : {A : Type 0} → ℕ → (ℕ → A) → List A
build zero f = []
build (suc n) f = build n f ++ (f n ∷ [])

-- d with f 0, .., f (n - 1) over its first elements
unfoldable pub written : {A : Type 0} → ℕ → (ℕ → A) → List A → List A
written n f d = build n f ++ drop n d

-- n turns, the last at n - 1: each takes the state on
unfoldable pub upto : {S : Type 0} → (ℕ → S → S) → ℕ → S → S
upto f zero s = s
upto f (suc n) s = f n (upto f n s)

-- n words of zero
abbrev pub zeros : ℕ → List ℤ
zeros n = replicate n (pos 0)

abbrev pub tally : Bool → ℕ → ℕ
tally true n = n + 1
tally false n = n

-- how many numbers below n pass a test
unfoldable pub count : (ℕ → Bool) → ℕ → ℕ
count p zero = 0
count p (suc n) = tally (p n) (count p n)

-- whether all numbers below n pass a test
unfoldable pub all : (ℕ → Bool) → ℕ → Bool
all p zero = true
all p (suc n) = all p n && p n

-- whether some number below n passes a test
unfoldable pub any : (ℕ → Bool) → ℕ → Bool
any p zero = false
any p (suc n) = any p n || p n

-- the first answer among f i, f (i + 1), .., k of them: `alt` goes on with the rest, at the next number, unless it has an answer
unfoldable pub scan : {A : Type 0} → (A → (ℕ → A) → ℕ → A) → A → (ℕ → A) → ℕ → ℕ → A
scan alt nil f zero i = nil
scan alt nil f (suc k) i = alt (f i) (scan alt nil f k) (suc i)
