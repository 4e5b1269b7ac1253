-- One pass through a text, byte by byte: where it stands, and the words that end.
use Rattle.std.specs.Prelude.{◌≡◌, List, [], ◌∷◌, Bool, true, false, cond, ℕ, ◌+◌, ◌-◌, ◌*◌, ◌≤◌, length, leb, eqb, ℤ, Option, Some, None}
use Rattle.std.proofs.Math.Option.{some}
use Rattle.text.specs.Text.{separator, digit, limit, with_sign, pieces, words_in, answer}
use Rattle.text.specs.Placed.{placed}
use Rattle.text.specs.declared.State.{State}
use Rattle.text.specs.declared.State.TheVariants.{Between, Minus, Digits, Bad}

-- behind a value that one more digit makes so large
abbrev pub after_value : Bool → ℕ → State
after_value minus v = cond (leb v (limit minus)) (Digits minus v) Bad

abbrev pub after_digit : State → ℕ → State
after_digit Between d = after_value false d
after_digit Minus d = after_value true d
after_digit (Digits minus v) d = after_value minus (v * 10 + d)
after_digit Bad d = Bad

abbrev pub after_minus : State → State
after_minus Between = Minus
after_minus Minus = Bad
after_minus (Digits minus v) = Bad
after_minus Bad = Bad

abbrev pub after_separator : State → State
after_separator Between = Between
after_separator Minus = Bad
after_separator (Digits minus v) = Between
after_separator Bad = Bad

-- the state behind a byte
unfoldable pub after : State → ℕ → State
after s b = cond (separator b) (after_separator s) (cond (digit b) (after_digit s (b - 48)) (cond (eqb b 45) (after_minus s) Bad))

-- the word that a separator ends, if there is one
abbrev pub ended_at : State → List ℤ
ended_at Between = []
ended_at Minus = []
ended_at (Digits minus v) = with_sign minus v ∷ []
ended_at Bad = []

unfoldable pub ended : State → ℕ → List ℤ
ended s b = cond (separator b) (ended_at s) []

-- a value so far is within the limit
abbrev pub Sound : State → Type 0
Sound Between = Unit {0}
Sound Minus = Unit {0}
Sound (Digits minus v) = v ≤ limit minus
Sound Bad = Unit {0}

-- words stored behind those before, and their number
pub record Stored (d : List ℤ) (count : ℕ) (new : List ℤ) (r : ℕ) (e : List ℤ) : Type 0 where
  pub result : r ≡ count + length new
  pub words_are : e ≡ placed d count new

-- the answer of a pass that ends in a state behind a separator, with n words
abbrev pub closed : State → ℕ → Option ℕ
closed Between n = Some n
closed Minus n = None
closed (Digits minus v) n = None
closed Bad n = None

-- what a pass through a text gives: the answer r, and words over those of d
pub record Passed (text : List ℕ) (d : List ℤ) (r : Option ℕ) (e : List ℤ) : Type 0 where
  pub result : r ≡ answer (words_in (pieces text))
  pub words_are : (ws : List ℤ) → words_in (pieces text) ≡ some ws → e ≡ placed d 0 ws
