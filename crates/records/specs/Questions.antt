-- Questions before work (01): the number of each, a table of questions in their order, and the first that is answered by no.
use Rattle.std.specs.Prelude.{Bool, cond, List, [], ◌∷◌, ℕ, Result, Ok, Err, ⊤}
use Rattle.std.specs.Result.{result_and}
use Rattle.records.specs.declared.refusal.Refusal.{Refusal}
use Rattle.records.specs.declared.refusal.Refusal.TheVariants.{Room, Sizes, Form, Ends, Multipliers, NoFlow, Stack, Pair, Width, Balance, Bounds, Prices, WayBack, Text}

-- the paper's number of a refusal
abbrev pub number_of : Refusal → ℕ
number_of Room = 1
number_of Sizes = 2
number_of Form = 3
number_of Ends = 4
number_of Multipliers = 5
number_of NoFlow = 6
number_of Stack = 7
number_of Pair = 8
number_of Width = 9
number_of Balance = 10
number_of Bounds = 11
number_of Prices = 12
number_of WayBack = 13
number_of Text = 14

-- the paper's number of a result, 0 where nothing is refused
abbrev pub number_in : {T : Type 0} → Result T Refusal → ℕ
number_in (Ok x) = 0
number_in (Err q) = number_of q

pub record Question : Type 0 where
  pub refusal : Refusal
  pub yes? : Bool

infix 70 ◌asks◌
abbrev pub ◌asks◌ : Refusal → Bool → Question
q asks b = record { refusal = q; yes? = b }

abbrev pub first_no : List Question → Result ⊤ Refusal
first_no [] = Ok tt
first_no (q ∷ qs) = cond q.yes? (first_no qs) (Err q.refusal)

-- a value, where no question is answered by no
abbrev pub answered : {T : Type 0} → List Question → T → Result T Refusal
answered qs x = result_and (first_no qs) (Ok x)
