-- What the parts of restoring ask and answer.
use Rattle.std.specs.Prelude.{◌≡◌, List, ℕ, ◌≤◌, ℤ, length, Result, Ok, Err, ⊤}
use Rattle.loops.specs.Loops.{zeros}
use Rattle.fraction.specs.declared.Fraction.{Fraction}
use Rattle.fraction.specs.Formula.{figure_of}
use Rattle.network.specs.declared.Net.{Net}
use Rattle.survivors.specs.Survivors.{packed_of}
use Rattle.step.specs.Run.{Way}
use Rattle.figures.specs.Figures.{value_of}
use Rattle.optimality.specs.declared.Examined.{Examined}
use Rattle.optimality.specs.Test.{pair_in}
use Rattle.survivors.specs.Survivors.{spread_of}
use Rattle.records.specs.Limits.{pair_room, value_room}
use Rattle.records.specs.Questions.{first_no}
use Rattle.records.specs.declared.refusal.Refusal.{Refusal}
use Rattle.restoration.specs.Restore.{original_value, back_table, out_of}
use Rattle.records.specs.Values.{four_words}

-- lent slices of zeros, with room
pub record Empty (out values : List ℤ) : Type 0 where
  pub no-pair : out ≡ zeros (length out)
  pub no_values : values ≡ zeros (length values)
  pub out_room : pair_room ≤ length out
  pub values_room : value_room ≤ length values

-- the pair at the original numbers, and its value on the reduced network
abbrev pub offer_of : Net → List ℤ → Examined
offer_of net ys = record { pair = spread_of net (pair_in (packed_of net) ys); value = figure_of (value_of (packed_of net) (pair_in (packed_of net) ys)) }

-- question 13 at the end of the way, with the reduced value x
abbrev pub values_with : Result ⊤ Refusal → Fraction → Net → Way → ℕ → List ℤ
values_with (Ok y) x net way v = four_words x (original_value net way) v
values_with (Err q) x net way v = zeros v

pub record Ended (net : Net) (x : Fraction) (way : Way) (r : Result ⊤ Refusal) (out values : List ℤ) (o v : ℕ) : Type 0 where
  pub result : r ≡ first_no (back_table net way)
  pub out_is : out ≡ out_of (first_no (back_table net way)) net way o
  pub values_is : values ≡ values_with (first_no (back_table net way)) x net way v
