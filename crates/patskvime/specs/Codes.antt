-- The codes that other languages get for an answer, beside all that the call says.
use Rattle.std.specs.Prelude.{◌≡◌, List, ℕ, ◌+◌, ◌*◌, ◌≤◌, ℤ, Result, Ok, Err, ⊤}
use Rattle.network.specs.Limits.{max_arcs}
use Rattle.network.specs.ArcList.{no_arcs}
use Rattle.rules.specs.Table.{last_rule}
use Rattle.records.specs.declared.refusal.Refusal.{Refusal}
use Rattle.records.specs.Questions.{number_of, number_in}
use Rattle.reduction.specs.declared.End.{End}
use Rattle.reduction.specs.declared.End.TheVariants.{Reduced, NoFlow}
use Rattle.reduction.specs.Reduce.{Reduction}
use Rattle.optimality.specs.Test as Test
use Rattle.restoration.specs.Restore as Restore

-- 0 for a reduced network, 256 × rule + place for no flow, the question's number for a refusal
abbrev pub end_code : End → ℕ
end_code Reduced = 0
end_code (NoFlow rule place) = 256 * rule + place

abbrev pub code_of : Result End Refusal → ℕ
code_of (Ok end) = end_code end
code_of (Err q) = number_of q

-- the numbers that an answer can have: so the kinds of answer have different codes, and a code tells rule and place
abbrev pub Within : ℕ → ℕ → ℕ → Type 0
Within low high x = (low ≤ x) × (x ≤ high)

abbrev pub EndRanged : End → Type 0
EndRanged Reduced = Unit {0}
EndRanged (NoFlow rule place) = Within 1 last_rule rule × Within 1 max_arcs place

abbrev pub Ranged : Result End Refusal → Type 0
Ranged (Ok end) = EndRanged end
Ranged (Err q) = Within 1 5 (number_of q)

-- ---- a call, with an arc list of its own: all that it says of an answer, and the result, which is the answer's code

pub record ReductionCode (xs : List ℤ) (o s w r : ℕ) (out stack scratch : List ℤ) : Type 0 where
  pub answer : Result End Refusal
  pub says : Reduction xs o s w max_arcs answer out stack scratch (no_arcs max_arcs)
  pub code : r ≡ code_of answer
  pub ranged : Ranged answer

pub record TestCode (xs ys : List ℤ) (room r : ℕ) (values : List ℤ) : Type 0 where
  pub answer : Result ⊤ Refusal
  pub says : Test.Tested xs ys room answer values
  pub code : r ≡ number_in answer
  pub ranged : r ≤ 12

pub record RestorationCode (xs zs ys : List ℤ) (o v w r : ℕ) (out values scratch : List ℤ) : Type 0 where
  pub answer : Result ⊤ Refusal
  pub says : Restore.Restoration xs zs ys o v w max_arcs answer out values scratch (no_arcs max_arcs)
  pub code : r ≡ number_in answer
  pub ranged : r ≤ 13
