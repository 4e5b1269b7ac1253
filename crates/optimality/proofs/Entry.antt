-- What an answer of `test` says of the words that it was given, whatever they are.
use mathlib.Core.Path.{◌≡◌, sym, ap, ◌∙◌, subst}
use mathlib.Core.List.{List, ◌∷◌}
use Prim.Native.Nat.{ℕ}
use lib.Dec.{leb}
use lib.IntN.{ℤ}
use Rattle.std.specs.Prelude.{Result, Ok, Err, ⊤}
use Rattle.loops.specs.Loops.{zeros}
use Rattle.fraction.specs.Formula.{figure_of}
use Rattle.records.specs.declared.refusal.Refusal.{Refusal}
use Rattle.records.specs.Questions.{Question, ◌asks◌, first_no, number_in}
use Rattle.records.specs.Network.{questions, read_of}
use Rattle.records.specs.Values.{two_words}
use Rattle.records.proofs.Questions.{none-no}
use Rattle.records.proofs.Tables.{stops, goes_on_lem, none_before}
use Rattle.records.proofs.Legal.{read-legal, read-gapless}
use Rattle.figures.specs.Figures.{value_of}
use Rattle.optimality.specs.Test.{pair_in, pair_questions, test_table, values_by, Proven, Least, Tested}
use Rattle.optimality.proofs.Exactly.{exactly-proven, proven-least}

module _ (xs ys : List ℤ) (room : ℕ) where
  -- 1 to 5, and what comes behind
  abbrev before : List Question
  before = (Refusal.Room asks leb 2 room) ∷ questions xs

  by-pair : first_no before ≡ Ok tt → first_no (test_table xs ys room) ≡ first_no (pair_questions (read_of xs) ys)
  unfolding test_table
  by-pair e = goes_on_lem before (pair_questions (read_of xs) ys) e

  by-network : (q : Refusal) → first_no before ≡ Err q → first_no (test_table xs ys room) ≡ Err q
  unfolding test_table
  by-network q e = stops before (pair_questions (read_of xs) ys) q e

  none-of-5 : first_no (test_table xs ys room) ≡ Ok tt → first_no before ≡ Ok tt
  unfolding test_table
  none-of-5 e = none_before before (pair_questions (read_of xs) ys) e

  -- where none of 1 to 5 is answered by no
  module _ (e : first_no before ≡ Ok tt) where
    asked : first_no (questions xs) ≡ Ok tt
    asked = (none-no Refusal.Room (leb 2 room) e).1

    proven : first_no (test_table xs ys room) ≡ Ok tt → Proven (read_of xs) ys
    proven z = (exactly-proven (read-legal xs asked) (read-gapless xs asked) ys).0 (sym (by-pair e) ∙ z)

    none : Proven (read_of xs) ys → first_no (test_table xs ys room) ≡ Ok tt
    none p = by-pair e ∙ (exactly-proven (read-legal xs asked) (read-gapless xs asked) ys).1 p

  -- the result and the words that are written, and what they say
  tested : (r : Result ⊤ Refusal) (values : List ℤ) → r ≡ first_no (test_table xs ys room) → values ≡ values_by r (read_of xs) (pair_in (read_of xs) ys) room → Tested xs ys room r values
  tested r values a v =
      record {
        result = a;
        number = ap number_in a;
        values_are = rw a at v;
        exactly = λ e. (λ p. proven e (sym a ∙ p), λ p. a ∙ none e p);
        least = λ p.
            let z = sym a ∙ p in
            let e = none-of-5 z in
            subst (Least (read_of xs) ys) (sym (rw p at v)) (proven-least (read-legal xs (asked e)) (read-gapless xs (asked e)) ys room (proven e z));
      }

  -- a pair that is passed
  pub passed : first_no before ≡ Ok tt → (values : List ℤ) → first_no (pair_questions (read_of xs) ys) ≡ Ok tt → values ≡ two_words (figure_of (value_of (read_of xs) (pair_in (read_of xs) ys))) room → Tested xs ys room (Ok tt) values
  passed e values z v = tested (Ok tt) values (sym (by-pair e ∙ z)) v

  -- a refusal by a question of 1 to 5, and by one of 8 to 12
  pub refused-before : {q : Refusal} {values : List ℤ} → first_no before ≡ Err q → values ≡ zeros room → Tested xs ys room (Err q) values
  refused-before {q} {values} z n = tested (Err q) values (sym (by-network q z)) n

  pub refused-pair : first_no before ≡ Ok tt → {q : Refusal} {values : List ℤ} → first_no (pair_questions (read_of xs) ys) ≡ Err q → values ≡ zeros room → Tested xs ys room (Err q) values
  refused-pair e {q} {values} z n = tested (Err q) values (sym (by-pair e ∙ z)) n
