-- Restoring passes a pair, with success or with 13, exactly where it is proven on the reduced network (demand 3, second sentence), and
-- answers 6 only where the network given has no feasible flow (demand 3, third sentence).
use mathlib.Core.Path.{◌≡◌, refl, sym, ap, ◌∙◌}
use mathlib.Core.Bool.{false}
use mathlib.Core.List.{List, ◌∷◌, ◌++◌}
use mathlib.Core.Logic.{◌↔◌, ◌⊎◌, inl, inr, ⊎_elim}
use Prim.Native.Nat.{ℕ}
use lib.IntN.{ℤ}
use Rattle.presolve.specs.LP as LP
use Rattle.fraction.proofs.Laws.{never}
use Rattle.network.specs.Legal.{Legal}
use Rattle.network.specs.Program.{program_of}
use Rattle.std.specs.Prelude.{Ok}
use Rattle.records.specs.declared.refusal.Refusal.{Refusal}
use Rattle.records.specs.Questions.{Question, ◌asks◌, first_no, number_in}
use Rattle.records.specs.Network.{questions, read_of}
use Rattle.records.proofs.Questions.{none-no}
use Rattle.records.proofs.Tables.{absent, behind, none-numbered, goes_on_lem, none_before, none-behind}
use Rattle.records.proofs.Legal.{read-legal}
use Rattle.survivors.proofs.Packed.{packed-legal}
use Rattle.survivors.proofs.Survivors.{packed-gapless}
use Rattle.step.specs.declared.Next.{Next}
use Rattle.step.specs.declared.Next.TheVariants.{Stops, Refuted, Takes}
use Rattle.step.specs.Run.{Run}
use Rattle.step.proofs.Lines.{split}
use Rattle.rules.specs.Table.{reduced}
use Rattle.rules.proofs.Whole as Whole
use Rattle.figures.specs.Figures.{test_questions}
use Rattle.optimality.specs.Test.{pair_questions, Proven}
use Rattle.optimality.proofs.Exactly.{exactly-proven}
use Rattle.restoration.specs.Restore.{is_reduced, is_stack, is_back, is_roomy, reduced_net, brought_back, offer_table, back_table, run_table, restore_table, refusal_of, earlier_table}

module _ (xs zs ys : List ℤ) (o v w k : ℕ) where
  abbrev run : Run
  run = reduced (read_of xs)

  -- 8 to 12
  abbrev offer : List Question
  offer = pair_questions (reduced_net run) ys

  abbrev back : List Question
  back = back_table (read_of xs) (brought_back run ys)

  module _ (h : first_no (earlier_table xs zs o v w k) ≡ Ok tt) where
    none : first_no (questions xs) ≡ Ok tt
    unfolding earlier_table
    none = none_before (questions xs) _ (none-no Refusal.Room (is_roomy o v w k) h).1

    -- what is left of the questions
    left_over : refusal_of xs zs ys o v w k ≡ first_no (offer ++ back)
    unfolding earlier_table restore_table run_table offer_table
    left_over =
        let a = none-no Refusal.Room (is_roomy o v w k) h in
        let b = none-behind (questions xs) _ a.1 in
        let c = none-no Refusal.NoFlow (is_reduced run.ends) b in
        let d = none-no Refusal.Stack (is_stack run zs) c.1 in
        rw a.0 (goes_on_lem (questions xs) (run_table (read_of xs) run zs ys) none ∙ rw (c.0, d.0))

    proven : first_no offer ≡ Ok tt ↔ Proven (reduced_net run) ys
    proven = let g = (Whole.whole (read_of xs) (read-legal xs none)).legal in exactly-proven (packed-legal g) (packed-gapless g) ys

    -- "a pair is passed where .. in restoring, where the answer is success or 13"
    pub passed-exactly : ((number_in (refusal_of xs zs ys o v w k) ≡ 0) ⊎ (number_in (refusal_of xs zs ys o v w k) ≡ 13)) ↔ Proven (reduced_net run) ys
    unfolding pair_questions test_questions
    passed-exactly = (
      λ p. proven.0 (⊎_elim (λ z. none_before offer back (sym left_over ∙ none-numbered _ z)) (λ z. (behind 13 offer back refl (rw left_over at z)).0) p),
      λ q. let e = left_over ∙ goes_on_lem offer back (proven.1 q) in split (is_back (read_of xs) (brought_back run ys)) (λ b. inl (ap number_in e ∙ rw b)) (λ b. inr (ap number_in e ∙ rw b)),
    )

  -- 6: the run of a legal network ends in no flow
  pub six-flowless : number_in (refusal_of xs zs ys o v w k) ≡ 6 → LP.NoFlow (program_of (read_of xs))
  unfolding restore_table run_table offer_table questions pair_questions test_questions
  six-flowless e =
      let a = behind 6 (Refusal.Room asks is_roomy o v w k ∷ questions xs) (run_table (read_of xs) run zs ys) refl e in
      split (is_reduced run.ends)
      (λ b. absurd (absent 6 (Refusal.Stack asks is_stack run zs ∷ (offer ++ back)) refl (rw b at a.1)))
      (λ b. ended run.ends refl b (read-legal xs (none-no Refusal.Room (is_roomy o v w k) a.0).1))
    where
      ended : (n : Next) → run.ends ≡ n → is_reduced n ≡ false → Legal (read_of xs) → LP.NoFlow (program_of (read_of xs))
      ended Stops q f g = never cc
      ended (Takes s) q f g = never cc
      ended (Refuted r i) q f g = Whole.flowless (read_of xs) g r i q
