-- What an answer of `reduce` says of the words that it was given, whatever they are.
use mathlib.Core.Path.{◌≡◌, refl, sym, ap, ◌∙◌}
use mathlib.Core.Bool.{Bool, true, false, cond, ◌&&◌}
use mathlib.Core.List.{List}
use Prim.Native.Nat.{ℕ, ◌+◌, ◌≤◌}
use native.Mathlib.Omega.{arith}
use lib.Dec.{leb}
use lib.IntN.{ℤ}
use lib.ListN.{length}
use Rattle.presolve.specs.LP as LP
use borrow.Author.Tests.{leb-true}
use Rattle.fraction.proofs.Laws.{never, and_both}
use Rattle.records.specs.Network.{n_of, m_of, questions, read_of, network_of}
use Rattle.loops.specs.Loops.{zeros}
use Rattle.network.specs.declared.Arc.{Arc}
use Rattle.network.specs.declared.Net.{Net}
use Rattle.network.specs.ArcList.{no_arcs}
use Rattle.network.specs.Legal.{Legal}
use Rattle.network.specs.Program.{program_of}
use Rattle.step.specs.declared.Next.{Next}
use Rattle.step.specs.declared.Next.TheVariants.{Stops, Refuted, Takes}
use Rattle.step.specs.Run.{Run, back_of}
use Rattle.step.specs.Applies.{NoneApplies, Shown}
use Rattle.step.proofs.RunLaws.{run_ends}
use Rattle.rules.specs.Table.{rules, last_rule, next_of, reduced}
use Rattle.rules.proofs.Whole as Whole
use Rattle.search.specs.Search as Search
use Rattle.search.proofs.Questions.{AllYes, all_yes, legal-read}
use Rattle.std.specs.Prelude.{Result, Ok, Err, ⊤}
use Rattle.std.specs.Result.{result_and}
use Rattle.records.specs.declared.refusal.Refusal.{Refusal}
use Rattle.reduction.specs.declared.End.{End}
use Rattle.reduction.specs.declared.End.TheVariants.{Reduced, NoFlow}
use Rattle.records.specs.Questions.{first_no, number_in}
use Rattle.records.proofs.Tables.{none-numbered}
use Rattle.records.specs.Cut.{cut_network}
use Rattle.reduction.proofs.ReadBack.{network-back}
use Rattle.survivors.specs.Survivors.{packed_of}
use Rattle.survivors.proofs.Tidy.{packed-tidy}
use Rattle.records.proofs.Questions.{none-no, all_yes as answered}
use Rattle.reduction.specs.Reduce.{is_roomy, reduce_table, refusal_of, end_of, answer_of, end_output, output_of, Written, Reduction}
use Rattle.reduction.proofs.Named.{next-shown}
use Rattle.reduction.proofs.Sizes.{read-sizes}

-- the room that the search asks for, among others
pub searched-room : (a b c : Bool) (q : Result ⊤ Refusal) → cond (a && (b && c)) q (Err Refusal.Room) ≡ cond (a && b) (cond c q (Err Refusal.Room)) (Err Refusal.Room)
searched-room true true true q = refl
searched-room true true false q = refl
searched-room true false c q = refl
searched-room false b c q = refl

-- the first of two questions of room, answered by no
pub out_short : (a b : Bool) (r : Result ⊤ Refusal) {q : Refusal} → ◌≡◌ {A = Result ⊤ Refusal} (Err q) (cond a (Ok tt) (Err Refusal.Room)) → cond (a && b) r (Err Refusal.Room) ≡ Err q
out_short true b r e = never cc
out_short false b r e = sym e

-- an answer by how the run ended
ended-no-flow : (t : Next) (rule i : ℕ) → NoFlow rule i ≡ end_of t → t ≡ Refuted rule i
ended-no-flow Stops rule i e = never cc
ended-no-flow (Takes s) rule i e = never cc
ended-no-flow (Refuted a b) rule i e = cc

ended-output : (t : Next) (net : Net) (o : ℕ) → Reduced ≡ end_of t → end_output t net o ≡ network_of (packed_of net) o
ended-output Stops net o e = refl
ended-output (Takes s) net o e = refl
ended-output (Refuted a b) net o e = never cc

same-number : (q : Result ⊤ Refusal) (e : End) → number_in (result_and q (Ok e)) ≡ number_in q
same-number (Ok x) e = refl
same-number (Err q) e = refl

module _ (xs : List ℤ) (o s w k : ℕ) where
  abbrev run : Run
  run = reduced (read_of xs)

  -- room for the outputs, then the questions of the search
  pub room-is : refusal_of xs o s w k ≡ cond (leb 1412 o && leb 257 s) (Search.refusal_of xs w k) (Err Refusal.Room)
  unfolding reduce_table is_roomy Search.refusal_of
  room-is = searched-room (leb 1412 o) (leb 257 s) (leb 10240 w && leb 96 k) (first_no (questions xs))

  module _ {r : Result End Refusal} (is : r ≡ answer_of (refusal_of xs o s w k) run) where
    number : number_in r ≡ number_in (refusal_of xs o s w k)
    number = ap number_in is ∙ same-number (refusal_of xs o s w k) (end_of run.ends)

    none : number_in r ≡ 0 → refusal_of xs o s w k ≡ Ok tt
    none z = none-numbered (refusal_of xs o s w k) (sym number ∙ z)

    -- where nothing is refused, there is room, the record holds a legal network, and the answer is by how its run ended
    yes : number_in r ≡ 0 → (1412 ≤ o) × AllYes xs w k
    yes z =
        let a = none-no Refusal.Room (leb 1412 o && leb 257 s) (sym room-is ∙ none z) in
        (leb-true _ _ (and_both (leb 1412 o) _ a.0).0, all_yes xs w k a.1)

    legal : number_in r ≡ 0 → Legal (read_of xs)
    legal z = legal-read (yes z).1

    ended : (e : End) → r ≡ Ok e → e ≡ end_of run.ends
    ended e z = let f = sym z ∙ is ∙ ap (λ q. answer_of q run) (none (ap number_in z)) in cc

    -- no rule applies to what is left, at any place; "there are at most n + m steps"
    until_none : r ≡ Ok Reduced → NoneApplies last_rule rules run.net
    until_none e = let z = ap number_in e in Whole.none-applies (read_of xs) (legal z) (λ k i q. never (let c = ended Reduced e ∙ ap end_of q in cc))

    few_steps : number_in r ≡ 0 → length run.steps ≤ n_of xs + m_of xs
    few_steps z = let a = read-sizes xs (answered xs (yes z).1.asked).0 in omega (arith, Whole.few_steps (read_of xs) (legal z), a.0, a.1)

    -- the record written is read as the network that it is of
    reads_back : {out : List ℤ} → out ≡ output_of (refusal_of xs o s w k) run o → r ≡ Ok Reduced → (first_no (questions (cut_network (packed_of run.net) out)) ≡ Ok tt) × (read_of (cut_network (packed_of run.net) out) ≡ packed_of run.net)
    reads_back f e =
        let z = ap number_in e in
        let t = packed-tidy (Whole.whole (read_of xs) (legal z)).legal in
        rw (f ∙ ap (λ q. output_of q run o) (none z) ∙ ended-output run.ends run.net o (ended Reduced e)) (network-back (packed_of run.net) o t.0 t.1 t.2 (yes z).0)

    -- no flow: the rule named shows it at the place named, and the network given has no feasible flow
    refuted : (rule i : ℕ) → r ≡ Ok (NoFlow rule i) → run.ends ≡ Refuted rule i
    refuted rule i e = ended-no-flow run.ends rule i (ended (NoFlow rule i) e)

    pub shown : (rule i : ℕ) → r ≡ Ok (NoFlow rule i) → Shown rules run.net rule i
    shown rule i e = next-shown last_rule rules _ rule i (sym (run_ends next_of (back_of rules) Whole.next-right 128 (read_of xs)) ∙ refuted rule i e)

    pub flowless : (rule i : ℕ) → r ≡ Ok (NoFlow rule i) → LP.NoFlow (program_of (read_of xs))
    flowless rule i e = Whole.flowless (read_of xs) (legal (ap number_in e)) rule i (refuted rule i e)

  -- ALL THAT A CALL SAYS, from the result and the words
  pub says : {r : Result End Refusal} {out stack scratch : List ℤ} {arcs : List Arc} → Written (refusal_of xs o s w k) run r out stack o s → scratch ≡ zeros w → arcs ≡ no_arcs k → Reduction xs o s w k r out stack scratch arcs
  says h z a =
      let is = h.result in
      record { number = number is; result = is; out_is = h.out_is; stack_is = h.stack_is; scratch_is = z; arcs_is = a; until_none = until_none is; few_steps = few_steps is; reads_back = reads_back is h.out_is; shown = shown is; flowless = flowless is }
