-- What reducing answers, and the words that it writes.
use Rattle.std.specs.Prelude.{◌≡◌, Bool, ◌&&◌, List, [], ◌∷◌, ℕ, ◌+◌, Result, Ok, Err, ⊤, ◌≤◌, leb, ℤ, length}
use Rattle.std.specs.Result.{result_and}
use Rattle.loops.specs.Loops.{zeros}
use Rattle.presolve.specs.LP as LP
use Rattle.network.specs.declared.Arc.{Arc}
use Rattle.network.specs.declared.Net.{Net}
use Rattle.network.specs.Limits.{max_arcs}
use Rattle.records.specs.Limits.{network_room, stack_room, scratch_room}
use Rattle.records.specs.Questions.{Question, ◌asks◌, first_no, number_in}
use Rattle.records.specs.Network.{n_of, m_of, questions, read_of, network_of}
use Rattle.records.specs.Cut.{cut_network}
use Rattle.records.specs.Stack as Stack
use Rattle.survivors.specs.Survivors.{packed_of}
use Rattle.network.specs.Program.{program_of}
use Rattle.network.specs.ArcList.{no_arcs}
use Rattle.step.specs.declared.Next.{Next}
use Rattle.step.specs.declared.Next.TheVariants.{Stops, Refuted, Takes}
use Rattle.step.specs.Run.{Run}
use Rattle.step.specs.Applies.{NoneApplies, Shown}
use Rattle.rules.specs.Table.{rules, last_rule, reduced}
use Rattle.records.specs.declared.refusal.Refusal.{Refusal}
use Rattle.reduction.specs.declared.End.{End}
use Rattle.reduction.specs.declared.End.TheVariants.{Reduced, NoFlow}

-- ---- the questions, in order, of the network's words and of the lengths of the lent output, stack, scratch and arc list

-- words for the network, the stack and scratch, and an arc list of at least `max_arcs` records
unfoldable pub is_roomy : ℕ → ℕ → ℕ → ℕ → Bool
is_roomy out stack scratch arcs = leb network_room out && (leb stack_room stack && (leb scratch_room scratch && leb max_arcs arcs))

-- "Are the lent outputs and scratch long enough? 1"; then 2 to 5
unfoldable pub reduce_table : List ℤ → ℕ → ℕ → ℕ → ℕ → List Question
reduce_table xs out stack scratch arcs = Refusal.Room asks is_roomy out stack scratch arcs ∷ questions xs

abbrev pub refusal_of : List ℤ → ℕ → ℕ → ℕ → ℕ → Result ⊤ Refusal
refusal_of xs out stack scratch arcs = first_no (reduce_table xs out stack scratch arcs)

-- ---- the answer and the words written, by the first question that is answered by no, and by the run

-- "no flow comes with its rule, its place and the steps before it"
abbrev pub end_of : Next → End
end_of Stops = Reduced
end_of (Takes s) = Reduced
end_of (Refuted rule place) = NoFlow rule place

abbrev pub answer_of : Result ⊤ Refusal → Run → Result End Refusal
answer_of r run = result_and r (Ok (end_of run.ends))

-- "the network output is then zero"
abbrev pub end_output : Next → Net → ℕ → List ℤ
end_output Stops net room = network_of (packed_of net) room
end_output (Takes s) net room = network_of (packed_of net) room
end_output (Refuted rule place) net room = zeros room

abbrev pub output_of : Result ⊤ Refusal → Run → ℕ → List ℤ
output_of (Ok x) run room = end_output run.ends run.net room
output_of (Err q) run room = zeros room

abbrev pub stack_of : Result ⊤ Refusal → Run → ℕ → List ℤ
stack_of (Ok x) run room = Stack.stack_of run.steps room
stack_of (Err q) run room = zeros room

-- what is given back and written where the questions come to q
pub record Written (q : Result ⊤ Refusal) (run : Run) (r : Result End Refusal) (out stack : List ℤ) (o s : ℕ) : Type 0 where
  pub result : r ≡ answer_of q run
  pub out_is : out ≡ output_of q run o
  pub stack_is : stack ≡ stack_of q run s

-- the values of an end, the rule and the place of no flow
abbrev pub values_of : End → List ℕ
values_of Reduced = []
values_of (NoFlow rule place) = rule ∷ place ∷ []

-- ---- a call: the network's words, the lengths of the lent output, stack, scratch and arc list; the result, all words written, and the records

pub record Reduction (xs : List ℤ) (o s w k : ℕ) (r : Result End Refusal) (out stack scratch : List ℤ) (arcs : List Arc) : Type 0 where
  -- the first refusal that applies; else the run's end
  pub number : number_in r ≡ number_in (first_no (reduce_table xs o s w k))
  pub result : r ≡ answer_of (first_no (reduce_table xs o s w k)) (reduced (read_of xs))
  pub out_is : out ≡ output_of (first_no (reduce_table xs o s w k)) (reduced (read_of xs)) o
  pub stack_is : stack ≡ stack_of (first_no (reduce_table xs o s w k)) (reduced (read_of xs)) s
  pub scratch_is : scratch ≡ zeros w
  pub arcs_is : arcs ≡ no_arcs k
  -- "until none applies": no rule applies to what is left, at any place; "there are at most n + m steps"
  pub until_none : r ≡ Ok Reduced → NoneApplies last_rule rules (reduced (read_of xs)).net
  pub few_steps : number_in r ≡ 0 → length (reduced (read_of xs)).steps ≤ n_of xs + m_of xs
  -- the record written, cut to its length, passes 2 to 5 and is read as that network: the test asks of it what restoring asks
  pub reads_back : r ≡ Ok Reduced → (first_no (questions (cut_network (packed_of (reduced (read_of xs)).net) out)) ≡ Ok tt) × (read_of (cut_network (packed_of (reduced (read_of xs)).net) out) ≡ packed_of (reduced (read_of xs)).net)
  -- no flow: the rule named shows it at the place named, and the network given has no feasible flow, in fractions of any width
  pub shown : (rule place : ℕ) → r ≡ Ok (NoFlow rule place) → Shown rules (reduced (read_of xs)).net rule place
  pub flowless : (rule place : ℕ) → r ≡ Ok (NoFlow rule place) → LP.NoFlow (program_of (read_of xs))
