-- The numbers that an answer can have.
use mathlib.Core.Path.{◌≡◌, refl}
use mathlib.Core.List.{List}
use Prim.Native.Nat.{ℕ, ◌≤◌}
use native.Mathlib.Omega.{arith}
use lib.IntN.{ℤ}
use Rattle.network.specs.declared.Arc.{Arc}
use Rattle.network.specs.declared.Net.{Net}
use Rattle.records.specs.Network.{questions, read_of}
use Rattle.records.proofs.Tables.{up_to, numbered, same-by_number}
use Rattle.step.specs.Applies.{Shown}
use Rattle.rules.specs.Table.{rules, last_rule, reduced}
use Rattle.rules.proofs.Whole.{few_places}
use Rattle.figures.specs.Figures.{test_questions}
use Rattle.optimality.specs.Test.{pair_questions, test_table}
use Rattle.std.specs.Prelude.{Result, Ok, Err, ⊤}
use Rattle.records.specs.declared.refusal.Refusal.{Refusal}
use Rattle.records.specs.Questions.{number_in}
use Rattle.reduction.specs.declared.End.{End}
use Rattle.reduction.specs.declared.End.TheVariants.{Reduced, NoFlow}
use Rattle.reduction.specs.Reduce.{reduce_table, refusal_of, answer_of, Reduction}
use Rattle.reduction.proofs.Entry.{shown}
use Rattle.restoration.specs.Restore.{offer_table, run_table, restore_table}
use Rattle.optimality.specs.Test as Test
use Rattle.restoration.specs.Restore as Restore
use Rattle.patskvime.specs.Codes.{Within, code_of, Ranged}

-- a rule that shows no flow is one of the table, at one of its places
shown-within : {net : Net} {i r : ℕ} → Shown rules net r i → Within 1 last_rule r × Within 1 96 i
shown-within {r = r} h = (h.rule, (h.place.0, omega (arith, h.place.1, few_places r)))

module _ (xs : List ℤ) (o s w k : ℕ) where
  few : number_in (refusal_of xs o s w k) ≤ 5
  unfolding reduce_table questions
  few = up_to 5 (reduce_table xs o s w k) refl

  pub ranged : {r : Result End Refusal} {out stack scratch : List ℤ} {arcs : List Arc} → Reduction xs o s w k r out stack scratch arcs → Ranged r
  ranged {r} h = by r h.number h.result
    where
      by : (r : Result End Refusal) → number_in r ≡ number_in (refusal_of xs o s w k) → r ≡ answer_of (refusal_of xs o s w k) (reduced (read_of xs)) → Ranged r
      by (Ok Reduced) n e = tt
      by (Ok (NoFlow rule place)) n e = shown-within (shown xs o s w k e rule place refl)
      by (Err q) n e = (numbered q, omega (arith, n, few))

-- the numbers of the test and of restoring
pub test-ranged : {xs ys values : List ℤ} {room : ℕ} {r : Result ⊤ Refusal} → Test.Tested xs ys room r values → number_in r ≤ 12
unfolding test_table questions pair_questions test_questions
test-ranged {xs} {ys} {room = room} h = rw h.number (up_to 12 (test_table xs ys room) refl)

pub restore-ranged : {xs zs ys out values scratch : List ℤ} {o v w k : ℕ} {r : Result ⊤ Refusal} {arcs : List Arc} → Restore.Restoration xs zs ys o v w k r out values scratch arcs → number_in r ≤ 13
unfolding restore_table run_table offer_table questions pair_questions test_questions
restore-ranged {xs} {zs} {ys} {o = o} {v} {w} {k} h = rw h.number (up_to 13 (restore_table xs zs ys o v w k) refl)

-- a code tells the answer
pub code-tells : (a b : Result End Refusal) → Ranged a → Ranged b → code_of a ≡ code_of b → a ≡ b
code-tells (Ok Reduced) (Ok Reduced) h k e = refl
code-tells (Ok Reduced) (Ok (NoFlow rule place)) h k e = absurd (omega (arith, k.0.0))
code-tells (Ok Reduced) (Err q) h k e = absurd (omega (arith, k.0))
code-tells (Ok (NoFlow rule place)) (Ok Reduced) h k e = absurd (omega (arith, h.0.0))
code-tells (Ok (NoFlow rule place)) (Ok (NoFlow other elsewhere)) h k e =
    let r : rule ≡ other = omega (arith, h.1.1, k.1.1) in
    let p : place ≡ elsewhere = omega (arith, h.1.1, k.1.1) in
    rw (r, p)
code-tells (Ok (NoFlow rule place)) (Err q) h k e = absurd (omega (arith, h.0.0, k.1))
code-tells (Err q) (Ok Reduced) h k e = absurd (omega (arith, h.0))
code-tells (Err q) (Ok (NoFlow rule place)) h k e = absurd (omega (arith, h.1, k.0.0))
code-tells (Err q) (Err other) h k e = rw (same-by_number q other e)
