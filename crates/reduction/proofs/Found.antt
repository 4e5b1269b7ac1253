-- What a run that refuses nothing leaves: the definition's run, its steps in the log, its arcs in the list; and the words of its end.
use mathlib.Core.Path.{◌≡◌, refl, sym, ap, ap₂, ◌∙◌}
use mathlib.Core.List.{List}
use Prim.Native.Nat.{ℕ, ◌+◌, ◌*◌, ◌≤◌}
use native.Mathlib.Omega.{arith}
use lib.IntN.{ℤ}
use lib.ListN.{length}
use lib.Dec.{leb}
use mathlib.Core.Bool.{cond}
use Rattle.loops.specs.Loops.{zeros, written}
use Rattle.network.specs.declared.Arc.{Arc}
use Rattle.records.specs.Network.{read_of}
use Rattle.network.specs.ArcList.{arcs_in, joined, net_in}
use Rattle.step.specs.Run.{Run}
use Rattle.step.proofs.Fewer.{legal-left}
use Rattle.step_log.specs.Log.{Holds}
use Rattle.step_log.proofs.Logged.{logged-holds}
use Rattle.rules.specs.Table.{reduced}
use Rattle.rules.proofs.Whole as Whole
use Rattle.search.specs.declared.Ran.{Ran}
use Rattle.search.specs.Search.{ends_of, Reached}
use Rattle.search.specs.Search as Search
use Rattle.search.proofs.Questions.{AllYes, legal-read}
use Rattle.search.proofs.Left.{yes, net-left}
use Rattle.std.specs.Prelude.{Result, Ok, Err, ⊤}
use Rattle.records.specs.declared.refusal.Refusal.{Refusal}
use Rattle.records.proofs.Questions as No
use Rattle.records.proofs.Questions.{yes-asked}
use Rattle.reduction.specs.declared.End.{End}
use Rattle.records.specs.Logged.{stack_word, with_stack}
use Rattle.reduction.specs.Reduce.{refusal_of, end_of, end_output, Written}
use Rattle.records.proofs.Logged.{stack-written, with-room}
use Rattle.reduction.proofs.Entry.{room-is, out_short}

-- ---- the run

pub record Found (xs : List ℤ) (ran : Ran) (log : List ℤ) (arcs : List Arc) (w k : ℕ) : Type 0 where
  pub asked : AllYes xs w k
  pub few : ran.steps ≤ 128
  pub steps_is : length (reduced (read_of xs)).steps ≡ ran.steps
  pub ends_is : (reduced (read_of xs)).ends ≡ ends_of ran.contradiction
  pub net_is : net_in ran.nodes arcs ≡ (reduced (read_of xs)).net
  pub holds : Holds log 0 (reduced (read_of xs)).steps

pub found : {xs zs : List ℤ} {ks : List Arc} {ran : Ran} {log : List ℤ} {arcs : List Arc} → Reached xs zs ks ran log arcs → Found xs ran log arcs (length zs) (length ks)
found {xs} {zs} s =
    let a = yes s in
    let few : length (reduced (read_of xs)).steps ≤ 128 = omega (arith, (Whole.whole (read_of xs) (legal-read a)).few, legal-left (legal-read a)) in
    record {
      asked = a;
      few = omega (arith, few, s.steps_is);
      steps_is = sym (s.steps_is);
      ends_is = s.ends_is;
      net_is = net-left s;
      holds = rw (s.log_is) (logged-holds 0 (reduced (read_of xs)).steps zs (Whole.whole (read_of xs) (legal-read a)).small (omega (arith, few)) a.room);
    }

-- ---- the answer and the words, by the questions

module _ (xs : List ℤ) (o s w k : ℕ) where
  pub no-out : {q : Refusal} → ◌≡◌ {A = Result ⊤ Refusal} (Err q) (cond (leb 1412 o) (Ok tt) (Err Refusal.Room)) → refusal_of xs o s w k ≡ Err q
  no-out e = room-is xs o s w k ∙ out_short (leb 1412 o) (leb 257 s) _ e

  module _ {x : ⊤} (out : ◌≡◌ {A = Result ⊤ Refusal} (Ok x) (cond (leb 1412 o) (Ok tt) (Err Refusal.Room))) where
    pub no_stack : {q : Refusal} → ◌≡◌ {A = Result ⊤ Refusal} (Err q) (cond (leb 257 s) (Ok tt) (Err Refusal.Room)) → refusal_of xs o s w k ≡ Err q
    no_stack e = room-is xs o s w k ∙ rw (yes-asked _ _ out) (sym (No.refused _ _ _ e))

    pub has_room_lem : {y : ⊤} → ◌≡◌ {A = Result ⊤ Refusal} (Ok y) (cond (leb 257 s) (Ok tt) (Err Refusal.Room)) → refusal_of xs o s w k ≡ Search.refusal_of xs w k
    has_room_lem e = room-is xs o s w k ∙ rw (yes-asked _ _ out, yes-asked _ _ e)

pub refused : {run : Run} {out stack : List ℤ} {o s : ℕ} {p : Result ⊤ Refusal} {q : Refusal} → p ≡ Err q → out ≡ zeros o → stack ≡ zeros s → Written p run (Err q) out stack o s
refused e a b = rw e (record { result = refl; out_is = a; stack_is = b })

-- the end of a run, where its arcs are `view` and the stack was d
pub finished : {xs log d : List ℤ} {ran : Ran} {arcs view : List Arc} {w k : ℕ} {r : End} {out stack : List ℤ} {o : ℕ} {p : Result ⊤ Refusal} → Found xs ran log arcs w k → view ≡ arcs_in arcs → p ≡ Ok tt → d ≡ zeros (length d)
    → r ≡ end_of (ends_of ran.contradiction) → out ≡ end_output (ends_of ran.contradiction) (joined ran.nodes view) o → stack ≡ with_stack log ran.steps d → 257 ≤ length d → Written p (reduced (read_of xs)) (Ok r) out stack o (length d)
finished {xs} {log} {d} {ran} {o = o} f v e z a b c l =
    rw e
    (record {
      result = ap (λ t. Ok t) (a ∙ ap end_of (sym f.ends_is));
      out_is = b ∙ ap₂ (λ n net. end_output n net o) (sym f.ends_is) (ap (joined ran.nodes) v ∙ f.net_is);
      stack_is = c ∙ with-room log ran.steps d f.few l ∙ ap (λ n. written (1 + 2 * n) (stack_word log n) d) (sym f.steps_is) ∙ stack-written log (reduced (read_of xs)).steps f.holds d z;
    })
