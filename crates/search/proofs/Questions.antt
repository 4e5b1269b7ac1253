-- Where no question is answered by no: there is room, and the record holds a legal network.
use mathlib.Core.Path.{◌≡◌}
use mathlib.Core.Bool.{◌&&◌}
use mathlib.Core.List.{List}
use Prim.Native.Nat.{ℕ, ◌≤◌}
use lib.Dec.{leb}
use lib.IntN.{ℤ}
use borrow.Author.Tests.{leb-true}
use Rattle.fraction.proofs.Laws.{and_both}
use Rattle.std.specs.Prelude.{Ok}
use Rattle.records.specs.declared.refusal.Refusal.{Refusal}
use Rattle.network.specs.Legal.{Legal}
use Rattle.records.specs.Questions.{first_no}
use Rattle.records.specs.Network.{questions, read_of}
use Rattle.records.proofs.Legal.{read-legal}
use Rattle.records.proofs.Questions.{none-no}
use Rattle.search.specs.Search.{refusal_of}

pub record AllYes (network : List ℤ) (log arcs : ℕ) : Type 0 where
  pub room : 10240 ≤ log
  pub wide : 96 ≤ arcs
  pub asked : first_no (questions network) ≡ Ok tt

pub all_yes : (network : List ℤ) (log arcs : ℕ) → refusal_of network log arcs ≡ Ok tt → AllYes network log arcs
unfolding refusal_of
all_yes network log arcs q =
    let a = none-no Refusal.Room (leb 10240 log && leb 96 arcs) q in
    let b = and_both (leb 10240 log) _ a.0 in
    record { room = leb-true _ _ b.0; wide = leb-true _ _ b.1; asked = a.1 }

pub legal-read : {network : List ℤ} {log arcs : ℕ} → AllYes network log arcs → Legal (read_of network)
legal-read {network} a = read-legal network a.asked
