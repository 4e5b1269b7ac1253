-- `records::net::Record::of` meets its contract.
use mathlib.Core.Path.{refl, sym, ◌∙◌}
use Rattle.records.proofs.Questions.{no-nodes, no-arcs, right-length, wrong-length}
use Rattle.records.proofs.net.Record.of.Goals as goal

pub returns-in_err-n : goal.returns-in_err-n
returns-in_err-n c = rw c.from_residual.ensures (no-nodes _ (sym c.size_at.ensures ∙ c.in_err-n.was))

pub returns-in_err-m : goal.returns-in_err-m
returns-in_err-m c = rw c.from_residual-in_err-m.ensures (no-arcs _ _ (sym c.size_at.ensures ∙ c.in_ok-n.was) (sym c.size_at-2.ensures ∙ c.in_err-m.was))

pub returns-then-words-n : goal.returns-then-words-n
returns-then-words-n c = let h = right-length _ _ _ (sym c.size_at.ensures ∙ c.in_ok-n.was) (sym c.size_at-2.ensures ∙ c.in_ok-m.was) c.if-words-n.true in (h.0, refl, h.1, h.2)

pub returns-else-words-n : goal.returns-else-words-n
returns-else-words-n c = wrong-length _ _ _ (sym c.size_at.ensures ∙ c.in_ok-n.was) (sym c.size_at-2.ensures ∙ c.in_ok-m.was) c.if-words-n.false
