-- `records::net::Record::has_ends_at` meets its contract.
use Rattle.records.specs.Network.{has_ends}
use Rattle.records.proofs.net.Record.has_ends_at.Goals as goal

pub returns-then-is_end : goal.returns-then-is_end
unfolding has_ends
returns-then-is_end c =
    let e = rw c.figure.ensures at c.is_end.ensures in
    rw (← e, c.if-is_end.true, c.is_end-then-is_end.ensures, c.figure-then-is_end.ensures)

pub returns-else-is_end : goal.returns-else-is_end
unfolding has_ends
returns-else-is_end c =
    let e = rw c.figure.ensures at c.is_end.ensures in
    rw (← e, c.if-is_end.false)
