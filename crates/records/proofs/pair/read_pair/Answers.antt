-- `records::pair::read_pair` meets its contract.
use borrow.Author.Tests.{le-leb, lt-leb}
use Rattle.records.specs.Pair.{pair_of}
use Rattle.records.proofs.Paired.{pair-read}
use Rattle.records.proofs.pair.read_pair.Goals as goal
use Rattle.records.proofs.pair.read_pair.Goals.{else-n-le-MAX_NODES-via-then-n-le-MAX_NODES+else-m-le-MAX_ARCS, else-n-le-MAX_NODES-via-else-n-le-MAX_NODES}

pub returns-then-m-le-MAX_ARCS : goal.returns-then-m-le-MAX_ARCS
returns-then-m-le-MAX_ARCS c = pair-read _ _ _ c.if-n-le-MAX_NODES.true c.if-m-le-MAX_ARCS.true _ c.no_pair-pair.ensures c.read_figures.ensures c.read_figures-then-m-le-MAX_ARCS.ensures

pub returns-else-n-le-MAX_NODES : goal.returns-else-n-le-MAX_NODES
unfolding pair_of
returns-else-n-le-MAX_NODES c =
    elim c.else-n-le-MAX_NODES.branch [
      | else-n-le-MAX_NODES-via-then-n-le-MAX_NODES+else-m-le-MAX_ARCS w ↦ rw (le-leb _ 32 w.if-n-le-MAX_NODES.true, lt-leb _ 96 w.if-m-le-MAX_ARCS.false) c.no_pair-pair.ensures
      | else-n-le-MAX_NODES-via-else-n-le-MAX_NODES w ↦ rw (lt-leb _ 32 w.if-n-le-MAX_NODES.false) c.no_pair-pair.ensures
    ]
