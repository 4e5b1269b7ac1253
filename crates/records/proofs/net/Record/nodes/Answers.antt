-- `records::net::Record::nodes` meets its contract.
use Rattle.std.proofs.Common.{true}
use mathlib.Core.Path.{◌∙◌, sym}
use native.Mathlib.Omega.{arith}
use Rattle.loops.proofs.Laws.{build-const, filled_more, filled_none}
use Rattle.fraction.specs.Exact.{no_figure}
use Rattle.records.proofs.Legal.{nodes-are}
use Rattle.records.proofs.Part.{numbered, part-filled, part-read}
use Rattle.records.proofs.net.Record.nodes.Goals as goal

pub loop-i-init : goal.loop-i-init
loop-i-init c = filled_none _ _ _

pub loop-i-preserved : goal.loop-i-preserved
loop-i-preserved c =
    let p = numbered {d = no_figure} c.no_nodes-at.result.supply c.args.self.n (omega arith) in
    filled_more c.loop-i.invariant (omega arith) (omega (arith, p.long)) c.figure-in-loop-i.ensures

pub returns : goal.returns
returns c =
    let at = c.no_nodes-at.result in
    let n = c.args.self.n in
    λ arcs.
    rw (part-read (λ _. true) at.here n (c.fill.ensures.after (λ y e. e) ∙ sym (build-const _ true)) (omega arith), part-filled at.supply c.loop-i.invariant (omega arith) (omega arith), c.no_nodes-at.ensures, c.figure.ensures)
    (sym (nodes-are _ _ _ _ c.args.self.few_nodes))
