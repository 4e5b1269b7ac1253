-- `records::net::Record::arcs` meets its contract.
use mathlib.Core.Path.{◌∙◌, ap, sym}
use native.Mathlib.Omega.{arith}
use lib.ListN.{replicate}
use Rattle.loops.proofs.Laws.{filled_more, filled_none}
use Rattle.network.specs.ArcList.{joined}
use Rattle.network.specs.Network.{no_arc}
use Rattle.records.proofs.Legal.{arcs_are}
use Rattle.records.proofs.Part.{numbered, part-filled}
use Rattle.records.proofs.net.Record.arcs.Goals as goal

pub loop-j-init : goal.loop-j-init
loop-j-init c = filled_none _ _ _

pub loop-j-preserved : goal.loop-j-preserved
loop-j-preserved c =
    let p = numbered {d = no_arc} (replicate 97 c.no_arc-z.result) c.args.self.m (omega arith) in
    filled_more c.loop-j.invariant (omega arith) (omega (arith, p.long)) c.arc.ensures

pub returns : goal.returns
returns c =
    λ nodes.
    ap (joined nodes) (part-filled (replicate 97 c.no_arc-z.result) c.loop-j.invariant (omega arith) (omega arith))
    ∙ rw c.no_arc-z.ensures (sym (arcs_are _ _ _ _ _ c.args.self.few_arcs))
