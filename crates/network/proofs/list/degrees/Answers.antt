use Rattle.network.proofs.Lists.{arc-is}
use Rattle.network.proofs.Tally.{tallied-le, tallied-more, tallied-none, tallied-to}
use Rattle.network.specs.ArcList.{nodes_of}
use Rattle.fraction.specs.Exact.{no_figure}
use Rattle.network.specs.Network.{empty_net}
use mathlib.Core.Path.{◌∙◌}
use native.Mathlib.Omega.{arith}
use Rattle.network.proofs.list.degrees.Goals as goal

-- `network::list::degrees` meets its contract.

pub loop-j-init : goal.loop-j-init
loop-j-init c = λ nodes. tallied-none _

pub count_ends-requires : goal.count_ends-requires
count_ends-requires c = record { few = tallied-le (c.loop-j.invariant (nodes_of (empty_net 0 0 no_figure))) }

pub loop-j-preserved : goal.loop-j-preserved
loop-j-preserved c = λ nodes. tallied-more (c.loop-j.invariant nodes) (omega arith) (c.read.ensures ∙ arc-is nodes _ _ (omega arith)) c.count_ends.ensures

pub returns : goal.returns
returns c = λ nodes. tallied-to _ (c.loop-j.invariant nodes) (omega arith)
