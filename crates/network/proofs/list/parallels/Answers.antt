use mathlib.Core.Path.{◌≡◌, ◌∙◌, subst}
use native.Mathlib.Omega.{arith}
use Rattle.network.proofs.Linked.{Linked, linked-none, linked-more, linked-all}
use Rattle.network.proofs.Lists.{arc-is}
use Rattle.network.specs.ArcList.{net_in}
use Rattle.network.proofs.list.parallels.Goals as goal

-- `network::list::parallels` meets its contract.

pub loop-k-init : goal.loop-k-init
loop-k-init c = λ nodes q g. subst (Linked (net_in nodes _) _ _) q (linked-none g)

pub loop-k-preserved : goal.loop-k-preserved
loop-k-preserved c = λ nodes q g. let h = c.loop-k.invariant nodes q g in linked-more g h (omega arith) (c.read.ensures ∙ arc-is nodes _ _ (omega (arith, h.few))) c.link.ensures

pub returns : goal.returns
returns c = λ nodes q g. let z : c.loop-k.k ≡ 0 = omega arith in linked-all g (rw z at (c.loop-k.invariant nodes q g))
