use Rattle.loops.proofs.Laws.{missed-all, missed_more, missed-none}
use Rattle.network.proofs.Lists.{arc-is}
use Rattle.search.proofs.Scans.{no_root, unused-none}
use mathlib.Core.Path.{refl, sym, ◌∙◌}
use native.Mathlib.Omega.{arith}
use Rattle.search.proofs.scan.Working.costly.Goals as goal

pub loop-j-init : goal.loop-j-init
loop-j-init c = let g = c.args.self.legal in (g.few_arcs, missed_more (missed-none _ _) (omega arith) (unused-none g 0 g.no-arc), c.requires)

pub returns-then-is_root : goal.returns-then-is_root
returns-then-is_root c = (rw (c.join-net.ensures, c.view.ensures) at c.at_costly-found.ensures) c.loop-j.invariant.2

pub loop-j-preserved : goal.loop-j-preserved
loop-j-preserved c = let h = c.loop-j.invariant in (h.0, missed_more h.1 (omega arith) (rw (c.read-t.ensures ∙ arc-is c.args.self.nodes.now _ _ (omega arith)) at (sym c.is_root.ensures ∙ c.if-is_root.false)), h.2)

pub returns : goal.returns
returns c = let h = c.loop-j.invariant in (no_root c.args.self.legal (missed-all h.1 (omega arith)) refl, h.2)
