use Rattle.search.proofs.Scans.{closed-here, closed-later, from_here, from_more, from-done}
use mathlib.Core.Path.{refl, sym, ◌∙◌}
use native.Mathlib.Omega.{arith}
use Rattle.search.proofs.scan.Working.next.Goals as goal

pub returns-then-is_found : goal.returns-then-is_found
returns-then-is_found c = (closed-here _ c.closed-one.ensures (sym c.is_found.ensures ∙ c.if-is_found.true), c.requires)

pub loop-k-init : goal.loop-k-init
loop-k-init c = (omega arith, closed-later _ c.closed-one.ensures (sym c.is_found.ensures ∙ c.if-is_found.false), c.requires)

pub at_places-x-requires : goal.at_places-x-requires
at_places-x-requires c = let h = c.loop-k.invariant in record { of_table = (h.0, omega (arith, c.loop-k-test.true)); counted = c.degrees-degrees.ensures c.args.self.nodes.now; known = h.2 }

pub returns-then-is_found-2 : goal.returns-then-is_found-2
returns-then-is_found-2 c = let x = c.at_places-x.ensures in (from_here c.loop-k.invariant.1 (omega (arith, c.loop-k-test.true)) x.0 (sym c.is_found-in-loop-k.ensures ∙ c.if-is_found-2.true), x.1)

pub loop-k-preserved : goal.loop-k-preserved
loop-k-preserved c = let x = c.at_places-x.ensures in (omega (arith, c.loop-k.invariant.0), from_more c.loop-k.invariant.1 (omega (arith, c.loop-k-test.true)) x.0 (sym c.is_found-in-loop-k.ensures ∙ c.if-is_found-2.false), x.1)

pub returns : goal.returns
returns c = let h = c.loop-k.invariant in (from-done h.1 (omega (arith, c.loop-k-test.false)) refl, h.2)
