use Rattle.costly_arc.proofs.Upward.{reached-more, reached-none}
use Rattle.search.proofs.Pairs.{no_pairs, pairs-used, pairs-beyond}
use Rattle.search.proofs.Scans.{reached-answer, reached-end, reached-on}
use mathlib.Core.Path.{◌∙◌, refl, sym}
use native.Mathlib.Omega.{arith}
use Rattle.search.proofs.scan.Working.parallel.Goals as goal
use Rattle.search.proofs.scan.Working.parallel.Goals.{then-next-j-ne0+else-is_found, else-next-j-ne0}

pub pairs-x-requires : goal.pairs-x-requires
pairs-x-requires c = let g = c.args.self.legal in let are = c.parallels-next.ensures c.args.self.nodes.now refl g in (are, pairs-used _ c.loop-j.j g c.parallels-next.result are c.if-next-j-ne0.true)

pub returns-then-is_found : goal.returns-then-is_found
returns-then-is_found c = let h = c.loop-j.invariant in reached-answer h.1 (omega (arith, h.0, c.loop-j-test.true)) c.pairs-x.ensures (sym c.is_found.ensures ∙ c.if-is_found.true)

pub returns : goal.returns
returns c = reached-end c.loop-j.invariant.1 refl (λ j l. pairs-beyond _ j c.args.self.legal (omega (arith, l, c.loop-j-test.false)))

pub loop-j-init : goal.loop-j-init
loop-j-init c = (c.args.self.legal.few_arcs, reached-none _ _ _ _)

pub loop-j-preserved : goal.loop-j-preserved
loop-j-preserved c =
    let g = c.args.self.legal in
    let h = c.loop-j.invariant in
    let l = c.loop-j-test.true in (
      h.0,
      elim c.if-next-j-ne0.branch [
        | then-next-j-ne0+else-is_found w ↦ reached-on h.1 (omega (arith, h.0, l)) w.pairs-x.ensures (sym w.is_found.ensures ∙ w.if-is_found.false)
        | else-next-j-ne0 w ↦ reached-more _ _ _ _ h.1 (omega (arith, h.0, l)) (no_pairs _ _ g c.parallels-next.result (c.parallels-next.ensures c.args.self.nodes.now refl g) w.if-next-j-ne0.false)
      ],
    )
