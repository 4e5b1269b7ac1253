use Rattle.network.proofs.Lists.{arc-is}
use Rattle.search.proofs.Pairs.{chain_first, chain-past, chain-skip, chain-found, chain-none, chain-falls, used-in}
use Rattle.step.specs.Run.{or_else}
use Rattle.step.specs.declared.Next.TheVariants.{Stops}
use mathlib.Core.Path.{◌∙◌, sym, ap}
use native.Mathlib.Omega.{arith}
use Rattle.search.proofs.scan.Working.pairs.Goals as goal
use Rattle.search.proofs.scan.Working.pairs.Goals.{then-is_multiple+else-is_found, else-is_multiple}

pub bounds-next-j : goal.bounds-next-j
bounds-next-j c = used-in _ _ c.args.self.legal c.requires.1

pub loop-k-init : goal.loop-k-init
loop-k-init c = chain_first _ _ c.requires.1 c.args.next.now c.requires.0

pub returns : goal.returns
returns c = ap (λ o. or_else 7 c.args.j o Stops) (sym (chain-none _ _ c.requires.1 c.args.next.now c.requires.0 c.loop-k.invariant (omega (arith, c.loop-k-test.false))))

pub returns-then-is_found : goal.returns-then-is_found
returns-then-is_found c =
    let h = c.loop-k.invariant in
    let l = c.loop-k-test.true in
    let p = arc-is c.args.self.nodes.now c.args.self.arcs.now c.args.j (used-in _ _ c.args.self.legal c.requires.1) in
    let q = arc-is c.args.self.nodes.now c.args.self.arcs.now c.loop-k.k (omega (arith, h.within)) in
    chain-found _ _ c.requires.1 c.args.next.now c.requires.0 h l (rw (c.arc-t.ensures, c.arc-u.ensures, p, q) at c.at_pair-x.ensures) (sym c.is_found.ensures ∙ c.if-is_found.true)

pub bounds-next-k : goal.bounds-next-k
bounds-next-k c = omega (arith, c.loop-k.invariant.within)

pub loop-k-smaller : goal.loop-k-smaller
loop-k-smaller c = chain-falls _ _ c.requires.1 c.args.next.now c.requires.0 c.loop-k.invariant c.loop-k-test.true

pub loop-k-preserved : goal.loop-k-preserved
loop-k-preserved c =
    let h = c.loop-k.invariant in
    let l = c.loop-k-test.true in
    let p = arc-is c.args.self.nodes.now c.args.self.arcs.now c.args.j (used-in _ _ c.args.self.legal c.requires.1) in
    let q = arc-is c.args.self.nodes.now c.args.self.arcs.now c.loop-k.k (omega (arith, h.within)) in
    elim c.if-is_multiple.branch [
      | then-is_multiple+else-is_found w ↦ chain-past _ _ c.requires.1 c.args.next.now c.requires.0 h l (rw (c.arc-t.ensures, c.arc-u.ensures, p, q) at w.at_pair-x.ensures) (sym w.is_found.ensures ∙ w.if-is_found.false)
      | else-is_multiple w ↦ chain-skip _ _ c.requires.1 c.args.next.now c.requires.0 h l (rw (c.arc-t.ensures, c.arc-u.ensures, p, q) at (sym c.is_multiple.ensures ∙ w.if-is_multiple.false))
    ]
