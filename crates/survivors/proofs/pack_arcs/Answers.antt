-- `survivors::pack_arcs` meets its contract.
use Prim.Native.Nat.{ℕ, ◌+◌, ◌-◌, ◌<◌, ◌≤◌}
use lib.ListN.{get_or, length}
use mathlib.Core.List.{List}
use borrow.Rule.Slice.PartMut.{mid_of}
use Rattle.std.proofs.lemmas.Grind.{get_or_after_one}
use Rattle.loops.proofs.Laws.{folded-all, folded_more, folded-none, part_in}
use Rattle.network.proofs.Numbers.{number}
use Rattle.survivors.proofs.Packed.{placed-is}
use Rattle.network.specs.Network.{arc_at, no_arc, with_arc}
use Rattle.survivors.specs.Survivors.{pack_arc}
use Rattle.network.specs.declared.Net.{Net}
use borrow.Author.Tests.{lt-ltb, eq-eqb, ne_eqb}
use mathlib.Core.Path.{◌∙◌, ◌≡◌, ap}
use native.Mathlib.Omega.{arith}
use Rattle.survivors.proofs.pack_arcs.Goals as goal
use Rattle.survivors.proofs.pack_arcs.Goals.{then-t-ne0, else-t-ne0}

-- number k + 1 in the part from number 1 on
part-at : {A : Type 0} (l : List A) (k : ℕ) (d : A) → get_or (mid_of 1 (length l - 1) l) k d ≡ get_or l (k + 1) d
part-at l k d = let e : 1 + k ≡ k + 1 = omega arith in ap (λ s. get_or s k d) (part_in 1 l) ∙ get_or_after_one l k d ∙ rw e

pub loop-t-init : goal.loop-t-init
loop-t-init c = (folded-none _ _ _, omega arith)

pub loop-t-preserved : goal.loop-t-preserved
unfolding pack_arc with_arc
loop-t-preserved c =
    let room : c.loop-t.q.m < 96 = omega arith in
    let net = c.args.net in
    let t = arc_at net (c.loop-t.t-index + 1) in
    let e : get_or (mid_of 1 (length net.arcs - 1) net.arcs) c.loop-t.t-index no_arc ≡ t = part-at net.arcs c.loop-t.t-index no_arc in
    let turn : (c.if-t-ne0.q ≡ pack_arc net c.loop-t.t-index c.loop-t.q) × (c.if-t-ne0.q.m ≤ c.loop-t.t-index + 1) =
    elim c.if-t-ne0.branch [
      | then-t-ne0 w ↦ (w.q-is ∙ rw (ne_eqb t.from 0 (rw e at w.if-t-ne0.true), lt-ltb _ _ room, number 96 c.loop-t.q.m room, w.renumber.ensures, e, c.node_ranks.ensures, placed-is net t.from, placed-is net t.to), omega (arith, ap (λ (p : Net). p.m) w.q-is))
      | else-t-ne0 w ↦ (w.q-is ∙ rw (eq-eqb t.from 0 (rw e at w.if-t-ne0.false)), omega (arith, ap (λ (p : Net). p.m) w.q-is))
    ] in
    (folded_more _ c.loop-t.invariant.0 (omega arith) turn.0, turn.1)

pub returns : goal.returns
returns c = folded-all _ c.loop-t.invariant.0 (omega arith)
