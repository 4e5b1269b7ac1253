-- `survivors::pack_nodes` meets its contract.
use Rattle.std.proofs.Common.{◌≡◌, ◌∙◌, refl, ap, ℕ, ◌+◌, ◌<◌, Bool, false, List, length, drop, get_or, arith}
use Rattle.std.specs.Iterator.Adapters.{skip_source, skip_count, skip_steps, zip_first, zip_second}
use Rattle.std.specs.List.{zip}
use Rattle.std.specs.Slice.Iter.{iter_rest}
use Rattle.std.specs.declared.iter.Skip.{Skip}
use Rattle.std.specs.declared.iter.Zip.{Zip}
use Rattle.std.proofs.Common.{Iter}
use Rattle.std.proofs.iter.Yields.{fronts}
use Rattle.std.proofs.lemmas.Grind.{get_or_after_one}
use Rattle.std.proofs.lemmas.Iterator.{YieldsList, YieldsList-from_slice, YieldsList-from_zip, zips}
use Rattle.std.proofs.lemmas.Iterator.Adapters.{YieldsList-from_skip}
use Rattle.std.proofs.lemmas.Iterator.Consumers.{YieldsList-at, YieldsList-end, YieldsList-turn}
use Rattle.std.proofs.lemmas.List.{get_or_default, length_push, length-drop}
use Rattle.std.proofs.lemmas.Slice.Zip.{get_or-zip, length-zip}
use Rattle.loops.proofs.Laws.{folded-all, folded_more, folded-none}
use Rattle.network.proofs.Numbers.{number}
use Rattle.fraction.specs.declared.Fraction.{Fraction}
use Rattle.fraction.specs.Exact.{no_figure}
use Rattle.network.specs.Network.{with_node, with_supply}
use Rattle.survivors.specs.Survivors.{pack_node}
use Rattle.network.specs.declared.Net.{Net}
use borrow.Author.Tests.{lt-ltb}
use Rattle.survivors.proofs.pack_nodes.Goals as goal

-- the items: whether there is a node, with its supply, from number 1 on
pairs : (net : Net) {z : Zip (Iter Bool) (Iter Fraction)} {s t : Skip (Zip (Iter Bool) (Iter Fraction))} → iter_rest (zip_first z) ≡ net.here → iter_rest (zip_second z) ≡ net.supply → skip_source s ≡ z → skip_count s ≡ 1 → t ≡ s → YieldsList (skip_steps (zips fronts fronts)) (λ p. (p.0.now, p.1.now)) t (drop 1 (zip net.here net.supply))
pairs net first second source count e = YieldsList-at e (YieldsList-from_skip 1 (YieldsList-at source (YieldsList-from_zip (YieldsList-from_slice net.here first) (YieldsList-from_slice net.supply second))) count)

-- that of number k + 1
pair-at : (here : List Bool) (supply : List Fraction) (k : ℕ) (p : Bool × Fraction) → length here ≡ 33 → length supply ≡ 33 → (k < length (drop 1 (zip here supply))) × (p ≡ get_or (drop 1 (zip here supply)) k p) → (k < 32) × (p.0 ≡ get_or here (k + 1) false) × (p.1 ≡ get_or supply (k + 1) no_figure)
pair-at here supply k p h l e =
    let z : length (zip here supply) ≡ 33 = rw (length-zip here supply, h, l) refl in
    let b : k < 32 = omega (arith, e.0, length-drop 1 (zip here supply)) in
    let q : 1 + k ≡ k + 1 = omega arith in
    let d : p ≡ (get_or here (k + 1) p.0, get_or supply (k + 1) p.1) = e.1 ∙ get_or_after_one (zip here supply) k p ∙ rw q (get_or-zip here supply (k + 1) p (omega arith) (omega arith)) in
    (b, ap (λ (x : Bool × Fraction). x.0) d ∙ get_or_default here (k + 1) p.0 false (omega arith), ap (λ (x : Bool × Fraction). x.1) d ∙ get_or_default supply (k + 1) p.1 no_figure (omega arith))

pub loop-here-init : goal.loop-here-init
loop-here-init c = (folded-none _ _ _, rw c.empty_net-p.ensures (omega arith), rw c.empty_net-p.ensures)

pub loop-here-preserved-then-here : goal.loop-here-preserved-then-here
unfolding pack_node with_node with_supply
loop-here-preserved-then-here c =
    let net = c.args.net in
    let i = c.loop-here.invariant in
    let t = pair-at net.here net.supply _ _ (omega arith) (omega arith) (YieldsList-turn (pairs net (cc) (cc) c.skip-here-items.ensures.source c.skip-here-items.ensures.count c.into_iter-here-iterator.ensures.into_iter_gives) c.loop-here.yielded c.loop-here.here-iterator c.loop-here.yielded_by _ c.next.new.self _ c.in-Some.is c.next.ensures.steps) in
    let room : c.loop-here.p.n < 32 = omega arith in
    rw length_push (folded_more _ i.0 t.0 (rw (← t.1, c.if-here.true, lt-ltb _ _ room, number 32 c.loop-here.p.n room, ← t.2)), omega arith, i.2)

pub loop-here-preserved : goal.loop-here-preserved
unfolding pack_node
loop-here-preserved c =
    let net = c.args.net in
    let i = c.loop-here.invariant in
    let t = pair-at net.here net.supply _ _ (omega arith) (omega arith) (YieldsList-turn (pairs net (cc) (cc) c.skip-here-items.ensures.source c.skip-here-items.ensures.count c.into_iter-here-iterator.ensures.into_iter_gives) c.loop-here.yielded c.loop-here.here-iterator c.loop-here.yielded_by _ c.next.new.self _ c.in-Some.is c.next.ensures.steps) in
    rw length_push (folded_more _ i.0 t.0 (rw (← t.1, c.if-here.false)), omega arith, i.2)

pub returns : goal.returns
returns c =
    let net = c.args.net in
    let i = c.loop-here.invariant in
    let t = YieldsList-end (pairs net (cc) (cc) c.skip-here-items.ensures.source c.skip-here-items.ensures.count c.into_iter-here-iterator.ensures.into_iter_gives) c.loop-here.yielded c.loop-here.here-iterator c.loop-here.yielded_by _ c.next.new.self c.in-None.is c.next.ensures.steps in
    (rw c.empty_net-p.ensures at (folded-all _ i.0 (omega (arith, t.1, length-drop 1 (zip net.here net.supply), length-zip net.here net.supply))), i.2)
