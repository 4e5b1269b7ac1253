-- `records::pair::write_pair` meets its contract.
use mathlib.Core.Path.{◌∙◌, sym}
use native.Mathlib.Omega.{arith}
use Rattle.loops.proofs.Laws.{part-long, part-sized}
use Rattle.fraction.specs.Words.{word_of}
use Rattle.records.specs.Arrays.{record_of}
use Rattle.records.specs.Pair.{pair_words}
use Rattle.records.proofs.Arrays.{room-is}
use Rattle.records.proofs.pair.write_pair.Goals as goal

pub slice_bounds-write_figures-count : goal.slice_bounds-write_figures-count
slice_bounds-write_figures-count c = omega (arith, (room-is _ _ _ _ (sym c.has_room.ensures ∙ c.if-has_room.true)).2, c.write_sizes.auto.out)

pub slice_bounds-write_figures-start : goal.slice_bounds-write_figures-start
slice_bounds-write_figures-start c = omega (arith, (room-is _ _ _ _ (sym c.has_room.ensures ∙ c.if-has_room.true)).2, c.write_sizes.auto.out)

pub write_figures-requires : goal.write_figures-requires
write_figures-requires c =
    let r = room-is _ _ _ _ (sym c.has_room.ensures ∙ c.if-has_room.true) in
    (r.0, r.1, rw part-long (omega (arith, r.2, c.write_sizes.auto.out)))

pub returns-then-has_room : goal.returns-then-has_room
unfolding record_of pair_words
returns-then-has_room c =
    let a = c.args in
    let s = c.write_sizes in
    let h = sym c.has_room.ensures ∙ c.if-has_room.true in
    rw h (part-sized (word_of a.n) (word_of a.m) a.out.now s.ensures (rw (part-long, s.auto.out) at c.write_figures.ensures) (omega (arith, (room-is _ _ _ _ h).2)))

pub returns-else-has_room : goal.returns-else-has_room
unfolding record_of pair_words
returns-else-has_room c = rw (sym c.has_room.ensures ∙ c.if-has_room.false) c.clear.ensures
