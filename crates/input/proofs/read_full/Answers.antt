use Rattle.std.proofs.Common.{◌≡◌, ℕ, ◌+◌, ◌≤◌, List, ◌++◌, rules, length, take, subst, length-take-le}
use Rattle.std.specs.Io.KnownBytes.{Consumes}
use Rattle.std.proofs.KnownBytes.{Consumes-trans}
use Rattle.std.proofs.lemmas.List.{take-append-le}
use Rattle.std.proofs.Math.Seq.{take-append-add}
use Rattle.input.proofs.read_full.Goals as goal

-- what stands up to a, and then the first n that are read into the part behind, is what stands up to a + n
joined : (a n : ℕ) (xs ys behind : List ℕ) → a ≤ length xs → n ≤ length ys → take a xs ++ take n ys ≡ take (a + n) (take a xs ++ (ys ++ behind))
joined a n xs ys behind h k =
    let e = rw (length-take-le a xs h) at (take-append-add (take a xs) (ys ++ behind) n) in
    rw (e, take-append-le n ys behind k)

pub loop-n-preserved : goal.loop-n-preserved
loop-n-preserved g c =
    (search rules, subst (Consumes _ _) (joined c.loop-n.n c.in_ok-got.got c.loop-n.buf c.read.new.buf _ c.loop-n.invariant.0 c.in_ok-got.ensures.bound.0) (Consumes-trans _ _ _ _ _ c.loop-n.invariant.1 c.in_ok-got.ensures.bytes.0))
