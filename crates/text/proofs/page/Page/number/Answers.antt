use Rattle.integer.specs.Machine.{back32}
use Rattle.text.proofs.Lines.{decimal-is, decimal-few}
use Rattle.text.proofs.page.Page.number.Goals as goal

pub returns : goal.returns
returns c =
    let h = rw (c.as_bytes.ensures.value, c.format.ensures.text, back32 c.args.z c.ranges.z.sfits, ← decimal-is c.args.z c.ranges.z.sfits) at c.bytes.ensures in
    record { same = h.same; put = h.put; few = decimal-few c.args.z c.ranges.z.sfits }
