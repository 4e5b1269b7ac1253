use mathlib.Core.Path.{◌∙◌}
use Rattle.records.proofs.Written.{both_values}
use Rattle.restoration.proofs.write.Goals as goal

pub returns : goal.returns
returns c =
    (c.write_pair.ensures, rw c.write.ensures at c.write-2.ensures ∙ both_values _ _ c.args.values.now c.requires.no_values c.requires.values_room)
