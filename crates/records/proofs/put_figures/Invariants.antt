use Rattle.std.proofs.Common.{◌+◌, length, set}
use Rattle.records.specs.internal.Put.{dens_in, nums_in}
use Rattle.records.proofs.Put.{Turned}
use Rattle.records.proofs.put_figures.Given as goal

abbrev pub invariant-loop-i : goal.invariant-loop-i
invariant-loop-i l = Turned (λ r s. set s (l.k + r) (nums_in l.figures r)) (length l.figures) l.initial.out l.out l.i × Turned (λ r s. set s (l.k + r) (dens_in l.figures r)) (length l.figures) l.initial.dens l.dens l.i
