-- `records::net::figures_of` meets its contract.
use mathlib.Core.Path.{refl}
use Rattle.loops.specs.Loops.{build}
use Rattle.records.specs.Network.{role_figure}
use Rattle.records.proofs.net.figures_of.Goals as goal

pub returns : goal.returns
unfolding build role_figure
returns c = rw (c.whole-from.ensures, c.whole-to.ensures) refl
