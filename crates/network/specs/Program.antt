-- A network in exact numbers: the linear program over ℚ that 01, "The problem and its figures", says. Nodes are its rows and arcs its columns, at their numbers.
use Rattle.std.specs.Prelude.{cond, not, eqb}
use Rattle.std.proofs.Math.Option.{Option, some, none}
use Rattle.algebra.specs.Rat.{ℚ}
use Rattle.presolve.specs.LP.{LP}
use Rattle.presolve.specs.Net.{Working, lp_of}
use Rattle.presolve.specs.Net as Exact
use Rattle.fraction.specs.declared.Fraction.{Fraction}
use Rattle.fraction.specs.Exact.{is_finite}
use Rattle.fraction.specs.Value.{value}
use Rattle.network.specs.Limits.{node_places, arc_places}
use Rattle.network.specs.declared.Arc.{Arc}
use Rattle.network.specs.declared.Net.{Net}
use Rattle.network.specs.Network.{arc_at, supply_at, is_here}

-- a bound; none where it is a mark
unfoldable pub bound_of : Fraction → Option ℚ
bound_of z = cond (is_finite z) (some (value z)) none

abbrev pub exact_arc : Arc → Exact.Arc
exact_arc t = record { from = t.from; to = t.to; cost = value t.cost; lower = bound_of t.lower; upper = bound_of t.upper; a = value t.a; b = value t.b }

-- the places of nodes and of arcs, and which of them are in use
unfoldable pub exact_of : Net → Working
exact_of net =
    record {
      n = node_places;
      m = arc_places;
      node? = is_here net;
      arc? = λ j. not (eqb (arc_at net j).from 0);
      constant = value net.constant;
      supply = λ i. value (supply_at net i);
      arc = λ j. exact_arc (arc_at net j);
    }

abbrev pub program_of : Net → LP
program_of net = lp_of (exact_of net)
