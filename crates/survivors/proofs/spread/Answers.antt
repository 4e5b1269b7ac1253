-- `survivors::spread` meets its contract: at each number the list of arcs in use is the test.
use Rattle.loops.specs.Loops.{build}
use Rattle.loops.proofs.Laws.{build-same, count_same, get_or-build}
use Rattle.network.specs.declared.Net.{Net}
use Rattle.network.specs.declared.pair.Pair.{Pair}
use Rattle.network.specs.Network.{is_used}
use Rattle.survivors.specs.Survivors.{rank_of, arc_rank, spread_flow, spread_of}
use Rattle.survivors.specs.internal.Ranks.{spread_figure}
use mathlib.Core.Bool.{false, ◌&&◌}
use mathlib.Core.Path.{◌≡◌, ap}
use lib.Dec.{leb}
use Rattle.survivors.proofs.spread.Goals as goal

flows-are : (net : Net) (pair : Pair) → build 97 (spread_figure (build 97 (is_used net)) pair.flow 97) ≡ build 97 (spread_flow net pair)
unfolding arc_rank
flows-are net pair =
    build-same 97 _ _
    (λ j l. rw (get_or-build 97 (is_used net) false j l, count_same _ _ 97 (λ k m. ap (λ b. b && leb k j) (get_or-build 97 (is_used net) false k m))))

pub returns : goal.returns
unfolding spread_of rank_of
returns c = rw (c.spread_figures-price.ensures, c.spread_figures-flow.ensures, c.arcs_used.ensures, flows-are c.args.net c.args.pair)
