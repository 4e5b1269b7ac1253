-- The new numbers of nodes as a list has them, and figures at the original numbers.
use Rattle.std.specs.Prelude.{Bool, false, cond, ◌&&◌, List, ℕ, ltb, leb, get_or}
use Rattle.loops.specs.Loops.{count}
use Rattle.fraction.specs.declared.Fraction.{Fraction}
use Rattle.fraction.specs.Exact.{no_figure, zero_fraction}
use Rattle.network.specs.Limits.{max_nodes, node_places}

-- the new number of node i, where those of all places are listed
abbrev pub placed : List ℕ → ℕ → ℕ
placed l i = cond (ltb i node_places) (get_or l i 0) (get_or l max_nodes 0)

-- number i of n, where those in use have figures in their order from 1, and the others have 0
abbrev pub spread_figure : List Bool → List Fraction → ℕ → ℕ → Fraction
spread_figure used figures n i = cond (get_or used i false) (get_or figures (count (λ k. get_or used k false && leb k i) n) no_figure) zero_fraction
