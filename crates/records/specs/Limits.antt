-- The least words of the lent slices (01, "Records": "stack 257, .. pair 258, values 4 .., scratch 10240"; 02, 2026-01: "Lent network slices hold 1412 words"), named: every other definition uses the names.
use Rattle.std.specs.Prelude.{ℕ, ◌+◌, ◌*◌}
use Rattle.network.specs.Limits.{max_nodes, max_arcs, max_steps}
use Rattle.step_log.specs.Log.{log_words}

-- the most figures of a network's record, and of a pair's
abbrev pub network_figures : ℕ
network_figures = 1 + max_nodes + 7 * max_arcs

abbrev pub pair_figures : ℕ
pair_figures = max_nodes + max_arcs

-- a lent network, and a lent pair: two sizes, then two words for each figure
abbrev pub network_room : ℕ
network_room = 2 + 2 * network_figures

abbrev pub pair_room : ℕ
pair_room = 2 + 2 * pair_figures

-- a lent stack: the number of steps, then two words for each
abbrev pub stack_room : ℕ
stack_room = 1 + 2 * max_steps

-- lent values: two, of two words each
abbrev pub value_room : ℕ
value_room = 4

-- scratch: the log of the longest run
abbrev pub scratch_room : ℕ
scratch_room = log_words
