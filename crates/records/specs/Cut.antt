-- The words of a record without the zeros behind it (01, "Records"): as many as its sizes say.
use Rattle.std.specs.Prelude.{List, ◌+◌, ◌*◌, ℤ, take}
use Rattle.network.specs.declared.Net.{Net}
use Rattle.records.specs.Network.{figures}

-- of a network's record, and of a pair's
abbrev pub cut_network : Net → List ℤ → List ℤ
cut_network net zs = take (2 + 2 * figures net.n net.m) zs

abbrev pub cut_pair : Net → List ℤ → List ℤ
cut_pair net ys = take (2 + 2 * (net.n + net.m)) ys
