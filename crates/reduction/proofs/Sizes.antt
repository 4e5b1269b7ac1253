-- A network that is read has the sizes of its record.
use mathlib.Core.Path.{◌≡◌, refl}
use mathlib.Core.Bool.{true}
use mathlib.Core.List.{List}
use Prim.Native.Nat.{ℕ}
use lib.IntN.{ℤ}
use Rattle.loops.proofs.Laws.{upto-keeps}
use Rattle.network.specs.declared.Net.{Net}
use Rattle.network.specs.Network.{empty_net, with_arc, with_supply, with_node}
use Rattle.records.specs.Arrays.{figure_at}
use Rattle.records.specs.Network.{figures, n_of, m_of, sizes_right, node_turn, arc_turn, net_of, read_of}
use Rattle.records.proofs.Legal.{read_is}

abbrev SameSizes : Net → Net → Type 0
SameSizes p q = (p.n ≡ q.n) × (p.m ≡ q.m)

pub read-sizes : (xs : List ℤ) → sizes_right xs ≡ true → ((read_of xs).n ≡ n_of xs) × ((read_of xs).m ≡ m_of xs)
unfolding net_of with_arc with_supply with_node
read-sizes xs e = rw (read_is xs e) (by (n_of xs) (m_of xs))
  where
    by : (n m : ℕ) → SameSizes (net_of xs n m) (empty_net n m (figure_at xs (figures n m) 0))
    by n m =
        let c = figure_at xs (figures n m) 0 in
        upto-keeps (λ net. SameSizes net (empty_net n m c)) (arc_turn xs n (figures n m)) (λ i s h. h) m _
        (upto-keeps (λ net. SameSizes net (empty_net n m c)) (node_turn xs (figures n m)) (λ i s h. h) n (empty_net n m c) (refl, refl))
