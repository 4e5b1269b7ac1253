-- For those who call the search: after a run, the nodes and the list are the network that is left.
use mathlib.Core.Path.{◌≡◌, ap, ◌∙◌}
use mathlib.Core.List.{List, [], ◌∷◌, ◌++◌}
use Prim.Native.Nat.{ℕ, ◌-◌, ◌≤◌}
use native.Mathlib.Numerals.{add-one}
use native.Mathlib.Omega.{arith}
use lib.IntN.{ℤ}
use lib.ListN.{length, get_or, drop, length-append}
use lib.Seq.{take_at}
use Rattle.network.specs.declared.Arc.{Arc}
use Rattle.network.specs.declared.Nodes.{Nodes}
use Rattle.network.specs.Network.{no_arc}
use Rattle.network.specs.ArcList.{arcs_in, nodes_of, joined, net_in, no_arcs}
use Rattle.network.specs.Legal.{Legal}
use Rattle.records.specs.Network.{read_of}
use Rattle.network.proofs.Lists.{arcs_are}
use Rattle.rules.specs.Table.{reduced}
use Rattle.rules.proofs.Whole.{whole}
use Rattle.search.specs.declared.Ran.{Ran}
use Rattle.search.specs.Search.{list_of, Reached}
use Rattle.search.proofs.Questions.{AllYes, all_yes, legal-read}

-- the arcs in the list of a network
list-arcs : (ts : List Arc) (k : ℕ) → length ts ≡ 97 → get_or ts 0 no_arc ≡ no_arc → 96 ≤ k → arcs_in (drop 1 ts ++ no_arcs (k - 96)) ≡ ts
list-arcs [] k l e w = absurd (omega (arith, l))
list-arcs (a ∷ ts) k l e w =
    let n : length ts ≡ 96 = omega (arith, l, add-one (length ts)) in
    arcs_are (ts ++ no_arcs (k - 96)) (omega (arith, length-append ts (no_arcs (k - 96)), n)) ∙ rw (take_at ts (no_arcs (k - 96)) 96 n, e)

module _ {xs zs : List ℤ} {ks : List Arc} {r : Ran} {log : List ℤ} {arcs : List Arc} (s : Reached xs zs ks r log arcs) where
  pub yes : AllYes xs (length zs) (length ks)
  yes = all_yes xs (length zs) (length ks) s.asked

  legal-left : Legal (reduced (read_of xs)).net
  legal-left = (whole (read_of xs) (legal-read yes)).legal

  pub arcs-left : arcs_in arcs ≡ (reduced (read_of xs)).net.arcs
  unfolding list_of
  arcs-left =
      ap arcs_in s.list_is
      ∙ list-arcs (reduced (read_of xs)).net.arcs (length ks) legal-left.arcs_long (legal-left.unused 0 legal-left.no-arc) yes.wide

  pub net-left : net_in r.nodes arcs ≡ (reduced (read_of xs)).net
  net-left = ap (λ (x : Nodes). net_in x arcs) s.nodes_is ∙ ap (joined (nodes_of (reduced (read_of xs)).net)) arcs-left
