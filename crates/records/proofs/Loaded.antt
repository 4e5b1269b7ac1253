-- The network of a record read into the lent list.
use mathlib.Core.Path.{◌≡◌, refl, sym, ap, ◌∙◌}
use mathlib.Core.Bool.{Bool, true, false, cond}
use mathlib.Core.List.{List}
use Prim.Native.Nat.{ℕ, zero, suc, ◌+◌, ◌≤◌}
use lib.IntN.{ℤ}
use lib.ListN.{length, length-replicate}
use Rattle.loops.specs.Loops.{upto}
use Rattle.loops.proofs.Laws.{upto-keeps}
use Rattle.fraction.specs.Exact.{zero_fraction}
use Rattle.network.specs.declared.Arc.{Arc}
use Rattle.network.specs.declared.Net.{Net}
use Rattle.network.specs.Network.{no_arc, empty_net, with_node, with_supply}
use Rattle.network.specs.ArcList.{no_arcs, arcs_in, nodes_of, joined}
use Rattle.network.proofs.Lists.{length-replaced, arcs-put, arcs-none}
use Rattle.records.specs.Arrays.{figure_at}
use Rattle.records.specs.Network.{figures, arc_in, n_of, m_of, sizes_right, node_turn, arc_turn, net_of, read_of, load_turn, loaded}

pub length-turns : (words : List ℤ) (n t m : ℕ) (xs : List Arc) → length (upto (load_turn words n t) m xs) ≡ length xs
length-turns words n t m xs =
    upto-keeps (λ (ys : List Arc). length ys ≡ length xs) (load_turn words n t) (λ j ys e. length-replaced ys (j + 1) (arc_in words n t j) ∙ e) m xs refl

load-turns : (words : List ℤ) (n t m : ℕ) (net : Net) (xs : List Arc) → 96 ≤ length xs → net.arcs ≡ arcs_in xs → (upto (arc_turn words n t) m net).arcs ≡ arcs_in (upto (load_turn words n t) m xs)
unfolding upto
load-turns words n t zero net xs l e = e
load-turns words n t (suc m) net xs l e =
    arcs-put
    (upto (arc_turn words n t) m net)
    (upto (load_turn words n t) m xs)
    (m + 1)
    (arc_in words n t m)
    (rw (length-turns words n t m xs) l)
    (load-turns words n t m net xs l e)

pub length-loaded : (words : List ℤ) (xs : List Arc) → length (loaded words xs) ≡ length xs
unfolding loaded
length-loaded words xs = by (sizes_right words)
  where
    by : (b : Bool) → length (cond b (upto (load_turn words (n_of words) (figures (n_of words) (m_of words))) (m_of words) xs) xs) ≡ length xs
    by true = length-turns words (n_of words) (figures (n_of words) (m_of words)) (m_of words) xs
    by false = refl

pub loaded-net : (words : List ℤ) (k : ℕ) → 96 ≤ k → joined (nodes_of (read_of words)) (arcs_in (loaded words (no_arcs k))) ≡ read_of words
unfolding loaded read_of net_of with_node with_supply
loaded-net words k l = by (sizes_right words)
  where
    long : 96 ≤ length (no_arcs k)
    long = rw (length-replicate k no_arc) l

    kept : (upto (node_turn words (figures (n_of words) (m_of words))) (n_of words) (empty_net (n_of words) (m_of words) (figure_at words (figures (n_of words) (m_of words)) 0))).arcs ≡ arcs_in (no_arcs k)
    kept = upto-keeps (λ (net : Net). net.arcs ≡ arcs_in (no_arcs k)) (node_turn words (figures (n_of words) (m_of words))) (λ i net e. e) (n_of words) (empty_net (n_of words) (m_of words) (figure_at words (figures (n_of words) (m_of words)) 0)) (sym (arcs-none k))

    by : (b : Bool) → joined (nodes_of (cond b (net_of words (n_of words) (m_of words)) (empty_net 0 0 zero_fraction))) (arcs_in (cond b (upto (load_turn words (n_of words) (figures (n_of words) (m_of words))) (m_of words) (no_arcs k)) (no_arcs k))) ≡ cond b (net_of words (n_of words) (m_of words)) (empty_net 0 0 zero_fraction)
    by true = ap (joined (nodes_of (net_of words (n_of words) (m_of words)))) (sym (load-turns words (n_of words) (figures (n_of words) (m_of words)) (m_of words) (upto (node_turn words (figures (n_of words) (m_of words))) (n_of words) (empty_net (n_of words) (m_of words) (figure_at words (figures (n_of words) (m_of words)) 0))) (no_arcs k) long kept))
    by false = ap (joined (nodes_of (empty_net 0 0 zero_fraction))) (arcs-none k)
