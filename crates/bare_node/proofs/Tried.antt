-- Rule 2 as it is tried: at a node of another degree it passes, and what it is given is what it reads of the network.
use Rattle.std.specs.Prelude.{Err}
use mathlib.Core.Path.{◌≡◌}
use mathlib.Core.Bool.{false}
use mathlib.Core.List.{List}
use Prim.Native.Nat.{ℕ}
use lib.Dec.{eqb}
use lib.ListN.{get_or}
use Rattle.fraction.specs.declared.Fraction.{Fraction}
use Rattle.fraction.specs.Exact.{no_figure}
use Rattle.network.specs.declared.Net.{Net}
use Rattle.network.specs.Network.{is_here, degree_of}
use Rattle.step.specs.declared.Around.{Around}
use Rattle.step.specs.declared.Halt.TheVariants.{Passes}
use Rattle.step.specs.Outcome.{only_where}
use Rattle.step.specs.Around.{Given}
use Rattle.step.proofs.Lines.{split}
use Rattle.bare_node.specs.BareNode.{bare, bare_node}

pub passes : (net : Net) (i : ℕ) → eqb (degree_of net i) 0 ≡ false → bare_node net i ≡ Err Passes
unfolding bare_node bare only_where
passes net i e = split (is_here net i) (λ h. rw (h, e)) (λ h. rw h)

pub tried : {net : Net} {constant : Fraction} {supply : List Fraction} {i d : ℕ} {near : Around} → Given net constant supply i d near → bare constant i d (get_or supply i no_figure) ≡ bare_node net i
unfolding bare_node only_where
tried g = rw (g.here, g.degree, g.constant_is, g.supplies)
