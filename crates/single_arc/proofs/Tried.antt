-- Rule 3 as it is tried: at a node of another degree it passes, and what it is given is what it reads of the network.
use Rattle.std.specs.Prelude.{Err}
use mathlib.Core.Path.{◌≡◌, subst₂}
use mathlib.Core.Bool.{false}
use mathlib.Core.List.{List}
use Prim.Native.Nat.{ℕ}
use native.Mathlib.Omega.{arith}
use lib.Dec.{eqb}
use borrow.Author.Tests.{eqb-true}
use Rattle.fraction.specs.declared.Fraction.{Fraction}
use Rattle.network.specs.declared.Net.{Net}
use Rattle.network.specs.Network.{is_here, degree_of}
use Rattle.step.specs.declared.Around.{Around}
use Rattle.step.specs.declared.Halt.TheVariants.{Passes}
use Rattle.step.specs.Outcome.{only_where}
use Rattle.step.specs.Around.{Given}
use Rattle.step.proofs.Lines.{split}
use Rattle.single_arc.specs.SingleArc.{single, single_arc}

pub passes : (net : Net) (i : ℕ) → eqb (degree_of net i) 1 ≡ false → single_arc net i ≡ Err Passes
unfolding single_arc single only_where
passes net i e = split (is_here net i) (λ h. rw (h, e)) (λ h. rw h)

pub tried : {net : Net} {constant : Fraction} {supply : List Fraction} {i d : ℕ} {near : Around} → Given net constant supply i d near → single constant supply i d near.one ≡ single_arc net i
unfolding single_arc single only_where
tried {net} {i = i} {d = d} {near} g =
    subst₂ (λ k s. single k s i d near.one ≡ single_arc net i) g.constant_is g.supplies (rw (g.here, g.degree) (split (eqb d 1) (λ e. rw (e, g.arcs.one (omega (arith, eqb-true d 1 e)))) (λ e. rw e)))
