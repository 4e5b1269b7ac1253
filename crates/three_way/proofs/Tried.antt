-- Rule 8 as it is tried: at a node of another degree or of supply 0 it passes, and what it is given is what it reads of the network.
use Rattle.std.specs.Prelude.{Err}
use mathlib.Core.Path.{◌≡◌, refl, sym, subst₂}
use mathlib.Core.Bool.{Bool, true, false, ◌&&◌, not}
use mathlib.Core.List.{List}
use Prim.Native.Nat.{ℕ}
use native.Mathlib.Omega.{arith}
use lib.Dec.{eqb}
use borrow.Author.Tests.{eqb-true}
use Rattle.fraction.specs.declared.Fraction.{Fraction}
use Rattle.fraction.specs.Exact.{is_zero}
use Rattle.network.specs.declared.Net.{Net}
use Rattle.network.specs.Network.{supply_at, is_here, degree_of}
use Rattle.step.specs.declared.Around.{Around}
use Rattle.step.specs.Outcome.{Outcome}
use Rattle.step.specs.declared.Halt.TheVariants.{Passes}
use Rattle.step.specs.Outcome.{only_where}
use Rattle.step.specs.Around.{Given}
use Rattle.step.proofs.Lines.{split}
use Rattle.step.proofs.Touch.{unlike}
use Rattle.three_way.specs.ThreeWay.{three, three_way}

pub passes : (net : Net) (i : ℕ) → ((not (is_zero (supply_at net i)) && true) && eqb (degree_of net i) 3) ≡ false → three_way net i ≡ Err Passes
unfolding three_way three only_where
passes net i = by (is_here net i) (eqb (degree_of net i) 3) (is_zero (supply_at net i)) _
  where
    by : (h d z : Bool) (x : Outcome) → ((not z && true) && d) ≡ false → only_where h (only_where d (only_where (not z) x)) ≡ Err Passes
    by true true true x e = refl
    by true true false x e = unlike (sym e)
    by true false z x e = refl
    by false d z x e = refl

-- the part of it that a row's trial has fields for: the trial doesn't say that the rule asks for a supply that is not 0
pub elsewhere : (net : Net) (i : ℕ) → eqb (degree_of net i) 3 ≡ false → three_way net i ≡ Err Passes
elsewhere net i e = passes net i (by (not (is_zero (supply_at net i)) && true) _ e)
  where
    by : (a d : Bool) → d ≡ false → (a && d) ≡ false
    by true d e = e
    by false d e = refl

pub tried : {net : Net} {constant : Fraction} {supply : List Fraction} {i d : ℕ} {near : Around} → Given net constant supply i d near → three constant supply i d near.one near.two near.three ≡ three_way net i
unfolding three_way three only_where
tried {net} {i = i} {d = d} {near} g =
    subst₂ (λ k s. three k s i d near.one near.two near.three ≡ three_way net i) g.constant_is g.supplies
    (rw (g.here, g.degree) (split (eqb d 3) (λ e. let l = eqb-true d 3 e in rw (e, g.arcs.one (omega (arith, l)), g.arcs.two (omega (arith, l)), g.arcs.three (omega (arith, l)))) (λ e. rw e)))
