-- A legal network in exact numbers: its arcs in use are legal there, and their ends are in use.
use mathlib.Core.Path.{◌≡◌, refl, sym, ap, ◌∙◌, subst}
use mathlib.Core.Bool.{Bool, true, false}
use Prim.Native.Nat.{ℕ, ◌≤◌, ◌<◌}
use native.Mathlib.Omega.{arith}
use lib.Dec.{T}
use lib.IntN.{nat_abs}
use borrow.Author.Tests.{not-true, eqb-false, eq-eqb, ne_eqb}
use Rattle.presolve.proofs.Net.{Sane}
use Rattle.presolve.proofs.Net as Exact
use Rattle.algebra.specs.Rat.{0_ℚ}
use Rattle.fraction.specs.declared.Fraction.{Fraction}
use Rattle.fraction.specs.Exact.{Proper, zero_fraction, is_zero}
use Rattle.fraction.specs.Value.{value}
use Rattle.fraction.proofs.Value.{zero-value, same-is}
use Rattle.fraction.proofs.Formulas.{nonzero-value}
use Rattle.network.specs.declared.Arc.{Arc}
use Rattle.network.specs.declared.Net.{Net}
use Rattle.network.specs.Network.{arc_at, is_here, is_root, is_used}
use Rattle.network.specs.Legal.{LegalArc, Legal}
use Rattle.network.specs.Program.{exact_of, exact_arc}
use Rattle.network.proofs.Kept.{here-number}

-- a test that passes
pub is_true : (b : Bool) → T b → b ≡ true
is_true true t = refl
is_true false t = absurd t

zero_is : (x : Fraction) → Proper x → is_zero x ≡ true → value x ≡ 0_ℚ
unfolding is_zero
zero_is x p e = zero-value x p.operand (ap (λ (f : Fraction). nat_abs f.num) (same-is x zero_fraction e))

legal-exact : {net : Net} {t : Arc} → LegalArc net t → Exact.Legal (exact_arc t)
unfolding is_root
legal-exact {net} {t} h =
    record {
      a_nonzero = nonzero-value h.a_proper h.a_nonzero;
      b_zero = λ q. zero_is t.b h.b_proper (h.b_zero ∙ eq-eqb _ _ q);
      b_nonzero = λ n. nonzero-value h.b_proper (h.b_zero ∙ ne_eqb _ _ n);
    }

module _ {net : Net} (g : Legal net) where
  pub used-from : (j : ℕ) → is_used net j ≡ true → 1 ≤ (arc_at net j).from
  used-from j e = let n = eqb-false (arc_at net j).from 0 (not-true _ e) in omega arith

  node_in : (i : ℕ) → is_here net i ≡ true → (i < 33) × T (is_here net i)
  node_in i e = let h = here-number g i e in (omega arith, subst T (sym e) tt)

  pub sane : Sane (exact_of net)
  unfolding exact_of
  sane =
      record {
        legal = λ j l k. legal-exact (arc j k);
        from_in = λ j l k. node_in _ (arc j k).from_here;
        to_in = λ j l k. node_in _ (arc j k).to_here;
      }
    where
      arc : (j : ℕ) → T (is_used net j) → LegalArc net (arc_at net j)
      arc j k = g.used j (used-from j (is_true (is_used net j) k))
