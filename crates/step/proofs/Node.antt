-- A node in use of a legal network: the arcs that touch it, and what is known of each.
use mathlib.Core.Path.{◌≡◌, refl, sym, ap, ◌∙◌}
use mathlib.Core.Bool.{Bool, true, false, cond}
use mathlib.Core.List.{List}
use mathlib.Core.Logic.{inl, inr}
use Prim.Native.Nat.{ℕ, ◌≤◌}
use native.Mathlib.Omega.{arith}
use lib.Dec.{T, eqb}
use lib.ListN.{length}
use borrow.Author.Tests.{eqb-true}
use Rattle.algebra.proofs.Solver.{◌:*◌, ◌:-◌, :0, ◌:=◌, ring2}
use Rattle.algebra.specs.Rat.{ℚ, ◌+ℚ◌, ◌*ℚ◌, -ℚ◌, inv_ℚ}
use Rattle.algebra.proofs.Rat.{ℚ-ring}
use Rattle.presolve.specs.Net as Exact
use Rattle.presolve.proofs.Spoke.{SpokeAt, quote}
use Rattle.std.specs.Prelude.{Ok}
use Rattle.fraction.specs.Formula.{◌⊖◌, ◌⊗◌, ◌⊘◌}
use Rattle.fraction.specs.Value.{value}
use Rattle.fraction.proofs.Formulas.{Nonzero, given, minus-gives, times-gives}
use Rattle.network.specs.declared.Net.{Net}
use Rattle.network.specs.declared.Side.{Side}
use Rattle.network.specs.declared.pair.Pair.{Pair}
use Rattle.network.specs.Network.{arc_at, is_here, is_touching, is_root, side_of, degree_of}
use Rattle.network.specs.Legal.{LegalArc, Legal}
use Rattle.network.specs.Pair.{price_at, exact_pair}
use Rattle.network.specs.Program.{exact_arc, exact_of, program_of}
use Rattle.network.proofs.Kept.{here-number, used-number, touching-used}
use Rattle.fraction.proofs.Exactly.{Exactly, same}
use Rattle.step.specs.Back.{quote_at, quote_of}
use Rattle.step.proofs.Each.{All, Any, Apart, all_map}
use Rattle.step.proofs.Touch.{These, Upward, touches, touching-at, touching-all}
use Rattle.step.proofs.Exactly.{Far, End, near, far, end, zero-figure, arc-in, column-is, spoke_of, spoke-at}
use Rattle.step.proofs.Figures.{over-exactly}

-- what is known of an arc that touches it
pub record AtNode (net : Net) (i j : ℕ) : Type 0 where
  pub number : (1 ≤ j) × (j ≤ 96)
  pub touches_i : is_touching (arc_at net j) i ≡ true
  pub used : 1 ≤ (arc_at net j).from
  pub legal : LegalArc net (arc_at net j)
  -- its ends
  pub near : Nonzero (side_of (arc_at net j) i).e
  pub far : is_root (arc_at net j) ≡ false → Far net i (side_of (arc_at net j) i)
  pub end : End net i (side_of (arc_at net j) i)
  -- in exact numbers: itself, its column, and the price at which it breaks even
  pub is_in : T ((exact_of net).arc? j)
  pub spoke : SpokeAt (program_of net) i (spoke_of net i j)
  pub column : (program_of net).col j ≡ Exact.column (exact_arc (arc_at net j))
  pub quotes : (pair : Pair) → Exactly (quote_of (arc_at net j) i pair) (quote (program_of net) (spoke_of net i j) (exact_pair pair).price)

-- xs are the arcs that touch it, each once
pub record ArcsAt (net : Net) (i : ℕ) (xs : List ℕ) : Type 0 where
  pub each : All (AtNode net i) xs
  pub apart : Apart xs
  pub all : (x : ℕ) → is_touching (arc_at net x) i ≡ true → Any (λ y. x ≡ y) xs

module _ (net : Net) (g : Legal net) (i : ℕ) (here : is_here net i ≡ true) where
  pub at-node : (j : ℕ) → is_touching (arc_at net j) i ≡ true → AtNode net i j
  unfolding quote_at
  at-node j t =
      record {
        number = used-number g j u;
        touches_i = t;
        used = u;
        legal = g.used j u;
        near = near (g.used j u) i t;
        far = far (g.used j u) i t;
        end = end (g.used j u) i t;
        is_in = arc-in net j u;
        spoke = spoke-at net g i j here t;
        column = column-is net j u;
        quotes = λ pair. by pair (eqb w.other 0) refl (end (g.used j u) i t);
      }
    where
      u : 1 ≤ (arc_at net j).from
      u = touching-used g j i (here-number g i here).0 t

      w : Side
      w = side_of (arc_at net j) i

      c : ℚ
      c = value (arc_at net j).cost

      cost_is : (p : ℚ) → (c +ℚ -ℚ (value w.o *ℚ p)) *ℚ inv_ℚ (value w.e) ≡ (((program_of net).col j).cost +ℚ -ℚ (value w.o *ℚ p)) *ℚ inv_ℚ (value w.e)
      cost_is p = ap (λ k. (k.cost +ℚ -ℚ (value w.o *ℚ p)) *ℚ inv_ℚ (value w.e)) (sym (column-is net j u))

      by : (pair : Pair) (b : Bool) → eqb w.other 0 ≡ b → End net i w → Exactly (cond b (Ok (arc_at net j).cost) (Ok (arc_at net j).cost ⊖ Ok w.o ⊗ Ok (price_at pair w.other)) ⊘ Ok w.e) (quote (program_of net) (spoke_of net i j) (exact_pair pair).price)
      by pair false e d = same (cost_is _) (over-exactly (minus-gives (given _) (times-gives (given _) (given _))) (given _))
      by pair true e (inl (q, o)) =
          let p = value (price_at pair w.other) in
          same (ap (λ k. k *ℚ inv_ℚ (value w.e)) (ring2 ℚ-ring c p (λ c p. c := c :- :0 :* p) refl ∙ ap (λ k. c +ℚ -ℚ (k *ℚ p)) (sym (zero-figure _ o))) ∙ cost_is p) (over-exactly (given _) (given _))
      by pair true e (inr f) = absurd (omega (arith, eqb-true w.other 0 e, (here-number g w.other f.here).0))

  pub arcs-at : {xs : List ℕ} → These (touches net i) 0 xs → ArcsAt net i xs
  arcs-at {xs} w = record { each = all_map (λ j a. at-node j a.passes) xs w.each; apart = w.apart; all = λ x t. w.all x (touching-at g i (here-number g i here).0 x t) }

  -- as many as its degree
  pub arcs-here : (xs : List ℕ) → degree_of net i ≡ length xs → Upward (touches net i) 0 xs → ArcsAt net i xs
  arcs-here xs d u = arcs-at (touching-all g i (here-number g i here).0 xs d u)
