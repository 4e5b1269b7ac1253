-- A pair of the reduced network at the original numbers, in exact numbers.
use mathlib.Core.Path.{◌≡◌, refl, ap, ◌∙◌}
use mathlib.Core.Bool.{Bool, true, false, cond}
use mathlib.Core.List.{List}
use Prim.Native.Nat.{ℕ, ◌+◌, ◌<◌}
use native.Mathlib.Omega.{arith}
use lib.Dec.{ltb}
use lib.IntN.{ℤ}
use lib.ListN.{get_or-eq_default, get_or}
use borrow.Author.Tests.{ltb-true, ltb-false}
use Rattle.loops.specs.Loops.{build}
use Rattle.loops.proofs.Laws.{length-build, get_or-build}
use Rattle.algebra.proofs.Solver.{◌:*◌, :0, ◌:=◌, ring1}
use Rattle.algebra.specs.Rat.{ℚ, ◌*ℚ◌, 0_ℚ}
use Rattle.algebra.proofs.Rat.{ℚ-ring, inv_ℚ-zero}
use Rattle.algebra.specs.Frac.{frac}
use Rattle.presolve.specs.LP.{Solved}
use Rattle.presolve.specs.LP as LP
use Rattle.fraction.specs.declared.Fraction.{Fraction}
use Rattle.fraction.specs.Exact.{Proper, no_figure, zero_fraction}
use Rattle.fraction.specs.Value.{value}
use Rattle.fraction.proofs.Formulas.{zero-proper, zero_is}
use Rattle.network.specs.declared.Net.{Net}
use Rattle.network.specs.declared.pair.Pair.{Pair}
use Rattle.network.specs.Network.{no_arc, is_here, is_used}
use Rattle.network.specs.Legal.{Legal}
use Rattle.network.specs.Pair.{price_at, flow_at, exact_pair}
use Rattle.network.specs.Program.{program_of}
use Rattle.records.specs.Pair.{is_pair, pair_of}
use Rattle.records.proofs.Paired.{price-proper, flow-proper}
use Rattle.survivors.specs.Survivors.{rank_of, arc_rank, packed_of, spread_of}
use Rattle.survivors.proofs.Packed.{packed-legal}
use Rattle.survivors.proofs.Survivors.{spread, survivors-sound, node-number, arc-number}
use Rattle.step.proofs.Figures.{Figured, Sized, pair_is}
use Rattle.step.proofs.Lines.{split}

pub no_value : value no_figure ≡ 0_ℚ
unfolding value frac
no_value = ap (λ (q : ℚ). 0_ℚ *ℚ q) inv_ℚ-zero ∙ ring1 ℚ-ring 0_ℚ (λ p. p :* :0 := :0) refl

-- ---- figures of the numbers that pass a test, and 0 elsewhere

module _ (top : ℕ) (p : ℕ → Bool) (f : ℕ → Fraction) where
  abbrev those : ℕ → Fraction
  those i = cond (p i) (f i) zero_fraction

  figured : ((i : ℕ) → p i ≡ true → Proper (f i)) → Figured top (build (top + 1) those)
  figured h = record { long = length-build (top + 1) those; proper = λ i l. rw (get_or-build (top + 1) those no_figure i (omega arith)) (split (p i) (λ e. rw e (h i e)) (λ e. rw e zero-proper)) }

  those-value : ((i : ℕ) → top < i → p i ≡ false) → (i : ℕ) → value (get_or (build (top + 1) those) i no_figure) ≡ cond (p i) (value (f i)) 0_ℚ
  those-value off i =
      split (ltb top i)
      (λ e. let l = ltb-true top i e in ap value (get_or-eq_default (build (top + 1) those) no_figure {n = i} (omega (arith, length-build (top + 1) those))) ∙ no_value ∙ rw (off i l))
      (λ e. ap value (get_or-build (top + 1) those no_figure i (omega (arith, ltb-false top i e))) ∙ split (p i) (λ e. rw e) (λ e. rw e zero_is))

-- ---- a pair in form of what is left, at the original numbers

module _ (net : Net) (g : Legal net) (ys : List ℤ) (form : is_pair ys (packed_of net).n (packed_of net).m ≡ true) where
  abbrev pair : Pair
  pair = pair_of ys (packed_of net).n (packed_of net).m

  -- has figures in form
  pub read-sized : Sized (spread_of net pair)
  unfolding spread_of
  read-sized =
      let few = packed-legal g in
      record {
        prices = figured 32 (is_here net) (λ i. price_at pair (rank_of net i)) (λ i e. let b = node-number g i e in price-proper ys _ _ few.few_nodes few.few_arcs form _ b.0 b.1);
        flows = figured 96 (is_used net) (λ j. flow_at pair (arc_rank net j)) (λ j e. let b = arc-number g j e in flow-proper ys _ _ few.few_nodes few.few_arcs form _ b.0 b.1);
      }

  spread-is : exact_pair (spread_of net pair) ≡ spread net (exact_pair pair)
  unfolding spread_of
  spread-is =
      pair_is _ _ _ _ (those-value 96 (is_used net) (λ j. flow_at pair (arc_rank net j)) (λ j l. rw (get_or-eq_default net.arcs no_arc {n = j} (omega (arith, g.arcs_long)))))
      (those-value 32 (is_here net) (λ i. price_at pair (rank_of net i)) (λ i l. get_or-eq_default net.here false {n = i} (omega (arith, g.here_long))))

  -- solves the whole, where it solves that, and has the same value there
  pub read-solved : Solved (program_of (packed_of net)) (exact_pair pair) → Solved (program_of net) (exact_pair (spread_of net pair))
  read-solved s = rw spread-is ((survivors-sound g).solved (exact_pair pair) s)

  pub read-value : LP.value (program_of net) (exact_pair (spread_of net pair)).flow ≡ LP.value (program_of (packed_of net)) (exact_pair pair).flow
  read-value = rw spread-is ((survivors-sound g).same_value (exact_pair pair))
