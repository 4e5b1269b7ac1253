-- The pair that a record holds, where question 8 lets it pass: fractions in form at the numbers of nodes and arcs, and nothing elsewhere.
use mathlib.Core.Path.{◌≡◌, refl, sym, ◌∙◌}
use mathlib.Core.Bool.{true}
use mathlib.Core.List.{List}
use mathlib.Core.Logic.{◌⊎◌}
use Prim.Native.Nat.{ℕ, zero, suc, ◌+◌, ◌-◌, ◌≤◌, ◌<◌}
use native.Mathlib.Numerals.{add-one}
use native.Mathlib.Omega.{arith}
use lib.IntN.{ℤ}
use lib.ListN.{length, replicate}
use borrow.Rule.Slice.PartMut.{mid_of, put_mid}
use Rattle.fraction.specs.declared.Fraction.{Fraction}
use borrow.Author.Tests.{le-leb}
use Rattle.loops.specs.Loops.{build, upto}
use Rattle.records.proofs.Part.{part-read}
use Rattle.loops.proofs.Laws.{all-each}
use Rattle.fraction.specs.Exact.{Proper, no_figure}
use Rattle.fraction.proofs.Laws.{and_both, proper-is}
use Rattle.network.specs.declared.pair.Pair.{Pair}
use Rattle.records.specs.Arrays.{figure_at}
use Rattle.network.specs.Pair.{no_pair, price_at, flow_at, with_price, with_flow}
use Rattle.records.specs.Pair.{has_sizes, is_fraction, is_pair, price_turn, flow_turn, pair_of}
use Rattle.network.proofs.Numbers.{puts, puts-out, puts-in, get_or-all, number}

prices-are : (ys : List ℤ) (t n : ℕ) (pair : Pair) → n ≤ 32 → upto (price_turn ys t) n pair ≡ record { price = puts (figure_at ys t) pair.price n; flow = pair.flow }
unfolding puts upto with_price
prices-are ys t zero pair h = refl
prices-are ys t (suc n) pair h = rw (prices-are ys t n pair (omega (arith, add-one n)), number 32 n (omega (arith, add-one n)))

flows-are : (ys : List ℤ) (n t m : ℕ) (pair : Pair) → m ≤ 96 → upto (flow_turn ys n t) m pair ≡ record { price = pair.price; flow = puts (λ j. figure_at ys t (n + j)) pair.flow m }
unfolding puts upto with_flow
flows-are ys n t zero pair h = refl
flows-are ys n t (suc m) pair h = rw (flows-are ys n t m pair (omega (arith, add-one m)), number 96 m (omega (arith, add-one m)))

from_0 : (k : ℕ) → 0 + k ≡ k
from_0 k = omega arith

module _ (ys : List ℤ) (n m : ℕ) (h : n ≤ 32) (k : m ≤ 96) where
  pair_is : pair_of ys n m ≡ record { price = puts (figure_at ys (n + m)) (replicate 33 no_figure) n; flow = puts (λ j. figure_at ys (n + m) (n + j)) (replicate 97 no_figure) m }
  unfolding pair_of
  pair_is = rw (le-leb n 32 h, le-leb m 96 k, prices-are ys (n + m) n no_pair h, flows-are ys n (n + m) m _ k)

  -- the pair whose prices and flows are read so
  pub pair-read : (pair : Pair) {price flow : List Fraction} → pair ≡ no_pair → price ≡ build (length (mid_of 1 (n + 1 - 1) pair.price)) (λ k. figure_at ys (n + m) (0 + k)) → flow ≡ build (length (mid_of 1 (m + 1 - 1) pair.flow)) (λ k. figure_at ys (n + m) (n + k)) → record { price = put_mid 1 (n + 1 - 1) pair.price price; flow = put_mid 1 (m + 1 - 1) pair.flow flow } ≡ pair_of ys n m
  pair-read pair e p q =
      rw (part-read _ pair.price n p (rw e (omega arith)), part-read _ pair.flow m q (rw e (omega arith)), e) (simp from_0 (sym pair_is))

  -- what stands at each number
  pub price-read : (i : ℕ) → i < n → price_at (pair_of ys n m) (i + 1) ≡ figure_at ys (n + m) i
  price-read i l = rw pair_is (puts-in (figure_at ys (n + m)) (replicate 33 no_figure) no_figure n i l (omega arith))

  pub flow-read : (j : ℕ) → j < m → flow_at (pair_of ys n m) (j + 1) ≡ figure_at ys (n + m) (n + j)
  flow-read j l = rw pair_is (puts-in (λ j. figure_at ys (n + m) (n + j)) (replicate 97 no_figure) no_figure m j l (omega arith))

  pub no-flow-read : (j : ℕ) → (j ≡ 0) ⊎ (m < j) → flow_at (pair_of ys n m) j ≡ no_figure
  no-flow-read j l = rw pair_is (puts-out (λ j. figure_at ys (n + m) (n + j)) (replicate 97 no_figure) no_figure m j l ∙ get_or-all 97 j no_figure)

  module _ (e : is_pair ys n m ≡ true) where
    figure-proper : (t : ℕ) → t < n + m → Proper (figure_at ys (n + m) t)
    unfolding is_pair
    figure-proper t l = proper-is _ (all-each (is_fraction ys (n + m)) (n + m) (and_both (has_sizes ys n m) _ e).1 t l)

    pub price-proper : (i : ℕ) → 1 ≤ i → i ≤ n → Proper (price_at (pair_of ys n m) i)
    price-proper i a b =
        let q : i - 1 + 1 ≡ i = omega arith in
        rw (rw q at (price-read (i - 1) (omega arith))) (figure-proper (i - 1) (omega arith))

    pub flow-proper : (j : ℕ) → 1 ≤ j → j ≤ m → Proper (flow_at (pair_of ys n m) j)
    flow-proper j a b =
        let q : j - 1 + 1 ≡ j = omega arith in
        rw (rw q at (flow-read (j - 1) (omega arith))) (figure-proper (n + (j - 1)) (omega arith))
