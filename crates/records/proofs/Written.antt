-- The pair and the values read back from the words written are those written.
use mathlib.Core.Path.{◌≡◌, refl, sym, ap, ap₂, ◌∙◌}
use mathlib.Core.List.{List, [], ◌∷◌, ◌++◌}
use Prim.Native.Nat.{ℕ, zero, suc, ◌+◌, ◌-◌, ◌≤◌, ◌<◌}
use native.Mathlib.Numerals.{add-one}
use native.Mathlib.Omega.{arith}
use lib.IntN.{ℤ, pos}
use lib.ListN.{length, set}
use lib.Seq.{get_or-append-add}
use borrow.Author.Tests.{le-leb}
use Rattle.loops.specs.Loops.{zeros}
use Rattle.fraction.specs.declared.Fraction.{Fraction}
use Rattle.fraction.specs.Exact.{most, from_words, den_word}
use Rattle.network.specs.declared.pair.Pair.{Pair}
use Rattle.fraction.specs.Words.{word}
use Rattle.records.specs.Arrays.{figure_at, arrays_of}
use Rattle.network.specs.Pair.{price_at, flow_at}
use Rattle.records.specs.Pair.{pair_of}
use Rattle.records.proofs.Arrays.{first-at, second_at_lem, with-room}
use Rattle.records.proofs.Paired.{price-read, flow-read}
use Rattle.records.proofs.Put.{price-figure, flow-figure}
use Rattle.records.specs.Pair.{pair_figure, pair_words}
use Rattle.records.specs.Values.{two_words, four_words, with_value}

-- a figure's two words
pub words-read : (x : Fraction) → x.den ≤ most → from_words x.num (den_word x.den) ≡ x
unfolding from_words den_word
words-read x h = rw (le-leb x.den most h) refl

-- figure k of a record of sizes v and w and t figures
pub figure-written : (v w : ℤ) (f : ℕ → Fraction) (t room k : ℕ) → k < t → (f k).den ≤ most → figure_at (v ∷ w ∷ arrays_of f t room) t k ≡ f k
unfolding figure_at
figure-written v w f t room k l d =
    let e : 2 + t + k ≡ 2 + (t + k) = omega arith in
    ap₂ from_words (get_or-append-add (v ∷ w ∷ []) (arrays_of f t room) k (pos 0) ∙ first-at f t room k l)
    (ap (word (v ∷ w ∷ arrays_of f t room)) e ∙ get_or-append-add (v ∷ w ∷ []) (arrays_of f t room) (t + k) (pos 0) ∙ second_at_lem f t room k l)
    ∙ words-read (f k) d

-- ---- a pair's record

module _ (n m : ℕ) (pair : Pair) (room : ℕ) (h : n ≤ 32) (k : m ≤ 96) (l : 258 ≤ room) where
  -- figure i of the record
  pub figure-read : (i : ℕ) → i < n + m → (pair_figure n pair i).den ≤ most → figure_at (pair_words n m pair room) (n + m) i ≡ pair_figure n pair i
  unfolding pair_words
  figure-read i b d = rw (with-room 258 n m (pair_figure n pair) (n + m) room h k l) (figure-written _ _ (pair_figure n pair) (n + m) (room - 2) i b d)

  pub price-written : (i : ℕ) → i < n → (price_at pair (i + 1)).den ≤ most → price_at (pair_of (pair_words n m pair room) n m) (i + 1) ≡ price_at pair (i + 1)
  price-written i b d =
      let e = price-figure n pair i b in
      price-read (pair_words n m pair room) n m h k i b ∙ figure-read i (omega arith) (rw e d) ∙ e

  pub flow-written : (j : ℕ) → j < m → (flow_at pair (j + 1)).den ≤ most → flow_at (pair_of (pair_words n m pair room) n m) (j + 1) ≡ flow_at pair (j + 1)
  flow-written j b d =
      let e = flow-figure n pair j in
      flow-read (pair_words n m pair room) n m h k j b ∙ figure-read (n + j) (omega arith) (rw e d) ∙ e

-- ---- values over the first words of a slice of zeros, and read back

zeros-but : (n k : ℕ) → n ≤ k → zeros k ≡ zeros n ++ zeros (k - n)
zeros-but zero k h = let e : k - 0 ≡ k = omega arith in ap zeros (sym e)
zeros-but (suc n) zero h = absurd (omega (arith, add-one n))
zeros-but (suc n) (suc k) h = let e : suc k - suc n ≡ k - n = omega (arith, add-one n, add-one k) in ap (λ l. pos 0 ∷ l) (zeros-but n k (omega (arith, add-one n, add-one k)) ∙ ap (λ j. zeros n ++ zeros j) (sym e))

pub one_value : (x : Fraction) (l : List ℤ) → l ≡ zeros (length l) → 2 ≤ length l → with_value l 0 x ≡ two_words x (length l)
unfolding with_value
one_value x l e h = ap (λ (t : List ℤ). set (set t 0 x.num) 1 (den_word x.den)) (e ∙ zeros-but 2 (length l) h)

pub both_values : (x y : Fraction) (l : List ℤ) → l ≡ zeros (length l) → 4 ≤ length l → with_value (with_value l 0 x) 2 y ≡ four_words x y (length l)
unfolding with_value
both_values x y l e h = ap (λ (t : List ℤ). set (set (set (set t 0 x.num) 1 (den_word x.den)) 2 y.num) 3 (den_word y.den)) (e ∙ zeros-but 4 (length l) h)

pub value_written : (x y : Fraction) (room : ℕ) → y.den ≤ most → from_words (word (four_words x y room) 2) (word (four_words x y room) 3) ≡ y
value_written x y room h = words-read y h
