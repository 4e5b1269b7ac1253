-- A text has at most half as many words as it has bytes, and one.
use mathlib.Core.Path.{◌≡◌, refl}
use mathlib.Core.List.{List, [], ◌∷◌}
use mathlib.Core.Bool.{Bool, true, false, cond}
use mathlib.Core.Option.{Option, some, none}
use Prim.Native.Nat.{ℕ, suc, ◌+◌, ◌*◌, ◌≤◌}
use native.Mathlib.Numerals.{add-one}
use native.Mathlib.Omega.{arith}
use lib.ListN.{length}
use lib.Dec.{leb}
use lib.IntN.{ℤ}
use borrow.Author.Tests.{le-leb, leb-true}
use Rattle.text.specs.Text.{separator, onto, pieces, word_of, both, words_in, words_of, fitted}

-- how many pieces are not empty, and whether the first is one of them
abbrev full : List (List ℕ) → ℕ
full [] = 0
full ([] ∷ ps) = full ps
full ((b ∷ p) ∷ ps) = full ps + 1

abbrev first : List (List ℕ) → ℕ
first [] = 0
first ([] ∷ ps) = 0
first ((b ∷ p) ∷ ps) = 1

first-le : (ps : List (List ℕ)) → first ps ≤ 1
first-le [] = omega arith
first-le ([] ∷ ps) = omega arith
first-le ((b ∷ p) ∷ ps) = omega arith

full-onto : (b n : ℕ) (ps : List (List ℕ)) → full ps * 2 ≤ n + first ps → full (onto b ps) * 2 ≤ suc n + first (onto b ps)
full-onto b n [] h = omega (arith, add-one n)
full-onto b n ([] ∷ ps) h = omega (arith, add-one n)
full-onto b n ((a ∷ p) ∷ ps) h = omega (arith, add-one n)

full-pieces : (t : List ℕ) → full (pieces t) * 2 ≤ length t + first (pieces t)
unfolding pieces
full-pieces [] = omega arith
full-pieces (b ∷ t) = by (separator b) (full-pieces t)
  where
    by : (q : Bool) → full (pieces t) * 2 ≤ length t + first (pieces t) → full (cond q ([] ∷ pieces t) (onto b (pieces t))) * 2 ≤ suc (length t) + first (cond q ([] ∷ pieces t) (onto b (pieces t)))
    by true h = omega (arith, first-le (pieces t), add-one (length t))
    by false h = full-onto b (length t) (pieces t) h

full-words : (ps : List (List ℕ)) (ws : List ℤ) → words_in ps ≡ some ws → length ws ≡ full ps
unfolding words_in
full-words [] ws e = let z : ws ≡ [] = cc in rw z refl
full-words ([] ∷ ps) ws e = full-words ps ws e
full-words ((b ∷ p) ∷ ps) ws e = by (word_of (b ∷ p)) (words_in ps) e (λ us q. full-words ps us q)
  where
    by : (o : Option ℤ) (r : Option (List ℤ)) → both o r ≡ some ws → ((us : List ℤ) → r ≡ some us → length us ≡ full ps) → length ws ≡ full ps + 1
    by none r e more = cc
    by (some z) none e more = cc
    by (some z) (some us) e more = let q : ws ≡ z ∷ us = cc in rw q (omega (arith, more us refl, add-one (length us)))

-- a text of at most 24576 bytes has at most 12288 words
pub few_words : (text : List ℕ) (ws : List ℤ) → words_of text ≡ some ws → length ws ≤ 12288
unfolding words_of
few_words text ws e = by (leb (length text) 24576) refl e
  where
    by : (t : Bool) → leb (length text) 24576 ≡ t → cond t (words_in (pieces text)) none ≡ some ws → length ws ≤ 12288
    by true q e = omega (arith, leb-true (length text) 24576 q, full-words (pieces text) ws e, full-pieces text, first-le (pieces text))
    by false q e = cc

-- a slice of 12288 words has room for the words of every text
pub room-enough : (text : List ℕ) (room : ℕ) → 12288 ≤ room → fitted room (words_of text) ≡ words_of text
room-enough text room h = by (words_of text) refl
  where
    by : (o : Option (List ℤ)) → words_of text ≡ o → fitted room o ≡ o
    by none e = refl
    by (some ws) e = rw (le-leb (length ws) room (omega (arith, few_words text ws e))) refl
