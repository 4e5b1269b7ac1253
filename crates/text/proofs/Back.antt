-- A line of words, read as a text, gives the words back.
use mathlib.Core.Path.{◌≡◌, refl, ap, ◌∙◌}
use mathlib.Core.List.{List, [], ◌∷◌, ◌++◌, append_assoc}
use mathlib.Core.Bool.{Bool, true, false, cond}
use mathlib.Core.Option.{some, none}
use Prim.Native.Nat.{ℕ, zero, suc, ◌+◌, ◌-◌, ◌*◌, ◌/◌, ◌%◌, ◌≤◌, ◌<◌}
use native.Mathlib.Nat.{not-suc-le-zero}
use native.Mathlib.Numerals.{add-one}
use native.Mathlib.Omega.{arith}
use lib.ListN.{length, length-append}
use lib.Dec.{ltb}
use lib.IntN.{ℤ, pos, negsuc}
use lib.Signed.{mag}
use borrow.Author.Tests.{le-leb, ne_eqb, ltb-true, ltb-false}
use Rattle.text.specs.Text.{separator, digit, pieces, value_from, value_of, signed, word_of, both, words_in, words_of}
use Rattle.text.specs.Line.{digits_by, digits_in, digits, decimal, behind_spaces, spaced, line_of}
use Rattle.text.proofs.Words.{digit_low}
use Rattle.text.proofs.Lines.{Within}

-- bytes with no separator among them
abbrev Plain : List ℕ → Type 0
Plain [] = Unit {0}
Plain (b ∷ bs) = (separator b ≡ false) × Plain bs

digit-of : (d : ℕ) → d < 10 → digit (48 + d) ≡ true
unfolding digit
digit-of d h = rw (le-leb 48 (48 + d) (omega arith), le-leb (48 + d) 57 (omega arith)) refl

digit-plain : (b : ℕ) → digit b ≡ true → separator b ≡ false
unfolding separator
digit-plain b e =
    let l = digit_low b e in
    rw (ne_eqb b 32 (λ q. omega arith), ne_eqb b 10 (λ q. omega arith), ne_eqb b 13 (λ q. omega arith)) refl

value-plain : (xs : List ℕ) (v m : ℕ) → value_from v xs ≡ some m → Plain xs
unfolding value_from
value-plain [] v m e = tt
value-plain (x ∷ xs) v m e = by (digit x) refl e (λ q. value-plain xs (v * 10 + (x - 48)) m q)
  where
    by : (t : Bool) → digit x ≡ t → cond t (value_from (v * 10 + (x - 48)) xs) none ≡ some m → (value_from (v * 10 + (x - 48)) xs ≡ some m → Plain xs) → Plain (x ∷ xs)
    by true q e more = (digit-plain x q, more e)
    by false q e more = cc

value_none : (v : ℕ) → value_from v [] ≡ some v
unfolding value_from
value_none v = refl

value-snoc : (xs : List ℕ) (b v m : ℕ) → value_from v xs ≡ some m → digit b ≡ true → value_from v (xs ++ (b ∷ [])) ≡ some (m * 10 + (b - 48))
unfolding value_from
value-snoc [] b v m e q = let z : v ≡ m = cc in rw (q, z) refl
value-snoc (x ∷ xs) b v m e q = by (digit x) e (λ g. value-snoc xs b (v * 10 + (x - 48)) m g q)
  where
    by : (t : Bool) → cond t (value_from (v * 10 + (x - 48)) xs) none ≡ some m → (value_from (v * 10 + (x - 48)) xs ≡ some m → value_from (v * 10 + (x - 48)) (xs ++ (b ∷ [])) ≡ some (m * 10 + (b - 48)))
        → cond t (value_from (v * 10 + (x - 48)) (xs ++ (b ∷ []))) none ≡ some (m * 10 + (b - 48))
    by true e more = more e
    by false e more = cc

value-digits : (f n : ℕ) → n < f → (value_from 0 (digits_in f n) ≡ some n) × (0 < length (digits_in f n))
unfolding digits_in
value-digits zero n h = absurd (not-suc-le-zero h)
value-digits (suc f) n h = by (ltb n 10) refl (λ l. (value-digits f (n / 10) (omega (arith, add-one f))).0)
  where
    by : (t : Bool) → ltb n 10 ≡ t → (10 ≤ n → value_from 0 (digits_in f (n / 10)) ≡ some (n / 10)) → (value_from 0 (digits_by t n (digits_in f)) ≡ some n) × (0 < length (digits_by t n (digits_in f)))
    by true e more =
        let l = ltb-true n 10 e in
        let z : 0 * 10 + (48 + n - 48) ≡ n = omega arith in
        (value-snoc [] (48 + n) 0 0 (value_none 0) (digit-of n l) ∙ ap some z, omega arith)
    by false e more =
        let d : n % 10 < 10 = omega arith in
        let z : n / 10 * 10 + (48 + n % 10 - 48) ≡ n = omega arith in (
          value-snoc (digits_in f (n / 10)) (48 + n % 10) 0 (n / 10) (more (ltb-false n 10 e)) (digit-of (n % 10) d) ∙ ap some z,
          rw (length-append (digits_in f (n / 10)) ((48 + n % 10) ∷ [])) (omega arith),
        )

value-of : (n : ℕ) → (value_from 0 (digits n) ≡ some n) × (0 < length (digits n))
unfolding digits
value-of n = value-digits (suc n) n (omega (arith, add-one n))

-- digits, with and without a minus sign before them
digits_value : (xs : List ℕ) (n : ℕ) → value_from 0 xs ≡ some n → 0 < length xs → value_of xs ≡ some n
digits_value [] n e h = absurd (not-suc-le-zero h)
digits_value (x ∷ xs) n e h = e

digits-word : (xs : List ℕ) (n : ℕ) → value_from 0 xs ≡ some n → 0 < length xs → word_of xs ≡ signed false (some n)
unfolding value_from
digits-word [] n e h = absurd (not-suc-le-zero h)
digits-word (x ∷ xs) n e h = by (digit x) refl e
  where
    by : (t : Bool) → digit x ≡ t → cond t (value_from (0 * 10 + (x - 48)) xs) none ≡ some n → word_of (x ∷ xs) ≡ signed false (some n)
    by true q e = let l = digit_low x q in rw (ne_eqb x 45 (λ z. omega arith), q, e) refl
    by false q e = cc

decimal-word : (z : ℤ) → mag z < 2147483648 → word_of (decimal z) ≡ some z
decimal-word (pos n) h = let v = value-of n in digits-word (digits n) n v.0 v.1 ∙ rw (le-leb n 2147483647 (omega arith)) refl
decimal-word (negsuc n) h =
    let v = value-of (suc n) in
    rw (digits_value (digits (suc n)) (suc n) v.0 v.1, le-leb (suc n) 2147483648 (omega (arith, add-one n))) refl

decimal-plain : (z : ℤ) → Plain (decimal z)
unfolding separator
decimal-plain (pos n) = value-plain (digits n) 0 n (value-of n).0
decimal-plain (negsuc n) = (refl, value-plain (digits (suc n)) 0 (suc n) (value-of (suc n)).0)

-- a word and a separator, before a text
pieces-word : (xs : List ℕ) (s : ℕ) (t : List ℕ) → Plain xs → separator s ≡ true → pieces (xs ++ (s ∷ t)) ≡ xs ∷ pieces t
unfolding pieces
pieces-word [] s t h e = rw e refl
pieces-word (x ∷ xs) s t h e = rw (h.0, pieces-word xs s t h.1 e) refl

words-cons : (p : List ℕ) (ps : List (List ℕ)) (z : ℤ) → word_of p ≡ some z → words_in (p ∷ ps) ≡ both (some z) (words_in ps)
unfolding words_in
words-cons [] ps z e = cc
words-cons (b ∷ p) ps z e = rw e refl

words-word : (z : ℤ) (s : ℕ) (t : List ℕ) → mag z < 2147483648 → separator s ≡ true → words_in (pieces (decimal z ++ (s ∷ t))) ≡ both (some z) (words_in (pieces t))
words-word z s t h e = rw (pieces-word (decimal z) s t (decimal-plain z) e) (words-cons (decimal z) (pieces t) z (decimal-word z h))

words-behind : (z : ℤ) (zs : List ℤ) → Within (z ∷ zs) → words_in (pieces (decimal z ++ (behind_spaces zs ++ (10 ∷ [])))) ≡ some (z ∷ zs)
unfolding behind_spaces separator pieces words_in
words-behind z [] h = words-word z 10 [] h.0 refl
words-behind z (y ∷ zs) h =
    words-word z 32 ((decimal y ++ behind_spaces zs) ++ (10 ∷ [])) h.0 refl
    ∙ rw (append_assoc (decimal y) (behind_spaces zs) (10 ∷ []), words-behind y zs h.1) refl

words-line : (zs : List ℤ) → Within zs → words_in (pieces (line_of zs)) ≡ some zs
unfolding line_of spaced separator pieces words_in
words-line [] h = refl
words-line (z ∷ zs) h = rw (append_assoc (decimal z) (behind_spaces zs) (10 ∷ [])) (words-behind z zs h)

pub read-line : (zs : List ℤ) → Within zs → length (line_of zs) ≤ 24576 → words_of (line_of zs) ≡ some zs
unfolding words_of
read-line zs h l = rw (le-leb (length (line_of zs)) 24576 l) (words-line zs h)
