-- Laws of the bytes of numbers and lines.
use mathlib.Core.Path.{◌≡◌, refl, ap}
use mathlib.Core.List.{List, [], ◌∷◌, ◌++◌, append-nil, append_assoc}
use mathlib.Core.Bool.{Bool, true, false}
use Prim.Native.Nat.{ℕ, zero, suc, ◌+◌, ◌*◌, ◌/◌, ◌%◌, ◌≤◌, ◌<◌, ◌^◌}
use native.Mathlib.Numerals.{add-one}
use native.Mathlib.Omega.{arith}
use lib.ListN.{length, get_or, take, length-append}
use lib.Dec.{ltb}
use lib.IntN.{ℤ, pos, negsuc}
use lib.Signed.{mag}
use borrow.Author.Tests.{lt-ltb, le-ltb, ltb-false}
use Rattle.std.specs.Fmt.{decimal as unsigned_decimal, signed_decimal}
use Rattle.std.proofs.lemmas.Fmt.{AppendsLastDigit, decimal_from_appends, length-decimal-le_succ, length_signed_le}
use Rattle.std.proofs.lemmas.List.{take_more}
use Rattle.text.specs.Line.{digits_by, digits_in, digits, decimal, behind_spaces, spaced, line_of}

-- the digits are those that the library writes
digits-appended : AppendsLastDigit digits_in
unfolding digits_in
digits-appended = record { one = λ k n h. rw (lt-ltb n 10 h) refl; more = λ k n h. rw (le-ltb n 10 h) refl }

digits-are : (n : ℕ) → n < 2 ^ 64 → digits n ≡ unsigned_decimal n
unfolding digits
digits-are n h = decimal_from_appends digits_in digits-appended (suc n) n h (rw (← add-one n) (length-decimal-le_succ n h))

pub decimal-is : (z : ℤ) → mag z < 2147483648 → decimal z ≡ signed_decimal z
decimal-is (pos n) h = digits-are n (omega arith)
decimal-is (negsuc n) h = ap (λ (ds : List ℕ). 45 ∷ ds) (digits-are (suc n) (omega (arith, add-one n)))

behind-snoc : (zs : List ℤ) (z : ℤ) → behind_spaces (zs ++ (z ∷ [])) ≡ behind_spaces zs ++ (32 ∷ decimal z)
unfolding behind_spaces
behind-snoc [] z = rw (append-nil (decimal z)) refl
behind-snoc (y ∷ zs) z = rw (behind-snoc zs z, append_assoc (decimal y) (behind_spaces zs) (32 ∷ decimal z)) refl

-- one more word behind a space
pub behind-more : (zs : List ℤ) (i : ℕ) → i < length zs → behind_spaces (take i zs) ++ (32 ∷ decimal (get_or zs i (pos 0))) ≡ behind_spaces (take (i + 1) zs)
behind-more zs i h = rw (take_more zs i (pos 0) h, behind-snoc) refl

-- a word has at most eleven bytes
pub decimal-few : (z : ℤ) → mag z < 2147483648 → length (decimal z) ≤ 11
decimal-few z h = rw (decimal-is z h) (length_signed_le 10 z (omega arith) (omega arith))

-- any number of digits above n is enough
enough : (f g n : ℕ) → n < f → n < g → digits_in f n ≡ digits_in g n
unfolding digits_in
enough zero g n h k = absurd (omega arith)
enough (suc f) zero n h k = absurd (omega arith)
enough (suc f) (suc g) n h k = by (ltb n 10) refl (λ l. enough f g (n / 10) (omega (arith, add-one f)) (omega (arith, add-one g)))
  where
    by : (t : Bool) → ltb n 10 ≡ t → (10 ≤ n → digits_in f (n / 10) ≡ digits_in g (n / 10)) → digits_by t n (digits_in f) ≡ digits_by t n (digits_in g)
    by true e more = refl
    by false e more = rw (more (ltb-false n 10 e)) refl

pub digits_more : (n : ℕ) → 10 ≤ n → digits n ≡ digits (n / 10) ++ ((48 + n % 10) ∷ [])
unfolding digits digits_in
digits_more n h =
    rw (le-ltb n 10 h) (ap (λ (ds : List ℕ). ds ++ ((48 + n % 10) ∷ [])) (enough n (suc (n / 10)) (n / 10) (omega arith) (omega (arith, add-one (n / 10)))))

-- words within signed 32 bits
abbrev pub Within : List ℤ → Type 0
Within [] = Unit {0}
Within (z ∷ zs) = (mag z < 2147483648) × Within zs

pub within_all : (zs : List ℤ) → ((i : ℕ) → i < length zs → mag (get_or zs i (pos 0)) < 2147483648) → Within zs
within_all [] h = tt
within_all (z ∷ zs) h = (h 0 (omega (arith, add-one (length zs))), within_all zs (λ i l. h (suc i) (omega (arith, add-one (length zs), add-one i))))

behind-few : (zs : List ℤ) → Within zs → length (behind_spaces zs) ≤ length zs * 12
unfolding behind_spaces
behind-few [] h = omega arith
behind-few (z ∷ zs) h =
    rw (length-append (decimal z) (behind_spaces zs))
    (omega (arith, decimal-few z h.0, behind-few zs h.1, add-one (length zs), add-one (length (decimal z) + length (behind_spaces zs))))

spaced-few : (zs : List ℤ) → Within zs → length (spaced zs) ≤ length zs * 12
unfolding spaced
spaced-few [] h = omega arith
spaced-few (z ∷ zs) h =
    rw (length-append (decimal z) (behind_spaces zs)) (omega (arith, decimal-few z h.0, behind-few zs h.1, add-one (length zs)))

-- a line is at most twelve bytes for each of its words, and one
pub line-few : (zs : List ℤ) → Within zs → length (line_of zs) ≤ length zs * 12 + 1
unfolding line_of
line-few zs h = rw (length-append (spaced zs) (10 ∷ [])) (omega (arith, spaced-few zs h))
