-- Laws of what is printed into a page.
use mathlib.Core.Path.{◌≡◌, refl, ◌∙◌}
use mathlib.Core.List.{List, [], ◌∷◌, ◌++◌}
use native.Mathlib.Nat.{le_trans, add-le-add}
use native.Mathlib.Numerals.{add-one}
use native.Mathlib.Omega.{arith}
use Prim.Native.Nat.{ℕ, ◌+◌, ◌*◌, ◌<◌, ◌≤◌}
use lib.ListN.{length, get_or, take, length-append}
use lib.IntN.{ℤ, pos}
use Rattle.std.proofs.lemmas.List.{take_more}
use Rattle.text.specs.declared.page.Page.{Page}
use Rattle.text.specs.Line.{decimal, behind_spaces, spaced, line_of}
use Rattle.text.specs.Page.{Prints}
use Rattle.text.proofs.Lines.{behind-more}
use Rattle.text.proofs.Writing.{put-append, put-none}

pub prints_none : (p : Page) → Prints p [] 0 p
prints_none p = record { same = refl; put = put-none p.out.now p.at; few = omega arith }

-- two prints, the second behind the first, are one
pub prints_append : {p q r : Page} {xs ys : List ℕ} {m n : ℕ} → Prints p xs m q → Prints q ys n r → Prints p (xs ++ ys) (m + n) r
prints_append f g = record { same = g.same ∙ f.same; put = put-append f.put g.put; few = rw length-append (add-le-add f.few g.few) }

pub prints_most : {p q : Page} {xs : List ℕ} {most more : ℕ} → Prints p xs most q → most ≤ more → Prints p xs more q
prints_most f h = record { same = f.same; put = f.put; few = le_trans f.few h }

-- a turn of a loop over bytes
pub prints_byte : (xs : List ℕ) {i : ℕ} {p q r : Page} → Prints p (take i xs) i q → i < length xs → Prints q (get_or xs i 0 ∷ []) 1 r → Prints p (take (i + 1) xs) (i + 1) r
prints_byte xs {i} f l g = rw (take_more xs i 0 l) (prints_append f g)

-- a turn of a loop over words
pub prints_word : (zs : List ℤ) {i : ℕ} {p q r s : Page} → Prints p (behind_spaces (take i zs)) (i * 12) q → i < length zs → Prints q (32 ∷ []) 1 r → Prints r (decimal (get_or zs i (pos 0))) 11 s → Prints p (behind_spaces (take (i + 1) zs)) ((i + 1) * 12) s
prints_word zs {i} f l g h = rw (← behind-more zs i l) (prints_most (prints_append f (prints_append g h)) (omega arith))

-- a line, by its first word and those behind it, and an empty one
pub prints_line : {zs : List ℤ} {z : ℤ} {ws : List ℤ} {p q r s : Page} → zs ≡ z ∷ ws → Prints p (decimal z) 11 q → Prints q (behind_spaces ws) (length ws * 12) r → Prints r (10 ∷ []) 1 s → Prints p (line_of zs) (length zs * 12 + 1) s
unfolding spaced line_of
prints_line {ws = ws} e f g h = rw e (prints_most (prints_append (prints_append f g) h) (omega (arith, add-one (length ws))))

pub prints-empty : (zs : List ℤ) {p q : Page} → length zs ≡ 0 → Prints p (10 ∷ []) 1 q → Prints p (line_of zs) (length zs * 12 + 1) q
unfolding spaced line_of
prints-empty [] e f = f
prints-empty (z ∷ zs) e f = absurd (omega (arith, add-one (length zs)))
