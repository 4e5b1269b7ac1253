-- Two parallel arrays, and a record of them, where they have room.
use mathlib.Core.Path.{◌≡◌, refl, sym, ap, ap₂, ◌∙◌}
use mathlib.Core.Bool.{true}
use mathlib.Core.List.{List, [], ◌∷◌, ◌++◌}
use Prim.Native.Nat.{ℕ, ◌+◌, ◌-◌, ◌≤◌, ◌<◌}
use lib.Dec.{leb}
use lib.IntN.{ℤ, pos}
use lib.ListN.{get_or-append, length, take, drop}
use lib.Seq.{get_or-append-add}
use borrow.Author.Tests.{le-leb, leb-true}
use Rattle.loops.specs.Loops.{build, written, zeros}
use Rattle.loops.proofs.Laws.{length-build, get_or-build, Filled, filled-all}
use Rattle.fraction.specs.declared.Fraction.{Fraction}
use Rattle.fraction.specs.Exact.{den_word}
use Rattle.fraction.proofs.Laws.{and_both}
use Rattle.fraction.specs.Words.{word, word_of}
use Rattle.records.specs.Arrays.{numerators, denominators, arrays_of, has_room, record_of}

-- the first of what was written over a longer list
take-front : {A : Type 0} (xs ys : List A) → take (length xs) (xs ++ ys) ≡ xs
take-front [] ys = refl
take-front (x ∷ xs) ys = ap (λ l. x ∷ l) (take-front xs ys)

pub take-written : {A : Type 0} (t : ℕ) (f : ℕ → A) (d : List A) → take t (written t f d) ≡ build t f
unfolding written
take-written t f d = ap (λ n. take n (build t f ++ drop t d)) (sym (length-build t f)) ∙ take-front (build t f) (drop t d)

-- numerators and denominators filled, and what the writer of denominators makes of the rest
pub both-filled : (f : ℕ → Fraction) {t i : ℕ} {d s e v : List ℤ} → Filled (λ k. (f k).num) t d s i → Filled (λ k. den_word (f k).den) t e v i → t ≤ i → take t s ++ (take t v ++ zeros (length s - t - length (take t v))) ≡ arrays_of f t (length d)
unfolding arrays_of
both-filled f {t} {d = d} {s} {e} {v} h k l =
    ap₂ ◌++◌ (ap (take t) (filled-all h l) ∙ take-written t _ d) (ap₂ ◌++◌ dens (ap (λ n. zeros (n - t - length (take t v))) h.long ∙ ap (λ n. zeros (length d - t - n)) (ap length dens ∙ length-build t _)))
  where
    dens : take t v ≡ build t (λ k. den_word (f k).den)
    dens = ap (take t) (filled-all k l) ∙ take-written t _ e

-- where a record has room
pub room-is : (least n m room : ℕ) → has_room least n m room ≡ true → (n ≤ 32) × (m ≤ 96) × (least ≤ room)
unfolding has_room
room-is least n m room e =
    let a = and_both (leb n 32) _ e in
    let b = and_both (leb m 96) _ a.1 in
    (leb-true _ _ a.0, leb-true _ _ b.0, leb-true _ _ b.1)

pub with-room : (least n m : ℕ) (f : ℕ → Fraction) (t room : ℕ) → n ≤ 32 → m ≤ 96 → least ≤ room → record_of least n m f t room ≡ word_of n ∷ word_of m ∷ arrays_of f t (room - 2)
unfolding has_room record_of
with-room least n m f t room h k l = rw (le-leb _ _ h, le-leb _ _ k, le-leb _ _ l)

-- ---- the words of two parallel arrays that have room

module _ (f : ℕ → Fraction) (t room : ℕ) where
  pub first-at : (k : ℕ) → k < t → word (arrays_of f t room) k ≡ (f k).num
  unfolding arrays_of
  first-at k l = get_or-append (numerators f t) _ (pos 0) k (rw length-build l) ∙ get_or-build t _ (pos 0) k l

  pub second_at_lem : (k : ℕ) → k < t → word (arrays_of f t room) (t + k) ≡ den_word (f k).den
  unfolding arrays_of
  second_at_lem k l =
      ap (λ (i : ℕ). word (numerators f t ++ rest) i) e ∙ get_or-append-add (numerators f t) rest k (pos 0) ∙ get_or-append (denominators f t) _ (pos 0) k (rw length-build l) ∙ get_or-build t _ (pos 0) k l
    where
      rest : List ℤ
      rest = denominators f t ++ zeros (room - t - t)

      e : t + k ≡ length (numerators f t) + k
      e = rw length-build refl
