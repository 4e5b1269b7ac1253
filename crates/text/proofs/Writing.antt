-- Laws of what is written into a slice from a place on.
use mathlib.Core.Path.{◌≡◌, refl, sym, ap, ◌∙◌}
use mathlib.Core.Logic.{◌⊎◌, inl, inr, ⊎_elim}
use mathlib.Core.List.{List, [], ◌∷◌, ◌++◌}
use mathlib.Core.Bool.{Bool, true, false, cond}
use Prim.Native.Nat.{ℕ, zero, suc, ◌+◌, ◌-◌, ◌≤◌, ◌<◌}
use native.Mathlib.Numerals.{add-one}
use native.Mathlib.Omega.{arith}
use lib.ListN.{length, take, drop, set, replicate, length-set, length-append, length-replicate, replicate-append-replicate}
use lib.Seq.{set_out, sets, sets-eq}
use lib.Dec.{ltb}
use borrow.Author.Tests.{lt-ltb, le-ltb, ltb-true, ltb-false}
use Rattle.std.proofs.lemmas.List.{drop-replicate}
use Rattle.text.specs.Placed.{placed, onward, behind, Put}

module _ {A : Type 0} where
  pub length-placed : (d : List A) (at : ℕ) (xs : List A) → length (placed d at xs) ≡ length d
  unfolding placed
  length-placed d at [] = refl
  length-placed d at (x ∷ xs) = length-placed (set d at x) (at + 1) xs ∙ length-set d at x

  -- nothing is written from the end on
  pub placed-outside : (d : List A) (at : ℕ) (xs : List A) → length d ≤ at → placed d at xs ≡ d
  unfolding placed
  placed-outside d at [] h = refl
  placed-outside d at (x ∷ xs) h = rw (set_out d at x h) (placed-outside d (at + 1) xs (omega arith))

  -- two placements, the second behind the first, are one
  pub placed-append : (d : List A) (at : ℕ) (xs ys : List A) → placed (placed d at xs) (at + length xs) ys ≡ placed d at (xs ++ ys)
  unfolding placed
  placed-append d at [] ys = let e : at + 0 ≡ at = omega arith in rw e refl
  placed-append d at (x ∷ xs) ys =
      let e : at + suc (length xs) ≡ at + 1 + length xs = omega (arith, add-one (length xs)) in
      rw e (placed-append (set d at x) (at + 1) xs ys)

  placed-sets : (d : List A) (at : ℕ) (xs : List A) → placed d at xs ≡ sets d at xs
  unfolding placed
  placed-sets d at [] = refl
  placed-sets d at (x ∷ xs) = rw add-one (placed-sets (set d at x) (suc at) xs)

  -- where there is room, the elements stand at their places, and the others are as they were
  pub placed-within : (d : List A) (at : ℕ) (xs : List A) → at + length xs ≤ length d → placed d at xs ≡ take at d ++ xs ++ drop (at + length xs) d
  placed-within d at xs h = placed-sets d at xs ∙ sets-eq xs d at h

  -- what is placed at the start of zeros (or of any one element) is followed by zeros
  pub placed-zeros : (n : ℕ) (a : A) (xs : List A) → length xs ≤ n → placed (replicate n a) 0 xs ≡ xs ++ replicate (n - length xs) a
  placed-zeros n a xs h =
      let l = length-replicate n a in
      let e : 0 + length xs ≡ length xs = omega arith in
      placed-within (replicate n a) 0 xs (omega arith) ∙ rw (e, drop-replicate (length xs) n a) refl

behind-outside : (room at n : ℕ) → room ≤ at → behind room at n ≡ at
unfolding behind
behind-outside room at zero h = refl
behind-outside room at (suc n) h = rw (le-ltb at room h) (behind-outside room at n h)

-- where there is room, the place behind n elements is n further on
pub behind-within : (room at n : ℕ) → at + n ≤ room → behind room at n ≡ at + n
unfolding behind
behind-within room at zero h = omega arith
behind-within room at (suc n) h =
    let l : at < room = omega (arith, add-one n) in
    rw (lt-ltb at room l) (behind-within room (at + 1) n (omega (arith, add-one n)) ∙ omega (arith, add-one n))

behind-add : (room at m n : ℕ) → behind room (behind room at m) n ≡ behind room at (m + n)
unfolding behind
behind-add room at zero n = let e : 0 + n ≡ n = omega arith in rw e refl
behind-add room at (suc m) n =
    let e : suc m + n ≡ suc (m + n) = omega (arith, add-one m, add-one (m + n)) in
    rw e (behind-add room (onward room at) m n)

-- the place behind n elements is n further on, or both are outside
behind-or : (room at n : ℕ) → (behind room at n ≡ at + n) ⊎ ((room ≤ behind room at n) × (room ≤ at + n))
unfolding behind
behind-or room at zero = inl (omega arith)
behind-or room at (suc n) = by (ltb at room) refl (behind-or room (at + 1) n)
  where
    by : (t : Bool) → ltb at room ≡ t → (behind room (at + 1) n ≡ at + 1 + n) ⊎ ((room ≤ behind room (at + 1) n) × (room ≤ at + 1 + n)) → (behind room (cond t (at + 1) at) n ≡ at + suc n) ⊎ ((room ≤ behind room (cond t (at + 1) at) n) × (room ≤ at + suc n))
    by true e more =
        ⊎_elim
        (λ (q : behind room (at + 1) n ≡ at + 1 + n). inl (omega (arith, add-one n)))
        (λ (q : (room ≤ behind room (at + 1) n) × (room ≤ at + 1 + n)). inr (q.0, omega (arith, add-one n, q.1)))
        more
    by false e more = let h = ltb-false at room e in inr (rw (behind-outside room at n h) h, omega arith)

-- bytes that are put behind others are put with them
pub put-append : {d : List ℕ} {at : ℕ} {xs : List ℕ} {r : ℕ} {m : List ℕ} {ys : List ℕ} {s : ℕ} {e : List ℕ} → Put d at xs r m → Put m r ys s e → Put d at (xs ++ ys) s e
put-append {d} {at} {xs} {r} {m} {ys} {s} {e} f g =
    record {
      result = g.result ∙ rw (f.bytes_are, length-placed d at xs, f.result, length-append xs ys) (behind-add (length d) at (length xs) (length ys));
      bytes_are = g.bytes_are ∙ rw (f.bytes_are, f.result) (⊎_elim same out (behind-or (length d) at (length xs)));
    }
  where
    same : behind (length d) at (length xs) ≡ at + length xs → placed (placed d at xs) (behind (length d) at (length xs)) ys ≡ placed d at (xs ++ ys)
    same q = rw q (placed-append d at xs ys)

    out : (length d ≤ behind (length d) at (length xs)) × (length d ≤ at + length xs) → placed (placed d at xs) (behind (length d) at (length xs)) ys ≡ placed d at (xs ++ ys)
    out q =
        let l = length-placed d at xs in
        placed-outside (placed d at xs) (behind (length d) at (length xs)) ys (omega (arith, q.0)) ∙ sym (placed-outside (placed d at xs) (at + length xs) ys (omega (arith, q.1))) ∙ placed-append d at xs ys

pub put-long : {d : List ℕ} {at : ℕ} {xs : List ℕ} {r : ℕ} {e : List ℕ} → Put d at xs r e → length e ≡ length d
put-long {d} {at} {xs} p = ap length p.bytes_are ∙ length-placed d at xs

behind-le : (room at n : ℕ) → at ≤ room → behind room at n ≤ room
unfolding behind
behind-le room at zero h = h
behind-le room at (suc n) h = behind-le room (onward room at) n (by (ltb at room) refl)
  where
    by : (b : Bool) → ltb at room ≡ b → cond b (at + 1) at ≤ room
    by true e = omega (arith, ltb-true at room e)
    by false e = h

-- the place behind what is written lies within the slice
pub put-le : {d : List ℕ} {at : ℕ} {xs : List ℕ} {r : ℕ} {e : List ℕ} → Put d at xs r e → at ≤ length d → r ≤ length e
put-le {d} {at} {xs} p h = rw (p.result, put-long p) (behind-le (length d) at (length xs) h)

pub put-none : (d : List ℕ) (at : ℕ) → Put d at [] at d
unfolding placed behind
put-none d at = record { result = refl; bytes_are = refl }

pub put_one : (d : List ℕ) (at b : ℕ) → at < length d → Put d at (b ∷ []) (at + 1) (set d at b)
unfolding placed behind
put_one d at b h = record { result = rw (lt-ltb at (length d) h) refl; bytes_are = refl }

pub put-outside : (d : List ℕ) (at b : ℕ) → length d ≤ at → Put d at (b ∷ []) at d
unfolding placed behind
put-outside d at b h = record { result = rw (le-ltb at (length d) h) refl; bytes_are = rw (set_out d at b h) refl }

-- a whole text, from the start of a slice of zeros
pub put-zeros : {n : ℕ} {xs : List ℕ} {r : ℕ} {e : List ℕ} → Put (replicate n 0) 0 xs r e → length xs ≤ n → (r ≡ length xs) × (e ≡ xs ++ replicate (n - length xs) 0)
put-zeros {n} {xs} p h =
    let l = length-replicate {A = ℕ} n 0 in
    (p.result ∙ behind-within _ 0 (length xs) (omega arith) ∙ omega arith, p.bytes_are ∙ placed-zeros n 0 xs h)

-- a loop that puts one item a turn, where f i is what the first i are: at its head
pub record Written (f : ℕ → List ℕ) (n : ℕ) (d : List ℕ) (at i r : ℕ) (e : List ℕ) : Type 0 where
  pub upto : i ≤ n
  pub put : Put d at (f i) r e

pub written_none : (f : ℕ → List ℕ) (n : ℕ) (d : List ℕ) (at : ℕ) → f 0 ≡ [] → Written f n d at 0 at d
written_none f n d at e = record { upto = omega arith; put = rw e (put-none d at) }

pub written-more : {f : ℕ → List ℕ} {n : ℕ} {d : List ℕ} {at i r s : ℕ} {e x w : List ℕ} → Written f n d at i r e → i < n → Put e r x s w → f i ++ x ≡ f (i + 1) → Written f n d at (i + 1) s w
written-more h l p q = record { upto = omega arith; put = rw (← q) (put-append h.put p) }

pub written_all : {f : ℕ → List ℕ} {n : ℕ} {d : List ℕ} {at i r : ℕ} {e : List ℕ} → Written f n d at i r e → n ≤ i → Put d at (f n) r e
written_all {f} {n} {i = i} h l = let q : i ≡ n = omega arith in rw q at h.put

-- a loop that puts one element at every place: at its head, with i of them
module _ {A : Type 0} (a : A) where
  pub record Cleared (d w : List A) (i : ℕ) : Type 0 where
    pub upto : i ≤ length d
    pub is : w ≡ placed d 0 (replicate i a)

  pub cleared_more : {d w : List A} {i : ℕ} → Cleared d w i → i < length d → Cleared d (set w i a) (i + 1)
  unfolding placed
  cleared_more {d} {w} {i} h l =
      let e : 0 + length (replicate i a) ≡ i = omega (arith, length-replicate i a) in
      record { upto = omega arith; is = rw h.is (rw (e, replicate-append-replicate i 1 a) at (placed-append d 0 (replicate i a) (a ∷ []))) }
