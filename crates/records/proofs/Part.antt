-- The part of an array at the numbers 1 to n, as code lends it.
use mathlib.Core.Path.{◌≡◌, refl, sym, ap, ◌∙◌}
use mathlib.Core.List.{List, [], ◌∷◌, ◌++◌}
use Prim.Native.Nat.{ℕ, zero, suc, ◌+◌, ◌-◌, ◌≤◌, ◌<◌}
use native.Mathlib.Numerals.{add-one}
use native.Mathlib.Omega.{arith}
use lib.ListN.{length, get_or, set, drop, length-drop}
use lib.Seq.{length-take-le}
use borrow.Rule.Slice.PartMut.{mid_of, put_mid}
use Rattle.std.proofs.lemmas.List.{get_or-take}
use Rattle.std.proofs.lemmas.Grind.{get_or_after_one}
use Rattle.loops.specs.Loops.{build, upto}
use Rattle.loops.proofs.Laws.{build-more, Filled, filled-whole}
use Rattle.network.proofs.Numbers.{puts}

pub record Numbered {A : Type 0} (d : A) (l : List A) (n : ℕ) (part : List A) : Type 0 where
  pub long : length part ≡ n
  pub at : (k : ℕ) → k < n → get_or part k d ≡ get_or l (k + 1) d

pub numbered : {A : Type 0} {d : A} (l : List A) (n : ℕ) → n < length l → Numbered d l n (mid_of 1 (n + 1 - 1) l)
numbered {d = d} l n h =
    let e : n + 1 - 1 ≡ n = omega arith in
    rw e
    record {
      long = length-take-le n (drop 1 l) (rw length-drop (omega arith));
      at = λ k i. let q : 1 + k ≡ k + 1 = omega arith in get_or-take n (drop 1 l) k d i ∙ get_or_after_one l k d ∙ rw q refl;
    }

-- f 0 to f (n - 1) over the first n elements of l, behind x
turns : {A : Type 0} (f : ℕ → A) (x : A) (l : List A) (n : ℕ) → n ≤ length l → upto (λ k t. set t (k + 1) (f k)) n (x ∷ l) ≡ x ∷ (build n f ++ drop n l)
unfolding upto build
turns f x l zero h = refl
turns f x l (suc n) h =
    ap (λ t. set t (n + 1) (f n)) (turns f x l n (omega (arith, add-one n)))
    ∙ rw add-one (ap (λ t. x ∷ t) (build-more l f n (omega (arith, add-one n)) ∙ rw add-one refl))

-- filled, and come back
pub part-built : {A : Type 0} (f : ℕ → A) (l : List A) (n : ℕ) → n < length l → put_mid 1 (n + 1 - 1) l (build n f) ≡ puts f l n
unfolding puts
part-built f [] n h = absurd (omega arith)
part-built f (x ∷ l) n h = let e : n + 1 - 1 ≡ n = omega arith in rw e (sym (turns f x l n (omega (arith, add-one (length l)))))

pub part-filled : {A : Type 0} {f : ℕ → A} (l : List A) {n i : ℕ} {s : List A} → Filled f n (mid_of 1 (n + 1 - 1) l) s i → n ≤ i → n < length l → put_mid 1 (n + 1 - 1) l s ≡ puts f l n
part-filled {A} {f} l {n} h k b =
    let p : Numbered (f 0) l n (mid_of 1 (n + 1 - 1) l) = numbered l n b in
    rw (filled-whole h k (omega (arith, p.long))) (part-built f l n b)

pub part-read : {A : Type 0} (f : ℕ → A) (l : List A) (n : ℕ) {s : List A} → s ≡ build (length (mid_of 1 (n + 1 - 1) l)) f → n < length l → put_mid 1 (n + 1 - 1) l s ≡ puts f l n
part-read {A} f l n e b =
    let p : Numbered (f 0) l n (mid_of 1 (n + 1 - 1) l) = numbered l n b in
    rw (e, p.long) (part-built f l n b)
