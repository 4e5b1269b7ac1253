-- A reader whose bytes are known, and a writer whose bytes are.
use Rattle.std.proofs.Common.{◌≡◌, ℕ, List, ◌++◌, ◌<◌, ◌≤◌, Ok, Err, Result, Some, None, IfSome, OnOk, sym, ap, ◌∙◌, subst, arith, length, take, append-nil}
use mathlib.Core.Logic.{◌⊎◌, inl, inr}
use Rattle.std.proofs.Math.Nat.{eq-or-lt_of_le}
use Rattle.std.proofs.Math.Seq.{take-append_seam}
use Rattle.std.proofs.lemmas.List.{length-take-le, take_all}
use Rattle.std.specs.Bool.{⊤}
use Rattle.std.specs.declared.option.Option.{Option}
use Rattle.std.specs.Io.KnownBytes.{Appends, Consumes, IsAtEnd}

-- what a buffer holds of a text, full or with nothing left behind it, is the text's front
pub front-read : (old new : Option (List ℕ)) (buf : List ℕ) (n : ℕ) → n ≤ length buf → Consumes old new (take n buf) → (n < length buf → IsAtEnd new)
    → IfSome old (λ text. take n buf ≡ take (length buf) text)
front-read None new buf n h c e = tt
front-read (Some text) None buf n h c e = absurd c
front-read (Some text) (Some behind) buf n h c e = by (eq-or-lt_of_le h) where
  front : List ℕ
  front = take n buf

  long : length front ≡ n
  long = length-take-le n buf h

  by : (n ≡ length buf) ⊎ (n < length buf) → front ≡ take (length buf) text
  by (inl full) = sym (ap (take (length buf)) c ∙ ap (λ m. take m (front ++ behind)) (sym (long ∙ full)) ∙ take-append_seam front behind)
  by (inr less) =
      let whole : text ≡ front = c ∙ ap (λ b. front ++ b) (e less) ∙ append-nil front in
      sym (ap (take (length buf)) whole ∙ take_all (length buf) front (omega (arith, long, less)))

-- what is written is the answer to what was read
pub answer-written : {E : Type 0} (r : Result ⊤ E) (come old new : Option (List ℕ)) (f : List ℕ → Option (List ℕ)) (most : ℕ) (front bytes : List ℕ)
    → OnOk r (Appends old new bytes) → IfSome (f front) (λ bs. bytes ≡ bs) → IfSome come (λ text. front ≡ take most text) → OnOk r (IfSome come (λ text. IfSome (f (take most text)) (λ bs. Appends old new bs)))
answer-written (Ok x) None old new f most front bytes w b s = tt
answer-written (Ok x) (Some text) old new f most front bytes w b s = subst (λ t. IfSome (f t) (λ bs. Appends old new bs)) s (by (f front) b)
  where
    by : (known : Option (List ℕ)) → IfSome known (λ bs. bytes ≡ bs) → IfSome known (λ bs. Appends old new bs)
    by None b = tt
    by (Some bs) b = subst (Appends old new) b w
answer-written (Err e) come old new f most front bytes w b s = tt
