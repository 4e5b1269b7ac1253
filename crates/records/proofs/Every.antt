-- `all` over the numbers below n asks a test of each.
use mathlib.Core.Path.{◌≡◌, refl, ap, ◌∙◌}
use mathlib.Core.Bool.{Bool, true, false, and-true}
use mathlib.Core.List.{List, [], ◌∷◌, ◌++◌}
use Prim.Native.Nat.{ℕ, zero, suc, ◌+◌}
use native.Mathlib.Numerals.{add-one}
use native.Mathlib.Omega.{arith}
use denote.Param.Members.{Mut}
use Rattle.std.specs.Fn.{Called}
use Rattle.std.specs.Iterator.{YieldsThen}
use Rattle.std.specs.List.{range_with_len, list_all, FoldsTo}
use Rattle.std.specs.Option.{MatchOption}
use Rattle.std.specs.declared.ops.Range.{Range}
use Rattle.std.specs.Prelude.{Option}
use Rattle.std.proofs.iter.Yields.{nat_range_steps}
use Rattle.std.proofs.lemmas.Iterator.{YieldsList-from_range}
use Rattle.std.proofs.lemmas.Iterator.Search.{all_from_yields_List}
use Rattle.std.proofs.lemmas.List.Folds.{list_all-append}
use Rattle.loops.specs.Loops.{all}

longer : (a n : ℕ) → range_with_len a (suc n) ≡ range_with_len a n ++ (a + n) ∷ []
longer a zero = ap (λ k. k ∷ []) (omega arith)
longer a (suc n) = let e : a + 1 + n ≡ a + suc n = omega (arith, add-one n) in ap (λ xs. a ∷ xs) (longer (a + 1) n ∙ ap (λ k. range_with_len (a + 1) n ++ k ∷ []) e)

list_every : (p : ℕ → Bool) (n : ℕ) → list_all p (range_with_len 0 n) ≡ all p n
unfolding all
list_every p zero = refl
list_every p (suc n) =
    let zero-add : 0 + n ≡ n = omega arith in
    ap (list_all p) (longer 0 n ∙ ap (λ k. range_with_len 0 n ++ k ∷ []) zero-add) ∙ list_all-append p (range_with_len 0 n) (n ∷ []) ∙ rw (list_every p n, and-true (p n)) refl

pub every : {F : Type 0} {g : Mut F (ℕ × Unit {0}) Bool} {s : Range ℕ} (p : ℕ → Bool) (n : ℕ) (u : Range ℕ) (f : F) (r : Bool) → s ≡ record { start = 0; end = n } → (xs : List ℕ) × (o : Option ℕ) × (j : F) × YieldsThen nat_range_steps s xs o u × FoldsTo (λ q x h. Called g q (x, tt) true h) f xs j × MatchOption o (r ≡ true) (λ x. (r ≡ false) × ((h : F) × Called g j (x, tt) false h)) → ((x : ℕ) (b : Bool) (q : F) → Called g f (x, tt) b q → (q ≡ f) × (b ≡ p x)) → r ≡ all p n
every p n u f r e ran k = all_from_yields_List p u f r ran (YieldsList-from_range 0 n n e (omega arith)) k ∙ list_every p n
