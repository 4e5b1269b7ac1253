-- The first no of two tables of questions, one behind the other.
use mathlib.Core.Path.{◌≡◌, refl, sym, ap, ◌∙◌}
use mathlib.Core.Bool.{Bool, true, false, cond, ◌&&◌, not}
use mathlib.Core.List.{List, [], ◌∷◌, ◌++◌}
use Prim.Native.Nat.{ℕ, ◌≤◌}
use native.Mathlib.Omega.{arith}
use lib.Dec.{eqb, leb}
use lib.ListN.{get_or}
use borrow.Author.Tests.{eq-eqb, leb-true}
use Rattle.std.specs.Prelude.{Result, Ok, Err, ⊤}
use Rattle.fraction.proofs.Laws.{never, and_both}
use Rattle.records.specs.declared.refusal.Refusal.{Refusal}
use Rattle.records.specs.Questions.{Question, number_of, number_in, first_no}
use Rattle.std.specs.Result.{result_and}

-- no refusal has the number 0
pub numbered : (q : Refusal) → 1 ≤ number_of q
numbered Refusal.Room = omega arith
numbered Refusal.Sizes = omega arith
numbered Refusal.Form = omega arith
numbered Refusal.Ends = omega arith
numbered Refusal.Multipliers = omega arith
numbered Refusal.NoFlow = omega arith
numbered Refusal.Stack = omega arith
numbered Refusal.Pair = omega arith
numbered Refusal.Width = omega arith
numbered Refusal.Balance = omega arith
numbered Refusal.Bounds = omega arith
numbered Refusal.Prices = omega arith
numbered Refusal.WayBack = omega arith
numbered Refusal.Text = omega arith

-- a number is that of one refusal
abbrev by_number : List Refusal
by_number = Refusal.Room ∷ Refusal.Room ∷ Refusal.Sizes ∷ Refusal.Form ∷ Refusal.Ends ∷ Refusal.Multipliers ∷ Refusal.NoFlow ∷ Refusal.Stack ∷ Refusal.Pair ∷ Refusal.Width ∷ Refusal.Balance ∷ Refusal.Bounds ∷ Refusal.Prices ∷ Refusal.WayBack ∷ Refusal.Text ∷ []

back : (q : Refusal) → get_or by_number (number_of q) Refusal.Room ≡ q
back Refusal.Room = refl
back Refusal.Sizes = refl
back Refusal.Form = refl
back Refusal.Ends = refl
back Refusal.Multipliers = refl
back Refusal.NoFlow = refl
back Refusal.Stack = refl
back Refusal.Pair = refl
back Refusal.Width = refl
back Refusal.Balance = refl
back Refusal.Bounds = refl
back Refusal.Prices = refl
back Refusal.WayBack = refl
back Refusal.Text = refl

pub same-by_number : (p q : Refusal) → number_of p ≡ number_of q → p ≡ q
same-by_number p q e = sym (back p) ∙ ap (λ n. get_or by_number n Refusal.Room) e ∙ back q

pub none-numbered : (r : Result ⊤ Refusal) → number_in r ≡ 0 → r ≡ Ok tt
none-numbered (Ok x) e = refl
none-numbered (Err q) e = absurd (omega (arith, numbered q))

-- a value, where no question is answered by no: what each of its results says
pub answered-no : {T : Type 0} (r : Result ⊤ Refusal) (x : T) {q : Refusal} → ◌≡◌ {A = Result T Refusal} (Err q) (result_and r (Ok x)) → r ≡ Err q
answered-no (Ok y) x e = never cc
answered-no (Err p) x {q} e = let z : q ≡ p = cc in rw z refl

pub answered-yes : {T : Type 0} (r : Result ⊤ Refusal) (x : T) {y : T} → ◌≡◌ {A = Result T Refusal} (Ok y) (result_and r (Ok x)) → (r ≡ Ok tt) × (y ≡ x)
answered-yes (Ok u) x e = (refl, cc)
answered-yes (Err p) x e = never cc

-- where the first table has a no, it is the first of both
pub stops : (qs rs : List Question) (q : Refusal) → first_no qs ≡ Err q → first_no (qs ++ rs) ≡ Err q
stops [] rs q e = never cc
stops (p ∷ qs) rs q e = by p.yes? e (stops qs rs q)
  where
    by : (b : Bool) → cond b (first_no qs) (Err p.refusal) ≡ Err q → (first_no qs ≡ Err q → first_no (qs ++ rs) ≡ Err q) → cond b (first_no (qs ++ rs)) (Err p.refusal) ≡ Err q
    by true e k = k e
    by false e k = e

-- where it has none, the first of both is that of the second
pub goes_on_lem : (qs rs : List Question) → first_no qs ≡ Ok tt → first_no (qs ++ rs) ≡ first_no rs
goes_on_lem [] rs e = refl
goes_on_lem (q ∷ qs) rs e = by q.yes? e (goes_on_lem qs rs)
  where
    by : (b : Bool) → cond b (first_no qs) (Err q.refusal) ≡ Ok tt → (first_no qs ≡ Ok tt → first_no (qs ++ rs) ≡ first_no rs) → cond b (first_no (qs ++ rs)) (Err q.refusal) ≡ first_no rs
    by true e k = k e
    by false e k = never cc

-- where both have none, each has none
pub none_before : (qs rs : List Question) → first_no (qs ++ rs) ≡ Ok tt → first_no qs ≡ Ok tt
none_before [] rs e = refl
none_before (q ∷ qs) rs e = by q.yes? e (none_before qs rs)
  where
    by : (b : Bool) → cond b (first_no (qs ++ rs)) (Err q.refusal) ≡ Ok tt → (first_no (qs ++ rs) ≡ Ok tt → first_no qs ≡ Ok tt) → cond b (first_no qs) (Err q.refusal) ≡ Ok tt
    by true e k = k e
    by false e k = never cc

pub none-behind : (qs rs : List Question) → first_no (qs ++ rs) ≡ Ok tt → first_no rs ≡ Ok tt
none-behind qs rs e = sym (goes_on_lem qs rs (none_before qs rs e)) ∙ e

-- a question that the table has not is not the first no
abbrev pub is_absent : ℕ → List Question → Bool
is_absent n [] = not (eqb 0 n)
is_absent n (q ∷ qs) = not (eqb (number_of q.refusal) n) && is_absent n qs

unlike : (k n : ℕ) → not (eqb k n) ≡ true → k ≡ n → ⊥
unlike k n h e = never (let z = eq-eqb k n e in let w : not true ≡ true = rw z at h in cc)

pub absent : (n : ℕ) (qs : List Question) → is_absent n qs ≡ true → number_in (first_no qs) ≡ n → ⊥
absent n [] h e = unlike 0 n h e
absent n (q ∷ qs) h e = let a = and_both (not (eqb (number_of q.refusal) n)) _ h in by q.yes? a.0 e (absent n qs a.1)
  where
    by : (b : Bool) → not (eqb (number_of q.refusal) n) ≡ true → number_in (cond b (first_no qs) (Err q.refusal)) ≡ n → (number_in (first_no qs) ≡ n → ⊥) → ⊥
    by true h e k = k e
    by false h e k = unlike _ n h e

-- so where it is the first of both, the first table has none, and it is the first of the second
pub behind : (n : ℕ) (qs rs : List Question) → is_absent n qs ≡ true → number_in (first_no (qs ++ rs)) ≡ n → (first_no qs ≡ Ok tt) × (number_in (first_no rs) ≡ n)
behind n qs rs a e = by (first_no qs) refl
  where
    by : (r : Result ⊤ Refusal) → first_no qs ≡ r → (first_no qs ≡ Ok tt) × (number_in (first_no rs) ≡ n)
    by (Ok x) z = (z, rw (goes_on_lem qs rs z) at e)
    by (Err q) z = absurd (absent n qs a (rw z (rw (stops qs rs q z) at e)))

-- where no number of the table is above n, neither is the first no
abbrev pub is_up_to : ℕ → List Question → Bool
is_up_to n [] = true
is_up_to n (q ∷ qs) = leb (number_of q.refusal) n && is_up_to n qs

pub up_to : (n : ℕ) (qs : List Question) → is_up_to n qs ≡ true → number_in (first_no qs) ≤ n
up_to n [] h = omega arith
up_to n (q ∷ qs) h = let a = and_both (leb (number_of q.refusal) n) _ h in by q.yes? (leb-true _ _ a.0) (up_to n qs a.1)
  where
    by : (b : Bool) → number_of q.refusal ≤ n → number_in (first_no qs) ≤ n → number_in (cond b (first_no qs) (Err q.refusal)) ≤ n
    by true h k = k
    by false h k = h
