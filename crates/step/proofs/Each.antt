-- A fact of each of a list, and of one of them.
use mathlib.Core.Path.{◌≡◌}
use mathlib.Core.List.{List, [], ◌∷◌, Memᴰ}
use mathlib.Core.Logic.{◌⊎◌, inl, inr}
use Prim.Native.Nat.{ℕ}
use Rattle.algebra.proofs.Sum.{Absent, none, step}
use Rattle.presolve.proofs.Named.{Distinct, nil, cons}

abbrev pub All : {A : Type 0} → (A → Type 0) → List A → Type 0
All P [] = Unit {0}
All P (x ∷ xs) = P x × All P xs

abbrev pub Any : {A : Type 0} → (A → Type 0) → List A → Type 0
Any P [] = ⊥
Any P (x ∷ xs) = P x ⊎ Any P xs

pub all_map : {A : Type 0} {P Q : A → Type 0} → ((x : A) → P x → Q x) → (xs : List A) → All P xs → All Q xs
all_map f [] h = tt
all_map f (x ∷ xs) h = (f x h.0, all_map f xs h.1)

pub none_any : {A : Type 0} (P : A → Type 0) (xs : List A) → All (λ x. P x → ⊥) xs → Any P xs → ⊥
none_any P [] n a = a
none_any P (x ∷ xs) n (inl p) = n.0 p
none_any P (x ∷ xs) n (inr a) = none_any P xs n.1 a

-- ---- numbers

pub any-mem : {x : ℕ} (xs : List ℕ) → Any (λ y. x ≡ y) xs → Memᴰ x xs
any-mem [] a = elim a [ ]
any-mem (y ∷ ys) (inl e) = Memᴰ.head e
any-mem (y ∷ ys) (inr a) = Memᴰ.tail (any-mem ys a)

-- no two are the same
abbrev pub Apart : List ℕ → Type 0
Apart [] = Unit {0}
Apart (x ∷ xs) = All (λ y. x ≡ y → ⊥) xs × Apart xs

absent-of : {x : ℕ} (xs : List ℕ) → All (λ y. x ≡ y → ⊥) xs → Absent x xs
absent-of [] h = none
absent-of (y ∷ ys) h = step h.0 (absent-of ys h.1)

pub apart_distinct : (xs : List ℕ) → Apart xs → Distinct xs
apart_distinct [] h = nil
apart_distinct (x ∷ xs) h = cons (absent-of xs h.0) (apart_distinct xs h.1)
