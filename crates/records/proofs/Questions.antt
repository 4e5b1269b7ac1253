-- What the answers to the questions say of a record.
use mathlib.Core.Path.{◌≡◌, refl, sym, ◌∙◌}
use mathlib.Core.Bool.{Bool, true, false, cond}
use mathlib.Core.List.{List}
use Prim.Native.Nat.{ℕ, ◌+◌, ◌*◌, ◌≤◌}
use native.Mathlib.Omega.{arith}
use lib.Dec.{eqb, leb}
use lib.ListN.{length}
use lib.IntN.{ℤ, pos, negsuc}
use borrow.Author.Tests.{leb-true, eqb-true, eq-eqb, ne_eqb}
use Rattle.loops.specs.Loops.{all}
use Rattle.fraction.proofs.Laws.{never, and_both}
use Rattle.fraction.specs.Words.{word, natural_of}
use Rattle.std.specs.Prelude.{Some, None, Result, Ok, Err, ⊤}
use Rattle.records.specs.declared.refusal.Refusal.{Refusal}
use Rattle.records.specs.Questions.{first_no}
use Rattle.records.specs.Network.{figures, size_of, is_size, n_of, m_of, sizes_right, figures_right, ends_right, multipliers_right, questions, is_in_form, has_ends, is_weighted_at}

-- ---- what a size says

came-is : (b : Bool) (n k : ℕ) → cond b (Some n) None ≡ Some k → (b ≡ true) × (n ≡ k)
came-is true n k e = (refl, cc)
came-is false n k e = never cc

pub size_is : (z : ℤ) (l k : ℕ) → size_of z l ≡ Some k → (is_size l z ≡ true) × (k ≡ natural_of z)
size_is (pos n) l k e = let h = came-is (leb n l) n k e in (h.0, sym h.1)
size_is (negsuc n) l k e = never cc

pub size-off : (z : ℤ) (l : ℕ) → size_of z l ≡ None → is_size l z ≡ false
size-off (pos n) l e = by (leb n l) e
  where
    by : (b : Bool) → cond b (Some n) None ≡ None → b ≡ false
    by true e = never cc
    by false e = refl
size-off (negsuc n) l e = refl

size_few : (z : ℤ) (l : ℕ) → is_size l z ≡ true → natural_of z ≤ l
size_few (pos n) l e = leb-true n l e
size_few (negsuc n) l e = omega arith

-- ---- a table of questions

-- none is answered by no: the first is not, and none of the others
pub none-no : (q : Refusal) (b : Bool) {r : Result ⊤ Refusal} → cond b r (Err q) ≡ Ok tt → (b ≡ true) × (r ≡ Ok tt)
none-no q true e = (refl, e)
none-no q false e = never cc

-- ---- question 2 is answered by yes

pub record Sized (xs : List ℤ) (n m : ℕ) : Type 0 where
  pub few_nodes : n ≤ 32
  pub few_arcs : m ≤ 96
  pub long : 2 + 2 * figures n m ≡ length xs

pub sizes-are : (xs : List ℤ) → sizes_right xs ≡ true → Sized xs (n_of xs) (m_of xs)
unfolding sizes_right
sizes-are xs e =
    let a = and_both (is_size 32 (word xs 0)) _ e in
    let b = and_both (is_size 96 (word xs 1)) _ a.1 in
    record { few_nodes = size_few (word xs 0) 32 a.0; few_arcs = size_few (word xs 1) 96 b.0; long = sym (eqb-true _ _ b.1) }

-- by the sizes that were read
module _ (xs : List ℤ) where
  pub no-nodes : size_of (word xs 0) 32 ≡ None → sizes_right xs ≡ false
  unfolding sizes_right
  no-nodes e = rw (size-off (word xs 0) 32 e)

  pub no-arcs : (n : ℕ) → size_of (word xs 0) 32 ≡ Some n → size_of (word xs 1) 96 ≡ None → sizes_right xs ≡ false
  unfolding sizes_right
  no-arcs n e f = rw ((size_is (word xs 0) 32 n e).0, size-off (word xs 1) 96 f)

  pub by_length : (n m : ℕ) → size_of (word xs 0) 32 ≡ Some n → size_of (word xs 1) 96 ≡ Some m → eqb (length xs) (2 + 2 * figures n m) ≡ sizes_right xs
  unfolding sizes_right
  by_length n m e f = let a = size_is (word xs 0) 32 n e in let b = size_is (word xs 1) 96 m f in rw (a.0, b.0, a.1, b.1)

  pub right-length : (n m : ℕ) → size_of (word xs 0) 32 ≡ Some n → size_of (word xs 1) 96 ≡ Some m → length xs ≡ 2 + 2 * figures n m → (sizes_right xs ≡ true) × (n ≡ n_of xs) × (m ≡ m_of xs)
  right-length n m e f l = (sym (by_length n m e f) ∙ eq-eqb _ _ l, (size_is (word xs 0) 32 n e).1, (size_is (word xs 1) 96 m f).1)

  pub wrong-length : (n m : ℕ) → size_of (word xs 0) 32 ≡ Some n → size_of (word xs 1) 96 ≡ Some m → (length xs ≡ 2 + 2 * figures n m → ⊥) → sizes_right xs ≡ false
  wrong-length n m e f l = sym (by_length n m e f) ∙ ne_eqb _ _ l

-- ---- questions 3 to 5 are answered by yes

pub record Formed (xs : List ℤ) (n m : ℕ) : Type 0 where
  pub in_form : all (is_in_form xs n (figures n m)) (figures n m) ≡ true
  pub ends : all (has_ends xs n (figures n m)) m ≡ true
  pub weights : all (is_weighted_at xs n (figures n m)) m ≡ true

-- the questions let a record pass: what each of them says
pub all_yes : (xs : List ℤ) → first_no (questions xs) ≡ Ok tt → (sizes_right xs ≡ true) × Formed xs (n_of xs) (m_of xs)
unfolding questions figures_right ends_right multipliers_right
all_yes xs e =
    let a = none-no Refusal.Sizes (sizes_right xs) e in
    let b = none-no Refusal.Form (figures_right xs) a.1 in
    let c = none-no Refusal.Ends (ends_right xs) b.1 in
    let d = none-no Refusal.Multipliers (multipliers_right xs) c.1 in
    (a.0, record { in_form = b.0; ends = c.0; weights = d.0 })

-- a question asked on its own: where it refuses, and where it lets pass
pub refused : (b : Bool) (q : Refusal) (r : Result ⊤ Refusal) {e : Refusal} → ◌≡◌ {A = Result ⊤ Refusal} (Err e) (cond b (Ok tt) (Err q)) → Err e ≡ cond b r (Err q)
refused true q r h = never cc
refused false q r h = h

pub yes-asked : (b : Bool) (p : Refusal) {x : ⊤} → ◌≡◌ {A = Result ⊤ Refusal} (Ok x) (cond b (Ok tt) (Err p)) → b ≡ true
yes-asked true p h = refl
yes-asked false p h = never cc

pub passed : (b : Bool) (p q : Refusal) {x : ⊤} {r : Result ⊤ Refusal} → ◌≡◌ {A = Result ⊤ Refusal} (Ok x) (cond b (Ok tt) (Err p)) → r ≡ cond b r (Err q)
passed true p q h = refl
passed false p q h = never cc

pub same-refusal : {A : Type 0} {p q : Refusal} → ◌≡◌ {A = Result A Refusal} (Err p) (Err q) → p ≡ q
same-refusal e = cc

-- the first no, by the answers to 3 to 5, of words whose sizes are right
pub asked : (xs ws : List ℤ) (n m : ℕ) {a b d : Bool} → (sizes_right xs ≡ true) × (ws ≡ xs) × (n ≡ n_of xs) × (m ≡ m_of xs) → a ≡ all (is_in_form ws n (figures n m)) (figures n m) → b ≡ all (has_ends ws n (figures n m)) m → d ≡ all (is_weighted_at ws n (figures n m)) m → cond a (cond b (cond d (Ok tt) (Err Refusal.Multipliers)) (Err Refusal.Ends)) (Err Refusal.Form) ≡ first_no (questions xs)
unfolding questions figures_right ends_right multipliers_right
asked xs ws n m h x y z = rw (x, y, z, h.0, h.1, h.2, h.3) refl

pub not-asked : (xs : List ℤ) → sizes_right xs ≡ false → Err Refusal.Sizes ≡ first_no (questions xs)
unfolding questions
not-asked xs s = rw s

-- question 2 answered by yes, of the sizes that were read
pub sized_by : {xs : List ℤ} {n m : ℕ} → sizes_right xs ≡ true → n ≡ n_of xs → m ≡ m_of xs → Sized xs n m
sized_by {xs} s e f = rw (e, f) (sizes-are xs s)
