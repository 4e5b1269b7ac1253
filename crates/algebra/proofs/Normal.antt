-- The expressions that the solver reads, and their normal form.
-- An expression's normal form is a sorted list of signed monomials, a monomial being a sorted list of variables. A coefficient 3 is three equal monomials, and a monomial and its negation cancel when one is
-- inserted beside the other.
use mathlib.Core.List.{List, [], ◌∷◌}
use Prim.Native.Nat.{ℕ, zero, suc, compare, Ordering}

infixl 65 ◌:+◌ ◌:-◌
infixl 70 ◌:*◌
pub data Ex : Type 0 where
  var : ℕ → Ex
  :0 : Ex
  :1 : Ex
  ◌:+◌ : Ex → Ex → Ex
  ◌:*◌ : Ex → Ex → Ex
  :neg : Ex → Ex

abbrev pub ◌:-◌ : Ex → Ex → Ex
a :- b = a :+ :neg b

infix 40 ◌:=◌
pub data Eqn : Type 0 where
  ◌:=◌ : Ex → Ex → Eqn

abbrev pub lhs : Eqn → Ex
lhs (e := f) = e

abbrev pub rhs : Eqn → Ex
rhs (e := f) = f

abbrev pub diff : Eqn → Ex
diff q = lhs q :- rhs q

-- the equations in n unknowns
abbrev pub Unknowns : ℕ → Type 0
Unknowns zero = Eqn
Unknowns (suc n) = Ex → Unknowns n

-- the variables i, i + 1, .. for the unknowns
abbrev pub fill : (n i : ℕ) → Unknowns n → Eqn
fill zero i q = q
fill (suc n) i q = fill n (suc i) (q (var i))

-- ---- the normal form

abbrev pub Mono : Type 0
Mono = List ℕ

pub data Term : Type 0 where
  plus : Mono → Term
  minus : Mono → Term

abbrev pub mon : Term → Mono
mon (plus m) = m
mon (minus m) = m

abbrev pub flip : Term → Term
flip (plus m) = minus m
flip (minus m) = plus m

abbrev pub or_else : Ordering → Ordering → Ordering
or_else Ordering.lt o = Ordering.lt
or_else Ordering.eq o = o
or_else Ordering.gt o = Ordering.gt

abbrev pub cmp_m : Mono → Mono → Ordering
cmp_m [] [] = Ordering.eq
cmp_m [] (y ∷ ys) = Ordering.lt
cmp_m (x ∷ xs) [] = Ordering.gt
cmp_m (x ∷ xs) (y ∷ ys) = let r : Ordering = cmp_m xs ys in or_else (compare x y) r

-- t beside u, at the head of p, where t and u have one monomial
abbrev pub join : Term → Term → List Term → List Term
join (plus m) (plus n) p = plus m ∷ plus n ∷ p
join (plus m) (minus n) p = p
join (minus m) (plus n) p = p
join (minus m) (minus n) p = minus m ∷ minus n ∷ p

abbrev pub place : Ordering → Term → Term → List Term → List Term → List Term
place Ordering.lt t u p r = t ∷ u ∷ p
place Ordering.eq t u p r = join t u p
place Ordering.gt t u p r = u ∷ r

abbrev pub ins : Term → List Term → List Term
ins t [] = t ∷ []
ins t (u ∷ p) = let r : List Term = ins t p in place (cmp_m (mon t) (mon u)) t u p r

abbrev pub add_p : List Term → List Term → List Term
add_p [] q = q
add_p (t ∷ p) q = ins t (add_p p q)

abbrev pub neg_p : List Term → List Term
neg_p [] = []
neg_p (t ∷ p) = flip t ∷ neg_p p

abbrev pub put_v : Ordering → ℕ → ℕ → Mono → Mono → Mono
put_v Ordering.lt x y m r = x ∷ y ∷ m
put_v Ordering.eq x y m r = x ∷ y ∷ m
put_v Ordering.gt x y m r = y ∷ r

abbrev pub ins_v : ℕ → Mono → Mono
ins_v x [] = x ∷ []
ins_v x (y ∷ m) = let r : Mono = ins_v x m in put_v (compare x y) x y m r

abbrev pub mul_m : Mono → Mono → Mono
mul_m [] n = n
mul_m (x ∷ m) n = ins_v x (mul_m m n)

abbrev pub mul_t : Term → Term → Term
mul_t (plus m) (plus n) = plus (mul_m m n)
mul_t (plus m) (minus n) = minus (mul_m m n)
mul_t (minus m) (plus n) = minus (mul_m m n)
mul_t (minus m) (minus n) = plus (mul_m m n)

-- t · q + r
abbrev pub mul_tP : Term → List Term → List Term → List Term
mul_tP t [] r = r
mul_tP t (u ∷ q) r = ins (mul_t t u) (mul_tP t q r)

abbrev pub mul_p : List Term → List Term → List Term
mul_p [] q = []
mul_p (t ∷ p) q = mul_tP t q (mul_p p q)

abbrev pub norm : Ex → List Term
norm (var i) = plus (i ∷ []) ∷ []
norm :0 = []
norm :1 = plus [] ∷ []
norm (a :+ b) = add_p (norm a) (norm b)
norm (a :* b) = mul_p (norm a) (norm b)
norm (:neg a) = neg_p (norm a)
