-- A solver for equations in a commutative ring, by reflection.
-- `ring` is the theorem: two expressions whose difference has the empty normal form are equal at all values.
use mathlib.Core.Path.{◌≡◌, refl, sym, ◌∙◌, ap, ap₂}
use mathlib.Core.List.{List, [], ◌∷◌}
use Prim.Native.Nat.{ℕ, zero, suc, compare, Ordering}
use lib.Dec.{T, compare_is_eq, eqb→eq}
pub use Rattle.algebra.proofs.Normal.{Ex, var, :0, :1, ◌:+◌, ◌:*◌, ◌:-◌, :neg, Eqn, ◌:=◌, lhs, rhs, diff, Unknowns, fill, Mono, Term, plus, minus, mon, flip, or_else, cmp_m, join, place, ins, add_p, neg_p, put_v, ins_v, mul_m, mul_t, mul_tP, mul_p, norm}
use Rattle.algebra.proofs.Ring.{CommRing, zero-add, add_left_comm, neg-neg, neg-zero, mul-zero, zero-mul, one-mul, add-mul, mul-neg, neg-mul, mul_left_comm, neg-add, add_sub_cancel, sub_add_cancel, eq-of-sub}

or_else-l : (o p : Ordering) → T (compare_is_eq (or_else o p)) → T (compare_is_eq o)
or_else-l Ordering.lt p t = t
or_else-l Ordering.eq p t = tt
or_else-l Ordering.gt p t = t

or_else-r : (o p : Ordering) → T (compare_is_eq (or_else o p)) → T (compare_is_eq p)
or_else-r Ordering.lt p t = absurd t
or_else-r Ordering.eq p t = t
or_else-r Ordering.gt p t = absurd t

cmp_m-eq : (m n : Mono) → T (compare_is_eq (cmp_m m n)) → m ≡ n
cmp_m-eq [] [] t = refl
cmp_m-eq [] (y ∷ ys) t = absurd t
cmp_m-eq (x ∷ xs) [] t = absurd t
cmp_m-eq (x ∷ xs) (y ∷ ys) t = ap₂ ◌∷◌ (eqb→eq x y (or_else-l (compare x y) (cmp_m xs ys) t)) (cmp_m-eq xs ys (or_else-r (compare x y) (cmp_m xs ys) t))

-- ---- its value

module _ (𝓡 : CommRing) where
  open 𝓡 use {R, add as ◌+◌, mul as ◌*◌, neg, zr, un, add_assoc, add-zero, mul_assoc, mul_one, mul_add}

  infixl 65 ◌+◌
  infixl 70 ◌*◌
  abbrev pub at : List R → ℕ → R
  at [] i = zr
  at (x ∷ ρ) zero = x
  at (x ∷ ρ) (suc i) = at ρ i

  abbrev pub eval : List R → Ex → R
  eval ρ (var i) = at ρ i
  eval ρ :0 = zr
  eval ρ :1 = un
  eval ρ (a :+ b) = eval ρ a + eval ρ b
  eval ρ (a :* b) = eval ρ a * eval ρ b
  eval ρ (:neg a) = neg (eval ρ a)

  module _ (ρ : List R) where
    val_m : Mono → R
    val_m [] = un
    val_m (x ∷ m) = at ρ x * val_m m

    val_t : Term → R
    val_t (plus m) = val_m m
    val_t (minus m) = neg (val_m m)

    val_p : List Term → R
    val_p [] = zr
    val_p (t ∷ p) = val_t t + val_p p

    join-val : (t u : Term) (p : List Term) → mon t ≡ mon u → val_p (join t u p) ≡ val_t t + (val_t u + val_p p)
    unfolding val_p val_t
    join-val (plus m) (plus n) p e = refl
    join-val (plus m) (minus n) p e = sym (ap (λ x. val_m x + (neg (val_m n) + val_p p)) e ∙ add_sub_cancel 𝓡 (val_m n) (val_p p))
    join-val (minus m) (plus n) p e = sym (ap (λ x. neg (val_m x) + (val_m n + val_p p)) e ∙ sub_add_cancel 𝓡 (val_m n) (val_p p))
    join-val (minus m) (minus n) p e = refl

    place-val : (o : Ordering) (t u : Term) (p r : List Term) → (T (compare_is_eq o) → mon t ≡ mon u) → val_p r ≡ val_t t + val_p p → val_p (place o t u p r) ≡ val_t t + (val_t u + val_p p)
    unfolding val_p
    place-val Ordering.lt t u p r e h = refl
    place-val Ordering.eq t u p r e h = join-val t u p (e tt)
    place-val Ordering.gt t u p r e h = ap (λ x. val_t u + x) h ∙ add_left_comm 𝓡 (val_t u) (val_t t) (val_p p)

    ins-val : (t : Term) (p : List Term) → val_p (ins t p) ≡ val_t t + val_p p
    unfolding val_p
    ins-val t [] = refl
    ins-val t (u ∷ p) = place-val (cmp_m (mon t) (mon u)) t u p (ins t p) (cmp_m-eq (mon t) (mon u)) (ins-val t p)

    add_p-val : (p q : List Term) → val_p (add_p p q) ≡ val_p p + val_p q
    unfolding val_p
    add_p-val [] q = sym (zero-add 𝓡 (val_p q))
    add_p-val (t ∷ p) q = ins-val t (add_p p q) ∙ ap (λ x. val_t t + x) (add_p-val p q) ∙ sym (add_assoc (val_t t) (val_p p) (val_p q))

    flip-val : (t : Term) → val_t (flip t) ≡ neg (val_t t)
    unfolding val_t
    flip-val (plus m) = refl
    flip-val (minus m) = sym (neg-neg 𝓡 (val_m m))

    neg_p-val : (p : List Term) → val_p (neg_p p) ≡ neg (val_p p)
    unfolding val_p
    neg_p-val [] = sym (neg-zero 𝓡)
    neg_p-val (t ∷ p) = ap₂ ◌+◌ (flip-val t) (neg_p-val p) ∙ sym (neg-add 𝓡 (val_t t) (val_p p))

    put_v-val : (o : Ordering) (x y : ℕ) (m r : Mono) → val_m r ≡ at ρ x * val_m m → val_m (put_v o x y m r) ≡ at ρ x * (at ρ y * val_m m)
    unfolding val_m
    put_v-val Ordering.lt x y m r h = refl
    put_v-val Ordering.eq x y m r h = refl
    put_v-val Ordering.gt x y m r h = ap (λ z. at ρ y * z) h ∙ mul_left_comm 𝓡 (at ρ y) (at ρ x) (val_m m)

    ins_v-val : (x : ℕ) (m : Mono) → val_m (ins_v x m) ≡ at ρ x * val_m m
    unfolding val_m
    ins_v-val x [] = refl
    ins_v-val x (y ∷ m) = put_v-val (compare x y) x y m (ins_v x m) (ins_v-val x m)

    mul_m-val : (m n : Mono) → val_m (mul_m m n) ≡ val_m m * val_m n
    unfolding val_m
    mul_m-val [] n = sym (one-mul 𝓡 (val_m n))
    mul_m-val (x ∷ m) n = ins_v-val x (mul_m m n) ∙ ap (λ z. at ρ x * z) (mul_m-val m n) ∙ sym (mul_assoc (at ρ x) (val_m m) (val_m n))

    mul_t-val : (t u : Term) → val_t (mul_t t u) ≡ val_t t * val_t u
    unfolding val_t
    mul_t-val (plus m) (plus n) = mul_m-val m n
    mul_t-val (plus m) (minus n) = ap neg (mul_m-val m n) ∙ sym (mul-neg 𝓡 (val_m m) (val_m n))
    mul_t-val (minus m) (plus n) = ap neg (mul_m-val m n) ∙ sym (neg-mul 𝓡 (val_m m) (val_m n))
    mul_t-val (minus m) (minus n) = mul_m-val m n ∙ sym (neg-neg 𝓡 (val_m m * val_m n)) ∙ ap neg (sym (neg-mul 𝓡 (val_m m) (val_m n))) ∙ sym (mul-neg 𝓡 (neg (val_m m)) (val_m n))

    mul_tP-val : (t : Term) (q r : List Term) → val_p (mul_tP t q r) ≡ val_t t * val_p q + val_p r
    unfolding val_p
    mul_tP-val t [] r = sym (ap (λ x. x + val_p r) (mul-zero 𝓡 (val_t t)) ∙ zero-add 𝓡 (val_p r))
    mul_tP-val t (u ∷ q) r = ins-val (mul_t t u) (mul_tP t q r) ∙ ap₂ ◌+◌ (mul_t-val t u) (mul_tP-val t q r) ∙ sym (add_assoc (val_t t * val_t u) (val_t t * val_p q) (val_p r)) ∙ ap (λ x. x + val_p r) (sym (mul_add (val_t t) (val_t u) (val_p q)))

    mul_p-val : (p q : List Term) → val_p (mul_p p q) ≡ val_p p * val_p q
    unfolding val_p
    mul_p-val [] q = sym (zero-mul 𝓡 (val_p q))
    mul_p-val (t ∷ p) q = mul_tP-val t q (mul_p p q) ∙ ap (λ x. val_t t * val_p q + x) (mul_p-val p q) ∙ sym (add-mul 𝓡 (val_t t) (val_p p) (val_p q))

    norm-val : (e : Ex) → val_p (norm e) ≡ eval ρ e
    unfolding val_p val_t val_m
    norm-val (var i) = add-zero (at ρ i * un) ∙ mul_one (at ρ i)
    norm-val :0 = refl
    norm-val :1 = add-zero un
    norm-val (a :+ b) = add_p-val (norm a) (norm b) ∙ ap₂ ◌+◌ (norm-val a) (norm-val b)
    norm-val (a :* b) = mul_p-val (norm a) (norm b) ∙ ap₂ ◌*◌ (norm-val a) (norm-val b)
    norm-val (:neg a) = neg_p-val (norm a) ∙ ap neg (norm-val a)

  -- the difference is compared with [], which is quick to compute; two normal forms would be compared call by call
  pub ring : (ρ : List R) (e f : Ex) → norm (e :- f) ≡ [] → eval ρ e ≡ eval ρ f
  unfolding val_p
  ring ρ e f h = eq-of-sub 𝓡 (eval ρ e) (eval ρ f) (sym (norm-val ρ (e :- f)) ∙ ap (val_p ρ) h)

  -- ---- `ring3 𝓡 a b c (λ a b c. l := r) refl` : the equation l = r at a, b and c

  -- P of the list of n values, taken one by one
  abbrev pub Each : ℕ → (List R → Type 0) → Type 0
  Each zero P = P []
  Each (suc n) P = (a : R) → Each n (λ ρ. P (a ∷ ρ))

  each : (n : ℕ) (P : List R → Type 0) → ((ρ : List R) → P ρ) → Each n P
  each zero P f = f []
  each (suc n) P f = λ a. each n (λ ρ. P (a ∷ ρ)) (λ ρ. f (a ∷ ρ))

  -- at ρ every equation in n unknowns holds whose difference has the empty normal form
  abbrev pub Valid : ℕ → List R → Type 0
  Valid n ρ = (q : Unknowns n) → norm (diff (fill n 0 q)) ≡ [] → eval ρ (lhs (fill n 0 q)) ≡ eval ρ (rhs (fill n 0 q))

  abbrev pub Solved : ℕ → Type 0
  Solved n = Each n (Valid n)

  solved : (n : ℕ) → Solved n
  solved n = each n (Valid n) (λ ρ q. ring ρ (lhs (fill n 0 q)) (rhs (fill n 0 q)))

  pub ring1 : Solved 1
  ring1 = solved 1

  pub ring2 : Solved 2
  ring2 = solved 2

  pub ring3 : Solved 3
  ring3 = solved 3

  pub ring4 : Solved 4
  ring4 = solved 4

  pub ring5 : Solved 5
  ring5 = solved 5

  pub ring6 : Solved 6
  ring6 = solved 6

  pub ring7 : Solved 7
  ring7 = solved 7

  pub ring8 : Solved 8
  ring8 = solved 8

  pub ring9 : Solved 9
  ring9 = solved 9

  pub ring10 : Solved 10
  ring10 = solved 10

  pub ring11 : Solved 11
  ring11 = solved 11

  pub ring12 : Solved 12
  ring12 = solved 12

  pub ring14 : Solved 14
  ring14 = solved 14
