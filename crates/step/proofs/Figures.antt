-- Figures restored to a pair, in exact numbers.
use mathlib.Core.Path.{◌≡◌, refl, sym, ap, ap₂, ◌∙◌, fun_ext}
use mathlib.Core.Bool.{true, cond}
use mathlib.Core.List.{List}
use mathlib.Core.Logic.{inl, inr}
use Prim.Native.Nat.{ℕ, ◌+◌, ◌≤◌}
use native.Mathlib.Omega.{arith}
use lib.Dec.{eqb}
use lib.ListN.{length, get_or, set, length-set}
use lib.Seq.{get_or-set_same, get_or-set_other}
use borrow.Author.Tests.{le-leb, eqb-true, eqb-false}
use Rattle.algebra.specs.Rat.{ℚ, 0_ℚ, ◌+ℚ◌, ◌*ℚ◌, -ℚ◌, inv_ℚ, ◌<ℚ◌}
use Rattle.algebra.proofs.Rat.{≤ℚ-dec}
use Rattle.algebra.proofs.Order.{lt→le}
use Rattle.algebra.specs.Sum.{upd}
use Rattle.presolve.specs.LP as LP
use Rattle.presolve.proofs.Closed.{closed-back}
use Rattle.presolve.proofs.Bare.{bare-back}
use Rattle.presolve.proofs.Bounds.{choose, merge_l, merge_u, capped, capped_is, none-merge_l, none-merge_u, merge_l-first, merge_l-second, merge_u-first, merge_u-second}
use Rattle.presolve.proofs.Spoke as Spoke
use Rattle.fraction.specs.declared.Fraction.{Fraction}
use Rattle.fraction.specs.Exact.{Worked}
use Rattle.fraction.specs.Exact.{Proper, no_figure, no_lower, no_upper, zero_fraction, is_less}
use Rattle.fraction.specs.Formula.{◌⊘◌, ⊝◌}
use Rattle.fraction.specs.Value.{value}
use Rattle.fraction.specs.Extended.{absent-lower, absent-upper}
use Rattle.fraction.proofs.Extended.{proper-figure, less-is, less-value, not-less}
use Rattle.fraction.proofs.Formulas.{Gives, over_ℚ, given, times-gives, over-fits, over-gives, negated_fits, negated-gives, zero-proper, zero_is}
use Rattle.network.specs.declared.Arc.{Arc}
use Rattle.network.specs.declared.Side.{Side}
use Rattle.network.specs.declared.pair.Pair.{Pair}
use Rattle.network.specs.Network.{is_number}
use Rattle.network.specs.Legal.{Bound}
use Rattle.network.specs.Pair.{with_price, with_flow, exact_pair}
use Rattle.network.specs.Program.{bound_of}
use Rattle.network.proofs.Bounds.{bound-is, no_lower_lem, no-upper, upper-number}
use Rattle.fraction.proofs.Exactly.{Exactly, gives, plus-exactly}
use Rattle.step.specs.Dropped.{gained}
use Rattle.step.specs.Figure.{larger, smaller}
use Rattle.step.proofs.Lines.{split}

-- ---- figures, and pairs of them

-- figures in form, one for each number up to the last
pub record Figured (top : ℕ) (l : List Fraction) : Type 0 where
  pub long : length l ≡ top + 1
  pub proper : (i : ℕ) → i ≤ top → Proper (get_or l i no_figure)

pub record Sized (pair : Pair) : Type 0 where
  pub prices : Figured 32 pair.price
  pub flows : Figured 96 pair.flow

-- a figure in form, of this value
abbrev pub Figure : Fraction → ℚ → Type 0
Figure f q = Proper f × (value f ≡ q)

-- a figure put at a number of a list
module _ {top : ℕ} {l : List Fraction} (h : Figured top l) (k : ℕ) (f : Fraction) (within : (1 ≤ k) × (k ≤ top)) where
  abbrev put : List Fraction
  put = cond (is_number top k) (set l k f) l

  put_is : put ≡ set l k f
  put_is = rw (le-leb 1 k within.0, le-leb k top within.1)

  put-at : get_or put k no_figure ≡ f
  put-at = rw put_is (get_or-set_same l k f no_figure (omega (arith, within.1, h.long)))

  put-left : (i : ℕ) → (i ≡ k → ⊥) → get_or put i no_figure ≡ get_or l i no_figure
  put-left i n = rw put_is (get_or-set_other l k i f no_figure n)

  put-figured : Proper f → Figured top put
  put-figured p = record { long = rw put_is (length-set l k f) ∙ h.long; proper = λ i b. split (eqb i k) (λ e. rw (eqb-true i k e, put-at) p) (λ e. rw (put-left i (eqb-false i k e)) (h.proper i b)) }

  put-value : (i : ℕ) → value (get_or put i no_figure) ≡ upd (λ i. value (get_or l i no_figure)) k (value f) i
  put-value i = split (eqb i k) (λ e. rw (e, eqb-true i k e, put-at)) (λ e. rw (e, put-left i (eqb-false i k e)))

-- a pair is known by its figures
pub pair_is : (x y p q : ℕ → ℚ) → ((j : ℕ) → x j ≡ y j) → ((i : ℕ) → p i ≡ q i) → ◌≡◌ {A = LP.Pair} (record { flow = x; price = p }) (record { flow = y; price = q })
pair_is x y p q hx hp = λ i. record { flow = fun_ext hx i; price = fun_ext hp i }

-- ---- on the way back; number 0 puts nothing, by computation

-- the pair has the figures s, in exact numbers
pub record Holds (pair : Pair) (s : LP.Pair) : Type 0 where
  pub exact : exact_pair pair ≡ s
  pub sized : Sized pair

pub itself : {pair : Pair} → Sized pair → Holds pair (exact_pair pair)
itself z = record { exact = refl; sized = z }

module _ {pair : Pair} {s : LP.Pair} (h : Holds pair s) where
  pub flow-put : (j : ℕ) (f : Fraction) {q : ℚ} → (1 ≤ j) × (j ≤ 96) → Figure f q → Holds (with_flow pair j f) (closed-back j q s)
  unfolding with_flow
  flow-put j f l p =
      record {
        exact = pair_is _ _ _ _ (put-value h.sized.flows j f l) (λ i. refl) ∙ ap₂ (λ q s. closed-back j q s) p.1 h.exact;
        sized = record { prices = h.sized.prices; flows = put-figured h.sized.flows j f l p.0 };
      }

  pub price-put : (i : ℕ) (f : Fraction) {q : ℚ} → (1 ≤ i) × (i ≤ 32) → Figure f q → Holds (with_price pair i f) (bare-back i q s)
  unfolding with_price
  price-put i f l p =
      record {
        exact = pair_is _ _ _ _ (λ j. refl) (put-value h.sized.prices i f l) ∙ ap₂ (λ q s. bare-back i q s) p.1 h.exact;
        sized = record { prices = put-figured h.sized.prices i f l p.0; flows = h.sized.flows };
      }

-- ---- formulas

pub over-exactly : {x y : Worked} {p q : ℚ} → Gives x p → Gives y q → Exactly (x ⊘ y) (over_ℚ p q)
over-exactly g h z e = ((over-fits e).is.proper, over-gives g h z e)

pub negated-exactly : {x : Worked} {p : ℚ} → Exactly x p → Exactly (⊝ x) (-ℚ p)
negated-exactly k z e = let o = negated_fits e in (o.is.proper (k _ o.of_fits).0, negated-gives (gives k) z e)

-- the constant, where an arc takes a node's supply with it
pub gained-exactly : (constant : Fraction) (t : Arc) (w : Side) (r : Fraction) → Exactly (gained constant t w r) (value constant +ℚ value t.cost *ℚ value r *ℚ inv_ℚ (value w.e))
unfolding gained
gained-exactly constant t w r = plus-exactly (given constant) (over-gives (times-gives (given t.cost) (given r)) (given w.e))

-- ---- a choice between two numbers

pub choose_yes : {A : Type 0} (d : Dec A) (u v : ℚ) → A → choose d u v ≡ u
unfolding choose
choose_yes (yes a) u v h = refl
choose_yes (no n) u v h = absurd (n h)

pub choose_no : {A : Type 0} (d : Dec A) (u v : ℚ) → ¬ A → choose d u v ≡ v
unfolding choose
choose_no (yes a) u v h = absurd (h a)
choose_no (no n) u v h = refl

-- the larger of two
pub larger-is : {x y : Fraction} {p q : ℚ} → Figure x p → Figure y q → Figure (larger x y) (Spoke.larger p q)
unfolding Spoke.larger
larger-is {x} {y} {p} {q} a b =
    split (is_less x y)
    (λ e. rw e (b.0, b.1 ∙ sym (choose_no (≤ℚ-dec q p) p q (λ l. less-value a.0 b.0 e (rw (a.1, b.1) l)))))
    (λ e. rw e (a.0, a.1 ∙ sym (choose_yes (≤ℚ-dec q p) p q (rw (← a.1, ← b.1) (not-less a.0 b.0 e)))))

-- the tighter of a bound and a fraction in form
pub larger-bound : (l v : Fraction) → Bound no_lower l → Proper v → Bound no_lower (larger l v) × (bound_of (larger l v) ≡ merge_l (bound_of l) (bound_of v))
larger-bound l v (inl p) q =
    split (is_less l v) (λ e. rw (e, bound-is p, bound-is q) (inl q, sym (merge_l-second (lt→le (less-value p q e))))) (λ e. rw (e, bound-is p, bound-is q) (inl p, sym (merge_l-first (not-less p q e))))
larger-bound l v (inr m) q = rw (m, (less-is absent-lower (proper-figure q)).1 tt, no_lower_lem) (inl q, sym (none-merge_l (bound_of v)))

pub smaller-bound : (u v : Fraction) → Bound no_upper u → Proper v → Bound no_upper (smaller u v) × (bound_of (smaller u v) ≡ merge_u (bound_of u) (bound_of v))
smaller-bound u v (inl p) q =
    split (is_less v u) (λ e. rw (e, bound-is p, bound-is q) (inl q, sym (merge_u-second (lt→le (less-value q p e))))) (λ e. rw (e, bound-is p, bound-is q) (inl p, sym (merge_u-first (not-less q p e))))
smaller-bound u v (inr m) q = rw (m, (less-is (proper-figure q) absent-upper).1 tt, no-upper) (inl q, sym (none-merge_u (bound_of v)))

pub smaller-is : {u v : Fraction} → Bound no_upper u → Proper v → Figure (smaller u v) (capped (bound_of u) (value v))
smaller-is {u} {v} b p =
    let s = smaller-bound u v b p in
    let n = upper-number s.0 (s.1 ∙ ap (merge_u (bound_of u)) (bound-is p) ∙ capped_is (bound_of u) (value v)) in
    (n.proper, n.is)

-- ---- signs

pub above_zero : {x : Fraction} → Proper x → is_less zero_fraction x ≡ true → 0_ℚ <ℚ value x
above_zero p e = rw zero_is at (less-value zero-proper p e)

pub below-zero : {x : Fraction} → Proper x → is_less x zero_fraction ≡ true → value x <ℚ 0_ℚ
below-zero p e = rw zero_is at (less-value p zero-proper e)
