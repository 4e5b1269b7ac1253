-- The figures of the test in exact numbers: where they fit, a balance is what the flow brings to the node, and a reduced cost and the value are the program's.
use mathlib.Core.Path.{◌≡◌, refl, sym, ap, ap₂, ◌∙◌, subst}
use mathlib.Core.Bool.{cond}
use mathlib.Core.Logic.{◌⊎◌, inl, inr}
use Prim.Native.Nat.{ℕ, zero, suc, ◌+◌, ◌-◌, ◌≤◌, ◌<◌}
use native.Mathlib.Numerals.{add-one}
use native.Mathlib.Decide.{ℕ_discrete}
use native.Mathlib.Omega.{arith}
use lib.Dec.{T, eqb}
use borrow.Author.Tests.{eq-eqb, ne_eqb, eqb-true, eqb-false}
use Rattle.loops.specs.Loops.{upto}
use Rattle.algebra.proofs.Solver.{◌:+◌, ◌:*◌, ◌:-◌, :0, ◌:=◌, ring1, ring3}
use Rattle.algebra.specs.Rat.{ℚ, ◌+ℚ◌, ◌*ℚ◌, 0_ℚ}
use Rattle.algebra.proofs.Rat.{ℚ-ring, add_ℚ-zero}
use Rattle.algebra.specs.Sum.{sum, range, only}
use Rattle.algebra.proofs.Sum.{only_same, only-other}
use Rattle.presolve.specs.LP.{reduced, brings, total}
use Rattle.presolve.specs.LP as LP
use Rattle.presolve.proofs.Price.{only_zero}
use Rattle.presolve.specs.Net.{touch, column, column_at, out}
use Rattle.presolve.proofs.Net.{column-in, column-out, touch-off, reduced-of}
use Rattle.presolve.specs.Net as Exact
use Rattle.presolve.proofs.Net as ExactLaws
use Rattle.fraction.specs.declared.Fraction.{Fraction}
use Rattle.fraction.specs.Exact.{Worked}
use Rattle.std.specs.Prelude.{Ok}
use Rattle.fraction.specs.Exact.{Proper, zero_fraction}
use Rattle.fraction.specs.Formula.{◌⊕◌, ◌⊗◌}
use Rattle.fraction.specs.Value.{value}
use Rattle.fraction.proofs.Formulas.{given, less_ℚ, minus-gives, times-gives, zero-proper, zero_is}
use Rattle.fraction.proofs.Exactly.{Exactly, gives, same, plus-exactly, minus-exactly}
use Rattle.network.specs.declared.Arc.{Arc}
use Rattle.network.specs.declared.Net.{Net}
use Rattle.network.specs.declared.pair.Pair.{Pair}
use Rattle.network.specs.Network.{arc_at, is_touching, is_root, side_of, is_used}
use Rattle.network.specs.Pair.{price_at, flow_at, exact_pair}
use Rattle.network.specs.Legal.{Legal, Gapless}
use Rattle.network.specs.Program.{exact_arc, exact_of, program_of}
use Rattle.network.proofs.Sane.{sane}
use Rattle.step.proofs.Lines.{split}
use Rattle.figures.specs.Figures.{balance_turn, balance_of, reduced_cost, value_turn, value_of}

-- one term more
term-exactly : {w : Worked} {s : ℚ} (e x : Fraction) → Exactly w s → Exactly (w ⊕ Ok e ⊗ Ok x) (s +ℚ value e *ℚ value x)
term-exactly e x k = plus-exactly (gives k) (times-gives (given e) (given x))

-- a fraction in form
alone-exactly : (x : Fraction) → Proper x → Exactly (Ok x) (value x)
alone-exactly x p = λ z e. let q : z ≡ x = cc in (rw q p, ap value q)

-- ---- sums that start at w, of value b, and "run over the arcs upward"

module _ {w : Worked} {b : ℚ} (start : Exactly w b) (turn : ℕ → Worked → Worked) (f : ℕ → ℚ) (m : ℕ) (none : (c : ℕ) → (c ≡ 0) ⊎ (m < c) → f c ≡ 0_ℚ) (more : (j : ℕ) (w : Worked) (s : ℚ) → j < m → Exactly w s → Exactly (turn j w) (s +ℚ f (j + 1))) where
  upward : (k : ℕ) → k ≤ m → Exactly (upto turn k w) (b +ℚ sum (range (suc k)) f)
  unfolding upto range
  upward zero h = same (sym (ap (λ (q : ℚ). b +ℚ q) (add_ℚ-zero (f 0) ∙ none 0 (inl refl)) ∙ add_ℚ-zero b)) start
  upward (suc k) h =
      same (ring3 ℚ-ring b (sum (range (suc k)) f) (f (k + 1)) (λ b s t. (b :+ s) :+ t := b :+ (t :+ s)) refl ∙ ap (λ (t : ℕ). b +ℚ (f t +ℚ sum (range (suc k)) f)) (add-one k))
      (more k (upto turn k w) (b +ℚ sum (range (suc k)) f) (omega (arith, add-one k)) (upward k (omega (arith, add-one k))))

  beyond : (d : ℕ) → sum (range (suc m + d)) f ≡ sum (range (suc m)) f
  unfolding range
  beyond zero = let e : suc m + 0 ≡ suc m = omega (arith, add-one m) in ap (λ (t : ℕ). sum (range t) f) e
  beyond (suc d) =
      let e : suc m + suc d ≡ suc (suc m + d) = omega (arith, add-one d, add-one (suc m + d)) in
      ap (λ (t : ℕ). sum (range t) f) e ∙ ap₂ ◌+ℚ◌ (none (suc m + d) (inr (omega (arith, add-one m)))) (beyond d) ∙ ring1 ℚ-ring (sum (range (suc m)) f) (λ s. :0 :+ s := s) refl

  over-arcs : m ≤ 96 → Exactly (upto turn m w) (b +ℚ sum (range 97) f)
  over-arcs h =
      let e : suc m + (96 - m) ≡ 97 = omega (arith, add-one m) in
      same (ap (λ (q : ℚ). b +ℚ q) (sym (beyond (96 - m)) ∙ ap (λ (t : ℕ). sum (range t) f) e)) (upward m (omega arith))

-- ---- the factor of an arc at its ends

module _ (e : Exact.Arc) where
  touch-from : ExactLaws.Legal e → touch e e.from ≡ e.a
  touch-from l = ap₂ ◌+ℚ◌ (only_same e.from e.a) (other (ℕ_discrete e.from e.to)) ∙ add_ℚ-zero e.a
    where
      other : Dec (e.from ≡ e.to) → only e.to e.b e.from ≡ 0_ℚ
      other (yes q) = ap (λ (b : ℚ). only e.to b e.from) (l.b_zero q) ∙ only_zero e.to e.from
      other (no n) = only-other e.to e.from e.b (λ q. n (sym q))

  touch-to : ¬ (e.from ≡ e.to) → touch e e.to ≡ e.b
  touch-to n = ap₂ ◌+ℚ◌ (only-other e.from e.to e.a n) (only_same e.to e.b) ∙ ring1 ℚ-ring e.b (λ b. :0 :+ b := b) refl

-- a turn of a balance
turn-exactly : (t : Arc) → ExactLaws.Legal (exact_arc t) → (i : ℕ) (x : Fraction) (w : Worked) (s : ℚ) → Exactly w s → Exactly (cond (is_touching t i) (w ⊕ Ok (side_of t i).e ⊗ Ok x) w) (s +ℚ touch (exact_arc t) i *ℚ value x)
unfolding is_touching side_of
turn-exactly t l i x w s k =
    split (eqb t.from i)
    (λ e. rw e (same (at (subst (λ (k : ℕ). touch (exact_arc t) k ≡ value t.a) (eqb-true _ _ e) (touch-from (exact_arc t) l))) (term-exactly t.a x k)))
    (λ e.
    split (eqb t.to i)
    (λ f.
    let q = eqb-true _ _ f in
    let n : ¬ (t.from ≡ t.to) = λ r. eqb-false _ _ e (r ∙ q) in
    rw (e, f) (same (at (subst (λ (k : ℕ). touch (exact_arc t) k ≡ value t.b) q (touch-to (exact_arc t) n))) (term-exactly t.b x k)))
    (λ f.
    rw (e, f) (same (ring1 ℚ-ring s (λ s. s := s :+ :0) refl ∙ ap (λ (q : ℚ). s +ℚ q) (ring1 ℚ-ring (value x) (λ x. :0 := :0 :* x) refl) ∙ at (touch-off (exact_arc t) i (eqb-false _ _ e) (eqb-false _ _ f))) k)))
  where
    at : {q : ℚ} → touch (exact_arc t) i ≡ q → s +ℚ q *ℚ value x ≡ s +ℚ touch (exact_arc t) i *ℚ value x
    at e = ap (λ (q : ℚ). s +ℚ q *ℚ value x) (sym e)

-- ---- a legal network without gaps

module _ {net : Net} (g : Legal net) (h : Gapless net) (pair : Pair) where
  pub used : (j : ℕ) → 1 ≤ j → j ≤ net.m → T (is_used net j)
  used j a b = let l = h.arc-in j a b in rw (ne_eqb (arc_at net j).from 0 (λ q. omega arith)) tt

  pub unused : (j : ℕ) → (j ≡ 0) ⊎ (net.m < j) → ¬ (T (is_used net j))
  unused j o = rw (eq-eqb (arc_at net j).from 0 (from o)) (λ t. t)
    where
      from : (j ≡ 0) ⊎ (net.m < j) → (arc_at net j).from ≡ 0
      from (inl q) = rw q g.no-arc
      from (inr l) = g.arcs_beyond j l

  -- a column in use, and one that is out
  pub column-used : (j : ℕ) → 1 ≤ j → j ≤ net.m → column_at (exact_of net) j ≡ column (exact_arc (arc_at net j))
  unfolding exact_of
  column-used j a b = column-in (exact_of net) j (used j a b)

  pub column-unused : (j : ℕ) → (j ≡ 0) ⊎ (net.m < j) → column_at (exact_of net) j ≡ out
  unfolding exact_of
  column-unused j o = column-out (exact_of net) j (unused j o)

  legal-at : (j : ℕ) → j < net.m → ExactLaws.Legal (exact_arc (arc_at net (j + 1)))
  unfolding exact_of
  legal-at j l = (sane g).legal (j + 1) (omega (arith, g.few_arcs)) (used (j + 1) (omega arith) (omega arith))

  -- the balance of node i
  pub balance-exactly : (i : ℕ) → Exactly (balance_of net pair i) (brings (program_of net) (exact_pair pair).flow i)
  unfolding balance_of brings exact_of
  balance-exactly i =
      same (ring1 ℚ-ring _ (λ s. :0 :+ s := s) refl)
      (over-arcs (same zero_is (alone-exactly zero_fraction zero-proper)) (balance_turn net pair i) (λ c. (column_at (exact_of net) c).coef i *ℚ value (flow_at pair c)) net.m
      (λ c o. ap (λ k. k.coef i *ℚ value (flow_at pair c)) (column-unused c o) ∙ ring1 ℚ-ring (value (flow_at pair c)) (λ x. :0 :* x := :0) refl)
      (λ j w s l k. same (ap (λ t. s +ℚ t.coef i *ℚ value (flow_at pair (j + 1))) (sym (column-used (j + 1) (omega arith) (omega arith)))) (turn-exactly (arc_at net (j + 1)) (legal-at j l) i (flow_at pair (j + 1)) w s k))
      g.few_arcs)

  -- the value
  pub value-exactly : Exactly (value_of net pair) (LP.value (program_of net) (exact_pair pair).flow)
  unfolding value_of total exact_of
  value-exactly =
      over-arcs (alone-exactly net.constant g.constant_proper) (value_turn net pair) (λ c. (column_at (exact_of net) c).cost *ℚ value (flow_at pair c)) net.m
      (λ c o. ap (λ k. k.cost *ℚ value (flow_at pair c)) (column-unused c o) ∙ ring1 ℚ-ring (value (flow_at pair c)) (λ x. :0 :* x := :0) refl)
      (λ j w s l k. same (ap (λ t. s +ℚ t.cost *ℚ value (flow_at pair (j + 1))) (sym (column-used (j + 1) (omega arith) (omega arith)))) (term-exactly (arc_at net (j + 1)).cost (flow_at pair (j + 1)) k))
      g.few_arcs

  -- the reduced cost of arc j + 1
  pub cost-exactly : (j : ℕ) → j < net.m → Exactly (reduced_cost (arc_at net (j + 1)) pair) (reduced (range 33) (column_at (exact_of net) (j + 1)) (exact_pair pair).price)
  unfolding reduced_cost exact_of is_root
  cost-exactly j l =
      same (sym (reduced-of (exact_of net) (sane g) (j + 1) (omega (arith, g.few_arcs)) (used (j + 1) (omega arith) (omega arith)) (exact_pair pair).price))
      (split (eqb t.from t.to)
      (λ e.
      rw e
      (same (ring3 ℚ-ring (value t.cost) (value t.a *ℚ p) q (λ c u q. c :- u := (c :- u) :- :0 :* q) refl ∙ ap (λ (b : ℚ). less_ℚ (less_ℚ (value t.cost) (value t.a *ℚ p)) (b *ℚ q)) (sym ((legal-at j l).b_zero (eqb-true _ _ e))))
      (minus-exactly (given t.cost) (times-gives (given t.a) (given (price_at pair t.from))))))
      (λ e. rw e (minus-exactly (minus-gives (given t.cost) (times-gives (given t.a) (given (price_at pair t.from)))) (times-gives (given t.b) (given (price_at pair t.to))))))
    where
      t : Arc
      t = arc_at net (j + 1)

      p : ℚ
      p = value (price_at pair t.from)

      q : ℚ
      q = value (price_at pair t.to)
