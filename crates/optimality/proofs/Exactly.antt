-- The test passes exactly the proven pairs: its questions in exact numbers, and back.
use mathlib.Core.Path.{◌≡◌, refl, sym, ap, ◌∙◌, subst}
use mathlib.Core.Bool.{Bool, true, false, ◌&&◌, not}
use mathlib.Core.List.{List, Memᴰ}
use mathlib.Core.Logic.{◌↔◌, ◌⊎◌, inl, inr, ⊎_elim}
use mathlib.Core.Option.{some}
use Prim.Native.Nat.{ℕ, ◌+◌, ◌-◌, ◌≤◌, ◌<◌}
use native.Mathlib.Omega.{arith}
use lib.Dec.{T}
use lib.IntN.{ℤ, pos}
use borrow.Author.Tests.{not-true}
use Rattle.loops.specs.Loops.{all}
use Rattle.loops.proofs.Laws.{all-each, each_all}
use Rattle.algebra.proofs.Solver.{◌:*◌, :0, ◌:=◌, ring1}
use Rattle.algebra.specs.Rat.{ℚ, ◌*ℚ◌, inv_ℚ, 0_ℚ, from_ℤ}
use Rattle.algebra.proofs.Rat.{ℚ-ring}
use Rattle.algebra.proofs.Order.{le_of_eq}
use Rattle.algebra.specs.Frac.{frac}
use Rattle.algebra.specs.Sum.{range}
use Rattle.algebra.proofs.Sum.{range-once, sum_congr, sum-zero}
use Rattle.presolve.specs.Bounds.{Within}
use Rattle.presolve.proofs.Bounds.{some_inj, fits-closed}
use Rattle.presolve.specs.Bounds as Bounds
use Rattle.presolve.specs.LP.{Column, LP, Solved, InBounds, reduced, brings}
use Rattle.presolve.specs.LP as LP
use Rattle.presolve.proofs.Duality.{weak-duality}
use Rattle.presolve.proofs.Named.{once-mem}
use Rattle.presolve.specs.Net.{column, column_at, rhs_at}
use Rattle.presolve.proofs.Net.{rhs-in, rhs-out, row_out}
use Rattle.fraction.specs.declared.Fraction.{Fraction}
use Rattle.fraction.specs.Exact.{Proper, no_figure, no_lower, no_upper, is_less, is_same}
use Rattle.fraction.specs.Formula.{is_fit, figure_of}
use Rattle.fraction.proofs.Laws.{and_both}
use Rattle.fraction.specs.Value.{value}
use Rattle.fraction.proofs.Value.{value-unique, same-is, is_same_lem}
use Rattle.network.specs.declared.Arc.{Arc}
use Rattle.network.specs.declared.Net.{Net}
use Rattle.network.specs.declared.pair.Pair.{Pair}
use Rattle.network.specs.Network.{arc_at, supply_at, is_here}
use Rattle.network.specs.Pair.{flow_at, exact_pair}
use Rattle.records.specs.Pair.{is_pair}
use Rattle.network.specs.Legal.{Bound, LegalArc, Legal, Gapless}
use Rattle.network.specs.Program.{bound_of, exact_arc, exact_of, program_of}
use Rattle.network.proofs.Numbers.{by_number}
use Rattle.network.proofs.Bounds.{not-under, not-over, under}
use Rattle.network.proofs.Bounds as Beyond
use Rattle.network.proofs.Sane.{sane}
use Rattle.records.proofs.Paired.{flow-proper, no-flow-read}
use Rattle.std.specs.Prelude.{Ok}
use Rattle.records.specs.declared.refusal.Refusal.{Refusal}
use Rattle.records.specs.Questions.{first_no}
use Rattle.records.proofs.Questions.{none-no}
use Rattle.records.proofs.Written.{words-read}
use Rattle.figures.specs.Figures.{balance_of, reduced_cost, value_of, balance_fits, cost_fits, all_fit, is_balanced, is_within, is_within_at, keeps_rule_at, test_questions}
use Rattle.slackness.proofs.Laws.{rule-is, is-rule}
use Rattle.optimality.specs.Test.{pair_in, pair_questions, Proven, Least}
use Rattle.records.specs.Values.{two_words}
use Rattle.fraction.proofs.Exactly.{fit_is}
use Rattle.figures.proofs.Values.{balance-exactly, value-exactly, cost-exactly, column-used, column-unused}

-- nothing counts as 0
nothing_is : value no_figure ≡ 0_ℚ
unfolding value frac
nothing_is = ring1 ℚ-ring (inv_ℚ (from_ℤ (pos 0))) (λ y. :0 :* y := :0) refl

-- ---- questions 11 and 12 of one arc, for a flow x in form

module _ {x : Fraction} (p : Proper x) where
  module _ (t : Arc) (l : Bound no_lower t.lower) (u : Bound no_upper t.upper) where
    within-is : is_within t x ≡ true → Within (bound_of t.lower) (bound_of t.upper) (value x)
    unfolding is_within
    within-is e =
        let b = and_both (not (is_less x t.lower)) _ e in
        record { above = not-under p l (not-true _ b.0); below = not-over p u (not-true _ b.1) }

    is_within_lem : Within (bound_of t.lower) (bound_of t.upper) (value x) → is_within t x ≡ true
    unfolding is_within
    is_within_lem w = by (is_less x t.lower) refl (is_less t.upper x) refl
      where
        by : (a : Bool) → is_less x t.lower ≡ a → (b : Bool) → is_less t.upper x ≡ b → (not a && not b) ≡ true
        by true e b f = let o = under p l e in absurd (o.1 (w.above _ o.0))
        by false e true f = let o = Beyond.over p u f in absurd (o.1 (w.below _ o.0))
        by false e false f = refl

-- ---- questions 9 to 12, on a legal network without gaps, for a pair whose flows are in form where there is an arc, and nothing elsewhere

module _ {net : Net} (g : Legal net) (h : Gapless net) (pair : Pair) (form : (j : ℕ) → 1 ≤ j → j ≤ net.m → Proper (flow_at pair j)) (none : (j : ℕ) → (j ≡ 0) ⊎ (net.m < j) → flow_at pair j ≡ no_figure) (fits : all_fit net pair ≡ true) where
  abbrev N : LP
  N = program_of net

  abbrev flow : ℕ → ℚ
  flow j = value (flow_at pair j)

  -- question 9
  balance-fits : (i : ℕ) → i < net.n → Proper (figure_of (balance_of net pair (i + 1))) × (value (figure_of (balance_of net pair (i + 1))) ≡ brings N flow (i + 1))
  unfolding all_fit
  balance-fits i l = fit_is _ (balance-exactly g h pair (i + 1)) (all-each (balance_fits net pair) net.n (and_both (all (balance_fits net pair) net.n) _ fits).0 i l)

  rest-fits : (all (cost_fits net pair) net.m ≡ true) × (is_fit (value_of net pair) ≡ true)
  unfolding all_fit
  rest-fits = and_both (all (cost_fits net pair) net.m) _ (and_both (all (balance_fits net pair) net.n) _ fits).1

  -- the reduced cost of arc j in the program
  abbrev cost : ℕ → ℚ
  cost j = reduced (range 33) (column_at (exact_of net) j) (exact_pair pair).price

  cost-fits : (j : ℕ) → j < net.m → Proper (figure_of (reduced_cost (arc_at net (j + 1)) pair)) × (value (figure_of (reduced_cost (arc_at net (j + 1)) pair)) ≡ cost (j + 1))
  cost-fits j l = fit_is _ (cost-exactly g h pair j l) (all-each (cost_fits net pair) net.m rest-fits.0 j l)

  value-fits : Proper (figure_of (value_of net pair)) × (value (figure_of (value_of net pair)) ≡ LP.value N flow)
  value-fits = fit_is _ (value-exactly g h pair) rest-fits.1

  -- arc j + 1
  legal-arc : (j : ℕ) → j < net.m → LegalArc net (arc_at net (j + 1))
  legal-arc j l = g.used (j + 1) (h.arc-in (j + 1) (omega arith) (omega arith))

  proper-flow : (j : ℕ) → j < net.m → Proper (flow_at pair (j + 1))
  proper-flow j l = form (j + 1) (omega arith) (omega arith)

  column-at : (j : ℕ) → j < net.m → column_at (exact_of net) (j + 1) ≡ column (exact_arc (arc_at net (j + 1)))
  column-at j l = column-used g h pair (j + 1) (omega arith) (omega arith)

  no_flow : (c : ℕ) → (c ≡ 0) ⊎ (net.m < c) → flow c ≡ 0_ℚ
  no_flow c o = ap value (none c o) ∙ nothing_is

  -- question 10: node i, and a row that has no node
  node-there : (i : ℕ) → i < net.n → rhs_at (exact_of net) (i + 1) ≡ value (supply_at net (i + 1))
  unfolding exact_of
  node-there i l = rhs-in (exact_of net) (i + 1) (subst T (sym (h.node_in (i + 1) (omega arith) (omega arith))) tt)

  balanced-is : (i : ℕ) → i < net.n → is_balanced net pair i ≡ true → brings N flow (i + 1) ≡ rhs_at (exact_of net) (i + 1)
  balanced-is i l e = sym (balance-fits i l).1 ∙ ap value (same-is _ _ e) ∙ sym (node-there i l)

  is-balanced : (i : ℕ) → i < net.n → brings N flow (i + 1) ≡ rhs_at (exact_of net) (i + 1) → is_balanced net pair i ≡ true
  is-balanced i l e =
      let f = balance-fits i l in
      let q : figure_of (balance_of net pair (i + 1)) ≡ supply_at net (i + 1) = value-unique _ _ f.0 (g.supply_proper (i + 1) (h.node_in (i + 1) (omega arith) (omega arith))) (f.1 ∙ e ∙ node-there i l) in
      subst (λ y. is_same (figure_of (balance_of net pair (i + 1))) y ≡ true) q (is_same_lem _)

  empty-row : (i : ℕ) → (i ≡ 0) ⊎ (net.n < i) → brings N flow i ≡ rhs_at (exact_of net) i
  unfolding brings exact_of
  empty-row i o =
      sum_congr (range 97) (λ c. (column_at (exact_of net) c).coef i *ℚ flow c) (λ c. 0_ℚ) (λ c k. ap (λ (a : ℚ). a *ℚ flow c) (row_out (exact_of net) (sane g) c i k absent) ∙ ring1 ℚ-ring (flow c) (λ x. :0 :* x := :0) refl)
      ∙ sum-zero (range 97) ∙ sym (rhs-out (exact_of net) i absent)
    where
      gone : (i ≡ 0) ⊎ (net.n < i) → is_here net i ≡ false
      gone (inl q) = rw q g.no_node
      gone (inr l) = g.nodes_beyond i l

      absent : ¬ (T (is_here net i))
      absent t = subst T (gone o) t

  -- question 11
  bounded-is : (j : ℕ) → j < net.m → is_within_at net pair j ≡ true → InBounds (column_at (exact_of net) (j + 1)) (flow (j + 1))
  bounded-is j l e = let t = legal-arc j l in subst (λ (k : Column). InBounds k (flow (j + 1))) (sym (column-at j l)) (within-is (proper-flow j l) (arc_at net (j + 1)) t.lower_bound t.upper_bound e)

  is-bounded : (j : ℕ) → j < net.m → InBounds (column_at (exact_of net) (j + 1)) (flow (j + 1)) → is_within_at net pair j ≡ true
  is-bounded j l e = let t = legal-arc j l in is_within_lem (proper-flow j l) (arc_at net (j + 1)) t.lower_bound t.upper_bound (subst (λ (k : Column). InBounds k (flow (j + 1))) (column-at j l) e)

  empty-bounds : (c : ℕ) → (c ≡ 0) ⊎ (net.m < c) → InBounds (column_at (exact_of net) c) (flow c)
  empty-bounds c o =
      subst (λ (k : Column). InBounds k (flow c)) (sym (column-unused g h pair c o))
      (record { above = λ v e. le_of_eq (sym (some_inj e) ∙ sym (no_flow c o)); below = λ v e. le_of_eq (no_flow c o ∙ some_inj e) })

  -- question 12
  kept-is : (j : ℕ) → j < net.m → keeps_rule_at net pair j ≡ true → Bounds.Fits (column_at (exact_of net) (j + 1)).lower (column_at (exact_of net) (j + 1)).upper (flow (j + 1)) (cost (j + 1))
  kept-is j l e =
      let t = legal-arc j l in
      let f = cost-fits j l in
      subst (λ (k : Column). Bounds.Fits k.lower k.upper (flow (j + 1)) (cost (j + 1))) (sym (column-at j l))
      (subst (λ (d : ℚ). Bounds.Fits (bound_of (arc_at net (j + 1)).lower) (bound_of (arc_at net (j + 1)).upper) (flow (j + 1)) d) f.1 (rule-is (proper-flow j l) t.lower_bound t.upper_bound f.0 e))

  is_kept : (j : ℕ) → j < net.m → Bounds.Fits (column_at (exact_of net) (j + 1)).lower (column_at (exact_of net) (j + 1)).upper (flow (j + 1)) (cost (j + 1)) → keeps_rule_at net pair j ≡ true
  is_kept j l e =
      let t = legal-arc j l in
      let f = cost-fits j l in
      is-rule (proper-flow j l) t.lower_bound t.upper_bound f.0
      (subst (λ (d : ℚ). Bounds.Fits (bound_of (arc_at net (j + 1)).lower) (bound_of (arc_at net (j + 1)).upper) (flow (j + 1)) d) (sym f.1)
      (subst (λ (k : Column). Bounds.Fits k.lower k.upper (flow (j + 1)) (cost (j + 1))) (column-at j l) e))

  empty-rule : (c : ℕ) → (c ≡ 0) ⊎ (net.m < c) → Bounds.Fits (column_at (exact_of net) c).lower (column_at (exact_of net) c).upper (flow c) (cost c)
  empty-rule c o =
      subst (λ (k : Column). Bounds.Fits k.lower k.upper (flow c) (cost c)) (sym (column-unused g h pair c o))
      (fits-closed (some 0_ℚ) (some 0_ℚ) (flow c) (cost c) (ap some (sym (no_flow c o))) (ap some (sym (no_flow c o))))

  -- what holds at the numbers 1 to top, and elsewhere, holds everywhere
  everywhere : (P : ℕ → Type 0) (top : ℕ) → ((j : ℕ) → j < top → P (j + 1)) → ((c : ℕ) → (c ≡ 0) ⊎ (top < c) → P c) → (c : ℕ) → P c
  everywhere P top inside outside c = ⊎_elim (λ o. outside c o) (λ (q : (c - 1 + 1 ≡ c) × (c - 1 < top)). subst P q.0 (inside (c - 1) q.1)) (by_number top c)

  -- the questions 10 to 12, and a solved program
  tests-solve : all (is_balanced net pair) net.n ≡ true → all (is_within_at net pair) net.m ≡ true → all (keeps_rule_at net pair) net.m ≡ true → Solved N (exact_pair pair)
  unfolding exact_of
  tests-solve b w k =
      record {
        feasible =
            record {
              balance = λ s m. everywhere (λ s. brings N flow s ≡ rhs_at (exact_of net) s) net.n (λ i l. balanced-is i l (all-each (is_balanced net pair) net.n b i l)) empty-row s;
              within = λ c m. everywhere (λ c. InBounds (column_at (exact_of net) c) (flow c)) net.m (λ j l. bounded-is j l (all-each (is_within_at net pair) net.m w j l)) empty-bounds c;
            };
        priced = λ c m. everywhere (λ c. Bounds.Fits (column_at (exact_of net) c).lower (column_at (exact_of net) c).upper (flow c) (cost c)) net.m (λ j l. kept-is j l (all-each (keeps_rule_at net pair) net.m k j l)) empty-rule c;
      }

  solved-tests : Solved N (exact_pair pair) → (all (is_balanced net pair) net.n ≡ true) × (all (is_within_at net pair) net.m ≡ true) × (all (keeps_rule_at net pair) net.m ≡ true)
  unfolding exact_of
  solved-tests s = (
    each_all (is_balanced net pair) net.n (λ i l. is-balanced i l (s.feasible.balance (i + 1) (once-mem (range-once (i + 1) 33 (omega (arith, g.few_nodes)))))),
    each_all (is_within_at net pair) net.m (λ j l. is-bounded j l (s.feasible.within (j + 1) (column-mem j l))),
    each_all (keeps_rule_at net pair) net.m (λ j l. is_kept j l (s.priced (j + 1) (column-mem j l))),
  )
    where
      column-mem : (j : ℕ) → j < net.m → Memᴰ (j + 1) (range 97)
      column-mem j l = once-mem (range-once (j + 1) 97 (omega (arith, g.few_arcs)))

-- ---- questions 8 to 12

module _ {net : Net} (g : Legal net) (h : Gapless net) (ys : List ℤ) where
  -- the pair of words in form
  module _ (e : is_pair ys net.n net.m ≡ true) where
    form : (j : ℕ) → 1 ≤ j → j ≤ net.m → Proper (flow_at (pair_in net ys) j)
    form = flow-proper ys net.n net.m g.few_nodes g.few_arcs e

    none : (j : ℕ) → (j ≡ 0) ⊎ (net.m < j) → flow_at (pair_in net ys) j ≡ no_figure
    none = no-flow-read ys net.n net.m g.few_nodes g.few_arcs

  passed-proven : first_no (pair_questions net ys) ≡ Ok tt → Proven net ys
  unfolding pair_questions test_questions
  passed-proven e =
      let a = none-no Refusal.Pair (is_pair ys net.n net.m) e in
      let b = none-no Refusal.Width (all_fit net (pair_in net ys)) a.1 in
      let c = none-no Refusal.Balance (all (is_balanced net (pair_in net ys)) net.n) b.1 in
      let d = none-no Refusal.Bounds (all (is_within_at net (pair_in net ys)) net.m) c.1 in
      let k = none-no Refusal.Prices (all (keeps_rule_at net (pair_in net ys)) net.m) d.1 in
      record { in_form = a.0; fits = b.0; solved = tests-solve g h (pair_in net ys) (form a.0) (none a.0) b.0 c.0 d.0 k.0 }

  proven-passed : Proven net ys → first_no (pair_questions net ys) ≡ Ok tt
  unfolding pair_questions test_questions
  proven-passed v =
      let t = solved-tests g h (pair_in net ys) (form v.in_form) (none v.in_form) v.fits v.solved in
      rw (v.in_form, v.fits, t.0, t.1, t.2)

  -- none of 8 to 12 is answered by no exactly where the pair is proven
  pub exactly-proven : first_no (pair_questions net ys) ≡ Ok tt ↔ Proven net ys
  exactly-proven = (passed-proven, proven-passed)

  -- the value of a proven pair is in form, and exactly the program's
  pub proven-value : Proven net ys → Proper (figure_of (value_of net (pair_in net ys))) × (value (figure_of (value_of net (pair_in net ys))) ≡ LP.value (program_of net) (exact_pair (pair_in net ys)).flow)
  proven-value v = value-fits g h (pair_in net ys) (form v.in_form) (none v.in_form) v.fits

  -- its flow is of least value, and the two words are its value
  pub proven-least : (room : ℕ) → Proven net ys → Least net ys (two_words (figure_of (value_of net (pair_in net ys))) room)
  proven-least room v =
      let f = proven-value v in
      record { optimal = weak-duality (program_of net) (exact_pair (pair_in net ys)) v.solved; cost = ap value (words-read _ f.0.operand.den_in) ∙ f.1 }
