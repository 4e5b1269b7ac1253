-- Demand 3: a pair that is restored is written in form and solves the network given, its flow is optimal there, the value written is its cost,
-- and the reduced value is the same.
use mathlib.Core.Path.{◌≡◌, refl, sym, ap, ◌∙◌, subst}
use mathlib.Core.Bool.{true, false}
use mathlib.Core.List.{List, Memᴰ}
use mathlib.Core.Logic.{◌⊎◌, inl, inr}
use Prim.Native.Nat.{ℕ, zero, suc, ◌+◌, ◌-◌, ◌≤◌, ◌<◌}
use native.Mathlib.Numerals.{add-one}
use native.Mathlib.Omega.{arith}
use lib.Dec.{leb}
use lib.IntN.{ℤ}
use borrow.Author.Tests.{leb-true, leb-false, eq-eqb}
use Rattle.loops.specs.Loops.{upto}
use Rattle.loops.proofs.Laws.{each_all}
use Rattle.algebra.specs.Rat.{◌+ℚ◌, ◌*ℚ◌, -ℚ◌, 0_ℚ}
use Rattle.algebra.proofs.Rat.{ℚ-ring, ≤ℚ-antisym}
use Rattle.algebra.proofs.Solver.{◌:*◌, :0, ◌:=◌, ring2}
use Rattle.algebra.proofs.Sum.{sum_congr}
use Rattle.presolve.specs.Bounds as Bounds
use Rattle.presolve.specs.LP.{Column, LP, Solved, InBounds, PriceRule, worth, brings}
use Rattle.presolve.proofs.Duality.{weak-duality}
use Rattle.presolve.proofs.Net.{row_out}
use Rattle.presolve.specs.LP as LP
use Rattle.fraction.specs.declared.Fraction.{Fraction}
use Rattle.fraction.specs.Exact.{Worked}
use Rattle.std.specs.Prelude.{Ok, Err}
use Rattle.fraction.specs.Exact.{Proper, from_words, den_word}
use Rattle.fraction.specs.Formula.{is_fit, figure_of}
use Rattle.fraction.proofs.Laws.{never, and_both, is-proper}
use Rattle.fraction.specs.Value.{value}
use Rattle.fraction.proofs.Value.{value-unique}
use Rattle.fraction.proofs.Exactly.{fit_is}
use Rattle.network.specs.declared.Net.{Net}
use Rattle.network.specs.declared.pair.Pair.{Pair}
use Rattle.fraction.specs.Words.{word}
use Rattle.records.specs.Network.{questions, read_of}
use Rattle.network.specs.Network.{is_here}
use Rattle.network.specs.Pair.{price_at, flow_at, exact_pair}
use Rattle.network.specs.Legal.{Legal, Gapless}
use Rattle.network.specs.Program.{exact_of, program_of}
use Rattle.network.proofs.Numbers.{by_number}
use Rattle.network.proofs.Kept.{here-within}
use Rattle.network.proofs.Sane.{sane}
use Rattle.records.proofs.Legal.{read-gapless}
use Rattle.survivors.proofs.Survivors.{packed-gapless}
use Rattle.survivors.proofs.Packed.{packed-legal}
use Rattle.records.proofs.Paired.{no-flow-read}
use Rattle.step.specs.Run.{Run, Way, at}
use Rattle.rules.specs.Table.{reduced}
use Rattle.rules.proofs.Whole as Whole
use Rattle.figures.specs.Figures.{value_turn, value_of}
use Rattle.optimality.specs.Test.{pair_in, pair_questions, Proven}
use Rattle.figures.proofs.Values.{value-exactly, column-unused}
use Rattle.optimality.proofs.Exactly.{exactly-proven, proven-value}
use Rattle.search.proofs.Questions.{AllYes, legal-read}
use Rattle.records.specs.Questions.{first_no}
use Rattle.records.proofs.Questions.{none-no}
use Rattle.records.proofs.Tables.{none_before, none-behind}
use Rattle.std.specs.Prelude.{Result, Ok, ⊤}
use Rattle.records.specs.declared.refusal.Refusal.{Refusal}
use Rattle.survivors.specs.Survivors.{spread_of}
use Rattle.restoration.specs.Restore.{is_reduced, is_stack, reduced_net, brought_back, pair_back, original_value, reduced_value, is_roomy, is_back, offer_table, back_table, run_table, restore_table, refusal_of, written_pair, Written, Optimum}
use Rattle.records.specs.Cut.{cut_pair}
use Rattle.records.specs.Pair.{has_sizes, is_pair, pair_figure, pair_words}
use Rattle.records.specs.Values.{four_words}
use Rattle.restoration.proofs.Spread.{no_value, read-sized, read-solved, read-value}
use Rattle.records.proofs.Arrays.{with-room}
use Rattle.records.proofs.Written.{price-written, flow-written, value_written}
use Rattle.reduction.proofs.ReadBack.{cut_holds}
use Rattle.step.proofs.Exactly.{false-not}
use Rattle.step.proofs.Figures.{Sized}
use Rattle.step.proofs.Lines.{split}

-- ---- a pair that solves a program is known by its flows at the columns, and by what its prices are worth there

solved-same : (N : LP) (s t : LP.Pair) → ((c : ℕ) → Memᴰ c N.cols → s.flow c ≡ t.flow c) → ((c i : ℕ) → Memᴰ c N.cols → (N.col c).coef i *ℚ s.price i ≡ (N.col c).coef i *ℚ t.price i) → Solved N s → Solved N t
unfolding brings worth
solved-same N s t x p h =
    record {
      feasible = record {
        balance = λ i m. sum_congr N.cols (λ c. (N.col c).coef i *ℚ t.flow c) (λ c. (N.col c).coef i *ℚ s.flow c) (λ c k. ap (λ v. (N.col c).coef i *ℚ v) (sym (x c k))) ∙ h.feasible.balance i m;
        within = λ c k. subst (InBounds (N.col c)) (x c k) (h.feasible.within c k);
      };
      priced = λ c k.
          subst (λ v. PriceRule N.rows (N.col c) v t.price) (x c k)
          (subst (λ w. Bounds.Fits (N.col c).lower (N.col c).upper (s.flow c) ((N.col c).cost +ℚ -ℚ w))
          (sum_congr N.rows (λ i. (N.col c).coef i *ℚ s.price i) (λ i. (N.col c).coef i *ℚ t.price i) (λ i m. p c i k)) (h.priced c k));
    }

-- ---- a value that fits

fit-some : (w : Worked) → is_fit w ≡ true → w ≡ Ok (figure_of w)
fit-some (Ok z) e = refl
fit-some (Err m) e = never cc

-- it is known by the flows of the arcs
values_same : (net : Net) (p q : Pair) (k : ℕ) → ((j : ℕ) → j < k → flow_at p (j + 1) ≡ flow_at q (j + 1)) → upto (value_turn net p) k (Ok net.constant) ≡ upto (value_turn net q) k (Ok net.constant)
unfolding upto
values_same net p q zero h = refl
values_same net p q (suc k) h = rw (values_same net p q k (λ j l. h j (omega (arith, add-one k))), h k (omega (arith, add-one k)))

-- ---- the record of a pair whose figures are in form

module _ {net : Net} (g : Legal net) (pair : Pair) (z : Sized pair) (o : ℕ) (room : 258 ≤ o) where
  abbrev words : List ℤ
  words = pair_words net.n net.m pair o

  abbrev back : Pair
  back = written_pair net words

  figure-proper : (k : ℕ) → k < net.n + net.m → Proper (pair_figure net.n pair k)
  unfolding pair_figure
  figure-proper k l =
      split (leb (k + 1) net.n)
      (λ e. rw e (z.prices.proper (k + 1) (omega (arith, leb-true (k + 1) net.n e, g.few_nodes))))
      (λ e. rw e (z.flows.proper (k - net.n + 1) (omega (arith, leb-false (k + 1) net.n e, g.few_arcs))))

  -- question 8
  in_form : is_pair (cut_pair net words) net.n net.m ≡ true
  unfolding is_pair has_sizes pair_words
  in_form =
      let w = cut_holds net.n net.m (net.n + net.m) o (pair_figure net.n pair) g.few_nodes g.few_arcs (omega (arith, g.few_nodes, g.few_arcs)) in
      rw (with-room 258 net.n net.m (pair_figure net.n pair) (net.n + net.m) o g.few_nodes g.few_arcs room)
      (rw (w.first, w.second, eq-eqb _ _ w.long, eq-eqb net.n net.n refl, eq-eqb net.m net.m refl)
      (each_all _ (net.n + net.m) (λ k l. let p = figure-proper k l in rw (w.figure k l p.operand.den_in) (is-proper _ p))))

  -- the pair that it holds
  price-same : (i : ℕ) → i < net.n → price_at back (i + 1) ≡ price_at pair (i + 1)
  price-same i l = price-written net.n net.m pair o g.few_nodes g.few_arcs room i l (z.prices.proper (i + 1) (omega (arith, g.few_nodes))).operand.den_in

  flow-same : (j : ℕ) → j < net.m → flow_at back (j + 1) ≡ flow_at pair (j + 1)
  flow-same j l = flow-written net.n net.m pair o g.few_nodes g.few_arcs room j l (z.flows.proper (j + 1) (omega (arith, g.few_arcs))).operand.den_in

  module _ (gap : Gapless net) where
    -- solves the network where the pair written does
    solved-written : Solved (program_of net) (exact_pair pair) → Solved (program_of net) (exact_pair back)
    unfolding exact_of
    solved-written h = solved-same (program_of net) (exact_pair pair) (exact_pair back) (λ c k. at-column c k (by_number net.m c)) (λ c i k. split (is_here net i) (at-node c i) (out-of-use c i k)) h
      where
        -- a column that is out has flow 0
        none : (c : ℕ) → Memᴰ c (program_of net).cols → (c ≡ 0) ⊎ (net.m < c) → (exact_pair pair).flow c ≡ 0_ℚ
        none c k l =
            let w = subst (λ (t : Column). InBounds t ((exact_pair pair).flow c)) (column-unused g gap pair c l) (h.feasible.within c k) in
            ≤ℚ-antisym ((exact_pair pair).flow c) 0_ℚ (w.below 0_ℚ refl) (w.above 0_ℚ refl)

        at-column : (c : ℕ) → Memᴰ c (program_of net).cols → ((c ≡ 0) ⊎ (net.m < c)) ⊎ ((c - 1 + 1 ≡ c) × (c - 1 < net.m)) → (exact_pair pair).flow c ≡ (exact_pair back).flow c
        at-column c k (inl l) = none c k l ∙ sym (ap value (no-flow-read words net.n net.m g.few_nodes g.few_arcs c l) ∙ no_value)
        at-column c k (inr l) = sym (ap value (rw l.0 at (flow-same (c - 1) l.1)))

        at-node : (c i : ℕ) → is_here net i ≡ true → ((program_of net).col c).coef i *ℚ (exact_pair pair).price i ≡ ((program_of net).col c).coef i *ℚ (exact_pair back).price i
        at-node c i e =
            let b = here-within g i e in
            let q : i - 1 + 1 ≡ i = omega (arith, b.0) in
            ap (λ f. ((program_of net).col c).coef i *ℚ value f) (sym (rw q at (price-same (i - 1) (omega (arith, b.0, b.1)))))

        -- no column sees a row that is out
        out-of-use : (c i : ℕ) → Memᴰ c (program_of net).cols → is_here net i ≡ false → ((program_of net).col c).coef i *ℚ (exact_pair pair).price i ≡ ((program_of net).col c).coef i *ℚ (exact_pair back).price i
        out-of-use c i k e = rw (row_out (exact_of net) (sane g) c i k (false-not e)) (ring2 ℚ-ring ((exact_pair pair).price i) ((exact_pair back).price i) (λ p q. :0 :* p := :0 :* q) refl)

    -- and the value read back is the cost of the flow read back
    cost-written : is_fit (value_of net pair) ≡ true → (x : Fraction) (v : ℕ) → value (from_words (word (four_words x (figure_of (value_of net pair)) v) 2) (word (four_words x (figure_of (value_of net pair)) v) 3)) ≡ LP.value (program_of net) (exact_pair back).flow
    unfolding value_of
    cost-written fits x v =
        let e = value-exactly g gap back _ (values_same net back pair net.m flow-same ∙ fit-some (value_of net pair) fits) in
        ap value (value_written x (figure_of (value_of net pair)) v e.0.operand.den_in) ∙ e.1

-- ---- where none of 1 to 13 is answered by no

-- the way arrived, and the value there fits
arrived : (net : Net) (way : Way) → is_back net way ≡ true → (way ≡ at (pair_back way)) × (is_fit (value_of net (pair_back way)) ≡ true)
arrived net (Err m) e = never cc
arrived net (Ok pair) e = (refl, e)

module _ (xs zs ys : List ℤ) (o v w k : ℕ) where
  abbrev net : Net
  net = read_of xs

  abbrev run : Run
  run = reduced (read_of xs)

  abbrev way : Way
  way = brought_back run ys

  record Restores : Type 0 where
    room : 258 ≤ o
    asked : AllYes xs w k
    tested : first_no (pair_questions (reduced_net run) ys) ≡ Ok tt
    fits : is_back net way ≡ true

  restores : refusal_of xs zs ys o v w k ≡ Ok tt → Restores
  unfolding restore_table run_table offer_table is_roomy
  restores e =
      let a = none-no Refusal.Room (is_roomy o v w k) e in
      let b = none-behind (questions xs) (run_table net run zs ys) a.1 in
      let c = none-no Refusal.NoFlow (is_reduced run.ends) b in
      let d = none-no Refusal.Stack (is_stack run zs) c.1 in
      let p = none_before (pair_questions (reduced_net run) ys) (back_table net way) d.1 in
      let f = none-behind (pair_questions (reduced_net run) ys) (back_table net way) d.1 in
      let x = and_both (leb 258 o) _ a.0 in
      let y = and_both (leb 4 v) _ x.1 in
      let z = and_both (leb 10240 w) _ y.1 in
      record {
        room = leb-true 258 o x.0;
        asked = record { room = leb-true 10240 w z.0; wide = leb-true 96 k z.1; asked = none_before (questions xs) (run_table net run zs ys) a.1 };
        tested = p;
        fits = (none-no Refusal.WayBack (is_back net way) f).0;
      }

  module _ (y : Restores) where
    left-legal : Legal run.net
    left-legal = (Whole.whole net (legal-read y.asked)).legal

    proven : Proven (reduced_net run) ys
    proven = (exactly-proven (packed-legal left-legal) (packed-gapless left-legal) ys).0 y.tested

    -- the pair at the end of the way is in form and solves the network given, at the value that it has in what is left
    brought : Sized (pair_back way) × Solved (program_of net) (exact_pair (pair_back way)) × (LP.value (program_of net) (exact_pair (pair_back way)).flow ≡ LP.value (program_of run.net) (exact_pair (spread_of run.net (pair_in (reduced_net run) ys))).flow)
    unfolding brought_back
    brought =
        Whole.restored net (legal-read y.asked) (spread_of run.net (pair_in (reduced_net run) ys)) (read-sized run.net left-legal ys proven.in_form) (read-solved run.net left-legal ys proven.in_form proven.solved) (arrived net way y.fits).0

    -- the reduced value and the original's are one fraction: both are exact and in form
    same_value : reduced_value run ys ≡ original_value net way
    same_value =
        let g = legal-read y.asked in
        let left = proven-value (packed-legal left-legal) (packed-gapless left-legal) ys proven in
        let given = fit_is _ (value-exactly g (read-gapless xs y.asked.asked) (pair_back way)) (arrived net way y.fits).1 in
        value-unique _ _ left.0 given.0 (left.1 ∙ sym (read-value run.net left-legal ys proven.in_form) ∙ sym brought.2 ∙ sym given.1)

    optimum : Optimum net run ys (pair_words net.n net.m (pair_back way) o) (four_words (reduced_value run ys) (original_value net way) v)
    optimum =
        let g = legal-read y.asked in
        let gap = read-gapless xs y.asked.asked in
        let solved = solved-written g (pair_back way) brought.0 o y.room gap brought.1 in
        record {
          tested = y.tested;
          proven = proven;
          in_form = in_form g (pair_back way) brought.0 o y.room;
          solved = solved;
          optimal = weak-duality (program_of net) _ solved;
          cost = cost-written g (pair_back way) brought.0 o y.room gap (arrived net way y.fits).1 (reduced_value run ys) v;
          same_values = (ap (λ (f : Fraction). f.num) same_value, ap (λ (f : Fraction). den_word f.den) same_value);
        }

  -- the words of a call that answers so
  pub restored-optimum : {r : Result ⊤ Refusal} {out values : List ℤ} → Written (refusal_of xs zs ys o v w k) net run ys r out values o v → r ≡ Ok tt → Optimum net run ys out values
  restored-optimum a p =
      let z = sym a.result ∙ p in
      rw (rw z at a.out_is, rw z at a.values_is) (optimum (restores z))
