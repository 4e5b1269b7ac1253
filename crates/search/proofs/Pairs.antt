-- Rule 7 at an arc: the parallel arcs after it, upward. At the arcs between them the rule passes.
use Rattle.std.specs.Prelude.{Ok, Err}
use mathlib.Core.Path.{◌≡◌, refl, sym, ap, ◌∙◌}
use mathlib.Core.Bool.{Bool, true, false, cond}
use mathlib.Core.List.{List}
use mathlib.Core.Logic.{⊎_elim}
use Prim.Native.Nat.{ℕ, zero, suc, ◌+◌, ◌-◌, ◌≤◌, ◌<◌}
use native.Mathlib.Nat.{eq-or-lt_of_le}
use native.Mathlib.Numerals.{add-one}
use native.Mathlib.Omega.{arith}
use lib.Dec.{eqb, ltb}
use lib.ListN.{get_or}
use borrow.Author.Tests.{eqb-true, eqb-false, eq-eqb, ne_eqb, not-true, ltb-true, ltb-false}
use Rattle.fraction.proofs.Laws.{and_both}
use Rattle.loops.proofs.Laws.{Scanned, scanned-none, scanned-more, scanned-all}
use Rattle.network.specs.declared.Net.{Net}
use Rattle.network.specs.Network.{arc_at, is_used, is_parallel, parallel_after, AreParallel}
use Rattle.network.specs.Legal.{Legal}
use Rattle.network.proofs.First.{First, scan-first}
use Rattle.network.proofs.Kept.{used-number}
use Rattle.step.specs.declared.Next.{Next}
use Rattle.step.specs.Outcome.{Outcome}
use Rattle.step.specs.declared.Halt.TheVariants.{Passes, NoFlow}
use Rattle.step.specs.declared.Next.TheVariants.{Stops}
use Rattle.step.specs.Outcome.{only_where}
use Rattle.step.specs.Run.{or_else, is_found}
use Rattle.step.proofs.Lines.{split}
use Rattle.step.proofs.Touch.{unlike}
use Rattle.parallel_arcs.specs.ParallelArcs.{alike, or_next, parallel_arc}
use Rattle.parallel_arcs.specs.internal.Multiple.{is_passing, is_multiple}
use Rattle.parallel_arcs.proofs.Cross.{not-multiple, ends-differ}
use Rattle.parallel_arcs.proofs.Search.{found}

-- ---- an answer at two arcs, as the code has it

not_found : (j : ℕ) {x : Next} (o : Outcome) → x ≡ or_else 7 j o Stops → is_found x ≡ false → o ≡ Err Passes
not_found j (Err Passes) e f = refl
not_found j (Err NoFlow) e f = unlike (sym (rw e at f))
not_found j (Ok c) e f = unlike (sym (rw e at f))

found-yes : (j : ℕ) {x : Next} (o : Outcome) → x ≡ or_else 7 j o Stops → is_found x ≡ true → is_passing o ≡ false
found-yes j (Err Passes) e f = unlike (rw e at f)
found-yes j (Err NoFlow) e f = refl
found-yes j (Ok c) e f = refl

-- ---- the parallel arcs of arc j, which is in use

-- the numbers from k on; none where k is 0
abbrev pub left : ℕ → ℕ
left k = cond (eqb k 0) 0 (97 - k)

module _ (net : Net) (j : ℕ) where
  abbrev with : ℕ → Outcome
  with i = alike net.constant j (arc_at net j) i (arc_at net i)

  abbrev parallel : ℕ → Bool
  parallel i = is_parallel (arc_at net j) (arc_at net i)

  -- k is one of them, or 0; at the numbers before it, or at all where it is 0, the rule passes
  pub record Chain (k : ℕ) : Type 0 where
    pub within : k ≤ 96
    pub above : 1 ≤ k → j < k
    pub joins : 1 ≤ k → parallel k ≡ true
    pub pass : (i : ℕ) → j < i → i ≤ 96 → (1 ≤ k → i < k) → with i ≡ Err Passes

  -- an arc that is not parallel
  apart : (i : ℕ) → parallel i ≡ false → with i ≡ Err Passes
  unfolding is_parallel
  apart i e = ends-differ net.constant j (arc_at net j) i (arc_at net i) e

  -- k is the next one after number m
  next-after : {m k : ℕ} → j ≤ m → First parallel m k → ((i : ℕ) → j < i → i ≤ m → with i ≡ Err Passes) → Chain k
  next-after {m} {k} l f before =
      record {
        within = f.within;
        above = λ a. omega (arith, f.above a);
        joins = f.passes;
        pass = λ i a b c. split (ltb m i)
            (λ e. split (parallel i) (λ p. let y = f.least i (ltb-true m i e) b p in absurd (omega (arith, y, c y.0))) (apart i))
            (λ e. before i a (ltb-false m i e));
      }

  module _ (used : is_used net j ≡ true) (next : List ℕ) (are : AreParallel net next) where
    pub chain_first : Chain (get_or next j 0)
    unfolding parallel_after
    chain_first = rw (are j, used) (next-after {m = j} (omega arith) (scan-first parallel j) (λ i a b. absurd (omega arith)))

    -- the next one after k
    pub chain-after : {k : ℕ} → Chain k → 1 ≤ k → First parallel k (get_or next k 0)
    unfolding is_parallel parallel_after
    chain-after {k} h l =
        let b = and_both (eqb (arc_at net k).from (arc_at net j).from) (eqb (arc_at net k).to (arc_at net j).to) (h.joins l) in
        let from : (arc_at net k).from ≡ (arc_at net j).from = eqb-true _ _ b.0 in
        let to : (arc_at net k).to ≡ (arc_at net j).to = eqb-true _ _ b.1 in
        let f = scan-first (λ i. is_parallel (arc_at net k) (arc_at net i)) k in
        rw (are k, from, to, used) (rw (from, to) at f)

    chain_more : {k : ℕ} → Chain k → 1 ≤ k → with k ≡ Err Passes → Chain (get_or next k 0)
    chain_more {k} h l e = next-after {m = k} (omega (arith, h.above l)) (chain-after h l) (λ i a b. ⊎_elim (λ z. rw z e) (λ m. h.pass i a (omega (arith, h.within)) (λ _. m)) (eq-or-lt_of_le b))

    -- the rule passes at k, by its answer or by the cheap test
    pub chain-past : {k : ℕ} → Chain k → 1 ≤ k → {x : Next} → x ≡ or_else 7 j (with k) Stops → is_found x ≡ false → Chain (get_or next k 0)
    chain-past {k} h l e f = chain_more h l (not_found j (with k) e f)

    pub chain-skip : {k : ℕ} → Chain k → 1 ≤ k → is_multiple (arc_at net j) (arc_at net k) ≡ false → Chain (get_or next k 0)
    chain-skip h l e = chain_more h l (not-multiple _ _ _ _ _ e)

    -- what is left of the numbers falls
    pub chain-falls : {k : ℕ} → Chain k → 1 ≤ k → left (get_or next k 0) < left k
    chain-falls {k} h l = by (get_or next k 0) (chain-after h l).above
      where
        by : (n : ℕ) → (1 ≤ n → k < n) → left n < left k
        by n a = split (eqb n 0) (λ e. rw (e, ne_eqb k 0 (λ z. omega arith)) (omega (arith, h.within))) (λ e. let b = eqb-false n 0 e in rw (e, ne_eqb k 0 (λ z. omega arith)) (omega (arith, h.within, a (omega arith))))

    -- the d numbers after j are looked at
    reach : (d : ℕ) → d ≤ 96 - j → ((x : ℕ) → j < x → x < j + 1 + d → with x ≡ Err Passes) → Scanned or_next (Err Passes) with (96 - j) (j + 1) (j + 1 + d)
    reach zero l h = let z : j + 1 + 0 ≡ j + 1 = omega arith in rw z (scanned-none or_next (Err Passes) with (96 - j) (j + 1))
    reach (suc d) l h =
        let z : j + 1 + suc d ≡ j + 1 + d + 1 = omega (arith, add-one d) in
        rw z (scanned-more or_next (Err Passes) (reach d (omega (arith, add-one d)) (λ x a b. h x a (omega (arith, add-one d)))) (omega (arith, add-one d)) (sym (h (j + 1 + d) (omega arith) (omega (arith, add-one d)))) (λ g i. refl))

    -- the answer at k is that of the rule
    pub chain-found : {k : ℕ} → Chain k → 1 ≤ k → {x : Next} → x ≡ or_else 7 j (with k) Stops → is_found x ≡ true → x ≡ or_else 7 j (parallel_arc net j) Stops
    unfolding parallel_arc only_where
    chain-found {k} h l e f =
        let a = h.above l in
        let w = h.within in
        let z : j + 1 + (k - (j + 1)) ≡ k = omega arith in
        let s = rw z at (reach (k - (j + 1)) (omega arith) (λ x m n. h.pass x m (omega arith) (λ _. omega arith))) in
        let q : with k ≡ parallel_arc net j = rw used (found s (omega arith) (omega arith) refl (found-yes j (with k) e f)) in
        e ∙ ap (λ o. or_else 7 j o Stops) q

    -- there are no more
    pub chain-none : {k : ℕ} → Chain k → k < 1 → parallel_arc net j ≡ Err Passes
    unfolding parallel_arc only_where
    chain-none h l = rw used (sym (scanned-all or_next (Err Passes) (reach (96 - j) (omega arith) (λ x m n. h.pass x m (omega arith) (λ y. absurd (omega arith)))) (omega arith)))

  -- an arc that is not in use, or has no parallel arc after it
  pub no_pairs : Legal net → (next : List ℕ) → AreParallel net next → get_or next j 0 ≡ 0 → parallel_arc net j ≡ Err Passes
  unfolding parallel_arc only_where
  no_pairs g next are e = split (is_used net j) (λ u. chain-none u next are (chain_first u next are) (omega (arith, e))) off
    where
      off : is_used net j ≡ false → parallel_arc net j ≡ Err Passes
      off u = rw u

  pub pairs-used : Legal net → (next : List ℕ) → AreParallel net next → (get_or next j 0 ≡ 0 → ⊥) → is_used net j ≡ true
  pairs-used g next are n = split (is_used net j) (λ u. u) (λ u. absurd (n (rw u at (are j))))

  pub used-in : Legal net → is_used net j ≡ true → j < 97
  used-in g u = let n = eqb-false (arc_at net j).from 0 (not-true _ u) in omega (arith, (used-number g j (omega arith)).1)

  -- no arc above m
  pub pairs-beyond : Legal net → net.m < j → parallel_arc net j ≡ Err Passes
  unfolding parallel_arc only_where
  pairs-beyond g l = rw (eq-eqb _ _ (g.arcs_beyond j l))
