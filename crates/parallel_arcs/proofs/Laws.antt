-- Rule 7 keeps the laws of a rule, where rule 1 passes.
use mathlib.Core.Path.{◌≡◌, refl, sym, ap, ap₂, ◌∙◌}
use mathlib.Core.Bool.{true, false, cond}
use mathlib.Core.Logic.{inl, inr}
use Prim.Native.Nat.{ℕ, ◌+◌, ◌-◌, ◌≤◌, ◌<◌}
use native.Mathlib.Omega.{arith}
use lib.Dec.{lit≤}
use borrow.Author.Tests.{eqb-true, eqb-false, not-true}
use Rattle.algebra.specs.Rat.{ℚ, ◌+ℚ◌, ◌*ℚ◌, -ℚ◌, 0_ℚ, inv_ℚ as inv}
use Rattle.presolve.specs.LP as LP
use Rattle.presolve.specs.Net.{rhs_at}
use Rattle.presolve.proofs.Net.{gone-out}
use Rattle.presolve.proofs.Step.{SoundStep}
use Rattle.presolve.proofs.Bounds.{capped}
use Rattle.presolve.proofs.Parallel.{add_o, own-share, parallel-back, parallel-sound, touch-times}
use Rattle.fraction.specs.declared.Fraction.{Fraction}
use Rattle.std.specs.Prelude.{Ok, Err}
use Rattle.fraction.specs.Exact.{Proper, no_figure, no_upper, is_finite, is_less}
use Rattle.fraction.specs.Formula.{◌⊕◌, ◌⊖◌, ◌⊘◌}
use Rattle.fraction.specs.Value.{value}
use Rattle.fraction.proofs.Formulas.{given, minus-gives, minus-fits, Nonzero, unvanishing, over-unvanishing}
use Rattle.fraction.proofs.Exactly.{same}
use Rattle.network.specs.declared.Arc.{Arc}
use Rattle.network.specs.declared.Net.{Net}
use Rattle.network.specs.declared.Edit.{Edit}
use Rattle.network.specs.declared.pair.Pair.{Pair}
use Rattle.network.specs.Limits.{max_arcs}
use Rattle.network.specs.Network.{no_arc, arc_at, is_used, is_root, applied}
use Rattle.network.specs.Legal.{Bound, LegalArc, Legal}
use Rattle.network.specs.Pair.{flow_at, with_flow, with_price, exact_pair}
use Rattle.network.specs.Program.{bound_of, exact_arc, exact_of, program_of}
use Rattle.network.proofs.Bounds.{bound-is, finite-proper}
use Rattle.network.proofs.Kept.{used-number, used-within}
use Rattle.loops.proofs.Laws.{scan-each}
use Rattle.step.specs.declared.Old.{Old}
use Rattle.step.specs.declared.Change.{Change}
use Rattle.step.specs.Outcome.{Outcome}
use Rattle.step.specs.declared.Halt.TheVariants.{Passes, NoFlow}
use Rattle.step.specs.declared.Restored.{Restored}
use Rattle.step.specs.Outcome.{only_where}
use Rattle.step.specs.Back.{figure, old_two, two_flows, restored}
use Rattle.step.specs.Figure.{smaller}
use Rattle.step.specs.Applies.{Passing}
use Rattle.step.proofs.Frame.{Framed, no-arc-puts, no-level, no_names, arc-stands, here-same, supply-same}
use Rattle.step.proofs.Exactly.{arc-off, listed-arc, column-is, column-kept}
use Rattle.step.proofs.Lines.{Answers, only-met, fits-met, not-shown, figure-met, made-is}
use Rattle.step.proofs.Figures.{Sized, Holds, Figure, itself, flow-put, over-exactly, smaller-is}
use Rattle.step.proofs.Laws.{no_old, Right, right_of, RuleLaws}
use Rattle.step.proofs.Touch.{unlike}
use Rattle.closed_arc.specs.ClosedArc as Closed
use Rattle.closed_arc.proofs.Laws.{uncrossed}
use Rattle.parallel_arcs.specs.ParallelArcs.{ratio_of, is_times, low_bound, high_bound, low_end, high_end, upper_sum, joining, joined, alike, or_next, parallel_arc, parallel_back, parallel_back_by, rule}
use Rattle.parallel_arcs.proofs.Figures.{times-is, ratio-is, low_is, image-is, sum_is, upper-sum-is, room}

-- ---- what an answer says

-- arc k, tk, is g times arc j, tj; j's new bounds fit, and this is the change
pub record Met (constant : Fraction) (j : ℕ) (tj : Arc) (k : ℕ) (tk : Arc) (x : Outcome) : Type 0 where
  pub from_same : tk.from ≡ tj.from
  pub to_same : tk.to ≡ tj.to
  pub g : Fraction
  pub ratio : ratio_of tj tk ≡ Ok g
  pub b_times : is_times g tk.b tj.b ≡ true
  pub cost_times : is_times g tk.cost tj.cost ≡ true
  finite : is_finite tj.lower ≡ true
  low_finite : is_finite (low_bound tk g) ≡ true
  low : Fraction
  high : Fraction
  lower : Fraction
  upper : Fraction
  low_fits : low_end g (low_bound tk g) ≡ Ok low
  high_fits : high_end g (high_bound tk g) ≡ Ok high
  lower_fits : (Ok tj.lower ⊕ Ok low) ≡ Ok lower
  upper_fits : upper_sum tj.upper high ≡ Ok upper
  is : Ok (record { edit = joining constant j tj lower upper k; old = old_two 0 no_figure (record { number = j; arc = tj }) (record { number = k; arc = tk }) }) ≡ x

pub alike-met : (constant : Fraction) (j : ℕ) (tj : Arc) (k : ℕ) (tk : Arc) {x : Outcome} → Answers x → alike constant j tj k tk ≡ x → Met constant j tj k tk x
unfolding alike joined
alike-met constant j tj k tk a e =
    let f = only-met a _ _ e in
    let t = only-met a _ _ f.1 in
    let g = fits-met a _ _ t.1 in
    let b = only-met a _ _ g.2 in
    let c = only-met a _ _ b.1 in
    let d = only-met a _ _ c.1 in
    let i = only-met a _ _ d.1 in
    let x = fits-met a _ _ i.1 in
    let y = fits-met a _ _ x.2 in
    let l = fits-met a _ _ y.2 in
    let u = fits-met a _ _ l.2 in
    record { from_same = eqb-true _ _ f.0; to_same = eqb-true _ _ t.0; g = g.0; ratio = g.1; b_times = b.0; cost_times = c.0; finite = d.0; low_finite = i.0; low = x.0; high = y.0; lower = l.0; upper = u.0; low_fits = x.1; high_fits = y.1; lower_fits = l.1; upper_fits = u.1; is = u.2 }

-- the first k > j at which it answers
record Found (net : Net) (j : ℕ) (x : Outcome) : Type 0 where
  used : 1 ≤ (arc_at net j).from
  k : ℕ
  after : j < k
  met : Met net.constant j (arc_at net j) k (arc_at net k) x

parallel-met : (net : Net) (j : ℕ) {x : Outcome} → Answers x → parallel_arc net j ≡ x → Found net j x
unfolding parallel_arc
parallel-met net j {x} a e =
    let u = only-met a _ _ e in
    let n = eqb-false (arc_at net j).from 0 (not-true _ u.0) in
    scan-each or_next (Err Passes) (λ o. o ≡ x → Found net j x) (λ e. absurd (rw (← e) at a)) pick _ (max_arcs - j) (j + 1) (λ k l m e. record { used = omega arith; k = k; after = omega arith; met = alike-met _ _ _ _ _ a e }) u.1
  where
    pick : (o : Outcome) (next : ℕ → Outcome) (k : ℕ) → (o ≡ x → Found net j x) → (next k ≡ x → Found net j x) → or_next o next k ≡ x → Found net j x
    pick (Err Passes) next k f s e = s e
    pick (Err NoFlow) next k f s e = f e
    pick (Ok d) next k f s e = f e

-- ---- the change

module _ (net : Net) (g : Legal net) (j : ℕ) {c : Change} (h : Found net j (Ok c)) where
  abbrev k : ℕ
  k = h.k

  abbrev tj : Arc
  tj = arc_at net j

  abbrev tk : Arc
  tk = arc_at net h.k

  abbrev m : Met net.constant j (arc_at net j) h.k (arc_at net h.k) (Ok c)
  m = h.met

  abbrev γ : ℚ
  γ = value h.met.g

  abbrev old : Old
  old = old_two 0 no_figure (record { number = j; arc = arc_at net j }) (record { number = h.k; arc = arc_at net h.k })

  abbrev edit : Edit
  edit = joining net.constant j (arc_at net j) h.met.lower h.met.upper h.k

  used-k : 1 ≤ tk.from
  used-k = rw m.from_same h.used

  legal-j : LegalArc net tj
  legal-j = g.used j h.used

  legal-k : LegalArc net tk
  legal-k = g.used k used-k

  number-j : (1 ≤ j) × (j ≤ 96)
  number-j = used-number g j h.used

  number-k : (1 ≤ k) × (k ≤ 96)
  number-k = used-number g k used-k

  ne : ¬ (j ≡ k)
  ne e = omega (arith, h.after)

  ratio : Nonzero m.g
  unfolding ratio_of
  ratio = over-unvanishing (unvanishing (near legal-k)) (unvanishing (near legal-j)) m.g m.ratio
    where
      near : {t : Arc} → LegalArc net t → Nonzero t.a
      near l = record { proper = l.a_proper; nonzero = l.a_nonzero }

  -- the image's lower end, and j's new bounds
  low-proper : Proper m.low
  low-proper = (low_is m.g (low_bound tk m.g) m.low_finite m.low_fits).0

  lower-now : Proper m.lower × (bound_of m.lower ≡ add_o (bound_of tj.lower) (bound_of m.low))
  lower-now = sum_is tj.lower m.low (bound-is (finite-proper legal-j.lower_bound m.finite)) (bound-is low-proper) m.lower_fits

  upper-now : Bound no_upper m.upper × (bound_of m.upper ≡ add_o (bound_of tj.upper) (bound_of m.high))
  upper-now = upper-sum-is tj.upper m.high m.upper_fits

  framed : Framed net edit
  unfolding is_root
  framed =
      let new : LegalArc net edit.one.arc = record { from_here = legal-j.from_here; to_here = legal-j.to_here; cost_proper = legal-j.cost_proper; lower_bound = inl lower-now.0; upper_bound = upper-now.0; a_proper = legal-j.a_proper; b_proper = legal-j.b_proper; a_nonzero = legal-j.a_nonzero; b_zero = legal-j.b_zero } in
      record {
        arcs = ((record { may = inr ((used-within g j h.used).1, new); clear = λ l. absurd (omega arith) }, inr (λ l. h.used)), (no-arc-puts net 0 k, (no-arc-puts net 0 0, (no-arc-puts net 0 0, tt))));
        left = no-level;
        right = no-level;
        constant = g.constant_proper;
        only = λ x l t. absurd (omega arith);
      }

  -- ---- in exact numbers

  stands-j : arc_at (applied net edit) j ≡ edit.one.arc
  stands-j = arc-stands net edit g 0 number-j ((λ _. ne), (no_names j).1.1)

  stands-k : arc_at (applied net edit) k ≡ no_arc
  stands-k = arc-stands net edit g 1 number-k (no_names k).1.1

  back : LP.Pair → LP.Pair
  back = parallel-back (program_of net) j k γ (value m.low)

  -- where the bounds of neither arc cross
  sound : is_less tj.upper tj.lower ≡ false → is_less tk.upper tk.lower ≡ false → SoundStep (program_of net) (program_of (applied net edit)) back
  unfolding back exact_of rhs_at applied
  sound open-j open-k =
      parallel-sound {hi = bound_of m.high}
      (record {
        listed_j = listed-arc net g j h.used;
        listed_k = listed-arc net g k used-k;
        different = ne;
        coef_g = rw (column-is net j h.used, column-is net k used-k) (touch-times (exact_arc tj) (exact_arc tk) γ m.from_same m.to_same (ratio-is tj tk m.ratio).is (times-is _ _ _ m.b_times).is);
        cost_g = rw (column-is net j h.used, column-is net k used-k) (times-is _ _ _ m.cost_times).is;
        image = rw (column-is net k used-k) (image-is m.g tk ratio m.low_finite m.low_fits m.high_fits);
        low-end = bound-is low-proper;
        room_j = rw (column-is net j h.used) (room legal-j.lower_bound legal-j.upper_bound open-j);
        room_k = rw (column-is net k used-k) (room legal-k.lower_bound legal-k.upper_bound open-k);
        rows_same = refl;
        cols_same = refl;
        same = λ x l a b. column-kept net edit x ((λ _. a), ((λ _. b), (no_names x).1.1));
        new_j = column-is (applied net edit) j (rw stands-j h.used) ∙ rw (stands-j, column-is net j h.used, lower-now.1, upper-now.1);
        gone_k = gone-out (exact_of (applied net edit)) k (arc-off (applied net edit) k stands-k);
        rhs_is = λ s l. ap₂ (λ b v. cond b v 0_ℚ) (here-same net edit s (λ l. absurd (omega arith))) (ap value (supply-same net edit s (λ l. absurd (omega arith)) (λ l. absurd (omega arith))));
        constant_is = refl;
      })

  -- ---- the way back

  module _ (pair : Pair) (z : Sized pair) where
    abbrev x : Fraction
    x = flow_at pair j

    -- j's share
    own-share-is : (rest : Fraction) → (Ok x ⊖ Ok m.low) ≡ Ok rest → Figure (smaller tj.upper rest) (own-share (program_of net) j (value m.low) (exact_pair pair).flow)
    own-share-is rest e =
        let s = smaller-is legal-j.upper_bound (minus-fits {x = Ok x} {y = Ok m.low} e).is.proper in
        (s.0, s.1 ∙ ap₂ capped (ap (λ k. k.upper) (sym (column-is net j h.used))) (minus-gives (given x) (given m.low) rest e))

    -- g and the image's lower end fit, as they did in the step
    ends-fit : parallel_back old pair ≡ figure (Ok x ⊖ Ok m.low) (λ rest. figure ((Ok x ⊖ Ok (smaller tj.upper rest)) ⊘ Ok m.g) (λ y. Ok (two_flows k y j (smaller tj.upper rest))))
    unfolding parallel_back parallel_back_by figure
    ends-fit = rw (m.ratio, m.low_fits)

    agrees : (q : Restored) → parallel_back old pair ≡ Ok q → Holds (restored pair q) (back (exact_pair pair))
    unfolding back restored with_flow with_price
    agrees q e =
        let r = figure-met _ _ (sym ends-fit ∙ e) in
        let y = figure-met _ _ r.2 in
        let own = own-share-is r.0 r.1 in
        rw (made-is y.2) (flow-put (flow-put (itself z) k y.0 number-k (same (ap (λ q. (value x +ℚ -ℚ q) *ℚ inv γ) own.1) (over-exactly (minus-gives (given x) (given _)) (given m.g)) y.0 y.1)) j _ number-j own)

  right : is_less tj.upper tj.lower ≡ false → is_less tk.upper tk.lower ≡ false → Right net c (parallel_back c.old)
  right open-j open-k =
      right_of g parallel_back m.is framed (inr (record { number = k; used = used-k; dropped = stands-k }))
      (record { arcs = ((number-j.1, refl), ((number-k.1, refl), (no_old g).1.1)); named = λ x u. u; node = omega arith; supply = lit≤ tt; new = omega arith }) back (sound open-j open-k) agrees

unused : (net : Net) (j : ℕ) → is_used net j ≡ false → parallel_arc net j ≡ Err Passes
unfolding parallel_arc only_where
unused net j e = rw e

-- RULE 7
pub laws : {P : Net → Type 0} → ((net : Net) → P net → Passing Closed.rule net) → RuleLaws P rule
laws first = record {
  few_places = omega arith;
  unused = λ net g. unused net;
  at_nodes = λ e. unlike e;
  no_flow = λ net g p j e. not-shown (parallel-met net j tt e).met.is;
  right = λ net g p j e. let h = parallel-met net j tt e in right net g j h (uncrossed g (first net p) j h.used) (uncrossed g (first net p) h.k (used-k net g j h));
}
