-- Rule 5 keeps the laws of a rule.
use mathlib.Core.Path.{◌≡◌, refl, sym, ap, ap₂, ◌∙◌, subst}
use mathlib.Core.Bool.{Bool, true, false, cond}
use mathlib.Core.List.{[], ◌∷◌}
use mathlib.Core.Logic.{◌⊎◌, inl, inr, ⊎_elim}
use Prim.Native.Nat.{ℕ}
use native.Mathlib.Omega.{arith}
use lib.Dec.{T, eqb}
use borrow.Author.Tests.{eqb-true, eqb-false, eq-eqb, ne_eqb, not-true}
use Rattle.algebra.proofs.Solver.{◌:*◌, :neg, :0, ◌:=◌, ring2}
use Rattle.algebra.specs.Rat.{ℚ, ◌+ℚ◌, ◌*ℚ◌, -ℚ◌, 0_ℚ as 𝟘, inv_ℚ as inv}
use Rattle.algebra.proofs.Rat.{ℚ-ring}
use Rattle.algebra.proofs.Sum.{Absent}
use Rattle.algebra.specs.Sum.{only}
use Rattle.presolve.proofs.Named.{apart, further}
use Rattle.presolve.specs.LP as LP
use Rattle.presolve.proofs.Step.{SoundStep}
use Rattle.presolve.proofs.Bounds.{map_o, merge_l, merge_u, fits-dec}
use Rattle.presolve.specs.Bounds as Bounds
use Rattle.presolve.proofs.Price.{only_zero}
use Rattle.presolve.proofs.Spoke.{quote}
use Rattle.presolve.specs.Net.{column}
use Rattle.presolve.proofs.TwoArcs.{image, two-price, two_back_lem, two-sound}
use Rattle.presolve.proofs.Rewire.{two-of}
use Rattle.fraction.specs.declared.Fraction.{Fraction}
use Rattle.std.specs.Prelude.{Ok, Err}
use Rattle.fraction.specs.Exact.{Proper, zero_fraction, no_figure, no_lower, no_upper, is_zero}
use Rattle.fraction.specs.Formula.{◌⊖◌, ◌⊗◌, ◌⊘◌, ⊝◌}
use Rattle.fraction.proofs.Laws.{never}
use Rattle.fraction.specs.Value.{value}
use Rattle.fraction.proofs.Value.{is_same_lem}
use Rattle.fraction.proofs.Formulas.{given, plus-gives, plus-fits, minus-gives, times-gives, over-gives, negated-gives, minus-fits, zero-proper, zero_is, unvanishing, times-unvanishing, over-unvanishing, negated-unvanishing}
use Rattle.network.specs.declared.Arc.{Arc}
use Rattle.network.specs.declared.Net.{Net}
use Rattle.network.specs.declared.Side.{Side}
use Rattle.network.specs.declared.Edit.{Edit}
use Rattle.network.specs.declared.pair.Pair.{Pair}
use Rattle.network.specs.Network.{no_arc, arc_at, supply_at, is_here, is_touching, is_root, degree_of, side_of, with_arc, with_supply, without, updates_of, applied}
use Rattle.network.specs.Legal.{Bound, LegalArc, Legal}
use Rattle.network.specs.Pair.{price_at, flow_at, with_price, with_flow, exact_pair}
use Rattle.network.specs.Program.{bound_of, exact_arc, exact_of, program_of}
use Rattle.network.proofs.Kept.{here-number, used-within}
use Rattle.slackness.specs.Slackness.{keeps_rule}
use Rattle.fraction.proofs.Exactly.{Exactly, same, minus-exactly}
use Rattle.slackness.proofs.Laws.{rule-is, is-rule}
use Rattle.step.specs.declared.Change.{Change}
use Rattle.step.specs.Outcome.{Outcome}
use Rattle.step.specs.declared.Halt.TheVariants.{Passes}
use Rattle.step.specs.declared.Restored.{Restored}
use Rattle.step.specs.Outcome.{only_where}
use Rattle.step.specs.Back.{old_arc, old_two, quote_of, restored}
use Rattle.step.specs.Around.{first_at, second_at}
use Rattle.step.specs.Figure.{larger, smaller}
use Rattle.step.proofs.Frame.{Framed, Unnamed, no-arc-puts, no-level, no_names, arc-stands}
use Rattle.step.proofs.Each.{Any}
use Rattle.step.proofs.Touch.{touching-first}
use Rattle.step.proofs.Exactly.{Far, End, no-far, is_true, zero-figure, arc-in, arc-off, rhs_is, spoke_of, alone, rewired}
use Rattle.step.proofs.Lines.{split, Answers, only-met, fits-met, not-shown, figure-met, made-is}
use Rattle.step.proofs.Removing.{less-proper, level-is}
use Rattle.step.proofs.Node.{AtNode, ArcsAt, arcs-here}
use Rattle.step.proofs.Figures.{Sized, Holds, Figure, itself, flow-put, price-put, over-exactly, choose_yes, choose_no}
use Rattle.step.proofs.Laws.{supply-small, no_old, Right, right_of, RuleLaws}
use Rattle.step.specs.Dropped.{gained}
use Rattle.two_arcs.specs.TwoArcs.{same_sign, tighter, image_of, new_arc, merging, merged, kept, two, two_arcs, two_back, rule}
use Rattle.two_arcs.proofs.Figures.{lower_is, upper_is, new-bounds}
use Rattle.two_arcs.proofs.Tried.{passes, tried}

-- ---- what an answer says

-- all figures of j as it is kept, of the supply at k's other end, and the constant fit; this is the change
record Merged (constant : Fraction) (i j : ℕ) (tj : Arc) (wj : Side) (k : ℕ) (tk : Arc) (wk : Side) (r r' : Fraction) (x : Outcome) : Type 0 where
  cost : Fraction
  lower : Fraction
  upper : Fraction
  b : Fraction
  supply : Fraction
  total : Fraction
  cost-fits : (Ok tj.cost ⊖ Ok tk.cost ⊗ Ok wj.e ⊘ Ok wk.e) ≡ Ok cost
  lower_fits : tighter larger tj.lower (cond (same_sign wj.e wk.e) tk.upper tk.lower) (image_of r wj wk (cond (same_sign wj.e wk.e) tk.upper tk.lower)) ≡ Ok lower
  upper_fits : tighter smaller tj.upper (cond (same_sign wj.e wk.e) tk.lower tk.upper) (image_of r wj wk (cond (same_sign wj.e wk.e) tk.lower tk.upper)) ≡ Ok upper
  b_fits : cond (eqb wk.other 0) (Ok zero_fraction) (⊝ (Ok wk.o ⊗ Ok wj.e ⊘ Ok wk.e)) ≡ Ok b
  supply_fits : cond (eqb wk.other 0) (Ok no_figure) (Ok r' ⊖ Ok wk.o ⊗ Ok r ⊘ Ok wk.e) ≡ Ok supply
  total_fits : gained constant tk wk r ≡ Ok total
  is : Ok (record { edit = merging j (new_arc wj wk cost lower upper b) k wk.other supply i total; old = old_two i r (record { number = j; arc = tj }) (record { number = k; arc = tk }) }) ≡ x

merged-met : (constant : Fraction) (i j : ℕ) (tj : Arc) (wj : Side) (k : ℕ) (tk : Arc) (wk : Side) (r r' : Fraction) {x : Outcome} → Answers x → merged constant i j tj wj k tk wk r r' ≡ x → Merged constant i j tj wj k tk wk r r' x
unfolding merged
merged-met constant i j tj wj k tk wk r r' {x} a e =
    let c = fits-met a _ _ e in
    let l = fits-met a _ _ c.2 in
    let u = fits-met a _ _ l.2 in
    let b = fits-met a _ _ u.2 in
    let s = fits-met a _ _ b.2 in
    let z = fits-met a _ _ s.2 in
    record { cost = c.0; lower = l.0; upper = u.0; b = b.0; supply = s.0; total = z.0; cost-fits = c.1; lower_fits = l.1; upper_fits = u.1; b_fits = b.1; supply_fits = s.1; total_fits = z.1; is = z.2 }

-- the two arcs at the node: j is no root arc, and their other ends differ
record Arcs (net : Net) (i j k : ℕ) : Type 0 where
  at_j : AtNode net i j
  at_k : AtNode net i k
  ne : ¬ (j ≡ k)
  all : (x : ℕ) → is_touching (arc_at net x) i ≡ true → Any (λ y. x ≡ y) (j ∷ k ∷ [])
  far_j : Far net i (side_of (arc_at net j) i)
  differ : ¬ ((side_of (arc_at net j) i).other ≡ (side_of (arc_at net k) i).other)

two_at : (net : Net) (i a b : ℕ) → ArcsAt net i (a ∷ b ∷ []) → (r : Bool) → is_root (arc_at net a) ≡ r → ¬ ((side_of (arc_at net (cond r b a)) i).other ≡ (side_of (arc_at net (cond r a b)) i).other) → Arcs net i (cond r b a) (cond r a b)
two_at net i a b w false e d = record { at_j = w.each.0; at_k = w.each.1.0; ne = w.apart.0.0; all = w.all; far_j = w.each.0.far e; differ = d }
two_at net i a b w true e d =
    let none : (k : ℕ) → AtNode net i k → is_root (arc_at net k) ≡ true → (side_of (arc_at net k) i).other ≡ 0 = λ k n f. (no-far n.legal i n.touches_i f).0 in
    record {
      at_j = w.each.1.0;
      at_k = w.each.0;
      ne = λ q. w.apart.0.0 (sym q);
      all = λ x t. ⊎_elim (λ e. inr (inl e)) (⊎_elim inl absurd) (w.all x t);
      far_j = w.each.1.0.far (split (is_root (arc_at net b)) (λ f. absurd (d (none b w.each.1.0 f ∙ sym (none a w.each.0 e)))) (λ f. f));
      differ = d;
    }

record Met (net : Net) (i j k : ℕ) (x : Outcome) : Type 0 where
  here : is_here net i ≡ true
  arcs : Arcs net i j k
  made : Merged net.constant i j (arc_at net j) (side_of (arc_at net j) i) k (arc_at net k) (side_of (arc_at net k) i) (supply_at net i) (supply_at net (side_of (arc_at net k) i).other) x

two-met : (net : Net) → Legal net → (i : ℕ) {x : Outcome} → Answers x → two_arcs net i ≡ x → (j k : ℕ) × Met net i j k x
unfolding two_arcs two kept
two-met net g i {x} a e = (cond root u t, cond root t u, by root refl d.1)
  where
    t : ℕ
    t = first_at net i

    u : ℕ
    u = second_at net i

    root : Bool
    root = is_root (arc_at net t)

    h : (is_here net i ≡ true) × (two net.constant net.supply i (degree_of net i) (old_arc net t) (old_arc net u) ≡ x)
    h = only-met a _ _ e

    d : (eqb (degree_of net i) 2 ≡ true) × (cond root (kept net.constant net.supply i (old_arc net u) (old_arc net t)) (kept net.constant net.supply i (old_arc net t) (old_arc net u)) ≡ x)
    d = only-met a _ _ h.1

    both : ArcsAt net i (t ∷ u ∷ [])
    both = arcs-here net g i h.0 (t ∷ u ∷ []) (eqb-true _ _ d.0) (touching-first net i 0, (touching-first net i t, tt))

    by : (r : Bool) → is_root (arc_at net t) ≡ r → cond r (kept net.constant net.supply i (old_arc net u) (old_arc net t)) (kept net.constant net.supply i (old_arc net t) (old_arc net u)) ≡ x → Met net i (cond r u t) (cond r t u) x
    by true q f = let n = only-met a _ _ f in record { here = h.0; arcs = two_at net i t u both true q (eqb-false _ _ (not-true _ n.0)); made = merged-met _ _ _ _ _ _ _ _ _ _ a n.1 }
    by false q f = let n = only-met a _ _ f in record { here = h.0; arcs = two_at net i t u both false q (eqb-false _ _ (not-true _ n.0)); made = merged-met _ _ _ _ _ _ _ _ _ _ a n.1 }

-- ---- the change

module _ (net : Net) (g : Legal net) (i j k : ℕ) {c : Change} (m : Met net i j k (Ok c)) where
  abbrev tj : Arc
  tj = arc_at net j

  abbrev tk : Arc
  tk = arc_at net k

  abbrev wj : Side
  wj = side_of (arc_at net j) i

  abbrev wk : Side
  wk = side_of (arc_at net k) i

  abbrev r : Fraction
  r = supply_at net i

  new : Arc
  new = new_arc wj wk m.made.cost m.made.lower m.made.upper m.made.b

  edit : Edit
  edit = merging j new k wk.other m.made.supply i m.made.total

  -- the end that j takes over, and its multiplier there: zero exactly where j becomes a root arc
  record Takes (to : ℕ) : Type 0 where
    to_here : is_here net to ≡ true
    apart_i : to ≡ i → ⊥
    proper : Proper m.made.b
    zero : is_zero m.made.b ≡ eqb wj.other to
    ends : (s : ℕ) → only to (value m.made.b) s ≡ only wk.other (-ℚ (value wk.o *ℚ value wj.e *ℚ inv (value wk.e))) s

  takes : End net i wk → Takes (cond (eqb wk.other 0) wj.other wk.other)
  unfolding is_zero
  takes (inl (z, o)) =
      let q : m.made.b ≡ zero_fraction = let f = rw (eq-eqb wk.other 0 z) at m.made.b_fits in cc in
      rw (eq-eqb wk.other 0 z)
      (record {
        to_here = m.arcs.far_j.here;
        apart_i = m.arcs.far_j.apart;
        proper = rw q zero-proper;
        zero = rw q (is_same_lem zero_fraction) ∙ sym (eq-eqb wj.other wj.other refl);
        ends = λ s. rw (q, zero_is) (only_zero wj.other s) ∙ sym (ap (λ v. only wk.other v s) (ap (λ v. -ℚ (v *ℚ value wj.e *ℚ inv (value wk.e))) (zero-figure _ o) ∙ ring2 ℚ-ring (value wj.e) (inv (value wk.e)) (λ e i. :neg (:0 :* e :* i) := :0) refl) ∙ only_zero wk.other s);
      })
  takes (inr f) =
      let e : eqb wk.other 0 ≡ false = ne_eqb wk.other 0 (λ z. omega (arith, (here-number g _ f.here).0)) in
      let b = rw e at m.made.b_fits in
      let n = negated-unvanishing (over-unvanishing (times-unvanishing (unvanishing f.o_nonzero) (unvanishing m.arcs.at_j.near)) (unvanishing m.arcs.at_k.near)) _ b in
      rw e
      (record {
        to_here = f.here;
        apart_i = f.apart;
        proper = n.proper;
        zero = n.nonzero ∙ sym (ne_eqb _ _ m.arcs.differ);
        ends = λ s. ap (λ v. only wk.other v s) (negated-gives (over-gives (times-gives (given wk.o) (given wj.e)) (given wk.e)) _ b);
      })

  -- j's new bounds
  lower-now : Bound no_lower m.made.lower × (bound_of m.made.lower ≡ merge_l (bound_of tj.lower) (map_o (image (value r) (value wj.e) (value wk.e)) (bound_of (cond (same_sign wj.e wk.e) tk.upper tk.lower))))
  lower-now = lower_is r wj wk tj.lower _ m.arcs.at_j.legal.lower_bound m.made.lower_fits

  upper-now : Bound no_upper m.made.upper × (bound_of m.made.upper ≡ merge_u (bound_of tj.upper) (map_o (image (value r) (value wj.e) (value wk.e)) (bound_of (cond (same_sign wj.e wk.e) tk.lower tk.upper))))
  upper-now = upper_is r wj wk tj.upper _ m.arcs.at_j.legal.upper_bound m.made.upper_fits

  new-legal : LegalArc net new
  unfolding new is_root
  new-legal =
      let x = takes m.arcs.at_k.end in
      record {
        from_here = m.arcs.far_j.here;
        to_here = x.to_here;
        cost_proper = (minus-fits {x = Ok tj.cost} {y = Ok tk.cost ⊗ Ok wj.e ⊘ Ok wk.e} m.made.cost-fits).is.proper;
        lower_bound = lower-now.0;
        upper_bound = upper-now.0;
        a_proper = m.arcs.far_j.o_nonzero.proper;
        b_proper = x.proper;
        a_nonzero = m.arcs.far_j.o_nonzero.nonzero;
        b_zero = x.zero;
      }

  -- what k takes of the node's supply to its far end, and of its cost to the constant
  taken : ℚ
  taken = value wk.o *ℚ value r *ℚ inv (value wk.e)

  gain : ℚ
  gain = value tk.cost *ℚ value r *ℚ inv (value wk.e)

  total-is : Figure m.made.total (value net.constant +ℚ gain)
  unfolding gained gain
  total-is = ((plus-fits m.made.total_fits).is.proper, plus-gives (given net.constant) (over-gives (times-gives (given tk.cost) (given r)) (given wk.e)) _ m.made.total_fits)

  framed : Framed net edit
  unfolding edit new is_touching
  framed =
      record {
        arcs = ((record { may = inr ((used-within g j m.arcs.at_j.used).1, new-legal); clear = λ l. rw (ne_eqb wj.other i m.arcs.far_j.apart, ne_eqb _ i (takes m.arcs.at_k.end).apart_i) }, inr (λ l. m.arcs.at_j.used)), (no-arc-puts net i k, (no-arc-puts net i 0, (no-arc-puts net i 0, tt))));
        left = λ l. less-proper wk.other (Ok (supply_at net wk.other)) _ m.made.supply_fits l;
        right = no-level;
        constant = total-is.0;
        only = λ x l t. ⊎_elim inl (λ w. inr (⊎_elim inl absurd w)) (m.arcs.all x t);
      }

  -- ---- in exact numbers

  far_in : End net i wk → T (is_here net wk.other) ⊎ (taken ≡ 𝟘)
  unfolding taken
  far_in (inl (z, o)) = inr (ap (λ v. v *ℚ value r *ℚ inv (value wk.e)) (zero-figure _ o) ∙ ring2 ℚ-ring (value r) (inv (value wk.e)) (λ r e. :0 :* r :* e := :0) refl)
  far_in (inr f) = inl (is_true f.here)

  supplies : (s : ℕ) → is_here net s ≡ true → value (supply_at (applied net edit) s) ≡ value (supply_at net s) +ℚ -ℚ only wk.other taken s
  unfolding edit taken applied with_arc with_supply without
  supplies s h = level-is net wk.other (supply_at net wk.other) g.supply_long (λ l. refl) (over-gives (times-gives (given wk.o) (given r)) (given wk.e)) m.made.supply_fits s (here-number g s h)

  back : LP.Pair → LP.Pair
  back = two_back_lem (program_of net) i (spoke_of net i j) (spoke_of net i k)

  sound : SoundStep (program_of net) (program_of (applied net edit)) back
  unfolding edit new back taken gain exact_of
  sound =
      two-sound
      (two-of (exact_of net) (exact_of (applied net edit)) i (spoke_of net i j) (spoke_of net i k) (exact_arc new)
      (rewired net g edit m.here (j ∷ k ∷ []) unnamed wk.other taken gain (far_in m.arcs.at_k.end) supplies total-is.1)
      (omega (arith, (here-number g i m.here).1))
      m.arcs.at_j.spoke
      m.arcs.at_k.spoke
      m.arcs.at_j.is_in
      m.arcs.at_k.is_in
      m.arcs.ne
      (λ x _. alone net g i (j ∷ k ∷ []) m.arcs.all x)
      (arc-in (applied net edit) j (rw stands-j (here-number g _ m.arcs.far_j.here).0))
      (arc-off (applied net edit) k stands-k)
      (ap exact_arc stands-j)
      (λ s. ap (λ v. only wj.other (value wj.o) s +ℚ v) ((takes m.arcs.at_k.end).ends s))
      (minus-gives (given tj.cost) (over-gives (times-gives (given tk.cost) (given wj.e)) (given wk.e)) _ m.made.cost-fits)
      (new-bounds r wj wk (column (exact_arc tj)) (column (exact_arc new)) tk m.arcs.at_j.near m.arcs.at_k.near lower-now.1 upper-now.1))
    where
      unnamed : (x : ℕ) → Absent x (j ∷ k ∷ []) → Unnamed (updates_of edit) x
      unnamed x a = ((λ _. apart a), ((λ _. apart (further a)), (no_names x).1.1))

      stands-j : arc_at (applied net edit) j ≡ new
      stands-j = arc-stands net edit g 0 m.arcs.at_j.number ((λ _. m.arcs.ne), (no_names j).1.1)

      stands-k : arc_at (applied net edit) k ≡ no_arc
      stands-k = arc-stands net edit g 1 m.arcs.at_k.number (no_names k).1.1

  -- ---- the way back

  module _ (pair : Pair) (z : Sized pair) where
    abbrev N : LP.LP
    N = program_of net

    abbrev p : ℕ → ℚ
    p = (exact_pair pair).price

    abbrev x : Fraction
    x = flow_at pair j

    -- the flow of k
    flow-exactly : Exactly ((Ok r ⊖ Ok wj.e ⊗ Ok x) ⊘ Ok wk.e) ((N.rhs i +ℚ -ℚ (value wj.e *ℚ value x)) *ℚ inv (value wk.e))
    flow-exactly =
        same (ap (λ r. (r +ℚ -ℚ (value wj.e *ℚ value x)) *ℚ inv (value wk.e)) (sym (rhs_is net i m.here)))
        (over-exactly (minus-gives (given _) (times-gives (given _) (given _))) (given _))

    px : Proper x
    px = z.flows.proper j m.arcs.at_j.number.1

    -- the reduced cost of j, where k breaks even
    abbrev cost-j : ℚ
    cost-j = (N.col j).cost +ℚ -ℚ (value wj.o *ℚ p wj.other) +ℚ -ℚ (value wj.e *ℚ quote N (spoke_of net i k) p)

    module _ {first d : Fraction} (first-is : quote_of tk i pair ≡ Ok first) (d-is : (Ok tj.cost ⊖ Ok wj.o ⊗ Ok (price_at pair wj.other) ⊖ Ok wj.e ⊗ Ok first) ≡ Ok d) where
      first-now : Figure first (quote N (spoke_of net i k) p)
      first-now = m.arcs.at_k.quotes pair first first-is

      cost-now : Figure d cost-j
      cost-now =
          same (ap (λ c. c +ℚ -ℚ (value wj.o *ℚ p wj.other) +ℚ -ℚ (value wj.e *ℚ quote N (spoke_of net i k) p)) (sym (ap (λ c. c.cost) m.arcs.at_j.column))
          ) (same (ap (λ q. value tj.cost +ℚ -ℚ (value wj.o *ℚ p wj.other) +ℚ -ℚ (value wj.e *ℚ q)) first-now.1)
          (minus-exactly (minus-gives (given _) (times-gives (given _) (given _))) (times-gives (given _) (given _)))) d d-is

      -- the price is k's where j keeps the rule with it, and j's where j doesn't
      price-now : {π : Fraction} → cond (keeps_rule tj.lower tj.upper x d) (Ok first) (quote_of tj i pair) ≡ Ok π → Figure π (two-price N (spoke_of net i j) (spoke_of net i k) (exact_pair pair).flow p)
      unfolding two-price
      price-now {π} e =
          let old = m.arcs.at_j.legal in
          let decided = fits-dec (N.col j).lower (N.col j).upper (value x) cost-j in
          let is_kept : Bounds.Fits (bound_of tj.lower) (bound_of tj.upper) (value x) (value d) ≡ Bounds.Fits (N.col j).lower (N.col j).upper (value x) cost-j =
          ap₂ (λ c v. Bounds.Fits c.lower c.upper (value x) v) (sym m.arcs.at_j.column) cost-now.1 in
          split (keeps_rule tj.lower tj.upper x d)
          (λ b. let q : π ≡ first = let f = rw b at e in cc in
          rw q (first-now.0, first-now.1 ∙ sym (choose_yes decided _ _ (subst (λ A. A) is_kept (rule-is px old.lower_bound old.upper_bound cost-now.0 b)))))
          (λ b. let w = m.arcs.at_j.quotes pair π (rw b at e) in
          (w.0, w.1 ∙ sym (choose_no decided _ _ (λ h. never (let c = sym b ∙ is-rule px old.lower_bound old.upper_bound cost-now.0 (subst (λ A. A) (sym is_kept) h) in cc)))))

    agrees : (q : Restored) → two_back (old_two i r (record { number = j; arc = tj }) (record { number = k; arc = tk })) pair ≡ Ok q → Holds (restored pair q) (back (exact_pair pair))
    unfolding two_back back restored with_flow with_price
    agrees q e =
        let y = figure-met _ _ e in
        let f = figure-met _ _ y.2 in
        let d = figure-met _ _ f.2 in
        let π = figure-met _ _ d.2 in
        rw (made-is π.2) (price-put (flow-put (itself z) k y.0 m.arcs.at_k.number (flow-exactly y.0 y.1)) i π.0 (here-number g i m.here) (price-now f.1 d.1 π.1))

  right : Right net c (two_back c.old)
  unfolding edit new
  right =
      right_of g two_back m.made.is framed (inl m.here)
      (record { arcs = ((m.arcs.at_j.number.1, refl), ((m.arcs.at_k.number.1, refl), (no_old g).1.1)); named = λ x u. u; node = (here-number g i m.here).1; supply = supply-small g i m.here; new = omega arith }) back sound agrees

unused : (net : Net) (i : ℕ) → is_here net i ≡ false → two_arcs net i ≡ Err Passes
unfolding two_arcs only_where
unused net i e = rw e

-- RULE 5
pub laws : {P : Net → Type 0} → RuleLaws P rule
laws = record { few_places = omega arith; unused = λ net g. unused net; at_nodes = λ e. record { elsewhere = passes; given = tried }; no_flow = λ net g p i e. not-shown (two-met net g i tt e).2.made.is; right = λ net g p i e. right net g i _ _ (two-met net g i tt e).2 }
