-- Rule 6 keeps the laws of a rule.
use mathlib.Core.Path.{◌≡◌, refl, sym, ap, ◌∙◌}
use mathlib.Core.Bool.{Bool, true, false, ◌&&◌, not}
use mathlib.Core.Logic.{inl, inr}
use mathlib.Core.Option.{none, some}
use Prim.Native.Nat.{ℕ, ◌≤◌}
use native.Mathlib.Omega.{arith}
use borrow.Author.Tests.{eqb-true, ne_eqb, not-true}
use Rattle.algebra.proofs.Solver.{◌:-◌, :0, ◌:=◌, ring1}
use Rattle.algebra.proofs.Rat.{ℚ-ring, add_ℚ-zero as add-zero}
use Rattle.algebra.specs.Rat.{◌+ℚ◌, ◌*ℚ◌, -ℚ◌, 0_ℚ as 𝟘, inv_ℚ as inv}
use Rattle.algebra.proofs.Sum.{Absent, none as nowhere, step}
use Rattle.algebra.specs.Sum.{only}
use Rattle.presolve.proofs.Named.{Perm, perm-of, absent-perm, all-mem, apart, further}
use Rattle.presolve.specs.LP as LP
use Rattle.presolve.proofs.Step.{SoundStep}
use Rattle.presolve.proofs.Price.{only_zero}
use Rattle.presolve.proofs.Crossing.{four, crossing_back_lem, crossing-sound}
use Rattle.presolve.proofs.Rewire.{OpenArc, cross-arc, crossing-of}
use Rattle.fraction.specs.declared.Fraction.{Fraction}
use Rattle.std.specs.Prelude.{Ok, Err}
use Rattle.fraction.specs.Exact.{zero_fraction, no_upper, is_zero}
use Rattle.fraction.specs.Formula.{◌⊕◌, ◌⊘◌, ⊝◌}
use Rattle.fraction.proofs.Laws.{and_both}
use Rattle.fraction.specs.Value.{value}
use Rattle.fraction.proofs.Value.{same-is}
use Rattle.fraction.proofs.Formulas.{given, plus-gives, over-gives, negated-gives, plus-fits, zero-proper, zero_is, unvanishing, over-unvanishing, negated-unvanishing}
use Rattle.network.specs.declared.Arc.{Arc}
use Rattle.network.specs.declared.Net.{Net}
use Rattle.network.specs.declared.Edit.{Edit}
use Rattle.network.specs.declared.pair.Pair.{Pair}
use Rattle.network.specs.Network.{arc_at, supply_at, is_here, is_touching, is_root, side_of, updates_of, applied}
use Rattle.network.specs.Legal.{LegalArc, Legal}
use Rattle.network.specs.Pair.{flow_at, exact_pair}
use Rattle.network.specs.Program.{bound_of, exact_arc, exact_of, program_of}
use Rattle.network.proofs.Kept.{here-number, used-within}
use Rattle.network.proofs.Bounds.{bound-is, no-upper}
use Rattle.fraction.proofs.Exactly.{Exactly}
use Rattle.step.specs.declared.Change.{Change}
use Rattle.step.specs.declared.Numbers.{Numbers}
use Rattle.step.specs.declared.Old.{Old}
use Rattle.step.specs.Outcome.{Outcome}
use Rattle.step.specs.declared.Halt.TheVariants.{Passes}
use Rattle.step.specs.declared.Restored.{Restored}
use Rattle.step.specs.Outcome.{only_where}
use Rattle.step.specs.Back.{old_arcs_of, old_arc, restored}
use Rattle.step.specs.Around.{first_at, second_at, third_at, fourth_at}
use Rattle.step.proofs.Frame.{Puts, Tame, Framed, Unnamed, no-level, arc-stands, supply-same}
use Rattle.step.proofs.Each.{All, any-mem, apart_distinct}
use Rattle.step.proofs.Touch.{touching-first}
use Rattle.step.proofs.Exactly.{Far, arc-in, zero-figure, spoke_of, alone, rewired}
use Rattle.step.proofs.Lines.{Answers, only-met, fits-met, not-shown, figure-met, made-is}
use Rattle.step.proofs.Node.{AtNode, ArcsAt, arcs-here}
use Rattle.step.proofs.Figures.{Sized, Holds, itself, flow-put, price-put, larger-is, over-exactly, negated-exactly}
use Rattle.step.proofs.Laws.{supply-small, Right, right_of, RuleLaws}
use Rattle.crossing.specs.Crossing.{first_n, second_n, first_p, second_p, new_arc, crossed, edit_four, share_of, crossed_at, crossing, crossing_back}
use Rattle.step.specs.Junction.{is_free, is_apart}
use Rattle.crossing.specs.Tried.{rule}
use Rattle.crossing.proofs.Signs.{positive, Signed, signed-first, two-signs}
use Rattle.crossing.proofs.Tried.{passes, tried}

-- ---- what an answer says

-- a free arc is no root arc, and its bounds are 0, and none above
free-is : (t : Arc) → is_free t ≡ true → (is_root t ≡ false) × (bound_of t.lower ≡ some 𝟘) × (bound_of t.upper ≡ none)
unfolding is_free is_zero
free-is t e =
    let r = and_both (not (is_root t)) _ e in
    let z = and_both (is_zero t.lower) _ r.1 in
    (not-true _ r.0, ap bound_of (same-is t.lower zero_fraction z.0) ∙ bound-is zero-proper ∙ ap some zero_is, ap bound_of (same-is t.upper no_upper z.1) ∙ no-upper)

-- a free arc at the node
record Free (net : Net) (i j : ℕ) : Type 0 where
  at : AtNode net i j
  far : Far net i (side_of (arc_at net j) i)
  is_open : OpenArc (exact_of net) j

free-at : {net : Net} {i j : ℕ} → AtNode net i j → is_free (arc_at net j) ≡ true → Free net i j
unfolding exact_of
free-at n f = record { at = n; far = n.far (free-is _ f).0; is_open = record { is_in = n.is_in; lower_0 = (free-is _ f).1; free = (free-is _ f).2 } }

-- a free N and P whose other ends differ: the figures of their new arc fit
record New (net : Net) (i n p : ℕ) : Type 0 where
  n_free : Free net i n
  p_free : Free net i p
  differ : is_apart (arc_at net n) (arc_at net p) i ≡ true
  a : Fraction
  b : Fraction
  c : Fraction
  a_fits : ⊝ (Ok (side_of (arc_at net n) i).o ⊘ Ok (side_of (arc_at net n) i).e) ≡ Ok a
  b_fits : (Ok (side_of (arc_at net p) i).o ⊘ Ok (side_of (arc_at net p) i).e) ≡ Ok b
  c_fits : (⊝ (Ok (arc_at net n).cost ⊘ Ok (side_of (arc_at net n) i).e) ⊕ Ok (arc_at net p).cost ⊘ Ok (side_of (arc_at net p) i).e) ≡ Ok c

abbrev arc_of : {net : Net} {i n p : ℕ} → New net i n p → Arc
arc_of {net} {i} {n} {p} w = new_arc (side_of (arc_at net n) i) (side_of (arc_at net p) i) w.a w.b w.c

crossed-met : {net : Net} {i n p : ℕ} → Free net i n → Free net i p → is_apart (arc_at net n) (arc_at net p) i ≡ true → {t : Arc} → crossed i (arc_at net n) (arc_at net p) ≡ Ok t → (w : New net i n p) × (t ≡ arc_of w)
unfolding crossed
crossed-met fn fp ne e =
    let a = figure-met _ _ e in
    let b = figure-met _ _ a.2 in
    let c = figure-met _ _ b.2 in
    (record { n_free = fn; p_free = fp; differ = ne; a = a.0; b = b.0; c = c.0; a_fits = a.1; b_fits = b.1; c_fits = c.1 }, made-is c.2)

four-and : (a b c d : Bool) → (a && (b && (c && d))) ≡ true → (a ≡ true) × (b ≡ true) × (c ≡ true) × (d ≡ true)
four-and a b c d e =
    let x = and_both a _ e in
    let y = and_both b _ x.1 in
    let z = and_both c d y.1 in
    (x.0, y.0, z.0, z.1)

abbrev numbers : ℕ → ℕ → ℕ → ℕ → Numbers
numbers k1 k2 k3 k4 = record { first = k1; second = k2; third = k3; fourth = k4 }

-- n1, n2 and p1, p2 are the arcs at the node, and k1 to k4 their numbers upward; a, b, c, d the new arcs
record Met (net : Net) (i n1 n2 p1 p2 k1 k2 k3 k4 : ℕ) (x : Outcome) : Type 0 where
  here : is_here net i ≡ true
  zero : is_zero (supply_at net i) ≡ true
  arcs : ArcsAt net i (four p1 p2 n1 n2)
  upward : ArcsAt net i (four k1 k2 k3 k4)
  sign : Signed net i true n1 × Signed net i true n2 × Signed net i false p1 × Signed net i false p2
  a : New net i n1 p1
  b : New net i n1 p2
  c : New net i n2 p1
  d : New net i n2 p2
  is : Ok (record { edit = edit_four (numbers k1 k2 k3 k4) (arc_of a) (arc_of b) (arc_of c) (arc_of d) i net.constant; old = record { node = i; supply = supply_at net i; one = old_arc net n1; two = old_arc net n2; three = old_arc net p1; four = old_arc net p2; new = numbers k1 k2 k3 k4 } }) ≡ x

crossed-change : {k : Numbers} {i : ℕ} {constant : Fraction} {old : Old} {a b c d a' b' c' d' : Arc} → a ≡ a' → b ≡ b' → c ≡ c' → d ≡ d' → ◌≡◌ {A = Outcome} (Ok (record { edit = edit_four k a b c d i constant; old = old })) (Ok (record { edit = edit_four k a' b' c' d' i constant; old = old }))
crossed-change p q r s = cc

crossing-met : (net : Net) → Legal net → (i : ℕ) {x : Outcome} → Answers x → crossing net i ≡ x → Met net i (first_n net i) (second_n net i) (first_p net i) (second_p net i) (first_at net i) (second_at net i) (third_at net i) (fourth_at net i) x
unfolding crossing crossed_at
crossing-met net g i a e =
    let h = only-met a _ _ e in
    let d = only-met a _ _ h.1 in
    let z = only-met a _ _ d.1 in
    let n = only-met a _ _ z.1 in
    let p = only-met a _ _ n.1 in
    let f = only-met a _ _ p.1 in
    let s = only-met a _ _ f.1 in
    let free = four-and _ _ _ _ f.0 in
    let ne = four-and _ _ _ _ s.0 in
    let these = two-signs net g i h.0 (eqb-true _ _ d.0) (signed-first net i true 0) (signed-first net i true _) (signed-first net i false 0) (signed-first net i false _) (positive _ (not-true _ n.0)) (positive _ (not-true _ p.0)) in
    let at = these.0 in
    let n1 = free-at at.each.1.1.0 free.0 in
    let n2 = free-at at.each.1.1.1.0 free.1 in
    let p1 = free-at at.each.0 free.2 in
    let p2 = free-at at.each.1.0 free.3 in
    let t1 = fits-met a _ _ s.1 in
    let t2 = fits-met a _ _ t1.2 in
    let t3 = fits-met a _ _ t2.2 in
    let t4 = fits-met a _ _ t3.2 in
    let w1 = crossed-met n1 p1 ne.0 t1.1 in
    let w2 = crossed-met n1 p2 ne.1 t2.1 in
    let w3 = crossed-met n2 p1 ne.2 t3.1 in
    let w4 = crossed-met n2 p2 ne.3 t4.1 in
    record {
      here = h.0;
      zero = z.0;
      arcs = at;
      upward = arcs-here net g i h.0 _ (eqb-true _ _ d.0) (touching-first net i 0, (touching-first net i _, (touching-first net i _, (touching-first net i _, tt))));
      sign = (these.1, these.2, these.3, these.4);
      a = w1.0;
      b = w2.0;
      c = w3.0;
      d = w4.0;
      is = sym (crossed-change w1.1 w2.1 w3.1 w4.1) ∙ t4.2;
    }

-- ---- a new arc

module _ {net : Net} (g : Legal net) {i n p : ℕ} (w : New net i n p) where
  new-legal : LegalArc net (arc_of w)
  unfolding is_root is_apart
  new-legal =
      let q = negated-unvanishing (over-unvanishing (unvanishing w.n_free.far.o_nonzero) (unvanishing w.n_free.at.near)) _ w.a_fits in
      let s = over-unvanishing (unvanishing w.p_free.far.o_nonzero) (unvanishing w.p_free.at.near) _ w.b_fits in
      record {
        from_here = w.n_free.far.here;
        to_here = w.p_free.far.here;
        cost_proper = (plus-fits w.c_fits).is.proper;
        lower_bound = inl zero-proper;
        upper_bound = inr refl;
        a_proper = q.proper;
        b_proper = s.proper;
        a_nonzero = q.nonzero;
        b_zero = s.nonzero ∙ sym (not-true _ w.differ);
      }

  new-puts : {k : ℕ} → AtNode net i k → Puts net i (record { number = k; arc = arc_of w }) × Tame net (record { number = k; arc = arc_of w })
  unfolding is_touching
  new-puts {k} u = (record { may = inr ((used-within g k u.used).1, new-legal); clear = λ l. rw (ne_eqb _ i w.n_free.far.apart, ne_eqb _ i w.p_free.far.apart) }, inr (λ l. u.used))

  new-used : 1 ≤ (arc_of w).from
  new-used = (here-number g _ w.n_free.far.here).0

  new-exact : exact_arc (arc_of w) ≡ cross-arc (exact_of net) (spoke_of net i n) (spoke_of net i p)
  unfolding exact_of
  new-exact = λ x. record { from = (side_of (arc_at net n) i).other; to = (side_of (arc_at net p) i).other; cost = c x; lower = l x; upper = no-upper x; a = q x; b = r x }
    where
      c : value w.c ≡ -ℚ (value (arc_at net n).cost *ℚ inv (value (side_of (arc_at net n) i).e)) +ℚ value (arc_at net p).cost *ℚ inv (value (side_of (arc_at net p) i).e)
      c = plus-gives (negated-gives (over-gives (given _) (given _))) (over-gives (given _) (given _)) _ w.c_fits

      q : value w.a ≡ -ℚ (value (side_of (arc_at net n) i).o *ℚ inv (value (side_of (arc_at net n) i).e))
      q = negated-gives (over-gives (given _) (given _)) _ w.a_fits

      r : value w.b ≡ value (side_of (arc_at net p) i).o *ℚ inv (value (side_of (arc_at net p) i).e)
      r = over-gives (given _) (given _) _ w.b_fits

      l : bound_of zero_fraction ≡ some 𝟘
      l = bound-is zero-proper ∙ ap some zero_is

-- ---- the change

module _ (net : Net) (g : Legal net) (i n1 n2 p1 p2 k1 k2 k3 k4 : ℕ) {chg : Change} (m : Met net i n1 n2 p1 p2 k1 k2 k3 k4 (Ok chg)) where
  abbrev at : All (AtNode net i) (four p1 p2 n1 n2)
  at = m.arcs.each

  abbrev up : All (AtNode net i) (four k1 k2 k3 k4)
  up = m.upward.each

  edit : Edit
  edit = edit_four (numbers k1 k2 k3 k4) (arc_of m.a) (arc_of m.b) (arc_of m.c) (arc_of m.d) i net.constant

  order : Perm (four p1 p2 n1 n2) (four k1 k2 k3 k4)
  order =
      perm-of _ _ (apart_distinct _ m.arcs.apart) (apart_distinct _ m.upward.apart) (λ x l. any-mem _ (m.upward.all x (all-mem (AtNode net i) (four p1 p2 n1 n2) at x l).touches_i))
      (λ x l. any-mem _ (m.arcs.all x (all-mem (AtNode net i) (four k1 k2 k3 k4) up x l).touches_i))

  framed : Framed net edit
  unfolding edit
  framed =
      record {
        arcs = (new-puts g m.a up.0, (new-puts g m.b up.1.0, (new-puts g m.c up.1.1.0, (new-puts g m.d up.1.1.1.0, tt))));
        left = no-level;
        right = no-level;
        constant = g.constant_proper;
        only = λ x l t. m.upward.all x t;
      }

  unnamed : (x : ℕ) → Absent x (four p1 p2 n1 n2) → Unnamed (updates_of edit) x
  unfolding edit
  unnamed x a =
      let b = absent-perm order a in
      ((λ _. apart b), ((λ _. apart (further b)), ((λ _. apart (further (further b))), ((λ _. apart (further (further (further b)))), tt))))

  supplies : (s : ℕ) → is_here net s ≡ true → value (supply_at (applied net edit) s) ≡ value (supply_at net s) +ℚ -ℚ only i 𝟘 s
  unfolding edit
  supplies s h =
      ap value (supply-same net edit s (λ l. absurd (omega arith)) (λ l. absurd (omega arith)))
      ∙ ring1 ℚ-ring (value (supply_at net s)) (λ r. r := r :- :0) refl
      ∙ ap (λ v. value (supply_at net s) +ℚ -ℚ v) (sym (only_zero i s))

  stands : (arc_at (applied net edit) k1 ≡ arc_of m.a) × (arc_at (applied net edit) k2 ≡ arc_of m.b) × (arc_at (applied net edit) k3 ≡ arc_of m.c) × (arc_at (applied net edit) k4 ≡ arc_of m.d)
  unfolding edit
  stands =
      let d = m.upward.apart in (
        arc-stands net edit g 0 up.0.number ((λ _. d.0.0), ((λ _. d.0.1.0), ((λ _. d.0.1.1.0), tt))),
        arc-stands net edit g 1 up.1.0.number ((λ _. d.1.0.0), ((λ _. d.1.0.1.0), tt)),
        arc-stands net edit g 2 up.1.1.0.number ((λ _. d.1.1.0.0), tt),
        arc-stands net edit g 3 up.1.1.1.0.number tt,
      )

  back : LP.Pair → LP.Pair
  back = crossing_back_lem (program_of net) i (spoke_of net i n1) (spoke_of net i n2) (spoke_of net i p1) (spoke_of net i p2) k1 k2 k3 k4

  sound : SoundStep (program_of net) (program_of (applied net edit)) back
  unfolding edit back exact_of
  sound =
      crossing-sound
      (crossing-of (exact_of net) (exact_of (applied net edit)) i (spoke_of net i n1) (spoke_of net i n2) (spoke_of net i p1) (spoke_of net i p2) k1 k2 k3 k4
      (rewired net g edit m.here (four p1 p2 n1 n2) unnamed i 𝟘 𝟘 (inr refl) supplies (sym (add-zero _)))
      (omega (arith, (here-number g i m.here).1))
      (zero-figure _ m.zero)
      at.1.1.0.spoke
      at.1.1.1.0.spoke
      at.0.spoke
      at.1.0.spoke
      m.sign.0
      m.sign.1
      m.sign.2
      m.sign.3
      m.a.n_free.is_open
      m.c.n_free.is_open
      m.a.p_free.is_open
      m.b.p_free.is_open
      (apart_distinct _ m.arcs.apart)
      (λ x _. alone net g i (four p1 p2 n1 n2) m.arcs.all x)
      order
      (arc-in (applied net edit) k1 (rw stands.0 (new-used g m.a)))
      (arc-in (applied net edit) k2 (rw stands.1 (new-used g m.b)))
      (arc-in (applied net edit) k3 (rw stands.2 (new-used g m.c)))
      (arc-in (applied net edit) k4 (rw stands.3 (new-used g m.d)))
      (ap exact_arc stands.0 ∙ new-exact g m.a)
      (ap exact_arc stands.1 ∙ new-exact g m.b)
      (ap exact_arc stands.2 ∙ new-exact g m.c)
      (ap exact_arc stands.3 ∙ new-exact g m.d))

  -- ---- the way back

  abbrev old : Old
  old = record { node = i; supply = supply_at net i; one = old_arc net n1; two = old_arc net n2; three = old_arc net p1; four = old_arc net p2; new = numbers k1 k2 k3 k4 }

  share-exactly : (pair : Pair) (n k l : ℕ) → Exactly (share_of (flow_at pair k) (flow_at pair l) (arc_at net n) i) ((value (flow_at pair k) +ℚ value (flow_at pair l)) *ℚ inv (value (side_of (arc_at net n) i).e))
  share-exactly pair n k l = over-exactly (plus-gives (given _) (given _)) (given _)

  agrees : (pair : Pair) → Sized pair → (r : Restored) → crossing_back old pair ≡ Ok r → Holds (restored pair r) (back (exact_pair pair))
  unfolding crossing_back back restored
  agrees pair z r e =
      let x = figure-met _ _ e in
      let y = figure-met _ _ x.2 in
      let v = figure-met _ _ y.2 in
      let w = figure-met _ _ v.2 in
      let p = figure-met _ _ w.2 in
      let q = figure-met _ _ p.2 in
      let one = flow-put (itself z) _ _ at.1.1.1.0.number (negated-exactly (share-exactly pair n2 k3 k4) _ y.1) in
      let two = flow-put one _ _ at.1.1.0.number (negated-exactly (share-exactly pair n1 k1 k2) _ x.1) in
      let three = flow-put two _ _ at.1.0.number (share-exactly pair p2 k2 k4 _ w.1) in
      let four = flow-put three _ _ at.0.number (share-exactly pair p1 k1 k3 _ v.1) in
      rw (made-is q.2) (price-put four _ _ (here-number g i m.here) (larger-is (at.1.1.0.quotes pair _ p.1) (at.1.1.1.0.quotes pair _ q.1)))

  -- a number that no old arc has
  absent : {x : ℕ} → Unnamed (old_arcs_of old) x → Absent x (four p1 p2 n1 n2)
  absent u = step (u.1.1.0 at.0.number.0) (step (u.1.1.1.0 at.1.0.number.0) (step (u.0 at.1.1.0.number.0) (step (u.1.0 at.1.1.1.0.number.0) nowhere)))

  right : Right net chg (crossing_back chg.old)
  unfolding edit
  right =
      right_of g crossing_back m.is framed (inl m.here)
      (record {
        arcs = ((at.1.1.0.number.1, refl), ((at.1.1.1.0.number.1, refl), ((at.0.number.1, refl), ((at.1.0.number.1, refl), tt))));
        named = λ x u. unnamed x (absent u);
        node = (here-number g i m.here).1;
        supply = supply-small g i m.here;
        new = (up.0.number.1, (up.1.0.number.1, (up.1.1.0.number.1, (up.1.1.1.0.number.1, tt))));
      }) back sound agrees

unused : (net : Net) (i : ℕ) → is_here net i ≡ false → crossing net i ≡ Err Passes
unfolding crossing only_where
unused net i e = rw e

-- RULE 6
pub laws : {P : Net → Type 0} → RuleLaws P rule
laws = record { few_places = omega arith; unused = λ net g. unused net; at_nodes = λ e. record { elsewhere = passes; given = tried }; no_flow = λ net g p i e. not-shown (crossing-met net g i tt e).is; right = λ net g p i e. right net g i _ _ _ _ _ _ _ _ (crossing-met net g i tt e) }
