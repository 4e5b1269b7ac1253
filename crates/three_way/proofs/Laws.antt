-- Rule 8 keeps the laws of a rule.
use mathlib.Core.Path.{◌≡◌, refl, sym, ap, ap₂, ◌∙◌}
use mathlib.Core.Bool.{Bool, true, false, cond, ◌&&◌, not}
use mathlib.Core.List.{List, [], ◌∷◌}
use mathlib.Core.Logic.{inl, inr, ⊎_elim}
use Prim.Native.Nat.{ℕ}
use native.Mathlib.Omega.{arith}
use borrow.Author.Tests.{eqb-true, ne_eqb, not-true}
use Rattle.algebra.proofs.Ring.{combo}
use Rattle.algebra.proofs.Solver.{◌:+◌, ◌:*◌, ◌:-◌, :neg, :1, ◌:=◌, ring2, ring3, ring4, ring6, ring7}
use Rattle.algebra.specs.Rat.{ℚ, ◌+ℚ◌, ◌*ℚ◌, -ℚ◌, 1_ℚ as 𝟙, 0_ℚ as 𝟘, inv_ℚ as inv}
use Rattle.algebra.proofs.Rat.{ℚ-ring, mul_ℚ-inv as mul_inv}
use Rattle.algebra.proofs.Inverse.{mul-ne}
use Rattle.algebra.proofs.Sum.{Absent}
use Rattle.algebra.specs.Sum.{only}
use Rattle.presolve.proofs.Named.{apart, further}
use Rattle.presolve.specs.LP as LP
use Rattle.presolve.proofs.Step.{SoundStep}
use Rattle.presolve.proofs.Spoke.{sgn}
use Rattle.presolve.proofs.ThreeWay.{rate, three_back_lem, three-sound}
use Rattle.presolve.proofs.Rewire.{RisingArc, SharingArc, three-of}
use Rattle.presolve.proofs.Rewire as Rewire
use Rattle.fraction.specs.declared.Fraction.{Fraction}
use Rattle.std.specs.Prelude.{Ok, Err}
use Rattle.fraction.specs.Exact.{Proper, is_less, is_finite}
use Rattle.fraction.specs.Formula.{◌⊕◌, ◌⊖◌, ◌⊗◌, ◌⊘◌, ⊝◌}
use Rattle.fraction.specs.Value.{value}
use Rattle.fraction.proofs.Laws.{and_both}
use Rattle.fraction.proofs.Extended.{not-less}
use Rattle.fraction.proofs.Exactly.{Exactly, same, gives, plus-exactly, minus-exactly}
use Rattle.fraction.proofs.Formulas.{given, plus-gives, minus-gives, times-gives, over-gives, negated-gives, times-fits, minus-fits, zero-proper, nonzero-value, Nonzero, unvanishing, times-unvanishing, over-unvanishing, negated-unvanishing}
use Rattle.wide.proofs.Laws.{share-fits}
use Rattle.network.specs.declared.Arc.{Arc}
use Rattle.network.specs.declared.Net.{Net}
use Rattle.network.specs.declared.Side.{Side}
use Rattle.network.specs.declared.Edit.{Edit}
use Rattle.network.specs.declared.pair.Pair.{Pair}
use Rattle.network.specs.Network.{arc_at, supply_at, is_here, is_root, side_of, with_arc, with_supply, without, updates_of, applied}
use Rattle.network.specs.Legal.{Legal}
use Rattle.network.specs.Pair.{flow_at, with_price, with_flow, exact_pair}
use Rattle.network.specs.Program.{bound_of, exact_arc, exact_of, program_of}
use Rattle.network.proofs.Kept.{here-number}
use Rattle.network.proofs.Bounds.{bound-is, no-upper, finite-proper}
use Rattle.step.specs.declared.Change.{Change}
use Rattle.step.specs.declared.Old.{Old}
use Rattle.step.specs.Outcome.{Outcome}
use Rattle.step.specs.declared.Halt.TheVariants.{Passes}
use Rattle.step.specs.declared.Restored.{Restored}
use Rattle.step.specs.Outcome.{only_where}
use Rattle.step.specs.Back.{old_arc, restored}
use Rattle.step.specs.Around.{first_at, second_at, third_at}
use Rattle.step.specs.Dropped.{gained}
use Rattle.step.specs.Junction.{has_sign_at, is_apart}
use Rattle.step.proofs.Frame.{Framed, Unnamed, no-arc-puts, no-level, no_names, arc-stands}
use Rattle.step.proofs.Each.{apart_distinct}
use Rattle.step.proofs.Touch.{touching-first}
use Rattle.step.proofs.Exactly.{Far, is_true, rhs_is, spoke_of, alone, rewired}
use Rattle.step.proofs.Lines.{split, Answers, only-met, fits-met, not-shown, figure-met, made-is}
use Rattle.step.proofs.Removing.{level-is}
use Rattle.step.proofs.Node.{AtNode, ArcsAt, arcs-here}
use Rattle.step.proofs.Figures.{Sized, Holds, Figure, itself, flow-put, price-put, over-exactly, negated-exactly, gained-exactly}
use Rattle.step.proofs.Junction.{Signed, sign-is, open-upper, zero-bound, Free, free-at, ends-differ, NewArc, new-arc, new-puts, new_in}
use Rattle.step.proofs.Laws.{supply-small, no_old, Right, right_of, RuleLaws}
use Rattle.three_way.specs.ThreeWay.{is_below, turned, is_rising, altered_arc, altered, added_arc, between, low_of, high_of, old_three, joining, joined, sorted, three, three_way, three_back, rule}
use Rattle.three_way.proofs.BothSigns.{side_by, turned-exactly, turned-inverse, with-sign, against-sign, nearer-is}
use Rattle.three_way.proofs.Tried.{elsewhere, tried}

-- ---- what an answer says

-- the altered arc y of t, whose figures fit
record Altered (i : ℕ) (t third y : Arc) : Type 0 where
  a : Fraction
  c : Fraction
  a_fits : ⊝ (Ok (side_of third i).o ⊗ Ok (side_of t i).e ⊘ Ok (side_of third i).e) ≡ Ok a
  c_fits : (Ok t.cost ⊖ Ok third.cost ⊗ Ok (side_of t i).e ⊘ Ok (side_of third i).e) ≡ Ok c
  is : y ≡ altered_arc (side_of t i) (side_of third i) a c

-- the arc y from t's other end to s's with these bounds, whose figures fit
record Between (i : ℕ) (t s : Arc) (l u : Fraction) (y : Arc) : Type 0 where
  a : Fraction
  b : Fraction
  c : Fraction
  a_fits : ⊝ (Ok (side_of s i).e ⊗ Ok (side_of t i).o) ≡ Ok a
  b_fits : (Ok (side_of t i).e ⊗ Ok (side_of s i).o) ≡ Ok b
  c_fits : (Ok s.cost ⊗ Ok (side_of t i).e ⊖ Ok t.cost ⊗ Ok (side_of s i).e) ≡ Ok c
  is : y ≡ added_arc (side_of t i) (side_of s i) l u a b c

-- the added arc y of arcs 1 and 2 at a node of supply r: its bounds are in order
record Added (i : ℕ) (r : Fraction) (t1 t2 y : Arc) : Type 0 where
  l : Fraction
  u : Fraction
  l_fits : low_of (is_below r) t2 (side_of t1 i) ≡ Ok l
  u_fits : high_of (is_below r) r t1 (side_of t1 i) (side_of t2 i) ≡ Ok u
  ordered : is_less u l ≡ false
  runs : Between i (cond (is_below r) t2 t1) (cond (is_below r) t1 t2) l u y

altered-met : (i : ℕ) (t third : Arc) {y : Arc} → altered i t third ≡ Ok y → Altered i t third y
unfolding altered
altered-met i t third e =
    let a = figure-met _ _ e in
    let c = figure-met _ _ a.2 in
    record { a = a.0; c = c.0; a_fits = a.1; c_fits = c.1; is = made-is c.2 }

between-met : (i : ℕ) (t s : Arc) (l u : Fraction) {y : Arc} → between i t s l u ≡ Ok y → Between i t s l u y
unfolding between
between-met i t s l u e =
    let a = figure-met _ _ e in
    let b = figure-met _ _ a.2 in
    let c = figure-met _ _ b.2 in
    record { a = a.0; b = b.0; c = c.0; a_fits = a.1; b_fits = b.1; c_fits = c.1; is = made-is c.2 }

three-and : (a b c : Bool) → (a && (b && c)) ≡ true → (a ≡ true) × (b ≡ true) × (c ≡ true)
three-and a b c e =
    let x = and_both a _ e in
    let y = and_both b c x.1 in
    (x.0, y.0, y.1)

-- an arc at the node with a lower bound and no upper one
record Rising (net : Net) (i j : ℕ) : Type 0 where
  at : AtNode net i j
  far : Far net i (side_of (arc_at net j) i)
  is-rising : RisingArc (exact_of net) j (value (arc_at net j).lower)

rising-at : {net : Net} {i j : ℕ} → AtNode net i j → is_rising (arc_at net j) ≡ true → Rising net i j
unfolding exact_of is_rising
rising-at {net} {j = j} n f =
    let r = and_both (not (is_root (arc_at net j))) _ f in
    let z = and_both (is_finite (arc_at net j).lower) _ r.1 in
    record { at = n; far = n.far (not-true _ r.0); is-rising = record { is_in = n.is_in; lower_is = bound-is (finite-proper n.legal.lower_bound z.0); free = open-upper _ z.1 } }

-- arcs n1 and n2 have the supply's sign and n3 the other; a, b and c are the new arcs
record Met (net : Net) (i n1 n2 n3 : ℕ) (x : Outcome) : Type 0 where
  here : is_here net i ≡ true
  arcs : ArcsAt net i (n1 ∷ n2 ∷ n3 ∷ [])
  sign : Signed net i (is_below (supply_at net i)) n1 × Signed net i (is_below (supply_at net i)) n2 × Signed net i (not (is_below (supply_at net i))) n3
  one : Rising net i n1
  two : Rising net i n2
  third : Free net i n3
  differ : (is_apart (arc_at net n1) (arc_at net n2) i ≡ true) × (is_apart (arc_at net n1) (arc_at net n3) i ≡ true) × (is_apart (arc_at net n2) (arc_at net n3) i ≡ true)
  a : Arc
  b : Arc
  c : Arc
  a_new : Altered i (arc_at net n1) (arc_at net n3) a
  b_new : Altered i (arc_at net n2) (arc_at net n3) b
  c_new : Added i (supply_at net i) (arc_at net n1) (arc_at net n2) c
  s : Fraction
  s_fits : (Ok (supply_at net (side_of (arc_at net n1) i).other) ⊖ Ok (supply_at net i) ⊗ Ok (side_of (arc_at net n1) i).o ⊘ Ok (side_of (arc_at net n1) i).e) ≡ Ok s
  total : Fraction
  total_fits : gained net.constant (arc_at net n1) (side_of (arc_at net n1) i) (supply_at net i) ≡ Ok total
  is : Ok (joining i (supply_at net i) (old_arc net n1) (old_arc net n2) (old_arc net n3) a b c (side_of (arc_at net n1) i).other s total) ≡ x

module _ (net : Net) (g : Legal net) (i : ℕ) (here : is_here net i ≡ true) {x : Outcome} (a : Answers x) where
  sorted-met : (n1 n2 n3 : ℕ) → ArcsAt net i (n1 ∷ n2 ∷ n3 ∷ []) → sorted net.constant net.supply i (old_arc net n1) (old_arc net n2) (old_arc net n3) ≡ x → Met net i n1 n2 n3 x
  unfolding sorted joined
  sorted-met n1 n2 n3 at e =
      let s = only-met a _ _ e in
      let f = only-met a _ _ s.1 in
      let d = only-met a _ _ f.1 in
      let l = fits-met a _ _ d.1 in
      let u = fits-met a _ _ l.2 in
      let o = only-met a _ _ u.2 in
      let y3 = fits-met a _ _ o.1 in
      let v = fits-met a _ _ y3.2 in
      let y1 = fits-met a _ _ v.2 in
      let y2 = fits-met a _ _ y1.2 in
      let z = fits-met a _ _ y2.2 in
      let signs = three-and _ _ _ s.0 in
      let bounds = three-and _ _ _ f.0 in
      record {
        here = here;
        arcs = at;
        sign = (sign-is net g i here _ n1 signs.0, sign-is net g i here _ n2 signs.1, sign-is net g i here _ n3 signs.2);
        one = rising-at at.each.0 bounds.0;
        two = rising-at at.each.1.0 bounds.1;
        third = free-at at.each.1.1.0 bounds.2;
        differ = three-and _ _ _ d.0;
        a = y1.0;
        b = y2.0;
        c = y3.0;
        a_new = altered-met i (arc_at net n1) (arc_at net n3) y1.1;
        b_new = altered-met i (arc_at net n2) (arc_at net n3) y2.1;
        c_new = record { l = l.0; u = u.0; l_fits = l.1; u_fits = u.1; ordered = not-true _ o.0; runs = between-met i _ _ l.0 u.0 y3.1 };
        s = v.0;
        s_fits = v.1;
        total = z.0;
        total_fits = z.1;
        is = z.2;
      }

-- the three arcs in another order
module _ {net : Net} {i x y z : ℕ} (w : ArcsAt net i (x ∷ y ∷ z ∷ [])) where
  last-two : ArcsAt net i (x ∷ z ∷ y ∷ [])
  last-two =
      record {
        each = (w.each.0, (w.each.1.1.0, (w.each.1.0, tt)));
        apart = ((w.apart.0.1.0, (w.apart.0.0, tt)), (((λ e. w.apart.1.0.0 (sym e)), tt), (tt, tt)));
        all = λ n t. ⊎_elim inl (⊎_elim (λ e. inr (inr (inl e))) (⊎_elim (λ e. inr (inl e)) absurd)) (w.all n t);
      }

  first-last : ArcsAt net i (y ∷ z ∷ x ∷ [])
  first-last =
      record {
        each = (w.each.1.0, (w.each.1.1.0, (w.each.0, tt)));
        apart = ((w.apart.1.0.0, ((λ e. w.apart.0.0 (sym e)), tt)), (((λ e. w.apart.0.1.0 (sym e)), tt), (tt, tt)));
        all = λ n t. ⊎_elim (λ e. inr (inr (inl e))) (⊎_elim inl (⊎_elim (λ e. inr (inl e)) absurd)) (w.all n t);
      }

three-met : (net : Net) → Legal net → (i : ℕ) {x : Outcome} → Answers x → three_way net i ≡ x → (n1 n2 n3 : ℕ) × Met net i n1 n2 n3 x
unfolding three_way three
three-met net g i {x} a e =
    let h = only-met a _ _ e in
    let d = only-met a _ _ h.1 in
    let z = only-met a _ _ d.1 in
    let n = first_at net i in
    let m = second_at net i in
    let k = third_at net i in
    let at = arcs-here net g i h.0 (n ∷ m ∷ k ∷ []) (eqb-true _ _ d.0) (touching-first net i 0, (touching-first net i n, (touching-first net i m, tt))) in
    let below = is_below (supply_at net i) in
    split (has_sign_at (arc_at net n) i below)
    (λ p. split (has_sign_at (arc_at net m) i below) (λ q. (n, m, k, sorted-met net g i h.0 a n m k at (rw (p, q) at z.1))) (λ q. (n, k, m, sorted-met net g i h.0 a n k m (last-two at) (rw (p, q) at z.1))))
    (λ p. (m, k, n, sorted-met net g i h.0 a m k n (first-last at) (rw p at z.1)))

-- ---- the new arcs: legal, and in exact numbers

module _ {net : Net} {i : ℕ} {t s : Arc} (nt : Nonzero (side_of t i).e) (ns : Nonzero (side_of s i).e) (ft : Far net i (side_of t i)) (fs : Far net i (side_of s i)) (ne : ¬ ((side_of t i).other ≡ (side_of s i).other)) where
  altered-new : {y : Arc} → Altered i t s y → NewArc net i y
  altered-new w =
      let q = negated-unvanishing (over-unvanishing (times-unvanishing (unvanishing fs.o_nonzero) (unvanishing nt)) (unvanishing ns)) _ w.a_fits in
      rw w.is (new-arc (side_of s i) (side_of t i) fs ft (λ z. ne (sym z)) (inl zero-proper) (inr refl) q ft.o_nonzero (minus-fits w.c_fits).is.proper)

  between-new : {l u : Fraction} {y : Arc} → Proper l → Proper u → Between i t s l u y → NewArc net i y
  between-new pl pu w =
      let q = negated-unvanishing (times-unvanishing (unvanishing ns) (unvanishing ft.o_nonzero)) _ w.a_fits in
      let p = times-unvanishing (unvanishing nt) (unvanishing fs.o_nonzero) _ w.b_fits in
      rw w.is (new-arc (side_of t i) (side_of s i) ft fs ne (inl pl) (inl pu) q p (minus-fits w.c_fits).is.proper)

altered-exact : (net : Net) (i n k : ℕ) {y : Arc} → Altered i (arc_at net n) (arc_at net k) y → exact_arc y ≡ Rewire.altered (exact_of net) (spoke_of net i n) (spoke_of net i k)
unfolding exact_of
altered-exact net i n k w = ap exact_arc w.is ∙ (λ x. record { from = (side_of (arc_at net k) i).other; to = (side_of (arc_at net n) i).other; cost = c x; lower = zero-bound x; upper = no-upper x; a = q x; b = value (side_of (arc_at net n) i).o })
  where
    c : value w.c ≡ value (arc_at net n).cost +ℚ -ℚ (value (arc_at net k).cost *ℚ value (side_of (arc_at net n) i).e *ℚ inv (value (side_of (arc_at net k) i).e))
    c = minus-gives (given _) (over-gives (times-gives (given _) (given _)) (given _)) _ w.c_fits

    q : value w.a ≡ -ℚ (value (side_of (arc_at net k) i).o *ℚ value (side_of (arc_at net n) i).e *ℚ inv (value (side_of (arc_at net k) i).e))
    q = negated-gives (over-gives (times-gives (given _) (given _)) (given _)) _ w.a_fits

-- the added arc shares the supply out between n and k: it runs from n to k, or from k to n
module _ (net : Net) (i n k : ℕ) where
  abbrev wn : Side
  wn = side_of (arc_at net n) i

  abbrev wk : Side
  wk = side_of (arc_at net k) i

  shares : (below : Bool) {l u : Fraction} {y : Arc} → Between i (cond below (arc_at net k) (arc_at net n)) (cond below (arc_at net n) (arc_at net k)) l u y → SharingArc (exact_of net) (side_by below) (spoke_of net i n) (spoke_of net i k) (exact_arc y)
  unfolding exact_of
  shares false w =
      rw w.is
      (record {
        ends = λ s. ap₂ (λ p q. only wn.other p s +ℚ only wk.other q s)
            (negated-gives (times-gives (given _) (given _)) _ w.a_fits ∙ ring2 ℚ-ring (value wk.e) (value wn.o) (λ e o. :neg (e :* o) := :neg (:1 :* e :* o)) refl)
            (times-gives (given _) (given _) _ w.b_fits ∙ ring2 ℚ-ring (value wn.e) (value wk.o) (λ e o. e :* o := :1 :* e :* o) refl);
        cost_is = minus-gives (times-gives (given _) (given _)) (times-gives (given _) (given _)) _ w.c_fits
            ∙ ring4 ℚ-ring (value (arc_at net k).cost) (value wn.e) (value (arc_at net n).cost) (value wk.e) (λ c e d f. c :* e :- d :* f := :1 :* e :* c :- :1 :* f :* d) refl;
      })
  shares true w =
      rw w.is
      (record {
        ends = λ s. ap₂ (λ p q. only wk.other p s +ℚ only wn.other q s)
            (negated-gives (times-gives (given _) (given _)) _ w.a_fits ∙ ring2 ℚ-ring (value wn.e) (value wk.o) (λ e o. :neg (e :* o) := :neg :1 :* e :* o) refl)
            (times-gives (given _) (given _) _ w.b_fits ∙ ring2 ℚ-ring (value wk.e) (value wn.o) (λ e o. e :* o := :neg (:neg :1 :* e :* o)) refl)
            ∙ ring2 ℚ-ring (only wk.other ((-ℚ 𝟙) *ℚ value wn.e *ℚ value wk.o) s) (only wn.other (-ℚ ((-ℚ 𝟙) *ℚ value wk.e *ℚ value wn.o)) s) (λ p q. p :+ q := q :+ p) refl;
        cost_is = minus-gives (times-gives (given _) (given _)) (times-gives (given _) (given _)) _ w.c_fits
            ∙ ring4 ℚ-ring (value (arc_at net k).cost) (value wn.e) (value (arc_at net n).cost) (value wk.e) (λ c e d f. d :* f :- c :* e := :neg :1 :* e :* c :- :neg :1 :* f :* d) refl;
      })

-- ---- the change

module _ (net : Net) (g : Legal net) (i n1 n2 n3 : ℕ) {chg : Change} (m : Met net i n1 n2 n3 (Ok chg)) where
  abbrev here : is_here net i ≡ true
  here = m.here

  abbrev below : Bool
  below = is_below (supply_at net i)

  abbrev t1 : Arc
  t1 = arc_at net n1

  abbrev t2 : Arc
  t2 = arc_at net n2

  abbrev w1 : Side
  w1 = side_of (arc_at net n1) i

  abbrev w2 : Side
  w2 = side_of (arc_at net n2) i

  abbrev w3 : Side
  w3 = side_of (arc_at net n3) i

  abbrev r : Fraction
  r = supply_at net i

  abbrev new : Added i (supply_at net i) (arc_at net n1) (arc_at net n2) m.c
  new = m.c_new

  edit : Edit
  edit = (joining i (supply_at net i) (old_arc net n1) (old_arc net n2) (old_arc net n3) m.a m.b m.c w1.other m.s m.total).edit

  nonzero-e : {j : ℕ} → AtNode net i j → ¬ (value (side_of (arc_at net j) i).e ≡ 𝟘)
  nonzero-e n = nonzero-value n.near.proper n.near.nonzero

  -- the added arc's bounds
  low : Figure new.l (value t2.lower *ℚ inv (sgn (side_by below) *ℚ value w1.e))
  low =
      same (ring3 ℚ-ring (sgn (side_by below)) (value t2.lower) (inv (value w1.e)) (λ s l i. s :* (l :* i) := l :* (s :* i)) refl ∙ ap (λ q. value t2.lower *ℚ q) (turned-inverse (side_by below) (nonzero-e m.one.at)))
      (turned-exactly below (over-exactly (given t2.lower) (given w1.e))) new.l new.l_fits

  high : Figure new.u ((value r +ℚ -ℚ (value w1.e *ℚ value t1.lower)) *ℚ inv (sgn (side_by below) *ℚ (value w1.e *ℚ value w2.e)))
  high =
      let k : ℚ = value r +ℚ -ℚ (value w1.e *ℚ value t1.lower) in
      same (ring3 ℚ-ring (sgn (side_by below)) k (inv (value w1.e *ℚ value w2.e)) (λ s l i. s :* (l :* i) := l :* (s :* i)) refl ∙ ap (λ q. k *ℚ q) (turned-inverse (side_by below) (mul-ne (nonzero-e m.one.at) (nonzero-e m.two.at))))
      (turned-exactly below (λ z e. let w = share-fits r w1.e t1.lower w2.e z e in (w.proper, w.exact))) new.u new.u_fits

  a-fresh : NewArc net i m.a
  a-fresh = altered-new m.one.at.near m.third.at.near m.one.far m.third.far (ends-differ _ _ i m.differ.1) m.a_new

  b-fresh : NewArc net i m.b
  b-fresh = altered-new m.two.at.near m.third.at.near m.two.far m.third.far (ends-differ _ _ i m.differ.2) m.b_new

  c-fresh : NewArc net i m.c
  c-fresh = by below new.runs
    where
      by : (b : Bool) → Between i (cond b t2 t1) (cond b t1 t2) new.l new.u m.c → NewArc net i m.c
      by true w = between-new m.two.at.near m.one.at.near m.two.far m.one.far (λ z. ends-differ _ _ i m.differ.0 (sym z)) low.0 high.0 w
      by false w = between-new m.one.at.near m.two.at.near m.one.far m.two.far (ends-differ _ _ i m.differ.0) low.0 high.0 w

  total-is : Figure m.total (value net.constant +ℚ value t1.cost *ℚ value r *ℚ inv (value w1.e))
  total-is = gained-exactly net.constant t1 w1 r _ m.total_fits

  framed : Framed net edit
  unfolding edit
  framed =
      record {
        arcs = (new-puts g a-fresh m.one.at, (new-puts g b-fresh m.two.at, (new-puts g c-fresh m.third.at, (no-arc-puts net i 0, tt))));
        left = λ l. (minus-fits m.s_fits).is.proper;
        right = no-level;
        constant = total-is.0;
        only = λ x l t. ⊎_elim inl (λ q. inr (⊎_elim inl (λ q. inr (⊎_elim inl absurd q)) q)) (m.arcs.all x t);
      }

  -- ---- in exact numbers

  abbrev names : List ℕ
  names = n1 ∷ n2 ∷ n3 ∷ []

  unnamed : (x : ℕ) → Absent x names → Unnamed (updates_of edit) x
  unfolding edit
  unnamed x b = ((λ _. apart b), ((λ _. apart (further b)), ((λ _. apart (further (further b))), (no_names x).1.1.1)))

  -- what arc 1 takes of the node's supply to its other end
  taken : ℚ
  taken = value w1.o *ℚ value r *ℚ inv (value w1.e)

  supplies : (s : ℕ) → is_here net s ≡ true → value (supply_at (applied net edit) s) ≡ value (supply_at net s) +ℚ -ℚ only w1.other taken s
  unfolding edit taken applied with_arc with_supply without
  supplies s h =
      level-is net w1.other (supply_at net w1.other) g.supply_long (λ l. refl) (over-gives (times-gives (given r) (given w1.o)) (given w1.e)) (rw (ne_eqb w1.other 0 (λ z. omega (arith, (here-number g _ m.one.far.here).0))) m.s_fits) s (here-number g s h)
      ∙ ap (λ v. value (supply_at net s) +ℚ -ℚ only w1.other v s) (ring3 ℚ-ring (value r) (value w1.o) (inv (value w1.e)) (λ r o i. r :* o :* i := o :* r :* i) refl)

  stands : (arc_at (applied net edit) n1 ≡ m.a) × (arc_at (applied net edit) n2 ≡ m.b) × (arc_at (applied net edit) n3 ≡ m.c)
  unfolding edit
  stands =
      let d = m.arcs.apart in (
        arc-stands net edit g 0 m.one.at.number ((λ _. d.0.0), ((λ _. d.0.1.0), (no_names n1).1.1.1)),
        arc-stands net edit g 1 m.two.at.number ((λ _. d.1.0.0), (no_names n2).1.1.1),
        arc-stands net edit g 2 m.third.at.number (no_names n3).1.1.1,
      )

  back : LP.Pair → LP.Pair
  back = three_back_lem (program_of net) i (side_by below) (spoke_of net i n1) (spoke_of net i n2) (spoke_of net i n3)

  sound : SoundStep (program_of net) (program_of (applied net edit)) back
  unfolding edit back taken exact_of
  sound =
      three-sound
      (three-of (exact_of net) (exact_of (applied net edit)) i (side_by below) (spoke_of net i n1) (spoke_of net i n2) (spoke_of net i n3) (value t1.lower) (value t2.lower) (exact_arc m.c)
      (rewired net g edit here names unnamed w1.other taken _ (inl (is_true m.one.far.here)) supplies total-is.1)
      (omega (arith, (here-number g i here).1))
      m.one.at.spoke
      m.two.at.spoke
      m.third.at.spoke
      (with-sign below _ m.sign.0)
      (with-sign below _ m.sign.1)
      (against-sign below _ m.sign.2)
      m.one.is-rising
      m.two.is-rising
      m.third.is_open
      (apart_distinct _ m.arcs.apart)
      (λ x _. alone net g i names m.arcs.all x)
      (new_in g a-fresh (applied net edit) n1 stands.0)
      (new_in g b-fresh (applied net edit) n2 stands.1)
      (new_in g c-fresh (applied net edit) n3 stands.2)
      (ap exact_arc stands.0 ∙ altered-exact net i n1 n3 m.a_new)
      (ap exact_arc stands.1 ∙ altered-exact net i n2 n3 m.b_new)
      (ap exact_arc stands.2)
      (shares net i n1 n2 below new.runs)
      (value new.l)
      (value new.u)
      (ap (λ t. bound_of t.lower) new.runs.is ∙ bound-is low.0)
      (ap (λ t. bound_of t.upper) new.runs.is ∙ bound-is high.0)
      low.1
      high.1
      (not-less high.0 low.0 new.ordered))

  -- ---- the way back

  abbrev old : Old
  old = old_three i r (old_arc net n1) (old_arc net n2) (old_arc net n3)

  module _ (pair : Pair) where
    abbrev y1 : Fraction
    y1 = flow_at pair n1

    abbrev y2 : Fraction
    y2 = flow_at pair n2

    abbrev y3 : Fraction
    y3 = flow_at pair n3

    product-exactly : (x y : Fraction) → Exactly (Ok x ⊗ Ok y) (value x *ℚ value y)
    product-exactly x y z e = ((times-fits e).is.proper, times-gives (given x) (given y) z e)

    first-exactly : Exactly (Ok r ⊘ Ok w1.e ⊕ Ok y1 ⊖ turned below (Ok w2.e ⊗ Ok y3)) (((program_of net).rhs i +ℚ -ℚ (rate (side_by below) (spoke_of net i n1) (spoke_of net i n2) *ℚ value y3) +ℚ value w1.e *ℚ value y1) *ℚ inv (value w1.e))
    first-exactly =
        same (combo ℚ-ring (-ℚ (value y1 +ℚ -ℚ (sgn (side_by below) *ℚ (value w2.e *ℚ value y3)))) (mul_inv (value w1.e) (nonzero-e m.one.at))
        (ring7 ℚ-ring (sgn (side_by below)) (value r) (value w1.e) (inv (value w1.e)) (value w2.e) (value y1) (value y3)
        (λ s r e i f y t. r :* i :+ y :- s :* (f :* t) :- (r :- s :* (e :* f) :* t :+ e :* y) :* i := :neg (y :- s :* (f :* t)) :* (e :* i :- :1)) refl)
        ∙ ap (λ q. (q +ℚ -ℚ (rate (side_by below) (spoke_of net i n1) (spoke_of net i n2) *ℚ value y3) +ℚ value w1.e *ℚ value y1) *ℚ inv (value w1.e)) (sym (rhs_is net i here)))
        (minus-exactly (plus-gives (over-gives (given r) (given _)) (given y1)) (gives (turned-exactly below (product-exactly w2.e y3))))

    second-exactly : Exactly (Ok y2 ⊕ turned below (Ok w1.e ⊗ Ok y3)) ((rate (side_by below) (spoke_of net i n1) (spoke_of net i n2) *ℚ value y3 +ℚ value w2.e *ℚ value y2) *ℚ inv (value w2.e))
    second-exactly =
        same (combo ℚ-ring (-ℚ (value y2 +ℚ sgn (side_by below) *ℚ (value w1.e *ℚ value y3))) (mul_inv (value w2.e) (nonzero-e m.two.at))
        (ring6 ℚ-ring (sgn (side_by below)) (value w1.e) (value w2.e) (inv (value w2.e)) (value y2) (value y3)
        (λ s e f i y t. y :+ s :* (e :* t) :- (s :* (e :* f) :* t :+ f :* y) :* i := :neg (y :+ s :* (e :* t)) :* (f :* i :- :1)) refl))
        (plus-exactly (given y2) (gives (turned-exactly below (product-exactly w1.e y3))))

    third-exactly : Exactly (⊝ ((Ok w1.e ⊗ Ok y1 ⊕ Ok w2.e ⊗ Ok y2) ⊘ Ok w3.e)) (-ℚ ((value w1.e *ℚ value y1 +ℚ value w2.e *ℚ value y2) *ℚ inv (value w3.e)))
    third-exactly = negated-exactly (over-exactly (plus-gives (times-gives (given _) (given _)) (times-gives (given _) (given _))) (given _))

    agrees : Sized pair → (q : Restored) → three_back old pair ≡ Ok q → Holds (restored pair q) (back (exact_pair pair))
    unfolding three_back back restored with_flow with_price
    agrees v q e =
        let x = figure-met _ _ e in
        let y = figure-met _ _ x.2 in
        let z = figure-met _ _ y.2 in
        let p = figure-met _ _ z.2 in
        let s = figure-met _ _ p.2 in
        let one = flow-put (itself v) _ _ m.third.at.number (third-exactly _ z.1) in
        let two = flow-put one _ _ m.two.at.number (second-exactly _ y.1) in
        let three = flow-put two _ _ m.one.at.number (first-exactly _ x.1) in
        rw (made-is s.2) (price-put three _ _ (here-number g i here) (nearer-is (m.one.at.quotes pair _ p.1) (m.two.at.quotes pair _ s.1) below))

  right : Right net chg (three_back chg.old)
  unfolding edit
  right =
      right_of g three_back m.is framed (inl here)
      (record { arcs = ((m.one.at.number.1, refl), ((m.two.at.number.1, refl), ((m.third.at.number.1, refl), (no_old g).1.1.1))); named = λ x u. u; node = (here-number g i here).1; supply = supply-small g i here; new = omega arith }) back sound (λ pair. agrees pair)

unused : (net : Net) (i : ℕ) → is_here net i ≡ false → three_way net i ≡ Err Passes
unfolding three_way only_where
unused net i e = rw e

-- RULE 8
pub laws : {P : Net → Type 0} → RuleLaws P rule
laws = record { few_places = omega arith; unused = λ net g. unused net; at_nodes = λ e. record { elsewhere = elsewhere; given = tried }; no_flow = λ net g p i e. not-shown (three-met net g i tt e).3.is; right = λ net g p i e. right net g i _ _ _ (three-met net g i tt e).3 }
