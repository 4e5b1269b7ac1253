-- Trying what is due alone tells whether there is a pair.
use mathlib.Core.Path.{◌≡◌, refl, sym, ◌∙◌}
use mathlib.Core.List.{List, append_assoc}
use mathlib.Core.Bool.{Bool, true, false, cond, ◌&&◌, not, and-false, and_assoc}
use mathlib.Core.Logic.{⊎_elim}
use Prim.Native.Nat.{ℕ, zero, suc, ◌+◌, ◌<◌}
use native.Mathlib.Nat.{not-suc-le-zero, eq-or-lt_of_le, le_of_suc-le-suc}
use native.Mathlib.Numerals.{add-one}
use native.Mathlib.Omega.{arith}
use borrow.Author.Tests.{le-ltb, lt-ltb, leb-false, not-true, ltb-true, ltb-false, eq-eqb}
use lib.Dec.{ltb, leb, eqb}
use lib.ListN.{get_or, replicate, length-replicate, get_or-replicate}
use lib.Seq.{drop-cons}
use Rattle.loops.specs.Loops.{any, build, written}
use Rattle.loops.proofs.Laws.{any_some, get_or-build, Filled}
use Rattle.fraction.specs.declared.Fraction.{Fraction}
use Rattle.fraction.specs.Exact.{Worked}
use Rattle.std.specs.Prelude.{Ok, Err}
use Rattle.costly_arc.specs.declared.due.Both.{Both}
use Rattle.fraction.specs.Exact.{no_figure, is_operand, sum_of, is_same, no_upper}
use Rattle.fraction.specs.Formula.{figure_of, ◌⊕◌, ◌⊘◌, added}
use Rattle.fraction.proofs.Laws.{and_both}
use Rattle.step.proofs.Lines.{split, or-neither}
use Rattle.step.proofs.Touch.{unlike}
use Rattle.network.specs.declared.Arc.{Arc}
use Rattle.network.specs.declared.Net.{Net}
use Rattle.network.specs.Network.{arc_at, is_root}
use Rattle.costly_arc.specs.CostlyArc.{is_under, is_positive, is_open_root, is_costlier, has_pair}
use Rattle.costly_arc.specs.Seen.{Seen, put_at, is_candidate, is_pair, is_old, Searched}
use Rattle.costly_arc.specs.internal.Due.{Covers, is_fresh, is_due, way_of, both_of, ways_of, neither, is_due_under, bar_of, is_due_from}
use borrow.Author.Tests.{ne_eqb}

-- ---- tests that agree

any_same : (p q : ℕ → Bool) (n : ℕ) → ((i : ℕ) → i < n → p i ≡ q i) → any p n ≡ any q n
unfolding any
any_same p q zero h = refl
any_same p q (suc n) h = rw (h n (omega (arith, add-one n)), any_same p q n (λ i l. h i (omega (arith, add-one n))))

any_none : (p : ℕ → Bool) (n : ℕ) → ((i : ℕ) → i < n → p i ≡ false) → any p n ≡ false
any_none p n h = split (any p n) (λ e. let w = any_some p n e in unlike (sym (h w.0 w.1) ∙ w.2)) (λ e. e)

pub none_any : (p : ℕ → Bool) (n : ℕ) → any p n ≡ false → (i : ℕ) → i < n → p i ≡ false
unfolding any
none_any p zero e i h = absurd (not-suc-le-zero h)
none_any p (suc n) e i h =
    let b = or-neither (any p n) (p n) e in
    ⊎_elim (λ (q : i ≡ n). rw q b.1) (λ (l : i < n). none_any p n b.0 i l) (eq-or-lt_of_le (le_of_suc-le-suc h))

-- ---- pairs by their arcs' numbers

abbrev pair_at : Net → Arc → ℕ → ℕ → Bool
pair_at net t x y = is_pair t (arc_at net x) (arc_at net y)

pair_is : (net : Net) (t : Arc) → has_pair net t ≡ any (λ x. any (pair_at net t x) 97) 97
unfolding has_pair is_pair
pair_is net t = any_same _ _ 97 (λ x l. by (is_open_root (arc_at net x) t.from) _)
  where
    by : (b : Bool) (p : ℕ → Bool) → (b && any p 97) ≡ any (λ y. b && p y) 97
    by true p = refl
    by false p = sym (any_none _ 97 (λ y l. refl))

pub no-pair : (net : Net) (t : Arc) → ((x y : ℕ) → x < 97 → y < 97 → pair_at net t x y ≡ false) → has_pair net t ≡ false
no-pair net t h = pair_is net t ∙ any_none _ 97 (λ x l. any_none _ 97 (λ y m. h x y l m))

pub each-pair : (net : Net) (t : Arc) → has_pair net t ≡ false → (x y : ℕ) → x < 97 → y < 97 → pair_at net t x y ≡ false
each-pair net t e x y l m = none_any _ 97 (none_any _ 97 (sym (pair_is net t) ∙ e) x l) y m

-- ---- by way of root arcs

-- there is no sum with none
none_left : (q y c : Fraction) → q.den ≡ 0 → is_under (sum_of q y) c ≡ false
unfolding sum_of is_operand
none_left q y c e = rw (e, and-false)

none_right : (q y c : Fraction) → y.den ≡ 0 → is_under (sum_of q y) c ≡ false
unfolding sum_of is_operand
none_right q y c e = rw (e, and-false, and-false)

pub none-due : (seen : Seen) (w : ℕ) (q : Fraction) (ways : List Both) (c : Fraction) (k : ℕ) → (get_or ways k neither).to.den ≡ 0 → is_due_under seen w q ways c k ≡ false
none-due seen w q ways c k e = rw (none_right q (get_or ways k neither).to c e, and-false)

pub none_from : (seen : Seen) (w : ℕ) (q : Fraction) (ways : List Both) (c : Fraction) → q.den ≡ 0 → any (is_due_under seen w q ways c) 97 ≡ false
none_from seen w q ways c e = any_none _ 97 (λ k l. rw (none_left q (get_or ways k neither).to c e, and-false))

-- the sum of two figures is that of the formulas, where none stands for a misfit
sum-way : (a b : Bool) (u v : Worked) (c : Fraction) → is_under (sum_of (cond a (figure_of u) no_figure) (cond b (figure_of v) no_figure)) c ≡ (a && (b && is_under (u ⊕ v) c))
unfolding sum_of is_operand added
sum-way false b u v c = refl
sum-way true false u v c = rw (and-false (is_operand (figure_of u)))
sum-way true true (Ok x) (Ok y) c = refl
sum-way true true (Ok x) (Err m) c = rw (and-false (is_operand x))
sum-way true true (Err m) v c = refl

-- by an arc that is no root arc without upper bound there is no way
pub no_way : (x : Arc) → is_open_root x x.from ≡ false → (old : Bool) (i : ℕ) (e : Fraction) → way_of old x i e ≡ no_figure
unfolding way_of is_open_root
no_way x h old i e = by old (is_root x) (eqb x.from i) (is_same x.upper no_upper) _ _ (rw (eq-eqb x.from x.from refl) at h)
  where
    by : (o r f s p : Bool) (y : Fraction) → (r && (true && s)) ≡ false → cond (not o && ((r && (f && s)) && p)) y no_figure ≡ no_figure
    by true r f s p y h = refl
    by false false f s p y h = refl
    by false true f true p y h = unlike (sym h)
    by false true true false p y h = refl
    by false true false false p y h = refl

pub no-ways : (net : Net) (seen : Seen) (p q : ℕ) (t : Arc) (k : ℕ) → is_open_root (arc_at net k) (arc_at net k).from ≡ false → neither ≡ both_of net seen p q t k
no-ways net seen p q t k h = let none = no_way (arc_at net k) h in rw (none _ _ _, none _ _ _) refl

-- where nothing is stored, what stood there stays
pub filled-left : {b : Both} {f : ℕ → Both} {s : List Both} {k : ℕ} → Filled f 97 (replicate 97 b) s k → k < 97 → b ≡ f k → Filled f 97 (replicate 97 b) s (k + 1)
unfolding written build
filled-left {b} {f} {s} {k} h l e =
    let d = replicate 97 b in
    let n = length-replicate {A = Both} 97 b in
    let g = get_or-replicate 97 k b b l ∙ e in
    record { upto = omega arith; long = h.long; is = h.is ∙ rw (add-one k, drop-cons d k b (omega arith), g, append_assoc) refl }

pair-way : (t x y : Arc) (o u : Bool) → is_under (sum_of (way_of o x t.from t.a) (way_of u y t.to t.b)) t.cost ≡ (not o && (not u && is_pair t x y))
unfolding way_of is_pair is_costlier
pair-way t x y o u =
    let r = is_open_root x t.from in
    let s = is_positive (Ok t.a ⊘ Ok x.a) in
    let q = is_open_root y t.to in
    let v = is_positive (Ok t.b ⊘ Ok y.a) in
    sum-way (not o && (r && s)) (not u && (q && v)) _ _ t.cost ∙ by o r s u q v _
  where
    by : (o r s u q v z : Bool) → ((not o && (r && s)) && ((not u && (q && v)) && z)) ≡ (not o && (not u && (r && (q && (s && (v && z))))))
    by true r s u q v z = refl
    by false r s true q v z = and-false (r && s)
    by false true true false q v z = and_assoc q v z
    by false true false false q v z = sym (and-false q)
    by false false s false q v z = refl

-- ---- what is due is enough

module _ (net : Net) (seen : Seen) (w : ℕ) (t : Arc) (h : Searched net seen w t) (times : List ℕ) (covers : Covers net seen times) where
  -- where a node's time is not after v, its root arcs were put before v
  stale : (v i k : ℕ) → k < 97 → is_fresh times v i ≡ false → is_open_root (arc_at net k) i ≡ true → is_old seen v k ≡ true
  unfolding is_fresh
  stale v i k l e f =
      let n = or-neither (leb 33 i) (ltb v (get_or times i 0)) e in
      lt-ltb (put_at seen k) v (omega (arith, covers i k (leb-false 33 i n.0) l f, ltb-false v (get_or times i 0) n.1))

  -- nothing was put before every search
  fresh : (i k : ℕ) → k < 97 → is_open_root (arc_at net k) i ≡ true → is_fresh times 0 i ≡ true
  fresh i k l o = split (is_fresh times 0 i) (λ e. e) (λ e. absurd (omega (arith, ltb-true (put_at seen k) 0 (stale 0 i k l e o))))

  -- an arc is left out only by a bar, where it is old
  kept : (b : Bool) (k : ℕ) → (b ≡ true → is_old seen w k ≡ true → ⊥) → is_old seen (bar_of b w) k ≡ false
  kept true k f = split (is_old seen w k) (λ e. absurd (f refl e)) (λ e. e)
  kept false k f = le-ltb (put_at seen k) 0 (omega arith)

  -- a pair: root arcs at both ends, not both of them old
  paired : (x y : ℕ) → x < 97 → y < 97 → pair_at net t x y ≡ true → (is_open_root (arc_at net x) t.from ≡ true) × (is_open_root (arc_at net y) t.to ≡ true) × (is_old seen w x ≡ true → is_old seen w y ≡ true → ⊥)
  unfolding is_pair
  paired x y l m p = let a = and_both (is_open_root (arc_at net x) t.from) _ p in (a.0, (and_both (is_open_root (arc_at net y) t.to) _ a.1).0, λ e f. unlike (sym (h x y l m e f) ∙ p))

  abbrev ways : List Both
  ways = ways_of net seen (bar_of (not (is_fresh times w t.to)) w) (bar_of (not (is_fresh times w t.from)) w) t

  ways_at : (k : ℕ) → k < 97 → get_or ways k neither ≡ both_of net seen (bar_of (not (is_fresh times w t.to)) w) (bar_of (not (is_fresh times w t.from)) w) t k
  unfolding ways_of
  ways_at k l = get_or-build 97 _ neither k l

  due-under : (x y : ℕ) → x < 97 → y < 97 → is_due_under seen (bar_of (is_old seen w x) w) (get_or ways x neither).from ways t.cost y ≡ pair_at net t x y
  due-under x y l m =
      rw (ways_at x l, ways_at y m, pair-way t (arc_at net x) (arc_at net y))
      (split (pair_at net t x y)
      (λ p. let e = paired x y l m p in
      rw (kept (not (is_fresh times w t.to)) x (λ b f. e.2 f (stale w t.to y m (not-true _ b) e.1)), kept (not (is_fresh times w t.from)) y (λ b f. e.2 (stale w t.from x l (not-true _ b) e.0) f), kept (is_old seen w x) y e.2))
      (λ p. rw (p, and-false, and-false, and-false)))

  pub due-is : any (is_due_from seen w ways t.cost) 97 ≡ has_pair net t
  due-is = any_same _ _ 97 (λ x l. any_same _ _ 97 (λ y m. due-under x y l m)) ∙ sym (pair_is net t)

  -- where none is due there is no pair
  pub due-none : is_candidate t ≡ true → is_due times w t ≡ false → has_pair net t ≡ false
  unfolding is_due
  due-none d e =
      no-pair net t (λ x y l m. split (pair_at net t x y)
      (λ p. let o = paired x y l m p in
      let n = or-neither (is_fresh times w t.from) _ (rw (d, fresh t.from x l o.0, fresh t.to y m o.1) at e) in
      absurd (o.2 (stale w t.from x l n.0 o.0) (stale w t.to y m n.1 o.1)))
      (λ p. p))

pub due-candidate : (times : List ℕ) (w : ℕ) (t : Arc) → is_due times w t ≡ true → is_candidate t ≡ true
unfolding is_due
due-candidate times w t e = (and_both (is_candidate t) _ e).0

-- by an arc at another node there is no way
pub other_way : (x : Arc) (i : ℕ) → (x.from ≡ i → ⊥) → (old : Bool) (e : Fraction) → way_of old x i e ≡ no_figure
unfolding way_of is_open_root
other_way x i n old e = rw (ne_eqb x.from i n, and-false (is_root x), and-false (not old))
