-- A legal network in exact numbers: its arcs as they are seen from their nodes, and what a change leaves.
use mathlib.Core.Path.{◌≡◌, sym, ap, ◌∙◌, subst, refl}
use mathlib.Core.Bool.{Bool, true, false, cond, not}
use mathlib.Core.List.{List}
use mathlib.Core.Logic.{⊎_elim, ◌⊎◌, inl, inr}
use Prim.Native.Nat.{ℕ, ◌≤◌, ◌<◌}
use native.Mathlib.Omega.{arith}
use lib.Dec.{T, eqb}
use borrow.Author.Tests.{eqb-false, ne_eqb, eqb-true}
use Rattle.algebra.specs.Rat.{ℚ, 0_ℚ, ◌+ℚ◌, -ℚ◌}
use Rattle.algebra.proofs.Sum.{Absent, Once, range-once}
use Rattle.algebra.specs.Sum.{only}
use Rattle.presolve.proofs.Named.{absent-mem}
use Rattle.presolve.specs.LP.{LP}
use Rattle.presolve.proofs.Price.{root, only_zero}
use Rattle.presolve.proofs.Spoke.{Spoke, SpokeAt}
use Rattle.presolve.specs.Net.{column_at}
use Rattle.presolve.proofs.Net.{tail_of_lem, head_of, column-in, column-out, column-same, touch-off, rhs-in, rhs-out}
use Rattle.presolve.specs.Net as Exact
use Rattle.presolve.proofs.Net as ExactLaws
use Rattle.presolve.proofs.Rewire.{Rewired}
use Rattle.fraction.specs.declared.Fraction.{Fraction}
use Rattle.fraction.specs.Exact.{zero_fraction, is_zero}
use Rattle.fraction.specs.Value.{value}
use Rattle.fraction.proofs.Value.{same-is}
use Rattle.fraction.proofs.Formulas.{zero_is, Nonzero}
use Rattle.fraction.proofs.Laws.{never}
use Rattle.network.specs.declared.Arc.{Arc}
use Rattle.network.specs.declared.Net.{Net}
use Rattle.network.specs.declared.Edit.{Edit}
use Rattle.network.specs.Network.{no_arc, arc_at, supply_at, is_here, is_touching, is_root, far_end, side_of, updates_of, applied}
use Rattle.network.specs.Legal.{Legal, LegalArc}
use Rattle.network.specs.Program.{exact_arc, exact_of, program_of}
use Rattle.network.specs.declared.Side.{Side}
use Rattle.network.proofs.Sane.{sane, is_true as true-is}
use Rattle.network.proofs.Kept.{here-number, used-number, touching-used}
use Rattle.step.proofs.Frame.{Unnamed, arc-same, here-same, node-gone}
use Rattle.step.proofs.Each.{Any, any-mem}
use Rattle.step.proofs.Lines.{split, or-neither}

-- ---- a legal arc, seen from a node that it touches

-- an arc that touches a node is seen from its from node, or from its to node, where that is another
abbrev Seen : Arc → ℕ → Type 0
Seen t i = ((t.from ≡ i) × (side_of t i ≡ record { e = t.a; o = t.b; other = far_end t })) ⊎ ((t.from ≡ i → ⊥) × (t.to ≡ i) × (side_of t i ≡ record { e = t.b; o = t.a; other = t.from }))

seen : (t : Arc) (i : ℕ) → is_touching t i ≡ true → Seen t i
unfolding is_touching side_of
seen t i e = split (eqb t.from i) (λ a. inl (eqb-true _ _ a, rw a)) (λ a. inr (eqb-false _ _ a, eqb-true _ _ (rw a at e), rw a))

-- an arc that is no root arc has another end, in use, and a multiplier there that is not zero
pub record Far (net : Net) (i : ℕ) (w : Side) : Type 0 where
  pub here : is_here net w.other ≡ true
  pub apart : w.other ≡ i → ⊥
  pub o_nonzero : Nonzero w.o

-- a root arc has no other end, and the multiplier 0
abbrev pub End : Net → ℕ → Side → Type 0
End net i w = ((w.other ≡ 0) × (is_zero w.o ≡ true)) ⊎ Far net i w

module _ {net : Net} {t : Arc} (g : LegalArc net t) (i : ℕ) (touches : is_touching t i ≡ true) where
  a_nonzero : Nonzero t.a
  a_nonzero = record { proper = g.a_proper; nonzero = g.a_nonzero }

  b_nonzero : is_root t ≡ false → Nonzero t.b
  b_nonzero n = record { proper = g.b_proper; nonzero = g.b_zero ∙ n }

  -- the multiplier at the node is not zero
  pub near : Nonzero (side_of t i).e
  unfolding is_root
  near = ⊎_elim (λ w. rw w.1 a_nonzero) (λ w. rw w.2 (b_nonzero (ne_eqb t.from t.to (λ z. w.0 (z ∙ w.1))))) (seen t i touches)

  pub far : is_root t ≡ false → Far net i (side_of t i)
  unfolding is_root far_end
  far n =
      ⊎_elim
      (λ w. rw (w.1, n) (record { here = g.to_here; apart = λ z. eqb-false t.from t.to n (w.0 ∙ sym z); o_nonzero = b_nonzero n }))
      (λ w. rw w.2 (record { here = g.from_here; apart = w.0; o_nonzero = a_nonzero })) (seen t i touches)

  pub no-far : is_root t ≡ true → ((side_of t i).other ≡ 0) × (is_zero (side_of t i).o ≡ true)
  unfolding is_root far_end
  no-far n = ⊎_elim (λ w. rw (w.1, n) (refl, g.b_zero ∙ n)) (λ w. absurd (w.0 (eqb-true t.from t.to n ∙ w.1))) (seen t i touches)

  pub end : End net i (side_of t i)
  end = split (is_root t) (λ e. inl (no-far e)) (λ e. inr (far e))

-- ---- what is in

pub is_true : {b : Bool} → b ≡ true → T b
is_true e = subst T (sym e) tt

pub false-not : {b : Bool} → b ≡ false → ¬ (T b)
false-not {b} e t = never (let f = sym e ∙ true-is b t in cc)

-- arc j is in, where it is in use
pub arc-in : (net : Net) (j : ℕ) → 1 ≤ (arc_at net j).from → T ((exact_of net).arc? j)
unfolding exact_of
arc-in net j l = is_true {b = not (eqb (arc_at net j).from 0)} (rw (ne_eqb (arc_at net j).from 0 (λ e. omega arith)))

pub arc-off : (net : Net) (j : ℕ) → arc_at net j ≡ no_arc → ¬ (T ((exact_of net).arc? j))
unfolding exact_of
arc-off net j e t = never (let f = sym (ap (λ (t : Arc). not (eqb t.from 0)) e) ∙ true-is _ t in cc)

module _ (net : Net) where
  -- the column of an arc in use; the right-hand side of a node in use, and of one that isn't
  pub column-is : (j : ℕ) → 1 ≤ (arc_at net j).from → (program_of net).col j ≡ Exact.column (exact_arc (arc_at net j))
  unfolding exact_of
  column-is j l = column-in (exact_of net) j (arc-in net j l)

  pub rhs_is : (i : ℕ) → is_here net i ≡ true → (program_of net).rhs i ≡ value (supply_at net i)
  unfolding exact_of
  rhs_is i e = rhs-in (exact_of net) i (is_true e)

  pub rhs-off : (i : ℕ) → is_here net i ≡ false → (program_of net).rhs i ≡ 0_ℚ
  unfolding exact_of
  rhs-off i e = rhs-out (exact_of net) i (false-not e)

-- a figure that is zero has the value 0
pub zero-figure : (x : Fraction) → is_zero x ≡ true → value x ≡ 0_ℚ
unfolding is_zero
zero-figure x e = ap value (same-is x zero_fraction e) ∙ zero_is

module _ (net : Net) (g : Legal net) where
  -- the places of arcs and of nodes
  pub arc-place : (j : ℕ) → 1 ≤ (arc_at net j).from → j < 97
  arc-place j l = omega (arith, (used-number g j l).1)

  pub listed-arc : (j : ℕ) → 1 ≤ (arc_at net j).from → Once j (program_of net).cols
  unfolding exact_of
  listed-arc j l = range-once j 97 (arc-place j l)

  pub listed-node : (i : ℕ) → is_here net i ≡ true → Once i (program_of net).rows
  unfolding exact_of
  listed-node i e = range-once i 33 (omega (arith, (here-number g i e).1))

-- ---- an arc as it is seen from a node

abbrev pub spoke_of : Net → ℕ → ℕ → Spoke
spoke_of net i j = record { arc = j; e = value (side_of (arc_at net j) i).e; far = (side_of (arc_at net j) i).other; o = value (side_of (arc_at net j) i).o }

-- the other end of a root arc may be any number
spoke-root : {N : LP} {i : ℕ} {a : Spoke} (t : ℕ) → a.o ≡ 0_ℚ → SpokeAt N i a → SpokeAt N i (record { arc = a.arc; e = a.e; far = t; o = a.o })
spoke-root {N} {i} {a} t z s =
    record {
      listed = s.listed;
      ends = λ k. s.ends k ∙ ap (λ v. only i a.e k +ℚ v) (none a.far k ∙ sym (none t k));
      other = root z;
      nonzero = s.nonzero;
    }
  where
    none : (t k : ℕ) → only t a.o k ≡ 0_ℚ
    none t k = ap (λ v. only t v k) z ∙ only_zero t k

module _ (net : Net) (g : Legal net) where
  pub spoke-at : (i j : ℕ) → is_here net i ≡ true → is_touching (arc_at net j) i ≡ true → SpokeAt (program_of net) i (spoke_of net i j)
  unfolding exact_of is_root far_end
  spoke-at i j here touches =
      ⊎_elim
      (λ w. rw w.1 (subst (λ k. SpokeAt (program_of net) k (record { arc = j; e = value t.a; far = far_end t; o = value t.b })) w.0 far))
      (λ w. rw w.2 (subst (λ k. SpokeAt (program_of net) k (ExactLaws.head-spoke j (exact_arc t))) w.1 (head (λ e. w.0 (e ∙ w.1))))) (seen t i touches)
    where
      t : Arc
      t = arc_at net j

      used : 1 ≤ t.from
      used = touching-used g j i (here-number g i here).0 touches

      tail : SpokeAt (program_of net) t.from (ExactLaws.tail-spoke j (exact_arc t))
      tail = tail_of_lem (exact_of net) (sane g) j (arc-place net g j used) (arc-in net j used)

      head : (t.from ≡ t.to → ⊥) → SpokeAt (program_of net) t.to (ExactLaws.head-spoke j (exact_arc t))
      head n = head_of (exact_of net) (sane g) j (arc-place net g j used) (arc-in net j used) n

      far : SpokeAt (program_of net) t.from (record { arc = j; e = value t.a; far = cond (is_root t) 0 t.to; o = value t.b })
      far = split (is_root t) (λ e. rw e (spoke-root 0 (zero-figure t.b ((g.used j used).b_zero ∙ e)) tail)) (λ e. rw e tail)

  -- an arc that does not touch a node has no coefficient there
  unseen : (i c : ℕ) → is_touching (arc_at net c) i ≡ false → (column_at (exact_of net) c).coef i ≡ 0_ℚ
  unfolding exact_of is_touching
  unseen i c e =
      let n = or-neither (eqb (arc_at net c).from i) _ e in
      split ((exact_of net).arc? c)
      (λ k. ap (λ k. k.coef i) (column-in (exact_of net) c (is_true k)) ∙ touch-off (exact_arc (arc_at net c)) i (eqb-false _ _ n.0) (eqb-false _ _ n.1))
      (λ k. ap (λ k. k.coef i) (column-out (exact_of net) c (false-not k)))

  -- no arc but those named touches a node: no other column sees it
  pub alone : (i : ℕ) (names : List ℕ) → ((c : ℕ) → is_touching (arc_at net c) i ≡ true → Any (λ y. c ≡ y) names) → (c : ℕ) → Absent c names → (column_at (exact_of net) c).coef i ≡ 0_ℚ
  alone i names all c a = split (is_touching (arc_at net c) i) (λ e. absurd (absent-mem a (any-mem names (all c e)))) (unseen i c)

-- ---- before and after a change

-- a column that a change does not name
pub column-kept : (net : Net) (c : Edit) (j : ℕ) → Unnamed (updates_of c) j → column_at (exact_of (applied net c)) j ≡ column_at (exact_of net) j
unfolding exact_of
column-kept net c j u = let e = arc-same net c j u in column-same (exact_of net) (exact_of (applied net c)) j (ap (λ (t : Arc). not (eqb t.from 0)) e) (ap exact_arc e)

-- ---- a change that drops a node, as a step between two networks in exact numbers: what rules 5, 6 and 8 share

-- the change c drops a node in use, and whatever it names is among `names`
module _ (net : Net) (g : Legal net) (c : Edit) (here : is_here net c.gone ≡ true) (names : List ℕ) where
  pub rewired : ((j : ℕ) → Absent j names → Unnamed (updates_of c) j) → (far : ℕ) (v gain : ℚ) → T (is_here net far) ⊎ (v ≡ 0_ℚ) →
      ((s : ℕ) → is_here net s ≡ true → value (supply_at (applied net c) s) ≡ value (supply_at net s) +ℚ -ℚ only far v s) →
      value c.constant ≡ value net.constant +ℚ gain →
      Rewired (exact_of net) (exact_of (applied net c)) c.gone names far v gain
  unfolding exact_of applied
  rewired unnamed far v gain f supplies gained =
      record {
        n_same = refl;
        m_same = refl;
        node_in = is_true here;
        node_out = false-not (node-gone net c g (here-number g _ here));
        nodes = λ s l n. here-same net c s (λ _. n);
        far_in = f;
        supplies = λ s l n t. supplies s (true-is _ t);
        arcs-in = λ j l a. ap (λ t. not (eqb t.from 0)) (arc-same net c j (unnamed j a));
        arcs = λ j l a. ap exact_arc (arc-same net c j (unnamed j a));
        constants = gained;
      }
