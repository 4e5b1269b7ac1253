-- An arc is dropped at a known flow, and a node with it or none: what rules 1, 3 and 4 share.
use mathlib.Core.Path.{◌≡◌, refl, sym, ap, ap₂, ◌∙◌}
use mathlib.Core.Bool.{true, false, cond}
use mathlib.Core.Logic.{inl, inr}
use Prim.Native.Nat.{ℕ, ◌≤◌}
use native.Mathlib.Omega.{arith}
use native.Mathlib.Decide.{ℕ_discrete}
use lib.Dec.{eqb, lit≤}
use lib.ListN.{length}
use borrow.Author.Tests.{eqb-true, eqb-false, ne_eqb, eq-eqb}
use Rattle.algebra.proofs.Solver.{◌:+◌, ◌:*◌, ◌:-◌, :0, ◌:=◌, ring1, ring4}
use Rattle.algebra.specs.Rat.{ℚ, ◌+ℚ◌, ◌*ℚ◌, -ℚ◌, 0_ℚ}
use Rattle.algebra.proofs.Rat.{ℚ-ring, mul_ℚ-comm as mul_comm}
use Rattle.algebra.specs.Sum.{only}
use Rattle.algebra.proofs.Sum.{only_same, only-other}
use Rattle.presolve.proofs.Price.{only-scale}
use Rattle.presolve.proofs.Step.{SoundStep}
use Rattle.presolve.proofs.Named.{once-mem}
use Rattle.presolve.proofs.Removed.{Removed}
use Rattle.presolve.proofs.Closed.{closed-back}
use Rattle.presolve.proofs.Net.{gone-out, row_out}
use Rattle.fraction.specs.declared.Fraction.{Fraction}
use Rattle.fraction.specs.Exact.{Worked}
use Rattle.std.specs.Prelude.{Ok, Err}
use Rattle.fraction.specs.Exact.{Proper, no_figure}
use Rattle.fraction.specs.Value.{value}
use Rattle.fraction.specs.Formula.{◌⊖◌, ◌⊗◌}
use Rattle.fraction.proofs.Formulas.{Gives, given, plus-gives, minus-gives, times-gives, plus-fits, minus-fits}
use Rattle.network.specs.declared.Arc.{Arc}
use Rattle.network.specs.declared.Net.{Net}
use Rattle.network.specs.declared.SupplyUpdate.{SupplyUpdate}
use Rattle.network.specs.declared.Edit.{Edit}
use Rattle.network.specs.Network.{no_arc, arc_at, supply_at, is_here, is_touching, is_root, far_end, side_of, with_arc, with_supply, without, edit_one, applied}
use Rattle.network.specs.Legal.{Legal}
use Rattle.network.specs.Pair.{with_price, with_flow}
use Rattle.network.specs.Program.{exact_of, program_of}
use Rattle.network.proofs.Sane.{sane}
use Rattle.network.proofs.Kept.{here-number, used-number}
use Rattle.step.specs.declared.Change.{Change}
use Rattle.step.specs.Outcome.{Outcome}
use Rattle.step.specs.declared.Halt.TheVariants.{NoFlow}
use Rattle.step.specs.Back.{old_arc, old_one, restored}
use Rattle.step.specs.Dropped.{supply_less, cost_added, dropping, dropped, dropped_at, lower_back}
use Rattle.step.proofs.Frame.{Levels, Framed, no-arc-puts, no_names, arc-stands, supply-put, supply-left, long-supply, here-same, node-gone}
use Rattle.step.proofs.Touch.{unlike}
use Rattle.step.proofs.Fewer.{nodes-under}
use Rattle.step.proofs.Exactly.{false-not, arc-off, listed-arc, column-is, rhs_is, spoke-at, column-kept, rhs-off}
use Rattle.step.proofs.Lines.{Answers, fits-met, made-is, not-shown, split}
use Rattle.step.proofs.Figures.{Figure, itself, flow-put}
use Rattle.step.proofs.Laws.{no_old, Right, right_of}

-- ---- what is left is legal

-- the supply of an end less what flows there is in form, where there is such an end
pub less-proper : (end : ℕ) (x y : Worked) {z : Fraction} → cond (eqb end 0) (Ok no_figure) (x ⊖ y) ≡ Ok z → 1 ≤ end → Proper z
less-proper end x y q l = (minus-fits {x = x} {y = y} (rw (ne_eqb end 0 (λ z. omega arith)) at q)).is.proper

pub supply-less : (end : ℕ) (s e v : Fraction) {x : Fraction} → supply_less end s e v ≡ Ok x → 1 ≤ end → Proper x
unfolding supply_less
supply-less end s e v q l = less-proper end (Ok s) (Ok e ⊗ Ok v) q l

-- the constant with the cost of a flow added is in form, and exactly that
pub cost_added_lem : (k c v : Fraction) {z : Fraction} → cost_added k c v ≡ Ok z → Figure z (value k +ℚ value c *ℚ value v)
unfolding cost_added
cost_added_lem k c v e = ((plus-fits e).is.proper, plus-gives (given k) (times-gives (given c) (given v)) _ e)

-- arc j dropped, with two supplies, a node dropped that no other arc touches, and a constant
pub dropped-framed : (net : Net) (j : ℕ) (left right : SupplyUpdate) (gone : ℕ) {k : Fraction} → Levels left → Levels right → Proper k → ((k : ℕ) → 1 ≤ gone → is_touching (arc_at net k) gone ≡ true → k ≡ j) → Framed net (edit_one (record { number = j; arc = no_arc }) left right gone k)
dropped-framed net j left right gone a b proper only =
    let none = no-arc-puts net gone in
    record { arcs = (none j, (none 0, (none 0, (none 0, tt)))); left = a; right = b; constant = proper; only = λ k l t. inl (only k l t) }

-- ---- in exact numbers

-- a supply r less y, at a node or nowhere: what the supplies are then
pub level-is : (net : Net) (end : ℕ) (r : Fraction) {y : Worked} {p : ℚ} {x : Fraction} → length net.supply ≡ 33 → (1 ≤ end → r ≡ supply_at net end) → Gives y p → cond (eqb end 0) (Ok no_figure) (Ok r ⊖ y) ≡ Ok x → (s : ℕ) → (1 ≤ s) × (s ≤ 32)
    → value (supply_at (with_supply net end x) s) ≡ value (supply_at net s) +ℚ -ℚ only end p s
level-is net end r {p = p} {x} h is g q s l =
    split (eqb s end)
    (λ e. let z = eqb-true s end e in let k = rw z at l in
    rw z (ap value (supply-put net end x h k) ∙ minus-gives (given r) g x (rw (ne_eqb end 0 (λ z. omega (arith, k.0))) at q) ∙ ap₂ (λ f v. value f +ℚ -ℚ v) (is k.0) (sym (only_same end p))))
    (λ e. let n = eqb-false s end e in
    ap value (supply-left net end x s (λ _. n)) ∙ ring1 ℚ-ring (value (supply_at net s)) (λ r. r := r :- :0) refl ∙ ap (λ v. value (supply_at net s) +ℚ -ℚ v) (sym (only-other end s p (λ z. n (sym z)))))

pub level-less : (net : Net) (end : ℕ) (r e v : Fraction) {x : Fraction} → length net.supply ≡ 33 → (1 ≤ end → r ≡ supply_at net end) → supply_less end r e v ≡ Ok x → (s : ℕ) → (1 ≤ s) × (s ≤ 32)
    → value (supply_at (with_supply net end x) s) ≡ value (supply_at net s) +ℚ -ℚ (only end (value e) s *ℚ value v)
unfolding supply_less
level-less net end r e v h is q s l =
    level-is net end r h is (times-gives (given e) (given v)) q s l
    ∙ ap (λ k. value (supply_at net s) +ℚ -ℚ k) (ap (λ k. only end k s) (mul_comm (value e) (value v)) ∙ only-scale end (value v) (value e) s ∙ mul_comm (value v) (only end (value e) s))

module _ (net : Net) (g : Legal net) where
  -- the right-hand sides after a change: of the nodes that stay, of the one that is dropped, and of those that are not in use, which stay so
  pub rhs-after : (c : Edit) (f : ℕ → ℚ) → ((s : ℕ) → is_here net s ≡ true → (s ≡ c.gone → ⊥) → value (supply_at (applied net c) s) ≡ f s) → (is_here net c.gone ≡ true → 0_ℚ ≡ f c.gone) → ((s : ℕ) → is_here net s ≡ false → 0_ℚ ≡ f s) → (s : ℕ) → (program_of (applied net c)).rhs s ≡ f s
  rhs-after c f stays goes off s =
      split (is_here net s) (λ h. by h (ℕ_discrete s c.gone))
      (λ h. rhs-off (applied net c) s (split (is_here (applied net c) s) (λ e. unlike (sym h ∙ nodes-under net c s e)) (λ e. e)) ∙ off s h)
    where
      by : is_here net s ≡ true → Dec (s ≡ c.gone) → (program_of (applied net c)).rhs s ≡ f s
      by h (no n) = rhs_is (applied net c) s (here-same net c s (λ l. n) ∙ h) ∙ stays s h n
      by h (yes z) = let k = rw z at h in rhs-off (applied net c) s (rw z (node-gone net c g (here-number g c.gone k))) ∙ rw z (goes k)

  -- arc j at the flow ξ dropped: by the supplies of the nodes that stay, of the one that is dropped, and the constant
  pub one-removed : (j : ℕ) (left right : SupplyUpdate) (gone : ℕ) (k : Fraction) (ξ : ℚ) → 1 ≤ (arc_at net j).from
      → ((s : ℕ) → is_here net s ≡ true → (s ≡ gone → ⊥) → value (supply_at (applied net (edit_one (record { number = j; arc = no_arc }) left right gone k)) s) ≡ value (supply_at net s) +ℚ -ℚ (((program_of net).col j).coef s *ℚ ξ))
      → (is_here net gone ≡ true → 0_ℚ ≡ value (supply_at net gone) +ℚ -ℚ (((program_of net).col j).coef gone *ℚ ξ))
      → value k ≡ value net.constant +ℚ value (arc_at net j).cost *ℚ ξ
      → Removed (program_of net) (program_of (applied net (edit_one (record { number = j; arc = no_arc }) left right gone k))) j ξ
  unfolding exact_of applied
  one-removed j left right gone k ξ used stays goes gained =
      record {
        rows_same = refl;
        cols_same = refl;
        listed = listed-arc net g j used;
        same = λ k m n. column-kept net c k ((λ l. n), (no_names k).1);
        gone = gone-out (exact_of (applied net c)) j (arc-off (applied net c) j (arc-stands net c g 0 (used-number g j used) (no_names j).1));
        rhs_is = λ s m. rhs-after c (λ s. (program_of net).rhs s +ℚ -ℚ (((program_of net).col j).coef s *ℚ ξ)) (λ s h n. stays s h n ∙ before s h) (λ h. goes h ∙ before gone h) off s;
        constant_is = gained ∙ ap (λ t. value net.constant +ℚ t.cost *ℚ ξ) (sym (column-is net j used));
      }
    where
      c : Edit
      c = edit_one (record { number = j; arc = no_arc }) left right gone k

      before : (s : ℕ) → is_here net s ≡ true → value (supply_at net s) +ℚ -ℚ (((program_of net).col j).coef s *ℚ ξ) ≡ (program_of net).rhs s +ℚ -ℚ (((program_of net).col j).coef s *ℚ ξ)
      before s h = ap (λ r. r +ℚ -ℚ (((program_of net).col j).coef s *ℚ ξ)) (sym (rhs_is net s h))

      off : (s : ℕ) → is_here net s ≡ false → 0_ℚ ≡ (program_of net).rhs s +ℚ -ℚ (((program_of net).col j).coef s *ℚ ξ)
      off s h = ring1 ℚ-ring ξ (λ x. :0 := :0 :- :0 :* x) refl ∙ ap₂ (λ r k. r +ℚ -ℚ (k *ℚ ξ)) (sym (rhs-off net s h)) (sym (row_out (exact_of net) (sane g) j s (once-mem (listed-arc net g j used)) (false-not h)))

  -- rules 1 and 4: arc j dropped at the flow v
  pub flow-removed : (j : ℕ) (v : Fraction) {x y z : Fraction} → 1 ≤ (arc_at net j).from
      → supply_less (arc_at net j).from (supply_at net (arc_at net j).from) (arc_at net j).a v ≡ Ok x
      → supply_less (far_end (arc_at net j)) (supply_at net (arc_at net j).to) (arc_at net j).b v ≡ Ok y
      → cost_added net.constant (arc_at net j).cost v ≡ Ok z
      → Removed (program_of net) (program_of (applied net (dropping j (arc_at net j).from x (far_end (arc_at net j)) y 0 z))) j (value v)
  unfolding applied with_arc with_supply without is_touching side_of far_end is_root
  flow-removed j v {x} {y} {z} used p q e = one-removed j (record { node = t.from; supply = x }) (record { node = far_end t; supply = y }) 0 z (value v) used (λ s h n. stays s h) (λ h. unlike (sym g.no_node ∙ h)) (cost_added_lem net.constant t.cost v e).1
    where
      t : Arc
      t = arc_at net j

      ends : (s : ℕ) → ((program_of net).col j).coef s ≡ only t.from (value t.a) s +ℚ only (far_end t) (value t.b) s
      ends s = rw (eq-eqb t.from t.from refl) at ((spoke-at net g t.from j (g.used j used).from_here (rw (eq-eqb t.from t.from refl))).ends s)

      stays : (s : ℕ) → is_here net s ≡ true → value (supply_at (with_supply (with_supply net t.from x) (far_end t) y) s) ≡ value (supply_at net s) +ℚ -ℚ (((program_of net).col j).coef s *ℚ value v)
      stays s h =
          level-less (with_supply net t.from x) (far_end t) (supply_at net t.to) t.b v (long-supply net t.from x g.supply_long) apart q s (here-number g s h)
          ∙ ap (λ r. r +ℚ -ℚ (only (far_end t) (value t.b) s *ℚ value v)) (level-less net t.from (supply_at net t.from) t.a v g.supply_long (λ l. refl) p s (here-number g s h))
          ∙ ring4 ℚ-ring (value (supply_at net s)) (only t.from (value t.a) s) (only (far_end t) (value t.b) s) (value v) (λ r a b v. r :- a :* v :- b :* v := r :- (a :+ b) :* v) refl
          ∙ ap (λ k. value (supply_at net s) +ℚ -ℚ (k *ℚ value v)) (sym (ends s))
        where
          apart : 1 ≤ far_end t → supply_at net t.to ≡ supply_at (with_supply net t.from x) (far_end t)
          apart l =
              split (eqb t.from t.to)
              (λ e. let z : 1 ≤ 0 = rw e at l in absurd (omega arith))
              (λ e. rw e (sym (supply-left net t.from x t.to (λ k z. eqb-false _ _ e (sym z)))))

-- ---- rules 1 and 4

-- the change that they answer: both supplies and the constant fit
pub record Dropped (net : Net) (j : ℕ) (v : Fraction) (x : Outcome) : Type 0 where
  pub r : Fraction
  pub s : Fraction
  pub k : Fraction
  pub r_is : supply_less (arc_at net j).from (supply_at net (arc_at net j).from) (arc_at net j).a v ≡ Ok r
  pub s_is : supply_less (far_end (arc_at net j)) (supply_at net (arc_at net j).to) (arc_at net j).b v ≡ Ok s
  pub k_is : cost_added net.constant (arc_at net j).cost v ≡ Ok k
  pub is : Ok (record { edit = dropping j (arc_at net j).from r (far_end (arc_at net j)) s 0 k; old = old_one 0 no_figure (old_arc net j) }) ≡ x

dropped-met : (net : Net) (j : ℕ) (v : Fraction) {x : Outcome} → Answers x → dropped_at net j v ≡ x → Dropped net j v x
unfolding dropped
dropped-met net j v a e =
    let r = fits-met a _ _ e in
    let s = fits-met a _ _ r.2 in
    let k = fits-met a _ _ s.2 in
    record { r = r.0; s = s.0; k = k.0; r_is = r.1; s_is = s.1; k_is = k.1; is = k.2 }

-- arc j dropped at its lower bound is right, if it is a sound step in exact numbers
pub lower-right : (net : Net) (g : Legal net) (j : ℕ) {c : Change} → 1 ≤ (arc_at net j).from → Proper (arc_at net j).lower → dropped_at net j (arc_at net j).lower ≡ Ok c
    → ((e : Edit) → Removed (program_of net) (program_of (applied net e)) j (value (arc_at net j).lower) → SoundStep (program_of net) (program_of (applied net e)) (closed-back j (value (arc_at net j).lower)))
    → Right net c (lower_back c.old)
unfolding lower_back restored with_flow with_price
lower-right net g j {c} used proper e sound =
    let t = arc_at net j in
    let d : Dropped net j t.lower (Ok c) = dropped-met net j t.lower tt e in
    right_of g lower_back d.is (dropped-framed net j _ _ 0 (supply-less t.from _ _ _ d.r_is) (supply-less (far_end t) _ _ _ d.s_is) (cost_added_lem net.constant t.cost t.lower d.k_is).0 (λ k l. absurd (omega arith)))
    (inr (record { number = j; used = used; dropped = arc-stands net _ g 0 (used-number g j used) (no_names j).1 }))
    (record { arcs = (((used-number g j used).1, refl), (no_old g).1); named = λ x u. u; node = omega arith; supply = lit≤ tt; new = omega arith })
    (closed-back j (value t.lower)) (sound _ (flow-removed net g j t.lower used d.r_is d.s_is d.k_is))
    (λ pair z r q. rw (made-is q) (flow-put (itself z) j t.lower (used-number g j used) (proper, refl)))

-- a drop shows nothing
pub dropped-shows : {X : Type 0} (net : Net) (j : ℕ) (v : Fraction) → dropped_at net j v ≡ Err NoFlow → X
dropped-shows net j v e = not-shown (dropped-met net j v tt e).is
