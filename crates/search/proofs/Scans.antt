-- A rule at its places upward, as far as there are places in use; and the rules one after the other.
use Rattle.std.specs.Prelude.{Err}
use mathlib.Core.Path.{◌≡◌, refl, sym, ◌∙◌, subst}
use mathlib.Core.Bool.{Bool, true, false, ◌||◌}
use mathlib.Core.List.{List, [], ◌∷◌}
use Prim.Native.Nat.{ℕ, suc, ◌+◌, ◌-◌, ◌≤◌, ◌<◌}
use native.Mathlib.Numerals.{add-one}
use native.Mathlib.Omega.{arith}
use lib.Dec.{eqb, ltb, lit≤}
use lib.ListN.{length}
use borrow.Author.Tests.{ltb-true, ltb-false, eqb-true, eqb-false, eq-eqb, ne_eqb}
use Rattle.loops.specs.Loops.{all, any}
use Rattle.loops.proofs.Laws.{all-each}
use Rattle.step.proofs.Lines.{split}
use Rattle.step.proofs.RunLaws.{rule-within}
use Rattle.step.proofs.Touch.{unlike}
use Rattle.network.specs.declared.Net.{Net}
use Rattle.fraction.specs.Exact.{is_same}
use Rattle.network.specs.Network.{arc_at, is_root}
use Rattle.network.specs.Legal.{Legal}
use Rattle.step.specs.Outcome.{Outcome}
use Rattle.step.specs.declared.Halt.TheVariants.{Passes}
use Rattle.step.specs.declared.Next.{Next}
use Rattle.step.specs.declared.Next.TheVariants.{Stops, Refuted, Takes}
use Rattle.step.specs.Run.{Rule, rule_from, rule_of, or_else, upward, next_from, is_found}
use Rattle.closed_arc.specs.ClosedArc.{closed_arc}
use Rattle.costly_arc.specs.CostlyArc.{is_open_root, costly_arc}
use Rattle.costly_arc.proofs.Upward.{Reached, upward-at, upward-none, or_rest, else-rest, upward-rest}
use Rattle.costly_arc.proofs.Pairs.{none_any}
use Rattle.costly_arc.proofs.Passing.{no-open-root}
use Rattle.parallel_arcs.specs.ParallelArcs.{parallel_arc}
use Rattle.rules.specs.Tried.{is_of_nodes}
use Rattle.rules.specs.Table.{rules, last_rule, next_of}

-- the step that was found stays, whatever comes after; where none was, what comes after counts
stays : (n rest : Next) → is_found n ≡ true → n ≡ or_rest n rest
stays Stops rest f = unlike f
stays (Refuted k i) rest f = refl
stays (Takes s) rest f = refl

past : (n rest : Next) → is_found n ≡ false → rest ≡ or_rest n rest
past Stops rest f = refl
past (Refuted k i) rest f = unlike (sym f)
past (Takes s) rest f = unlike (sym f)

-- ---- one rule; x is the answer at place i, as the code has it

module _ {rule : ℕ → Outcome} {k last i : ℕ} (h : Reached rule k last Stops i) where
  module _ (l : i ≤ last) {x : Next} (e : x ≡ or_else k i (rule i) Stops) where
    abbrev here : Next
    here = or_else k i (rule i) Stops

    step_is : upward rule k last 1 Stops ≡ or_rest here (upward rule k (last + 1 - (i + 1)) (i + 1) Stops)
    step_is = h.is ∙ upward-at rule k last Stops i l ∙ else-rest k i (rule i) Stops _ refl

    pub reached-on : is_found x ≡ false → Reached rule k last Stops (i + 1)
    reached-on f = record { upto = omega arith; is = step_is ∙ sym (past here _ (rw e at f)) }

    pub reached-answer : is_found x ≡ true → x ≡ upward rule k last 1 Stops
    reached-answer f = e ∙ (stays here _ (rw e at f) ∙ sym step_is)

  -- the rule passes at all places from i on
  pub reached-end : {x : Next} → x ≡ Stops → ((j : ℕ) → i ≤ j → rule j ≡ Err Passes) → x ≡ upward rule k last 1 Stops
  reached-end e f = e ∙ (sym (h.is ∙ upward-none rule k Stops (last + 1 - i) i (λ j l m. f j l)))

-- ---- rule 4: no arc up to number m is a root arc without upper bound

abbrev pub root_at : Net → ℕ → Bool
root_at net k = is_open_root (arc_at net k) (arc_at net k).from

pub unused-none : {net : Net} → Legal net → (k : ℕ) → (arc_at net k).from ≡ 0 → root_at net k ≡ false
unfolding is_open_root is_root is_same
unused-none g k e = rw (g.unused k e)

pub no_root : {net : Net} {x : Next} → Legal net → false ≡ any (root_at net) (net.m + 1) → x ≡ Stops → x ≡ upward (costly_arc net) 4 96 1 Stops
no_root {net} g h e =
    e ∙ (sym (no-open-root net Stops (λ k m. split (ltb k (net.m + 1)) (λ f. none_any _ _ (sym h) k (ltb-true _ _ f)) (λ f. unused-none g k (g.arcs_beyond k (omega (arith, ltb-false k (net.m + 1) f)))))))

-- ---- what this rule finds, and what comes after it: a is what this one finds

module _ (rule : ℕ → Outcome) (k last : ℕ) (rest : Next) {a : Next} (e : a ≡ upward rule k last 1 Stops) where
  found_here : is_found a ≡ true → a ≡ upward rule k last 1 rest
  found_here f = e ∙ (stays (upward rule k last 1 Stops) rest (rw e at f) ∙ sym (upward-rest rule k rest last 1))

  found-later : is_found a ≡ false → rest ≡ upward rule k last 1 rest
  found-later f = past (upward rule k last 1 Stops) rest (rw e at f) ∙ sym (upward-rest rule k rest last 1)

-- ---- but for 1, 4 and 7 the rules go over the nodes

past-false : (a d : Bool) → a ≡ false → (a || d) ≡ true → d ≡ true
past-false true d q e = unlike (sym q)
past-false false d q e = e

pub of-nodes : (k : ℕ) → 2 ≤ k → k ≤ last_rule → (k ≡ 4 → ⊥) → (k ≡ 7 → ⊥) → is_of_nodes k ≡ true
unfolding all rule_from
of-nodes k l m n o =
    past-false (eqb k 7) _ (ne_eqb k 7 o)
    (past-false (eqb k 4) _ (ne_eqb k 4 n)
    (past-false (eqb k 1) _ (ne_eqb k 1 (λ z. omega arith))
    (past-false (eqb k 0) _ (ne_eqb k 0 (λ z. omega arith)) (all-each (λ k. eqb k 0 || (eqb k 1 || (eqb k 4 || (eqb k 7 || is_of_nodes k)))) (last_rule + 1) refl k (omega arith)))))

-- a number with places is a rule's, and behind the last rule there is none
pub is_within_lem : (k : ℕ) → ltb 0 (rule_of rules k).last ≡ true → k ≤ last_rule
is_within_lem k e = omega (arith, rule-within 1 rules k (omega (arith, ltb-true 0 (rule_of rules k).last e)))

pub none_left : (k : ℕ) → 2 ≤ k → ltb 0 (rule_of rules k).last ≡ false → last_rule < k
unfolding rule_from
none_left k l e =
    split (ltb last_rule k) (λ f. ltb-true last_rule k f)
    (λ f. split (eqb k 4) (λ q. unlike (sym (rw (eqb-true k 4 q) at e)))
    (λ q. split (eqb k 7) (λ r. unlike (sym (rw (eqb-true k 7 r) at e)))
    (λ r. let n = of-nodes k l (ltb-false last_rule k f) (eqb-false k 4 q) (eqb-false k 7 r) in unlike (sym (rw (eqb-true (rule_of rules k).last 32 n) at e)))))

-- what the scans find, by the rule's number
module _ (net : Net) (k : ℕ) {a : Next} where
  pub by-nodes : is_of_nodes k ≡ true → a ≡ upward ((rule_of rules k).at net) k 32 1 Stops → a ≡ upward ((rule_of rules k).at net) k (rule_of rules k).last 1 Stops
  by-nodes n e = rw (eqb-true (rule_of rules k).last 32 n) e

  pub by-costly : k ≡ 4 → a ≡ upward (costly_arc net) 4 96 1 Stops → a ≡ upward ((rule_of rules k).at net) k (rule_of rules k).last 1 Stops
  unfolding rule_from
  by-costly q e = rw q e

  pub by-parallel : k ≡ 7 → a ≡ upward (parallel_arc net) 7 96 1 Stops → a ≡ upward ((rule_of rules k).at net) k (rule_of rules k).last 1 Stops
  unfolding rule_from
  by-parallel q e = rw q e

-- ---- the rules one after the other: at the head of the loop, those before number k find nothing

pub record From (net : Net) (k : ℕ) : Type 0 where
  pub later : List Rule
  pub many : length later + k ≡ last_rule + 1
  pub is : next_of net ≡ next_from (length later) k later net
  pub rule : (r : ℕ) → k ≤ r → rule_from k later r ≡ rule_of rules r

pub from_first : (net : Net) → From net 1
from_first net = record { later = rules; many = refl; is = refl; rule = λ r l. refl }

-- a is what rule k finds: rule k is the first of those that are left
module _ {net : Net} {k : ℕ} (h : From net k) (l : k ≤ last_rule) {a : Next} (e : a ≡ upward ((rule_of rules k).at net) k (rule_of rules k).last 1 Stops) where
  found-by : (R : Rule) (rs : List Rule) → rule_from k (R ∷ rs) k ≡ rule_of rules k → a ≡ upward (R.at net) k R.last 1 Stops
  unfolding rule_from
  found-by R rs q = subst (λ (R : Rule). a ≡ upward (R.at net) k R.last 1 Stops) (sym (rw (eq-eqb k k refl) at q)) e

  pub from_here : is_found a ≡ true → a ≡ next_of net
  unfolding next_from
  from_here f = by h.later h.many h.is (h.rule k (omega arith))
    where
      by : (rs : List Rule) → length rs + k ≡ last_rule + 1 → next_of net ≡ next_from (length rs) k rs net → rule_from k rs k ≡ rule_of rules k → a ≡ next_of net
      by [] m i q = absurd (omega (arith, m))
      by (R ∷ rs) m i q = found_here (R.at net) k R.last (next_from (length rs) (suc k) rs net) (found-by R rs q) f ∙ (sym i)

  pub from_more : is_found a ≡ false → From net (k + 1)
  unfolding next_from rule_from
  from_more f = rw (add-one k) (by h.later h.many h.is h.rule)
    where
      by : (rs : List Rule) → length rs + k ≡ last_rule + 1 → next_of net ≡ next_from (length rs) k rs net → ((r : ℕ) → k ≤ r → rule_from k rs r ≡ rule_of rules r) → From net (suc k)
      by [] m i q = absurd (omega (arith, m))
      by (R ∷ rs) m i q =
          record {
            later = rs;
            many = omega (arith, m, add-one k, add-one (length rs));
            is = i ∙ sym (found-later (R.at net) k R.last (next_from (length rs) (suc k) rs net) (found-by R rs (q k (omega arith))) f);
            rule = λ r o. rw (ne_eqb r k (λ z. omega (arith, add-one k))) at (q r (omega (arith, add-one k)));
          }

-- rule 1 is the first
module _ (net : Net) {a : Next} (e : a ≡ upward (closed_arc net) 1 96 1 Stops) where
  pub closed-here : is_found a ≡ true → a ≡ next_of net
  unfolding rule_from
  closed-here = from_here (from_first net) (lit≤ tt) e

  pub closed-later : is_found a ≡ false → From net 2
  unfolding rule_from
  closed-later = from_more (from_first net) (lit≤ tt) e

pub from-done : {net : Net} {k : ℕ} → From net k → last_rule < k → {a : Next} → a ≡ Stops → a ≡ next_of net
unfolding next_from
from-done {net} {k} h l {a} e = e ∙ by h.later h.many h.is
  where
    by : (rs : List Rule) → length rs + k ≡ last_rule + 1 → next_of net ≡ next_from (length rs) k rs net → Stops ≡ next_of net
    by [] m i = (sym i)
    by (R ∷ rs) m i = absurd (omega (arith, m, add-one (length rs)))
