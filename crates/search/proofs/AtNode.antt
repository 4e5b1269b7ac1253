-- What the list tells of a node: its degree, and the arcs there.
use Rattle.std.specs.Prelude.{Err}
use mathlib.Core.Path.{◌≡◌, refl, sym, ap, ◌∙◌}
use mathlib.Core.Bool.{Bool, true, false, ◌&&◌, and-false}
use mathlib.Core.List.{List}
use Prim.Native.Nat.{ℕ, zero, suc, ◌+◌, ◌-◌, ◌≤◌, ◌<◌}
use native.Mathlib.Numerals.{add-one}
use native.Mathlib.Omega.{arith}
use lib.Dec.{eqb, ltb}
use lib.ListN.{get_or}
use borrow.Author.Tests.{ne_eqb, eqb-true, eqb-false, ltb-true}
use Rattle.fraction.proofs.Laws.{and_both}
use Rattle.loops.specs.Loops.{count}
use Rattle.network.specs.declared.Arc.{Arc}
use Rattle.network.specs.declared.ArcUpdate.{ArcUpdate}
use Rattle.network.specs.declared.Net.{Net}
use Rattle.network.specs.declared.Nodes.{Nodes}
use Rattle.network.specs.ArcList.{net_in, record_at}
use Rattle.network.proofs.Lists.{arc-is}
use Rattle.network.specs.Network.{arc_at, supply_at, is_here, is_touching, degree_of, AreDegreesTo, touching_after}
use Rattle.network.specs.Legal.{Legal}
use Rattle.network.proofs.Kept.{here-number}
use Rattle.step.specs.declared.Next.{Next}
use Rattle.step.specs.declared.Around.{Around}
use Rattle.step.specs.declared.Halt.TheVariants.{Passes}
use Rattle.step.specs.Around.{Near, Given}
use Rattle.step.specs.Run.{or_else, rule_of}
use Rattle.step.specs.Back.{old_arc}
use Rattle.step.proofs.Lines.{split}
use Rattle.step.proofs.Touch.{touching-first}
use Rattle.rules.specs.Table.{rules}
use Rattle.step.specs.declared.Next.TheVariants.{Stops}
use Rattle.rules.specs.declared.tried.Asks.{Asks}
use Rattle.rules.specs.Tried.{is_of_nodes, asks_of, may_apply}
use Rattle.rules.proofs.Whole.{node-unused, at_nodes}

-- ---- the degrees by the numbers up to m

count-stop : (p : ℕ → Bool) (n k : ℕ) → ((j : ℕ) → n ≤ j → p j ≡ false) → count p (k + n) ≡ count p n
unfolding count
count-stop p n zero h = let e : 0 + n ≡ n = omega arith in rw e
count-stop p n (suc k) h = let e : suc k + n ≡ suc (k + n) = omega (arith, add-one k, add-one (k + n)) in rw (e, h (k + n) (omega arith)) (count-stop p n k h)

module _ {net : Net} (g : Legal net) where
  untouched : (i j : ℕ) → 1 ≤ i → net.m < j → is_touching (arc_at net j) i ≡ false
  unfolding is_touching
  untouched i j l m = rw (g.unused j (g.arcs_beyond j m), ne_eqb 0 i (λ z. omega arith))

  pub degrees-are : (ds : List ℕ) → AreDegreesTo net net.m ds → (i : ℕ) → 1 ≤ i → i < 33 → get_or ds i 0 ≡ degree_of net i
  unfolding degree_of
  degrees-are ds h i l m =
      h i m ∙ split (ltb net.m 96)
      (λ e. let n : 96 - net.m + (net.m + 1) ≡ 97 = omega (arith, ltb-true net.m 96 e) in
      rw e (sym (count-stop (λ j. is_touching (arc_at net j) i) (net.m + 1) (96 - net.m) (λ j k. untouched i j l (omega arith))) ∙ ap (count (λ j. is_touching (arc_at net j) i)) n))
      (λ e. rw e)

  -- rule k of nodes, which asks for `asks`, at node i
  module _ (ds : List ℕ) (are : AreDegreesTo net net.m ds) (i : ℕ) (m : i < 33) (k : ℕ) (n : is_of_nodes k ≡ true) {asks : Asks} (q : asks ≡ asks_of k) where
    -- it answers by what it is given
    pub answered : (eqb (get_or ds i 0) asks.degree && is_here net i) ≡ true → {near : Around} → Near net i asks.degree near → {x : Next} → x ≡ or_else k i ((rule_of rules k).trial.by net.constant net.supply i asks.degree near) Stops → x ≡ or_else k i ((rule_of rules k).at net i) Stops
    answered e {near} a x =
        let b = and_both (eqb (get_or ds i 0) asks.degree) _ e in
        let given : Given net net.constant net.supply i asks.degree near = record { legal = g; here = b.1; constant_is = refl; supplies = refl; degree = sym (degrees-are ds are i (here-number g i b.1).0 m) ∙ eqb-true _ _ b.0; arcs = a } in
        x ∙ ap (λ o. or_else k i o Stops) ((at_nodes k n).given given)

    -- where it is not in use or not of that degree, or not of that supply, the rule passes
    pub elsewhere : 1 ≤ i → (eqb (get_or ds i 0) asks.degree && is_here net i) ≡ false → (rule_of rules k).at net i ≡ Err Passes
    elsewhere l e =
        split (eqb (get_or ds i 0) asks.degree) (λ f. node-unused g k i n (rw f at e))
        (λ f. (at_nodes k n).elsewhere net i (rw (ne_eqb (degree_of net i) (asks_of k).degree (λ z. eqb-false _ _ f (degrees-are ds are i l m ∙ z ∙ sym (ap (λ (a : Asks). a.degree) q))), and-false)))

    pub not-supplied : may_apply asks (supply_at net i) ≡ false → (rule_of rules k).at net i ≡ Err Passes
    not-supplied e = (at_nodes k n).elsewhere net i (rw (rw q at e))

-- the arcs at a node, as the list has them
pub old-is : (nodes : Nodes) (xs : List Arc) (i k : ℕ) {a : ℕ} {t : Arc} {u : ArcUpdate} → u ≡ record { number = a; arc = t } → t ≡ record_at xs a → a ≡ touching_after (net_in nodes xs) i k → u ≡ old_arc (net_in nodes xs) (touching_after (net_in nodes xs) i k)
old-is nodes xs i k {a} {t} {u} p q e = p ∙ ap (λ (t : Arc). record { number = a; arc = t }) (q ∙ arc-is nodes xs a (omega (arith, e, (touching-first (net_in nodes xs) i k).within))) ∙ ap (old_arc (net_in nodes xs)) e

-- and the next one
pub after_is : (net : Net) (i : ℕ) {j : ℕ} {u v : ArcUpdate} → u ≡ old_arc net j → v ≡ old_arc net (touching_after net i u.number) → v ≡ old_arc net (touching_after net i j)
after_is net i a b = b ∙ ap (λ (u : ArcUpdate). old_arc net (touching_after net i u.number)) a
