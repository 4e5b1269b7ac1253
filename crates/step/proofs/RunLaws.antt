-- THE COMMON ARGUMENT: what holds of each rule of a table holds of the search, of a whole run, and of the way back over it.
use Rattle.std.specs.Prelude.{Ok, Err}
use mathlib.Core.Path.{◌≡◌, refl, sym, ap, ◌∙◌, subst}
use mathlib.Core.Bool.{true, false, cond}
use mathlib.Core.List.{List, [], ◌∷◌}
use Prim.Native.Nat.{ℕ, zero, suc, ◌+◌, ◌≤◌, ◌<◌}
use native.Mathlib.Decide.{ℕ_discrete}
use native.Mathlib.Numerals.{add-one}
use native.Mathlib.Omega.{arith}
use lib.Dec.{eqb}
use lib.ListN.{length}
use borrow.Author.Tests.{eq-eqb, ne_eqb, eqb-true, eqb-false}
use Rattle.presolve.specs.LP as LP
use Rattle.presolve.proofs.Step.{SoundStep, stay, then, no_flow}
use Rattle.fraction.proofs.Laws.{never}
use Rattle.network.specs.declared.Net.{Net}
use Rattle.network.specs.declared.pair.Pair.{Pair}
use Rattle.network.specs.Limits.{max_nodes}
use Rattle.network.specs.Network.{applied}
use Rattle.network.specs.Legal.{Legal}
use Rattle.network.specs.Pair.{exact_pair}
use Rattle.network.specs.Program.{program_of}
use Rattle.step.specs.declared.Change.{Change}
use Rattle.step.specs.Outcome.{Outcome}
use Rattle.step.specs.declared.Halt.TheVariants.{Passes, NoFlow}
use Rattle.step.specs.declared.Restored.{Restored}
use Rattle.step.specs.Back.{Undone}
use Rattle.step.specs.declared.Step.{Step}
use Rattle.step.specs.declared.Next.{Next}
use Rattle.step.specs.declared.Next.TheVariants.{Stops, Refuted, Takes}
use Rattle.step.specs.Back.{restored}
use Rattle.step.specs.Applies.{Passing, NoneApplies}
use Rattle.step.specs.Run.{Rule, or_else, upward, next_from, next_by, Run, run_by, run_of, rule_from, back_of, Way, at, arrived, undo, way_back}
use Rattle.step.proofs.Fewer.{left_of}
use Rattle.step.proofs.Figures.{Sized, Holds, itself}
use Rattle.step.proofs.Each.{All}
use Rattle.step.proofs.Lines.{split}
use Rattle.step.proofs.Touch.{unlike}
use Rattle.step.proofs.Laws.{SmallStep, old-small, Right, in_use, AtNodes, RuleLaws, put_back_all, put-back}

-- ---- the table

-- each rule's laws, where the rules before it pass; P is known of the network at the start
abbrev pub Lawful : (Net → Type 0) → List Rule → Type 0
Lawful P [] = Unit {0}
Lawful P (R ∷ rules) = RuleLaws P R × Lawful (λ net. P net × Passing R net) rules

-- a rule of the table, by its number: its places, that it passes at a number not in use, and how it is tried at nodes
pub rule-places : (P : Net → Type 0) (k : ℕ) (rules : List Rule) → Lawful P rules → (r : ℕ) → (rule_from k rules r).last ≤ 96
unfolding rule_from
rule-places P k [] laws r = omega arith
rule-places P k (R ∷ rules) laws r = split (eqb r k) (λ e. rw e laws.0.few_places) (λ e. rw e (rule-places _ (suc k) rules laws.1 r))

pub rule-unused : (P : Net → Type 0) (k : ℕ) (rules : List Rule) → Lawful P rules → (net : Net) → Legal net → (r i : ℕ) → in_use (rule_from k rules r) net i ≡ false → (rule_from k rules r).at net i ≡ Err Passes
unfolding rule_from
rule-unused P k [] laws net g r i = λ h. refl
rule-unused P k (R ∷ rules) laws net g r i = split (eqb r k) (λ e. rw e (laws.0.unused net g i)) (λ e. rw e (rule-unused _ (suc k) rules laws.1 net g r i))

pub rule-at-nodes : (P : Net → Type 0) (k : ℕ) (rules : List Rule) → Lawful P rules → (r : ℕ) → eqb (rule_from k rules r).last max_nodes ≡ true → AtNodes (rule_from k rules r)
unfolding rule_from
rule-at-nodes P k [] laws r = λ h. unlike h
rule-at-nodes P k (R ∷ rules) laws r = split (eqb r k) (λ e. rw e laws.0.at_nodes) (λ e. rw e (rule-at-nodes _ (suc k) rules laws.1 r))

-- what has places is a rule of the table
pub rule-within : (k : ℕ) (rules : List Rule) (r : ℕ) → 1 ≤ (rule_from k rules r).last → r < k + length rules
unfolding rule_from
rule-within k [] r = λ h. absurd (omega arith)
rule-within k (R ∷ rules) r = split (eqb r k) (λ e h. omega (arith, eqb-true r k e, add-one (length rules))) (λ e. rw e (λ h. omega (arith, rule-within (suc k) rules r h, add-one k, add-one (length rules))))

-- ---- one rule at its places

-- what holds of no flow and of a change at any of them, and of the rest where all pass
upward-each : (P : Next → Type 0) (rule : ℕ → Outcome) (k many i : ℕ) (rest : Next) → ((j : ℕ) → rule j ≡ Err NoFlow → P (Refuted k j)) → ((j : ℕ) (c : Change) → j < i + many → rule j ≡ Ok c → P (Takes (record { rule = k; place = j; change = c })))
    → (((j : ℕ) → i ≤ j → j < i + many → rule j ≡ Err Passes) → P rest) → P (upward rule k many i rest)
unfolding upward
upward-each P rule k zero i rest r t p = p (λ j l h. absurd (omega arith))
upward-each P rule k (suc many) i rest r t p =
    by (rule i) refl (λ e. upward-each P rule k many (suc i) rest r (λ j c l. t j c (omega (arith, l, add-one i, add-one many))) (λ f. p (λ j l h. each e f j l h (ℕ_discrete j i))))
  where
    each : rule i ≡ Err Passes → ((j : ℕ) → suc i ≤ j → j < suc i + many → rule j ≡ Err Passes) → (j : ℕ) → i ≤ j → j < i + suc many → Dec (j ≡ i) → rule j ≡ Err Passes
    each e f j l h (yes z) = ap rule z ∙ e
    each e f j l h (no n) = f j (omega (arith, add-one i)) (omega (arith, add-one i, add-one many))

    by : (o : Outcome) → rule i ≡ o → (rule i ≡ Err Passes → P (upward rule k many (suc i) rest)) → P (or_else k i o (upward rule k many (suc i) rest))
    by (Err NoFlow) e on = r i e
    by (Ok c) e on = t i c (omega (arith, add-one many)) e
    by (Err Passes) e on = on e

-- ---- the search

pub record NextLaws (net : Net) (back : Step → Pair → Undone) (n : Next) : Type 0 where
  pub refuted : (k i : ℕ) → n ≡ Refuted k i → LP.NoFlow (program_of net)
  pub taken : (s : Step) → n ≡ Takes s → Right net s.change (back s)
  pub small : (s : Step) → n ≡ Takes s → SmallStep s

-- a step by one of the rules, of numbers k upward
record From (net : Net) (k : ℕ) (rules : List Rule) (s : Step) : Type 0 where
  right : Right net s.change ((rule_from k rules s.rule).back s.change.old)
  low : k ≤ s.rule
  high : s.rule < k + length rules
  place : s.place ≤ 96

abbrev FromNext : Net → ℕ → List Rule → Next → Type 0
FromNext net k rules Stops = Unit {0}
FromNext net k rules (Refuted a i) = LP.NoFlow (program_of net)
FromNext net k rules (Takes s) = From net k rules s

from-laws : (P : Net → Type 0) (h k : ℕ) (rules : List Rule) → Lawful P rules → (net : Net) → Legal net → P net → FromNext net k rules (next_from h k rules net)
unfolding next_from rule_from
from-laws P zero k rules laws net g p = tt
from-laws P (suc h) k [] laws net g p = tt
from-laws P (suc h) k (R ∷ rules) laws net g p =
    upward-each (FromNext net k (R ∷ rules)) (R.at net) k R.last 1 (next_from h (suc k) rules net) (laws.0.no_flow net g p)
    (λ j c l e. record {
      right = subst (λ b. Right net c ((cond b R (rule_from (suc k) rules k)).back c.old)) (sym (eq-eqb k k refl)) (laws.0.right net g p j e);
      low = omega arith;
      high = omega (arith, add-one (length rules));
      place = omega (arith, l, laws.0.few_places);
    })
    (λ f. later (next_from h (suc k) rules net) (from-laws (λ net. P net × Passing R net) h (suc k) rules laws.1 net g (p, λ i l m. f i l (omega arith))))
  where
    later : (n : Next) → FromNext net (suc k) rules n → FromNext net k (R ∷ rules) n
    later Stops r = tt
    later (Refuted a i) r = r
    later (Takes s) r =
        record {
          right =
              subst (λ b. Right net s.change ((cond b R (rule_from (suc k) rules s.rule)).back s.change.old))
              (sym (ne_eqb s.rule k (λ z. omega (arith, r.low, add-one k)))) r.right;
          low = omega (arith, r.low, add-one k);
          high = omega (arith, r.high, add-one k, add-one (length rules));
          place = r.place;
        }

-- the next step of rules 1 to h, with the way back of the whole table
pub next-laws : (rules : List Rule) → Lawful (λ net. Unit {0}) rules → length rules ≤ 96 → (h : ℕ) (net : Net) → Legal net → NextLaws net (back_of rules) (next_by h rules net)
next-laws rules laws few h net g =
    let n : (m : Next) → next_by h rules net ≡ m → FromNext net 1 rules m = λ m e. subst (FromNext net 1 rules) e (from-laws (λ net. Unit {0}) h 1 rules laws net g tt) in
    record {
      refuted = λ k i. n (Refuted k i);
      taken = λ s e. (n (Takes s) e).right;
      small = λ s e. let f = n (Takes s) e in record { rule = omega (arith, f.high, few); place = omega (arith, f.place); old = old-small g f.right.handed_on };
    }

-- where the search finds nothing, no rule applies at any place
from-none : (h k : ℕ) (rules : List Rule) (net : Net) → next_from h k rules net ≡ Stops → (r : ℕ) → k ≤ r → r < k + h → Passing (rule_from k rules r) net
unfolding next_from rule_from
from-none zero k rules net e r l m = absurd (omega arith)
from-none (suc h) k [] net e r l m = λ i a b. refl
from-none (suc h) k (R ∷ rules) net e r l m =
    upward-each (λ n. n ≡ Stops → Passing (cond (eqb r k) R (rule_from (suc k) rules r)) net) (R.at net) k R.last 1 (next_from h (suc k) rules net) (λ j f q. never cc) (λ j c l f q. never cc)
    (λ f q. split (eqb r k) (λ w. rw w (λ i a b. f i a (omega arith))) (λ w. rw w (let n = eqb-false r k w in from-none h (suc k) rules net q r (omega (arith, add-one k)) (omega (arith, add-one k, add-one h))))) e

pub stops-none : (h : ℕ) (rules : List Rule) (net : Net) → next_by h rules net ≡ Stops → NoneApplies h rules net
stops-none h rules net e r l m = from-none h 1 rules net e r l (omega (arith, m))

-- ---- the run

pub record RunLaws (net : Net) (back : Step → Pair → Undone) (run : Run) : Type 0 where
  -- what is left is a legal network, and each step took a node or an arc
  pub legal : Legal run.net
  pub few : length run.steps + left_of run.net ≤ left_of net
  -- every step fits words, and their old arcs put back, the last step's first, give the arcs from before
  pub small : All SmallStep run.steps
  pub put-back : (put_back_all run.steps run.net).arcs ≡ net.arcs
  -- a sound step in exact numbers, which the way back in fractions follows where it fits
  pub exact : LP.Pair → LP.Pair
  pub sound : SoundStep (program_of net) (program_of run.net) exact
  pub agrees : (pair : Pair) → Sized pair → {q : Pair} → way_back back run.steps (at pair) ≡ at q → Holds q (exact (exact_pair pair))
  -- no flow is right
  pub flowless : (k i : ℕ) → run.ends ≡ Refuted k i → LP.NoFlow (program_of net)

at-is : {p q : Pair} → ◌≡◌ {A = Way} (at p) (at q) → p ≡ q
at-is e = cc

-- a way that arrives: what was undone last, and where it arrived before
undo-met : (back : Pair → Undone) (way : Way) {q : Pair} → undo back way ≡ at q → (p : Pair) × (r : Restored) × (way ≡ at p) × (back p ≡ Ok r) × (restored p r ≡ q)
undo-met back (Err m) e = never cc
undo-met back (Ok p) {q} e = by (back p) refl e
  where
    by : (u : Undone) → back p ≡ u → arrived u p ≡ at q → (p' : Pair) × (r : Restored) × (at p ≡ at p') × (back p' ≡ Ok r) × (restored p' r ≡ q)
    by (Err m) f e = never cc
    by (Ok r) f e = (p, r, refl, f, at-is e)

module _ (next : Net → Next) (back : Step → Pair → Undone) (laws : (net : Net) → Legal net → NextLaws net back (next net)) where
  stay-laws : {net : Net} (n : Next) → Legal net → ((k i : ℕ) → n ≡ Refuted k i → LP.NoFlow (program_of net)) → RunLaws net back (record { steps = []; net = net; ends = n })
  unfolding way_back
  stay-laws {net} n g f = record { legal = g; few = omega arith; small = tt; put-back = refl; exact = λ s. s; sound = stay (program_of net); agrees = λ pair z {q} e. subst (λ q. Holds q (exact_pair pair)) (at-is e) (itself z); flowless = f }

  -- A WHOLE RUN
  pub run-laws : (many : ℕ) (net : Net) → Legal net → RunLaws net back (run_of next many net)
  unfolding run_of run_by way_back
  run-laws zero net g = stay-laws (next net) g (laws net g).refuted
  run-laws (suc many) net g = by (next net) refl (λ m h. run-laws many m h)
    where
      by : (n : Next) → next net ≡ n → ((m : Net) → Legal m → RunLaws m back (run_of next many m)) → RunLaws net back (run_by n (run_of next many) net)
      by Stops e on = stay-laws Stops g (λ k i q. never cc)
      by (Refuted a b) e on = stay-laws (Refuted a b) g (λ k i q. (laws net g).refuted a b e)
      by (Takes s) e on =
          let step = (laws net g).taken s e in
          let rest = on (applied net s.change.edit) step.legal in
          record {
            legal = rest.legal;
            few = omega (arith, rest.few, step.fewer, add-one (length (run_of next many (applied net s.change.edit)).steps));
            small = ((laws net g).small s e, rest.small);
            put-back = put-back g s.change step.legal step.handed_on _ rest.put-back;
            exact = λ p. step.exact (rest.exact p);
            sound = then step.sound rest.sound;
            agrees = λ pair z {q} w.
                let u = undo-met (back s) (way_back back (run_of next many (applied net s.change.edit)).steps (at pair)) w in
                let h = rest.agrees pair z u.2 in
                subst (λ q. Holds q (step.exact (rest.exact (exact_pair pair)))) u.4 (subst (λ x. Holds (restored u.0 u.1) (step.exact x)) h.exact (step.agrees u.0 h.sized u.3));
            flowless = λ k i q. no_flow step.sound (rest.flowless k i q);
          }

  -- "until none applies": with room for as many steps as there are nodes and arcs, no step is left
  pub run-done : (many : ℕ) (net : Net) → Legal net → left_of net ≤ many → (s : Step) → (run_of next many net).ends ≡ Takes s → ⊥
  unfolding run_of run_by
  run-done zero net g l s e = omega (arith, ((laws net g).taken s e).fewer)
  run-done (suc many) net g l s e = by (next net) refl e (λ m h k. run-done many m h k s)
    where
      by : (n : Next) → next net ≡ n → (run_by n (run_of next many) net).ends ≡ Takes s → ((m : Net) → Legal m → left_of m ≤ many → (run_of next many m).ends ≡ Takes s → ⊥) → ⊥
      by Stops q e on = never cc
      by (Refuted a b) q e on = never cc
      by (Takes t) q e on = let r = (laws net g).taken t q in on _ r.legal (omega (arith, r.fewer, add-one many)) e

  -- what the run ends with is what the search finds in what is left
  pub run_ends : (many : ℕ) (net : Net) → (run_of next many net).ends ≡ next (run_of next many net).net
  unfolding run_of run_by
  run_ends zero net = refl
  run_ends (suc many) net = by (next net) refl (λ m. run_ends many m)
    where
      by : (n : Next) → next net ≡ n → ((m : Net) → (run_of next many m).ends ≡ next (run_of next many m).net) → (run_by n (run_of next many) net).ends ≡ next (run_by n (run_of next many) net).net
      by Stops q on = sym q
      by (Refuted a b) q on = sym q
      by (Takes t) q on = on _

-- THE WAY BACK: a pair that solves what is left, brought back, is in form and solves the network given, at the same value
pub restored-solved : {net : Net} {back : Step → Pair → Undone} {run : Run} → RunLaws net back run → (pair : Pair) → Sized pair → LP.Solved (program_of run.net) (exact_pair pair)
    → {q : Pair} → way_back back run.steps (at pair) ≡ at q → Sized q × LP.Solved (program_of net) (exact_pair q) × (LP.value (program_of net) (exact_pair q).flow ≡ LP.value (program_of run.net) (exact_pair pair).flow)
restored-solved {net} r pair z h e =
    let w = r.agrees pair z e in
    (w.sized, subst (LP.Solved (program_of net)) (sym w.exact) (r.sound.solved (exact_pair pair) h), ap (λ (s : LP.Pair). LP.value (program_of net) s.flow) w.exact ∙ r.sound.same_value (exact_pair pair))
