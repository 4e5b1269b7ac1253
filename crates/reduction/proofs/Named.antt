-- Where the search answers no flow, the rule that it names shows it at the place that it names.
use Rattle.std.specs.Prelude.{Ok, Err}
use mathlib.Core.Path.{◌≡◌, refl}
use mathlib.Core.List.{List, [], ◌∷◌}
use mathlib.Core.Logic.{◌⊎◌, inl, inr, ⊎_elim}
use Prim.Native.Nat.{ℕ, zero, suc, ◌+◌, ◌≤◌, ◌<◌}
use native.Mathlib.Numerals.{add-one}
use native.Mathlib.Omega.{arith}
use lib.ListN.{length}
use borrow.Author.Tests.{eq-eqb, ne_eqb}
use Rattle.fraction.proofs.Laws.{never}
use Rattle.network.specs.declared.Net.{Net}
use Rattle.step.specs.Outcome.{Outcome}
use Rattle.step.specs.declared.Halt.TheVariants.{Passes, NoFlow}
use Rattle.step.specs.declared.Next.{Next}
use Rattle.step.specs.declared.Next.TheVariants.{Refuted}
use Rattle.step.specs.Applies.{Shown}
use Rattle.step.specs.Run.{Rule, rule_from, or_else, upward, next_from, next_by}

-- at one of the places, or what comes after them
upward-shown : (rule : ℕ → Outcome) (k many from : ℕ) (rest : Next) (r i : ℕ) → upward rule k many from rest ≡ Refuted r i → ((r ≡ k) × (from ≤ i) × (i < from + many) × (rule i ≡ Err NoFlow)) ⊎ (rest ≡ Refuted r i)
unfolding upward
upward-shown rule k zero from rest r i e = inr e
upward-shown rule k (suc many) from rest r i e = by (rule from) refl e (upward-shown rule k many (suc from) rest r i)
  where
    by : (o : Outcome) → rule from ≡ o → or_else k from o (upward rule k many (suc from) rest) ≡ Refuted r i → (upward rule k many (suc from) rest ≡ Refuted r i → ((r ≡ k) × (suc from ≤ i) × (i < suc from + many) × (rule i ≡ Err NoFlow)) ⊎ (rest ≡ Refuted r i)) → ((r ≡ k) × (from ≤ i) × (i < from + suc many) × (rule i ≡ Err NoFlow)) ⊎ (rest ≡ Refuted r i)
    by (Err Passes) f e on = later (on e)
      where
        later : ((r ≡ k) × (suc from ≤ i) × (i < suc from + many) × (rule i ≡ Err NoFlow)) ⊎ (rest ≡ Refuted r i) → ((r ≡ k) × (from ≤ i) × (i < from + suc many) × (rule i ≡ Err NoFlow)) ⊎ (rest ≡ Refuted r i)
        later (inl h) = inl (h.0, omega (arith, h.1, add-one from), omega (arith, h.2, add-one from, add-one many), h.3)
        later (inr h) = inr h
    by (Err NoFlow) f e on = let p : from ≡ i = cc in inl (cc, omega arith, omega (arith, add-one many), rw (← p) f)
    by (Ok c) f e on = never cc

-- by one of the rules, of numbers k upward
from-shown : (h k : ℕ) (rules : List Rule) (net : Net) (r i : ℕ) → next_from h k rules net ≡ Refuted r i → (k ≤ r) × (r < k + length rules) × (1 ≤ i) × (i ≤ (rule_from k rules r).last) × ((rule_from k rules r).at net i ≡ Err NoFlow)
unfolding next_from rule_from
from-shown zero k [] net r i e = never cc
from-shown zero k (R ∷ rules) net r i e = never cc
from-shown (suc h) k [] net r i e = never cc
from-shown (suc h) k (R ∷ rules) net r i e =
    ⊎_elim (λ f. let q = f.0 in rw (eq-eqb r k q) (omega arith, omega (arith, add-one (length rules)), f.1, omega (arith, f.2), f.3))
    (λ f. let g = from-shown h (suc k) rules net r i f in rw (ne_eqb r k (λ z. omega (arith, g.0, add-one k))) (omega (arith, g.0, add-one k), omega (arith, g.1, add-one k, add-one (length rules)), g.2, g.3, g.4))
    (upward-shown (R.at net) k R.last 1 _ r i e)

pub next-shown : (h : ℕ) (rules : List Rule) (net : Net) (r i : ℕ) → next_by h rules net ≡ Refuted r i → Shown rules net r i
next-shown h rules net r i e = let f = from-shown h 1 rules net r i e in record { rule = (f.0, omega (arith, f.1)); place = (f.2, f.3); shows = f.4 }
