-- A rule at its places upward.
use Rattle.std.specs.Prelude.{Ok, Err}
use mathlib.Core.Path.{◌≡◌, refl, sym, ◌∙◌}
use Prim.Native.Nat.{ℕ, zero, suc, ◌+◌, ◌-◌, ◌≤◌, ◌<◌}
use native.Mathlib.Numerals.{add-one}
use native.Mathlib.Omega.{arith}
use Rattle.step.specs.declared.Change.{Change}
use Rattle.step.specs.Outcome.{Outcome}
use Rattle.step.specs.declared.Halt.TheVariants.{Passes, NoFlow}
use Rattle.step.specs.declared.Next.{Next}
use Rattle.step.specs.declared.Next.TheVariants.{Stops, Refuted, Takes}
use Rattle.step.specs.Run.{or_else, upward}

-- ---- a loop that asks a rule at the places 1 to last, and stops at the first answer: at its head, with none below i

module _ (rule : ℕ → Outcome) (k last : ℕ) (rest : Next) where
  pub record Reached (i : ℕ) : Type 0 where
    pub upto : i ≤ last + 1
    pub is : upward rule k last 1 rest ≡ upward rule k (last + 1 - i) i rest

  pub upward-at : (i : ℕ) → i ≤ last → upward rule k (last + 1 - i) i rest ≡ or_else k i (rule i) (upward rule k (last + 1 - (i + 1)) (i + 1) rest)
  unfolding upward
  upward-at i l =
      let e : last + 1 - i ≡ suc (last + 1 - (i + 1)) = omega (arith, add-one (last + 1 - (i + 1))) in
      rw (e, add-one i) refl

  pub reached-none : Reached 1
  reached-none = let e : last + 1 - 1 ≡ last = omega arith in record { upto = omega arith; is = rw e refl }

  pub reached-more : {i : ℕ} → Reached i → i ≤ last → rule i ≡ Err Passes → Reached (i + 1)
  reached-more {i} h l e = record { upto = omega arith; is = h.is ∙ upward-at i l ∙ rw e refl }

  pub reached-found : {i : ℕ} {c : Change} → Reached i → i ≤ last → rule i ≡ Ok c → Takes (record { rule = k; place = i; change = c }) ≡ upward rule k last 1 rest
  reached-found {i} h l e = sym (h.is ∙ upward-at i l ∙ rw e refl)

  pub reached-all : {i : ℕ} → Reached i → last < i → rest ≡ upward rule k last 1 rest
  unfolding upward
  reached-all {i} h l = let e : last + 1 - i ≡ 0 = omega arith in sym (h.is ∙ rw e refl)

-- where a rule passes everywhere, nothing is found
pub upward-none : (rule : ℕ → Outcome) (k : ℕ) (rest : Next) → (many i : ℕ) → ((j : ℕ) → i ≤ j → j < i + many → rule j ≡ Err Passes) → upward rule k many i rest ≡ rest
unfolding upward
upward-none rule k rest zero i h = refl
upward-none rule k rest (suc many) i h = rw (h i (omega arith) (omega (arith, add-one many))) (upward-none rule k rest many (suc i) (λ j l m. h j (omega (arith, add-one i)) (omega (arith, add-one i, add-one many))))

-- what comes after the rule counts where the rule finds nothing
abbrev pub or_rest : Next → Next → Next
or_rest Stops rest = rest
or_rest (Refuted k i) rest = Refuted k i
or_rest (Takes s) rest = Takes s

pub else-rest : (k i : ℕ) (x : Outcome) (n rest : Next) {m : Next} → m ≡ or_rest n rest → or_else k i x m ≡ or_rest (or_else k i x n) rest
else-rest k i (Err Passes) n rest e = e
else-rest k i (Err NoFlow) n rest e = refl
else-rest k i (Ok c) n rest e = refl

pub upward-rest : (rule : ℕ → Outcome) (k : ℕ) (rest : Next) (many i : ℕ) → upward rule k many i rest ≡ or_rest (upward rule k many i Stops) rest
unfolding upward
upward-rest rule k rest zero i = refl
upward-rest rule k rest (suc many) i = else-rest k i (rule i) _ rest (upward-rest rule k rest many (suc i))
