-- A rule that answers has met its lines one after the other.
use mathlib.Core.Path.{◌≡◌, refl}
use mathlib.Core.Bool.{Bool, true, false, not, ◌||◌}
use mathlib.Core.Logic.{◌⊎◌, inl, inr}
use borrow.Author.Tests.{not-true, not-false}
use Rattle.fraction.specs.declared.Misfit.{Misfit}
use Rattle.std.specs.Prelude.{Result, Ok, Err}
use Rattle.fraction.proofs.Laws.{never}
use Rattle.step.specs.declared.Change.{Change}
use Rattle.step.specs.Outcome.{Outcome}
use Rattle.step.specs.declared.Halt.TheVariants.{Passes, NoFlow}
use Rattle.step.specs.Outcome.{only_where, no_flow_where, fits}
use Rattle.step.specs.Back.{figure}

-- an answer: no flow, or a change
abbrev pub Answers : Outcome → Type 0
Answers (Err Passes) = ⊥
Answers (Err NoFlow) = Unit {0}
Answers (Ok c) = Unit {0}

module _ {x : Outcome} (a : Answers x) where
  pub only-met : (b : Bool) (rest : Outcome) → only_where b rest ≡ x → (b ≡ true) × (rest ≡ x)
  unfolding only_where
  only-met true rest e = (refl, e)
  only-met false rest e = absurd (rw (← e) at a)

  pub fits-met : {A : Type 0} (w : Result A Misfit) (rest : A → Outcome) → fits w rest ≡ x → (v : A) × (w ≡ Ok v) × (rest v ≡ x)
  unfolding fits
  fits-met (Ok v) rest e = (v, refl, e)
  fits-met (Err m) rest e = absurd (rw (← e) at a)

pub flow-met : {x : Outcome} (b : Bool) (rest : Outcome) → no_flow_where b rest ≡ x → ((b ≡ true) × ((Err NoFlow) ≡ x)) ⊎ ((b ≡ false) × (rest ≡ x))
unfolding no_flow_where
flow-met true rest e = inl (refl, e)
flow-met false rest e = inr (refl, e)

pub change-is : {c d : Change} → ◌≡◌ {A = Outcome} (Ok d) (Ok c) → c ≡ d
change-is e = cc

pub not-shown : {X : Type 0} {c : Change} → Ok c ≡ Err NoFlow → X
not-shown e = never cc

pub not-changed : {X : Type 0} {c : Change} → (Err NoFlow) ≡ Ok c → X
not-changed e = never cc

-- what is made of figures
module _ {A T : Type 0} {r : T} where
  pub figure-met : (w : Result A Misfit) (rest : A → Result T Misfit) → figure w rest ≡ Ok r → (x : A) × (w ≡ Ok x) × (rest x ≡ Ok r)
  unfolding figure
  figure-met (Ok x) rest e = (x, refl, e)
  figure-met (Err m) rest e = never cc

pub made-is : {T : Type 0} {q r : T} → ◌≡◌ {A = Result T Misfit} (Ok q) (Ok r) → r ≡ q
made-is e = cc

-- a test of the code, turned round
pub unmet : (b : Bool) → not b ≡ true → b ≡ false
unmet = not-true

pub met : (b : Bool) → not b ≡ false → b ≡ true
met = not-false

pub or-neither : (s t : Bool) → (s || t) ≡ false → (s ≡ false) × (t ≡ false)
or-neither true t e = never cc
or-neither false t e = (refl, e)

-- a test passes or fails
pub split {ℓ} : {X : Type ℓ} (b : Bool) → (b ≡ true → X) → (b ≡ false → X) → X
split true t f = t refl
split false t f = f refl
