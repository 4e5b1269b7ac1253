-- One reduction step, and steps one after the other. A step turns N into N'; `back` (postsolve) turns a pair of N' into a pair of N.
-- The constant is part of the program, so that a step leaves the value as it is.
use mathlib.Core.Path.{◌≡◌, refl, ◌∙◌, subst, fun_ext}
use Rattle.algebra.specs.Rat.{ℚ}
use Prim.Native.Nat.{ℕ}
use Rattle.presolve.specs.LP.{LP, Pair, Feasible, Solved, NoFlow, value}

pub record SoundStep (N N' : LP) (back : Pair → Pair) : Type 0 where
  -- an optimal pair, brought back, is optimal
  pub solved : (s : Pair) → Solved N' s → Solved N (back s)
  -- its value is the same
  pub same_value : (s : Pair) → value N (back s).flow ≡ value N' s.flow
  -- the step loses no feasible program
  pub keeps_flow : (x : ℕ → ℚ) → Feasible N x → (x' : ℕ → ℚ) × Feasible N' x'

pub stay : (N : LP) → SoundStep N N (λ s. s)
stay N = record { solved = λ s h. h; same_value = λ s. refl; keeps_flow = λ x f. (x, f) }

pub then : {N N' N'' : LP} {back back' : Pair → Pair} → SoundStep N N' back → SoundStep N' N'' back' → SoundStep N N'' (λ s. back (back' s))
then {back'} h k = record {
  solved = λ s g. h.solved (back' s) (k.solved s g);
  same_value = λ s. h.same_value (back' s) ∙ k.same_value s;
  keeps_flow = λ x f. k.keeps_flow (h.keeps_flow x f).0 (h.keeps_flow x f).1;
}

-- the same step with `back` written otherwise
pub same_back : {N N' : LP} {back back' : Pair → Pair} → ((s : Pair) → back s ≡ back' s) → SoundStep N N' back → SoundStep N N' back'
same_back {N} {N'} e h = subst (SoundStep N N') (fun_ext e) h

-- no flow at the end: none at the beginning
pub no_flow : {N N' : LP} {back : Pair → Pair} → SoundStep N N' back → NoFlow N' → NoFlow N
no_flow h n x f = n (h.keeps_flow x f).0 (h.keeps_flow x f).1
