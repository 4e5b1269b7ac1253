-- The search for k: the first answer that does not pass.
use Rattle.std.specs.Prelude.{Ok, Err}
use mathlib.Core.Path.{◌≡◌, refl}
use mathlib.Core.Bool.{true, false}
use Prim.Native.Nat.{ℕ, ◌+◌, ◌-◌, ◌≤◌, ◌<◌}
use native.Mathlib.Omega.{arith}
use Rattle.fraction.proofs.Laws.{never}
use Rattle.loops.specs.Loops.{scan}
use Rattle.loops.proofs.Laws.{Scanned, scanned-none, scanned-more, scanned-found, scanned-all}
use Rattle.step.specs.Outcome.{Outcome}
use Rattle.step.specs.declared.Halt.TheVariants.{Passes, NoFlow}
use Rattle.parallel_arcs.specs.ParallelArcs.{or_next}
use Rattle.parallel_arcs.specs.internal.Multiple.{is_passing}

-- there is no number after the last
pub past : (f : ℕ → Outcome) (j : ℕ) → 96 ≤ j → (Err Passes) ≡ scan or_next (Err Passes) f (96 - j) (j + 1)
past f j l = scanned-all or_next (Err Passes) (scanned-none or_next (Err Passes) f (96 - j) (j + 1)) (omega arith)

next_is : (o : Outcome) → is_passing o ≡ true → (next : ℕ → Outcome) (k : ℕ) → or_next o next k ≡ next k
next_is (Err Passes) e next k = refl
next_is (Err NoFlow) e next k = never cc
next_is (Ok c) e next k = never cc

this-is : (o : Outcome) → is_passing o ≡ false → (next : ℕ → Outcome) (k : ℕ) → or_next o next k ≡ o
this-is (Err Passes) e next k = never cc
this-is (Err NoFlow) e next k = refl
this-is (Ok c) e next k = refl

-- o is the answer at k
module _ {f : ℕ → Outcome} {j k : ℕ} {o : Outcome} (s : Scanned or_next (Err Passes) f (96 - j) (j + 1) k) (l : j < 96) (m : k < 97) (is : o ≡ f k) where
  pub found : is_passing o ≡ false → o ≡ scan or_next (Err Passes) f (96 - j) (j + 1)
  found e = scanned-found or_next (Err Passes) s (omega arith) is (this-is o e)

  pub goes_on_lem : is_passing o ≡ true → Scanned or_next (Err Passes) f (96 - j) (j + 1) (k + 1)
  goes_on_lem e = scanned-more or_next (Err Passes) s (omega arith) is (next_is o e)
