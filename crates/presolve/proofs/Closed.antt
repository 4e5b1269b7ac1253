-- Rule 1, closed arc. A lower bound above the upper one: no flow. Both one number l: the arc is taken out at the flow l.
use mathlib.Core.Path.{◌≡◌, sym, ◌∙◌}
use mathlib.Core.List.{Memᴰ}
use mathlib.Core.Option.{some}
use Prim.Native.Nat.{ℕ}
use Rattle.algebra.specs.Rat.{ℚ, 0_ℚ as 𝟘, ◌<ℚ◌}
use Rattle.algebra.proofs.Rat.{≤ℚ-trans as le_trans, ≤ℚ-antisym as le_antisym}
use Rattle.algebra.proofs.Order.{le_of_eq}
use Rattle.algebra.specs.Sum.{upd}
use Rattle.presolve.proofs.Named.{once-mem}
use Rattle.presolve.proofs.Bounds.{some_inj, fits-closed}
use Rattle.presolve.specs.LP.{LP, Pair, Feasible, NoFlow, InBounds, reduced}
use Rattle.presolve.proofs.Step.{SoundStep}
use Rattle.presolve.proofs.Frame.{agree_same}
use Rattle.presolve.proofs.Removed.{Removed, frame, removed-value, removed-solved, removed-on}

pub record ClosedArc (N N' : LP) (j : ℕ) (l : ℚ) : Type 0 where
  pub lower_is : (N.col j).lower ≡ some l
  pub upper_is : (N.col j).upper ≡ some l
  pub removed : Removed N N' j l

-- postsolve: the flow l, prices as they are
abbrev pub closed-back : ℕ → ℚ → Pair → Pair
closed-back j l s = record { flow = upd s.flow j l; price = s.price }

pub closed-sound : {N N' : LP} {j : ℕ} {l : ℚ} → ClosedArc N N' j l → SoundStep N N' (closed-back j l)
closed-sound {N} {N'} {j} {l} C = record {
  solved = λ s h. removed-solved C.removed s.flow s.price s.price within (agree_same (frame C.removed) s.price)
      (fits-closed (N.col j).lower (N.col j).upper l (reduced N.rows (N.col j) s.price) C.lower_is C.upper_is) h;
  same_value = λ s. removed-value C.removed s.flow;
  keeps_flow = λ x f. (upd x j 𝟘, removed-on C.removed x (forced x f) f);
}
  where
    within : InBounds (N.col j) l
    within = record { above = λ v e. le_of_eq (some_inj (sym e ∙ C.lower_is)); below = λ v e. le_of_eq (some_inj (sym C.upper_is ∙ e)) }

    forced : (x : ℕ → ℚ) → Feasible N x → x j ≡ l
    forced x f = let w : InBounds (N.col j) (x j) = f.within j (once-mem C.removed.listed) in le_antisym (x j) l (w.below l C.upper_is) (w.above l C.lower_is)

-- NO FLOW
pub closed-no-flow : {N : LP} {j : ℕ} (l u : ℚ) → Memᴰ j N.cols → (N.col j).lower ≡ some l → (N.col j).upper ≡ some u → u <ℚ l → NoFlow N
closed-no-flow {N} {j} l u m hl hu lt x f = lt (le_trans l (x j) u ((f.within j m).above l hl) ((f.within j m).below u hu))
