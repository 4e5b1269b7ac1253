-- Where rule 4 passes, and where the search for it may be left out.
use Rattle.std.specs.Prelude.{Ok, Err}
use mathlib.Core.Path.{◌≡◌, refl, sym, ◌∙◌}
use mathlib.Core.Bool.{Bool, true, false, cond, ◌&&◌, not}
use Prim.Native.Nat.{ℕ, ◌<◌}
use Rattle.fraction.specs.Exact.{is_finite}
use Rattle.network.specs.declared.Net.{Net}
use Rattle.network.specs.Network.{arc_at, is_root}
use Rattle.step.specs.declared.Change.{Change}
use Rattle.step.specs.Outcome.{Outcome}
use Rattle.step.specs.declared.Halt.TheVariants.{Passes, NoFlow}
use Rattle.step.specs.declared.Next.{Next}
use Rattle.step.specs.Outcome.{only_where}
use Rattle.step.specs.Dropped.{dropped_at}
use Rattle.step.specs.Run.{upward}
use Rattle.step.proofs.Removing.{dropped-shows}
use Rattle.step.proofs.Lines.{split}
use Rattle.step.proofs.Touch.{unlike}
use Rattle.costly_arc.specs.CostlyArc.{is_open_root, has_pair, costly_arc}
use Rattle.costly_arc.specs.Seen.{is_candidate, is_pair}
use Rattle.costly_arc.proofs.Upward.{upward-none}
use Rattle.costly_arc.proofs.Pairs.{no-pair}
use Rattle.costly_arc.proofs.NodeTimes.{root-at}

module _ (net : Net) (j : ℕ) where
  pub costly-is : costly_arc net j ≡ cond (is_candidate (arc_at net j) && has_pair net (arc_at net j)) (dropped_at net j (arc_at net j).lower) (Err Passes)
  unfolding costly_arc is_candidate only_where
  costly-is = by (is_root (arc_at net j)) (is_finite (arc_at net j).lower) (has_pair net (arc_at net j)) (dropped_at net j (arc_at net j).lower)
    where
      by : (r f p : Bool) (x : Outcome) → cond (not r) (cond f (cond p x (Err Passes)) (Err Passes)) (Err Passes) ≡ cond ((not r && f) && p) x (Err Passes)
      by true f p x = refl
      by false false p x = refl
      by false true p x = refl

  pub passes-vain : (is_candidate (arc_at net j) ≡ true → has_pair net (arc_at net j) ≡ false) → costly_arc net j ≡ Err Passes
  passes-vain h = split (is_candidate (arc_at net j)) (λ e. costly-is ∙ rw (e, h e)) (λ e. costly-is ∙ rw e)

  -- the arc stays for a figure that doesn't fit: a drop shows no flow nowhere
  pub passes_kept : (x : Outcome) → x ≡ dropped_at net j (arc_at net j).lower → ((d : Change) → x ≡ Ok d → ⊥) → costly_arc net j ≡ Err Passes
  passes_kept (Err Passes) e w = costly-is ∙ rw (← e) (split (is_candidate (arc_at net j) && has_pair net (arc_at net j)) (λ f. rw f refl) (λ f. rw f refl))
  passes_kept (Err NoFlow) e w = dropped-shows net j _ (sym e)
  passes_kept (Ok c) e w = absurd (w c refl)

-- where no arc is a root arc without upper bound, the whole search may be left out
pub no-open-root : (net : Net) (rest : Next) → ((k : ℕ) → k < 97 → is_open_root (arc_at net k) (arc_at net k).from ≡ false) → upward (costly_arc net) 4 96 1 rest ≡ rest
unfolding is_pair
no-open-root net rest h =
    upward-none (costly_arc net) 4 rest 96 1
    (λ j l m. passes-vain net j (λ _. no-pair net (arc_at net j) (λ x y n o. split (is_open_root (arc_at net x) (arc_at net j).from) (λ e. unlike (sym (h x n) ∙ (root-at (arc_at net x) _ e).1)) (λ e. rw e))))
