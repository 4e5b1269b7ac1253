-- The search for rule 4, at the head of its loop.
use Rattle.std.specs.Prelude.{Ok, Err}
use mathlib.Core.Path.{◌≡◌, sym, ◌∙◌}
use mathlib.Core.Bool.{true, false}
use mathlib.Core.List.{List}
use Prim.Native.Nat.{ℕ, ◌+◌, ◌≤◌}
use Rattle.network.specs.declared.Net.{Net}
use Rattle.network.specs.Network.{arc_at}
use Rattle.step.specs.declared.Change.{Change}
use Rattle.step.specs.Outcome.{Outcome}
use Rattle.step.specs.declared.Halt.TheVariants.{Passes}
use Rattle.step.specs.declared.Next.TheVariants.{Stops, Takes}
use Rattle.step.specs.Dropped.{dropped_at}
use Rattle.step.specs.Run.{upward}
use Rattle.costly_arc.specs.CostlyArc.{has_pair, costly_arc}
use Rattle.costly_arc.specs.Seen.{Seen, put_at, sought_at, Known}
use Rattle.costly_arc.specs.internal.Due.{Covers, is_due}
use Rattle.costly_arc.proofs.Upward.{Reached, reached-more, reached-found}
use Rattle.costly_arc.proofs.Pairs.{due-none, due-candidate}
use Rattle.costly_arc.proofs.Known.{sought_now, put-sought, known-sought}
use Rattle.costly_arc.proofs.Passing.{costly-is, passes-vain}

-- the places below j pass, and no arc was put since the search began
pub record Going (net : Net) (now : ℕ) (seen₀ seen : Seen) (j : ℕ) : Type 0 where
  pub reached : Reached (costly_arc net) 4 96 Stops j
  pub known : Known net now seen
  pub put : (k : ℕ) → put_at seen k ≡ put_at seen₀ k

pub going-covers : {net : Net} {now : ℕ} {seen₀ seen : Seen} {j : ℕ} → Going net now seen₀ seen j → (times : List ℕ) → Covers net seen₀ times → Covers net seen times
going-covers h times c i k l m e = rw (h.put k) (c i k l m e)

module _ {net : Net} {now : ℕ} {seen₀ seen : Seen} {j : ℕ} (h : Going net now seen₀ seen j) (l : j ≤ 96) where
  -- the answer: the step at j
  pub going-found : {x : Outcome} {c : Change} → (times : List ℕ) (w : ℕ) → is_due times w (arc_at net j) ≡ true → has_pair net (arc_at net j) ≡ true → x ≡ dropped_at net j (arc_at net j).lower → x ≡ Ok c → (Takes (record { rule = 4; place = j; change = c }) ≡ upward (costly_arc net) 4 96 1 Stops) × Known net now seen
  going-found times w e f p q = (reached-found _ _ _ _ h.reached l (costly-is net j ∙ rw (due-candidate times w _ e, f) (sym p ∙ q)), h.known)

  pub going-past : {to : Seen} → costly_arc net j ≡ Err Passes → to ≡ seen → Going net now seen₀ to (j + 1)
  going-past e q = rw q (record { reached = reached-more _ _ _ _ h.reached l e; known = h.known; put = h.put })

  pub going-vain : {to : Seen} → has_pair net (arc_at net j) ≡ false → to ≡ sought_now seen j now → Going net now seen₀ to (j + 1)
  going-vain e q = rw q (record { reached = reached-more _ _ _ _ h.reached l (passes-vain net j (λ _. e)); known = known-sought h.known j e; put = λ k. put-sought seen j now k ∙ h.put k })

  pub going-idle : {to : Seen} (times : List ℕ) → Covers net seen₀ times → is_due times (sought_at seen j) (arc_at net j) ≡ false → to ≡ seen → Going net now seen₀ to (j + 1)
  going-idle times c e = going-past (passes-vain net j (λ d. due-none net seen _ (arc_at net j) (h.known.vain j) times (going-covers h times c) d e))
