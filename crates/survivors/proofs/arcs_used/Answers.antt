-- `survivors::arcs_used` meets its contract.
use Rattle.std.proofs.Common.{rules, tests, false, ◌<◌, ◌≤◌, ◌+◌, ◌≡◌, List, ℕ, zero, suc, get_or, arith}
use Rattle.std.specs.Array.{IsFromFnResult, IsFromFnResultFrom}
use Rattle.std.specs.Fn.{Called}
use Rattle.loops.specs.Loops.{build}
use Rattle.loops.proofs.Laws.{get_or-build, length-build}
use Rattle.network.specs.Network.{is_used}
use denote.Param.Members.{Mut}
use native.Mathlib.Numerals.{add-one}
use native.Mathlib.Nat.{eq-or-lt_of_le}
use mathlib.Core.Logic.{⊎_elim}
use lib.Seq.{ext_get_or}
use mathlib.Core.Path.{◌∙◌, sym}
use Rattle.survivors.proofs.arcs_used.Goals as goal

-- a list made by calls that answer h
module _ {F A : Type 0} {g : Mut F (ℕ × Unit {0}) A} {f : F} (h : ℕ → A) (d : A) (each : (i : ℕ) (x : A) (q : F) → Called g f (i, tt) x q → (q ≡ f) × (x ≡ h i)) where
  made-from : (xs : List A) (a k : ℕ) → IsFromFnResultFrom g f xs a k → (i : ℕ) → a ≤ i → i < a + k → get_or xs i d ≡ h i
  made-from xs a zero r i l m = absurd (omega arith)
  made-from xs a (suc k) r i l m =
      let e = each a r.1 r.0 r.3 in
      ⊎_elim
      (λ (q : a ≡ i). rw (← q) (r.2.1 d ∙ e.1))
      (λ (q : a < i). made-from xs (a + 1) k (rw e.0 at r.4) i (omega arith) (omega (arith, add-one k)))
      (eq-or-lt_of_le l)

  made : {xs : List A} {n : ℕ} → IsFromFnResult g f xs n → xs ≡ build n h
  made {xs} {n} m =
      ext_get_or d _ _ (m.long ∙ sym (length-build n h))
      (λ i l. let b : i < n = rw m.long at l in made-from xs 0 n m.each i (omega arith) (omega arith) ∙ sym (get_or-build n h d i b))

pub returns : goal.returns
returns c = made (is_used c.args.net) false (λ i x q k. search (rules, tests)) c.from_fn.ensures.items
