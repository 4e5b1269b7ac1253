-- The steps of a log, undone the last first.
--     Descended      the loop over their numbers
--     way_back_lem       the pair, over a list of steps that the log holds
--     arcs-back      the arcs in the lent list, over such steps
use mathlib.Core.Path.{◌≡◌, refl, sym, ap, ◌∙◌}
use mathlib.Core.List.{List, [], ◌∷◌}
use Prim.Native.Nat.{ℕ, suc, ◌+◌, ◌-◌, ◌≤◌, ◌<◌}
use native.Mathlib.Numerals.{add-one}
use native.Mathlib.Omega.{arith}
use lib.IntN.{ℤ}
use lib.ListN.{length}
use Rattle.network.specs.declared.Arc.{Arc}
use Rattle.network.specs.declared.Net.{Net}
use Rattle.network.specs.ArcList.{arcs_in, replaced_by}
use Rattle.network.proofs.Lists.{length-replaced-by, updates-put}
use Rattle.step.specs.declared.Step.{Step}
use Rattle.step.specs.Back.{old_arcs_of}
use Rattle.step.specs.Run.{Way, back_of, way_back}
use Rattle.step.proofs.Laws.{put_back_all}
use Rattle.rules.specs.Table.{rules}
use Rattle.step_log.specs.Log.{rule_in, old_in, Holds}
use Rattle.postsolve.specs.Postsolve.{down_from, arcs_turn, arcs_back}
use Rattle.postsolve.specs.internal.Turn.{back_turn}

module _ {S : Type 0} (f : ℕ → S → S) where
  -- a loop over n numbers, the last first: at its head, with k left
  pub record Descended (n : ℕ) (s₀ : S) (k : ℕ) (s : S) : Type 0 where
    pub few : k ≤ n
    pub is : down_from f k s ≡ down_from f n s₀

  pub descended-more : {n : ℕ} {s₀ : S} {k : ℕ} {s t : S} → Descended n s₀ k s → 0 < k → t ≡ f (k - 1) s → Descended n s₀ (k - 1) t
  unfolding down_from
  descended-more {n} {s₀} {k} {s} {t} h l e =
      let q : k ≡ suc (k - 1) = omega (arith, add-one (k - 1)) in
      record { few = omega (arith, h.few); is = ap (down_from f (k - 1)) e ∙ sym (ap (λ (j : ℕ). down_from f j s) q) ∙ h.is }

  pub descended-all : {n : ℕ} {s₀ : S} {k : ℕ} {s : S} → Descended n s₀ k s → k ≤ 0 → s ≡ down_from f n s₀
  unfolding down_from
  descended-all {k = k} h l = let q : k ≡ 0 = omega arith in rw q at h.is

  -- over steps that the log holds, where each turn is one step of G
  module _ (zs : List ℤ) (G : List Step → S) (turn : (k : ℕ) (t : Step) (ts : List Step) → rule_in zs k ≡ t.rule → old_in zs k ≡ t.change.old → f k (G ts) ≡ G (t ∷ ts)) where
    pub descended : (k : ℕ) (ss : List Step) → Holds zs k ss → down_from f (k + length ss) (G []) ≡ down_from f k (G ss)
    unfolding down_from Holds
    descended k [] h = let e : k + 0 ≡ k = omega arith in ap (λ (j : ℕ). down_from f j (G [])) e
    descended k (t ∷ ts) h =
        let e : k + length (t ∷ ts) ≡ suc k + length ts = omega (arith, add-one k, add-one (length ts)) in
        ap (λ (j : ℕ). down_from f j (G [])) e ∙ descended (suc k) ts h.1.1.1 ∙ ap (down_from f k) (turn k t ts h.0 h.1.1.0)

    pub descended-steps : (ss : List Step) → Holds zs 0 ss → down_from f (length ss) (G []) ≡ G ss
    unfolding down_from
    descended-steps ss h = let e : length ss ≡ 0 + length ss = omega arith in ap (λ (j : ℕ). down_from f j (G [])) e ∙ descended 0 ss h

-- THE PAIR
pub way_back_lem : (zs : List ℤ) (ss : List Step) (way : Way) → Holds zs 0 ss → down_from (back_turn zs) (length ss) way ≡ way_back (back_of rules) ss way
unfolding way_back
way_back_lem zs ss way = descended-steps (back_turn zs) zs (λ ts. way_back (back_of rules) ts way) (λ k t ts d e. rw (d, e)) ss

-- THE ARCS
put_all : List Arc → List Step → List Arc
put_all xs [] = xs
put_all xs (s ∷ ss) = replaced_by (put_all xs ss) (old_arcs_of s.change.old)

put-all : (net : Net) (xs : List Arc) → 96 ≤ length xs → net.arcs ≡ arcs_in xs → (ss : List Step) → ((put_back_all ss net).arcs ≡ arcs_in (put_all xs ss)) × (length (put_all xs ss) ≡ length xs)
unfolding put_all
put-all net xs l e [] = (e, refl)
put-all net xs l e (s ∷ ss) =
    let rest = put-all net xs l e ss in
    (updates-put (put_back_all ss net) (put_all xs ss) (old_arcs_of s.change.old) (rw rest.1 l) rest.0, length-replaced-by (put_all xs ss) (old_arcs_of s.change.old) ∙ rest.1)

pub arcs-back : (zs : List ℤ) (ss : List Step) (net : Net) (xs : List Arc) → Holds zs 0 ss → 96 ≤ length xs → arcs_in xs ≡ net.arcs → (arcs_in (arcs_back zs (length ss) xs) ≡ (put_back_all ss net).arcs) × (length (arcs_back zs (length ss) xs) ≡ length xs)
unfolding put_all
arcs-back zs ss net xs h l e =
    let put = put-all net xs l (sym e) ss in
    let is : arcs_back zs (length ss) xs ≡ put_all xs ss = descended-steps (arcs_turn zs) zs (put_all xs) (λ k t ts d q. rw q) ss h in
    (ap arcs_in is ∙ sym put.0, ap length is ∙ put.1)
