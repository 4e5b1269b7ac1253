-- What a run and the way back ask of one rule: numbers that fit words, a change that is right, and old arcs that are put back.
use Rattle.std.specs.Prelude.{Ok, Err}
use mathlib.Core.Path.{◌≡◌, sym, ap, ◌∙◌, subst}
use mathlib.Core.Bool.{Bool, true, false, cond, ◌&&◌, ◌||◌, not}
use mathlib.Core.Logic.{⊎_elim, ◌⊎◌, inl, inr}
use mathlib.Core.List.{List, [], ◌∷◌}
use Prim.Native.Nat.{ℕ, ◌≤◌}
use native.Mathlib.Omega.{arith}
use lib.Dec.{ltb, lit≤, eqb}
use lib.ListN.{length, get_or}
use lib.Seq.{ext_get_or}
use borrow.Author.Tests.{ltb-true, ltb-false, eqb-true, eqb-false}
use Rattle.presolve.specs.LP as LP
use Rattle.presolve.proofs.Step.{SoundStep}
use Rattle.fraction.specs.declared.Fraction.{Fraction}
use Rattle.fraction.specs.Exact.{Proper, most, is_zero}
use Rattle.network.specs.declared.Arc.{Arc}
use Rattle.network.specs.declared.Net.{Net}
use Rattle.network.specs.declared.ArcUpdate.{ArcUpdate}
use Rattle.network.specs.Limits.{max_nodes}
use Rattle.network.specs.Network.{arc_at, supply_at, is_here, is_used, degree_of, no_edit, updates_of, applied, no_arc, with_update, with_updates}
use Rattle.network.specs.Legal.{Bound, Legal}
use Rattle.network.specs.declared.pair.Pair.{Pair}
use Rattle.network.specs.Pair.{exact_pair}
use Rattle.network.specs.Program.{program_of}
use Rattle.network.proofs.Kept.{here-number}
use Rattle.step.specs.declared.Around.{Around}
use Rattle.step.specs.declared.Old.{Old}
use Rattle.step.specs.declared.Step.{Step}
use Rattle.step.specs.declared.Change.{Change}
use Rattle.step.specs.declared.Halt.TheVariants.{Passes, NoFlow}
use Rattle.step.specs.declared.Restored.{Restored}
use Rattle.step.specs.Outcome.{Outcome}
use Rattle.step.specs.Back.{Undone}
use Rattle.step.specs.Back.{old_arcs_of, restored}
use Rattle.step.specs.Around.{Given}
use Rattle.step.specs.Run.{Rule}
use Rattle.step.specs.declared.Numbers.{Numbers}
use Rattle.step.proofs.Lines.{split, change-is}
use Rattle.step.proofs.Each.{All, all_map}
use Rattle.step.proofs.Frame.{Unnamed, no-updates, arc-put, arc-left, arc-same, long-put, long-puts, Framed, framed_kept}
use Rattle.step.proofs.Fewer.{Fewer, Lost, fewer}
use Rattle.step.proofs.Figures.{Sized, Holds}

-- ---- numbers and figures that fit words

abbrev pub numbers_of : Numbers → List ℕ
numbers_of new = new.first ∷ new.second ∷ new.third ∷ new.fourth ∷ []

abbrev pub SmallFigure : Fraction → Type 0
SmallFigure f = f.den ≤ most

-- the numbers and denominators of an arc; with its own number
abbrev pub SmallArc : Arc → Type 0
SmallArc t = All (λ n. n ≤ most) (t.from ∷ t.to ∷ t.cost.den ∷ t.lower.den ∷ t.upper.den ∷ t.a.den ∷ t.b.den ∷ [])

abbrev pub SmallUpdate : ArcUpdate → Type 0
SmallUpdate u = (u.number ≤ most) × SmallArc u.arc

pub record SmallOld (old : Old) : Type 0 where
  pub node : old.node ≤ most
  pub supply : SmallFigure old.supply
  pub arcs : All SmallUpdate (old_arcs_of old)
  pub new : All (λ k. k ≤ most) (numbers_of old.new)

pub record SmallStep (s : Step) : Type 0 where
  pub rule : s.rule ≤ most
  pub place : s.place ≤ most
  pub old : SmallOld s.change.old

-- those of a legal network do

bound-small : {mark f : Fraction} → SmallFigure mark → Bound mark f → SmallFigure f
bound-small {mark} {f} h b = ⊎_elim (λ (p : Proper f). p.operand.den_in) (λ (e : f ≡ mark). rw e h) b

module _ {net : Net} (g : Legal net) where
  arc-small : (j : ℕ) → SmallArc (arc_at net j)
  arc-small j =
      let number = here-number g in
      split (ltb (arc_at net j).from 1) (λ e. rw (g.unused j (omega (arith, ltb-true (arc_at net j).from 1 e))) (lit≤ tt, (lit≤ tt, (lit≤ tt, (lit≤ tt, (lit≤ tt, (lit≤ tt, (lit≤ tt, tt))))))))
      (λ e. let w = g.used j (ltb-false (arc_at net j).from 1 e) in
      (omega (arith, (number _ w.from_here).1), (omega (arith, (number _ w.to_here).1), (w.cost_proper.operand.den_in, (bound-small (lit≤ tt) w.lower_bound, (bound-small (lit≤ tt) w.upper_bound, (w.a_proper.operand.den_in, (w.b_proper.operand.den_in, tt))))))))

  pub supply-small : (i : ℕ) → is_here net i ≡ true → SmallFigure (supply_at net i)
  supply-small i here = (g.supply_proper i here).operand.den_in

-- ---- what a change hands to its way back

-- an arc of the network, at its number; number 0 has no arc
abbrev pub OldAt : Net → ArcUpdate → Type 0
OldAt net p = (p.number ≤ 96) × (p.arc ≡ arc_at net p.number)

pub record HandedOn (net : Net) (c : Change) : Type 0 where
  -- old arcs of the network: every number that the change names is among theirs
  pub arcs : All (OldAt net) (old_arcs_of c.old)
  pub named : (j : ℕ) → Unnamed (old_arcs_of c.old) j → Unnamed (updates_of c.edit) j
  -- a node and its supply, and numbers of arcs
  pub node : c.old.node ≤ 32
  pub supply : SmallFigure c.old.supply
  pub new : All (λ k. k ≤ 96) (numbers_of c.old.new)

module _ {net : Net} (g : Legal net) where
  -- no old arc
  pub no_old : All (OldAt net) (updates_of no_edit)
  no_old = no-updates (OldAt net) (omega arith, sym (g.unused 0 g.no-arc))

  -- all of it fits words
  pub old-small : {c : Change} → HandedOn net c → SmallOld c.old
  old-small {c} h =
      let small : (p : ArcUpdate) → OldAt net p → SmallUpdate p = λ p o. (omega (arith, o.0), rw o.1 (arc-small g p.number)) in
      record { node = omega (arith, h.node); supply = h.supply; arcs = all_map small (old_arcs_of c.old) h.arcs; new = omega (arith, h.new) }

-- ---- a change of a network, with its way back

pub record Right (net : Net) (c : Change) (back : Pair → Undone) : Type 0 where
  -- what is left is a legal network, of fewer nodes and arcs
  pub legal : Legal (applied net c.edit)
  pub fewer : Fewer net c.edit
  pub handed_on : HandedOn net c
  -- the way back in exact numbers: an optimal pair of what is left, brought back, is optimal
  pub exact : LP.Pair → LP.Pair
  pub sound : SoundStep (program_of net) (program_of (applied net c.edit)) exact
  -- the way back in fractions is that one, where its figures fit
  pub agrees : (pair : Pair) → Sized pair → {r : Restored} → back pair ≡ Ok r → Holds (restored pair r) (exact (exact_pair pair))

-- whether number i is in use, of a node or of an arc
abbrev pub in_use : Rule → Net → ℕ → Bool
in_use R net i = cond (eqb R.last max_nodes) (is_here net i) (is_used net i)

-- a rule of nodes passes where degree or supply is not what it asks for, and answers by what it is given
pub record AtNodes (R : Rule) : Type 0 where
  pub elsewhere : (net : Net) (i : ℕ) → ((not R.trial.balanced || is_zero (supply_at net i)) && eqb (degree_of net i) R.trial.degree) ≡ false → R.at net i ≡ Err Passes
  pub given : {net : Net} {constant : Fraction} {supply : List Fraction} {i d : ℕ} {near : Around} → Given net constant supply i d near → R.trial.by constant supply i d near ≡ R.at net i

-- a rule that is tried on legal networks of which P is known
pub record RuleLaws (P : Net → Type 0) (R : Rule) : Type 0 where
  pub few_places : R.last ≤ 96
  -- it passes at a number not in use
  pub unused : (net : Net) → Legal net → (i : ℕ) → in_use R net i ≡ false → R.at net i ≡ Err Passes
  pub at_nodes : eqb R.last max_nodes ≡ true → AtNodes R
  pub no_flow : (net : Net) → Legal net → P net → (i : ℕ) → R.at net i ≡ Err NoFlow → LP.NoFlow (program_of net)
  pub right : (net : Net) → Legal net → P net → (i : ℕ) {c : Change} → R.at net i ≡ Ok c → Right net c (R.back c.old)

-- a change whose parts are legal: that network, and those counts
pub right_of : {net : Net} → Legal net → {c d : Change} (back : Old → Pair → Undone) → ◌≡◌ {A = Outcome} (Ok d) (Ok c) → Framed net d.edit → Lost net d.edit → HandedOn net d → (exact : LP.Pair → LP.Pair) → SoundStep (program_of net) (program_of (applied net d.edit)) exact
    → ((pair : Pair) → Sized pair → (r : Restored) → back d.old pair ≡ Ok r → Holds (restored pair r) (exact (exact_pair pair))) → Right net c (back c.old)
right_of {net} g back e framed lost handed exact sound agrees =
    subst (λ c. Right net c (back c.old)) (sym (change-is e))
    (record { legal = framed_kept net g _ framed; fewer = fewer g _ framed lost; handed_on = handed; exact = exact; sound = sound; agrees = λ pair z {r} e. agrees pair z r e })

-- ---- the old arcs of a change, put back on the network after it, give the arcs from before it

abbrev pub put_back : Net → Old → Net
put_back net old = with_updates net (old_arcs_of old)

-- the old arcs of steps, the last step's first
abbrev pub put_back_all : List Step → Net → Net
put_back_all [] net = net
put_back_all (s ∷ steps) net = put_back (put_back_all steps net) s.change.old

-- an update names j, or it doesn't
names? : (p : ArcUpdate) (j : ℕ) → ((1 ≤ j) × (j ≡ p.number)) ⊎ (1 ≤ p.number → j ≡ p.number → ⊥)
names? p j = split (eqb j p.number) (λ e. split (ltb j 1) (λ q. inr (λ l z. omega (arith, ltb-true j 1 q))) (λ q. inl (ltb-false j 1 q, eqb-true _ _ e))) (λ e. inr (λ l. eqb-false _ _ e))

module _ (net : Net) (j : ℕ) where
  -- old arcs put one after the other: arc j is right then, if it is where none of them is j's
  put-arcs : (ps : List ArcUpdate) (m : Net) → length m.arcs ≡ 97 → All (OldAt net) ps → (Unnamed ps j → arc_at m j ≡ arc_at net j) → arc_at (with_updates m ps) j ≡ arc_at net j
  put-arcs [] m l o h = h tt
  put-arcs (p ∷ ps) m l o h = put-arcs ps (with_update m p) (long-put m _ _ l) o.1 (⊎_elim (λ w u. ap (arc_at (with_update m p)) w.1 ∙ arc-put m p.number p.arc l (rw w.1 at w.0, o.0.0) ∙ o.0.1 ∙ ap (arc_at net) (sym w.1)) (λ n u. arc-left m _ _ j n ∙ h (n, u)) (names? p j))

-- ARCS FROM BEFORE
pub put-back : {net : Net} → Legal net → (c : Change) → Legal (applied net c.edit) → HandedOn net c → (m : Net) → m.arcs ≡ (applied net c.edit).arcs → (put_back m c.old).arcs ≡ net.arcs
put-back {net} g c g' o m e =
    ext_get_or no_arc _ net.arcs (long-puts (old_arcs_of c.old) m now ∙ sym g.arcs_long)
    (λ j l. put-arcs net j (old_arcs_of c.old) m now o.arcs (λ u. ap (λ (l : List Arc). get_or l j no_arc) e ∙ arc-same net c.edit j (o.named j u)))
  where
    now : length m.arcs ≡ 97
    now = ap length e ∙ g'.arcs_long
