-- What was logged is read.
--     logged-holds    the steps of a run, in words that have room for them
use mathlib.Core.Path.{◌≡◌, refl, ◌∙◌}
use mathlib.Core.Bool.{◌&&◌}
use mathlib.Core.List.{List, [], ◌∷◌, ◌++◌}
use Prim.Native.Nat.{ℕ, zero, suc, ◌+◌, ◌*◌, ◌≤◌, ◌<◌}
use native.Mathlib.Nat.{not-suc-le-zero}
use native.Mathlib.Numerals.{add-one}
use native.Mathlib.Omega.{arith}
use lib.Dec.{ltb, leb, lit≤}
use lib.IntN.{ℤ, pos}
use lib.ListN.{get_or-append, length, get_or, set, length-set, length-append}
use lib.Seq.{get_or-set_same, get_or-set_other, get_or-append-add}
use borrow.Author.Tests.{le-leb, lt-ltb}
use Rattle.fraction.specs.declared.Fraction.{Fraction}
use Rattle.fraction.specs.Exact.{most, no_figure, from_words, den_word}
use Rattle.network.specs.declared.ArcUpdate.{ArcUpdate}
use Rattle.fraction.specs.Words.{word_of, whole_of}
use Rattle.step.specs.declared.Old.{Old}
use Rattle.step.specs.declared.Step.{Step}
use Rattle.step.proofs.Lines.{split}
use Rattle.step.proofs.Each.{All}
use Rattle.step.proofs.Laws.{SmallFigure, SmallUpdate, SmallOld, SmallStep}
use Rattle.step_log.specs.Log.{update_figures, number_figures, figures_of, with_figure, with_figures, with_step, logged, figure_in, number_in, update_in, numbers_in, old_from, rule_in, place_in, old_in, Holds}

-- ---- one figure

figure-back : (zs : List ℤ) (at : ℕ) (f : Fraction) → at + 1 < length zs → SmallFigure f → figure_in (with_figure zs at f) at ≡ f
unfolding with_figure figure_in from_words den_word
figure-back zs at f l h =
    rw (get_or-set_other (set zs at f.num) (at + 1) at (den_word f.den) (pos 0) (λ e. omega arith), get_or-set_same zs at f.num (pos 0) (omega arith), get_or-set_same (set zs at f.num) (at + 1) (den_word f.den) (pos 0) (rw (length-set zs at f.num) l), le-leb _ _ h)

figure-below : (zs : List ℤ) (at p : ℕ) (f : Fraction) → p + 1 < at → figure_in (with_figure zs at f) p ≡ figure_in zs p
unfolding with_figure figure_in
figure-below zs at p f h =
    rw (get_or-set_other (set zs at f.num) (at + 1) p (den_word f.den) (pos 0) (λ e. omega arith), get_or-set_other zs at p f.num (pos 0) (λ e. omega arith), get_or-set_other (set zs at f.num) (at + 1) (p + 1) (den_word f.den) (pos 0) (λ e. omega arith), get_or-set_other zs at (p + 1) f.num (pos 0) (λ e. omega arith))

figure-long : (zs : List ℤ) (at : ℕ) (f : Fraction) → length (with_figure zs at f) ≡ length zs
unfolding with_figure
figure-long zs at f = length-set (set zs at f.num) (at + 1) (den_word f.den) ∙ length-set zs at f.num

-- ---- several

figures-long : (zs : List ℤ) (at : ℕ) (fs : List Fraction) → length (with_figures zs at fs) ≡ length zs
unfolding with_figures
figures-long zs at [] = refl
figures-long zs at (f ∷ fs) = figures-long (with_figure zs at f) (at + 2) fs ∙ figure-long zs at f

figures-below : (zs : List ℤ) (at p : ℕ) (fs : List Fraction) → p + 1 < at → figure_in (with_figures zs at fs) p ≡ figure_in zs p
unfolding with_figures
figures-below zs at p [] h = refl
figures-below zs at p (f ∷ fs) h = figures-below (with_figure zs at f) (at + 2) p fs (omega arith) ∙ figure-below zs at p f h

-- these figures stand from a place on, those of them that fit words
pub record Stands (zs : List ℤ) (at : ℕ) (fs : List Fraction) : Type 0 where
  pub figure : (r : ℕ) → r < length fs → SmallFigure (get_or fs r no_figure) → (p : ℕ) → p ≡ at + 2 * r → figure_in zs p ≡ get_or fs r no_figure

figure-at : (zs : List ℤ) (at : ℕ) (fs : List Fraction) → at + 2 * length fs ≤ length zs → (r : ℕ) → r < length fs → SmallFigure (get_or fs r no_figure) → (p : ℕ) → p ≡ at + 2 * r → figure_in (with_figures zs at fs) p ≡ get_or fs r no_figure
unfolding with_figures
figure-at zs at [] l r h s p e = absurd (not-suc-le-zero h)
figure-at zs at (f ∷ fs) l zero h s p e =
    let q : p ≡ at = omega (arith, e) in
    rw q (figures-below (with_figure zs at f) (at + 2) at fs (omega arith) ∙ figure-back zs at f (omega (arith, l, add-one (length fs))) s)
figure-at zs at (f ∷ fs) l (suc r) h s p e =
    figure-at (with_figure zs at f) (at + 2) fs (rw (figure-long zs at f) (omega (arith, l, add-one (length fs)))) r (omega (arith, h, add-one r, add-one (length fs))) s p (omega (arith, e, add-one r))

-- the first of them, and those behind, from p on
stands-left : {zs : List ℤ} {at : ℕ} (fs gs : List Fraction) → Stands zs at (fs ++ gs) → Stands zs at fs
stands-left fs gs w = record { figure = λ r h s p e. let g = get_or-append fs gs no_figure r h in w.figure r (rw (length-append fs gs) (omega arith)) (rw g s) p e ∙ g }

stands-right : {zs : List ℤ} {at : ℕ} (fs gs : List Fraction) (p : ℕ) → p ≡ at + 2 * length fs → Stands zs at (fs ++ gs) → Stands zs p gs
stands-right fs gs p e w = record { figure = λ r h s q f. let g = get_or-append-add fs gs r no_figure in w.figure (length fs + r) (rw (length-append fs gs) (omega arith)) (rw g s) q (omega (arith, e, f)) ∙ g }

-- ---- what stands there is read

number_is : (zs : List ℤ) (p n : ℕ) → n ≤ most → figure_in zs p ≡ whole_of n → number_in zs p ≡ n
unfolding word_of
number_is zs p n h e = rw (e, le-leb _ _ h)

update-is : (zs : List ℤ) (at : ℕ) (u : ArcUpdate) → SmallUpdate u → Stands zs at (update_figures u) → update_in zs at ≡ u
unfolding update_in
update-is zs at u s w =
    rw (
      number_is zs at _ s.0 (w.figure 0 (omega arith) (lit≤ tt) at (omega arith)),
      number_is zs (at + 2) _ s.1.0 (w.figure 1 (omega arith) (lit≤ tt) (at + 2) (omega arith)),
      number_is zs (at + 4) _ s.1.1.0 (w.figure 2 (omega arith) (lit≤ tt) (at + 4) (omega arith)),
      w.figure 3 (omega arith) s.1.1.1.0 (at + 6) (omega arith),
      w.figure 4 (omega arith) s.1.1.1.1.0 (at + 8) (omega arith),
      w.figure 5 (omega arith) s.1.1.1.1.1.0 (at + 10) (omega arith),
      w.figure 6 (omega arith) s.1.1.1.1.1.1.0 (at + 12) (omega arith),
      w.figure 7 (omega arith) s.1.1.1.1.1.1.1.0 (at + 14) (omega arith),
    )

numbers-is : (zs : List ℤ) (at : ℕ) (old : Old) → SmallOld old → Stands zs at (number_figures old.new) → numbers_in zs at ≡ old.new
unfolding numbers_in
numbers-is zs at old s w =
    rw (
      number_is zs at _ s.new.0 (w.figure 0 (omega arith) (lit≤ tt) at (omega arith)),
      number_is zs (at + 2) _ s.new.1.0 (w.figure 1 (omega arith) (lit≤ tt) (at + 2) (omega arith)),
      number_is zs (at + 4) _ s.new.1.1.0 (w.figure 2 (omega arith) (lit≤ tt) (at + 4) (omega arith)),
      number_is zs (at + 6) _ s.new.1.1.1.0 (w.figure 3 (omega arith) (lit≤ tt) (at + 6) (omega arith)),
    )

old-is : (zs : List ℤ) (at rule place : ℕ) (old : Old) → SmallOld old → Stands zs at (figures_of rule place old) → old_from zs at ≡ old
unfolding old_from
old-is zs at rule place old s w =
    let behind = stands-right (whole_of rule ∷ whole_of place ∷ whole_of old.node ∷ old.supply ∷ []) _ (at + 8) (omega arith) w in
    let behind-one = stands-right (update_figures old.one) _ (at + 24) (omega arith) behind in
    let behind-two = stands-right (update_figures old.two) _ (at + 40) (omega arith) behind-one in
    let behind-three = stands-right (update_figures old.three) _ (at + 56) (omega arith) behind-two in
    let behind-four = stands-right (update_figures old.four) _ (at + 72) (omega arith) behind-three in
    rw (
      number_is zs (at + 4) _ s.node (w.figure 2 (omega arith) (lit≤ tt) (at + 4) (omega arith)),
      w.figure 3 (omega arith) s.supply (at + 6) (omega arith),
      update-is zs (at + 8) _ s.arcs.0 (stands-left (update_figures old.one) _ behind),
      update-is zs (at + 24) _ s.arcs.1.0 (stands-left (update_figures old.two) _ behind-one),
      update-is zs (at + 40) _ s.arcs.1.1.0 (stands-left (update_figures old.three) _ behind-two),
      update-is zs (at + 56) _ s.arcs.1.1.1.0 (stands-left (update_figures old.four) _ behind-three),
      numbers-is zs (at + 72) old s behind-four,
    )

-- ---- steps

step-long : (zs : List ℤ) (k : ℕ) (s : Step) → length (with_step zs k s) ≡ length zs
unfolding with_step
step-long zs k s = split (ltb k 128 && leb (80 * k + 80) (length zs)) (λ e. rw e (figures-long zs (80 * k) _)) (λ e. rw e)

step-below : (zs : List ℤ) (k p : ℕ) (s : Step) → p + 1 < 80 * k → figure_in (with_step zs k s) p ≡ figure_in zs p
unfolding with_step
step-below zs k p s h = split (ltb k 128 && leb (80 * k + 80) (length zs)) (λ e. rw e (figures-below zs (80 * k) p _ h)) (λ e. rw e)

pub logged-long : (k : ℕ) (ss : List Step) (zs : List ℤ) → length (logged k ss zs) ≡ length zs
unfolding logged
logged-long k [] zs = refl
logged-long k (s ∷ ss) zs = logged-long (suc k) ss (with_step zs k s) ∙ step-long zs k s

logged-below : (k : ℕ) (ss : List Step) (zs : List ℤ) (p : ℕ) → p + 1 < 80 * k → figure_in (logged k ss zs) p ≡ figure_in zs p
unfolding logged
logged-below k [] zs p h = refl
logged-below k (s ∷ ss) zs p h = logged-below (suc k) ss (with_step zs k s) p (omega (arith, h, add-one k)) ∙ step-below zs k p s h

-- a step, read in words that hold its figures
step_is : (zs : List ℤ) (k : ℕ) (s : Step) → k < 128 → SmallStep s → Stands zs (80 * k) (figures_of s.rule s.place s.change.old) → (rule_in zs k ≡ s.rule) × ((place_in zs k ≡ s.place) × (old_in zs k ≡ s.change.old))
unfolding rule_in place_in old_in
step_is zs k s h small w =
    rw (lt-ltb k 128 h) (
      number_is zs (80 * k) _ small.rule (w.figure 0 (omega arith) (lit≤ tt) (80 * k) (omega arith)),
      (number_is zs (80 * k + 2) _ small.place (w.figure 1 (omega arith) (lit≤ tt) (80 * k + 2) (omega arith)), old-is zs (80 * k) _ _ _ small.old w),
    )

pub logged-holds : (k : ℕ) (ss : List Step) (zs : List ℤ) → All SmallStep ss → k + length ss ≤ 128 → 10240 ≤ length zs → Holds (logged k ss zs) k ss
unfolding Holds logged with_step
logged-holds k [] zs small few room = tt
logged-holds k (s ∷ ss) zs small few room =
    let read = step_is (logged (suc k) ss (with_step zs k s)) k s below small.0 stands in
    (read.0, (read.1.0, (read.1.1, logged-holds (suc k) ss (with_step zs k s) small.1 (omega (arith, few, add-one k, add-one (length ss))) (rw (step-long zs k s) room))))
  where
    below : k < 128
    below = omega (arith, few, add-one (length ss))

    stands : Stands (logged (suc k) ss (with_step zs k s)) (80 * k) (figures_of s.rule s.place s.change.old)
    stands = record { figure = λ r h d p e. logged-below (suc k) ss (with_step zs k s) p (omega (arith, h, e, add-one k)) ∙ rw (lt-ltb k 128 below, le-leb (80 * k + 80) (length zs) (omega (arith, room, below))) (figure-at zs (80 * k) _ (omega (arith, room, below)) r h d p e) }
