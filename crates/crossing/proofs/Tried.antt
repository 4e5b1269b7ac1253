-- Rule 6 as it is tried: at a node of another degree or supply it passes, and the signs among the four arcs are those of the network.
use Rattle.std.specs.Prelude.{Err}
use mathlib.Core.Path.{◌≡◌, refl, sym, ap, ◌∙◌, subst₂}
use mathlib.Core.Bool.{Bool, true, false, cond, ◌&&◌}
use mathlib.Core.List.{List, [], ◌∷◌}
use mathlib.Core.Logic.{⊎_elim}
use Prim.Native.Nat.{ℕ, ◌≤◌}
use native.Mathlib.Nat.{eq-or-lt_of_le}
use native.Mathlib.Omega.{arith}
use lib.Dec.{eqb}
use lib.ListN.{get_or}
use borrow.Author.Tests.{ne_eqb, eqb-true}
use Rattle.fraction.specs.declared.Fraction.{Fraction}
use Rattle.fraction.specs.Exact.{no_figure, is_zero}
use Rattle.network.specs.declared.ArcUpdate.{ArcUpdate}
use Rattle.network.specs.declared.Net.{Net}
use Rattle.network.specs.Network.{supply_at, is_here, degree_of, no_update}
use Rattle.network.specs.Legal.{Legal}
use Rattle.network.proofs.Kept.{here-number}
use Rattle.step.specs.declared.Around.{Around}
use Rattle.step.specs.Outcome.{Outcome}
use Rattle.step.specs.declared.Halt.TheVariants.{Passes}
use Rattle.step.specs.Outcome.{only_where}
use Rattle.step.specs.Back.{old_arc}
use Rattle.step.specs.Around.{first_at, second_at, third_at, fourth_at, Near, Given}
use Rattle.step.proofs.Each.{All, none_any}
use Rattle.step.proofs.Lines.{split}
use Rattle.network.proofs.First.{First, first-same}
use Rattle.step.proofs.Touch.{unlike, At, These, Upward, touches, touching-first, touching-at, touching-all}
use Rattle.crossing.specs.declared.Signed.{Signed}
use Rattle.crossing.specs.Crossing.{signed_after, crossing}
use Rattle.crossing.specs.Tried.{no_signed, signed_in, signed_of, crossing_by}
use Rattle.crossing.proofs.Signs.{positive, signs, signed-first, sign-touches}

pub passes : (net : Net) (i : ℕ) → (is_zero (supply_at net i) && eqb (degree_of net i) 4) ≡ false → crossing net i ≡ Err Passes
unfolding crossing only_where
passes net i = by (is_here net i) (eqb (degree_of net i) 4) (is_zero (supply_at net i)) _
  where
    by : (h d z : Bool) (x : Outcome) → (z && d) ≡ false → only_where h (only_where d (only_where z x)) ≡ Err Passes
    by true true true x e = unlike (sym e)
    by true true false x e = refl
    by true false z x e = refl
    by false d z x e = refl

-- ---- the signs among the four arcs that touch a node

module _ {net : Net} (g : Legal net) (i : ℕ) (l : 1 ≤ i) (below : Bool) where
  abbrev after : ℕ → ℕ
  after k = signed_after net i below k

  -- the next arc that touches i has the sign, or is passed over
  hit : {k t : ℕ} → First (touches net i) k t → 1 ≤ t → signs net i below t ≡ true → after k ≡ t
  hit {k} {t} f m s =
      first-same (signed-first net i below k)
      (record { within = f.within; above = f.above; passes = λ _. s; least = λ x a b c. (m, (f.least x a b (sign-touches net i below x c)).1) })

  skip : {k t : ℕ} → First (touches net i) k t → 1 ≤ t → signs net i below t ≡ false → after k ≡ after t
  skip {k} {t} f m s =
      let h = signed-first net i below t in
      first-same (signed-first net i below k)
      (record {
        within = h.within;
        above = λ a. omega (arith, f.above m, h.above a);
        passes = h.passes;
        least = λ x a b c. h.least x (⊎_elim (λ z. unlike (sym s ∙ ap (signs net i below) z ∙ c)) (λ o. o) (eq-or-lt_of_le (f.least x a b (sign-touches net i below x c)).1)) b c;
      })

  abbrev old : ℕ → ArcUpdate
  old j = old_arc net j

  -- what is picked among the arcs up to number k
  data Picked (k : ℕ) (s : Signed) : Type 0 where
    none : s ≡ no_signed → after 0 ≡ after k → Picked k s
    one : (j : ℕ) → 1 ≤ j → s ≡ record { first = old j; second = no_update } → after 0 ≡ j → after j ≡ after k → Picked k s
    both : (j m : ℕ) → 1 ≤ j → 1 ≤ m → s ≡ record { first = old j; second = old m } → after 0 ≡ j → after j ≡ m → Picked k s

  nonzero : (j : ℕ) → 1 ≤ j → eqb j 0 ≡ false
  nonzero j m = ne_eqb j 0 (λ z. omega arith)

  picked_more : {k t : ℕ} {s : Signed} → First (touches net i) k t → 1 ≤ t → Picked k s → Picked t (signed_in s (old t) i below)
  unfolding signed_in
  picked_more {k} {t} {s} f m w = by (signs net i below t) refl w
    where
      by : (b : Bool) → signs net i below t ≡ b → Picked k s → Picked t (cond b (cond (eqb s.first.number 0) (record { first = old t; second = s.second }) (cond (eqb s.second.number 0) (record { first = s.first; second = old t }) s)) s)
      by true e (none q z) = rw q (one t m refl (z ∙ hit f m e) refl)
      by true e (one j o q z y) = rw (q, nonzero j o) (both j t o m refl z (y ∙ hit f m e))
      by true e (both j n o p q z y) = rw (q, nonzero j o, nonzero n p) (both j n o p refl z y)
      by false e (none q z) = none q (z ∙ skip f m e)
      by false e (one j o q z y) = one j o q z (y ∙ skip f m e)
      by false e (both j n o p q z y) = both j n o p q z y

  -- number 0 is no arc
  old-none : old 0 ≡ no_update
  old-none = rw (g.unused 0 g.no-arc)

  chosen : {k : ℕ} {s : Signed} → after k ≡ 0 → Picked k s → s ≡ record { first = old (after 0); second = old (after (after 0)) }
  chosen e (none q z) = let a = z ∙ e in q ∙ rw (a, a, old-none)
  chosen e (one j o q z y) = q ∙ rw (z, y ∙ e, old-none)
  chosen e (both j n o p q z y) = q ∙ rw (z, y)

  pub chosen_is : {near : Around} → degree_of net i ≡ 4 → Near net i 4 near → signed_of near i below ≡ record { first = old (after 0); second = old (after (after 0)) }
  unfolding signed_of
  chosen_is {near} d n =
      rw (n.one (omega arith), n.two (omega arith), n.three (omega arith), n.four (omega arith))
      (chosen last (picked_more up.1.1.1.0 at.1.1.1.0.above (picked_more up.1.1.0 at.1.1.0.above (picked_more up.1.0 at.1.0.above (picked_more up.0 at.0.above (none refl refl))))))
    where
      all : List ℕ
      all = first_at net i ∷ second_at net i ∷ third_at net i ∷ fourth_at net i ∷ []

      up : Upward (touches net i) 0 all
      up = (touching-first net i 0, (touching-first net i (first_at net i), (touching-first net i (second_at net i), (touching-first net i (third_at net i), tt))))

      four : These (touches net i) 0 all
      four = touching-all g i l all d up

      at : All (At (touches net i) 0) all
      at = four.each

      last : after (fourth_at net i) ≡ 0
      last =
          split (eqb (after (fourth_at net i)) 0) (λ e. eqb-true _ _ e)
          (λ e. let h = signed-first net i below (fourth_at net i) in
          let m = h.above (positive _ e) in
          let a = up.1.0.above at.1.0.above in
          let b = up.1.1.0.above at.1.1.0.above in
          let c = up.1.1.1.0.above at.1.1.1.0.above in
          absurd (none_any (λ y. after (fourth_at net i) ≡ y) all ((λ z. omega arith), ((λ z. omega arith), ((λ z. omega arith), ((λ z. omega arith), tt)))) (four.all _ (touching-at g i l _ (sign-touches net i below _ (h.passes (positive _ e)))))))

pub tried : {net : Net} {constant : Fraction} {supply : List Fraction} {i d : ℕ} {near : Around} → Given net constant supply i d near → crossing_by constant i d (get_or supply i no_figure) near ≡ crossing net i
unfolding crossing_by crossing only_where
tried {net} {i = i} {d} {near} g =
    subst₂ (λ k s. crossing_by k i d (get_or s i no_figure) near ≡ crossing net i) g.constant_is g.supplies
    (rw (g.here, g.degree) (split (eqb d 4)
    (λ e. let n : Near net i 4 near = rw (eqb-true d 4 e) at g.arcs in
    let by : (below : Bool) → _ = λ below. chosen_is g.legal i (here-number g.legal i g.here).0 below (g.degree ∙ eqb-true d 4 e) n in
    rw (e, by true, by false, n.one (omega arith), n.two (omega arith), n.three (omega arith), n.four (omega arith)))
    (λ e. rw e)))
