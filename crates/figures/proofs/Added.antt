-- The balances of all nodes in one list, and an arc's flow added to them.
use mathlib.Core.Path.{◌≡◌, refl, sym, ◌∙◌}
use mathlib.Core.Bool.{cond, not, ◌&&◌, and-false}
use mathlib.Core.List.{List}
use Prim.Native.Nat.{ℕ, ◌<◌, ◌≤◌}
use native.Mathlib.Omega.{arith}
use lib.Dec.{eqb, ltb}
use lib.ListN.{length, length-set}
use lib.Seq.{get_or-set_same, get_or-set_other}
use borrow.Author.Tests.{ne_eqb, eqb-true, eqb-false, eq-eqb}
use Rattle.std.proofs.lemmas.Bool.{ltb-true, ltb-false}
use Rattle.fraction.specs.declared.Fraction.{Fraction}
use Rattle.fraction.specs.Exact.{Worked}
use Rattle.std.specs.Prelude.{Ok}
use Rattle.fraction.specs.Formula.{◌⊕◌, ◌⊗◌}
use Rattle.network.specs.declared.Arc.{Arc}
use Rattle.network.specs.Network.{is_touching, is_root, side_of}
use Rattle.step.proofs.Lines.{split}
use Rattle.figures.specs.internal.Listed.{sum_at, place_of, to_place, with_term, with_arc}

-- the balance of node i where one is replaced
term-at : (s : List Worked) (k : ℕ) (e x : Fraction) (i : ℕ) → length s ≡ 34 → k ≤ 33 → sum_at (with_term s k e x) i ≡ cond (eqb k i) (sum_at s i ⊕ Ok e ⊗ Ok x) (sum_at s i)
term-at s k e x i n h = split (eqb k i)
    (λ q. rw q (rw (← eqb-true k i q) (get_or-set_same s k _ _ (omega (arith, n)))))
    (λ q. rw q (get_or-set_other s k i _ _ (λ z. eqb-false k i q (sym z))))

-- a place is the node's own, or none's
place : (k i : ℕ) → i < 33 → (place_of k ≤ 33) × (eqb (place_of k) i ≡ eqb k i)
place k i h = split (ltb k 33)
    (λ q. rw q (omega (arith, ltb-true k 33 q), refl))
    (λ q. rw q (omega arith, ne_eqb 33 i (λ z. omega (arith, z)) ∙ sym (ne_eqb k i (λ z. omega (arith, z, ltb-false k 33 q)))))

to : (t : Arc) (i : ℕ) → i < 33 → (to_place t ≤ 33) × (eqb (to_place t) i ≡ (not (is_root t) && eqb t.to i))
to t i h = split (is_root t)
    (λ q. rw q (omega arith, ne_eqb 33 i (λ z. omega (arith, z))))
    (λ q. rw q (place t.to i h))

-- an arc adds at the places of its nodes: at the last where there is no such node
pub added : (s : List Worked) (t : Arc) (x : Fraction) (i : ℕ) → length s ≡ 34 → i < 33 → sum_at (with_arc s t x) i ≡ cond (is_touching t i) (sum_at s i ⊕ Ok (side_of t i).e ⊗ Ok x) (sum_at s i)
unfolding is_touching is_root side_of
added s t x i n h =
    let p = place t.from i h in
    let q = to t i h in
    rw (term-at (with_term s (place_of t.from) t.a x) (to_place t) t.b x i (length-set _ _ _ ∙ n) q.0, term-at s (place_of t.from) t.a x i n p.0, p.1, q.1)
    (split (eqb t.from i)
    (λ f. split (eqb t.to i) (λ g. rw (f, g, eq-eqb t.from t.to (eqb-true _ _ f ∙ sym (eqb-true _ _ g))) refl) (λ g. rw (f, g, and-false) refl))
    (λ f. split (eqb t.to i) (λ g. rw (f, g, ne_eqb t.from t.to (λ z. eqb-false _ _ f (z ∙ eqb-true _ _ g))) refl) (λ g. rw (f, g, and-false) refl)))
