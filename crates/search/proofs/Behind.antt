-- What lies behind the arcs' numbers in the lent list: the edits of steps leave it as it is, so that it is zero.
use mathlib.Core.Path.{◌≡◌, refl, sym, ap, ◌∙◌}
use mathlib.Core.Bool.{true}
use mathlib.Core.List.{List, [], ◌∷◌, ◌++◌}
use Prim.Native.Nat.{ℕ, zero, suc, ◌+◌, ◌-◌, ◌≤◌}
use native.Mathlib.Numerals.{add-one}
use native.Mathlib.Omega.{arith}
use lib.Dec.{ltb}
use lib.IntN.{ℤ}
use lib.ListN.{length, take, drop, take-append-drop}
use lib.Seq.{drop-set-lt}
use borrow.Author.Tests.{ltb-true, ltb-false}
use Rattle.loops.specs.Loops.{upto}
use Rattle.network.specs.declared.Arc.{Arc}
use Rattle.network.specs.declared.ArcUpdate.{ArcUpdate}
use Rattle.network.specs.declared.Edit.{Edit}
use Rattle.network.specs.declared.Net.{Net}
use Rattle.network.specs.declared.Nodes.{Nodes}
use Rattle.network.specs.Network.{updates_of}
use Rattle.records.specs.Network.{figures, n_of, m_of, sizes_right, arc_in, load_turn, loaded}
use Rattle.records.proofs.Questions.{sizes-are}
use Rattle.network.specs.ArcList.{net_in, no_arcs, replaced, replaced_by, replaced_all}
use Rattle.network.proofs.Lists.{arcs_are}
use Rattle.step.specs.declared.Change.{Change}
use Rattle.step.specs.Back.{old_arcs_of}
use Rattle.step.proofs.Lines.{split}
use Rattle.step.proofs.Each.{All, all_map}
use Rattle.step.proofs.Frame.{Unnamed}
use Rattle.step.proofs.Laws.{OldAt, HandedOn}
use Rattle.search.specs.Search.{list_of}

-- ---- the numbers that a step's change names are at most 96, as those of the old arcs are

pub within : {net : Net} {c : Change} → HandedOn net c → All (λ (u : ArcUpdate). u.number ≤ 96) (updates_of c.edit)
within {net} {c} h =
    (each c.edit.one.number (λ n l. n.0 l refl), (each c.edit.two.number (λ n l. n.1.0 l refl), (each c.edit.three.number (λ n l. n.1.1.0 l refl), (each c.edit.four.number (λ n l. n.1.1.1.0 l refl), tt))))
  where
    each : (j : ℕ) → (Unnamed (updates_of c.edit) j → 1 ≤ j → ⊥) → j ≤ 96
    each j f =
        split (ltb 96 j)
        (λ e. let m = ltb-true 96 j e in
        let old : (u : ArcUpdate) → OldAt net u → 1 ≤ u.number → j ≡ u.number → ⊥ = λ u o l z. omega (arith, o.0, z, m) in
        absurd (f (h.named j (all_map old (old_arcs_of c.old) h.arcs)) (omega (arith, m))))
        (ltb-false 96 j)

-- ---- records replaced and loaded

one-behind : (xs : List Arc) (j : ℕ) (t : Arc) → j ≤ 96 → drop 96 (replaced xs j t) ≡ drop 96 xs
unfolding replaced
one-behind xs zero t l = refl
one-behind xs (suc j) t l = drop-set-lt 96 xs j t l

pub replaced-behind : (xs : List Arc) (edit : Edit) → All (λ (u : ArcUpdate). u.number ≤ 96) (updates_of edit) → drop 96 (replaced_all xs edit) ≡ drop 96 xs
unfolding replaced_all
replaced-behind xs edit = by (updates_of edit) xs
  where
    by : (us : List ArcUpdate) (xs : List Arc) → All (λ (u : ArcUpdate). u.number ≤ 96) us → drop 96 (replaced_by xs us) ≡ drop 96 xs
    by [] xs h = refl
    by (u ∷ us) xs h = by us (replaced xs u.number u.arc) h.1 ∙ one-behind xs u.number u.arc h.0

pub loaded-behind : (words : List ℤ) → sizes_right words ≡ true → (xs : List Arc) → drop 96 (loaded words xs) ≡ drop 96 xs
unfolding loaded upto
loaded-behind words e xs = rw e (by (m_of words) (sizes-are words e).few_arcs)
  where
    by : (m : ℕ) → m ≤ 96 → drop 96 (upto (load_turn words (n_of words) (figures (n_of words) (m_of words))) m xs) ≡ drop 96 xs
    by zero l = refl
    by (suc k) l = one-behind _ (k + 1) (arc_in words (n_of words) (figures (n_of words) (m_of words)) k) (omega (arith, l, add-one k)) ∙ by k (omega (arith, l, add-one k))

pub drop-none : (n k : ℕ) → drop n (no_arcs k) ≡ no_arcs (k - n)
drop-none zero k = let e : k - 0 ≡ k = omega arith in rw e
drop-none (suc n) zero = let e : 0 - suc n ≡ 0 = omega arith in rw e
drop-none (suc n) (suc k) = let e : suc k - suc n ≡ k - n = omega (arith, add-one n, add-one k) in rw e (drop-none n k)

-- ---- the whole list

pub list-of : {nodes : Nodes} {xs : List Arc} {net : Net} {k : ℕ} → length xs ≡ k → 96 ≤ k → net_in nodes xs ≡ net → drop 96 xs ≡ no_arcs (k - 96) → xs ≡ list_of net k
unfolding list_of
list-of {nodes} {xs} {net} {k} e l q b =
    sym (take-append-drop 96 xs) ∙ ap (λ (ys : List Arc). take 96 xs ++ ys) b ∙ ap (λ (ys : List Arc). drop 1 ys ++ no_arcs (k - 96)) (sym (arcs_are xs (rw e l)) ∙ ap (λ (x : Net). x.arcs) q)
