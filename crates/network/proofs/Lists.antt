-- Laws of the lent list of arc records.
--     filled_next                     a record more replaced, from the first on
--     arc-is                          a record is an arc
--     arcs-put                        a record replaced is an arc replaced
--     loaded-net                      a cleared list, loaded, has the network of the record
--     updates-put                     arcs replaced one after the other
--     changed-net                     the records of a step's change replaced: the network after the step
use mathlib.Core.Bool.{Bool, true, false}
use mathlib.Core.List.{List, ◌∷◌, [], ◌++◌}
use mathlib.Core.Path.{◌≡◌, refl, sym, ap, ◌∙◌}
use Prim.Native.Nat.{ℕ, zero, suc, ◌+◌, ◌-◌, ◌<◌, ◌≤◌, min}
use mathlib.Core.Logic.{⊎_elim}
use Rattle.std.proofs.lemmas.Bool.{cases_lt}
use Rattle.std.proofs.lemmas.List.{ext_get_or, length-take-le, length-drop, get_or-take, get_or-drop, get_or-replicate, get_or_past, get_or-append_right}
use native.Mathlib.Numerals.{add-one}
use native.Mathlib.Omega.{arith}
use lib.Dec.{leb}
use lib.ListN.{length, get_or, set, take, drop, replicate, length-set, length-append, length-replicate, get_or-append}
use lib.Seq.{take-suc, take-set-lt, take-set-le}
use borrow.Author.Tests.{le-leb, leb-true, leb-false}
use Rattle.loops.specs.Loops.{build}
use Rattle.loops.proofs.Laws.{Filled, filled_more, length-build, get_or-build, build-const, build-same}
use Rattle.network.specs.declared.Arc.{Arc}
use Rattle.network.specs.declared.Net.{Net}
use Rattle.network.specs.declared.Nodes.{Nodes}
use Rattle.network.specs.declared.ArcUpdate.{ArcUpdate}
use Rattle.network.specs.declared.Edit.{Edit}
use Rattle.network.specs.Network.{no_arc, arc_at, with_arc, with_update, with_updates, updates_of, with_supply, without, applied}
use Rattle.network.specs.ArcList.{record_at, replaced, replaced_by, replaced_all, no_arcs, arcs_in, nodes_of, joined, net_in}

-- ---- a record by its number

pub replaced-next : (xs : List Arc) (i : ℕ) (t : Arc) → set xs i t ≡ replaced xs (i + 1) t
unfolding replaced
replaced-next xs i t = sym (ap (λ (k : ℕ). replaced xs k t) (add-one i))

pub length-replaced : (xs : List Arc) (j : ℕ) (t : Arc) → length (replaced xs j t) ≡ length xs
unfolding replaced
length-replaced xs zero t = refl
length-replaced xs (suc j) t = length-set xs j t

-- one record more is replaced, from the first on
pub filled_next : {f : ℕ → Arc} {n : ℕ} {d s s' : List Arc} {i : ℕ} {t : Arc} → Filled f n d s i → i < n → n ≤ length d → t ≡ f i → s' ≡ replaced s (i + 1) t → Filled f n d s' (i + 1)
filled_next {s = s} {i = i} {t = t} h l b e e' = rw (e', ← replaced-next s i t) (filled_more h l b e)

-- ---- the arcs at their numbers

build-taken : (ys : List Arc) (n : ℕ) → n ≤ length ys → build n (λ i. get_or ys i no_arc) ≡ take n ys
unfolding build
build-taken ys zero l = refl
build-taken ys (suc n) l = ap (λ (h : List Arc). h ++ (get_or ys n no_arc ∷ [])) (build-taken ys n (omega (arith, l))) ∙ sym (take-suc ys n no_arc (omega (arith, l)))

pub arcs_are : (xs : List Arc) → 96 ≤ length xs → arcs_in xs ≡ no_arc ∷ take 96 xs
unfolding arcs_in record_at
arcs_are xs l = build-taken (no_arc ∷ xs) 97 (omega (arith, l))

-- the first n records, 96 of them or all, over the places of the arcs
module _ (xs ys : List Arc) (n : ℕ) (e : n ≡ min (length xs) 96) (y : ys ≡ take n xs) where
  many : length ys ≡ n
  many = rw y (length-take-le n xs (omega (arith, e)))

  abbrev copied : List Arc
  copied = no_arc ∷ (ys ++ drop (n + 1 - 1) (replicate 96 no_arc))

  all-copied : length copied ≡ 97
  all-copied = rw (length-append, many, length-drop, length-replicate) (omega (arith, e))

  copied-at : (i : ℕ) → i < 97 → get_or copied i no_arc ≡ record_at xs i
  unfolding record_at
  copied-at zero l = refl
  copied-at (suc i) l =
      ⊎_elim
      (λ (before : i < n). get_or-append ys _ no_arc i (rw many before) ∙ rw y (get_or-take n xs i no_arc before))
      (λ (behind : n ≤ i). get_or-append_right ys _ n i no_arc many behind ∙ get_or-drop (n + 1 - 1) (replicate 96 no_arc) (i - n) no_arc ∙ get_or-replicate 96 (n + 1 - 1 + (i - n)) no_arc no_arc (omega (arith, l)) ∙ sym (get_or_past xs i no_arc (omega (arith, e, l))))
      (cases_lt i n)

  pub arcs-copied : no_arc ∷ (ys ++ drop (n + 1 - 1) (replicate 96 no_arc)) ≡ arcs_in xs
  unfolding arcs_in
  arcs-copied = ext_get_or no_arc copied _ (rw (all-copied, length-build 97 (record_at xs)) refl) (λ i l. copied-at i (rw (← all-copied) l) ∙ sym (get_or-build 97 (record_at xs) no_arc i (rw (← all-copied) l)))

-- the arc of number j
pub arc-is : (nodes : Nodes) (xs : List Arc) (j : ℕ) → j < 97 → record_at xs j ≡ arc_at (net_in nodes xs) j
unfolding arcs_in
arc-is nodes xs j l = sym (get_or-build 97 (record_at xs) no_arc j l)

pub arcs-put : (net : Net) (xs : List Arc) (j : ℕ) (t : Arc) → 96 ≤ length xs → net.arcs ≡ arcs_in xs → (with_arc net j t).arcs ≡ arcs_in (replaced xs j t)
unfolding with_arc replaced
arcs-put net xs zero t l e = e
arcs-put net xs (suc j) t l e = by-case (leb (suc j) 96) refl
  where
    long : 96 ≤ length (set xs j t)
    long = rw (length-set xs j t) l

    by-case : (b : Bool) → leb (suc j) 96 ≡ b → (with_arc net (suc j) t).arcs ≡ arcs_in (set xs j t)
    by-case true q = rw (le-leb 1 (suc j) (omega arith), q, e, arcs_are xs l, arcs_are (set xs j t) long, take-set-lt 96 xs j t (omega (arith, leb-true (suc j) 96 q)))
    by-case false q = rw (le-leb 1 (suc j) (omega arith), q, e, arcs_are xs l, arcs_are (set xs j t) long, take-set-le 96 xs j t (omega (arith, leb-false (suc j) 96 q)))

pub arcs-none : (k : ℕ) → arcs_in (no_arcs k) ≡ replicate 97 no_arc
unfolding arcs_in record_at
arcs-none k = build-same 97 (record_at (no_arcs k)) (λ _. no_arc) (λ i l. get_or-none (suc k) i) ∙ build-const 97 no_arc
  where
    get_or-none : (n i : ℕ) → get_or (replicate n no_arc) i no_arc ≡ no_arc
    get_or-none zero i = refl
    get_or-none (suc n) zero = refl
    get_or-none (suc n) (suc i) = get_or-none n i

-- ---- a step's change

pub length-replaced-by : (xs : List Arc) (ps : List ArcUpdate) → length (replaced_by xs ps) ≡ length xs
length-replaced-by xs [] = refl
length-replaced-by xs (p ∷ ps) = length-replaced-by (replaced xs p.number p.arc) ps ∙ length-replaced xs p.number p.arc

pub length-replaced-all : (xs : List Arc) (c : Edit) → length (replaced_all xs c) ≡ length xs
unfolding replaced_all
length-replaced-all xs c = length-replaced-by xs (updates_of c)

pub updates-put : (net : Net) (xs : List Arc) (ps : List ArcUpdate) → 96 ≤ length xs → net.arcs ≡ arcs_in xs → (with_updates net ps).arcs ≡ arcs_in (replaced_by xs ps)
updates-put net xs [] l e = e
updates-put net xs (p ∷ ps) l e = updates-put (with_update net p) _ ps (rw (length-replaced xs p.number p.arc) l) (arcs-put net xs p.number p.arc l e)

pub changed-net : (nodes : Nodes) (xs : List Arc) (c : Edit) → 96 ≤ length xs → joined (nodes_of (applied (joined nodes (arcs_in xs)) c)) (arcs_in (replaced_all xs c)) ≡ applied (joined nodes (arcs_in xs)) c
unfolding replaced_all applied without with_supply
changed-net nodes xs c l = ap (joined (nodes_of (applied (joined nodes (arcs_in xs)) c))) (sym (updates-put (joined nodes (arcs_in xs)) xs (updates_of c) l refl))
