-- The figures of records, and words put over those of a slice.
use mathlib.Core.Path.{◌≡◌, refl, ap, ap₂, sym, ◌∙◌}
use mathlib.Core.List.{List, ◌++◌}
use Prim.Native.Nat.{ℕ, zero, suc, ◌+◌, ◌-◌, ◌*◌, ◌/◌, ◌%◌, ◌≤◌, ◌<◌}
use native.Mathlib.Numerals.{add-one}
use native.Mathlib.Omega.{arith}
use lib.IntN.{ℤ}
use lib.ListN.{length, get_or, set, take}
use borrow.Rule.Slice.PartMut.{mid_of, put_mid}
use borrow.Author.Tests.{le-leb, lt-leb, ne_eqb}
use Rattle.loops.specs.Loops.{build, upto, zeros}
use Rattle.loops.proofs.Laws.{get_or-build, length-build, Filled, filled_none, filled_more, Folded, folded-none, folded_more, folded-all, part-back, part-long}
use Rattle.fraction.specs.declared.Fraction.{Fraction}
use Rattle.fraction.specs.Exact.{no_figure, den_word}
use Rattle.network.specs.declared.Arc.{Arc}
use Rattle.network.specs.declared.Net.{Net}
use Rattle.network.specs.declared.pair.Pair.{Pair}
use Rattle.network.specs.Network.{no_arc, arc_at, supply_at}
use Rattle.network.specs.Pair.{price_at, flow_at}
use Rattle.records.specs.Network.{figures, arc_figure, role_figure, figure_of}
use Rattle.records.specs.Pair.{pair_figure}
use Rattle.records.specs.internal.Put.{num_of, den_of, nums_in, dens_in, put_from, arc_put, arcs_put}
use Rattle.records.specs.Arrays.{arrays_of}
use Rattle.records.proofs.Arrays.{both-filled}
use Rattle.records.proofs.Part.{Numbered}

-- ---- the figures of a network's record, and of a pair's, by their places

pub constant-figure : (net : Net) → figure_of net 0 ≡ net.constant
unfolding figure_of
constant-figure net = refl

pub supply-figure : (net : Net) (i : ℕ) → i < net.n → figure_of net (i + 1) ≡ supply_at net (i + 1)
unfolding figure_of
supply-figure net i l = rw (ne_eqb (i + 1) 0 (λ e. omega arith), le-leb (i + 1) net.n (omega arith))

pub role-figure : (net : Net) (j r : ℕ) → r < 7 → figure_of net (arc_figure net.n j + r) ≡ role_figure (arc_at net (j + 1)) r
unfolding figure_of
role-figure net j r h =
    let e : arc_figure net.n j + r - net.n - 1 ≡ 7 * j + r = omega arith in
    let d : (7 * j + r) / 7 ≡ j = omega arith in
    let q : (7 * j + r) % 7 ≡ r = omega arith in
    rw (ne_eqb (arc_figure net.n j + r) 0 (λ e. omega arith), lt-leb (arc_figure net.n j + r) net.n (omega arith), e, d, q)

pub price-figure : (n : ℕ) (pair : Pair) (i : ℕ) → i < n → pair_figure n pair i ≡ price_at pair (i + 1)
unfolding pair_figure
price-figure n pair i b = rw (le-leb (i + 1) n (omega arith))

pub flow-figure : (n : ℕ) (pair : Pair) (j : ℕ) → pair_figure n pair (n + j) ≡ flow_at pair (j + 1)
unfolding pair_figure
flow-figure n pair j = let e : n + j - n + 1 ≡ j + 1 = omega arith in rw (lt-leb (n + j + 1) n (omega arith), e)

-- ---- words put over those of a slice

-- a loop that takes a slice on and keeps its length: at its head, after the turns below i of n, where d is what stood there
pub record Turned (f : ℕ → List ℤ → List ℤ) (n : ℕ) (d s : List ℤ) (i : ℕ) : Type 0 where
  pub folded : Folded f n d i s
  pub long : length s ≡ length d

pub turned_none : {f : ℕ → List ℤ → List ℤ} {n : ℕ} {d : List ℤ} → Turned f n d d 0
turned_none {f} {n} {d} = record { folded = folded-none f n d; long = refl }

pub turned_more : {f : ℕ → List ℤ → List ℤ} {n : ℕ} {d s t : List ℤ} {i : ℕ} → Turned f n d s i → i < n → length t ≡ length s → t ≡ f i s → Turned f n d t (i + 1)
turned_more {f} h l long e = record { folded = folded_more f h.folded l e; long = long ∙ h.long }

pub turned-all : {f : ℕ → List ℤ → List ℤ} {n : ℕ} {d s : List ℤ} {i : ℕ} → Turned f n d s i → n ≤ i → s ≡ upto f n d
turned-all {f} h l = folded-all f h.folded l

-- t words more, behind k of them
pub filled-from : {f g : ℕ → ℤ} {n : ℕ} {d s : List ℤ} (k t : ℕ) → Filled f n d s k → k + t ≤ n → n ≤ length d → ((r : ℕ) → r < t → g r ≡ f (k + r)) → Filled f n d (put_from g k t s) (k + t)
unfolding put_from upto
filled-from k zero h l b e = let z : k + 0 ≡ k = omega arith in rw z h
filled-from k (suc t) h l b e =
    let q : k + suc t ≡ k + t + 1 = omega (arith, add-one t) in
    rw q (filled_more (filled-from k t h (omega (arith, add-one t)) b (λ r m. e r (omega (arith, add-one t)))) (omega (arith, add-one t)) b (e t (omega (arith, add-one t))))

-- the first t
filled-front : {f g : ℕ → ℤ} {n : ℕ} {d : List ℤ} (t : ℕ) → t ≤ n → n ≤ length d → ((r : ℕ) → r < t → g r ≡ f r) → Filled f n d (put_from g 0 t d) t
filled-front {f} {g} {d = d} t l b e =
    let z : 0 + t ≡ t = omega arith in
    rw z at (filled-from {f = f} {g = g} {d = d} 0 t (filled_none _ _ _) (omega arith) b (λ r m. let y : 0 + r ≡ r = omega arith in rw y (e r m)))

-- the seven figures of the first m arcs, behind the constant and n supplies
filled-arcs : {f : ℕ → ℤ} (w : Fraction → ℤ) (arcs : List Arc) {t : ℕ} {d s : List ℤ} (n m : ℕ) → Filled f t d s (1 + n) → figures n m ≤ t → t ≤ length d → ((j r : ℕ) → j < m → r < 7 → w (role_figure (get_or arcs j no_arc) r) ≡ f (arc_figure n j + r)) → Filled f t d (upto (arc_put w arcs n) m s) (figures n m)
unfolding upto
filled-arcs w arcs n zero h l b e = let z : figures n 0 ≡ 1 + n = omega arith in rw z h
filled-arcs w arcs n (suc m) h l b e =
    let q : figures n (suc m) ≡ figures n m + 7 = omega (arith, add-one m) in
    rw q (filled-from (figures n m) 7 (filled-arcs w arcs n m h (omega (arith, add-one m)) b (λ j r a. e j r (omega (arith, add-one m)))) (omega (arith, add-one m)) b (λ r. e m r (omega (arith, add-one m))))

-- figures that an array holds
put_same : (f g : ℕ → ℤ) (k t : ℕ) (s : List ℤ) → ((r : ℕ) → r < t → f r ≡ g r) → put_from f k t s ≡ put_from g k t s
unfolding put_from upto
put_same f g k zero s e = refl
put_same f g k (suc t) s e = ap₂ (λ (l : List ℤ) v. set l (k + t) v) (put_same f g k t s (λ r m. e r (omega (arith, add-one t)))) (e t (omega (arith, add-one t)))

pub put-built : (w : Fraction → ℤ) (g : ℕ → Fraction) (k t : ℕ) (s : List ℤ) → put_from (λ r. w (get_or (build t g) r no_figure)) k (length (build t g)) s ≡ put_from (λ r. w (g r)) k t s
put-built w g k t s = rw length-build (put_same _ _ k t s (λ r l. ap w (get_or-build t g no_figure r l)))

-- one word of each figure of a network's record, and of a pair's, over the first words of a slice
net-filled : (w : Fraction → ℤ) (net : Net) {d o s u : List ℤ} (supplies : List Fraction) (arcs : List Arc) → Numbered no_figure net.supply net.n supplies → Numbered no_arc net.arcs net.m arcs → o ≡ set d 0 (w net.constant) → s ≡ put_from (λ k. w (get_or supplies k no_figure)) 1 (length supplies) o → u ≡ arcs_put w arcs net.n s → figures net.n net.m ≤ length d → Filled (λ k. w (figure_of net k)) (figures net.n net.m) d u (figures net.n net.m)
unfolding arcs_put
net-filled w net {d} supplies arcs h l z p q b =
    rw (q, p, z, h.long, l.long)
    (filled-arcs w arcs net.n net.m
    (filled-from 1 net.n (filled_more (filled_none (λ k. w (figure_of net k)) (figures net.n net.m) d) (omega arith) b (sym (ap w (constant-figure net)))) (omega arith) b (λ r i. sym (supply-word r i)))
    (omega arith) b (λ j r i k. rw (l.at j i) (sym (ap w (role-figure net j r k)))))
  where
    supply-word : (r : ℕ) → r < net.n → w (figure_of net (1 + r)) ≡ w (get_or supplies r no_figure)
    supply-word r i = let e : 1 + r ≡ r + 1 = omega arith in rw (e, h.at r i) (ap w (supply-figure net r i))

pair-filled : (w : Fraction → ℤ) (n m : ℕ) (pair : Pair) {d s u : List ℤ} (prices flows : List Fraction) → Numbered no_figure pair.price n prices → Numbered no_figure pair.flow m flows → s ≡ put_from (λ k. w (get_or prices k no_figure)) 0 (length prices) d → u ≡ put_from (λ k. w (get_or flows k no_figure)) n (length flows) s → n + m ≤ length d → Filled (λ k. w (pair_figure n pair k)) (n + m) d u (n + m)
pair-filled w n m pair prices flows h l p q b =
    rw (q, p, h.long, l.long)
    (filled-from n m (filled-front n (omega arith) b (λ r i. rw (h.at r i) (sym (ap w (price-figure n pair r i))))) (omega arith) b (λ r i. rw (l.at r i) (sym (ap w (flow-figure n pair r)))))

-- ---- both words of each figure, and the rest of the slice lent for the denominators

arrays-of : (f : ℕ → Fraction) {t : ℕ} {d u e x r : List ℤ} → Filled (λ k. (f k).num) t d u t → Filled (λ k. den_word (f k).den) t e x t → r ≡ take t x ++ zeros (length (mid_of t (length u - t) u) - length (take t x)) → put_mid t (length u - t) u r ≡ arrays_of f t (length d)
arrays-of f {t} {u = u} h k q = rw (part-back t u, q, part-long t u) (both-filled f h k (omega arith))

pub net-arrays : (net : Net) (d e : List ℤ) (supplies : List Fraction) (arcs : List Arc) {o s u y v x r : List ℤ} → Numbered no_figure net.supply net.n supplies → Numbered no_arc net.arcs net.m arcs → net.n ≤ 32 → net.m ≤ 96 → 1410 ≤ length d → length e ≡ 705 → o ≡ set d 0 (num_of net.constant) → s ≡ put_from (nums_in supplies) 1 (length supplies) o → u ≡ arcs_put num_of arcs net.n s → y ≡ set e 0 (den_of net.constant) → v ≡ put_from (dens_in supplies) 1 (length supplies) y → x ≡ arcs_put den_of arcs net.n v → r ≡ take (figures net.n net.m) x ++ zeros (length (mid_of (figures net.n net.m) (length u - (figures net.n net.m)) u) - length (take (figures net.n net.m) x)) → put_mid (figures net.n net.m) (length u - (figures net.n net.m)) u r ≡ arrays_of (figure_of net) (figures net.n net.m) (length d)
net-arrays net d e supplies arcs i j h k l m o s u y v x r = arrays-of (figure_of net) (net-filled num_of net {d = d} supplies arcs i j o s u (omega arith)) (net-filled den_of net {d = e} supplies arcs i j y v x (omega arith)) r

pub pair-arrays : (n m : ℕ) (pair : Pair) (d e : List ℤ) (prices flows : List Fraction) {s u v x r : List ℤ} → Numbered no_figure pair.price n prices → Numbered no_figure pair.flow m flows → n ≤ 32 → m ≤ 96 → 256 ≤ length d → length e ≡ 128 → s ≡ put_from (nums_in prices) 0 (length prices) d → u ≡ put_from (nums_in flows) n (length flows) s → v ≡ put_from (dens_in prices) 0 (length prices) e → x ≡ put_from (dens_in flows) n (length flows) v → r ≡ take (n + m) x ++ zeros (length (mid_of (n + m) (length u - (n + m)) u) - length (take (n + m) x)) → put_mid (n + m) (length u - (n + m)) u r ≡ arrays_of (pair_figure n pair) (n + m) (length d)
pair-arrays n m pair d e prices flows i j h k l z s u v x r = arrays-of (pair_figure n pair) (pair-filled num_of n m pair prices flows i j s u (omega arith)) (pair-filled den_of n m pair prices flows i j v x (omega arith)) r
