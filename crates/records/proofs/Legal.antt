-- A record that the questions 2 to 5 let pass holds a legal network.
use mathlib.Core.Path.{◌≡◌, refl, sym, ap, ◌∙◌, subst}
use mathlib.Core.Bool.{Bool, true, false, cond, not, ◌&&◌, ◌||◌}
use mathlib.Core.List.{List}
use mathlib.Core.Logic.{◌⊎◌, inl, inr, ⊎_elim}
use Prim.Native.Nat.{ℕ, zero, suc, ◌+◌, ◌-◌, ◌*◌, ◌≤◌, ◌<◌}
use native.Mathlib.Nat.{mul-add-mod_self_left, mod-eq_of_lt}
use native.Mathlib.Numerals.{add-one}
use native.Mathlib.Omega.{arith}
use lib.Dec.{eqb, leb}
use lib.IntN.{ℤ}
use lib.ListN.{length, replicate}
use borrow.Author.Tests.{le-leb, lt-leb, leb-true, eqb-true}
use Rattle.std.specs.Prelude.{Ok}
use Rattle.loops.specs.Loops.{upto}
use Rattle.loops.proofs.Laws.{all-each}
use Rattle.fraction.specs.declared.Fraction.{Fraction}
use Rattle.fraction.specs.Exact.{Proper, no_lower, no_upper, is_proper, is_same, is_zero, no_figure}
use Rattle.fraction.proofs.Laws.{and_both, proper-is, never}
use Rattle.fraction.proofs.Value.{same-is}
use Rattle.network.specs.declared.Arc.{Arc}
use Rattle.network.specs.declared.Net.{Net}
use Rattle.network.specs.Network.{no_arc, empty_net, arc_at, supply_at, is_here, is_root, with_arc, with_supply, with_node}
use Rattle.records.specs.Arrays.{figure_at}
use Rattle.records.specs.Network.{figures, arc_figure, role_of, is_permitted, is_in_form, is_end, has_ends, arc_in, is_weighted, is_weighted_at, questions, n_of, m_of, sizes_right, node_turn, arc_turn, net_of, read_of}
use Rattle.fraction.specs.Words.{natural_of}
use Rattle.network.specs.Legal.{Bound, LegalArc, Legal, Gapless}
use Rattle.records.specs.Questions.{first_no}
use Rattle.network.proofs.Numbers.{puts, puts-long, puts-out, puts-in, get_or-all, number, by_number}
use Rattle.records.proofs.Questions.{Sized, Formed, sizes-are, all_yes}

-- ---- the network read, list by list

pub nodes-are : (xs : List ℤ) (t n : ℕ) (net : Net) → n ≤ 32 → upto (node_turn xs t) n net ≡ record { n = net.n; m = net.m; constant = net.constant; here = puts (λ _. true) net.here n; supply = puts (λ i. figure_at xs t (i + 1)) net.supply n; arcs = net.arcs }
unfolding puts upto with_node with_supply
nodes-are xs t zero net h = refl
nodes-are xs t (suc n) net h = rw (nodes-are xs t n net (omega (arith, add-one n)), number 32 n (omega (arith, add-one n)))

pub arcs_are : (xs : List ℤ) (p t m : ℕ) (net : Net) → m ≤ 96 → upto (arc_turn xs p t) m net ≡ record { n = net.n; m = net.m; constant = net.constant; here = net.here; supply = net.supply; arcs = puts (arc_in xs p t) net.arcs m }
unfolding puts upto with_arc
arcs_are xs p t zero net h = refl
arcs_are xs p t (suc m) net h = rw (arcs_are xs p t m net (omega (arith, add-one m)), number 96 m (omega (arith, add-one m)))

pub net_is : (xs : List ℤ) (n m : ℕ) → n ≤ 32 → m ≤ 96 → net_of xs n m ≡ record { n = n; m = m; constant = figure_at xs (figures n m) 0; here = puts (λ _. true) (replicate 33 false) n; supply = puts (λ i. figure_at xs (figures n m) (i + 1)) (replicate 33 no_figure) n; arcs = puts (arc_in xs n (figures n m)) (replicate 97 no_arc) m }
unfolding net_of
net_is xs n m h k = rw (nodes-are xs (figures n m) n (empty_net n m _) h, arcs_are xs n (figures n m) m _ k)

-- ---- what stands at each number of the network read

module _ (xs : List ℤ) (n m : ℕ) (h : n ≤ 32) (k : m ≤ 96) where
  pub here-read : (i : ℕ) → i < n → is_here (net_of xs n m) (i + 1) ≡ true
  here-read i l = rw (net_is xs n m h k) (puts-in (λ _. true) (replicate 33 false) false n i l (omega arith))

  pub not-here : (i : ℕ) → (i ≡ 0) ⊎ (n < i) → is_here (net_of xs n m) i ≡ false
  not-here i l = rw (net_is xs n m h k) (puts-out (λ _. true) (replicate 33 false) false n i l ∙ get_or-all 33 i false)

  pub supply-read : (i : ℕ) → i < n → supply_at (net_of xs n m) (i + 1) ≡ figure_at xs (figures n m) (i + 1)
  supply-read i l = rw (net_is xs n m h k) (puts-in (λ i. figure_at xs (figures n m) (i + 1)) (replicate 33 no_figure) no_figure n i l (omega arith))

  pub arc-read : (j : ℕ) → j < m → arc_at (net_of xs n m) (j + 1) ≡ arc_in xs n (figures n m) j
  arc-read j l = rw (net_is xs n m h k) (puts-in (arc_in xs n (figures n m)) (replicate 97 no_arc) no_arc m j l (omega arith))

  pub no-arc-read : (j : ℕ) → (j ≡ 0) ⊎ (m < j) → arc_at (net_of xs n m) j ≡ no_arc
  no-arc-read j l = rw (net_is xs n m h k) (puts-out (arc_in xs n (figures n m)) (replicate 97 no_arc) no_arc m j l ∙ get_or-all 97 j no_arc)

-- ---- question 3: a figure that passes is a fraction in form, or the mark that its place permits

abbrev pub Permitted : ℕ → Fraction → Type 0
Permitted role f = Proper f ⊎ (((role ≡ 3) × (f ≡ no_lower)) ⊎ ((role ≡ 4) × (f ≡ no_upper)))

pub permitted-is : (role : ℕ) (f : Fraction) → is_permitted role f ≡ true → Permitted role f
unfolding is_permitted
permitted-is role f e = by (is_proper f) refl (eqb role 3) refl (eqb role 4) refl e
  where
    by : (p : Bool) → is_proper f ≡ p → (s : Bool) → eqb role 3 ≡ s → (t : Bool) → eqb role 4 ≡ t → (p || cond s (is_same f no_lower) (cond t (is_same f no_upper) false)) ≡ true → Permitted role f
    by true q s a t b e = inl (proper-is f q)
    by false q true a t b e = inr (inl (eqb-true role 3 a, same-is f no_lower e))
    by false q false a true b e = inr (inr (eqb-true role 4 b, same-is f no_upper e))
    by false q false a false b e = never cc

permitted-lower : {f : Fraction} → Permitted 3 f → Bound no_lower f
permitted-lower (inl p) = inl p
permitted-lower (inr (inl p)) = inr p.1
permitted-lower (inr (inr p)) = absurd (omega (arith, p.0))

permitted-upper : {f : Fraction} → Permitted 4 f → Bound no_upper f
permitted-upper (inl p) = inl p
permitted-upper (inr (inl p)) = absurd (omega (arith, p.0))
permitted-upper (inr (inr p)) = inr p.1

-- no mark stands elsewhere
permitted-proper : {f : Fraction} (role : ℕ) → (role ≡ 3 → ⊥) → (role ≡ 4 → ⊥) → Permitted role f → Proper f
permitted-proper role a b (inl p) = p
permitted-proper role a b (inr (inl p)) = absurd (a p.0)
permitted-proper role a b (inr (inr p)) = absurd (b p.0)

role-is : (n j r : ℕ) → r < 7 → role_of n (arc_figure n j + r) ≡ r
unfolding role_of
role-is n j r h =
    let e : arc_figure n j + r - n - 1 ≡ 7 * j + r = omega arith in
    rw (lt-leb (arc_figure n j + r) n (omega arith), e) (mul-add-mod_self_left 7 j r ∙ mod-eq_of_lt h)

node-role : (n k : ℕ) → k ≤ n → role_of n k ≡ 0
unfolding role_of
node-role n k h = rw (le-leb k n h)

-- ---- questions 4 and 5

pub end_is : (n : ℕ) (f : Fraction) → is_end n f ≡ true → (f.den ≡ 1) × (1 ≤ natural_of f.num) × (natural_of f.num ≤ n)
unfolding is_end
end_is n f e =
    let a = and_both (eqb f.den 1) _ e in
    let b = and_both (leb 1 (natural_of f.num)) _ a.1 in
    (eqb-true _ _ a.0, leb-true _ _ b.0, leb-true _ _ b.1)

pub weights-are : (t : Arc) → is_weighted t ≡ true → (is_zero t.a ≡ false) × (is_zero t.b ≡ is_root t)
unfolding is_weighted
weights-are t e = by (is_zero t.a) refl (is_root t) refl (is_zero t.b) refl e
  where
    by : (a : Bool) → is_zero t.a ≡ a → (r : Bool) → is_root t ≡ r → (z : Bool) → is_zero t.b ≡ z → (not a && cond r z (not z)) ≡ true → (is_zero t.a ≡ false) × (is_zero t.b ≡ is_root t)
    by true p r q z s e = never cc
    by false p true q true s e = (p, s ∙ sym q)
    by false p true q false s e = never cc
    by false p false q true s e = never cc
    by false p false q false s e = (p, s ∙ sym q)

-- ---- the network read is legal

module _ (xs : List ℤ) (n m : ℕ) (s : Sized xs n m) (g : Formed xs n m) where
  figure-of-arc : (j r : ℕ) → j < m → r < 7 → Permitted r (figure_at xs (figures n m) (arc_figure n j + r))
  figure-of-arc j r l i =
      permitted-is r _ (rw (role-is n j r i) at (all-each (is_in_form xs n (figures n m)) (figures n m) g.in_form (arc_figure n j + r) (omega arith)))

  node-here : (i : ℕ) → 1 ≤ i → i ≤ n → is_here (net_of xs n m) i ≡ true
  node-here i a b = let e : i - 1 + 1 ≡ i = omega arith in rw e at (here-read xs n m s.few_nodes s.few_arcs (i - 1) (omega arith))

  arc-legal : (j : ℕ) → j < m → (1 ≤ (arc_in xs n (figures n m) j).from) × LegalArc (net_of xs n m) (arc_in xs n (figures n m) j)
  unfolding has_ends arc_in
  arc-legal j l =
      let e = and_both (is_end n (figure_at xs (figures n m) (arc_figure n j))) _ (all-each (has_ends xs n (figures n m)) m g.ends j l) in
      let from = end_is n _ e.0 in
      let to = end_is n _ e.1 in
      let w = weights-are _ (all-each (is_weighted_at xs n (figures n m)) m g.weights j l) in (
        from.1,
        record {
          from_here = node-here _ from.1 from.2;
          to_here = node-here _ to.1 to.2;
          cost_proper = permitted-proper 2 (λ z. omega arith) (λ z. omega arith) (figure-of-arc j 2 l (omega arith));
          lower_bound = permitted-lower (figure-of-arc j 3 l (omega arith));
          upper_bound = permitted-upper (figure-of-arc j 4 l (omega arith));
          a_proper = permitted-proper 5 (λ z. omega arith) (λ z. omega arith) (figure-of-arc j 5 l (omega arith));
          b_proper = permitted-proper 6 (λ z. omega arith) (λ z. omega arith) (figure-of-arc j 6 l (omega arith));
          a_nonzero = w.0;
          b_zero = w.1;
        },
      )

  -- a number has an arc in use, or the zero record
  arc-at : (j : ℕ) → (arc_at (net_of xs n m) j ≡ no_arc) ⊎ ((1 ≤ (arc_at (net_of xs n m) j).from) × LegalArc (net_of xs n m) (arc_at (net_of xs n m) j))
  arc-at j =
      ⊎_elim (λ o. inl (no-arc-read xs n m s.few_nodes s.few_arcs j o))
      (λ (i : (j - 1 + 1 ≡ j) × (j - 1 < m)).
      inr
      (let e : arc_at (net_of xs n m) j ≡ arc_in xs n (figures n m) (j - 1) = rw i.0 at (arc-read xs n m s.few_nodes s.few_arcs (j - 1) i.1) in
      rw e (arc-legal (j - 1) i.1)))
      (by_number m j)

  -- the constant and the supplies are no marks
  figure-of-node : (k : ℕ) → k ≤ n → Proper (figure_at xs (figures n m) k)
  figure-of-node k l = permitted-proper 0 (λ z. omega arith) (λ z. omega arith) (permitted-is 0 _ (rw (node-role n k l) at (all-each (is_in_form xs n (figures n m)) (figures n m) g.in_form k (omega arith))))

  supply-legal : (i : ℕ) → is_here (net_of xs n m) i ≡ true → Proper (supply_at (net_of xs n m) i)
  supply-legal i e =
      ⊎_elim (λ o. never (let z = sym e ∙ not-here xs n m s.few_nodes s.few_arcs i o in cc))
      (λ (k : (i - 1 + 1 ≡ i) × (i - 1 < n)).
      let f : supply_at (net_of xs n m) i ≡ figure_at xs (figures n m) i = rw k.0 at (supply-read xs n m s.few_nodes s.few_arcs (i - 1) k.1) in
      rw f (figure-of-node i (omega arith)))
      (by_number n i)

  formed-legal : Legal (net_of xs n m)
  formed-legal =
      let is = net_is xs n m s.few_nodes s.few_arcs in
      record {
        here_long = ap (λ (t : Net). length t.here) is ∙ puts-long (λ _. true) (replicate 33 false) n;
        supply_long = ap (λ (t : Net). length t.supply) is ∙ puts-long (λ i. figure_at xs (figures n m) (i + 1)) (replicate 33 no_figure) n;
        arcs_long = ap (λ (t : Net). length t.arcs) is ∙ puts-long (arc_in xs n (figures n m)) (replicate 97 no_arc) m;
        few_nodes = rw is s.few_nodes;
        few_arcs = rw is s.few_arcs;
        no_node = not-here xs n m s.few_nodes s.few_arcs 0 (inl refl);
        no-arc = ap (λ (t : Arc). t.from) (no-arc-read xs n m s.few_nodes s.few_arcs 0 (inl refl));
        nodes_beyond = λ i l. not-here xs n m s.few_nodes s.few_arcs i (inr (omega (arith, ap (λ (t : Net). t.n) is)));
        arcs_beyond = λ j l. ap (λ (t : Arc). t.from) (no-arc-read xs n m s.few_nodes s.few_arcs j (inr (omega (arith, ap (λ (t : Net). t.m) is))));
        constant_proper = subst (λ (t : Net). Proper t.constant) (sym is) (figure-of-node 0 (omega arith));
        supply_proper = supply-legal;
        unused = λ j e. ⊎_elim (λ z. z) (λ w. absurd (omega (arith, w.0))) (arc-at j);
        used = λ j l. ⊎_elim (λ z. absurd (omega (arith, ap (λ (t : Arc). t.from) z))) (λ w. w.1) (arc-at j);
      }

  -- its sizes are n and m, and its numbers have no gaps
  formed-gapless : Gapless (net_of xs n m)
  formed-gapless =
      let nodes : (net_of xs n m).n ≡ n = ap (λ (t : Net). t.n) (net_is xs n m s.few_nodes s.few_arcs) in
      let arcs : (net_of xs n m).m ≡ m = ap (λ (t : Net). t.m) (net_is xs n m s.few_nodes s.few_arcs) in
      record {
        node_in = λ i a b. node-here i a (omega arith);
        arc-in = λ j a b.
            let e : j - 1 + 1 ≡ j = omega arith in
            let q : arc_at (net_of xs n m) j ≡ arc_in xs n (figures n m) (j - 1) = rw e at (arc-read xs n m s.few_nodes s.few_arcs (j - 1) (omega arith)) in
            rw q (arc-legal (j - 1) (omega arith)).0;
      }

-- what is read then is the network of its sizes
pub read_is : (xs : List ℤ) → sizes_right xs ≡ true → read_of xs ≡ net_of xs (n_of xs) (m_of xs)
unfolding read_of
read_is xs e = rw e

pub read-legal : (xs : List ℤ) → first_no (questions xs) ≡ Ok tt → Legal (read_of xs)
read-legal xs e = let a = all_yes xs e in rw (read_is xs a.0) (formed-legal xs _ _ (sizes-are xs a.0) a.1)

pub read-gapless : (xs : List ℤ) → first_no (questions xs) ≡ Ok tt → Gapless (read_of xs)
read-gapless xs e = let a = all_yes xs e in rw (read_is xs a.0) (formed-gapless xs _ _ (sizes-are xs a.0) a.1)
