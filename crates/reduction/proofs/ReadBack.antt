-- A network's record, cut to its length, passes the questions 2 to 5 and is read as that network.
use mathlib.Core.Path.{◌≡◌, refl, sym, ap₂, ◌∙◌}
use mathlib.Core.Bool.{Bool, true, false, cond, not}
use mathlib.Core.List.{List, ◌∷◌}
use mathlib.Core.Logic.{◌⊎◌, inl, inr, ⊎_elim}
use Prim.Native.Nat.{ℕ, zero, suc, ◌+◌, ◌-◌, ◌*◌, ◌/◌, ◌%◌, ◌≤◌, ◌<◌}
use native.Mathlib.Omega.{arith}
use lib.Dec.{eqb, leb}
use lib.IntN.{ℤ, pos}
use lib.ListN.{length, get_or, take, replicate, length-append, length-replicate}
use lib.Seq.{length-take-le, get_or-take, ext_get_or}
use borrow.Author.Tests.{le-leb, leb-true, leb-false, eq-eqb, eqb-true, eqb-false}
use Rattle.integer.specs.Gcd.{gcd-pos, gcd-le}
use Rattle.loops.proofs.Laws.{length-build, each_all}
use Rattle.fraction.specs.declared.Fraction.{Fraction}
use Rattle.fraction.specs.Exact.{Proper, most, no_figure, no_lower, no_upper, is_proper, is_operand, is_same, is_zero, from_words}
use Rattle.fraction.specs.Words.{word, word_of, whole_of}
use Rattle.fraction.proofs.Laws.{is-proper}
use Rattle.network.specs.declared.Arc.{Arc}
use Rattle.network.specs.declared.Net.{Net}
use Rattle.network.specs.Network.{no_arc, arc_at, supply_at, is_here, is_root}
use Rattle.network.specs.Legal.{Bound, LegalArc, Legal, Gapless}
use Rattle.network.proofs.Numbers.{puts, puts-long, puts-out, puts-in, get_or-all, by_number}
use Rattle.network.proofs.Kept.{here-within}
use Rattle.step.proofs.Lines.{split}
use Rattle.std.specs.Prelude.{Ok}
use Rattle.records.specs.Questions.{first_no}
use Rattle.records.specs.Arrays.{figure_at, arrays_of}
use Rattle.records.specs.Network.{figures, arc_figure, sizes_right, role_of, is_permitted, is_in_form, is_end, has_ends, arc_in, is_weighted, is_weighted_at, questions, read_of, role_figure, figure_of, network_of}
use Rattle.records.specs.Cut.{cut_network}
use Rattle.records.proofs.Questions.{asked}
use Rattle.records.proofs.Arrays.{with-room}
use Rattle.records.proofs.Put.{constant-figure, supply-figure, role-figure}
use Rattle.records.proofs.Legal.{Permitted, permitted-is, net_is, read_is}
use Rattle.records.proofs.Written.{figure-written}

-- ---- a record of t figures, cut to its length

-- these words are the sizes n and m and the figures f 0 to f (t - 1), and no more
pub record Holds (xs : List ℤ) (n m t : ℕ) (f : ℕ → Fraction) : Type 0 where
  pub long : length xs ≡ 2 + 2 * t
  pub first : word xs 0 ≡ pos n
  pub second : word xs 1 ≡ pos m
  pub figure : (k : ℕ) → k < t → (f k).den ≤ most → figure_at xs t k ≡ f k

number_word : (k : ℕ) → k ≤ most → word_of k ≡ pos k
unfolding word_of
number_word k h = rw (le-leb k most h)

cut-figure : (xs : List ℤ) (t k : ℕ) → k < t → figure_at (take (2 + 2 * t) xs) t k ≡ figure_at xs t k
unfolding figure_at
cut-figure xs t k l = ap₂ from_words (get_or-take (2 + 2 * t) xs (2 + k) (pos 0) (omega arith)) (get_or-take (2 + 2 * t) xs (2 + t + k) (pos 0) (omega arith))

arrays-long : (f : ℕ → Fraction) (t room : ℕ) → t + t ≤ room → length (arrays_of f t room) ≡ room
unfolding arrays_of
arrays-long f t room h = rw (length-append, length-append, length-build, length-build, length-replicate) (omega arith)

pub cut_holds : (n m t room : ℕ) (f : ℕ → Fraction) → n ≤ 32 → m ≤ 96 → 2 + 2 * t ≤ room → Holds (take (2 + 2 * t) (word_of n ∷ word_of m ∷ arrays_of f t (room - 2))) n m t f
cut_holds n m t room f h k l =
    record {
      long = length-take-le (2 + 2 * t) words (omega (arith, arrays-long f t (room - 2) (omega arith)));
      first = get_or-take (2 + 2 * t) words 0 (pos 0) (omega arith) ∙ number_word n (omega arith);
      second = get_or-take (2 + 2 * t) words 1 (pos 0) (omega arith) ∙ number_word m (omega arith);
      figure = λ i b d. cut-figure words t i b ∙ figure-written (word_of n) (word_of m) f t (room - 2) i b d;
    }
  where
    words : List ℤ
    words = word_of n ∷ word_of m ∷ arrays_of f t (room - 2)

-- ---- a list put anew at the numbers 1 to m

puts_back : {A : Type 0} (f : ℕ → A) (d : A) (l : List A) (long m : ℕ) → length l ≡ long → m < long → ((i : ℕ) → i < m → get_or l (i + 1) d ≡ f i) → ((i : ℕ) → (i ≡ 0) ⊎ (m < i) → get_or l i d ≡ d) → puts f (replicate long d) m ≡ l
puts_back f d l long m e h in-it out =
    ext_get_or d (puts f (replicate long d) m) l (puts-long f (replicate long d) m ∙ length-replicate long d ∙ sym e)
    (λ i _.
    ⊎_elim (λ o. puts-out f (replicate long d) d m i o ∙ get_or-all long i d ∙ sym (out i o))
    (λ (k : (i - 1 + 1 ≡ i) × (i - 1 < m)). rw k.0 at (puts-in f (replicate long d) d m (i - 1) k.1 (rw (length-replicate long d) h) ∙ sym (in-it (i - 1) k.1)))
    (by_number m i))

-- ---- the figures of a legal network are those that question 3 permits

proper-permitted : (role : ℕ) (f : Fraction) → Proper f → is_permitted role f ≡ true
unfolding is_permitted
proper-permitted role f p = rw (is-proper f p)

lower-permitted : (f : Fraction) → Bound no_lower f → is_permitted 3 f ≡ true
unfolding is_permitted is_proper is_operand is_same
lower-permitted f (inl p) = proper-permitted 3 f p
lower-permitted f (inr e) = rw e

upper-permitted : (f : Fraction) → Bound no_upper f → is_permitted 4 f ≡ true
unfolding is_permitted is_proper is_operand is_same
upper-permitted f (inl p) = proper-permitted 4 f p
upper-permitted f (inr e) = rw e

-- and its denominator is one of a word
permitted-den : {role : ℕ} {f : Fraction} → Permitted role f → f.den ≤ most
permitted-den (inl p) = p.operand.den_in
permitted-den (inr (inl p)) = rw p.1 (omega arith)
permitted-den (inr (inr p)) = rw p.1 (omega arith)

whole-proper : (k : ℕ) → k ≤ most → Proper (whole_of k)
whole-proper k h =
    rw (number_word k h)
    (record {
      operand = record { num_in = h; den_pos = omega arith; den_in = omega arith };
      coprime = omega (arith, gcd-pos k 1 (omega arith), gcd-le k 1 (omega arith));
    })

weighted : (t : Arc) → is_zero t.a ≡ false → is_zero t.b ≡ is_root t → is_weighted t ≡ true
unfolding is_weighted
weighted t a b = rw (a, b) (by (is_root t))
  where
    by : (r : Bool) → cond r r (not r) ≡ true
    by true = refl
    by false = refl

module _ {net : Net} (g : Legal net) (u : Gapless net) where
  abbrev many : ℕ
  many = figures net.n net.m

  here-small : (k : ℕ) → is_here net k ≡ true → k ≤ most
  here-small k e = omega (arith, (here-within g k e).1, g.few_nodes)

  here_end : (k : ℕ) → is_here net k ≡ true → is_end net.n (whole_of k) ≡ true
  unfolding is_end
  here_end k e = let b = here-within g k e in rw (number_word k (here-small k e), le-leb 1 k b.0, le-leb k net.n b.1)

  arc-legal : (j : ℕ) → j < net.m → LegalArc net (arc_at net (j + 1))
  arc-legal j l = g.used (j + 1) (u.arc-in (j + 1) (omega arith) (omega arith))

  role-permitted : {t : Arc} → LegalArc net t → (r : ℕ) → r < 7 → is_permitted r (role_figure t r) ≡ true
  unfolding role_figure
  role-permitted {t} h zero l = proper-permitted 0 _ (whole-proper t.from (here-small _ h.from_here))
  role-permitted {t} h (suc zero) l = proper-permitted 1 _ (whole-proper t.to (here-small _ h.to_here))
  role-permitted {t} h (suc (suc zero)) l = proper-permitted 2 _ h.cost_proper
  role-permitted {t} h (suc (suc (suc zero))) l = lower-permitted _ h.lower_bound
  role-permitted {t} h (suc (suc (suc (suc zero)))) l = upper-permitted _ h.upper_bound
  role-permitted {t} h (suc (suc (suc (suc (suc zero))))) l = proper-permitted 5 _ h.a_proper
  role-permitted {t} h (suc (suc (suc (suc (suc (suc zero)))))) l = proper-permitted 6 _ h.b_proper
  role-permitted {t} h (suc (suc (suc (suc (suc (suc (suc r))))))) l = absurd (omega (arith, l))

  figure-permitted : (k : ℕ) → k < many → is_permitted (role_of net.n k) (figure_of net k) ≡ true
  unfolding role_of figure_of
  figure-permitted k l =
      split (eqb k 0) (λ z. rw (z, eqb-true k 0 z, le-leb 0 net.n (omega arith)) (proper-permitted 0 _ g.constant_proper))
      (λ z. let ne = eqb-false k 0 z in
      split (leb k net.n) (λ e. rw (z, e) (proper-permitted 0 _ (g.supply_proper k (u.node_in k (omega arith) (leb-true k net.n e)))))
      (λ e. rw (z, e) (role-permitted (arc-legal ((k - net.n - 1) / 7) (let b = leb-false k net.n e in omega arith)) ((k - net.n - 1) % 7) (omega arith))))

  -- ---- words that hold the figures of such a network

  module _ (xs : List ℤ) (w : Holds xs net.n net.m many (figure_of net)) where
    sizes-held : sizes_right xs ≡ true
    unfolding sizes_right
    sizes-held = rw (w.first, w.second, le-leb _ _ g.few_nodes, le-leb _ _ g.few_arcs) (eq-eqb _ _ w.long)

    figure-held : (k : ℕ) → k < many → figure_at xs many k ≡ figure_of net k
    figure-held k l = w.figure k l (permitted-den (permitted-is (role_of net.n k) _ (figure-permitted k l)))

    role-held : (j r : ℕ) → j < net.m → r < 7 → figure_at xs many (arc_figure net.n j + r) ≡ role_figure (arc_at net (j + 1)) r
    role-held j r l h = figure-held (arc_figure net.n j + r) (omega arith) ∙ role-figure net j r h

    from-held : (j : ℕ) → j < net.m → figure_at xs many (arc_figure net.n j) ≡ whole_of (arc_at net (j + 1)).from
    unfolding role_figure
    from-held j l = let e : arc_figure net.n j + 0 ≡ arc_figure net.n j = omega arith in rw e at (role-held j 0 l (omega arith))

    arc-held : (j : ℕ) → j < net.m → arc_in xs net.n many j ≡ arc_at net (j + 1)
    unfolding arc_in role_figure
    arc-held j l =
        let h = arc-legal j l in
        rw (
          from-held j l,
          role-held j 1 l (omega arith),
          role-held j 2 l (omega arith),
          role-held j 3 l (omega arith),
          role-held j 4 l (omega arith),
          role-held j 5 l (omega arith),
          role-held j 6 l (omega arith),
          number_word _ (here-small _ h.from_here),
          number_word _ (here-small _ h.to_here),
        )

    ends_held : (j : ℕ) → j < net.m → has_ends xs net.n many j ≡ true
    unfolding has_ends role_figure
    ends_held j l = let h = arc-legal j l in rw (from-held j l, role-held j 1 l (omega arith), here_end _ h.from_here, here_end _ h.to_here)

    -- they pass the questions
    none-held : first_no (questions xs) ≡ Ok tt
    none-held =
        sym
        (asked xs xs net.n net.m (sizes-held, refl, rw w.first, rw w.second)
        (sym (each_all (is_in_form xs net.n many) _ (λ k l. rw (figure-held k l) (figure-permitted k l))))
        (sym (each_all (has_ends xs net.n many) _ ends_held))
        (sym (each_all (is_weighted_at xs net.n many) _ (λ j l. let h = arc-legal j l in rw (arc-held j l) (weighted (arc_at net (j + 1)) h.a_nonzero h.b_zero)))))

    -- and they are read as the network
    net-held : ((i : ℕ) → (i ≡ 0) ⊎ (net.n < i) → supply_at net i ≡ no_figure) → read_of xs ≡ net
    net-held bare =
        read_is xs sizes-held
        ∙ rw (
          w.first,
          w.second,
          net_is xs net.n net.m g.few_nodes g.few_arcs,
          constant-held,
          puts_back (λ _. true) false net.here 33 net.n g.here_long (omega (arith, g.few_nodes)) (λ i l. u.node_in (i + 1) (omega arith) (omega arith)) no_node,
          puts_back (λ i. figure_at xs many (i + 1)) no_figure net.supply 33 net.n g.supply_long (omega (arith, g.few_nodes)) supply-held bare,
          puts_back (arc_in xs net.n many) no_arc net.arcs 97 net.m g.arcs_long (omega (arith, g.few_arcs)) (λ j l. sym (arc-held j l)) no-arc,
        )
      where
        constant-held : figure_at xs many 0 ≡ net.constant
        constant-held = figure-held 0 (omega arith) ∙ constant-figure net

        supply-held : (i : ℕ) → i < net.n → supply_at net (i + 1) ≡ figure_at xs many (i + 1)
        supply-held i l = sym (figure-held (i + 1) (omega arith) ∙ supply-figure net i l)

        no_node : (i : ℕ) → (i ≡ 0) ⊎ (net.n < i) → is_here net i ≡ false
        no_node i (inl e) = rw e g.no_node
        no_node i (inr l) = g.nodes_beyond i l

        no-arc : (j : ℕ) → (j ≡ 0) ⊎ (net.m < j) → arc_at net j ≡ no_arc
        no-arc j (inl e) = g.unused j (rw e g.no-arc)
        no-arc j (inr l) = g.unused j (g.arcs_beyond j l)

-- a network's record
pub network-back : (net : Net) (room : ℕ) → Legal net → Gapless net → ((i : ℕ) → (i ≡ 0) ⊎ (net.n < i) → supply_at net i ≡ no_figure) → 1412 ≤ room → (first_no (questions (cut_network net (network_of net room))) ≡ Ok tt) × (read_of (cut_network net (network_of net room)) ≡ net)
unfolding network_of
network-back net room g u bare l = (none-held g u _ held, net-held g u _ held bare)
  where
    held : Holds (cut_network net (network_of net room)) net.n net.m (figures net.n net.m) (figure_of net)
    held =
        rw (with-room 1412 net.n net.m (figure_of net) (figures net.n net.m) room g.few_nodes g.few_arcs l)
        (cut_holds net.n net.m (figures net.n net.m) room (figure_of net) g.few_nodes g.few_arcs (omega (arith, g.few_nodes, g.few_arcs)))
