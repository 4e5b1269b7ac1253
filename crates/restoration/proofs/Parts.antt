-- The parts of a call make up the whole.
use mathlib.Core.Path.{◌≡◌, refl, sym, ap, ap₂, ◌∙◌, subst₂}
use mathlib.Core.Bool.{Bool, true, false, cond, ◌&&◌}
use mathlib.Core.List.{List, ◌++◌}
use Prim.Native.Nat.{ℕ, ◌+◌, ◌*◌}
use lib.Dec.{leb}
use lib.IntN.{ℤ}
use lib.ListN.{length}
use Rattle.loops.specs.Loops.{zeros, build}
use Rattle.network.specs.declared.Arc.{Arc}
use Rattle.network.specs.declared.Net.{Net}
use Rattle.network.specs.declared.Nodes.{Nodes}
use Rattle.network.specs.ArcList.{arcs_in, nodes_of, joined}
use Rattle.step.specs.declared.Next.{Next}
use Rattle.step.specs.Run.{Run, back_of, Way, at, way_back}
use Rattle.rules.specs.Table.{rules, reduced}
use Rattle.records.specs.Questions.{Question, first_no, answered}
use Rattle.records.specs.Network.{questions, read_of}
use Rattle.records.specs.Logged.{stack_word, is_stack_of}
use Rattle.records.specs.Stack.{same_words}
use Rattle.records.specs.Values.{four_words}
use Rattle.records.proofs.Tables.{stops, goes_on_lem}
use Rattle.records.proofs.Logged.{recorded, few-enough}
use Rattle.survivors.specs.Survivors.{packed_of}
use Rattle.search.specs.declared.Ran.{Ran}
use Rattle.search.specs.Search.{ends_of}
use Rattle.search.specs.Search as Search
use Rattle.search.proofs.Questions.{legal-read}
use Rattle.postsolve.specs.Postsolve.{arcs_back}
use Rattle.postsolve.proofs.Reduced.{arcs-given}
use Rattle.reduction.proofs.Found.{Found}
use Rattle.reduction.proofs.Entry.{searched-room, out_short}
use Rattle.std.specs.Prelude.{Result, Ok, Err, ⊤}
use Rattle.records.specs.declared.refusal.Refusal.{Refusal}
use Rattle.records.proofs.Questions as No
use Rattle.records.proofs.Questions.{yes-asked}
use Rattle.fraction.proofs.Laws.{never}
use Rattle.optimality.specs.declared.Examined.{Examined}
use Rattle.restoration.specs.Restore.{is_reduced, is_stack, is_roomy, reduced_net, brought_back, original_value, offer_table, back_table, run_table, restore_table, refusal_of, values_of, Written}
use Rattle.restoration.specs.internal.Parts.{offer_of, values_with, Ended}

-- ---- the questions

module _ (xs zs ys : List ℤ) (o v w k : ℕ) where
  abbrev later : List Question
  later = run_table (read_of xs) (reduced (read_of xs)) zs ys

  -- room for the outputs, then that for the search, then the other questions
  pub room-is : refusal_of xs zs ys o v w k ≡ cond (leb 258 o && leb 4 v) (cond (leb 10240 w && leb 96 k) (first_no (questions xs ++ later)) (Err Refusal.Room)) (Err Refusal.Room)
  unfolding restore_table is_roomy
  room-is = searched-room (leb 258 o) (leb 4 v) (leb 10240 w && leb 96 k) _

  pub no-out : {q : Refusal} → ◌≡◌ {A = Result ⊤ Refusal} (Err q) (cond (leb 258 o) (Ok tt) (Err Refusal.Room)) → refusal_of xs zs ys o v w k ≡ Err q
  no-out e = room-is ∙ out_short (leb 258 o) (leb 4 v) _ e

  module _ {x : ⊤} (out : ◌≡◌ {A = Result ⊤ Refusal} (Ok x) (cond (leb 258 o) (Ok tt) (Err Refusal.Room))) where
    pub no_values : {q : Refusal} → ◌≡◌ {A = Result ⊤ Refusal} (Err q) (cond (leb 4 v) (Ok tt) (Err Refusal.Room)) → refusal_of xs zs ys o v w k ≡ Err q
    no_values e = room-is ∙ rw (yes-asked _ _ out) (sym (No.refused _ _ _ e))

    -- where there is room for the outputs: a refusal of the search, or else one of the others
    module _ {y : ⊤} (values : ◌≡◌ {A = Result ⊤ Refusal} (Ok y) (cond (leb 4 v) (Ok tt) (Err Refusal.Room))) where
      pub search_no : {q : Refusal} → Search.refusal_of xs w k ≡ Err q → refusal_of xs zs ys o v w k ≡ Err q
      unfolding Search.refusal_of
      search_no {q} e = room-is ∙ rw (yes-asked _ _ out, yes-asked _ _ values) (by (leb 10240 w && leb 96 k) e)
        where
          by : (c : Bool) → cond c (first_no (questions xs)) (Err Refusal.Room) ≡ Err q → cond c (first_no (questions xs ++ later)) (Err Refusal.Room) ≡ Err q
          by true e = stops (questions xs) later q e
          by false e = e

      pub search-yes : Search.refusal_of xs w k ≡ Ok tt → refusal_of xs zs ys o v w k ≡ first_no later
      unfolding Search.refusal_of
      search-yes e = room-is ∙ rw (yes-asked _ _ out, yes-asked _ _ values) (by (leb 10240 w && leb 96 k) e)
        where
          by : (c : Bool) → cond c (first_no (questions xs)) (Err Refusal.Room) ≡ Ok tt → cond c (first_no (questions xs ++ later)) (Err Refusal.Room) ≡ first_no later
          by true e = goes_on_lem (questions xs) later e
          by false e = never cc

-- 6 to 12 of a run
abbrev pub earlier : Run → List ℤ → List ℤ → List Question
earlier run zs ys = offer_table (is_reduced run.ends) (is_stack run zs) (reduced_net run) ys

module _ (net : Net) (run : Run) (zs ys : List ℤ) where
  pub offer-no : {q : Refusal} → first_no (earlier run zs ys) ≡ Err q → first_no (run_table net run zs ys) ≡ Err q
  unfolding run_table
  offer-no {q} e = stops (earlier run zs ys) _ q e

  pub offer-yes : first_no (earlier run zs ys) ≡ Ok tt → first_no (run_table net run zs ys) ≡ first_no (back_table net (brought_back run ys))
  unfolding run_table
  offer-yes e = goes_on_lem (earlier run zs ys) _ e

-- ---- nothing is written on a refusal

pub refused : {net : Net} {run : Run} {ys out values : List ℤ} {o v : ℕ} {p : Result ⊤ Refusal} {q : Refusal} → p ≡ Err q → out ≡ zeros o → values ≡ zeros v → Written p net run ys (Err q) out values o v
refused e a b = rw e (record { result = refl; out_is = a; values_is = b })

-- ---- over a run that was found

module _ {xs log : List ℤ} {ran : Ran} {arcs : List Arc} {w k : ℕ} (f : Found xs ran log arcs w k) where
  abbrev run : Run
  run = reduced (read_of xs)

  -- the arcs of the network given, put back
  pub arcs-first : k ≡ length arcs → arcs_in (arcs_back log ran.steps arcs) ≡ (read_of xs).arcs
  arcs-first e = ap (λ n. arcs_in (arcs_back log n arcs)) (sym f.steps_is) ∙ (arcs-given (read_of xs) (legal-read f.asked) log arcs f.holds (rw (← e) f.asked.wide) (ap (λ (t : Net). t.arcs) f.net_is)).0

  -- 6 to 12
  pub offered : (zs ys : List ℤ) {view : List Arc} {left : Net} {r : Result Examined Refusal} → view ≡ arcs_in arcs → left ≡ joined ran.nodes view
      → r ≡ answered (offer_table (is_reduced (ends_of ran.contradiction)) (is_stack_of log ran.steps zs) (packed_of left) ys) (offer_of left ys)
      → r ≡ answered (earlier run zs ys) (offer_of run.net ys)
  offered zs ys {left = left} v l h =
      h ∙ ap (λ (n : Next). answered (offer_table (is_reduced n) (is_stack_of log ran.steps zs) (packed_of left) ys) (offer_of left ys)) (sym f.ends_is)
      ∙ ap (λ b. answered (offer_table (is_reduced run.ends) b (packed_of left) ys) (offer_of left ys)) stack_is
      ∙ ap (λ (n : Net). answered (offer_table (is_reduced run.ends) (is_stack run zs) (packed_of n) ys) (offer_of n ys)) (l ∙ ap (joined ran.nodes) v ∙ f.net_is)
    where
      stack_is : is_stack_of log ran.steps zs ≡ is_stack run zs
      stack_is = few-enough log ran.steps zs f.few ∙ ap (λ n. same_words zs (build (1 + 2 * n) (stack_word log n))) (sym f.steps_is) ∙ ap (same_words zs) (recorded log run.steps f.holds)

  -- 13, and the words; the network given is read from its record beside the arcs, which are put back
  pub went_back : (zs ys : List ℤ) {there : Examined} {way : Way} {nodes : Nodes} {view : List Arc} {given : Net} {r : Result ⊤ Refusal} {out values : List ℤ} {o v : ℕ} → first_no (earlier run zs ys) ≡ Ok tt → there ≡ offer_of run.net ys → way ≡ way_back (back_of rules) run.steps (at there.pair)
      → nodes ≡ nodes_of (read_of xs) → view ≡ (read_of xs).arcs → given ≡ joined nodes view → Ended given there.value way r out values o v
      → {q : Result ⊤ Refusal} → q ≡ first_no (run_table (read_of xs) run zs ys) → Written q (read_of xs) run ys r out values o v
  unfolding brought_back
  went_back zs ys {there = there} {way = way} {r = r} {out = out} {values = values} {o = o} {v = v} none h b n a g e t =
      rw (t ∙ offer-yes (read_of xs) run zs ys none) (whole (subst₂ (λ (net : Net) (y : Way). Ended net there.value y r out values o v) (g ∙ ap₂ joined n a) back e))
    where
      back : way ≡ brought_back run ys
      back = b ∙ ap (λ (t : Examined). way_back (back_of rules) run.steps (at t.pair)) h

      values_are : (q : Result ⊤ Refusal) → values_with q there.value (read_of xs) (brought_back run ys) v ≡ values_of q (read_of xs) run ys (brought_back run ys) v
      values_are (Ok x) = ap (λ (t : Examined). four_words t.value (original_value (read_of xs) (brought_back run ys)) v) h
      values_are (Err q) = refl

      whole : Ended (read_of xs) there.value (brought_back run ys) r out values o v → Written (first_no (back_table (read_of xs) (brought_back run ys))) (read_of xs) run ys r out values o v
      whole e = record { result = e.result; out_is = e.out_is; values_is = e.values_is ∙ values_are (first_no (back_table (read_of xs) (brought_back run ys))) }
