-- The run whose arcs stand in the lent list, turn by turn, is the run of its network.
--     underway-none .. underway-more     the loop's invariant
--     begins, run_is, refused_is     from the record to the end
use mathlib.Core.Path.{◌≡◌, refl, sym, ap, subst, subst⁻¹, ◌∙◌}
use mathlib.Core.List.{List, [], ◌∷◌}
use Prim.Native.Nat.{ℕ, zero, suc, ◌+◌, ◌-◌, ◌≤◌, ◌<◌}
use native.Mathlib.Numerals.{add-one}
use native.Mathlib.Omega.{arith}
use lib.IntN.{ℤ}
use lib.ListN.{length, drop, length-replicate}
use Rattle.network.specs.declared.Arc.{Arc}
use Rattle.network.specs.declared.Net.{Net}
use Rattle.network.specs.declared.Nodes.{Nodes}
use Rattle.network.specs.Network.{no_arc, applied}
use Rattle.network.specs.ArcList.{nodes_of, net_in, no_arcs, replaced_all}
use Rattle.records.specs.Network.{loaded, read_of}
use Rattle.network.proofs.Lists.{changed-net, length-replaced-all}
use Rattle.records.proofs.Loaded.{length-loaded, loaded-net}
use Rattle.records.proofs.Questions.{all_yes as answered}
use Rattle.step.specs.declared.Step.{Step}
use Rattle.step.specs.declared.Next.TheVariants.{Takes}
use Rattle.step.specs.Run.{Run, after, run_by, run_of, back_of}
use Rattle.step.proofs.RunLaws.{run-done}
use Rattle.step.proofs.Fewer.{legal-left}
use Rattle.costly_arc.specs.Seen.{Seen, Known, nothing_seen, marked_all}
use Rattle.costly_arc.proofs.Known.{known-nothing, known-after}
use Rattle.rules.specs.Table.{rules, next_of, reduced}
use Rattle.rules.proofs.Whole.{next-right}
use Rattle.step_log.specs.Log.{with_step, logged}
use Rattle.step_log.proofs.Logged.{logged-long}
use Rattle.search.proofs.Questions.{AllYes, all_yes, legal-read}
use Rattle.search.proofs.Behind.{within, replaced-behind, loaded-behind, drop-none, list-of}
use Rattle.search.specs.declared.Progress.{Progress}
use Rattle.std.specs.Prelude.{Option, Some, None, Result, Ok, Err}
use Rattle.records.specs.declared.refusal.Refusal.{Refusal}
use Rattle.search.specs.declared.Contradiction.{Contradiction}
use Rattle.search.specs.declared.Ran.{Ran}
use Rattle.search.specs.Search.{refusal_of, ends_of, list_of, Reached, Searched}
use Rattle.search.specs.internal.Progress.{moved, begun, ended, Ready, Told, told_of, Finished}

-- ---- at the loop's head

pub record Underway (run : Run) (log : List ℤ) (arcs : List Arc) (at : Progress) (log' : List ℤ) (arcs' : List Arc) : Type 0 where
  pub wide : 96 ≤ length arcs'
  pub long : length arcs' ≡ length arcs
  pub behind : drop 96 arcs' ≡ drop 96 arcs
  pub log_long : length log' ≡ length log
  pub ready : Ready (net_in at.nodes arcs') at.seen at.steps
  -- what the run comes to
  pub told : told_of run 0 log ≡ told_of (run_of next_of (128 - at.steps) (net_in at.nodes arcs')) at.steps log'

pub underway-none : {nodes : Nodes} {log : List ℤ} {arcs : List Arc} → 96 ≤ length arcs → Ready (net_in nodes arcs) nothing_seen 0 → Underway (reduced (net_in nodes arcs)) log arcs (begun nodes) log arcs
underway-none l g = record { wide = l; long = refl; behind = refl; log_long = refl; ready = g; told = refl }

-- ---- one turn

-- the run goes on with the step that is found
onward : (many : ℕ) (net : Net) (s : Step) → next_of net ≡ Takes s → run_of next_of (suc many) net ≡ after s (run_of next_of many (applied net s.change.edit))
unfolding run_of run_by
onward many net s e = rw e

-- and the step is in the log
told-after : (s : Step) (run : Run) (k : ℕ) (zs : List ℤ) → told_of (after s run) k zs ≡ told_of run (k + 1) (with_step zs k s)
unfolding logged
told-after s run k zs = let e : k + suc (length run.steps) ≡ k + 1 + length run.steps = omega (arith, add-one (length run.steps)) in rw (e, add-one k)

-- or it ends there
stands : (many : ℕ) (net : Net) (end : Option Contradiction) → next_of net ≡ ends_of end → run_of next_of many net ≡ record { steps = []; net = net; ends = ends_of end }
unfolding run_of run_by
stands zero net end e = rw e
stands (suc many) net None e = rw e
stands (suc many) net (Some x) e = rw e

module _ {run : Run} {log : List ℤ} {arcs : List Arc} {at : Progress} {log' : List ℤ} {arcs' : List Arc} (h : Underway run log arcs at log' arcs') where
  abbrev here : Net
  here = net_in at.nodes arcs'

  -- there is room for a step
  pub room : (s : Step) → next_of here ≡ Takes s → at.steps < 128
  unfolding run_of
  room s e = by (128 - at.steps) refl (h.ready.done s)
    where
      by : (many : ℕ) → 128 - at.steps ≡ many → ((run_of next_of many here).ends ≡ Takes s → ⊥) → at.steps < 128
      by zero q d = absurd (d e)
      by (suc many) q d = omega (arith, q, add-one many)

  -- the run ends
  pub ends-here : (end : Option Contradiction) → next_of here ≡ ends_of end → Finished run log arcs (ended at end) log' arcs'
  unfolding logged
  ends-here end e =
      let z : at.steps + 0 ≡ at.steps = omega arith in
      record { long = h.long; behind = h.behind; told = h.told ∙ rw (stands (128 - at.steps) here end e, z) }

  -- or a step is taken
  pub goes-on : {seen : Seen} → Known here (at.steps + 1) seen → (s : Step) → next_of here ≡ Takes s → Underway run log arcs (moved at here seen s) (with_step log' at.steps s) (replaced_all arcs' s.change.edit)
  unfolding logged
  goes-on {seen} known s e =
      let g = h.ready in
      let right = (next-right here g.legal).taken s e in
      let edit = s.change.edit in
      let m = 128 - (at.steps + 1) in
      let q : 128 - at.steps ≡ suc m = omega (arith, room s e, add-one m) in
      let more : run_of next_of (128 - at.steps) here ≡ after s (run_of next_of m (applied here edit)) = ap (λ (k : ℕ). run_of next_of k here) q ∙ onward m here s e in
      let net_is = changed-net at.nodes arcs' edit h.wide in
      record {
        wide = rw (length-replaced-all arcs' edit) h.wide;
        long = length-replaced-all arcs' edit ∙ h.long;
        behind = replaced-behind arcs' edit (within right.handed_on) ∙ h.behind;
        log_long = logged-long at.steps (s ∷ []) log' ∙ h.log_long;
        ready = subst⁻¹ (λ (x : Net). Ready x (marked_all seen edit (at.steps + 1)) (at.steps + 1)) net_is
            (record { legal = right.legal; known = known-after known edit; few = omega (arith, room s e); done = λ u z. g.done u (ap (λ (x : Run). x.ends) more ∙ z) });
        told = h.told ∙ (ap (λ (x : Run). told_of x at.steps log') more ∙ told-after s (run_of next_of m (applied here edit)) at.steps log' ∙ ap (λ (x : Net). told_of (run_of next_of m x) (at.steps + 1) (with_step log' at.steps s)) (sym net_is));
      }

-- ---- from the record to the end

module _ (network : List ℤ) (log : ℕ) (arcs : ℕ) (q : refusal_of network log arcs ≡ Ok tt) where
  a : AllYes network log arcs
  a = all_yes network log arcs q

  -- the list, cleared and loaded, with the nodes that are read
  module _ {nodes : Nodes} {cleared list : List Arc} (e : nodes ≡ nodes_of (read_of network)) (c : cleared ≡ no_arcs arcs) (l : list ≡ loaded network cleared) where
    list_is : list ≡ loaded network (no_arcs arcs)
    list_is = l ∙ ap (loaded network) c

    read-net : net_in nodes list ≡ read_of network
    read-net = ap (λ (x : Nodes). net_in x list) e ∙ ap (net_in (nodes_of (read_of network))) list_is ∙ loaded-net network arcs a.wide

    long : length list ≡ arcs
    long = ap length list_is ∙ length-loaded network (no_arcs arcs) ∙ length-replicate arcs no_arc

    zeros-behind : drop 96 list ≡ no_arcs (arcs - 96)
    zeros-behind = ap (drop 96) list_is ∙ loaded-behind network (answered network a.asked).0 (no_arcs arcs) ∙ drop-none 96 arcs

    pub begins : Ready (net_in nodes list) nothing_seen 0 × (96 ≤ length list)
    begins =
        let net = read_of network in
        let g = legal-read a in
        (subst⁻¹ (λ (x : Net). Ready x nothing_seen 0) read-net (record { legal = g; known = known-nothing net; few = omega arith; done = run-done next_of (back_of rules) next-right 128 net g (legal-left g) }), rw long a.wide)

    pub run_is : {zs zs' : List ℤ} {ks ks' : List Arc} {r : Ran} → length zs ≡ log → length ks ≡ arcs → Finished (reduced (net_in nodes list)) zs list r zs' ks' → Reached network zs ks r zs' ks'
    run_is {zs} {zs'} {ks} {ks'} {r} u v f =
        let h : Finished (reduced (read_of network)) zs list r zs' ks' = subst (λ (x : Net). Finished (reduced x) zs list r zs' ks') read-net f in
        record {
          asked = rw (u, v) q;
          steps_is = omega (arith, ap (λ (x : Told). x.steps) h.told);
          ends_is = ap (λ (x : Told). x.ends) h.told;
          nodes_is = sym (ap (λ (x : Told). nodes_of x.net) h.told);
          log_is = sym (ap (λ (x : Told). x.log) h.told);
          list_is = list-of (h.long ∙ long) a.wide (sym (ap (λ (x : Told). x.net) h.told)) (h.behind ∙ zeros-behind) ∙ ap (list_of (reduced (read_of network)).net) (sym v);
        }

-- a refusal leaves all as it is
pub refused_is : (network zs : List ℤ) (ks : List Arc) {r : Result Ran Refusal} {q : Refusal} → r ≡ Err q → refusal_of network (length zs) (length ks) ≡ Err q → Searched network zs ks r zs ks
refused_is network zs ks e f = rw e (record { asked = f; log_is = refl; list_is = refl })
