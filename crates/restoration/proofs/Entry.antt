-- All that a call of `restore` says, from the result and the words.
use mathlib.Core.Path.{◌≡◌, sym, ap, ◌∙◌}
use mathlib.Core.List.{List}
use Prim.Native.Nat.{ℕ}
use lib.IntN.{ℤ}
use Rattle.loops.specs.Loops.{zeros}
use Rattle.network.specs.declared.Arc.{Arc}
use Rattle.network.specs.ArcList.{no_arcs}
use Rattle.records.specs.Network.{read_of}
use Rattle.rules.specs.Table.{reduced}
use Rattle.std.specs.Prelude.{Result, ⊤}
use Rattle.records.specs.declared.refusal.Refusal.{Refusal}
use Rattle.records.specs.Questions.{number_in}
use Rattle.restoration.specs.Restore.{refusal_of, Written, Restoration}
use Rattle.restoration.proofs.Optimum.{restored-optimum}
use Rattle.restoration.proofs.Passed.{passed-exactly, six-flowless}

pub says : (xs zs ys : List ℤ) (o v w k : ℕ) {r : Result ⊤ Refusal} {out values scratch : List ℤ} {arcs : List Arc} → Written (refusal_of xs zs ys o v w k) (read_of xs) (reduced (read_of xs)) ys r out values o v → scratch ≡ zeros w → arcs ≡ no_arcs k → Restoration xs zs ys o v w k r out values scratch arcs
says xs zs ys o v w k {r} h z a =
    record {
      number = n;
      result = h.result;
      out_is = h.out_is;
      values_is = h.values_is;
      scratch_is = z;
      arcs_is = a;
      exactly = λ e. rw n (passed-exactly xs zs ys o v w k e);
      flowless = λ e. six-flowless xs zs ys o v w k (sym n ∙ e);
      optimum = restored-optimum xs zs ys o v w k h;
    }
  where
    n : number_in r ≡ number_in (refusal_of xs zs ys o v w k)
    n = ap number_in h.result
