-- A run, from a network's record to what is left of it: the steps in the log, the arcs in the lent list.
use Rattle.std.specs.Prelude.{Option, Some, None, Result, Ok, Err, ⊤, ◌≡◌, ◌&&◌, List, ◌∷◌, ◌++◌, ℕ, ◌-◌, leb, ℤ, length, drop}
use Rattle.network.specs.declared.Arc.{Arc}
use Rattle.network.specs.declared.Net.{Net}
use Rattle.network.specs.Limits.{max_arcs}
use Rattle.network.specs.ArcList.{no_arcs, nodes_of}
use Rattle.records.specs.Limits.{scratch_room}
use Rattle.records.specs.Questions.{◌asks◌, first_no}
use Rattle.records.specs.Network.{questions, read_of}
use Rattle.step.specs.declared.Next.{Next}
use Rattle.rules.specs.Table.{reduced}
use Rattle.step_log.specs.Log.{logged}
use Rattle.records.specs.declared.refusal.Refusal.{Refusal}
use Rattle.search.specs.declared.Contradiction.{Contradiction}
use Rattle.search.specs.declared.Ran.{Ran}

-- room for the log's words and for the arcs, and the questions of the record
unfoldable pub refusal_of : List ℤ → ℕ → ℕ → Result ⊤ Refusal
refusal_of xs log arcs = first_no (Refusal.Room asks (leb scratch_room log && leb max_arcs arcs) ∷ questions xs)

-- what the search finds in what is left
abbrev pub ends_of : Option Contradiction → Next
ends_of None = Next.Stops
ends_of (Some c) = Next.Refuted c.rule c.place

-- a list of k records: the arcs of a network at their numbers, and zeros behind them
unfoldable pub list_of : Net → ℕ → List Arc
list_of net k = drop 1 net.arcs ++ no_arcs (k - max_arcs)

-- the record xs, with the log zs and the list ks before, log and arcs after: reduced
pub record Reached (xs zs : List ℤ) (ks : List Arc) (r : Ran) (log : List ℤ) (arcs : List Arc) : Type 0 where
  pub asked : refusal_of xs (length zs) (length ks) ≡ Ok tt
  pub steps_is : r.steps ≡ length (reduced (read_of xs)).steps
  pub ends_is : (reduced (read_of xs)).ends ≡ ends_of r.contradiction
  pub nodes_is : r.nodes ≡ nodes_of (reduced (read_of xs)).net
  pub log_is : log ≡ logged 0 (reduced (read_of xs)).steps zs
  pub list_is : arcs ≡ list_of (reduced (read_of xs)).net (length ks)

-- or refused, which leaves all as it is
pub record Left (xs zs : List ℤ) (ks : List Arc) (q : Refusal) (log : List ℤ) (arcs : List Arc) : Type 0 where
  pub asked : refusal_of xs (length zs) (length ks) ≡ Err q
  pub log_is : log ≡ zs
  pub list_is : arcs ≡ ks

abbrev pub Searched : List ℤ → List ℤ → List Arc → Result Ran Refusal → List ℤ → List Arc → Type 0
Searched xs zs ks (Ok r) log arcs = Reached xs zs ks r log arcs
Searched xs zs ks (Err q) log arcs = Left xs zs ks q log arcs
