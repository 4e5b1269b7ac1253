-- `records::net::Record::arc` meets its contract.
use Prim.Native.Nat.{ℕ, ◌+◌, ◌≤◌, ◌<◌}
use native.Mathlib.Omega.{arith}
use lib.Dec.{T, ltb, lit<}
use mir.Syntax.{w64}
use mir.Val.{Fits}
use Rattle.records.specs.Network.{arc_figure, arc_in}
use Rattle.records.proofs.net.Record.arc.Goals as goal

-- an arc's figures are among the t
arc-below : (n j : ℕ) {t : ℕ} → arc_figure n j + 7 ≤ t → arc_figure n j < t
arc-below n j l = omega arith

role-below : (n j r : ℕ) {t : ℕ} → arc_figure n j + 7 ≤ t → T (ltb r 7) → arc_figure n j + r < t
role-below n j r l h = let k : r < 7 = lit< h in omega arith

role-fits : (n j r : ℕ) {t : ℕ} → Fits w64 t → arc_figure n j + 7 ≤ t → T (ltb r 7) → Fits w64 (arc_figure n j + r)
role-fits n j r h l q = let k : arc_figure n j + r < _ = role-below n j r l q in record { fits = omega (arith, k, h.fits) }

pub returns : goal.returns
unfolding arc_in
returns c = rw (c.figure-b.ensures, c.figure-a.ensures, c.figure-upper.ensures, c.figure-lower.ensures, c.figure-cost.ensures, c.natural_of-to.ensures, c.figure-2.ensures, c.natural_of-from.ensures, c.figure.ensures)
