-- Arcs that meet at a node: what rules 6 and 8 ask of them.
use Rattle.std.specs.Prelude.{Bool, cond, ◌&&◌, not, ℕ, eqb}
use Rattle.fraction.specs.declared.Fraction.{Fraction}
use Rattle.fraction.specs.Exact.{zero_fraction, no_upper, is_zero, is_less, is_same}
use Rattle.network.specs.declared.Arc.{Arc}
use Rattle.network.specs.Network.{is_touching, is_root, side_of}

-- an arc's multiplier at node i is below 0, or above 0
abbrev pub sign_by : Bool → Bool → Fraction → Bool
sign_by touches below e = touches && cond below (is_less e zero_fraction) (is_less zero_fraction e)

unfoldable pub has_sign_at : Arc → ℕ → Bool → Bool
has_sign_at t i below = sign_by (is_touching t i) below (side_of t i).e

-- no root arc, l = 0 and unbounded above
unfoldable pub is_free : Arc → Bool
is_free t = not (is_root t) && (is_zero t.lower && is_same t.upper no_upper)

-- the other ends of two arcs at node i differ
unfoldable pub is_apart : Arc → Arc → ℕ → Bool
is_apart t s i = not (eqb (side_of t i).other (side_of s i).other)
