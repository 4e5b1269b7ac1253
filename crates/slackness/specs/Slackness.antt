-- "Price rule kept?" of one arc (complementary slackness): "d > 0 only where l is finite and flow = l; d < 0 only where u is finite and flow = u".
use Rattle.std.specs.Prelude.{Bool, true, cond, ◌&&◌}
use Rattle.fraction.specs.declared.Fraction.{Fraction}
use Rattle.fraction.specs.Exact.{zero_fraction, is_finite, is_less, is_same}

unfoldable pub is_at : Fraction → Fraction → Bool
is_at bound x = is_finite bound && is_same x bound

unfoldable pub keeps_rule : Fraction → Fraction → Fraction → Fraction → Bool
keeps_rule l u x d = cond (is_less zero_fraction d) (is_at l x) (cond (is_less d zero_fraction) (is_at u x) true)
