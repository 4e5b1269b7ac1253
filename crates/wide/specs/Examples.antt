-- The formula on some figures.
use Rattle.std.specs.Prelude.{◌≡◌, refl, pos, negsuc}
use Rattle.integer.specs.Gcd.{gcd, gcd_by}
use Rattle.std.specs.Prelude.{Ok, Err}
use Rattle.fraction.specs.Exact.{over, is_operand, fitted, reduce_of, misfit}
use Rattle.wide.specs.Share.{ratio_of, share_of}

-- products of 93 bits, their difference of 94, and a ratio of 125 bits over 124, whose result fits
widest : share_of (over (pos 2147483647) 2147483645) (over (negsuc 2147483646) 2147483646) (over (pos 2147483646) 2147483645) (over (negsuc 2147483420) 2147483645) ≡ Ok (over (pos 477218588) 238609269)
unfolding share_of ratio_of reduce_of fitted is_operand gcd gcd_by
widest = refl

-- 2147483647 fits, 2147483648 does not
greatest : share_of (over (pos 2147483647) 1) (over (pos 1) 1) (over (pos 0) 1) (over (pos 1) 1) ≡ Ok (over (pos 2147483647) 1)
unfolding share_of ratio_of reduce_of fitted is_operand gcd gcd_by
greatest = refl

beyond : share_of (over (pos 2147483647) 1) (over (pos 1) 1) (over (negsuc 0) 1) (over (pos 1) 1) ≡ Err misfit
unfolding share_of ratio_of reduce_of fitted is_operand gcd gcd_by
beyond = refl

-- there is none over 0
over_zero : share_of (over (pos 1) 1) (over (pos 1) 1) (over (pos 0) 1) (over (pos 0) 1) ≡ Err misfit
unfolding share_of ratio_of reduce_of fitted is_operand gcd gcd_by
over_zero = refl
