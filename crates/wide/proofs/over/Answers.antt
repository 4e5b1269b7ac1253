-- The two products, as the formula has them, and their difference.
use Rattle.std.proofs.Common.{◌≡◌, ◌<◌, pos, nat_abs, ◌*ℤ◌, ◌-ℤ◌, rules}
use mir.Syntax.{w128}
use mir.Val.{SFits}
use Rattle.integer.specs.Machine.{sfits-by}
use Rattle.wide.proofs.Sizes.{apart-is, apart-size}
use Rattle.wide.specs.Share.{over_of}
use Rattle.wide.proofs.over.Goals as goal

module _ (c : goal.After-cross_both-2) where
  left : c.cross_both.result ≡ c.args.r.num *ℤ pos c.args.a.den *ℤ pos c.args.l.den *ℤ pos c.args.b.den
  left = search rules

  right : c.cross_both-2.result ≡ c.args.l.num *ℤ c.args.a.num *ℤ pos c.args.r.den *ℤ pos c.args.b.den
  right = search rules

  size : nat_abs (c.cross_both.result -ℤ c.cross_both-2.result) < 170141183460469231731687303715884105728
  size = let o = c.requires in apart-size _ _ _ _ o.0 o.1 o.2 o.3 _ _ left right

  is : c.cross_both.result -ℤ c.cross_both-2.result ≡ over_of c.args.r c.args.a c.args.l *ℤ pos c.args.b.den
  is = let o = c.requires in apart-is _ _ _ _ o.0 o.1 o.2 o.3 _ _ left right

  fits : SFits w128 (c.cross_both.result -ℤ c.cross_both-2.result)
  fits = sfits-by size

pub overflow_sub-result : goal.overflow_sub-result
overflow_sub-result c = let f = fits c in search rules

pub returns-clause-is : goal.returns-clause-is
returns-clause-is c = let f = fits c in rw (← is c) (search rules)

pub returns-clause-size : goal.returns-clause-size
returns-clause-size c = let f = fits c in let s = size c in search rules
