-- `records::pair::all_fractions` meets its contract.
use Rattle.std.proofs.Common.{refl, rules, tests}
use Rattle.records.proofs.Every.{every}
use Rattle.records.specs.Pair.{is_fraction}
use Rattle.records.proofs.pair.all_fractions.Goals as goal

pub returns : goal.returns
returns c = every (is_fraction c.args.pair.now c.args.t) c.args.t _ _ c.all.result refl c.all.ensures.ran (λ x b q k. search (rules, tests))
