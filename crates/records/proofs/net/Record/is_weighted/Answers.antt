-- `records::net::Record::is_weighted` meets its contract.
use Rattle.std.proofs.Common.{refl, rules, tests}
use Rattle.records.proofs.Every.{every}
use Rattle.records.specs.Network.{figures, is_weighted_at}
use Rattle.records.proofs.net.Record.is_weighted.Goals as goal

pub returns : goal.returns
returns c = every (is_weighted_at c.args.self.words.now c.args.self.n (figures c.args.self.n c.args.self.m)) c.args.self.m _ _ c.all.result refl c.all.ensures.ran (λ x b q k. search (rules, tests))
