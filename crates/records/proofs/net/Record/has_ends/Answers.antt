-- `records::net::Record::has_ends` meets its contract.
use Rattle.std.proofs.Common.{refl, rules, tests}
use Rattle.records.proofs.Every.{every}
use Rattle.records.specs.Network.{figures, has_ends}
use Rattle.records.proofs.net.Record.has_ends.Goals as goal

pub returns : goal.returns
returns c = every (has_ends c.args.self.words.now c.args.self.n (figures c.args.self.n c.args.self.m)) c.args.self.m _ _ c.all.result refl c.all.ensures.ran (λ x b q k. search (rules, tests))
