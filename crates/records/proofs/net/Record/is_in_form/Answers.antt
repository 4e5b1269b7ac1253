-- `records::net::Record::is_in_form` meets its contract.
use Rattle.std.proofs.Common.{refl, ap, ◌∙◌, rules, tests}
use Rattle.loops.specs.Loops.{all}
use Rattle.records.proofs.Every.{every}
use Rattle.records.specs.Network.{figures, is_in_form}
use Rattle.records.proofs.net.Record.is_in_form.Goals as goal

pub returns : goal.returns
returns c = every (is_in_form c.args.self.words.now c.args.self.n (figures c.args.self.n c.args.self.m)) c.count.result _ _ c.all.result refl c.all.ensures.ran (λ x b q k. search (rules, tests)) ∙ ap (all _) c.count.ensures
