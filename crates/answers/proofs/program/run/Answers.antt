use Rattle.std.proofs.Common.{◌≡◌, ◌≤◌, ◌<◌, rules, arith, length, take}
use Rattle.std.specs.Io.KnownBytes.{Consumes, IsAtEnd}
use Rattle.answers.proofs.Known.{front-read, answer-written}
use Rattle.answers.proofs.program.run.Goals as goal

pub returns : goal.returns
returns g c =
    let within : c.in_ok-n.n ≤ length c.read_full.new.buf = search rules in
    let long : length c.read_full.new.buf ≡ 24577 = c.read_full.auto.buf in
    let came : Consumes (g.R.Read.remaining c.args.reader.now) (g.R.Read.remaining c.read_full.new.reader) (take c.in_ok-n.n c.read_full.new.buf) = search rules in
    let end : c.in_ok-n.n < length c.read_full.new.buf → IsAtEnd (g.R.Read.remaining c.read_full.new.reader) = search rules in
    let front = front-read _ _ c.read_full.new.buf c.in_ok-n.n within came end in
    answer-written c.write_all.result _ _ _ g.P.Answering.answer_of 24577 (take c.in_ok-n.n c.read_full.new.buf) (take c.write_answer-end.result c.write_answer-end.new.out) c.write_all.ensures.bytes (c.write_answer-end.ensures.bytes (omega arith)) (rw (← long) front)
