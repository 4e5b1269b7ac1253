use Rattle.std.proofs.Common.{arith}
use Rattle.text.proofs.Words.{read_found, read-long, read-many, read-refused}
use Rattle.text.proofs.read_words.Goals as goal
use Rattle.text.proofs.read_words.Goals.{in_default-via-in-Some+else-n-words, in_default-via-in_default}

pub returns-then-text-gt-MAX_BYTES : goal.returns-then-text-gt-MAX_BYTES
returns-then-text-gt-MAX_BYTES c = read-long c.if-text-gt-MAX_BYTES.true c.refuse.ensures.0 c.refuse.ensures.1

pub returns-in-Some : goal.returns-in-Some
returns-in-Some c =
    read_found c.pass.ensures c.if-text-gt-MAX_BYTES.false c.in-Some.is (omega (arith, c.pass.auto.words, c.clear.auto.s)) c.clear.ensures

pub returns-in_default : goal.returns-in_default
returns-in_default c =
    let zeros = rw (c.pass.auto.words, c.clear.auto.s) at c.refuse-in_default.ensures.1 in
    elim c.in_default.branch [
      | in_default-via-in-Some+else-n-words w ↦ read-many c.pass.ensures c.if-text-gt-MAX_BYTES.false w.in-Some.is (omega (arith, c.pass.auto.words, c.clear.auto.s)) c.refuse-in_default.ensures.0 zeros
      | in_default-via-in_default w ↦ read-refused c.pass.ensures c.if-text-gt-MAX_BYTES.false w.in_default.is c.refuse-in_default.ensures.0 zeros
    ]
