use Rattle.std.proofs.Common.{◌≡◌, ◌≤◌, ◌<◌, ◌^◌, true, false, length, get_or, sym, arith}
use Rattle.program_words.specs.Inside.{begins_as_number}
use Rattle.program_words.proofs.Printing.{begins_otherwise, begins_so, parsed, not_parsed}
use Rattle.program_words.proofs.numbers.printed_number.Goals as goal

pub returns-then-not-begins_as_number-clause-number : goal.returns-then-not-begins_as_number-clause-number
returns-then-not-begins_as_number-clause-number c =
    let other : begins_as_number c.args.word.now ≡ false = cc (c.as_bytes.ensures.value, c.begins_as_number.ensures, c.if-not-begins_as_number.true) in
    let fits : c.args.high < 2 ^ 64 = omega (arith, c.ranges.high.fits) in
    sym (begins_otherwise c.args.low c.args.high fits c.requires c.args.word.now other)

pub returns-in-Ok-clause-number : goal.returns-in-Ok-clause-number
returns-in-Ok-clause-number c =
    let so : begins_as_number c.args.word.now ≡ true = cc (c.as_bytes.ensures.value, c.begins_as_number.ensures, c.if-not-begins_as_number.false) in
    let first : (49 ≤ get_or c.args.word.now 0 0) × (0 < length c.args.word.now) = begins_so c.args.word.now so in
    let fits : c.args.high < 2 ^ 64 = omega (arith, c.ranges.high.fits) in
    sym (parsed c.args.low c.args.high fits c.requires c.args.word.now c.in-Ok.number c.parse.result c.in-Ok.is c.parse.ensures.value.0 first.0 first.1 c.if-low-number.true c.if-number-high.true)

pub returns-in_default-3-clause-number : goal.returns-in_default-3-clause-number
returns-in_default-3-clause-number c =
    let fits : c.args.high < 2 ^ 64 = omega (arith, c.ranges.high.fits) in
    let within : c.args.high < 2 ^ 32 = omega (arith, c.ranges.high.fits) in
    sym (not_parsed c.args.low c.args.high fits c.requires c.args.word.now c.parse.result within c.parse.ensures.value.0 (λ n low high is. absurd (cc (is, c.in_default.is))))
