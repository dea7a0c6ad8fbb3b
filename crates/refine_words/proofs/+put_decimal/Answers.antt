-- `refine_words::put_decimal` meets its contract: a digit, or the digits of the tens and then the last. Assumes nothing.
use Rattle.std.proofs.Common.{◌+◌, ◌≤◌, ◌/◌, length}
use Rattle.refine_words.specs.Text.{decimal}
use native.Mathlib.Omega.{arith}
use Rattle.refine_words.proofs.Texts.{one-long, more-long, put-digit, put-long, put_last}
use Rattle.refine_words.proofs.+put_decimal.Goals as goal

pub put_byte-requires : goal.put_byte-requires
put_byte-requires t c = let l = one-long c.args.x c.if-x-lt10.true in omega (arith, c.requires)

pub returns-then-x-lt10 : goal.returns-then-x-lt10
returns-then-x-lt10 t c = put-digit c.if-x-lt10.true c.digit.ensures c.put_byte.ensures

pub put_decimal-tens-requires : goal.put_decimal-tens-requires
put_decimal-tens-requires t c =
    let l = more-long c.args.x c.if-x-lt10.false in (omega (arith, c.decreases), omega (arith, c.requires))

pub put_byte-requires-2 : goal.put_byte-requires-2
put_byte-requires-2 t c =
    let l = more-long c.args.x c.if-x-lt10.false in
    let room : c.args.at + length (decimal (c.args.x / 10)) ≤ length c.args.out.now = omega (arith, c.requires) in
    let e = put-long room c.put_decimal-tens.ensures in
    omega (arith, c.requires, c.put_decimal-tens.ensures.ends)

pub returns : goal.returns
returns t c = put_last c.if-x-lt10.false c.requires c.put_decimal-tens.ensures c.digit-2.ensures c.put_byte-2.ensures
