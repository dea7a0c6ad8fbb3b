-- `refine_words::put_number` meets its contract. Assumes nothing.
use Rattle.std.proofs.Common.{◌+◌, ◌≤◌, length}
use native.Mathlib.Omega.{arith}
use Rattle.refine_words.proofs.Texts.{decimal-short, put-blank, put-long}
use Rattle.refine_words.proofs.put_number.Goals as goal

pub put_decimal-requires : goal.put_decimal-requires
put_decimal-requires c =
    let l = decimal-short c.args.x c.ranges.x.fits in
    let room : c.args.at + 1 ≤ length c.args.out.now = omega (arith, c.requires) in
    let e = put-long room c.put_byte-next.ensures in
    omega (arith, c.requires, c.put_byte-next.ensures.ends)

pub returns : goal.returns
returns c = put-blank c.ranges.x.fits c.requires c.put_byte-next.ensures c.put_decimal.ensures
