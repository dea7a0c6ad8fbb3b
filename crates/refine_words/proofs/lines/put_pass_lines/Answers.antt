-- `refine_words::lines::put_pass_lines` meets its contract, pass by pass. Assumes nothing.
use Rattle.std.proofs.Common.{◌≡◌, length, arith, rules}
use lib.ListN.{take, length-append}
use lib.Seq.{length-take-le}
use Rattle.std.proofs.lemmas.Slice.Zip.{zip_turn, zip_end}
use Rattle.refine_words.proofs.Texts.{here-none, here-more, passes_none, passes-next}
use Rattle.refine_words.proofs.lines.put_pass_lines.Goals as goal

pub loop-moves-init : goal.loop-moves-init
loop-moves-init c = here-none _ _ _ _ _ (passes_none _ _)

pub loop-moves-preserved : goal.loop-moves-preserved
loop-moves-preserved c =
    let n = c.args.passes in
    let z = zip_turn (take n c.args.made.now) (take n c.args.rewound.now) _ c.into_iter-moves-iterator.result c.loop-moves.moves-iterator c.next.new.self _ (search rules) (search rules) c.loop-moves.yielded_by (c.in-Some.moves, c.in-Some.undone) c.in-Some.is c.next.ensures.steps in
    let k = length-take-le n c.args.made.now c.requires.0 in
    let e = c.put_pass-here.ensures in
    rw (length-append c.loop-moves.yielded _)
    (here-more c.requires.2 (omega (arith, z.0, k)) c.loop-moves.invariant (passes-next n _ _ _ (omega (arith, z.0, k)) (z.2 0) (z.3 0)) e)

pub returns : goal.returns
returns c =
    let n = c.args.passes in
    let z = zip_end (take n c.args.made.now) (take n c.args.rewound.now) _ c.into_iter-moves-iterator.result c.loop-moves.moves-iterator c.next.new.self _ (search rules) (search rules) c.loop-moves.yielded_by c.in-None.is c.next.ensures.steps in
    let k = length-take-le n c.args.made.now c.requires.0 in
    let l = length-take-le n c.args.rewound.now c.requires.1 in
    let e : length c.loop-moves.yielded ≡ n = omega (arith, z, k, l) in
    rw e at c.loop-moves.invariant.put
