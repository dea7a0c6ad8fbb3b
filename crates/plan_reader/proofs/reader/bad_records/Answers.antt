-- `plan_reader::reader::bad_records` meets its contract, by what its loop keeps. Assumes nothing.
use Rattle.plan_reader.proofs.ReadLaws.{pass-more, label-fails, records-judged}
use Rattle.plan_blocks.proofs.Headers.{numbers-in}
use Rattle.plan_blocks.specs.Block.{blocks_of, blocks_for}
use Rattle.lists.proofs.Sums.{sum-none}
use Rattle.lists.proofs.Alls.{all_none}
use native.Mathlib.Omega.{arith}
use mathlib.Core.Path.{sym, refl}
use borrow.Author.Rules.{rules}
use Rattle.plan_reader.proofs.reader.bad_records.Goals as goal

pub loop-v-init : goal.loop-v-init
loop-v-init c = record { within = search rules; degrees = sym (sum-none _); small = search rules; labels = all_none _ }

pub place-requires : goal.place-requires
place-requires c =
    let i = numbers-in _ c.requires.0 in
    omega arith

pub word_at-x-requires : goal.word_at-x-requires
unfolding blocks_of blocks_for
word_at-x-requires c =
    let p = c.requires.1 in
    omega arith

pub returns-then-x-header : goal.returns-then-x-header
returns-then-x-header c =
    label-fails _ _ c.loop-v.sum _ _ _ c.place.ensures c.word_at-x.ensures c.loop-v-test.true (search rules)

pub overflow_add-sum : goal.overflow_add-sum
overflow_add-sum c =
    let i = numbers-in _ c.requires.0 in
    let s = c.loop-v.invariant.small in
    let w = c.loop-v.invariant.within in
    omega arith

pub loop-v-preserved : goal.loop-v-preserved
loop-v-preserved c =
    pass-more _ c.args.header _ _ _ _ c.place.ensures c.word_at-x.ensures _ refl c.loop-v.invariant c.loop-v-test.true (search rules) (search rules)

pub returns : goal.returns
returns c =
    records-judged _ _ _ _ (let h = c.loop-v.invariant.within in omega arith) c.loop-v.invariant
