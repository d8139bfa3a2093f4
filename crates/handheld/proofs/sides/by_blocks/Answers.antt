-- `by_blocks` meets its contract. Assumes nothing.
use Rattle.handheld.proofs.Records.{ones, one_two_law, two_one_law}
use Rattle.handheld.proofs.sides.by_blocks.Goals as goal

pub by_two_one-requires-clause-index0_nonzero : goal.by_two_one-requires-clause-index0_nonzero
by_two_one-requires-clause-index0_nonzero c =
    let is = two_one_law c.args.p c.requires c.if-p-ne1.true in
    is.low

pub by_two_one-requires-clause-index0_bound : goal.by_two_one-requires-clause-index0_bound
by_two_one-requires-clause-index0_bound c =
    let is = two_one_law c.args.p c.requires c.if-p-ne1.true in
    is.high

pub returns-then-p-ne1 : goal.returns-then-p-ne1
returns-then-p-ne1 c = let is = two_one_law c.args.p c.requires c.if-p-ne1.true in λ run. rw (is.is run) (c.by_two_one.ensures _ run)

pub by_one_two-requires : goal.by_one_two-requires
by_one_two-requires c = (one_two_law c.args.p c.requires c.if-p-ne1.false c.if-p-ne1-2.true).first

pub returns-then-p-ne1-2 : goal.returns-then-p-ne1-2
returns-then-p-ne1-2 c = let is = one_two_law c.args.p c.requires c.if-p-ne1.false c.if-p-ne1-2.true in λ run. rw (is.is run) (c.by_one_two.ensures _ run)

pub by_ones-requires-clause-index0_bound : goal.by_ones-requires-clause-index0_bound
by_ones-requires-clause-index0_bound c =
    let is = ones c.args.p c.requires c.if-p-ne1.false c.if-p-ne1-2.false in
    is.first

pub by_ones-requires-clause-index1_nonzero : goal.by_ones-requires-clause-index1_nonzero
by_ones-requires-clause-index1_nonzero c =
    let is = ones c.args.p c.requires c.if-p-ne1.false c.if-p-ne1-2.false in
    is.low

pub by_ones-requires-clause-index1_bound : goal.by_ones-requires-clause-index1_bound
by_ones-requires-clause-index1_bound c =
    let is = ones c.args.p c.requires c.if-p-ne1.false c.if-p-ne1-2.false in
    is.high

pub returns : goal.returns
returns c = let is = ones c.args.p c.requires c.if-p-ne1.false c.if-p-ne1-2.false in λ run. rw (is.is run) (c.by_ones.ensures _ run)
