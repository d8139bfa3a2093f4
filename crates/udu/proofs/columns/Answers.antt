-- `columns` meets its contract. Assumes nothing.
use Rattle.std.proofs.Common.{◌≡◌, ◌-◌, arith}
use Rattle.udu.proofs.Reached.{reached_none, accepted_on, refused_on, columned_all}
use Rattle.udu.proofs.columns.Goals as goal

pub returns-then-last : goal.returns-then-last
returns-then-last c = refused_on (c.args.n - 1) (reached_none c.args.p.now c.requires.holding) (omega arith) c.last.ensures c.if-last.true

pub loop-j-init : goal.loop-j-init
loop-j-init c = accepted_on (c.args.n - 1) (reached_none c.args.p.now c.requires.holding) (omega arith) c.last.ensures c.if-last.false

pub returns-then-further : goal.returns-then-further
returns-then-further c = refused_on (c.loop-j.j - 1) c.loop-j.invariant (omega arith) c.further.ensures c.if-further.true

pub loop-j-preserved : goal.loop-j-preserved
loop-j-preserved c = accepted_on (c.loop-j.j - 1) c.loop-j.invariant (omega arith) c.further.ensures c.if-further.false

pub returns : goal.returns
returns c =
    let none : c.loop-j.j ≡ 0 = omega arith in
    columned_all (rw none at c.loop-j.invariant)
