-- `engine::advance` meets its contract. Assumes nothing.
use Rattle.cholesky.specs.Floor.{floor_rule}
use Rattle.cholesky.proofs.Parts.{leaves_laid}
use Rattle.cholesky.proofs.Running.{advance_continued, advance_judged}
use Rattle.cholesky.proofs.engine.advance.Goals as goal

pub divide-requires-clause-laid : goal.divide-requires-clause-laid
divide-requires-clause-laid c = leaves_laid c.requires.laid c.update.ensures

pub returns-then-j-m : goal.returns-then-j-m
returns-then-j-m c = advance_continued (floor_rule c.args.floor) c.args.m c.args.j c.if-j-m.true c.requires.m_le_order c.update.ensures c.divide.ensures

pub finish-requires-clause-laid : goal.finish-requires-clause-laid
finish-requires-clause-laid c = leaves_laid c.requires.laid c.update-2.ensures

pub returns : goal.returns
returns c = advance_judged (floor_rule c.args.floor) c.args.m c.args.j c.if-j-m.false c.requires.j_lt_order c.update-2.ensures c.finish.ensures
