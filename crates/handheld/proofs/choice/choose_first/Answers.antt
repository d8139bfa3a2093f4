-- `choose_first` meets its contract. Assumes nothing.
use Rattle.handheld.proofs.Choices.{first_two, first_one}
use Rattle.handheld.proofs.choice.choose_first.Goals as goal

pub returns-then-two-one : goal.returns-then-two-one
returns-then-two-one c = first_two c.args.t c.abs-diag.ensures c.abs-one.ensures c.abs-two.ensures c.abs-rest.ensures c.if-two-one.true c.maximum.ensures c.maximum-rowmax.ensures c.choose_by.ensures

pub returns : goal.returns
returns c = first_one c.args.t c.abs-diag.ensures c.abs-one.ensures c.abs-two.ensures c.abs-rest.ensures c.if-two-one.false c.maximum-2.ensures c.maximum-rowmax-2.ensures c.choose_by-2.ensures
