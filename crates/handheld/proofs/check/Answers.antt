-- `check` answers as the lent solve does. Assumes nothing.
use Rattle.std.proofs.Common.{◌∙◌, ap, length, Err}
use Rattle.answer.specs.Answer.{Done}
use Rattle.answer.proofs.Done.{handed_on}
use Rattle.handheld.specs.Shapes.{numbers_of, record_of}
use Rattle.handheld.proofs.Answers.{check_answers}
use Rattle.handheld.proofs.check.Goals as goal

pub returns-in_err-check : goal.returns-in_err-check
unfolding record_of
returns-in_err-check c = λ run.
    handed_on _ c.from_residual.ensures.1
    ∙ check_answers (numbers_of c.args.matrix) c.args.side.row (ap length c.of_columns.ensures) (ap length c.of_column.ensures) c.args.p run (Err _) c.in_err-check.ensures

pub returns : goal.returns
unfolding record_of
returns c = λ run.
    c.check_mark_word.ensures
    ∙ check_answers (numbers_of c.args.matrix) c.args.side.row (ap length c.of_columns.ensures) (ap length c.of_column.ensures) c.args.p run Done c.in_ok-check.ensures
