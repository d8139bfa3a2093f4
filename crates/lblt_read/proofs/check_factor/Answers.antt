-- `check_factor`: the tests of size, then the record's.
use Rattle.std.proofs.Common.{length, sym, ◌∙◌}
use Rattle.answer.specs.Answer.{Done}
use Rattle.answer.proofs.Done.{handed_on}
use Rattle.answer.proofs.Tested.{joined_passed, joined_refused}
use Rattle.matrix.specs.Sizes.{size_tests}
use Rattle.lblt_read.specs.Calls.{word_tests}
use Rattle.lblt_read.proofs.Admitted.{order_small}
use Rattle.lblt_read.proofs.check_factor.Goals as goal

pub returns-in_err-check : goal.returns-in_err-check
returns-in_err-check c =
    rw (handed_on _ c.from_residual.ensures.1)
    (sym (joined_refused (size_tests c.args.y 0 (length c.args.a.now)) (word_tests c.args.y.order c.args.run c.args.words.now) Done (sym c.in_err-check.ensures)))

pub check_words-requires : goal.check_words-requires
check_words-requires c = order_small c.args.y c.args.a.now c.in_ok-check.ensures

pub returns : goal.returns
returns c =
    c.check_words.ensures
    ∙ sym (joined_passed (size_tests c.args.y 0 (length c.args.a.now)) (word_tests c.args.y.order c.args.run c.args.words.now) Done (sym c.in_ok-check.ensures))
