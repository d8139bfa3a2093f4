-- `check` refuses what a reader refuses, and then a mark.
use Rattle.std.proofs.Common.{sym}
use Rattle.answer.specs.Answer.{Done}
use Rattle.answer.proofs.Done.{handed_on}
use Rattle.answer.proofs.Tested.{joined_refused}
use Rattle.lblt_read.specs.Calls.{side_tests, word_tests}
use Rattle.lblt_read.proofs.Admitted.{sides_small, words_accepted, columns_answers}
use Rattle.lblt_solve.proofs.Marked.{solve_refused, solve_answers}
use Rattle.lblt_solve.proofs.check.Goals as goal

pub returns-in_err-check_sides : goal.returns-in_err-check_sides
returns-in_err-check_sides c =
    rw (handed_on _ c.from_residual.ensures.1)
    (solve_refused c.args.y c.args.columns c.args.run c.args.a.now c.args.words.now c.args.b.now
    (sym (joined_refused (side_tests c.args.y c.args.columns c.args.a.now c.args.b.now) (word_tests c.args.y.order c.args.run c.args.words.now) Done (sym c.in_err-check_sides.ensures))))

pub check_words-requires : goal.check_words-requires
check_words-requires c = sides_small c.args.y c.args.columns c.args.a.now c.args.b.now c.in_ok-check_sides.ensures

pub returns-in_err-check_words : goal.returns-in_err-check_words
returns-in_err-check_words c =
    rw (handed_on _ c.from_residual-in_err-check_words.ensures.1)
    (solve_refused c.args.y c.args.columns c.args.run c.args.a.now c.args.words.now c.args.b.now
    (columns_answers c.args.y c.args.columns c.args.run c.args.a.now c.args.words.now c.args.b.now c.in_ok-check_sides.ensures c.in_err-check_words.ensures))

pub check_mark_word-requires : goal.check_mark_word-requires
check_mark_word-requires c =
    words_accepted c.args.y.order c.args.run c.args.words.now
    (sides_small c.args.y c.args.columns c.args.a.now c.args.b.now c.in_ok-check_sides.ensures) c.in_ok-check_words.ensures

pub returns : goal.returns
returns c =
    solve_answers c.args.y c.args.columns c.args.run c.args.a.now c.args.words.now c.args.b.now
    (columns_answers c.args.y c.args.columns c.args.run c.args.a.now c.args.words.now c.args.b.now c.in_ok-check_sides.ensures c.in_ok-check_words.ensures)
    c.check_mark_word.ensures
