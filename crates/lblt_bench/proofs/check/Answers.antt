-- `check`: the slices, the list, the record, then the mark.
use Rattle.answer.proofs.Done.{handed_on}
use Rattle.lblt_read.proofs.Admitted.{sides_small, words_accepted}
use Rattle.lblt_bench.proofs.Listed.{sides_answer, list_answers, words_answer, mark_answers}
use Rattle.lblt_bench.proofs.check.Goals as goal

pub returns-in_err-check_sides : goal.returns-in_err-check_sides
returns-in_err-check_sides c =
    rw (handed_on _ c.from_residual.ensures.1) (sides_answer c.args.y c.args.columns c.args.run c.args.a.now c.args.words.now c.args.b.now c.args.benches.now c.in_err-check_sides.ensures)

pub returns-in_err-check_list : goal.returns-in_err-check_list
returns-in_err-check_list c =
    rw (handed_on _ c.from_residual-in_err-check_list.ensures.1)
    (list_answers c.args.y c.args.columns c.args.run c.args.a.now c.args.words.now c.args.b.now c.args.benches.now c.in_ok-check_sides.ensures c.in_err-check_list.ensures)

pub check_words-requires : goal.check_words-requires
check_words-requires c = sides_small c.args.y c.args.columns c.args.a.now c.args.b.now c.in_ok-check_sides.ensures

pub returns-in_err-check_words : goal.returns-in_err-check_words
returns-in_err-check_words c =
    rw (handed_on _ c.from_residual-in_err-check_words.ensures.1)
    (words_answer c.args.y c.args.columns c.args.run c.args.a.now c.args.words.now c.args.b.now c.args.benches.now c.in_ok-check_sides.ensures c.in_ok-check_list.ensures c.in_err-check_words.ensures)

pub check_mark_word-requires : goal.check_mark_word-requires
check_mark_word-requires c =
    words_accepted c.args.y.order c.args.run c.args.words.now
    (sides_small c.args.y c.args.columns c.args.a.now c.args.b.now c.in_ok-check_sides.ensures) c.in_ok-check_words.ensures

pub returns : goal.returns
returns c =
    mark_answers c.args.y c.args.columns c.args.run c.args.a.now c.args.words.now c.args.b.now c.args.benches.now
    c.in_ok-check_sides.ensures c.in_ok-check_list.ensures c.in_ok-check_words.ensures c.check_mark_word.ensures
