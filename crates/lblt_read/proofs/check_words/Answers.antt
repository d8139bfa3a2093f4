-- `check_words`: the record's length, then its rule, then its run number.
use Rattle.std.proofs.Common.{sym, ◌∙◌}
use Rattle.answer.proofs.Done.{handed_on}
use Rattle.lblt_read.proofs.Admitted.{record_short, record_broken, record_other, record_expected}
use Rattle.lblt_read.proofs.check_words.Goals as goal

pub returns-then-words : goal.returns-then-words
returns-then-words c = record_short c.args.n c.args.run c.args.words.now (λ e. c.if-words.true (e ∙ sym c.words.ensures))

pub returns-in_err-check : goal.returns-in_err-check
returns-in_err-check c =
    rw (handed_on _ c.from_residual.ensures.1) (record_broken c.args.n c.args.run c.args.words.now (c.if-words.false ∙ c.words.ensures) c.in_err-check.ensures)

pub returns-then-run : goal.returns-then-run
returns-then-run c =
    record_other c.args.n c.args.run c.args.words.now (c.if-words.false ∙ c.words.ensures) c.in_ok-check.ensures (λ e. c.if-run.true (c.run.ensures ∙ e))

pub returns : goal.returns
returns c =
    record_expected c.args.n c.args.run c.args.words.now (c.if-words.false ∙ c.words.ensures) c.in_ok-check.ensures (sym c.run.ensures ∙ c.if-run.false)
