-- `d` fills its matrix where its checks admit it, and leaves it as it was where they do not.
use Rattle.answer.proofs.Done.{handed_on}
use Rattle.matrix.specs.Layouts.{full}
use Rattle.lblt_read.proofs.Admitted.{sides_small, sides_refused, words_refused, fills_readable, fills_squared, fills}
use Rattle.lblt_read.proofs.d.Goals as goal

pub returns-in_err-check_sides : goal.returns-in_err-check_sides
returns-in_err-check_sides c =
    rw (handed_on _ c.from_residual.ensures.1)
    (sides_refused (full c.args.n) _ _ _ _ (rw c.full-y.ensures at c.in_err-check_sides.ensures))

pub check_words-requires : goal.check_words-requires
check_words-requires c =
    sides_small (full c.args.n) c.args.n c.args.a.now c.args.d.now (rw c.full-y.ensures at c.in_ok-check_sides.ensures)

pub returns-in_err-check_words : goal.returns-in_err-check_words
returns-in_err-check_words c =
    rw (handed_on _ c.from_residual-in_err-check_words.ensures.1)
    (words_refused (full c.args.n) _ _ _ _ (rw c.full-y.ensures at c.in_ok-check_sides.ensures) c.in_err-check_words.ensures)

pub fill-requires-clause-readable : goal.fill-requires-clause-readable
fill-requires-clause-readable c =
    rw c.full-y.ensures
    (fills_readable (full c.args.n) _ c.args.a.now _ c.args.d.now (rw c.full-y.ensures at c.in_ok-check_sides.ensures) c.in_ok-check_words.ensures)

pub fill-requires-clause-squared : goal.fill-requires-clause-squared
fill-requires-clause-squared c =
    rw c.full-y.ensures
    (fills_squared (full c.args.n) _ c.args.a.now _ c.args.d.now (rw c.full-y.ensures at c.in_ok-check_sides.ensures) c.in_ok-check_words.ensures)

pub returns : goal.returns
returns c =
    fills (full c.args.n) _ _ _ _ (rw c.full-y.ensures at c.in_ok-check_sides.ensures) c.in_ok-check_words.ensures (rw c.full-y.ensures at c.fill.ensures)
