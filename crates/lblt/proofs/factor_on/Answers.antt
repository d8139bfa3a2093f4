-- `factor_on` meets its promise. Assumes nothing.
use Rattle.std.proofs.Common.{◌≡◌, arith, length}
use mathlib.Core.Path.{sym, ◌∙◌}
use Rattle.answer.proofs.Done.{handed_on}
use Rattle.matrix.proofs.Sizes.{passed_fits, laid_fits}
use Rattle.lblt.proofs.Done.{wrong_size, wrong_record, done}
use Rattle.lblt.proofs.factor_on.Goals as goal

pub returns-in_err-check : goal.returns-in_err-check
returns-in_err-check c = rw (handed_on _ c.from_residual.ensures.1) (wrong_size c.args.y _ _ c.in_err-check.ensures)

pub words-requires : goal.words-requires
words-requires c =
    let fits = passed_fits c.args.y 0 (length c.args.a.now) (sym c.in_ok-check.ensures) in
    omega (arith, fits.roomy.ordered, fits.roomy.small)

pub returns-then-words : goal.returns-then-words
returns-then-words c =
    let fits = passed_fits c.args.y 0 (length c.args.a.now) (sym c.in_ok-check.ensures) in
    wrong_record c.args.y _ _ fits (λ e. c.if-words.true (e ∙ sym c.words.ensures))

pub fill-requires-clause-laid : goal.fill-requires-clause-laid
fill-requires-clause-laid c = laid_fits (passed_fits c.args.y 0 (length c.args.a.now) (sym c.in_ok-check.ensures))

pub fill-requires-clause-sized : goal.fill-requires-clause-sized
fill-requires-clause-sized c =
    let fits = passed_fits c.args.y 0 (length c.args.a.now) (sym c.in_ok-check.ensures) in
    record { order = omega (arith, fits.roomy.ordered, fits.roomy.small); total = c.if-words.false ∙ c.words.ensures }

pub returns : goal.returns
returns c =
    let fits = passed_fits c.args.y 0 (length c.args.a.now) (sym c.in_ok-check.ensures) in
    done c.args.y _ _ fits (c.if-words.false ∙ c.words.ensures) c.fill.ensures.stored
