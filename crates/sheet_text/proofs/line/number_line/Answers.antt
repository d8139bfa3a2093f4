use Rattle.std.proofs.Common.{sym, ap, ◌∙◌, arith}
use Rattle.sheet_text.specs.inner.Line.{found_in}
use Rattle.sheet_text.proofs.Steps.{word_fits, number_after_law, no_word}
use Rattle.sheet_text.proofs.NextLaws.{none_is}
use Rattle.sheet_text.proofs.line.number_line.Goals as goal

pub returns-then-not-word_stands : goal.returns-then-not-word_stands
returns-then-not-word_stands c = none_is c.args.s.now (no_word _ _ (sym c.if-not-word_stands.ensures))

pub overflow_add-at : goal.overflow_add-at
overflow_add-at c = omega (arith, word_fits c.args.word.now c.args.s.now c.args.at (sym c.if-not-word_stands.ensures))

pub returns : goal.returns
returns c =
    c.read_number.ensures ∙ sym (ap (found_in c.args.s.now) (number_after_law c.args.word.now c.args.s.now c.args.at (sym c.if-not-word_stands.ensures)))
