use Rattle.std.proofs.Common.{◌+◌, sym, ◌∙◌, arith}
use Rattle.sheet_text.specs.Text.{bytes}
use Rattle.sheet_text.proofs.Steps.{word_fits}
use Rattle.sheet_text.proofs.EntrySteps.{entry_row, entry_no_row, entry_no_word, row_column, row_no_column, column_bits, column_no_bits}
use Rattle.sheet_text.proofs.NextLaws.{number_next, bits_next, none_found, found_is, none_is}
use Rattle.sheet_text.proofs.line.entry_line.Goals as goal

pub returns-then-not-word_stands : goal.returns-then-not-word_stands
returns-then-not-word_stands c = none_is c.args.s.now (entry_no_word c.args.s.now c.args.at (sym c.if-not-word_stands.ensures))

pub overflow_add-at : goal.overflow_add-at
overflow_add-at c = omega (arith, word_fits (bytes "entry\t") c.args.s.now c.args.at (sym c.if-not-word_stands.ensures))

pub returns-in_err-row : goal.returns-in_err-row
returns-in_err-row c =
    let s = c.args.s.now in
    rw c.from_residual.ensures (none_is s (entry_no_row s c.args.at (sym c.if-not-word_stands.ensures) (none_found s _ c.in_err-row.ensures)))

pub returns-in_err-column : goal.returns-in_err-column
returns-in_err-column c =
    let s = c.args.s.now in
    let row = (number_next s (c.args.at + 6) _ c.in_ok-row.ensures).read in
    rw c.from_residual-in_err-column.ensures
    (none_is s (entry_row s c.args.at _ _ (sym c.if-not-word_stands.ensures) row ∙ row_no_column _ _ (none_found s _ c.in_err-column.ensures)))

pub returns-in_err-bits : goal.returns-in_err-bits
returns-in_err-bits c =
    let s = c.args.s.now in
    let row = (number_next s (c.args.at + 6) _ c.in_ok-row.ensures).read in
    let column = (number_next s c.in_ok-row.row.next _ c.in_ok-column.ensures).read in
    rw c.from_residual-in_err-bits.ensures
    (none_is s (entry_row s c.args.at _ _ (sym c.if-not-word_stands.ensures) row ∙ row_column _ _ _ _ column ∙ column_no_bits _ _ _ (none_found s _ c.in_err-bits.ensures)))

pub returns : goal.returns
returns c =
    let s = c.args.s.now in
    let row = (number_next s (c.args.at + 6) _ c.in_ok-row.ensures).read in
    let column = (number_next s c.in_ok-row.row.next _ c.in_ok-column.ensures).read in
    let bits = bits_next s c.in_ok-column.column.next c.in_ok-bits.ensures in
    found_is s record {
      read = entry_row s c.args.at _ _ (sym c.if-not-word_stands.ensures) row ∙ row_column _ _ _ _ column ∙ column_bits _ _ _ _ _ bits.read;
      within = bits.within;
    }
