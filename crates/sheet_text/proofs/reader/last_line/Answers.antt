use Rattle.std.proofs.Common.{Err, ap, sym, refl, ◌∙◌}
use Rattle.sheet_text.specs.Text.{bytes}
use Rattle.sheet_text.proofs.ReadSteps.{other_count, not_the_end, the_end, end_line_law, no_end_line}
use Rattle.sheet_text.proofs.NextLaws.{line_next, none_found, refused}
use Rattle.sheet_text.proofs.reader.last_line.Goals as goal

pub returns-in_err-end : goal.returns-in_err-end
returns-in_err-end c =
    let e = c.in_err-end.ensures in
    refused _ _ _ _ e.value e.ok_part c.from_residual.ensures.1
    ∙ ap Err c.wrong.ensures
    ∙ sym (no_end_line _ _ _ _ refl (none_found c.args.s.now _ (sym e.ok_part ∙ c.number_line.ensures)))

pub returns-then-end-count : goal.returns-then-end-count
returns-then-end-count c =
    let read = (line_next c.args.s.now c.args.at (bytes "end\t") (sym c.in_ok-end.ensures.ok_part ∙ c.number_line.ensures)).read in
    ap Err c.wrong-then-end-count.ensures ∙ sym (end_line_law _ _ _ _ _ _ refl read ∙ other_count _ _ _ _ c.if-end-count.true)

pub returns-then-end-s : goal.returns-then-end-s
returns-then-end-s c =
    let read = (line_next c.args.s.now c.args.at (bytes "end\t") (sym c.in_ok-end.ensures.ok_part ∙ c.number_line.ensures)).read in
    ap Err c.wrong-then-end-s.ensures ∙ sym (end_line_law _ _ _ _ _ _ refl read ∙ not_the_end _ _ _ c.args.s.now c.in_ok-end.end.next c.if-end-count.false c.if-end-s.true)

pub returns : goal.returns
returns c =
    let read = (line_next c.args.s.now c.args.at (bytes "end\t") (sym c.in_ok-end.ensures.ok_part ∙ c.number_line.ensures)).read in
    sym (end_line_law _ _ _ _ _ _ refl read ∙ the_end _ _ _ c.args.s.now c.in_ok-end.end.next c.if-end-count.false c.if-end-s.false)
