use Rattle.std.proofs.Common.{drop, Err, sym, ap, ◌∙◌, arith}
use Rattle.sheet_text.specs.Sheet.{Sheet}
use Rattle.sheet_text.specs.Text.{bytes}
use Rattle.sheet_text.specs.Place.{places}
use Rattle.sheet_text.specs.inner.Read.{Taken, take_entries, reading}
use Rattle.answer.proofs.Done.{handed_on}
use Rattle.sheet_text.proofs.ReadSteps.{read_order, read_no_order, order_zero, order_large, order_right, stopped, after_entries_law, count_small}
use Rattle.sheet_text.proofs.NextLaws.{line_next, none_found, refused}
use Rattle.sheet_text.proofs.SheetSound.{reads_by}
use Rattle.sheet_text.proofs.reader.read_sheet.Goals as goal
use Rattle.sheet_text.proofs.reader.read_sheet.Goals.{then-n-eq0-via-then-n-eq0, then-n-eq0-via-else-n-eq0+then-n-gt64}

pub returns-in_err-order : goal.returns-in_err-order
returns-in_err-order c =
    let e = c.in_err-order.ensures in
    let s = c.args.s.now in
    let a = c.args.a.now in
    reads_by _ _ _ _
    (ap (λ (r : Sheet). reading r a) (refused _ _ _ _ e.value e.ok_part c.from_residual.ensures.1 ∙ ap Err c.wrong.ensures)
    ∙ sym (read_no_order s a (none_found s _ (sym e.ok_part ∙ c.number_line.ensures))))

pub returns-then-n-eq0 : goal.returns-then-n-eq0
returns-then-n-eq0 c =
    let s = c.args.s.now in
    let a = c.args.a.now in
    let read = (line_next s 0 (bytes "order\t") (sym c.in_ok-order.ensures.ok_part ∙ c.number_line.ensures)).read in
    reads_by _ _ _ _
    (ap (λ (r : Sheet). reading r a) (ap Err c.wrong-then-n-eq0.ensures)
    ∙ sym (read_order s a _ _ read ∙ elim c.then-n-eq0.branch [
      | then-n-eq0-via-then-n-eq0 w ↦ order_zero _ _ _ w.if-n-eq0.true
      | then-n-eq0-via-else-n-eq0+then-n-gt64 w ↦ order_large _ _ _ w.if-n-eq0.false w.if-n-gt64.true
    ]))

pub returns-in_err-reached : goal.returns-in_err-reached
returns-in_err-reached c =
    let s = c.args.s.now in
    let a = c.args.a.now in
    let n = c.in_ok-order.order.value in
    let t = drop c.in_ok-order.order.next s in
    let read = (line_next s 0 (bytes "order\t") (sym c.in_ok-order.ensures.ok_part ∙ c.number_line.ensures)).read in
    let e = c.in_err-reached.ensures in
    reads_by _ _ _ _
    (stopped n _ (take_entries n (places n) t 0 a) _ e.0 (handed_on _ c.from_residual-in_err-reached.ensures.1 ∙ ap Err e.1) e.2
    ∙ sym (read_order s a n t read ∙ order_right a n t c.if-n-eq0.false c.if-n-gt64.false))

pub last_line-requires : goal.last_line-requires
last_line-requires c =
    omega (arith, ap (λ (k : Taken). k.count) c.in_ok-reached.ensures, count_small c.in_ok-order.order.value (drop c.in_ok-order.order.next c.args.s.now) c.args.a.now c.if-n-gt64.false)

pub returns : goal.returns
returns c =
    let s = c.args.s.now in
    let a = c.args.a.now in
    let n = c.in_ok-order.order.value in
    let t = drop c.in_ok-order.order.next s in
    let read = (line_next s 0 (bytes "order\t") (sym c.in_ok-order.ensures.ok_part ∙ c.number_line.ensures)).read in
    reads_by _ _ _ _
    (after_entries_law n _ _ _ c.last_line.ensures c.in_ok-reached.ensures
    ∙ sym (read_order s a n t read ∙ order_right a n t c.if-n-eq0.false c.if-n-gt64.false))
