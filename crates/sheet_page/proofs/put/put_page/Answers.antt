-- The lines one after the other.
use Rattle.std.proofs.Common.{ℕ, ◌+◌, sym, ap, ◌∙◌, arith}
use Rattle.sheet_text.proofs.PlaceLaws.{length_places}
use Rattle.sheet_page.specs.Page.{zero_line, matrix_in}
use Rattle.sheet_page.proofs.Wrote.{wrote_then, wrote_same, whole}
use Rattle.sheet_page.proofs.PageText.{page_text}
use Rattle.sheet_page.proofs.put.put_page.Goals as goal

pub overflow_add-n : goal.overflow_add-n
overflow_add-n c = omega (arith, c.entries-entries.ensures.count, length_places c.args.n c.requires.small)

pub returns : goal.returns
returns c =
    let zero = wrote_same (ap zero_line c.mark.ensures) c.zero.ensures in
    let lines = wrote_then c.number_line.ensures (wrote_then c.pivots.ensures (wrote_then zero (wrote_then c.entries-entries.ensures.wrote (wrote_then c.det.ensures c.number_line-2.ensures)))) in
    let text = page_text c.args.n c.args.words.now (matrix_in c.args.n c.args.a.now) c.args.det _ (ap (λ (k : ℕ). c.args.n + k) c.entries-entries.ensures.count) in
    let same = sym c.new-page.ensures.same ∙ sym lines.same in
    whole (wrote_same text lines) c.new-page.ensures.start c.new-page.ensures.bytes c.end.ensures (grind arith)
