use Rattle.std.proofs.Common.{◌≡◌, ℕ, ◌-◌}
use borrow.Author.Tests.{eq-eqb, ne_eqb}
use Rattle.sheet_text.specs.Text.{bytes, number_line}
use Rattle.sheet_page.specs.Page.{zero_line}
use Rattle.sheet_page.proofs.Wrote.{wrote_same}
use Rattle.sheet_page.proofs.page.Page.zero.Goals as goal

no-mark : (mark : ℕ) → mark ≡ 0 → bytes "zero\tnone\n" ≡ zero_line mark
unfolding zero_line
no-mark mark e = rw (eq-eqb mark 0 e)

a-mark : (mark : ℕ) → (mark ≡ 0 → ⊥) → number_line (bytes "zero\t") (mark - 1) ≡ zero_line mark
unfolding zero_line
a-mark mark n = rw (ne_eqb mark 0 n)

pub returns-then-mark-eq0 : goal.returns-then-mark-eq0
returns-then-mark-eq0 c = wrote_same (no-mark c.args.mark c.if-mark-eq0.true) c.word.ensures

pub returns-else-mark-eq0 : goal.returns-else-mark-eq0
returns-else-mark-eq0 c = wrote_same (a-mark c.args.mark c.if-mark-eq0.false) c.number_line.ensures
