use Rattle.std.proofs.Common.{sym}
use Rattle.sheet_text.proofs.NumberLaws.{decimal_one, decimal_more}
use Rattle.sheet_page.proofs.Wrote.{wrote_then, wrote_same}
use Rattle.sheet_page.proofs.page.Page.+number.Goals as goal

pub returns-then-v-lt10 : goal.returns-then-v-lt10
returns-then-v-lt10 t c = wrote_same (sym (decimal_one c.args.v c.if-v-lt10.true)) c.digit.ensures

pub returns-else-v-lt10 : goal.returns-else-v-lt10
returns-else-v-lt10 t c =
    wrote_same (sym (decimal_more c.args.v c.if-v-lt10.false)) (wrote_then c.number.ensures c.digit-else-v-lt10.ensures)
