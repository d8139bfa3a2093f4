use Rattle.sheet_page.proofs.page.Page.+number.Given as goal

abbrev pub decreases-number : goal.decreases-number
decreases-number l = l.v
