use Rattle.sheet_page.proofs.page.Page.+hex.Given as goal

abbrev pub decreases-hex : goal.decreases-hex
decreases-hex l = l.digits
