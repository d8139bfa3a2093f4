use Rattle.std.proofs.Common.{sym}
use Rattle.sheet_text.proofs.PlaceLaws.{rest_all}
use Rattle.sheet_text.proofs.place.Places.new.Goals as goal

pub returns : goal.returns
returns c = sym (rest_all c.args.order)
