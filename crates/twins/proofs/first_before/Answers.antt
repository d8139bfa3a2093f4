-- `first_before` meets its contract. Assumes nothing.
use Rattle.std.proofs.Common.{rules}
use Rattle.twins.proofs.Search.{before_passed}
use Rattle.twins.proofs.first_before.Goals as goal

pub loop-p-init : goal.loop-p-init
loop-p-init c = before_passed c.requires.fingerprinted (search rules) c.pass_fours-passed.ensures
