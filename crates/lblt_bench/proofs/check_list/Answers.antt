-- `check_list`: the list's length decides.
use Rattle.lblt_bench.proofs.Listed.{list_fits, list_wrong}
use Rattle.lblt_bench.proofs.check_list.Goals as goal

pub returns-then-benches-columns : goal.returns-then-benches-columns
returns-then-benches-columns c = list_wrong c.args.columns c.args.benches.now c.if-benches-columns.true

pub returns : goal.returns
returns c = list_fits c.args.columns c.args.benches.now c.if-benches-columns.false
