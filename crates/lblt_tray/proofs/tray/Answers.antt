-- `tray`: refused whole, or each item in turn.
use Rattle.lblt_tray.proofs.Sizes.{trayed_runs, done_solved}
use Rattle.lblt_tray.proofs.tray.Goals as goal

pub each-requires : goal.each-requires
each-requires c =
    trayed_runs c.args.n c.args.count c.args.a.now c.args.words.now c.args.b.now c.args.runs.now c.args.answers.now c.in_ok-check.ensures

pub returns : goal.returns
returns c =
    done_solved c.args.n c.args.count c.args.a.now c.args.words.now c.args.b.now c.args.runs.now c.args.answers.now c.in_ok-check.ensures c.each.ensures
