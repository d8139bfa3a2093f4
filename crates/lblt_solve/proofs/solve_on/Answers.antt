-- `solve_on` solves where its checks admit it, and leaves all as it was where they do not.
use Rattle.std.proofs.Common.{refl}
use Rattle.lblt_solve.proofs.Marked.{solver_admitted}
use Rattle.lblt_solve.proofs.solve_on.Goals as goal

pub solve-requires-clause-readable : goal.solve-requires-clause-readable
solve-requires-clause-readable c =
    (solver_admitted c.args.y c.args.columns c.args.run c.args.a.now c.args.words.now c.args.b.now c.in_ok-check.ensures refl).readable

pub solve-requires-clause-lined : goal.solve-requires-clause-lined
solve-requires-clause-lined c =
    let known = solver_admitted c.args.y c.args.columns c.args.run c.args.a.now c.args.words.now c.args.b.now c.in_ok-check.ensures refl in
    record { few = known.few; long = known.long }
