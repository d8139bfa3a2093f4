-- `by_pairs::first_row`: one row, or none.
use native.Mathlib.Omega.{arith}
use Rattle.lblt_pivot.proofs.Begins.{begun_none, begun_one}
use Rattle.matrix.proofs.Places.{lower_within}
use Prim.Native.Nat.{◌+◌}
use Rattle.lblt_pivot.proofs.by_pairs.first_row.Goals as goal

pub overflow_add-row-2 : goal.overflow_add-row-2
overflow_add-row-2 g c =
    let within = lower_within c.args.y _ (c.args.j + 1) c.args.j c.requires.laid (omega arith) c.requires.j_bound in
    omega (arith, within, c.start.ensures, c.requires.laid.sound)

pub returns-then-row-start-eq1 : goal.returns-then-row-start-eq1
returns-then-row-start-eq1 g c = begun_one c.requires.laid.sound c.requires.j_bound c.at.ensures

pub returns : goal.returns
returns g c = begun_none c.requires.laid.sound c.requires.j_bound
