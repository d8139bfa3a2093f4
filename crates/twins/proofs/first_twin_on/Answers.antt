-- `first_twin_on` meets its contract. Assumes nothing.
use Rattle.std.proofs.Common.{sym, arith}
use Rattle.matrix.proofs.Sizes.{passed_fits, laid_fits}
use Rattle.twins.proofs.first_twin_on.Goals as goal

pub first_among-requires-clause-laid : goal.first_among-requires-clause-laid
first_among-requires-clause-laid c = laid_fits (passed_fits _ _ _ (sym c.in_ok-check.ensures))

pub first_among-requires-clause-earlier_le_order : goal.first_among-requires-clause-earlier_le_order
first_among-requires-clause-earlier_le_order c = (passed_fits _ _ _ (sym c.in_ok-check.ensures)).rising

pub first_among-requires-2-clause-laid : goal.first_among-requires-2-clause-laid
first_among-requires-2-clause-laid c = laid_fits (passed_fits _ _ _ (sym c.in_ok-check.ensures))

pub first_among-requires-2-clause-order_bound : goal.first_among-requires-2-clause-order_bound
first_among-requires-2-clause-order_bound c =
    let fits = passed_fits _ _ _ (sym c.in_ok-check.ensures) in
    omega (arith, fits.roomy.ordered, fits.roomy.small)

pub first_among-requires-2-clause-earlier_le_order : goal.first_among-requires-2-clause-earlier_le_order
first_among-requires-2-clause-earlier_le_order c = (passed_fits _ _ _ (sym c.in_ok-check.ensures)).rising
