-- `factor` meets its contract. Assumes nothing.
use mathlib.Core.Path.{refl}
use native.Mathlib.Nat.{pos_of_ne-zero}
use native.Mathlib.Omega.{arith}
use borrow.Author.Tests.{le-leb, lt-leb, lt-ltb, le-ltb, eq-eqb, ne_eqb}
use Rattle.answer.specs.declared.Refusal.TheVariants.{OutOfRange, MatrixLength, SliceLength}
use Rattle.answer.proofs.Tested.{here, later}
use Rattle.udu.proofs.Holding.{holding_none}
use Rattle.udu.proofs.Sizes.{unfactored, factored}
use Rattle.udu.proofs.factor.Goals as goal

pub returns-then-n-gt1024 : goal.returns-then-n-gt1024
returns-then-n-gt1024 c = unfactored OutOfRange (here (lt-leb _ _ c.if-n-gt1024.true) refl)

pub returns-then-n-eq0 : goal.returns-then-n-eq0
returns-then-n-eq0 c =
    unfactored OutOfRange (later (le-leb _ _ c.if-n-gt1024.false) (here (le-ltb 0 c.args.n (omega (arith, c.if-n-eq0.true))) refl))

pub returns-then-p-size : goal.returns-then-p-size
returns-then-p-size c = unfactored MatrixLength (later (le-leb _ _ c.if-n-gt1024.false) (later (lt-ltb _ _ (pos_of_ne-zero c.if-n-eq0.false)) (here (ne_eqb _ _ c.if-p-size.true) refl)))

pub returns-then-u-size : goal.returns-then-u-size
returns-then-u-size c = unfactored SliceLength (later (le-leb _ _ c.if-n-gt1024.false) (later (lt-ltb _ _ (pos_of_ne-zero c.if-n-eq0.false)) (later (eq-eqb _ _ c.if-p-size.false) (here (ne_eqb _ _ c.if-u-size.true) refl))))

pub returns-then-d-n : goal.returns-then-d-n
returns-then-d-n c =
    unfactored SliceLength (later (le-leb _ _ c.if-n-gt1024.false) (later (lt-ltb _ _ (pos_of_ne-zero c.if-n-eq0.false)) (later (eq-eqb _ _ c.if-p-size.false) (later (eq-eqb _ _ c.if-u-size.false) (here (ne_eqb _ _ c.if-d-n.true) refl)))))

pub columns-requires-clause-holding : goal.columns-requires-clause-holding
columns-requires-clause-holding c = holding_none c.if-u-size.false c.if-d-n.false c.clear-2.ensures c.clear.ensures

pub returns : goal.returns
returns c =
    factored (record { low = pos_of_ne-zero c.if-n-eq0.false; high = c.if-n-gt1024.false; matrix = c.if-p-size.false; upper = c.if-u-size.false; diagonal = c.if-d-n.false }) c.columns.ensures
