-- `fingerprint_rows` meets its contract. Assumes nothing.
use Rattle.matrix.specs.Grid.{load}
use Rattle.matrix.specs.Layouts.{lower}
use Rattle.twins.proofs.Fingerprints.{Columns}
use Rattle.twins.proofs.fingerprint_rows.Given as goal

abbrev pub invariant-loop-c : goal.invariant-loop-c
invariant-loop-c l = Columns l.y.order (load (lower l.y) l.a) l.initial.fingerprints l.c l.fingerprints
