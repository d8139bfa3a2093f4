-- `fingerprint_rows` meets its contract. Assumes nothing.
use Rattle.std.proofs.Common.{refl, arith}
use Rattle.twins.proofs.Fingerprints.{brought_none}
use Rattle.twins.proofs.fingerprint_rows.Goals as goal

pub loop-c-init : goal.loop-c-init
loop-c-init c = record { upto = omega arith; long = refl; brought = brought_none c.requires.cleared }
