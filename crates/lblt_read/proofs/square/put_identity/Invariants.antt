-- `put_identity` puts zeros, then ones on the diagonal.
use Rattle.lblt_read.proofs.Entrywise.{put_one}
use Rattle.matrix.proofs.Grids.{Turned}
use Rattle.matrix.specs.Layouts.{square}
use Rattle.lblt_read.proofs.square.put_identity.Given as goal

abbrev pub invariant-loop-k : goal.invariant-loop-k
invariant-loop-k l = Turned (square l.n) 0 l.n put_one l.initial.l l.k l.l
