-- `add` meets its contract. Assumes nothing.
use Rattle.std.proofs.Common.{◌≡◌, ◌+◌, ◌<◌, length, rules, arith}
use Rattle.matrix.proofs.Places.{digits_within}
use Rattle.strips.proofs.Gathering.{gathered_axpy}
use Rattle.udu.proofs.Crossing.{source_elsewhere}
use Rattle.udu.proofs.column.add.Goals as goal

pub axpy-requires : goal.axpy-requires
axpy-requires g c = (
  omega arith,
  (
    omega arith,
    (
      omega (arith, digits_within c.args.n c.args.n c.args.j c.args.j (omega arith) (omega arith)),
      λ i s below.
          let w : i < g.row.W = search rules in
          source_elsewhere c.args.n c.args.j (c.args.k + i) c.args.u.now c.args.d.now (c.sources-columns.ensures i s w) c.requires.u_len (omega arith) (omega arith),
    ),
  ),
)

pub returns : goal.returns
returns g c =
    let all : length c.sources-columns.result ≡ g.row.W = search rules in
    rw (← all) (gathered_axpy c.sources-columns.result (λ i s below. let w : i < g.row.W = omega (arith, all) in c.sources-columns.ensures i s w) c.axpy.ensures)
