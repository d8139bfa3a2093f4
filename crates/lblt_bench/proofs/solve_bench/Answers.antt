-- `solve_bench` solves the bench's columns where its checks admit it, and leaves all as it was where they do not.
use Rattle.std.proofs.Common.{refl}
use Rattle.answer.proofs.Done.{handed_on}
use Rattle.matrix.specs.Layouts.{full}
use Rattle.lblt_bench.proofs.Listed.{bench_admitted, bench_solved}
use Rattle.lblt_bench.proofs.solve_bench.Goals as goal

pub returns-in_err-check : goal.returns-in_err-check
returns-in_err-check c =
    rw (handed_on _ c.from_residual.ensures.1) (record { answer = rw c.full-y.ensures at c.in_err-check.ensures; sides = refl })

pub solve-requires-clause-readable : goal.solve-requires-clause-readable
solve-requires-clause-readable c =
    let known = bench_admitted (full c.args.n) c.args.columns c.args.run c.args.a.now c.args.words.now c.args.b.now c.args.benches.now (rw c.full-y.ensures at c.in_ok-check.ensures) refl in
    rw c.full-y.ensures known.1.readable

pub solve-requires-clause-lined : goal.solve-requires-clause-lined
solve-requires-clause-lined c =
    let known = bench_admitted (full c.args.n) c.args.columns c.args.run c.args.a.now c.args.words.now c.args.b.now c.args.benches.now (rw c.full-y.ensures at c.in_ok-check.ensures) refl in
    rw (c.full-y.ensures, known.0) (record { few = known.1.few; long = known.1.long })

pub returns : goal.returns
returns c =
    bench_solved (full c.args.n) c.args.columns c.args.run c.args.a.now c.args.words.now c.args.b.now c.args.benches.now
    (rw c.full-y.ensures at c.in_ok-check.ensures) (rw c.full-y.ensures at c.solve.ensures)
