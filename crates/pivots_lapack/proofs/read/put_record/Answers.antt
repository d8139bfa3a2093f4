-- `put_record`: the pairs row by row, then the mark and the run number.
use Rattle.std.proofs.Common.{◌≡◌, List, ℕ, ap, ◌∙◌, arith, rules}
use Rattle.pivots.specs.Words.{stamped}
use Rattle.pivots_lapack.specs.Numbers.{index_meant, size_meant}
use Rattle.pivots_lapack.proofs.Signed.{seen}
use Rattle.pivots_lapack.proofs.Records.{in_list, pairs_more, pairs_all}
use Rattle.pivots_lapack.proofs.read.put_record.Goals as goal

pub loop-row-preserved : goal.loop-row-preserved
loop-row-preserved c =
    let same : seen (in_list c.args.list.now c.loop-row.row) ≡ in_list c.args.list.now c.loop-row.row = search rules in
    rw c.put_pair.ensures (pairs_more c.loop-row.invariant (omega arith) (c.from-pair.ensures.0 ∙ ap index_meant same) (c.from-pair.ensures.1 ∙ ap size_meant same))

pub returns : goal.returns
returns c =
    c.put_run.ensures ∙ ap (λ (w : List ℕ). stamped c.args.n w c.args.run) c.put_mark.ensures
    ∙ pairs_all c.args.mark c.args.run c.loop-row.invariant (omega arith) c.requires.list_len
