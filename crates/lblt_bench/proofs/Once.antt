-- Two answers that meet the promise of `solve_bench` are equal, and so is all that they leave behind.
use Rattle.std.proofs.Common.{List, ◌≡◌, sym, ◌∙◌, ℕ, Float}
use Rattle.answer.specs.Answer.{Answer}
use Rattle.answer.proofs.Done.{value_alike}
use Rattle.matrix.specs.declared.Layout.{Layout}
use Rattle.lblt_bench.specs.Bench.{BenchSolved}

pub bench_once
    : {y : Layout} {columns bench run : ℕ} {a : List Float} {words : List ℕ} {b : List Float} {benches : List ℕ} {r r' : Answer} {c c' : List Float}
    → BenchSolved y columns bench run a words b benches r c → BenchSolved y columns bench run a words b benches r' c'
    → (r ≡ r') × (c ≡ c')
bench_once s t =
    let same = s.answer ∙ sym t.answer in
    (same, s.sides ∙ value_alike _ _ same ∙ sym t.sides)
