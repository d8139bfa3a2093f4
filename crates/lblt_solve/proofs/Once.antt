-- Two answers that meet the promise of `solve_mut` are equal, and so is all that they leave behind.
use Rattle.std.proofs.Common.{List, ◌≡◌, sym, ◌∙◌, ℕ, Float}
use Rattle.answer.specs.Answer.{Answer}
use Rattle.answer.proofs.Done.{value_alike}
use Rattle.matrix.specs.declared.Layout.{Layout}
use Rattle.lblt_solve.specs.Solve.{LbltSolved}

pub solved_once
    : {y : Layout} {columns run : ℕ} {a : List Float} {words : List ℕ} {b : List Float} {r r' : Answer} {c c' : List Float}
    → LbltSolved y columns run a words b r c → LbltSolved y columns run a words b r' c'
    → (r ≡ r') × (c ≡ c')
solved_once s t =
    let same = s.answer ∙ sym t.answer in
    (same, s.sides ∙ value_alike _ _ same ∙ sym t.sides)
