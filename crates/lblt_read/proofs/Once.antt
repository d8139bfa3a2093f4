-- Two answers that meet a public promise are equal, and so is all that they leave behind.
use Rattle.std.proofs.Common.{List, ◌≡◌, sym, ◌∙◌, ℕ, Float, Result}
use Rattle.answer.specs.declared.Refusal.{Refusal}
use Rattle.answer.specs.Answer.{Answer}
use Rattle.answer.proofs.Tested.{leaving_alike}
use Rattle.matrix.specs.declared.Layout.{Layout}
use Rattle.matrix.specs.Matrix.{Matrix}
use Rattle.matrix.proofs.Squares.{fills_unique}
use Rattle.lblt_read.specs.Calls.{LbltDetermined, LbltFilled}

pub determined_once
    : {y : Layout} {run : ℕ} {a : List Float} {words : List ℕ} {r r' : Result Float Refusal}
    → LbltDetermined y run a words r → LbltDetermined y run a words r'
    → r ≡ r'
determined_once s t = s.answer ∙ sym t.answer

pub filled_once
    : {y : Layout} {run : ℕ} {a : List Float} {words : List ℕ} {M : Matrix} {l : List Float} {r r' : Answer} {m m' : List Float}
    → LbltFilled y run a words M l r m → LbltFilled y run a words M l r' m'
    → (r ≡ r') × (m ≡ m')
filled_once s t =
    let same = s.answer ∙ sym t.answer in
    (same, leaving_alike same s.left t.left (λ f f'. fills_unique f f') (λ e e'. e ∙ sym e'))
