-- Two answers that meet the promise of a call are equal, and so is all that they leave behind.
use Rattle.std.proofs.Common.{◌≡◌, List, ℕ, ℤ, Result, sym, ◌∙◌}
use Rattle.answer.specs.declared.Refusal.{Refusal}
use Rattle.answer.specs.Answer.{Answer}
use Rattle.answer.proofs.Done.{value_alike}
use Rattle.pivots_lapack.specs.declared.Stamp.{Stamp}
use Rattle.pivots_lapack.specs.Calls.{ListRead, ListWritten}

pub read_once
    : {n run : ℕ} {list : List ℤ} {info : ℤ} {words : List ℕ} {r q : Answer} {words₁ words₂ : List ℕ}
    → ListRead n run list info words r words₁ → ListRead n run list info words q words₂
    → (r ≡ q) × (words₁ ≡ words₂)
read_once s t =
    let same = s.answer ∙ sym t.answer in
    (same, s.pivots ∙ value_alike _ _ same ∙ sym t.pivots)

pub written_once
    : {n : ℕ} {words : List ℕ} {list : List ℤ} {r q : Result Stamp Refusal} {list₁ list₂ : List ℤ}
    → ListWritten n words list r list₁ → ListWritten n words list q list₂
    → (r ≡ q) × (list₁ ≡ list₂)
written_once s t =
    let same = s.answer ∙ sym t.answer in
    (same, s.numbers ∙ value_alike _ _ same ∙ sym t.numbers)
