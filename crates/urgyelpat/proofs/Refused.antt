-- What a call hands back beside its number where it refuses. Assumes nothing.
use Rattle.std.specs.Prelude.{◌≡◌, ℕ, ℤ, pos, List, Result, Ok, Err}
use mathlib.Core.Path.{ap}
use Rattle.answer.specs.declared.Refusal.{Refusal}
use Rattle.pivots_lapack.specs.declared.Stamp.{Stamp}
use Rattle.handheld.specs.declared.Column3.{Column3}
use Rattle.handheld.specs.declared.Pivots3.{Pivots3}
use Rattle.urgyelpat.specs.declared.Listed.{Listed}
use Rattle.urgyelpat.specs.declared.Matrix3.{Matrix3}
use Rattle.urgyelpat.specs.declared.Solved3.{Solved3}
use Rattle.urgyelpat.specs.Passed.{listed_of, solved3_of}
use Rattle.urgyelpat.specs.Calls.{PivotsToLapack, HandheldSolve}

-- INFO 0 and run number 0
pub to_lapack_refuses : {n : ℕ} {words : List ℕ} {list list' : List ℤ} {v : Listed} → PivotsToLapack n words list v list' → (v.answer ≡ 0 → ⊥) → (v.info ≡ pos 0) × (v.run ≡ 0)
to_lapack_refuses {v} c refused = by c.below c.result
  where
    by : (r : Result Stamp Refusal) → v ≡ listed_of r → (v.info ≡ pos 0) × (v.run ≡ 0)
    by (Ok stamp) is = absurd (refused (ap (λ (l : Listed). l.answer) is))
    by (Err fault) is = (ap (λ (l : Listed). l.info) is, ap (λ (l : Listed). l.run) is)

-- the side as it was given
pub handheld_refuses : {matrix : Matrix3} {pivots : Pivots3} {side : Column3} {v : Solved3} → HandheldSolve matrix pivots side v → (v.answer ≡ 0 → ⊥) → v.side ≡ side
handheld_refuses {side} {v} c refused = by c.below c.result
  where
    by : (r : Result Column3 Refusal) → v ≡ solved3_of side r → v.side ≡ side
    by (Ok solved) is = absurd (refused (ap (λ (s : Solved3). s.answer) is))
    by (Err fault) is = ap (λ (s : Solved3). s.side) is
