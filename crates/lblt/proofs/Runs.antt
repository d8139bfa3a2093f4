-- The run number is not felt: two calls on one matrix and one lent record that differ in it give one answer and one factor, and records that differ
-- in its word alone. Assumes nothing.
use mathlib.Core.List.{List}
use mathlib.Core.Path.{◌≡◌, sym, ◌∙◌, ap}
use Prim.Native.Nat.{ℕ}
use lib.Ieee.{Float}
use lib.ListN.{length, get_or}
use Rattle.answer.specs.Answer.{Answer}
use Rattle.answer.proofs.Tested.{leaving_alike}
use Rattle.matrix.specs.declared.Layout.{Layout}
use Rattle.matrix.specs.Matrix.{Matrix}
use Rattle.matrix.proofs.Grids.{holds_unique}
use Rattle.pivots.specs.Words.{run_word, marked}
use Rattle.pivots.proofs.Written.{stamped_other, stamped_length}
use Rattle.lblt.specs.Factor.{final_state, recorded, Factored}

-- of one length, with the same words wherever the run number does not stand
pub record SameButRun (n : ℕ) (words words' : List ℕ) : Type 0 where
  pub long : length words ≡ length words'
  pub elsewhere : (p : ℕ) → (p ≡ run_word n → ⊥) → get_or words p 0 ≡ get_or words' p 0

pub recorded_apart : (n run run' : ℕ) (M : Matrix) (words : List ℕ) → SameButRun n (recorded n run M words) (recorded n run' M words)
unfolding recorded
recorded_apart n run run' M words = record {
  long = stamped_length n ended run ∙ sym (stamped_length n ended run');
  elsewhere = λ p other. stamped_other n ended run p other ∙ sym (stamped_other n ended run' p other);
}
  where
    ended : List ℕ
    ended = marked n (final_state n M words).words (final_state n M words).mark

same_but_run : {n : ℕ} {words₁ words₂ words₁' words₂' : List ℕ} → words₁ ≡ words₁' → words₂ ≡ words₂' → SameButRun n words₁' words₂' → SameButRun n words₁ words₂
same_but_run e f s = rw (e, f) s

-- what two calls answer and leave
pub record RunsApart (n : ℕ) (r r' : Answer) (a a' : List Float) (words words' : List ℕ) : Type 0 where
  pub answer : r ≡ r'
  pub matrix : a ≡ a'
  pub pivots : SameButRun n words words'

pub runs_apart : {y : Layout} {run run' : ℕ} {a : List Float} {words : List ℕ} {r₁ r₂ : Answer} {a₁ a₂ : List Float} {words₁ words₂ : List ℕ}
    → Factored y run a words r₁ a₁ words₁ → Factored y run' a words r₂ a₂ words₂ → RunsApart y.order r₁ r₂ a₁ a₂ words₁ words₂
runs_apart {y} {run} {run'} {words = words} {r₁ = r₁} {r₂} f g =
    let same : r₁ ≡ r₂ = f.answer ∙ sym g.answer in
    leaving_alike same f.left g.left
    (λ s t. record { answer = same; matrix = holds_unique s.matrix t.matrix; pivots = same_but_run s.pivots t.pivots (recorded_apart y.order run run' _ words) })
    (λ s t. record { answer = same; matrix = s.matrix ∙ sym t.matrix; pivots = same_words (s.pivots ∙ sym t.pivots) })
  where
    same_words : {v w : List ℕ} → v ≡ w → SameButRun y.order v w
    same_words e = record { long = ap length e; elsewhere = λ p other. ap (λ (l : List ℕ). get_or l p 0) e }
