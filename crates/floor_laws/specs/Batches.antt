-- Batches on one buffer with one floor for all of them.
use Rattle.std.specs.Prelude.{◌≡◌, true, false, List, [], ◌∷◌, ℕ, ◌+◌, Float}
use Rattle.answer.specs.Answer.{Answer, Done, is_done}
use Rattle.matrix.specs.Layouts.{in_room}
use Rattle.cholesky.specs.declared.Floored.{Floored}
use Rattle.cholesky.specs.Floored.{ExtendedFloored}

-- Calls of `extend_floored` on one buffer, as `Batches` has those of `extend`. The last number is the sum of what they report.
pub data FlooredBatches (s : Float) (room : ℕ) : ℕ → List Float → List ℕ → ℕ → List Float → Answer → ℕ → Type 0 where
  none : {m : ℕ} {l : List Float} → FlooredBatches s room m l [] m l Done 0
  refused : {m c : ℕ} {l l' : List Float} {f : Floored} {cuts : List ℕ}
      → ExtendedFloored s (in_room c room) m l l' f → is_done f.answer ≡ false → FlooredBatches s room m l (c ∷ cuts) c l' f.answer f.used
  more : {m k c : ℕ} {l l' l'' : List Float} {f : Floored} {r : Answer} {total : ℕ} {cuts : List ℕ}
      → ExtendedFloored s (in_room k room) m l l' f → is_done f.answer ≡ true → FlooredBatches s room k l' cuts c l'' r total → FlooredBatches s room m l (k ∷ cuts) c l'' r (f.used + total)
