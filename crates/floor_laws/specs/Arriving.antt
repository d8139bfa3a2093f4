-- Batches whose rows arrive, with one floor for all of them.
use Rattle.std.specs.Prelude.{◌≡◌, true, false, List, [], ◌∷◌, ℕ, ◌+◌, Float}
use Rattle.answer.specs.Answer.{Answer, Done, is_done}
use Rattle.matrix.specs.Matrix.{Matrix}
use Rattle.matrix.specs.Grid.{load}
use Rattle.matrix.specs.Layouts.{in_room, lower}
use Rattle.cholesky.specs.declared.Floored.{Floored}
use Rattle.cholesky.specs.Floored.{ExtendedFloored}
use Rattle.cholesky.specs.Arriving.{Arrived}

-- Calls of `extend_floored` on rows that arrive, as `Arriving` has those of `extend`. The last number is the sum of what they report.
pub data FlooredArriving (s : Float) (given : Matrix) : ℕ → Matrix → List ℕ → ℕ → Matrix → Answer → ℕ → Type 0 where
  none : {m : ℕ} {M : Matrix} → FlooredArriving s given m M [] m M Done 0
  refused : {room m c : ℕ} {M : Matrix} {l l' : List Float} {f : Floored} {cuts : List ℕ}
      → Arrived given room m c M l → ExtendedFloored s (in_room c room) m l l' f → is_done f.answer ≡ false
      → FlooredArriving s given m M (c ∷ cuts) c (load (lower (in_room c room)) l') f.answer f.used
  more : {room m k c : ℕ} {M N : Matrix} {l l' : List Float} {f : Floored} {r : Answer} {total : ℕ} {cuts : List ℕ}
      → Arrived given room m k M l → ExtendedFloored s (in_room k room) m l l' f → is_done f.answer ≡ true → FlooredArriving s given k (load (lower (in_room k room)) l') cuts c N r total
      → FlooredArriving s given m M (k ∷ cuts) c N r (f.used + total)
