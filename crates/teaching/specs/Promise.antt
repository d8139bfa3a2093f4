-- What `cholesky` promises: the main engine's answer, and its bits in the rows that were reached.
use Rattle.std.specs.Prelude.{◌≡◌, cond, List, ◌∷◌, ℕ, ◌+◌, leb, length, Float}
use Rattle.answer.specs.declared.Refusal.TheVariants.{OutOfRange}
use Rattle.answer.specs.Answer.{Answer, Done, is_done}
use Rattle.answer.specs.Number.{place_of}
use Rattle.answer.specs.Refusals.{Test, ◌otherwise◌, tested, Leaving}
use Rattle.matrix.specs.Layouts.{in_room}
use Rattle.matrix.specs.Sizes.{size_tests}
use Rattle.cholesky.specs.Leaves.{Leaves}
use Rattle.cholesky.specs.Promise.{batch}

-- codes 1 to 3, for a slice of `len` numbers: the order is at most 64, and then as for the main engine
abbrev pub teaching_tests : ℕ → ℕ → ℕ → List Test
teaching_tests room n len = (leb n 64 otherwise OutOfRange) ∷ size_tests (in_room n room) 0 len

-- how many of the n rows were reached: all of them, or those up to the refused one
unfoldable pub reached : ℕ → Answer → ℕ
reached n r = cond (is_done r) n (place_of r + 1)

-- `batch` is what the main engine answers and leaves. The rows reached are its rows, up to their diagonals; all else is as in l₀.
pub record Taught (room n : ℕ) (l₀ l : List Float) (r : Answer) : Type 0 where
  pub answer : r ≡ tested (teaching_tests room n (length l₀)) (batch (in_room n room) 0 l₀).answer
  pub left : Leaving (tested (teaching_tests room n (length l₀)) Done) (Leaves (in_room (reached n r) room) l₀ l (batch (in_room n room) 0 l₀).cells) (l ≡ l₀)
