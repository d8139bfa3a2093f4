-- UDU of a block beside UDU of the whole, as the promise of `udu::factor` gives them. The block is rows and columns m to n − 1: its entry (i, k) is
-- the whole's (m + i, m + k).
use Rattle.std.specs.Prelude.{true, List, ◌≡◌, ℕ, ◌+◌, ◌-◌, ◌≤◌, ◌<◌, get_or, Float, Err}
use Rattle.std.specs.Float.{nan}
use Rattle.std.specs.Float.Ieee.{eq}
use Rattle.answer.specs.declared.Refusal.TheVariants.{ZeroDiagonal}
use Rattle.answer.specs.Answer.{Answer, Done}
use Rattle.matrix.specs.Grid.{load}
use Rattle.matrix.specs.Layouts.{upper, square}
use Rattle.matrix.specs.Rounded.{plus_zero}
use Rattle.udu.specs.Columns.{Factors}
use Rattle.udu.specs.Promise.{Holding}

-- the upper part of q is the block of the upper part of p
pub record BlockOf (n m : ℕ) (p q : List Float) : Type 0 where
  pub entries : (i j : ℕ) → i ≤ j → j < n - m → load (upper (n - m)) q i j ≡ load (upper n) p (m + i) (m + j)

-- the call goes past column m: it is done, or refused at a column before m
pub data Past (m : ℕ) : Answer → Type 0 where
  finished : Past m Done
  refused_before : {j : ℕ} → j < m → Past m (Err (ZeroDiagonal j))

-- the answer to the block beside the answer to the whole
pub data Beside (m : ℕ) : Answer → Answer → Type 0 where
  block_done : {r : Answer} → Past m r → Beside m r Done
  block_refused : {j : ℕ} → m ≤ j → Beside m (Err (ZeroDiagonal j)) (Err (ZeroDiagonal (j - m)))

-- the block's rows and columns of what stands in u and d
abbrev pub tail_in : ℕ → ℕ → List Float → List Float → Factors
tail_in n m u d = record { u = λ i k. load (square n) u (m + i) (m + k); d = λ k. get_or d (m + k) nan }

-- what a call refused at column j leaves up to that column: in d a zero, and +0 before it; in u +0, which is all of u where j is n − 1
pub record Zeroed (n j : ℕ) (u d : List Float) : Type 0 where
  pub within : j < n
  pub found : eq (get_or d j nan) plus_zero ≡ true
  pub before : (k : ℕ) → k < j → get_or d k nan ≡ plus_zero
  pub columns : (i k : ℕ) → i < n → k ≤ j → load (square n) u i k ≡ plus_zero

-- the whole is answered r and leaves u and d, the block is answered s and leaves v and e
pub record KeepsTail (n m : ℕ) (r : Answer) (u d : List Float) (s : Answer) (v e : List Float) : Type 0 where
  pub answer : Beside m r s
  -- accepted or refused, the block's slices are its rows and columns of the whole's, and nothing else
  pub slices : Holding (n - m) (tail_in n m u d) v e
  -- so that both, refused, hold zeros up to the same column
  pub refused : (j : ℕ) → m ≤ j → r ≡ Err (ZeroDiagonal j) → Zeroed n j u d × Zeroed (n - m) (j - m) v e
