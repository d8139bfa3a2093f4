-- Batches whose rows arrive: each batch is written just before its call, in a buffer that may be another one, in another room.
use Rattle.std.specs.Prelude.{◌≡◌, true, false, List, [], ◌∷◌, ℕ, ◌≤◌, ◌<◌, length, Float}
use Rattle.answer.specs.Answer.{Answer, Done, is_done}
use Rattle.matrix.specs.Matrix.{Matrix}
use Rattle.matrix.specs.Grid.{load}
use Rattle.matrix.specs.Layouts.{in_room, lower}
use Rattle.matrix.specs.Sizes.{Fits}
use Rattle.cholesky.specs.Run.{Rule}
use Rattle.cholesky.specs.Crate.{crate_rule}
use Rattle.cholesky.specs.Promise.{ExtendedBy}
use Rattle.cholesky.specs.Batches.{RefusedIn}

-- The buffer l before the call on rows m to k. Rows that have not come, and all else, may hold anything.
pub record Arrived (given : Matrix) (room m k : ℕ) (M : Matrix) (l : List Float) : Type 0 where
  pub fits : Fits (in_room k room) m (length l)
  -- the first m rows are M, as the last call left them
  pub stand : (i j : ℕ) → j ≤ i → i < m → load (lower (in_room k room)) l i j ≡ M i j
  -- the batch's rows are those of the whole matrix
  pub come : (i j : ℕ) → j ≤ i → m ≤ i → i < k → load (lower (in_room k room)) l i j ≡ given i j

-- Calls of `extend` for one cut after another, with m rows factored at first, which hold M. No call follows a refusal.
-- They stop with c rows handed in, which hold N, and the last answer r.
pub data ArrivingBy (ρ : Rule) (given : Matrix) : ℕ → Matrix → List ℕ → ℕ → Matrix → Answer → Type 0 where
  none : {m : ℕ} {M : Matrix} → ArrivingBy ρ given m M [] m M Done
  refused : {room m c : ℕ} {M : Matrix} {l l' : List Float} {r : Answer} {cuts : List ℕ}
      → Arrived given room m c M l → ExtendedBy ρ (in_room c room) m l l' r → is_done r ≡ false → ArrivingBy ρ given m M (c ∷ cuts) c (load (lower (in_room c room)) l') r
  more : {room m k c : ℕ} {M N : Matrix} {l l' : List Float} {r r' : Answer} {cuts : List ℕ}
      → Arrived given room m k M l → ExtendedBy ρ (in_room k room) m l l' r → is_done r ≡ true → ArrivingBy ρ given k (load (lower (in_room k room)) l') cuts c N r' → ArrivingBy ρ given m M (k ∷ cuts) c N r'

-- by the crate's own rule
abbrev pub Arriving : Matrix → ℕ → Matrix → List ℕ → ℕ → Matrix → Answer → Type 0
Arriving = ArrivingBy crate_rule

-- Batches over cuts that end at e stopped with c rows handed in, which hold N, and the answer r; the one call on n rows leaves `whole` and answers w.
pub record ArrivedAsOne (n e c : ℕ) (N : Matrix) (r : Answer) (whole : Matrix) (w : Answer) : Type 0 where
  -- the cuts end at n: the answers are equal, so a batch is refused exactly if the one call is, with the same code and row
  pub ended : e ≡ n → r ≡ w
  -- they end anywhere: a batch that is refused is refused with the one call's code and row
  pub refused : is_done r ≡ false → r ≡ w
  -- no batch is refused: the one call is refused, if at all, at a later row
  pub later : is_done r ≡ true → RefusedIn e n w
  -- the rows handed in are what the one call leaves
  pub rows : (i j : ℕ) → j ≤ i → i < c → N i j ≡ whole i j
