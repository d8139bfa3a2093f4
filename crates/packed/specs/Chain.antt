-- Batches whose factor goes from buffer to buffer, and what they share with the one packed call on the whole matrix.
use Rattle.std.specs.Prelude.{◌≡◌, true, false, List, [], ◌∷◌, ℕ, ◌≤◌, ◌<◌, length, Float}
use Rattle.answer.specs.Answer.{Answer, Done, is_done}
use Rattle.matrix.specs.Grid.{load}
use Rattle.matrix.specs.Layouts.{packed, entries_of, lower}
use Rattle.packing.specs.Joined.{row_start, new_row}
use Rattle.cholesky.specs.Batches.{RefusedIn}
use Rattle.packed.specs.Growing.{Grown}

-- rows m to k of the matrix of order n that `whole` packs, laid end to end, and a fresh buffer of order k, whatever it holds
pub record Came (n : ℕ) (whole : List Float) (m k : ℕ) (rows fresh : List Float) : Type 0 where
  pub long : length rows ≡ row_start m k
  pub come : (i j : ℕ) → j ≤ i → m ≤ i → i < k → new_row m rows j i ≡ load (lower (packed n)) whole i j
  pub room : length fresh ≡ entries_of k

-- Calls of `cholesky_extend` for one cut after another, from a packed factor `old` of m rows, each into a fresh buffer that is the next one's old factor.
-- No call follows a refusal. They stop with c rows handed in, the buffer `last` and the answer r, `Done` where there is no cut. A batch may have no rows.
pub data Chain (n : ℕ) (whole : List Float) : ℕ → List Float → List ℕ → ℕ → List Float → Answer → Type 0 where
  none : {m : ℕ} {old : List Float} → Chain n whole m old [] m old Done
  refused : {m c : ℕ} {old rows fresh fresh' : List Float} {r : Answer} {cuts : List ℕ}
      → Came n whole m c rows fresh → Grown m c old rows fresh r fresh' → is_done r ≡ false → Chain n whole m old (c ∷ cuts) c fresh' r
  more : {m k c : ℕ} {old rows fresh fresh' last : List Float} {r r' : Answer} {cuts : List ℕ}
      → Came n whole m k rows fresh → Grown m k old rows fresh r fresh' → is_done r ≡ true → Chain n whole k fresh' cuts c last r' → Chain n whole m old (k ∷ cuts) c last r'

-- Batches over cuts that end at e stopped with c rows handed in, the buffer `last` and the answer r; the one call on n rows leaves `one` and answers w.
pub record ChainedAsOne (n e c : ℕ) (last : List Float) (r : Answer) (one : List Float) (w : Answer) : Type 0 where
  -- the cuts end at n: the answers are equal, so a batch is refused exactly if the one call is, with the same code and row
  pub ended : e ≡ n → r ≡ w
  -- they end anywhere: a batch that is refused is refused with the one call's code and row, a row handed in
  pub refused : is_done r ≡ false → r ≡ w
  pub within : RefusedIn 0 c r
  -- no batch is refused: all rows are handed in, and the one call is refused, if at all, at a later row
  pub handed : is_done r ≡ true → c ≡ e
  pub later : is_done r ≡ true → RefusedIn e n w
  -- the last buffer packs the rows handed in, as the one call leaves them
  pub long : length last ≡ entries_of c
  pub rows : (i j : ℕ) → j ≤ i → i < c → load (lower (packed c)) last i j ≡ load (lower (packed n)) one i j
  -- so that with all n rows handed in the buffers are the same
  pub buffer : c ≡ n → last ≡ one
