-- Batches of rows over a list of cuts, and what they share with the one call on the whole matrix.
use Rattle.std.specs.Prelude.{◌≡◌, true, false, List, [], ◌∷◌, ℕ, ◌≤◌, ◌<◌, Float}
use Rattle.answer.specs.Answer.{Answer, Done, is_done}
use Rattle.answer.specs.Number.{place_of}
use Rattle.matrix.specs.Grid.{load, Kept}
use Rattle.matrix.specs.Layouts.{in_room, lower}
use Rattle.cholesky.specs.Run.{Rule}
use Rattle.cholesky.specs.Crate.{crate_rule}
use Rattle.cholesky.specs.Promise.{ExtendedBy}

-- the cuts rise from m and end at e: m ≤ c₁ ≤ c₂ ≤ … ≤ e, the last one e; with no cut, m is e
abbrev pub Rising : ℕ → List ℕ → ℕ → Type 0
Rising m [] e = m ≡ e
Rising m (c ∷ cuts) e = (m ≤ c) × Rising c cuts e

-- Calls of `extend` on one buffer, l at first with m rows factored, for one cut after another. No call follows a refusal.
-- They stop with c rows handed in, the buffer l' and the last answer r, `Done` where there is no cut. A batch may have no rows.
pub data BatchesBy (ρ : Rule) (room : ℕ) : ℕ → List Float → List ℕ → ℕ → List Float → Answer → Type 0 where
  none : {m : ℕ} {l : List Float} → BatchesBy ρ room m l [] m l Done
  refused : {m c : ℕ} {l l' : List Float} {r : Answer} {cuts : List ℕ} → ExtendedBy ρ (in_room c room) m l l' r → is_done r ≡ false → BatchesBy ρ room m l (c ∷ cuts) c l' r
  more : {m k c : ℕ} {l l' l'' : List Float} {r r' : Answer} {cuts : List ℕ}
      → ExtendedBy ρ (in_room k room) m l l' r → is_done r ≡ true → BatchesBy ρ room k l' cuts c l'' r' → BatchesBy ρ room m l (k ∷ cuts) c l'' r'

-- by the crate's own rule
abbrev pub Batches : ℕ → ℕ → List Float → List ℕ → ℕ → List Float → Answer → Type 0
Batches = BatchesBy crate_rule

-- refused, if at all, at one of the rows lo to hi
abbrev pub RefusedIn : ℕ → ℕ → Answer → Type 0
RefusedIn lo hi r = is_done r ≡ false → (lo ≤ place_of r) × (place_of r < hi)

-- Batches over cuts that end at e stopped with c rows handed in, the buffer l and the answer r; the one call on n rows leaves `whole` and answers w.
pub record SameAsOne (room n : ℕ) (l₀ : List Float) (e c : ℕ) (l : List Float) (r : Answer) (whole : List Float) (w : Answer) : Type 0 where
  -- the cuts end at n: the answers are equal, so a batch is refused exactly if the one call is, with the same code and row
  pub ended : e ≡ n → r ≡ w
  -- they end anywhere: a batch that is refused is refused with the one call's code and row, a row handed in
  pub refused : is_done r ≡ false → r ≡ w
  pub within : RefusedIn 0 c r
  -- no batch is refused: all rows are handed in, and the one call is refused, if at all, at a later row
  pub handed : is_done r ≡ true → c ≡ e
  pub later : is_done r ≡ true → RefusedIn e n w
  -- the rows handed in are what the one call leaves, later rows and all else are as given
  pub rows : load (lower (in_room c room)) l ≡ load (lower (in_room c room)) whole
  pub kept : Kept (lower (in_room c room)) l₀ l
  -- so that with all n rows handed in the buffers are the same
  pub buffer : c ≡ n → l ≡ whole
