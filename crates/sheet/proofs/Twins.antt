-- Of n·n numbers, n at most 64: an answer of `first_twin` is two of the rows or nothing.
use Rattle.std.specs.Prelude.{Option, None, Some, Ok, Err, IsOkAnd, IsOk}
use mathlib.Core.Path.{◌≡◌, refl, ap}
use mathlib.Core.Bool.{true}
use mathlib.Core.List.{List}
use Prim.Native.Nat.{ℕ, ◌*◌, ◌<◌, ◌≤◌}
use native.Mathlib.Omega.{arith}
use lib.Ieee.{Float}
use lib.ListN.{length}
use Rattle.answer.specs.Answer.{Done, is_done}
use Rattle.matrix.specs.Matrix.{Matrix}
use Rattle.matrix.specs.Layouts.{full}
use Rattle.matrix.proofs.Sizes.{fits_pass, full_fits}
use Rattle.twins.specs.declared.Pair.{Pair}
use Rattle.twins.specs.First.{Found, First, size_answer, FirstTwin, none, pair}

-- two of n rows, or nothing
abbrev pub OfRows : ℕ → Found → Type 0
OfRows n (Ok None) = Unit {0}
OfRows n (Ok (Some p)) = (p.first < n) × (p.second < n)
OfRows n (Err r) = ⊥

module _ (l : List Float) (n : ℕ) (small : n ≤ 64) (long : length l ≡ n * n) where
  accepted : is_done (size_answer l n 0 n) ≡ true
  accepted = ap is_done (fits_pass (full n) 0 (length l) (full_fits n (length l) (omega arith) long) Done)

  pub of_rows : {t : Found} → FirstTwin l n n t → OfRows n t
  of_rows {t} first = found _ t (first.found accepted)
    where
      go : {M : Matrix} {u : Option Pair} → First n M 0 u → OfRows n (Ok u)
      go (none f) = tt
      go (pair f) = (omega (arith, f.apart, f.within), f.within)

      found : (M : Matrix) (t : Found) → IsOkAnd t (First n M 0) → OfRows n t
      found M (Ok u) first = go first
      found M (Err r) first = absurd first

-- an answer of rows is no refusal
pub not_refused : (n : ℕ) (t : Found) → OfRows n t → IsOk t
not_refused n (Ok u) rows = refl
not_refused n (Err r) rows = absurd rows
