-- What the parts of `factor` promise each other, on plain offsets: column j of a matrix of order n starts at j·n.
use Rattle.std.specs.Prelude.{Bool, cond, List, ◌≡◌, ℕ, ◌+◌, ◌*◌, ◌<◌, get_or, set, Float}
use Rattle.std.specs.Float.{nan}
use Rattle.std.specs.Float.Ieee.{eq}
use Rattle.answer.specs.Answer.{Answer}
use Rattle.matrix.specs.Grid.{load}
use Rattle.matrix.specs.Layouts.{upper}
use Rattle.matrix.specs.Rounded.{◌⊖◌, ◌⊗◌, ◌⊘◌, plus_zero}
use Rattle.strips.specs.declared.Source.{Source}
use Rattle.strips.specs.inner.Strip.{row_at, Strip}
use Rattle.udu.specs.Columns.{Factors, UduRun, udu_diagonal, udu_entry}
use Rattle.udu.specs.Promise.{Holding, udu_answer, factors_of}

-- the first c columns of u are +0
pub record Zeros (n c : ℕ) (u : List Float) : Type 0 where
  pub cells : (i k : ℕ) → i < n → k < c → row_at u (k * n) i ≡ plus_zero

-- what stands in u and d
abbrev pub factors_in : ℕ → List Float → List Float → Factors
factors_in n u d = record { u = λ i k. row_at u (k * n) i; d = λ k. get_or d k nan }

-- ---- strips of one column

abbrev pub multiples_of : List Float → ℕ → Float → ℕ → Float
multiples_of p at c i = c ⊗ row_at p at i

abbrev pub quotients_of : List Float → List Float → ℕ → Float → ℕ → Float
quotients_of p u at x i = (row_at p at i ⊖ row_at u at i) ⊘ x

-- ---- the sums of a column

-- column k, and what it is multiplied by in the sums of column j
abbrev pub source_of : ℕ → List Float → List Float → ℕ → ℕ → Source
source_of n u d j k = record { start = k * n; scale = get_or d k nan ⊗ row_at u (k * n) j }

-- ---- columns

abbrev pub diagonal_in : ℕ → ℕ → List Float → List Float → List Float → Float
diagonal_in n j p u d = udu_diagonal n (load (upper n) p) (factors_in n u d) j

-- column j: its diagonal stands in d and, unless that is zero, its entries in u down to the diagonal; all else is as it was
pub record ColumnStep (n j : ℕ) (p u₀ d₀ : List Float) (zero? : Bool) (u d : List Float) : Type 0 where
  pub tested : zero? ≡ eq (diagonal_in n j p u₀ d₀) plus_zero
  pub diagonal : d ≡ set d₀ j (diagonal_in n j p u₀ d₀)
  pub column : Strip (j * n) 0 (cond zero? 0 (j + 1)) (udu_entry n (load (upper n) p) (factors_in n u₀ d₀) (diagonal_in n j p u₀ d₀) j) u₀ u

-- the answer to a run, and what it leaves
pub record Columned (n : ℕ) (R : UduRun) (r : Answer) (u d : List Float) : Type 0 where
  pub answer : r ≡ udu_answer R
  pub slices : Holding n (factors_of R) u d
