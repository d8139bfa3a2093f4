-- What `factor` answers and leaves, on every input.
use Rattle.std.specs.Prelude.{List, [], ◌∷◌, ◌≡◌, ℕ, ◌*◌, ◌≤◌, ◌<◌, leb, ltb, eqb, length, get_or, Float, Err}
use Rattle.std.specs.Float.{nan}
use Rattle.answer.specs.declared.Refusal.TheVariants.{OutOfRange, MatrixLength, SliceLength, ZeroDiagonal}
use Rattle.answer.specs.Answer.{Answer, Done}
use Rattle.answer.specs.Refusals.{Test, ◌otherwise◌, tested, Leaving}
use Rattle.matrix.specs.Grid.{load, mask}
use Rattle.matrix.specs.Layouts.{upper, square, Fills}
use Rattle.udu.specs.Columns.{Factors, UduRun, accepted, refused, udu_columns}

-- the order and the lengths of p, u and d
abbrev pub udu_tests : ℕ → ℕ → ℕ → ℕ → List Test
udu_tests n p u d =
    (leb n 1024 otherwise OutOfRange)
    ∷ (ltb 0 n otherwise OutOfRange)
    ∷ (eqb p (n * n) otherwise MatrixLength)
    ∷ (eqb u (n * n) otherwise SliceLength)
    ∷ (eqb d n otherwise SliceLength)
    ∷ []

-- all of these tests hold
pub record UduSized (n : ℕ) (p u d : List Float) : Type 0 where
  pub low : 0 < n
  pub high : n ≤ 1024
  pub matrix : length p ≡ n * n
  pub upper : length u ≡ n * n
  pub diagonal : length d ≡ n

-- UDU of the upper part of p
unfoldable pub udu_of : ℕ → List Float → UduRun
unfolding udu_columns
udu_of n p = udu_columns n (load (upper n) p)

abbrev pub udu_answer : UduRun → Answer
udu_answer (accepted F) = Done
udu_answer (refused j F) = Err (ZeroDiagonal j)

abbrev pub factors_of : UduRun → Factors
factors_of (accepted F) = F
factors_of (refused j F) = F

-- the slice is the n numbers of f and nothing else
pub record Lists (n : ℕ) (l : List Float) (f : ℕ → Float) : Type 0 where
  pub long : length l ≡ n
  pub cells : (k : ℕ) → k < n → get_or l k nan ≡ f k

-- both slices hold what was found
pub record Holding (n : ℕ) (F : Factors) (u d : List Float) : Type 0 where
  pub upper : Fills n u (mask (square n) F.u)
  pub diagonal : Lists n d F.d

-- both slices are as they were
pub record Unwritten (u₀ d₀ u d : List Float) : Type 0 where
  pub upper : u ≡ u₀
  pub diagonal : d ≡ d₀

pub record UduFactored (p u₀ d₀ : List Float) (n : ℕ) (r : Answer) (u d : List Float) : Type 0 where
  pub answer : r ≡ tested (udu_tests n (length p) (length u₀) (length d₀)) (udu_answer (udu_of n p))
  pub slices : Leaving (tested (udu_tests n (length p) (length u₀) (length d₀)) Done) (Holding n (factors_of (udu_of n p)) u d) (Unwritten u₀ d₀ u d)
