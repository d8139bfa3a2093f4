-- What is answered to a NaN in a row of a batch, on its diagonal or left of it.
use Rattle.std.specs.Prelude.{◌≡◌, false, ℕ, ◌≤◌, Err}
use Rattle.answer.specs.declared.Refusal.TheVariants.{CholeskyNan}
use Rattle.answer.specs.Answer.{Answer, is_done}
use Rattle.answer.specs.Number.{place_of}

-- the NaN is in row i and the batch starts at row m: refused at one of the rows m to i, and at i by 11
pub record NanTold (m i : ℕ) (r : Answer) : Type 0 where
  pub refused : is_done r ≡ false
  pub from : m ≤ place_of r
  pub upto : place_of r ≤ i
  pub here : place_of r ≡ i → r ≡ Err (CholeskyNan i)
