-- What batches report beside what the one call reports.
use Rattle.std.specs.Prelude.{◌≡◌, false, ℕ}
use Rattle.answer.specs.Answer.{Answer, is_done}

-- Batches over cuts that end at e stopped with the answer r and have reported `total`; the one call on n rows reports `used`.
pub record CountsAdd (n e : ℕ) (r : Answer) (total used : ℕ) : Type 0 where
  pub ended : e ≡ n → total ≡ used
  pub refused : is_done r ≡ false → total ≡ used
