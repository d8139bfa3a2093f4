-- The digit of the status, of the bytes that the program reads.
use Rattle.std.specs.Prelude.{◌≡◌, cond, List, ℕ}
use Rattle.answer.specs.Answer.{Answer, is_done}
use Rattle.sheet.specs.Respond.{Response}

-- 2, which says that not all was written; or, by the answer to s, 0 for a page and 1 for a refused sheet
pub data Status (s : List ℕ) (digit : ℕ) : Type 0 where
  not_written : digit ≡ 50 → Status s digit
  answered : (answer : Answer) (text : List ℕ) → Response s answer text → digit ≡ cond (is_done answer) 48 49 → Status s digit
