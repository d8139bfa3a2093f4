-- The digit is that of the answer, or 2.
use Rattle.std.proofs.Common.{◌≡◌, ℕ, Bool, true, false, cond, List}
use Rattle.answer.specs.Answer.{Answer, is_done}
use Rattle.sheet.specs.Respond.{Response}
use Rattle.sheet_main.specs.Status.{Status, not_written, answered}
use Rattle.sheet_main.proofs.answer_to.Goals as goal

by_answer : {s text : List ℕ} {answer : Answer} {digit : ℕ} → (written : Bool) → Response s answer text → digit ≡ cond written (cond (is_done answer) 48 49) 50 → Status s digit
by_answer true response is = answered _ _ response is
by_answer false response is = not_written is

pub returns : goal.returns
returns c = by_answer c.if-warned.status c.respond-responded.ensures.response c.status.ensures
