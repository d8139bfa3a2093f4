-- What a call answers: done, or a refusal.
use Rattle.std.specs.Prelude.{Bool, Result, Ok, Err, is_ok}
use Rattle.answer.specs.declared.Refusal.{Refusal}

-- of a call that leaves its result in the lent slices
abbrev pub Answer : Type 0
Answer = Result (Unit {0}) Refusal

abbrev pub Done : Answer
Done = Ok tt

-- what a call that gives a value answers of it
abbrev pub answer_of : {A : Type 0} → Result A Refusal → Answer
answer_of (Ok x) = Done
answer_of (Err r) = Err r

-- done in every promise: no refusal, which is code 0
abbrev pub is_done : {A : Type 0} → Result A Refusal → Bool
is_done = is_ok
