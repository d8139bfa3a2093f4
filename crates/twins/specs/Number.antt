-- The one number of what `first_twin` answers: 0 for none, a refusal's own number, and a pair above all of those.
use Rattle.std.specs.Prelude.{ℕ, ◌+◌, ◌*◌, None, Some, Ok, Err}
use Rattle.answer.specs.Number.{refusal_number}
use Rattle.twins.specs.First.{Found}

abbrev pub twin_number : Found → ℕ
twin_number (Ok None) = 0
twin_number (Ok (Some pair)) = (4096 + pair.second) * 4096 + pair.first
twin_number (Err refusal) = refusal_number refusal
