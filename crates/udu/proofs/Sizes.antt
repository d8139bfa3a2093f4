-- The promise of `factor` by the ways out of it. Assumes nothing.
--     unfactored             a test fails: nothing is written
--     factored, columned     the sizes are right: from what the columns leave, and back
use Rattle.std.specs.Prelude.{Err}
use mathlib.Core.List.{List}
use mathlib.Core.Path.{refl, sym, ◌∙◌, ap}
use Prim.Native.Nat.{ℕ, ◌*◌}
use borrow.Author.Tests.{le-leb, lt-ltb, eq-eqb}
use lib.ListN.{length}
use lib.Ieee.{Float}
use Rattle.answer.specs.declared.Refusal.{Refusal}
use Rattle.answer.specs.Answer.{Answer, Done, is_done}
use Rattle.answer.proofs.Tested.{AllHold, Fails, tested_all, tested_at, leaving_done, leaving_refused}
use Rattle.udu.specs.Promise.{udu_tests, UduSized, udu_of, UduFactored}
use Rattle.udu.specs.inner.Contracts.{Columned}

pub unfactored : {p u d : List Float} {n : ℕ} (fault : Refusal) → Fails fault (udu_tests n (length p) (length u) (length d)) → UduFactored p u d n (Err fault) u d
unfactored fault fails = record {
  answer = sym (tested_at _ _ fails);
  slices = leaving_refused (ap is_done (tested_at _ Done fails)) (record { upper = refl; diagonal = refl });
}

module _ {p u₀ d₀ : List Float} {n : ℕ} (right : UduSized n p u₀ d₀) where
  hold : AllHold (udu_tests n (length p) (length u₀) (length d₀))
  hold = (
    le-leb n 1024 right.high,
    (lt-ltb 0 n right.low, (eq-eqb (length p) (n * n) right.matrix, (eq-eqb (length u₀) (n * n) right.upper, (eq-eqb (length d₀) n right.diagonal, tt)))),
  )

  pub factored : {r : Answer} {u d : List Float} → Columned n (udu_of n p) r u d → UduFactored p u₀ d₀ n r u d
  factored c = record { answer = c.answer ∙ sym (tested_all _ _ hold); slices = leaving_done (ap is_done (tested_all _ Done hold)) c.slices }

  pub columned : {r : Answer} {u d : List Float} → UduFactored p u₀ d₀ n r u d → Columned n (udu_of n p) r u d
  columned f = record { answer = f.answer ∙ tested_all _ _ hold; slices = f.slices.done (ap is_done (tested_all _ Done hold)) }
