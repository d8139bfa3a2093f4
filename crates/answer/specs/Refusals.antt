-- A call's refusals: a list of tests, of which the first that fails answers.
use Rattle.std.specs.Prelude.{◌≡◌, Bool, true, false, cond, List, [], ◌∷◌, Result, Err}
use Rattle.answer.specs.declared.Refusal.{Refusal}
use Rattle.answer.specs.Answer.{is_done}

-- whether a test holds, and the refusal where it does not
pub record Test : Type 0 where
  pub holds : Bool
  pub refusal : Refusal

infix 4 ◌otherwise◌
abbrev pub ◌otherwise◌ : Bool → Refusal → Test
b otherwise r = record { holds = b; refusal = r }

-- the refusal of the first test that fails, r where all hold
unfoldable pub tested : {A : Type 0} → List Test → Result A Refusal → Result A Refusal
tested [] r = r
tested (t ∷ tests) r = cond t.holds (tested tests r) (Err t.refusal)

-- what is left behind: D where the answer is done, U (nothing is written) where it is a refusal
pub record Leaving {A : Type 0} (r : Result A Refusal) (D U : Type 0) : Type 0 where
  pub done : is_done r ≡ true → D
  pub refused : is_done r ≡ false → U
