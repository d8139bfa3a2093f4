-- What `first_twin_on` answers once the sizes are tested. Assumes nothing.
use Rattle.std.proofs.Common.{◌≡◌, ℕ, List, Float, Option, Ok, Err, sym, ap, ◌∙◌, true≢false}
use Rattle.answer.specs.declared.Refusal.{Refusal}
use Rattle.answer.specs.Answer.{Done, is_done}
use Rattle.matrix.specs.declared.Layout.{Layout}
use Rattle.matrix.specs.Grid.{load}
use Rattle.matrix.specs.Layouts.{lower}
use Rattle.matrix.specs.Sizes.{sizes_of}
use Rattle.twins.specs.declared.Pair.{Pair}
use Rattle.twins.specs.First.{First, FirstTwinOn}

module _ {y : Layout} {m : ℕ} {l : List Float} where
  pub refused_by_size : {fault : Refusal} → Err fault ≡ sizes_of y m l → FirstTwinOn y m l (Err fault)
  refused_by_size checked = record { refused = λ e. cc; found = λ e. absurd (true≢false (sym e ∙ ap is_done (sym checked))) }

  pub found_in_size : {found : Option Pair} → Done ≡ sizes_of y m l → First y.order (load (lower y) l) m found → FirstTwinOn y m l (Ok found)
  found_in_size checked first = record { refused = λ e. absurd (true≢false (ap is_done (checked ∙ e))); found = λ e. first }
