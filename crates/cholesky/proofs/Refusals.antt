-- Where a run is refused: at a column whose diagonal the rule turns down. Assumes nothing.
use mathlib.Core.Path.{◌≡◌, refl, sym, ◌∙◌, ap, subst}
use mathlib.Core.Bool.{false}
use mathlib.Core.List.{List}
use Prim.Native.Nat.{ℕ, ◌≤◌, ◌<◌}
use native.Mathlib.Omega.{arith}
use lib.Dec.{T, ltb}
use lib.ListN.{length}
use lib.Ieee.{Float}
use borrow.Author.Tests.{ltb-false}
use Rattle.answer.specs.Answer.{Answer, Done, is_done}
use Rattle.answer.specs.Number.{place_of}
use Rattle.matrix.specs.declared.Layout.{Layout}
use Rattle.matrix.specs.Matrix.{Matrix}
use Rattle.matrix.specs.Loop.{for}
use Rattle.matrix.specs.Grid.{load}
use Rattle.matrix.specs.Layouts.{lower}
use Rattle.matrix.specs.Sizes.{Fits}
use Rattle.answer.proofs.Tests.{either}
use Rattle.matrix.proofs.Loops.{for_keeps}
use Rattle.cholesky.specs.Run.{Rule, Outcome, updates, continued, judged_column, worked, factor_column, started, factor_columns}
use Rattle.cholesky.specs.Crate.{crate_rule}
use Rattle.cholesky.specs.Floor.{floor_rule}
use Rattle.cholesky.specs.Promise.{ExtendedBy}
use Rattle.cholesky.specs.Batches.{RefusedIn}
use Rattle.cholesky.proofs.Diagonal.{answer_place}
use Rattle.cholesky.proofs.Floor.{floor_place}
use Rattle.cholesky.proofs.Promises.{extended_answer}

-- done, or the rule's refusal of some number on the diagonal of one of the columns lo to hi
pub data Answered (ρ : Rule) (lo hi : ℕ) (r : Answer) : Type 0 where
  done : r ≡ Done → Answered ρ lo hi r
  refused : (d : Float) (j : ℕ) → lo ≤ j → j < hi → is_done (ρ.verdict d j) ≡ false → r ≡ ρ.verdict d j → Answered ρ lo hi r

-- Columns lo to hi, the first m rows of which are factored: no column before m is judged.
module _ (ρ : Rule) (m lo hi first : ℕ) (bound : (j : ℕ) → lo ≤ j → m ≤ j → first ≤ j) where
  abbrev Answering : Outcome → Type 0
  Answering o = Answered ρ first hi o.answer

  judged_answered : (j : ℕ) (U : Matrix) → first ≤ j → j < hi → Answering (judged_column ρ j U)
  unfolding judged_column
  judged_answered j U from upto = either Answering (is_done (ρ.verdict (U j j) j)) (λ e. done refl) (λ e. refused (U j j) j from upto e refl)

  worked_answered : (j : ℕ) (M : Matrix) → lo ≤ j → j < hi → Answering (worked ρ m j M)
  unfolding worked continued
  worked_answered j M from upto = either Answering (ltb j m) (λ e. done refl) (λ e. judged_answered j (updates j j M) (bound j from (ltb-false j m e)) upto)

  pub columns_answered : (o : Outcome) → o.answer ≡ Done → Answered ρ first hi (for lo hi (factor_column ρ m) o).answer
  unfolding factor_column
  columns_answered o start =
      for_keeps Answering lo hi (factor_column ρ m) o (done start)
      (λ j p from upto so. either Answering (is_done p.answer) (λ e. worked_answered j p.cells from upto) (λ e. so))

-- ---- where a refusal names its column

pub record NamesColumn (ρ : Rule) : Type 0 where
  pub place : (d : Float) (j : ℕ) → is_done (ρ.verdict d j) ≡ false → place_of (ρ.verdict d j) ≡ j

pub crate_names : NamesColumn crate_rule
crate_names = record { place = answer_place }

pub floor_names : (s : Float) → NamesColumn (floor_rule s)
floor_names s = record { place = floor_place s }

pub refused_in : {ρ : Rule} {lo hi : ℕ} {r : Answer} → NamesColumn ρ → Answered ρ lo hi r → RefusedIn lo hi r
refused_in names (done is) failed = absurd (subst T (sym (ap is_done is) ∙ failed) tt)
refused_in {lo = lo} {hi = hi} {r = r} names (refused d j from upto turned is) failed =
    let place : place_of r ≡ j = ap place_of is ∙ names.place d j turned in
    (omega arith, omega arith)

-- ---- the call

-- a batch from row m on is refused, if at all, at one of its own rows
pub extended_refused : {ρ : Rule} {y : Layout} {m : ℕ} {l l' : List Float} {r : Answer} → NamesColumn ρ → Fits y m (length l) → ExtendedBy ρ y m l l' r → RefusedIn m y.order r
unfolding factor_columns
extended_refused {ρ} {y} {m} {l} names fits call =
    subst (RefusedIn m y.order) (sym (extended_answer call fits))
    (refused_in names (columns_answered ρ m 0 y.order m (λ j low from. from) (started (load (lower y) l)) refl))
