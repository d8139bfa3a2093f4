-- An item of three rows: its slices, and where its steps come to. The promise of `tray` does not rest on these.
use Rattle.std.specs.Prelude.{cond, List, [], ◌∷◌, ℕ, Float, set}
use Rattle.std.specs.Float.Ieee.{lt}
use Rattle.lblt.specs.Step.{State}
use Rattle.lblt.specs.Factor.{final_state}
use Rattle.handheld.specs.declared.Triangle.{Triangle}
use Rattle.handheld.specs.declared.steps.Stepped.{Stepped}
use Rattle.handheld.specs.inner.Numbers.{in_nine}
use Rattle.handheld.specs.inner.Triangle.{matrix_of}
use Rattle.handheld.specs.inner.Steps.{blank, Comes}
use Rattle.lblt_tray.specs.declared.three.Top.{Top}

-- nine numbers with the triangle t in their lower part
abbrev pub with_lower : List Float → Triangle → List Float
with_lower l t = set (set (set (set (set (set l 0 t.a00) 1 t.a10) 2 t.a20) 4 t.a11) 5 t.a21) 8 t.a22

-- the record of three rows without a mark, the last one's index being its own
abbrev pub record_by : ℕ → ℕ → ℕ → ℕ → ℕ → ℕ → List ℕ
record_by index0 size0 index1 size1 size2 run = index0 ∷ size0 ∷ index1 ∷ size1 ∷ 2 ∷ size2 ∷ 0 ∷ run ∷ []

-- of two magnitudes below the diagonal of column 0 the larger, the first of equal ones, its row, and the diagonal there
unfoldable pub top_of : Triangle → Float → Float → Top
top_of t one two = cond (lt one two) (record { row = 2; largest = two; diagonal = t.a22 }) (record { row = 1; largest = one; diagonal = t.a11 })

-- these pairs, without a mark
abbrev pub ending_in : Triangle → ℕ → ℕ → ℕ → ℕ → ℕ → Stepped
ending_in t index0 size0 index1 size1 size2 =
    record { lower = t; pivots = record { index = index0 ∷ index1 ∷ 2 ∷ []; size = size0 ∷ size1 ∷ size2 ∷ []; mark = 0 } }

-- what comes from the state S comes from the item's matrix, a
abbrev pub Onward : List Float → State → Type 0
Onward a S = (s : Stepped) → Comes s S → Comes s (final_state 3 (matrix_of (in_nine a)) blank)

-- the item's steps end in the triangle t and these pairs, without a mark
abbrev pub Ends : List Float → Triangle → ℕ → ℕ → ℕ → ℕ → ℕ → Type 0
Ends a t index0 size0 index1 size1 size2 = Comes (ending_in t index0 size0 index1 size1 size2) (final_state 3 (matrix_of (in_nine a)) blank)
