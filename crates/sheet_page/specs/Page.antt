-- The page that is written: of a factored matrix, or of a refusal; and the line that names twin rows.
use Rattle.std.specs.Prelude.{cond, List, [], ◌∷◌, ◌++◌, map, ℕ, zero, suc, ◌+◌, ◌-◌, ◌*◌, eqb, Float, length, get_or}
use Rattle.std.specs.Float.{nan, binary64}
use Rattle.std.specs.Float.Ieee.{to_bits}
use Rattle.answer.specs.Answer.{Answer}
use Rattle.answer.specs.Number.{code_of, place_of}
use Rattle.pivots.specs.Words.{index_at, size_at, mark_at}
use Rattle.sheet_text.specs.declared.place.Place.{Place}
use Rattle.sheet_text.specs.Text.{bytes, tab, lf, field, bits_field, number_line}
use Rattle.sheet_text.specs.Place.{places}
use Rattle.sheet_text.specs.Sheet.{entry_lines, join}

unfoldable pub pivot_line : ℕ → ℕ → ℕ → List ℕ
pivot_line row index size = bytes "pivot\t" ++ (field row tab ++ (field index tab ++ field size lf))

-- m pivot lines from this row on
unfoldable pub pivot_lines : List ℕ → ℕ → ℕ → List (List ℕ)
pivot_lines words row zero = []
pivot_lines words row (suc m) = pivot_line row (index_at words row) (size_at words row) ∷ pivot_lines words (suc row) m

-- a mark is 0, or the marked row + 1
unfoldable pub zero_line : ℕ → List ℕ
zero_line mark = cond (eqb mark 0) (bytes "zero\tnone\n") (number_line (bytes "zero\t") (mark - 1))

-- the matrix of n columns of n numbers: the row, then the column
abbrev pub matrix_in : ℕ → List Float → ℕ → ℕ → Float
matrix_in n a i j = get_or a (i + j * n) nan

-- the bits of the entry at a place; all NaNs have one pattern
abbrev pub bits_at : (ℕ → ℕ → Float) → Place → ℕ
bits_at M p = to_bits binary64 (M p.row p.column)

-- the bits of the lower triangle of order n, column by column
unfoldable pub lower_bits : ℕ → (ℕ → ℕ → Float) → List ℕ
lower_bits n M = map (bits_at M) (places n)

unfoldable pub det_line : Float → List ℕ
det_line x = bytes "det\t" ++ bits_field (to_bits binary64 x)

unfoldable pub page_lines : ℕ → List ℕ → (ℕ → ℕ → Float) → Float → List (List ℕ)
page_lines n words M det =
    let pivots = pivot_lines words 0 n in
    let entries = entry_lines (places n) (lower_bits n M) in
    number_line (bytes "order\t") n
    ∷ (pivots ++ (zero_line (mark_at n words)
    ∷ (entries ++ (det_line det ∷ (number_line (bytes "end\t") (length pivots + length entries) ∷ [])))))

-- words: the pivot record; M: the factor
unfoldable pub page_of : ℕ → List ℕ → (ℕ → ℕ → Float) → Float → List ℕ
page_of n words M det = join (page_lines n words M det)

unfoldable pub refusal_of : Answer → List ℕ
refusal_of r = bytes "refused\t" ++ (field (code_of r) tab ++ field (place_of r) lf)

-- rows p and q are twins
unfoldable pub twin_line : ℕ → ℕ → List ℕ
twin_line p q = bytes "twin\t" ++ (field p tab ++ field q lf)
