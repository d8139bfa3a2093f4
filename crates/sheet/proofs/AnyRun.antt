-- The page does not show the run number: with any other it would be the same, byte for byte. Assumes nothing.
use mathlib.Core.List.{List, ◌∷◌}
use mathlib.Core.Path.{◌≡◌, refl, ap, ◌∙◌}
use Prim.Native.Nat.{ℕ, zero, suc, ◌+◌, ◌≤◌}
use native.Mathlib.Omega.{arith}
use lib.Ieee.{Float}
use Rattle.matrix.specs.Matrix.{Matrix}
use Rattle.pivots.specs.Words.{index_word, size_word, mark_word, index_at, size_at, mark_at}
use Rattle.pivots.proofs.SamePairs.{SamePairs}
use Rattle.lblt.specs.Factor.{final_state, recorded}
use Rattle.lblt.proofs.Runs.{recorded_apart}
use Rattle.lblt_read.specs.Diagonal.{determinant_of}
use Rattle.lblt_read.proofs.PairsAlone.{determinant_alike}
use Rattle.sheet_page.specs.Page.{pivot_line, pivot_lines, page_lines, page_of}
use Rattle.sheet.specs.Respond.{sheet_run, page_from}

lines_alike : {n : ℕ} {words words' : List ℕ} → SamePairs n words words' → (row m : ℕ) → row + m ≤ n → pivot_lines words row m ≡ pivot_lines words' row m
unfolding pivot_lines
lines_alike same row zero within = refl
lines_alike {n} {words} {words'} same row (suc m) within =
    ap (λ (index : ℕ). pivot_line row index (size_at words row) ∷ pivot_lines words (suc row) m) (same.index row (omega arith))
    ∙ ap (λ (size : ℕ). pivot_line row (index_at words' row) size ∷ pivot_lines words (suc row) m) (same.size row (omega arith))
    ∙ ap (λ (lines : List (List ℕ)). pivot_line row (index_at words' row) (size_at words' row) ∷ lines) (lines_alike same (suc row) m (omega arith))

page_alike : {n : ℕ} {words words' : List ℕ} → SamePairs n words words' → mark_at n words ≡ mark_at n words' → (M : Matrix) (det : Float) → page_of n words M det ≡ page_of n words' M det
unfolding page_of page_lines
page_alike {n} same mark M det = rw (lines_alike same 0 n (omega arith), mark)

pub any_run : (n run : ℕ) (M : Matrix) (words : List ℕ)
    → page_of n (recorded n run M words) (final_state n M words).matrix (determinant_of n (final_state n M words).matrix (recorded n run M words)) ≡ page_from n M words
unfolding page_from
any_run n run M words =
    let apart = recorded_apart n run sheet_run M words in
    let pairs : SamePairs n (recorded n run M words) (recorded n sheet_run M words) = record {
      index = λ row below. apart.elsewhere (index_word row) (λ e. omega arith);
      size = λ row below. apart.elsewhere (size_word row) (λ e. omega arith);
    } in
    let factor : Matrix = (final_state n M words).matrix in
    ap (page_of n (recorded n run M words) factor) (determinant_alike pairs factor)
    ∙ page_alike pairs (apart.elsewhere (mark_word n) (λ e. omega arith)) factor (determinant_of n factor (recorded n sheet_run M words))
