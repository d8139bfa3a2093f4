-- The page as one text, in the order in which it is written.
use mathlib.Core.Path.{◌≡◌, refl, sym, ap, ◌∙◌}
use mathlib.Core.List.{List, ◌++◌, append-nil}
use Prim.Native.Nat.{ℕ, zero, suc, ◌+◌}
use native.Mathlib.Omega.{arith}
use lib.Ieee.{Float}
use lib.ListN.{length, length-map}
use Rattle.pivots.specs.Words.{mark_at}
use Rattle.sheet_text.specs.Text.{bytes, number_line}
use Rattle.sheet_text.specs.Place.{places}
use Rattle.sheet_text.specs.Sheet.{entry_lines, join}
use Rattle.sheet_text.proofs.SheetLaws.{entry_count, join_both}
use Rattle.sheet_page.specs.Page.{pivot_lines, zero_line, bits_at, lower_bits, det_line, page_lines, page_of}

pub length_pivots : (words : List ℕ) (row n : ℕ) → length (pivot_lines words row n) ≡ n
unfolding pivot_lines
length_pivots words row zero = refl
length_pivots words row (suc n) = ap suc (length_pivots words (suc row) n)

pub length_bits : (n : ℕ) (M : ℕ → ℕ → Float) → length (lower_bits n M) ≡ length (places n)
unfolding lower_bits
length_bits n M = length-map (places n) (bits_at M)

length_entries : (n : ℕ) (M : ℕ → ℕ → Float) → length (entry_lines (places n) (lower_bits n M)) ≡ length (places n)
length_entries n M =
    let all = length_bits n M in
    entry_count (places n) (lower_bits n M) (omega arith) ∙ all

abbrev pub end_line : ℕ → List ℕ
end_line count = number_line (bytes "end\t") count

module _ (n : ℕ) (words : List ℕ) (M : ℕ → ℕ → Float) (det : Float) where
  lines : page_of n words M det
      ≡ number_line (bytes "order\t") n ++ (join (pivot_lines words 0 n) ++ (zero_line (mark_at n words) ++ (join (entry_lines (places n) (lower_bits n M))
      ++ (det_line det ++ end_line (length (pivot_lines words 0 n) + length (entry_lines (places n) (lower_bits n M)))))))
  unfolding page_of page_lines join
  lines = simp (join_both, append-nil)

  -- with the number of its pivot and entry lines
  pub page_text : (count : ℕ) → count ≡ n + length (places n)
      → number_line (bytes "order\t") n ++ (join (pivot_lines words 0 n) ++ (zero_line (mark_at n words) ++ (join (entry_lines (places n) (lower_bits n M)) ++ (det_line det ++ end_line count))))
      ≡ page_of n words M det
  page_text count e =
      let rows = length_pivots words 0 n in
      let cells = length_entries n M in
      let same : count ≡ length (pivot_lines words 0 n) + length (entry_lines (places n) (lower_bits n M)) = omega arith in
      ap (λ (c : ℕ). number_line (bytes "order\t") n ++ (join (pivot_lines words 0 n) ++ (zero_line (mark_at n words) ++ (join (entry_lines (places n) (lower_bits n M)) ++ (det_line det ++ end_line c))))) same
      ∙ sym lines
