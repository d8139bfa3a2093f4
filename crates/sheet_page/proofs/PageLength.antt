-- How long a page, a refusal and a line of twins are.
use mathlib.Core.Path.{◌≡◌, refl, ap}
use mathlib.Core.List.{List, ◌++◌}
use mathlib.Core.Logic.{◌⊎◌, inl, inr}
use Prim.Native.Nat.{ℕ, zero, suc, ◌+◌, ◌*◌, ◌-◌, ◌<◌, ◌≤◌}
use native.Mathlib.Omega.{arith}
use borrow.Author.Tests.{eq-eqb, ne_eqb}
use lib.Ieee.{Float, binary64, to_bits}
use lib.ListN.{length, length-append}
use Rattle.answer.proofs.Tests.{eq_or_ne}
use Rattle.answer.specs.Answer.{Answer}
use Rattle.answer.specs.Number.{code_of, place_of}
use Rattle.pivots.specs.Words.{index_at, size_at, mark_at}
use Rattle.sheet_text.specs.Text.{bytes, tab, lf, field, number_line}
use Rattle.sheet_text.specs.Place.{places}
use Rattle.sheet_text.specs.Sheet.{entry_lines, join}
use Rattle.sheet_text.proofs.Lengths.{short_field, long_field, bits_length, line_length, few_places, entry_lines_length}
use Rattle.sheet_page.specs.Page.{pivot_line, pivot_lines, zero_line, lower_bits, det_line, page_of, refusal_of, twin_line}
use Rattle.sheet_page.proofs.PageText.{end_line, page_text}

-- the words of a row have at most two digits
pub record ShortRow (words : List ℕ) (row : ℕ) : Type 0 where
  pub index : index_at words row < 100
  pub size : size_at words row < 100

pivot_length : (row index size : ℕ) → row < 100 → index < 100 → size < 100 → length (pivot_line row index size) ≤ 15
unfolding pivot_line
pivot_length row index size h k l =
    let first = short_field row tab h in
    let second = short_field index tab k in
    let third = short_field size lf l in
    let last = length-append (field index tab) (field size lf) in
    let rest = length-append (field row tab) (field index tab ++ field size lf) in
    omega arith

pivots_length : (words : List ℕ) (row m : ℕ) → row + m ≤ 64 → ((r : ℕ) → r < row + m → ShortRow words r) → length (join (pivot_lines words row m)) ≤ 15 * m
unfolding pivot_lines join
pivots_length words row zero h short = omega arith
pivots_length words row (suc m) h short =
    let here = short row (omega arith) in
    let line = pivot_length row (index_at words row) (size_at words row) (omega arith) here.index here.size in
    let more = pivots_length words (suc row) m (omega arith) (λ r k. short r (omega arith)) in
    let whole = length-append (pivot_line row (index_at words row) (size_at words row)) (join (pivot_lines words (suc row) m)) in
    omega arith

zero_length : (mark : ℕ) → mark ≤ 64 → length (zero_line mark) ≤ 10
unfolding zero_line
zero_length mark h = go (eq_or_ne mark 0)
  where
    go : (mark ≡ 0) ⊎ (mark ≡ 0 → ⊥) → length (zero_line mark) ≤ 10
    go (inl e) = rw (eq-eqb mark 0 e) (omega arith)
    go (inr n) = rw (ne_eqb mark 0 n) (omega (arith, line_length (bytes "zero\t") (mark - 1), short_field (mark - 1) lf (omega arith)))

det_length : (x : Float) → length (det_line x) ≡ 21
unfolding det_line
det_length x = omega (arith, bits_length (to_bits binary64 x))

pub page_length : (n : ℕ) (words : List ℕ) (M : ℕ → ℕ → Float) (det : Float) → n ≤ 64 → ((r : ℕ) → r < n → ShortRow words r) → mark_at n words ≤ 64
    → length (page_of n words M det) ≤ 65536
page_length n words M det small rows mark =
    let count = n + length (places n) in
    let pivots = join (pivot_lines words 0 n) in
    let zeros = zero_line (mark_at n words) in
    let entries = join (entry_lines (places n) (lower_bits n M)) in
    let few = few_places n small in
    let l₁ = line_length (bytes "order\t") n in
    let f₁ = short_field n lf (omega arith) in
    let l₂ = pivots_length words 0 n (omega arith) (λ r k. rows r (omega arith)) in
    let l₃ = zero_length (mark_at n words) mark in
    let l₄ = entry_lines_length n (lower_bits n M) small in
    let l₅ = det_length det in
    let l₆ = line_length (bytes "end\t") count in
    let f₆ = long_field count lf (omega arith) in
    let s₅ = length-append (det_line det) (end_line count) in
    let s₄ = length-append entries (det_line det ++ end_line count) in
    let s₃ = length-append zeros (entries ++ (det_line det ++ end_line count)) in
    let s₂ = length-append pivots (zeros ++ (entries ++ (det_line det ++ end_line count))) in
    let s₁ = length-append (number_line (bytes "order\t") n) (pivots ++ (zeros ++ (entries ++ (det_line det ++ end_line count)))) in
    omega (arith, ap length (page_text n words M det count refl))

pub refusal_length : (r : Answer) → code_of r < 100 → place_of r < 10000 → length (refusal_of r) ≤ 65536
unfolding refusal_of
refusal_length r h k =
    let code = short_field (code_of r) tab h in
    let place = long_field (place_of r) lf k in
    let both = length-append (field (code_of r) tab) (field (place_of r) lf) in
    omega arith

pub twin_length : (p q : ℕ) → p < 100 → q < 100 → length (twin_line p q) ≤ 11
unfolding twin_line
twin_length p q h k =
    let first = short_field p tab h in
    let second = short_field q lf k in
    let both = length-append (field p tab) (field q lf) in
    omega arith
