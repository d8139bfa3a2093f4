-- How long the lines are, and that every sheet is shorter than 65,536 bytes.
use mathlib.Core.Path.{◌≡◌, refl, ap}
use mathlib.Core.List.{List, [], ◌∷◌, ◌++◌}
use mathlib.Core.Logic.{◌⊎◌, inl, inr}
use Prim.Native.Nat.{ℕ, zero, suc, ◌+◌, ◌*◌, ◌/◌, ◌%◌, ◌<◌, ◌≤◌}
use native.Mathlib.Nat.{suc-mul, mul-suc, mul-le-mul}
use native.Mathlib.Omega.{arith}
use lib.ListN.{length, take, drop, length-append, take-append-drop}
use Rattle.answer.proofs.Tests.{lt_or_ge}
use Rattle.sheet_text.specs.declared.place.Place.{Place}
use Rattle.sheet_text.specs.Text.{bytes, tab, lf, digit, decimal, hex, field, bits_field, number_line, entry_line}
use Rattle.sheet_text.specs.Place.{rows, columns, places}
use Rattle.sheet_text.specs.Sheet.{entry_lines, sheet_lines, join, sheet_of, IsSheet}
use Rattle.sheet_text.proofs.PlaceLaws.{length_rows}
use Rattle.sheet_text.proofs.EachPlace.{Each, each_place}
use Rattle.sheet_text.proofs.NumberLaws.{decimal_one, decimal_more}
use Rattle.sheet_text.proofs.SheetLaws.{entry_count, join_both}

-- ---- numbers
-- one digit more for each factor of ten
one_more : (v k m : ℕ) → v < 10 * m → 1 ≤ k → ((w : ℕ) → w < m → length (decimal w) ≤ k) → length (decimal v) ≤ suc k
one_more v k m h one fewer = go (lt_or_ge v 10)
  where
    go : (v < 10) ⊎ (10 ≤ v) → length (decimal v) ≤ suc k
    go (inl l) = omega (arith, ap length (decimal_one v l))
    go (inr l) =
        let front = fewer (v / 10) (omega arith) in
        let whole = length-append (decimal (v / 10)) (digit (v % 10) ∷ []) in
        omega (arith, ap length (decimal_more v l))

one_digit : (v : ℕ) → v < 10 → length (decimal v) ≤ 1
one_digit v h = omega (arith, ap length (decimal_one v h))

two_digits : (v : ℕ) → v < 100 → length (decimal v) ≤ 2
two_digits v h = one_more v 1 10 h (omega arith) one_digit

three_digits : (v : ℕ) → v < 1000 → length (decimal v) ≤ 3
three_digits v h = one_more v 2 100 h (omega arith) two_digits

four_digits : (v : ℕ) → v < 10000 → length (decimal v) ≤ 4
four_digits v h = one_more v 3 1000 h (omega arith) three_digits

field_length : (v stop : ℕ) → length (field v stop) ≡ length (decimal v) + 1
unfolding field
field_length v stop = length-append (decimal v) (stop ∷ [])

pub short_field : (v stop : ℕ) → v < 100 → length (field v stop) ≤ 3
short_field v stop h = omega (arith, field_length v stop, two_digits v h)

pub long_field : (v stop : ℕ) → v < 10000 → length (field v stop) ≤ 5
long_field v stop h = omega (arith, field_length v stop, four_digits v h)

hex_length : (k b : ℕ) → length (hex k b) ≡ k
unfolding hex
hex_length zero b = refl
hex_length (suc k) b = omega (arith, length-append (hex k (b / 16)) (digit (b % 16) ∷ []), hex_length k (b / 16))

pub bits_length : (b : ℕ) → length (bits_field b) ≡ 17
unfolding bits_field
bits_length b = omega (arith, length-append (hex 16 b) (lf ∷ []), hex_length 16 b)

pub line_length : (w : List ℕ) (v : ℕ) → length (number_line w v) ≡ length w + length (field v lf)
unfolding number_line
line_length w v = length-append w (field v lf)

-- ---- entry lines
pub record Small (p : Place) : Type 0 where
  pub row : p.row < 100
  pub column : p.column < 100

entry_length : (p : Place) (b : ℕ) → Small p → length (entry_line p.row p.column b) ≤ 29
unfolding entry_line
entry_length p b h =
    let first = short_field p.row tab h.row in
    let second = short_field p.column tab h.column in
    let bits = bits_length b in
    let last = length-append (field p.column tab) (bits_field b) in
    let rest = length-append (field p.row tab) (field p.column tab ++ bits_field b) in
    omega arith

entries_length : (ps : List Place) (bits : List ℕ) → Each Small ps → length (join (entry_lines ps bits)) ≤ 29 * length ps
unfolding entry_lines join
entries_length [] bits h = omega arith
entries_length (p ∷ ps) [] h = omega arith
entries_length (p ∷ ps) (b ∷ bits) h =
    let line = entry_length p b h.0 in
    let more = entries_length ps bits h.1 in
    let whole = length-append (entry_line p.row p.column b) (join (entry_lines ps bits)) in
    omega arith

-- ---- the number of places of order m: half of m times m + 1
triangle : (m j : ℕ) → 2 * length (columns m j) ≡ m * suc m
unfolding columns
triangle zero j = refl
triangle (suc m) j =
    let fewer = triangle m (suc j) in
    let first = length_rows (suc m) j j in
    let whole = length-append (rows (suc m) j j) (columns m (suc j)) in
    let wider = mul-suc (suc m) (suc m) in
    let taller = suc-mul m (suc m) in
    omega arith

pub few_places : (n : ℕ) → n ≤ 64 → length (places n) ≤ 2080
unfolding places
few_places n h =
    let wide : suc n ≤ 65 = omega arith in
    let most = mul-le-mul {n₁ = n} {m₁ = suc n} {n₂ = 64} {m₂ = 65} h wide in
    omega (arith, triangle n 0)

pub entry_lines_length : (n : ℕ) (bits : List ℕ) → n ≤ 64 → length (join (entry_lines (places n) bits)) ≤ 60320
entry_lines_length n bits h =
    let count = few_places n h in
    let text = entries_length (places n) bits (each_place Small n (λ r c k l. record { row = omega arith; column = omega arith })) in
    omega arith

-- ---- sheets
pub sheet_length : (n : ℕ) (bits : List ℕ) → IsSheet n bits → length (sheet_of n bits) ≤ 60338
unfolding sheet_of sheet_lines join
sheet_length n bits h =
    let high = h.most in
    let each = h.each in
    let count : length (entry_lines (places n) bits) ≡ length bits = entry_count (places n) bits (omega arith) in
    let few = few_places n high in
    let end = number_line (bytes "end\t") (length (entry_lines (places n) bits)) in
    let order-line = line_length (bytes "order\t") n in
    let order-field = short_field n lf (omega arith) in
    let end_line_law = line_length (bytes "end\t") (length (entry_lines (places n) bits)) in
    let end-field = long_field (length (entry_lines (places n) bits)) lf (omega arith) in
    let entries = entry_lines_length n bits high in
    let last = length-append end [] in
    let parts = ap length (join_both (entry_lines (places n) bits) (end ∷ [])) in
    let rest = length-append (join (entry_lines (places n) bits)) (end ++ []) in
    let whole = length-append (number_line (bytes "order\t") n) (join (entry_lines (places n) bits ++ (end ∷ []))) in
    omega arith

-- fewer lines are no longer
pub lines_length : (k : ℕ) (lines : List (List ℕ)) → length (join (take k lines)) ≤ length (join lines)
lines_length k lines =
    let split = ap (λ (ls : List (List ℕ)). length (join ls)) (take-append-drop k lines) in
    let parts = ap length (join_both (take k lines) (drop k lines)) in
    let whole = length-append (join (take k lines)) (join (drop k lines)) in
    omega arith
