-- Reading a sheet line by line, as far as its lines are right.
use Rattle.std.specs.Prelude.{◌≡◌, ℕ, ◌+◌, Bool, true, false, cond, List, [], ◌∷◌, eqb, ltb, drop, set, Float, Result, Ok, Err}
use Rattle.std.specs.Float.{binary64}
use Rattle.std.specs.Float.Ieee.{of_bits}
use Rattle.answer.specs.declared.Refusal.{Refusal}
use Rattle.answer.specs.declared.Refusal.TheVariants.{BadLine}
use Rattle.sheet_text.specs.declared.line.Entry.{Entry}
use Rattle.sheet_text.specs.declared.place.Place.{Place}
use Rattle.sheet_text.specs.declared.line.Found.{Found}
use Rattle.sheet_text.specs.Text.{bytes}
use Rattle.sheet_text.specs.Sheet.{Sheet, right_at, wrong_at}
use Rattle.sheet_text.specs.inner.Parse.{Parse, found, missing, and_then, any_entry, number_after}
use Rattle.sheet_text.specs.Place.{cell, places}

-- an entry that stands where it should
abbrev pub in_place : Place → Entry → List ℕ → Parse ℕ
in_place p e rest = cond (eqb e.row p.row) (cond (eqb e.column p.column) (found e.bits rest) missing) missing

unfoldable pub entry_at : Place → List ℕ → Parse ℕ
entry_at p t = and_then (any_entry t) (in_place p)

-- how far the reading went: all places or not, the number of entries, the text that is left, the numbers stored
pub record Taken : Type 0 where
  pub whole : Bool
  pub count : ℕ
  pub left : List ℕ
  pub cells : List Float

abbrev pub taken : Bool → ℕ → List ℕ → List Float → Taken
taken w c t a = record { whole = w; count = c; left = t; cells = a }

unfoldable pub take_entries : ℕ → List Place → List ℕ → ℕ → List Float → Taken
take_entries n [] t c a = taken true c t a
take_entries n (p ∷ ps) t c a =
    elim (entry_at p t) [
      | found b rest ↦ take_entries n ps rest (c + 1) (set a (cell n p) (of_bits binary64 b))
      | missing ↦ taken false c t a
    ]

-- what the code answers of such a reading of s: the number of entries and where the text that is left begins, or the first wrong line
abbrev pub Reached : List ℕ → Result (Found ℕ) Refusal → List Float → Taken → Type 0
Reached s (Ok e) a k = taken true e.value (drop e.next s) a ≡ k
Reached s (Err r) a k = (k.whole ≡ false) × (r ≡ BadLine (k.count + 2)) × (a ≡ k.cells)

-- ---- what the reader answers

abbrev pub when_found : {A : Type 0} → Parse ℕ → (ℕ → List ℕ → A) → A → A
when_found (found v rest) f other = f v rest
when_found missing f other = other

abbrev pub at_the_end : ℕ → ℕ → List ℕ → Sheet
at_the_end n count [] = right_at n
at_the_end n count (b ∷ t) = wrong_at (count + 3)

-- the last line's number is the count, and nothing follows
unfoldable pub closed : ℕ → ℕ → ℕ → List ℕ → Sheet
closed n count v t = cond (eqb v count) (at_the_end n count t) (wrong_at (count + 2))

-- from the entries on: the line after the last right entry is `end`, or is wrong
unfoldable pub verdict : ℕ → Bool → ℕ → List ℕ → Sheet
verdict n whole count t =
    cond whole (when_found (number_after (bytes "end\t") t) (closed n count) (wrong_at (count + 2))) (wrong_at (count + 2))

-- the answer, and the numbers stored
pub record Reading : Type 0 where
  pub sheet : Sheet
  pub cells : List Float

abbrev pub reading : Sheet → List Float → Reading
reading r a = record { sheet = r; cells = a }

unfoldable pub after_entries : ℕ → Taken → Reading
after_entries n k = reading (verdict n k.whole k.count k.left) k.cells

unfoldable pub after_order : List Float → ℕ → List ℕ → Reading
after_order a n t =
    cond (eqb n 0) (reading (wrong_at 1) a)
    (cond (ltb 64 n) (reading (wrong_at 1) a) (after_entries n (take_entries n (places n) t 0 a)))

unfoldable pub read_of : List ℕ → List Float → Reading
read_of s a = when_found (number_after (bytes "order\t") s) (after_order a) (reading (wrong_at 1) a)
