-- The text of a sheet, its first wrong line, and what the reader promises.
use Rattle.std.specs.Prelude.{◌≡◌, List, [], ◌∷◌, ◌++◌, ℕ, ◌-◌, ◌^◌, ◌<◌, ◌≤◌, Float, length, get_or, take, set, Result, Ok, Err}
use Rattle.std.specs.Float.{binary64}
use Rattle.std.specs.Float.Ieee.{of_bits}
use Rattle.answer.specs.declared.Refusal.{Refusal}
use Rattle.answer.specs.declared.Refusal.TheVariants.{BadLine}
use Rattle.sheet_text.specs.declared.place.Place.{Place}
use Rattle.sheet_text.specs.Text.{bytes, number_line, entry_line}
use Rattle.sheet_text.specs.Place.{places, cell}

-- the entry lines of these places, with these bits
unfoldable pub entry_lines : List Place → List ℕ → List (List ℕ)
entry_lines [] bits = []
entry_lines (p ∷ ps) [] = []
entry_lines (p ∷ ps) (b ∷ bits) = entry_line p.row p.column b ∷ entry_lines ps bits

unfoldable pub sheet_lines : ℕ → List ℕ → List (List ℕ)
sheet_lines n bits =
    number_line (bytes "order\t") n
    ∷ (entry_lines (places n) bits ++ (number_line (bytes "end\t") (length (entry_lines (places n) bits)) ∷ []))

unfoldable pub join : List (List ℕ) → List ℕ
join [] = []
join (line ∷ lines) = line ++ join lines

-- the one text of the sheet of order n whose entries, column by column, have these bits
unfoldable pub sheet_of : ℕ → List ℕ → List ℕ
sheet_of n bits = join (sheet_lines n bits)

-- order 1 to 64, and 64 bits for each place
pub record IsSheet (n : ℕ) (bits : List ℕ) : Type 0 where
  pub least : 1 ≤ n
  pub most : n ≤ 64
  pub each : length bits ≡ length (places n)
  pub wide : (k : ℕ) → get_or bits k 0 < 2 ^ 64

-- the text begins with the first k lines of this sheet
pub record BeginsAs (n : ℕ) (bits : List ℕ) (k : ℕ) (s : List ℕ) : Type 0 where
  pub sheet : IsSheet n bits
  pub has : k ≤ length (sheet_lines n bits)
  pub rest : List ℕ
  pub same : s ≡ join (take k (sheet_lines n bits)) ++ rest

-- the text begins with the first k lines of some sheet
pub record Begins (k : ℕ) (s : List ℕ) : Type 0 where
  pub order : ℕ
  pub bits : List ℕ
  pub begins : BeginsAs order bits k s

-- the number of leading lines that some sheet also begins with, plus 1
pub record FirstWrong (s : List ℕ) (line : ℕ) : Type 0 where
  pub no_sheet : (n : ℕ) (bits : List ℕ) → IsSheet n bits → s ≡ sheet_of n bits → ⊥
  pub before : Begins (line - 1) s
  pub here : Begins line s → ⊥

-- entry (i, j) at i + j * n, for these places; the rest as given
unfoldable pub stored : ℕ → List Place → List ℕ → List Float → List Float
stored n [] bits a = a
stored n (p ∷ ps) [] a = a
stored n (p ∷ ps) (b ∷ bits) a = stored n ps bits (set a (cell n p) (of_bits binary64 b))

-- what the reader answers: the order, or the first wrong line
abbrev pub Sheet : Type 0
Sheet = Result ℕ Refusal

abbrev pub right_at : ℕ → Sheet
right_at n = Ok n

abbrev pub wrong_at : ℕ → Sheet
wrong_at line = Err (BadLine line)

-- a sheet is accepted and its entries are stored; of any other text the first wrong line is named, and the entries before it are stored
pub data Reads (s : List ℕ) (a : List Float) (r : Sheet) (a' : List Float) : Type 0 where
  right : (n : ℕ) (bits : List ℕ) → IsSheet n bits → s ≡ sheet_of n bits → r ≡ right_at n → a' ≡ stored n (places n) bits a → Reads s a r a'
  wrong : (line n : ℕ) (bits : List ℕ) → FirstWrong s line → r ≡ wrong_at line → BeginsAs n bits (line - 1) s → a' ≡ stored n (places n) (take (line - 2) bits) a → Reads s a r a'
