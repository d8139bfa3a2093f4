-- Reading at the start of a text: what is found there and the text that is left, or nothing.
use Rattle.std.specs.Prelude.{ℕ, zero, suc, ◌+◌, ◌*◌, Bool, true, false, cond, ◌&&◌, List, [], ◌∷◌, eqb, ltb, length, drop}
use Rattle.sheet_text.specs.Text.{bytes, tab, lf}
use Rattle.sheet_text.specs.inner.Digit.{digit_of}
use Rattle.sheet_text.specs.declared.line.Entry.{Entry}

pub data Parse (A : Type 0) : Type 0 where
  found : A → List ℕ → Parse A
  missing : Parse A

-- the text begins with the word
unfoldable pub starts_with : List ℕ → List ℕ → Bool
starts_with [] t = true
starts_with (x ∷ w) [] = false
starts_with (x ∷ w) (y ∷ t) = eqb x y && starts_with w t

-- the digits after the first, up to the byte that ends the number; v is the number so far
unfoldable pub later_digits : ℕ → ℕ → List ℕ → Parse ℕ
later_digits stop v [] = missing
later_digits stop v (b ∷ t) =
    let more = later_digits stop (v * 10 + digit_of b) t in
    cond (eqb b stop) (found v t)
    (cond (eqb v 0) missing (cond (ltb 999 v) missing (cond (ltb 9 (digit_of b)) missing more)))

-- a decimal number below 10,000 with no leading zero, ended by the byte `stop`
unfoldable pub number : ℕ → List ℕ → Parse ℕ
number stop [] = missing
number stop (b ∷ t) = cond (ltb 9 (digit_of b)) missing (later_digits stop (digit_of b) t)

unfoldable pub line_end : ℕ → List ℕ → Parse ℕ
line_end v [] = missing
line_end v (b ∷ t) = cond (eqb b lf) (found v t) missing

-- k more hexadecimal digits and the line's end; v is the number so far
unfoldable pub hex_digits : ℕ → ℕ → List ℕ → Parse ℕ
hex_digits zero v t = line_end v t
hex_digits (suc k) v [] = missing
hex_digits (suc k) v (b ∷ t) =
    let more = hex_digits k (v * 16 + digit_of b) t in
    cond (ltb 15 (digit_of b)) missing more

unfoldable pub bits : List ℕ → Parse ℕ
bits t = hex_digits 16 0 t

-- a word, a number, the line's end
unfoldable pub number_after : List ℕ → List ℕ → Parse ℕ
number_after w t = cond (starts_with w t) (number lf (drop (length w) t)) missing

-- one reading after another
abbrev pub and_then : {A B : Type 0} → Parse A → (A → List ℕ → Parse B) → Parse B
and_then (found v rest) more = more v rest
and_then missing more = missing

-- an entry line, part by part
abbrev pub whole_entry : ℕ → ℕ → ℕ → List ℕ → Parse Entry
whole_entry row column b rest = found (record { row = row; column = column; bits = b }) rest

unfoldable pub after_column : ℕ → ℕ → List ℕ → Parse Entry
after_column row column t = and_then (bits t) (whole_entry row column)

unfoldable pub after_row : ℕ → List ℕ → Parse Entry
after_row row t = and_then (number tab t) (after_column row)

unfoldable pub any_entry : List ℕ → Parse Entry
any_entry t = cond (starts_with (bytes "entry\t") t) (and_then (number tab (drop 6 t)) after_row) missing
