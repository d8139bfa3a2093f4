-- What the code answers of a reading in the text s: what is found, and where in s the text that is left begins.
use Rattle.std.specs.Prelude.{ℕ, ◌-◌, List, length, Option, Some, None}
use Rattle.sheet_text.specs.declared.line.Found.{Found}
use Rattle.sheet_text.specs.inner.Parse.{Parse, found, missing}

-- the text that is left is the end of s
abbrev pub rest_at : List ℕ → List ℕ → ℕ
rest_at s rest = length s - length rest

abbrev pub found_in : {A : Type 0} → List ℕ → Parse A → Option (Found A)
found_in s (found v rest) = Some (record { value = v; next = rest_at s rest })
found_in s missing = None
