-- What the program says beside its response, of the bytes that it reads: the first pair of twin rows of the sheet, or nothing.
use Rattle.std.specs.Prelude.{◌≡◌, List, [], ℕ, ◌≤◌, length, take, Ok, None, Some}
use Rattle.twins.specs.First.{FirstTwin}
use Rattle.sheet_text.specs.Sheet.{sheet_of, IsSheet, FirstWrong}
use Rattle.sheet_page.specs.Page.{twin_line}
use Rattle.sheet_page.specs.Put.{Put}
use Rattle.sheet.specs.Respond.{numbers_of}

pub data Warning (s text : List ℕ) : Type 0 where
  names_twins : (n : ℕ) (bits : List ℕ) (p q : ℕ) → IsSheet n bits → s ≡ sheet_of n bits → FirstTwin (numbers_of n bits) n n (Ok (Some (record { first = p; second = q }))) → text ≡ twin_line p q → Warning s text
  no_twins : (n : ℕ) (bits : List ℕ) → IsSheet n bits → s ≡ sheet_of n bits → FirstTwin (numbers_of n bits) n n (Ok None) → text ≡ [] → Warning s text
  no_sheet : (line : ℕ) → FirstWrong s line → text ≡ [] → Warning s text

-- the warning of s stands at the start of the lent bytes, as far as they have room
pub record Warns (s o : List ℕ) (r : ℕ) (o' : List ℕ) : Type 0 where
  pub text : List ℕ
  pub warning : Warning s text
  pub put : Put o 0 text r o'
  pub ends : r ≤ length o'
  pub counted : r ≡ length (take r o')
