-- An entry line, part by part: what is found of it once the next part is, or is not.
use mathlib.Core.Path.{◌≡◌}
use mathlib.Core.Bool.{true, false}
use mathlib.Core.List.{List, ◌∷◌}
use Prim.Native.Nat.{ℕ, ◌+◌}
use borrow.Author.Tests.{eq-eqb, ne_eqb}
use lib.Ieee.{Float, binary64, of_bits}
use lib.ListN.{drop, set}
use lib.Seq.{drop-drop}
use Rattle.sheet_text.specs.Text.{bytes, tab}
use Rattle.sheet_text.specs.declared.line.Entry.{Entry}
use Rattle.sheet_text.specs.inner.Parse.{found, missing, starts_with, number, bits, after_column, after_row, any_entry}
use Rattle.sheet_text.specs.declared.place.Place.{Place}
use Rattle.sheet_text.specs.Place.{cell}
use Rattle.sheet_text.specs.inner.Read.{entry_at, taken, take_entries}

pub column_bits : (row column b : ℕ) (t rest : List ℕ) → bits t ≡ found b rest → after_column row column t ≡ found (record { row = row; column = column; bits = b }) rest
unfolding after_column
column_bits row column b t rest e = rw e

pub column_no_bits : (row column : ℕ) (t : List ℕ) → bits t ≡ missing → after_column row column t ≡ missing
unfolding after_column
column_no_bits row column t e = rw e

pub row_column : (row column : ℕ) (t rest : List ℕ) → number tab t ≡ found column rest → after_row row t ≡ after_column row column rest
unfolding after_row
row_column row column t rest e = rw e

pub row_no_column : (row : ℕ) (t : List ℕ) → number tab t ≡ missing → after_row row t ≡ missing
unfolding after_row
row_no_column row t e = rw e

module _ (s : List ℕ) (at : ℕ) where
  pub entry_row : (row : ℕ) (rest : List ℕ) → starts_with (bytes "entry\t") (drop at s) ≡ true → number tab (drop (at + 6) s) ≡ found row rest → any_entry (drop at s) ≡ after_row row rest
  unfolding any_entry
  entry_row row rest w e = rw (w, drop-drop 6 at s, e)

  pub entry_no_row : starts_with (bytes "entry\t") (drop at s) ≡ true → number tab (drop (at + 6) s) ≡ missing → any_entry (drop at s) ≡ missing
  unfolding any_entry
  entry_no_row w e = rw (w, drop-drop 6 at s, e)

  pub entry_no_word : starts_with (bytes "entry\t") (drop at s) ≡ false → any_entry (drop at s) ≡ missing
  unfolding any_entry
  entry_no_word w = rw w

-- ---- the entry line of one place
module _ (p : Place) (t : List ℕ) where
  pub place_missing : any_entry t ≡ missing → entry_at p t ≡ missing
  unfolding entry_at
  place_missing e = rw e

  module _ (x : Entry) (rest : List ℕ) (e : any_entry t ≡ found x rest) where
    pub other_row : (x.row ≡ p.row → ⊥) → entry_at p t ≡ missing
    unfolding entry_at
    other_row n = rw (e, ne_eqb x.row p.row n)

    pub other_column : x.row ≡ p.row → (x.column ≡ p.column → ⊥) → entry_at p t ≡ missing
    unfolding entry_at
    other_column r n = rw (e, eq-eqb x.row p.row r, ne_eqb x.column p.column n)

    pub in_place_law : x.row ≡ p.row → x.column ≡ p.column → entry_at p t ≡ found x.bits rest
    unfolding entry_at
    in_place_law r c = rw (e, eq-eqb x.row p.row r, eq-eqb x.column p.column c)

-- ---- entry after entry
module _ (n : ℕ) (p : Place) (ps : List Place) (t : List ℕ) (c : ℕ) (a : List Float) where
  pub entries_stop : entry_at p t ≡ missing → take_entries n (p ∷ ps) t c a ≡ taken false c t a
  unfolding take_entries
  entries_stop e = rw (take_entries, e)

  pub entries_more : (b : ℕ) (rest : List ℕ) → entry_at p t ≡ found b rest → take_entries n (p ∷ ps) t c a ≡ take_entries n ps rest (c + 1) (set a (cell n p) (of_bits binary64 b))
  unfolding take_entries
  entries_more b rest e = rw (take_entries, e)
