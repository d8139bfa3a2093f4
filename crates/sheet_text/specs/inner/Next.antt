-- The place after another in the order of the entries, and the places from one on.
use Rattle.std.specs.Prelude.{ℕ, suc, ◌+◌, ◌-◌, cond, ltb, List, ◌++◌}
use Rattle.sheet_text.specs.declared.place.Place.{Place}
use Rattle.sheet_text.specs.Place.{rows, columns}

abbrev pub next_place : ℕ → Place → Place
next_place n p =
    cond (ltb (p.row + 1) n)
    (record { row = p.row + 1; column = p.column })
    (record { row = p.column + 1; column = p.column + 1 })

-- down the column, then the columns after it
unfoldable pub rest_from : ℕ → Place → List Place
rest_from n p = rows (n - p.row) p.row p.column ++ columns (n - suc p.column) (suc p.column)
