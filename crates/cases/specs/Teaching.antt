-- The teaching engine, worked: docs/TEACHING.md's matrices by it and by the main engine, and its refusals.
use Rattle.std.specs.Prelude.{List, [], ◌∷◌, ℕ}
use Rattle.cases.specs.Calls.{stray, cholesky_factor, cholesky_teaching, Case, ◌⇒◌}
use Rattle.cases.specs.Bits as bits
use Rattle.cases.specs.Table.{done, refused}

-- [4 / 2 5 / 6 5 14] and its factor [2 / 1 2 / 3 1 2]
abbrev pub whole_numbers : List ℕ
whole_numbers = bits.four ∷ bits.two ∷ bits.six ∷ stray ∷ bits.five ∷ bits.five ∷ stray ∷ stray ∷ bits.fourteen ∷ []

abbrev pub whole_factor : List ℕ
whole_factor = bits.two ∷ bits.one ∷ bits.three ∷ stray ∷ bits.two ∷ bits.one ∷ stray ∷ stray ∷ bits.two ∷ []

-- [4 / 2 3 / 2 3 3], row 2 the twin of row 1; of its diagonal 2^−51 is left, a crumb, and its root stands there
abbrev pub crumbling : List ℕ
crumbling = bits.four ∷ bits.two ∷ bits.two ∷ stray ∷ bits.three ∷ bits.three ∷ stray ∷ stray ∷ bits.three ∷ []

abbrev pub crumb_factor : List ℕ
crumb_factor = bits.two ∷ bits.one ∷ bits.one ∷ stray ∷ 0x3ff6_a09e_667f_3bcd ∷ 0x3ff6_a09e_667f_3bcc ∷ stray ∷ stray ∷ 0x3e56_a09e_667f_3bcd ∷ []

-- [4 / 2 5 / 2 5 5 / 6 5 5 14], row 2 the twin of row 1; of its diagonal zero is left
abbrev pub twin_between : List ℕ
twin_between = bits.four ∷ bits.two ∷ bits.two ∷ bits.six ∷ stray ∷ bits.five ∷ bits.five ∷ bits.five ∷ stray ∷ stray ∷ bits.five ∷ bits.five ∷ stray ∷ stray ∷ stray ∷ bits.fourteen ∷ []

-- rows 0 to 2 worked on, row 3 as given
abbrev pub refused_by_rows : List ℕ
refused_by_rows = bits.two ∷ bits.one ∷ bits.one ∷ bits.six ∷ stray ∷ bits.two ∷ bits.two ∷ bits.five ∷ stray ∷ stray ∷ bits.zero ∷ bits.five ∷ stray ∷ stray ∷ stray ∷ bits.fourteen ∷ []

-- columns 0 to 2 worked on, in row 3 too
abbrev pub refused_by_columns : List ℕ
refused_by_columns = bits.two ∷ bits.one ∷ bits.one ∷ bits.three ∷ stray ∷ bits.two ∷ bits.two ∷ bits.one ∷ stray ∷ stray ∷ bits.zero ∷ bits.zero ∷ stray ∷ stray ∷ stray ∷ bits.fourteen ∷ []

abbrev pub teaching_table : List Case
teaching_table =
    -- accepted: the main engine's bits
    (cholesky_teaching 3 3 whole_numbers ⇒ done ∷ whole_factor ∷ [])
    ∷ (cholesky_factor 3 3 whole_numbers ⇒ done ∷ whole_factor ∷ [])
    ∷ (cholesky_teaching 3 3 crumbling ⇒ done ∷ crumb_factor ∷ [])
    ∷ (cholesky_factor 3 3 crumbling ⇒ done ∷ crumb_factor ∷ [])
    -- refused: the same code and row, the same rows up to it
    ∷ (cholesky_teaching 4 4 twin_between ⇒ refused 7 2 ∷ refused_by_rows ∷ [])
    ∷ (cholesky_factor 4 4 twin_between ⇒ refused 7 2 ∷ refused_by_columns ∷ [])
    -- the first two rows in a room of 3
    ∷ (cholesky_teaching 3 2 whole_numbers ⇒ done ∷ (bits.two ∷ bits.one ∷ bits.six ∷ stray ∷ bits.two ∷ bits.five ∷ stray ∷ stray ∷ bits.fourteen ∷ []) ∷ [])
    -- [1 / 2 1]: code 10 at 1, −3 on its diagonal. [NaN / 1 1]: code 11 at 0, row 1 as given
    ∷ (cholesky_teaching 2 2 (bits.one ∷ bits.two ∷ stray ∷ bits.one ∷ []) ⇒ refused 10 1 ∷ (bits.one ∷ bits.two ∷ stray ∷ bits.minus_three ∷ []) ∷ [])
    ∷ (cholesky_teaching 2 2 (bits.nan ∷ bits.one ∷ stray ∷ bits.one ∷ []) ⇒ refused 11 0 ∷ (bits.nan ∷ bits.one ∷ stray ∷ bits.one ∷ []) ∷ [])
    -- the refusals by size in their order, each with the later faults too: order 65, room 1,025; order above room; length. Order 0 is done
    ∷ (cholesky_teaching 64 65 [] ⇒ refused 1 0 ∷ [] ∷ [])
    ∷ (cholesky_teaching 1025 64 [] ⇒ refused 1 0 ∷ [] ∷ [])
    ∷ (cholesky_teaching 63 64 [] ⇒ refused 2 0 ∷ [] ∷ [])
    ∷ (cholesky_teaching 64 64 [] ⇒ refused 3 0 ∷ [] ∷ [])
    ∷ (cholesky_teaching 0 0 [] ⇒ done ∷ [] ∷ [])
    ∷ []
