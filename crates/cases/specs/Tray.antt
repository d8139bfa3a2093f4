-- Trays, worked: a marked item between two that are solved, each way in which three rows fall into blocks, order 0, and trays that are refused.
use Rattle.std.specs.Prelude.{List, [], ◌∷◌, ℕ, ◌+◌, ◌*◌, replicate}
use Rattle.cases.specs.Bits as bits
use Rattle.cases.specs.Calls.{stray, lblt_tray, Case, ◌⇒◌}
use Rattle.cases.specs.Table.{done, refused}

-- [4 / 2 3], [1 / 1 1], in which a row came twice, and [0 / 1 4]; above the diagonal stands what is not read
abbrev pub pairs : List ℕ
pairs = bits.four ∷ bits.two ∷ stray ∷ bits.three ∷ bits.one ∷ bits.one ∷ stray ∷ bits.one ∷ bits.zero ∷ bits.one ∷ stray ∷ bits.four ∷ []

abbrev pub pair_sides : List ℕ
pair_sides = bits.eight ∷ bits.eight ∷ bits.three ∷ bits.five ∷ bits.one ∷ bits.five ∷ []

-- [4 / 2 3 / 0 0 2], [0 / 1 0 / 0 0 2], [2 / 0 0 / 0 1 0] and [0 / 3 0 / −3 0 0]
abbrev pub threes : List ℕ
threes =
    bits.four ∷ bits.two ∷ bits.zero ∷ stray ∷ bits.three ∷ bits.zero ∷ stray ∷ stray ∷ bits.two
    ∷ bits.zero ∷ bits.one ∷ bits.zero ∷ stray ∷ bits.zero ∷ bits.zero ∷ stray ∷ stray ∷ bits.two
    ∷ bits.two ∷ bits.zero ∷ bits.zero ∷ stray ∷ bits.zero ∷ bits.one ∷ stray ∷ stray ∷ bits.zero
    ∷ bits.zero ∷ bits.three ∷ bits.minus_three ∷ stray ∷ bits.zero ∷ bits.zero ∷ stray ∷ stray ∷ bits.zero
    ∷ []

abbrev pub three_sides : List ℕ
three_sides =
    bits.eight ∷ bits.eight ∷ bits.two
    ∷ bits.four ∷ bits.five ∷ bits.two
    ∷ bits.four ∷ bits.five ∷ bits.two
    ∷ bits.four ∷ bits.five ∷ bits.two
    ∷ []

abbrev pub tray_table : List Case
tray_table =
    -- the item between is marked at row 1: its side stays, its factor and its record stand, with its own number
    (lblt_tray 2 3 (7 ∷ 8 ∷ 9 ∷ []) pairs pair_sides 0
    ⇒ done ∷ (0 ∷ []) ∷ (0 ∷ 1 ∷ 1 ∷ 1 ∷ 0 ∷ 7 ∷ []) ∷ (bits.four ∷ bits.half ∷ stray ∷ bits.two ∷ []) ∷ (bits.one ∷ bits.two ∷ []) ∷ [])
    ∷ (lblt_tray 2 3 (7 ∷ 8 ∷ 9 ∷ []) pairs pair_sides 1
    ⇒ done ∷ ((6 * 4096 + 1) ∷ []) ∷ (0 ∷ 1 ∷ 1 ∷ 1 ∷ 2 ∷ 8 ∷ []) ∷ (bits.one ∷ bits.one ∷ stray ∷ bits.zero ∷ []) ∷ (bits.three ∷ bits.five ∷ []) ∷ [])
    ∷ (lblt_tray 2 3 (7 ∷ 8 ∷ 9 ∷ []) pairs pair_sides 2
    ⇒ done ∷ (0 ∷ []) ∷ (1 ∷ 1 ∷ 1 ∷ 1 ∷ 0 ∷ 9 ∷ []) ∷ (bits.four ∷ bits.quarter ∷ stray ∷ bits.minus_quarter ∷ []) ∷ (bits.one ∷ bits.one ∷ []) ∷ [])
    -- three blocks of one row; a block of two, then one of one; and the other way round; a mark at row 2
    ∷ (lblt_tray 3 4 (7 ∷ 7 ∷ 8 ∷ 8 ∷ []) threes three_sides 0
    ⇒ done ∷ (0 ∷ []) ∷ (0 ∷ 1 ∷ 1 ∷ 1 ∷ 2 ∷ 1 ∷ 0 ∷ 7 ∷ []) ∷ (bits.four ∷ bits.half ∷ bits.zero ∷ stray ∷ bits.two ∷ bits.zero ∷ stray ∷ stray ∷ bits.two ∷ []) ∷ (bits.one ∷ bits.two ∷ bits.one ∷ []) ∷ [])
    ∷ (lblt_tray 3 4 (7 ∷ 7 ∷ 8 ∷ 8 ∷ []) threes three_sides 1
    ⇒ done ∷ (0 ∷ []) ∷ (1 ∷ 2 ∷ 1 ∷ 2 ∷ 2 ∷ 1 ∷ 0 ∷ 7 ∷ []) ∷ (bits.zero ∷ bits.one ∷ bits.minus_zero ∷ stray ∷ bits.zero ∷ bits.minus_zero ∷ stray ∷ stray ∷ bits.two ∷ []) ∷ (bits.five ∷ bits.four ∷ bits.one ∷ []) ∷ [])
    ∷ (lblt_tray 3 4 (7 ∷ 7 ∷ 8 ∷ 8 ∷ []) threes three_sides 2
    ⇒ done ∷ (0 ∷ []) ∷ (0 ∷ 1 ∷ 2 ∷ 2 ∷ 2 ∷ 2 ∷ 0 ∷ 8 ∷ []) ∷ (bits.two ∷ bits.zero ∷ bits.zero ∷ stray ∷ bits.zero ∷ bits.one ∷ stray ∷ stray ∷ bits.zero ∷ []) ∷ (bits.two ∷ bits.two ∷ bits.five ∷ []) ∷ [])
    ∷ (lblt_tray 3 4 (7 ∷ 7 ∷ 8 ∷ 8 ∷ []) threes three_sides 3
    ⇒ done ∷ ((6 * 4096 + 2) ∷ []) ∷ (1 ∷ 2 ∷ 1 ∷ 2 ∷ 2 ∷ 1 ∷ 3 ∷ 8 ∷ []) ∷ (bits.zero ∷ bits.three ∷ bits.zero ∷ stray ∷ bits.zero ∷ bits.minus_one ∷ stray ∷ stray ∷ bits.zero ∷ []) ∷ (bits.four ∷ bits.five ∷ bits.two ∷ []) ∷ [])
    -- order 0: no numbers, no rows
    ∷ (lblt_tray 0 2 (7 ∷ 8 ∷ []) [] [] 1 ⇒ done ∷ (0 ∷ []) ∷ (0 ∷ 8 ∷ []) ∷ [] ∷ [] ∷ [])
    -- refused whole, whatever else is wrong: a count above 1,024, an order above 64; then a matrix too few; then a side, then a run number too many
    ∷ (lblt_tray 1 1025 [] [] [] 0 ⇒ refused 1 0 ∷ (99 ∷ []) ∷ (99 ∷ 99 ∷ 99 ∷ 99 ∷ []) ∷ [] ∷ [] ∷ [])
    ∷ (lblt_tray 65 1 [] (bits.one ∷ []) (bits.two ∷ []) 0 ⇒ refused 1 0 ∷ (99 ∷ []) ∷ replicate 132 99 ∷ (bits.one ∷ []) ∷ (bits.two ∷ []) ∷ [])
    ∷ (lblt_tray 1 2 [] (bits.one ∷ []) [] 0 ⇒ refused 3 0 ∷ (99 ∷ []) ∷ (99 ∷ 99 ∷ 99 ∷ 99 ∷ []) ∷ (bits.one ∷ []) ∷ [] ∷ [])
    ∷ (lblt_tray 1 1 (7 ∷ []) (bits.four ∷ []) (bits.one ∷ bits.two ∷ []) 0 ⇒ refused 4 0 ∷ (99 ∷ []) ∷ (99 ∷ 99 ∷ 99 ∷ 99 ∷ []) ∷ (bits.four ∷ []) ∷ (bits.one ∷ []) ∷ [])
    ∷ (lblt_tray 1 1 (7 ∷ 8 ∷ []) (bits.four ∷ []) (bits.one ∷ []) 0 ⇒ refused 4 0 ∷ (99 ∷ []) ∷ (99 ∷ 99 ∷ 99 ∷ 99 ∷ []) ∷ (bits.four ∷ []) ∷ (bits.one ∷ []) ∷ [])
    ∷ []
