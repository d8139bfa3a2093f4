-- The handheld, worked: document 01's starred matrices of order 3, one of each way in which three rows fall into blocks, and pivots that are turned down.
use Rattle.std.specs.Prelude.{List, [], ◌∷◌, ℕ}
use Rattle.cases.specs.Bits as bits
use Rattle.cases.specs.Calls.{stray, handheld_factor, handheld_solve, handheld_pivots, Case, ◌⇒◌}
use Rattle.cases.specs.Table.{done, refused}

-- column 0, 3, −3; above the diagonal stands what is not read
abbrev pub equal_maxima : List ℕ
equal_maxima = bits.zero ∷ bits.three ∷ bits.minus_three ∷ stray ∷ bits.zero ∷ bits.zero ∷ stray ∷ stray ∷ bits.zero ∷ []

-- [0 / 2^−600 0 / 0 2^600 0]
abbrev pub underflow : List ℕ
underflow = bits.zero ∷ bits.tiny ∷ bits.zero ∷ stray ∷ bits.zero ∷ bits.huge ∷ stray ∷ stray ∷ bits.zero ∷ []

-- [4 / 2 3 / 0 0 2]
abbrev pub own_pivots : List ℕ
own_pivots = bits.four ∷ bits.two ∷ bits.zero ∷ stray ∷ bits.three ∷ bits.zero ∷ stray ∷ stray ∷ bits.two ∷ []

-- [0 / 1 0 / 0 0 2]
abbrev pub block_first : List ℕ
block_first = bits.zero ∷ bits.one ∷ bits.zero ∷ stray ∷ bits.zero ∷ bits.zero ∷ stray ∷ stray ∷ bits.two ∷ []

-- [2 / 0 0 / 0 1 0]
abbrev pub block_last : List ℕ
block_last = bits.two ∷ bits.zero ∷ bits.zero ∷ stray ∷ bits.zero ∷ bits.one ∷ stray ∷ stray ∷ bits.zero ∷ []

abbrev pub side : List ℕ
side = bits.four ∷ bits.five ∷ bits.two ∷ []

abbrev pub handheld_table : List Case
handheld_table =
    -- the starred matrices: a block of two and a marked row 2, which a solve tells, its side as given; pivots of size 1 where the ratio underflows, and the same mark
    (handheld_factor equal_maxima ⇒ (1 ∷ 2 ∷ 1 ∷ 2 ∷ 2 ∷ 1 ∷ 3 ∷ 0 ∷ []) ∷ (bits.zero ∷ bits.three ∷ bits.zero ∷ stray ∷ bits.zero ∷ bits.minus_one ∷ stray ∷ stray ∷ bits.zero ∷ []) ∷ [])
    ∷ (handheld_solve equal_maxima side ⇒ refused 6 2 ∷ side ∷ [])
    ∷ (handheld_factor underflow
    ⇒ (0 ∷ 1 ∷ 1 ∷ 1 ∷ 2 ∷ 1 ∷ 3 ∷ 0 ∷ []) ∷ (bits.zero ∷ bits.infinity ∷ bits.nan ∷ stray ∷ bits.minus_infinity ∷ bits.nan ∷ stray ∷ stray ∷ bits.nan ∷ []) ∷ [])
    ∷ (handheld_solve underflow side ⇒ refused 6 2 ∷ side ∷ [])
    -- three blocks of one row; a block of two, then one of one; and the other way round
    ∷ (handheld_factor own_pivots ⇒ (0 ∷ 1 ∷ 1 ∷ 1 ∷ 2 ∷ 1 ∷ 0 ∷ 0 ∷ []) ∷ (bits.four ∷ bits.half ∷ bits.zero ∷ stray ∷ bits.two ∷ bits.zero ∷ stray ∷ stray ∷ bits.two ∷ []) ∷ [])
    ∷ (handheld_solve own_pivots (bits.eight ∷ bits.eight ∷ bits.two ∷ []) ⇒ done ∷ (bits.one ∷ bits.two ∷ bits.one ∷ []) ∷ [])
    ∷ (handheld_factor block_first ⇒ (1 ∷ 2 ∷ 1 ∷ 2 ∷ 2 ∷ 1 ∷ 0 ∷ 0 ∷ []) ∷ (bits.zero ∷ bits.one ∷ bits.minus_zero ∷ stray ∷ bits.zero ∷ bits.minus_zero ∷ stray ∷ stray ∷ bits.two ∷ []) ∷ [])
    ∷ (handheld_solve block_first side ⇒ done ∷ (bits.five ∷ bits.four ∷ bits.one ∷ []) ∷ [])
    ∷ (handheld_factor block_last ⇒ (0 ∷ 1 ∷ 2 ∷ 2 ∷ 2 ∷ 2 ∷ 0 ∷ 0 ∷ []) ∷ (bits.two ∷ bits.zero ∷ bits.zero ∷ stray ∷ bits.zero ∷ bits.one ∷ stray ∷ stray ∷ bits.zero ∷ []) ∷ [])
    ∷ (handheld_solve block_last side ⇒ done ∷ (bits.two ∷ bits.two ∷ bits.five ∷ []) ∷ [])
    -- pivots that break the rule: an index above 2, a size 0, an index before its row, half a block of two; a mark above 3, on a row of another index, on a row of a
    -- block of two: place 3. A mark on a row of its own: code 6
    ∷ (handheld_pivots (3 ∷ 1 ∷ 2 ∷ []) (1 ∷ 1 ∷ 1 ∷ []) 0 ⇒ refused 5 0 ∷ [])
    ∷ (handheld_pivots (0 ∷ 1 ∷ 2 ∷ []) (1 ∷ 1 ∷ 0 ∷ []) 0 ⇒ refused 5 2 ∷ [])
    ∷ (handheld_pivots (0 ∷ 0 ∷ 2 ∷ []) (1 ∷ 1 ∷ 1 ∷ []) 0 ⇒ refused 5 1 ∷ [])
    ∷ (handheld_pivots (0 ∷ 2 ∷ 2 ∷ []) (1 ∷ 2 ∷ 1 ∷ []) 0 ⇒ refused 5 1 ∷ [])
    ∷ (handheld_pivots (0 ∷ 1 ∷ 2 ∷ []) (1 ∷ 1 ∷ 1 ∷ []) 4 ⇒ refused 5 3 ∷ [])
    ∷ (handheld_pivots (1 ∷ 1 ∷ 2 ∷ []) (1 ∷ 1 ∷ 1 ∷ []) 1 ⇒ refused 5 3 ∷ [])
    ∷ (handheld_pivots (0 ∷ 2 ∷ 2 ∷ []) (1 ∷ 2 ∷ 2 ∷ []) 3 ⇒ refused 5 3 ∷ [])
    ∷ (handheld_pivots (0 ∷ 2 ∷ 2 ∷ []) (1 ∷ 2 ∷ 2 ∷ []) 1 ⇒ refused 6 0 ∷ [])
    ∷ []
