-- Twin rows, worked: [x / x x] for x = 1, 2, 3, 7, 49, by each factor; infinity and a first batch by Cholesky; two more by UDU.
use Rattle.std.specs.Prelude.{List, [], ◌∷◌, ℕ}
use Rattle.cases.specs.Calls.{stray, lblt_factor, cholesky_factor, cholesky_extend_floored, udu_factor, Case, ◌⇒◌}
use Rattle.cases.specs.Bits as bits
use Rattle.cases.specs.Table.{done, refused}

-- slices of order 2: [x / x x] by the lower part, and by the upper part
abbrev pub twins : ℕ → List ℕ
twins x = x ∷ x ∷ stray ∷ x ∷ []

abbrev pub twins_above : ℕ → List ℕ
twins_above x = x ∷ stray ∷ x ∷ x ∷ []

-- 1 and 0 in column 0, 1 and 1 in column 1: the rows are twins by the upper part, not by the lower
abbrev pub upper_twins : List ℕ
upper_twins = bits.one ∷ bits.zero ∷ bits.one ∷ bits.one ∷ []

-- slices of room 2: the rows 2 and then 2, 2, as they came; the rows 4 and then 2, 2
abbrev pub came_twice : List ℕ
came_twice = bits.two ∷ bits.two ∷ bits.zero ∷ bits.two ∷ []

abbrev pub came_once : List ℕ
came_once = bits.four ∷ bits.two ∷ bits.zero ∷ bits.two ∷ []

-- the same with row 0 factored: √2 for 2; 2 for 4, so that the numbers are those of the rows that came twice
abbrev pub factored_twice : List ℕ
factored_twice = 0x3ff6_a09e_667f_3bcd ∷ bits.two ∷ bits.zero ∷ bits.two ∷ []

abbrev pub factored_once : List ℕ
factored_once = came_twice

abbrev pub twin_table : List Case
twin_table =
    -- x = 1
    (lblt_factor 2 7 (twins bits.one) ⇒ done ∷ (0 ∷ 1 ∷ 1 ∷ 1 ∷ 2 ∷ 7 ∷ []) ∷ (bits.one ∷ bits.one ∷ stray ∷ bits.zero ∷ []) ∷ [])
    ∷ (cholesky_factor 2 2 (twins bits.one) ⇒ refused 7 1 ∷ (bits.one ∷ bits.one ∷ stray ∷ bits.zero ∷ []) ∷ [])
    ∷ (udu_factor 2 (twins_above bits.one) ⇒ refused 8 0 ∷ (bits.zero ∷ bits.zero ∷ bits.one ∷ bits.one ∷ []) ∷ (bits.zero ∷ bits.one ∷ []) ∷ [])
    -- x = 2
    ∷ (lblt_factor 2 7 (twins bits.two) ⇒ done ∷ (0 ∷ 1 ∷ 1 ∷ 1 ∷ 2 ∷ 7 ∷ []) ∷ (bits.two ∷ bits.one ∷ stray ∷ bits.zero ∷ []) ∷ [])
    ∷ (cholesky_factor 2 2 (twins bits.two) ⇒ done ∷ (0x3ff6_a09e_667f_3bcd ∷ 0x3ff6_a09e_667f_3bcc ∷ stray ∷ 0x3e56_a09e_667f_3bcd ∷ []) ∷ [])
    ∷ (udu_factor 2 (twins_above bits.two) ⇒ refused 8 0 ∷ (bits.zero ∷ bits.zero ∷ bits.one ∷ bits.one ∷ []) ∷ (bits.zero ∷ bits.two ∷ []) ∷ [])
    -- x = 3
    ∷ (lblt_factor 2 7 (twins bits.three) ⇒ done ∷ (0 ∷ 1 ∷ 1 ∷ 1 ∷ 2 ∷ 7 ∷ []) ∷ (bits.three ∷ bits.one ∷ stray ∷ bits.zero ∷ []) ∷ [])
    ∷ (cholesky_factor 2 2 (twins bits.three) ⇒ refused 10 1 ∷ (0x3ffb_b67a_e858_4caa ∷ 0x3ffb_b67a_e858_4cab ∷ stray ∷ 0xbcc0_0000_0000_0000 ∷ []) ∷ [])
    ∷ (udu_factor 2 (twins_above bits.three) ⇒ refused 8 0 ∷ (bits.zero ∷ bits.zero ∷ bits.one ∷ bits.one ∷ []) ∷ (bits.zero ∷ bits.three ∷ []) ∷ [])
    -- x = 7
    ∷ (lblt_factor 2 7 (twins bits.seven) ⇒ done ∷ (0 ∷ 1 ∷ 1 ∷ 1 ∷ 2 ∷ 7 ∷ []) ∷ (bits.seven ∷ bits.one ∷ stray ∷ bits.zero ∷ []) ∷ [])
    ∷ (cholesky_factor 2 2 (twins bits.seven) ⇒ done ∷ (0x4005_2a7f_a9d2_f8ea ∷ 0x4005_2a7f_a9d2_f8e9 ∷ stray ∷ 0x3e66_a09e_667f_3bcd ∷ []) ∷ [])
    ∷ (udu_factor 2 (twins_above bits.seven) ⇒ refused 8 0 ∷ (bits.zero ∷ bits.zero ∷ bits.one ∷ bits.one ∷ []) ∷ (bits.zero ∷ bits.seven ∷ []) ∷ [])
    -- x = 49
    ∷ (lblt_factor 2 7 (twins bits.forty_nine) ⇒ done ∷ (0 ∷ 1 ∷ 1 ∷ 1 ∷ 0 ∷ 7 ∷ []) ∷ (bits.forty_nine ∷ bits.below_one ∷ stray ∷ 0x3d00_0000_0000_0000 ∷ []) ∷ [])
    ∷ (cholesky_factor 2 2 (twins bits.forty_nine) ⇒ refused 7 1 ∷ (bits.seven ∷ bits.seven ∷ stray ∷ bits.zero ∷ []) ∷ [])
    ∷ (udu_factor 2 (twins_above bits.forty_nine) ⇒ done ∷ (bits.one ∷ bits.zero ∷ bits.below_one ∷ bits.below_one ∷ []) ∷ (0x3d10_0000_0000_0000 ∷ bits.forty_nine ∷ []) ∷ [])
    -- x = ∞, by Cholesky
    ∷ (cholesky_factor 2 2 (twins bits.infinity) ⇒ refused 11 1 ∷ (bits.infinity ∷ bits.nan ∷ stray ∷ bits.nan ∷ []) ∷ [])
    -- with floor 4: of 3 and of infinity the second row is accepted and counted; of 2, which leaves a crumb above zero, accepted and not counted
    ∷ (cholesky_extend_floored 2 0 2 bits.four (twins bits.three) ⇒ done ∷ (1 ∷ []) ∷ (0x3ffb_b67a_e858_4caa ∷ 0x3ffb_b67a_e858_4cab ∷ stray ∷ bits.two ∷ []) ∷ [])
    ∷ (cholesky_extend_floored 2 0 2 bits.four (twins bits.infinity) ⇒ done ∷ (1 ∷ []) ∷ (bits.infinity ∷ bits.nan ∷ stray ∷ bits.two ∷ []) ∷ [])
    ∷ (cholesky_extend_floored 2 0 2 bits.four (twins bits.two) ⇒ done ∷ (0 ∷ []) ∷ (0x3ff6_a09e_667f_3bcd ∷ 0x3ff6_a09e_667f_3bcc ∷ stray ∷ 0x3e56_a09e_667f_3bcd ∷ []) ∷ [])
    -- x = 0006200000000000, below the normal numbers: (1/x)·x, which is u(0,1), is not 1, and what is left is zero all the same
    ∷ (udu_factor 2 (twins_above 0x0006_2000_0000_0000) ⇒ refused 8 0 ∷ (bits.zero ∷ bits.zero ∷ bits.below_one ∷ bits.below_one ∷ []) ∷ (bits.zero ∷ 0x0006_2000_0000_0000 ∷ []) ∷ [])
    -- row 0 factored, of 2 and of 4, with row 1 beside it as it came
    ∷ (cholesky_factor 2 1 came_twice ⇒ done ∷ factored_twice ∷ [])
    ∷ (cholesky_factor 2 1 came_once ⇒ done ∷ factored_once ∷ [])
    -- twins by the upper part alone
    ∷ (udu_factor 2 upper_twins ⇒ refused 8 0 ∷ (bits.zero ∷ bits.zero ∷ bits.one ∷ bits.one ∷ []) ∷ (bits.zero ∷ bits.one ∷ []) ∷ [])
    ∷ []
