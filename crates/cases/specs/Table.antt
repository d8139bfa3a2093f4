-- Document 01's starred cases, those of Cholesky's solve, of the codes of a diagonal, of a floor for it, of the row that a mark names, of the run number, of LAPACK pivot lists, of packed triangles and of UDU's tail, and one of a mark after an interchange.
use Rattle.std.specs.Prelude.{List, [], ◌∷◌, ℕ, ◌-◌, ℤ, pos, neg_ℤ}
use Rattle.cases.specs.Bits as bits
use Rattle.cases.specs.Calls.{stray, lblt_factor, lblt_determinant, lblt_solve, lblt_solve_bench, lblt_readers, lblt_largest, pivots_from_lapack, pivots_to_lapack, cholesky_factor, cholesky_extend_floored, cholesky_solve, cholesky_solve_sizes, packed_lblt_factor, packed_lblt_determinant, packed_lblt_solve, packed_cholesky_factor, packed_cholesky_extend, packed_cholesky_solve, packed_extend_sizes, udu_factor, root, Case, ◌⇒◌}

-- ---- answers: a code and its place

abbrev pub done : List ℕ
done = 0 ∷ 0 ∷ []

abbrev pub refused : ℕ → ℕ → List ℕ
refused code place = code ∷ place ∷ []

-- ---- numbers of a list, and the bits of one below 0

abbrev pub minus : ℕ → ℤ
minus p = neg_ℤ (pos p)

abbrev pub minus_bits : ℕ → ℕ
minus_bits p = 4294967296 - p

-- A case is a call and, after the arrow, what it gives (`Gives`): code and place, then the lent slices as they are left; or a number.
-- A record is index and size of each row, the mark (0, or the marked row + 1), the run number. Comments give a matrix by its lower rows.
abbrev pub table : List Case
table =
    -- [0 / 1 0]: pivots (1,2), (1,2), determinant −1; (3, 5) solves to (5, 3)
    (lblt_factor 2 7 (bits.zero ∷ bits.one ∷ stray ∷ bits.zero ∷ []) ⇒ done ∷ (1 ∷ 2 ∷ 1 ∷ 2 ∷ 0 ∷ 7 ∷ []) ∷ (bits.zero ∷ bits.one ∷ stray ∷ bits.zero ∷ []) ∷ [])
    ∷ (lblt_determinant 2 7 7 (bits.zero ∷ bits.one ∷ stray ∷ bits.zero ∷ []) ⇒ done ∷ (bits.minus_one ∷ []) ∷ [])
    ∷ (lblt_solve 2 7 7 (bits.zero ∷ bits.one ∷ stray ∷ bits.zero ∷ []) (bits.three ∷ bits.five ∷ []) ⇒ done ∷ (bits.five ∷ bits.three ∷ []) ∷ [])
    -- [0 / 1 4]: pivots (1,1), (1,1), factor [4 / 0.25 −0.25]
    ∷ (lblt_factor 2 7 (bits.zero ∷ bits.one ∷ stray ∷ bits.four ∷ []) ⇒ done ∷ (1 ∷ 1 ∷ 1 ∷ 1 ∷ 0 ∷ 7 ∷ []) ∷ (bits.four ∷ bits.quarter ∷ stray ∷ bits.minus_quarter ∷ []) ∷ [])
    -- [1 / 2 4]: pivots (1,1), (1,1), factor [4 / 0.5 0]; the mark is row 1 of the factor, where the interchange put the caller's row 0
    ∷ (lblt_factor 2 7 (bits.one ∷ bits.two ∷ stray ∷ bits.four ∷ []) ⇒ done ∷ (1 ∷ 1 ∷ 1 ∷ 1 ∷ 2 ∷ 7 ∷ []) ∷ (bits.four ∷ bits.half ∷ stray ∷ bits.zero ∷ []) ∷ [])
    ∷ (lblt_solve 2 7 7 (bits.one ∷ bits.two ∷ stray ∷ bits.four ∷ []) (bits.one ∷ bits.two ∷ []) ⇒ refused 6 1 ∷ (bits.one ∷ bits.two ∷ []) ∷ [])
    -- [0 / NaN 5]: mark row 0, pivots (0,1), (1,1); solve gives 6
    ∷ (lblt_factor 2 7 (bits.zero ∷ bits.nan ∷ stray ∷ bits.five ∷ []) ⇒ done ∷ (0 ∷ 1 ∷ 1 ∷ 1 ∷ 1 ∷ 7 ∷ []) ∷ (bits.zero ∷ bits.nan ∷ stray ∷ bits.five ∷ []) ∷ [])
    ∷ (lblt_solve 2 7 7 (bits.zero ∷ bits.nan ∷ stray ∷ bits.five ∷ []) (bits.one ∷ bits.two ∷ []) ⇒ refused 6 0 ∷ (bits.one ∷ bits.two ∷ []) ∷ [])
    -- [NaN]: mark row 0
    ∷ (lblt_factor 1 7 (bits.nan ∷ []) ⇒ done ∷ (0 ∷ 1 ∷ 1 ∷ 7 ∷ []) ∷ (bits.nan ∷ []) ∷ [])
    -- a mark on a row of size 1 whose index is another, or on a row of a block of two: code 5 at n from every reader.
    -- On a row of size 1 whose index is that row: solve alone refuses, by code 6
    ∷ (lblt_readers 2 7 (1 ∷ 1 ∷ 1 ∷ 1 ∷ 1 ∷ 7 ∷ []) ⇒ refused 5 2 ∷ refused 5 2 ∷ refused 5 2 ∷ refused 5 2 ∷ [])
    ∷ (lblt_readers 3 7 (0 ∷ 1 ∷ 2 ∷ 1 ∷ 2 ∷ 1 ∷ 2 ∷ 7 ∷ []) ⇒ refused 5 3 ∷ refused 5 3 ∷ refused 5 3 ∷ refused 5 3 ∷ [])
    ∷ (lblt_readers 2 7 (1 ∷ 2 ∷ 1 ∷ 2 ∷ 2 ∷ 7 ∷ []) ⇒ refused 5 2 ∷ refused 5 2 ∷ refused 5 2 ∷ refused 5 2 ∷ [])
    ∷ (lblt_readers 2 7 (1 ∷ 1 ∷ 1 ∷ 1 ∷ 2 ∷ 7 ∷ []) ⇒ refused 6 1 ∷ done ∷ done ∷ done ∷ [])
    -- made with run 7 and asked for run 8: code 13, the right-hand side as given, the determinant +0. A marked record gets it from every reader,
    -- one that breaks the rule gets code 5. A record of order 0 with the largest number, asked for run 0 and for that number
    ∷ (lblt_solve 2 7 8 (bits.zero ∷ bits.one ∷ stray ∷ bits.zero ∷ []) (bits.three ∷ bits.five ∷ []) ⇒ refused 13 0 ∷ (bits.three ∷ bits.five ∷ []) ∷ [])
    ∷ (lblt_determinant 2 7 8 (bits.zero ∷ bits.one ∷ stray ∷ bits.zero ∷ []) ⇒ refused 13 0 ∷ (bits.zero ∷ []) ∷ [])
    ∷ (lblt_readers 2 8 (1 ∷ 1 ∷ 1 ∷ 1 ∷ 2 ∷ 7 ∷ []) ⇒ refused 13 0 ∷ refused 13 0 ∷ refused 13 0 ∷ refused 13 0 ∷ [])
    ∷ (lblt_readers 2 8 (1 ∷ 1 ∷ 1 ∷ 1 ∷ 1 ∷ 7 ∷ []) ⇒ refused 5 2 ∷ refused 5 2 ∷ refused 5 2 ∷ refused 5 2 ∷ [])
    ∷ (lblt_readers 0 0 (0 ∷ 4294967295 ∷ []) ⇒ refused 13 0 ∷ refused 13 0 ∷ refused 13 0 ∷ refused 13 0 ∷ [])
    ∷ (lblt_readers 0 4294967295 (0 ∷ 4294967295 ∷ []) ⇒ done ∷ done ∷ done ∷ done ∷ [])
    -- [0 / 1 0] and three columns, of benches 5, 6 and 5: bench 5 gets its two, bench 6 its one, and what another bench sent stays as given.
    -- Bench 7 has no column: done, 13 for another run, 6 for a mark; a list of another length gets 4 before all of these
    ∷ (lblt_solve_bench 2 7 7 3 5 (5 ∷ 6 ∷ 5 ∷ []) (bits.zero ∷ bits.one ∷ stray ∷ bits.zero ∷ []) (bits.three ∷ bits.five ∷ bits.nan ∷ bits.four ∷ bits.one ∷ bits.two ∷ [])
    ⇒ done ∷ (bits.five ∷ bits.three ∷ bits.nan ∷ bits.four ∷ bits.two ∷ bits.one ∷ []) ∷ [])
    ∷ (lblt_solve_bench 2 7 7 3 6 (5 ∷ 6 ∷ 5 ∷ []) (bits.zero ∷ bits.one ∷ stray ∷ bits.zero ∷ []) (bits.three ∷ bits.nan ∷ bits.one ∷ bits.four ∷ bits.minus_zero ∷ bits.two ∷ [])
    ⇒ done ∷ (bits.three ∷ bits.nan ∷ bits.four ∷ bits.one ∷ bits.minus_zero ∷ bits.two ∷ []) ∷ [])
    ∷ (lblt_solve_bench 2 7 7 1 7 (5 ∷ []) (bits.zero ∷ bits.one ∷ stray ∷ bits.zero ∷ []) (bits.three ∷ bits.five ∷ []) ⇒ done ∷ (bits.three ∷ bits.five ∷ []) ∷ [])
    ∷ (lblt_solve_bench 2 7 8 1 7 (5 ∷ []) (bits.zero ∷ bits.one ∷ stray ∷ bits.zero ∷ []) (bits.three ∷ bits.five ∷ []) ⇒ refused 13 0 ∷ (bits.three ∷ bits.five ∷ []) ∷ [])
    ∷ (lblt_solve_bench 2 7 7 1 7 (5 ∷ []) (bits.one ∷ bits.two ∷ stray ∷ bits.four ∷ []) (bits.three ∷ bits.five ∷ []) ⇒ refused 6 1 ∷ (bits.three ∷ bits.five ∷ []) ∷ [])
    ∷ (lblt_solve_bench 2 7 8 1 5 (5 ∷ 5 ∷ []) (bits.one ∷ bits.two ∷ stray ∷ bits.four ∷ []) (bits.three ∷ bits.five ∷ []) ⇒ refused 4 0 ∷ (bits.three ∷ bits.five ∷ []) ∷ [])
    -- LAPACK pivot lists. The record of [0 / 1 0] is −2 −2, that of [1 / 2 4] is 2 2 with INFO 2; the starred case with the ratio that underflows: 1 2 3 with INFO 3.
    -- A record that breaks its rule: code 5, the list as lent, INFO and run number 0
    ∷ (pivots_to_lapack 2 (1 ∷ 2 ∷ 1 ∷ 2 ∷ 0 ∷ 7 ∷ []) ⇒ done ∷ (minus_bits 2 ∷ minus_bits 2 ∷ []) ∷ (0 ∷ 7 ∷ []) ∷ [])
    ∷ (pivots_to_lapack 2 (1 ∷ 1 ∷ 1 ∷ 1 ∷ 2 ∷ 7 ∷ []) ⇒ done ∷ (2 ∷ 2 ∷ []) ∷ (2 ∷ 7 ∷ []) ∷ [])
    ∷ (pivots_to_lapack 3 (0 ∷ 1 ∷ 1 ∷ 1 ∷ 2 ∷ 1 ∷ 3 ∷ 7 ∷ []) ⇒ done ∷ (1 ∷ 2 ∷ 3 ∷ []) ∷ (3 ∷ 7 ∷ []) ∷ [])
    ∷ (pivots_to_lapack 2 (1 ∷ 1 ∷ 1 ∷ 1 ∷ 1 ∷ 7 ∷ []) ⇒ refused 5 2 ∷ (99 ∷ 99 ∷ []) ∷ (0 ∷ 0 ∷ []) ∷ [])
    ∷ (pivots_to_lapack 2 (0 ∷ 1 ∷ 0 ∷ 1 ∷ 0 ∷ 7 ∷ []) ⇒ refused 5 1 ∷ (99 ∷ 99 ∷ []) ∷ (0 ∷ 0 ∷ []) ∷ [])
    -- and back; 1 −3 −3 with INFO 1
    ∷ (pivots_from_lapack 2 7 (minus 2 ∷ minus 2 ∷ []) (pos 0) ⇒ done ∷ (1 ∷ 2 ∷ 1 ∷ 2 ∷ 0 ∷ 7 ∷ []) ∷ [])
    ∷ (pivots_from_lapack 2 7 (pos 2 ∷ pos 2 ∷ []) (pos 2) ⇒ done ∷ (1 ∷ 1 ∷ 1 ∷ 1 ∷ 2 ∷ 7 ∷ []) ∷ [])
    ∷ (pivots_from_lapack 3 7 (pos 1 ∷ minus 3 ∷ minus 3 ∷ []) (pos 1) ⇒ done ∷ (0 ∷ 1 ∷ 2 ∷ 2 ∷ 2 ∷ 2 ∷ 1 ∷ 7 ∷ []) ∷ [])
    -- broken blocks: −1 −1, an exchange of row k in a block of two; −2 −3; −2 at the last row; a number before its row, 0 and above the order; the least i32
    ∷ (pivots_from_lapack 2 7 (minus 1 ∷ minus 1 ∷ []) (pos 0) ⇒ refused 12 0 ∷ (99 ∷ 99 ∷ 99 ∷ 99 ∷ 99 ∷ 99 ∷ []) ∷ [])
    ∷ (pivots_from_lapack 3 7 (minus 2 ∷ minus 3 ∷ pos 3 ∷ []) (pos 0) ⇒ refused 12 0 ∷ (99 ∷ 99 ∷ 99 ∷ 99 ∷ 99 ∷ 99 ∷ 99 ∷ 99 ∷ []) ∷ [])
    ∷ (pivots_from_lapack 2 7 (pos 1 ∷ minus 2 ∷ []) (pos 0) ⇒ refused 12 1 ∷ (99 ∷ 99 ∷ 99 ∷ 99 ∷ 99 ∷ 99 ∷ []) ∷ [])
    ∷ (pivots_from_lapack 2 7 (pos 1 ∷ pos 1 ∷ []) (pos 0) ⇒ refused 12 1 ∷ (99 ∷ 99 ∷ 99 ∷ 99 ∷ 99 ∷ 99 ∷ []) ∷ [])
    ∷ (pivots_from_lapack 2 7 (pos 1 ∷ pos 0 ∷ []) (pos 0) ⇒ refused 12 1 ∷ (99 ∷ 99 ∷ 99 ∷ 99 ∷ 99 ∷ 99 ∷ []) ∷ [])
    ∷ (pivots_from_lapack 2 7 (pos 3 ∷ pos 2 ∷ []) (pos 0) ⇒ refused 12 0 ∷ (99 ∷ 99 ∷ 99 ∷ 99 ∷ 99 ∷ 99 ∷ []) ∷ [])
    ∷ (pivots_from_lapack 1 7 (minus 2147483648 ∷ []) (pos 0) ⇒ refused 12 0 ∷ (99 ∷ 99 ∷ 99 ∷ 99 ∷ []) ∷ [])
    -- INFO on a row of a block of two, on a row whose number is another, above the order, below 0; a broken block comes before it. Order 0
    ∷ (pivots_from_lapack 2 7 (minus 2 ∷ minus 2 ∷ []) (pos 2) ⇒ refused 12 2 ∷ (99 ∷ 99 ∷ 99 ∷ 99 ∷ 99 ∷ 99 ∷ []) ∷ [])
    ∷ (pivots_from_lapack 2 7 (pos 2 ∷ pos 2 ∷ []) (pos 1) ⇒ refused 12 2 ∷ (99 ∷ 99 ∷ 99 ∷ 99 ∷ 99 ∷ 99 ∷ []) ∷ [])
    ∷ (pivots_from_lapack 2 7 (pos 1 ∷ pos 2 ∷ []) (pos 3) ⇒ refused 12 2 ∷ (99 ∷ 99 ∷ 99 ∷ 99 ∷ 99 ∷ 99 ∷ []) ∷ [])
    ∷ (pivots_from_lapack 2 7 (pos 1 ∷ pos 2 ∷ []) (minus 1) ⇒ refused 12 2 ∷ (99 ∷ 99 ∷ 99 ∷ 99 ∷ 99 ∷ 99 ∷ []) ∷ [])
    ∷ (pivots_from_lapack 2 7 (pos 1 ∷ pos 1 ∷ []) (minus 1) ⇒ refused 12 1 ∷ (99 ∷ 99 ∷ 99 ∷ 99 ∷ 99 ∷ 99 ∷ []) ∷ [])
    ∷ (pivots_from_lapack 0 7 [] (pos 0) ⇒ done ∷ (0 ∷ 7 ∷ []) ∷ [])
    ∷ (pivots_from_lapack 0 7 [] (pos 1) ⇒ refused 12 0 ∷ (99 ∷ 99 ∷ []) ∷ [])
    -- two numbers for order 1: code 4
    ∷ (pivots_from_lapack 1 7 (pos 1 ∷ pos 2 ∷ []) (pos 0) ⇒ refused 4 0 ∷ (99 ∷ 99 ∷ 99 ∷ 99 ∷ []) ∷ [])
    -- column 0, 3, −3: imax is 1, and so is the first pivot's index
    ∷ (lblt_largest 3 (bits.zero ∷ bits.three ∷ bits.minus_three ∷ stray ∷ bits.zero ∷ bits.zero ∷ stray ∷ stray ∷ bits.zero ∷ []) 0 ⇒ (1 ∷ []) ∷ [])
    ∷ (lblt_factor 3 7 (bits.zero ∷ bits.three ∷ bits.minus_three ∷ stray ∷ bits.zero ∷ bits.zero ∷ stray ∷ stray ∷ bits.zero ∷ [])
    ⇒ done ∷ (1 ∷ 2 ∷ 1 ∷ 2 ∷ 2 ∷ 1 ∷ 3 ∷ 7 ∷ []) ∷ (bits.zero ∷ bits.three ∷ bits.zero ∷ stray ∷ bits.zero ∷ bits.minus_one ∷ stray ∷ stray ∷ bits.zero ∷ []) ∷ [])
    -- [0 / 2^−600 0 / 0 2^600 0]: the ratio underflows, so row 0 is a size 1 pivot on zero; the mark is row 2
    ∷ (lblt_factor 3 7 (bits.zero ∷ bits.tiny ∷ bits.zero ∷ stray ∷ bits.zero ∷ bits.huge ∷ stray ∷ stray ∷ bits.zero ∷ [])
    ⇒ done ∷ (0 ∷ 1 ∷ 1 ∷ 1 ∷ 2 ∷ 1 ∷ 3 ∷ 7 ∷ []) ∷ (bits.zero ∷ bits.infinity ∷ bits.nan ∷ stray ∷ bits.minus_infinity ∷ bits.nan ∷ stray ∷ stray ∷ bits.nan ∷ []) ∷ [])
    -- Cholesky [4 / 2 5], in a room of 3: [2 / 1 2]; (8, 11) solves to (1.125, 1.75)
    ∷ (cholesky_factor 3 2 (bits.four ∷ bits.two ∷ stray ∷ stray ∷ bits.five ∷ stray ∷ stray ∷ stray ∷ stray ∷ [])
    ⇒ done ∷ (bits.two ∷ bits.one ∷ stray ∷ stray ∷ bits.two ∷ stray ∷ stray ∷ stray ∷ stray ∷ []) ∷ [])
    ∷ (cholesky_solve 3 2 (bits.four ∷ bits.two ∷ stray ∷ stray ∷ bits.five ∷ stray ∷ stray ∷ stray ∷ stray ∷ []) (bits.eight ∷ bits.eleven ∷ [])
    ⇒ done ∷ (0x3ff2_0000_0000_0000 ∷ 0x3ffc_0000_0000_0000 ∷ []) ∷ [])
    -- Cholesky [1 / 1 1]: code 7 at 1, leaving 0 at (1,1); by what is left, (1, 2) solves to (−∞, ∞)
    ∷ (cholesky_factor 2 2 (bits.one ∷ bits.one ∷ stray ∷ bits.one ∷ []) ⇒ refused 7 1 ∷ (bits.one ∷ bits.one ∷ stray ∷ bits.zero ∷ []) ∷ [])
    ∷ (cholesky_solve 2 2 (bits.one ∷ bits.one ∷ stray ∷ bits.one ∷ []) (bits.one ∷ bits.two ∷ []) ⇒ done ∷ (bits.minus_infinity ∷ bits.infinity ∷ []) ∷ [])
    -- Cholesky [−0] and [0]: code 7 at 0; [−1] and [−∞]: code 10 at 0; [NaN]: code 11 at 0; [∞] passes. ([3 / 3 3], code 10 at 1, is among the twins.)
    ∷ (cholesky_factor 1 1 (bits.minus_zero ∷ []) ⇒ refused 7 0 ∷ (bits.minus_zero ∷ []) ∷ [])
    ∷ (cholesky_factor 1 1 (bits.zero ∷ []) ⇒ refused 7 0 ∷ (bits.zero ∷ []) ∷ [])
    ∷ (cholesky_factor 1 1 (bits.minus_one ∷ []) ⇒ refused 10 0 ∷ (bits.minus_one ∷ []) ∷ [])
    ∷ (cholesky_factor 1 1 (bits.minus_infinity ∷ []) ⇒ refused 10 0 ∷ (bits.minus_infinity ∷ []) ∷ [])
    ∷ (cholesky_factor 1 1 (bits.nan ∷ []) ⇒ refused 11 0 ∷ (bits.nan ∷ []) ∷ [])
    ∷ (cholesky_factor 1 1 (bits.infinity ∷ []) ⇒ done ∷ (bits.infinity ∷ []) ∷ [])
    -- no NaN was handed in: Cholesky [1 / ∞ ∞], code 11 at 1; [1 / ∞ 1], code 10 at 1
    ∷ (cholesky_factor 2 2 (bits.one ∷ bits.infinity ∷ stray ∷ bits.infinity ∷ []) ⇒ refused 11 1 ∷ (bits.one ∷ bits.infinity ∷ stray ∷ bits.nan ∷ []) ∷ [])
    ∷ (cholesky_factor 2 2 (bits.one ∷ bits.infinity ∷ stray ∷ bits.one ∷ []) ⇒ refused 10 1 ∷ (bits.one ∷ bits.infinity ∷ stray ∷ bits.minus_infinity ∷ []) ∷ [])
    -- [1 / 1 1] with floor 4: [1 / 1 2], one column used it; with floor −0, which fails: code 7 at 1, as without a floor. [−1] with floor −1: code 10 at 0
    ∷ (cholesky_extend_floored 2 0 2 bits.four (bits.one ∷ bits.one ∷ stray ∷ bits.one ∷ []) ⇒ done ∷ (1 ∷ []) ∷ (bits.one ∷ bits.one ∷ stray ∷ bits.two ∷ []) ∷ [])
    ∷ (cholesky_extend_floored 2 0 2 bits.minus_zero (bits.one ∷ bits.one ∷ stray ∷ bits.one ∷ []) ⇒ refused 7 1 ∷ (0 ∷ []) ∷ (bits.one ∷ bits.one ∷ stray ∷ bits.zero ∷ []) ∷ [])
    ∷ (cholesky_extend_floored 1 0 1 bits.minus_one (bits.minus_one ∷ []) ⇒ refused 10 0 ∷ (0 ∷ []) ∷ (bits.minus_one ∷ []) ∷ [])
    -- [4 / 2 5] with floor NaN, which no diagonal needs: [2 / 1 2], none used it. [NaN] with floor 4: [2]. [−0] with floor 2^−1074: its root
    ∷ (cholesky_extend_floored 2 0 2 bits.nan (bits.four ∷ bits.two ∷ stray ∷ bits.five ∷ []) ⇒ done ∷ (0 ∷ []) ∷ (bits.two ∷ bits.one ∷ stray ∷ bits.two ∷ []) ∷ [])
    ∷ (cholesky_extend_floored 1 0 1 bits.four (bits.nan ∷ []) ⇒ done ∷ (1 ∷ []) ∷ (bits.two ∷ []) ∷ [])
    ∷ (cholesky_extend_floored 1 0 1 bits.smallest (bits.minus_zero ∷ []) ⇒ done ∷ (1 ∷ []) ∷ (0x1e60_0000_0000_0000 ∷ []) ∷ [])
    -- [−1 / 2 4] with floor +infinity: the row below is divided by it, [+infinity / 0 2]
    ∷ (cholesky_extend_floored 2 0 2 bits.infinity (bits.minus_one ∷ bits.two ∷ stray ∷ bits.four ∷ []) ⇒ done ∷ (1 ∷ []) ∷ (bits.infinity ∷ bits.zero ∷ stray ∷ bits.two ∷ []) ∷ [])
    -- [0 / 0 0] with floor 4: two columns used it; of its batches each one
    ∷ (cholesky_extend_floored 2 0 2 bits.four (bits.zero ∷ bits.zero ∷ stray ∷ bits.zero ∷ []) ⇒ done ∷ (2 ∷ []) ∷ (bits.two ∷ bits.zero ∷ stray ∷ bits.two ∷ []) ∷ [])
    ∷ (cholesky_extend_floored 2 0 1 bits.four (bits.zero ∷ bits.zero ∷ stray ∷ bits.zero ∷ []) ⇒ done ∷ (1 ∷ []) ∷ (bits.two ∷ bits.zero ∷ stray ∷ bits.zero ∷ []) ∷ [])
    ∷ (cholesky_extend_floored 2 1 2 bits.four (bits.two ∷ bits.zero ∷ stray ∷ bits.zero ∷ []) ⇒ done ∷ (1 ∷ []) ∷ (bits.two ∷ bits.zero ∷ stray ∷ bits.two ∷ []) ∷ [])
    -- the row −1 is taken as factored, and not counted: [−1 / −1 2]. An order above the room: code 2, none used it
    ∷ (cholesky_extend_floored 2 1 2 bits.four (bits.minus_one ∷ bits.one ∷ stray ∷ bits.one ∷ []) ⇒ done ∷ (1 ∷ []) ∷ (bits.minus_one ∷ bits.minus_one ∷ stray ∷ bits.two ∷ []) ∷ [])
    ∷ (cholesky_extend_floored 1 0 2 bits.four (bits.zero ∷ []) ⇒ refused 2 0 ∷ (0 ∷ []) ∷ (bits.zero ∷ []) ∷ [])
    -- the refusals of Cholesky's solve in their order, each call with the later faults too; order 0 and no columns are done
    ∷ (cholesky_solve_sizes 2 3 1025 5 7 ⇒ refused 1 0 ∷ [])
    ∷ (cholesky_solve_sizes 2 3 2 5 7 ⇒ refused 2 0 ∷ [])
    ∷ (cholesky_solve_sizes 3 2 2 5 7 ⇒ refused 3 0 ∷ [])
    ∷ (cholesky_solve_sizes 3 2 2 9 7 ⇒ refused 4 0 ∷ [])
    ∷ (cholesky_solve_sizes 3 2 2 9 4 ⇒ done ∷ [])
    ∷ (cholesky_solve_sizes 0 0 1024 0 0 ⇒ done ∷ [])
    ∷ (cholesky_solve_sizes 1024 1024 0 1048576 0 ⇒ done ∷ [])
    -- packed: [0 / 1 4], [0 / 1 0] and its determinant and solve, another run; [0 / 2^−600 0 / 0 2^600 0]; n·n numbers get code 3
    ∷ (packed_lblt_factor 2 7 (bits.zero ∷ bits.one ∷ bits.four ∷ []) ⇒ done ∷ (1 ∷ 1 ∷ 1 ∷ 1 ∷ 0 ∷ 7 ∷ []) ∷ (bits.four ∷ bits.quarter ∷ bits.minus_quarter ∷ []) ∷ [])
    ∷ (packed_lblt_determinant 2 7 7 (bits.zero ∷ bits.one ∷ bits.zero ∷ []) ⇒ done ∷ (bits.minus_one ∷ []) ∷ [])
    ∷ (packed_lblt_solve 2 7 7 (bits.zero ∷ bits.one ∷ bits.zero ∷ []) (bits.three ∷ bits.five ∷ []) ⇒ done ∷ (bits.five ∷ bits.three ∷ []) ∷ [])
    ∷ (packed_lblt_solve 2 7 8 (bits.zero ∷ bits.one ∷ bits.zero ∷ []) (bits.three ∷ bits.five ∷ []) ⇒ refused 13 0 ∷ (bits.three ∷ bits.five ∷ []) ∷ [])
    ∷ (packed_lblt_factor 3 7 (bits.zero ∷ bits.tiny ∷ bits.zero ∷ bits.zero ∷ bits.huge ∷ bits.zero ∷ [])
    ⇒ done ∷ (0 ∷ 1 ∷ 1 ∷ 1 ∷ 2 ∷ 1 ∷ 3 ∷ 7 ∷ []) ∷ (bits.zero ∷ bits.infinity ∷ bits.nan ∷ bits.minus_infinity ∷ bits.nan ∷ bits.nan ∷ []) ∷ [])
    ∷ (packed_lblt_factor 2 7 (bits.zero ∷ bits.one ∷ bits.four ∷ stray ∷ []) ⇒ refused 3 0 ∷ (99 ∷ 99 ∷ 99 ∷ 99 ∷ 99 ∷ 99 ∷ []) ∷ (bits.zero ∷ bits.one ∷ bits.four ∷ stray ∷ []) ∷ [])
    -- packed Cholesky [4 / 2 5]: [2 / 1 2], and (8, 11) solves to (1.125, 1.75); [1 / 1 1]: code 7 at 1, leaving 0 at (1,1)
    ∷ (packed_cholesky_factor 2 (bits.four ∷ bits.two ∷ bits.five ∷ []) ⇒ done ∷ (bits.two ∷ bits.one ∷ bits.two ∷ []) ∷ [])
    ∷ (packed_cholesky_solve 2 (bits.four ∷ bits.two ∷ bits.five ∷ []) (bits.eight ∷ bits.eleven ∷ []) ⇒ done ∷ (0x3ff2_0000_0000_0000 ∷ 0x3ffc_0000_0000_0000 ∷ []) ∷ [])
    ∷ (packed_cholesky_factor 2 (bits.one ∷ bits.one ∷ bits.one ∷ []) ⇒ refused 7 1 ∷ (bits.one ∷ bits.one ∷ bits.zero ∷ []) ∷ [])
    -- the same by a further batch: rows 0 and 1 at once, row 1 after the factor [2], no rows; [1] and row (1, 1): code 7 at 1; [2] and row (2, NaN): code 11 at 1
    ∷ (packed_cholesky_extend 0 2 [] (bits.four ∷ bits.two ∷ bits.five ∷ []) ⇒ done ∷ (bits.two ∷ bits.one ∷ bits.two ∷ []) ∷ [])
    ∷ (packed_cholesky_extend 1 2 (bits.two ∷ []) (bits.two ∷ bits.five ∷ []) ⇒ done ∷ (bits.two ∷ bits.one ∷ bits.two ∷ []) ∷ [])
    ∷ (packed_cholesky_extend 2 2 (bits.two ∷ bits.one ∷ bits.two ∷ []) [] ⇒ done ∷ (bits.two ∷ bits.one ∷ bits.two ∷ []) ∷ [])
    ∷ (packed_cholesky_extend 1 2 (bits.one ∷ []) (bits.one ∷ bits.one ∷ []) ⇒ refused 7 1 ∷ (bits.one ∷ bits.one ∷ bits.zero ∷ []) ∷ [])
    ∷ (packed_cholesky_extend 1 2 (bits.two ∷ []) (bits.two ∷ bits.nan ∷ []) ⇒ refused 11 1 ∷ (bits.two ∷ bits.one ∷ bits.nan ∷ []) ∷ [])
    ∷ (packed_cholesky_extend 1 2 (bits.two ∷ bits.two ∷ []) (bits.two ∷ bits.five ∷ []) ⇒ refused 3 0 ∷ (stray ∷ stray ∷ stray ∷ []) ∷ [])
    -- its refusals in their order, each call with the later faults too
    ∷ (packed_extend_sizes 1025 1024 2 5 7 ⇒ refused 1 0 ∷ [])
    ∷ (packed_extend_sizes 3 2 2 5 7 ⇒ refused 2 0 ∷ [])
    ∷ (packed_extend_sizes 1 2 2 5 7 ⇒ refused 3 0 ∷ [])
    ∷ (packed_extend_sizes 1 2 1 3 7 ⇒ refused 4 0 ∷ [])
    ∷ (packed_extend_sizes 1 2 1 2 4 ⇒ refused 4 0 ∷ [])
    -- UDU [49]: u is below 1
    ∷ (udu_factor 1 (bits.forty_nine ∷ []) ⇒ done ∷ (bits.below_one ∷ []) ∷ (bits.forty_nine ∷ []) ∷ [])
    -- UDU [0]: code 8 at 0
    ∷ (udu_factor 1 (bits.zero ∷ []) ⇒ refused 8 0 ∷ (bits.zero ∷ []) ∷ (bits.zero ∷ []) ∷ [])
    -- UDU keeps its tail: [12 / 7 5 / 4 2 2], and the block of rows 1 and 2, [5 / 2 2]
    ∷ (udu_factor 3 (bits.twelve ∷ stray ∷ stray ∷ bits.seven ∷ bits.five ∷ stray ∷ bits.four ∷ bits.two ∷ bits.two ∷ [])
    ⇒ done ∷ (bits.one ∷ bits.zero ∷ bits.zero ∷ bits.one ∷ bits.one ∷ bits.zero ∷ bits.two ∷ bits.one ∷ bits.one ∷ []) ∷ (bits.one ∷ bits.three ∷ bits.two ∷ []) ∷ [])
    ∷ (udu_factor 2 (bits.five ∷ stray ∷ bits.two ∷ bits.two ∷ [])
    ⇒ done ∷ (bits.one ∷ bits.zero ∷ bits.one ∷ bits.one ∷ []) ∷ (bits.three ∷ bits.two ∷ []) ∷ [])
    -- with 11 at (0,0): code 8 at 0, before the block, which is the same
    ∷ (udu_factor 3 (bits.eleven ∷ stray ∷ stray ∷ bits.seven ∷ bits.five ∷ stray ∷ bits.four ∷ bits.two ∷ bits.two ∷ [])
    ⇒ refused 8 0 ∷ (bits.zero ∷ bits.zero ∷ bits.zero ∷ bits.one ∷ bits.one ∷ bits.zero ∷ bits.two ∷ bits.one ∷ bits.one ∷ []) ∷ (bits.zero ∷ bits.three ∷ bits.two ∷ []) ∷ [])
    -- with 2 at (1,1): code 8 at 1, and at 0 of the block
    ∷ (udu_factor 3 (bits.twelve ∷ stray ∷ stray ∷ bits.seven ∷ bits.two ∷ stray ∷ bits.four ∷ bits.two ∷ bits.two ∷ [])
    ⇒ refused 8 1 ∷ (bits.zero ∷ bits.zero ∷ bits.zero ∷ bits.zero ∷ bits.zero ∷ bits.zero ∷ bits.two ∷ bits.one ∷ bits.one ∷ []) ∷ (bits.zero ∷ bits.zero ∷ bits.two ∷ []) ∷ [])
    ∷ (udu_factor 2 (bits.two ∷ stray ∷ bits.two ∷ bits.two ∷ [])
    ⇒ refused 8 0 ∷ (bits.zero ∷ bits.zero ∷ bits.one ∷ bits.one ∷ []) ∷ (bits.zero ∷ bits.two ∷ []) ∷ [])
    -- with −0 at (2,2): code 8 at the last column of both; all of u is +0
    ∷ (udu_factor 3 (bits.twelve ∷ stray ∷ stray ∷ bits.seven ∷ bits.five ∷ stray ∷ bits.four ∷ bits.two ∷ bits.minus_zero ∷ [])
    ⇒ refused 8 2 ∷ (bits.zero ∷ bits.zero ∷ bits.zero ∷ bits.zero ∷ bits.zero ∷ bits.zero ∷ bits.zero ∷ bits.zero ∷ bits.zero ∷ []) ∷ (bits.zero ∷ bits.zero ∷ bits.minus_zero ∷ []) ∷ [])
    ∷ (udu_factor 2 (bits.five ∷ stray ∷ bits.two ∷ bits.minus_zero ∷ [])
    ⇒ refused 8 1 ∷ (bits.zero ∷ bits.zero ∷ bits.zero ∷ bits.zero ∷ []) ∷ (bits.zero ∷ bits.minus_zero ∷ []) ∷ [])
    -- root of 2, and of 2^−1074
    ∷ (root bits.two ⇒ (0x3ff6_a09e_667f_3bcd ∷ []) ∷ [])
    ∷ (root bits.smallest ⇒ (0x1e60_0000_0000_0000 ∷ []) ∷ [])
    ∷ []
