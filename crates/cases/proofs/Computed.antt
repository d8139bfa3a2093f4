-- The cases hold: what each call gives, written out, is computed by the checker. Assumes nothing.
use mathlib.Core.Path.{◌≡◌, refl, ap, subst}
use mathlib.Core.List.{List, [], ◌∷◌, map, ◌++◌}
use Prim.Native.Nat.{ℕ}
use lib.ListN.{get_or, drop}
use lib.Ieee.{of_bits, to_bits, le, sub, mul, div, is_nan}
use Rattle.answer.specs.Refusals.{tested}
use Rattle.leaf.specs.Abs.{abs_of}
use Rattle.leaf.specs.Maximum.{maximum_of}
use Rattle.leaf.specs.Root.{root_of}
use Rattle.matrix.specs.Matrix.{exchange}
use Rattle.matrix.specs.Loop.{for, falling}
use Rattle.matrix.specs.Grid.{load, mask}
use Rattle.packing.specs.Joined.{row_start, new_row, joined}
use Rattle.matrix.specs.Layouts.{entries_of, size_of, lower, upper, square}
use Rattle.pivots.specs.Words.{paired, marked, stamped}
use Rattle.pivots.specs.Rule.{block_of, fault_from, checked}
use Rattle.pivots_lapack.specs.Lists.{record_of, list_of}
use Rattle.lblt_choice.specs.Choice.{choose, choice_by, contest, row_max, along_row, down_column, column_max, greater}
use Rattle.lblt.specs.Factor.{first_state, final_state, recorded}
use Rattle.lblt_pivot.specs.Interchange.{interchange, brought1, brought2}
use Rattle.lblt_pivot.specs.Pivot.{pivot1, pivot2}
use Rattle.lblt.specs.Step.{stepped, step, take, first_mark}
use Rattle.lblt_pivot.specs.Update.{rank1_at, rank1, scale_at, eliminate1, update1, block_by, block_at, multiplier, work1, work2, rank2_at, rank2_by, rank2, update2}
use Rattle.pivots.specs.Blocks.{by_size, rows_of, blocks_from, forwards, blocks_to, backwards}
use Rattle.matrix.specs.Columns.{each_column, each_chosen, at_chosen, at_column, column}
use Rattle.substitution.specs.Steps.{less_one, less_two, eliminate_one, eliminate_two, divide_one, less_product, gather_row}
use Rattle.lblt_solve_columns.specs.Column.{swap_rows, forward_block, block_determinant, divide_two, divide_block, backward_block, solve_column}
use Rattle.lblt_read.specs.Diagonal.{times_block, determinant_of}
use Rattle.cholesky.specs.Crate.{answer_to}
use Rattle.cholesky.specs.Column.{updated}
use Rattle.cholesky.specs.Run.{factor_column, factor_columns}
use Rattle.cholesky.specs.Floor.{standing}
use Rattle.cholesky.specs.Used.{used_at, used_from}
use Rattle.cholesky.specs.Floored.{used_on}
use Rattle.cholesky.specs.Solve.{solve_sides}
use Rattle.cholesky_solve.specs.Triangles.{solve_triangles}
use Rattle.teaching.specs.Promise.{reached}
use Rattle.udu.specs.Columns.{udu_diagonal, udu_entry, with_diagonal, with_column, nothing}
use Rattle.udu.specs.Promise.{udu_of}
use Rattle.cases.specs.Calls.{floats, bits_of, Gives, Case, Hold, none, more}
use Rattle.cases.specs.Table.{table}
use Rattle.cases.specs.Twins.{twin_table}
use Rattle.cases.specs.Teaching.{teaching_table}
use Rattle.cases.specs.Handheld.{handheld_table}
use Rattle.cases.specs.Tray.{tray_table}
use Rattle.handheld.specs.Shapes.{numbers_of}
use Rattle.handheld.specs.Shapes as handheld
use Rattle.matrix.proofs.Slices.{listed, overlay_at, overlay, overlaid}
use Rattle.cases.proofs.Found.{found, gives, lblt_words, lblt_slice, determinant_numbers, solve_numbers, bench_numbers, tray_numbers, read_numbers, written_numbers, cholesky_answer, cholesky_slice, cholesky_solve_numbers, teaching_answer, teaching_slice, udu_numbers, grown_numbers}

abbrev found_in : Case → List (List ℕ)
found_in c = found c.call

abbrev numbers_in : Case → List (List ℕ)
numbers_in c = c.numbers

hold : (cs : List Case) → map found_in cs ≡ map numbers_in cs → Hold cs
hold [] e = none
hold (c ∷ cs) e = more c cs (subst (Gives c.call) (ap (λ (l : List (List (List ℕ))). get_or l 0 []) e) (gives c.call)) (hold cs (ap (drop 1) e))

computed : map found_in (table ++ (twin_table ++ (teaching_table ++ (handheld_table ++ tray_table)))) ≡ map numbers_in (table ++ (twin_table ++ (teaching_table ++ (handheld_table ++ tray_table))))
unfolding tested size_of of_bits to_bits le sub mul div is_nan abs_of maximum_of root_of exchange for falling load mask lower upper square paired marked stamped block_of fault_from checked choose choice_by contest row_max along_row down_column column_max greater first_state final_state recorded interchange brought1 brought2 stepped step take pivot1 pivot2 first_mark rank1_at rank1 scale_at eliminate1 update1 block_by block_at multiplier work1 work2 rank2_at rank2_by rank2 update2 by_size rows_of blocks_from forwards blocks_to backwards swap_rows less_one less_two eliminate_one eliminate_two forward_block divide_one block_determinant divide_two divide_block less_product gather_row backward_block solve_column each_column each_chosen at_chosen at_column column times_block determinant_of answer_to standing factor_column factor_columns updated used_at used_from used_on solve_sides solve_triangles udu_diagonal udu_entry with_diagonal with_column nothing udu_of floats bits_of listed overlay_at overlay overlaid entries_of row_start new_row joined grown_numbers lblt_words lblt_slice determinant_numbers solve_numbers bench_numbers tray_numbers record_of list_of read_numbers written_numbers cholesky_answer cholesky_slice cholesky_solve_numbers reached teaching_answer teaching_slice udu_numbers numbers_of handheld.record_of
computed = refl

-- document 01's starred cases and those beside them, twin rows, the teaching engine, the handheld, and trays
pub all_cases : Hold (table ++ (twin_table ++ (teaching_table ++ (handheld_table ++ tray_table))))
all_cases = hold (table ++ (twin_table ++ (teaching_table ++ (handheld_table ++ tray_table)))) computed
