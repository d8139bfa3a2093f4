-- An item's solve reads the record that its own factor has just written: nothing refuses it but the mark. Assumes nothing.
--     item_readable   the factor and the record fit
--     item_unmarked   no mark: the item is solved
--     item_marked     a mark: 6 at its row, the side as it was
use Rattle.std.proofs.Common.{Err, List, ◌≡◌, refl, sym, ◌∙◌, ℕ, ◌-◌, ◌*◌, arith, Float, length}
use Rattle.answer.specs.declared.Refusal.TheVariants.{ZeroMark}
use Rattle.answer.specs.Answer.{Done}
use Rattle.answer.specs.Number.{refusal_number}
use Rattle.answer.specs.Refusals.{tested}
use Rattle.matrix.specs.Grid.{load}
use Rattle.matrix.specs.Layouts.{full, lower}
use Rattle.matrix.proofs.Columns.{one_column, whole_column}
use Rattle.matrix.specs.Sizes.{Fits}
use Rattle.matrix.proofs.Sizes.{full_fits, laid_fits}
use Rattle.pivots.specs.Words.{mark_at}
use Rattle.pivots.specs.Rule.{Accepted}
use Rattle.lblt.specs.Factor.{Factored}
use Rattle.lblt.proofs.Accepted.{factor_accepted, factor_run}
use Rattle.lblt_read.specs.Calls.{column_tests}
use Rattle.lblt_read.proofs.Runs.{columns_expected}
use Rattle.lblt_solve_columns.specs.Column.{solve_column}
use Rattle.lblt_solve_columns.specs.inner.Engine.{Readable}
use Rattle.lblt_solve.proofs.Marked.{solve_answers, unmarked, marked}
use Rattle.lblt_tray.specs.Tray.{ItemSolved}

module _ {n run : ℕ} {a : List Float} {words : List ℕ} {a' : List Float} {words' : List ℕ} (f : Factored (full n) run a words Done a' words') (b : List Float) (side : length b ≡ n) where
  accepted : Accepted n words'
  accepted = factor_accepted f refl

  square : length a' ≡ n * n
  unfolding lower
  square = (f.left.done refl).matrix.sound.long

  fits : Fits (full n) 0 (length a')
  fits = full_fits n (length a') accepted.sized.order square

  pub item_readable : Readable (full n) a' words'
  item_readable = record { factor = laid_fits fits; accepted = accepted }

  read : Done ≡ tested (column_tests (full n) 1 run a' words' b) Done
  read =
      columns_expected (full n) run a' words' fits accepted 1 (omega arith) b (omega (arith, side)) (factor_run f refl)

  pub item_unmarked : {b' : List Float} → mark_at n words' ≡ 0 → b' ≡ solve_column n (load (lower (full n)) a') words' b → ItemSolved n run a words b 0 a' words' b'
  item_unmarked none solved =
      let solve : List Float → List Float = solve_column n (load (lower (full n)) a') words' in
      record {
        factor = f;
        answer = Done;
        solve = record {
          answer = solve_answers (full n) 1 run a' words' b read (unmarked n words' refl none);
          sides = one_column n solve b refl (solved ∙ sym (whole_column n solve b side));
        };
        numbered = refl;
      }

  pub item_marked : {mark number : ℕ} → mark ≡ mark_at n words' → (mark ≡ 0 → ⊥) → number ≡ refusal_number (ZeroMark (mark - 1)) → ItemSolved n run a words b number a' words' b
  item_marked {mark} is set numbered =
      record {
        factor = f;
        answer = Err (ZeroMark (mark - 1));
        solve = record { answer = solve_answers (full n) 1 run a' words' b read (marked n words' is set); sides = refl };
        numbered = numbered;
      }
