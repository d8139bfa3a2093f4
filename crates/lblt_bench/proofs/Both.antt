-- Both benches have called, in whichever order: what stands in b is what one `solve_mut` of all columns leaves. Assumes nothing.
use Rattle.std.proofs.Common.{true, false, cond, List, ◌⊎◌, ⊎_elim, ◌≡◌, refl, sym, ap, ◌∙◌, ℕ, ◌<◌, Float, length, get_or, eq-eqb, ne_eqb}
use Rattle.answer.specs.Answer.{Answer, is_done}
use Rattle.answer.proofs.Done.{done_or_refused}
use Rattle.matrix.specs.declared.Layout.{Layout}
use Rattle.matrix.specs.Grid.{load}
use Rattle.matrix.specs.Layouts.{lower}
use Rattle.matrix.specs.Columns.{column, each_column, each_chosen}
use Rattle.matrix.proofs.Columns.{each_column_law, each_long, chosen_long, columns_same}
use Rattle.matrix.proofs.ColumnsLoops.{Keeping}
use Rattle.lblt_read.proofs.Admitted.{Columned}
use Rattle.lblt_solve_columns.specs.Column.{solve_column}
use Rattle.lblt_solve_columns.proofs.Keeps.{solve_keeps}
use Rattle.lblt_solve.specs.Solve.{LbltSolved}
use Rattle.lblt_bench.specs.Bench.{owns, BenchSolved}
use Rattle.lblt_bench.proofs.Listed.{bench_admitted, as_solve}
use Rattle.lblt_bench.proofs.Unfelt.{own_solved, others_as_given, refused_all}

module _ {y : Layout} {columns run : ℕ} {a : List Float} {words : List ℕ} {benches : List ℕ} where
  bench_long : {bench : ℕ} {b : List Float} {r : Answer} {b' : List Float} → BenchSolved y columns bench run a words b benches r b' → length b' ≡ length b
  bench_long {bench} {b} {r} {b'} s =
      done_or_refused r
      (λ (done : is_done r ≡ true).
      let known = (bench_admitted y columns run a words b benches s.answer done).1 in
      let is : b' ≡ each_chosen y.order columns (owns benches bench) (solve_column y.order (load (lower y) a) words) b = s.sides ∙ rw done refl in
      ap length is
      ∙ chosen_long y.order (solve_column y.order (load (lower y) a) words) (solve_keeps y.order (load (lower y) a) words) (owns benches bench) columns b known.long)
      (λ refused. ap length (refused_all s refused))

  -- the list holds no third number
  pub both_solved
      : {left right : ℕ} → (left ≡ right → ⊥) → length benches ≡ columns
      → ((j : ℕ) → j < columns → (get_or benches j 0 ≡ left) ⊎ (get_or benches j 0 ≡ right))
      → {b : List Float} {r q : Answer} {b' c : List Float}
      → BenchSolved y columns left run a words b benches r b'
      → BenchSolved y columns right run a words b' benches q c
      → LbltSolved y columns run a words b r c × (q ≡ r)
  both_solved {left} {right} differ fits both {b} {r} {q} {b'} {c} s t =
      (record { answer = s.answer ∙ as_solve y columns run a words b benches fits; sides = done_or_refused r all none }, same)
    where
      solve : List Float → List Float
      solve = solve_column y.order (load (lower y) a) words

      same : q ≡ r
      same = t.answer ∙ rw (bench_long s) refl ∙ sym s.answer

      all : is_done r ≡ true → c ≡ cond (is_done r) (each_column y.order columns solve b) b
      all done =
          rw done
          (columns_same y.order columns c (each_column y.order columns solve b) (bench_long t ∙ bench_long s ∙ known.long) (each_long y.order solve keeps columns b known.long ∙ known.long)
          (λ j below. solved j below ∙ sym (each_column_law y.order solve keeps columns b known.long j below)))
        where
          known : Columned y columns a words b
          known = (bench_admitted y columns run a words b benches s.answer done).1

          keeps : Keeping solve
          keeps = solve_keeps y.order (load (lower y) a) words

          done' : is_done q ≡ true
          done' = ap is_done same ∙ done

          solved : (j : ℕ) → j < columns → column y.order j c ≡ solve (column y.order j b)
          solved j below =
              ⊎_elim
              (λ (is : get_or benches j 0 ≡ left).
              others_as_given t j below (ne_eqb (get_or benches j 0) right (λ e. differ (sym is ∙ e)))
              ∙ own_solved s done j below (eq-eqb (get_or benches j 0) left is))
              (λ (is : get_or benches j 0 ≡ right).
              own_solved t done' j below (eq-eqb (get_or benches j 0) right is)
              ∙ ap solve (others_as_given s j below (ne_eqb (get_or benches j 0) left (λ e. differ (sym e ∙ is)))))
              (both j below)

      none : is_done r ≡ false → c ≡ cond (is_done r) (each_column y.order columns solve b) b
      none refused = rw refused (refused_all t (ap is_done same ∙ refused) ∙ refused_all s refused)
