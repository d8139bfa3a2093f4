-- What a bench gets depends on nothing of the other benches' columns. Assumes nothing.
--     own_solved, others_as_given   what a call leaves in the bench's columns, and in the others
--     refused_all                   a refused call leaves all
--     others_unfelt                 two calls that agree on all but the others' columns
--     as_solved                     a call and a `solve_mut` of all columns
use Rattle.std.proofs.Common.{true, false, cond, List, ◌≡◌, refl, sym, ap, ◌∙◌, ℕ, ◌<◌, Float, length}
use Rattle.answer.specs.Answer.{Answer, is_done}
use Rattle.answer.proofs.Done.{done_or_refused, done_alike}
use Rattle.matrix.specs.declared.Layout.{Layout}
use Rattle.matrix.specs.Grid.{load}
use Rattle.matrix.specs.Layouts.{lower}
use Rattle.matrix.specs.Columns.{column}
use Rattle.matrix.proofs.Columns.{chosen_column}
use Rattle.lblt_solve_columns.specs.Column.{solve_column}
use Rattle.lblt_solve_columns.proofs.Keeps.{solve_keeps}
use Rattle.lblt_solve.specs.Solve.{LbltSolved}
use Rattle.lblt_solve.proofs.ColumnAlone.{lblt_column_solved}
use Rattle.lblt_bench.specs.Bench.{owns, BenchSolved}
use Rattle.lblt_bench.specs.Unfelt.{OwnAlike, OthersAlike, Unfelt}
use Rattle.lblt_bench.proofs.Listed.{bench_admitted, as_solve}

module _ {y : Layout} {columns bench run : ℕ} {a : List Float} {words : List ℕ} {benches : List ℕ} where
  -- ---- one call

  module _ {b : List Float} {r : Answer} {b' : List Float} (s : BenchSolved y columns bench run a words b benches r b') where
    pub refused_all : is_done r ≡ false → b' ≡ b
    refused_all refused = s.sides ∙ rw refused refl

    gone : is_done r ≡ true → (j : ℕ) → j < columns
        → column y.order j b' ≡ cond (owns benches bench j) (solve_column y.order (load (lower y) a) words (column y.order j b)) (column y.order j b)
    gone done j below =
        let known = (bench_admitted y columns run a words b benches s.answer done).1 in
        ap (column y.order j) (s.sides ∙ rw done refl)
        ∙ chosen_column y.order (solve_column y.order (load (lower y) a) words) (solve_keeps y.order (load (lower y) a) words) (owns benches bench) columns b known.long j below

    pub own_solved
        : is_done r ≡ true → (j : ℕ) → j < columns → owns benches bench j ≡ true
        → column y.order j b' ≡ solve_column y.order (load (lower y) a) words (column y.order j b)
    own_solved done j below own = gone done j below ∙ rw own refl

    -- refused or not
    pub others_as_given : OthersAlike y.order columns benches bench b' b
    others_as_given j below other =
        done_or_refused r
        (λ (done : is_done r ≡ true). gone done j below ∙ rw other refl)
        (λ (refused : is_done r ≡ false). ap (column y.order j) (refused_all refused))

  -- ---- two calls

  -- b and c are of one length and alike in the bench's columns; the others may hold anything
  pub others_unfelt
      : {b c : List Float} {r q : Answer} {b' c' : List Float}
      → BenchSolved y columns bench run a words b benches r b'
      → BenchSolved y columns bench run a words c benches q c'
      → length b ≡ length c → OwnAlike y.order columns benches bench b c
      → Unfelt y.order columns benches bench b r b' c q c'
  others_unfelt {b} {c} {r} {q} {b'} {c'} s t long alike =
      record { answers = same; own = own_same; others = (others_as_given s, others_as_given t) }
    where
      same : r ≡ q
      same = s.answer ∙ rw long refl ∙ sym t.answer

      own_same : OwnAlike y.order columns benches bench b' c'
      own_same j below own =
          done_alike same
          (λ done done'. own_solved s done j below own ∙ ap (solve_column y.order (load (lower y) a) words) (alike j below own) ∙ sym (own_solved t done' j below own))
          (λ refused refused'. ap (column y.order j) (refused_all s refused) ∙ alike j below own ∙ sym (ap (column y.order j) (refused_all t refused')))

  -- ---- beside a solve of all columns

  pub as_solved
      : {b : List Float} {r q : Answer} {b' c : List Float}
      → BenchSolved y columns bench run a words b benches r b'
      → LbltSolved y columns run a words b q c
      → length benches ≡ columns
      → (r ≡ q) × OwnAlike y.order columns benches bench b' c
  as_solved {b} {r} {q} {b'} {c} s t fits = (same, own_same)
    where
      same : r ≡ q
      same = s.answer ∙ as_solve y columns run a words b benches fits ∙ sym t.answer

      own_same : OwnAlike y.order columns benches bench b' c
      own_same j below own =
          done_alike same
          (λ done done'. own_solved s done j below own ∙ sym (lblt_column_solved t done' j below))
          (λ refused refused'. ap (column y.order j) (refused_all s refused ∙ sym (t.sides ∙ rw refused' refl)))
