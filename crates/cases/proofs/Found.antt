-- What each call gives, written out: any answer and memory that meet its promise are that. Assumes nothing.
use Rattle.std.proofs.Common.{Result, Ok, Err, ◌≡◌, refl, sym, ap, subst, ◌∙◌, Bool, true, false, cond, List, [], ◌∷◌, ℕ, ◌*◌, ◌%◌, ◌/◌, ◌<◌, length, replicate, ℤ, Float}
use lib.ListN.{length-replicate}
use lib.Ieee.{binary64, of_bits, to_bits}
use Rattle.pivots.specs.Words.{words_of}
use Rattle.answer.specs.Answer.{Answer, Done, answer_of, is_done}
use Rattle.answer.specs.Number.{number_of}
use Rattle.answer.specs.declared.Refusal.{Refusal}
use Rattle.answer.specs.Refusals.{Test, tested}
use Rattle.answer.proofs.Done.{done_or_refused}
use Rattle.answer.proofs.Tested.{tested_fixed, tested_join}
use Rattle.leaf.specs.Root.{root_of}
use Rattle.matrix.specs.Grid.{load, mask}
use Rattle.matrix.specs.declared.Layout.{Layout}
use Rattle.matrix.specs.Layouts.{full, in_room, packed, entries_of, size_of, lower, square}
use Rattle.matrix.specs.Sizes.{size_tests, sizes_of, Fits}
use Rattle.matrix.proofs.Sizes.{done_fits, laid_fits}
use Rattle.packed.specs.Growing.{grow_tests, grown, Grown}
use Rattle.packed.proofs.Growing.{grown_fits}
use Rattle.pivots_lapack.specs.declared.Stamp.{Stamp}
use Rattle.pivots_lapack.specs.Numbers.{mark_meant}
use Rattle.pivots_lapack.specs.Lists.{record_of, list_of}
use Rattle.pivots_lapack.specs.Calls.{read_tests, write_tests, stamp_of, ListRead, ListWritten}
use Rattle.lblt_choice.specs.Choice.{column_max}
use Rattle.lblt.specs.Factor.{factor_tests, final_state, recorded, Factored}
use Rattle.lblt.proofs.Done.{Same}
use Rattle.matrix.specs.Columns.{each_column, each_chosen}
use Rattle.lblt_solve_columns.specs.Column.{solve_column}
use Rattle.lblt_read.specs.Diagonal.{determinant_of}
use Rattle.lblt_read.specs.Calls.{reader_tests, column_tests, LbltDetermined}
use Rattle.lblt_solve.specs.Solve.{mark_tests, solve_tests, LbltSolved}
use Rattle.lblt_bench.specs.Bench.{owns, bench_tests, BenchSolved}
use Rattle.lblt_tray.specs.Tray.{tray_tests, matrix_at, record_at, side_at, number_at, TraySolved}
use Rattle.cholesky.specs.Run.{Rule}
use Rattle.cholesky.specs.Crate.{crate_rule}
use Rattle.cholesky.specs.Floor.{floor_rule}
use Rattle.cholesky.specs.Leaves.{Leaves}
use Rattle.cholesky.specs.Promise.{batch_by, batch, ExtendedBy}
use Rattle.cholesky.specs.Floored.{used_on}
use Rattle.cholesky.specs.Solve.{sides_tests, solve_sides, CholeskySolved}
use Rattle.pivots.specs.Rule.{checked}
use Rattle.handheld.specs.declared.Factored.{Factored as Factored3}
use Rattle.handheld.specs.Shapes as handheld
use Rattle.handheld.specs.Promise.{FactoredByValue, left_by}
use Rattle.handheld.proofs.Promises.{solve_answer_law}
use Rattle.teaching.specs.Promise.{teaching_tests, reached, Taught}
use Rattle.teaching.proofs.Promises.{taught_fits}
use Rattle.udu.specs.Promise.{udu_tests, udu_of, udu_answer, factors_of, UduFactored}
use Rattle.cases.specs.Calls.{stray, floats, bits_of, signed_bits, answered, value_bits, stamp_words, column_in, lent_words, lent_list, lent_floats, Call, lblt_factor, lblt_determinant, lblt_solve, lblt_solve_bench, lblt_tray, lblt_readers, lblt_largest, handheld_factor, handheld_solve, handheld_pivots, columns_in, pivots_from_lapack, pivots_to_lapack, cholesky_factor, cholesky_extend_floored, cholesky_teaching, cholesky_solve, cholesky_solve_sizes, packed_lblt_factor, packed_lblt_determinant, packed_lblt_solve, packed_cholesky_factor, packed_cholesky_extend, packed_cholesky_solve, packed_extend_sizes, udu_factor, root, Gives}
use Rattle.matrix.proofs.Places.{lower_low, lower_left}
use Rattle.matrix.proofs.Slices.{listed, is_listed, overlaid, holds_overlaid, lower_overlaid, fills_listed}

-- ---- LBLT's factor

module _ (y : Layout) (run : ℕ) (a : List Float) (words : List ℕ) where
  abbrev pub lblt_answer : Answer
  lblt_answer = tested (factor_tests y a words) Done

  unfoldable pub lblt_words : List ℕ
  lblt_words = cond (is_done lblt_answer) (recorded y.order run (load (lower y) a) words) words

  unfoldable pub lblt_slice : List Float
  lblt_slice = cond (is_done lblt_answer) (overlaid (lower y) y.order a (final_state y.order (load (lower y) a) words).matrix) a

  pub factors : {r : Answer} {a' : List Float} {words' : List ℕ} → Factored y run a words r a' words' → Same r lblt_answer a' lblt_slice words' lblt_words
  unfolding lblt_words lblt_slice
  factors {r} {a'} {words'} f = at (is_done r) refl
    where
      same : {b : Bool} → is_done r ≡ b → is_done lblt_answer ≡ b
      same e = ap is_done (sym f.answer) ∙ e

      fits : is_done lblt_answer ≡ true → Fits y 0 (length a)
      fits done = done_fits y 0 (length a) _ (ap is_done (sym (tested_join (size_tests y 0 (length a)) _ Done)) ∙ done)

      at : (b : Bool) → is_done r ≡ b → Same r lblt_answer a' lblt_slice words' lblt_words
      at true e =
          let stored = f.left.done e in
          record { answer = f.answer; matrix = rw (same e) (lower_overlaid (laid_fits {l = a} (fits (same e))) stored.matrix); pivots = rw (same e) stored.pivots }
      at false e =
          let kept = f.left.refused e in
          record { answer = f.answer; matrix = rw (same e) kept.matrix; pivots = rw (same e) kept.pivots }

-- ---- LBLT's readers

-- a refusal's code and place do not hang on what a done call gives
answered_done : {A : Type 0} (tests : List Test) (x : A) → answered (tested tests (Ok x)) ≡ answered (tested tests Done)
unfolding tested
answered_done [] x = refl
answered_done {A} (t ∷ tests) x = by t.holds (answered_done tests x)
  where
    by : (b : Bool) → answered (tested tests (Ok x)) ≡ answered (tested tests Done)
        → answered (cond b (tested tests (Ok x)) (Err t.refusal)) ≡ answered (cond b (tested tests Done) (Err t.refusal))
    by true rest = rest
    by false rest = refl

module _ (y : Layout) (run : ℕ) (a : List Float) (words : List ℕ) where
  unfoldable pub determinant_numbers : List (List ℕ)
  determinant_numbers =
      let v = tested (reader_tests y run a words) (Ok (determinant_of y.order (load (lower y) a) words)) in
      answered v ∷ (value_bits v ∷ []) ∷ []

  pub determines : {v : Result Float Refusal} → LbltDetermined y run a words v → (answered v ∷ (value_bits v ∷ []) ∷ []) ≡ determinant_numbers
  unfolding determinant_numbers
  determines d = rw d.answer

  unfoldable pub solve_numbers : List Float → List (List ℕ)
  solve_numbers b =
      let r = tested (solve_tests y 1 run a words b) Done in
      answered r ∷ bits_of (cond (is_done r) (each_column y.order 1 (solve_column y.order (load (lower y) a) words) b) b) ∷ []

  pub solves : {b b' : List Float} {r : Answer} → LbltSolved y 1 run a words b r b' → (answered r ∷ bits_of b' ∷ []) ≡ solve_numbers b
  unfolding solve_numbers
  solves s = rw (s.sides, s.answer)

  unfoldable pub bench_numbers : ℕ → ℕ → List ℕ → List Float → List (List ℕ)
  bench_numbers columns bench benches b =
      let r = tested (bench_tests y columns run a words b benches) Done in
      answered r ∷ bits_of (cond (is_done r) (each_chosen y.order columns (owns benches bench) (solve_column y.order (load (lower y) a) words) b) b) ∷ []

  pub solves_bench
      : {columns bench : ℕ} {benches : List ℕ} {b b' : List Float} {r : Answer} → BenchSolved y columns bench run a words b benches r b'
      → (answered r ∷ bits_of b' ∷ []) ≡ bench_numbers columns bench benches b
  unfolding bench_numbers
  solves_bench s = rw (s.sides, s.answer)

-- ---- an item of a tray

module _ (n count : ℕ) (a : List Float) (words : List ℕ) (b : List Float) (runs answers : List ℕ) (t : ℕ) where
  abbrev tray_answer : Answer
  tray_answer = tested (tray_tests n count a words b runs answers) Done

  abbrev item_slice : List Float
  item_slice = lblt_slice (full n) (number_at t runs) (matrix_at n t a) (record_at n t words)

  abbrev item_words : List ℕ
  item_words = lblt_words (full n) (number_at t runs) (matrix_at n t a) (record_at n t words)

  abbrev item_answer : Answer
  item_answer = tested (solve_tests (full n) 1 (number_at t runs) item_slice item_words (side_at n t b)) Done

  abbrev item_side : List Float
  item_side = cond (is_done item_answer) (each_column n 1 (solve_column n (load (lower (full n)) item_slice) item_words) (side_at n t b)) (side_at n t b)

  unfoldable pub tray_numbers : List (List ℕ)
  tray_numbers =
      answered tray_answer
      ∷ (cond (is_done tray_answer) (number_of item_answer) (number_at t answers) ∷ [])
      ∷ cond (is_done tray_answer) item_words (record_at n t words)
      ∷ bits_of (cond (is_done tray_answer) item_slice (matrix_at n t a))
      ∷ bits_of (cond (is_done tray_answer) item_side (side_at n t b))
      ∷ []

  module _ {r : Answer} {a' : List Float} {words' : List ℕ} {b' : List Float} {answers' : List ℕ} (d : TraySolved n count a words b runs answers r a' words' b' answers') (below : t < count) where
    is : {v : Bool} → is_done r ≡ v → is_done tray_answer ≡ v
    is e = ap is_done (sym d.answer) ∙ e

    pub tray_gives : (answered r ∷ (number_at t answers' ∷ []) ∷ record_at n t words' ∷ bits_of (matrix_at n t a') ∷ bits_of (side_at n t b') ∷ []) ≡ tray_numbers
    unfolding tray_numbers
    tray_gives =
        done_or_refused r
        (λ (done : is_done r ≡ true).
        let item = (d.left.done done).items t below in
        let g = factors (full n) (number_at t runs) (matrix_at n t a) (record_at n t words) item.factor in
        let by : LbltSolved (full n) 1 (number_at t runs) item_slice item_words (side_at n t b) item.answer (side_at n t b') = rw (g.matrix, g.pivots) at item.solve in
        let number : number_at t answers' ≡ number_of item_answer = item.numbered ∙ ap number_of by.answer in
        let side : side_at n t b' ≡ item_side =
        by.sides ∙ ap (λ (q : Answer). cond (is_done q) (each_column n 1 (solve_column n (load (lower (full n)) item_slice) item_words) (side_at n t b)) (side_at n t b)) by.answer in
        rw (is done, number, g.pivots, g.matrix, side, d.answer))
        (λ (refused : is_done r ≡ false).
        let left = d.left.refused refused in
        rw (is refused, left.answered, left.records, left.matrices, left.sides, d.answer))

-- ---- LAPACK pivot lists

module _ (n : ℕ) (words : List ℕ) (list : List ℤ) where
  unfoldable pub read_numbers : ℕ → ℤ → List (List ℕ)
  read_numbers run info =
      let r = tested (read_tests n run list info words) Done in
      answered r ∷ cond (is_done r) (record_of list (mark_meant n info) run) words ∷ []

  pub reads : {run : ℕ} {info : ℤ} {r : Answer} {words' : List ℕ} → ListRead n run list info words r words' → (answered r ∷ words' ∷ []) ≡ read_numbers run info
  unfolding read_numbers
  reads d = rw (d.pivots, d.answer)

  unfoldable pub written_numbers : List (List ℕ)
  written_numbers =
      let r = tested (write_tests n words list) (Ok (stamp_of n words)) in
      answered r ∷ signed_bits (cond (is_done r) (list_of n words) list) ∷ stamp_words r ∷ []

  pub writes : {r : Result Stamp Refusal} {list' : List ℤ} → ListWritten n words list r list' → (answered r ∷ signed_bits list' ∷ stamp_words r ∷ []) ≡ written_numbers
  unfolding written_numbers
  writes d = rw (d.numbers, d.answer)

-- ---- Cholesky's factor and further batch, by any rule, and its solve

module _ (ρ : Rule) (y : Layout) (m : ℕ) (a : List Float) where
  unfoldable pub cholesky_answer : Answer
  cholesky_answer = tested (size_tests y m (length a)) (batch_by ρ y m a).answer

  unfoldable pub cholesky_slice : List Float
  cholesky_slice = cond (is_done (sizes_of y m a)) (overlaid (lower y) y.order a (mask (lower y) (batch_by ρ y m a).cells)) a

  pub extends : {l : List Float} {r : Answer} → ExtendedBy ρ y m a l r → (r ≡ cholesky_answer) × (l ≡ cholesky_slice)
  unfolding cholesky_answer cholesky_slice
  extends f = (
    f.answer,
    done_or_refused (sizes_of y m a)
        (λ done. rw done (lower_overlaid (laid_fits {l = a} (done_fits y m (length a) Done done)) (f.left.done done).holds))
        (λ failed. rw failed (f.left.refused failed)),
  )

module _ (y : Layout) (a : List Float) where
  unfoldable pub cholesky_solve_numbers : List Float → List (List ℕ)
  cholesky_solve_numbers b =
      let r = tested (sides_tests y 1 (length a) (length b)) Done in
      answered r ∷ bits_of (cond (is_done r) (solve_sides (lower y) y.order 1 a b) b) ∷ []

  pub solves_triangles : {b c : List Float} {r : Answer} → CholeskySolved y 1 a b c r → (answered r ∷ bits_of c ∷ []) ≡ cholesky_solve_numbers b
  unfolding cholesky_solve_numbers
  solves_triangles s = rw (s.sides, s.answer)

-- ---- the teaching engine

module _ (room n : ℕ) (a : List Float) where
  unfoldable pub teaching_answer : Answer
  teaching_answer = tested (teaching_tests room n (length a)) (batch (in_room n room) 0 a).answer

  unfoldable pub teaching_slice : List Float
  teaching_slice =
      let rows = reached n teaching_answer in
      cond (is_done (tested (teaching_tests room n (length a)) Done)) (overlaid (lower (in_room rows room)) rows a (mask (lower (in_room rows room)) (batch (in_room n room) 0 a).cells)) a

  pub teaches : {l : List Float} {r : Answer} → Taught room n a l r → (r ≡ teaching_answer) × (l ≡ teaching_slice)
  unfolding teaching_answer teaching_slice lower size_of
  teaches {l} t = (
    t.answer,
    done_or_refused (tested (teaching_tests room n (length a)) Done)
        (λ done.
        let left = subst (λ (s : Answer). Leaves (in_room (reached n s) room) a l (batch (in_room n room) 0 a).cells) t.answer (t.left.done done) in
        let y = in_room (reached n teaching_answer) room in
        rw done (holds_overlaid y.order (lower_low y) (lower_left y) (taught_fits room n (length a) done).long left.holds))
        (λ failed. rw failed (t.left.refused failed)),
  )

-- ---- the packed further batch

module _ (m n : ℕ) (old rows fresh : List Float) where
  abbrev grow_sizes : Answer
  grow_sizes = tested (grow_tests m n (length old) (length rows) (length fresh)) Done

  unfoldable pub grown_numbers : List (List ℕ)
  grown_numbers =
      answered (tested (grow_tests m n (length old) (length rows) (length fresh)) (grown m n old rows).answer)
      ∷ bits_of (cond (is_done grow_sizes) (overlaid (lower (packed n)) n fresh (mask (lower (packed n)) (grown m n old rows).cells)) fresh) ∷ []

  pub grows : {r : Answer} {fresh' : List Float} → Grown m n old rows fresh r fresh' → (answered r ∷ bits_of fresh' ∷ []) ≡ grown_numbers
  unfolding grown_numbers
  grows {r} {fresh'} g =
      let left : fresh' ≡ cond (is_done grow_sizes) (overlaid (lower (packed n)) n fresh (mask (lower (packed n)) (grown m n old rows).cells)) fresh =
      done_or_refused grow_sizes
      (λ done. rw done (lower_overlaid (laid_fits {l = fresh} (grown_fits m n old rows fresh done)) (g.left.done done).holds))
      (λ refused. rw refused (g.left.refused refused)) in
      rw (g.answer, left)

-- ---- UDU

module _ (n : ℕ) (p u₀ d₀ : List Float) where
  abbrev udu_sizes : Answer
  udu_sizes = tested (udu_tests n (length p) (length u₀) (length d₀)) Done

  abbrev udu_upper : List Float
  udu_upper = cond (is_done udu_sizes) (listed (λ q. mask (square n) (factors_of (udu_of n p)).u (q % n) (q / n)) (n * n)) u₀

  abbrev udu_diagonals : List Float
  udu_diagonals = cond (is_done udu_sizes) (listed (factors_of (udu_of n p)).d n) d₀

  unfoldable pub udu_numbers : List (List ℕ)
  udu_numbers = answered (tested (udu_tests n (length p) (length u₀) (length d₀)) (udu_answer (udu_of n p))) ∷ bits_of udu_upper ∷ bits_of udu_diagonals ∷ []

  pub factors_udu : {u d : List Float} {r : Answer} → UduFactored p u₀ d₀ n r u d → (answered r ∷ bits_of u ∷ bits_of d ∷ []) ≡ udu_numbers
  unfolding udu_numbers
  factors_udu {u} {d} f =
      let g : (u ≡ udu_upper) × (d ≡ udu_diagonals) = done_or_refused udu_sizes
      (λ e. let held = f.slices.done e in
      (rw e (fills_listed held.upper), rw e (is_listed d (factors_of (udu_of n p)).d n held.diagonal.long held.diagonal.cells)))
      (λ e. let kept = f.slices.refused e in (rw e kept.upper, rw e kept.diagonal)) in
      rw (f.answer, g.0, g.1)

-- ---- what each call gives

-- what LBLT's factor leaves
abbrev pub left_slice : Layout → ℕ → List ℕ → List Float
left_slice y run a = lblt_slice y run (floats a) (lent_words y.order)

abbrev pub left_words : Layout → ℕ → List ℕ → List ℕ
left_words y run a = lblt_words y run (floats a) (lent_words y.order)

-- and the handheld's, as slices
abbrev pub handheld_words : List ℕ → List ℕ
handheld_words a = lblt_words (full 3) 0 (handheld.numbers_of (columns_in a)) (lent_words 3)

abbrev pub handheld_slice : List ℕ → List Float
handheld_slice a = lblt_slice (full 3) 0 (handheld.numbers_of (columns_in a)) (lent_words 3)

-- the code and the place of a call that gives a value
answered_value : {A : Type 0} (r : Result A Refusal) → answered r ≡ answered (answer_of r)
answered_value (Ok x) = refl
answered_value (Err refusal) = refl

handheld_factors : (a : List ℕ) {r : Factored3} → FactoredByValue (columns_in a) r → (handheld.record_of 0 r.pivots ≡ handheld_words a) × (handheld.numbers_of r.matrix ≡ handheld_slice a)
handheld_factors a f = let g = factors (full 3) 0 (handheld.numbers_of (columns_in a)) (lent_words 3) (f.lent 0 (lent_words 3) refl) in (g.pivots, g.matrix)

abbrev pub found : Call → List (List ℕ)
found (lblt_factor n run a) = answered (lblt_answer (full n) run (floats a) (lent_words n)) ∷ left_words (full n) run a ∷ bits_of (left_slice (full n) run a) ∷ []
found (lblt_determinant n run expected a) = determinant_numbers (full n) expected (left_slice (full n) run a) (left_words (full n) run a)
found (lblt_solve n run expected a b) = solve_numbers (full n) expected (left_slice (full n) run a) (left_words (full n) run a) (floats b)
found (lblt_solve_bench n run expected columns bench benches a b) = bench_numbers (full n) expected (left_slice (full n) run a) (left_words (full n) run a) columns bench benches (floats b)
found (lblt_tray n count runs a b t) = tray_numbers n count (floats a) (replicate (words_of n * count) 99) (floats b) runs (replicate count 99) t
found (lblt_readers n expected words) =
    let matrix = lent_floats (n * n) in
    let filled = answered (tested (column_tests (full n) n expected matrix words matrix) Done) in
    answered (tested (solve_tests (full n) 1 expected matrix words (lent_floats n)) Done) ∷ answered (tested (reader_tests (full n) expected matrix words) Done) ∷ filled ∷ filled ∷ []
found (lblt_largest n a k) = ((column_max n (load (lower (full n)) (floats a)) k).imax ∷ []) ∷ []
found (handheld_factor a) = handheld_words a ∷ bits_of (handheld_slice a) ∷ []
found (handheld_solve a b) = solve_numbers (full 3) 0 (handheld_slice a) (handheld_words a) (floats b)
found (handheld_pivots index size mark) = let words = handheld.record_of 0 (record { index = index; size = size; mark = mark }) in answered (cond (is_done (checked 3 words)) (tested (mark_tests 3 words) Done) (checked 3 words)) ∷ []
found (pivots_from_lapack n run list info) = read_numbers n (lent_words n) list run info
found (pivots_to_lapack n words) = written_numbers n words (lent_list n)
found (cholesky_factor room n a) = answered (cholesky_answer crate_rule (in_room n room) 0 (floats a)) ∷ bits_of (cholesky_slice crate_rule (in_room n room) 0 (floats a)) ∷ []
found (cholesky_extend_floored room m n floor a) =
    let s = of_bits binary64 floor in
    answered (cholesky_answer (floor_rule s) (in_room n room) m (floats a)) ∷ (used_on s (in_room n room) m (floats a) ∷ []) ∷ bits_of (cholesky_slice (floor_rule s) (in_room n room) m (floats a)) ∷ []
found (cholesky_teaching room n a) = answered (teaching_answer room n (floats a)) ∷ bits_of (teaching_slice room n (floats a)) ∷ []
found (cholesky_solve room n a b) = cholesky_solve_numbers (in_room n room) (cholesky_slice crate_rule (in_room n room) 0 (floats a)) (floats b)
found (cholesky_solve_sizes room n columns factor sides) = answered (tested (sides_tests (in_room n room) columns factor sides) Done) ∷ []
found (packed_lblt_factor n run a) = answered (lblt_answer (packed n) run (floats a) (lent_words n)) ∷ left_words (packed n) run a ∷ bits_of (left_slice (packed n) run a) ∷ []
found (packed_lblt_determinant n run expected a) = determinant_numbers (packed n) expected (left_slice (packed n) run a) (left_words (packed n) run a)
found (packed_lblt_solve n run expected a b) = solve_numbers (packed n) expected (left_slice (packed n) run a) (left_words (packed n) run a) (floats b)
found (packed_cholesky_factor n a) = answered (cholesky_answer crate_rule (packed n) 0 (floats a)) ∷ bits_of (cholesky_slice crate_rule (packed n) 0 (floats a)) ∷ []
found (packed_cholesky_extend m n old rows) = grown_numbers m n (floats old) (floats rows) (lent_floats (entries_of n))
found (packed_cholesky_solve n a b) = cholesky_solve_numbers (packed n) (cholesky_slice crate_rule (packed n) 0 (floats a)) (floats b)
found (packed_extend_sizes m n old rows fresh) = answered (tested (grow_tests m n old rows fresh) Done) ∷ []
found (udu_factor n p) = udu_numbers n (floats p) (lent_floats (n * n)) (lent_floats n)
found (root x) = (to_bits binary64 (root_of (of_bits binary64 x)) ∷ []) ∷ []

pub gives : (c : Call) → Gives c (found c)
gives (lblt_factor n run a) = λ r a' words f. let g = factors (full n) run (floats a) (lent_words n) f in rw (g.answer, g.pivots, g.matrix)
gives (lblt_determinant n run expected a) = λ r a' words v f d.
    let g = factors (full n) run (floats a) (lent_words n) f in
    let by : LbltDetermined (full n) expected (left_slice (full n) run a) (left_words (full n) run a) v = rw (g.matrix, g.pivots) at d in
    determines (full n) expected (left_slice (full n) run a) (left_words (full n) run a) by
gives (lblt_solve n run expected a b) = λ r s a' b' words f d.
    let g = factors (full n) run (floats a) (lent_words n) f in
    let by : LbltSolved (full n) 1 expected (left_slice (full n) run a) (left_words (full n) run a) (floats b) s b' = rw (g.matrix, g.pivots) at d in
    solves (full n) expected (left_slice (full n) run a) (left_words (full n) run a) by
gives (lblt_solve_bench n run expected columns bench benches a b) = λ r s a' b' words f d.
    let g = factors (full n) run (floats a) (lent_words n) f in
    let by : BenchSolved (full n) columns bench expected (left_slice (full n) run a) (left_words (full n) run a) (floats b) benches s b' = rw (g.matrix, g.pivots) at d in
    solves_bench (full n) expected (left_slice (full n) run a) (left_words (full n) run a) by
gives (lblt_tray n count runs a b t) = λ r a' words b' answers d below.
    tray_gives n count (floats a) (replicate (words_of n * count) 99) (floats b) runs (replicate count 99) t d below
gives (lblt_readers n expected words) = λ r s t v a b b' d d' l l' long-a long-b long-d long-l solved determined d-filled l-filled.
    rw (solved.answer, determined.answer, answered_done (reader_tests (full n) expected a words) (determinant_of n (load (lower (full n)) a) words), d-filled.answer, l-filled.answer, long-a, long-b, long-d, long-l, length-replicate (n * n) (of_bits binary64 stray), length-replicate n (of_bits binary64 stray))
gives (lblt_largest n a k) = λ r e. rw e
gives (handheld_factor a) = λ r f. let g = handheld_factors a f in rw (g.0, g.1)
gives (handheld_solve a b) = λ r s f d.
    let g = handheld_factors a f in
    let by : LbltSolved (full 3) 1 0 (handheld_slice a) (handheld_words a) (floats b) (answer_of s) (left_by (column_in b) s).row = rw (g.0, g.1) at (d.lent 0) in
    rw (answered_value s) (solves (full 3) 0 (handheld_slice a) (handheld_words a) by)
gives (handheld_pivots index size mark) = λ matrix side s square three d. rw (answered_value s) (ap (λ (r : Answer). answered r ∷ []) (solve_answer_law square three d))
gives (pivots_from_lapack n run list info) = λ r words d. reads n (lent_words n) list d
gives (pivots_to_lapack n words) = λ r list d. writes n words (lent_list n) d
gives (cholesky_factor room n a) = λ r l f. let g = extends crate_rule (in_room n room) 0 (floats a) f in rw (g.0, g.1)
gives (cholesky_extend_floored room m n floor a) = λ r l f. let g = extends (floor_rule (of_bits binary64 floor)) (in_room n room) m (floats a) f.extended in rw (g.0, g.1, f.used)
gives (cholesky_teaching room n a) = λ r l t. let g = teaches room n (floats a) t in rw (g.0, g.1)
gives (cholesky_solve room n a b) = λ r s l c f d.
    let by : CholeskySolved (in_room n room) 1 (cholesky_slice crate_rule (in_room n room) 0 (floats a)) (floats b) c s = rw (extends crate_rule (in_room n room) 0 (floats a) f).1 at d in
    solves_triangles (in_room n room) (cholesky_slice crate_rule (in_room n room) 0 (floats a)) by
gives (cholesky_solve_sizes room n columns factor sides) = λ r a b c long wide d. rw (d.answer, long, wide)
gives (packed_lblt_factor n run a) = λ r a' words f. let g = factors (packed n) run (floats a) (lent_words n) f in rw (g.answer, g.pivots, g.matrix)
gives (packed_lblt_determinant n run expected a) = λ r a' words v f d.
    let g = factors (packed n) run (floats a) (lent_words n) f in
    let by : LbltDetermined (packed n) expected (left_slice (packed n) run a) (left_words (packed n) run a) v = rw (g.matrix, g.pivots) at d in
    determines (packed n) expected (left_slice (packed n) run a) (left_words (packed n) run a) by
gives (packed_lblt_solve n run expected a b) = λ r s a' b' words f d.
    let g = factors (packed n) run (floats a) (lent_words n) f in
    let by : LbltSolved (packed n) 1 expected (left_slice (packed n) run a) (left_words (packed n) run a) (floats b) s b' = rw (g.matrix, g.pivots) at d in
    solves (packed n) expected (left_slice (packed n) run a) (left_words (packed n) run a) by
gives (packed_cholesky_factor n a) = λ r l f. let g = extends crate_rule (packed n) 0 (floats a) f in rw (g.0, g.1)
gives (packed_cholesky_extend m n old rows) = λ r fresh f. grows m n (floats old) (floats rows) (lent_floats (entries_of n)) f
gives (packed_cholesky_solve n a b) = λ r s l c f d.
    let by : CholeskySolved (packed n) 1 (cholesky_slice crate_rule (packed n) 0 (floats a)) (floats b) c s = rw (extends crate_rule (packed n) 0 (floats a) f).1 at d in
    solves_triangles (packed n) (cholesky_slice crate_rule (packed n) 0 (floats a)) by
gives (packed_extend_sizes m n old rows fresh) = λ r a b c c' long wide tall refused d.
    let by : r ≡ tested (grow_tests m n old rows fresh) (grown m n a b).answer = rw (long, wide, tall) at d.answer in
    ap (λ (x : Answer). answered x ∷ []) (by ∙ tested_fixed (grow_tests m n old rows fresh) (grown m n a b).answer refused)
gives (udu_factor n p) = λ r u d f. factors_udu n (floats p) (lent_floats (n * n)) (lent_floats n) f
gives (root x) = λ r e. rw e
