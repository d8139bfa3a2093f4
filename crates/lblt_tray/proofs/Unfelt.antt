-- What an item is left with hangs on its matrix, its side and its run number alone. Assumes nothing.
--     item_alike    two items that are given the same
--     tray_once     two answers that meet the promise of `tray` are equal, and so is all that they leave behind
--     item_alone    an item of one tray beside an item of another, whatever their neighbours hold
--     item_as_calls a factor call and a solve call on an item's parts
--     marked_item, unmarked_item   6 at its row and its side as it was; or done and solved
use mathlib.Core.Bool.{true}
use mathlib.Core.List.{List}
use mathlib.Core.Path.{◌≡◌, refl, sym, ap, ◌∙◌}
use Prim.Native.Nat.{ℕ, ◌+◌, ◌-◌, ◌*◌, ◌<◌}
use native.Mathlib.Omega.{arith}
use lib.Ieee.{Float}
use lib.ListN.{length}
use lib.Seq.{ext_get_or}
use Rattle.answer.specs.Answer.{Answer, Done, is_done}
use Rattle.answer.specs.Number.{number_of}
use Rattle.answer.proofs.Done.{done_alike}
use Rattle.matrix.specs.Grid.{load}
use Rattle.matrix.specs.Layouts.{full, lower}
use Rattle.matrix.proofs.Columns.{columns_same}
use Rattle.matrix.proofs.ColumnsLent.{column_long}
use Rattle.pivots.specs.Words.{words_of, mark_at}
use Rattle.lblt.specs.Factor.{Factored}
use Rattle.lblt.proofs.Overwritten.{factored_over}
use Rattle.lblt_solve_columns.specs.Column.{solve_column}
use Rattle.lblt_solve.specs.Solve.{LbltSolved}
use Rattle.lblt_solve.proofs.Once.{solved_once}
use Rattle.lblt_tray.specs.Tray.{ItemSolved, ItemAt, matrix_at, record_at, side_at, number_at, EachSolved, TraySolved}
use Rattle.lblt_tray.specs.Alone.{GivenAlike, LeftAlike}
use Rattle.lblt_tray.specs.inner.Engine.{Trayed}
use Rattle.lblt_tray.proofs.Own.{item_marked, item_unmarked}
use Rattle.lblt_tray.proofs.Sizes.{trayed}

-- ---- one item

pub record SameItem (number : ℕ) (a : List Float) (words : List ℕ) (b : List Float) (number' : ℕ) (a' : List Float) (words' : List ℕ) (b' : List Float) : Type 0 where
  pub matrix : a ≡ a'
  pub pivots : words ≡ words'
  pub side : b ≡ b'
  pub answer : number ≡ number'

module _ {n run : ℕ} {a : List Float} {b : List Float} where
  -- a factor call and a solve call, over whatever stood in the record
  pub item_as_calls
      : {words words₀ : List ℕ} {r q : Answer} {number : ℕ} {a' a₁ : List Float} {words' words₁ : List ℕ} {b' b₁ : List Float}
      → ItemSolved n run a words b number a' words' b' → length words₀ ≡ words_of n
      → Factored (full n) run a words₀ r a₁ words₁ → LbltSolved (full n) 1 run a₁ words₁ b q b₁
      → (r ≡ Done) × SameItem number a' words' b' (number_of q) a₁ words₁ b₁
  item_as_calls {q = q} {number} {a'} {a₁} {words'} {words₁} {b'} {b₁} item long f s =
      let same = factored_over item.factor f long in
      let again : LbltSolved (full n) 1 run a' words' b q b₁ = rw (same.matrix, same.pivots) s in
      let solved = solved_once item.solve again in
      (sym same.answer, record { matrix = same.matrix; pivots = same.pivots; side = solved.1; answer = item.numbered ∙ ap number_of solved.0 })

  pub item_alike
      : {words words₀ : List ℕ} {number number₀ : ℕ} {a' a₁ : List Float} {words' words₁ : List ℕ} {b' b₁ : List Float}
      → ItemSolved n run a words b number a' words' b' → length words₀ ≡ words_of n → ItemSolved n run a words₀ b number₀ a₁ words₁ b₁
      → SameItem number a' words' b' number₀ a₁ words₁ b₁
  item_alike item long other =
      let same = (item_as_calls item long other.factor other.solve).1 in
      record { matrix = same.matrix; pivots = same.pivots; side = same.side; answer = same.answer ∙ sym other.numbered }

-- ---- trays

module _ {n count : ℕ} {a : List Float} {words : List ℕ} {b : List Float} {runs answers : List ℕ} {r : Answer} {a' : List Float} {words' : List ℕ} {b' : List Float} {answers' : List ℕ}
    (p : TraySolved n count a words b runs answers r a' words' b' answers')
  where
    -- ---- twice the same tray

    pub record Same (r₁ : Answer) (a₁ : List Float) (words₁ : List ℕ) (b₁ : List Float) (answers₁ : List ℕ) : Type 0 where
      pub answer : r ≡ r₁
      pub matrices : a' ≡ a₁
      pub records : words' ≡ words₁
      pub sides : b' ≡ b₁
      pub answered : answers' ≡ answers₁

    pub tray_once
        : {r₁ : Answer} {a₁ : List Float} {words₁ : List ℕ} {b₁ : List Float} {answers₁ : List ℕ}
        → TraySolved n count a words b runs answers r₁ a₁ words₁ b₁ answers₁ → Same r₁ a₁ words₁ b₁ answers₁
    tray_once {r₁} {a₁} {words₁} {b₁} {answers₁} q =
        done_alike same both
        (λ refused refused'.
        let u = p.left.refused refused in
        let v = q.left.refused refused' in
        record {
          answer = same;
          matrices = u.matrices ∙ sym v.matrices;
          records = u.records ∙ sym v.records;
          sides = u.sides ∙ sym v.sides;
          answered = u.answered ∙ sym v.answered;
        })
      where
        same : r ≡ r₁
        same = p.answer ∙ sym q.answer

        both : is_done r ≡ true → is_done r₁ ≡ true → Same r₁ a₁ words₁ b₁ answers₁
        both done done' =
            record {
              answer = same;
              matrices = columns_same (n * n) count a' a₁ (s.matrices ∙ tray.matrices.long) (t.matrices ∙ tray.matrices.long) (λ i below. (item i below).matrix);
              records = columns_same (words_of n) count words' words₁ (s.records ∙ tray.records.long) (t.records ∙ tray.records.long) (λ i below. (item i below).pivots);
              sides = columns_same n count b' b₁ (s.sides ∙ tray.sides.long) (t.sides ∙ tray.sides.long) (λ i below. (item i below).side);
              answered = ext_get_or 0 answers' answers₁ (s.answered ∙ sym t.answered) (λ i below. (item i (omega (arith, s.answered, tray.answered))).answer);
            }
          where
            s : EachSolved n count a words b runs answers a' words' b' answers'
            s = p.left.done done

            t : EachSolved n count a words b runs answers a₁ words₁ b₁ answers₁
            t = q.left.done done'

            tray : Trayed n count a words b runs answers
            tray = trayed n count a words b runs answers p.answer done

            item : (i : ℕ) → i < count → SameItem (number_at i answers') (matrix_at n i a') (record_at n i words') (side_at n i b') (number_at i answers₁) (matrix_at n i a₁) (record_at n i words₁) (side_at n i b₁)
            item i below = item_alike (s.items i below) (column_long (words_of n) i words count tray.records below) (t.items i below)

    -- ---- item t beside item s of another tray

    pub item_alone
        : {count₁ : ℕ} {c : List Float} {words₀ : List ℕ} {d : List Float} {runs₁ answers₀ : List ℕ} {r₁ : Answer} {c' : List Float} {words₁ : List ℕ} {d' : List Float} {answers₁ : List ℕ}
        → TraySolved n count₁ c words₀ d runs₁ answers₀ r₁ c' words₁ d' answers₁
        → is_done r ≡ true → is_done r₁ ≡ true
        → (t s : ℕ) → t < count → s < count₁
        → GivenAlike n t a b runs s c d runs₁
        → LeftAlike n t a' words' b' answers' s c' words₁ d' answers₁
    item_alone {count₁} {c} {words₀} {d} {runs₁} {answers₀} q done done' t s below below' alike =
        let tray = trayed n count₁ c words₀ d runs₁ answers₀ q.answer done' in
        let mine = (p.left.done done).items t below in
        let other = (q.left.done done').items s below' in
        let same = item_alike (rw (alike.matrix, alike.side, alike.run) at mine) (column_long (words_of n) s words₀ count₁ tray.records below') other in
        record { matrix = same.matrix; pivots = same.pivots; side = same.side; answer = same.answer }

    -- ---- a marked item, and one that is not

    module _ (done : is_done r ≡ true) (t : ℕ) (below : t < count) where
      tray : Trayed n count a words b runs answers
      tray = trayed n count a words b runs answers p.answer done

      item : ItemAt n a words b runs a' words' b' answers' t
      item = (p.left.done done).items t below

      side_long : length (side_at n t b) ≡ n
      side_long = column_long n t b count tray.sides below

      record_long : length (record_at n t words) ≡ words_of n
      record_long = column_long (words_of n) t words count tray.records below

      -- 6 at its row; its factor and its record are what its factor call leaves
      pub marked_item
          : (mark_at n (record_at n t words') ≡ 0 → ⊥)
          → (number_at t answers' ≡ 6 * 4096 + (mark_at n (record_at n t words') - 1)) × (side_at n t b' ≡ side_at n t b)
      marked_item set =
          let same = item_alike item record_long (item_marked item.factor (side_at n t b) side_long refl set refl) in
          (same.answer, same.side)

      pub unmarked_item
          : mark_at n (record_at n t words') ≡ 0
          → (number_at t answers' ≡ 0) × (side_at n t b' ≡ solve_column n (load (lower (full n)) (matrix_at n t a')) (record_at n t words') (side_at n t b))
      unmarked_item none =
          let same = item_alike item record_long (item_unmarked item.factor (side_at n t b) side_long none refl) in
          (same.answer, same.side)
