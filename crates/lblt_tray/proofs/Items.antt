-- One item, then all items up to one.
--     item_laid, item_factored     its slices fit, so that its factor is done
--     one_solved                   an item's parts, lent out of the tray and back
--     more_before                  one item more
--     each_solved                  all items
use mathlib.Core.List.{List, ◌++◌}
use mathlib.Core.Logic.{⊎_elim}
use mathlib.Core.Path.{◌≡◌, refl, sym, ap, subst, ◌∙◌}
use Prim.Native.Nat.{ℕ, ◌+◌, ◌-◌, ◌*◌, ◌<◌, ◌≤◌}
use native.Mathlib.Nat.{eq-or-lt_of_le}
use native.Mathlib.Omega.{arith}
use lib.Ieee.{Float}
use lib.ListN.{length, get_or, set, take, drop, length-set}
use lib.Seq.{get_or-set_same, get_or-set_other}
use Rattle.answer.specs.Answer.{Done}
use Rattle.matrix.specs.Columns.{Lined, ButColumn}
use Rattle.matrix.specs.Layouts.{full, Laid}
use Rattle.matrix.specs.Sizes.{Fits}
use Rattle.matrix.proofs.ColumnsLent.{part_is, column_long, put_part}
use Rattle.matrix.proofs.Sizes.{full_fits, laid_fits}
use Rattle.pivots.specs.Words.{words_of}
use Rattle.lblt.specs.Factor.{Factored}
use Rattle.lblt.specs.inner.Engine.{Filled}
use Rattle.lblt.proofs.Done.{done}
use Rattle.lblt_tray.specs.Tray.{ItemSolved, ItemAt, matrix_at, record_at, side_at, EachSolved}
use Rattle.lblt_tray.specs.inner.Engine.{Item, Trayed, OneSolved, SolvedBefore}

-- ---- one item

module _ {n : ℕ} {a : List Float} {words : List ℕ} {b : List Float} (item : Item n a words b) where
  fits : Fits (full n) 0 (length a)
  fits = full_fits n (length a) (omega (arith, item.order)) item.matrix

  pub item_laid : Laid (full n) a
  item_laid = laid_fits fits

  pub item_factored : {run m : ℕ} {a' : List Float} {words' : List ℕ} → Filled (full n) run a words a' words' m → Factored (full n) run a words Done a' words'
  item_factored filled = done (full n) a words fits item.pivots filled.stored

-- ---- an item of a tray

-- the part of item t, of `width` numbers
abbrev lent : {A : Type 0} → ℕ → ℕ → List A → List A
lent width t l = take (t * width + width - t * width) (drop (t * width) l)

-- the slice with that part back
abbrev back : {A : Type 0} → ℕ → ℕ → List A → List A → List A
back width t l part = take (t * width) l ++ (part ++ drop (t * width + width - t * width) (drop (t * width) l))

module _ {n count : ℕ} {a : List Float} {words : List ℕ} {b : List Float} {runs answers : List ℕ} (tray : Trayed n count a words b runs answers) (t : ℕ) (below : t < count) where
  lent_long : {A : Type 0} (width : ℕ) (l : List A) → Lined width count l → length (lent width t l) ≡ width
  lent_long width l lined = ap length (part_is width t l) ∙ column_long width t l count lined below

  pub one_solved
      : {number : ℕ} {a' : List Float} {words' : List ℕ} {b' : List Float}
      → length a' ≡ length (lent (n * n) t a) → length words' ≡ length (lent (words_of n) t words) → length b' ≡ length (lent n t b)
      → ItemSolved n (get_or runs t 0) (lent (n * n) t a) (lent (words_of n) t words) (lent n t b) number a' words' b'
      → OneSolved n t a words b runs answers (back (n * n) t a a') (back (words_of n) t words words') (back n t b b') (set answers t number)
  one_solved {number} {a'} {words'} {b'} matrix pivots side item =
      record {
        matrices = matrices.0;
        records = records.0;
        sides = sides.0;
        answered = length-set answers t number;
        others = λ i other. get_or-set_other answers t i number 0 other;
        item = rw (matrices.1, records.1, sides.1, get_or-set_same answers t number 0 (omega (arith, tray.answered)))
            (rw (part_is (n * n) t a, part_is (words_of n) t words, part_is n t b) at item);
      }
    where
      matrices : ButColumn (n * n) t a (back (n * n) t a a') × (matrix_at n t (back (n * n) t a a') ≡ a')
      matrices = put_part (n * n) t a tray.matrices below (matrix ∙ lent_long (n * n) a tray.matrices) refl

      records : ButColumn (words_of n) t words (back (words_of n) t words words') × (record_at n t (back (words_of n) t words words') ≡ words')
      records = put_part (words_of n) t words tray.records below (pivots ∙ lent_long (words_of n) words tray.records) refl

      sides : ButColumn n t b (back n t b b') × (side_at n t (back n t b b') ≡ b')
      sides = put_part n t b tray.sides below (side ∙ lent_long n b tray.sides) refl

-- ---- the items up to one

module _ {n : ℕ} {a : List Float} {words : List ℕ} {b : List Float} {runs answers : List ℕ} where
  module _ {t : ℕ} {a₁ : List Float} {words₁ : List ℕ} {b₁ : List Float} {answers₁ : List ℕ} (s : SolvedBefore n t a words b runs answers a₁ words₁ b₁ answers₁) where
    pub more_before
        : {a' : List Float} {words' : List ℕ} {b' : List Float} {answers' : List ℕ}
        → OneSolved n t a₁ words₁ b₁ runs answers₁ a' words' b' answers'
        → SolvedBefore n (t + 1) a words b runs answers a' words' b' answers'
    more_before {a'} {words'} {b'} {answers'} o =
        record {
          matrices = o.matrices.long ∙ s.matrices;
          records = o.records.long ∙ s.records;
          sides = o.sides.long ∙ s.sides;
          answered = o.answered ∙ s.answered;
          before = λ i less.
              ⊎_elim
              (λ (e : i ≡ t). subst (ItemAt n a words b runs a' words' b' answers') (sym e) this)
              (λ (lower : i < t). earlier i lower)
              (eq-or-lt_of_le (let upto : i ≤ t = omega arith in upto));
          matrices_left = λ i past. o.matrices.others i (λ (e : i ≡ t). omega arith) ∙ s.matrices_left i (omega arith);
          records_left = λ i past. o.records.others i (λ (e : i ≡ t). omega arith) ∙ s.records_left i (omega arith);
          sides_left = λ i past. o.sides.others i (λ (e : i ≡ t). omega arith) ∙ s.sides_left i (omega arith);
        }
      where
        this : ItemAt n a words b runs a' words' b' answers' t
        this = rw (s.matrices_left t (omega arith), s.records_left t (omega arith), s.sides_left t (omega arith)) at o.item

        earlier : (i : ℕ) → i < t → ItemAt n a words b runs a' words' b' answers' i
        earlier i lower =
            let apart : i ≡ t → ⊥ = λ (e : i ≡ t). omega arith in
            rw (o.matrices.others i apart, o.records.others i apart, o.sides.others i apart, o.others i apart) (s.before i lower)

    pub each_solved : {count : ℕ} → count ≤ t → EachSolved n count a words b runs answers a₁ words₁ b₁ answers₁
    each_solved all = record { matrices = s.matrices; records = s.records; sides = s.sides; answered = s.answered; items = λ i less. s.before i (omega arith) }
