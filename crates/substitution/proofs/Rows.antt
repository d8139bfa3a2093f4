-- A row of some columns: one number of each, given by column.
--     Across columns n g b x      number j of x is g of column j of b
--     across_both                 an operation on two rows
--     row_each, put_each          a row read, put into columns as f left them
--     put_first                   a row put into columns as they are
use Rattle.std.specs.Prelude.{List, ◌≡◌, ℕ, ◌*◌, ◌<◌, Float, length, set, refl}
use Rattle.std.proofs.Common.{sym, ap, ◌∙◌, length-set}
use Rattle.matrix.specs.Columns.{at, each_column, column}
use Rattle.matrix.proofs.Columns.{each_column_law, each_long, columns_same, each_none}
use Rattle.matrix.proofs.ColumnsLoops.{Keeping}

pub record Across (columns n : ℕ) (g : List Float → Float) (b : List Float) (x : ℕ → Float) : Type 0 where
  pub number : (j : ℕ) → j < columns → x j ≡ g (column n j b)

pub across_both
    : {columns n : ℕ} (f : Float → Float → Float) {g h : List Float → Float} {b : List Float} {x z r : ℕ → Float} → Across columns n g b x → Across columns n h b z
    → ((j : ℕ) → j < columns → r j ≡ f (x j) (z j))
    → Across columns n (λ l. f (g l) (h l)) b r
across_both f u v e = record { number = λ j below. e j below ∙ rw (u.number j below, v.number j below) }

module _ {columns n : ℕ} {b : List Float} (long : length b ≡ n * columns) (i : ℕ) where
  module _ (f : List Float → List Float) (keeps : Keeping f) where
    pub row_each
        : {l : List Float} {x : ℕ → Float} → l ≡ each_column n columns f b → ((j : ℕ) → j < columns → x j ≡ at (column n j l) i)
        → Across columns n (λ l. at (f l) i) b x
    row_each changed e =
        record {
          number = λ j below.
              e j below
              ∙ ap (λ (l : List Float). at (column n j l) i) changed
              ∙ ap (λ (l : List Float). at l i) (each_column_law n f keeps columns b long j below);
        }

    pub put_each
        : {g : List Float → Float} {x : ℕ → Float} {l l' : List Float} → Across columns n g b x → l ≡ each_column n columns f b → length l' ≡ length l
        → ((j : ℕ) → j < columns → column n j l' ≡ set (column n j l) i (x j))
        → l' ≡ each_column n columns (λ l. set (f l) i (g l)) b
    put_each {g} {x} {l} {l'} row changed kept put =
        columns_same n columns l' (each_column n columns (λ l. set (f l) i (g l)) b)
        (kept ∙ ap length changed ∙ each_long n f keeps columns b long ∙ long)
        (each_long n (λ l. set (f l) i (g l)) put_keeps columns b long ∙ long)
        (λ j below.
        put j below
        ∙ ap (λ (m : List Float). set (column n j m) i (x j)) changed
        ∙ ap (λ (m : List Float). set m i (x j)) (each_column_law n f keeps columns b long j below)
        ∙ ap (set (f (column n j b)) i) (row.number j below)
        ∙ sym (each_column_law n (λ l. set (f l) i (g l)) put_keeps columns b long j below))
      where
        put_keeps : Keeping (λ l. set (f l) i (g l))
        put_keeps l = length-set (f l) i (g l) ∙ keeps l

  pub put_first
      : {g : List Float → Float} {x : ℕ → Float} {l' : List Float} → Across columns n g b x → length l' ≡ length b
      → ((j : ℕ) → j < columns → column n j l' ≡ set (column n j b) i (x j))
      → l' ≡ each_column n columns (λ l. set l i (g l)) b
  put_first row kept put = put_each (λ l. l) (λ l. refl) row (sym (each_none n columns b long)) kept put
