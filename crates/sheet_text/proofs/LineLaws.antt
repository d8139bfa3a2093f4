-- The text of a line and what is read of it, both ways.
use mathlib.Core.Path.{◌≡◌, refl, sym, ap, ◌∙◌}
use mathlib.Core.Bool.{Bool, true, false}
use mathlib.Core.List.{List, [], ◌∷◌, ◌++◌, append_assoc}
use mathlib.Core.Logic.{◌⊎◌, inl, inr}
use Prim.Native.Nat.{ℕ, ◌^◌, ◌<◌}
use native.Mathlib.Omega.{arith}
use borrow.Author.Tests.{eqb-true, eq-eqb}
use lib.Dec.{eqb}
use lib.ListN.{length, drop}
use lib.Seq.{drop-append_seam}
use Rattle.answer.proofs.Tests.{eq_or_ne}
use Rattle.sheet_text.specs.Text.{bytes, tab, lf, field, bits_field, number_line, entry_line}
use Rattle.sheet_text.specs.inner.Digit.{digit_of}
use Rattle.sheet_text.specs.declared.line.Entry.{Entry}
use Rattle.sheet_text.specs.declared.place.Place.{Place}
use Rattle.sheet_text.specs.inner.Parse.{Parse, found, missing, starts_with, number, bits, number_after, after_column, after_row, any_entry}
use Rattle.sheet_text.specs.inner.Read.{entry_at}
use Rattle.sheet_text.proofs.Steps.{and_left, and_right, false_is_not_true, after_word, no_word}
use Rattle.sheet_text.proofs.EntrySteps.{column_bits, column_no_bits, row_column, row_no_column, entry_row, entry_no_row, entry_no_word, place_missing, other_row, other_column, in_place_law}
use Rattle.sheet_text.proofs.NumberLaws.{Spelled, not_missing, number_found, number_sound}
use Rattle.sheet_text.proofs.HexLaws.{bits_found, bits_sound}

-- ---- a word
starts_self : (w t : List ℕ) → starts_with w (w ++ t) ≡ true
unfolding starts_with
starts_self [] t = refl
starts_self (x ∷ w) t = rw (eq-eqb x x refl) (starts_self w t)

starts_sound : (w t : List ℕ) → starts_with w t ≡ true → t ≡ w ++ drop (length w) t
unfolding starts_with
starts_sound [] t e = refl
starts_sound (x ∷ w) [] e = absurd (false_is_not_true e)
starts_sound (x ∷ w) (y ∷ t) e =
    ap (λ (z : ℕ). z ∷ t) (sym (eqb-true x y (and_left (eqb x y) (starts_with w t) e)))
    ∙ ap (λ (u : List ℕ). x ∷ u) (starts_sound w t (and_right (eqb x y) (starts_with w t) e))

-- ---- a word and a number
lf_ends : 9 < digit_of lf
unfolding digit_of
lf_ends = omega arith

tab_ends : 9 < digit_of tab
unfolding digit_of
tab_ends = omega arith

pub line_found : (w : List ℕ) (v : ℕ) (t : List ℕ) → v < 10000 → number_after w (number_line w v ++ t) ≡ found v t
unfolding number_line
line_found w v t h =
    ap (number_after w) (append_assoc w (field v lf) t)
    ∙ after_word w (w ++ (field v lf ++ t)) (starts_self w (field v lf ++ t))
    ∙ ap (number lf) (drop-append_seam w (field v lf ++ t))
    ∙ number_found lf lf_ends v t h

pub line_sound : (w t : List ℕ) (v : ℕ) (rest : List ℕ) → number_after w t ≡ found v rest → Spelled (number_line w) t v rest 10000
unfolding number_line
line_sound w t v rest e = go (starts_with w t) refl
  where
    go : (b : Bool) → starts_with w t ≡ b → Spelled (number_line w) t v rest 10000
    go true s =
        let read = number_sound lf (drop (length w) t) v rest (sym (after_word w t s) ∙ e) in
        record {
          same = starts_sound w t s ∙ ap (λ (u : List ℕ). w ++ u) read.same ∙ sym (append_assoc w (field v lf) rest);
          small = read.small;
        }
    go false s = absurd (not_missing v rest (sym (no_word w t s) ∙ e))

-- ---- an entry line
entry_text_law : (i j b : ℕ) (t : List ℕ) → entry_line i j b ++ t ≡ bytes "entry\t" ++ (field i tab ++ (field j tab ++ (bits_field b ++ t)))
unfolding entry_line
entry_text_law i j b t = simp append_assoc

pub entry_found : (i j b : ℕ) (t : List ℕ) → i < 10000 → j < 10000 → b < 2 ^ 64 → any_entry (entry_line i j b ++ t) ≡ found (record { row = i; column = j; bits = b }) t
entry_found i j b t hi hj hb =
    ap any_entry (entry_text_law i j b t)
    ∙ entry_row (bytes "entry\t" ++ (field i tab ++ (field j tab ++ (bits_field b ++ t)))) 0 i (field j tab ++ (bits_field b ++ t))
    (starts_self (bytes "entry\t") (field i tab ++ (field j tab ++ (bits_field b ++ t))))
    (number_found tab tab_ends i (field j tab ++ (bits_field b ++ t)) hi)
    ∙ row_column i j (field j tab ++ (bits_field b ++ t)) (bits_field b ++ t) (number_found tab tab_ends j (bits_field b ++ t) hj)
    ∙ column_bits i j b (bits_field b ++ t) t (bits_found b t hb)

pub record EntrySpelled (t : List ℕ) (e : Entry) (rest : List ℕ) : Type 0 where
  pub same : t ≡ entry_line e.row e.column e.bits ++ rest
  pub small : e.bits < 2 ^ 64

module _ (t : List ℕ) (x : Entry) (rest : List ℕ) (e : any_entry t ≡ found x rest) where
  after_column_sound : (i j : ℕ) (u v : List ℕ) → starts_with (bytes "entry\t") t ≡ true → drop 6 t ≡ field i tab ++ u → u ≡ field j tab ++ v → after_column i j v ≡ found x rest → EntrySpelled t x rest
  after_column_sound i j u v w p q f = go (bits v) refl
    where
      go : (r : Parse ℕ) → bits v ≡ r → EntrySpelled t x rest
      go (found b left) g =
          let read = bits_sound v b left g in
          let here : found (record { row = i; column = j; bits = b }) left ≡ found x rest = sym (column_bits i j b v left g) ∙ f in
          let whole : record { row = i; column = j; bits = b } ≡ x = cc in
          let after : left ≡ rest = cc in
          rw (← whole, ← after) record {
            same =
                starts_sound (bytes "entry\t") t w
                ∙ ap (λ (y : List ℕ). bytes "entry\t" ++ y) (p ∙ ap (λ (y : List ℕ). field i tab ++ y) (q ∙ ap (λ (y : List ℕ). field j tab ++ y) read.same))
                ∙ sym (entry_text_law i j b left);
            small = read.small;
          }
      go missing g = absurd (not_missing x rest (sym (column_no_bits i j v g) ∙ f))

  after_row_sound : (i : ℕ) (u : List ℕ) → starts_with (bytes "entry\t") t ≡ true → drop 6 t ≡ field i tab ++ u → after_row i u ≡ found x rest → EntrySpelled t x rest
  after_row_sound i u w p f = go (number tab u) refl
    where
      go : (r : Parse ℕ) → number tab u ≡ r → EntrySpelled t x rest
      go (found j v) g = after_column_sound i j u v w p (number_sound tab u j v g).same (sym (row_column i j u v g) ∙ f)
      go missing g = absurd (not_missing x rest (sym (row_no_column i u g) ∙ f))

  pub entry_sound : EntrySpelled t x rest
  entry_sound = word (starts_with (bytes "entry\t") t) refl
    where
      first : starts_with (bytes "entry\t") t ≡ true → (r : Parse ℕ) → number tab (drop 6 t) ≡ r → EntrySpelled t x rest
      first w (found i u) g = after_row_sound i u w (number_sound tab (drop 6 t) i u g).same (sym (entry_row t 0 i u w g) ∙ e)
      first w missing g = absurd (not_missing x rest (sym (entry_no_row t 0 w g) ∙ e))

      word : (b : Bool) → starts_with (bytes "entry\t") t ≡ b → EntrySpelled t x rest
      word true w = first w (number tab (drop 6 t)) refl
      word false w = absurd (not_missing x rest (sym (entry_no_word t 0 w) ∙ e))

-- ---- the entry line of one place
pub place_found : (p : Place) (b : ℕ) (t : List ℕ) → p.row < 10000 → p.column < 10000 → b < 2 ^ 64 → entry_at p (entry_line p.row p.column b ++ t) ≡ found b t
place_found p b t hi hj hb =
    in_place_law p (entry_line p.row p.column b ++ t) (record { row = p.row; column = p.column; bits = b }) t
    (entry_found p.row p.column b t hi hj hb) refl refl

pub place_sound : (p : Place) (t : List ℕ) (b : ℕ) (rest : List ℕ) → entry_at p t ≡ found b rest → Spelled (entry_line p.row p.column) t b rest (2 ^ 64)
place_sound p t b rest e = go (any_entry t) refl
  where
    here : (x : Entry) (left : List ℕ) → any_entry t ≡ found x left → (x.row ≡ p.row) ⊎ (x.row ≡ p.row → ⊥) → (x.column ≡ p.column) ⊎ (x.column ≡ p.column → ⊥) → Spelled (entry_line p.row p.column) t b rest (2 ^ 64)
    here x left g (inr n) c = absurd (not_missing b rest (sym (other_row p t x left g n) ∙ e))
    here x left g (inl r) (inr n) = absurd (not_missing b rest (sym (other_column p t x left g r n) ∙ e))
    here x left g (inl r) (inl c) =
        let read = entry_sound t x left g in
        let same : found x.bits left ≡ found b rest = sym (in_place_law p t x left g r c) ∙ e in
        let value : x.bits ≡ b = cc in
        let after : left ≡ rest = cc in
        rw (← r, ← c, ← value, ← after) record { same = read.same; small = read.small }

    go : (r : Parse Entry) → any_entry t ≡ r → Spelled (entry_line p.row p.column) t b rest (2 ^ 64)
    go (found x left) g = here x left g (eq_or_ne x.row p.row) (eq_or_ne x.column p.column)
    go missing g = absurd (not_missing b rest (sym (place_missing p t g) ∙ e))
