-- The whole sheet, part by part: what the reader answers once the next part is read, or is not.
use mathlib.Core.Path.{◌≡◌, refl, sym, ap, ◌∙◌}
use mathlib.Core.Bool.{Bool, true, false}
use mathlib.Core.List.{List, [], ◌∷◌}
use Prim.Native.Nat.{ℕ, suc, ◌+◌, ◌<◌, ◌≤◌}
use native.Mathlib.Omega.{arith}
use borrow.Author.Tests.{lt-ltb, le-ltb, eq-eqb, ne_eqb}
use lib.Ieee.{Float, binary64, of_bits}
use lib.ListN.{length, drop, set, drop_of_length-le}
use Rattle.sheet_text.specs.declared.place.Place.{Place}
use Rattle.sheet_text.specs.Text.{bytes}
use Rattle.sheet_text.specs.inner.Parse.{Parse, found, missing, number_after}
use Rattle.sheet_text.specs.Place.{places, cell}
use Rattle.sheet_text.specs.inner.Read.{entry_at, Taken, take_entries, closed, verdict, reading, after_entries, after_order, read_of}
use Rattle.sheet_text.specs.Sheet.{Sheet, wrong_at, right_at}
use Rattle.sheet_text.proofs.Steps.{cons_at}
use Rattle.sheet_text.proofs.EntrySteps.{entries_stop, entries_more}
use Rattle.sheet_text.proofs.PlaceLaws.{length_places}

-- ---- the last line
module _ (n count v : ℕ) where
  pub other_count : (t : List ℕ) → (v ≡ count → ⊥) → closed n count v t ≡ wrong_at (count + 2)
  unfolding closed
  other_count t h = rw (ne_eqb v count h)

  pub not_the_end : (s : List ℕ) (i : ℕ) → v ≡ count → i < length s → closed n count v (drop i s) ≡ wrong_at (count + 3)
  unfolding closed
  not_the_end s i e h = rw (eq-eqb v count e, cons_at s i h)

  pub the_end : (s : List ℕ) (i : ℕ) → v ≡ count → length s ≤ i → closed n count v (drop i s) ≡ right_at n
  unfolding closed
  the_end s i e h = rw (eq-eqb v count e, drop_of_length-le s h)

module _ (n : ℕ) (whole : Bool) (count : ℕ) (t : List ℕ) where
  pub end_line_law : (v : ℕ) (rest : List ℕ) → whole ≡ true → number_after (bytes "end\t") t ≡ found v rest → verdict n whole count t ≡ closed n count v rest
  unfolding verdict
  end_line_law v rest w e = rw (w, e)

  pub no_end_line : whole ≡ true → number_after (bytes "end\t") t ≡ missing → verdict n whole count t ≡ wrong_at (count + 2)
  unfolding verdict
  no_end_line w e = rw (w, e)

  pub not_whole : whole ≡ false → verdict n whole count t ≡ wrong_at (count + 2)
  unfolding verdict
  not_whole w = rw w

-- ---- the entries: at most one for each place
counted : (n : ℕ) (ps : List Place) (t : List ℕ) (c : ℕ) (a : List Float) → (take_entries n ps t c a).count ≤ c + length ps
unfolding take_entries
counted n [] t c a = omega arith
counted n (p ∷ ps) t c a = go (entry_at p t) refl (λ rest a'. counted n ps rest (c + 1) a')
  where
    go : (r : Parse ℕ) → entry_at p t ≡ r → ((rest : List ℕ) (a' : List Float) → (take_entries n ps rest (c + 1) a').count ≤ c + 1 + length ps)
        → (take_entries n (p ∷ ps) t c a).count ≤ c + suc (length ps)
    go (found b rest) e more =
        let fewer = more rest (set a (cell n p) (of_bits binary64 b)) in
        rw (entries_more n p ps t c a b rest e) (omega arith)
    go missing e more = rw (entries_stop n p ps t c a e) (omega arith)

pub count_small : (n : ℕ) (t : List ℕ) (a : List Float) → n ≤ 64 → (take_entries n (places n) t 0 a).count ≤ 4096
count_small n t a h = omega (arith, counted n (places n) t 0 a, length_places n h)

-- ---- the order line
module _ (a : List Float) (n : ℕ) (t : List ℕ) where
  pub order_zero : n ≡ 0 → after_order a n t ≡ reading (wrong_at 1) a
  unfolding after_order
  order_zero e = rw (eq-eqb n 0 e)

  pub order_large : (n ≡ 0 → ⊥) → 64 < n → after_order a n t ≡ reading (wrong_at 1) a
  unfolding after_order
  order_large z h = rw (ne_eqb n 0 z, lt-ltb 64 n h)

  pub order_right : (n ≡ 0 → ⊥) → n ≤ 64 → after_order a n t ≡ after_entries n (take_entries n (places n) t 0 a)
  unfolding after_order
  order_right z h = rw (ne_eqb n 0 z, le-ltb 64 n h)

pub read_order : (s : List ℕ) (a : List Float) (n : ℕ) (rest : List ℕ) → number_after (bytes "order\t") s ≡ found n rest → read_of s a ≡ after_order a n rest
unfolding read_of
read_order s a n rest e = rw e

pub read_no_order : (s : List ℕ) (a : List Float) → number_after (bytes "order\t") s ≡ missing → read_of s a ≡ reading (wrong_at 1) a
unfolding read_of
read_no_order s a e = rw e

-- what the entries reached, and then the last line
pub after_entries_law : (n : ℕ) (r : Sheet) (k whole : Taken) → r ≡ verdict n k.whole k.count k.left → k ≡ whole → reading r k.cells ≡ after_entries n whole
unfolding after_entries
after_entries_law n r k whole e same = ap (λ (x : Sheet). reading x k.cells) e ∙ ap (λ (x : Taken). reading (verdict n x.whole x.count x.left) x.cells) same

-- where an entry is wrong, or the text ends before it
pub stopped : (n : ℕ) (r : Sheet) (k : Taken) (a : List Float) → k.whole ≡ false → r ≡ wrong_at (k.count + 2) → a ≡ k.cells → reading r a ≡ after_entries n k
stopped n r k a w e c = ap (reading r) c ∙ after_entries_law n r k k (e ∙ sym (not_whole n k.whole k.count k.left w)) refl
