-- A sheet's text and the reader's answer: every sheet is read, and the lines that a text shares with a sheet are passed.
use mathlib.Core.Path.{◌≡◌, refl, sym, ap, ◌∙◌}
use mathlib.Core.Bool.{true}
use mathlib.Core.List.{List, [], ◌∷◌, ◌++◌, append_assoc, append-nil}
use Prim.Native.Nat.{ℕ, zero, suc, ◌+◌, ◌≤◌}
use native.Mathlib.Nat.{zero-add, le_of_suc-le-suc, not-suc-le-zero}
use native.Mathlib.Omega.{arith}
use borrow.Author.Tests.{eq-eqb}
use lib.Ieee.{Float}
use lib.ListN.{length, take, drop, length-append, drop_of_length-le}
use lib.Seq.{length-take-le, take-append-le}
use Rattle.sheet_text.specs.declared.place.Place.{Place}
use Rattle.sheet_text.specs.Text.{bytes, number_line, entry_line}
use Rattle.sheet_text.specs.Place.{places}
use Rattle.sheet_text.specs.inner.Read.{taken, take_entries, at_the_end, closed, verdict, reading, after_entries, read_of}
use Rattle.sheet_text.specs.Sheet.{Sheet, right_at, entry_lines, sheet_lines, join, sheet_of, IsSheet, stored}
use Rattle.sheet_text.proofs.PlaceLaws.{length_places}
use Rattle.sheet_text.proofs.ReadSteps.{end_line_law, order_right, read_order}
use Rattle.sheet_text.proofs.LineLaws.{line_found}
use Rattle.sheet_text.proofs.EntriesLaws.{wide_take, short_places, entries_read}

-- ---- lines
pub entry_count : (ps : List Place) (bits : List ℕ) → length bits ≤ length ps → length (entry_lines ps bits) ≡ length bits
unfolding entry_lines
entry_count [] [] h = refl
entry_count [] (b ∷ bits) h = absurd (not-suc-le-zero h)
entry_count (p ∷ ps) [] h = refl
entry_count (p ∷ ps) (b ∷ bits) h = ap suc (entry_count ps bits (le_of_suc-le-suc h))

pub take_entries_law : (k : ℕ) (ps : List Place) (bits : List ℕ) → take k (entry_lines ps bits) ≡ entry_lines ps (take k bits)
unfolding entry_lines
take_entries_law zero [] bits = refl
take_entries_law zero (p ∷ ps) bits = refl
take_entries_law (suc k) [] [] = refl
take_entries_law (suc k) [] (b ∷ bits) = refl
take_entries_law (suc k) (p ∷ ps) [] = refl
take_entries_law (suc k) (p ∷ ps) (b ∷ bits) = ap (λ (ls : List (List ℕ)). entry_line p.row p.column b ∷ ls) (take_entries_law k ps bits)

pub join_both : (xs ys : List (List ℕ)) → join (xs ++ ys) ≡ join xs ++ join ys
unfolding join
join_both [] ys = refl
join_both (x ∷ xs) ys = ap (λ (t : List ℕ). x ++ t) (join_both xs ys) ∙ sym (append_assoc x (join xs) (join ys))

pub length_lines : (n : ℕ) (bits : List ℕ) → IsSheet n bits → length (sheet_lines n bits) ≡ length bits + 2
unfolding sheet_lines
length_lines n bits h =
    let e = h.each in
    let c = entry_count (places n) bits (omega arith) in
    let whole = length-append (entry_lines (places n) bits) (number_line (bytes "end\t") (length (entry_lines (places n) bits)) ∷ []) in
    omega arith

-- ---- a text that begins with a sheet's lines
opened : (n : ℕ) (bits u : List ℕ) (a : List Float) → IsSheet n bits → read_of (number_line (bytes "order\t") n ++ u) a ≡ after_entries n (take_entries n (places n) u 0 a)
opened n bits u a h =
    let low = h.least in
    let high = h.most in
    read_order (number_line (bytes "order\t") n ++ u) a n u (line_found (bytes "order\t") n u (omega arith))
    ∙ order_right a n u (omega arith) high

after_first : (n : ℕ) (bits : List ℕ) (k : ℕ) (rest : List ℕ)
    → join (take (suc k) (sheet_lines n bits)) ++ rest
    ≡ number_line (bytes "order\t") n ++ (join (take k (entry_lines (places n) bits ++ (number_line (bytes "end\t") (length (entry_lines (places n) bits)) ∷ []))) ++ rest)
unfolding sheet_lines join
after_first n bits k rest =
    append_assoc (number_line (bytes "order\t") n) (join (take k (entry_lines (places n) bits ++ (number_line (bytes "end\t") (length (entry_lines (places n) bits)) ∷ [])))) rest

pub all_lines : (n : ℕ) (bits rest : List ℕ)
    → join (sheet_lines n bits) ++ rest
    ≡ number_line (bytes "order\t") n ++ (join (entry_lines (places n) bits) ++ (number_line (bytes "end\t") (length (entry_lines (places n) bits)) ++ rest))
unfolding sheet_lines join
all_lines n bits rest = simp (join_both, append_assoc, append-nil)

pub count_right : (n count v : ℕ) (t : List ℕ) → v ≡ count → closed n count v t ≡ at_the_end n count t
unfolding closed
count_right n count v t e = rw (eq-eqb v count e)

after_all : (n count : ℕ) (t : List ℕ) (a : List Float) {v : Sheet} → verdict n true count t ≡ v → after_entries n (taken true count t a) ≡ reading v a
unfolding after_entries
after_all n count t a e = ap (λ (v : Sheet). reading v a) e

none_left : (n : ℕ) (ps : List Place) (t : List ℕ) (c : ℕ) (a : List Float) → ps ≡ [] → take_entries n ps t c a ≡ taken true c t a
unfolding take_entries
none_left n ps t c a e = rw e

module _ (n : ℕ) (bits : List ℕ) (h : IsSheet n bits) (a : List Float) where
  -- the order line and k entry lines
  pub partly_read : (k : ℕ) (rest : List ℕ) → k ≤ length bits
      → read_of (join (take (suc k) (sheet_lines n bits)) ++ rest) a ≡ after_entries n (take_entries n (drop k (places n)) rest k (stored n (places n) (take k bits) a))
  partly_read k rest l =
      let e = h.each in
      let c : length (entry_lines (places n) bits) ≡ length bits = entry_count (places n) bits (omega arith) in
      let kept : length (take k bits) ≡ k = length-take-le k bits l in
      let last = number_line (bytes "end\t") (length (entry_lines (places n) bits)) ∷ [] in
      let lines : take k (entry_lines (places n) bits ++ last) ≡ entry_lines (places n) (take k bits) =
      take-append-le k (entry_lines (places n) bits) last (omega arith) ∙ take_entries_law k (places n) bits in
      ap (λ (t : List ℕ). read_of t a) (after_first n bits k rest)
      ∙ opened n bits (join (take k (entry_lines (places n) bits ++ last)) ++ rest) a h
      ∙ ap (λ (ls : List (List ℕ)). after_entries n (take_entries n (places n) (join ls ++ rest) 0 a)) lines
      ∙ ap (after_entries n) (entries_read n (places n) (take k bits) rest 0 a (short_places n h.most) (omega arith) (wide_take k bits h.wide))
      ∙ ap (λ (m : ℕ). after_entries n (take_entries n (drop m (places n)) rest (0 + m) (stored n (places n) (take k bits) a))) kept
      ∙ ap (λ (m : ℕ). after_entries n (take_entries n (drop k (places n)) rest m (stored n (places n) (take k bits) a))) (zero-add k)

  -- all lines
  pub whole_read : (rest : List ℕ) → read_of (join (sheet_lines n bits) ++ rest) a ≡ reading (at_the_end n (length bits) rest) (stored n (places n) bits a)
  whole_read rest =
      let e = h.each in
      let c : length (entry_lines (places n) bits) ≡ length bits = entry_count (places n) bits (omega arith) in
      let few = length_places n h.most in
      let last = number_line (bytes "end\t") (length (entry_lines (places n) bits)) in
      ap (λ (t : List ℕ). read_of t a) (all_lines n bits rest)
      ∙ opened n bits (join (entry_lines (places n) bits) ++ (last ++ rest)) a h
      ∙ ap (after_entries n)
      (entries_read n (places n) bits (last ++ rest) 0 a (short_places n h.most) (omega arith) h.wide
      ∙ none_left n (drop (length bits) (places n)) (last ++ rest) (0 + length bits) (stored n (places n) bits a) (drop_of_length-le (places n) {i = length bits} (omega arith))
      ∙ ap (λ (m : ℕ). taken true m (last ++ rest) (stored n (places n) bits a)) (zero-add (length bits)))
      ∙ after_all n (length bits) (last ++ rest) (stored n (places n) bits a) (end_line_law n true (length bits) (last ++ rest) (length (entry_lines (places n) bits)) rest refl
      (line_found (bytes "end\t") (length (entry_lines (places n) bits)) rest (omega arith)) ∙ count_right n (length bits) (length (entry_lines (places n) bits)) rest c)

-- every sheet is accepted, and its entries are stored
pub complete : (n : ℕ) (bits : List ℕ) (a : List Float) → IsSheet n bits → read_of (sheet_of n bits) a ≡ reading (right_at n) (stored n (places n) bits a)
unfolding sheet_of
complete n bits a h = ap (λ (t : List ℕ). read_of t a) (sym (append-nil (join (sheet_lines n bits)))) ∙ whole_read n bits h a []
