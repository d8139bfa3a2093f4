-- The reader's answer says what the text is: a sheet, or a text whose first wrong line is the one named.
use mathlib.Core.Path.{◌≡◌, refl, sym, ap, ◌∙◌, subst}
use mathlib.Core.Bool.{Bool, true, false}
use mathlib.Core.List.{List, [], ◌∷◌, ◌++◌, append_assoc, append-nil}
use mathlib.Core.Logic.{◌⊎◌, inl, inr}
use Prim.Native.Nat.{ℕ, zero, suc, ◌+◌, ◌-◌, ◌<◌, ◌≤◌}
use native.Mathlib.Nat.{not-suc-le-zero}
use native.Mathlib.Omega.{arith}
use lib.Ieee.{Float}
use lib.ListN.{length, take, drop, replicate, length-append, length-replicate}
use lib.Seq.{take_all, take-append-le, take-append_seam}
use Rattle.answer.proofs.Tests.{eq_or_ne, lt_or_ge}
use Rattle.answer.specs.Number.{code_of, place_of}
use Rattle.sheet_text.specs.declared.place.Place.{Place}
use Rattle.sheet_text.specs.Text.{bytes, number_line}
use Rattle.sheet_text.specs.inner.Parse.{Parse, found, missing, number_after}
use Rattle.sheet_text.specs.Place.{rows, columns, places}
use Rattle.sheet_text.specs.inner.Read.{Taken, take_entries, at_the_end, closed, verdict, Reading, reading, after_entries, after_order, read_of}
use Rattle.sheet_text.specs.Sheet.{Sheet, right_at, wrong_at, entry_lines, sheet_lines, join, sheet_of, IsSheet, BeginsAs, stored, Reads, right, wrong}
use Rattle.sheet_text.proofs.ReadSteps.{other_count, end_line_law, no_end_line, not_whole, order_zero, order_large, order_right, read_order, read_no_order}
use Rattle.sheet_text.proofs.LineLaws.{line_sound}
use Rattle.sheet_text.proofs.EntriesLaws.{Wide, wide_cons, wide_tail, Extent, entries_sound}
use Rattle.sheet_text.proofs.SheetLaws.{entry_count, take_entries_law, length_lines, partly_read, whole_read, complete, count_right, all_lines}

-- ---- two answers told apart
wrong_line : (j k : ℕ) → wrong_at j ≡ wrong_at k → j ≡ k
wrong_line j k e = ap place_of e

right_is_not_wrong : (n k : ℕ) → right_at n ≡ wrong_at k → ⊥
right_is_not_wrong n k e = let z : ◌≡◌ {A = ℕ} 0 20 = ap code_of e in omega arith

-- ---- a wrong line comes after the lines that are right
end_late : (n count line : ℕ) (t : List ℕ) → at_the_end n count t ≡ wrong_at line → count + 3 ≡ line
end_late n count line [] e = absurd (right_is_not_wrong n line e)
end_late n count line (b ∷ t) e = wrong_line (count + 3) line e

closed_late : (n count v line : ℕ) (t : List ℕ) → closed n count v t ≡ wrong_at line → count + 2 ≤ line
closed_late n count v line t e = go (eq_or_ne v count)
  where
    go : (v ≡ count) ⊎ (v ≡ count → ⊥) → count + 2 ≤ line
    go (inl s) = omega (arith, end_late n count line t (sym (count_right n count v t s) ∙ e))
    go (inr s) = omega (arith, wrong_line (count + 2) line (sym (other_count n count v t s) ∙ e))

verdict_late : (n : ℕ) (whole : Bool) (count : ℕ) (t : List ℕ) (line : ℕ) → verdict n whole count t ≡ wrong_at line → count + 2 ≤ line
verdict_late n false count t line e = omega (arith, wrong_line (count + 2) line (sym (not_whole n false count t refl) ∙ e))
verdict_late n true count t line e = go (number_after (bytes "end\t") t) refl
  where
    go : (r : Parse ℕ) → number_after (bytes "end\t") t ≡ r → count + 2 ≤ line
    go (found v rest) f = closed_late n count v line rest (sym (end_line_law n true count t v rest refl f) ∙ e)
    go missing f = omega (arith, wrong_line (count + 2) line (sym (no_end_line n true count t refl f) ∙ e))

stored_none : (n : ℕ) (ps : List Place) (bits : List ℕ) (a : List Float) → length bits ≤ 0 → stored n ps bits a ≡ a
unfolding stored
stored_none n [] bits a h = refl
stored_none n (p ∷ ps) [] a h = refl
stored_none n (p ∷ ps) (b ∷ bits) a h = absurd (not-suc-le-zero h)

-- from entry k on: the wrong line is no earlier than line k + 2, and where it is that one no entry was stored
record From (n : ℕ) (ps : List Place) (rest : List ℕ) (k : ℕ) (a : List Float) (line : ℕ) : Type 0 where
  late : k + 2 ≤ line
  kept : line ≡ k + 2 → (take_entries n ps rest k a).cells ≡ a

entries_late : (n : ℕ) (ps : List Place) (rest : List ℕ) (k : ℕ) (a : List Float) (line : ℕ) → (after_entries n (take_entries n ps rest k a)).sheet ≡ wrong_at line → From n ps rest k a line
unfolding after_entries
entries_late n ps rest k a line e =
    let x = entries_sound n ps rest k a in
    let c = x.count in
    let l = verdict_late n (take_entries n ps rest k a).whole (take_entries n ps rest k a).count (take_entries n ps rest k a).left line e in
    record { late = omega arith; kept = λ same. x.cells ∙ stored_none n ps x.bits a (omega arith) }

-- ---- a text that begins with lines of a sheet, and is refused
-- the wrong line comes after those lines; where it is the next one, just their entries are stored
pub record After (n : ℕ) (bits : List ℕ) (k : ℕ) (s : List ℕ) (a : List Float) (line : ℕ) : Type 0 where
  pub late : k < line
  pub kept : line ≡ suc k → (read_of s a).cells ≡ stored n (places n) (take (k - 1) bits) a

-- the first line is wrong, or a later one
record First (s : List ℕ) (a : List Float) (line : ℕ) : Type 0 where
  late : 1 ≤ line
  kept : line ≡ 1 → (read_of s a).cells ≡ a

first_line : (s : List ℕ) (a : List Float) (line : ℕ) → (read_of s a).sheet ≡ wrong_at line → First s a line
first_line s a line e = go (number_after (bytes "order\t") s) refl
  where
    at_once : read_of s a ≡ reading (wrong_at 1) a → First s a line
    at_once r = record { late = omega (arith, wrong_line 1 line (sym (ap (λ (o : Reading). o.sheet) r) ∙ e)); kept = λ same. ap (λ (o : Reading). o.cells) r }

    later : (n : ℕ) (rest : List ℕ) → read_of s a ≡ after_entries n (take_entries n (places n) rest 0 a) → First s a line
    later n rest r =
        let x = entries_late n (places n) rest 0 a line (sym (ap (λ (o : Reading). o.sheet) r) ∙ e) in
        let l = x.late in
        record { late = omega arith; kept = λ same. absurd (omega arith) }

    order : (n : ℕ) (rest : List ℕ) → read_of s a ≡ after_order a n rest → (n ≡ 0) ⊎ (n ≡ 0 → ⊥) → (64 < n) ⊎ (n ≤ 64) → First s a line
    order n rest r (inl z) l = at_once (r ∙ order_zero a n rest z)
    order n rest r (inr z) (inl l) = at_once (r ∙ order_large a n rest z l)
    order n rest r (inr z) (inr l) = later n rest (r ∙ order_right a n rest z l)

    go : (p : Parse ℕ) → number_after (bytes "order\t") s ≡ p → First s a line
    go (found n rest) f = order n rest (read_order s a n rest f) (eq_or_ne n 0) (lt_or_ge 64 n)
    go missing f = at_once (read_no_order s a f)

pub after : (n : ℕ) (bits : List ℕ) (k : ℕ) (s : List ℕ) (a : List Float) (line : ℕ) → BeginsAs n bits k s → (read_of s a).sheet ≡ wrong_at line → After n bits k s a line
unfolding after_entries
after n bits zero s a line b e =
    let x = first_line s a line e in
    record { late = x.late; kept = λ same. x.kept same ∙ sym (stored_none n (places n) (take (0 - 1) bits) a (omega arith)) }
after n bits (suc k) s a line b e = go (lt_or_ge (length bits) k)
  where
    few : k ≤ length bits → After n bits (suc k) s a line
    few l =
        let r : read_of s a ≡ after_entries n (take_entries n (drop k (places n)) b.rest k (stored n (places n) (take k bits) a)) =
        ap (λ (t : List ℕ). read_of t a) b.same ∙ partly_read n bits b.sheet a k b.rest l in
        let x = entries_late n (drop k (places n)) b.rest k (stored n (places n) (take k bits) a) line (sym (ap (λ (o : Reading). o.sheet) r) ∙ e) in
        let late = x.late in
        let earlier : suc k - 1 ≡ k = omega arith in
        record { late = omega arith; kept = λ same. ap (λ (o : Reading). o.cells) r ∙ x.kept (omega arith) ∙ ap (λ (m : ℕ). stored n (places n) (take m bits) a) (sym earlier) }

    all : length bits < k → After n bits (suc k) s a line
    all l =
        let h = b.sheet in
        let count = length_lines n bits h in
        let has = b.has in
        let lines : take (suc k) (sheet_lines n bits) ≡ sheet_lines n bits = take_all (suc k) (sheet_lines n bits) (omega arith) in
        let r : read_of s a ≡ reading (at_the_end n (length bits) b.rest) (stored n (places n) bits a) =
        ap (λ (t : List ℕ). read_of t a) b.same ∙ ap (λ (ls : List (List ℕ)). read_of (join ls ++ b.rest) a) lines ∙ whole_read n bits h a b.rest in
        let end = end_late n (length bits) line b.rest (sym (ap (λ (o : Reading). o.sheet) r) ∙ e) in
        record {
          late = omega arith;
          kept = λ same. ap (λ (o : Reading). o.cells) r ∙ ap (λ (t : List ℕ). stored n (places n) t a) (sym (take_all (suc k - 1) bits (omega arith)));
        }

    go : (length bits < k) ⊎ (k ≤ length bits) → After n bits (suc k) s a line
    go (inl l) = all l
    go (inr l) = few l

-- ---- so a refused text has that first wrong line
pub refused : (s : List ℕ) (a : List Float) (line n : ℕ) (bits : List ℕ) → 1 ≤ line → (read_of s a).sheet ≡ wrong_at line → BeginsAs n bits (line - 1) s → Reads s a (read_of s a).sheet (read_of s a).cells
refused s a line n bits one e b =
    let x = after n bits (line - 1) s a line b e in
    let back : line - 1 - 1 ≡ line - 2 = omega arith in
    wrong line n bits
    (record {
      no_sheet = λ m other h same. right_is_not_wrong m line (sym (ap (λ (o : Reading). o.sheet) (ap (λ (t : List ℕ). read_of t a) same ∙ complete m other a h)) ∙ e);
      before = record { order = n; bits = bits; begins = b };
      here = λ begun. omega (arith, (after begun.order begun.bits line s a line begun.begins e).late);
    })
    e b (x.kept (omega arith) ∙ ap (λ (m : ℕ). stored n (places n) (take m bits) a) back)

-- ---- the lines that were read are lines of a sheet
one_sheet : IsSheet 1 (0 ∷ [])
unfolding places columns rows
one_sheet = record { least = omega arith; most = omega arith; each = refl; wide = wide_cons 0 [] (omega arith) (λ k. omega arith) }

no_lines : (s : List ℕ) → BeginsAs 1 (0 ∷ []) 0 s
unfolding join
no_lines s = record { sheet = one_sheet; has = omega arith; rest = s; same = refl }

wide_zeros : (m : ℕ) → Wide (replicate m 0)
wide_zeros zero k = omega arith
wide_zeros (suc m) zero = omega arith
wide_zeros (suc m) (suc k) = wide_zeros m k

wide_both : (bits more : List ℕ) → Wide bits → Wide more → Wide (bits ++ more)
wide_both [] more w v k = v k
wide_both (b ∷ bits) more w v zero = w 0
wide_both (b ∷ bits) more w v (suc k) = wide_both bits more (wide_tail b bits w) v k

-- the bits that were read, and zeros for the rest
filled : (n : ℕ) → List ℕ → List ℕ
filled n bits = bits ++ replicate (length (places n) - length bits) 0

filled_sheet : (n : ℕ) (bits : List ℕ) → 1 ≤ n → n ≤ 64 → length bits ≤ length (places n) → Wide bits → IsSheet n (filled n bits)
unfolding filled
filled_sheet n bits low high few w =
    let whole = length-append bits (replicate (length (places n) - length bits) 0) in
    let zeros = length-replicate {A = ℕ} (length (places n) - length bits) 0 in
    record { least = low; most = high; each = omega arith; wide = wide_both bits (replicate (length (places n) - length bits) 0) w (wide_zeros (length (places n) - length bits)) }

filled_lines : (n : ℕ) (bits : List ℕ) → IsSheet n (filled n bits) → length bits ≤ length (places n) → join (take (suc (length bits)) (sheet_lines n (filled n bits))) ≡ number_line (bytes "order\t") n ++ join (entry_lines (places n) bits)
unfolding sheet_lines join filled
filled_lines n bits h few =
    let more = filled n bits in
    let last = number_line (bytes "end\t") (length (entry_lines (places n) more)) ∷ [] in
    let each = h.each in
    let count : length (entry_lines (places n) more) ≡ length more = entry_count (places n) more (omega arith) in
    let lines : take (length bits) (entry_lines (places n) more ++ last) ≡ entry_lines (places n) bits =
    take-append-le (length bits) (entry_lines (places n) more) last (omega arith)
    ∙ take_entries_law (length bits) (places n) more
    ∙ ap (entry_lines (places n)) (take-append_seam bits (replicate (length (places n) - length bits) 0)) in
    ap (λ (ls : List (List ℕ)). number_line (bytes "order\t") n ++ join ls) lines

module _ (n : ℕ) (s t : List ℕ) (a : List Float) (k : Taken) (low : 1 ≤ n) (high : n ≤ 64) (order : s ≡ number_line (bytes "order\t") n ++ t) (x : Extent n (places n) t 0 a k) where
  begun : BeginsAs n (filled n x.bits) (suc (length x.bits)) s
  begun =
      let h = filled_sheet n x.bits low high x.fewer x.wide in
      let few = x.fewer in
      let each = h.each in
      let count = length_lines n (filled n x.bits) h in
      record {
        sheet = h;
        has = omega arith;
        rest = k.left;
        same =
            order
            ∙ ap (λ (u : List ℕ). number_line (bytes "order\t") n ++ u) x.text
            ∙ sym (append_assoc (number_line (bytes "order\t") n) (join (entry_lines (places n) x.bits)) k.left)
            ∙ ap (λ (u : List ℕ). u ++ k.left) (sym (filled_lines n x.bits h few));
      }

  -- line count + 2 is the first that is wrong
  next_line : (read_of s a).sheet ≡ wrong_at (k.count + 2) → Reads s a (read_of s a).sheet (read_of s a).cells
  next_line e =
      let count = x.count in
      let lines : k.count + 2 - 1 ≡ suc (length x.bits) = omega arith in
      refused s a (k.count + 2) n (filled n x.bits) (omega arith) e (subst (λ (m : ℕ). BeginsAs n (filled n x.bits) m s) (sym lines) begun)

  module _ (whole : k.whole ≡ true) (v : ℕ) (rest : List ℕ) (end : k.left ≡ number_line (bytes "end\t") v ++ rest) (same_count : v ≡ k.count) where
    whole_sheet : IsSheet n x.bits
    whole_sheet = record { least = low; most = high; each = x.all whole; wide = x.wide }

    whole_text : s ≡ join (sheet_lines n x.bits) ++ rest
    whole_text =
        let count = x.count in
        let each = x.all whole in
        let lines = entry_count (places n) x.bits (omega arith) in
        let number : v ≡ length (entry_lines (places n) x.bits) = omega arith in
        order
        ∙ ap (λ (u : List ℕ). number_line (bytes "order\t") n ++ u) (x.text ∙ ap (λ (u : List ℕ). join (entry_lines (places n) x.bits) ++ u) (end ∙ ap (λ (m : ℕ). number_line (bytes "end\t") m ++ rest) number))
        ∙ sym (all_lines n x.bits rest)

    accepted : rest ≡ [] → (read_of s a).sheet ≡ right_at n → (read_of s a).cells ≡ stored n (places n) x.bits a → Reads s a (read_of s a).sheet (read_of s a).cells
    unfolding sheet_of
    accepted none e cells =
        right n x.bits whole_sheet
        (whole_text ∙ ap (λ (u : List ℕ). join (sheet_lines n x.bits) ++ u) none ∙ append-nil (join (sheet_lines n x.bits))) e cells

    after_the_end : (read_of s a).sheet ≡ wrong_at (k.count + 3) → Reads s a (read_of s a).sheet (read_of s a).cells
    after_the_end e =
        let count = x.count in
        let lines = length_lines n x.bits whole_sheet in
        let all : take (k.count + 3 - 1) (sheet_lines n x.bits) ≡ sheet_lines n x.bits = take_all (k.count + 3 - 1) (sheet_lines n x.bits) (omega arith) in
        refused s a (k.count + 3) n x.bits (omega arith) e
        (record { sheet = whole_sheet; has = omega arith; rest = rest; same = whole_text ∙ ap (λ (ls : List (List ℕ)). join ls ++ rest) (sym all) })

  from_entries : read_of s a ≡ after_entries n k → Reads s a (read_of s a).sheet (read_of s a).cells
  unfolding after_entries
  from_entries r = go k.whole refl
    where
      sheet : (read_of s a).sheet ≡ verdict n k.whole k.count k.left
      sheet = ap (λ (o : Reading). o.sheet) r

      cells : (read_of s a).cells ≡ stored n (places n) x.bits a
      cells = ap (λ (o : Reading). o.cells) r ∙ x.cells

      closing : k.whole ≡ true → (v : ℕ) (rest : List ℕ) → k.left ≡ number_line (bytes "end\t") v ++ rest → v ≡ k.count → (read_of s a).sheet ≡ at_the_end n k.count rest → Reads s a (read_of s a).sheet (read_of s a).cells
      closing w v [] end c e = accepted w v [] end c refl e cells
      closing w v (b ∷ rest) end c e = after_the_end w v (b ∷ rest) end c e

      counting : k.whole ≡ true → (v : ℕ) (rest : List ℕ) → k.left ≡ number_line (bytes "end\t") v ++ rest → (read_of s a).sheet ≡ closed n k.count v rest → (v ≡ k.count) ⊎ (v ≡ k.count → ⊥) → Reads s a (read_of s a).sheet (read_of s a).cells
      counting w v rest end e (inl c) = closing w v rest end c (e ∙ count_right n k.count v rest c)
      counting w v rest end e (inr c) = next_line (e ∙ other_count n k.count v rest c)

      last : k.whole ≡ true → (p : Parse ℕ) → number_after (bytes "end\t") k.left ≡ p → Reads s a (read_of s a).sheet (read_of s a).cells
      last w (found v rest) f =
          counting w v rest (line_sound (bytes "end\t") k.left v rest f).same (sheet ∙ end_line_law n k.whole k.count k.left v rest w f) (eq_or_ne v k.count)
      last w missing f = next_line (sheet ∙ no_end_line n k.whole k.count k.left w f)

      go : (b : Bool) → k.whole ≡ b → Reads s a (read_of s a).sheet (read_of s a).cells
      go true w = last w (number_after (bytes "end\t") k.left) refl
      go false w = next_line (sheet ∙ not_whole n k.whole k.count k.left w)

-- what the reader answers is right, of any text
pub sound : (s : List ℕ) (a : List Float) → Reads s a (read_of s a).sheet (read_of s a).cells
sound s a = go (number_after (bytes "order\t") s) refl
  where
    at_once : read_of s a ≡ reading (wrong_at 1) a → Reads s a (read_of s a).sheet (read_of s a).cells
    at_once r = refused s a 1 1 (0 ∷ []) (omega arith) (ap (λ (o : Reading). o.sheet) r) (no_lines s)

    order : (n : ℕ) (t : List ℕ) → number_after (bytes "order\t") s ≡ found n t → (n ≡ 0) ⊎ (n ≡ 0 → ⊥) → (64 < n) ⊎ (n ≤ 64) → Reads s a (read_of s a).sheet (read_of s a).cells
    order n t f (inl z) l = at_once (read_order s a n t f ∙ order_zero a n t z)
    order n t f (inr z) (inl l) = at_once (read_order s a n t f ∙ order_large a n t z l)
    order n t f (inr z) (inr l) =
        from_entries n s t a (take_entries n (places n) t 0 a) (omega arith) l (line_sound (bytes "order\t") s n t f).same (entries_sound n (places n) t 0 a)
        (read_order s a n t f ∙ order_right a n t z l)

    go : (p : Parse ℕ) → number_after (bytes "order\t") s ≡ p → Reads s a (read_of s a).sheet (read_of s a).cells
    go (found n t) f = order n t f (eq_or_ne n 0) (lt_or_ge 64 n)
    go missing f = at_once (read_no_order s a f)

pub reads_by : (s : List ℕ) (a : List Float) (r : Sheet) (a' : List Float) → reading r a' ≡ read_of s a → Reads s a r a'
reads_by s a r a' e = subst (λ (o : Reading). Reads s a o.sheet o.cells) (sym e) (sound s a)
