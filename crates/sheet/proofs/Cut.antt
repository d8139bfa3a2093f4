-- 65,536 bytes are enough: the first so many of the input decide, and every response and every warning has room in so many.
use Rattle.std.specs.Prelude.{Err}
use mathlib.Core.Path.{◌≡◌, sym, ap, ◌∙◌, subst}
use mathlib.Core.List.{List, ◌++◌, append_assoc}
use mathlib.Core.Logic.{◌⊎◌, inl, inr}
use Prim.Native.Nat.{ℕ, ◌+◌, ◌-◌, ◌<◌, ◌≤◌}
use native.Mathlib.Omega.{arith}
use lib.ListN.{length, take, drop, length-replicate, take-append-drop}
use lib.Seq.{take_all, length-take-le, take-append-add}
use Rattle.answer.proofs.Tests.{eq_or_ne, lt_or_ge}
use Rattle.answer.specs.declared.Refusal.TheVariants.{BadLine}
use Rattle.answer.specs.Answer.{Answer}
use Rattle.matrix.specs.Matrix.{Matrix}
use Rattle.matrix.specs.Grid.{load}
use Rattle.matrix.specs.Layouts.{full, lower}
use Rattle.pivots.specs.Words.{mark_at, words_of, Sized}
use Rattle.pivots.specs.Rule.{Accepted}
use Rattle.pivots.proofs.Boundaries.{Upto, start, one, two, boundary_all, mark_row}
use Rattle.lblt.specs.Factor.{final_state, recorded}
use Rattle.lblt.proofs.Accepted.{accepted}
use Rattle.lblt_read.specs.Diagonal.{determinant_of}
use Rattle.sheet_text.specs.Sheet.{sheet_lines, join, sheet_of, IsSheet, Begins, FirstWrong}
use Rattle.sheet_text.proofs.SheetLaws.{length_lines}
use Rattle.sheet_text.proofs.Lengths.{few_places, sheet_length, lines_length}
use Rattle.sheet_page.proofs.PutLaws.{put_whole}
use Rattle.sheet_page.proofs.PageLength.{ShortRow, page_length, refusal_length, twin_length}
use Rattle.sheet.specs.declared.Responded.{Responded}
use Rattle.sheet.specs.Respond.{sheet_run, page_from, empty_words, numbers_of, factor_page, Response, factors, refuses, Responds}
use Rattle.sheet.specs.Warn.{Warning, names_twins, no_twins, no_sheet, Warns}
use Rattle.sheet.proofs.Twins.{of_rows}
use Rattle.sheet.proofs.Answers.{numbers_length}

-- ---- the input
fewer : (n : ℕ) (bits : List ℕ) → IsSheet n bits → (k : ℕ) → length (join (take k (sheet_lines n bits))) ≤ 60338
unfolding sheet_of
fewer n bits h k = omega (arith, lines_length k (sheet_lines n bits), sheet_length n bits h)

module _ (size : ℕ) (large : 60338 < size) (s : List ℕ) where
  whole : s ≡ take size s ++ drop size s
  whole = sym (take-append-drop size s)

  begins_whole : (k : ℕ) → Begins k (take size s) → Begins k s
  begins_whole k b =
      let x = b.begins in
      record {
        order = b.order;
        bits = b.bits;
        begins = record {
          sheet = x.sheet;
          has = x.has;
          rest = x.rest ++ drop size s;
          same = whole ∙ ap (λ (t : List ℕ). t ++ drop size s) x.same ∙ append_assoc (join (take k (sheet_lines b.order b.bits))) x.rest (drop size s);
        };
      }

  begins_cut : (k : ℕ) → Begins k s → Begins k (take size s)
  begins_cut k b =
      let x = b.begins in
      let lines = sheet_lines b.order b.bits in
      let text = join (take k lines) in
      let short = fewer b.order b.bits x.sheet k in
      let split : length text + (size - length text) ≡ size = omega arith in
      record {
        order = b.order;
        bits = b.bits;
        begins = record {
          sheet = x.sheet;
          has = x.has;
          rest = take (size - length text) x.rest;
          same = ap (take size) x.same ∙ ap (λ (m : ℕ). take m (text ++ x.rest)) (sym split) ∙ take-append-add text x.rest (size - length text);
        };
      }

  -- the first bytes are a sheet, or have their first wrong line, as all of them
  sheet_cut : {n : ℕ} {bits : List ℕ} → IsSheet n bits → take size s ≡ sheet_of n bits → s ≡ sheet_of n bits
  sheet_cut {n} {bits} h same = go (lt_or_ge size (length s))
    where
      go : (size < length s) ⊎ (length s ≤ size) → s ≡ sheet_of n bits
      go (inl long) = absurd (omega (arith, length-take-le size s (omega arith), ap length same, sheet_length n bits h))
      go (inr short) = sym (take_all size s short) ∙ same

  wrong_cut : {line : ℕ} → FirstWrong (take size s) line → FirstWrong s line
  wrong_cut {line} f = go (lt_or_ge size (length s))
    where
      go : (size < length s) ⊎ (length s ≤ size) → FirstWrong s line
      go (inl long) = record {
        no_sheet = λ n bits h same. omega (arith, ap length same, sheet_length n bits h);
        before = begins_whole (line - 1) f.before;
        here = λ b. f.here (begins_cut line b);
      }
      go (inr short) = subst (λ (t : List ℕ). FirstWrong t line) (take_all size s short) f

  -- the response to the first bytes is the response to all of them, and so is the warning
  pub cut_decides : {answer : Answer} (text : List ℕ) → Response (take size s) answer text → Response s answer text
  cut_decides text (factors n bits h same d e) = factors n bits h (sheet_cut h same) d e
  cut_decides text (refuses line f d e) = refuses line (wrong_cut f) d e

  pub cut_warns : (text : List ℕ) → Warning (take size s) text → Warning s text
  cut_warns text (names_twins n bits p q h same first e) = names_twins n bits p q h (sheet_cut h same) first e
  cut_warns text (no_twins n bits h same first e) = no_twins n bits h (sheet_cut h same) first e
  cut_warns text (no_sheet line f e) = no_sheet line (wrong_cut f) e

-- ---- the output
rows_short : (n : ℕ) (words : List ℕ) → n ≤ 64 → (k : ℕ) → Upto n words k → (r : ℕ) → r < k → ShortRow words r
rows_short n words small k (start e) r h = absurd (omega arith)
rows_short n words small k (one {j} u o e) r h = go (lt_or_ge r j) (λ l. rows_short n words small j u r l)
  where
    go : (r < j) ⊎ (j ≤ r) → (r < j → ShortRow words r) → ShortRow words r
    go (inl l) before = before l
    go (inr l) before =
        let same : j ≡ r = omega arith in
        subst (ShortRow words) same (record { index = omega (arith, o.high); size = omega (arith, o.size) })
rows_short n words small k (two {j} u t e) r h = go (lt_or_ge r j) (eq_or_ne j r) (λ l. rows_short n words small j u r l)
  where
    go : (r < j) ⊎ (j ≤ r) → (j ≡ r) ⊎ (j ≡ r → ⊥) → (r < j → ShortRow words r) → ShortRow words r
    go (inl l) f before = before l
    go (inr l) (inl same) before = subst (ShortRow words) same (record { index = omega (arith, t.high); size = omega (arith, t.size) })
    go (inr l) (inr other) before =
        let same : j + 1 ≡ r = omega arith in
        subst (ShortRow words) same (record { index = omega (arith, t.high, t.index₂); size = omega (arith, t.size₂) })

mark_small : (n : ℕ) (words : List ℕ) → n ≤ 64 → Accepted n words → mark_at n words ≤ 64
mark_small n words small a = go (eq_or_ne (mark_at n words) 0)
  where
    go : (mark_at n words ≡ 0) ⊎ (mark_at n words ≡ 0 → ⊥) → mark_at n words ≤ 64
    go (inl e) = omega arith
    go (inr f) = omega (arith, (mark_row a f).passed)

page_fits : (n : ℕ) (M : Matrix) (words : List ℕ) → n ≤ 64 → Sized n words → length (page_from n M words) ≤ 65536
unfolding page_from
page_fits n M words small sized =
    let a = accepted n M words sized sheet_run in
    page_length n (recorded n sheet_run M words) (final_state n M words).matrix (determinant_of n (final_state n M words).matrix (recorded n sheet_run M words)) small
    (rows_short n (recorded n sheet_run M words) small n (boundary_all a).before) (mark_small n (recorded n sheet_run M words) small a)

words_sized : (n : ℕ) → n ≤ 64 → Sized n (take (words_of n) empty_words)
words_sized n small = record {
  order = omega arith;
  total = length-take-le (words_of n) empty_words (omega (arith, length-replicate {A = ℕ} (words_of 64) 0));
}

line_small : (s : List ℕ) (line : ℕ) → FirstWrong s line → line < 10000
line_small s line f =
    let b = f.before in
    let x = b.begins in
    let h = x.sheet in
    let has = x.has in
    let lines = length_lines b.order b.bits h in
    let each = h.each in
    let few = few_places b.order h.most in
    omega arith

pub response_fits : (s : List ℕ) {answer : Answer} (text : List ℕ) → Response s answer text → length text ≤ 65536
unfolding factor_page
response_fits s text (factors n bits h same d e) =
    omega (arith, ap length e, page_fits n (load (lower (full n)) (numbers_of n bits)) (take (words_of n) empty_words) h.most (words_sized n h.most))
response_fits s text (refuses line f d e) = omega (arith, ap length e, refusal_length (Err (BadLine line)) (omega arith) (line_small s line f))

pub warning_fits : (s text : List ℕ) → Warning s text → length text ≤ 11
warning_fits s text (names_twins n bits p q h same first e) =
    let small = h.most in
    let rows = of_rows (numbers_of n bits) n small (numbers_length n bits small) first in
    omega (arith, ap length e, twin_length p q (omega (arith, rows.0)) (omega (arith, rows.1)))
warning_fits s text (no_twins n bits h same first e) = omega (arith, ap length e)
warning_fits s text (no_sheet line f e) = omega (arith, ap length e)

-- ---- the program: read into 65,536 bytes, written from 65,536 bytes
pub written_out : (s o : List ℕ) (r : Responded) (o' : List ℕ) → length o ≡ 65536 → Responds (take 65536 s) o r o' → Response s r.answer (take r.end o')
written_out s o r o' long responds =
    let fits = response_fits (take 65536 s) responds.text responds.response in
    cut_decides 65536 (omega arith) s (take r.end o') (subst (Response (take 65536 s) r.answer) (sym (put_whole responds.put (omega arith))) responds.response)

pub warned_out : (s o : List ℕ) (r : ℕ) (o' : List ℕ) → length o ≡ 65536 → Warns (take 65536 s) o r o' → Warning s (take r o')
warned_out s o r o' long warns =
    let fits = warning_fits (take 65536 s) warns.text warns.warning in
    cut_warns 65536 (omega arith) s (take r o') (subst (Warning (take 65536 s)) (sym (put_whole warns.put (omega arith))) warns.warning)
