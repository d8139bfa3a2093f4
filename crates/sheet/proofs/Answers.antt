-- From what the reader and the search for twins answer to the response and the warning.
use Rattle.std.specs.Prelude.{None, Some, Ok, Err}
use mathlib.Core.Path.{◌≡◌, refl, sym, ap, ◌∙◌, subst}
use mathlib.Core.List.{List, [], ◌∷◌}
use Prim.Native.Nat.{ℕ, ◌*◌, ◌≤◌, zero-le}
use native.Mathlib.Nat.{mul-le-mul}
use native.Mathlib.Omega.{arith}
use lib.Ieee.{Float, binary64, of_bits}
use lib.ListN.{length, take, set, length-replicate, length-set}
use lib.Seq.{length-take-le}
use Rattle.answer.specs.declared.Refusal.{Refusal}
use Rattle.answer.specs.declared.Refusal.TheVariants.{BadLine}
use Rattle.answer.specs.Answer.{Answer, Done}
use Rattle.matrix.specs.Grid.{load}
use Rattle.matrix.specs.Layouts.{full, lower}
use Rattle.matrix.specs.Rounded.{plus_zero}
use Rattle.pivots.specs.Words.{words_of}
use Rattle.twins.specs.First.{Found, FirstTwin}
use Rattle.sheet_text.specs.declared.place.Place.{Place}
use Rattle.sheet_text.specs.Place.{places, cell}
use Rattle.sheet_text.specs.Sheet.{sheet_of, IsSheet, FirstWrong, stored, Reads, right, wrong}
use Rattle.sheet_page.specs.Page.{refusal_of, twin_line}
use Rattle.sheet_page.specs.Put.{Put}
use Rattle.sheet_page.proofs.PutLaws.{put_none, put_ends}
use Rattle.sheet.specs.declared.Responded.{Responded}
use Rattle.sheet.specs.Respond.{page_from, empty_room, empty_words, numbers_of, factor_page, factors, refuses, Responds}
use Rattle.sheet.specs.Warn.{Warning, names_twins, no_twins, no_sheet, Warns}
use Rattle.sheet.specs.inner.Parts.{Square, Writes, Empty}
use Rattle.sheet.proofs.Twins.{OfRows, of_rows}

pub square_small : (n : ℕ) → n ≤ 64 → n * n ≤ 4096
square_small n h = mul-le-mul {n₁ = n} {m₁ = n} {n₂ = 64} {m₂ = 64} h h

pub room_length : (a : List Float) (words : List ℕ) → Empty a words → length a ≡ 4096
room_length a words e = ap length e.room ∙ length-replicate 4096 plus_zero

pub words_length : (a : List Float) (words : List ℕ) → Empty a words → length words ≡ words_of 64
words_length a words e = ap length e.record_words ∙ length-replicate {A = ℕ} (words_of 64) 0

-- a room with no record beside it
pub lone_room : {a : List Float} → a ≡ empty_room → Empty a empty_words
lone_room e = record { room = e; record_words = refl }

stored_length : (n : ℕ) (ps : List Place) (bits : List ℕ) (a : List Float) → length (stored n ps bits a) ≡ length a
unfolding stored
stored_length n [] bits a = refl
stored_length n (p ∷ ps) [] a = refl
stored_length n (p ∷ ps) (b ∷ bits) a = stored_length n ps bits (set a (cell n p) (of_bits binary64 b)) ∙ length-set a (cell n p) (of_bits binary64 b)

pub numbers_length : (n : ℕ) (bits : List ℕ) → n ≤ 64 → length (numbers_of n bits) ≡ n * n
unfolding numbers_of
numbers_length n bits small =
    length-take-le (n * n) (stored n (places n) bits empty_room)
    (omega (arith, square_small n small, stored_length n (places n) bits empty_room, length-replicate 4096 plus_zero))

-- ---- the warning
-- what is said of an answer of `first_twin`
abbrev pub spoken : Found → List ℕ
spoken (Ok None) = []
spoken (Ok (Some p)) = twin_line p.first p.second
spoken (Err r) = []

pub sheet_warning : {s : List ℕ} (n : ℕ) (bits : List ℕ) → IsSheet n bits → s ≡ sheet_of n bits → (t : Found) → FirstTwin (numbers_of n bits) n n t → Warning s (spoken t)
sheet_warning {s} n bits h same t first = go t first (of_rows (numbers_of n bits) n h.most (numbers_length n bits h.most) first)
  where
    go : (t : Found) → FirstTwin (numbers_of n bits) n n t → OfRows n t → Warning s (spoken t)
    go (Ok None) first rows = no_twins n bits h same first refl
    go (Ok (Some p)) first rows = names_twins n bits p.first p.second h same first refl
    go (Err r) first rows = absurd rows

-- ---- from the reader on
-- what `respond` hands back
abbrev pub responded : Answer → ℕ → Responded
responded a k = record { answer = a; end = k }

-- the sheet that the reader accepted, and what it left in the room
pub record Accepted (s : List ℕ) (a : List Float) (n : ℕ) (a' : List Float) : Type 0 where
  pub bits : List ℕ
  pub sheet : IsSheet n bits
  pub same : s ≡ sheet_of n bits
  pub cells : a' ≡ stored n (places n) bits a

pub accepted : {s : List ℕ} {a : List Float} {n : ℕ} {a' : List Float} → Reads s a (Ok n) a' → Accepted s a n a'
accepted {s} {a} {n} {a'} (right m bits h same e c) =
    let one : m ≡ n = cc in
    subst (λ (k : ℕ). Accepted s a k a') one (record { bits = bits; sheet = h; same = same; cells = c })
accepted (wrong line m bits f e b c) = absurd (cc e)

pub record Refused (s : List ℕ) (r : Refusal) : Type 0 where
  pub line : ℕ
  pub first : FirstWrong s line
  pub is : r ≡ BadLine line

pub refused : {s : List ℕ} {a : List Float} {r : Refusal} {a' : List Float} → Reads s a (Err r) a' → Refused s r
refused (right m bits h same e c) = absurd (cc e)
refused (wrong line m bits f e b c) = record { line = line; first = f; is = cc }

module _ {s : List ℕ} {a : List Float} {r : Refusal} {a' : List Float} (read : Reads s a (Err r) a') where
  pub refuses_it : {o : List ℕ} {k : ℕ} {o' : List ℕ} → Put o 0 (refusal_of (Err r)) k o' → Responds s o (responded (Err r) k) o'
  refuses_it {k = k} {o' = o'} put =
      let x = refused read in
      record {
        text = refusal_of (Err r);
        response = refuses x.line x.first (ap Err x.is) (ap (λ (r : Refusal). refusal_of (Err r)) x.is);
        put = put;
        ends = put_ends put;
        counted = sym (length-take-le k o' (put_ends put));
      }

  pub silent : (o : List ℕ) → Warns s o 0 o
  silent o =
      let x = refused read in
      record { text = []; warning = no_sheet x.line x.first refl; put = put_none o 0 zero-le; ends = zero-le; counted = refl }

module _ {s : List ℕ} {a : List Float} {n : ℕ} {a' : List Float} (read : Reads s a (Ok n) a') where
  pub order_small : n ≤ 64
  order_small = (accepted read).sheet.most

  -- the first n·n numbers of the room, and the first words of the record
  pub parts : (words : List ℕ) {count : ℕ} → count ≡ words_of n → Empty a words → length a' ≡ length a → Square n (take (n * n) a') (take count words)
  parts words {count} is e kept =
      let cells : n * n ≤ length a' = omega (arith, square_small n order_small, room_length a words e) in
      let room : count ≤ length words = omega (arith, is, order_small, words_length a words e) in
      record { small = order_small; long = length-take-le (n * n) a' cells; sized = length-take-le count words room ∙ is }

  pub factors_it : (words : List ℕ) {count : ℕ} {o : List ℕ} {k : ℕ} {o' : List ℕ} → count ≡ words_of n → Empty a words
      → Writes n (take (n * n) a') (take count words) o k o' → Responds s o (responded Done k) o'
  unfolding factor_page numbers_of
  factors_it words {o = o} {k = k} {o' = o'} is empty put =
      let x = accepted read in
      record {
        text = page a' words;
        response =
            factors n x.bits x.sheet x.same refl
            (ap (λ (b : List Float). page b words) (x.cells ∙ ap (stored n (places n) x.bits) empty.room)
            ∙ ap (page (stored n (places n) x.bits empty_room)) empty.record_words);
        put = subst (λ (c : ℕ). Writes n (take (n * n) a') (take c words) o k o') is put;
        ends = put_ends put;
        counted = sym (length-take-le k o' (put_ends put));
      }
    where
      page : List Float → List ℕ → List ℕ
      page b w = page_from n (load (lower (full n)) (take (n * n) b)) (take (words_of n) w)

  pub warned : {t : Found} {o : List ℕ} {k : ℕ} {o' : List ℕ} → a ≡ empty_room → FirstTwin (take (n * n) a') n n t → Put o 0 (spoken t) k o' → Warns s o k o'
  unfolding numbers_of
  warned {t} {o} {k} {o'} empty first put =
      let x = accepted read in
      record {
        text = spoken t;
        warning =
            sheet_warning n x.bits x.sheet x.same t
            (subst (λ (b : List Float). FirstTwin (take (n * n) b) n n t) (x.cells ∙ ap (stored n (places n) x.bits) empty) first);
        put = put;
        ends = put_ends put;
        counted = sym (length-take-le k o' (put_ends put));
      }
