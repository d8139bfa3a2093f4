-- From what is found to the answer and back: the text that is left begins at the place that the answer names.
use Rattle.std.proofs.Common.{◌≡◌, ℕ, ◌≤◌, List, ◌++◌, length, take, drop, Option, Some, None, Result, Err, refl, sym, ap, ◌∙◌, append_assoc, arith, length-append, length-drop}
use Rattle.std.proofs.Math.ListN.{take-append-drop}
use Rattle.std.specs.Option.{ok_or}
use Rattle.std.specs.Result.{IsErrAnd}
use Rattle.answer.specs.declared.Refusal.{Refusal}
use Rattle.answer.proofs.Done.{handed_on}
use lib.Seq.{drop-append_seam}
use Rattle.sheet_text.specs.declared.line.Entry.{Entry}
use Rattle.sheet_text.specs.declared.line.Found.{Found}
use Rattle.sheet_text.specs.declared.place.Place.{Place}
use Rattle.sheet_text.specs.Text.{field, bits_field, number_line, entry_line}
use Rattle.sheet_text.specs.inner.Parse.{Parse, found, missing, number, bits, number_after, any_entry}
use Rattle.sheet_text.specs.inner.Line.{rest_at, found_in}
use Rattle.sheet_text.specs.inner.Read.{entry_at}
use Rattle.sheet_text.proofs.NumberLaws.{number_sound}
use Rattle.sheet_text.proofs.HexLaws.{bits_sound}
use Rattle.sheet_text.proofs.LineLaws.{line_sound, entry_sound, place_sound}

-- what is found in s, and that the text that is left is s from `next` on
pub record Next {A : Type 0} (s : List ℕ) (p : Parse A) (v : A) (next : ℕ) : Type 0 where
  pub read : p ≡ found v (drop next s)
  pub within : next ≤ length s

abbrev pub at : {A : Type 0} → A → ℕ → Found A
at v next = record { value = v; next = next }

module _ {A : Type 0} (s : List ℕ) where
  -- ---- from what is found to the answer
  pub found_is : {p : Parse A} {v : A} {next : ℕ} → Next s p v next → Some (at v next) ≡ found_in s p
  found_is {p} {v} {next} n =
      let place : next ≡ rest_at s (drop next s) = omega (arith, length-drop next s, n.within) in
      ap (λ (i : ℕ). Some (at v i)) place ∙ sym (ap (found_in s) n.read)

  pub none_is : {p : Parse A} → p ≡ missing → None ≡ found_in s p
  none_is e = sym (ap (found_in s) e)

  -- ---- from the answer to what is found
  pub none_found : (p : Parse A) → None ≡ found_in s p → p ≡ missing
  none_found (found v rest) e = absurd cc
  none_found missing e = refl

  record Left (p : Parse A) (x : Found A) : Type 0 where
    rest : List ℕ
    read : p ≡ found x.value rest
    place : x.next ≡ rest_at s rest

  left : (p : Parse A) (x : Found A) → Some x ≡ found_in s p → Left p x
  left (found v rest) x e =
      let same : x ≡ at v (rest_at s rest) = cc in
      record { rest = rest; read = ap (λ (w : A). found w rest) (sym (ap (λ (y : Found A). y.value) same)); place = ap (λ (y : Found A). y.next) same }
  left missing x e = absurd cc

  -- the text that is left stands from the place named on
  goes_on : (p : Parse A) (x : Found A) (l : Left p x) (at : ℕ) (front : List ℕ) → drop at s ≡ front ++ l.rest → Next s p x.value x.next
  goes_on p x l at front e =
      let before = take at s ++ front in
      let whole : s ≡ before ++ l.rest =
      sym (take-append-drop at s) ∙ ap (λ (t : List ℕ). take at s ++ t) e ∙ sym (append_assoc (take at s) front l.rest) in
      let place : x.next ≡ length before = omega (arith, l.place, ap length whole, length-append before l.rest) in
      let here : drop x.next s ≡ l.rest = ap (λ (i : ℕ). drop i s) place ∙ ap (drop (length before)) whole ∙ drop-append_seam before l.rest in
      record { read = l.read ∙ ap (found x.value) (sym here); within = omega (arith, l.place) }

module _ (s : List ℕ) (at : ℕ) where
  pub number_next : (stop : ℕ) {x : Found ℕ} → Some x ≡ found_in s (number stop (drop at s)) → Next s (number stop (drop at s)) x.value x.next
  number_next stop {x} e =
      let l = left s (number stop (drop at s)) x e in
      goes_on s (number stop (drop at s)) x l at (field x.value stop) (number_sound stop (drop at s) x.value l.rest l.read).same

  pub bits_next : {x : Found ℕ} → Some x ≡ found_in s (bits (drop at s)) → Next s (bits (drop at s)) x.value x.next
  bits_next {x} e =
      let l = left s (bits (drop at s)) x e in
      goes_on s (bits (drop at s)) x l at (bits_field x.value) (bits_sound (drop at s) x.value l.rest l.read).same

  pub line_next : (w : List ℕ) {x : Found ℕ} → Some x ≡ found_in s (number_after w (drop at s)) → Next s (number_after w (drop at s)) x.value x.next
  line_next w {x} e =
      let l = left s (number_after w (drop at s)) x e in
      goes_on s (number_after w (drop at s)) x l at (number_line w x.value) (line_sound w (drop at s) x.value l.rest l.read).same

  pub entry_next : {x : Found Entry} → Some x ≡ found_in s (any_entry (drop at s)) → Next s (any_entry (drop at s)) x.value x.next
  entry_next {x} e =
      let l = left s (any_entry (drop at s)) x e in
      goes_on s (any_entry (drop at s)) x l at (entry_line x.value.row x.value.column x.value.bits) (entry_sound (drop at s) x.value l.rest l.read).same

  pub place_next : (q : Place) {x : Found ℕ} → Some x ≡ found_in s (entry_at q (drop at s)) → Next s (entry_at q (drop at s)) x.value x.next
  place_next q {x} e =
      let l = left s (entry_at q (drop at s)) x e in
      goes_on s (entry_at q (drop at s)) x l at (entry_line q.row q.column x.value) (place_sound q (drop at s) x.value l.rest l.read).same

-- ---- what `?` hands on after `ok_or`, where nothing was found
pub refused : {A B : Type 0} (o : Option A) (w x : Refusal) (r : Result B Refusal) → Err x ≡ ok_or o w → o ≡ None → IsErrAnd r (λ y. y ≡ x) → r ≡ Err w
refused {A} o w x r e none h =
    let whole : ◌≡◌ {A = Result A Refusal} (Err x) (Err w) = e ∙ ap (λ o. ok_or o w) none in
    let same : x ≡ w = cc in
    handed_on r h ∙ ap Err same
