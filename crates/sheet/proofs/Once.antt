-- Every text has one response and one warning, and a promise fixes what is lent and what is answered.
use Rattle.std.specs.Prelude.{Err}
use mathlib.Core.Path.{◌≡◌, refl, sym, ap, ap₂, ◌∙◌}
use mathlib.Core.List.{List, []}
use Prim.Native.Nat.{ℕ}
use Rattle.answer.specs.declared.Refusal.TheVariants.{BadLine}
use Rattle.answer.specs.Answer.{Answer, Done}
use Rattle.twins.specs.First.{Found, FirstTwin}
use Rattle.twins.proofs.Unique.{first_twin_unique}
use Rattle.twins.proofs.Exists.{some_first_twin_since}
use Rattle.sheet_text.specs.inner.Read.{read_of}
use Rattle.sheet_text.specs.Sheet.{sheet_of, IsSheet, Reads, right, wrong}
use Rattle.sheet_text.proofs.SheetSound.{sound}
use Rattle.sheet_text.proofs.SheetOnce.{one_line}
use Rattle.sheet_text.proofs.BitsOnce.{sheet_once}
use Rattle.sheet_page.specs.Page.{refusal_of}
use Rattle.sheet_page.proofs.PutLaws.{put_same, put_once}
use Rattle.sheet.specs.declared.Responded.{Responded}
use Rattle.sheet.specs.Respond.{empty_room, numbers_of, factor_page, Response, factors, refuses, Responds}
use Rattle.sheet.specs.Warn.{Warning, names_twins, no_twins, no_sheet, Warns}
use Rattle.sheet.proofs.Answers.{responded, spoken, sheet_warning}

-- ---- the response
pub some_response : (s : List ℕ) → (answer : Answer) × ((text : List ℕ) × Response s answer text)
some_response s = go (sound s empty_room)
  where
    go : Reads s empty_room (read_of s empty_room).sheet (read_of s empty_room).cells → (answer : Answer) × ((text : List ℕ) × Response s answer text)
    go (right n bits h same e c) = (Done, (factor_page n bits, factors n bits h same refl refl))
    go (wrong line n bits f e b c) = (Err (BadLine line), (refusal_of (Err (BadLine line)), refuses line f refl refl))

pub one_response : {s : List ℕ} {a b : Answer} {t u : List ℕ} → Response s a t → Response s b u → (a ≡ b) × (t ≡ u)
one_response (factors n bits h same d e) (factors m other k same' d' e') =
    let one = sheet_once n bits m other h k (sym same ∙ same') in
    (d ∙ sym d', e ∙ ap₂ factor_page one.order one.entries ∙ sym e')
one_response (factors n bits h same d e) (refuses line f d' e') = absurd (f.no_sheet n bits h same)
one_response (refuses line f d e) (factors m other k same' d' e') = absurd (f.no_sheet m other k same')
one_response {s} (refuses line f d e) (refuses line' g d' e') =
    let one = one_line s line line' f g in
    (d ∙ ap (λ (line : ℕ). Err (BadLine line)) one ∙ sym d', e ∙ ap (λ (k : ℕ). refusal_of (Err (BadLine k))) one ∙ sym e')

pub responds_once : {s o : List ℕ} {r k : Responded} {o' o'' : List ℕ} → Responds s o r o' → Responds s o k o'' → (r ≡ k) × (o' ≡ o'')
responds_once x y =
    let one = one_response x.response y.response in
    let put = put_once (put_same one.1 x.put) y.put in
    (ap₂ responded one.0 put.0, put.1)

-- ---- the warning
pub some_warning : (s : List ℕ) → (text : List ℕ) × Warning s text
some_warning s = go (sound s empty_room)
  where
    go : Reads s empty_room (read_of s empty_room).sheet (read_of s empty_room).cells → (text : List ℕ) × Warning s text
    go (right n bits h same e c) =
        let first = some_first_twin_since (numbers_of n bits) n 0 n in
        (spoken first.0, sheet_warning n bits h same first.0 first.1)
    go (wrong line n bits f e b c) = ([], no_sheet line f refl)

-- one sheet has one first pair, or none
same_twins : (s : List ℕ) {t u : Found} (n : ℕ) (bits : List ℕ) (m : ℕ) (other : List ℕ) → IsSheet n bits → IsSheet m other → s ≡ sheet_of n bits → s ≡ sheet_of m other
    → FirstTwin (numbers_of n bits) n n t → FirstTwin (numbers_of m other) m m u → spoken t ≡ spoken u
same_twins s {t} {u} n bits m other h k same same' first first' =
    let one = sheet_once n bits m other h k (sym same ∙ same') in
    let back : FirstTwin (numbers_of n bits) n n u = rw (one.order, one.entries) first' in
    ap spoken (first_twin_unique (numbers_of n bits) n n first back)

pub one_warning : (s t u : List ℕ) → Warning s t → Warning s u → t ≡ u
one_warning s t u (names_twins n bits p q h same f e) (names_twins m other i j k same' g e') = e ∙ same_twins s n bits m other h k same same' f g ∙ sym e'
one_warning s t u (names_twins n bits p q h same f e) (no_twins m other k same' g e') = e ∙ same_twins s n bits m other h k same same' f g ∙ sym e'
one_warning s t u (names_twins n bits p q h same f e) (no_sheet line w e') = absurd (w.no_sheet n bits h same)
one_warning s t u (no_twins n bits h same f e) (names_twins m other i j k same' g e') = e ∙ same_twins s n bits m other h k same same' f g ∙ sym e'
one_warning s t u (no_sheet line w e) (names_twins m other i j k same' g e') = absurd (w.no_sheet m other k same')
one_warning s t u (no_twins n bits h same f e) (no_twins m other k same' g e') = e ∙ sym e'
one_warning s t u (no_twins n bits h same f e) (no_sheet line w e') = e ∙ sym e'
one_warning s t u (no_sheet line w e) (no_twins m other k same' g e') = e ∙ sym e'
one_warning s t u (no_sheet line w e) (no_sheet line' w' e') = e ∙ sym e'

pub warns_once : {s o : List ℕ} {r k : ℕ} {o' o'' : List ℕ} → Warns s o r o' → Warns s o k o'' → (r ≡ k) × (o' ≡ o'')
warns_once x y = put_once (put_same (one_warning _ _ _ x.warning y.warning) x.put) y.put
