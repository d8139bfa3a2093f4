-- The digits that are left and the bytes of the text from i on give what all sixteen and the whole text give.
use Rattle.std.proofs.Common.{◌≡◌, ℕ, ◌+◌, ◌-◌, ◌*◌, ◌<◌, ◌⊎◌, inl, inr, List, length, get_or, take, drop, refl, sym, ap, ◌∙◌, arith, lit≤, length-drop}
use lib.Seq.{drop-drop, take_all}
use Rattle.sheet_text.specs.inner.Digit.{digit_of}
use Rattle.sheet_text.specs.inner.Parse.{Parse, found, missing, bits, hex_digits}
use Rattle.sheet_text.proofs.Steps.{hex_fits, hex_room, hex_end, hex_other, hex_more, line_short, line_ends, line_goes_on}
use Rattle.sheet_text.proofs.NextLaws.{found_is, none_is}
use Rattle.sheet_text.proofs.line.read_bits.Goals as goal

no_text : (s : List ℕ) (at : ℕ) → length s < at → bits (drop at s) ≡ missing
unfolding bits
no_text s at h = hex_end 16 0 s at (omega arith) (omega arith)

from_text : (s : List ℕ) (at : ℕ) (text : List ℕ) → text ≡ take (length s - at) (drop at s) → text ≡ drop at s
from_text s at text e = e ∙ take_all (length s - at) (drop at s) (omega (arith, length-drop at s))

-- what the text gives, the bytes from `at` on give
of_text : (s : List ℕ) (at : ℕ) (text : List ℕ) {p : Parse ℕ} → text ≡ drop at s → bits text ≡ p → bits (drop at s) ≡ p
of_text s at text e read = ap bits (sym e) ∙ read

past_end : (n at : ℕ) → (n < at) ⊎ (n < n) → n < at
past_end n at (inl h) = h
past_end n at (inr h) = absurd (omega arith)

pub returns-in_err-text : goal.returns-in_err-text
returns-in_err-text c =
    rw c.from_residual.ensures (none_is c.args.s.now (no_text c.args.s.now c.args.at (past_end (length c.args.s.now) c.args.at c.in_err-text.ensures.lookup.0)))

pub loop-i-init : goal.loop-i-init
unfolding bits
loop-i-init c = record { room = omega arith; same = refl }

pub returns-in_err-get : goal.returns-in_err-get
returns-in_err-get c =
    let text = c.in_ok-text.text.now in
    let i = c.loop-i.i in
    rw c.from_residual-in_err-get.ensures
    (none_is c.args.s.now (of_text c.args.s.now c.args.at text (from_text c.args.s.now c.args.at text c.in_ok-text.ensures.lookup.0.2)
    (c.loop-i.invariant.same ∙ hex_end (16 - i) c.loop-i.value text i (omega arith) c.in_err-get.ensures.lookup.3)))

pub returns-then-digit-gt15 : goal.returns-then-digit-gt15
returns-then-digit-gt15 c =
    let text = c.in_ok-text.text.now in
    let i = c.loop-i.i in
    let b = c.in_ok-get.ensures.lookup.3 in
    let d = c.digit_value-digit.ensures ∙ ap digit_of (b.1 0) in
    none_is c.args.s.now (of_text c.args.s.now c.args.at text (from_text c.args.s.now c.args.at text c.in_ok-text.ensures.lookup.0.2)
    (c.loop-i.invariant.same ∙ hex_other (16 - i) c.loop-i.value text i c.digit_value-digit.result d (omega arith) b.0 c.if-digit-gt15.true))

pub overflow_mul-value : goal.overflow_mul-value
overflow_mul-value c = omega (arith, hex_fits c.loop-i.i c.loop-i.value 0 c.loop-i-test.true c.loop-i.invariant.room (lit≤ tt))

pub overflow_add-value : goal.overflow_add-value
overflow_add-value c =
    omega (arith, hex_fits c.loop-i.i c.loop-i.value c.from.result c.loop-i-test.true c.loop-i.invariant.room (omega arith))

pub loop-i-preserved : goal.loop-i-preserved
loop-i-preserved c =
    let text = c.in_ok-text.text.now in
    let i = c.loop-i.i in
    let value = c.loop-i.value in
    let b = c.in_ok-get.ensures.lookup.3 in
    let d = c.from.ensures ∙ c.digit_value-digit.ensures ∙ ap digit_of (b.1 0) in
    let fewer : 16 - i - 1 ≡ 16 - (i + 1) = omega arith in
    record {
      room = hex_room i value c.from.result c.loop-i.invariant.room (omega arith);
      same =
          c.loop-i.invariant.same
          ∙ hex_more (16 - i) value text i c.from.result d (omega arith) b.0 (omega arith)
          ∙ ap (λ (k : ℕ). hex_digits k (value * 16 + c.from.result) (drop (i + 1) text)) fewer;
    }

pub returns-in_err-get-2 : goal.returns-in_err-get-2
returns-in_err-get-2 c =
    let text = c.in_ok-text.text.now in
    let i = c.loop-i.i in
    rw c.from_residual-in_err-get-2.ensures
    (none_is c.args.s.now (of_text c.args.s.now c.args.at text (from_text c.args.s.now c.args.at text c.in_ok-text.ensures.lookup.0.2)
    (c.loop-i.invariant.same ∙ line_short (16 - i) c.loop-i.value text i (omega arith) (omega (arith, c.in_err-get-2.ensures.lookup.3)))))

-- at the byte after the sixteen digits
at_end : (text : List ℕ) (i b : ℕ) → i ≡ 16 → b ≡ get_or text 16 0 → get_or text i 0 ≡ b
at_end text i b e f = ap (λ (k : ℕ). get_or text k 0) e ∙ sym f

pub returns-then-branch-ne10 : goal.returns-then-branch-ne10
returns-then-branch-ne10 c =
    let text = c.in_ok-text.text.now in
    let i = c.loop-i.i in
    let b = c.in_ok-get-2.ensures.lookup.3 in
    let byte = at_end text i c.in_ok-get-2.field-0.now (omega arith) (b.1 0) in
    none_is c.args.s.now (of_text c.args.s.now c.args.at text (from_text c.args.s.now c.args.at text c.in_ok-text.ensures.lookup.0.2)
    (c.loop-i.invariant.same ∙ line_goes_on (16 - i) c.loop-i.value text i (omega arith) (omega (arith, b.0)) (λ e. c.if-branch-ne10.true (sym byte ∙ e))))

pub returns : goal.returns
returns c =
    let text = c.in_ok-text.text.now in
    let i = c.loop-i.i in
    let b = c.in_ok-get-2.ensures.lookup.3 in
    let byte = at_end text i c.in_ok-get-2.field-0.now (omega arith) (b.1 0) in
    let here = from_text c.args.s.now c.args.at text c.in_ok-text.ensures.lookup.0.2 in
    let next : i + 1 ≡ 17 = omega arith in
    let rest : drop (i + 1) text ≡ drop (c.args.at + 17) c.args.s.now =
    ap (λ (k : ℕ). drop k text) next ∙ ap (drop 17) here ∙ drop-drop 17 c.args.at c.args.s.now in
    found_is c.args.s.now record {
      read =
          of_text c.args.s.now c.args.at text here
          (c.loop-i.invariant.same
          ∙ line_ends (16 - i) c.loop-i.value text i (omega arith) (omega (arith, b.0)) (byte ∙ c.if-branch-ne10.false)
          ∙ ap (found c.loop-i.value) rest);
      within = omega (arith, b.0, c.in_ok-text.ensures.lookup.0.3);
    }
