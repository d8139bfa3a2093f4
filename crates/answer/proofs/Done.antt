-- An answer is done or refused, and its code tells which. Assumes nothing.
use Rattle.std.specs.Prelude.{◌≡◌, true, false, cond, eqb, Result, Ok, Err, IsErrAnd}
use mathlib.Core.Path.{refl, sym, ◌∙◌, ap}
use mathlib.Core.Bool.{true≢false}
use Rattle.answer.specs.declared.Refusal.{Refusal}
use Rattle.answer.specs.declared.Refusal.TheVariants.{OutOfRange, OrderAboveRoom, MatrixLength, SliceLength, BadRecord, ZeroMark, CholeskyZero, ZeroDiagonal, CholeskyBelowZero, CholeskyNan, BadList, OtherRun, BadLine}
use Rattle.answer.specs.Answer.{Answer, Done, is_done}
use Rattle.answer.specs.Number.{code_of}

-- only `Done` is done
pub done_is : (a : Answer) → is_done a ≡ true → a ≡ Done
done_is (Ok tt) e = refl
done_is (Err r) e = absurd (true≢false (sym e))

pub done_or_refused : {A : Type 0} {P : Type 0} (a : Result A Refusal) → (is_done a ≡ true → P) → (is_done a ≡ false → P) → P
done_or_refused (Ok x) done refused = done refl
done_or_refused (Err r) done refused = refused refl

-- two equal answers are both done or both refused
pub done_alike : {A : Type 0} {P : Type 0} {a b : Result A Refusal} → a ≡ b → (is_done a ≡ true → is_done b ≡ true → P) → (is_done a ≡ false → is_done b ≡ false → P) → P
done_alike {a = a} same done refused = done_or_refused a (λ e. done e (ap is_done (sym same) ∙ e)) (λ e. refused e (ap is_done (sym same) ∙ e))

-- and choose the same value
pub value_alike : {A S : Type 0} {a b : Result A Refusal} (x y : S) → a ≡ b → cond (is_done a) x y ≡ cond (is_done b) x y
value_alike {A} x y same = ap (λ (c : Result A Refusal). cond (is_done c) x y) same

-- done is code 0
pub done_by_code : {A : Type 0} (a : Result A Refusal) → is_done a ≡ eqb (code_of a) 0
done_by_code (Ok x) = refl
done_by_code (Err OutOfRange) = refl
done_by_code (Err OrderAboveRoom) = refl
done_by_code (Err MatrixLength) = refl
done_by_code (Err SliceLength) = refl
done_by_code (Err (BadRecord row)) = refl
done_by_code (Err (ZeroMark row)) = refl
done_by_code (Err (CholeskyZero column)) = refl
done_by_code (Err (ZeroDiagonal column)) = refl
done_by_code (Err (CholeskyBelowZero column)) = refl
done_by_code (Err (CholeskyNan column)) = refl
done_by_code (Err (BadList row)) = refl
done_by_code (Err OtherRun) = refl
done_by_code (Err (BadLine line)) = refl

-- what `?` hands on is the refusal that it met
pub handed_on : {A : Type 0} {refusal : Refusal} (r : Result A Refusal) → IsErrAnd r (λ e. e ≡ refusal) → r ≡ Err refusal
handed_on (Ok x) is = absurd is
handed_on (Err e) is = ap Err is
