-- A decimal number's text and what is read of it, both ways.
use mathlib.Core.Path.{◌≡◌, refl, sym, ap, ◌∙◌}
use mathlib.Core.List.{List, [], ◌∷◌, ◌++◌, append_assoc}
use mathlib.Core.Logic.{◌⊎◌, inl, inr}
use Prim.Native.Nat.{ℕ, zero, suc, ◌+◌, ◌*◌, ◌/◌, ◌%◌, ◌<◌, ◌≤◌}
use native.Mathlib.Nat.{not-suc-le-zero}
use native.Mathlib.Omega.{arith}
use borrow.Author.Tests.{lt-ltb, le-ltb}
use Rattle.answer.proofs.Tests.{eq_or_ne, lt_or_ge}
use Rattle.sheet_text.specs.Text.{digit, decimal_in, decimal, field}
use Rattle.sheet_text.specs.inner.Digit.{digit_of}
use Rattle.sheet_text.specs.inner.Parse.{found, missing, later_digits, number}
use Rattle.sheet_text.proofs.Steps.{digits_stop, digits_zero, digits_long, digits_other, digits_more, number_other, number_first}
use Rattle.sheet_text.proofs.DigitLaws.{digit_value, digit_back}

-- ---- the text
one_digit : (f v : ℕ) → v < 10 → decimal_in (suc f) v ≡ digit v ∷ []
unfolding decimal_in
one_digit f v h = rw (lt-ltb v 10 h)

more_digits : (f v : ℕ) → 10 ≤ v → decimal_in (suc f) v ≡ decimal_in f (v / 10) ++ (digit (v % 10) ∷ [])
unfolding decimal_in
more_digits f v h = rw (le-ltb v 10 h)

enough : (f g v : ℕ) → v < f → v < g → decimal_in f v ≡ decimal_in g v
enough zero g v h k = absurd (not-suc-le-zero h)
enough (suc f) zero v h k = absurd (not-suc-le-zero k)
enough (suc f) (suc g) v h k = go (lt_or_ge v 10) (λ l. enough f g (v / 10) (omega arith) (omega arith))
  where
    go : (v < 10) ⊎ (10 ≤ v) → (10 ≤ v → decimal_in f (v / 10) ≡ decimal_in g (v / 10)) → decimal_in (suc f) v ≡ decimal_in (suc g) v
    go (inl l) fewer = one_digit f v l ∙ sym (one_digit g v l)
    go (inr l) fewer = more_digits f v l ∙ ap (λ (t : List ℕ). t ++ (digit (v % 10) ∷ [])) (fewer l) ∙ sym (more_digits g v l)

pub decimal_one : (v : ℕ) → v < 10 → decimal v ≡ digit v ∷ []
unfolding decimal
decimal_one v h = one_digit v v h

pub decimal_more : (v : ℕ) → 10 ≤ v → decimal v ≡ decimal (v / 10) ++ (digit (v % 10) ∷ [])
unfolding decimal
decimal_more v h = more_digits v v h ∙ ap (λ (t : List ℕ). t ++ (digit (v % 10) ∷ [])) (enough v (suc (v / 10)) (v / 10) (omega arith) (omega arith))

decimal_step : (v d : ℕ) → 0 < v → d < 10 → decimal (v * 10 + d) ≡ decimal v ++ (digit d ∷ [])
decimal_step v d p h =
    let quotient : (v * 10 + d) / 10 ≡ v = omega arith in
    let remainder : (v * 10 + d) % 10 ≡ d = omega arith in
    decimal_more (v * 10 + d) (omega arith) ∙ ap (λ (q : ℕ). decimal q ++ (digit ((v * 10 + d) % 10) ∷ [])) quotient ∙ ap (λ (r : ℕ). decimal v ++ (digit r ∷ [])) remainder

-- ---- the text is read
module _ (stop : ℕ) (ends : 9 < digit_of stop) where
  reads : (f v : ℕ) (t : List ℕ) → v < f → v < 10000 → number stop (decimal v ++ t) ≡ later_digits stop v t
  reads zero v t h small = absurd (not-suc-le-zero h)
  reads (suc f) v t h small = go (lt_or_ge v 10) (λ l u. reads f (v / 10) u (omega arith) (omega arith))
    where
      one : v < 10 → number stop (digit v ∷ t) ≡ later_digits stop v t
      one l =
          let e = digit_value v (omega arith) in
          number_first stop 0 (digit v ∷ t) 0 v (sym e) (omega arith) (omega arith)

      more : 10 ≤ v → later_digits stop (v / 10) (digit (v % 10) ∷ t) ≡ later_digits stop v t
      more l =
          let d = v % 10 in
          let e = digit_value (v % 10) (omega arith) in
          let again : v / 10 * 10 + v % 10 ≡ v = omega arith in
          digits_more stop (v / 10) (digit (v % 10) ∷ t) 0 (v % 10) (sym e) (omega arith)
          (λ same. absurd (omega (arith, ap digit_of same))) (omega arith) (omega arith) (omega arith)
          ∙ ap (λ (w : ℕ). later_digits stop w t) again

      go : (v < 10) ⊎ (10 ≤ v) → (10 ≤ v → (u : List ℕ) → number stop (decimal (v / 10) ++ u) ≡ later_digits stop (v / 10) u) → number stop (decimal v ++ t) ≡ later_digits stop v t
      go (inl l) fewer = ap (λ (u : List ℕ). number stop (u ++ t)) (decimal_one v l) ∙ one l
      go (inr l) fewer =
          ap (λ (u : List ℕ). number stop (u ++ t)) (decimal_more v l)
          ∙ ap (number stop) (append_assoc (decimal (v / 10)) (digit (v % 10) ∷ []) t)
          ∙ fewer l (digit (v % 10) ∷ t)
          ∙ more l

  pub number_found : (v : ℕ) (t : List ℕ) → v < 10000 → number stop (field v stop ++ t) ≡ found v t
  unfolding field
  number_found v t small =
      ap (number stop) (append_assoc (decimal v) (stop ∷ []) t)
      ∙ reads (suc v) v (stop ∷ t) (omega arith) small
      ∙ digits_stop stop v (stop ∷ t) 0 (omega arith) refl

-- ---- what is read is the text
pub record Spelled (text : ℕ → List ℕ) (t : List ℕ) (v : ℕ) (rest : List ℕ) (bound : ℕ) : Type 0 where
  pub same : t ≡ text v ++ rest
  pub small : v < bound

pub not_missing : {A : Type 0} (v : A) (rest : List ℕ) → missing ≡ found v rest → ⊥
not_missing v rest e = let z : ◌≡◌ {A = ℕ} 0 1 = cc in omega arith

module _ (stop : ℕ) where
  digits_sound : (t : List ℕ) (v u : ℕ) (rest : List ℕ) → v < 10000 → later_digits stop v t ≡ found u rest → Spelled (λ w. field w stop) (decimal v ++ t) u rest 10000
  unfolding later_digits field
  digits_sound [] v u rest small e = absurd (not_missing u rest e)
  digits_sound (b ∷ t) v u rest small e = go (eq_or_ne b stop) (eq_or_ne v 0) (lt_or_ge 999 v) (lt_or_ge 9 (digit_of b)) (λ w l. digits_sound t w u rest l)
    where
      go : (b ≡ stop) ⊎ (b ≡ stop → ⊥) → (v ≡ 0) ⊎ (v ≡ 0 → ⊥) → (999 < v) ⊎ (v ≤ 999) → (9 < digit_of b) ⊎ (digit_of b ≤ 9)
          → ((w : ℕ) → w < 10000 → later_digits stop w t ≡ found u rest → Spelled (λ w. field w stop) (decimal w ++ t) u rest 10000)
          → Spelled (λ w. field w stop) (decimal v ++ (b ∷ t)) u rest 10000
      go (inl s) z l d more =
          let here : found v t ≡ found u rest = sym (digits_stop stop v (b ∷ t) 0 (omega arith) s) ∙ e in
          let value : v ≡ u = cc in
          let left : t ≡ rest = cc in
          record { same = rw (← value, ← left, s) (sym (append_assoc (decimal v) (stop ∷ []) t)); small = omega arith }
      go (inr s) (inl z) l d more = absurd (not_missing u rest (sym (digits_zero stop v (b ∷ t) 0 (omega arith) s z) ∙ e))
      go (inr s) (inr z) (inl l) d more = absurd (not_missing u rest (sym (digits_long stop v (b ∷ t) 0 (omega arith) s z l) ∙ e))
      go (inr s) (inr z) (inr l) (inl d) more = absurd (not_missing u rest (sym (digits_other stop v (b ∷ t) 0 (digit_of b) refl (omega arith) s z l d) ∙ e))
      go (inr s) (inr z) (inr l) (inr d) more =
          let next = more (v * 10 + digit_of b) (omega arith) (sym (digits_more stop v (b ∷ t) 0 (digit_of b) refl (omega arith) s z l d) ∙ e) in
          let byte : digit (digit_of b) ≡ b = digit_back b (omega arith) in
          let text : decimal v ++ (b ∷ t) ≡ decimal (v * 10 + digit_of b) ++ t =
          ap (λ (x : ℕ). decimal v ++ (x ∷ t)) (sym byte)
          ∙ sym (append_assoc (decimal v) (digit (digit_of b) ∷ []) t)
          ∙ ap (λ (u : List ℕ). u ++ t) (sym (decimal_step v (digit_of b) (omega arith) (omega arith))) in
          record { same = text ∙ next.same; small = next.small }

  pub number_sound : (t : List ℕ) (u : ℕ) (rest : List ℕ) → number stop t ≡ found u rest → Spelled (λ w. field w stop) t u rest 10000
  unfolding number
  number_sound [] u rest e = absurd (not_missing u rest e)
  number_sound (b ∷ t) u rest e = go (lt_or_ge 9 (digit_of b))
    where
      go : (9 < digit_of b) ⊎ (digit_of b ≤ 9) → Spelled (λ w. field w stop) (b ∷ t) u rest 10000
      go (inl d) = absurd (not_missing u rest (sym (number_other stop 0 (b ∷ t) 0 (digit_of b) refl (omega arith) d) ∙ e))
      go (inr d) =
          let next = digits_sound t (digit_of b) u rest (omega arith) (sym (number_first stop 0 (b ∷ t) 0 (digit_of b) refl (omega arith) d) ∙ e) in
          let byte : digit (digit_of b) ≡ b = digit_back b (omega arith) in
          let text : b ∷ t ≡ decimal (digit_of b) ++ t = ap (λ (x : ℕ). x ∷ t) (sym byte) ∙ ap (λ (u : List ℕ). u ++ t) (sym (decimal_one (digit_of b) (omega arith))) in
          record { same = text ∙ next.same; small = next.small }
