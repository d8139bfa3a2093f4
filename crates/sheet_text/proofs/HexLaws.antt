-- Sixteen hexadecimal digits and what is read of them, both ways.
use mathlib.Core.Path.{◌≡◌, refl, sym, ap, ◌∙◌}
use mathlib.Core.List.{List, [], ◌∷◌, ◌++◌, append_assoc}
use mathlib.Core.Logic.{◌⊎◌, inl, inr}
use Prim.Native.Nat.{ℕ, zero, suc, ◌+◌, ◌*◌, ◌/◌, ◌%◌, ◌^◌, ◌<◌, ◌≤◌}
use native.Mathlib.Nat.{pow-suc, pow-zero, add-zero, zero-add, add-suc, suc-add}
use native.Mathlib.Omega.{arith}
use Rattle.answer.proofs.Tests.{eq_or_ne, lt_or_ge}
use Rattle.sheet_text.specs.Text.{lf, digit, hex, bits_field}
use Rattle.sheet_text.specs.inner.Digit.{digit_of}
use Rattle.sheet_text.specs.inner.Parse.{found, line_end, hex_digits, bits}
use Rattle.sheet_text.proofs.Steps.{hex_byte, hex_other, line_ends, line_goes_on}
use Rattle.sheet_text.proofs.DigitLaws.{digit_value, digit_back}
use Rattle.sheet_text.proofs.NumberLaws.{Spelled, not_missing}

-- ---- the text is read
reads : (k m b : ℕ) (t : List ℕ) → b < 16 ^ k → hex_digits (k + m) 0 (hex k b ++ t) ≡ hex_digits m b t
unfolding hex
reads zero m b t h =
    let one = pow-zero 16 in
    let none : b ≡ 0 = omega arith in
    ap (λ (x : ℕ). hex_digits x 0 t) (zero-add m) ∙ ap (λ (x : ℕ). hex_digits m x t) (sym none)
reads (suc k) m b t h =
    let power = pow-suc 16 k in
    let e = digit_value (b % 16) (omega arith) in
    let again : b / 16 * 16 + b % 16 ≡ b = omega arith in
    ap (λ (x : ℕ). hex_digits x 0 ((hex k (b / 16) ++ (digit (b % 16) ∷ [])) ++ t)) (suc-add k m ∙ sym (add-suc k m))
    ∙ ap (hex_digits (k + suc m) 0) (append_assoc (hex k (b / 16)) (digit (b % 16) ∷ []) t)
    ∙ reads k (suc m) (b / 16) (digit (b % 16) ∷ t) (omega arith)
    ∙ hex_byte m (b / 16) (digit (b % 16)) (b % 16) t (sym e) (omega arith)
    ∙ ap (λ (x : ℕ). hex_digits m x t) again

pub bits_found : (b : ℕ) (t : List ℕ) → b < 2 ^ 64 → bits (bits_field b ++ t) ≡ found b t
unfolding bits bits_field
bits_found b t h =
    ap (hex_digits 16 0) (append_assoc (hex 16 b) (lf ∷ []) t)
    ∙ reads 16 0 b (lf ∷ t) (omega arith)
    ∙ line_ends 0 b (lf ∷ t) 0 (omega arith) (omega arith) refl

-- ---- what is read is the text
record Read (t : List ℕ) (m k b : ℕ) (rest : List ℕ) : Type 0 where
  same : t ≡ hex (m + k) b ++ (lf ∷ rest)
  small : b < 16 ^ (m + k)

one_more : (m v d : ℕ) → d < 16 → hex (suc m) (v * 16 + d) ≡ hex m v ++ (digit d ∷ [])
unfolding hex
one_more m v d h =
    let quotient : (v * 16 + d) / 16 ≡ v = omega arith in
    let remainder : (v * 16 + d) % 16 ≡ d = omega arith in
    ap (λ (q : ℕ). hex m q ++ (digit ((v * 16 + d) % 16) ∷ [])) quotient ∙ ap (λ (r : ℕ). hex m v ++ (digit r ∷ [])) remainder

sound : (k m v : ℕ) (t : List ℕ) (b : ℕ) (rest : List ℕ) → v < 16 ^ m → hex_digits k v t ≡ found b rest → Read (hex m v ++ t) m k b rest
unfolding hex_digits line_end
sound zero m v [] b rest h e = absurd (not_missing b rest e)
sound zero m v (x ∷ t) b rest h e = go (eq_or_ne x lf)
  where
    go : (x ≡ lf) ⊎ (x ≡ lf → ⊥) → Read (hex m v ++ (x ∷ t)) m 0 b rest
    go (inl n) =
        let here : found v t ≡ found b rest = sym (line_ends 0 v (x ∷ t) 0 (omega arith) (omega arith) n) ∙ e in
        let value : v ≡ b = cc in
        let left : t ≡ rest = cc in
        record { same = rw (add-zero m, ← value, ← left, n); small = rw (add-zero m, ← value) h }
    go (inr n) = absurd (not_missing b rest (sym (line_goes_on 0 v (x ∷ t) 0 (omega arith) (omega arith) n) ∙ e))
sound (suc k) m v [] b rest h e = absurd (not_missing b rest e)
sound (suc k) m v (x ∷ t) b rest h e = go (lt_or_ge 15 (digit_of x)) (λ w l. sound k (suc m) w t b rest l)
  where
    go : (15 < digit_of x) ⊎ (digit_of x ≤ 15) → ((w : ℕ) → w < 16 ^ suc m → hex_digits k w t ≡ found b rest → Read (hex (suc m) w ++ t) (suc m) k b rest) → Read (hex m v ++ (x ∷ t)) m (suc k) b rest
    go (inl d) more = absurd (not_missing b rest (sym (hex_other (suc k) v (x ∷ t) 0 (digit_of x) refl (omega arith) (omega arith) d) ∙ e))
    go (inr d) more =
        let power = pow-suc 16 m in
        let next = more (v * 16 + digit_of x) (omega arith) (sym (hex_byte k v x (digit_of x) t refl d) ∙ e) in
        let text : hex m v ++ (x ∷ t) ≡ hex (suc m) (v * 16 + digit_of x) ++ t =
        ap (λ (y : ℕ). hex m v ++ (y ∷ t)) (sym (digit_back x d))
        ∙ sym (append_assoc (hex m v) (digit (digit_of x) ∷ []) t)
        ∙ ap (λ (u : List ℕ). u ++ t) (sym (one_more m v (digit_of x) (omega arith))) in
        let places : suc m + k ≡ m + suc k = omega arith in
        record { same = text ∙ next.same ∙ ap (λ (n : ℕ). hex n b ++ (lf ∷ rest)) places; small = rw places at next.small }

pub bits_sound : (t : List ℕ) (b : ℕ) (rest : List ℕ) → bits t ≡ found b rest → Spelled bits_field t b rest (2 ^ 64)
unfolding bits bits_field hex
bits_sound t b rest e =
    let read = sound 16 0 0 t b rest (omega arith) e in
    record { same = read.same ∙ sym (append_assoc (hex 16 b) (lf ∷ []) rest); small = read.small }
