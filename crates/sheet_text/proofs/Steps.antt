-- One byte further: what a parser says of the text from a place on, by the byte that stands there.
use Rattle.std.proofs.Common.{◌≡◌, ℕ, suc, ◌+◌, ◌*◌, ◌-◌, ◌^◌, ◌<◌, ◌≤◌, min, Bool, true, false, cond, ◌&&◌, eqb, List, [], ◌∷◌, length, get_or, take, drop, refl, sym, ap, ◌∙◌, ◌⊎◌, inl, inr, arith, lit<, add-one, drop-cons, length-drop}
use Rattle.std.specs.Cmp.Lexicographic.{pointwise}
use Prim.Native.Nat.{zero-le, suc-le-suc}
use native.Mathlib.Nat.{pow-le-pow_right, pow-suc}
use borrow.Author.Tests.{lt-ltb, le-ltb, eq-eqb, ne_eqb}
use lib.ListN.{drop_of_length-le}
use lib.Seq.{drop-drop, take_all}
use Rattle.answer.proofs.Tests.{lt_or_ge}
use Rattle.sheet_text.specs.Text.{lf}
use Rattle.sheet_text.specs.inner.Digit.{digit_of}
use Rattle.sheet_text.specs.inner.Parse.{found, missing, starts_with, later_digits, number, hex_digits, line_end, number_after}

pub cons_at : (s : List ℕ) (i : ℕ) → i < length s → drop i s ≡ get_or s i 0 ∷ drop (i + 1) s
cons_at s i h = rw (add-one, drop-cons s i 0)

pub false_is_not_true : false ≡ true → ⊥
false_is_not_true e = let z : ◌≡◌ {A = ℕ} 0 1 = ap (λ (b : Bool). cond b 1 0) e in omega arith

pub and_left : (a b : Bool) → a && b ≡ true → a ≡ true
and_left true b e = refl
and_left false b e = absurd (false_is_not_true e)

pub and_right : (a b : Bool) → a && b ≡ true → b ≡ true
and_right true b e = e
and_right false b e = absurd (false_is_not_true e)

-- ---- a word
starts_by : (w t : List ℕ) → pointwise eqb w (take (length w) t) ≡ starts_with w t
unfolding starts_with
starts_by [] t = refl
starts_by (x ∷ w) [] = refl
starts_by (x ∷ w) (y ∷ t) = ap (λ (b : Bool). eqb x y && b) (starts_by w t)

-- from `at` on, or from the end on
pub word_is : (w s : List ℕ) (at from : ℕ) → from ≡ min at (length s) → pointwise eqb w (take (length w) (take (length s - from) (drop from s))) ≡ starts_with w (drop at s)
word_is w s at from e =
    let whole : take (length s - from) (drop from s) ≡ drop from s = take_all (length s - from) (drop from s) (omega (arith, length-drop from s)) in
    ap (λ (t : List ℕ). pointwise eqb w (take (length w) t)) whole ∙ starts_by w (drop from s) ∙ ap (starts_with w) (go (lt_or_ge (length s) at))
  where
    go : (length s < at) ⊎ (at ≤ length s) → drop from s ≡ drop at s
    go (inl h) = drop_of_length-le s (omega arith) ∙ sym (drop_of_length-le s (omega arith))
    go (inr h) = let same : from ≡ at = omega arith in rw same

-- ---- a decimal number
module _ (stop v : ℕ) (s : List ℕ) (i : ℕ) where
  pub digits_end : length s ≤ i → later_digits stop v (drop i s) ≡ missing
  unfolding later_digits
  digits_end h = rw (drop_of_length-le s h)

  pub digits_stop : i < length s → get_or s i 0 ≡ stop → later_digits stop v (drop i s) ≡ found v (drop (i + 1) s)
  unfolding later_digits
  digits_stop h e = rw (cons_at s i h, eq-eqb (get_or s i 0) stop e)

  pub digits_zero : i < length s → (get_or s i 0 ≡ stop → ⊥) → v ≡ 0 → later_digits stop v (drop i s) ≡ missing
  unfolding later_digits
  digits_zero h n z = rw (cons_at s i h, ne_eqb (get_or s i 0) stop n, eq-eqb v 0 z)

  pub digits_long : i < length s → (get_or s i 0 ≡ stop → ⊥) → (v ≡ 0 → ⊥) → 999 < v → later_digits stop v (drop i s) ≡ missing
  unfolding later_digits
  digits_long h n z l = rw (cons_at s i h, ne_eqb (get_or s i 0) stop n, ne_eqb v 0 z, lt-ltb 999 v l)

  pub digits_other : (d : ℕ) → d ≡ digit_of (get_or s i 0) → i < length s → (get_or s i 0 ≡ stop → ⊥) → (v ≡ 0 → ⊥) → v ≤ 999 → 9 < d → later_digits stop v (drop i s) ≡ missing
  unfolding later_digits
  digits_other d e h n z l o = rw (cons_at s i h, ne_eqb (get_or s i 0) stop n, ne_eqb v 0 z, le-ltb 999 v l, ← e, lt-ltb 9 d o)

  pub digits_more : (d : ℕ) → d ≡ digit_of (get_or s i 0) → i < length s → (get_or s i 0 ≡ stop → ⊥) → (v ≡ 0 → ⊥) → v ≤ 999 → d ≤ 9 → later_digits stop v (drop i s) ≡ later_digits stop (v * 10 + d) (drop (i + 1) s)
  unfolding later_digits
  digits_more d e h n z l o = rw (cons_at s i h, ne_eqb (get_or s i 0) stop n, ne_eqb v 0 z, le-ltb 999 v l, ← e, le-ltb 9 d o)

  pub number_end : length s ≤ i → number stop (drop i s) ≡ missing
  unfolding number
  number_end h = rw (drop_of_length-le s h)

  pub number_other : (d : ℕ) → d ≡ digit_of (get_or s i 0) → i < length s → 9 < d → number stop (drop i s) ≡ missing
  unfolding number
  number_other d e h o = rw (cons_at s i h, ← e, lt-ltb 9 d o)

  pub number_first : (d : ℕ) → d ≡ digit_of (get_or s i 0) → i < length s → d ≤ 9 → number stop (drop i s) ≡ later_digits stop (d) (drop (i + 1) s)
  unfolding number
  number_first d e h o = rw (cons_at s i h, ← e, le-ltb 9 d o)

-- ---- hexadecimal digits: i of the sixteen digits are read
pub hex_fits : (i v d : ℕ) → i < 16 → v < 16 ^ i → d ≤ 15 → v * 16 + d < 2 ^ 64
hex_fits i v d l r o =
    let below : i ≤ 15 = omega arith in
    let power : 16 ^ i ≤ 16 ^ 15 = pow-le-pow_right {n = 16} (lit< tt) below in
    omega arith

pub hex_room : (i v d : ℕ) → v < 16 ^ i → d ≤ 15 → v * 16 + d < 16 ^ (i + 1)
hex_room i v d r o =
    let power : 16 ^ (i + 1) ≡ 16 ^ i * 16 = rw add-one (pow-suc 16 i) in
    omega arith

suc_of : (k : ℕ) → 0 < k → k ≡ suc (k - 1)
suc_of k h = omega arith

pub hex_byte : (k v b d : ℕ) (t : List ℕ) → d ≡ digit_of b → d ≤ 15 → hex_digits (suc k) v (b ∷ t) ≡ hex_digits k (v * 16 + d) t
unfolding hex_digits
hex_byte k v b d t e o = rw (← e, le-ltb 15 d o)

module _ (k v : ℕ) (s : List ℕ) (i : ℕ) where
  pub hex_end : 0 < k → length s ≤ i → hex_digits k v (drop i s) ≡ missing
  unfolding hex_digits
  hex_end p h = rw (suc_of k p, drop_of_length-le s h)

  pub hex_other : (d : ℕ) → d ≡ digit_of (get_or s i 0) → 0 < k → i < length s → 15 < d → hex_digits k v (drop i s) ≡ missing
  unfolding hex_digits
  hex_other d e p h o = rw (suc_of k p, cons_at s i h, ← e, lt-ltb 15 d o)

  pub hex_more : (d : ℕ) → d ≡ digit_of (get_or s i 0) → 0 < k → i < length s → d ≤ 15 → hex_digits k v (drop i s) ≡ hex_digits (k - 1) (v * 16 + d) (drop (i + 1) s)
  hex_more d e p h o =
      ap (λ (m : ℕ). hex_digits m v (drop i s)) (suc_of k p)
      ∙ ap (hex_digits (suc (k - 1)) v) (cons_at s i h)
      ∙ hex_byte (k - 1) v (get_or s i 0) d (drop (i + 1) s) e o

none_left : (k : ℕ) → k ≤ 0 → k ≡ 0
none_left k h = omega arith

module _ (k v : ℕ) (s : List ℕ) (i : ℕ) (done : k ≤ 0) where
  pub line_short : length s ≤ i → hex_digits k v (drop i s) ≡ missing
  unfolding hex_digits line_end
  line_short h = rw (none_left k done, drop_of_length-le s h)

  pub line_ends : i < length s → get_or s i 0 ≡ lf → hex_digits k v (drop i s) ≡ found v (drop (i + 1) s)
  unfolding hex_digits line_end
  line_ends h e = rw (none_left k done, cons_at s i h, eq-eqb (get_or s i 0) lf e)

  pub line_goes_on : i < length s → (get_or s i 0 ≡ lf → ⊥) → hex_digits k v (drop i s) ≡ missing
  unfolding hex_digits line_end
  line_goes_on h n = rw (none_left k done, cons_at s i h, ne_eqb (get_or s i 0) lf n)

-- ---- a word and a number
starts_fits : (w t : List ℕ) → starts_with w t ≡ true → length w ≤ length t
unfolding starts_with
starts_fits [] t e = zero-le
starts_fits (x ∷ w) [] e = absurd (false_is_not_true e)
starts_fits (x ∷ w) (y ∷ t) e = suc-le-suc (starts_fits w t (and_right (eqb x y) (starts_with w t) e))

pub word_fits : (w s : List ℕ) (at : ℕ) → starts_with w (drop at s) ≡ true → length w ≤ length s - at
word_fits w s at e = rw (length-drop at s) at (starts_fits w (drop at s) e)

pub after_word : (w t : List ℕ) → starts_with w t ≡ true → number_after w t ≡ number lf (drop (length w) t)
unfolding number_after
after_word w t e = rw e

pub no_word : (w t : List ℕ) → starts_with w t ≡ false → number_after w t ≡ missing
unfolding number_after
no_word w t e = rw e

pub number_after_law : (w s : List ℕ) (at : ℕ) → starts_with w (drop at s) ≡ true → number_after w (drop at s) ≡ number lf (drop (at + length w) s)
number_after_law w s at e = after_word w (drop at s) e ∙ ap (number lf) (drop-drop (length w) at s)
