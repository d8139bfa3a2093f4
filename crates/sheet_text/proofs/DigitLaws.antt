-- A digit and the byte that stands for it.
use mathlib.Core.Path.{◌≡◌, ◌∙◌}
use mathlib.Core.Logic.{◌⊎◌, inl, inr}
use Prim.Native.Nat.{ℕ, ◌+◌, ◌-◌, ◌<◌, ◌≤◌}
use native.Mathlib.Omega.{arith}
use borrow.Author.Tests.{lt-ltb, le-ltb, le-leb, lt-leb}
use Rattle.answer.proofs.Tests.{lt_or_ge}
use Rattle.sheet_text.specs.Text.{digit}
use Rattle.sheet_text.specs.inner.Digit.{digit_of}

pub is_decimal : (b : ℕ) → 48 ≤ b → b ≤ 57 → digit_of b ≡ b - 48
unfolding digit_of
is_decimal b h k = rw (le-leb 48 b h, le-leb b 57 k)

pub is_letter : (b : ℕ) → 97 ≤ b → b ≤ 102 → digit_of b ≡ b - 87
unfolding digit_of
is_letter b h k =
    let past : 57 < b = omega arith in
    let from : 48 ≤ b = omega arith in
    rw (le-leb 48 b from, lt-leb b 57 past, le-leb 97 b h, le-leb b 102 k)

pub is_low : (b : ℕ) → b < 48 → digit_of b ≡ 255
unfolding digit_of
is_low b h = let below : b < 97 = omega arith in rw (lt-leb 48 b h, lt-leb 97 b below)

pub is_middle : (b : ℕ) → 57 < b → b < 97 → digit_of b ≡ 255
unfolding digit_of
is_middle b h k = let from : 48 ≤ b = omega arith in rw (le-leb 48 b from, lt-leb b 57 h, lt-leb 97 b k)

pub is_high : (b : ℕ) → 102 < b → digit_of b ≡ 255
unfolding digit_of
is_high b h =
    let from : 48 ≤ b = omega arith in
    let past : 57 < b = omega arith in
    let letters : 97 ≤ b = omega arith in
    rw (le-leb 48 b from, lt-leb b 57 past, le-leb 97 b letters, lt-leb b 102 h)

-- the digit of d reads as d
pub digit_value : (d : ℕ) → d < 16 → digit_of (digit d) ≡ d
unfolding digit
digit_value d h = by_range (lt_or_ge d 10)
  where
    by_range : (d < 10) ⊎ (10 ≤ d) → digit_of (digit d) ≡ d
    by_range (inl k) = rw (lt-ltb d 10 k) (is_decimal (48 + d) (omega arith) (omega arith) ∙ omega arith)
    by_range (inr k) = rw (le-ltb d 10 k) (is_letter (87 + d) (omega arith) (omega arith) ∙ omega arith)

decimal_back : (b d : ℕ) → d ≡ b - 48 → 48 ≤ b → b ≤ 57 → digit d ≡ b
unfolding digit
decimal_back b d e h k = let small : d < 10 = omega arith in rw (lt-ltb d 10 small) (omega arith)

letter_back : (b d : ℕ) → d ≡ b - 87 → 97 ≤ b → digit d ≡ b
unfolding digit
letter_back b d e h = let large : 10 ≤ d = omega arith in rw (le-ltb d 10 large) (omega arith)

-- a byte that reads as a digit is that digit's byte
pub digit_back : (b : ℕ) → digit_of b ≤ 15 → digit (digit_of b) ≡ b
digit_back b h = low (lt_or_ge b 48)
  where
    high : (102 < b) ⊎ (b ≤ 102) → 97 ≤ b → digit (digit_of b) ≡ b
    high (inl k) l = absurd (omega (arith, is_high b k))
    high (inr k) l = letter_back b (digit_of b) (is_letter b l k) l

    middle : (57 < b) ⊎ (b ≤ 57) → 48 ≤ b → (b < 97) ⊎ (97 ≤ b) → digit (digit_of b) ≡ b
    middle (inr k) l m = decimal_back b (digit_of b) (is_decimal b l k) l k
    middle (inl k) l (inl m) = absurd (omega (arith, is_middle b k m))
    middle (inl k) l (inr m) = high (lt_or_ge 102 b) m

    low : (b < 48) ⊎ (48 ≤ b) → digit (digit_of b) ≡ b
    low (inl k) = absurd (omega (arith, is_low b k))
    low (inr k) = middle (lt_or_ge 57 b) k (lt_or_ge b 97)
