-- The fingerprints of rows: twin rows have one fingerprint, and column after column brings its entries to the fingerprints. Assumes nothing.
use Rattle.std.proofs.Common.{◌≡◌, ℕ, ◌+◌, ◌-◌, ◌*◌, ◌/◌, ◌%◌, ◌^◌, ◌<◌, ◌≤◌, false, eqb, List, length, get_or, set, take, drop, replicate, sym, refl, ap, ◌∙◌, subst, ap₂, ⊎_elim, true≢false, eq-or-lt_of_le, ne_of_gt, ne_of_lt, arith, length-set, length-drop, get_or-set_other, get_or-set_same}
use Rattle.std.proofs.lemmas.Nat.{mod-pow-add, shl-shr, or_shifted}
use Rattle.std.proofs.lemmas.List.{get_or-take, get_or-drop, length-take-le}
use Rattle.std.specs.List.{IsAnyAnswer}
use Rattle.std.specs.Int.{w64, rotate_left}
use Rattle.std.specs.Int.RustNames.{bit_or}
use borrow.Author.Tests.{eqb-false}
use native.Mathlib.Decide.{dec_lt}
use lib.ListN.{get_or-replicate}
use lib.Ieee.{binary64, to_bits}
use Rattle.matrix.specs.Matrix.{Matrix}
use Rattle.matrix.proofs.Loops.{for_none, for_more, for_same}
use Rattle.twins.specs.Twins.{symmetric, Twins}
use Rattle.twins.specs.inner.Search.{Told}
use Rattle.twins.specs.inner.Fingerprints.{turned, mixed, mix_entry, fingerprint_of, Cleared, Fingerprinted, Apart, OthersPassed, Brought}
use Rattle.twins.proofs.Clauses.{at_lower, at_upper}

-- 64 bits turned by a rotation
pub turned_left : (x : ℕ) → x < 2 ^ 64 → rotate_left w64 x 23 ≡ turned x
unfolding turned
turned_left x small =
    let low : x * 2 ^ 23 % 2 ^ 23 ≡ 0 = omega arith in
    let high : x * 2 ^ 23 % 2 ^ 64 ≡ x % 2 ^ 41 * 2 ^ 23 = omega (arith, mod-pow-add (x * 2 ^ 23) 41 23, shl-shr x 23, low) in
    ap (λ (b : ℕ). bit_or b (x / 2 ^ 41)) high ∙ or_shifted (x % 2 ^ 41) 23 (x / 2 ^ 41) (omega arith)

one_fingerprint : (n : ℕ) (M : Matrix) (p q : ℕ) → Twins n M p q → fingerprint_of n M p ≡ fingerprint_of n M q
unfolding fingerprint_of mix_entry
one_fingerprint n M p q twins =
    for_same 0 n (mix_entry M p) (mix_entry M q) 0 (λ k fingerprint from below. ap (λ x. mixed fingerprint (to_bits binary64 x)) (sym (twins k below)))

-- rows with different fingerprints are no twins
pub fingerprints_differ : {n : ℕ} {M : Matrix} {fingerprints : List ℕ} {p q : ℕ} → Fingerprinted n M fingerprints → (p < n) × (q < n) → (get_or fingerprints p 0 ≡ get_or fingerprints q 0 → ⊥) → Told n M p q false
fingerprints_differ {n} {M} {fingerprints} {p} {q} printed within differ = record {
  yes = λ t. absurd (true≢false (sym t));
  no = λ f twins. differ (printed.each p within.0 ∙ one_fingerprint n M p q twins ∙ sym (printed.each q within.1));
}

-- ---- fingerprints that are other ones

apart_join : {fingerprints : List ℕ} {fingerprint lo p hi : ℕ} → Apart fingerprints fingerprint lo p → Apart fingerprints fingerprint p hi → Apart fingerprints fingerprint lo hi
apart_join {fingerprints} {fingerprint} {lo} {p} {hi} before after = record { each = λ i from below. by i from below (dec_lt i p) }
  where
    by : (i : ℕ) → lo ≤ i → i < hi → Dec (i < p) → get_or fingerprints i 0 ≡ fingerprint → ⊥
    by i from below (yes lt) = before.each i from lt
    by i from below (no nlt) = after.each i (omega arith) below

-- four more
pub passed_four : {fingerprints : List ℕ} {q t : ℕ} → OthersPassed fingerprints q (4 * t) → t < q / 4 → q < length fingerprints
    → IsAnyAnswer (λ y b. eqb y (get_or fingerprints q 0) ≡ b) (take (4 * t + 4 - 4 * t) (drop (4 * t) fingerprints)) false → OthersPassed fingerprints q (4 * (t + 1))
passed_four {fingerprints} {q} {t} passed below within none = record { upto = omega arith; apart = apart_join passed.apart (record { each = each }) }
  where
    each : (i : ℕ) → 4 * t ≤ i → i < 4 * (t + 1) → get_or fingerprints i 0 ≡ get_or fingerprints q 0 → ⊥
    each i low high =
        let place : 4 * t + (i - 4 * t) ≡ i = omega arith in
        let is : get_or (take (4 * t + 4 - 4 * t) (drop (4 * t) fingerprints)) (i - 4 * t) 0 ≡ get_or fingerprints i 0 =
        get_or-take (4 * t + 4 - 4 * t) (drop (4 * t) fingerprints) (i - 4 * t) 0 (omega arith) ∙ get_or-drop (4 * t) fingerprints (i - 4 * t) 0 ∙ ap (λ (k : ℕ). get_or fingerprints k 0) place in
        let long = length-take-le (4 * t + 4 - 4 * t) (drop (4 * t) fingerprints) (omega (arith, length-drop (4 * t) fingerprints)) in
        rw (← is) (eqb-false _ _ (none (i - 4 * t) 0 (omega arith) (omega (arith, long))))

-- ---- one entry more of a row's fingerprint

fingerprint_none : (M : Matrix) (i : ℕ) → fingerprint_of 0 M i ≡ 0
unfolding fingerprint_of
fingerprint_none M i = for_none 0 (mix_entry M i) 0

fingerprint_more : (M : Matrix) (i k : ℕ) {fingerprint bits new : ℕ} → fingerprint ≡ fingerprint_of k M i → bits ≡ to_bits binary64 (symmetric M i k) → new ≡ mixed fingerprint bits → new ≡ fingerprint_of (k + 1) M i
unfolding fingerprint_of mix_entry
fingerprint_more M i k {fingerprint} {bits} is brought e = e ∙ ap₂ mixed is brought ∙ sym (for_more 0 k (mix_entry M i) 0 (omega arith))

-- what column c brings, entry (i, c), is entry c of row i and entry i of row c
at_row : (M : Matrix) (i c : ℕ) {bits : ℕ} → c ≤ i → bits ≡ to_bits binary64 (M i c) → bits ≡ to_bits binary64 (symmetric M i c)
at_row M i c le brought = brought ∙ ap (to_bits binary64) (sym (at_lower M i c le))

at_column_law : (M : Matrix) (i c : ℕ) {bits : ℕ} → c < i → bits ≡ to_bits binary64 (M i c) → bits ≡ to_bits binary64 (symmetric M c i)
at_column_law M i c lt brought = brought ∙ ap (to_bits binary64) (sym (at_upper M c i lt))

-- ---- the columns

pub cleared : (k n : ℕ) → n ≤ k → Cleared n (replicate k 0)
cleared k n room i below = get_or-replicate k i 0 0 (omega arith)

pub brought_none : {n : ℕ} {M : Matrix} {fingerprints : List ℕ} → Cleared n fingerprints → Brought n M 0 fingerprints
brought_none {n} {M} {fingerprints} cleared = record {
  whole = λ i h. absurd (omega arith);
  begun = λ i from h. cleared i h ∙ sym (fingerprint_none M i);
}

-- column c, down to before row i: `own` is the fingerprint of row c
pub record Bringing (n : ℕ) (M : Matrix) (c : ℕ) (fingerprints₀ : List ℕ) (i own : ℕ) (fingerprints : List ℕ) : Type 0 where
  pub under : c < i
  pub upto : i ≤ n
  pub long : length fingerprints ≡ length fingerprints₀
  pub whole : (r : ℕ) → r < c → get_or fingerprints r 0 ≡ fingerprint_of n M r
  pub passed : (r : ℕ) → c < r → r < i → get_or fingerprints r 0 ≡ fingerprint_of (c + 1) M r
  pub begun : (r : ℕ) → i ≤ r → r < n → get_or fingerprints r 0 ≡ fingerprint_of c M r
  pub own_is : own ≡ fingerprint_of i M c

pub bringing_first : {n : ℕ} {M : Matrix} {c : ℕ} {fingerprints : List ℕ} {bits own : ℕ} → Brought n M c fingerprints → c < n → bits ≡ to_bits binary64 (M c c) → own ≡ mixed (get_or fingerprints c 0) bits
    → Bringing n M c fingerprints (c + 1) own fingerprints
bringing_first {n} {M} {c} {fingerprints} b below brought e = record {
  under = omega arith;
  upto = omega arith;
  long = refl;
  whole = b.whole;
  passed = λ r from to. absurd (omega arith);
  begun = λ r from h. b.begun r (omega arith) h;
  own_is = fingerprint_more M c c (b.begun c (omega arith) below) (at_row M c c (omega arith) brought) e;
}

pub bringing_more : {n : ℕ} {M : Matrix} {c : ℕ} {fingerprints₀ fingerprints : List ℕ} {i own bits fingerprint own' : ℕ} → n ≤ length fingerprints₀ → Bringing n M c fingerprints₀ i own fingerprints → i < n
    → bits ≡ to_bits binary64 (M i c) → fingerprint ≡ mixed (get_or fingerprints i 0) bits → own' ≡ mixed own bits → Bringing n M c fingerprints₀ (i + 1) own' (set fingerprints i fingerprint)
bringing_more {n} {M} {c} {fingerprints₀} {fingerprints} {i} {own} {bits} {fingerprint} {own'} room b below brought e e' =
    let under : c < i = b.under in
    let long : length fingerprints ≡ length fingerprints₀ = b.long in
    record {
      under = omega arith;
      upto = omega arith;
      long = length-set fingerprints i fingerprint ∙ long;
      whole = λ r h. get_or-set_other fingerprints i r fingerprint 0 (ne_of_lt (omega arith)) ∙ b.whole r h;
      passed = λ r from to. ⊎_elim
          (λ (here : r ≡ i). subst (λ (k : ℕ). get_or (set fingerprints i fingerprint) k 0 ≡ fingerprint_of (c + 1) M k) (sym here)
          (get_or-set_same fingerprints i fingerprint 0 (omega arith) ∙ fingerprint_more M i c (b.begun i (omega arith) below) (at_row M i c (omega arith) brought) e))
          (λ (before : r < i). get_or-set_other fingerprints i r fingerprint 0 (ne_of_lt before) ∙ b.passed r from before)
          (eq-or-lt_of_le (omega arith));
      begun = λ r from h. get_or-set_other fingerprints i r fingerprint 0 (ne_of_gt (omega arith)) ∙ b.begun r (omega arith) h;
      own_is = fingerprint_more M c i b.own_is (at_column_law M i c under brought) e';
    }

pub bringing_all : {n : ℕ} {M : Matrix} {c : ℕ} {fingerprints₀ fingerprints : List ℕ} {i own : ℕ} → n ≤ length fingerprints₀ → Bringing n M c fingerprints₀ i own fingerprints → n ≤ i → Brought n M (c + 1) (set fingerprints c own)
bringing_all {n} {M} {c} {fingerprints₀} {fingerprints} {i} {own} room b past =
    let under : c < i = b.under in
    let upto : i ≤ n = b.upto in
    let long : length fingerprints ≡ length fingerprints₀ = b.long in
    let last : i ≡ n = omega arith in
    record {
      whole = λ r h. ⊎_elim
          (λ (here : r ≡ c). subst (λ (k : ℕ). get_or (set fingerprints c own) k 0 ≡ fingerprint_of n M k) (sym here)
          (get_or-set_same fingerprints c own 0 (omega arith) ∙ b.own_is ∙ ap (λ (k : ℕ). fingerprint_of k M c) last))
          (λ (before : r < c). get_or-set_other fingerprints c r own 0 (ne_of_lt before) ∙ b.whole r before)
          (eq-or-lt_of_le (omega arith));
      begun = λ r from h. get_or-set_other fingerprints c r own 0 (ne_of_gt (omega arith)) ∙ b.passed r (omega arith) (omega arith);
    }

-- the columns before c have brought their entries, to as many fingerprints as there were
pub record Columns (n : ℕ) (M : Matrix) (fingerprints₀ : List ℕ) (c : ℕ) (fingerprints : List ℕ) : Type 0 where
  pub upto : c ≤ n
  pub long : length fingerprints ≡ length fingerprints₀
  pub brought : Brought n M c fingerprints
