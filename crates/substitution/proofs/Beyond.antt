-- Steps that leave the first rows of a column alone: `Beyond low f` neither reads nor writes the rows before `low`.
--     beyond_less, beyond_then, beyond_set, beyond_for, beyond_same, over_two
--     eliminate_one_beyond, eliminate_two_beyond      the rows below are eliminated
--     divide_one_early                                such a step may come after the division of an earlier row
use Rattle.std.specs.Prelude.{List, ◌≡◌, refl, ℕ, zero, suc, ◌+◌, ◌-◌, ◌<◌, ◌≤◌, Float, set}
use Rattle.std.specs.Float.{nan}
use Rattle.std.proofs.Common.{sym, ap, ◌∙◌, arith, get_or-set_other}
use Rattle.std.proofs.Math.Seq.{set_comm}
use Rattle.matrix.specs.Matrix.{Matrix}
use Rattle.matrix.specs.Loop.{turns, for}
use Rattle.matrix.specs.Columns.{at}
use Rattle.substitution.specs.Steps.{less_one, less_two, eliminate_one, eliminate_two, divide_one}

-- over      a store at one of them may come before or after f
-- keeps     they stay as they are
pub record Beyond (low : ℕ) (f : List Float → List Float) : Type 0 where
  pub over : (r : ℕ) → r < low → (v : Float) (b : List Float) → f (set b r v) ≡ set (f b) r v
  pub keeps : (r : ℕ) → r < low → (b : List Float) → at (f b) r ≡ at b r

pub beyond_less : {low high : ℕ} {f : List Float → List Float} → low ≤ high → Beyond high f → Beyond low f
beyond_less le h = record { over = λ r below v b. h.over r (omega arith) v b; keeps = λ r below b. h.keeps r (omega arith) b }

-- two stores before f, or after
pub over_two
    : {low : ℕ} {f : List Float → List Float} → Beyond low f → (p q : ℕ) → p < low → q < low → (x z : Float) (b : List Float)
    → f (set (set b p x) q z) ≡ set (set (f b) p x) q z
over_two h p q hp hq x z b = h.over q hq z (set b p x) ∙ ap (λ (l : List Float). set l q z) (h.over p hp x b)

pub beyond_then : {low : ℕ} {f g : List Float → List Float} → Beyond low f → Beyond low g → Beyond low (λ b. g (f b))
beyond_then {f = f} {g} first then = record {
  over = λ r h v b. ap g (first.over r h v b) ∙ then.over r h v (f b);
  keeps = λ r h b. then.keeps r h (f b) ∙ first.keeps r h b;
}

-- a store at a row of its own, of a value that the first rows do not touch
pub beyond_set
    : {low row : ℕ} (f : List Float → Float) → low ≤ row → ((r : ℕ) → r < low → (v : Float) (b : List Float) → f (set b r v) ≡ f b)
    → Beyond low (λ b. set b row (f b))
beyond_set {low} {row} f h same = record {
  over = λ r below v b. ap (set (set b r v) row) (same r below v b) ∙ set_comm b r row v (f b) (λ (e : r ≡ row). omega arith);
  keeps = λ r below b. get_or-set_other b row r (f b) nan (λ (e : r ≡ row). omega arith);
}

pub beyond_for : {low : ℕ} (lo hi : ℕ) (f : ℕ → List Float → List Float) → ((i : ℕ) → lo ≤ i → Beyond low (f i)) → Beyond low (for lo hi f)
unfolding for turns
beyond_for {low} lo hi f each = go (hi - lo)
  where
    go : (c : ℕ) → Beyond low (λ b. turns lo f b c)
    go zero = record { over = λ r h v b. refl; keeps = λ r h b. refl }
    go (suc c) = beyond_then (go c) (each (lo + c) (omega arith))

pub beyond_same : {low : ℕ} {f g : List Float → List Float} → Beyond low f → ((b : List Float) → g b ≡ f b) → Beyond low g
beyond_same h same = record {
  over = λ r below v b. same (set b r v) ∙ h.over r below v b ∙ ap (λ (l : List Float). set l r v) (sym (same b));
  keeps = λ r below b. ap (λ (l : List Float). at l r) (same b) ∙ h.keeps r below b;
}

-- a store does not change the rows after it
pub read_after : {r i : ℕ} → r < i → (v : Float) (b : List Float) → at (set b r v) i ≡ at b i
read_after {r} {i} h v b = get_or-set_other b r i v nan (λ (e : i ≡ r). omega arith)

module _ (n : ℕ) (A : Matrix) where
  pub eliminate_one_beyond : {low : ℕ} (k : ℕ) → low ≤ k → Beyond low (eliminate_one n A k)
  unfolding eliminate_one less_one
  eliminate_one_beyond {low} k h = record {
    over = λ r below v b. rw (read_after {r = r} {i = k} (omega arith) v b) ((loop (at b k)).over r below v b);
    keeps = λ r below b. (loop (at b k)).keeps r below b;
  }
    where
      loop : (x : Float) → Beyond low (for (k + 1) n (less_one A k x))
      loop x = beyond_for (k + 1) n (less_one A k x) (λ i from. beyond_set _ (omega arith) (λ r below v b. rw (read_after {r = r} {i = i} (omega arith) v b)))

  pub eliminate_two_beyond : {low : ℕ} (k : ℕ) → low ≤ k → Beyond low (eliminate_two n A k)
  unfolding eliminate_two less_two
  eliminate_two_beyond {low} k h = record {
    over = λ r below v b. rw (read_after {r = r} {i = k} (omega arith) v b, read_after {r = r} {i = k + 1} (omega arith) v b) ((loop (at b k) (at b (k + 1))).over r below v b);
    keeps = λ r below b. (loop (at b k) (at b (k + 1))).keeps r below b;
  }
    where
      loop : (x z : Float) → Beyond low (for (k + 2) n (less_two A k x z))
      loop x z = beyond_for (k + 2) n (less_two A k x z) (λ i from. beyond_set _ (omega arith) (λ r below v b. rw (read_after {r = r} {i = i} (omega arith) v b)))

module _ (A : Matrix) {f : List Float → List Float} where
  pub divide_one_early : (k : ℕ) → Beyond (k + 1) f → (b : List Float) → f (divide_one A k b) ≡ divide_one A k (f b)
  unfolding divide_one
  divide_one_early k h b = h.over k (omega arith) _ b ∙ rw (h.keeps k (omega arith) b)
