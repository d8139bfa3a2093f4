-- There is always an answer that meets the promise of `first_twin_since`. Assumes nothing.
use Rattle.std.proofs.Common.{◌≡◌, ℕ, zero, suc, ◌<◌, ◌≤◌, List, Option, Some, None, Ok, Err, sym, refl, add-one, arith, below_none, below_more, Float}
use mathlib.Core.Bool.{Bool-discrete}
use mathlib.Core.HLevel.{Discrete, dec→stable}
use mathlib.Core.Logic.Dec
use native.Mathlib.Decide.{ℕ_discrete, dec_le, map_dec}
use lib.Ieee.{nan, inf, fin}
use lib.IntN.{ℤ_discrete}
use Rattle.answer.specs.Answer.{Answer}
use Rattle.matrix.specs.Matrix.{Matrix}
use Rattle.twins.specs.declared.Pair.{Pair}
use Rattle.twins.specs.Twins.{symmetric, Twins}
use Rattle.twins.specs.First.{Found, First, FirstTwinSince, rows_in, size_answer, none, pair}
use Rattle.twins.proofs.Answered.{refused_by_size, found_in_size}

-- ---- floats are equal or not

zero_one : ◌≡◌ {A = ℕ} 0 1 → ⊥
zero_one e = omega arith

float_discrete : Discrete Float
float_discrete nan nan = yes refl
float_discrete (inf s) (inf t) = map_dec (λ e. cc) (λ e. cc) (Bool-discrete s t)
float_discrete (fin s m x) (fin t n y) = map_dec (λ e. cc) (λ e. (cc, (cc, cc))) (Dec.and (Bool-discrete s t) (Dec.and (ℕ_discrete m n) (ℤ_discrete x y)))
float_discrete nan (inf t) = no (λ e. zero_one (cc))
float_discrete nan (fin t n y) = no (λ e. zero_one (cc))
float_discrete (inf s) nan = no (λ e. zero_one (cc))
float_discrete (inf s) (fin t n y) = no (λ e. zero_one (cc))
float_discrete (fin s m x) nan = no (λ e. zero_one (cc))
float_discrete (fin s m x) (inf t) = no (λ e. zero_one (cc))

-- ---- the least number below n that has a property, or none has it

data Least (P : ℕ → Type 0) (n : ℕ) : Type 0 where
  least : (k : ℕ) → k < n → P k → ((j : ℕ) → j < k → P j → ⊥) → Least P n
  no_one : ((j : ℕ) → j < n → P j → ⊥) → Least P n

search_least : (P : ℕ → Type 0) → ((k : ℕ) → Dec (P k)) → (n : ℕ) → Least P n
search_least P decide zero = no_one (below_none (λ j. P j → ⊥))
search_least P decide (suc n) = go (search_least P decide n) (decide n)
  where
    go : Least P n → Dec (P n) → Least P (suc n)
    go (least k h has before) d = least k (omega arith) has before
    go (no_one before) (yes has) = least n (omega arith) has before
    go (no_one before) (no has-not) = no_one (rw (← add-one n) (below_more (λ j. P j → ⊥) n before has-not))

-- ---- the first pair

-- row q, at or after m, has a twin before it
record Again (n : ℕ) (M : Matrix) (m q : ℕ) : Type 0 where
  row : ℕ
  before : row < q
  since : m ≤ q
  twins : Twins n M row q

module _ (n : ℕ) (M : Matrix) (m : ℕ) where
  twins_or_not : (p q : ℕ) → Dec (Twins n M p q)
  twins_or_not p q = go (search_least (λ k. symmetric M q k ≡ symmetric M p k → ⊥) (λ k. Dec.not (float_discrete (symmetric M q k) (symmetric M p k))) n)
    where
      go : Least (λ k. symmetric M q k ≡ symmetric M p k → ⊥) n → Dec (Twins n M p q)
      go (least k h differ before) = no (λ twins. differ (twins k h))
      go (no_one same) = yes (λ k h. dec→stable (float_discrete (symmetric M q k) (symmetric M p k)) (same k h))

  first_before : (q : ℕ) → Least (λ p. Twins n M p q) q
  first_before q = search_least (λ p. Twins n M p q) (λ p. twins_or_not p q) q

  again_or_not : (q : ℕ) → Dec (Again n M m q)
  again_or_not q = go (dec_le m q) (first_before q)
    where
      go : Dec (m ≤ q) → Least (λ p. Twins n M p q) q → Dec (Again n M m q)
      go (yes since) (least p h twins before) = yes (record { row = p; before = h; since = since; twins = twins })
      go (yes since) (no_one f) = no (λ again. f again.row again.before again.twins)
      go (no early) x = no (λ again. early again.since)

  pub some_first : (t : Option Pair) × First n M m t
  some_first = go (search_least (Again n M m) again_or_not n)
    where
      at : (q : ℕ) → q < n → Again n M m q → ((s : ℕ) → s < q → Again n M m s → ⊥) → Least (λ p. Twins n M p q) q → (t : Option Pair) × First n M m t
      at q h again earlier (least p apart twins nearest) = (
        Some (record { first = p; second = q }),
        pair (record {
          apart = apart;
          since = again.since;
          within = h;
          twins = twins;
          least = λ r s before since below same. earlier s below (record { row = r; before = before; since = since; twins = same });
          nearest = nearest;
        }),
      )
      at q h again earlier (no_one f) = absurd (f again.row again.before again.twins)

      go : Least (Again n M m) n → (t : Option Pair) × First n M m t
      go (least q h again earlier) = at q h again earlier (first_before q)
      go (no_one f) = (None, none (λ r s before since below same. f s below (record { row = r; before = before; since = since; twins = same })))

pub some_first_twin_since : (l : List Float) (room m n : ℕ) → (t : Found) × FirstTwinSince l room m n t
some_first_twin_since l room m n = by (size_answer l room m n) refl
  where
    by : (r : Answer) → size_answer l room m n ≡ r → (t : Found) × FirstTwinSince l room m n t
    by (Ok done) fits = let some = some_first n (rows_in room n l) m in (Ok some.0, found_in_size (sym fits) some.1)
    by (Err fault) wrong = (Err fault, refused_by_size (sym wrong))
