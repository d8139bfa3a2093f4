-- Columns added to a strip one after the other. Assumes nothing.
--     fold_for                    as a loop
--     gathered_none               no column
--     gathered_axpy               some columns
--     gathered_then               some columns after others
use mathlib.Core.Path.{◌≡◌, refl, sym, ◌∙◌, ap}
use mathlib.Core.List.{List, [], ◌∷◌}
use Prim.Native.Nat.{ℕ, suc, ◌+◌, ◌≤◌, ◌<◌}
use native.Mathlib.Omega.{arith}
use lib.ListN.{length, get_or}
use lib.Ieee.{Float}
use Rattle.std.specs.List.{fold}
use Rattle.matrix.specs.Loop.{for}
use Rattle.matrix.proofs.Loops.{for_none, for_first, for_join, for_same}
use Rattle.strips.specs.declared.Source.{Source}
use Rattle.strips.specs.inner.Strip.{row_at, Strip, Elsewhere, plus, axpy_of, Gathered}
use Rattle.strips.proofs.Strips.{strip_then, strip_as, plus_kept}

-- columns added one after the other, as a loop
pub fold_for : (term : ℕ → Source) (f : Source → Float → Float) (ss : List Source) (k : ℕ) (x : Float) → ((c : ℕ) (s : Source) → c < length ss → get_or ss c s ≡ term (k + c))
    → fold (λ x s. f s x) x ss ≡ for k (k + length ss) (λ c. f (term c)) x
fold_for term f [] k x is = let none : k ≡ k + 0 = omega arith in sym (for_none k (λ c. f (term c)) x) ∙ ap (λ (hi : ℕ). for k hi (λ c. f (term c)) x) none
fold_for term f (s ∷ ss) k x is =
    let place : k + 0 ≡ k = omega arith in
    let here : s ≡ term k = is 0 s (omega arith) ∙ ap term place in
    let end : k + 1 + length ss ≡ k + length (s ∷ ss) = omega arith in
    ap (λ (t : Source). fold (λ x s. f s x) (f t x) ss) here
    ∙ fold_for term f ss (k + 1) (f (term k) x) (λ c d below. let next : k + suc c ≡ k + 1 + c = omega arith in is (suc c) d (omega arith) ∙ ap term next)
    ∙ ap (λ (hi : ℕ). for (k + 1) hi (λ c. f (term c)) (f (term k) x)) end
    ∙ sym (for_first k (k + length (s ∷ ss)) (λ c. f (term c)) x (omega arith))

module _ {to lo hi : ℕ} {term : ℕ → Source} where
  pub gathered_none : {first : ℕ} {l : List Float} → Gathered to lo hi term first l first l
  gathered_none {first} {l} = record {
    from = omega arith;
    sums = record { long = refl; inside = λ i a b. sym (for_none first (λ c. plus l (term c) i) (row_at l to i)); outside = λ p free. refl };
  }

  pub gathered_axpy : {k : ℕ} {l l' : List Float} (ss : List Source) → ((c : ℕ) (s : Source) → c < length ss → get_or ss c s ≡ term (k + c))
      → Strip to lo hi (axpy_of l to ss) l l' → Gathered to lo hi term k l (k + length ss) l'
  unfolding axpy_of
  gathered_axpy {k} {l} ss is step = record {
    from = omega arith;
    sums = strip_as step (λ i a b. fold_for term (λ s x. plus l s i x) ss k (row_at l to i) is);
  }

  -- the columns are the same before and after, and stand elsewhere
  pub gathered_then : {term' : ℕ → Source} {first k next : ℕ} {l₀ l l' : List Float} → Gathered to lo hi term first l₀ k l → Gathered to lo hi term' k l next l'
      → ((c : ℕ) → k ≤ c → c < next → term' c ≡ term c) → ((c : ℕ) → k ≤ c → c < next → Elsewhere lo hi to l₀ (term c))
      → Gathered to lo hi term first l₀ next l'
  gathered_then {term'} {first} {k} {next} {l₀} {l} before more same apart = record {
    from = omega (arith, before.from, more.from);
    sums = strip_as (strip_then before.sums more.sums) (λ i a b.
        for_same k next (λ c. plus l (term' c) i) (λ c. plus l₀ (term c) i) (row_at l to i) (λ c x low high.
        ap (λ (s : Source). plus l s i x) (same c low high) ∙ plus_kept (term c) before.sums (omega arith) (apart c low high) i a b refl)
        ∙ ap (for k next (λ c. plus l₀ (term c) i)) (before.sums.inside i a b)
        ∙ for_join first k next (λ c. plus l₀ (term c) i) (row_at l₀ to i) before.from more.from);
  }
