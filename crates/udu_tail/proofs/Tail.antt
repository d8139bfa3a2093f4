-- UDU of the block of rows and columns m to n − 1 beside UDU of the whole, for calls that meet the promise of `udu::factor`. Assumes nothing.
--     keeps_tail        what the call on the block answers and leaves
--     tail_suffices     what is kept of the whole meets the promise of the call on the block
use Rattle.std.specs.Prelude.{Err}
use mathlib.Core.List.{List}
use mathlib.Core.Path.{◌≡◌, refl, sym, ◌∙◌, ap, subst}
use Prim.Native.Nat.{ℕ, ◌+◌, ◌-◌, ◌≤◌, ◌<◌}
use native.Mathlib.Omega.{arith}
use lib.Ieee.{Float}
use Rattle.answer.specs.declared.Refusal.TheVariants.{ZeroDiagonal}
use Rattle.answer.specs.Answer.{Answer}
use Rattle.matrix.specs.Grid.{load}
use Rattle.matrix.specs.Layouts.{upper}
use Rattle.matrix.proofs.Places.{square_at}
use Rattle.matrix.proofs.Squares.{fills_each}
use Rattle.udu.specs.Columns.{Factors}
use Rattle.udu.specs.Promise.{UduSized, udu_of, udu_answer, factors_of, Holding, UduFactored}
use Rattle.udu.proofs.Holding.{cell}
use Rattle.udu.proofs.Sizes.{factored, columned}
use Rattle.udu_tail.specs.Tail.{BlockOf, Beside, block_done, block_refused, tail_in, KeepsTail}
use Rattle.udu_tail.proofs.Past.{not_from}
use Rattle.udu_tail.proofs.Shifted.{tail, block_run}
use Rattle.udu_tail.proofs.Zeroed.{zeroed}

-- what was found, under another name
holding_as : {n : ℕ} {F G : Factors} {u d : List Float} → Holding n F u d
    → ((i k : ℕ) → i < n → k < n → F.u i k ≡ G.u i k) → ((k : ℕ) → k < n → F.d k ≡ G.d k) → Holding n G u d
holding_as {n} {F} {G} {u} h upper diagonal = record {
  upper = fills_each n u G.u h.upper.long (λ i k row column. cell F.u h.upper i k row column ∙ upper i k row column);
  diagonal = record { long = h.diagonal.long; cells = λ k row. h.diagonal.cells k row ∙ diagonal k row };
}

-- the answer to the whole fixes the answer to the block
beside_refused : {m j : ℕ} {r s : Answer} → Beside m r s → m ≤ j → r ≡ Err (ZeroDiagonal j) → s ≡ Err (ZeroDiagonal (j - m))
beside_refused (block_done past) from e = absurd (not_from past from e)
beside_refused {m} {j} (block_refused {j = k} from') from e = let same : k ≡ j = cc in ap (λ (i : ℕ). Err (ZeroDiagonal (i - m))) same

beside_once : {m : ℕ} {r s s' : Answer} → Beside m r s → Beside m r s' → s ≡ s'
beside_once (block_done past) (block_done past') = refl
beside_once (block_done past) (block_refused from) = absurd (not_from past from refl)
beside_once (block_refused from) other = sym (beside_refused other from refl)

-- both calls pass the tests of size: n is from 1 to 1,024, and m below n
module _ {p u₀ d₀ q v₀ e₀ u d : List Float} {n m : ℕ} {r : Answer}
    (whole : UduSized n p u₀ d₀) (block : UduSized (n - m) q v₀ e₀) (cut : BlockOf n m p q) (call : UduFactored p u₀ d₀ n r u d) where
  run : (factors_of (udu_of (n - m) q) ≡ tail m (factors_of (udu_of n p))) × Beside m (udu_answer (udu_of n p)) (udu_answer (udu_of (n - m) q))
  unfolding udu_of
  run = block_run m (n - m) n (let sum : m + (n - m) ≡ n = omega (arith, block.low) in sum) (load (upper n) p) (load (upper (n - m)) q) (λ i j row below. cut.entries i j row below)

  answers : Beside m r (udu_answer (udu_of (n - m) q))
  answers = subst (λ (a : Answer). Beside m a (udu_answer (udu_of (n - m) q))) (sym (columned whole call).answer) run.1

  -- the block's rows and columns of the whole's slices hold what the block finds
  tail_upper : (i k : ℕ) → i < n - m → k < n - m → (factors_of (udu_of (n - m) q)).u i k ≡ (tail_in n m u d).u i k
  unfolding tail
  tail_upper i k row column =
      ap (λ (F : Factors). F.u i k) run.0
      ∙ sym (cell _ (columned whole call).slices.upper (m + i) (m + k) (omega arith) (omega arith))
      ∙ sym (square_at n u (m + i) (m + k) (omega arith) (omega arith))

  tail_diagonal : (k : ℕ) → k < n - m → (factors_of (udu_of (n - m) q)).d k ≡ (tail_in n m u d).d k
  unfolding tail
  tail_diagonal k row = ap (λ (F : Factors). F.d k) run.0 ∙ sym ((columned whole call).slices.diagonal.cells (m + k) (omega arith))

  pub keeps_tail : {s : Answer} {v e : List Float} → UduFactored q v₀ e₀ (n - m) s v e → KeepsTail n m r u d s v e
  keeps_tail {s} blockCall = record {
    answer = beside;
    slices = holding_as (columned block blockCall).slices tail_upper tail_diagonal;
    refused = λ j from is. (zeroed whole call is, zeroed block blockCall (beside_refused beside from is));
  }
    where
      beside : Beside m r s
      beside = subst (Beside m r) (sym (columned block blockCall).answer) answers

  pub tail_suffices : {s : Answer} {v e : List Float} → Beside m r s → Holding (n - m) (tail_in n m u d) v e → UduFactored q v₀ e₀ (n - m) s v e
  tail_suffices beside held =
      factored block (record {
        answer = beside_once beside answers;
        slices = holding_as held (λ i k row column. sym (tail_upper i k row column)) (λ k row. sym (tail_diagonal k row));
      })
