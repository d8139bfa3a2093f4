-- Two rows compared entry by entry, by their bits. Assumes nothing.
use Rattle.std.proofs.Common.{◌≡◌, ℕ, ◌<◌, Bool, true, false, T, leb, List, length, get_or, sym, ap, ◌∙◌, true≢false, arith, zero-add}
use Rattle.std.proofs.lemmas.List.FromFn.{length-range_with_len, get_or-range_with_len}
use Rattle.std.specs.Bool.{MatchBool}
use Rattle.std.specs.List.{range_with_len, AllWithin, HoldsAt}
use lib.Ieee.{Float, nan, binary64, fits, to_bits, of_bits}
use lib.Ieee.Bits.{of_bits-to_bits}
use lib.Ieee.Fits.{cond-fits, nan-fits}
use Rattle.matrix.specs.Matrix.{Matrix}
use Rattle.matrix.specs.Grid.{Grid, load}
use Rattle.twins.specs.Twins.{symmetric}
use Rattle.twins.specs.inner.Search.{Told}

-- floats of one format with the same bits are equal
pub same_bits : (x y : Float) → T (fits binary64 x) → T (fits binary64 y) → to_bits binary64 x ≡ to_bits binary64 y → x ≡ y
same_bits x y held held' e = sym (of_bits-to_bits binary64 x held) ∙ ap (of_bits binary64) e ∙ of_bits-to_bits binary64 y held'

-- all of a slice's numbers are of the format
abbrev pub Held : List Float → Type 0
Held l = (i : ℕ) → T (fits binary64 (get_or l i nan))

symmetric_held : (g : Grid) (l : List Float) → Held l → (i j : ℕ) → T (fits binary64 (symmetric (load g l) i j))
unfolding symmetric load
symmetric_held g l held i j =
    cond-fits binary64 (leb j i) _ _
    (cond-fits binary64 (g.inside i j) _ _ (held (g.place i j)) (nan-fits binary64))
    (cond-fits binary64 (g.inside j i) _ _ (held (g.place j i)) (nan-fits binary64))

-- equal bits of entries are equal entries
pub entries : (g : Grid) (l : List Float) (p q k : ℕ) → Held l → to_bits binary64 (symmetric (load g l) q k) ≡ to_bits binary64 (symmetric (load g l) p k)
    → symmetric (load g l) q k ≡ symmetric (load g l) p k
entries g l p q k held = same_bits (symmetric (load g l) q k) (symmetric (load g l) p k) (symmetric_held g l held q k) (symmetric_held g l held p k)

-- the bits of entry k of rows p and q
abbrev pub Alike : Matrix → ℕ → ℕ → ℕ → Type 0
Alike M p q k = to_bits binary64 (symmetric M q k) ≡ to_bits binary64 (symmetric M p k)

-- the bits are all alike, or some are not
pub told_by : {n : ℕ} (g : Grid) (l : List Float) (p q : ℕ) (r : Bool) → Held l
    → MatchBool r (AllWithin (Alike (load g l) p q) (range_with_len 0 n) 0 (length (range_with_len 0 n)))
    ((k : ℕ) × (k < length (range_with_len 0 n)) × HoldsAt (λ k. Alike (load g l) p q k → ⊥) (range_with_len 0 n) k)
    → Told n (load g l) p q r
told_by {n} g l p q true held all = record {
  yes = λ t k below.
      let place : get_or (range_with_len 0 n) k 0 ≡ k = get_or-range_with_len 0 n k 0 below ∙ zero-add k in
      entries g l p q k held (rw place at (all k 0 (omega arith) (omega (arith, length-range_with_len 0 n))));
  no = λ f. absurd (true≢false f);
}
told_by {n} g l p q false held (k, within, apart) =
    let below : k < n = omega (arith, length-range_with_len 0 n) in
    let place : get_or (range_with_len 0 n) k 0 ≡ k = get_or-range_with_len 0 n k 0 below ∙ zero-add k in
    record {
      yes = λ t. absurd (true≢false (sym t));
      no = λ f twins. (rw place at (apart 0)) (ap (to_bits binary64) (twins k below));
    }
