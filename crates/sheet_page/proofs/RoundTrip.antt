-- The sheet that would be written of any matrix is accepted, and the same matrix comes back; all NaNs are one.
use mathlib.Core.Path.{◌≡◌, ap, ◌∙◌}
use mathlib.Core.List.{List, [], ◌∷◌, map}
use Prim.Native.Nat.{ℕ, zero, suc, ◌+◌, ◌*◌, ◌^◌, ◌<◌, ◌≤◌}
use native.Mathlib.Omega.{arith}
use lib.Dec.{T}
use lib.Ieee.{Float, nan, binary64, fits}
use lib.Ieee.Bits.{of_bits-to_bits, to_bits-lt}
use lib.ListN.{length, get_or}
use Rattle.sheet_text.specs.declared.place.Place.{Place}
use Rattle.sheet_text.specs.Place.{places}
use Rattle.sheet_text.specs.Sheet.{Sheet, right_at, sheet_of, IsSheet, stored, Reads}
use Rattle.sheet_text.specs.inner.Read.{Reading, reading}
use Rattle.sheet_text.proofs.Stored.{stored_entry}
use Rattle.sheet_text.proofs.SheetOnce.{reads_once}
use Rattle.sheet_text.proofs.SheetLaws.{complete}
use Rattle.sheet_page.specs.Page.{bits_at, lower_bits}
use Rattle.sheet_page.proofs.PageText.{length_bits}

-- M is a matrix of f64 numbers
abbrev pub Numbers : (ℕ → ℕ → Float) → Type 0
Numbers M = (i j : ℕ) → T (fits binary64 (M i j))

module _ (n : ℕ) (M : ℕ → ℕ → Float) (least : 1 ≤ n) (most : n ≤ 64) (numbers : Numbers M) where
  wide_each : (ps : List Place) (k : ℕ) → get_or (map (bits_at M) ps) k 0 < 2 ^ 64
  wide_each [] k = omega arith
  wide_each (p ∷ ps) zero = to_bits-lt binary64 (M p.row p.column) (numbers p.row p.column)
  wide_each (p ∷ ps) (suc k) = wide_each ps k

  pub written_sheet : IsSheet n (lower_bits n M)
  unfolding lower_bits
  written_sheet = record { least = least; most = most; each = length_bits n M; wide = wide_each (places n) }

  -- whatever the reader answers to it: the order n, and M in the room that was lent
  pub comes_back : (a : List Float) (r : Sheet) (a' : List Float) → n * n ≤ length a → Reads (sheet_of n (lower_bits n M)) a r a'
      → (r ≡ right_at n) × ((i j : ℕ) → j ≤ i → i < n → get_or a' (i + j * n) nan ≡ M i j)
  unfolding lower_bits
  comes_back a r a' long read =
      let same : reading r a' ≡ reading (right_at n) (stored n (places n) (lower_bits n M) a) =
      reads_once (sheet_of n (lower_bits n M)) a r a' read ∙ complete n (lower_bits n M) a written_sheet in (
        ap (λ (o : Reading). o.sheet) same,
        λ i j h k.
            ap (λ (o : Reading). get_or o.cells (i + j * n) nan) same
            ∙ stored_entry n (bits_at M) a i j long h k
            ∙ of_bits-to_bits binary64 (M i j) (numbers i j),
      )
