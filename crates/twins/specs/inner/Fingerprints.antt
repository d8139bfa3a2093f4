-- A number made of all of a row's bits. Twin rows have the same fingerprint; any mixing of the bits would do.
use Rattle.std.specs.Prelude.{◌≡◌, ℕ, ◌+◌, ◌*◌, ◌/◌, ◌%◌, ◌^◌, ◌<◌, ◌≤◌, List, ◌≢◌, slice_index, to_bits}
use Rattle.std.specs.Float.{binary64}
use Rattle.matrix.specs.Matrix.{Matrix}
use Rattle.matrix.specs.Loop.{for}
use Rattle.twins.specs.Twins.{symmetric}

-- 64 bits turned by 23
unfoldable pub turned : ℕ → ℕ
turned x = x % 2 ^ 41 * 2 ^ 23 + x / 2 ^ 41

-- three times the fingerprint, turned, and the bits of one entry more
unfoldable pub mixed : ℕ → ℕ → ℕ
unfolding turned
mixed fingerprint bits = (turned (((fingerprint + fingerprint) % 2 ^ 64 + fingerprint) % 2 ^ 64) + bits) % 2 ^ 64

unfoldable pub mix_entry : Matrix → ℕ → ℕ → ℕ → ℕ
unfolding mixed symmetric
mix_entry M i k fingerprint = mixed fingerprint (to_bits binary64 (symmetric M i k))

-- the fingerprint of the first k entries of row i
unfoldable pub fingerprint_of : ℕ → Matrix → ℕ → ℕ
unfolding mix_entry for
fingerprint_of k M i = for 0 k (mix_entry M i) 0

-- n fingerprints of no entry
abbrev pub Cleared : ℕ → List ℕ → Type 0
Cleared n fingerprints = (i : ℕ) → i < n → slice_index fingerprints i ≡ 0

-- the fingerprints of the first n rows
pub record Fingerprinted (n : ℕ) (M : Matrix) (fingerprints : List ℕ) : Type 0 where
  pub each : (i : ℕ) → i < n → slice_index fingerprints i ≡ fingerprint_of n M i

-- the fingerprints of n rows once the columns before c have brought their entries: the rows before c are whole, the others have c entries
pub record Brought (n : ℕ) (M : Matrix) (c : ℕ) (fingerprints : List ℕ) : Type 0 where
  pub whole : (i : ℕ) → i < c → slice_index fingerprints i ≡ fingerprint_of n M i
  pub begun : (i : ℕ) → c ≤ i → i < n → slice_index fingerprints i ≡ fingerprint_of c M i

-- none of the fingerprints from lo to before hi is this one
pub record Apart (fingerprints : List ℕ) (fingerprint lo hi : ℕ) : Type 0 where
  pub each : (i : ℕ) → lo ≤ i → i < hi → slice_index fingerprints i ≢ fingerprint

-- the first p rows, at most q, have other fingerprints than row q
pub record OthersPassed (fingerprints : List ℕ) (q p : ℕ) : Type 0 where
  pub upto : p ≤ q
  pub apart : Apart fingerprints (slice_index fingerprints q) 0 p
