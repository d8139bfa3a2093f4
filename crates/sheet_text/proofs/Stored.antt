-- What is stored of a sheet: each entry at its own place, all else as given.
use mathlib.Core.Path.{◌≡◌, refl, ◌∙◌}
use mathlib.Core.List.{List, [], ◌∷◌, ◌++◌, map}
use Prim.Native.Nat.{ℕ, zero, suc, ◌+◌, ◌*◌, ◌<◌, ◌≤◌}
use native.Mathlib.Nat.{suc-mul}
use native.Mathlib.Omega.{arith}
use lib.Ieee.{Float, nan, binary64, of_bits}
use lib.ListN.{length, get_or, set, length-set}
use lib.Seq.{get_or-set_same, get_or-set_other}
use Rattle.sheet_text.specs.declared.place.Place.{Place}
use Rattle.sheet_text.specs.Place.{rows, columns, places, cell}
use Rattle.sheet_text.specs.Sheet.{stored}
use Rattle.sheet_text.proofs.PlaceLaws.{at, cell_inside}
use Rattle.sheet_text.proofs.EachPlace.{Each, each_place, in_place_law}

-- each place's cell is after the cells of the places before it, and at c or after
abbrev Rising : ℕ → ℕ → List Place → Type 0
Rising n c [] = Unit
Rising n c (p ∷ ps) = (c ≤ cell n p) × Rising n (suc (cell n p)) ps

rising_from : (n c d : ℕ) (ps : List Place) → c ≤ d → Rising n d ps → Rising n c ps
rising_from n c d [] h r = tt
rising_from n c d (p ∷ ps) h r = (omega (arith, r.0), r.1)

rising_rows : (n m i j c : ℕ) (qs : List Place) → c ≤ i + j * n → Rising n (i + m + j * n) qs → Rising n c (rows m i j ++ qs)
unfolding rows
rising_rows n zero i j c qs h r = rising_from n c (i + 0 + j * n) qs (omega arith) r
rising_rows n (suc m) i j c qs h r =
    (h, rising_rows n m (suc i) j (suc (i + j * n)) qs (omega arith) (rising_from n (suc i + m + j * n) (i + suc m + j * n) qs (omega arith) r))

rising_columns : (n m j c : ℕ) → j + m ≡ n → c ≤ j + j * n → Rising n c (columns m j)
unfolding columns
rising_columns n zero j c e h = tt
rising_columns n (suc m) j c e h =
    let next = suc-mul j n in
    rising_rows n (suc m) j j c (columns m (suc j)) h (rising_columns n m (suc j) (j + suc m + j * n) (omega arith) (omega arith))

rising_places : (n : ℕ) → Rising n 0 (places n)
unfolding places
rising_places n = rising_columns n n 0 0 (omega arith) (omega arith)

pub each_more : (P Q : Place → Type 0) (ps : List Place) → ((p : Place) → P p → Q p) → Each P ps → Each Q ps
each_more P Q [] f h = tt
each_more P Q (p ∷ ps) f h = (f p h.0, each_more P Q ps f h.1)

stored_before : (n : ℕ) (ps : List Place) (bits : List ℕ) (a : List Float) (c k : ℕ) → Rising n c ps → k < c → get_or (stored n ps bits a) k nan ≡ get_or a k nan
unfolding stored
stored_before n [] bits a c k r h = refl
stored_before n (p ∷ ps) [] a c k r h = refl
stored_before n (p ∷ ps) (b ∷ bits) a c k r h =
    let first = r.0 in
    stored_before n ps bits (set a (cell n p) (of_bits binary64 b)) (suc (cell n p)) k r.1 (omega arith)
    ∙ get_or-set_other a (cell n p) k (of_bits binary64 b) nan (omega arith)

stored_each : (n : ℕ) (f : Place → ℕ) (ps : List Place) (a : List Float) (c : ℕ) → Rising n c ps → Each (λ p. cell n p < length a) ps
    → Each (λ p. get_or (stored n ps (map f ps) a) (cell n p) nan ≡ of_bits binary64 (f p)) ps
unfolding stored
stored_each n f [] a c r h = tt
stored_each n f (p ∷ ps) a c r h =
    let a' = set a (cell n p) (of_bits binary64 (f p)) in
    let long = length-set a (cell n p) (of_bits binary64 (f p)) in (
      stored_before n ps (map f ps) a' (suc (cell n p)) (cell n p) r.1 (omega arith) ∙ get_or-set_same a (cell n p) (of_bits binary64 (f p)) nan h.0,
      stored_each n f ps a' (suc (cell n p)) r.1 (each_more (λ q. cell n q < length a) (λ q. cell n q < length a') ps (λ q k. omega arith) h.1),
    )

-- entry (i, j) stands at i + j * n
pub stored_entry : (n : ℕ) (f : Place → ℕ) (a : List Float) (i j : ℕ) → n * n ≤ length a → j ≤ i → i < n → get_or (stored n (places n) (map f (places n)) a) (i + j * n) nan ≡ of_bits binary64 (f (at i j))
stored_entry n f a i j long h k =
    in_place_law (λ p. get_or (stored n (places n) (map f (places n)) a) (cell n p) nan ≡ of_bits binary64 (f p)) n i j h k
    (stored_each n f (places n) a 0 (rising_places n) (each_place (λ p. cell n p < length a) n (λ r c l m. omega (arith, cell_inside n (at r c) m (omega arith)))))
