-- Columns of three numbers, by name. Assumes nothing.
use mathlib.Core.Path.{◌≡◌}
use mathlib.Core.List.{List, [], ◌∷◌}
use Prim.Native.Nat.{ℕ}
use native.Mathlib.Omega.{arith}
use lib.ListN.{length, get_or}
use Rattle.handheld.specs.declared.Column3.{Column3}
use Rattle.handheld.specs.declared.numbers.Three.{Three}
use Rattle.handheld.specs.Shapes.{numbers_of}
use Rattle.handheld.specs.inner.Numbers.{three_of, nine_of}

-- a list of three
pub three_listed : {A : Type 0} (l : List A) (d : A) → length l ≡ 3 → {last : ℕ} → last ≡ 2 → l ≡ get_or l 0 d ∷ get_or l 1 d ∷ get_or l last d ∷ []
three_listed (x ∷ y ∷ z ∷ []) d long at = rw at
three_listed [] d long at = absurd (omega arith)
three_listed (x ∷ []) d long at = absurd (omega arith)
three_listed (x ∷ y ∷ []) d long at = absurd (omega arith)
three_listed (x ∷ y ∷ z ∷ w ∷ l) d long at = absurd (omega arith)

-- columns one after the other
pub nine_listed : (columns : List Column3) (d : Column3) → length columns ≡ 3 → {first second third : Three}
    → (get_or columns 0 d).row ≡ three_of first → (get_or columns 1 d).row ≡ three_of second → (get_or columns 2 d).row ≡ three_of third
    → numbers_of columns ≡ nine_of (record { first = first; second = second; third = third })
unfolding numbers_of
nine_listed (b ∷ c ∷ e ∷ []) d long is1 is2 is3 = rw (is1, is2, is3)
nine_listed [] d long is1 is2 is3 = absurd (omega arith)
nine_listed (b ∷ []) d long is1 is2 is3 = absurd (omega arith)
nine_listed (b ∷ c ∷ []) d long is1 is2 is3 = absurd (omega arith)
nine_listed (b ∷ c ∷ e ∷ f ∷ l) d long is1 is2 is3 = absurd (omega arith)
