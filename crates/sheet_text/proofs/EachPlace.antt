-- What holds of each place of the lower triangle holds of each place of the list, and the other way round.
use mathlib.Core.Path.{◌≡◌, refl, ap₂, subst}
use mathlib.Core.List.{List, [], ◌∷◌, ◌++◌, map}
use mathlib.Core.Logic.{◌⊎◌, inl, inr}
use Prim.Native.Nat.{ℕ, zero, suc, ◌+◌, ◌<◌, ◌≤◌}
use native.Mathlib.Omega.{arith}
use Rattle.answer.proofs.Tests.{lt_or_ge}
use Rattle.sheet_text.specs.declared.place.Place.{Place}
use Rattle.sheet_text.specs.Place.{rows, columns, places}
use Rattle.sheet_text.proofs.PlaceLaws.{at}

abbrev pub Each : (Place → Type 0) → List Place → Type 0
Each P [] = Unit
Each P (p ∷ ps) = P p × Each P ps

pub each_same : {A : Type 0} (f g : Place → A) (ps : List Place) → Each (λ p. f p ≡ g p) ps → map f ps ≡ map g ps
each_same f g [] h = refl
each_same f g (p ∷ ps) h = ap₂ ◌∷◌ h.0 (each_same f g ps h.1)

module _ (P : Place → Type 0) where
  each_both : (ps qs : List Place) → Each P ps → Each P qs → Each P (ps ++ qs)
  each_both [] qs h k = k
  each_both (p ∷ ps) qs h k = (h.0, each_both ps qs h.1 k)

  each_left : (ps qs : List Place) → Each P (ps ++ qs) → Each P ps
  each_left [] qs h = tt
  each_left (p ∷ ps) qs h = (h.0, each_left ps qs h.1)

  each_right : (ps qs : List Place) → Each P (ps ++ qs) → Each P qs
  each_right [] qs h = h
  each_right (p ∷ ps) qs h = each_right ps qs h.1

  each_row : (m i j : ℕ) → ((r : ℕ) → i ≤ r → r < i + m → P (at r j)) → Each P (rows m i j)
  unfolding rows
  each_row zero i j f = tt
  each_row (suc m) i j f = (f i (omega arith) (omega arith), each_row m (suc i) j (λ r h k. f r (omega arith) (omega arith)))

  each_column_law : (m j : ℕ) → ((r c : ℕ) → j ≤ c → c ≤ r → r < j + m → P (at r c)) → Each P (columns m j)
  unfolding columns
  each_column_law zero j f = tt
  each_column_law (suc m) j f =
      each_both (rows (suc m) j j) (columns m (suc j)) (each_row (suc m) j j (λ r h k. f r j (omega arith) h k))
      (each_column_law m (suc j) (λ r c h k l. f r c (omega arith) k (omega arith)))

  pub each_place : (n : ℕ) → ((r c : ℕ) → c ≤ r → r < n → P (at r c)) → Each P (places n)
  unfolding places
  each_place n f = each_column_law n 0 (λ r c h k l. f r c k (omega arith))

  in_row : (m i j r : ℕ) → i ≤ r → r < i + m → Each P (rows m i j) → P (at r j)
  unfolding rows
  in_row zero i j r h k e = absurd (omega arith)
  in_row (suc m) i j r h k e = go (lt_or_ge i r) (λ l. in_row m (suc i) j r l (omega arith) e.1)
    where
      go : (i < r) ⊎ (r ≤ i) → (i < r → P (at r j)) → P (at r j)
      go (inl l) more = more l
      go (inr l) more = let same : i ≡ r = omega arith in subst (λ (k : ℕ). P (at k j)) same e.0

  in_column : (m j r c : ℕ) → j ≤ c → c ≤ r → r < j + m → Each P (columns m j) → P (at r c)
  unfolding columns
  in_column zero j r c h k l e = absurd (omega arith)
  in_column (suc m) j r c h k l e =
      go (lt_or_ge j c) (λ g. in_column m (suc j) r c g k (omega arith) (each_right (rows (suc m) j j) (columns m (suc j)) e))
    where
      go : (j < c) ⊎ (c ≤ j) → (j < c → P (at r c)) → P (at r c)
      go (inl g) more = more g
      go (inr g) more =
          let same : j ≡ c = omega arith in
          subst (λ (q : ℕ). P (at r q)) same (in_row (suc m) j j r (omega arith) l (each_left (rows (suc m) j j) (columns m (suc j)) e))

  pub in_place_law : (n r c : ℕ) → c ≤ r → r < n → Each P (places n) → P (at r c)
  unfolding places
  in_place_law n r c h k e = in_column n 0 r c (omega arith) h (omega arith) e

-- ---- each place is in the square
pub record InSquare (n : ℕ) (p : Place) : Type 0 where
  pub row : p.row < n
  pub column : p.column < n

pub in_square : (n : ℕ) → Each (InSquare n) (places n)
in_square n = each_place (InSquare n) n (λ r c h k. record { row = k; column = omega arith })
