-- What the parts of the search for twins tell each other.
use Rattle.std.specs.Prelude.{◌≡◌, ℕ, ◌<◌, Bool, true, false}
use Rattle.matrix.specs.Matrix.{Matrix}
use Rattle.twins.specs.Twins.{Twins}
use Rattle.twins.specs.First.{NoneBefore}

-- whether rows p and q are twins
pub record Told (n : ℕ) (M : Matrix) (p q : ℕ) (r : Bool) : Type 0 where
  pub yes : r ≡ true → Twins n M p q
  pub no : r ≡ false → Twins n M p q → ⊥

-- p is the first row before q that is its twin
pub record FirstBefore (n : ℕ) (M : Matrix) (q p : ℕ) : Type 0 where
  pub before : p < q
  pub twins : Twins n M p q
  pub nearest : NoneBefore n M p q
