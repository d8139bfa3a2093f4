-- The nine numbers of a matrix, and the three of a side, by name.
use Rattle.std.specs.Prelude.{List, [], ◌∷◌, Float, get_or}
use Rattle.std.specs.Float.{nan}
use Rattle.handheld.specs.declared.Triangle.{Triangle}
use Rattle.handheld.specs.declared.numbers.Three.{Three}
use Rattle.handheld.specs.declared.numbers.Nine.{Nine}
use Rattle.handheld.specs.declared.steps.Stepped.{Stepped}
use Rattle.handheld.specs.declared.Factored.{Factored}

abbrev pub three_of : Three → List Float
three_of s = s.x ∷ s.y ∷ s.z ∷ []

-- column by column
abbrev pub nine_of : Nine → List Float
nine_of n = n.first.x ∷ n.first.y ∷ n.first.z ∷ n.second.x ∷ n.second.y ∷ n.second.z ∷ n.third.x ∷ n.third.y ∷ n.third.z ∷ []

-- the lower triangle of nine numbers, column by column
abbrev pub in_nine : List Float → Triangle
in_nine l = record { a00 = get_or l 0 nan; a10 = get_or l 1 nan; a20 = get_or l 2 nan; a11 = get_or l 4 nan; a21 = get_or l 5 nan; a22 = get_or l 8 nan }

abbrev pub lower_of : Nine → Triangle
lower_of n = record { a00 = n.first.x; a10 = n.first.y; a20 = n.first.z; a11 = n.second.y; a21 = n.second.z; a22 = n.third.z }

-- what the steps came to: the triangle as columns, above its diagonal what n has there, and the pivots
abbrev pub factored_of : Nine → Stepped → Factored
factored_of n s = record {
  matrix =
      record { row = s.lower.a00 ∷ s.lower.a10 ∷ s.lower.a20 ∷ [] }
      ∷ record { row = n.second.x ∷ s.lower.a11 ∷ s.lower.a21 ∷ [] }
      ∷ record { row = n.third.x ∷ n.third.y ∷ s.lower.a22 ∷ [] }
      ∷ [];
  pivots = s.pivots;
}
