-- The lower triangle of three rows: six numbers, as a matrix of the lent calls, and back.
use Rattle.std.specs.Prelude.{List, [], ◌∷◌, Float}
use Rattle.matrix.specs.Matrix.{Matrix}
use Rattle.matrix.specs.Grid.{load}
use Rattle.matrix.specs.Layouts.{packed, lower}
use Rattle.handheld.specs.declared.Triangle.{Triangle}

-- its numbers, packed
abbrev pub six_of : Triangle → List Float
six_of t = t.a00 ∷ t.a10 ∷ t.a20 ∷ t.a11 ∷ t.a21 ∷ t.a22 ∷ []

unfoldable pub matrix_of : Triangle → Matrix
matrix_of t = load (lower (packed 3)) (six_of t)

unfoldable pub triangle_of : Matrix → Triangle
triangle_of M = record { a00 = M 0 0; a10 = M 1 0; a20 = M 2 0; a11 = M 1 1; a21 = M 2 1; a22 = M 2 2 }
