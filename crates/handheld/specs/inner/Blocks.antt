-- Records of three rows, by the ways in which the rows of an accepted one fall into blocks.
use Rattle.std.specs.Prelude.{List, [], ◌∷◌, ℕ}

abbrev pub one_one_one : ℕ → ℕ → ℕ → ℕ → List ℕ
one_one_one index0 index1 mark run = index0 ∷ 1 ∷ index1 ∷ 1 ∷ 2 ∷ 1 ∷ mark ∷ run ∷ []

abbrev pub one_two : ℕ → ℕ → ℕ → List ℕ
one_two index0 mark run = index0 ∷ 1 ∷ 2 ∷ 2 ∷ 2 ∷ 2 ∷ mark ∷ run ∷ []

abbrev pub two_one : ℕ → ℕ → ℕ → List ℕ
two_one index0 mark run = index0 ∷ 2 ∷ index0 ∷ 2 ∷ 2 ∷ 1 ∷ mark ∷ run ∷ []
