-- What is found in a record, as the code answers it.
use Rattle.std.specs.Prelude.{cond, eqb, ltb, List, ℕ, Option, None, Some}
use Rattle.pivots.specs.Rule.{block_of, fault_of}

-- a number of rows, none for 0
abbrev pub counted : ℕ → Option ℕ
counted rows = cond (eqb rows 0) None (Some rows)

-- the rows of the block that starts at row k, none where it breaks the rule
abbrev pub rows_found : ℕ → List ℕ → ℕ → Option ℕ
rows_found n words k = counted (block_of n words k)

-- the first row that breaks the rule, none if none does
abbrev pub fault_found : ℕ → List ℕ → Option ℕ
fault_found n words = cond (ltb (fault_of n words) n) (Some (fault_of n words)) None
