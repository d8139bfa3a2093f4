-- The text of a sheet, byte for byte: numbers, then lines, then the whole.
use Rattle.std.specs.Prelude.{ℕ, zero, suc, ◌+◌, ◌/◌, ◌%◌, cond, List, [], ◌∷◌, ◌++◌, ltb}
use Prim.Native.String.{String}
use Prim.Native.String as S
use Prim.Native.Char as C

abbrev pub bytes : String → List ℕ
bytes S.[] = []
bytes (S.◌∷◌ c s) = C.code c ∷ bytes s

abbrev pub tab : ℕ
tab = 9

abbrev pub lf : ℕ
lf = 10

-- the digit of a number below 16: 0 to 9, a to f
unfoldable pub digit : ℕ → ℕ
digit d = cond (ltb d 10) (48 + d) (87 + d)

-- the decimal digits of v, no leading zero; the first number only bounds the recursion
unfoldable pub decimal_in : ℕ → ℕ → List ℕ
decimal_in zero v = []
decimal_in (suc more) v =
    let front = decimal_in more (v / 10) in
    cond (ltb v 10) (digit v ∷ []) (front ++ (digit (v % 10) ∷ []))

unfoldable pub decimal : ℕ → List ℕ
unfolding decimal_in
decimal v = decimal_in (suc v) v

-- the last k hexadecimal digits of b
unfoldable pub hex : ℕ → ℕ → List ℕ
hex zero b = []
hex (suc k) b = hex k (b / 16) ++ (digit (b % 16) ∷ [])

-- a number and the byte that ends it
unfoldable pub field : ℕ → ℕ → List ℕ
field v stop = decimal v ++ (stop ∷ [])

-- sixteen digits and the line's end
unfoldable pub bits_field : ℕ → List ℕ
bits_field b = hex 16 b ++ (lf ∷ [])

-- a word, its tab and a number: `order`, `end`, `zero`
unfoldable pub number_line : List ℕ → ℕ → List ℕ
number_line word v = word ++ field v lf

unfoldable pub entry_line : ℕ → ℕ → ℕ → List ℕ
entry_line i j b = bytes "entry\t" ++ (field i tab ++ (field j tab ++ bits_field b))
