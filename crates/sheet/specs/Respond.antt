-- What the program answers and writes, of the bytes that it reads: the page of the factored sheet, or the refusal with the first wrong line.
use Rattle.std.specs.Prelude.{◌≡◌, List, ℕ, ◌*◌, ◌≤◌, Float, length, take, replicate, Err}
use Rattle.answer.specs.declared.Refusal.TheVariants.{BadLine}
use Rattle.answer.specs.Answer.{Answer, Done}
use Rattle.matrix.specs.Matrix.{Matrix}
use Rattle.matrix.specs.Grid.{load}
use Rattle.matrix.specs.Layouts.{full, lower}
use Rattle.matrix.specs.Rounded.{plus_zero}
use Rattle.pivots.specs.Words.{words_of}
use Rattle.lblt.specs.Factor.{final_state, recorded}
use Rattle.lblt_read.specs.Diagonal.{determinant_of}
use Rattle.sheet_text.specs.Place.{places}
use Rattle.sheet_text.specs.Sheet.{sheet_of, IsSheet, FirstWrong, stored}
use Rattle.sheet_page.specs.Page.{page_of, refusal_of}
use Rattle.sheet_page.specs.Put.{Put}
use Rattle.sheet.specs.declared.Responded.{Responded}

-- the run number of every sheet; the page does not show it
abbrev pub sheet_run : ℕ
sheet_run = 0

-- order, pivots, mark, factor, determinant, and the number of pivot and entry lines, of a matrix and a record to write in
unfoldable pub page_from : ℕ → Matrix → List ℕ → List ℕ
page_from n M words =
    page_of n (recorded n sheet_run M words) (final_state n M words).matrix (determinant_of n (final_state n M words).matrix (recorded n sheet_run M words))

-- room for 4,096 numbers, and for the record of 64 rows
abbrev pub empty_room : List Float
empty_room = replicate 4096 plus_zero

abbrev pub empty_words : List ℕ
empty_words = replicate (words_of 64) 0

-- the n·n numbers of a sheet: its entries, and zero above the diagonal
unfoldable pub numbers_of : ℕ → List ℕ → List Float
numbers_of n bits = take (n * n) (stored n (places n) bits empty_room)

unfoldable pub factor_page : ℕ → List ℕ → List ℕ
factor_page n bits = page_from n (load (lower (full n)) (numbers_of n bits)) (take (words_of n) empty_words)

pub data Response (s : List ℕ) (answer : Answer) (text : List ℕ) : Type 0 where
  factors : (n : ℕ) (bits : List ℕ) → IsSheet n bits → s ≡ sheet_of n bits → answer ≡ Done → text ≡ factor_page n bits → Response s answer text
  refuses : (line : ℕ) → FirstWrong s line → answer ≡ Err (BadLine line) → text ≡ refusal_of (Err (BadLine line)) → Response s answer text

-- the response to s stands at the start of the lent bytes, as far as they have room
pub record Responds (s o : List ℕ) (r : Responded) (o' : List ℕ) : Type 0 where
  pub text : List ℕ
  pub response : Response s r.answer text
  pub put : Put o 0 text r.end o'
  pub ends : r.end ≤ length o'
  pub counted : r.end ≡ length (take r.end o')
