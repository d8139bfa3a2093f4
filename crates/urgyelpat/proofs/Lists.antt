-- LAPACK pivot lists across C, there and back. Assumes nothing.
--     record_comes_back     a record is written, and its list read with the INFO and the run number that were handed back: the record
--     list_comes_back       a list is read, and its record written: the list, INFO and the run number
use Rattle.std.proofs.Common.{Result, Ok, Err, true≢false, List, ◌≡◌, sym, ap, ◌∙◌, ℕ, ℤ, length}
use Rattle.answer.specs.declared.Refusal.{Refusal}
use Rattle.answer.specs.Number.{number_of}
use Rattle.answer.proofs.Back.{zero_done}
use Rattle.pivots.specs.Words.{words_of}
use Rattle.pivots_lapack.specs.declared.Stamp.{Stamp}
use Rattle.pivots_lapack.specs.Calls.{ListRead, ListWritten}
use Rattle.pivots_lapack.proofs.Exactly.{record_returns, list_returns}
use Rattle.urgyelpat.specs.declared.Listed.{Listed}
use Rattle.urgyelpat.specs.Passed.{listed_of}
use Rattle.urgyelpat.specs.Calls.{PivotsFromLapack, PivotsToLapack}

pub record_comes_back
    : {n : ℕ} {words lent words' : List ℕ} {list list' : List ℤ} {v : Listed} {r : ℕ}
    → PivotsToLapack n words list v list' → v.answer ≡ 0
    → length lent ≡ words_of n → PivotsFromLapack n v.run list' v.info lent r words'
    → (r ≡ 0) × (words' ≡ words)
record_comes_back {n} {words} {lent} {words'} {list} {list'} {v} {r} written done total read = by written.below written.given written.result
  where
    by : (below : Result Stamp Refusal) → ListWritten n words list below list' → v ≡ listed_of below → (r ≡ 0) × (words' ≡ words)
    by (Ok stamp) given is =
        let again : ListRead n stamp.run list' stamp.info lent read.below words' = rw is at read.given in
        let back = record_returns given total again in
        (read.result ∙ ap number_of back.0, back.1)
    by (Err refusal) given is = absurd (true≢false (sym (zero_done {A = Stamp} (Err refusal) (sym done ∙ ap (λ (l : Listed). l.answer) is))))

pub record Comes (list : List ℤ) (info : ℤ) (run : ℕ) (v : Listed) (list' : List ℤ) : Type 0 where
  pub done : v.answer ≡ 0
  pub numbers : list' ≡ list
  pub same_info : v.info ≡ info
  pub same_run : v.run ≡ run

pub list_comes_back
    : {n run : ℕ} {list lent list' : List ℤ} {info : ℤ} {words words' : List ℕ} {v : Listed}
    → PivotsFromLapack n run list info words 0 words'
    → length lent ≡ n → PivotsToLapack n words' lent v list'
    → Comes list info run v list'
list_comes_back read long written =
    let handed = list_returns read.given (zero_done read.below read.result) long written.given in
    let is = written.result ∙ ap listed_of handed.done in
    record {
      done = ap (λ (l : Listed). l.answer) is;
      numbers = handed.numbers;
      same_info = ap (λ (l : Listed). l.info) is;
      same_run = ap (λ (l : Listed). l.run) is;
    }
