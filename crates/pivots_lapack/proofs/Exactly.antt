-- The reader accepts exactly the lists that some sound record is written as; what is read comes back when it is written, and what is written when it is read.
--     read_sound      a list that is read: the record is sound, is written as this list and this INFO, and has the run number
--     sound_read      a list and INFO that a sound record is written as, in slices that fit, are read, to that record with the run number
--     sound_written   a sound record, in slices that fit, is written
--     record_returns  a record is written, and the list is read with its INFO and run number: the same record
--     list_returns    a list is read, and the record is written: the same list, INFO and run number
-- Assumes nothing.
use Rattle.std.proofs.Common.{◌≡◌, true, List, ℕ, ℤ, pos, length, Result, Ok, refl, sym, ap, ◌∙◌}
use Rattle.answer.specs.declared.Refusal.{Refusal}
use Rattle.answer.specs.declared.Refusal.TheVariants.{BadList, BadRecord}
use Rattle.answer.specs.Answer.{Answer, Done, is_done}
use Rattle.answer.proofs.Tested.{all_hold, tested_all}
use Rattle.pivots.specs.Words.{words_of, mark_at, run_at, stamped}
use Rattle.pivots.specs.Rule.{Accepted}
use Rattle.pivots.proofs.Written.{stamped_own, stamped_accepted}
use Rattle.pivots_lapack.specs.declared.Stamp.{Stamp}
use Rattle.pivots_lapack.specs.Numbers.{mark_meant}
use Rattle.pivots_lapack.specs.Lists.{record_of, list_of}
use Rattle.pivots_lapack.specs.Calls.{write_tests, stamp_of, ListRead, ListWritten}
use Rattle.pivots_lapack.specs.Meaning.{WrittenAs}
use Rattle.pivots_lapack.proofs.Records.{record_length, record_run, record_stamped}
use Rattle.pivots_lapack.proofs.Lists.{list_length}
use Rattle.pivots_lapack.proofs.Rounds.{record_back, list_back, info_back}
use Rattle.pivots_lapack.proofs.Tests.{tests_done, tests_kept}

module _ {n run : ℕ} {list : List ℤ} {info : ℤ} {words : List ℕ} {r : Answer} {words' : List ℕ} (read : ListRead n run list info words r words') where
  abbrev spelled : List ℕ
  spelled = record_of list (mark_meant n info) run

  pub read_sound : is_done r ≡ true → WrittenAs n words' list info × (run_at n words' ≡ run)
  read_sound done =
      let known = tests_done n list words BadList spelled Done (ap is_done (sym read.answer) ∙ done) in
      let long = known.0.long in
      let a : Accepted n spelled =
      record {
        sized = record { order = known.0.sized.order; total = record_length n list (mark_meant n info) run long };
        done = known.1;
      }
      in
      let is : words' ≡ spelled = read.pivots ∙ rw done in
      rw is (
        record {
          accepted = a;
          numbers = sym (list_back n list (mark_meant n info) run long a);
          mark = info_back n list (mark_meant n info) run long a info refl;
        },
        record_run n list (mark_meant n info) run long,
      )

  pub sound_read : length words ≡ words_of n → (sound : List ℕ) → WrittenAs n sound list info → (r ≡ Done) × (words' ≡ stamped n sound run)
  sound_read total sound w =
      let a = w.accepted in
      let long : length list ≡ n = ap length (sym w.numbers) ∙ list_length n sound in
      let marks : mark_meant n info ≡ mark_at n sound = ap (mark_meant n) (sym w.mark) in
      let is : spelled ≡ stamped n sound run =
      rw (marks, ← w.numbers)
      (sym (ap (λ (v : List ℕ). stamped n v run) (sym (record_back a)) ∙ record_stamped n (list_of n sound) (mark_at n sound) (run_at n sound) (list_length n sound) run))
      in
      let done : r ≡ Done = read.answer ∙ tests_kept n list words BadList spelled Done a.sized.order long total (rw is (stamped_accepted run a).done) in
      (done, read.pivots ∙ rw done is)

-- ---- there and back

-- what is handed back is the record's
stamp_is : {n : ℕ} {words : List ℕ} {list list' : List ℤ} {stamp : Stamp} → ListWritten n words list (Ok stamp) list' → stamp ≡ stamp_of n words
stamp_is {n} {words} {list} written =
    let own : Result Stamp Refusal = Ok (stamp_of n words) in
    let passed = written.answer ∙ tested_all (write_tests n words list) own (all_hold (write_tests n words list) own (ap is_done (sym written.answer))).0 in
    cc

pub written_as : {n : ℕ} {words : List ℕ} {list list' : List ℤ} {stamp : Stamp} → ListWritten n words list (Ok stamp) list' → WrittenAs n words list' stamp.info
written_as {n} {words} {list} written =
    let known = tests_done n list words BadRecord words (Ok (stamp_of n words)) (ap is_done (sym written.answer)) in
    record {
      accepted = record { sized = known.0.sized; done = known.1 };
      numbers = sym written.numbers;
      mark = sym (ap (λ (s : Stamp). s.info) (stamp_is written));
    }

pub record_returns
    : {n : ℕ} {words : List ℕ} {list list' : List ℤ} {stamp : Stamp} {lent words' : List ℕ} {q : Answer}
    → ListWritten n words list (Ok stamp) list'
    → length lent ≡ words_of n → ListRead n stamp.run list' stamp.info lent q words'
    → (q ≡ Done) × (words' ≡ words)
record_returns {n} {words} written total read =
    let result = sound_read read total words (written_as written) in
    (result.0, result.1 ∙ ap (λ (s : Stamp). stamped n words s.run) (stamp_is written) ∙ stamped_own n words)

-- the call is done, and hands back this list, this INFO and this run number
pub record HandedBack (list : List ℤ) (info : ℤ) (run : ℕ) (r : Result Stamp Refusal) (list' : List ℤ) : Type 0 where
  pub done : r ≡ Ok (record { info = info; run = run })
  pub numbers : list' ≡ list

-- the writer accepts every sound record
pub sound_written
    : {n : ℕ} {words : List ℕ} {list list' : List ℤ} {r : Result Stamp Refusal} → Accepted n words → length list ≡ n → ListWritten n words list r list'
    → HandedBack (list_of n words) (pos (mark_at n words)) (run_at n words) r list'
sound_written {n} {words} {list} {r = r} a long written =
    let done : r ≡ Ok (stamp_of n words) = written.answer ∙ tests_kept n list words BadRecord words (Ok (stamp_of n words)) a.sized.order long a.sized.total a.done in
    record { done = done; numbers = written.numbers ∙ rw done }

pub list_returns
    : {n run : ℕ} {list : List ℤ} {info : ℤ} {words words' : List ℕ} {r : Answer} {lent list' : List ℤ} {q : Result Stamp Refusal}
    → ListRead n run list info words r words' → is_done r ≡ true
    → length lent ≡ n → ListWritten n words' lent q list'
    → HandedBack list info run q list'
list_returns read done long written =
    let known = read_sound read done in
    let handed = sound_written known.0.accepted long written in
    record {
      done = rw (known.0.mark, known.1) at handed.done;
      numbers = handed.numbers ∙ known.0.numbers;
    }
