-- What the tests of a tray answer, and what they tell where it goes on.
--     many, large, matrices_wrong … answers_wrong, all_right   each way out
--     trayed                                                   all tests hold: the slices of a tray
use Rattle.std.proofs.Common.{Err, true, List, ◌≡◌, refl, sym, ap, subst, ◌∙◌, ℕ, ◌+◌, ◌*◌, ◌<◌, ◌≤◌, mul-le-mul, arith, eq-eqb, ne_eqb, eqb-true, le-leb, leb-true, Float, length}
use Rattle.std.proofs.lemmas.Bool.{lt-leb}
use Rattle.answer.specs.declared.Refusal.TheVariants.{OutOfRange, MatrixLength, SliceLength}
use Rattle.answer.specs.Answer.{Answer, Done, is_done}
use Rattle.answer.specs.Refusals.{tested}
use Rattle.answer.proofs.Tested.{tested_all, tested_at, all_hold, here, later, leaving_done}
use Rattle.matrix.specs.Columns.{Lined}
use Rattle.matrix.proofs.Columns.{column_within}
use Rattle.pivots.specs.Words.{words_of}
use Rattle.lblt_tray.specs.Tray.{tray_tests, EachSolved, TraySolved}
use Rattle.lblt_tray.specs.inner.Engine.{Trayed}

module _ (n count : ℕ) (a : List Float) (words : List ℕ) (b : List Float) (runs answers : List ℕ) where
  abbrev answered : Answer
  answered = tested (tray_tests n count a words b runs answers) Done

  pub many : 1024 < count → Err OutOfRange ≡ answered
  many h = sym (tested_at (tray_tests n count a words b runs answers) Done (here (lt-leb count 1024 h) refl))

  module _ (few : count ≤ 1024) where
    pub large : 64 < n → Err OutOfRange ≡ answered
    large h = sym (tested_at (tray_tests n count a words b runs answers) Done (later (le-leb count 1024 few) (here (lt-leb n 64 h) refl)))

    module _ (small : n ≤ 64) where
      pub matrices_wrong : (length a ≡ n * n * count → ⊥) → Err MatrixLength ≡ answered
      matrices_wrong h =
          sym (tested_at (tray_tests n count a words b runs answers) Done
          (later (le-leb count 1024 few) (later (le-leb n 64 small) (here (ne_eqb (length a) (n * n * count) h) refl))))

      module _ (matrices : length a ≡ n * n * count) where
        pub records_wrong : (length words ≡ words_of n * count → ⊥) → Err SliceLength ≡ answered
        records_wrong h =
            sym (tested_at (tray_tests n count a words b runs answers) Done
            (later (le-leb count 1024 few) (later (le-leb n 64 small) (later (eq-eqb (length a) (n * n * count) matrices)
            (here (ne_eqb (length words) (words_of n * count) h) refl)))))

        module _ (records : length words ≡ words_of n * count) where
          pub sides_wrong : (length b ≡ n * count → ⊥) → Err SliceLength ≡ answered
          sides_wrong h =
              sym (tested_at (tray_tests n count a words b runs answers) Done
              (later (le-leb count 1024 few) (later (le-leb n 64 small) (later (eq-eqb (length a) (n * n * count) matrices)
              (later (eq-eqb (length words) (words_of n * count) records) (here (ne_eqb (length b) (n * count) h) refl))))))

          module _ (sides : length b ≡ n * count) where
            pub runs_wrong : (length runs ≡ count → ⊥) → Err SliceLength ≡ answered
            runs_wrong h =
                sym (tested_at (tray_tests n count a words b runs answers) Done
                (later (le-leb count 1024 few) (later (le-leb n 64 small) (later (eq-eqb (length a) (n * n * count) matrices)
                (later (eq-eqb (length words) (words_of n * count) records) (later (eq-eqb (length b) (n * count) sides)
                (here (ne_eqb (length runs) count h) refl)))))))

            module _ (numbered : length runs ≡ count) where
              pub answers_wrong : (length answers ≡ count → ⊥) → Err SliceLength ≡ answered
              answers_wrong h =
                  sym (tested_at (tray_tests n count a words b runs answers) Done
                  (later (le-leb count 1024 few) (later (le-leb n 64 small) (later (eq-eqb (length a) (n * n * count) matrices)
                  (later (eq-eqb (length words) (words_of n * count) records) (later (eq-eqb (length b) (n * count) sides)
                  (later (eq-eqb (length runs) count numbered) (here (ne_eqb (length answers) count h) refl))))))))

              pub all_right : length answers ≡ count → Done ≡ answered
              all_right h =
                  sym (tested_all (tray_tests n count a words b runs answers) Done (
                    le-leb count 1024 few,
                    (
                      le-leb n 64 small,
                      (
                        eq-eqb (length a) (n * n * count) matrices,
                        (
                          eq-eqb (length words) (words_of n * count) records,
                          (eq-eqb (length b) (n * count) sides, (eq-eqb (length runs) count numbered, (eq-eqb (length answers) count h, tt))),
                        ),
                      ),
                    ),
                  ))

  pub trayed : {r : Answer} → r ≡ answered → is_done r ≡ true → Trayed n count a words b runs answers
  trayed is done =
      let held = (all_hold (tray_tests n count a words b runs answers) Done (ap is_done (sym is) ∙ done)).0 in
      let few : count ≤ 1024 = leb-true count 1024 held.0 in
      record {
        order = leb-true n 64 held.1.0;
        matrices = record { few = few; long = eqb-true (length a) (n * n * count) held.1.1.0 };
        records = record { few = few; long = eqb-true (length words) (words_of n * count) held.1.1.1.0 };
        sides = record { few = few; long = eqb-true (length b) (n * count) held.1.1.1.1.0 };
        numbered = eqb-true (length runs) count held.1.1.1.1.1.0;
        answered = eqb-true (length answers) count held.1.1.1.1.1.1.0;
      }

  module _ (passed : Done ≡ answered) where
    -- the count by the list of run numbers
    pub trayed_runs : Trayed n (length runs) a words b runs answers
    trayed_runs = let t = trayed passed refl in subst (λ (count : ℕ). Trayed n count a words b runs answers) (sym t.numbered) t

    pub done_solved
        : {a' : List Float} {words' : List ℕ} {b' : List Float} {answers' : List ℕ}
        → EachSolved n (length runs) a words b runs answers a' words' b' answers'
        → TraySolved n count a words b runs answers Done a' words' b' answers'
    done_solved {a'} {words'} {b'} {answers'} each =
        record {
          answer = passed;
          left = leaving_done refl (subst (λ (count : ℕ). EachSolved n count a words b runs answers a' words' b' answers') (trayed passed refl).numbered each);
        }

pub square_small : (n : ℕ) → n ≤ 64 → n * n ≤ 4096
square_small n small = mul-le-mul {n₁ = n} {m₁ = n} {n₂ = 64} {m₂ = 64} small small
