-- `determinant_on` multiplies where its checks admit it.
use Rattle.std.proofs.Common.{sym, ap, ◌∙◌, Ok}
use Rattle.answer.proofs.Done.{handed_on}
use Rattle.answer.proofs.Tested.{tested_passed, tested_refused}
use Rattle.lblt_read.specs.Calls.{reader_tests}
use Rattle.lblt_read.proofs.Admitted.{read_done}
use Rattle.lblt_read.proofs.determinant_on.Goals as goal

pub returns-in_err-check_factor : goal.returns-in_err-check_factor
returns-in_err-check_factor c =
    record {
      answer = handed_on _ c.from_residual.ensures.1
          ∙ sym (tested_refused (reader_tests c.args.y c.args.run c.args.a.now c.args.words.now) _ (sym c.in_err-check_factor.ensures));
    }

pub product-requires : goal.product-requires
product-requires c = read_done _ _ _ _ c.in_ok-check_factor.ensures

pub returns : goal.returns
returns c =
    record {
      answer = ap Ok c.product.ensures
          ∙ sym (tested_passed (reader_tests c.args.y c.args.run c.args.a.now c.args.words.now) _ (sym c.in_ok-check_factor.ensures));
    }
