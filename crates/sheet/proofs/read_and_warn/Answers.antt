use Rattle.std.proofs.Common.{refl}
use Prim.Native.Nat.{zero-le}
use Rattle.sheet_page.proofs.PutLaws.{put_none}
use Rattle.sheet.specs.Respond.{empty_words}
use Rattle.sheet.proofs.Twins.{of_rows, not_refused}
use Rattle.sheet.proofs.Answers.{lone_room, order_small, parts, silent, warned}
use Rattle.sheet.proofs.read_and_warn.Goals as goal

pub returns-in_default : goal.returns-in_default
returns-in_default c = silent c.in_default.ensures c.args.out.now

pub unwrap-found-requires : goal.unwrap-found-requires
unwrap-found-requires c =
    let square = parts c.in-Ok.ensures empty_words refl (lone_room c.requires) c.read_sheet.auto.a in
    not_refused _ _ (of_rows _ c.in-Ok.n (order_small c.in-Ok.ensures) square.long c.first_twin.ensures)

pub returns-in-Some : goal.returns-in-Some
returns-in-Some c = warned c.in-Ok.ensures c.requires (rw c.in-Some.ensures at c.first_twin.ensures) c.put_twin.ensures

pub returns-in-None : goal.returns-in-None
returns-in-None c = warned c.in-Ok.ensures c.requires (rw c.in-None.ensures at c.first_twin.ensures) (put_none c.args.out.now 0 zero-le)
