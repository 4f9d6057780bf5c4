use Rattle.std.proofs.Common.{[], ap, ◌∙◌, arith}
use Rattle.std.proofs.lemmas.Bool.Decides.{Decides-eqb}
use Rattle.std.proofs.lemmas.Slice.Eq.{slice_eq-Decides}
use Rattle.tasks.proofs.Again.{found, kept_on, asks}
use Rattle.tasks.proofs.boards.write_and_read.Goals as goal

pub returns : goal.returns
returns g c = record {
  found_again = λ s y whole sized there long.
      let W = g.W.Way in
      let on = c.step.ensures.goes_on s in
      (slice_eq-Decides Decides-eqb _ _ _ c.eq.ensures).1
      (found W.sound W.too_small W.in_use c.args.way.now c.step.new.way y on
      c.args.cell.now c.args.disk.now c.args.board.now c.args.sector whole sized there long
      _ _ (ap (asks c.args.sector c.args.board.now) c.into.ensures) (c.bare-read.ensures.no_bytes ∙ ap (asks c.args.sector []) c.into-2.ensures)
      c.step.new.cell c.step.new.store c.step-2.new.cell c.step-2.new.store c.in_ok-data.field-0.now
      (omega arith) (omega arith) (c.step.ensures.as_carried s) (c.step-2.ensures.as_carried on.still_sound) c.in_ok-data.ensures.answer);
  on_the_disk = λ s y whole sized there long.
      let W = g.W.Way in
      let on = c.step.ensures.goes_on s in
      kept_on W.sound W.too_small W.in_use c.args.way.now c.step.new.way y on
      c.args.cell.now c.args.disk.now c.args.board.now c.args.sector whole sized there long
      _ _ (ap (asks c.args.sector c.args.board.now) c.into.ensures) (c.bare-read.ensures.no_bytes ∙ ap (asks c.args.sector []) c.into-2.ensures)
      c.step.new.cell c.step.new.store c.step-2.new.cell c.step-2.new.store c.in_ok-data.field-0.now
      (omega arith) (omega arith) (c.step.ensures.as_carried s) (c.step-2.ensures.as_carried on.still_sound) c.in_ok-data.ensures.answer;
}
