use Rattle.std.proofs.lemmas.Result.{IfOk-weaker}
use Rattle.queue_task.proofs.Started.{made_free}
use Rattle.queue_task.proofs.disk.first_board.Goals as goal

pub returns : goal.returns
returns c = record {
  found_again = IfOk-weaker c.write_and_read.result _ _
      (λ same found ok. found c.make.ensures.keeps_its_meaning
      (made_free c.args.region.now c.args.sized c.make.result c.make.ensures.keeps_its_meaning c.make.ensures.starts_empty ok))
      c.write_and_read.ensures.found_again;
  on_the_disk = IfOk-weaker c.write_and_read.result _ _
      (λ same kept ok. kept c.make.ensures.keeps_its_meaning
      (made_free c.args.region.now c.args.sized c.make.result c.make.ensures.keeps_its_meaning c.make.ensures.starts_empty ok))
      c.write_and_read.ensures.on_the_disk;
}
