use Rattle.class.specs.Kinds.{asked}
use Rattle.carrying.specs.Refusals.{refusal_for}
use Rattle.carrying.proofs.GoesOn.{as_roomy, idle_after}
use Rattle.carrying.proofs.over.OverWay.carry.Goals as goal

pub returns-clause-goes_on : goal.returns-clause-goes_on
returns-clause-goes_on g c s =
    let Q = g.Q.Queue in
    let r = asked c.args.request in
    let o = refusal_for Q.ops g.C.Class.kind c.args.self.now.queue c.args.tag r c.args.cell.now c.args.store.now in
    let e = g.C.Class.kind.entry c.args.tag r in
    let l = (c.carry.ensures.plain_service s).idle_again in
    record {
      still_sound = l.still_sound;
      same_room = as_roomy Q.sound Q.ops Q.laws o e c.args.self.now.queue c.carry.new.queue s l;
      free_again = idle_after Q.sound Q.ops Q.laws o e c.args.self.now.queue c.carry.new.queue s l;
    }
