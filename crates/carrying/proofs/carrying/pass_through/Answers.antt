use Rattle.std.proofs.Common.{sym, refl, rules}
use Rattle.class.specs.Kinds.{asked, Sized}
use Rattle.carrying.proofs.Clear.{not_both}
use Rattle.carrying.proofs.Carries.{published_ok, finished_ok, carries}
use Rattle.carrying.proofs.carrying.pass_through.Goals as goal

pub returns-in_err-lay_and_publish : goal.returns-in_err-lay_and_publish
returns-in_err-lay_and_publish g c =
    let Q = g.Q.Queue in
    let C = g.C.Class in
    let fit : Sized (asked c.args.request) = search rules in
    let refused = c.in_err-lay_and_publish.ensures in
    record {
      plain_service = λ s. absurd (not_both c.in_err-lay_and_publish.field-0.0 _ (sym refused.answer)
          (published_ok Q.sound Q.ops Q.laws C.kind g.met.C.Class.lawful c.args.tag (asked c.args.request) fit c.args.queue.now s c.args.cell.now c.args.store.now c.requires));
    }

pub returns-in_err-take_and_serve : goal.returns-in_err-take_and_serve
returns-in_err-take_and_serve g c =
    let Q = g.Q.Queue in
    let C = g.C.Class in
    let fit : Sized (asked c.args.request) = search rules in
    let laying = c.lay_and_publish.ensures in
    let refused = c.in_err-take_and_serve.ensures in
    record {
      plain_service = λ s. absurd (not_both c.in_err-take_and_serve.field-0.0 _ refl
          (finished_ok Q.sound Q.ops Q.laws C.kind g.met.C.Class.lawful c.args.tag (asked c.args.request) fit c.args.queue.now s c.args.cell.now c.args.store.now c.requires
          _ _ _ _ _ _ laying.later_queue laying.later_cell refused.serves_what_is_taken));
    }

pub returns : goal.returns
returns g c =
    let Q = g.Q.Queue in
    let C = g.C.Class in
    let fit : Sized (asked c.args.request) = search rules in
    let laying = c.lay_and_publish.ensures in
    let serving = c.take_and_serve.ensures in
    let telling = c.collect_reply.ensures in
    record {
      plain_service = λ s. carries Q.sound Q.ops Q.laws C.kind g.met.C.Class.lawful c.args.tag (asked c.args.request) fit c.args.queue.now s c.args.cell.now c.args.store.now c.requires
          _ _ _ _ _ _ laying.later_queue laying.later_cell serving.serves_what_is_taken _ _ telling.later_queue telling.tells_what_is_collected;
    }
