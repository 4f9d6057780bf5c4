use Rattle.std.proofs.Common.{◌≡◌, Err, Result, subst, rules}
use Rattle.entries.specs.declared.refusals.Refusal.{Refusal}
use Rattle.class.specs.declared.requests.Reply.{Reply}
use Rattle.class.specs.Kinds.{asked}
use Rattle.class.proofs.Answered as A
use Rattle.carrying.specs.Refusals.{refusal_for}
use Rattle.carrying.specs.Laws.{RefusedAtOnce, Carries}
use Rattle.carrying.proofs.Clear.{at_once, refused}
use Rattle.carrying.proofs.carrying.carry.Goals as goal

pub returns-in_err-check_carry : goal.returns-in_err-check_carry
returns-in_err-check_carry g c =
    let Q = g.Q.Queue in
    let kind = g.C.Class.kind in
    let t = c.args.tag in
    let r = asked c.args.request in
    let q = c.args.queue.now in
    let cell = c.args.cell.now in
    let store = c.args.store.now in
    let o = refusal_for Q.ops kind q t r cell store in
    let n = c.in_err-check_carry.field-0.0 in
    let given : Err n ≡ c.from_residual.result = search rules in
    let met = A.refused o n tt c.in_err-check_carry.ensures.smallest_that_fits in
    record {
      refused_at_once = subst (λ (x : Result Reply Refusal). RefusedAtOnce o q cell store x q cell store) given (at_once o n q cell store met);
      plain_service = λ s. subst (λ (x : Result Reply Refusal). Carries Q.sound Q.ops kind t r q cell store x q cell store) given (refused Q.sound Q.ops kind t r q cell store n met s);
    }
