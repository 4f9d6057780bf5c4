-- One for each call: the attribute that names a lemma for all goals does not apply one that gives a record.
use Rattle.queue.proofs.Order.{first_in_first_out}
use Rattle.queue.proofs.calls.perform.Goals as goal

pub returns-in-Publish-clause-first_in_first_out : goal.returns-in-Publish-clause-first_in_first_out
returns-in-Publish-clause-first_in_first_out g c = first_in_first_out g.Q.Queue.sound g.Q.Queue.ops g.Q.Queue.laws c.args.queue.now

pub returns-in-Take-clause-first_in_first_out : goal.returns-in-Take-clause-first_in_first_out
returns-in-Take-clause-first_in_first_out g c = first_in_first_out g.Q.Queue.sound g.Q.Queue.ops g.Q.Queue.laws c.args.queue.now

pub returns-in-Finish-clause-first_in_first_out : goal.returns-in-Finish-clause-first_in_first_out
returns-in-Finish-clause-first_in_first_out g c = first_in_first_out g.Q.Queue.sound g.Q.Queue.ops g.Q.Queue.laws c.args.queue.now

pub returns-in-Collect-clause-first_in_first_out : goal.returns-in-Collect-clause-first_in_first_out
returns-in-Collect-clause-first_in_first_out g c = first_in_first_out g.Q.Queue.sound g.Q.Queue.ops g.Q.Queue.laws c.args.queue.now

pub returns-in-Arm-clause-first_in_first_out : goal.returns-in-Arm-clause-first_in_first_out
returns-in-Arm-clause-first_in_first_out g c = first_in_first_out g.Q.Queue.sound g.Q.Queue.ops g.Q.Queue.laws c.args.queue.now

pub returns-in-Hush-clause-first_in_first_out : goal.returns-in-Hush-clause-first_in_first_out
returns-in-Hush-clause-first_in_first_out g c = first_in_first_out g.Q.Queue.sound g.Q.Queue.ops g.Q.Queue.laws c.args.queue.now
