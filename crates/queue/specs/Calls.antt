-- Lists of calls on a queue, what comes of them, and two laws over every such list: first in, first out, and no wake-up lost.
use Rattle.std.specs.Prelude.{◌≡◌, ℕ, ◌^◌, ◌<◌, ◌≤◌, Bool, true, List, [], ◌∷◌, ◌++◌, length, Some, None, Ok, Err, Option, Result, nat_lt}
use Rattle.entries.specs.declared.refusals.Refusal.{Refusal}
use Rattle.entries.specs.declared.shapes.Entry.{Entry}
use Rattle.entries.specs.Typed.{Typed}
use Rattle.queue.specs.declared.calls.Call.{Call}
use Rattle.queue.specs.declared.calls.Call.TheVariants.{Publish, Take, Finish, Collect, Arm, Hush}
use Rattle.queue.specs.declared.calls.Outcome.{Outcome}
use Rattle.queue.specs.declared.calls.Outcome.TheVariants.{Published, Took, Ended, Collected, Watching}
use Rattle.queue.specs.declared.values.Side.{Side}
use Rattle.queue.specs.declared.values.Side.TheVariants.{Driver, Device}
use Rattle.queue.specs.declared.values.Stage.{Stage}
use Rattle.queue.specs.declared.values.Stage.TheVariants.{Out, Back}
use Rattle.queue.specs.declared.values.Finished.{Finished}
use Rattle.queue.specs.Meaning.{Meaning, All, now_of, unseen}
use Rattle.queue.specs.Rules.{finished_of}
use Rattle.queue.specs.Laws.{Ops}

module _ {Q : Type 0} (ops : Ops Q) where
  abbrev pub outcome : Q → Call → Outcome
  outcome q (Publish e) = Published (ops.publish_answer q e)
  outcome q Take = Took (ops.take_answer q)
  outcome q (Finish n) = Ended (ops.finish_answer q)
  outcome q Collect = Collected (ops.collect_answer q)
  outcome q (Arm s) = Watching
  outcome q (Hush s) = Watching

  abbrev pub after : Q → Call → Q
  after q (Publish e) = ops.published q e
  after q Take = ops.taken q
  after q (Finish n) = ops.finished q n
  after q Collect = ops.collected q
  after q (Arm s) = ops.armed q s
  after q (Hush s) = ops.hushed q s

  -- the queue after a list of calls
  abbrev pub after_all : Q → List Call → Q
  after_all q [] = q
  after_all q (c ∷ cs) = after_all (after q c) cs

-- the list that a side is to see, and whether there is anything in it
abbrev pub inbox : Side → Stage
inbox Driver = Back
inbox Device = Out

abbrev pub work_in : {Q : Type 0} → Ops Q → Q → Side → Bool
work_in ops q s = nat_lt 0 (ops.entries q (inbox s))

-- numbers of a call that fit their types
abbrev pub TypedCall : Call → Type 0
TypedCall (Publish e) = Typed e
TypedCall Take = Unit {0}
TypedCall (Finish n) = n < 2 ^ 32
TypedCall Collect = Unit {0}
TypedCall (Arm s) = Unit {0}
TypedCall (Hush s) = Unit {0}

-- FIRST IN, FIRST OUT. What an answer lets through: one where a call was accepted, or where it found something
abbrev pub if_ok : {X : Type 0} → Result (Unit {0}) Refusal → X → List X
if_ok (Ok u) x = x ∷ []
if_ok (Err n) x = []

abbrev pub if_found : {X : Type 0} → Option X → List X
if_found None = []
if_found (Some x) = x ∷ []

-- from the calls and their answers alone: the entries that publish accepted, those that take gave, the written lengths that
-- finish accepted, and what collect gave
module _ {Q : Type 0} (ops : Ops Q) where
  abbrev pub entered : Q → Call → List Entry
  entered q (Publish e) = if_ok (ops.publish_answer q e) e
  entered q Take = []
  entered q (Finish n) = []
  entered q Collect = []
  entered q (Arm s) = []
  entered q (Hush s) = []

  abbrev pub handed : Q → Call → List Entry
  handed q (Publish e) = []
  handed q Take = if_found (ops.take_answer q)
  handed q (Finish n) = []
  handed q Collect = []
  handed q (Arm s) = []
  handed q (Hush s) = []

  abbrev pub told : Q → Call → List ℕ
  told q (Publish e) = []
  told q Take = []
  told q (Finish n) = if_ok (ops.finish_answer q) n
  told q Collect = []
  told q (Arm s) = []
  told q (Hush s) = []

  abbrev pub returned : Q → Call → List Finished
  returned q (Publish e) = []
  returned q Take = []
  returned q (Finish n) = []
  returned q Collect = if_found (ops.collect_answer q)
  returned q (Arm s) = []
  returned q (Hush s) = []

  -- one of these over a list of calls
  abbrev pub over : {X : Type 0} → (Q → Call → List X) → Q → List Call → List X
  over each q [] = []
  over each q (c ∷ cs) = each q c ++ over each (after ops q c) cs

-- entries with the written lengths that they were finished with, as long as there are lengths; and the entries left over
abbrev pub finished_with : (Entry → ℕ) → List Entry → List ℕ → List Finished
finished_with span [] ns = []
finished_with span (e ∷ es) [] = []
finished_with span (e ∷ es) (n ∷ ns) = finished_of span e n ∷ finished_with span es ns

abbrev pub left_over : List Entry → List ℕ → List Entry
left_over [] ns = []
left_over (e ∷ es) [] = e ∷ es
left_over (e ∷ es) (n ∷ ns) = left_over es ns

-- from one meaning to a later one: the device was given what was published, in that order; it finished what it was given, in
-- that order; and the driver got that back, in that order, each with its tag, its span, its segment count and the written
-- length that it was finished with
pub record InOrder (m later : Meaning) (published taken : List Entry) (written : List ℕ) (collected : List Finished) : Type 0 where
  pub same_spans : later.span ≡ m.span
  pub taken_in_order : m.out ++ published ≡ taken ++ later.out
  pub none_finished_untaken : length written ≤ length (m.held ++ taken)
  pub finished_in_order : left_over (m.held ++ taken) written ≡ later.held
  pub collected_in_order : m.back ++ finished_with m.span (m.held ++ taken) written ≡ collected ++ later.back

abbrev pub FirstInFirstOut : {Q : Type 0} → Ops Q → Q → Type 0
FirstInFirstOut ops q = (cs : List Call) → All TypedCall cs
    → InOrder (ops.means q) (ops.means (after_all ops q cs)) (over ops (entered ops) q cs) (over ops (handed ops) q cs) (over ops (told ops) q cs) (over ops (returned ops) q cs)

-- NO WAKE-UP LOST. The calls that the other side may make while this one sleeps
abbrev pub Others : Side → Call → Type 0
Others Device (Publish e) = Typed e
Others Device Take = ⊥
Others Device (Finish n) = ⊥
Others Device Collect = Unit {0}
Others Device (Arm Driver) = Unit {0}
Others Device (Arm Device) = ⊥
Others Device (Hush Driver) = Unit {0}
Others Device (Hush Device) = ⊥
Others Driver (Publish e) = ⊥
Others Driver Take = Unit {0}
Others Driver (Finish n) = n < 2 ^ 32
Others Driver Collect = ⊥
Others Driver (Arm Driver) = ⊥
Others Driver (Arm Device) = Unit {0}
Others Driver (Hush Driver) = ⊥
Others Driver (Hush Device) = Unit {0}

-- whatever the other side does from here on: once there is something to see, the question from this moment's position says yes
abbrev pub NoWakeUpLost : {Q : Type 0} → Ops Q → Q → Side → Type 0
NoWakeUpLost ops q s = (cs : List Call) → All (Others s) cs → 0 < unseen (ops.means (after_all ops q cs)) s
    → ops.wake_answer (after_all ops q cs) s (now_of (ops.means q) s) ≡ Ok true
