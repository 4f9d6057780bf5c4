-- A queue as it is made is a free way for block requests.
use Rattle.std.proofs.Common.{◌≡◌, ℕ, true, ltb, List, ap, ◌∙◌, arith}
use Rattle.std.proofs.lemmas.Bool.{le-ltb}
use Rattle.bringup.specs.declared.states.Sized.{Sized}
use Rattle.queue.specs.declared.values.Stage.{Stage}
use Rattle.queue.specs.declared.values.Stage.TheVariants.{Out, Held, Back}
use Rattle.queue.specs.Meaning.{Meaning}
use Rattle.queue.specs.Rules.{entries_of}
use Rattle.split.specs.declared.state.Split.{Split}
use Rattle.split.specs.State.{split_sound, split_ops, split_laws}
use Rattle.split.specs.Making.{suits, fresh, made_meaning}
use Rattle.split.proofs.Starting.{made_fresh}
use Rattle.carrying.specs.Refusals.{any, holds_any}
use Rattle.tasks.specs.Steps.{Free}

pub made_free : (xs : List ℕ) (s : Sized) (q : Split) → split_sound q → split_ops.means q ≡ made_meaning xs s → suits xs s.mode s.capacity ≡ true
    → Free (λ n. ltb (split_ops.capacity q) n) (holds_any split_ops q)
made_free xs s q sound means ok =
    let new = fresh s.capacity s.mode.events in
    let here = made_fresh xs s ok in
    let at : split_ops.means q ≡ new = means ∙ here.0 in
    let none : (g : Stage) → split_ops.entries q g ≡ entries_of new g = λ g. split_laws.reads_entries q g sound ∙ ap (λ (m : Meaning). entries_of m g) at in
    let c = split_laws.reads_capacity q sound ∙ ap (λ (m : Meaning). m.capacity) at in
    let least = here.1 in
    record {
      room = le-ltb (split_ops.capacity q) 3 (omega arith);
      idle =
          ap (λ n. any n (split_ops.entries q Held) (split_ops.entries q Back)) (none Out)
          ∙ ap (λ n. any 0 n (split_ops.entries q Back)) (none Held)
          ∙ ap (any 0 0) (none Back);
    }
