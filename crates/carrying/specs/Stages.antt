-- What the stages on the device's side and back give and leave, by what the queue answers them. Assumes nothing.
use Rattle.std.specs.Prelude.{◌≡◌, ℕ, ◌^◌, ◌<◌, List, Some, None, Ok, Result}
use Rattle.entries.specs.declared.refusals.Refusal.{Refusal}
use Rattle.entries.specs.declared.shapes.Entry.{Entry}
use Rattle.class.specs.declared.requests.Reply.{Reply}
use Rattle.class.specs.Refusals.{read_refusal, serve_refusal}
use Rattle.class.specs.Kinds.{Kind}
use Rattle.class.specs.Rules.{effect}
use Rattle.queue.specs.declared.values.Finished.{Finished}
use Rattle.queue.specs.Laws.{Ops}

-- the entry e was taken, served and finished with the length that the device wrote
pub record Serves {Q : Type 0} (ops : Ops Q) (kind : Kind) (e : Entry) (q : Q) (cell store : List ℕ) (given : Result (Unit {0}) Refusal) (q_then : Q) (cell_then store_then : List ℕ) : Type 0 where
  pub small_written : (effect kind e cell store).written < 2 ^ 32
  pub answer : given ≡ ops.finish_answer (ops.taken q)
  pub later_queue : q_then ≡ ops.finished (ops.taken q) (effect kind e cell store).written
  pub later_cell : cell_then ≡ (effect kind e cell store).cell
  pub later_store : store_then ≡ (effect kind e cell store).store

abbrev pub ServesWhatIsTaken : {Q : Type 0} → Ops Q → Kind → Q → List ℕ → List ℕ → Result (Unit {0}) Refusal → Q → List ℕ → List ℕ → Type 0
ServesWhatIsTaken ops kind q cell store given q_then cell_then store_then =
    (e : Entry) → ops.take_answer q ≡ Some e → serve_refusal e.tag kind.least cell store ≡ None → Serves ops kind e q cell store given q_then cell_then store_then

-- the status is the cell's, and the written length is that of the finished entry
abbrev pub TellsWhatIsCollected : {Q : Type 0} → Ops Q → Kind → Q → List ℕ → Result Reply Refusal → Type 0
TellsWhatIsCollected ops kind q cell given =
    (f : Finished) → ops.collect_answer q ≡ Some f → read_refusal cell ≡ None → given ≡ Ok (record { status = kind.status cell; written = f.written })
