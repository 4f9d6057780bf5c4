-- What carrying a request promises, for every queue and every class.
use Rattle.std.specs.Prelude.{◌≡◌, ℕ, false, List, is_ok, Some, Err, Option, Result}
use Rattle.entries.specs.declared.refusals.Refusal.{Refusal}
use Rattle.entries.specs.Refusals.{kept}
use Rattle.class.specs.declared.requests.Reply.{Reply}
use Rattle.class.specs.Kinds.{Asked, Kind}
use Rattle.class.specs.Laws.{CarriesBy}
use Rattle.queue.specs.Laws.{Ops, Leaves}
use Rattle.carrying.specs.Refusals.{refusal_for}
use Rattle.carrying.specs.Rules.{passed, moved_on}

-- refused by the number n, with everything as it was
pub record Refused {Q : Type 0} (n : Refusal) (q : Q) (cell store : List ℕ) (given : Result Reply Refusal) (q_then : Q) (cell_then store_then : List ℕ) : Type 0 where
  pub by_number : given ≡ Err n
  pub queue_stays : q_then ≡ q
  pub cell_stays : cell_then ≡ cell
  pub store_stays : store_then ≡ store

abbrev pub RefusedAtOnce : {Q : Type 0} → Option Refusal → Q → List ℕ → List ℕ → Result Reply Refusal → Q → List ℕ → List ℕ → Type 0
RefusedAtOnce refusal q cell store given q_then cell_then store_then = (n : Refusal) → refusal ≡ Some n → Refused n q cell store given q_then cell_then store_then

-- of a queue that keeps its meaning
pub record Carries {Q : Type 0} (sound : Q → Type 0) (ops : Ops Q) (kind : Kind) (t : ℕ) (r : Asked) (q : Q) (cell store : List ℕ) (given : Result Reply Refusal) (q_then : Q) (cell_then store_then : List ℕ) : Type 0 where
  -- the reply, the cell and the store are the plain service's; a refusal is the smallest number that fits, and leaves the queue
  pub by_the_service : CarriesBy (refusal_for ops kind q t r cell store) kind t r cell store given cell_then store_then
  pub refusal_leaves_queue : is_ok given ≡ false → q_then ≡ q
  -- the queue is what publish, take, finish and collect leave, one after the other; it keeps its meaning, and is idle again
  pub later_queue : q_then ≡ kept (refusal_for ops kind q t r cell store) q (passed ops q (kind.entry t r) (kind.plain store r).answer.written)
  pub idle_again : Leaves sound ops.means q_then (kept (refusal_for ops kind q t r cell store) (ops.means q) (moved_on (ops.means q) (kind.entry t r)))
