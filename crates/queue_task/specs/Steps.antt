-- What the program's steps promise. Assumes nothing.
use Rattle.std.specs.Prelude.{ℕ, List, Result}
use Rattle.entries.specs.declared.refusals.Refusal.{Refusal}
use Rattle.class.specs.declared.requests.Reply.{Reply}
use Rattle.class.specs.Kinds.{Asked, Kind}
use Rattle.queue.specs.Laws.{Ops}
use Rattle.carrying.specs.Laws.{Carries}

-- a request was carried over the queue, whatever the line that was printed says
abbrev pub Stepped : {Q : Type 0} → (Q → Type 0) → Ops Q → Kind → ℕ → Asked → Q → List ℕ → List ℕ → Q → List ℕ → List ℕ → Type 0
Stepped sound ops kind t r q cell store q_then cell_then store_then = (given : Result Reply Refusal) × Carries sound ops kind t r q cell store given q_then cell_then store_then
