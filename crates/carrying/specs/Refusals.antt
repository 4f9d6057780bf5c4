-- When carrying a request over a queue is refused, and by which number. Assumes nothing.
use Rattle.std.specs.Prelude.{ℕ, Bool, ◌||◌, List, Option, nat_lt}
use Rattle.entries.specs.declared.refusals.Refusal.{Refusal}
use Rattle.class.specs.Refusals.{way_refusal}
use Rattle.class.specs.Kinds.{Asked, Kind}
use Rattle.queue.specs.declared.values.Stage.TheVariants.{Out, Held, Back}
use Rattle.queue.specs.Laws.{Ops}

-- whether one of three lists has any entry, by how many each has
abbrev pub any : ℕ → ℕ → ℕ → Bool
any out held back = nat_lt 0 out || (nat_lt 0 held || nat_lt 0 back)

-- by the queue's capacity and the entries in its three lists, the class's longest chain and least store, the class's judgement
-- of the request, the tag, and the bytes lent as cell and store
abbrev pub carry_refusal : ℕ → ℕ → ℕ → ℕ → ℕ → ℕ → Bool → ℕ → List ℕ → List ℕ → Option Refusal
carry_refusal capacity out held back longest least bad t cell store = way_refusal (nat_lt capacity longest) (any out held back) t bad least cell store

-- the same, as a queue's calls tell its part
abbrev pub holds_any : {Q : Type 0} → Ops Q → Q → Bool
holds_any ops q = any (ops.entries q Out) (ops.entries q Held) (ops.entries q Back)

abbrev pub refusal_for : {Q : Type 0} → Ops Q → Kind → Q → ℕ → Asked → List ℕ → List ℕ → Option Refusal
refusal_for ops kind q t r cell store =
    carry_refusal (ops.capacity q) (ops.entries q Out) (ops.entries q Held) (ops.entries q Back) kind.longest kind.least (kind.refuses r) t cell store
