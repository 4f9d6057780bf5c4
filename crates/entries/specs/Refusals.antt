-- The number of each refusal, and how one is chosen. Assumes nothing.
use Rattle.std.specs.Prelude.{ℕ, Bool, cond, Some, None, Ok, Err, Option, Result}
use Rattle.entries.specs.declared.refusals.Refusal.{Refusal}
use Rattle.entries.specs.declared.refusals.Refusal.TheVariants.{Features, Capacity, GroupSize, CellSize, StoreSize, BadRequest, BadEntry, QueueInUse, BadMark, NoRoom, NothingHeld}

abbrev pub number : Refusal → ℕ
number Features = 1
number Capacity = 2
number GroupSize = 3
number CellSize = 4
number StoreSize = 5
number BadRequest = 6
number BadEntry = 8
number QueueInUse = 9
number BadMark = 10
number NoRoom = 22
number NothingHeld = 23

-- a line of a table of refusals: this one where it fits, else what the lines below give
abbrev pub refuse : Refusal → Bool → Option Refusal → Option Refusal
refuse n fits below = cond fits (Some n) below

-- a call's answer: the refusal, or else what it gives
abbrev pub unless : {A : Type 0} → Option Refusal → A → Result A Refusal
unless None given = Ok given
unless (Some n) given = Err n

-- what was lent to a call, afterwards: as it was under a refusal, or else as the call leaves it
abbrev pub kept : {A : Type 0} → Option Refusal → A → A → A
kept None before after = after
kept (Some n) before after = before
