-- Making a split queue: what is written, and what the queue then means. Assumes nothing.
use Rattle.std.specs.Prelude.{ℕ, Bool, true, false, cond, ◌&&◌, List, replicate, Ok, Err, Result}
use denote.Ref.{MutBor, at_last}
use Rattle.regions.specs.declared.making.Map.{Map}
use Rattle.regions.specs.Making.{fits, prepared}
use Rattle.bringup.specs.declared.modes.Layout.{Layout}
use Rattle.bringup.specs.declared.modes.Layout.TheVariants.{Split, Packed}
use Rattle.bringup.specs.declared.modes.Mode.{Mode}
use Rattle.bringup.specs.declared.states.Sized.{Sized}
use Rattle.bringup.specs.Modes.{mode_number}
use Rattle.bringup.specs.Capacities.{is_split_size}
use Rattle.queue.specs.Meaning.{Meaning, untouched}
use Rattle.split_ring.specs.Cursors.{modulus, start}
use Rattle.split_ring.specs.Slots.{driver_area, device_area, region_size}
use Rattle.split_ring.specs.declared.region.Region.{Region}
use Rattle.split_ring.specs.Ring.{no_chain, one, watch_by, nothing}
use Rattle.split.specs.declared.state.Serving.{Serving}
use Rattle.split.specs.declared.state.State.{State}
use Rattle.split.specs.declared.state.State.TheVariants.{Live, Idle}
use Rattle.split.specs.declared.state.Split.{Split as Queue}

abbrev pub split_map : Mode → ℕ → Map
split_map mode k = record { mode = mode_number mode; capacity = k; driver_at = driver_area k; device_at = device_area k; total = region_size k }

-- a bring-up for this layout: modes 0 and 1, and a capacity that a split queue may have
abbrev pub is_split : Layout → Bool
is_split Split = true
is_split Packed = false

abbrev pub for_split : Mode → ℕ → Bool
for_split mode k = is_split mode.layout && is_split_size k

-- what is lent has to be long enough besides
abbrev pub suits : List ℕ → Mode → ℕ → Bool
suits xs mode k = for_split mode k && fits (split_map mode k) xs

abbrev pub made_bytes : List ℕ → Mode → ℕ → List ℕ
made_bytes xs mode k = cond (for_split mode k) (prepared (split_map mode k) xs) xs

-- the region as it is laid out, or as it was where something does not suit
abbrev pub laid_out : MutBor (List ℕ) → Mode → ℕ → Result Region (MutBor (List ℕ))
laid_out r mode k =
    let later = at_last r (made_bytes r.now mode k) in
    cond (suits r.now mode k) (Ok (record { bytes = later; capacity = k })) (Err later)

abbrev pub started : Region → Bool → Serving
started region events = record {
  region = region;
  events = events;
  published = start;
  taken = start;
  finished = start;
  collected = start;
  chains = replicate 1024 no_chain;
}

abbrev pub state_of : Bool → Result Region (MutBor (List ℕ)) → State
state_of events (Ok region) = Live (started region events)
state_of events (Err bytes) = Idle bytes

abbrev pub made : MutBor (List ℕ) → Sized → Queue
made r s = record { state = state_of s.mode.events (laid_out r s.mode s.capacity) }

-- nothing in the lists, every position 0, and both sides watching by a word of 0: position 0, or with flags every position
abbrev pub fresh : ℕ → Bool → Meaning
fresh k events = untouched k modulus one (λ s. watch_by events 0)

abbrev pub made_meaning : List ℕ → Sized → Meaning
made_meaning xs s = cond (suits xs s.mode s.capacity) (fresh s.capacity s.mode.events) nothing
