-- What a queue means, whatever its layout. Assumes nothing.
use Rattle.std.specs.Prelude.{◌≡◌, ℕ, ◌+◌, ◌-◌, ◌%◌, ◌<◌, ◌≤◌, Bool, true, List, [], ◌∷◌}
use Rattle.entries.specs.declared.shapes.Entry.{Entry}
use Rattle.entries.specs.Legality.{legal}
use Rattle.queue.specs.declared.values.Side.{Side}
use Rattle.queue.specs.declared.values.Side.TheVariants.{Driver, Device}
use Rattle.queue.specs.declared.values.Finished.{Finished}

pub record Meaning : Type 0 where
  -- the most segments that the three lists may have, and the number below which positions count round
  pub capacity : ℕ
  pub modulus : ℕ
  -- how many positions an entry takes up
  pub span : Entry → ℕ
  -- published and not taken; taken and not finished; finished and not collected: each the oldest first
  pub out : List Entry
  pub held : List Entry
  pub back : List Finished
  -- how far each of the four has come
  pub published : ℕ
  pub taken : ℕ
  pub finished : ℕ
  pub collected : ℕ
  -- the positions at which a side wants to be woken
  pub watch : Side → ℕ → Bool

-- the same queue with other lists, at other positions, or with other watches
abbrev pub with_lists : List Entry → List Entry → List Finished → Meaning → Meaning
with_lists out held back m = record m { out = out; held = held; back = back }

abbrev pub at_positions : ℕ → ℕ → ℕ → ℕ → Meaning → Meaning
at_positions published taken finished collected m = record m { published = published; taken = taken; finished = finished; collected = collected }

abbrev pub with_watch : (Side → ℕ → Bool) → Meaning → Meaning
with_watch watch m = record m { watch = watch }

-- a queue over which nothing has gone yet
abbrev pub untouched : ℕ → ℕ → (Entry → ℕ) → (Side → ℕ → Bool) → Meaning
untouched capacity modulus span watch = record {
  capacity = capacity;
  modulus = modulus;
  span = span;
  out = [];
  held = [];
  back = [];
  published = 0;
  taken = 0;
  finished = 0;
  collected = 0;
  watch = watch;
}

abbrev pub total : {X : Type 0} → (X → ℕ) → List X → ℕ
total size [] = 0
total size (x ∷ xs) = size x + total size xs

abbrev pub All : {X : Type 0} → (X → Type 0) → List X → Type 0
All P [] = Unit {0}
All P (x ∷ xs) = P x × All P xs

abbrev pub count_of : Entry → ℕ
count_of e = e.count

abbrev pub back_count : Finished → ℕ
back_count f = f.count

abbrev pub back_span : Finished → ℕ
back_span f = f.span

-- the segments in the three lists, and those that are free
abbrev pub in_use : Meaning → ℕ
in_use m = total back_count m.back + (total count_of m.held + total count_of m.out)

abbrev pub free : Meaning → ℕ
free m = m.capacity - in_use m

-- how far a side itself has come, and how far the other has come with what this side is to see
abbrev pub own_of : Meaning → Side → ℕ
own_of m Driver = m.collected
own_of m Device = m.taken

abbrev pub now_of : Meaning → Side → ℕ
now_of m Driver = m.finished
now_of m Device = m.published

-- how many positions lie between the two
abbrev pub unseen : Meaning → Side → ℕ
unseen m Driver = total back_span m.back
unseen m Device = total m.span m.out

abbrev pub Spans : (Entry → ℕ) → Entry → Type 0
Spans span e = (legal e ≡ true) × (1 ≤ span e) × (span e ≤ e.count)

abbrev pub SpansBack : Finished → Type 0
SpansBack f = (1 ≤ f.span) × (f.span ≤ f.count)

-- what every queue's meaning is like
pub record WellFormed (m : Meaning) : Type 0 where
  pub modulus_above_capacity : m.capacity < m.modulus
  pub within_capacity : in_use m ≤ m.capacity
  pub spans : (e : Entry) → legal e ≡ true → (1 ≤ m.span e) × (m.span e ≤ e.count)
  pub out_legal : All (Spans m.span) m.out
  pub held_legal : All (Spans m.span) m.held
  pub back_spans : All SpansBack m.back
  -- the positions are below the modulus, and the lists lie between them
  pub collected_below : m.collected < m.modulus
  pub finished_is : m.finished ≡ (m.collected + total back_span m.back) % m.modulus
  pub taken_is : m.taken ≡ (m.finished + total m.span m.held) % m.modulus
  pub published_is : m.published ≡ (m.taken + total m.span m.out) % m.modulus
