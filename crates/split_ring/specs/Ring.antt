-- A split queue as bytes and numbers: what each call answers and leaves, for every state. Assumes nothing.
use Rattle.std.specs.Prelude.{ℕ, ◌-◌, ◌%◌, Bool, true, false, cond, not, ◌&&◌, List, Some, None, Option, ◌==◌, nat_eq, nat_le, nat_lt, slice_index_or, slice_set}
use Rattle.words.specs.Numbers.{get, put}
use Rattle.entries.specs.declared.refusals.Refusal.{Refusal}
use Rattle.entries.specs.declared.refusals.Refusal.TheVariants.{BadEntry, BadMark, NoRoom, NothingHeld}
use Rattle.entries.specs.declared.shapes.Entry.{Entry}
use Rattle.entries.specs.Legality.{legal}
use Rattle.entries.specs.Refusals.{refuse, unless, kept}
use Rattle.positions.specs.Stretch.{ahead, in_stretch}
use Rattle.queue.specs.declared.values.Side.{Side}
use Rattle.queue.specs.declared.values.Position.{Position}
use Rattle.queue.specs.declared.values.Position.TheVariants as P
use Rattle.queue.specs.declared.values.Stage.{Stage}
use Rattle.queue.specs.declared.values.Stage.TheVariants.{Out, Held, Back}
use Rattle.queue.specs.declared.values.Finished.{Finished}
use Rattle.queue.specs.Meaning.{Meaning, untouched, back_span}
use Rattle.queue.specs.Laws.{Ops}
use Rattle.queue.specs.Calls.{inbox}
use Rattle.queue.specs.Lists.{read_off}
use Rattle.split_ring.specs.declared.kept.Chain.{Chain}
use Rattle.split_ring.specs.declared.cursors.Cursor.{Cursor}
use Rattle.split_ring.specs.Cursors.{modulus, moved}
use Rattle.split_ring.specs.Lent.{serves}
use Rattle.split_ring.specs.Slots.{index_place, used_index_place, head_at, put_head, used_at, put_used, watch_place, watch_word}
use Rattle.split_ring.specs.Chains.{laid, chain_read}

pub record Ring : Type 0 where
  pub bytes : List ℕ
  -- the capacity, and whether events are used in the place of flags
  pub size : ℕ
  pub events : Bool
  pub published : Cursor
  pub taken : Cursor
  pub finished : Cursor
  pub collected : Cursor
  -- by the first descriptor of a chain
  pub chains : List Chain

-- the same ring with other bytes, with its cursors elsewhere, or with other chains kept by their first descriptor
abbrev pub with_bytes : List ℕ → Ring → Ring
with_bytes bytes r = record {
  bytes = bytes;
  size = r.size;
  events = r.events;
  published = r.published;
  taken = r.taken;
  finished = r.finished;
  collected = r.collected;
  chains = r.chains;
}

abbrev pub at_cursors : Cursor → Cursor → Cursor → Cursor → Ring → Ring
at_cursors published taken finished collected r = record {
  bytes = r.bytes;
  size = r.size;
  events = r.events;
  published = published;
  taken = taken;
  finished = finished;
  collected = collected;
  chains = r.chains;
}

abbrev pub with_chains : List Chain → Ring → Ring
with_chains chains r = record {
  bytes = r.bytes;
  size = r.size;
  events = r.events;
  published = r.published;
  taken = r.taken;
  finished = r.finished;
  collected = r.collected;
  chains = chains;
}

-- a ring whose numbers its region can serve; any other has capacity 0 and does nothing
abbrev pub alive : Ring → Bool
alive r = serves r.size r.bytes

abbrev pub capacity : Ring → ℕ
capacity r = cond (alive r) r.size 0

abbrev pub modulus_of : Ring → ℕ
modulus_of r = cond (alive r) modulus 1

-- what is kept of the chain that starts at descriptor j
abbrev pub no_chain : Chain
no_chain = record { tag = 0; count = 0 }

abbrev pub chain_at : Ring → ℕ → Chain
chain_at r j = slice_index_or r.chains j no_chain

-- the segments in the three lists
abbrev pub busy : Ring → ℕ
busy r = ahead modulus r.collected.descriptor r.published.descriptor

-- the cursor of a move, and the two that a stage lies between: of the move out of it, and of the move into it
abbrev pub cursor_in : Ring → Position → Cursor
cursor_in r P.Published = r.published
cursor_in r P.Taken = r.taken
cursor_in r P.Finished = r.finished
cursor_in r P.Collected = r.collected

abbrev pub ends : Ring → Stage → Cursor × Cursor
ends r Out = (r.taken, r.published)
ends r Held = (r.finished, r.taken)
ends r Back = (r.collected, r.finished)

-- the slot and the first descriptor of a cursor
abbrev pub slot : Ring → Cursor → ℕ
slot r c = c.position % r.size

abbrev pub first : Ring → Cursor → ℕ
first r c = c.descriptor % r.size

-- PUBLISH: the chain, the head in its slot, and then the index
abbrev pub publish_refused : Ring → Entry → Option Refusal
publish_refused r e =
    refuse BadEntry (not (legal e))
    (refuse NoRoom (nat_lt (capacity r - busy r) e.count)
    None)

abbrev pub with_entry : Ring → Entry → Ring
with_entry r e =
    let d = first r r.published in
    let next = moved r.published e.count in
    with_bytes (put_head r.size (laid r.size r.bytes d e e.count) (slot r r.published) d next.position)
    (with_chains (slice_set r.chains d (record { tag = e.tag; count = e.count }))
    (at_cursors next r.taken r.finished r.collected r))

-- TAKE: something is out when the driver's index has gone past the device's own position. A head is taken below the capacity
abbrev pub has_out : Ring → Bool
has_out r = alive r && not (r.taken.position == get 2 r.bytes (index_place r.size))

abbrev pub head_in : Ring → ℕ → ℕ
head_in r j = head_at r.size r.bytes j % r.size

unfoldable pub entry_in : Ring → ℕ → Entry
entry_in r j = chain_read r.bytes r.size (head_in r j) (chain_at r (head_in r j)).tag

abbrev pub oldest_out : Ring → Entry
oldest_out r = entry_in r (slot r r.taken)

abbrev pub with_taken : Ring → Ring
with_taken r = at_cursors r.published (moved r.taken (oldest_out r).count) r.finished r.collected r

-- FINISH: the used element in its slot, and then the index
abbrev pub has_held : Ring → Bool
has_held r = alive r && not (r.finished.position == r.taken.position)

abbrev pub held_head : Ring → ℕ
held_head r = head_in r (slot r r.finished)

abbrev pub held_count : Ring → ℕ
held_count r = (chain_at r (held_head r)).count

abbrev pub with_finished : Ring → ℕ → Ring
with_finished r n =
    let next = moved r.finished (held_count r) in
    with_bytes (put_used r.size r.bytes (slot r r.finished) (record { head = held_head r; written = n }) next.position)
    (at_cursors r.published r.taken next r.collected r)

-- COLLECT: something is back when the device's index has gone past the driver's own position
abbrev pub has_back : Ring → Bool
has_back r = alive r && not (r.collected.position == get 2 r.bytes (used_index_place r.size))

abbrev pub used_head : Ring → ℕ → ℕ
used_head r j = (used_at r.size r.bytes j).head % r.size

unfoldable pub finished_in : Ring → ℕ → Finished
finished_in r j = record {
  tag = (chain_at r (used_head r j)).tag;
  span = 1;
  count = (chain_at r (used_head r j)).count;
  written = (used_at r.size r.bytes j).written;
}

abbrev pub oldest_back : Ring → Finished
oldest_back r = finished_in r (slot r r.collected)

abbrev pub with_collected : Ring → Ring
with_collected r = at_cursors r.published r.taken r.finished (moved r.collected (oldest_back r).count) r

-- ARM and HUSH: with events, arm writes the side's own position and hush nothing; with flags, arm writes 0 and hush 1
abbrev pub own : Ring → Side → ℕ
own r s = (ends r (inbox s)).0.position

abbrev pub with_word : Ring → Side → ℕ → Ring
with_word r s n = with_bytes (put 2 r.bytes (watch_place r.events s r.size) n) r

abbrev pub word : Ring → Side → ℕ
word r s = watch_word r.events s r.size r.bytes

-- a watch, by the word that tells it: the event alone, or with flags every position at 0 and none otherwise
abbrev pub watch_by : Bool → ℕ → ℕ → Bool
watch_by true w p = p == w
watch_by false w p = w == 0

-- THE WAKE-UP QUESTION, by the same word
abbrev pub come : Ring → Side → ℕ
come r s = (ends r (inbox s)).1.position

abbrev pub rings_at : Bool → ℕ → ℕ → ℕ → Bool
rings_at true w mark to = in_stretch modulus mark to w
rings_at false w mark to = w == 0 && not (mark == to)

-- WHAT CAN BE READ
abbrev pub position_in : Ring → Position → ℕ
position_in r p = (cursor_in r p).position

abbrev pub entries_in : Ring → Stage → ℕ
entries_in r s = let e = ends r s in ahead modulus e.0.position e.1.position

abbrev pub segments_in : Ring → Stage → ℕ
segments_in r s = let e = ends r s in ahead modulus e.0.descriptor e.1.descriptor

-- WHAT IT MEANS: the lists are read off the region, between the positions
abbrev pub one : {X : Type 0} → X → ℕ
one x = 1

abbrev pub outs : Ring → List Entry
outs r = read_off one (λ p. entry_in r (p % r.size)) (entries_in r Out) r.taken.position

abbrev pub helds : Ring → List Entry
helds r = read_off one (λ p. entry_in r (p % r.size)) (entries_in r Held) r.finished.position

abbrev pub backs : Ring → List Finished
backs r = read_off back_span (λ p. finished_in r (p % r.size)) (entries_in r Back) r.collected.position

abbrev pub meaning : Ring → List Finished → List Entry → List Entry → Meaning
meaning r back held out = record {
  capacity = r.size;
  modulus = modulus;
  span = one;
  out = out;
  held = held;
  back = back;
  published = r.published.position;
  taken = r.taken.position;
  finished = r.finished.position;
  collected = r.collected.position;
  watch = λ s. watch_by r.events (word r s);
}

-- capacity 0, modulus 1, and watches that hold 0
abbrev pub nothing : Meaning
nothing = untouched 0 1 one (λ s p. nat_eq p 0)

abbrev pub means_at : Bool → Ring → Meaning
means_at true r = meaning r (backs r) (helds r) (outs r)
means_at false r = nothing

abbrev pub armed_watch_at : Bool → Ring → Side → ℕ → Bool
armed_watch_at true r s p = cond r.events (p == own r s) true
armed_watch_at false r s p = p == 0

abbrev pub hushed_watch_at : Bool → Ring → Side → ℕ → Bool
hushed_watch_at true r s p = cond r.events (watch_by r.events (word r s) p) false
hushed_watch_at false r s p = p == 0

abbrev pub ring_ops : Ops Ring
ring_ops = record {
  means = λ r. means_at (alive r) r;
  publish_answer = λ r e. unless (publish_refused r e) tt;
  published = λ r e. kept (publish_refused r e) r (with_entry r e);
  take_answer = λ r. cond (has_out r) (Some (oldest_out r)) None;
  taken = λ r. cond (has_out r) (with_taken r) r;
  finish_answer = λ r. unless (refuse NothingHeld (not (has_held r)) None) tt;
  finished = λ r n. cond (has_held r) (with_finished r n) r;
  collect_answer = λ r. cond (has_back r) (Some (oldest_back r)) None;
  collected = λ r. cond (has_back r) (with_collected r) r;
  armed = λ r s. cond (alive r) (with_word r s (cond r.events (own r s) 0)) r;
  hushed = λ r s. cond (alive r) (cond r.events r (with_word r s 1)) r;
  armed_watch = λ r. armed_watch_at (alive r) r;
  hushed_watch = λ r. hushed_watch_at (alive r) r;
  wake_answer = λ r s mark. unless (refuse BadMark (nat_le (modulus_of r) mark) None) (alive r && rings_at r.events (word r s) mark (come r s));
  capacity = capacity;
  modulus = modulus_of;
  position = position_in;
  entries = entries_in;
  segments = segments_in;
}
