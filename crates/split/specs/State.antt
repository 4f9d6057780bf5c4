-- A split queue is a ring in the region that was lent to it: its calls are the ring's. Assumes nothing.
use Rattle.std.specs.Prelude.{◌≡◌, ℕ, Bool, true, false, cond, List, [], Some, None, Ok, Err, Option, Result, refl}
use Rattle.std.proofs.Common.{sym, ap, ◌∙◌}
use denote.Ref.{MutBor, at_last}
use Rattle.entries.specs.declared.refusals.Refusal.{Refusal}
use Rattle.queue.specs.Meaning.{Meaning}
use Rattle.queue.specs.Laws.{Ops, Leaves, Laws}
use Rattle.split_ring.specs.Cursors.{start}
use Rattle.split_ring.specs.Lent.{serves}
use Rattle.split_ring.specs.Ring.{Ring, alive, means_at, ring_ops}
use Rattle.split_ring.specs.Sound.{ring_sound}
use Rattle.split_ring.proofs.Laws.{ring_laws}
use Rattle.split.specs.declared.state.Serving.{Serving}
use Rattle.split.specs.declared.state.State.{State}
use Rattle.split.specs.declared.state.State.TheVariants.{Live, Idle}
use Rattle.split.specs.declared.state.Split.{Split}

-- the ring of a queue whose region serves it
abbrev pub ring_of : Serving → Ring
ring_of s = record {
  bytes = s.region.bytes.now;
  size = s.region.capacity;
  events = s.events;
  published = s.published;
  taken = s.taken;
  finished = s.finished;
  collected = s.collected;
  chains = s.chains;
}

-- of any other the ring is not alive, and nothing has ever moved in it
abbrev pub idle : List ℕ → Ring
idle xs = record {
  bytes = xs;
  size = 0;
  events = false;
  published = start;
  taken = start;
  finished = start;
  collected = start;
  chains = [];
}

abbrev pub ring_in : State → Ring
ring_in (Live s) = ring_of s
ring_in (Idle r) = idle r.now

abbrev pub ring : Split → Ring
ring q = ring_in q.state

-- the queue in whose region and numbers the ring r now is, by the bytes that were lent
abbrev pub served_in : MutBor (List ℕ) → Ring → Serving
served_in b r = record {
  region = record { bytes = at_last b r.bytes; capacity = r.size };
  events = r.events;
  published = r.published;
  taken = r.taken;
  finished = r.finished;
  collected = r.collected;
  chains = r.chains;
}

abbrev pub serving : Serving → Ring → Serving
serving s r = served_in s.region.bytes r

-- where nothing was served, a ring that is not alive leaves it so
abbrev pub state_holding : State → Ring → State
state_holding (Live s) r = Live (serving s r)
state_holding (Idle b) r = cond (alive r) (Live (served_in b r)) (Idle (at_last b r.bytes))

abbrev pub holding : Split → Ring → Split
holding q r = record { state = state_holding q.state r }

-- the region that was lent
abbrev pub lent_in : State → MutBor (List ℕ)
lent_in (Live s) = s.region.bytes
lent_in (Idle r) = r

abbrev pub lent_to : Split → MutBor (List ℕ)
lent_to q = lent_in q.state

-- which refusal an answer tells of
abbrev pub Told : Option Refusal → Result (Unit {0}) Refusal → Type 0
Told o (Ok u) = o ≡ None
Told o (Err n) = o ≡ Some n

abbrev pub split_sound : Split → Type 0
split_sound q = ring_sound (ring q)

abbrev pub split_ops : Ops Split
split_ops = record {
  means = λ q. ring_ops.means (ring q);
  publish_answer = λ q e. ring_ops.publish_answer (ring q) e;
  published = λ q e. holding q (ring_ops.published (ring q) e);
  take_answer = λ q. ring_ops.take_answer (ring q);
  taken = λ q. holding q (ring_ops.taken (ring q));
  finish_answer = λ q. ring_ops.finish_answer (ring q);
  finished = λ q n. holding q (ring_ops.finished (ring q) n);
  collect_answer = λ q. ring_ops.collect_answer (ring q);
  collected = λ q. holding q (ring_ops.collected (ring q));
  armed = λ q s. holding q (ring_ops.armed (ring q) s);
  hushed = λ q s. holding q (ring_ops.hushed (ring q) s);
  armed_watch = λ q. ring_ops.armed_watch (ring q);
  hushed_watch = λ q. ring_ops.hushed_watch (ring q);
  wake_answer = λ q s mark. ring_ops.wake_answer (ring q) s mark;
  capacity = λ q. ring_ops.capacity (ring q);
  modulus = λ q. ring_ops.modulus (ring q);
  position = λ q p. ring_ops.position (ring q) p;
  entries = λ q s. ring_ops.entries (ring q) s;
  segments = λ q s. ring_ops.segments (ring q) s;
}

-- whatever ring a queue is to hold, it means what the ring means
held_idle : (b : MutBor (List ℕ)) (r : Ring) (m : Meaning) (x : Bool) → alive r ≡ x → Leaves ring_sound ring_ops.means r m
    → Leaves ring_sound ring_ops.means (ring_in (cond x (Live (served_in b r)) (Idle (at_last b r.bytes)))) m
unfolding serves
held_idle b r m true e l = record { meaning = l.meaning; still_sound = l.still_sound }
held_idle b r m false e l = record {
  meaning = ap (λ y. means_at y r) (sym e) ∙ l.meaning;
  still_sound = record { published_none = refl; taken_none = refl; finished_none = refl; collected_none = refl };
}

held_in : (t : State) (r : Ring) (m : Meaning) → Leaves ring_sound ring_ops.means r m → Leaves ring_sound ring_ops.means (ring_in (state_holding t r)) m
held_in (Live s) r m l = record { meaning = l.meaning; still_sound = l.still_sound }
held_in (Idle b) r m l = held_idle b r m (alive r) refl l

held_by : (q : Split) (r : Ring) (m : Meaning) → Leaves ring_sound ring_ops.means r m → Leaves split_sound split_ops.means (holding q r) m
held_by q r m l = let h = held_in q.state r m l in record { meaning = h.meaning; still_sound = h.still_sound }

pub split_laws : Laws split_sound split_ops
split_laws = record {
  well_formed = λ q s. ring_laws.well_formed (ring q) s;
  publish_answers = λ q e s. ring_laws.publish_answers (ring q) e s;
  publish_leaves = λ q e s t. held_by q _ _ (ring_laws.publish_leaves (ring q) e s t);
  take_answers = λ q s. ring_laws.take_answers (ring q) s;
  take_leaves = λ q s. held_by q _ _ (ring_laws.take_leaves (ring q) s);
  finish_answers = λ q s. ring_laws.finish_answers (ring q) s;
  finish_leaves = λ q n s small. held_by q _ _ (ring_laws.finish_leaves (ring q) n s small);
  collect_answers = λ q s. ring_laws.collect_answers (ring q) s;
  collect_leaves = λ q s. held_by q _ _ (ring_laws.collect_leaves (ring q) s);
  arm_leaves = λ q g s. held_by q _ _ (ring_laws.arm_leaves (ring q) g s);
  arm_watches_own = λ q g s. ring_laws.arm_watches_own (ring q) g s;
  hush_leaves = λ q g s. held_by q _ _ (ring_laws.hush_leaves (ring q) g s);
  wake_answers = λ q g mark s. ring_laws.wake_answers (ring q) g mark s;
  reads_capacity = λ q s. ring_laws.reads_capacity (ring q) s;
  reads_modulus = λ q s. ring_laws.reads_modulus (ring q) s;
  reads_position = λ q p s. ring_laws.reads_position (ring q) p s;
  reads_entries = λ q g s. ring_laws.reads_entries (ring q) g s;
  reads_segments = λ q g s. ring_laws.reads_segments (ring q) g s;
}
