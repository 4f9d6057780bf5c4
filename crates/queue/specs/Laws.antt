-- What ties a queue to its meaning: the later value of each call by name, and what each of these has to keep.
use Rattle.std.specs.Prelude.{◌≡◌, ℕ, ◌^◌, ◌<◌, Bool, true, Decides, Option, Result}
use Rattle.entries.specs.declared.refusals.Refusal.{Refusal}
use Rattle.entries.specs.declared.shapes.Entry.{Entry}
use Rattle.entries.specs.Refusals.{unless}
use Rattle.entries.specs.Typed.{Typed}
use Rattle.queue.specs.declared.values.Side.{Side}
use Rattle.queue.specs.declared.values.Position.{Position}
use Rattle.queue.specs.declared.values.Stage.{Stage}
use Rattle.queue.specs.declared.values.Finished.{Finished}
use Rattle.queue.specs.Meaning.{Meaning, WellFormed, own_of}
use Rattle.queue.specs.Rules.{oldest, publish_refusal, publishes, takes, finish_refusal, finishes, collects, watches, mark_refusal, Wanted, position_of, entries_of, segments_of}

-- what each call answers, and the queue that it leaves
pub record Ops (Q : Type 0) : Type 0 where
  pub means : Q → Meaning
  pub publish_answer : Q → Entry → Result (Unit {0}) Refusal
  pub published : Q → Entry → Q
  pub take_answer : Q → Option Entry
  pub taken : Q → Q
  pub finish_answer : Q → Result (Unit {0}) Refusal
  pub finished : Q → ℕ → Q
  pub collect_answer : Q → Option Finished
  pub collected : Q → Q
  pub armed : Q → Side → Q
  pub hushed : Q → Side → Q
  -- the watch that arm and hush leave
  pub armed_watch : Q → Side → ℕ → Bool
  pub hushed_watch : Q → Side → ℕ → Bool
  pub wake_answer : Q → Side → ℕ → Result Bool Refusal
  pub capacity : Q → ℕ
  pub modulus : Q → ℕ
  pub position : Q → Position → ℕ
  pub entries : Q → Stage → ℕ
  pub segments : Q → Stage → ℕ

-- the queue that a call leaves means m, and keeps its meaning on
pub record Leaves {Q : Type 0} (sound : Q → Type 0) (means : Q → Meaning) (after : Q) (m : Meaning) : Type 0 where
  pub meaning : means after ≡ m
  pub still_sound : sound after

pub record Laws {Q : Type 0} (sound : Q → Type 0) (ops : Ops Q) : Type 0 where
  pub well_formed : (q : Q) → sound q → WellFormed (ops.means q)
  pub publish_answers : (q : Q) (e : Entry) → sound q → ops.publish_answer q e ≡ unless (publish_refusal (ops.means q) e) tt
  pub publish_leaves : (q : Q) (e : Entry) → sound q → Typed e → Leaves sound ops.means (ops.published q e) (publishes (ops.means q) e)
  pub take_answers : (q : Q) → sound q → ops.take_answer q ≡ oldest (ops.means q).out
  pub take_leaves : (q : Q) → sound q → Leaves sound ops.means (ops.taken q) (takes (ops.means q).out (ops.means q))
  pub finish_answers : (q : Q) → sound q → ops.finish_answer q ≡ unless (finish_refusal (ops.means q).held) tt
  pub finish_leaves : (q : Q) (n : ℕ) → sound q → n < 2 ^ 32 → Leaves sound ops.means (ops.finished q n) (finishes (ops.means q).held (ops.means q) n)
  pub collect_answers : (q : Q) → sound q → ops.collect_answer q ≡ oldest (ops.means q).back
  pub collect_leaves : (q : Q) → sound q → Leaves sound ops.means (ops.collected q) (collects (ops.means q).back (ops.means q))
  -- arm leaves the side's own position watched; of what hush leaves watched nothing is promised
  pub arm_leaves : (q : Q) (s : Side) → sound q → Leaves sound ops.means (ops.armed q s) (watches (ops.means q) s (ops.armed_watch q s))
  pub arm_watches_own : (q : Q) (s : Side) → sound q → ops.armed_watch q s (own_of (ops.means q) s) ≡ true
  pub hush_leaves : (q : Q) (s : Side) → sound q → Leaves sound ops.means (ops.hushed q s) (watches (ops.means q) s (ops.hushed_watch q s))
  pub wake_answers : (q : Q) (s : Side) (mark : ℕ) → sound q
      → (yes_or_no : Bool) × (ops.wake_answer q s mark ≡ unless (mark_refusal (ops.means q) mark) yes_or_no) × (mark < (ops.means q).modulus → Decides yes_or_no (Wanted (ops.means q) s mark))
  pub reads_capacity : (q : Q) → sound q → ops.capacity q ≡ (ops.means q).capacity
  pub reads_modulus : (q : Q) → sound q → ops.modulus q ≡ (ops.means q).modulus
  pub reads_position : (q : Q) (p : Position) → sound q → ops.position q p ≡ position_of (ops.means q) p
  pub reads_entries : (q : Q) (s : Stage) → sound q → ops.entries q s ≡ entries_of (ops.means q) s
  pub reads_segments : (q : Q) (s : Stage) → sound q → ops.segments q s ≡ segments_of (ops.means q) s
