-- The rings that keep their meaning: what lies where in one.
use Rattle.std.specs.Prelude.{◌≡◌, ℕ, ◌%◌, ◌≤◌, Bool, true, false, List, length}
use Rattle.words.specs.Numbers.{get}
use Rattle.entries.specs.declared.shapes.Entry.{Entry}
use Rattle.entries.specs.Legality.{legal}
use Rattle.entries.specs.Typed.{Typed}
use Rattle.queue.specs.declared.values.Finished.{Finished}
use Rattle.queue.specs.Lists.{Layout, Cuts, Lists}
use Rattle.split_ring.specs.declared.kept.Chain.{Chain}
use Rattle.split_ring.specs.declared.descriptors.Descriptor.{Descriptor}
use Rattle.split_ring.specs.declared.rings.UsedElement.{UsedElement}
use Rattle.split_ring.specs.Cursors.{modulus, start}
use Rattle.split_ring.specs.Lent.{Serves}
use Rattle.split_ring.specs.Slots.{index_place, used_index_place, descriptor_at, head_at, used_at}
use Rattle.split_ring.specs.Chains.{ChainLies}
use Rattle.split_ring.specs.Ring.{Ring, alive, chain_at, meaning}

-- a ring as four rows of slots
pub record View : Type 0 where
  pub descriptor : ℕ → Descriptor
  pub head : ℕ → ℕ
  pub used : ℕ → UsedElement
  pub kept : ℕ → Chain

abbrev pub view : Ring → View
view r = record {
  descriptor = descriptor_at r.bytes;
  head = head_at r.size r.bytes;
  used = used_at r.size r.bytes;
  kept = chain_at r;
}

-- an entry of position p whose chain starts at descriptor d
pub record EntryLies (v : View) (k d p : ℕ) (e : Entry) : Type 0 where
  pub head_is : v.head (p % k) ≡ d % k
  pub tag_is : (v.kept (d % k)).tag ≡ e.tag
  pub count_is : (v.kept (d % k)).count ≡ e.count
  pub is_legal : legal e ≡ true
  pub is_typed : Typed e
  pub chain : ChainLies v.descriptor k d e

pub record FinishedLies (v : View) (k d p : ℕ) (f : Finished) : Type 0 where
  pub used_is : v.used (p % k) ≡ record { head = d % k; written = f.written }
  pub tag_is : (v.kept (d % k)).tag ≡ f.tag
  pub count_is : (v.kept (d % k)).count ≡ f.count
  pub span_is : f.span ≡ 1
  pub some : 1 ≤ f.count

abbrev pub layout : View → ℕ → Layout
layout v k = record { Lies = EntryLies v k; BackLies = FinishedLies v k }

pub record Holds (r : Ring) (back : List Finished) (held out : List Entry) : Type 0 where
  pub cuts : Cuts
  pub lists : Lists (layout (view r) r.size) r.size (meaning r back held out) cuts
  pub collected_from : r.collected.descriptor ≡ cuts.d0 % modulus
  pub finished_from : r.finished.descriptor ≡ cuts.d1 % modulus
  pub taken_from : r.taken.descriptor ≡ cuts.d2 % modulus
  pub published_from : r.published.descriptor ≡ cuts.d3 % modulus
  -- each side's index says how far it has come
  pub index_is : get 2 r.bytes (index_place r.size) ≡ r.published.position
  pub used_index_is : get 2 r.bytes (used_index_place r.size) ≡ r.finished.position

pub record Shape (r : Ring) : Type 0 where
  pub serves : Serves r.size r.bytes
  pub whole : modulus % r.size ≡ 0
  pub chains_long : length r.chains ≡ 1024

-- some lists lie in it
pub record Live (r : Ring) : Type 0 where
  pub shape : Shape r
  pub back : List Finished
  pub held : List Entry
  pub out : List Entry
  pub holds : Holds r back held out

-- nothing has ever moved in it
pub record Idle (r : Ring) : Type 0 where
  pub published_none : r.published ≡ start
  pub taken_none : r.taken ≡ start
  pub finished_none : r.finished ≡ start
  pub collected_none : r.collected ≡ start

abbrev pub sound_at : Bool → Ring → Type 0
sound_at true r = Live r
sound_at false r = Idle r

abbrev pub ring_sound : Ring → Type 0
ring_sound r = sound_at (alive r) r
