-- Where the suppression words lie, and what the types say of each segment.
use Rattle.std.proofs.Common.{ℕ, zero, suc, ◌+◌, ◌<◌, ◌≤◌, Bool, true, false, ◌⊎◌, inl, inr, arith}
use Rattle.entries.specs.declared.shapes.Entry.{Entry}
use Rattle.entries.specs.Legality.{place}
use Rattle.entries.specs.Typed.{Typed, TypedSegment}
use Rattle.queue.specs.declared.values.Side.{Side}
use Rattle.queue.specs.declared.values.Side.TheVariants.{Driver, Device}
use Rattle.split_ring.specs.Slots.{driver_area, index_place, used_event_place, used_index_place, available_event_place, region_size, watch_place}

-- where the suppression words lie: beside the rings and their indexes
pub record Aside (k p : ℕ) : Type 0 where
  pub behind : driver_area k ≤ p
  pub by_index : (p + 2 ≤ index_place k) ⊎ (used_event_place k ≤ p)
  pub by_used : (p + 2 ≤ used_index_place k) ⊎ (available_event_place k ≤ p)
  pub inside : p + 2 ≤ region_size k

pub aside : (b : Bool) (s : Side) (k : ℕ) → Aside k (watch_place b s k)
aside true Driver k = record { behind = omega arith; by_index = inr (omega arith); by_used = inl (omega arith); inside = omega arith }
aside true Device k = record { behind = omega arith; by_index = inr (omega arith); by_used = inr (omega arith); inside = omega arith }
aside false Driver k = record { behind = omega arith; by_index = inl (omega arith); by_used = inl (omega arith); inside = omega arith }
aside false Device k = record { behind = omega arith; by_index = inr (omega arith); by_used = inl (omega arith); inside = omega arith }

pub typed_place : (e : Entry) → Typed e → e.count ≤ 3 → (i : ℕ) → i < e.count → TypedSegment (place e i)
typed_place e t few i h = at i (omega arith)
  where
    at : (i : ℕ) → i < 3 → TypedSegment (place e i)
    at zero h = t.first
    at (suc zero) h = t.second
    at (suc (suc zero)) h = t.third
    at (suc (suc (suc n))) h = absurd (omega arith)
