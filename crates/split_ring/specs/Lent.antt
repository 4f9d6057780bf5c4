-- Bytes that are lent to a queue, and whether they serve its capacity. Assumes nothing.
use Rattle.std.specs.Prelude.{ℕ, ◌≤◌, Bool, ◌&&◌, List, length, nat_le}
use denote.Ref.{at_last}
use Rattle.split_ring.specs.declared.region.Region.{Region}
use Rattle.split_ring.specs.Slots.{region_size}

-- bytes that are enough for a capacity, which a split queue may have
pub record Serves (k : ℕ) (xs : List ℕ) : Type 0 where
  pub least : 4 ≤ k
  pub most : k ≤ 1024
  pub long : region_size k ≤ length xs

-- the same as a test
unfoldable pub serves : ℕ → List ℕ → Bool
serves k xs = nat_le 4 k && (nat_le k 1024 && nat_le (region_size k) (length xs))

-- the region with other bytes
abbrev pub written : Region → List ℕ → Region
written g xs = record { bytes = at_last g.bytes xs; capacity = g.capacity }
