-- A chain of descriptors: how an entry is laid in it, and how it is read back. Assumes nothing.
use Rattle.std.specs.Prelude.{◌≡◌, ℕ, zero, suc, ◌+◌, ◌/◌, ◌%◌, ◌<◌, Bool, true, false, cond, Some, None, Option, List, [], ◌∷◌, ◌==◌, nat_lt}
use Rattle.entries.specs.declared.shapes.Segment.{Segment}
use Rattle.entries.specs.declared.shapes.Entry.{Entry}
use Rattle.entries.specs.Legality.{place, blank}
use Rattle.split_ring.specs.declared.descriptors.Descriptor.{Descriptor}
use Rattle.split_ring.specs.Slots.{descriptor_at, put_descriptor}

-- whether the chain goes on after segment i
abbrev pub more : Entry → ℕ → Bool
more e i = nat_lt (i + 1) e.count

-- the descriptor of a segment, and that of segment i: NEXT is 1, WRITE is 2, and the last has next 0
abbrev pub link_of : Segment → Bool → ℕ → Descriptor
link_of a b n = record {
  start = a.start;
  length = a.length;
  flags = cond a.writable 2 0 + cond b 1 0;
  next = cond b n 0;
}

-- the same, told where the chain goes on, if it does
abbrev pub link_to : Segment → Option ℕ → Descriptor
link_to a None = link_of a false 0
link_to a (Some n) = link_of a true n

abbrev pub link : Entry → ℕ → ℕ → Descriptor
link e i n = link_of (place e i) (more e i) n

-- the first n segments laid in descriptors that go round from d on
unfoldable pub laid : ℕ → List ℕ → ℕ → Entry → ℕ → List ℕ
laid k xs d e zero = xs
laid k xs d e (suc n) = put_descriptor (laid k xs d e n) ((d + n) % k) (link e n ((d + n + 1) % k))

-- the entry's chain starts at descriptor d
abbrev pub ChainLies : (ℕ → Descriptor) → ℕ → ℕ → Entry → Type 0
ChainLies f k d e = (i : ℕ) → i < e.count → f ((d + i) % k) ≡ link e i ((d + i + 1) % k)

-- READING, as anyone does who has the region: from the head on, for as long as NEXT is set, three descriptors at the most
abbrev pub goes_on : Descriptor → Bool
goes_on v = v.flags % 2 == 1

abbrev pub segment_of : Descriptor → Segment
segment_of v = record { start = v.start; length = v.length; writable = (v.flags / 2 % 2 == 1) }

abbrev pub entry_of : ℕ → ℕ → Segment → Segment → Segment → Entry
entry_of tag n a b c = record { tag = tag; count = n; segments = a ∷ b ∷ c ∷ [] }

abbrev pub after_second : List ℕ → ℕ → ℕ → Descriptor → Descriptor → Entry
after_second xs k tag a b = cond (goes_on b)
    (entry_of tag 3 (segment_of a) (segment_of b) (segment_of (descriptor_at xs (b.next % k))))
    (entry_of tag 2 (segment_of a) (segment_of b) blank)

abbrev pub after_first : List ℕ → ℕ → ℕ → Descriptor → Entry
after_first xs k tag a = cond (goes_on a)
    (after_second xs k tag a (descriptor_at xs (a.next % k)))
    (entry_of tag 1 (segment_of a) blank blank)

unfoldable pub chain_read : List ℕ → ℕ → ℕ → ℕ → Entry
chain_read xs k h tag = after_first xs k tag (descriptor_at xs h)
