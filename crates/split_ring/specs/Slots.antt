-- What lies where in a split region of capacity k. Assumes nothing.
use Rattle.std.specs.Prelude.{ℕ, ◌+◌, ◌*◌, ◌%◌, Bool, true, false, List}
use Rattle.words.specs.Numbers.{put, get}
use Rattle.queue.specs.declared.values.Side.{Side}
use Rattle.queue.specs.declared.values.Side.TheVariants.{Driver, Device}
use Rattle.split_ring.specs.declared.descriptors.Descriptor.{Descriptor}
use Rattle.split_ring.specs.declared.rings.UsedElement.{UsedElement}

-- the descriptors
abbrev pub descriptor_place : ℕ → ℕ
descriptor_place j = 16 + 16 * j

-- the driver area: flags, index, heads, used event
abbrev pub driver_area : ℕ → ℕ
driver_area k = 16 + 16 * k

abbrev pub index_place : ℕ → ℕ
index_place k = 18 + 16 * k

abbrev pub head_place : ℕ → ℕ → ℕ
head_place k j = 20 + 16 * k + 2 * j

abbrev pub used_event_place : ℕ → ℕ
used_event_place k = 20 + 18 * k

-- two bytes are left between the areas. The device area: flags, index, used elements, available event
abbrev pub device_area : ℕ → ℕ
device_area k = 24 + 18 * k

abbrev pub used_index_place : ℕ → ℕ
used_index_place k = 26 + 18 * k

abbrev pub used_place : ℕ → ℕ → ℕ
used_place k j = 28 + 18 * k + 8 * j

abbrev pub available_event_place : ℕ → ℕ
available_event_place k = 28 + 26 * k

-- the bytes of the whole region
abbrev pub region_size : ℕ → ℕ
region_size k = 30 + 26 * k

-- reading and writing a descriptor, and a slot of each ring together with the ring's index
abbrev pub descriptor_at : List ℕ → ℕ → Descriptor
descriptor_at xs j = record {
  start = get 8 xs (descriptor_place j);
  length = get 4 xs (descriptor_place j + 8);
  flags = get 2 xs (descriptor_place j + 12);
  next = get 2 xs (descriptor_place j + 14);
}

abbrev pub put_descriptor : List ℕ → ℕ → Descriptor → List ℕ
put_descriptor xs j v =
    put 2 (put 2 (put 4 (put 8 xs (descriptor_place j) v.start) (descriptor_place j + 8) v.length) (descriptor_place j + 12) v.flags) (descriptor_place j + 14) v.next

abbrev pub head_at : ℕ → List ℕ → ℕ → ℕ
head_at k xs j = get 2 xs (head_place k j)

abbrev pub put_head : ℕ → List ℕ → ℕ → ℕ → ℕ → List ℕ
put_head k xs j h i = put 2 (put 2 xs (head_place k j) h) (index_place k) i

abbrev pub used_at : ℕ → List ℕ → ℕ → UsedElement
used_at k xs j = record { head = get 4 xs (used_place k j); written = get 4 xs (used_place k j + 4) }

abbrev pub put_used : ℕ → List ℕ → ℕ → UsedElement → ℕ → List ℕ
put_used k xs j u i = put 2 (put 4 (put 4 xs (used_place k j) u.head) (used_place k j + 4) u.written) (used_index_place k) i

-- where a side tells what it watches: its event in the modes with events, else its flags; each in the side's own area
abbrev pub watch_place : Bool → Side → ℕ → ℕ
watch_place true Driver k = used_event_place k
watch_place true Device k = available_event_place k
watch_place false Driver k = driver_area k
watch_place false Device k = device_area k

abbrev pub watch_word : Bool → Side → ℕ → List ℕ → ℕ
watch_word events s k xs = get 2 xs (watch_place events s k) % 65536
