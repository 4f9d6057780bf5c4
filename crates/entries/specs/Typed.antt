-- What the types of its fields say of an entry: three places, and numbers that fit. Assumes nothing.
use Rattle.std.specs.Prelude.{◌≡◌, ◌^◌, ◌<◌, length}
use Rattle.entries.specs.declared.shapes.Segment.{Segment}
use Rattle.entries.specs.declared.shapes.Entry.{Entry}
use Rattle.entries.specs.Legality.{place}

pub record TypedSegment (s : Segment) : Type 0 where
  pub small_start : s.start < 2 ^ 64
  pub small_length : s.length < 2 ^ 32

pub record Typed (e : Entry) : Type 0 where
  pub three_places : length e.segments ≡ 3
  pub first : TypedSegment (place e 0)
  pub second : TypedSegment (place e 1)
  pub third : TypedSegment (place e 2)
