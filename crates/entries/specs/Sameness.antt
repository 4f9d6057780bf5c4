-- When two entries are the same, place by place. Assumes nothing.
use Rattle.std.specs.Prelude.{◌≡◌, ℕ, ◌<◌, Bool, cond, not, ◌&&◌, ◌==◌}
use Rattle.entries.specs.Legality.{place}
use Rattle.entries.specs.declared.shapes.Segment.{Segment}
use Rattle.entries.specs.declared.shapes.Entry.{Entry}

abbrev pub agree : Bool → Bool → Bool
agree a b = cond a b (not b)

abbrev pub same_segment : Segment → Segment → Bool
same_segment s t = s.start == t.start && (s.length == t.length && agree s.writable t.writable)

abbrev pub same_places : Entry → Entry → Bool
same_places d e = same_segment (place d 0) (place e 0) && (same_segment (place d 1) (place e 1) && same_segment (place d 2) (place e 2))

abbrev pub same : Entry → Entry → Bool
same d e = d.tag == e.tag && (d.count == e.count && same_places d e)

-- the same in the words of the subject
pub record Same (d e : Entry) : Type 0 where
  pub same_tag : d.tag ≡ e.tag
  pub same_count : d.count ≡ e.count
  pub each_place : (i : ℕ) → i < 3 → place d i ≡ place e i
