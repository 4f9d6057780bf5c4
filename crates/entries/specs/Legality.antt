-- When an entry is legal: as a test, and in the words of the subject. Assumes nothing.
use Rattle.std.specs.Prelude.{◌≡◌, ℕ, ◌<◌, ◌≤◌, Bool, true, false, cond, not, ◌&&◌, ◌||◌, ◌==◌, nat_le, nat_lt, slice_index_or}
use Rattle.entries.specs.declared.shapes.Segment.{Segment}
use Rattle.entries.specs.declared.shapes.Entry.{Entry}

-- tags go from 0 to this one
abbrev pub last_tag : ℕ
last_tag = 15

-- what a place holds that no segment uses
abbrev pub blank : Segment
blank = record { start = 0; length = 0; writable = false }

abbrev pub place : Entry → ℕ → Segment
place e i = slice_index_or e.segments i blank

abbrev pub used : Segment → Bool
used s = nat_lt 0 s.length

abbrev pub unused : Segment → Bool
unused s = s.start == 0 && (s.length == 0 && not s.writable)

-- t may come right after s: nothing read-only after something writable
abbrev pub follows : Segment → Segment → Bool
follows s t = not s.writable || t.writable

abbrev pub legal_chain : Entry → Bool
legal_chain e = let a = place e 0 in let b = place e 1 in let c = place e 2 in
    cond (e.count == 1) (used a && (unused b && unused c))
    (cond (e.count == 2) (used a && (used b && (follows a b && unused c)))
    (cond (e.count == 3) (used a && (used b && (used c && (follows a b && follows b c))))
    false))

abbrev pub legal_tag : Entry → Bool
legal_tag e = nat_le e.tag last_tag

abbrev pub legal : Entry → Bool
legal e = legal_tag e && legal_chain e

-- the same in the words of the subject
pub record Legal (e : Entry) : Type 0 where
  pub tag_has_cell : e.tag ≤ last_tag
  pub some_segment : 1 ≤ e.count
  pub at_most_three : e.count ≤ 3
  pub no_length_zero : (i : ℕ) → i < e.count → 0 < (place e i).length
  pub read_only_first : (i j : ℕ) → i < j → j < e.count → (place e i).writable ≡ true → (place e j).writable ≡ true
  pub rest_unused : (i : ℕ) → e.count ≤ i → i < 3 → place e i ≡ blank
