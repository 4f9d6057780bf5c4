-- Where cells lie, and what lies where in one. Assumes nothing.
use Rattle.std.specs.Prelude.{ℕ, ◌+◌, ◌*◌, Bool, List, length, ◌==◌}
use Rattle.entries.specs.declared.shapes.Segment.{Segment}

-- the bytes of a cell; where its three parts start; and how long they are, the status being one byte
abbrev pub cell_size : ℕ
cell_size = 544

abbrev pub header_at : ℕ
header_at = 0

abbrev pub data_at : ℕ
data_at = 16

abbrev pub status_at : ℕ
status_at = 528

abbrev pub header_size : ℕ
header_size = 16

abbrev pub data_size : ℕ
data_size = 512

-- the address of tag t's cell: where it starts among all cells
abbrev pub address : ℕ → ℕ
address t = cell_size * t

-- n bytes of tag t's cell from at on, as a segment
abbrev pub segment : ℕ → ℕ → ℕ → Bool → Segment
segment t at n w = record { start = address t + at; length = n; writable = w }

abbrev pub is_cell : List ℕ → Bool
is_cell cell = length cell == cell_size
