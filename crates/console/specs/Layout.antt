-- How a line lies in a cell and in an entry, and how it is read from there. Assumes nothing.
use Rattle.std.specs.Prelude.{ℕ, false, cond, ◌&&◌, List, [], ◌∷◌, Some, None, Option}
use Rattle.words.specs.Bytes.{part, overwrite}
use Rattle.entries.specs.declared.shapes.Entry.{Entry}
use Rattle.entries.specs.Legality.{blank, place}
use Rattle.entries.specs.Sameness.{same}
use Rattle.class.specs.Cells.{data_at, segment}
use Rattle.class.specs.Kinds.{Asked}
use Rattle.console.specs.Requests.{sendable}

-- one read-only segment of n bytes at the data of tag t's cell
abbrev pub entry_for : ℕ → ℕ → Entry
entry_for t n = record { tag = t; count = 1; segments = segment t data_at n false ∷ (blank ∷ (blank ∷ [])) }

abbrev pub lays : Asked → List ℕ → List ℕ
lays r cell = overwrite data_at r.payload cell

abbrev pub line_in : ℕ → List ℕ → Asked
line_in n cell = record { code = 0; place = 0; payload = part data_at n cell }

-- an entry states a line where its one segment is 1 to 512 bytes at its cell's data
abbrev pub reads : Entry → List ℕ → Option Asked
reads e cell = let n = (place e 0).length in cond (sendable n && same e (entry_for e.tag n)) (Some (line_in n cell)) None
