-- How a block request lies in a cell and in an entry, and how it is read from there. Assumes nothing.
use Rattle.std.specs.Prelude.{ℕ, Bool, true, false, cond, ◌||◌, List, [], ◌∷◌, replicate, Some, None, Option}
use Rattle.words.specs.Bytes.{part, overwrite}
use Rattle.words.specs.Numbers.{get, put}
use Rattle.entries.specs.declared.shapes.Entry.{Entry}
use Rattle.entries.specs.Legality.{blank}
use Rattle.entries.specs.Sameness.{same}
use Rattle.class.specs.Cells.{header_at, data_at, status_at, header_size, data_size, segment}
use Rattle.class.specs.Kinds.{Asked}
use Rattle.block.specs.Requests.{is_read, is_write}

-- a read or a write has header, data and status; the device may write the status, and the data of a read
abbrev pub with_data : ℕ → Bool → Entry
with_data t reading = record { tag = t; count = 3; segments = segment t header_at header_size false ∷ (segment t data_at data_size reading ∷ (segment t status_at 1 true ∷ [])) }

-- any other type has header and status
abbrev pub without_data : ℕ → Entry
without_data t = record { tag = t; count = 2; segments = segment t header_at header_size false ∷ (segment t status_at 1 true ∷ (blank ∷ [])) }

abbrev pub entry_for : ℕ → ℕ → Entry
entry_for t code = cond (is_read code || is_write code) (with_data t (is_read code)) (without_data t)

-- le32 type, le32 zero, le64 sector
abbrev pub lay_header : Asked → List ℕ → List ℕ
lay_header r cell = put 8 (put 4 (put 4 cell 0 r.code) 4 0) 8 r.place

-- zeroes for a read, the payload for a write, nothing for any other type
abbrev pub lay_data : Asked → List ℕ → List ℕ
lay_data r cell =
    cond (is_read r.code) (overwrite data_at (replicate data_size 0) cell)
    (cond (is_write r.code) (overwrite data_at r.payload cell)
    cell)

-- header, data, and status 255
abbrev pub lays : Asked → List ℕ → List ℕ
lays r cell = overwrite status_at (255 ∷ []) (lay_data r (lay_header r cell))

abbrev pub type_in : List ℕ → ℕ
type_in cell = get 4 cell 0

abbrev pub asked_in : List ℕ → Asked
asked_in cell = record { code = type_in cell; place = get 8 cell 8; payload = cond (is_write (type_in cell)) (part data_at data_size cell) [] }

-- an entry states a request where its segments are those of its cell's type
abbrev pub reads : Entry → List ℕ → Option Asked
reads e cell = cond (same e (entry_for e.tag (type_in cell))) (Some (asked_in cell)) None
