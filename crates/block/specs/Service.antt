-- What a block request does to a store, what is answered, and how the answer lies in a cell. Assumes nothing.
use Rattle.std.specs.Prelude.{ℕ, ◌*◌, ◌/◌, Bool, cond, List, [], ◌∷◌, length, replicate, nat_lt, slice_index}
use Rattle.words.specs.Bytes.{part, overwrite}
use Rattle.class.specs.Cells.{data_at, data_size, status_at}
use Rattle.class.specs.Kinds.{Asked, Answer, Service}
use Rattle.block.specs.Requests.{sector_size, is_read, is_write, is_flush}
use Rattle.block.specs.Layout.{type_in}

-- whole sectors count, a partial last one does not
abbrev pub has_sector : List ℕ → ℕ → Bool
has_sector store n = nat_lt n (length store / sector_size)

abbrev pub gives : List ℕ → ℕ → List ℕ → ℕ → Service
gives store status bytes written = record { store = store; answer = record { status = status; bytes = bytes; written = written } }

-- a read of a sector that is not there answers status 1 and zeroes
abbrev pub plain_read : List ℕ → ℕ → Service
plain_read store n = cond (has_sector store n)
    (gives store 0 (part (sector_size * n) sector_size store) 513)
    (gives store 1 (replicate sector_size 0) 513)

-- a write to a sector that is not there answers status 1
abbrev pub plain_write : List ℕ → ℕ → List ℕ → Service
plain_write store n bytes = cond (has_sector store n)
    (gives (overwrite (sector_size * n) bytes store) 0 [] 1)
    (gives store 1 [] 1)

-- a type that is none of the three answers status 2
abbrev pub plain : List ℕ → Asked → Service
plain store r =
    cond (is_read r.code) (plain_read store r.place)
    (cond (is_write r.code) (plain_write store r.place r.payload)
    (cond (is_flush r.code) (gives store 0 [] 1)
    (gives store 2 [] 1)))

-- the data of a read, and the status
abbrev pub answers : Answer → List ℕ → List ℕ
answers a cell = overwrite status_at (a.status ∷ []) (cond (is_read (type_in cell)) (overwrite data_at a.bytes cell) cell)

abbrev pub status : List ℕ → ℕ
status cell = slice_index cell status_at

-- 512 bytes for a read, none otherwise
abbrev pub shows : List ℕ → List ℕ
shows cell = cond (is_read (type_in cell)) (part data_at data_size cell) []
