-- What a line does to a store, and what is answered. Assumes nothing.
use Rattle.std.specs.Prelude.{ℕ, ◌+◌, ◌-◌, min, List, [], length, take}
use Rattle.words.specs.Bytes.{overwrite}
use Rattle.words.specs.Numbers.{get, put}
use Rattle.class.specs.Kinds.{Asked, Answer, Service}

-- a store is le32 kept, le32 lost, then text
abbrev pub text_at : ℕ
text_at = 8

-- the largest number that a count holds
abbrev pub largest_count : ℕ
largest_count = 4294967295

abbrev pub kept_in : List ℕ → ℕ
kept_in store = get 4 store 0

abbrev pub lost_in : List ℕ → ℕ
lost_in store = get 4 store 4

-- what fits after the kept text; nothing where kept lies beyond the end
abbrev pub room : List ℕ → ℕ
room store = length store - text_at - kept_in store

abbrev pub fits : List ℕ → List ℕ → ℕ
fits store line = min (length line) (room store)

-- what fits is appended, and kept grows by it; the rest adds to lost, which stops at its largest value
abbrev pub append : List ℕ → List ℕ → List ℕ
append store line = let n = fits store line in
    put 4 (put 4 (overwrite (text_at + kept_in store) (take n line) store) 0 (kept_in store + n)) 4 (min (lost_in store + (length line - n)) largest_count)

abbrev pub plain : List ℕ → Asked → Service
plain store r = record { store = append store r.payload; answer = record { status = 0; bytes = []; written = 0 } }

-- nothing in the cell is the device's to write
abbrev pub answers : Answer → List ℕ → List ℕ
answers a cell = cell

abbrev pub status : List ℕ → ℕ
status cell = 0

abbrev pub shows : List ℕ → List ℕ
shows cell = []
