-- When the calls of a class refuse, and by which number: the first line that fits, and so the smallest number. Assumes nothing.
use Rattle.std.specs.Prelude.{ℕ, Bool, false, not, ◌&&◌, List, length, None, Option, nat_le, nat_lt}
use Rattle.entries.specs.declared.refusals.Refusal.{Refusal}
use Rattle.entries.specs.declared.refusals.Refusal.TheVariants.{GroupSize, CellSize, StoreSize, BadRequest, BadEntry, QueueInUse}
use Rattle.entries.specs.Legality.{last_tag}
use Rattle.entries.specs.Refusals.{refuse}
use Rattle.class.specs.Cells.{is_cell}

-- no store is larger than 2^32 bytes
abbrev pub largest_store : ℕ
largest_store = 4294967296

-- a store that a class can work on: not below its least, and no larger than any may be
abbrev pub is_store : ℕ → List ℕ → Bool
is_store least store = nat_le least (length store) && nat_le (length store) largest_store

abbrev pub read_refusal : List ℕ → Option Refusal
read_refusal cell =
    refuse CellSize (not (is_cell cell))
    None

abbrev pub tag_refusal : ℕ → Option Refusal
tag_refusal t =
    refuse BadEntry (nat_lt last_tag t)
    None

abbrev pub lay_refusal : ℕ → Bool → List ℕ → Option Refusal
lay_refusal t bad cell =
    refuse CellSize (not (is_cell cell))
    (refuse BadRequest bad
    (refuse BadEntry (nat_lt last_tag t)
    None))

abbrev pub store_refusal : ℕ → List ℕ → Option Refusal
store_refusal least store =
    refuse StoreSize (not (is_store least store))
    None

abbrev pub room_refusal : ℕ → List ℕ → List ℕ → Option Refusal
room_refusal least cell store =
    refuse CellSize (not (is_cell cell))
    (refuse StoreSize (not (is_store least store))
    None)

abbrev pub serve_refusal : ℕ → ℕ → List ℕ → List ℕ → Option Refusal
serve_refusal t least cell store =
    refuse CellSize (not (is_cell cell))
    (refuse StoreSize (not (is_store least store))
    (refuse BadEntry (nat_lt last_tag t)
    None))

-- of carrying a request some way, by whether the way is too small for the class's chains and whether something is still on it
abbrev pub way_refusal : Bool → Bool → ℕ → Bool → ℕ → List ℕ → List ℕ → Option Refusal
way_refusal too_small in_use t bad least cell store =
    refuse GroupSize too_small
    (refuse CellSize (not (is_cell cell))
    (refuse StoreSize (not (is_store least store))
    (refuse BadRequest bad
    (refuse BadEntry (nat_lt last_tag t)
    (refuse QueueInUse in_use
    None)))))

-- of laying and then serving, with nothing between
abbrev pub carry_refusal : ℕ → Bool → ℕ → List ℕ → List ℕ → Option Refusal
carry_refusal = way_refusal false false
