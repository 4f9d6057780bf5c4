-- What every class owes, for each request that it does not refuse, each tag, each starting cell and each store.
use Rattle.std.specs.Prelude.{◌≡◌, ℕ, ◌+◌, ◌<◌, ◌≤◌, Bool, true, false, List, length, is_ok, Some, Option, Result, slice_index}
use Rattle.entries.specs.declared.refusals.Refusal.{Refusal}
use Rattle.entries.specs.declared.shapes.Entry.{Entry}
use Rattle.entries.specs.Legality.{last_tag, place, legal}
use Rattle.entries.specs.Typed.{Typed}
use Rattle.class.specs.declared.requests.Reply.{Reply}
use Rattle.class.specs.Cells.{address, cell_size}
use Rattle.class.specs.Refusals.{carry_refusal}
use Rattle.class.specs.Kinds.{Asked, Sized, Kind}
use Rattle.class.specs.Rules.{effect, carried_by}

-- byte i of the entry's cell lies in its segment k
abbrev pub InSegment : Entry → ℕ → ℕ → Type 0
InSegment e k i = ((place e k).start ≤ address e.tag + i) × (address e.tag + i < (place e k).start + (place e k).length)

abbrev pub Named : Entry → ℕ → Type 0
Named e i = (k : ℕ) × (k < e.count) × InSegment e k i

abbrev pub Writable : Entry → ℕ → Type 0
Writable e i = (k : ℕ) × (k < e.count) × ((place e k).writable ≡ true) × InSegment e k i

-- every byte of a cell for which P does not hold is as it was
abbrev pub StaysOutside : (ℕ → Type 0) → List ℕ → List ℕ → Type 0
StaysOutside P before after = (i : ℕ) → (P i → ⊥) → slice_index after i ≡ slice_index before i

pub record Lawful (kind : Kind) : Type 0 where
  -- laying gives a legal entry of the tag, within the longest chain
  pub legal_entry : (t : ℕ) (r : Asked) → t ≤ last_tag → kind.refuses r ≡ false → legal (kind.entry t r) ≡ true
  -- whose numbers fit their types
  pub entry_typed : (t : ℕ) (r : Asked) → t ≤ last_tag → kind.refuses r ≡ false → Typed (kind.entry t r)
  pub own_tag : (t : ℕ) (r : Asked) → (kind.entry t r).tag ≡ t
  pub within_longest : (t : ℕ) (r : Asked) → (kind.entry t r).count ≤ kind.longest
  -- what was laid is what serving reads
  pub reads_back : (t : ℕ) (r : Asked) (cell : List ℕ) → Sized r → kind.refuses r ≡ false → length cell ≡ cell_size → kind.reads (kind.entry t r) (kind.lays r cell) ≡ Some r
  -- and what the plain service answers is what the cell shows then
  pub shows_status : (r : Asked) (cell store : List ℕ) → Sized r → kind.refuses r ≡ false → length cell ≡ cell_size
      → kind.status (kind.answers (kind.plain store r).answer (kind.lays r cell)) ≡ (kind.plain store r).answer.status
  pub shows_data : (r : Asked) (cell store : List ℕ) → Sized r → kind.refuses r ≡ false → length cell ≡ cell_size
      → kind.shows (kind.answers (kind.plain store r).answer (kind.lays r cell)) ≡ (kind.plain store r).answer.bytes
  -- cells and stores keep their length
  pub lays_length : (r : Asked) (cell : List ℕ) → length (kind.lays r cell) ≡ length cell
  pub serves_length : (e : Entry) (cell store : List ℕ) → length (effect kind e cell store).cell ≡ length cell
  pub store_length : (e : Entry) (cell store : List ℕ) → length (effect kind e cell store).store ≡ length store
  -- laying writes within the entry's segments, and serving within the writable ones
  pub lays_only_named : (t : ℕ) (r : Asked) (cell : List ℕ) → kind.refuses r ≡ false → StaysOutside (Named (kind.entry t r)) cell (kind.lays r cell)
  pub serves_only_writable : (e : Entry) (cell store : List ℕ) → StaysOutside (Writable e) cell (effect kind e cell store).cell

-- what carrying a request through gives and leaves, for any class and any way, by what refuses it there
pub record CarriesBy (refusal : Option Refusal) (kind : Kind) (t : ℕ) (r : Asked) (cell store : List ℕ) (given : Result Reply Refusal) (cell_then store_then : List ℕ) : Type 0 where
  -- the reply, the data and the store are the plain service's; a refusal is the smallest number that fits
  pub plain_reply : given ≡ (carried_by refusal kind r cell store).answer
  pub plain_data : is_ok given ≡ true → kind.shows cell_then ≡ (kind.plain store r).answer.bytes
  pub plain_store : store_then ≡ (carried_by refusal kind r cell store).store
  -- no byte of the cell is touched but those that the entry's segments name, and every one is as the rule says
  pub nothing_else_touched : StaysOutside (Named (kind.entry t r)) cell cell_then
  pub later_cell : cell_then ≡ (carried_by refusal kind r cell store).cell
  pub refusal_changes_nothing : is_ok given ≡ false → (cell_then ≡ cell) × (store_then ≡ store)

-- with nothing between laying and serving
abbrev pub Carries : Kind → ℕ → Asked → List ℕ → List ℕ → Result Reply Refusal → List ℕ → List ℕ → Type 0
Carries kind t r cell store = CarriesBy (carry_refusal t (kind.refuses r) kind.least cell store) kind t r cell store

-- a way before and after a request went it: it is as roomy as it was, and with nothing on it once more
pub record GoesOn {W : Type 0} (sound : W → Type 0) (too_small : W → ℕ → Bool) (in_use : W → Bool) (before after : W) : Type 0 where
  pub still_sound : sound after
  pub same_room : (n : ℕ) → too_small after n ≡ too_small before n
  pub free_again : in_use before ≡ false → in_use after ≡ false
