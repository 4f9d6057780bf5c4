-- What the steps of a task promise. Assumes nothing.
use Rattle.std.specs.Prelude.{◌≡◌, ℕ, Bool, true, false, List, length, Option, Result}
use Rattle.entries.specs.declared.refusals.Refusal.{Refusal}
use Rattle.class.specs.declared.requests.Reply.{Reply}
use Rattle.class.specs.Cells.{is_cell}
use Rattle.class.specs.Kinds.{Asked, Kind}
use Rattle.class.specs.Refusals.{is_store, way_refusal}
use Rattle.class.specs.Laws.{CarriesBy}
use Rattle.block.specs.Service.{has_sector}
use Rattle.block.specs.Disk.{written}

-- what refuses a request on a way, by its class
abbrev pub refusal_on : (ℕ → Bool) → Bool → Kind → ℕ → Asked → List ℕ → List ℕ → Option Refusal
refusal_on too_small in_use kind t r cell store = way_refusal (too_small kind.longest) in_use t (kind.refuses r) kind.least cell store

-- a request was answered in some way, whatever the line that was printed says
abbrev pub WithSomeAnswer : (Result Reply Refusal → Type 0) → Type 0
WithSomeAnswer P = (given : Result Reply Refusal) × P given

-- a request was carried through, whatever the line that was printed says
abbrev pub Stepped : Option Refusal → Kind → ℕ → Asked → List ℕ → List ℕ → List ℕ → List ℕ → Type 0
Stepped refusal kind t r cell store cell_then store_then = WithSomeAnswer (λ given. CarriesBy refusal kind t r cell store given cell_then store_then)

-- a way with nothing on it and room for the longest chain of a block request
pub record Free (too_small : ℕ → Bool) (in_use : Bool) : Type 0 where
  pub room : too_small 3 ≡ false
  pub idle : in_use ≡ false

-- a sector of the disk that is written and then read is found to hold the same bytes
abbrev pub FoundAgain : List ℕ → List ℕ → ℕ → List ℕ → Bool → Type 0
FoundAgain cell disk n bytes same = is_cell cell ≡ true → is_store 512 disk ≡ true → has_sector disk n ≡ true → length bytes ≡ 512 → same ≡ true

-- and the disk is what the write makes of it
abbrev pub OnDisk : List ℕ → List ℕ → ℕ → List ℕ → List ℕ → Type 0
OnDisk cell disk n bytes later = is_cell cell ≡ true → is_store 512 disk ≡ true → has_sector disk n ≡ true → length bytes ≡ 512 → later ≡ written disk n bytes
