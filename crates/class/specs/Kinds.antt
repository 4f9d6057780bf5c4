-- What a class of request means. Assumes nothing.
use Rattle.std.specs.Prelude.{ℕ, ◌^◌, ◌<◌, Bool, List, Option}
use Rattle.entries.specs.declared.shapes.Entry.{Entry}
use Rattle.class.specs.declared.requests.Request.{Request}

-- a request by its values
pub record Asked : Type 0 where
  pub code : ℕ
  pub place : ℕ
  pub payload : List ℕ

abbrev pub asked : Request → Asked
asked r = record { code = r.code; place = r.place; payload = r.payload.now }

-- a code of 32 bits and a place of 64, as every request of the code has
pub record Sized (r : Asked) : Type 0 where
  pub small_code : r.code < 2 ^ 32
  pub small_place : r.place < 2 ^ 64

pub record Answer : Type 0 where
  pub status : ℕ
  pub bytes : List ℕ
  pub written : ℕ

-- what a service leaves and answers
pub record Service : Type 0 where
  pub store : List ℕ
  pub answer : Answer

pub record Kind : Type 0 where
  -- the most segments of an entry, and the least bytes of a store
  pub longest : ℕ
  pub least : ℕ
  -- a request that the class does not carry
  pub refuses : Asked → Bool
  -- the entry of a tag's request, and the tag's cell with the request laid in it
  pub entry : ℕ → Asked → Entry
  pub lays : Asked → List ℕ → List ℕ
  -- the request that an entry and its cell state, if they state one
  pub reads : Entry → List ℕ → Option Asked
  -- the plain service: what a request does to a store and what is answered, with no cell and no entry in sight
  pub plain : List ℕ → Asked → Service
  -- the cell with the answer in it
  pub answers : Answer → List ℕ → List ℕ
  -- the status and the data that a cell shows
  pub status : List ℕ → ℕ
  pub shows : List ℕ → List ℕ
