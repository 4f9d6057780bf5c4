-- What each call of a class answers, and what it leaves in what was lent to it. Assumes nothing.
use Rattle.std.specs.Prelude.{ℕ, List, Some, None, Option, Result}
use Rattle.entries.specs.declared.refusals.Refusal.{Refusal}
use Rattle.entries.specs.declared.shapes.Entry.{Entry}
use Rattle.entries.specs.Refusals.{unless, kept}
use Rattle.class.specs.declared.requests.Reply.{Reply}
use Rattle.class.specs.Refusals.{lay_refusal, serve_refusal, read_refusal, carry_refusal}
use Rattle.class.specs.Kinds.{Asked, Service, Kind}

pub record Laid : Type 0 where
  pub answer : Result Entry Refusal
  pub cell : List ℕ

abbrev pub laid : Kind → ℕ → Asked → List ℕ → Laid
laid kind t r cell = let refusal = lay_refusal t (kind.refuses r) cell in record {
  answer = unless refusal (kind.entry t r);
  cell = kept refusal cell (kind.lays r cell);
}

-- what serving an entry writes: nothing where the entry and its cell state no request
pub record Effect : Type 0 where
  pub written : ℕ
  pub cell : List ℕ
  pub store : List ℕ

abbrev pub answered : Kind → Service → List ℕ → Effect
answered kind s cell = record { written = s.answer.written; cell = kind.answers s.answer cell; store = s.store }

abbrev pub effect_of : Kind → Option Asked → List ℕ → List ℕ → Effect
effect_of kind None cell store = record { written = 0; cell = cell; store = store }
effect_of kind (Some r) cell store = answered kind (kind.plain store r) cell

abbrev pub effect : Kind → Entry → List ℕ → List ℕ → Effect
effect kind e cell store = effect_of kind (kind.reads e cell) cell store

pub record Served : Type 0 where
  pub answer : Result ℕ Refusal
  pub cell : List ℕ
  pub store : List ℕ

abbrev pub served : Kind → Entry → List ℕ → List ℕ → Served
served kind e cell store = let refusal = serve_refusal e.tag kind.least cell store in record {
  answer = unless refusal (effect kind e cell store).written;
  cell = kept refusal cell (effect kind e cell store).cell;
  store = kept refusal store (effect kind e cell store).store;
}

abbrev pub status_of : Kind → List ℕ → Result ℕ Refusal
status_of kind cell = unless (read_refusal cell) (kind.status cell)

abbrev pub data_of : Kind → List ℕ → Result (List ℕ) Refusal
data_of kind cell = unless (read_refusal cell) (kind.shows cell)

-- a request carried through: the plain service's store and answer, and the cell with the request and the answer in it
pub record Carried : Type 0 where
  pub answer : Result Reply Refusal
  pub cell : List ℕ
  pub store : List ℕ

-- whichever way it goes, by what refuses it there
abbrev pub carried_by : Option Refusal → Kind → Asked → List ℕ → List ℕ → Carried
carried_by refusal kind r cell store = let s = kind.plain store r in record {
  answer = unless refusal (record { status = s.answer.status; written = s.answer.written });
  cell = kept refusal cell (kind.answers s.answer (kind.lays r cell));
  store = kept refusal store s.store;
}

abbrev pub carried : Kind → ℕ → Asked → List ℕ → List ℕ → Carried
carried kind t r cell store = carried_by (carry_refusal t (kind.refuses r) kind.least cell store) kind r cell store
