-- A request that is laid and then served is the plain service's, whatever the class.
use Rattle.std.proofs.Common.{◌≡◌, ℕ, Bool, true, false, not, List, length, get_or, Some, None, Ok, Option, Result, sym, refl, ap, ◌∙◌, subst, arith}
use Rattle.std.proofs.lemmas.Bool.{not-false, eqb-true, cond-false}
use Rattle.entries.specs.declared.refusals.Refusal.{Refusal}
use Rattle.entries.specs.declared.refusals.Refusal.TheVariants.{CellSize, StoreSize, BadRequest}
use Rattle.entries.specs.declared.shapes.Entry.{Entry}
use Rattle.entries.specs.Refusals.{refuse, unless, kept}
use Rattle.class.specs.declared.requests.Reply.{Reply}
use Rattle.class.specs.Cells.{is_cell, cell_size}
use Rattle.class.specs.Refusals.{is_store, lay_refusal, room_refusal, serve_refusal, carry_refusal, read_refusal}
use Rattle.class.specs.Kinds.{Asked, Sized, Service, Kind}
use Rattle.class.specs.Rules.{laid, Effect, effect, effect_of, answered, served, status_of, carried}
use Rattle.class.specs.Laws.{Lawful, Named}

-- a call that was accepted met no refusal, and gives and leaves what it says
pub accepted : {A : Type 0} (o : Option Refusal) (x y : A) → Ok x ≡ unless o y → (o ≡ None) × (x ≡ y)
accepted None x y h = (refl, cc)
accepted (Some n) x y h = let z : ◌≡◌ {A = ℕ} 0 1 = cc in absurd (omega arith)

pub passed : (n : Refusal) (b : Bool) (o : Option Refusal) → refuse n b o ≡ None → (b ≡ false) × (o ≡ None)
passed n false o h = (refl, h)
passed n true o h = let z : ◌≡◌ {A = ℕ} 0 1 = cc in absurd (omega arith)

-- what is left once no refusal fits
record Passed (kind : Kind) (t : ℕ) (r : Asked) (cell store : List ℕ) : Type 0 where
  pub whole_cell : length cell ≡ cell_size
  pub not_refused : kind.refuses r ≡ false
  pub none_fits : carry_refusal t (kind.refuses r) kind.least cell store ≡ None

all_passed : (kind : Kind) (t : ℕ) (r : Asked) (cell store : List ℕ)
    → room_refusal kind.least cell store ≡ None → lay_refusal t (kind.refuses r) cell ≡ None → Passed kind t r cell store
all_passed kind t r cell store h k =
    let a = passed CellSize (not (is_cell cell)) _ h in
    let b = passed StoreSize (not (is_store kind.least store)) None a.1 in
    let c = passed CellSize (not (is_cell cell)) _ k in
    let d = passed BadRequest (kind.refuses r) _ c.1 in
    record {
      whole_cell = eqb-true (length cell) cell_size (not-false (is_cell cell) a.0);
      not_refused = d.0;
      none_fits =
          cond-false (not (is_cell cell)) (Some CellSize) _ a.0
          ∙ cond-false (not (is_store kind.least store)) (Some StoreSize) _ b.0
          ∙ c.1;
    }

abbrev reply : ℕ → ℕ → Reply
reply s w = record { status = s; written = w }

abbrev given : ℕ → ℕ → Result Reply Refusal
given s w = Ok (reply s w)

-- what the calls of laying, serving and reading the status gave and left, one after the other
pub record Chain (kind : Kind) (t : ℕ) (r : Asked) (cell store : List ℕ) (e : Entry) (laid_in : List ℕ) (w : ℕ) (served_in left : List ℕ) (s : ℕ) : Type 0 where
  pub room : room_refusal kind.least cell store ≡ None
  pub lay_answer : Ok e ≡ (laid kind t r cell).answer
  pub lay_cell : laid_in ≡ (laid kind t r cell).cell
  pub serve_answer : Ok w ≡ (served kind e laid_in store).answer
  pub serve_cell : served_in ≡ (served kind e laid_in store).cell
  pub serve_store : left ≡ (served kind e laid_in store).store
  pub status_answer : Ok s ≡ status_of kind served_in

-- from what the calls gave, one after the other, what carrying a request through promises
module _ (kind : Kind) (law : Lawful kind) (t : ℕ) (r : Asked) (cell store : List ℕ) (fit : Sized r)
    (e : Entry) (laid_in : List ℕ) (w : ℕ) (served_in left : List ℕ) (s : ℕ) (c : Chain kind t r cell store e laid_in w served_in left s) where
  abbrev service : Service
  service = kind.plain store r

  lay_accepted : (lay_refusal t (kind.refuses r) cell ≡ None) × (e ≡ kind.entry t r)
  lay_accepted = accepted (lay_refusal t (kind.refuses r) cell) e (kind.entry t r) c.lay_answer

  serve_accepted : (serve_refusal e.tag kind.least laid_in store ≡ None) × (w ≡ (effect kind e laid_in store).written)
  serve_accepted = accepted (serve_refusal e.tag kind.least laid_in store) w (effect kind e laid_in store).written c.serve_answer

  status_read : s ≡ kind.status served_in
  status_read = (accepted (read_refusal served_in) s (kind.status served_in) c.status_answer).1

  clear : Passed kind t r cell store
  clear = all_passed kind t r cell store c.room lay_accepted.0

  was_laid : laid_in ≡ kind.lays r cell
  was_laid = c.lay_cell ∙ ap (λ o. kept o cell (kind.lays r cell)) lay_accepted.0

  was_read : kind.reads e laid_in ≡ Some r
  was_read =
      ap (λ (d : Entry). kind.reads d laid_in) lay_accepted.1
      ∙ ap (kind.reads (kind.entry t r)) was_laid
      ∙ law.reads_back t r cell fit clear.not_refused clear.whole_cell

  was_served : effect kind e laid_in store ≡ answered kind service (kind.lays r cell)
  was_served = ap (λ o. effect_of kind o laid_in store) was_read ∙ ap (answered kind service) was_laid

  served_cell : served_in ≡ (effect kind e laid_in store).cell
  served_cell = c.serve_cell ∙ ap (λ o. kept o laid_in (effect kind e laid_in store).cell) serve_accepted.0

  cell_is : served_in ≡ kind.answers service.answer (kind.lays r cell)
  cell_is = served_cell ∙ ap (λ (x : Effect). x.cell) was_served

  store_is : left ≡ service.store
  store_is = c.serve_store ∙ ap (λ o. kept o store (effect kind e laid_in store).store) serve_accepted.0 ∙ ap (λ (x : Effect). x.store) was_served

  written_is : w ≡ service.answer.written
  written_is = serve_accepted.1 ∙ ap (λ (x : Effect). x.written) was_served

  status_is : s ≡ service.answer.status
  status_is = status_read ∙ ap kind.status cell_is ∙ law.shows_status r cell store fit clear.not_refused clear.whole_cell

  pub same_reply : Ok (reply s w) ≡ (carried kind t r cell store).answer
  same_reply =
      ap (λ x. given x w) status_is
      ∙ ap (given service.answer.status) written_is
      ∙ ap (λ o. unless o (reply service.answer.status service.answer.written)) (sym clear.none_fits)

  pub same_data : kind.shows served_in ≡ service.answer.bytes
  same_data = ap kind.shows cell_is ∙ law.shows_data r cell store fit clear.not_refused clear.whole_cell

  pub same_store : left ≡ (carried kind t r cell store).store
  same_store = store_is ∙ ap (λ o. kept o store service.store) (sym clear.none_fits)

  pub same_cell : served_in ≡ (carried kind t r cell store).cell
  same_cell = cell_is ∙ ap (λ o. kept o cell (kind.answers service.answer (kind.lays r cell))) (sym clear.none_fits)

  pub rest_stays : (i : ℕ) → (Named (kind.entry t r) i → ⊥) → get_or served_in i 0 ≡ get_or cell i 0
  rest_stays i h =
      ap (λ (x : List ℕ). get_or x i 0) served_cell
      ∙ law.serves_only_writable e laid_in store i (λ v. h (subst (λ (d : Entry). Named d i) lay_accepted.1 (v.0, v.1, v.3)))
      ∙ ap (λ (x : List ℕ). get_or x i 0) was_laid
      ∙ law.lays_only_named t r cell clear.not_refused i h
