-- What is known once nothing refuses a request, and what a refusal leaves.
use Rattle.std.proofs.Common.{◌≡◌, ℕ, ◌≤◌, Bool, true, false, not, ◌||◌, ltb, List, length, Some, None, Ok, Err, Option, Result, sym, refl, ap, ◌∙◌, arith}
use Rattle.std.proofs.lemmas.Bool.{both_ways, not-false, eqb-true, eq-eqb, ltb-false, cond-false}
use Rattle.entries.specs.declared.refusals.Refusal.{Refusal}
use Rattle.entries.specs.declared.refusals.Refusal.TheVariants.{GroupSize, CellSize, StoreSize, BadRequest, BadEntry, QueueInUse}
use Rattle.entries.specs.Legality.{last_tag}
use Rattle.entries.specs.Refusals.{kept}
use Rattle.class.specs.Cells.{is_cell, cell_size}
use Rattle.class.specs.Refusals.{is_store, serve_refusal, read_refusal}
use Rattle.class.specs.Kinds.{Asked, Kind}
use Rattle.class.proofs.Carries.{passed}
use Rattle.queue.specs.Laws.{Ops}
use Rattle.carrying.specs.Refusals.{any, carry_refusal, refusal_for}
use Rattle.class.specs.Rules.{carried_by}
use Rattle.carrying.specs.Rules as R
use Rattle.carrying.specs.Rules.{moved_on}
use Rattle.carrying.specs.Laws.{Carries, RefusedAtOnce}

-- no call both accepts and refuses
pub not_both : {A : Type 0} {x : A} (n : Refusal) (given : Result A Refusal) → given ≡ Err n → given ≡ Ok x → ⊥
not_both n given h k = let z : ◌≡◌ {A = ℕ} 0 1 = cc in omega arith

neither : (a b : Bool) → (a || b) ≡ false → (a ≡ false) × (b ≡ false)
neither true b h = absurd (both_ways true h refl)
neither false b h = (refl, h)

none_in : (n : ℕ) → ltb 0 n ≡ false → n ≡ 0
none_in n h = let l = ltb-false 0 n h in omega arith

-- each line of the table, where none fits
pub record Clear (capacity out held back longest least : ℕ) (bad : Bool) (t : ℕ) (cell store : List ℕ) : Type 0 where
  pub roomy : longest ≤ capacity
  pub whole_cell : length cell ≡ cell_size
  pub good_store : not (is_store least store) ≡ false
  pub not_refused : bad ≡ false
  pub small_tag : ltb last_tag t ≡ false
  pub none_out : out ≡ 0
  pub none_held : held ≡ 0
  pub none_back : back ≡ 0

pub all_clear : (capacity out held back longest least : ℕ) (bad : Bool) (t : ℕ) (cell store : List ℕ)
    → carry_refusal capacity out held back longest least bad t cell store ≡ None → Clear capacity out held back longest least bad t cell store
all_clear capacity out held back longest least bad t cell store h =
    let a = passed GroupSize (ltb capacity longest) _ h in
    let b = passed CellSize (not (is_cell cell)) _ a.1 in
    let c = passed StoreSize (not (is_store least store)) _ b.1 in
    let d = passed BadRequest bad _ c.1 in
    let e = passed BadEntry (ltb last_tag t) _ d.1 in
    let f = passed QueueInUse (any out held back) None e.1 in
    let x = neither (ltb 0 out) (ltb 0 held || ltb 0 back) f.0 in
    let y = neither (ltb 0 held) (ltb 0 back) x.1 in
    record {
      roomy = ltb-false capacity longest a.0;
      whole_cell = eqb-true (length cell) cell_size (not-false (is_cell cell) b.0);
      good_store = c.0;
      not_refused = d.0;
      small_tag = e.0;
      none_out = none_in out x.0;
      none_held = none_in held y.0;
      none_back = none_in back y.1;
    }

-- then neither serving nor reading refuses
is_whole : (cell : List ℕ) → length cell ≡ cell_size → not (is_cell cell) ≡ false
is_whole cell h = ap not (eq-eqb (length cell) cell_size h)

pub serve_clear : (t least : ℕ) (cell store : List ℕ) → length cell ≡ cell_size → not (is_store least store) ≡ false → ltb last_tag t ≡ false → serve_refusal t least cell store ≡ None
serve_clear t least cell store a b c =
    cond-false (not (is_cell cell)) (Some CellSize) _ (is_whole cell a) ∙ cond-false (not (is_store least store)) (Some StoreSize) _ b ∙ cond-false (ltb last_tag t) (Some BadEntry) None c

pub read_clear : (cell : List ℕ) → length cell ≡ cell_size → read_refusal cell ≡ None
read_clear cell a = cond-false (not (is_cell cell)) (Some CellSize) None (is_whole cell a)

-- what a refusal leaves is what is promised of it
pub at_once : {Q : Type 0} (o : Option Refusal) (n : Refusal) (q : Q) (cell store : List ℕ) → o ≡ Some n → RefusedAtOnce o q cell store (Err n) q cell store
at_once o n q cell store h k p = record { by_number = cc; queue_stays = refl; cell_stays = refl; store_stays = refl }

module _ {Q : Type 0} (sound : Q → Type 0) (ops : Ops Q) (kind : Kind) (t : ℕ) (r : Asked) (q : Q) (cell store : List ℕ) where
  pub refused : (n : Refusal) → refusal_for ops kind q t r cell store ≡ Some n → sound q → Carries sound ops kind t r q cell store (Err n) q cell store
  refused n h s =
      let a = (kind.plain store r).answer in
      record {
        by_the_service = record {
          plain_reply = ap (λ o. (carried_by o kind r cell store).answer) (sym h);
          plain_data = λ e. absurd (both_ways true (sym e) refl);
          plain_store = ap (λ o. (carried_by o kind r cell store).store) (sym h);
          nothing_else_touched = λ i _. refl;
          later_cell = ap (λ o. (carried_by o kind r cell store).cell) (sym h);
          refusal_changes_nothing = λ _. (refl, refl);
        };
        refusal_leaves_queue = λ _. refl;
        later_queue = ap (λ o. kept o q (R.passed ops q (kind.entry t r) a.written)) (sym h);
        idle_again = record { meaning = ap (λ o. kept o (ops.means q) (moved_on (ops.means q) (kind.entry t r))) (sym h); still_sound = s };
      }
