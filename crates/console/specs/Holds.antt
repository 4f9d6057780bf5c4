-- The console class keeps the law of classes.
use Rattle.std.specs.Prelude.{◌≡◌, ℕ, ◌+◌, ◌<◌, ◌≤◌, true, false, cond, ◌&&◌, ◌⊎◌, List, length, Some, None, slice_index, refl}
use Rattle.std.proofs.Common.{ap, ◌∙◌, inl, inr, arith, lit≤}
use Rattle.std.proofs.lemmas.Bool.{and_from, cases_lt}
use Rattle.std.proofs.lemmas.Bool.Decides.{nat_tests}
use Rattle.words.specs.Bytes.{part}
use Rattle.words.proofs.Laid.{length-overwrite, part_of_same, byte_apart}
use Rattle.words.proofs.Widths.{length-put}
use Rattle.entries.specs.declared.shapes.Entry.{Entry}
use Rattle.entries.specs.Legality.{place, legal}
use Rattle.entries.specs.Typed.{Typed}
use Rattle.entries.specs.Sameness.{same}
use Rattle.entries.proofs.Judged.{same_self}
use Rattle.class.specs.Kinds.{Asked}
use Rattle.class.specs.Rules.{effect}
use Rattle.class.specs.Laws.{Named}
use Rattle.class.proofs.Values.{same_asked, by_stated, in_cell, blank_typed}
use Rattle.console.specs.Requests.{sendable, refused}
use Rattle.console.specs.Layout.{entry_for, lays, line_in, reads}
use Rattle.console.specs.Service.{append}
use Rattle.console.specs.Class.{console}

-- a request that is not refused is a line of 1 to 512 bytes with code and place 0
is_line : (r : Asked) → refused r ≡ false → (sendable (length r.payload) ≡ true) × (0 ≡ r.code) × (0 ≡ r.place)
is_line r h = (grind (arith, nat_tests), grind (arith, nat_tests), grind (arith, nat_tests))

pub legal_entry : (t : ℕ) (r : Asked) → t ≤ 15 → refused r ≡ false → legal (entry_for t (length r.payload)) ≡ true
legal_entry t r h k = grind (arith, nat_tests)

pub entry_typed : (t : ℕ) (r : Asked) → t ≤ 15 → refused r ≡ false → Typed (entry_for t (length r.payload))
entry_typed t r h k =
    let short : length r.payload ≤ 512 = grind (arith, nat_tests) in
    record { three_places = refl; first = in_cell t 16 (length r.payload) false h (lit≤ tt) (omega arith); second = blank_typed; third = blank_typed }

pub within_longest : (t : ℕ) (r : Asked) → (entry_for t (length r.payload)).count ≤ 1
within_longest t r = omega arith

pub read_back : (t : ℕ) (r : Asked) (cell : List ℕ) → refused r ≡ false → length cell ≡ 544 → reads (entry_for t (length r.payload)) (lays r cell) ≡ Some r
read_back t r cell h whole =
    let l = is_line r h in
    let n = length r.payload in
    let e = entry_for t n in
    let short : n ≤ 512 = grind (arith, nat_tests) in
    let line : line_in n (lays r cell) ≡ r = same_asked 0 0 (part 16 n (lays r cell)) r l.1 l.2 (part_of_same 16 n r.payload cell (omega arith) refl) in
    ap (λ b. cond b (Some (line_in n (lays r cell))) None) (and_from (sendable n) (same e e) l.0 (same_self e)) ∙ ap Some line

pub lays_length : (r : Asked) (cell : List ℕ) → length (lays r cell) ≡ length cell
lays_length r cell = length-overwrite 16 r.payload cell

pub lays_only_named : (t : ℕ) (r : Asked) (cell : List ℕ) (i : ℕ) → (Named (entry_for t (length r.payload)) i → ⊥) → slice_index (lays r cell) i ≡ slice_index cell i
lays_only_named t r cell i h = byte_apart 16 r.payload cell i 0 (away (cases_lt i 16) (cases_lt i (16 + length r.payload)))
  where
    away : (i < 16) ⊎ (16 ≤ i) → (i < 16 + length r.payload) ⊎ (16 + length r.payload ≤ i) → (i < 16) ⊎ (16 + length r.payload ≤ i)
    away (inl l) c = inl l
    away (inr l) (inr k) = inr k
    away (inr l) (inl k) = absurd (h (0, omega arith, (omega arith, omega arith)))

-- serving leaves the cell, whatever the entry
pub cell_stays : (e : Entry) (cell store : List ℕ) → (effect console e cell store).cell ≡ cell
cell_stays e cell store = by_stated (λ x. x.cell ≡ cell) console (sendable (place e 0).length && same e (entry_for e.tag (place e 0).length)) (line_in (place e 0).length cell) cell store refl (λ _. refl)

pub serves_length : (e : Entry) (cell store : List ℕ) → length (effect console e cell store).cell ≡ length cell
serves_length e cell store = ap (λ (x : List ℕ). length x) (cell_stays e cell store)

pub byte_stays : (e : Entry) (cell store : List ℕ) (i : ℕ) → slice_index (effect console e cell store).cell i ≡ slice_index cell i
byte_stays e cell store i = ap (λ (x : List ℕ). slice_index x i) (cell_stays e cell store)

append_length : (store line : List ℕ) → length (append store line) ≡ length store
append_length store line = length-put 4 _ 4 _ ∙ length-put 4 _ 0 _ ∙ length-overwrite _ _ store

pub store_length : (e : Entry) (cell store : List ℕ) → length (effect console e cell store).store ≡ length store
store_length e cell store = by_stated (λ x. length x.store ≡ length store) console (sendable (place e 0).length && same e (entry_for e.tag (place e 0).length)) (line_in (place e 0).length cell) cell store refl
    (λ _. append_length store (part 16 (place e 0).length cell))
