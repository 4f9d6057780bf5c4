-- Facts on the two shapes of a block entry.
use Rattle.std.specs.Prelude.{◌≡◌, ℕ, ◌<◌, ◌≤◌, true, false, ◌||◌, refl}
use Rattle.std.proofs.Common.{arith, lit≤}
use Rattle.std.proofs.lemmas.Bool.{both_ways, or_left, cond_both}
use Rattle.std.proofs.lemmas.Bool.Decides.{nat_tests}
use Rattle.entries.specs.declared.shapes.Entry.{Entry}
use Rattle.entries.specs.Legality.{legal}
use Rattle.entries.specs.Typed.{Typed}
use Rattle.class.specs.Laws.{Named, Writable}
use Rattle.class.proofs.Values.{in_cell, blank_typed}
use Rattle.block.specs.Requests.{is_read, is_write}
use Rattle.block.specs.Layout.{with_data, without_data, entry_for}

-- what holds of both shapes holds of every type's entry
by_shape : (P : Entry → Type 0) (t code : ℕ) → ((is_read code || is_write code) ≡ true → P (with_data t (is_read code))) → ((is_read code || is_write code) ≡ false → P (without_data t)) → P (entry_for t code)
by_shape P t code a b = cond_both (is_read code || is_write code) (with_data t (is_read code)) (without_data t) P a b

pub legal_entry : (t code : ℕ) → t ≤ 15 → legal (entry_for t code) ≡ true
legal_entry t code h = by_shape (λ e. legal e ≡ true) t code (λ _. grind (arith, nat_tests)) (λ _. grind (arith, nat_tests))

pub entry_typed : (t code : ℕ) → t ≤ 15 → Typed (entry_for t code)
entry_typed t code h =
    by_shape Typed t code
    (λ _. record { three_places = refl; first = in_cell t 0 16 false h (lit≤ tt) (lit≤ tt); second = in_cell t 16 512 (is_read code) h (lit≤ tt) (lit≤ tt); third = in_cell t 528 1 true h (lit≤ tt) (lit≤ tt) })
    (λ _. record { three_places = refl; first = in_cell t 0 16 false h (lit≤ tt) (lit≤ tt); second = in_cell t 528 1 true h (lit≤ tt) (lit≤ tt); third = blank_typed })

pub own_tag : (t code : ℕ) → (entry_for t code).tag ≡ t
own_tag t code = by_shape (λ e. e.tag ≡ t) t code (λ _. refl) (λ _. refl)

pub within_longest : (t code : ℕ) → (entry_for t code).count ≤ 3
within_longest t code = by_shape (λ e. e.count ≤ 3) t code (λ _. omega arith) (λ _. omega arith)

-- which bytes of the cell an entry names
pub header_named : (t code i : ℕ) → i < 16 → Named (entry_for t code) i
header_named t code i h = by_shape (λ e. Named e i) t code (λ _. (0, omega arith, (omega arith, omega arith))) (λ _. (0, omega arith, (omega arith, omega arith)))

pub data_named : (t code i : ℕ) → (is_read code || is_write code) ≡ true → 16 ≤ i → i < 528 → Named (entry_for t code) i
data_named t code i d h k = by_shape (λ e. Named e i) t code (λ _. (1, omega arith, (omega arith, omega arith))) (λ e. absurd (both_ways (is_read code || is_write code) e d))

pub status_writable : (t code : ℕ) → Writable (entry_for t code) 528
status_writable t code = by_shape (λ e. Writable e 528) t code (λ _. (2, omega arith, refl, (omega arith, omega arith))) (λ _. (1, omega arith, refl, (omega arith, omega arith)))

pub status_named : (t code : ℕ) → Named (entry_for t code) 528
status_named t code = let w = status_writable t code in (w.0, w.1, w.3)

pub data_writable : (t code i : ℕ) → is_read code ≡ true → 16 ≤ i → i < 528 → Writable (entry_for t code) i
data_writable t code i d h k = by_shape (λ e. Writable e i) t code (λ _. (1, omega arith, d, (omega arith, omega arith))) (λ e. absurd (both_ways (is_read code || is_write code) e (or_left (is_read code) (is_write code) d)))
