-- Numbers of a width: what the code reads from as many bytes, from others, and from a part of a slice.
use Rattle.std.proofs.Common.{◌≡◌, ℕ, ◌+◌, ◌<◌, ◌≤◌, List, [], length, sym, ap, ◌∙◌, inl, inr, arith}
use Rattle.std.proofs.lemmas.Bool.Decides.{leb_tells, nat_tests}
use Rattle.std.proofs.lemmas.List.{take_all}
use Rattle.words.specs.Bytes.{part}
use Rattle.words.specs.Numbers.{value, read, get}
use Rattle.words.proofs.Laid.{part_outside, length_part}
use Rattle.words.proofs.Widths.{each, taken_each}

read_value : (k : ℕ) (xs : List ℕ) → length xs ≡ k → read k xs ≡ value xs
unfolding read
read_value k xs h = grind (arith, nat_tests)

pub read_whole : (k : ℕ) (xs : List ℕ) → k ≤ length xs → length xs < k + 1 → read k xs ≡ value (each k 0 0 xs)
read_whole k xs h j = read_value k xs (omega arith) ∙ ap value (sym (take_all k xs (omega arith)) ∙ taken_each k 0 0 xs (omega arith))

pub read_short : (k : ℕ) (xs : List ℕ) → length xs < k → 0 ≡ read k xs
unfolding read
read_short k xs h = grind (arith, nat_tests)

pub read_long : (k : ℕ) (xs : List ℕ) → k < length xs → 0 ≡ read k xs
unfolding read
read_long k xs h = grind (arith, nat_tests)

read_none : (k : ℕ) → read k [] ≡ value []
unfolding read value
read_none k = grind (arith, nat_tests)

-- a part is either whole or empty, so that what is read from it is the number or 0
pub read_part : (k at : ℕ) (xs : List ℕ) → read k (part at k xs) ≡ get k xs at
unfolding get
read_part k at xs = elim (leb_tells (at + k) (length xs)) [
  | inl t ↦ read_value k (part at k xs) (length_part at k xs t.1)
  | inr t ↦ ap (read k) (part_outside at k xs t.1) ∙ read_none k ∙ sym (ap value (part_outside at k xs t.1))
]
