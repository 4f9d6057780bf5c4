-- The tests of capacities say what they mean, and what a layout may rely on where one holds.
use Rattle.std.proofs.Common.{◌≡◌, ℕ, zero, suc, ◌%◌, ◌^◌, ◌<◌, ◌≤◌, Bool, true, false, not, ◌||◌, eqb, leb, Ok, Decides, refl, arith}
use Rattle.std.proofs.lemmas.Grind.{common_steps}
use Rattle.std.proofs.lemmas.Bool.Decides.{Decides-below_or, Decides-eqb, nat_tests}
use Rattle.bringup.specs.declared.states.Agreed.{Agreed}
use Rattle.bringup.specs.declared.states.Sized.{Sized}
use Rattle.bringup.specs.Features.{packed_bit}
use Rattle.bringup.specs.Modes.{mode_number}
use Rattle.bringup.specs.Capacities.{largest, is_split_size, is_packed_size, fitting, SplitSize, PackedSize, Fitting}
use Rattle.bringup.specs.Steps.{sizing}
use Rattle.bringup.proofs.Bits.{bit_decides, bit_off, each_below}

-- a power of two with an exponent below n, found by trying each
abbrev power_below : ℕ → ℕ → Bool
power_below k zero = false
power_below k (suc n) = eqb k (2 ^ n) || power_below k n

power_decides : (k n : ℕ) → Decides (power_below k n) ((m : ℕ) × (m < n) × (k ≡ 2 ^ m))
power_decides k n = Decides-below_or (λ m. eqb k (2 ^ m)) (λ m. k ≡ 2 ^ m) (power_below k) (λ m. Decides-eqb k (2 ^ m)) refl (λ _. refl) n

-- every capacity is tried
abbrev power_if_split : ℕ → Bool
power_if_split k = not (is_split_size k) || power_below k 11

all_powers : (k : ℕ) → k < 1025 → power_if_split k ≡ true
all_powers = each_below power_if_split 1025 refl

split_power : (k : ℕ) → is_split_size k ≡ true → power_below k 11 ≡ true
split_power k h = let l : k ≤ largest = grind (arith, nat_tests) in let t = all_powers k (omega arith) in grind (arith, nat_tests)

exponent : (k m : ℕ) → 4 ≤ k → k ≡ 2 ^ m → 2 ≤ m
exponent k zero h e = absurd (omega arith)
exponent k (suc zero) h e = absurd (omega arith)
exponent k (suc (suc m)) h e = omega arith

split_means : (k : ℕ) → is_split_size k ≡ true → SplitSize k
split_means k h =
    let p = (power_decides k 11).0 (split_power k h) in
    let l : 4 ≤ k = grind (arith, nat_tests) in
    (p.0, exponent k p.0 l p.2, omega (arith, p.1), p.2)

-- every exponent is tried
abbrev split_if_exponent : ℕ → Bool
split_if_exponent n = not (leb 2 n) || is_split_size (2 ^ n)

means_split : (k : ℕ) → SplitSize k → is_split_size k ≡ true
means_split k (n, low, high, e) = let t = each_below split_if_exponent 11 refl n (omega arith) in rw e (grind (arith, nat_tests))

pub split_decides : (k : ℕ) → Decides (is_split_size k) (SplitSize k)
split_decides k = (split_means k, means_split k)

pub packed_decides : (k : ℕ) → Decides (is_packed_size k) (PackedSize k)
packed_decides k = grind (arith, nat_tests)

-- what a layout relies on
pub split_size : (k : ℕ) → is_split_size k ≡ true → (4 ≤ k) × (k ≤ 1024) × (65536 % k ≡ 0)
split_size k h = grind (arith, nat_tests)

pub packed_size : (k : ℕ) → is_packed_size k ≡ true → (3 ≤ k) × (k ≤ 1024)
packed_size k h = (packed_decides k).0 h

fitting_means : (f k : ℕ) → fitting f k ≡ true → Fitting f k
fitting_means f k h = record {
  of_split = λ z. grind (arith, common_steps, split_decides, bit_decides packed_bit f refl);
  of_packed = λ o. grind (arith, common_steps, packed_decides, bit_decides packed_bit f refl);
}

means_fitting : (f k : ℕ) → Fitting f k → fitting f k ≡ true
means_fitting f k w = grind (arith, common_steps, split_decides, packed_decides, bit_decides packed_bit f refl, bit_off packed_bit f refl, w.of_split, w.of_packed)

pub fitting_decides : (f k : ℕ) → Decides (fitting f k) (Fitting f k)
fitting_decides f k = (fitting_means f k, means_fitting f k)

-- what bring-up gives a layout has a capacity of that layout; a number below 2 is that of the split layout
pub made_split : (s : Agreed) (k : ℕ) (t : Sized) → sizing s k ≡ Ok t → mode_number t.mode < 2 → is_split_size t.capacity ≡ true
made_split s k t h low = grind (arith, common_steps)

pub made_packed : (s : Agreed) (k : ℕ) (t : Sized) → sizing s k ≡ Ok t → 2 ≤ mode_number t.mode → is_packed_size t.capacity ≡ true
made_packed s k t h high = grind (arith, common_steps)
