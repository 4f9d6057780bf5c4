-- A mask's bits, one by one; and tests that are computed for every number below a limit.
use Rattle.std.proofs.Common.{◌≡◌, ℕ, zero, suc, ◌+◌, ◌-◌, ◌*◌, ◌/◌, ◌%◌, ◌^◌, ◌<◌, min, Bool, true, false, ◌&&◌, Decides, sym, refl, ap, ◌∙◌, arith}
use lib.Arith.{bin_ind}
use lib.Bits.{bit_and, and_step, and_shr, and_zero_r, and_high}
use Rattle.std.proofs.lemmas.Grind.{common_steps}
use Rattle.std.proofs.lemmas.Nat.{shr-shr, pow_pos}
use Rattle.std.proofs.lemmas.Bool.{eq-eqb}
use Rattle.std.proofs.lemmas.Bool.Decides.{Decides-below_and, nat_tests}
use Rattle.bringup.specs.Features.{bit, has_all}

digit : (x y : ℕ) → bit_and x y % 2 ≡ min (x % 2) (y % 2)
digit x y = omega (arith, and_step x y)

and_bit : (i a b : ℕ) → bit i (bit_and a b) ≡ min (bit i a) (bit i b)
and_bit i a b = grind (arith, and_shr, digit)

has_means : (f m : ℕ) → has_all f m ≡ true → (i : ℕ) → bit i m ≡ 1 → bit i f ≡ 1
has_means f m h i one = grind (arith, and_bit, nat_tests)

means_has : (m f : ℕ) → ((i : ℕ) → bit i m ≡ 1 → bit i f ≡ 1) → bit_and f m ≡ m
means_has =
    bin_ind (λ (m : ℕ). (f : ℕ) → ((i : ℕ) → bit i m ≡ 1 → bit i f ≡ 1) → bit_and f m ≡ m) (λ f h. and_zero_r f)
    (λ m ih f h.
    let q : bit_and (f / 2) (m / 2) ≡ m / 2 = ih (f / 2) (λ i one. ap (λ (x : ℕ). x % 2) (shr-shr f 1 i) ∙ h (1 + i) (sym (ap (λ (x : ℕ). x % 2) (shr-shr m 1 i)) ∙ one)) in
    let lowest : bit 0 m ≡ 1 → bit 0 f ≡ 1 = h 0 in
    grind (arith, and_step f m))

-- a mask is among the features where each of its bits is
pub has_decides : (f m : ℕ) → Decides (has_all f m) ((i : ℕ) → bit i m ≡ 1 → bit i f ≡ 1)
has_decides f m = (has_means f m, λ h. eq-eqb (bit_and f m) m (means_has m f h))

-- one bit of a mask, read as a digit
one_bit : (i n : ℕ) → 2 ^ (1 + i) - 2 ^ i ≡ 2 ^ i → bit_and n (2 ^ i) ≡ bit i n * 2 ^ i
one_bit i n e = grind (arith, and_high n 1 i)

-- the equation on powers holds by `refl` at each bit
pub bit_decides : (i n : ℕ) → 2 ^ (1 + i) - 2 ^ i ≡ 2 ^ i → Decides (has_all n (2 ^ i)) (bit i n ≡ 1)
bit_decides i n e = grind (arith, nat_tests, one_bit i n e, pow_pos i)

pub bit_off : (i n : ℕ) → 2 ^ (1 + i) - 2 ^ i ≡ 2 ^ i → has_all n (2 ^ i) ≡ false → bit i n ≡ 0
bit_off i n e h = grind (arith, common_steps, bit_decides i n e)

-- a test that holds of every number below a limit
abbrev pub below : (ℕ → Bool) → ℕ → Bool
below p zero = true
below p (suc n) = p n && below p n

pub each_below : (p : ℕ → Bool) (n : ℕ) → below p n ≡ true → (k : ℕ) → k < n → p k ≡ true
each_below p n h = (Decides-below_and p (λ k. p k ≡ true) (below p) (λ k. (λ e. e, λ e. e)) refl (λ _. refl) n).0 h
