-- The capacities that each layout allows: as tests, and in the words of the subject. Assumes nothing.
use Rattle.std.specs.Prelude.{◌≡◌, ℕ, ◌%◌, ◌^◌, ◌≤◌, Bool, cond, ◌&&◌, ◌==◌, nat_le}
use Rattle.bringup.specs.Features.{bit, has_all, packed_bit}

abbrev pub largest : ℕ
largest = 1024

-- the capacity divides the count of positions, so that positions keep their places when they wrap
abbrev pub is_split_size : ℕ → Bool
is_split_size k = nat_le 4 k && (nat_le k largest && 65536 % k == 0)

abbrev pub is_packed_size : ℕ → Bool
is_packed_size k = nat_le 3 k && nat_le k largest

-- a power of two from 4 to 1024
abbrev pub SplitSize : ℕ → Type 0
SplitSize k = (n : ℕ) × (2 ≤ n) × (n ≤ 10) × (k ≡ 2 ^ n)

-- any number from 3 to 1024
abbrev pub PackedSize : ℕ → Type 0
PackedSize k = (3 ≤ k) × (k ≤ largest)

-- by the features agreed on
abbrev pub fitting : ℕ → ℕ → Bool
fitting features k = cond (has_all features (2 ^ packed_bit)) (is_packed_size k) (is_split_size k)

-- the same in the words of the subject
pub record Fitting (features k : ℕ) : Type 0 where
  pub of_split : bit packed_bit features ≡ 0 → SplitSize k
  pub of_packed : bit packed_bit features ≡ 1 → PackedSize k
