-- Features as bits of a number: which may be agreed on, as a test and in the words of the subject, and the mode they give. Assumes nothing.
use Rattle.std.specs.Prelude.{◌≡◌, ℕ, ◌+◌, ◌/◌, ◌%◌, ◌^◌, Bool, cond, ◌&&◌, ◌⊎◌, ◌==◌, bit_and}

-- bit i of a number, 0 or 1
abbrev pub bit : ℕ → ℕ → ℕ
bit i n = n / 2 ^ i % 2

abbrev pub event_bit : ℕ
event_bit = 29

abbrev pub version_bit : ℕ
version_bit = 32

abbrev pub packed_bit : ℕ
packed_bit = 34

-- every feature that this engine speaks
abbrev pub all_spoken : ℕ
all_spoken = 2 ^ event_bit + 2 ^ version_bit + 2 ^ packed_bit

-- every bit of the mask is among the features
abbrev pub has_all : ℕ → ℕ → Bool
has_all features mask = bit_and features mask == mask

abbrev pub agreeable : ℕ → ℕ → Bool
agreeable offered wanted = has_all offered wanted && (has_all all_spoken wanted && has_all wanted (2 ^ version_bit))

-- the same in the words of the subject
pub record Agreeable (offered wanted : ℕ) : Type 0 where
  pub each_offered : (i : ℕ) → bit i wanted ≡ 1 → bit i offered ≡ 1
  pub each_spoken : (i : ℕ) → bit i wanted ≡ 1 → (i ≡ event_bit) ⊎ ((i ≡ version_bit) ⊎ (i ≡ packed_bit))
  pub version_wanted : bit version_bit wanted ≡ 1

-- 2 for the packed layout, and 1 more where both sides say when they want to be notified
abbrev pub mode_of : ℕ → ℕ
mode_of features = cond (has_all features (2 ^ packed_bit)) 2 0 + cond (has_all features (2 ^ event_bit)) 1 0
