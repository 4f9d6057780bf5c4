-- The test of wanted features says what it means, and the mode is the two bits read as a number.
use Rattle.std.proofs.Common.{◌≡◌, ℕ, ◌+◌, ◌*◌, ◌/◌, ◌^◌, ◌<◌, ◌≤◌, Bool, not, ◌&&◌, ◌||◌, eqb, ◌⊎◌, Decides, refl, inl, inr, arith, pow_mono}
use native.Mathlib.Nat.{div-eq_of_lt}
use Rattle.std.proofs.lemmas.Bool.{cases_lt}
use Rattle.std.proofs.lemmas.Grind.{common_steps}
use Rattle.std.proofs.lemmas.Bool.Decides.{Decides-and, Decides-like, nat_tests}
use Rattle.bringup.specs.Features.{bit, event_bit, version_bit, packed_bit, all_spoken, has_all, agreeable, Agreeable, mode_of}
use Rattle.bringup.specs.Modes.{mode_chosen, mode_number}
use Rattle.bringup.proofs.Bits.{has_decides, bit_decides, bit_off, each_below}

-- a bit that this engine speaks, and a test that every bit of the mask is one
abbrev Spoken : ℕ → Type 0
Spoken i = (i ≡ event_bit) ⊎ ((i ≡ version_bit) ⊎ (i ≡ packed_bit))

abbrev spoken : ℕ → Bool
spoken i = not (eqb (bit i all_spoken) 1) || (eqb i event_bit || (eqb i version_bit || eqb i packed_bit))

spoken_low : (i : ℕ) → i < 35 → bit i all_spoken ≡ 1 → Spoken i
spoken_low i h one = let t = each_below spoken 35 refl i h in grind (arith, nat_tests)

spoken_high : (i : ℕ) → 35 ≤ i → bit i all_spoken ≡ 1 → Spoken i
spoken_high i h one =
    let p : 2 ^ 35 ≤ 2 ^ i = pow_mono h in
    let z : all_spoken / 2 ^ i ≡ 0 = div-eq_of_lt (omega arith) in
    grind arith

bits_spoken : (i : ℕ) → bit i all_spoken ≡ 1 → Spoken i
bits_spoken i one = elim (cases_lt i 35) [ inl h ↦ spoken_low i h one | inr h ↦ spoken_high i h one ]

spoken_bits : (i : ℕ) → Spoken i → bit i all_spoken ≡ 1
spoken_bits i h = grind arith

-- what the three tests say one by one
abbrev Parts : ℕ → ℕ → Type 0
Parts offered wanted = ((i : ℕ) → bit i wanted ≡ 1 → bit i offered ≡ 1) × (((i : ℕ) → bit i wanted ≡ 1 → bit i all_spoken ≡ 1) × (bit version_bit wanted ≡ 1))

pub agreeable_decides : (offered wanted : ℕ) → Decides (agreeable offered wanted) (Agreeable offered wanted)
agreeable_decides offered wanted =
    Decides-like (agreeable offered wanted) there back
    (Decides-and (has_all offered wanted) (has_all all_spoken wanted && has_all wanted (2 ^ version_bit)) (has_decides offered wanted)
    (Decides-and (has_all all_spoken wanted) (has_all wanted (2 ^ version_bit)) (has_decides all_spoken wanted) (bit_decides version_bit wanted refl)))
  where
    there : Parts offered wanted → Agreeable offered wanted
    there p = record { each_offered = p.0; each_spoken = λ i one. bits_spoken i (p.1.0 i one); version_wanted = p.1.1 }

    back : Agreeable offered wanted → Parts offered wanted
    back a = (a.each_offered, (λ i one. spoken_bits i (a.each_spoken i one), a.version_wanted))

pub mode_bits : (f : ℕ) → mode_of f ≡ 2 * bit packed_bit f + bit event_bit f
mode_bits f = grind (arith, common_steps, bit_decides packed_bit f refl, bit_decides event_bit f refl, bit_off packed_bit f refl, bit_off event_bit f refl)

-- the mode that is chosen is that number
pub number_chosen : (f : ℕ) → mode_number (mode_chosen f) ≡ mode_of f
number_chosen f = grind (arith, common_steps)
