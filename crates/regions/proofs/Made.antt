-- A made region holds its header, zeroes in its areas, and the rest as it was.
use Rattle.std.proofs.Common.{◌≡◌, ℕ, ◌+◌, ◌-◌, ◌<◌, ◌≤◌, true, false, List, length, get_or, replicate, sym, subst, arith}
use Rattle.std.proofs.lemmas.Grind.{common_steps}
use Rattle.std.proofs.lemmas.List.{length-replicate}
use Rattle.std.proofs.lemmas.Bool.Decides.{nat_tests}
use Rattle.words.specs.Numbers.{get}
use Rattle.words.proofs.Laid.{length-overwrite, byte_apart, byte_inside}
use Rattle.words.proofs.Widths.{length-put, reads_back, get_apart, get_zeroes, byte_put}
use Rattle.regions.specs.declared.making.Map.{Map}
use Rattle.regions.specs.Making.{header_size, mode_place, capacity_place, descriptor_place, driver_place, device_place, headed, zeroed, fits, prepared, Made, Drawn, TypedMap}

-- the header, number by number
module _ (map : Map) (xs : List ℕ) where
  length-headed : length (headed map xs) ≡ length xs
  unfolding headed
  length-headed = grind (arith, length-put)

  byte_headed : (i : ℕ) → header_size ≤ i → get_or (headed map xs) i 0 ≡ get_or xs i 0
  unfolding headed
  byte_headed i h = grind (arith, byte_put)

  module _ (typed : TypedMap map) (h : header_size ≤ length xs) where
    mode_of : get 2 (headed map xs) mode_place ≡ map.mode
    unfolding headed
    mode_of = grind (arith, get_apart, reads_back, length-put, typed.small_mode)

    capacity_of : get 2 (headed map xs) capacity_place ≡ map.capacity
    unfolding headed
    capacity_of = grind (arith, get_apart, reads_back, length-put, typed.small_capacity)

    descriptor_of : get 4 (headed map xs) descriptor_place ≡ header_size
    unfolding headed
    descriptor_of = grind (arith, get_apart, reads_back, length-put)

    driver_of : get 4 (headed map xs) driver_place ≡ map.driver_at
    unfolding headed
    driver_of = grind (arith, get_apart, reads_back, length-put, typed.small_driver)

    device_of : get 4 (headed map xs) device_place ≡ map.device_at
    unfolding headed
    device_of = grind (arith, get_apart, reads_back, length-put, typed.small_device)

length-zeroed : (map : Map) (xs : List ℕ) → length (zeroed map xs) ≡ length xs
unfolding zeroed
length-zeroed map xs = length-overwrite header_size _ xs

long : (map : Map) (xs : List ℕ) → fits map xs ≡ true → (header_size ≤ map.total) × (map.total ≤ length xs)
long map xs h = grind (arith, nat_tests)

pub length-prepared : (map : Map) (xs : List ℕ) → length (prepared map xs) ≡ length xs
length-prepared map xs = grind (arith, length-zeroed map xs, length-headed map (zeroed map xs))

-- where the region is long enough
module _ (map : Map) (xs : List ℕ) (h : fits map xs ≡ true) where
  byte_zero : (i : ℕ) → header_size ≤ i → i < map.total → get_or (zeroed map xs) i 0 ≡ 0
  unfolding zeroed
  byte_zero i a b =
      let w = long map xs h in
      grind (arith, common_steps, byte_inside header_size (replicate (map.total - header_size) 0) xs (i - header_size) 0)

  byte_rest : (i : ℕ) → map.total ≤ i → get_or (zeroed map xs) i 0 ≡ get_or xs i 0
  unfolding zeroed
  byte_rest i a = let w = long map xs h in grind (arith, byte_apart, length-replicate)

  pub zero_byte : (i : ℕ) → header_size ≤ i → i < map.total → get_or (prepared map xs) i 0 ≡ 0
  zero_byte i a b = grind (arith, common_steps, byte_headed map (zeroed map xs) i, byte_zero i)

  pub later_byte : (i : ℕ) → map.total ≤ i → get_or (prepared map xs) i 0 ≡ get_or xs i 0
  later_byte i a = let w = long map xs h in grind (arith, common_steps, byte_headed map (zeroed map xs) i, byte_rest i)

  -- a number in the areas is 0
  pub zero_word : (j p : ℕ) → header_size ≤ p → p + j ≤ map.total → get j (prepared map xs) p ≡ 0
  zero_word j p a b = search (arith, get_zeroes, zero_byte)

  made : TypedMap map → Made map xs (prepared map xs)
  made typed =
      let w = long map xs h in
      let l = length-zeroed map xs in
      let ys = zeroed map xs in
      record {
        same_length = length-prepared map xs;
        mode_stands = grind (arith, common_steps, mode_of map ys typed);
        capacity_stands = grind (arith, common_steps, capacity_of map ys typed);
        descriptors_after_header = grind (arith, common_steps, descriptor_of map ys typed);
        driver_offset_stands = grind (arith, common_steps, driver_of map ys typed);
        device_offset_stands = grind (arith, common_steps, device_of map ys typed);
        areas_zero = zero_byte;
        rest_stays = later_byte;
      }

too_short : (map : Map) (xs : List ℕ) → fits map xs ≡ false → prepared map xs ≡ xs
too_short map xs h = grind (arith, common_steps)

-- whatever a region comes to be that is so prepared
pub drawn : (map : Map) (xs ys : List ℕ) → TypedMap map → ys ≡ prepared map xs → Drawn map xs ys
drawn map xs ys typed e = subst (λ (zs : List ℕ). Drawn map xs zs) (sym e) (record { long_enough = λ h. made map xs h typed; too_short = too_short map xs })
