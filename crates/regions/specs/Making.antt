-- A region's header and its making: as a function of its bytes, and in the words of the subject. Assumes nothing.
use Rattle.std.specs.Prelude.{◌≡◌, ℕ, ◌-◌, ◌^◌, ◌<◌, ◌≤◌, Bool, true, false, cond, ◌&&◌, List, length, replicate, nat_le, slice_index}
use Rattle.words.specs.Bytes.{overwrite}
use Rattle.words.specs.Numbers.{get, put}
use Rattle.regions.specs.declared.making.Map.{Map}

-- the descriptor area starts right after the header
abbrev pub header_size : ℕ
header_size = 16

-- where the header's numbers stand: mode and capacity of two bytes, the offsets of the three areas of four
abbrev pub mode_place : ℕ
mode_place = 0

abbrev pub capacity_place : ℕ
capacity_place = 2

abbrev pub descriptor_place : ℕ
descriptor_place = 4

abbrev pub driver_place : ℕ
driver_place = 8

abbrev pub device_place : ℕ
device_place = 12

-- the header's numbers, written one after the other
abbrev pub numbered : Map → List ℕ → List ℕ
numbered map xs =
    let two_halves = put 2 (put 2 xs mode_place map.mode) capacity_place map.capacity in
    put 4 (put 4 (put 4 two_halves descriptor_place header_size) driver_place map.driver_at) device_place map.device_at

unfoldable pub headed : Map → List ℕ → List ℕ
headed map xs = numbered map xs

-- zeroes from the header to the total: the areas, and the gaps between them
unfoldable pub zeroed : Map → List ℕ → List ℕ
zeroed map xs = overwrite header_size (replicate (map.total - header_size) 0) xs

-- whether so many bytes are enough
abbrev pub room : Map → ℕ → Bool
room map n = nat_le header_size map.total && nat_le map.total n

abbrev pub fits : Map → List ℕ → Bool
fits map xs = room map (length xs)

abbrev pub prepared : Map → List ℕ → List ℕ
prepared map xs = cond (fits map xs) (headed map (zeroed map xs)) xs

-- the same in the words of the subject: what a region holds that was long enough
pub record Made (map : Map) (before after : List ℕ) : Type 0 where
  pub same_length : length after ≡ length before
  pub mode_stands : get 2 after mode_place ≡ map.mode
  pub capacity_stands : get 2 after capacity_place ≡ map.capacity
  pub descriptors_after_header : get 4 after descriptor_place ≡ header_size
  pub driver_offset_stands : get 4 after driver_place ≡ map.driver_at
  pub device_offset_stands : get 4 after device_place ≡ map.device_at
  pub areas_zero : (i : ℕ) → header_size ≤ i → i < map.total → slice_index after i ≡ 0
  pub rest_stays : (i : ℕ) → map.total ≤ i → slice_index after i ≡ slice_index before i

pub record Drawn (map : Map) (before after : List ℕ) : Type 0 where
  pub long_enough : fits map before ≡ true → Made map before after
  pub too_short : fits map before ≡ false → after ≡ before

-- what the types of its fields say of a map
pub record TypedMap (map : Map) : Type 0 where
  pub small_mode : map.mode < 2 ^ 16
  pub small_capacity : map.capacity < 2 ^ 16
  pub small_driver : map.driver_at < 2 ^ 32
  pub small_device : map.device_at < 2 ^ 32
