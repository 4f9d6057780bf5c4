-- Remainders of numbers that count up: where positions and places meet, and where they keep apart.
use Rattle.std.proofs.Common.{◌≡◌, ℕ, ◌+◌, ◌%◌, ◌<◌, ◌≤◌, ◌≢◌, mod-lt, arith}
use native.Mathlib.Nat.{dvd_of_mod-eq-zero, mod-mod_of_dvd, mod-add-mod}
use Rattle.positions.specs.Stretch.{ahead}

-- of k numbers in a row no two have the same place
pub places_apart : (k i j : ℕ) → i < j → j < i + k → i % k ≢ j % k
places_apart k i j h l e = grind arith

-- a position below the modulus m has the place of the whole number, where k divides m
pub wrapped_place : (k m a : ℕ) → m % k ≡ 0 → a % m % k ≡ a % k
wrapped_place k m a h = mod-mod_of_dvd k a (dvd_of_mod-eq-zero k h)

-- and so it has when moved on
pub wrapped_place_on : (k m a n : ℕ) → m % k ≡ 0 → (a % m + n) % k ≡ (a + n) % k
wrapped_place_on k m a n h = grind (arith, mod-add-mod (a % m) k n, wrapped_place k m a h, mod-add-mod a k n)

-- numbers with the same place, moved on alike, have the same place
pub next_place : (k a b n : ℕ) → a % k ≡ b % k → (a + n) % k ≡ (b + n) % k
next_place k a b n e = grind (arith, mod-add-mod a k n, mod-add-mod b k n)

-- a position moved on is the position of the number moved on
pub moved_on : (m a n : ℕ) → (a % m + n) % m ≡ (a + n) % m
moved_on m a n = mod-add-mod a m n

-- a number up to m, moved on by n, lies n ahead
pub ahead_by : (m a n : ℕ) → a ≤ m → n < m → ahead m a ((a + n) % m) ≡ n
ahead_by m a n h k = grind arith

-- a position, moved on by n, lies n ahead
pub ahead_of : (m a n : ℕ) → n < m → ahead m (a % m) ((a + n) % m) ≡ n
ahead_of m a n h = let r : a % m < m = mod-lt a (omega arith) in grind (arith, moved_on m a n, ahead_by m (a % m) n)
