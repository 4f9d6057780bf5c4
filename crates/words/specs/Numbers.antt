-- Numbers in a list of bytes, the least byte first. Assumes nothing.
use Rattle.std.specs.Prelude.{ℕ, zero, suc, ◌+◌, ◌*◌, ◌/◌, ◌%◌, cond, List, [], ◌∷◌, length, ◌==◌}
use Rattle.words.specs.Bytes.{part, overwrite}

-- n as k bytes
unfoldable pub le : ℕ → ℕ → List ℕ
le zero n = []
le (suc k) n = n % 256 ∷ le k (n / 256)

-- the number that bytes write
unfoldable pub value : List ℕ → ℕ
value [] = 0
value (b ∷ bs) = b + 256 * value bs

-- the number of exactly k bytes; 0 for any others
unfoldable pub read : ℕ → List ℕ → ℕ
read k xs = cond (length xs == k) (value xs) 0

-- the number in the k bytes from at on; 0 where they are not all there
unfoldable pub get : ℕ → List ℕ → ℕ → ℕ
get k xs at = value (part at k xs)

-- n written as k bytes from at on
unfoldable pub put : ℕ → List ℕ → ℕ → ℕ → List ℕ
put k xs at n = overwrite at (le k n) xs
