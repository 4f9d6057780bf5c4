-- Parts of a list of bytes. Assumes nothing.
use Rattle.std.specs.Prelude.{ℕ, ◌+◌, cond, List, [], ◌++◌, length, take, drop, nat_le}

-- the count bytes from at on; none where they are not all there
unfoldable pub part : ℕ → ℕ → List ℕ → List ℕ
part at count xs = cond (nat_le (at + count) (length xs)) (take count (drop at xs)) []

-- new in the place of as many bytes from at on; nothing changes where it does not all fit
unfoldable pub overwrite : ℕ → List ℕ → List ℕ → List ℕ
overwrite at new xs = cond (nat_le (at + length new) (length xs)) (take at xs ++ (new ++ drop (at + length new) xs)) xs
