-- What a stretch holds, in the words of the subject: the positions passed on the way. Assumes nothing.
use Rattle.std.specs.Prelude.{◌≡◌, ℕ, ◌+◌, ◌%◌, ◌<◌, Bool, Decides}

-- e is one of the s positions from a on
abbrev pub Passed : ℕ → ℕ → ℕ → ℕ → Type 0
Passed m a s e = (i : ℕ) × (i < s) × (e ≡ (a + i) % m)

-- r tells, of a position e, whether it was passed on the way from a to b, however long that way was below m
abbrev pub TellsPassed : ℕ → ℕ → ℕ → ℕ → Bool → Type 0
TellsPassed m a b e r = (s : ℕ) → s < m → a < m → e < m → b ≡ (a + s) % m → Decides r (Passed m a s e)
