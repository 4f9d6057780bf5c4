-- Which console requests are refused. Assumes nothing.
use Rattle.std.specs.Prelude.{ℕ, Bool, not, ◌&&◌, ◌||◌, length, ◌==◌, nat_le}
use Rattle.class.specs.Cells.{data_size}
use Rattle.class.specs.Kinds.{Asked}

-- a line has 1 to 512 bytes
abbrev pub sendable : ℕ → Bool
sendable n = nat_le 1 n && nat_le n data_size

-- a code or a place other than 0, or a payload that is no line
abbrev pub refused : Asked → Bool
refused r = not (r.code == 0) || (not (r.place == 0) || not (sendable (length r.payload)))
