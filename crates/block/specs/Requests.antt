-- The codes of block requests, and which requests are refused. Assumes nothing.
use Rattle.std.specs.Prelude.{ℕ, Bool, cond, not, ◌||◌, length, ◌==◌}
use Rattle.class.specs.Kinds.{Asked}

abbrev pub sector_size : ℕ
sector_size = 512

abbrev pub is_read : ℕ → Bool
is_read code = code == 0

abbrev pub is_write : ℕ → Bool
is_write code = code == 1

abbrev pub is_flush : ℕ → Bool
is_flush code = code == 4

-- a write without exactly 512 bytes of payload, another code with payload, a flush with a place other than 0
abbrev pub refused : Asked → Bool
refused r =
    cond (is_write r.code) (not (length r.payload == sector_size))
    (cond (is_flush r.code) (not (length r.payload == 0) || not (r.place == 0))
    (not (length r.payload == 0)))
