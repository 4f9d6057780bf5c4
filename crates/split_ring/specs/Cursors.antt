-- How far a move has come. Assumes nothing.
use Rattle.std.specs.Prelude.{ℕ, ◌+◌, ◌%◌}
use Rattle.positions.specs.Stretch.{ahead}
use Rattle.split_ring.specs.declared.cursors.Cursor.{Cursor}

-- positions of every split queue count round below this number
abbrev pub modulus : ℕ
modulus = 65536

abbrev pub start : Cursor
start = record { position = 0; descriptor = 0 }

-- past one entry of n segments: a span is 1
abbrev pub moved : Cursor → ℕ → Cursor
moved c n = record { position = (c.position + 1) % modulus; descriptor = (c.descriptor + n) % modulus }

-- how far b is past a
abbrev pub since : Cursor → Cursor → Cursor
since a b = record { position = ahead modulus a.position b.position; descriptor = ahead modulus a.descriptor b.descriptor }
