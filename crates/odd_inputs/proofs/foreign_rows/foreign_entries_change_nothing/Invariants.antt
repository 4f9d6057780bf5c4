-- Cell and store keep their lengths from row to row.
use Rattle.std.proofs.Common.{◌≡◌, length}
use Rattle.odd_inputs.proofs.foreign_rows.foreign_entries_change_nothing.Given as goal

abbrev pub invariant-loop-tag : goal.invariant-loop-tag
invariant-loop-tag g l = (length l.cell ≡ 544) × (length l.store ≡ 1024)
