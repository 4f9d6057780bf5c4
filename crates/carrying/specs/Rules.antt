-- What carrying a request leaves of the queue. Assumes nothing.
use Rattle.std.specs.Prelude.{ℕ, []}
use Rattle.entries.specs.declared.shapes.Entry.{Entry}
use Rattle.queue.specs.Meaning.{Meaning, with_lists, at_positions}
use Rattle.queue.specs.Rules.{on}
use Rattle.queue.specs.Laws.{Ops}

-- a queue over which the entry e has passed, finished with the length w
abbrev pub passed : {Q : Type 0} → Ops Q → Q → Entry → ℕ → Q
passed ops q e w = ops.collected (ops.finished (ops.taken (ops.published q e)) w)

-- what an idle queue means once e has passed: its lists are empty again, and each of the four has come on by e's span
abbrev pub moved_on : Meaning → Entry → Meaning
moved_on m e =
    let n = m.span e in
    with_lists [] [] [] (at_positions (on m m.published n) (on m m.taken n) (on m m.finished n) (on m m.collected n) m)
