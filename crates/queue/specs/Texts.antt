-- What is written of a call's outcome. Assumes nothing.
use Rattle.std.specs.Prelude.{ℕ, List, ◌++◌, Some, None, Ok, Err, Option, Result, codes}
use Rattle.std.specs.Fmt.{decimal}
use Rattle.entries.specs.declared.refusals.Refusal.{Refusal}
use Rattle.entries.specs.declared.shapes.Entry.{Entry}
use Rattle.entries.specs.Refusals.{number}
use Rattle.queue.specs.declared.calls.Outcome.{Outcome}
use Rattle.queue.specs.declared.calls.Outcome.TheVariants.{Published, Took, Ended, Collected, Watching}
use Rattle.queue.specs.declared.values.Finished.{Finished}

-- a call that gives nothing, by its name
abbrev pub answer_text : List ℕ → Result (Unit {0}) Refusal → List ℕ
answer_text name (Ok u) = name
answer_text name (Err n) = name ++ (codes ": " ++ (codes "refused " ++ decimal (number n)))

abbrev pub taken_text : Option Entry → List ℕ
taken_text (Some e) = codes "take: tag " ++ (decimal e.tag ++ (codes ", " ++ (decimal e.count ++ codes " segments")))
taken_text None = codes "take: nothing"

abbrev pub collected_text : Option Finished → List ℕ
collected_text (Some f) = codes "collect: tag " ++ (decimal f.tag ++ (codes ", written " ++ decimal f.written))
collected_text None = codes "collect: nothing"

abbrev pub outcome_text : Outcome → List ℕ
outcome_text (Published a) = answer_text (codes "publish") a
outcome_text (Took o) = taken_text o
outcome_text (Ended a) = answer_text (codes "finish") a
outcome_text (Collected o) = collected_text o
outcome_text Watching = codes "watching"
