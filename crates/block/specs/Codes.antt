-- The operations by their codes, and the statuses by their numbers. Assumes nothing.
use Rattle.std.specs.Prelude.{ℕ, cond, Ok, Err, Result}
use Rattle.block.specs.declared.codes.Operation.{Operation}
use Rattle.block.specs.declared.codes.Operation.TheVariants.{Read, Write, Flush}
use Rattle.block.specs.declared.codes.Status.{Status}
use Rattle.block.specs.declared.codes.Status.TheVariants as S
use Rattle.block.specs.Requests.{is_read, is_write, is_flush}

abbrev pub code : Operation → ℕ
code Read = 0
code Write = 1
code Flush = 4

-- what a code asks for; any other is unsupported
abbrev pub operation : ℕ → Result Operation Status
operation n = cond (is_read n) (Ok Read) (cond (is_write n) (Ok Write) (cond (is_flush n) (Ok Flush) (Err S.Unsupported)))

abbrev pub number : Status → ℕ
number S.Ok = 0
number S.IoError = 1
number S.Unsupported = 2
