use Rattle.std.proofs.Common.{arith}
use Rattle.std.proofs.lemmas.Bool.Decides.{nat_tests}
use Rattle.words.proofs.Laid.{length-part_le}
use Rattle.console.proofs.interface.ConsoleClass.serve.Goals as goal

pub append_line-requires-clause-short_line : goal.append_line-requires-clause-short_line
append_line-requires-clause-short_line c = grind (arith, nat_tests, length-part_le)
