use Rattle.std.proofs.Common.{arith, rules}
use Rattle.std.proofs.lemmas.Bool.Decides.{nat_tests}
use Rattle.console.proofs.Grows.{counted}
use Rattle.console.proofs.stores.tally.Goals as goal

pub returns : goal.returns
returns c = record { counts = search rules; every_byte_counted = λ line sound. counted c.args.store.now line c.of.ensures.in_32_bits sound }

pub returns-in_err-check_store : goal.returns-in_err-check_store
returns-in_err-check_store c = record { counts = search rules; every_byte_counted = λ line sound. let never : ⊥ = grind (arith, nat_tests) in absurd never }
