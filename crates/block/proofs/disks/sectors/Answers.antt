use Rattle.std.proofs.Common.{rules}
use Rattle.block.proofs.Kept.{disk}
use Rattle.block.proofs.disks.sectors.Goals as goal

pub returns : goal.returns
returns c = record { whole_sectors = search rules; keeps_what_is_written = disk c.args.store.now }

pub returns-in_err-check_store : goal.returns-in_err-check_store
returns-in_err-check_store c = record { whole_sectors = search rules; keeps_what_is_written = disk c.args.store.now }
