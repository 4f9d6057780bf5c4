-- The block class, put together. Assumes nothing.
use Rattle.class.specs.Kinds.{Kind}
use Rattle.block.specs.Requests.{sector_size, refused}
use Rattle.block.specs.Layout.{entry_for, lays, reads}
use Rattle.block.specs.Service.{plain, answers, status, shows}

abbrev pub block : Kind
block = record {
  longest = 3;
  least = sector_size;
  refuses = refused;
  entry = λ t r. entry_for t r.code;
  lays = lays;
  reads = reads;
  plain = plain;
  answers = answers;
  status = status;
  shows = shows;
}
