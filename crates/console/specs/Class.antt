-- The console class, put together. Assumes nothing.
use Rattle.std.specs.Prelude.{length}
use Rattle.class.specs.Kinds.{Kind}
use Rattle.console.specs.Requests.{refused}
use Rattle.console.specs.Layout.{entry_for, lays, reads}
use Rattle.console.specs.Service.{plain, answers, status, shows}

abbrev pub console : Kind
console = record {
  longest = 1;
  least = 8;
  refuses = refused;
  entry = λ t r. entry_for t (length r.payload);
  lays = lays;
  reads = reads;
  plain = plain;
  answers = answers;
  status = status;
  shows = shows;
}
