-- What the plain service makes of a store, in the words of a disk. Assumes nothing.
use Rattle.std.specs.Prelude.{◌≡◌, ℕ, true, false, List, [], length, ◌≢◌}
use Rattle.class.specs.Kinds.{Asked}
use Rattle.block.specs.Requests.{sector_size, is_write}
use Rattle.block.specs.Service.{has_sector, plain}

abbrev pub read : ℕ → Asked
read n = record { code = 0; place = n; payload = [] }

abbrev pub write : ℕ → List ℕ → Asked
write n bytes = record { code = 1; place = n; payload = bytes }

-- the store once these bytes are written to sector n
abbrev pub written : List ℕ → ℕ → List ℕ → List ℕ
written store n bytes = (plain store (write n bytes)).store

pub record Disk (store : List ℕ) : Type 0 where
  pub written_sector_reads_back : (n : ℕ) (bytes : List ℕ) → has_sector store n ≡ true → length bytes ≡ sector_size
      → (plain (written store n bytes) (read n)).answer ≡ record { status = 0; bytes = bytes; written = 513 }
  pub other_sectors_stay : (m n : ℕ) (bytes : List ℕ) → (m ≢ n) → length bytes ≡ sector_size
      → (plain (written store n bytes) (read m)).answer ≡ (plain store (read m)).answer
  pub missing_sector_takes_nothing : (n : ℕ) (bytes : List ℕ) → has_sector store n ≡ false → written store n bytes ≡ store
  pub only_writes_change : (r : Asked) → is_write r.code ≡ false → (plain store r).store ≡ store
