-- A disk keeps what is written to it.
use Rattle.std.proofs.Common.{◌≡◌, ℕ, ◌+◌, ◌*◌, ◌/◌, ◌<◌, ◌≤◌, Bool, true, false, cond, ltb, ◌⊎◌, List, [], length, replicate, sym, refl, ap, ◌∙◌, inl, inr, arith}
use Rattle.std.proofs.lemmas.Bool.{ltb-true, cases_order}
use Rattle.std.proofs.lemmas.Bool.Decides.{nat_tests}
use Rattle.words.specs.Bytes.{part, overwrite}
use Rattle.words.proofs.Laid.{length-overwrite, part_of_same, part_apart}
use Rattle.class.specs.Kinds.{Answer}
use Rattle.block.specs.Service.{has_sector, gives, plain}
use Rattle.block.specs.Disk.{read, written, Disk}

-- what a read of sector n answers, by whether it is there and by its bytes
abbrev told : Bool → List ℕ → Answer
told there bytes = cond there (record { status = 0; bytes = bytes; written = 513 }) (record { status = 1; bytes = replicate 512 0; written = 513 })

read_told : (store : List ℕ) (n : ℕ) → (plain store (read n)).answer ≡ told (has_sector store n) (part (512 * n) 512 store)
read_told store n = by_there (has_sector store n)
  where
    by_there : (b : Bool) → (cond b (gives store 0 (part (512 * n) 512 store) 513) (gives store 1 (replicate 512 0) 513)).answer ≡ told b (part (512 * n) 512 store)
    by_there true = refl
    by_there false = refl

written_there : (store : List ℕ) (n : ℕ) (bytes : List ℕ) → has_sector store n ≡ true → written store n bytes ≡ overwrite (512 * n) bytes store
written_there store n bytes h = ap (λ b. (cond b (gives (overwrite (512 * n) bytes store) 0 [] 1) (gives store 1 [] 1)).store) h

written_missing : (store : List ℕ) (n : ℕ) (bytes : List ℕ) → has_sector store n ≡ false → written store n bytes ≡ store
written_missing store n bytes h = ap (λ b. (cond b (gives (overwrite (512 * n) bytes store) 0 [] 1) (gives store 1 [] 1)).store) h

same_sectors : (store : List ℕ) (n m : ℕ) (bytes : List ℕ) → has_sector (overwrite (512 * n) bytes store) m ≡ has_sector store m
same_sectors store n m bytes = ap (λ k. ltb m (k / 512)) (length-overwrite (512 * n) bytes store)

reads_back : (store : List ℕ) (n : ℕ) (bytes : List ℕ) → has_sector store n ≡ true → length bytes ≡ 512 → (plain (written store n bytes) (read n)).answer ≡ told true bytes
reads_back store n bytes h l =
    let i = ltb-true n (length store / 512) h in
    ap (λ (s : List ℕ). (plain s (read n)).answer) (written_there store n bytes h)
    ∙ read_told (overwrite (512 * n) bytes store) n
    ∙ ap (λ b. told b (part (512 * n) 512 (overwrite (512 * n) bytes store))) (same_sectors store n n bytes ∙ h)
    ∙ ap (told true) (part_of_same (512 * n) 512 bytes store (omega arith) l)

others_stay : (store : List ℕ) (m n : ℕ) (bytes : List ℕ) → (m ≡ n → ⊥) → length bytes ≡ 512 → (b : Bool) → has_sector store n ≡ b → (plain (written store n bytes) (read m)).answer ≡ (plain store (read m)).answer
others_stay store m n bytes d l false h = ap (λ (s : List ℕ). (plain s (read m)).answer) (written_missing store n bytes h)
others_stay store m n bytes d l true h =
    ap (λ (s : List ℕ). (plain s (read m)).answer) (written_there store n bytes h)
    ∙ read_told (overwrite (512 * n) bytes store) m
    ∙ ap (λ b. told b (part (512 * m) 512 (overwrite (512 * n) bytes store))) (same_sectors store n m bytes)
    ∙ ap (told (has_sector store m)) (part_apart (512 * m) 512 (512 * n) bytes store (away (cases_order m n)))
    ∙ sym (read_told store m)
  where
    away : (m ≡ n) ⊎ ((m < n) ⊎ (n < m)) → (512 * m + 512 ≤ 512 * n) ⊎ (512 * n + length bytes ≤ 512 * m)
    away (inl e) = absurd (d e)
    away (inr (inl e)) = inl (omega arith)
    away (inr (inr e)) = inr (omega arith)

pub disk : (store : List ℕ) → Disk store
disk store = record {
  written_sector_reads_back = reads_back store;
  other_sectors_stay = λ m n bytes d l. others_stay store m n bytes d l (has_sector store n) refl;
  missing_sector_takes_nothing = written_missing store;
  only_writes_change = λ r h. grind (arith, nat_tests);
}
