-- What the plain service answers is what the cell shows.
use Rattle.std.specs.Prelude.{◌≡◌, ℕ, ◌*◌, ◌/◌, ◌≤◌, Bool, true, false, cond, List, [], ◌∷◌, length, replicate, refl}
use Rattle.std.proofs.Common.{sym, ap, ◌∙◌, inl, arith}
use Rattle.std.proofs.lemmas.List.{length-replicate}
use Rattle.std.proofs.lemmas.Bool.{cond_both, ltb-true}
use Rattle.std.proofs.lemmas.Bool.Decides.{nat_tests}
use Rattle.words.specs.Bytes.{part, overwrite}
use Rattle.words.proofs.Laid.{overwrite_none, length-overwrite, length_part, part_of_same, part_apart, byte_same}
use Rattle.words.proofs.Widths.{get_over}
use Rattle.class.specs.Kinds.{Asked, Answer, Service, Sized}
use Rattle.block.specs.Requests.{is_read, refused}
use Rattle.block.specs.Layout.{lays, type_in}
use Rattle.block.specs.Service.{has_sector, gives, plain_read, plain, answers, status, shows}
use Rattle.block.specs.Header.{lays_length, type_laid}

-- the answer in the cell as two writes, where there is data only for a read
pub answers_is : (a : Answer) (cell : List ℕ) → (is_read (type_in cell) ≡ false → a.bytes ≡ []) → answers a cell ≡ overwrite 528 (a.status ∷ []) (overwrite 16 a.bytes cell)
answers_is a cell none = ap (overwrite 528 (a.status ∷ [])) (by_read (is_read (type_in cell)) refl)
  where
    by_read : (b : Bool) → is_read (type_in cell) ≡ b → cond b (overwrite 16 a.bytes cell) cell ≡ overwrite 16 a.bytes cell
    by_read true e = refl
    by_read false e = sym (overwrite_none 16 cell) ∙ ap (λ (d : List ℕ). overwrite 16 d cell) (sym (none e))

data_length : (b : Bool) (d cell : List ℕ) → length (cond b (overwrite 16 d cell) cell) ≡ length cell
data_length true d cell = length-overwrite 16 d cell
data_length false d cell = refl

pub answers_length : (a : Answer) (cell : List ℕ) → length (answers a cell) ≡ length cell
answers_length a cell = length-overwrite 528 (a.status ∷ []) _ ∙ data_length (is_read (type_in cell)) a.bytes cell

pub status_shown : (a : Answer) (cell : List ℕ) → length cell ≡ 544 → status (answers a cell) ≡ a.status
status_shown a cell h = let l = data_length (is_read (type_in cell)) a.bytes cell in byte_same 528 a.status (cond (is_read (type_in cell)) (overwrite 16 a.bytes cell) cell) 0 (omega arith)

-- a read answers 512 bytes, any other type none
pub read_bytes : (store : List ℕ) (n : ℕ) → length (plain_read store n).answer.bytes ≡ 512
read_bytes store n = cond_both (has_sector store n) (gives store 0 (part (512 * n) 512 store) 513) (gives store 1 (replicate 512 0) 513) (λ s. length s.answer.bytes ≡ 512)
    (λ e. let l = ltb-true n (length store / 512) e in length_part (512 * n) 512 store (omega arith)) (λ _. length-replicate {A = ℕ} 512 0)

pub other_bytes : (store : List ℕ) (r : Asked) → is_read r.code ≡ false → (plain store r).answer.bytes ≡ []
other_bytes store r h = grind (arith, nat_tests)

pub bytes_fit : (store : List ℕ) (r : Asked) → length (plain store r).answer.bytes ≤ 512
bytes_fit store r = by_read (is_read r.code) refl
  where
    by_read : (b : Bool) → is_read r.code ≡ b → length (plain store r).answer.bytes ≤ 512
    by_read true e = let l = read_bytes store r.place in let s : plain store r ≡ plain_read store r.place = grind (arith, nat_tests) in omega (arith, ap (λ (x : Service). length x.answer.bytes) s)
    by_read false e = omega (arith, ap (λ (x : List ℕ). length x) (other_bytes store r e))

module _ (r : Asked) (cell store : List ℕ) (fit : Sized r) (kept : refused r ≡ false) (whole : length cell ≡ 544) where
  abbrev bytes : List ℕ
  bytes = (plain store r).answer.bytes

  abbrev after : List ℕ
  after = answers (plain store r).answer (lays r cell)

  type_laid_in : type_in (lays r cell) ≡ r.code
  type_laid_in = type_laid r cell fit kept whole

  after_is : after ≡ overwrite 528 ((plain store r).answer.status ∷ []) (overwrite 16 bytes (lays r cell))
  after_is = answers_is (plain store r).answer (lays r cell) (λ e. other_bytes store r (ap is_read (sym type_laid_in) ∙ e))

  type_stays : type_in after ≡ r.code
  type_stays =
      ap type_in after_is
      ∙ get_over 4 _ 528 0 ((plain store r).answer.status ∷ []) (inl (omega arith))
      ∙ get_over 4 (lays r cell) 16 0 bytes (inl (omega arith))
      ∙ type_laid_in

  by_read : (b : Bool) → is_read r.code ≡ b → cond b (part 16 512 after) [] ≡ bytes
  by_read false e = sym (other_bytes store r e)
  by_read true e =
      let l = lays_length r cell in
      let s : plain store r ≡ plain_read store r.place = grind (arith, nat_tests) in
      let n : length bytes ≡ 512 = ap (λ (x : Service). length x.answer.bytes) s ∙ read_bytes store r.place in
      ap (part 16 512) after_is
      ∙ part_apart 16 512 528 ((plain store r).answer.status ∷ []) (overwrite 16 bytes (lays r cell)) (inl (omega arith)) ∙ part_of_same 16 512 bytes (lays r cell) (omega arith) n

  pub data_shown : shows after ≡ bytes
  data_shown = ap (λ n. cond (is_read n) (part 16 512 after) []) type_stays ∙ by_read (is_read r.code) refl
