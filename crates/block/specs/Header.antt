-- A request laid in a cell is read back from it.
use Rattle.std.specs.Prelude.{◌≡◌, ℕ, ◌+◌, ◌≤◌, Bool, true, false, cond, ◌||◌, List, [], ◌∷◌, length, replicate, Some, None}
use Rattle.std.proofs.Math.Path.{refl, sym}
use Rattle.std.proofs.Common.{ap, ◌∙◌, inl, arith, mod-eq_of_lt}
use Rattle.std.proofs.lemmas.List.{length-replicate, nil_from_length}
use Rattle.std.proofs.lemmas.Bool.Decides.{nat_tests}
use Rattle.words.specs.Bytes.{part, overwrite}
use Rattle.words.specs.Numbers.{get, put}
use Rattle.words.proofs.Laid.{overwrite_none, length-overwrite, part_of_same, part_apart}
use Rattle.words.proofs.Widths.{length-put, reads_back, get_apart, get_over}
use Rattle.entries.specs.Sameness.{same}
use Rattle.entries.proofs.Judged.{same_self}
use Rattle.class.specs.Kinds.{Asked, Sized}
use Rattle.class.proofs.Values.{same_asked}
use Rattle.block.specs.Requests.{is_read, is_write, refused}
use Rattle.block.specs.Layout.{entry_for, lay_header, lay_data, lays, type_in, asked_in, reads}
use Rattle.block.specs.Shapes.{own_tag}

-- what is laid as data, as one write
unfoldable pub filling : Asked → List ℕ
filling r = cond (is_read r.code) (replicate 512 0) (cond (is_write r.code) r.payload [])

pub no_filling : (r : Asked) → (is_read r.code || is_write r.code) ≡ false → filling r ≡ []
unfolding filling
no_filling r h = grind (arith, nat_tests)

data_is : (r : Asked) (cell : List ℕ) → lay_data r cell ≡ overwrite 16 (filling r) cell
unfolding filling
data_is r cell = by_type (is_read r.code) (is_write r.code)
  where
    by_type : (a b : Bool) → cond a (overwrite 16 (replicate 512 0) cell) (cond b (overwrite 16 r.payload cell) cell) ≡ overwrite 16 (cond a (replicate 512 0) (cond b r.payload [])) cell
    by_type true b = refl
    by_type false true = refl
    by_type false false = sym (overwrite_none 16 cell)

pub lays_is : (r : Asked) (cell : List ℕ) → lays r cell ≡ overwrite 528 (255 ∷ []) (overwrite 16 (filling r) (lay_header r cell))
lays_is r cell = ap (overwrite 528 (255 ∷ [])) (data_is r (lay_header r cell))

pub header_length : (r : Asked) (cell : List ℕ) → length (lay_header r cell) ≡ length cell
header_length r cell = length-put 8 _ 8 r.place ∙ length-put 4 _ 4 0 ∙ length-put 4 cell 0 r.code

pub lays_length : (r : Asked) (cell : List ℕ) → length (lays r cell) ≡ length cell
lays_length r cell = ap (λ (x : List ℕ). length x) (lays_is r cell) ∙ length-overwrite 528 (255 ∷ []) _ ∙ length-overwrite 16 (filling r) _ ∙ header_length r cell

-- the data of a request that is not refused fits its place
pub filling_fits : (r : Asked) → refused r ≡ false → length (filling r) ≤ 512
unfolding filling
filling_fits r h = let l = length-replicate {A = ℕ} 512 0 in grind (arith, nat_tests)

module _ (r : Asked) (cell : List ℕ) (fit : Sized r) (kept : refused r ≡ false) (whole : length cell ≡ 544) where
  -- a word of the header stays, whatever is written as data and status
  word_stays : (k at : ℕ) → at + k ≤ 16 → get k (lays r cell) at ≡ get k (lay_header r cell) at
  word_stays k at h = ap (λ (x : List ℕ). get k x at) (lays_is r cell) ∙ get_over k _ 528 at (255 ∷ []) (inl (omega arith)) ∙ get_over k _ 16 at (filling r) (inl h)

  pub type_laid : type_in (lays r cell) ≡ r.code
  type_laid =
      word_stays 4 0 (omega arith)
      ∙ get_apart 8 4 (put 4 (put 4 cell 0 r.code) 4 0) 8 0 r.place (inl (omega arith))
      ∙ get_apart 4 4 (put 4 cell 0 r.code) 4 0 0 (inl (omega arith))
      ∙ reads_back 4 cell 0 r.code (omega arith)
      ∙ mod-eq_of_lt fit.small_code

  sector_laid : get 8 (lays r cell) 8 ≡ r.place
  sector_laid =
      let l = length-put 4 (put 4 cell 0 r.code) 4 0 in
      let m = length-put 4 cell 0 r.code in
      word_stays 8 8 (omega arith)
      ∙ reads_back 8 (put 4 (put 4 cell 0 r.code) 4 0) 8 r.place (omega arith)
      ∙ mod-eq_of_lt fit.small_place

  data_laid : (d : List ℕ) → filling r ≡ d → length d ≡ 512 → part 16 512 (lays r cell) ≡ d
  data_laid d e l =
      let h = header_length r cell in
      ap (part 16 512) (lays_is r cell)
      ∙ part_apart 16 512 528 (255 ∷ []) (overwrite 16 (filling r) (lay_header r cell)) (inl (omega arith))
      ∙ ap (λ (f : List ℕ). part 16 512 (overwrite 16 f (lay_header r cell))) e
      ∙ part_of_same 16 512 d (lay_header r cell) (omega arith) l

  payload_laid : cond (is_write r.code) (part 16 512 (lays r cell)) [] ≡ r.payload
  unfolding filling
  payload_laid = by_write (is_write r.code) refl
    where
      by_write : (b : Bool) → is_write r.code ≡ b → cond b (part 16 512 (lays r cell)) [] ≡ r.payload
      by_write true e = data_laid r.payload (grind (arith, nat_tests)) (grind (arith, nat_tests))
      by_write false e = sym (nil_from_length r.payload (grind (arith, nat_tests)))

  pub request_laid : asked_in (lays r cell) ≡ r
  request_laid = same_asked _ _ _ r type_laid sector_laid (ap (λ n. cond (is_write n) (part 16 512 (lays r cell)) []) type_laid ∙ payload_laid)

  pub read_back : (t : ℕ) → reads (entry_for t r.code) (lays r cell) ≡ Some r
  read_back t =
      let e = entry_for t r.code in
      let stated : entry_for e.tag (type_in (lays r cell)) ≡ e = ap (λ x. entry_for x (type_in (lays r cell))) (own_tag t r.code) ∙ ap (entry_for t) type_laid in
      let sure : same e (entry_for e.tag (type_in (lays r cell))) ≡ true = ap (same e) stated ∙ same_self e in
      ap (λ b. cond b (Some (asked_in (lays r cell))) None) sure ∙ ap Some request_laid
