-- Laying writes only what the entry names, and serving only what it lets the device write.
use Rattle.std.specs.Prelude.{◌≡◌, ℕ, ◌+◌, ◌*◌, ◌<◌, ◌≤◌, true, false, ◌||◌, ◌⊎◌, List, [], ◌∷◌, length, ◌≢◌, slice_index, refl}
use Rattle.std.proofs.Common.{sym, ap, subst, ◌∙◌, inl, inr, arith}
use Rattle.std.proofs.lemmas.Bool.{cases_lt, cases_Bool, cases_order}
use Rattle.std.proofs.lemmas.Bool.Decides.{nat_tests}
use Rattle.words.specs.Bytes.{overwrite}
use Rattle.words.specs.Numbers.{put}
use Rattle.words.proofs.Laid.{byte_apart, length-overwrite}
use Rattle.words.proofs.Widths.{byte_put}
use Rattle.entries.specs.declared.shapes.Segment.{Segment}
use Rattle.entries.specs.declared.shapes.Entry.{Entry}
use Rattle.entries.specs.Legality.{place}
use Rattle.entries.specs.Sameness.{same, Same}
use Rattle.entries.proofs.Judged.{same_decides}
use Rattle.class.specs.Kinds.{Asked, Answer}
use Rattle.class.specs.Rules.{effect}
use Rattle.class.specs.Laws.{Named, Writable}
use Rattle.class.proofs.Values.{by_stated}
use Rattle.block.specs.Requests.{is_read, is_write, refused}
use Rattle.block.specs.Layout.{entry_for, lay_header, lays, type_in, asked_in}
use Rattle.block.specs.Service.{plain, answers}
use Rattle.block.specs.Class.{block}
use Rattle.block.specs.Shapes.{within_longest, header_named, data_named, status_named, status_writable, data_writable}
use Rattle.block.specs.Header.{filling, no_filling, filling_fits, lays_is}
use Rattle.block.specs.Shown.{answers_is, answers_length, bytes_fit, other_bytes}

-- a byte that is neither the status nor in the data stays when both are written
beside : (i s : ℕ) (d cell : List ℕ) → (i ≢ 528) → (i < 16) ⊎ (16 + length d ≤ i) → slice_index (overwrite 528 (s ∷ []) (overwrite 16 d cell)) i ≡ slice_index cell i
beside i s d cell h k = byte_apart 528 (s ∷ []) (overwrite 16 d cell) i 0 (away (cases_order i 528)) ∙ byte_apart 16 d cell i 0 k
  where
    away : (i ≡ 528) ⊎ ((i < 528) ⊎ (528 < i)) → (i < 528) ⊎ (528 + 1 ≤ i)
    away (inl e) = absurd (h e)
    away (inr (inl e)) = inl e
    away (inr (inr e)) = inr (omega arith)

pub lays_only_named : (t : ℕ) (r : Asked) (cell : List ℕ) (i : ℕ) → refused r ≡ false → (Named (entry_for t r.code) i → ⊥) → slice_index (lays r cell) i ≡ slice_index cell i
lays_only_named t r cell i kept h =
    ap (λ (x : List ℕ). slice_index x i) (lays_is r cell)
    ∙ beside i 255 (filling r) (lay_header r cell) (λ e. h (subst (λ j. Named (entry_for t r.code) j) (sym e) (status_named t r.code))) (inr (past_data (cases_lt i 528)))
    ∙ byte_put 8 (put 4 (put 4 cell 0 r.code) 4 0) 8 r.place i 0 (inr (omega (arith, past_header)))
    ∙ byte_put 4 (put 4 cell 0 r.code) 4 0 i 0 (inr (omega (arith, past_header)))
    ∙ byte_put 4 cell 0 r.code i 0 (inr (omega (arith, past_header)))
  where
    past_header : 16 ≤ i
    past_header = elim (cases_lt i 16) [ inl l ↦ absurd (h (header_named t r.code i l)) | inr l ↦ l ]

    past_data : (i < 528) ⊎ (528 ≤ i) → 16 + length (filling r) ≤ i
    past_data (inr l) = let f = filling_fits r kept in omega arith
    past_data (inl l) = no_data (cases_Bool (is_read r.code || is_write r.code))
      where
        no_data : ((is_read r.code || is_write r.code) ≡ true) ⊎ ((is_read r.code || is_write r.code) ≡ false) → 16 + length (filling r) ≤ i
        no_data (inl d) = absurd (h (data_named t r.code i d past_header l))
        no_data (inr d) = omega (arith, past_header, ap (λ (x : List ℕ). length x) (no_filling r d))

-- an entry that is the same lets the same bytes be written
same_writable : (d e : Entry) (i : ℕ) → Same d e → e.count ≤ 3 → Writable e i → Writable d i
same_writable d e i s n w =
    let p = s.each_place w.0 (omega (arith, w.1)) in
    let t = s.same_tag in
    let x : (place d w.0).start ≡ (place e w.0).start = ap (λ (g : Segment). g.start) p in
    let y : (place d w.0).length ≡ (place e w.0).length = ap (λ (g : Segment). g.length) p in
    (w.0, omega (arith, s.same_count, w.1), ap (λ (g : Segment). g.writable) p ∙ w.2, (omega (arith, w.3.0), omega (arith, w.3.1)))

answers_only_writable : (t : ℕ) (a : Answer) (cell : List ℕ) (i : ℕ) → length a.bytes ≤ 512 → (is_read (type_in cell) ≡ false → a.bytes ≡ []) → (Writable (entry_for t (type_in cell)) i → ⊥) → slice_index (answers a cell) i ≡ slice_index cell i
answers_only_writable t a cell i n none h =
    ap (λ (x : List ℕ). slice_index x i) (answers_is a cell none)
    ∙ beside i a.status a.bytes cell
    (λ e. h (subst (λ j. Writable (entry_for t (type_in cell)) j) (sym e) (status_writable t (type_in cell))))
    (past_data (cases_lt i 16) (cases_lt i 528) (cases_Bool (is_read (type_in cell))))
  where
    past_data : (i < 16) ⊎ (16 ≤ i) → (i < 528) ⊎ (528 ≤ i) → (is_read (type_in cell) ≡ true) ⊎ (is_read (type_in cell) ≡ false) → (i < 16) ⊎ (16 + length a.bytes ≤ i)
    past_data (inl l) c d = inl l
    past_data (inr l) (inr k) d = inr (omega arith)
    past_data (inr l) (inl k) (inl d) = absurd (h (data_writable t (type_in cell) i d l k))
    past_data (inr l) (inl k) (inr d) = inr (omega (arith, ap (λ (x : List ℕ). length x) (none d)))

pub serves_only_writable : (e : Entry) (cell store : List ℕ) (i : ℕ) → (Writable e i → ⊥) → slice_index (effect block e cell store).cell i ≡ slice_index cell i
serves_only_writable e cell store i h = by_stated (λ x. slice_index x.cell i ≡ slice_index cell i) block (same e (entry_for e.tag (type_in cell))) (asked_in cell) cell store refl
    (λ q. answers_only_writable e.tag (plain store (asked_in cell)).answer cell i (bytes_fit store (asked_in cell)) (other_bytes store (asked_in cell))
    (λ w. h (same_writable e (entry_for e.tag (type_in cell)) i ((same_decides e (entry_for e.tag (type_in cell))).0 q) (within_longest e.tag (type_in cell)) w)))

pub serves_length : (e : Entry) (cell store : List ℕ) → length (effect block e cell store).cell ≡ length cell
serves_length e cell store = by_stated (λ x. length x.cell ≡ length cell) block (same e (entry_for e.tag (type_in cell))) (asked_in cell) cell store refl
    (λ _. answers_length (plain store (asked_in cell)).answer cell)

plain_length : (store : List ℕ) (r : Asked) → length (plain store r).store ≡ length store
plain_length store r = let l = length-overwrite (512 * r.place) r.payload store in grind (arith, nat_tests)

pub store_length : (e : Entry) (cell store : List ℕ) → length (effect block e cell store).store ≡ length store
store_length e cell store = by_stated (λ x. length x.store ≡ length store) block (same e (entry_for e.tag (type_in cell))) (asked_in cell) cell store refl
    (λ _. plain_length store (asked_in cell))
