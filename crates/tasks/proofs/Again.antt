-- A sector that is written and then read holds the same bytes, whatever way the two requests go.
use Rattle.std.proofs.Common.{◌≡◌, ℕ, Bool, true, false, not, ◌&&◌, eqb, leb, List, length, is_ok, None, Ok, Option, refl, ap, ◌∙◌}
use Rattle.entries.specs.declared.refusals.Refusal.{Refusal}
use Rattle.entries.specs.declared.refusals.Refusal.TheVariants.{GroupSize, CellSize, StoreSize, BadRequest, BadEntry, QueueInUse}
use Rattle.entries.specs.Refusals.{refuse}
use Rattle.class.specs.Cells.{is_cell}
use Rattle.class.specs.Kinds.{Asked, Answer}
use Rattle.class.specs.Refusals.{is_store, read_refusal}
use Rattle.class.specs.Rules.{carried_by, data_of}
use Rattle.class.specs.Laws.{GoesOn}
use Rattle.class.proofs.Carries.{accepted}
use Rattle.block.specs.Requests.{refused}
use Rattle.block.specs.Service.{has_sector, plain, shows}
use Rattle.block.specs.Disk.{read, write, written}
use Rattle.block.specs.Class.{block}
use Rattle.block.proofs.Kept.{disk}
use Rattle.tasks.specs.Steps.{refusal_on, Stepped, Free}

-- a request by its values, as a function of its code
abbrev pub asks : ℕ → List ℕ → ℕ → Asked
asks place payload code = record { code = code; place = place; payload = payload }

passes : (n : Refusal) (b : Bool) (o : Option Refusal) → b ≡ false → o ≡ None → refuse n b o ≡ None
passes n b o h e = ap (λ x. refuse n x o) h ∙ e

-- nothing refuses a request of tag 0 that its class carries, on a free way, on a whole cell and a store
none_fits : (too_small : ℕ → Bool) (in_use : Bool) (r : Asked) (cell store : List ℕ) → Free too_small in_use → refused r ≡ false → is_cell cell ≡ true → is_store 512 store ≡ true
    → refusal_on too_small in_use block 0 r cell store ≡ None
none_fits too_small in_use r cell store y b c s =
    passes GroupSize _ _ y.room
    (passes CellSize _ _ (ap not c)
    (passes StoreSize _ _ (ap not s)
    (passes BadRequest _ _ b
    (passes BadEntry _ _ refl
    (passes QueueInUse _ _ y.idle refl)))))

module _ {W : Type 0} (sound : W → Type 0) (too_small : W → ℕ → Bool) (in_use : W → Bool) (w w₁ : W) (y : Free (too_small w) (in_use w)) (on : GoesOn sound too_small in_use w w₁)
    (cell store board : List ℕ) (n : ℕ) (whole : is_cell cell ≡ true) (sized : is_store 512 store ≡ true) (there : has_sector store n ≡ true) (long : length board ≡ 512)
    (writes reads : Asked) (asks_to_write : writes ≡ write n board) (asks_to_read : reads ≡ read n)
    (cell₁ store₁ cell₂ store₂ shown : List ℕ) (same_cell : length cell₁ ≡ length cell) (same_store : length store₁ ≡ length store)
    (wrote : Stepped (refusal_on (too_small w) (in_use w) block 0 writes cell store) block 0 writes cell store cell₁ store₁)
    (fetched : Stepped (refusal_on (too_small w₁) (in_use w₁) block 0 reads cell₁ store₁) block 0 reads cell₁ store₁ cell₂ store₂)
    (given : Ok shown ≡ data_of block cell₂) where
  write_carried : refused (write n board) ≡ false
  write_carried = ap (λ k. not (eqb k 512)) long

  write_free : refusal_on (too_small w) (in_use w) block 0 writes cell store ≡ None
  write_free = none_fits (too_small w) (in_use w) writes cell store y (ap refused asks_to_write ∙ write_carried) whole sized

  was_written : store₁ ≡ written store n board
  was_written =
      wrote.1.plain_store
      ∙ ap (λ o. (carried_by o block writes cell store).store) write_free
      ∙ ap (λ (r : Asked). (plain store r).store) asks_to_write

  still_free : Free (too_small w₁) (in_use w₁)
  still_free = record { room = on.same_room 3 ∙ y.room; idle = on.free_again y.idle }

  read_free : refusal_on (too_small w₁) (in_use w₁) block 0 reads cell₁ store₁ ≡ None
  read_free = none_fits (too_small w₁) (in_use w₁) reads cell₁ store₁ still_free (ap refused asks_to_read)
      (ap (λ k. eqb k 544) same_cell ∙ whole) (ap (λ k. leb 512 k && leb k 4294967296) same_store ∙ sized)

  answered : is_ok fetched.0 ≡ true
  answered = ap is_ok (fetched.1.plain_reply ∙ ap (λ o. (carried_by o block reads cell₁ store₁).answer) read_free)

  pub found : shown ≡ board
  found =
      (accepted (read_refusal cell₂) shown (shows cell₂) given).1
      ∙ fetched.1.plain_data answered
      ∙ ap (λ (r : Asked). (plain store₁ r).answer.bytes) asks_to_read
      ∙ ap (λ (s : List ℕ). (plain s (read n)).answer.bytes) was_written
      ∙ ap (λ (a : Answer). a.bytes) ((disk store).written_sector_reads_back n board there long)

  -- reading leaves what was written
  pub kept_on : store₂ ≡ written store n board
  kept_on =
      fetched.1.plain_store
      ∙ ap (λ o. (carried_by o block reads cell₁ store₁).store) read_free
      ∙ ap (λ (r : Asked). (plain store₁ r).store) asks_to_read
      ∙ (disk store₁).only_writes_change (read n) refl
      ∙ was_written
