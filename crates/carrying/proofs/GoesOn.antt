-- A queue over which a request was carried is as roomy as it was, and idle again.
use Rattle.std.proofs.Common.{◌≡◌, ℕ, Bool, false, ltb, Some, None, Option, sym, refl, ap, ◌∙◌}
use Rattle.entries.specs.declared.refusals.Refusal.{Refusal}
use Rattle.entries.specs.declared.shapes.Entry.{Entry}
use Rattle.entries.specs.Refusals.{kept}
use Rattle.queue.specs.declared.values.Stage.TheVariants.{Out, Held, Back}
use Rattle.queue.specs.Meaning.{Meaning}
use Rattle.queue.specs.Rules.{entries_of}
use Rattle.queue.specs.Laws.{Ops, Laws, Leaves}
use Rattle.carrying.specs.Refusals.{any, holds_any}
use Rattle.carrying.specs.Rules.{moved_on}

-- whether the lists of a meaning have any entry
abbrev any_of : Meaning → Bool
any_of m = any (entries_of m Out) (entries_of m Held) (entries_of m Back)

same_capacity : (o : Option Refusal) (m : Meaning) (e : Entry) → (kept o m (moved_on m e)).capacity ≡ m.capacity
same_capacity None m e = refl
same_capacity (Some n) m e = refl

idle_once_more : (o : Option Refusal) (m : Meaning) (e : Entry) → any_of m ≡ false → any_of (kept o m (moved_on m e)) ≡ false
idle_once_more None m e h = refl
idle_once_more (Some n) m e h = h

module _ {Q : Type 0} (sound : Q → Type 0) (ops : Ops Q) (laws : Laws sound ops) where
  tells_any : (q : Q) → sound q → holds_any ops q ≡ any_of (ops.means q)
  tells_any q s =
      ap (λ n. any n (ops.entries q Held) (ops.entries q Back)) (laws.reads_entries q Out s)
      ∙ ap (λ n. any (entries_of (ops.means q) Out) n (ops.entries q Back)) (laws.reads_entries q Held s)
      ∙ ap (any (entries_of (ops.means q) Out) (entries_of (ops.means q) Held)) (laws.reads_entries q Back s)

  module _ (o : Option Refusal) (e : Entry) (q later : Q) (s : sound q) (l : Leaves sound ops.means later (kept o (ops.means q) (moved_on (ops.means q) e))) where
    pub as_roomy : (n : ℕ) → ltb (ops.capacity later) n ≡ ltb (ops.capacity q) n
    as_roomy n = ap (λ k. ltb k n)
        (laws.reads_capacity later l.still_sound ∙ ap (λ (m : Meaning). m.capacity) l.meaning ∙ same_capacity o (ops.means q) e ∙ sym (laws.reads_capacity q s))

    pub idle_after : holds_any ops q ≡ false → holds_any ops later ≡ false
    idle_after h = tells_any later l.still_sound ∙ ap any_of l.meaning ∙ idle_once_more o (ops.means q) e (sym (tells_any q s) ∙ h)
