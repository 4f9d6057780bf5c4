-- What each call does to a queue's meaning, and what it answers. What a rule does not name stays. Assumes nothing.
use Rattle.std.specs.Prelude.{◌≡◌, ℕ, ◌+◌, ◌%◌, ◌<◌, Bool, true, not, List, [], ◌∷◌, ◌++◌, length, Some, None, Option, nat_le, nat_lt}
use Rattle.entries.specs.declared.refusals.Refusal.{Refusal}
use Rattle.entries.specs.declared.refusals.Refusal.TheVariants.{BadEntry, BadMark, NoRoom, NothingHeld}
use Rattle.entries.specs.declared.shapes.Entry.{Entry}
use Rattle.entries.specs.Legality.{legal}
use Rattle.entries.specs.Refusals.{refuse, kept}
use Rattle.positions.specs.Stretch.{stretch}
use Rattle.queue.specs.declared.values.Side.{Side}
use Rattle.queue.specs.declared.values.Side.TheVariants.{Driver, Device}
use Rattle.queue.specs.declared.values.Position.{Position}
use Rattle.queue.specs.declared.values.Position.TheVariants as P
use Rattle.queue.specs.declared.values.Stage.{Stage}
use Rattle.queue.specs.declared.values.Stage.TheVariants.{Out, Held, Back}
use Rattle.queue.specs.declared.values.Finished.{Finished}
use Rattle.queue.specs.Meaning.{Meaning, with_lists, at_positions, with_watch, free, total, count_of, back_count, now_of}

abbrev pub oldest : {X : Type 0} → List X → Option X
oldest [] = None
oldest (x ∷ xs) = Some x

-- a position moved on by a span
abbrev pub on : Meaning → ℕ → ℕ → ℕ
on m p n = (p + n) % m.modulus

-- PUBLISH
abbrev pub publish_refusal : Meaning → Entry → Option Refusal
publish_refusal m e =
    refuse BadEntry (not (legal e))
    (refuse NoRoom (nat_lt (free m) e.count)
    None)

abbrev pub appended : Meaning → Entry → Meaning
appended m e =
    with_lists (m.out ++ (e ∷ [])) m.held m.back
    (at_positions (on m m.published (m.span e)) m.taken m.finished m.collected m)

abbrev pub publishes : Meaning → Entry → Meaning
publishes m e = kept (publish_refusal m e) m (appended m e)

-- TAKE, by what out holds
abbrev pub takes : List Entry → Meaning → Meaning
takes [] m = m
takes (e ∷ rest) m =
    with_lists rest (m.held ++ (e ∷ [])) m.back
    (at_positions m.published (on m m.taken (m.span e)) m.finished m.collected m)

-- FINISH, by what held holds
abbrev pub finish_refusal : List Entry → Option Refusal
finish_refusal [] = Some NothingHeld
finish_refusal (e ∷ rest) = None

abbrev pub finished_of : (Entry → ℕ) → Entry → ℕ → Finished
finished_of span e n = record { tag = e.tag; span = span e; count = e.count; written = n }

abbrev pub finishes : List Entry → Meaning → ℕ → Meaning
finishes [] m n = m
finishes (e ∷ rest) m n =
    with_lists m.out rest (m.back ++ (finished_of m.span e n ∷ []))
    (at_positions m.published m.taken (on m m.finished (m.span e)) m.collected m)

-- COLLECT, by what back holds
abbrev pub collects : List Finished → Meaning → Meaning
collects [] m = m
collects (f ∷ rest) m =
    with_lists m.out m.held rest
    (at_positions m.published m.taken m.finished (on m m.collected f.span) m)

-- ARM and HUSH: one side's watch is w from now on
abbrev pub if_driver : {A : Type 0} → Side → A → A → A
if_driver Driver a b = a
if_driver Device a b = b

abbrev pub rewatched : Side → (ℕ → Bool) → (Side → ℕ → Bool) → Side → ℕ → Bool
rewatched Driver w watch t = if_driver t w (watch Device)
rewatched Device w watch t = if_driver t (watch Driver) w

abbrev pub watches : Meaning → Side → (ℕ → Bool) → Meaning
watches m s w = with_watch (rewatched s w m.watch) m

-- THE WAKE-UP QUESTION for a receiver: a mark has to be a position; yes exactly when the receiver watches one of the positions
-- that the other side has passed since the mark
abbrev pub mark_refusal : Meaning → ℕ → Option Refusal
mark_refusal m mark =
    refuse BadMark (nat_le m.modulus mark)
    None

abbrev pub Wanted : Meaning → Side → ℕ → Type 0
Wanted m s mark = (p : ℕ) × (p < m.modulus) × (m.watch s p ≡ true) × (stretch m.modulus mark (now_of m s) p ≡ true)

-- WHAT CAN BE READ
abbrev pub position_of : Meaning → Position → ℕ
position_of m P.Published = m.published
position_of m P.Taken = m.taken
position_of m P.Finished = m.finished
position_of m P.Collected = m.collected

abbrev pub entries_of : Meaning → Stage → ℕ
entries_of m Out = length m.out
entries_of m Held = length m.held
entries_of m Back = length m.back

abbrev pub segments_of : Meaning → Stage → ℕ
segments_of m Out = total count_of m.out
segments_of m Held = total count_of m.held
segments_of m Back = total back_count m.back
