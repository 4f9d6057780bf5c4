-- An entry that passes over an idle queue: published, taken, finished and collected.
use Rattle.std.proofs.Common.{◌≡◌, ℕ, ◌^◌, ◌<◌, ◌≤◌, true, not, ltb, List, [], ◌∷◌, ◌++◌, length, Some, None, Ok, refl, ap, ◌∙◌, arith}
use Rattle.std.proofs.lemmas.Bool.{cond-false, le-ltb}
use Rattle.entries.specs.declared.refusals.Refusal.TheVariants.{BadEntry, NoRoom}
use Rattle.entries.specs.declared.shapes.Entry.{Entry}
use Rattle.entries.specs.Legality.{legal}
use Rattle.entries.specs.Refusals.{unless, kept}
use Rattle.entries.specs.Typed.{Typed}
use Rattle.queue.specs.declared.values.Finished.{Finished}
use Rattle.queue.specs.Meaning.{Meaning, with_lists, at_positions, total, count_of, back_count, free}
use Rattle.queue.specs.Rules.{on, oldest, publish_refusal, appended, takes, finish_refusal, finishes, collects, finished_of}
use Rattle.queue.specs.Laws.{Ops, Laws, Leaves}
use Rattle.carrying.specs.Rules.{passed, moved_on}

pub record Idle (m : Meaning) : Type 0 where
  pub no_out : m.out ≡ []
  pub no_held : m.held ≡ []
  pub no_back : m.back ≡ []

pub empty : {X : Type 0} (xs : List X) → length xs ≡ 0 → xs ≡ []
empty [] h = refl
empty (x ∷ xs) h = absurd (omega arith)

-- the meaning m with other lists and positions
abbrev at : Meaning → List Entry → List Entry → List Finished → ℕ → ℕ → ℕ → ℕ → Meaning
at m out held back p t f c = with_lists out held back (at_positions p t f c m)

abbrev with_out : Meaning → Entry → Meaning
with_out m e = at m (e ∷ []) [] [] (on m m.published (m.span e)) m.taken m.finished m.collected

abbrev with_held : Meaning → Entry → Meaning
with_held m e = at m [] (e ∷ []) [] (on m m.published (m.span e)) (on m m.taken (m.span e)) m.finished m.collected

abbrev with_back : Meaning → Entry → ℕ → Meaning
with_back m e w = at m [] [] (finished_of m.span e w ∷ []) (on m m.published (m.span e)) (on m m.taken (m.span e)) (on m m.finished (m.span e)) m.collected

appended_one : (m : Meaning) (e : Entry) → Idle m → appended m e ≡ with_out m e
appended_one m e i =
    ap (λ (x : List Entry). at m (x ++ (e ∷ [])) m.held m.back (on m m.published (m.span e)) m.taken m.finished m.collected) i.no_out
    ∙ ap (λ (x : List Entry). at m (e ∷ []) x m.back (on m m.published (m.span e)) m.taken m.finished m.collected) i.no_held
    ∙ ap (λ (x : List Finished). at m (e ∷ []) [] x (on m m.published (m.span e)) m.taken m.finished m.collected) i.no_back

-- an idle queue has room for every entry within its capacity
room_for : (m : Meaning) (e : Entry) → Idle m → legal e ≡ true → e.count ≤ m.capacity → publish_refusal m e ≡ None
room_for m e i l k =
    let a = ap (λ (x : List Finished). total back_count x) i.no_back in
    let b = ap (λ (x : List Entry). total count_of x) i.no_held in
    let c = ap (λ (x : List Entry). total count_of x) i.no_out in
    let room : e.count ≤ free m = omega arith in
    cond-false (not (legal e)) (Some BadEntry) _ (ap not l) ∙ cond-false (ltb (free m) e.count) (Some NoRoom) None (le-ltb (free m) e.count room)

module _ {Q : Type 0} (sound : Q → Type 0) (ops : Ops Q) (law : Laws sound ops) where
  left_as : (q : Q) (m n : Meaning) → Leaves sound ops.means q m → m ≡ n → Leaves sound ops.means q n
  left_as q m n l p = record { meaning = l.meaning ∙ p; still_sound = l.still_sound }

  module _ (q : Q) (s : sound q) (e : Entry) (typed : Typed e) (good : legal e ≡ true) (within : e.count ≤ (ops.means q).capacity) (i : Idle (ops.means q)) where
    abbrev m : Meaning
    m = ops.means q

    abbrev q1 : Q
    q1 = ops.published q e

    abbrev q2 : Q
    q2 = ops.taken q1

    accepts : publish_refusal m e ≡ None
    accepts = room_for m e i good within

    pub publish_accepted : ops.publish_answer q e ≡ Ok tt
    publish_accepted = law.publish_answers q e s ∙ ap (λ o. unless o tt) accepts

    out_is : Leaves sound ops.means q1 (with_out m e)
    out_is = left_as q1 _ _ (law.publish_leaves q e s typed) (ap (λ o. kept o m (appended m e)) accepts ∙ appended_one m e i)

    pub is_given : ops.take_answer q1 ≡ Some e
    is_given = law.take_answers q1 out_is.still_sound ∙ ap (λ (x : Meaning). oldest x.out) out_is.meaning

    held_is : Leaves sound ops.means q2 (with_held m e)
    held_is = left_as q2 _ _ (law.take_leaves q1 out_is.still_sound) (ap (λ (x : Meaning). takes x.out x) out_is.meaning)

    pub finish_accepted : ops.finish_answer q2 ≡ Ok tt
    finish_accepted = law.finish_answers q2 held_is.still_sound ∙ ap (λ (x : Meaning). unless (finish_refusal x.held) tt) held_is.meaning

    module _ (w : ℕ) (small : w < 2 ^ 32) where
      abbrev q3 : Q
      q3 = ops.finished q2 w

      back_is : Leaves sound ops.means q3 (with_back m e w)
      back_is = left_as q3 _ _ (law.finish_leaves q2 w held_is.still_sound small) (ap (λ (x : Meaning). finishes x.held x w) held_is.meaning)

      pub is_back : ops.collect_answer q3 ≡ Some (finished_of m.span e w)
      is_back = law.collect_answers q3 back_is.still_sound ∙ ap (λ (x : Meaning). oldest x.back) back_is.meaning

      pub idle_again : Leaves sound ops.means (passed ops q e w) (moved_on m e)
      idle_again = left_as (passed ops q e w) _ _ (law.collect_leaves q3 back_is.still_sound) (ap (λ (x : Meaning). collects x.back x) back_is.meaning)
