-- A request that passes over a queue that keeps its meaning is the plain service's, whatever the queue and the class.
use Rattle.std.proofs.Common.{◌≡◌, ℕ, ◌^◌, ◌<◌, ◌≤◌, true, List, length, get_or, is_ok, Some, None, Ok, Result, sym, refl, ap, ◌∙◌, subst, arith}
use Rattle.std.proofs.lemmas.Bool.{both_ways, ltb-false}
use Rattle.entries.specs.declared.refusals.Refusal.{Refusal}
use Rattle.entries.specs.declared.shapes.Entry.{Entry}
use Rattle.entries.specs.Legality.{last_tag, legal}
use Rattle.entries.specs.Refusals.{unless, kept}
use Rattle.entries.specs.Typed.{Typed}
use Rattle.class.specs.declared.requests.Reply.{Reply}
use Rattle.class.specs.Cells.{cell_size}
use Rattle.class.specs.Refusals.{serve_refusal}
use Rattle.class.specs.Kinds.{Asked, Sized, Service, Kind}
use Rattle.class.specs.Rules.{Effect, effect, effect_of, answered}
use Rattle.class.specs.Laws.{Lawful, Named}
use Rattle.queue.specs.declared.values.Stage.TheVariants.{Out, Held, Back}
use Rattle.queue.specs.Meaning.{Meaning}
use Rattle.queue.specs.Rules.{finished_of}
use Rattle.queue.specs.Laws.{Ops, Laws}
use Rattle.carrying.specs.Refusals.{refusal_for}
use Rattle.carrying.specs.Rules.{passed, moved_on}
use Rattle.carrying.specs.Stages.{Serves, ServesWhatIsTaken, TellsWhatIsCollected}
use Rattle.carrying.specs.Laws.{Carries}
use Rattle.carrying.proofs.Clear.{Clear, all_clear, serve_clear, read_clear}
use Rattle.carrying.proofs.Passing as P
use Rattle.carrying.proofs.Passing.{Idle, empty}

abbrev reply : ℕ → ℕ → Reply
reply s w = record { status = s; written = w }

abbrev given_of : ℕ → ℕ → Result Reply Refusal
given_of s w = Ok (reply s w)

module _ {Q : Type 0} (sound : Q → Type 0) (ops : Ops Q) (law : Laws sound ops) (kind : Kind) (lawful : Lawful kind)
    (t : ℕ) (r : Asked) (fit : Sized r) (q : Q) (s : sound q) (cell store : List ℕ) (none : refusal_for ops kind q t r cell store ≡ None) where
  abbrev e : Entry
  e = kind.entry t r

  abbrev m : Meaning
  m = ops.means q

  abbrev laid : List ℕ
  laid = kind.lays r cell

  abbrev service : Service
  service = kind.plain store r

  c : Clear (ops.capacity q) (ops.entries q Out) (ops.entries q Held) (ops.entries q Back) kind.longest kind.least (kind.refuses r) t cell store
  c = all_clear _ _ _ _ _ _ _ _ _ _ none

  tag_fits : t ≤ last_tag
  tag_fits = ltb-false last_tag t c.small_tag

  good : legal e ≡ true
  good = lawful.legal_entry t r tag_fits c.not_refused

  typed : Typed e
  typed = lawful.entry_typed t r tag_fits c.not_refused

  within : e.count ≤ m.capacity
  within =
      let a = lawful.within_longest t r in
      let b = law.reads_capacity q s in
      let d = c.roomy in
      omega arith

  idle : Idle m
  idle = record {
    no_out = empty m.out (sym (law.reads_entries q Out s) ∙ c.none_out);
    no_held = empty m.held (sym (law.reads_entries q Held s) ∙ c.none_held);
    no_back = empty m.back (sym (law.reads_entries q Back s) ∙ c.none_back);
  }

  pub published_ok : ops.publish_answer q e ≡ Ok tt
  published_ok = P.publish_accepted sound ops law q s e typed good within idle

  laid_whole : length laid ≡ cell_size
  laid_whole = lawful.lays_length r cell ∙ c.whole_cell

  may_serve : serve_refusal e.tag kind.least laid store ≡ None
  may_serve = ap (λ n. serve_refusal n kind.least laid store) (lawful.own_tag t r) ∙ serve_clear t kind.least laid store laid_whole c.good_store c.small_tag

  was_read : kind.reads e laid ≡ Some r
  was_read = lawful.reads_back t r cell fit c.not_refused c.whole_cell

  effect_is : effect kind e laid store ≡ answered kind service laid
  effect_is = ap (λ o. effect_of kind o laid store) was_read

  written_is : (effect kind e laid store).written ≡ service.answer.written
  written_is = ap (λ (x : Effect). x.written) effect_is

  -- over the device
  module _ (q1 q2 : Q) (laid_in served_in left : List ℕ) (told : Result (Unit {0}) Refusal) (at_q1 : q1 ≡ ops.published q e) (at_laid : laid_in ≡ laid)
      (serving : ServesWhatIsTaken ops kind q1 laid_in store told q2 served_in left) where
    serving_laid : ServesWhatIsTaken ops kind (ops.published q e) laid store told q2 served_in left
    serving_laid = subst (λ (x : Q). ServesWhatIsTaken ops kind x laid store told q2 served_in left) at_q1 (subst (λ (x : List ℕ). ServesWhatIsTaken ops kind q1 x store told q2 served_in left) at_laid serving)

    was_served : Serves ops kind e (ops.published q e) laid store told q2 served_in left
    was_served = serving_laid e (P.is_given sound ops law q s e typed good within idle) may_serve

    pub finished_ok : told ≡ Ok tt
    finished_ok = was_served.answer ∙ P.finish_accepted sound ops law q s e typed good within idle

    abbrev w : ℕ
    w = service.answer.written

    small : w < 2 ^ 32
    small = subst (λ n. n < 2 ^ 32) written_is was_served.small_written

    at_q2 : q2 ≡ ops.finished (ops.taken (ops.published q e)) w
    at_q2 = was_served.later_queue ∙ ap (ops.finished (ops.taken (ops.published q e))) written_is

    cell_is : served_in ≡ kind.answers service.answer laid
    cell_is = was_served.later_cell ∙ ap (λ (x : Effect). x.cell) effect_is

    store_is : left ≡ service.store
    store_is = was_served.later_store ∙ ap (λ (x : Effect). x.store) effect_is

    served_whole : length served_in ≡ cell_size
    served_whole = ap (λ (x : List ℕ). length x) was_served.later_cell ∙ lawful.serves_length e laid store ∙ laid_whole

    rest_stays : (i : ℕ) → (Named e i → ⊥) → get_or served_in i 0 ≡ get_or cell i 0
    rest_stays i h =
        ap (λ (x : List ℕ). get_or x i 0) was_served.later_cell
        ∙ lawful.serves_only_writable e laid store i (λ v. h (v.0, v.1, v.3))
        ∙ lawful.lays_only_named t r cell c.not_refused i h

    -- and back
    module _ (q3 : Q) (given : Result Reply Refusal) (at_q3 : q3 ≡ ops.collected q2) (telling : TellsWhatIsCollected ops kind q2 served_in given) where
      is_back : ops.collect_answer q2 ≡ Some (finished_of m.span e w)
      is_back = ap ops.collect_answer at_q2 ∙ P.is_back sound ops law q s e typed good within idle w small

      status_is : kind.status served_in ≡ service.answer.status
      status_is = ap kind.status cell_is ∙ lawful.shows_status r cell store fit c.not_refused c.whole_cell

      given_is : given ≡ given_of service.answer.status w
      given_is = telling (finished_of m.span e w) is_back (read_clear served_in served_whole) ∙ ap (λ x. given_of x w) status_is

      queue_is : q3 ≡ passed ops q e w
      queue_is = at_q3 ∙ ap ops.collected at_q2

      pub carries : Carries sound ops kind t r q cell store given q3 served_in left
      carries = record {
        by_the_service = record {
          plain_reply = given_is ∙ ap (λ o. unless o (reply service.answer.status w)) (sym none);
          plain_data = λ _. ap kind.shows cell_is ∙ lawful.shows_data r cell store fit c.not_refused c.whole_cell;
          plain_store = store_is ∙ ap (λ o. kept o store service.store) (sym none);
          nothing_else_touched = rest_stays;
          later_cell = cell_is ∙ ap (λ o. kept o cell (kind.answers service.answer laid)) (sym none);
          refusal_changes_nothing = λ h. absurd (both_ways true (ap is_ok (sym given_is) ∙ h) refl);
        };
        refusal_leaves_queue = λ h. absurd (both_ways true (ap is_ok (sym given_is) ∙ h) refl);
        later_queue = queue_is ∙ ap (λ o. kept o q (passed ops q e w)) (sym none);
        idle_again =
            let l = P.idle_again sound ops law q s e typed good within idle w small in
            record {
              meaning = ap ops.means queue_is ∙ l.meaning ∙ ap (λ o. kept o m (moved_on m e)) (sym none);
              still_sound = subst sound (sym queue_is) l.still_sound;
            };
      }
