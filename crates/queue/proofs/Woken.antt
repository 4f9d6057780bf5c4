-- No wake-up is lost between an arm that finds nothing and the other side's next question.
use Rattle.std.proofs.Common.{◌≡◌, ℕ, ◌+◌, ◌%◌, ◌<◌, ◌≤◌, Bool, true, false, List, [], ◌∷◌, length, Some, None, Ok, Decides, Option, refl, ap, ◌∙◌, mod-lt, mod-eq_of_lt, arith}
use Rattle.std.proofs.lemmas.Grind.{common_steps}
use Rattle.std.proofs.lemmas.Bool.Decides.{nat_tests}
use Rattle.entries.specs.declared.refusals.Refusal.{Refusal}
use Rattle.entries.specs.declared.shapes.Entry.{Entry}
use Rattle.entries.specs.Refusals.{unless, kept}
use Rattle.positions.specs.Stretch.{stretch}
use Rattle.positions.proofs.Passed.{held_behind}
use Rattle.queue.specs.declared.calls.Call.{Call}
use Rattle.queue.specs.declared.calls.Call.TheVariants.{Publish, Take, Finish, Collect, Arm, Hush}
use Rattle.queue.specs.declared.values.Side.{Side}
use Rattle.queue.specs.declared.values.Side.TheVariants.{Driver, Device}
use Rattle.queue.specs.declared.values.Finished.{Finished}
use Rattle.queue.specs.Meaning.{Meaning, WellFormed, All, Spans, SpansBack, total, count_of, back_count, back_span, own_of, now_of, unseen}
use Rattle.queue.specs.Rules.{publish_refusal, appended, takes, finishes, collects, watches, mark_refusal, entries_of}
use Rattle.queue.specs.Laws.{Ops, Laws}
use Rattle.queue.specs.Calls.{after, after_all, inbox, work_in, Others, NoWakeUpLost}

-- sums of spans against counts and lengths
spans_within : (span : Entry → ℕ) (es : List Entry) → All (Spans span) es → (length es ≤ total span es) × (total span es ≤ total count_of es)
spans_within span [] a = grind arith
spans_within span (e ∷ es) a = grind (arith, spans_within span es a.1)

back_within : (fs : List Finished) → All SpansBack fs → (length fs ≤ total back_span fs) × (total back_span fs ≤ total back_count fs)
back_within [] a = grind arith
back_within (f ∷ fs) a = grind (arith, back_within fs a.1)

no_span : (span : Entry → ℕ) (es : List Entry) → length es ≡ 0 → total span es ≡ 0
no_span span es h = grind (arith, common_steps)

no_back_span : (fs : List Finished) → length fs ≡ 0 → total back_span fs ≡ 0
no_back_span fs h = grind (arith, common_steps)

-- what a side has not seen, from its own position up to now
record Ahead (m : Meaning) (s : Side) : Type 0 where
  pub own_below : own_of m s < m.modulus
  pub now_is : now_of m s ≡ (own_of m s + unseen m s) % m.modulus
  pub few : unseen m s < m.modulus
  pub some_seen : 0 < entries_of m (inbox s) → 0 < unseen m s
  pub none_seen : entries_of m (inbox s) ≡ 0 → unseen m s ≡ 0

ahead : (m : Meaning) (s : Side) → WellFormed m → Ahead m s
ahead m Driver w =
    let b = back_within m.back w.back_spans in
    let c = w.within_capacity in
    let k = w.modulus_above_capacity in
    record {
      own_below = w.collected_below;
      now_is = w.finished_is;
      few = omega arith;
      some_seen = λ h. omega arith;
      none_seen = no_back_span m.back;
    }
ahead m Device w =
    let b = spans_within m.span m.out w.out_legal in
    let c = w.within_capacity in
    let k = w.modulus_above_capacity in
    record {
      own_below = grind (arith, w.taken_is, mod-lt);
      now_is = w.published_is;
      few = omega arith;
      some_seen = λ h. omega arith;
      none_seen = no_span m.span m.out;
    }

-- the other side's calls leave a side where it is, watching what it watched
record Undisturbed (m later : Meaning) (s : Side) : Type 0 where
  pub own_stays : own_of later s ≡ own_of m s
  pub watch_stays : later.watch s ≡ m.watch s

published_by : (m : Meaning) (e : Entry) (o : Option Refusal) → Undisturbed m (kept o m (appended m e)) Device
published_by m e None = record { own_stays = refl; watch_stays = refl }
published_by m e (Some n) = record { own_stays = refl; watch_stays = refl }

collected_by : (m : Meaning) (back : List Finished) → Undisturbed m (collects back m) Device
collected_by m [] = record { own_stays = refl; watch_stays = refl }
collected_by m (f ∷ rest) = record { own_stays = refl; watch_stays = refl }

taken_by : (m : Meaning) (out : List Entry) → Undisturbed m (takes out m) Driver
taken_by m [] = record { own_stays = refl; watch_stays = refl }
taken_by m (e ∷ rest) = record { own_stays = refl; watch_stays = refl }

finished_by : (m : Meaning) (n : ℕ) (held : List Entry) → Undisturbed m (finishes held m n) Driver
finished_by m n [] = record { own_stays = refl; watch_stays = refl }
finished_by m n (e ∷ rest) = record { own_stays = refl; watch_stays = refl }

module _ {Q : Type 0} (sound : Q → Type 0) (ops : Ops Q) (law : Laws sound ops) where
  undisturbed : (q : Q) (s : Side) (c : Call) → sound q → Others s c → sound (after ops q c) × Undisturbed (ops.means q) (ops.means (after ops q c)) s
  undisturbed q Device (Publish e) x o = let l = law.publish_leaves q e x o in (l.still_sound, rw l.meaning (published_by _ e (publish_refusal (ops.means q) e)))
  undisturbed q Device Take x o = absurd o
  undisturbed q Device (Finish n) x o = absurd o
  undisturbed q Device Collect x o = let l = law.collect_leaves q x in (l.still_sound, rw l.meaning (collected_by _ (ops.means q).back))
  undisturbed q Device (Arm Driver) x o = let l = law.arm_leaves q Driver x in (l.still_sound, rw l.meaning (record { own_stays = refl; watch_stays = refl }))
  undisturbed q Device (Arm Device) x o = absurd o
  undisturbed q Device (Hush Driver) x o = let l = law.hush_leaves q Driver x in (l.still_sound, rw l.meaning (record { own_stays = refl; watch_stays = refl }))
  undisturbed q Device (Hush Device) x o = absurd o
  undisturbed q Driver (Publish e) x o = absurd o
  undisturbed q Driver Take x o = let l = law.take_leaves q x in (l.still_sound, rw l.meaning (taken_by _ (ops.means q).out))
  undisturbed q Driver (Finish n) x o = let l = law.finish_leaves q n x o in (l.still_sound, rw l.meaning (finished_by _ n (ops.means q).held))
  undisturbed q Driver Collect x o = absurd o
  undisturbed q Driver (Arm Driver) x o = absurd o
  undisturbed q Driver (Arm Device) x o = let l = law.arm_leaves q Device x in (l.still_sound, rw l.meaning (record { own_stays = refl; watch_stays = refl }))
  undisturbed q Driver (Hush Driver) x o = absurd o
  undisturbed q Driver (Hush Device) x o = let l = law.hush_leaves q Device x in (l.still_sound, rw l.meaning (record { own_stays = refl; watch_stays = refl }))

  all_undisturbed : (q : Q) (s : Side) (cs : List Call) → sound q → All (Others s) cs → sound (after_all ops q cs) × Undisturbed (ops.means q) (ops.means (after_all ops q cs)) s
  all_undisturbed q s [] x o = (x, record { own_stays = refl; watch_stays = refl })
  all_undisturbed q s (c ∷ cs) x o =
      let a = undisturbed q s c x o.0 in
      let b = all_undisturbed (after ops q c) s cs a.0 o.1 in
      (b.0, record { own_stays = b.1.own_stays ∙ a.1.own_stays; watch_stays = b.1.watch_stays ∙ a.1.watch_stays })

  -- a watched own position with something to see gives a yes
  yes_from_own : (q : Q) (s : Side) → sound q → (ops.means q).watch s (own_of (ops.means q) s) ≡ true → 0 < unseen (ops.means q) s
      → ops.wake_answer q s (own_of (ops.means q) s) ≡ Ok true
  yes_from_own q s x w some =
      let m = ops.means q in
      let own = own_of m s in
      let a = ahead m s (law.well_formed q x) in
      let held : stretch m.modulus own (now_of m s) own ≡ true = held_behind m.modulus own (now_of m s) own (unseen m s) (unseen m s) a.now_is a.now_is a.own_below a.own_below some (omega arith) a.few in
      let r = law.wake_answers q s own x in
      let yes : r.0 ≡ true = (r.2 a.own_below).1 (own, a.own_below, w, held) in
      let free : mark_refusal m own ≡ None = grind (arith, nat_tests, a.own_below) in
      r.1 ∙ ap (λ o. unless o r.0) free ∙ ap Ok yes

  no_wake_up_lost : (q : Q) (s : Side) → sound q → (ops.means q).watch s (own_of (ops.means q) s) ≡ true → unseen (ops.means q) s ≡ 0 → NoWakeUpLost ops q s
  no_wake_up_lost q s x w none cs o some =
      let p = after_all ops q cs in
      let u = all_undisturbed q s cs x o in
      let a = ahead (ops.means q) s (law.well_formed q x) in
      let here : now_of (ops.means q) s ≡ own_of (ops.means p) s = grind (arith, a.now_is, a.own_below, u.1.own_stays, mod-eq_of_lt) in
      let watched : (ops.means p).watch s (own_of (ops.means p) s) ≡ true = grind (arith, u.1.own_stays, u.1.watch_stays) in
      rw here (yes_from_own p s u.0 watched some)

  armed_own : (m : Meaning) (s : Side) (w : ℕ → Bool) → w (own_of m s) ≡ true → (watches m s w).watch s (own_of (watches m s w) s) ≡ true
  armed_own m Driver w h = h
  armed_own m Device w h = h

  -- right after an arm
  armed_watches : (q : Q) (s : Side) → sound q → (ops.means (ops.armed q s)).watch s (own_of (ops.means (ops.armed q s)) s) ≡ true
  armed_watches q s x = rw (law.arm_leaves q s x).meaning (armed_own (ops.means q) s (ops.armed_watch q s) (law.arm_watches_own q s x))

  -- whether there is work, by the count of the list that the side is to see
  sees_work : (q : Q) (s : Side) → sound q → Decides (work_in ops q s) (0 < unseen (ops.means q) s)
  sees_work q s x =
      let a = ahead (ops.means q) s (law.well_formed q x) in
      grind (arith, nat_tests, a.some_seen, a.none_seen, law.reads_entries q (inbox s) x)

  nothing_seen : (q : Q) (s : Side) → sound q → work_in ops q s ≡ false → unseen (ops.means q) s ≡ 0
  nothing_seen q s x h = grind (arith, common_steps, sees_work q s x)

  -- what an arm and the look after it promise
  pub armed_work : (q p : Q) (s : Side) → p ≡ ops.armed q s → sound q → Decides (work_in ops p s) (0 < unseen (ops.means p) s)
  armed_work q p s e x = rw e (sees_work (ops.armed q s) s (law.arm_leaves q s x).still_sound)

  pub armed_safely : (q p : Q) (s : Side) → p ≡ ops.armed q s → sound q → work_in ops p s ≡ false → NoWakeUpLost ops p s
  armed_safely q p s e x none =
      let y : sound p = rw e (law.arm_leaves q s x).still_sound in
      let w : (ops.means p).watch s (own_of (ops.means p) s) ≡ true = rw e (armed_watches q s x) in
      no_wake_up_lost p s y w (nothing_seen p s y none)
