-- A split ring keeps its meaning: the laws of every queue.
use Rattle.std.proofs.Common.{◌≡◌, ℕ, ◌+◌, ◌-◌, ◌%◌, ◌^◌, ◌<◌, ◌≤◌, Bool, true, false, cond, not, ◌&&◌, eqb, ltb, leb, ◌≢◌, List, [], ◌∷◌, Some, None, Decides, Option, Result, sym, refl, ap, ◌∙◌, subst, ap₂, mod-lt, arith}
use Rattle.std.proofs.lemmas.Bool.{eqb-true, eq-eqb, ne_eqb, ltb-true, ltb-false, lt-ltb, not-false}
use Rattle.words.specs.Numbers.{get}
use Rattle.entries.specs.declared.refusals.Refusal.{Refusal}
use Rattle.entries.specs.declared.refusals.Refusal.TheVariants.{BadEntry, BadMark, NoRoom, NothingHeld}
use Rattle.entries.specs.declared.shapes.Entry.{Entry}
use Rattle.entries.specs.Legality.{legal}
use Rattle.entries.specs.Refusals.{refuse, unless, kept}
use Rattle.entries.specs.Typed.{Typed}
use Rattle.entries.proofs.Judged.{legal_decides}
use Rattle.positions.specs.Stretch.{ahead, stretch}
use Rattle.positions.proofs.Passed.{of_positions}
use Rattle.queue.specs.declared.values.Side.{Side}
use Rattle.queue.specs.declared.values.Side.TheVariants.{Driver, Device}
use Rattle.queue.specs.declared.values.Position.{Position}
use Rattle.queue.specs.declared.values.Position.TheVariants as P
use Rattle.queue.specs.declared.values.Stage.{Stage}
use Rattle.queue.specs.declared.values.Stage.TheVariants.{Out, Held, Back}
use Rattle.queue.specs.declared.values.Finished.{Finished}
use Rattle.queue.specs.Meaning.{Meaning, with_watch, WellFormed, in_use, free, own_of, now_of}
use Rattle.queue.specs.Rules.{oldest, publish_refusal, appended, publishes, takes, finish_refusal, finishes, collects, rewatched, watches, mark_refusal, Wanted, position_of, entries_of, segments_of}
use Rattle.queue.specs.Laws.{Laws}
use Rattle.queue.proofs.Ends.{lists_well_formed}
use Rattle.split_ring.specs.declared.cursors.Cursor.{Cursor}
use Rattle.split_ring.specs.Cursors.{modulus, start}
use Rattle.split_ring.specs.Slots.{index_place, used_index_place}
use Rattle.split_ring.specs.Ring.{Ring, alive, capacity, modulus_of, busy, publish_refused, with_entry, has_out, oldest_out, with_taken, has_held, with_finished, has_back, oldest_back, with_collected, own, word, with_word, watch_by, come, rings_at, position_in, entries_in, segments_in, meaning, nothing, armed_watch_at, hushed_watch_at, ring_ops}
use Rattle.split_ring.specs.Sound.{view, layout, Live, Idle, ring_sound}
use Rattle.split_ring.proofs.Holding.{meant, orderly, busy_counted, entries_counted, segments_counted, no_out, no_held, no_back}
use Rattle.split_ring.proofs.Publishing.{publish_lives, publish_means}
use Rattle.split_ring.proofs.Moving.{take_finds, take_lives, collect_finds, collect_lives, collect_means}
use Rattle.split_ring.proofs.Finishing.{finish_lives, finish_means}
use Rattle.split_ring.proofs.Watching.{word_lives, word_written, other_word}
use Rattle.split_ring.proofs.Alive.{LeavesRing, live_leaves, idle_leaves, by_life, differ, agree, passed, both}

-- WELL-FORMED
live_formed : (r : Ring) (l : Live r) → WellFormed (meant r l)
live_formed r l =
    let top = l.shape.serves.most in
    lists_well_formed (layout (view r) r.size) r.size (meant r l) l.holds.cuts l.holds.lists (orderly (view r) r.size) (omega arith)

nothing_formed : WellFormed nothing
nothing_formed = record {
  modulus_above_capacity = omega arith;
  within_capacity = omega arith;
  spans = λ e h. (omega arith, ((legal_decides e).0 h).some_segment);
  out_legal = tt;
  held_legal = tt;
  back_spans = tt;
  collected_below = omega arith;
  finished_is = refl;
  taken_is = refl;
  published_is = refl;
}

-- PUBLISH
free_live : (r : Ring) (l : Live r) → alive r ≡ true → capacity r - busy r ≡ free (meant r l)
free_live r l a = ap₂ (λ (x y : ℕ). x - y) (ap (λ b. cond b r.size 0) a) (busy_counted r l)

free_idle : (r : Ring) → alive r ≡ false → capacity r - busy r ≡ free nothing
free_idle r a = let e : capacity r ≡ 0 = ap (λ b. cond b r.size 0) a in omega arith

same_refusal : (r : Ring) (m : Meaning) (e : Entry) → capacity r - busy r ≡ free m → publish_refused r e ≡ publish_refusal m e
same_refusal r m e f = ap (λ n. refuse BadEntry (not (legal e)) (refuse NoRoom (ltb n e.count) None)) f

-- an entry that is not refused is legal, and there is room for it
accepted : (m : Meaning) (e : Entry) → publish_refusal m e ≡ None → (legal e ≡ true) × (e.count ≤ free m)
accepted m e h =
    let a = passed BadEntry (not (legal e)) _ h in
    let b = passed NoRoom (ltb (free m) e.count) None a.1 in
    (not-false (legal e) a.0, ltb-false (free m) e.count b.0)

-- nothing is accepted where there is no room
idle_accepts : (e : Entry) → publish_refusal nothing e ≡ None → ⊥
idle_accepts e h =
    let g = accepted nothing e h in
    let some = ((legal_decides e).0 g.0).some_segment in
    let c = g.1 in omega arith

publish_live : (r : Ring) (l : Live r) (e : Entry) → Typed e → (o : Option Refusal) → publish_refusal (meant r l) e ≡ o → LeavesRing (kept o r (with_entry r e)) (kept o (meant r l) (appended (meant r l) e))
publish_live r l e t (Some n) h = live_leaves r (meant r l) l refl
publish_live r l e t None h =
    let g = accepted (meant r l) e h in
    let w = (live_formed r l).within_capacity in
    let some = ((legal_decides e).0 g.0).some_segment in
    let room : in_use (meant r l) + e.count ≤ r.size = let c = g.1 in omega arith in
    live_leaves (with_entry r e) (appended (meant r l) e) (publish_lives r l e g.0 t room) (publish_means r l e g.0 t room)

publish_idle : (r : Ring) → Idle r → alive r ≡ false → (e : Entry) (o : Option Refusal) → publish_refusal nothing e ≡ o → LeavesRing (kept o r (with_entry r e)) (kept o nothing (appended nothing e))
publish_idle r i a e (Some n) h = idle_leaves r r a i refl
publish_idle r i a e None h = absurd (idle_accepts e h)

publish_leaves : (r : Ring) (e : Entry) → ring_sound r → Typed e → LeavesRing (ring_ops.published r e) (publishes (ring_ops.means r) e)
publish_leaves r e s t = by_life r (λ (m : Meaning). LeavesRing (ring_ops.published r e) (publishes m e))
    (λ l a. subst (λ o. LeavesRing (kept o r (with_entry r e)) (publishes (meant r l) e)) (sym (same_refusal r (meant r l) e (free_live r l a))) (publish_live r l e t (publish_refusal (meant r l) e) refl))
    (λ i a. subst (λ o. LeavesRing (kept o r (with_entry r e)) (publishes nothing e)) (sym (same_refusal r nothing e (free_idle r a))) (publish_idle r i a e (publish_refusal nothing e) refl))
    s

publish_answers : (r : Ring) (e : Entry) → ring_sound r → ring_ops.publish_answer r e ≡ unless (publish_refusal (ring_ops.means r) e) tt
publish_answers r e s = by_life r (λ (m : Meaning). ring_ops.publish_answer r e ≡ unless (publish_refusal m e) tt)
    (λ l a. ap (λ o. unless o tt) (same_refusal r (meant r l) e (free_live r l a)))
    (λ i a. ap (λ o. unless o tt) (same_refusal r nothing e (free_idle r a)))
    s

-- TAKE
abbrev take_by : Ring → Bool → Ring
take_by r b = cond b (with_taken r) r

take_live : (r : Ring) (l : Live r) → alive r ≡ true → (xs : List Entry) → l.out ≡ xs → (ring_ops.take_answer r ≡ oldest xs) × LeavesRing (take_by r (has_out r)) (takes xs (meant r l))
take_live r l a [] o =
    let h : has_out r ≡ false = agree (alive r) r.taken.position _ r.published.position l.holds.index_is ((no_out r l).1 o) in
    (ap (λ b. cond b (Some (oldest_out r)) None) h, subst (λ b. LeavesRing (take_by r b) (meant r l)) (sym h) (live_leaves r (meant r l) l refl))
take_live r l a (e ∷ rest) o =
    let h : has_out r ≡ true = differ (alive r) r.taken.position _ r.published.position a l.holds.index_is (λ q. let z = (no_out r l).0 q in cc) in (
      ap (λ b. cond b (Some (oldest_out r)) None) h ∙ ap Some (take_finds r l e rest o),
      subst (λ b. LeavesRing (take_by r b) (takes (e ∷ rest) (meant r l))) (sym h)
          (live_leaves (with_taken r) (takes (e ∷ rest) (meant r l)) (take_lives r l e rest o) refl),
    )

-- FINISH
abbrev finish_by : Ring → ℕ → Bool → Ring
finish_by r n b = cond b (with_finished r n) r

abbrev finish_told : Bool → Result (Unit {0}) Refusal
finish_told b = unless (refuse NothingHeld (not b) None) tt

finish_live : (r : Ring) (l : Live r) → alive r ≡ true → (n : ℕ) → n < 2 ^ 32 → (xs : List Entry) → l.held ≡ xs → (finish_told (has_held r) ≡ unless (finish_refusal xs) tt) × LeavesRing (finish_by r n (has_held r)) (finishes xs (meant r l) n)
finish_live r l a n small [] o =
    let h : has_held r ≡ false = agree (alive r) r.finished.position _ r.taken.position refl ((no_held r l).1 o) in
    (ap finish_told h, subst (λ b. LeavesRing (finish_by r n b) (meant r l)) (sym h) (live_leaves r (meant r l) l refl))
finish_live r l a n small (e ∷ rest) o =
    let h : has_held r ≡ true = differ (alive r) r.finished.position _ r.taken.position a refl (λ q. let z = (no_held r l).0 q in cc) in (
      ap finish_told h,
      subst (λ b. LeavesRing (finish_by r n b) (finishes (e ∷ rest) (meant r l) n)) (sym h)
          (live_leaves (with_finished r n) (finishes (e ∷ rest) (meant r l) n) (finish_lives r l e rest o n small) (finish_means r l e rest o n small)),
    )

-- COLLECT
abbrev collect_by : Ring → Bool → Ring
collect_by r b = cond b (with_collected r) r

collect_live : (r : Ring) (l : Live r) → alive r ≡ true → (xs : List Finished) → l.back ≡ xs → (ring_ops.collect_answer r ≡ oldest xs) × LeavesRing (collect_by r (has_back r)) (collects xs (meant r l))
collect_live r l a [] o =
    let h : has_back r ≡ false = agree (alive r) r.collected.position _ r.finished.position l.holds.used_index_is ((no_back r l).1 o) in
    (ap (λ b. cond b (Some (oldest_back r)) None) h, subst (λ b. LeavesRing (collect_by r b) (meant r l)) (sym h) (live_leaves r (meant r l) l refl))
collect_live r l a (f ∷ rest) o =
    let h : has_back r ≡ true = differ (alive r) r.collected.position _ r.finished.position a l.holds.used_index_is (λ q. let z = (no_back r l).0 q in cc) in (
      ap (λ b. cond b (Some (oldest_back r)) None) h ∙ ap Some (collect_finds r l f rest o),
      subst (λ b. LeavesRing (collect_by r b) (collects (f ∷ rest) (meant r l))) (sym h)
          (live_leaves (with_collected r) (collects (f ∷ rest) (meant r l)) (collect_lives r l f rest o) (collect_means r l f rest o)),
    )

-- ARM and HUSH
-- one side's watch is w from now on, and the other's is as it was
rewatch : (m : Meaning) (g : Side) (w : ℕ → Bool) (f : Side → ℕ → Bool) → f g ≡ w → ((s : Side) → s ≢ g → f s ≡ m.watch s) → (s : Side) → f s ≡ rewatched g w m.watch s
rewatch m Driver w f own other Driver = own
rewatch m Driver w f own other Device = other Device (λ e. absurd cc)
rewatch m Device w f own other Driver = other Driver (λ e. absurd cc)
rewatch m Device w f own other Device = own

word_live : (r : Ring) (l : Live r) (g : Side) (n : ℕ) (w : ℕ → Bool) → watch_by r.events (word (with_word r g n) g) ≡ w → LeavesRing (with_word r g n) (watches (meant r l) g w)
word_live r l g n w e =
    let p = rewatch (meant r l) g w (meaning (with_word r g n) l.back l.held l.out).watch e (λ s ne. ap (watch_by r.events) (other_word r g s n ne)) in
    live_leaves (with_word r g n) (watches (meant r l) g w)
    (word_lives r l g n)
    (λ i. with_watch (λ s. p s i) (meant r l))

-- a side whose watch stays
same_watch : (m : Meaning) (g : Side) → m ≡ watches m g (m.watch g)
same_watch m g =
    let p = rewatch m g (m.watch g) m.watch refl (λ s ne. refl) in
    λ i. with_watch (λ s. p s i) m

own_below : (r : Ring) (l : Live r) (g : Side) → own r g < modulus
own_below r l Driver = omega arith
own_below r l Device = omega arith

come_below : (r : Ring) (l : Live r) (g : Side) → come r g < modulus
come_below r l Driver = omega arith
come_below r l Device = omega arith

armed_by : (b : Bool) (w o : ℕ) → w ≡ cond b o 0 % 65536 → o < 65536 → watch_by b w ≡ (λ p. cond b (eqb p o) true)
armed_by true w o e l = let z : w ≡ o = omega arith in ap (λ x p. eqb p x) z
armed_by false w o e l = ap (λ x p. eqb x 0) e

arm_live : (r : Ring) (l : Live r) (g : Side) → LeavesRing (with_word r g (cond r.events (own r g) 0)) (watches (meant r l) g (armed_watch_at true r g))
arm_live r l g =
    let n = cond r.events (own r g) 0 in
    word_live r l g n (armed_watch_at true r g) (armed_by r.events (word (with_word r g n) g) (own r g) (word_written r l g n) (own_below r l g))

hushed_by : (b : Bool) (w : ℕ) → b ≡ false → w ≡ 1 → watch_by b w ≡ (λ (p : ℕ). false)
hushed_by b w e h = ap₂ watch_by e h

hush_live : (r : Ring) (l : Live r) (g : Side) (b : Bool) → r.events ≡ b → LeavesRing (cond b r (with_word r g 1)) (watches (meant r l) g (λ p. cond b (watch_by r.events (word r g) p) false))
hush_live r l g true e = live_leaves r _ l (same_watch (meant r l) g)
hush_live r l g false e = word_live r l g 1 (λ p. false) (hushed_by r.events (word (with_word r g 1) g) e (word_written r l g 1))

own_is : (r : Ring) (l : Live r) (g : Side) → own_of (meant r l) g ≡ own r g
own_is r l Driver = refl
own_is r l Device = refl

own_none : (g : Side) → own_of nothing g ≡ 0
own_none Driver = refl
own_none Device = refl

armed_own : (b : Bool) (o : ℕ) → cond b (eqb o o) true ≡ true
armed_own true o = eq-eqb o o refl
armed_own false o = refl

-- THE WAKE-UP QUESTION
come_is : (r : Ring) (l : Live r) (g : Side) → now_of (meant r l) g ≡ come r g
come_is r l Driver = refl
come_is r l Device = refl

now_none : (g : Side) → now_of nothing g ≡ 0
now_none Driver = refl
now_none Device = refl

abbrev SomeIn : (ℕ → Bool) → ℕ → ℕ → Type 0
SomeIn watch mark to = (p : ℕ) × (p < modulus) × (watch p ≡ true) × (stretch modulus mark to p ≡ true)

rings_decide : (b : Bool) (w mark to : ℕ) → w < modulus → mark < modulus → to < modulus → Decides (rings_at b w mark to) (SomeIn (watch_by b w) mark to)
rings_decide true w mark to lw lm lt =
    let e = of_positions modulus mark to w lm lt lw in (
      (λ h. (w, lw, eq-eqb w w refl, sym e ∙ h)),
      (λ x. e ∙ subst (λ p. stretch modulus mark to p ≡ true) (eqb-true x.0 w x.2) x.3),
    )
rings_decide false w mark to lw lm lt = (
  (λ h.
      let c = both (eqb w 0) (not (eqb mark to)) h in
      let n = c.1 in
      (mark, lm, c.0, passes (differs mark to n))),
  (λ x.
      let g = ltb-true ((to + modulus - (x.0 + 1)) % modulus) ((to + modulus - mark) % modulus) x.3 in
      let n : eqb mark to ≡ false = ne_eqb mark to (λ e. omega arith) in
      ap₂ (λ (a b : Bool). a && not b) x.2 n),
)
  where
    differs : (a b : ℕ) → not (eqb a b) ≡ true → a ≡ b → ⊥
    differs a b h e = let q = eq-eqb a b e in let z = ap not (sym q) ∙ h in cc

    passes : (mark ≡ to → ⊥) → stretch modulus mark to mark ≡ true
    passes n = lt-ltb ((to + modulus - (mark + 1)) % modulus) ((to + modulus - mark) % modulus) (omega (arith, n))

wake_live : (r : Ring) (l : Live r) → alive r ≡ true → (g : Side) (mark : ℕ)
    → (b : Bool) × (ring_ops.wake_answer r g mark ≡ unless (mark_refusal (meant r l) mark) b) × (mark < modulus → Decides b (Wanted (meant r l) g mark))
wake_live r l a g mark =
    let w = word r g in
    let small : w < modulus = mod-lt _ (omega arith) in (
      rings_at r.events w mark (come r g),
      ap (λ b. unless (refuse BadMark (leb (cond b modulus 1) mark) None) (b && rings_at r.events w mark (come r g))) a,
      λ h. subst (λ t. Decides (rings_at r.events w mark (come r g)) (SomeIn (watch_by r.events w) mark t)) (sym (come_is r l g)) (rings_decide r.events w mark (come r g) small h (come_below r l g)),
    )

wake_idle : (r : Ring) → alive r ≡ false → (g : Side) (mark : ℕ)
    → (b : Bool) × (ring_ops.wake_answer r g mark ≡ unless (mark_refusal nothing mark) b) × (mark < 1 → Decides b (Wanted nothing g mark))
wake_idle r a g mark = (
  false,
  ap (λ b. unless (refuse BadMark (leb (cond b modulus 1) mark) None) (b && rings_at r.events (word r g) mark (come r g))) a,
  λ h. ((λ z. absurd cc), (λ x. let y = ltb-true ((now_of nothing g + 1 - (x.0 + 1)) % 1) ((now_of nothing g + 1 - mark) % 1) x.3 in absurd (omega arith))),
)

-- WHAT CAN BE READ
position_live : (r : Ring) (l : Live r) (p : Position) → position_in r p ≡ position_of (meant r l) p
position_live r l P.Published = refl
position_live r l P.Taken = refl
position_live r l P.Finished = refl
position_live r l P.Collected = refl

position_idle : (r : Ring) → Idle r → (p : Position) → position_in r p ≡ position_of nothing p
position_idle r i P.Published = cc
position_idle r i P.Taken = cc
position_idle r i P.Finished = cc
position_idle r i P.Collected = cc

-- between two cursors that have not moved there is nothing
gap : (field : Cursor → ℕ) (a b : Cursor) → field start ≡ 0 → a ≡ start → b ≡ start → ahead modulus (field a) (field b) ≡ 0
gap field a b z p q = ap₂ (λ (x y : Cursor). ahead modulus (field x) (field y)) p q ∙ ap (λ n. ahead modulus n n) z

entries_idle : (r : Ring) → Idle r → (s : Stage) → entries_in r s ≡ entries_of nothing s
entries_idle r i Out = gap (λ c. c.position) r.taken r.published refl i.taken_none i.published_none
entries_idle r i Held = gap (λ c. c.position) r.finished r.taken refl i.finished_none i.taken_none
entries_idle r i Back = gap (λ c. c.position) r.collected r.finished refl i.collected_none i.finished_none

segments_idle : (r : Ring) → Idle r → (s : Stage) → segments_in r s ≡ segments_of nothing s
segments_idle r i Out = gap (λ c. c.descriptor) r.taken r.published refl i.taken_none i.published_none
segments_idle r i Held = gap (λ c. c.descriptor) r.finished r.taken refl i.finished_none i.taken_none
segments_idle r i Back = gap (λ c. c.descriptor) r.collected r.finished refl i.collected_none i.finished_none

-- a ring that is not alive has nothing to give, and no call changes it
idle_out : (r : Ring) → alive r ≡ false → has_out r ≡ false
idle_out r a = ap (λ b. b && not (eqb r.taken.position (get 2 r.bytes (index_place r.size)))) a

idle_held : (r : Ring) → alive r ≡ false → has_held r ≡ false
idle_held r a = ap (λ b. b && not (eqb r.finished.position r.taken.position)) a

idle_back : (r : Ring) → alive r ≡ false → has_back r ≡ false
idle_back r a = ap (λ b. b && not (eqb r.collected.position (get 2 r.bytes (used_index_place r.size)))) a

pub idle_published : (e : Entry) (r : Ring) → alive r ≡ false → ring_ops.published r e ≡ r
idle_published e r a = subst (λ o. kept o r (with_entry r e) ≡ r) (sym (same_refusal r nothing e (free_idle r a))) (by (publish_refusal nothing e) refl)
  where
    by : (o : Option Refusal) → publish_refusal nothing e ≡ o → kept o r (with_entry r e) ≡ r
    by (Some n) h = refl
    by None h = absurd (idle_accepts e h)

pub idle_taken : (r : Ring) → alive r ≡ false → ring_ops.taken r ≡ r
idle_taken r a = ap (take_by r) (idle_out r a)

pub idle_finished : (n : ℕ) (r : Ring) → alive r ≡ false → ring_ops.finished r n ≡ r
idle_finished n r a = ap (finish_by r n) (idle_held r a)

pub idle_collected : (r : Ring) → alive r ≡ false → ring_ops.collected r ≡ r
idle_collected r a = ap (collect_by r) (idle_back r a)

pub idle_armed : (g : Side) (r : Ring) → alive r ≡ false → ring_ops.armed r g ≡ r
idle_armed g r a = ap (λ b. cond b (with_word r g (cond r.events (own r g) 0)) r) a

pub idle_hushed : (g : Side) (r : Ring) → alive r ≡ false → ring_ops.hushed r g ≡ r
idle_hushed g r a = ap (λ b. cond b (cond r.events r (with_word r g 1)) r) a

pub ring_laws : Laws ring_sound ring_ops
ring_laws = record {
  well_formed = λ r s. by_life r WellFormed (λ l a. live_formed r l) (λ i a. nothing_formed) s;
  publish_answers = publish_answers;
  publish_leaves = publish_leaves;
  take_answers = λ r s. by_life r (λ (m : Meaning). ring_ops.take_answer r ≡ oldest m.out)
      (λ l a. (take_live r l a l.out refl).0)
      (λ i a. ap (λ b. cond b (Some (oldest_out r)) None) (idle_out r a)) s;
  take_leaves = λ r s. by_life r (λ (m : Meaning). LeavesRing (ring_ops.taken r) (takes m.out m))
      (λ l a. (take_live r l a l.out refl).1)
      (λ i a. idle_leaves r _ a i (idle_taken r a)) s;
  finish_answers = λ r s. by_life r (λ (m : Meaning). ring_ops.finish_answer r ≡ unless (finish_refusal m.held) tt)
      (λ l a. (finish_live r l a 0 (omega arith) l.held refl).0)
      (λ i a. ap finish_told (idle_held r a)) s;
  finish_leaves = λ r n s small. by_life r (λ (m : Meaning). LeavesRing (ring_ops.finished r n) (finishes m.held m n))
      (λ l a. (finish_live r l a n small l.held refl).1)
      (λ i a. idle_leaves r _ a i (idle_finished n r a)) s;
  collect_answers = λ r s. by_life r (λ (m : Meaning). ring_ops.collect_answer r ≡ oldest m.back)
      (λ l a. (collect_live r l a l.back refl).0)
      (λ i a. ap (λ b. cond b (Some (oldest_back r)) None) (idle_back r a)) s;
  collect_leaves = λ r s. by_life r (λ (m : Meaning). LeavesRing (ring_ops.collected r) (collects m.back m))
      (λ l a. (collect_live r l a l.back refl).1)
      (λ i a. idle_leaves r _ a i (idle_collected r a)) s;
  arm_leaves = λ r g s. by_life r (λ (m : Meaning). LeavesRing (ring_ops.armed r g) (watches m g (ring_ops.armed_watch r g)))
      (λ l a. subst (λ b. LeavesRing (cond b (with_word r g (cond r.events (own r g) 0)) r) (watches (meant r l) g (armed_watch_at b r g))) (sym a) (arm_live r l g))
      (λ i a. subst (λ b. LeavesRing (cond b (with_word r g (cond r.events (own r g) 0)) r) (watches nothing g (armed_watch_at b r g))) (sym a)
      (subst (λ (m : Meaning). LeavesRing r m) (same_watch nothing g) (idle_leaves r r a i refl))) s;
  arm_watches_own = λ r g s. by_life r (λ (m : Meaning). ring_ops.armed_watch r g (own_of m g) ≡ true)
      (λ l a. ap (λ b. armed_watch_at b r g (own_of (meant r l) g)) a ∙ ap (armed_watch_at true r g) (own_is r l g) ∙ armed_own r.events (own r g))
      (λ i a. ap (λ b. armed_watch_at b r g (own_of nothing g)) a ∙ eq-eqb (own_of nothing g) 0 (own_none g)) s;
  hush_leaves = λ r g s. by_life r (λ (m : Meaning). LeavesRing (ring_ops.hushed r g) (watches m g (ring_ops.hushed_watch r g)))
      (λ l a. subst (λ b. LeavesRing (cond b (cond r.events r (with_word r g 1)) r) (watches (meant r l) g (hushed_watch_at b r g))) (sym a) (hush_live r l g r.events refl))
      (λ i a. subst (λ b. LeavesRing (cond b (cond r.events r (with_word r g 1)) r) (watches nothing g (hushed_watch_at b r g))) (sym a)
      (subst (λ (m : Meaning). LeavesRing r m) (same_watch nothing g) (idle_leaves r r a i refl))) s;
  wake_answers = λ r g mark s. by_life r (λ (m : Meaning). (b : Bool) × (ring_ops.wake_answer r g mark ≡ unless (mark_refusal m mark) b) × (mark < m.modulus → Decides b (Wanted m g mark)))
      (λ l a. wake_live r l a g mark) (λ i a. wake_idle r a g mark) s;
  reads_capacity = λ r s. by_life r (λ (m : Meaning). capacity r ≡ m.capacity) (λ l a. ap (λ b. cond b r.size 0) a) (λ i a. ap (λ b. cond b r.size 0) a) s;
  reads_modulus = λ r s. by_life r (λ (m : Meaning). modulus_of r ≡ m.modulus) (λ l a. ap (λ b. cond b modulus 1) a) (λ i a. ap (λ b. cond b modulus 1) a) s;
  reads_position = λ r p s. by_life r (λ (m : Meaning). position_in r p ≡ position_of m p) (λ l a. position_live r l p) (λ i a. position_idle r i p) s;
  reads_entries = λ r g s. by_life r (λ (m : Meaning). entries_in r g ≡ entries_of m g) (λ l a. entries_counted r l g) (λ i a. entries_idle r i g) s;
  reads_segments = λ r g s. by_life r (λ (m : Meaning). segments_in r g ≡ segments_of m g) (λ l a. segments_counted r l g) (λ i a. segments_idle r i g) s;
}
