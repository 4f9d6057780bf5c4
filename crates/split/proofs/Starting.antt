-- A queue as it is made keeps its meaning, whatever was lent and whatever was agreed.
use Rattle.std.proofs.Common.{◌≡◌, ℕ, ◌+◌, ◌%◌, ◌≤◌, Bool, true, false, cond, List, [], length, Ok, Err, Result, sym, refl, ap, ◌∙◌, subst, arith, MutBor}
use denote.Ref.{at_last}
use Rattle.std.proofs.lemmas.List.{length-replicate}
use Rattle.std.proofs.lemmas.Bool.Decides.{nat_tests}
use Rattle.words.specs.Numbers.{get}
use Rattle.regions.specs.Making.{fits, prepared}
use Rattle.regions.proofs.Made.{length-prepared, zero_word}
use Rattle.bringup.specs.declared.modes.Mode.{Mode}
use Rattle.bringup.specs.declared.states.Sized.{Sized}
use Rattle.bringup.specs.Capacities.{is_split_size}
use Rattle.bringup.proofs.Sizing.{split_size}
use Rattle.queue.specs.declared.values.Side.{Side}
use Rattle.queue.specs.Meaning.{with_watch}
use Rattle.queue.specs.Laws.{Leaves}
use Rattle.split_ring.specs.declared.region.Region.{Region}
use Rattle.split_ring.specs.declared.kept.Chain.{Chain}
use Rattle.split_ring.specs.Slots.{region_size, index_place, used_index_place, watch_place}
use Rattle.split_ring.specs.Lent.{Serves, serves}
use Rattle.split_ring.specs.Ring.{Ring, no_chain, watch_by, nothing}
use Rattle.split_ring.specs.Sound.{Idle}
use Rattle.split_ring.proofs.Lending.{serves_true, still_serves}
use Rattle.split_ring.proofs.Beside.{aside}
use Rattle.split_ring.proofs.Fresh.{fresh_holds}
use Rattle.split_ring.proofs.Alive.{LeavesRing, live_leaves, idle_leaves, both}
use Rattle.split.specs.declared.state.Split.{Split}
use Rattle.split.specs.Lent.{lent}
use Rattle.split.specs.State.{ring_of, idle, ring_in, split_sound, split_ops}
use Rattle.split.specs.Making.{split_map, is_split, for_split, suits, made_bytes, laid_out, started, state_of, made, fresh, made_meaning}

module _ (xs : List ℕ) (mode : Mode) (k : ℕ) (ok : suits xs mode k ≡ true) where
  parts : (for_split mode k ≡ true) × (fits (split_map mode k) xs ≡ true)
  parts = both (for_split mode k) (fits (split_map mode k) xs) ok

  bytes_are : made_bytes xs mode k ≡ prepared (split_map mode k) xs
  bytes_are = ap (λ b. cond b (prepared (split_map mode k) xs) xs) parts.0

  sizes : (4 ≤ k) × (k ≤ 1024) × (65536 % k ≡ 0)
  sizes = split_size k (both (is_split mode.layout) (is_split_size k) parts.0).1

  whole : region_size k ≤ length xs
  whole = enough parts.1
    where
      enough : fits (split_map mode k) xs ≡ true → region_size k ≤ length xs
      enough h = grind (arith, nat_tests)

  -- what suits serves, and so it does as it is laid out
  pub suits_serves : Serves k (made_bytes xs mode k)
  suits_serves = still_serves (record { least = sizes.0; most = sizes.1; long = whole }) (ap (λ (ys : List ℕ). length ys) bytes_are ∙ length-prepared (split_map mode k) xs)

  -- every number behind the header is 0
  zero : (p : ℕ) → 16 ≤ p → p + 2 ≤ region_size k → get 2 (made_bytes xs mode k) p ≡ 0
  zero p a b = ap (λ (ys : List ℕ). get 2 ys p) bytes_are ∙ zero_word (split_map mode k) xs parts.1 2 p a b

  zero_watch : (b : Bool) (s : Side) → get 2 (made_bytes xs mode k) (watch_place b s k) % 65536 ≡ 0
  zero_watch b s = let a = aside b s k in ap (λ n. n % 65536) (zero _ (omega arith) (omega arith))

  live_start : (r : MutBor (List ℕ)) (events : Bool) → r.now ≡ made_bytes xs mode k → LeavesRing (ring_of (started (record { bytes = r; capacity = k }) events)) (fresh k events)
  live_start r events e =
      let q : Ring = ring_of (started (record { bytes = r; capacity = k }) events) in
      let z : (s : Side) → get 2 r.now (watch_place events s k) % 65536 ≡ 0 = λ s. ap (λ (ys : List ℕ). get 2 ys (watch_place events s k) % 65536) e ∙ zero_watch events s in
      let at : (p : ℕ) → 16 ≤ p → p + 2 ≤ region_size k → get 2 r.now p ≡ 0 = λ p a b. ap (λ (ys : List ℕ). get 2 ys p) e ∙ zero p a b in
      live_leaves q (fresh k events)
      (record {
        shape = record { serves = subst (Serves k) (sym e) suits_serves; whole = sizes.2; chains_long = length-replicate {A = Chain} 1024 no_chain };
        back = [];
        held = [];
        out = [];
        holds = fresh_holds q unmoved (at (index_place k) (omega arith) (omega arith)) (at (used_index_place k) (omega arith) (omega arith));
      })
      (λ i. with_watch (λ s. watch_by events (z s i)) (fresh k events))
    where
      unmoved : Idle (ring_of (started (record { bytes = r; capacity = k }) events))
      unmoved = record { published_none = refl; taken_none = refl; finished_none = refl; collected_none = refl }

idle_start : (xs : List ℕ) → LeavesRing (idle xs) nothing
unfolding serves
idle_start xs = idle_leaves (idle xs) _ refl (record { published_none = refl; taken_none = refl; finished_none = refl; collected_none = refl }) refl

by_suits : (r : MutBor (List ℕ)) (mode : Mode) (k : ℕ) (events : Bool) (b : Bool) → suits r.now mode k ≡ b
    → LeavesRing (ring_in (state_of events (cond b (Ok (record { bytes = at_last r (made_bytes r.now mode k); capacity = k })) (Err (at_last r (made_bytes r.now mode k)))))) (cond b (fresh k events) nothing)
by_suits r mode k events true h = live_start r.now mode k h (at_last r (made_bytes r.now mode k)) events refl
by_suits r mode k events false h = idle_start (made_bytes r.now mode k)

made_leaves : (r : MutBor (List ℕ)) (s : Sized) → Leaves split_sound split_ops.means (made r s) (made_meaning r.now s)
made_leaves r s =
    let l = by_suits r s.mode s.capacity s.mode.events (suits r.now s.mode s.capacity) refl in
    record { meaning = l.meaning; still_sound = l.still_sound }

pub made_sound : (r : MutBor (List ℕ)) (s : Sized) (q : Split) → q ≡ made r s → split_sound q × (split_ops.means q ≡ made_meaning r.now s)
made_sound r s q e = (subst split_sound (sym e) (made_leaves r s).still_sound, ap split_ops.means e ∙ (made_leaves r s).meaning)

pub made_keeps : (r : MutBor (List ℕ)) (s : Sized) (q : Split) → q ≡ made r s → split_sound q
made_keeps r s q e = (made_sound r s q e).0

pub made_starts : (r : MutBor (List ℕ)) (s : Sized) (q : Split) → q ≡ made r s → split_ops.means q ≡ made_meaning r.now s
made_starts r s q e = (made_sound r s q e).1

-- bytes that suit are lent as they are laid out
pub suiting_bytes : (r : MutBor (List ℕ)) (mode : Mode) (k : ℕ) → suits r.now mode k ≡ true → lent (at_last r (made_bytes r.now mode k)) k ≡ laid_out r mode k
suiting_bytes r mode k h =
    let later : MutBor (List ℕ) = at_last r (made_bytes r.now mode k) in
    let whole : Result Region (MutBor (List ℕ)) = Ok (record { bytes = later; capacity = k }) in
    ap (λ b. cond b whole (Err later)) (serves_true (suits_serves r.now mode k h))
    ∙ sym (ap (λ b. cond b whole (Err later)) h)

-- where all suits, the queue has the capacity that was settled on, and room for the longest legal chain
pub made_fresh : (xs : List ℕ) (s : Sized) → suits xs s.mode s.capacity ≡ true → (made_meaning xs s ≡ fresh s.capacity s.mode.events) × (4 ≤ s.capacity)
made_fresh xs s ok = (ap (λ b. cond b (fresh s.capacity s.mode.events) nothing) ok, (sizes xs s.mode s.capacity ok).0)
