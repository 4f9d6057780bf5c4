-- A suppression word leaves everything but itself.
use Rattle.std.proofs.Common.{◌≡◌, ℕ, ◌+◌, ◌%◌, ◌<◌, ◌≤◌, Bool, true, false, ◌≢◌, ◌⊎◌, refl, ap, ◌∙◌, inl, inr, mod-lt, arith}
use native.Mathlib.Nat.{mod-mod}
use Rattle.words.specs.Numbers.{get}
use Rattle.words.proofs.Widths.{length-put, get_apart, reads_back}
use Rattle.queue.specs.declared.values.Side.{Side}
use Rattle.queue.specs.declared.values.Side.TheVariants.{Driver, Device}
use Rattle.queue.proofs.Ends.{lists_kept, lists_watched}
use Rattle.split_ring.specs.Slots.{index_place, head_place, used_event_place, used_index_place, available_event_place, watch_place}
use Rattle.split_ring.specs.Ring.{Ring, with_word, word, meaning}
use Rattle.split_ring.specs.Sound.{view, layout, Holds, Live, Shape}
use Rattle.split_ring.proofs.Lending.{still_serves}
use Rattle.split_ring.proofs.Bytes.{same_descriptor, same_used}
use Rattle.split_ring.proofs.Holding.{meant, Agree, back_keeps, out_keeps, holds_spread}
use Rattle.split_ring.proofs.Beside.{aside}

module _ (r : Ring) (l : Live r) (g : Side) (n : ℕ) where
  abbrev s : Shape r
  s = l.shape

  abbrev h : Holds r l.back l.held l.out
  h = l.holds

  abbrev k : ℕ
  k = r.size

  abbrev p : ℕ
  p = watch_place r.events g k

  abbrev later : Ring
  later = with_word r g n

  positive : 0 < k
  positive = let x = s.serves.least in omega arith

  beside_index : (w q : ℕ) → index_place k ≤ q → q + w ≤ used_event_place k → get w later.bytes q ≡ get w r.bytes q
  beside_index w q a b = let x = (aside r.events g k).by_index in get_apart 2 w r.bytes p q n (grind arith)

  beside_useds : (w q : ℕ) → used_index_place k ≤ q → q + w ≤ available_event_place k → get w later.bytes q ≡ get w r.bytes q
  beside_useds w q a b = let x = (aside r.events g k).by_used in get_apart 2 w r.bytes p q n (grind arith)

  agree : Agree (view r) (view later) k h.cuts
  agree = record {
    descriptors = λ x a b.
        let y = mod-lt x positive in
        let z = (aside r.events g k).behind in
        same_descriptor r.bytes later.bytes (x % k) (λ w q f t. get_apart 2 w r.bytes p q n (inl (omega arith)));
    heads = λ x a b. let y = mod-lt x positive in beside_index 2 (head_place k (x % k)) (omega arith) (omega arith);
    useds = λ x a b. let y = mod-lt x positive in same_used k r.bytes later.bytes (x % k) (λ w q f t. beside_useds w q (omega arith) (omega arith));
    kept = λ x a b. refl;
  }

  pub later_shape : Shape later
  later_shape = record { serves = still_serves s.serves (length-put 2 r.bytes p n); whole = s.whole; chains_long = s.chains_long }

  pub later_holds : Holds later l.back l.held l.out
  later_holds =
      let sp = holds_spread r l in
      record {
        cuts = h.cuts;
        lists = lists_watched (layout (view later) k) k (meant r l) h.cuts
            (lists_kept (layout (view r) k) k (meant r l) h.cuts h.lists (layout (view later) k)
            (back_keeps (view r) (view later) k h.cuts (omega arith) agree) (out_keeps (view r) (view later) k h.cuts (omega arith) agree))
            (meaning later l.back l.held l.out).watch;
        collected_from = h.collected_from;
        finished_from = h.finished_from;
        taken_from = h.taken_from;
        published_from = h.published_from;
        index_is = beside_index 2 (index_place k) (omega arith) (omega arith) ∙ h.index_is;
        used_index_is = beside_useds 2 (used_index_place k) (omega arith) (omega arith) ∙ h.used_index_is;
      }

  abbrev pub word_lives : Live later
  word_lives = record { shape = later_shape; back = l.back; held = l.held; out = l.out; holds = later_holds }

  pub word_written : word later g ≡ n % 65536
  word_written =
      let a = (aside r.events g k).inside in
      let long = s.serves.long in
      ap (λ x. x % 65536) (reads_back 2 r.bytes p n (omega arith)) ∙ mod-mod n 65536

-- the other side's word
pub other_word : (r : Ring) (g f : Side) (n : ℕ) → f ≢ g → word (with_word r g n) f ≡ word r f
other_word r g f n ne = ap (λ x. x % 65536) (get_apart 2 2 r.bytes (watch_place r.events g r.size) (watch_place r.events f r.size) n (apart r.events g f ne))
  where
    apart : (b : Bool) (g f : Side) → f ≢ g → (watch_place b f r.size + 2 ≤ watch_place b g r.size) ⊎ (watch_place b g r.size + 2 ≤ watch_place b f r.size)
    apart true Driver Driver ne = absurd (ne refl)
    apart true Driver Device ne = inr (omega arith)
    apart true Device Driver ne = inl (omega arith)
    apart true Device Device ne = absurd (ne refl)
    apart false Driver Driver ne = absurd (ne refl)
    apart false Driver Device ne = inr (omega arith)
    apart false Device Driver ne = inl (omega arith)
    apart false Device Device ne = absurd (ne refl)
