-- Finish on a ring in which lists lie: the oldest held becomes the newest in the used ring.
use Rattle.std.proofs.Common.{◌≡◌, ℕ, ◌+◌, ◌%◌, ◌^◌, ◌<◌, ◌≤◌, ◌⊎◌, List, [], ◌∷◌, ◌++◌, refl, ap, ◌∙◌, ap₂, inl, inr, mod-lt, arith}
use native.Mathlib.Nat.{mod-mod}
use Rattle.words.specs.Numbers.{get}
use Rattle.entries.specs.declared.shapes.Entry.{Entry}
use Rattle.entries.proofs.Judged.{legal_decides}
use Rattle.positions.proofs.Modulo.{places_apart, moved_on}
use Rattle.queue.specs.declared.values.Side.{Side}
use Rattle.queue.specs.Meaning.{with_watch, Meaning, count_of}
use Rattle.queue.specs.Rules.{finishes, finished_of}
use Rattle.queue.specs.Lists.{Cuts, grow_back}
use Rattle.queue.proofs.Runs.{run_forward}
use Rattle.queue.proofs.Ends.{lists_finish, lists_watched, held_first}
use Rattle.split_ring.specs.declared.rings.UsedElement.{UsedElement}
use Rattle.split_ring.specs.Cursors.{modulus, moved}
use Rattle.split_ring.specs.Slots.{index_place, head_place, used_index_place, available_event_place, descriptor_at, head_at, used_at, put_used, watch_place}
use Rattle.split_ring.specs.Ring.{Ring, chain_at, one, slot, with_finished, held_head, held_count, head_in, word, watch_by, meaning}
use Rattle.split_ring.specs.Sound.{view, EntryLies, FinishedLies, layout, Holds, Live, Shape}
use Rattle.split_ring.proofs.Lending.{still_serves}
use Rattle.split_ring.proofs.Bytes.{length-used, beside_used, same_descriptor, other_used, used_back, used_index_back}
use Rattle.split_ring.proofs.Holding.{meant, Agree, back_keeps, out_keeps, holds_spread, holds_narrow, same_slot}
use Rattle.split_ring.proofs.Beside.{aside}

module _ (r : Ring) (l : Live r) (e : Entry) (rest : List Entry) (o : l.held ≡ e ∷ rest) (n : ℕ) (small : n < 2 ^ 32) where
  abbrev s : Shape r
  s = l.shape

  abbrev h : Holds r l.back l.held l.out
  h = l.holds

  abbrev k : ℕ
  k = r.size

  abbrev c : Cuts
  c = h.cuts

  abbrev m : Meaning
  m = meant r l

  abbrev later : Ring
  later = with_finished r n

  abbrev j : ℕ
  j = c.p1 % k

  abbrev u : UsedElement
  u = record { head = c.d1 % k; written = n }

  abbrev i : ℕ
  i = (moved r.finished (held_count r)).position

  abbrev zs : List ℕ
  zs = put_used k r.bytes j u i

  positive : 0 < k
  positive = let x = s.serves.least in omega arith

  lies : EntryLies (view r) k c.d1 c.p1 e
  lies = (held_first (layout (view r) k) k m c h.lists e rest o).0

  slot_is : slot r r.finished ≡ j
  slot_is = same_slot r l c.p1 r.finished.position h.lists.finished_at

  head_is : held_head r ≡ c.d1 % k
  head_is = ap (head_in r) slot_is ∙ ap (λ x. x % k) lies.head_is ∙ mod-mod c.d1 k

  count_is : held_count r ≡ e.count
  count_is = ap (λ x. (chain_at r x).count) head_is ∙ lies.count_is

  bytes_are : later.bytes ≡ zs
  bytes_are = ap₂ (λ (a b : ℕ). put_used k r.bytes a (record { head = b; written = n }) i) slot_is head_is

  j_below : j < k
  j_below = mod-lt c.p1 positive

  -- numbers in front of the used ring, and behind it
  before : (w p : ℕ) → p + w ≤ used_index_place k → get w zs p ≡ get w r.bytes p
  before w p t = beside_used k r.bytes j u i w p (inl t) (inl (omega arith))

  behind : (w p : ℕ) → available_event_place k ≤ p → get w zs p ≡ get w r.bytes p
  behind w p t = let b = j_below in beside_used k r.bytes j u i w p (inr (omega arith)) (inr (omega arith))

  same_word : (g : Side) → word later g ≡ word r g
  same_word g =
      ap (λ (xs : List ℕ). get 2 xs (watch_place r.events g k) % 65536) bytes_are
      ∙ ap (λ x. x % 65536) (by (aside r.events g k).by_used)
    where
      by : {p : ℕ} → (p + 2 ≤ used_index_place k) ⊎ (available_event_place k ≤ p) → get 2 zs p ≡ get 2 r.bytes p
      by (inl x) = before 2 _ x
      by (inr x) = behind 2 _ x

  agree : Agree (view r) (view later) k c
  agree =
      let sp = holds_spread r l in
      let na = holds_narrow r l in
      let mo = run_forward count_of one (EntryLies (view r) k) (c.d1 + e.count) (c.p1 + 1) rest c.d2 c.p2 (held_first (layout (view r) k) k m c h.lists e rest o).1 in
      record {
        descriptors = λ x a b.
            let y = mod-lt x positive in
            ap (λ (xs : List ℕ). descriptor_at xs (x % k)) bytes_are
            ∙ same_descriptor r.bytes zs (x % k) (λ w p z q. before w p (omega arith));
        heads = λ x a b.
            let y = mod-lt x positive in
            ap (λ (xs : List ℕ). head_at k xs (x % k)) bytes_are ∙ before 2 (head_place k (x % k)) (omega arith);
        useds = λ x a b.
            ap (λ (xs : List ℕ). used_at k xs (x % k)) bytes_are
            ∙ other_used k r.bytes (x % k) j u i (places_apart k x c.p1 b (omega arith));
        kept = λ x a b. refl;
      }

  pub later_shape : Shape later
  later_shape = record { serves = still_serves s.serves (length-used k r.bytes _ _ _); whole = s.whole; chains_long = s.chains_long }

  new_lies : FinishedLies (view later) k c.d1 c.p1 (finished_of one e n)
  new_lies =
      let b = j_below in
      let d = mod-lt c.d1 positive in
      let long = s.serves.long in
      let top = s.serves.most in
      record {
        used_is = ap (λ (xs : List ℕ). used_at k xs j) bytes_are ∙ used_back k r.bytes j u i (omega arith) small (omega arith);
        tag_is = lies.tag_is;
        count_is = lies.count_is;
        span_is = refl;
        some = ((legal_decides e).0 lies.is_legal).some_segment;
      }

  pub later_holds : Holds later (l.back ++ (finished_of one e n ∷ [])) rest l.out
  later_holds =
      let sp = holds_spread r l in
      let long = s.serves.long in
      let least = s.serves.least in
      record {
        cuts = grow_back c e.count 1;
        lists = lists_watched (layout (view later) k) k (finishes (e ∷ rest) m n) (grow_back c e.count 1)
            (lists_finish (layout (view r) k) k m c h.lists (layout (view later) k) e rest n o
            (back_keeps (view r) (view later) k c (omega arith) agree)
            (λ d p x a b q z. out_keeps (view r) (view later) k c (omega arith) agree d p x (omega arith) b (omega arith) z)
            new_lies)
            (meaning later (l.back ++ (finished_of one e n ∷ [])) rest l.out).watch;
        collected_from = h.collected_from;
        taken_from = h.taken_from;
        published_from = h.published_from;
        finished_from = ap₂ (λ (x y : ℕ). (x + y) % modulus) h.finished_from count_is ∙ moved_on modulus c.d1 e.count;
        index_is = ap (λ (xs : List ℕ). get 2 xs (index_place k)) bytes_are ∙ before 2 (index_place k) (omega arith) ∙ h.index_is;
        used_index_is = ap (λ (xs : List ℕ). get 2 xs (used_index_place k)) bytes_are ∙ used_index_back k r.bytes j u i (omega arith) (omega arith);
      }

  abbrev pub finish_lives : Live later
  finish_lives = record { shape = later_shape; back = l.back ++ (finished_of one e n ∷ []); held = rest; out = l.out; holds = later_holds }

  pub finish_means : meant later finish_lives ≡ finishes (e ∷ rest) m n
  finish_means = λ t. with_watch (λ g. watch_by r.events (same_word g t)) (finishes (e ∷ rest) m n)
