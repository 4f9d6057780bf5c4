-- Publish on a ring in which lists lie: the entry lies behind them, and they stay.
use Rattle.std.proofs.Common.{◌≡◌, ℕ, ◌+◌, ◌%◌, ◌<◌, ◌≤◌, true, ◌≢◌, ◌⊎◌, List, [], ◌∷◌, ◌++◌, length, get_or, set, sym, ap, ◌∙◌, ap₂, inl, inr, mod-lt, arith, length-set, get_or-set_other, get_or-set_same}
use Rattle.words.specs.Numbers.{get}
use Rattle.entries.specs.declared.shapes.Entry.{Entry}
use Rattle.entries.specs.Legality.{legal}
use Rattle.entries.specs.Typed.{Typed}
use Rattle.entries.proofs.Judged.{legal_decides}
use Rattle.positions.proofs.Modulo.{places_apart, moved_on}
use Rattle.queue.specs.declared.values.Side.{Side}
use Rattle.queue.specs.Meaning.{Meaning, with_watch, in_use}
use Rattle.queue.specs.Rules.{appended}
use Rattle.queue.specs.Lists.{Cuts, grow_out}
use Rattle.queue.proofs.Ends.{used_places, lists_publish, lists_watched}
use Rattle.split_ring.specs.declared.kept.Chain.{Chain}
use Rattle.split_ring.specs.Cursors.{modulus, moved}
use Rattle.split_ring.specs.Slots.{driver_area, index_place, head_place, used_index_place, descriptor_at, head_at, used_at, put_head, watch_place}
use Rattle.split_ring.specs.Chains.{link, laid}
use Rattle.split_ring.specs.Ring.{Ring, no_chain, chain_at, slot, first, with_entry, word, watch_by, meaning}
use Rattle.split_ring.specs.Sound.{view, EntryLies, layout, Holds, Live, Shape}
use Rattle.split_ring.proofs.Lending.{still_serves}
use Rattle.split_ring.proofs.Bytes.{length-head, beside_head, same_descriptor, same_used, other_head, head_back, index_back}
use Rattle.split_ring.proofs.Chains.{length-laid, behind_laid, other_laid, laid_lies}
use Rattle.split_ring.proofs.Holding.{meant, Agree, back_keeps, out_keeps, holds_spread, holds_narrow, same_slot}
use Rattle.split_ring.proofs.Beside.{aside, typed_place}

module _ (r : Ring) (l : Live r) (e : Entry) (good : legal e ≡ true) (typed : Typed e) (room : in_use (meant r l) + e.count ≤ r.size) where
  abbrev s : Shape r
  s = l.shape

  abbrev h : Holds r l.back l.held l.out
  h = l.holds

  abbrev m : Meaning
  m = meant r l

  abbrev k : ℕ
  k = r.size

  abbrev c : Cuts
  c = h.cuts

  abbrev n : ℕ
  n = e.count

  abbrev later : Ring
  later = with_entry r e

  -- where the chain and the head go
  abbrev d : ℕ
  d = c.d3 % k

  abbrev j : ℕ
  j = c.p3 % k

  abbrev i : ℕ
  i = (moved r.published n).position

  abbrev ys : List ℕ
  ys = laid k r.bytes d e n

  abbrev zs : List ℕ
  zs = put_head k ys j d i

  -- what is kept of the chain
  abbrev kept : Chain
  kept = record { tag = e.tag; count = n }

  some : 1 ≤ n
  some = ((legal_decides e).0 good).some_segment

  few : n ≤ 3
  few = ((legal_decides e).0 good).at_most_three

  positive : 0 < k
  positive = let l = s.serves.least in omega arith

  fit : c.d3 + n ≤ c.d0 + k
  fit = let u = used_places (layout (view r) k) k m c h.lists in omega arith

  d_below : d < k
  d_below = mod-lt c.d3 positive

  j_below : j < k
  j_below = mod-lt c.p3 positive

  first_is : first r r.published ≡ d
  first_is = same_slot r l c.d3 r.published.descriptor h.published_from

  slot_is : slot r r.published ≡ j
  slot_is = same_slot r l c.p3 r.published.position h.lists.published_at

  bytes_are : later.bytes ≡ zs
  bytes_are = ap₂ (λ (a b : ℕ). put_head k (laid k r.bytes a e n) b a i) first_is slot_is

  length-ys : length ys ≡ length r.bytes
  length-ys = length-laid k r.bytes d e n

  -- numbers that neither the chain nor the head touches
  beside : (m p : ℕ) → driver_area k ≤ p → (p + m ≤ index_place k) ⊎ (index_place k + 2 ≤ p) → (p + m ≤ head_place k j) ⊎ (head_place k j + 2 ≤ p) → get m zs p ≡ get m r.bytes p
  beside m p b x y = beside_head k ys j d i m p x y ∙ behind_laid k r.bytes d e n positive m p b

  same_word : (g : Side) → word later g ≡ word r g
  same_word g =
      let a = aside r.events g k in
      let x = a.by_index in
      let b = j_below in
      ap (λ (xs : List ℕ). get 2 xs (watch_place r.events g k) % 65536) bytes_are
      ∙ ap (λ x. x % 65536) (beside 2 (watch_place r.events g k) a.behind (grind arith) (grind arith))

  agree : Agree (view r) (view later) k c
  agree =
      let sp = holds_spread r l in
      let na = holds_narrow r l in
      let f = fit in
      let o = some in
      record {
        descriptors = λ x a b.
            let m = mod-lt x positive in
            ap (λ (xs : List ℕ). descriptor_at xs (x % k)) bytes_are
            ∙ same_descriptor ys zs (x % k) (λ w p y z. beside_head k ys j d i w p (inl (omega arith)) (inl (omega arith)))
            ∙ other_laid k r.bytes d e n (x % k) (λ y z q. places_apart k x (c.d3 + y) (omega arith) (omega arith) (q ∙ moved_on k c.d3 y));
        heads = λ x a b.
            ap (λ (xs : List ℕ). head_at k xs (x % k)) bytes_are
            ∙ other_head k ys (x % k) j d i (places_apart k x c.p3 b (omega arith))
            ∙ behind_laid k r.bytes d e n positive 2 (head_place k (x % k)) (omega arith);
        useds = λ x a b.
            let m = j_below in
            ap (λ (xs : List ℕ). used_at k xs (x % k)) bytes_are
            ∙ same_used k r.bytes zs (x % k) (λ w p y z. beside w p (omega arith) (inr (omega arith)) (inr (omega arith)));
        kept = λ x a b. let ne : x % k ≢ first r r.published = rw first_is (places_apart k x c.d3 b (omega arith)) in rw get_or-set_other;
      }

  pub later_shape : Shape later
  later_shape = record {
    serves = still_serves s.serves (length-head k _ _ _ i ∙ length-laid k r.bytes _ e n);
    whole = s.whole;
    chains_long = rw length-set s.chains_long;
  }

  new_lies : EntryLies (view later) k c.d3 c.p3 e
  new_lies =
      let long = s.serves.long in
      let top = s.serves.most in
      let db = d_below in
      let jb = j_below in
      let ly = length-ys in
      let cl : d < length r.chains = let t = s.chains_long in omega arith in
      let kept_is : chain_at later d ≡ kept = ap (λ x. get_or (set r.chains x kept) d no_chain) first_is ∙ rw get_or-set_same in
      let fe = few in
      let fi = fit in
      record {
        head_is = ap (λ (xs : List ℕ). head_at k xs j) bytes_are ∙ head_back k ys j d i (omega arith) (omega arith);
        tag_is = ap (λ (x : Chain). x.tag) kept_is;
        count_is = ap (λ (x : Chain). x.count) kept_is;
        is_legal = good;
        is_typed = typed;
        chain = λ x l.
            let m = mod-lt (c.d3 + x) positive in
            ap (λ (xs : List ℕ). descriptor_at xs ((c.d3 + x) % k)) bytes_are
            ∙ same_descriptor ys zs ((c.d3 + x) % k) (λ w p y z. beside_head k ys j d i w p (inl (omega arith)) (inl (omega arith)))
            ∙ ap (descriptor_at ys) (sym (moved_on k c.d3 x))
            ∙ laid_lies k r.bytes d e n positive top (omega arith) (omega arith) (typed_place e typed fe) x l
            ∙ ap (λ y. link e x (y % k)) (let z : d + x + 1 ≡ d + (x + 1) = omega arith in z)
            ∙ ap (link e x) (moved_on k c.d3 (x + 1))
            ∙ ap (λ y. link e x (y % k)) (let z : c.d3 + (x + 1) ≡ c.d3 + x + 1 = omega arith in z);
      }

  pub later_holds : Holds later l.back l.held (l.out ++ (e ∷ []))
  later_holds =
      let sp = holds_spread r l in
      let long = s.serves.long in
      let jb = j_below in
      let ly = length-ys in
      record {
        cuts = grow_out c n 1;
        lists = lists_watched (layout (view later) k) k (appended m e) (grow_out c n 1)
            (lists_publish (layout (view r) k) k m c h.lists (layout (view later) k) e fit
            (back_keeps (view r) (view later) k c (omega arith) agree) (out_keeps (view r) (view later) k c (omega arith) agree) new_lies)
            (meaning later l.back l.held (l.out ++ (e ∷ []))).watch;
        collected_from = h.collected_from;
        finished_from = h.finished_from;
        taken_from = h.taken_from;
        published_from = ap (λ x. (x + n) % modulus) h.published_from ∙ moved_on modulus c.d3 n;
        index_is = ap (λ (xs : List ℕ). get 2 xs (index_place k)) bytes_are ∙ index_back k ys j d i (omega arith) (omega arith);
        used_index_is = ap (λ (xs : List ℕ). get 2 xs (used_index_place k)) bytes_are ∙ beside 2 (used_index_place k) (omega arith) (inr (omega arith)) (inr (omega arith)) ∙ h.used_index_is;
      }

  abbrev pub publish_lives : Live later
  publish_lives = record { shape = later_shape; back = l.back; held = l.held; out = l.out ++ (e ∷ []); holds = later_holds }

  pub publish_means : meant later publish_lives ≡ appended m e
  publish_means = λ t. with_watch (λ g. watch_by r.events (same_word g t)) (appended m e)
