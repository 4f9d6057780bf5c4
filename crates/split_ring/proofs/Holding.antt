-- What lies in a ring is what is read off it, and stays where two views agree.
use Rattle.std.proofs.Common.{◌≡◌, ℕ, ◌+◌, ◌%◌, ◌<◌, ◌≤◌, true, ◌↔◌, List, [], ◌∷◌, length, sym, refl, ap, ◌∙◌, ap₂, arith}
use native.Mathlib.Nat.{mod-mod}
use Rattle.std.proofs.lemmas.List.{nil_from_length}
use Rattle.entries.specs.declared.shapes.Entry.{Entry}
use Rattle.entries.specs.Legality.{legal}
use Rattle.entries.proofs.Judged.{legal_decides}
use Rattle.positions.specs.Stretch.{ahead}
use Rattle.positions.proofs.Modulo.{wrapped_place, ahead_of}
use Rattle.queue.specs.declared.values.Finished.{Finished}
use Rattle.queue.specs.declared.values.Stage.{Stage}
use Rattle.queue.specs.declared.values.Stage.TheVariants.{Out, Held, Back}
use Rattle.queue.specs.Meaning.{Meaning, All, total, count_of, back_count, back_span, in_use}
use Rattle.queue.specs.Rules.{entries_of, segments_of}
use Rattle.queue.specs.Lists.{read_off, Cuts, Keeps, Spread}
use Rattle.queue.proofs.Runs.{run_read, run_all, total_ones}
use Rattle.queue.proofs.Ends.{Orderly, spread, narrow, back_ends, held_ends, out_ends, used_places}
use Rattle.split_ring.specs.declared.kept.Chain.{Chain}
use Rattle.split_ring.specs.declared.rings.UsedElement.{UsedElement}
use Rattle.split_ring.specs.Cursors.{modulus}
use Rattle.split_ring.specs.Chains.{chain_read}
use Rattle.split_ring.specs.Ring.{Ring, chain_at, one, entry_in, head_in, finished_in, used_head, entries_in, segments_in, busy, outs, helds, backs, meaning}
use Rattle.split_ring.specs.Sound.{View, view, EntryLies, FinishedLies, layout, Holds, Live, Shape}
use Rattle.split_ring.proofs.Chains.{reads_entry}

-- what two views have to share for the lists to stay
pub record Agree (v w : View) (k : ℕ) (c : Cuts) : Type 0 where
  pub descriptors : (i : ℕ) → c.d1 ≤ i → i < c.d3 → w.descriptor (i % k) ≡ v.descriptor (i % k)
  pub heads : (i : ℕ) → c.p1 ≤ i → i < c.p3 → w.head (i % k) ≡ v.head (i % k)
  pub useds : (i : ℕ) → c.p0 ≤ i → i < c.p1 → w.used (i % k) ≡ v.used (i % k)
  pub kept : (i : ℕ) → c.d0 ≤ i → i < c.d3 → w.kept (i % k) ≡ v.kept (i % k)

some_of : (e : Entry) → legal e ≡ true → 1 ≤ e.count
some_of e h = ((legal_decides e).0 h).some_segment

pub back_keeps : (v w : View) (k : ℕ) (c : Cuts) → c.d1 ≤ c.d3 → Agree v w k c → Keeps back_count back_span (FinishedLies v k) (FinishedLies w k) c.d0 c.d1 c.p0 c.p1
back_keeps v w k c le a d p f h1 h2 h3 h4 t =
    let s = t.some in
    let n = t.span_is in
    record {
      used_is = a.useds p h3 (omega arith) ∙ t.used_is;
      tag_is = ap (λ (x : Chain). x.tag) (a.kept d h1 (omega arith)) ∙ t.tag_is;
      count_is = ap (λ (x : Chain). x.count) (a.kept d h1 (omega arith)) ∙ t.count_is;
      span_is = n;
      some = s;
    }

pub out_keeps : (v w : View) (k : ℕ) (c : Cuts) → c.d0 ≤ c.d1 → Agree v w k c → Keeps count_of one (EntryLies v k) (EntryLies w k) c.d1 c.d3 c.p1 c.p3
out_keeps v w k c le a d p e h1 h2 h3 h4 t =
    let s = some_of e t.is_legal in
    record {
      head_is = a.heads p h3 (omega arith) ∙ t.head_is;
      tag_is = ap (λ (x : Chain). x.tag) (a.kept d (omega arith) (omega arith)) ∙ t.tag_is;
      count_is = ap (λ (x : Chain). x.count) (a.kept d (omega arith) (omega arith)) ∙ t.count_is;
      is_legal = t.is_legal;
      is_typed = t.is_typed;
      chain = λ i l. a.descriptors (d + i) (omega arith) (omega arith) ∙ t.chain i l;
    }

pub orderly : (v : View) (k : ℕ) → Orderly (layout v k) one
orderly v k = record {
  spans = λ e h. (omega arith, some_of e h);
  lies_legal = λ d p e h. h.is_legal;
  back_legal = λ d p f h. let s = h.some in let n = h.span_is in (omega arith, omega arith);
}

-- what is read in a slot is what lies there
pub entry_found : (r : Ring) (d p : ℕ) (e : Entry) → EntryLies (view r) r.size d p e → entry_in r (p % r.size) ≡ e
unfolding entry_in
entry_found r d p e a =
    let k = r.size in
    let h : head_in r (p % k) ≡ d % k = ap (λ n. n % k) a.head_is ∙ mod-mod d k in
    let t : (chain_at r (head_in r (p % k))).tag ≡ e.tag = ap (λ n. (chain_at r n).tag) h ∙ a.tag_is in
    ap₂ (chain_read r.bytes k) h t ∙ reads_entry r.bytes k d e ((legal_decides e).0 a.is_legal) a.is_typed a.chain

pub finished_found : (r : Ring) (d p : ℕ) (f : Finished) → FinishedLies (view r) r.size d p f → finished_in r (p % r.size) ≡ f
unfolding finished_in
finished_found r d p f a =
    let k = r.size in
    let u = a.used_is in
    let h : used_head r (p % k) ≡ d % k = ap (λ (x : UsedElement). x.head % k) u ∙ mod-mod d k in
    let t : (chain_at r (used_head r (p % k))).tag ≡ f.tag = ap (λ n. (chain_at r n).tag) h ∙ a.tag_is in
    let n : (chain_at r (used_head r (p % k))).count ≡ f.count = ap (λ n. (chain_at r n).count) h ∙ a.count_is in
    let s = sym a.span_is in
    λ i. record { tag = t i; span = s i; count = n i; written = (u i).written }

spans_one : (fs : List Finished) → All (λ (f : Finished). f.span ≡ 1) fs → total back_span fs ≡ length fs
spans_one [] a = refl
spans_one (f ∷ fs) a = let r = spans_one fs a.1 in let s = a.0 in omega arith

-- the meaning of a ring in which these lists lie
abbrev pub meant : (r : Ring) → Live r → Meaning
meant r l = meaning r l.back l.held l.out

module _ (r : Ring) (l : Live r) where
  abbrev s : Shape r
  s = l.shape

  abbrev h : Holds r l.back l.held l.out
  h = l.holds

  abbrev back : List Finished
  back = l.back

  abbrev held : List Entry
  held = l.held

  abbrev out : List Entry
  out = l.out

  abbrev c : Cuts
  c = h.cuts

  abbrev m : Meaning
  m = meant r l

  pub holds_spread : Spread r.size c
  holds_spread = spread (layout (view r) r.size) r.size m c h.lists

  pub holds_narrow : c.p3 + c.d0 ≤ c.d3 + c.p0
  holds_narrow = narrow (layout (view r) r.size) r.size m c h.lists (orderly (view r) r.size)

  ends_back : (c.d1 ≡ c.d0 + total back_count back) × (c.p1 ≡ c.p0 + total back_span back)
  ends_back = back_ends (layout (view r) r.size) r.size m c h.lists

  ends_held : (c.d2 ≡ c.d1 + total count_of held) × (c.p2 ≡ c.p1 + total one held)
  ends_held = held_ends (layout (view r) r.size) r.size m c h.lists

  ends_out : (c.d3 ≡ c.d2 + total count_of out) × (c.p3 ≡ c.p2 + total one out)
  ends_out = out_ends (layout (view r) r.size) r.size m c h.lists

  -- as many positions as entries
  long_back : c.p1 ≡ c.p0 + length back
  long_back =
      let a = run_all back_count back_span (FinishedLies (view r) r.size) (λ (f : Finished). f.span ≡ 1) (λ d p f x. x.span_is) c.d0 c.p0 back c.d1 c.p1 h.lists.backs in
      let b = spans_one back a in
      let e = ends_back.1 in
      omega arith

  long_held : c.p2 ≡ c.p1 + length held
  long_held = let a = total_ones held in let e = ends_held.1 in omega arith

  long_out : c.p3 ≡ c.p2 + length out
  long_out = let a = total_ones out in let e = ends_out.1 in omega arith

  -- what a pair of cursors tells, where one is n ahead of the other
  apart : (p q n a b : ℕ) → a ≡ p % modulus → b ≡ q % modulus → q ≡ p + n → n < modulus → ahead modulus a b ≡ n
  apart p q n a b ea eb e l = ap₂ (ahead modulus) ea (eb ∙ ap (λ x. x % modulus) e) ∙ ahead_of modulus p n l

  few : (length back < modulus) × (length held < modulus) × (length out < modulus)
  few =
      let sp = holds_spread in
      let na = holds_narrow in
      let top = s.serves.most in
      let a = long_back in
      let b = long_held in
      let e = long_out in
      (omega arith, omega arith, omega arith)

  few_segments : (total back_count back < modulus) × (total count_of held < modulus) × (total count_of out < modulus)
  few_segments =
      let sp = holds_spread in
      let top = s.serves.most in
      let a = ends_back.0 in
      let b = ends_held.0 in
      let e = ends_out.0 in
      (omega arith, omega arith, omega arith)

  pub entries_counted : (g : Stage) → entries_in r g ≡ entries_of m g
  entries_counted Out = apart c.p2 c.p3 (length out) r.taken.position r.published.position h.lists.taken_at h.lists.published_at long_out few.2
  entries_counted Held = apart c.p1 c.p2 (length held) r.finished.position r.taken.position h.lists.finished_at h.lists.taken_at long_held few.1
  entries_counted Back = apart c.p0 c.p1 (length back) r.collected.position r.finished.position h.lists.collected_at h.lists.finished_at long_back few.0

  pub segments_counted : (g : Stage) → segments_in r g ≡ segments_of m g
  segments_counted Out = apart c.d2 c.d3 (total count_of out) r.taken.descriptor r.published.descriptor h.taken_from h.published_from ends_out.0 few_segments.2
  segments_counted Held = apart c.d1 c.d2 (total count_of held) r.finished.descriptor r.taken.descriptor h.finished_from h.taken_from ends_held.0 few_segments.1
  segments_counted Back = apart c.d0 c.d1 (total back_count back) r.collected.descriptor r.finished.descriptor h.collected_from h.finished_from ends_back.0 few_segments.0

  pub busy_counted : busy r ≡ in_use m
  busy_counted =
      let u = used_places (layout (view r) r.size) r.size m c h.lists in
      let w = h.lists.within in
      let top = s.serves.most in
      apart c.d0 c.d3 (in_use m) r.collected.descriptor r.published.descriptor h.collected_from h.published_from u (omega arith)

  pub same_slot : (p n : ℕ) → n ≡ p % modulus → n % r.size ≡ p % r.size
  same_slot p n e = ap (λ x. x % r.size) e ∙ wrapped_place r.size modulus p s.whole

  -- what is read off is what lies there
  pub outs_are : outs r ≡ out
  outs_are =
      ap (λ n. read_off one (λ p. entry_in r (p % r.size)) n r.taken.position) (entries_counted Out)
      ∙ run_read count_of one r.size (entry_in r) (EntryLies (view r) r.size) (entry_found r) c.d2 c.p2 out c.d3 c.p3 r.taken.position (same_slot c.p2 _ h.lists.taken_at) h.lists.outs

  pub helds_are : helds r ≡ held
  helds_are =
      ap (λ n. read_off one (λ p. entry_in r (p % r.size)) n r.finished.position) (entries_counted Held)
      ∙ run_read count_of one r.size (entry_in r) (EntryLies (view r) r.size) (entry_found r) c.d1 c.p1 held c.d2 c.p2 r.finished.position (same_slot c.p1 _ h.lists.finished_at) h.lists.helds

  pub backs_are : backs r ≡ back
  backs_are =
      ap (λ n. read_off back_span (λ p. finished_in r (p % r.size)) n r.collected.position) (entries_counted Back)
      ∙ run_read back_count back_span r.size (finished_in r) (FinishedLies (view r) r.size) (finished_found r) c.d0 c.p0 back c.d1 c.p1 r.collected.position (same_slot c.p0 _ h.lists.collected_at) h.lists.backs

  pub means_these : meaning r (backs r) (helds r) (outs r) ≡ m
  means_these =
      let a = backs_are in
      let b = helds_are in
      let e = outs_are in
      λ i. meaning r (a i) (b i) (e i)

  -- a list is empty exactly where its two positions are the same
  none_between : {X : Type 0} (xs : List X) (p q a b : ℕ) → a ≡ p % modulus → b ≡ q % modulus → q ≡ p + length xs → length xs < modulus → (a ≡ b) ↔ (xs ≡ [])
  none_between xs p q a b ea eb e l = (
    (λ z. nil_from_length xs (same_length p q (length xs) a b ea eb e l z)),
    (λ z. let n : length xs ≡ 0 = ap length z in ea ∙ ap (λ x. x % modulus) (let y : p ≡ q = omega arith in y) ∙ sym eb),
  )
    where
      same_length : (p q n a b : ℕ) → a ≡ p % modulus → b ≡ q % modulus → q ≡ p + n → n < modulus → a ≡ b → n ≡ 0
      same_length p q n a b ea eb e l z = omega arith

  pub no_out : (r.taken.position ≡ r.published.position) ↔ (out ≡ [])
  no_out = none_between out c.p2 c.p3 _ _ h.lists.taken_at h.lists.published_at long_out few.2

  pub no_held : (r.finished.position ≡ r.taken.position) ↔ (held ≡ [])
  no_held = none_between held c.p1 c.p2 _ _ h.lists.finished_at h.lists.taken_at long_held few.1

  pub no_back : (r.collected.position ≡ r.finished.position) ↔ (back ≡ [])
  no_back = none_between back c.p0 c.p1 _ _ h.lists.collected_at h.lists.finished_at long_back few.0
