-- Take and collect on a ring in which lists lie: nothing is written, and the oldest is read where it lies.
use Rattle.std.proofs.Common.{◌≡◌, ℕ, ◌+◌, ◌%◌, List, [], ◌∷◌, ◌++◌, sym, ap, ◌∙◌, subst, ap₂}
use Rattle.entries.specs.declared.shapes.Entry.{Entry}
use Rattle.positions.proofs.Modulo.{moved_on}
use Rattle.queue.specs.declared.values.Finished.{Finished}
use Rattle.queue.specs.Meaning.{with_lists, at_positions, Meaning}
use Rattle.queue.specs.Rules.{collects}
use Rattle.queue.specs.Lists.{Layout, Lists, grow_held, shed}
use Rattle.queue.proofs.Ends.{lists_take, lists_collect, out_first, back_first}
use Rattle.split_ring.specs.Cursors.{modulus}
use Rattle.split_ring.specs.Ring.{Ring, entry_in, finished_in, with_taken, with_collected, oldest_out, oldest_back, meaning}
use Rattle.split_ring.specs.Sound.{view, layout, Holds, Live, Shape}
use Rattle.split_ring.proofs.Holding.{meant, same_slot, entry_found, finished_found}

module _ (r : Ring) (l : Live r) where
  abbrev s : Shape r
  s = l.shape

  abbrev h : Holds r l.back l.held l.out
  h = l.holds

  abbrev m : Meaning
  m = meant r l

  abbrev t : Layout
  t = layout (view r) r.size

  pub take_finds : (e : Entry) (rest : List Entry) → l.out ≡ e ∷ rest → oldest_out r ≡ e
  take_finds e rest o =
      ap (entry_in r) (same_slot r l h.cuts.p2 r.taken.position h.lists.taken_at)
      ∙ entry_found r h.cuts.d2 h.cuts.p2 e (out_first t r.size m h.cuts h.lists e rest o).0

  pub take_holds : (e : Entry) (rest : List Entry) → l.out ≡ e ∷ rest → Holds (with_taken r) l.back (l.held ++ (e ∷ [])) rest
  take_holds e rest o = record {
    cuts = grow_held h.cuts e.count 1;
    lists = lists_take t r.size m h.cuts h.lists e rest o;
    collected_from = h.collected_from;
    finished_from = h.finished_from;
    published_from = h.published_from;
    taken_from = ap₂ (λ (x y : ℕ). (x + y) % modulus) h.taken_from (ap (λ (x : Entry). x.count) (take_finds e rest o)) ∙ moved_on modulus h.cuts.d2 e.count;
    index_is = h.index_is;
    used_index_is = h.used_index_is;
  }

  abbrev pub take_lives : (e : Entry) (rest : List Entry) → l.out ≡ e ∷ rest → Live (with_taken r)
  take_lives e rest o = record {
    shape = record { serves = s.serves; whole = s.whole; chains_long = s.chains_long };
    back = l.back;
    held = l.held ++ (e ∷ []);
    out = rest;
    holds = take_holds e rest o;
  }

  pub collect_finds : (f : Finished) (rest : List Finished) → l.back ≡ f ∷ rest → oldest_back r ≡ f
  collect_finds f rest o =
      ap (finished_in r) (same_slot r l h.cuts.p0 r.collected.position h.lists.collected_at)
      ∙ finished_found r h.cuts.d0 h.cuts.p0 f (back_first t r.size m h.cuts h.lists f rest o).0

  -- a span is 1
  collect_spans : (f : Finished) (rest : List Finished) → l.back ≡ f ∷ rest → f.span ≡ 1
  collect_spans f rest o = (back_first t r.size m h.cuts h.lists f rest o).0.span_is

  pub collect_means : (f : Finished) (rest : List Finished) → l.back ≡ f ∷ rest → meaning (with_collected r) rest l.held l.out ≡ collects (f ∷ rest) m
  collect_means f rest o =
      let e = sym (collect_spans f rest o) in
      λ i. with_lists l.out l.held rest (at_positions r.published.position r.taken.position r.finished.position ((r.collected.position + e i) % modulus) m)

  pub collect_holds : (f : Finished) (rest : List Finished) → l.back ≡ f ∷ rest → Holds (with_collected r) rest l.held l.out
  collect_holds f rest o =
      let x = lists_collect t r.size m h.cuts h.lists f rest o in
      record {
        cuts = shed h.cuts f.count f.span;
        lists = subst (λ (x : Meaning). Lists t r.size x (shed h.cuts f.count f.span)) (sym (collect_means f rest o)) x;
        finished_from = h.finished_from;
        taken_from = h.taken_from;
        published_from = h.published_from;
        collected_from = ap₂ (λ (x y : ℕ). (x + y) % modulus) h.collected_from (ap (λ (x : Finished). x.count) (collect_finds f rest o)) ∙ moved_on modulus h.cuts.d0 f.count;
        index_is = h.index_is;
        used_index_is = h.used_index_is;
      }

  abbrev pub collect_lives : (f : Finished) (rest : List Finished) → l.back ≡ f ∷ rest → Live (with_collected r)
  collect_lives f rest o = record {
    shape = record { serves = s.serves; whole = s.whole; chains_long = s.chains_long };
    back = rest;
    held = l.held;
    out = l.out;
    holds = collect_holds f rest o;
  }
