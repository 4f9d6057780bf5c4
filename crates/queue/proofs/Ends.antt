-- Three runs end to end: what publish, take, finish and collect do to them, for every layout.
use Rattle.std.proofs.Common.{◌≡◌, ℕ, ◌+◌, ◌%◌, ◌<◌, ◌≤◌, Bool, true, List, ◌∷◌, subst, mod-lt, arith}
use Rattle.entries.specs.declared.shapes.Entry.{Entry}
use Rattle.positions.proofs.Modulo.{moved_on}
use Rattle.entries.specs.Legality.{legal}
use Rattle.queue.specs.declared.values.Side.{Side}
use Rattle.queue.specs.declared.values.Finished.{Finished}
use Rattle.queue.specs.Meaning.{Meaning, with_watch, WellFormed, Spans, SpansBack, total, in_use, count_of, back_count, back_span}
use Rattle.queue.specs.Rules.{appended, takes, finishes, collects, finished_of}
use Rattle.queue.specs.Lists.{Run, Layout, Cuts, Lists, Keeps, Spread, grow_out, grow_held, grow_back, shed}
use Rattle.queue.proofs.Runs.{run_forward, run_push, run_kept, run_narrow, run_places, run_positions, run_all}

-- every entry takes one place for each segment, and at least one position
pub record Orderly (t : Layout) (span : Entry → ℕ) : Type 0 where
  pub spans : (e : Entry) → legal e ≡ true → (1 ≤ span e) × (span e ≤ e.count)
  pub lies_legal : (d p : ℕ) (e : Entry) → t.Lies d p e → legal e ≡ true
  pub back_legal : (d p : ℕ) (f : Finished) → t.BackLies d p f → SpansBack f

module _ (t : Layout) (k : ℕ) (m : Meaning) (c : Cuts) (l : Lists t k m c) where
  pub spread : Spread k c
  spread =
      let a = run_forward _ _ _ _ _ _ _ _ l.backs in
      let b = run_forward _ _ _ _ _ _ _ _ l.helds in
      let e = run_forward _ _ _ _ _ _ _ _ l.outs in
      record { places = (a.0, b.0, e.0, l.within); positions = (a.1, b.1, e.1) }

  -- the places and positions that each list takes up
  pub back_ends : (c.d1 ≡ c.d0 + total back_count m.back) × (c.p1 ≡ c.p0 + total back_span m.back)
  back_ends = (run_places _ _ _ _ _ _ _ _ l.backs, run_positions _ _ _ _ _ _ _ _ l.backs)

  pub held_ends : (c.d2 ≡ c.d1 + total count_of m.held) × (c.p2 ≡ c.p1 + total m.span m.held)
  held_ends = (run_places _ _ _ _ _ _ _ _ l.helds, run_positions _ _ _ _ _ _ _ _ l.helds)

  pub out_ends : (c.d3 ≡ c.d2 + total count_of m.out) × (c.p3 ≡ c.p2 + total m.span m.out)
  out_ends = (run_places _ _ _ _ _ _ _ _ l.outs, run_positions _ _ _ _ _ _ _ _ l.outs)

  pub used_places : c.d3 ≡ c.d0 + in_use m
  used_places = omega (arith, back_ends, held_ends, out_ends)

  -- no more positions than places
  pub narrow : Orderly t m.span → c.p3 + c.d0 ≤ c.d3 + c.p0
  narrow o =
      let a = run_narrow _ _ _ (λ d p f h. (o.back_legal d p f h).1) _ _ _ _ _ l.backs in
      let b = run_narrow _ _ _ (λ d p e h. (o.spans e (o.lies_legal d p e h)).1) _ _ _ _ _ l.helds in
      let e = run_narrow _ _ _ (λ d p e h. (o.spans e (o.lies_legal d p e h)).1) _ _ _ _ _ l.outs in
      omega arith

  pub lists_well_formed : Orderly t m.span → k < m.modulus → WellFormed m
  lists_well_formed o above =
      let used = used_places in
      let w = l.within in
      let cap = l.capacity_is in
      let legal_entry : (d p : ℕ) (e : Entry) → t.Lies d p e → Spans m.span e = λ d p e h. let g = o.lies_legal d p e h in let s = o.spans e g in (g, s.0, s.1) in
      record {
        modulus_above_capacity = omega arith;
        within_capacity = omega arith;
        spans = o.spans;
        out_legal = run_all _ _ _ (Spans m.span) legal_entry _ _ _ _ _ l.outs;
        held_legal = run_all _ _ _ (Spans m.span) legal_entry _ _ _ _ _ l.helds;
        back_spans = run_all _ _ _ SpansBack o.back_legal _ _ _ _ _ l.backs;
        collected_below = grind (arith, l.collected_at, mod-lt);
        finished_is = grind (arith, moved_on, l.collected_at, l.finished_at, back_ends);
        taken_is = grind (arith, moved_on, l.finished_at, l.taken_at, held_ends);
        published_is = grind (arith, moved_on, l.taken_at, l.published_at, out_ends);
      }

  -- what lies there still does, in another state of the same layout
  pub lists_kept : (t' : Layout)
      → Keeps back_count back_span t.BackLies t'.BackLies c.d0 c.d1 c.p0 c.p1
      → Keeps count_of m.span t.Lies t'.Lies c.d1 c.d3 c.p1 c.p3
      → Lists t' k m c
  lists_kept t' f g =
      let s = spread in
      record {
        backs = run_kept _ _ _ _ c.d0 c.d1 c.p0 c.p1 f _ _ _ _ _ (omega arith) (omega arith) (omega arith) (omega arith) l.backs;
        helds = run_kept _ _ _ _ c.d1 c.d3 c.p1 c.p3 g _ _ _ _ _ (omega arith) (omega arith) (omega arith) (omega arith) l.helds;
        outs = run_kept _ _ _ _ c.d1 c.d3 c.p1 c.p3 g _ _ _ _ _ (omega arith) (omega arith) (omega arith) (omega arith) l.outs;
        within = l.within;
        capacity_is = l.capacity_is;
        collected_at = l.collected_at;
        finished_at = l.finished_at;
        taken_at = l.taken_at;
        published_at = l.published_at;
      }

  moved : (s p n : ℕ) → n ≡ p % m.modulus → (n + s) % m.modulus ≡ (p + s) % m.modulus
  moved s p n e = grind (arith, moved_on)

  pub lists_publish : (t' : Layout) (e : Entry) → c.d3 + e.count ≤ c.d0 + k
      → Keeps back_count back_span t.BackLies t'.BackLies c.d0 c.d1 c.p0 c.p1
      → Keeps count_of m.span t.Lies t'.Lies c.d1 c.d3 c.p1 c.p3
      → t'.Lies c.d3 c.p3 e
      → Lists t' k (appended m e) (grow_out c e.count (m.span e))
  lists_publish t' e w f g new =
      let r = lists_kept t' f g in
      record {
        backs = r.backs;
        helds = r.helds;
        outs = run_push _ _ _ _ _ _ _ _ e r.outs new;
        within = w;
        capacity_is = l.capacity_is;
        collected_at = l.collected_at;
        finished_at = l.finished_at;
        taken_at = l.taken_at;
        published_at = moved (m.span e) c.p3 m.published l.published_at;
      }

  -- the oldest of out, where it lies
  pub out_first : (e : Entry) (rest : List Entry) → m.out ≡ e ∷ rest → t.Lies c.d2 c.p2 e × Run count_of m.span t.Lies (c.d2 + e.count) (c.p2 + m.span e) rest c.d3 c.p3
  unfolding Run
  out_first e rest h = subst (λ (xs : List Entry). Run count_of m.span t.Lies c.d2 c.p2 xs c.d3 c.p3) h l.outs

  pub lists_take : (e : Entry) (rest : List Entry) → m.out ≡ e ∷ rest → Lists t k (takes (e ∷ rest) m) (grow_held c e.count (m.span e))
  lists_take e rest h =
      let o = out_first e rest h in
      record {
        backs = l.backs;
        helds = run_push _ _ _ _ _ _ _ _ e l.helds o.0;
        outs = o.1;
        within = l.within;
        capacity_is = l.capacity_is;
        collected_at = l.collected_at;
        finished_at = l.finished_at;
        published_at = l.published_at;
        taken_at = moved (m.span e) c.p2 m.taken l.taken_at;
      }

  -- the oldest of held, where it lies
  pub held_first : (e : Entry) (rest : List Entry) → m.held ≡ e ∷ rest → t.Lies c.d1 c.p1 e × Run count_of m.span t.Lies (c.d1 + e.count) (c.p1 + m.span e) rest c.d2 c.p2
  unfolding Run
  held_first e rest h = subst (λ (xs : List Entry). Run count_of m.span t.Lies c.d1 c.p1 xs c.d2 c.p2) h l.helds

  pub lists_finish : (t' : Layout) (e : Entry) (rest : List Entry) (n : ℕ) → m.held ≡ e ∷ rest
      → Keeps back_count back_span t.BackLies t'.BackLies c.d0 c.d1 c.p0 c.p1
      → Keeps count_of m.span t.Lies t'.Lies (c.d1 + e.count) c.d3 (c.p1 + m.span e) c.p3
      → t'.BackLies c.d1 c.p1 (finished_of m.span e n)
      → Lists t' k (finishes (e ∷ rest) m n) (grow_back c e.count (m.span e))
  lists_finish t' e rest n h f g new =
      let s = spread in
      let o = held_first e rest h in
      let r = run_forward _ _ _ _ _ _ _ _ o.1 in
      record {
        backs = run_push _ _ _ _ _ _ _ _ (finished_of m.span e n)
            (run_kept _ _ _ _ c.d0 c.d1 c.p0 c.p1 f _ _ _ _ _ (omega arith) (omega arith) (omega arith) (omega arith) l.backs) new;
        helds = run_kept _ _ _ _ (c.d1 + e.count) c.d3 (c.p1 + m.span e) c.p3 g _ _ _ _ _ (omega arith) (omega arith) (omega arith) (omega arith) o.1;
        outs = run_kept _ _ _ _ (c.d1 + e.count) c.d3 (c.p1 + m.span e) c.p3 g _ _ _ _ _ (omega arith) (omega arith) (omega arith) (omega arith) l.outs;
        within = l.within;
        capacity_is = l.capacity_is;
        collected_at = l.collected_at;
        taken_at = l.taken_at;
        published_at = l.published_at;
        finished_at = moved (m.span e) c.p1 m.finished l.finished_at;
      }

  -- the oldest of back, where it lies
  pub back_first : (f : Finished) (rest : List Finished) → m.back ≡ f ∷ rest → t.BackLies c.d0 c.p0 f × Run back_count back_span t.BackLies (c.d0 + f.count) (c.p0 + f.span) rest c.d1 c.p1
  unfolding Run
  back_first f rest h = subst (λ (xs : List Finished). Run back_count back_span t.BackLies c.d0 c.p0 xs c.d1 c.p1) h l.backs

  pub lists_collect : (f : Finished) (rest : List Finished) → m.back ≡ f ∷ rest → Lists t k (collects (f ∷ rest) m) (shed c f.count f.span)
  lists_collect f rest h =
      let w = l.within in
      let o = back_first f rest h in
      record {
        backs = o.1;
        helds = l.helds;
        outs = l.outs;
        within = omega arith;
        capacity_is = l.capacity_is;
        finished_at = l.finished_at;
        taken_at = l.taken_at;
        published_at = l.published_at;
        collected_at = moved f.span c.p0 m.collected l.collected_at;
      }

  -- the lists do not depend on what is watched
  pub lists_watched : (w : Side → ℕ → Bool) → Lists t k (with_watch w m) c
  lists_watched w = record {
    backs = l.backs;
    helds = l.helds;
    outs = l.outs;
    within = l.within;
    capacity_is = l.capacity_is;
    collected_at = l.collected_at;
    finished_at = l.finished_at;
    taken_at = l.taken_at;
    published_at = l.published_at;
  }
