-- The tests of entries say what they mean.
use Rattle.std.proofs.Common.{◌≡◌, ℕ, zero, suc, ◌<◌, ◌≤◌, Bool, true, false, not, ◌||◌, ltb, Decides, refl, arith}
use Rattle.std.proofs.lemmas.Bool.{lt-ltb}
use Rattle.std.proofs.lemmas.Bool.Decides.{nat_tests, Decides-at}
use Rattle.entries.specs.declared.shapes.Segment.{Segment}
use Rattle.entries.specs.declared.shapes.Entry.{Entry}
use Rattle.entries.specs.Sameness.{same_segment, same, Same}
use Rattle.entries.specs.Legality.{blank, place, unused, follows, legal, Legal}

three : (P : ℕ → Type 0) → P 0 → P 1 → P 2 → (i : ℕ) → i < 3 → P i
three P a b c zero h = a
three P a b c (suc zero) h = b
three P a b c (suc (suc zero)) h = c
three P a b c (suc (suc (suc n))) h = absurd (omega arith)

is_blank : (s : Segment) → unused s ≡ true → s ≡ blank
is_blank s h = grind (arith, nat_tests)

legal_count : (e : Entry) → legal e ≡ true → (e.tag ≤ 15) × (1 ≤ e.count) × (e.count ≤ 3)
legal_count e h = (grind (arith, nat_tests), grind (arith, nat_tests), grind (arith, nat_tests))

legal_lengths : (e : Entry) → legal e ≡ true → (i : ℕ) → i < 3 → i < e.count → 0 < (place e i).length
legal_lengths e h = three (λ i. i < e.count → 0 < (place e i).length) (λ l. grind (arith, nat_tests)) (λ l. grind (arith, nat_tests)) (λ l. grind (arith, nat_tests))

legal_rest : (e : Entry) → legal e ≡ true → (i : ℕ) → i < 3 → e.count ≤ i → place e i ≡ blank
legal_rest e h = three (λ i. e.count ≤ i → place e i ≡ blank) (λ l. grind (arith, nat_tests)) (λ l. is_blank (place e 1) (grind (arith, nat_tests))) (λ l. is_blank (place e 2) (grind (arith, nat_tests)))

legal_order : (e : Entry) → legal e ≡ true → (j : ℕ) → j < 3 → (i : ℕ) → i < j → j < e.count → (place e i).writable ≡ true → (place e j).writable ≡ true
legal_order e h = three (λ j. (i : ℕ) → i < j → j < e.count → (place e i).writable ≡ true → (place e j).writable ≡ true)
    (λ i l c w. absurd (omega arith))
    (λ i l c w. first i l c w)
    (λ i l c w. second i l c w)
  where
    first : (i : ℕ) → i < 1 → 1 < e.count → (place e i).writable ≡ true → (place e 1).writable ≡ true
    first zero l c w = grind (arith, nat_tests)
    first (suc i) l c w = absurd (omega arith)

    second : (i : ℕ) → i < 2 → 2 < e.count → (place e i).writable ≡ true → (place e 2).writable ≡ true
    second zero l c w = grind (arith, nat_tests)
    second (suc zero) l c w = grind (arith, nat_tests)
    second (suc (suc i)) l c w = absurd (omega arith)

legal_means : (e : Entry) → legal e ≡ true → Legal e
legal_means e h = let n = legal_count e h in record {
  tag_has_cell = n.0;
  some_segment = n.1;
  at_most_three = n.2;
  no_length_zero = λ i l. legal_lengths e h i (omega arith) l;
  read_only_first = λ i j l c w. legal_order e h j (omega arith) i l c w;
  rest_unused = λ i l k. legal_rest e h i k l;
}

is_unused : (s : Segment) → s ≡ blank → unused s ≡ true
is_unused s h = rw h

may_follow : (s t : Segment) → (s.writable ≡ true → t.writable ≡ true) → follows s t ≡ true
may_follow s t h = ordered s.writable t.writable h
  where
    ordered : (a b : Bool) → (a ≡ true → b ≡ true) → (not a || b) ≡ true
    ordered true b h = h refl
    ordered false b h = refl

means_legal : (e : Entry) → Legal e → legal e ≡ true
means_legal e l = by_count e.count refl
  where
    long : (i : ℕ) → i < e.count → ltb 0 (place e i).length ≡ true
    long i h = lt-ltb 0 (place e i).length (l.no_length_zero i h)

    free : (i : ℕ) → e.count ≤ i → i < 3 → unused (place e i) ≡ true
    free i h k = is_unused (place e i) (l.rest_unused i h k)

    next : (i j : ℕ) → i < j → j < e.count → follows (place e i) (place e j) ≡ true
    next i j h k = may_follow (place e i) (place e j) (l.read_only_first i j h k)

    by_count : (n : ℕ) → e.count ≡ n → legal e ≡ true
    by_count zero h = absurd (omega (arith, l.some_segment))
    by_count (suc zero) h = let t = l.tag_has_cell in let a = long 0 (omega arith) in let b = free 1 (omega arith) (omega arith) in let c = free 2 (omega arith) (omega arith) in grind (arith, nat_tests)
    by_count (suc (suc zero)) h = let t = l.tag_has_cell in let a = long 0 (omega arith) in let b = long 1 (omega arith) in let f = next 0 1 (omega arith) (omega arith) in let c = free 2 (omega arith) (omega arith) in grind (arith, nat_tests)
    by_count (suc (suc (suc zero))) h = let t = l.tag_has_cell in let a = long 0 (omega arith) in let b = long 1 (omega arith) in let c = long 2 (omega arith) in let f = next 0 1 (omega arith) (omega arith) in let g = next 1 2 (omega arith) (omega arith) in grind (arith, nat_tests)
    by_count (suc (suc (suc (suc n)))) h = absurd (omega (arith, l.at_most_three))

pub legal_decides : (e : Entry) → Decides (legal e) (Legal e)
legal_decides e = (legal_means e, means_legal e)

segment_from : (s t : Segment) → same_segment s t ≡ true → s ≡ t
segment_from s t h = grind (arith, nat_tests)

segment_same : (s t : Segment) → s ≡ t → same_segment s t ≡ true
segment_same s t h = grind (arith, nat_tests)

pub same_decides : (d e : Entry) → Decides (same d e) (Same d e)
same_decides d e = (means, met)
  where
    means : same d e ≡ true → Same d e
    means h = record {
      same_tag = grind (arith, nat_tests);
      same_count = grind (arith, nat_tests);
      each_place = three (λ i. place d i ≡ place e i)
          (segment_from (place d 0) (place e 0) (grind (arith, nat_tests)))
          (segment_from (place d 1) (place e 1) (grind (arith, nat_tests)))
          (segment_from (place d 2) (place e 2) (grind (arith, nat_tests)));
    }

    met : Same d e → same d e ≡ true
    met s =
        let t = s.same_tag in let n = s.same_count in
        let a = segment_same (place d 0) (place e 0) (s.each_place 0 (omega arith)) in
        let b = segment_same (place d 1) (place e 1) (s.each_place 1 (omega arith)) in
        let c = segment_same (place d 2) (place e 2) (s.each_place 2 (omega arith)) in
        grind (arith, nat_tests)

pub same_self : (e : Entry) → same e e ≡ true
same_self e = grind (arith, nat_tests)

-- an answer that is the test's says what the test says
pub legal_told : (e : Entry) (r : Bool) → r ≡ legal e → Decides r (Legal e)
legal_told e r h = Decides-at r (legal e) h (legal_decides e)

pub same_told : (d e : Entry) (r : Bool) → r ≡ same d e → Decides r (Same d e)
same_told d e r h = Decides-at r (same d e) h (same_decides d e)
