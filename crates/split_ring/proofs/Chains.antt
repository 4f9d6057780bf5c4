-- Chains: what is laid is what lies there, it leaves everything else, and it is read back.
use Rattle.std.proofs.Common.{◌≡◌, ℕ, zero, suc, ◌+◌, ◌%◌, ◌^◌, ◌<◌, ◌≤◌, Bool, true, false, cond, eqb, ◌≢◌, List, [], ◌∷◌, length, get_or, sym, refl, ap, ◌∙◌, subst, ap₂, inr, mod-lt, arith}
use native.Mathlib.Decide.{dec_lt}
use native.Mathlib.Nat.{mod-mod}
use Rattle.std.proofs.lemmas.Bool.Decides.{nat_tests}
use Rattle.words.specs.Numbers.{get}
use Rattle.entries.specs.declared.shapes.Segment.{Segment}
use Rattle.entries.specs.declared.shapes.Entry.{Entry}
use Rattle.entries.specs.Legality.{Legal, place, blank}
use Rattle.entries.specs.Typed.{Typed, TypedSegment}
use Rattle.positions.proofs.Modulo.{places_apart}
use Rattle.split_ring.specs.declared.descriptors.Descriptor.{Descriptor}
use Rattle.split_ring.specs.Slots.{driver_area, descriptor_at}
use Rattle.split_ring.specs.Chains.{more, link, laid, ChainLies, goes_on, segment_of, entry_of, after_first, after_second, chain_read}
use Rattle.split_ring.proofs.Bytes.{length-descriptor, beside_descriptor, other_descriptor, same_descriptor_back}

pub length-laid : (k : ℕ) (xs : List ℕ) (d : ℕ) (e : Entry) (n : ℕ) → length (laid k xs d e n) ≡ length xs
unfolding laid
length-laid k xs d e zero = refl
length-laid k xs d e (suc n) = length-descriptor (laid k xs d e n) ((d + n) % k) _ ∙ length-laid k xs d e n

-- numbers behind the descriptors stay
pub behind_laid : (k : ℕ) (xs : List ℕ) (d : ℕ) (e : Entry) (n : ℕ) → 0 < k → (j p : ℕ) → driver_area k ≤ p → get j (laid k xs d e n) p ≡ get j xs p
unfolding laid
behind_laid k xs d e zero z j p h = refl
behind_laid k xs d e (suc n) z j p h =
    let m = mod-lt (d + n) z in
    beside_descriptor (laid k xs d e n) ((d + n) % k) _ j p (inr (omega arith)) ∙ behind_laid k xs d e n z j p h

-- descriptors that no segment is laid in stay
pub other_laid : (k : ℕ) (xs : List ℕ) (d : ℕ) (e : Entry) (n i : ℕ) → ((j : ℕ) → j < n → i ≢ (d + j) % k) → descriptor_at (laid k xs d e n) i ≡ descriptor_at xs i
unfolding laid
other_laid k xs d e zero i f = refl
other_laid k xs d e (suc n) i f = other_descriptor (laid k xs d e n) i ((d + n) % k) _ (f n (omega arith)) ∙ other_laid k xs d e n i (λ j h. f j (omega arith))

link_flags : (w m : Bool) → cond w 2 0 + cond m 1 0 < 2 ^ 16
link_flags w m = grind (arith, nat_tests)

link_next : (m : Bool) (n : ℕ) → n < 2 ^ 16 → cond m n 0 < 2 ^ 16
link_next m n h = grind (arith, nat_tests)

-- each of the first n segments lies in its descriptor
pub laid_lies : (k : ℕ) (xs : List ℕ) (d : ℕ) (e : Entry) (n : ℕ) → 0 < k → k ≤ 1024 → n ≤ k → driver_area k ≤ length xs
    → ((i : ℕ) → i < n → TypedSegment (place e i))
    → (i : ℕ) → i < n → descriptor_at (laid k xs d e n) ((d + i) % k) ≡ link e i ((d + i + 1) % k)
unfolding laid
laid_lies k xs d e zero z w h l t i lt = absurd (omega arith)
laid_lies k xs d e (suc n) z w h l t i lt = split (dec_lt i n) (laid_lies k xs d e n z w (omega arith) l (λ j b. t j (omega arith)) i)
  where
    ys : List ℕ
    ys = laid k xs d e n

    split : Dec (i < n) → (i < n → descriptor_at ys ((d + i) % k) ≡ link e i ((d + i + 1) % k)) → descriptor_at (laid k xs d e (suc n)) ((d + i) % k) ≡ link e i ((d + i + 1) % k)
    split (yes a) before = other_descriptor ys ((d + i) % k) ((d + n) % k) _ (places_apart k (d + i) (d + n) (omega arith) (omega arith)) ∙ before a
    split (no a) before =
        let s : i ≡ n = omega arith in
        let m = mod-lt (d + n) z in
        let m1 = mod-lt (d + n + 1) z in
        let y = length-laid k xs d e n in
        let ty = t n (omega arith) in
        subst (λ (j : ℕ). descriptor_at (laid k xs d e (suc n)) ((d + j) % k) ≡ link e j ((d + j + 1) % k)) (sym s)
        (same_descriptor_back ys ((d + n) % k) (link e n ((d + n + 1) % k)) ty.small_start ty.small_length (link_flags (place e n).writable (more e n)) (link_next (more e n) _ (omega arith)) (omega arith))

-- READING BACK
segment_back : (e : Entry) (i n : ℕ) → segment_of (link e i n) ≡ place e i
segment_back e i n = bits (place e i).writable (more e i)
  where
    bits : (w m : Bool) → segment_of (record { start = (place e i).start; length = (place e i).length; flags = cond w 2 0 + cond m 1 0; next = cond m n 0 }) ≡ record { start = (place e i).start; length = (place e i).length; writable = w }
    bits true true = refl
    bits true false = refl
    bits false true = refl
    bits false false = refl

goes_back : (e : Entry) (i n : ℕ) → goes_on (link e i n) ≡ more e i
goes_back e i n = bits (place e i).writable (more e i)
  where
    bits : (w m : Bool) → eqb ((cond w 2 0 + cond m 1 0) % 2) 1 ≡ m
    bits true true = refl
    bits true false = refl
    bits false true = refl
    bits false false = refl

next_back : (e : Entry) (i n : ℕ) → more e i ≡ true → (link e i n).next ≡ n
next_back e i n h = ap (λ b. cond b n 0) h

three : (xs : List Segment) → length xs ≡ 3 → xs ≡ get_or xs 0 blank ∷ get_or xs 1 blank ∷ get_or xs 2 blank ∷ []
three [] h = absurd (omega arith)
three (a ∷ []) h = absurd (omega arith)
three (a ∷ b ∷ []) h = absurd (omega arith)
three (a ∷ b ∷ c ∷ []) h = refl
three (a ∷ b ∷ c ∷ d ∷ rest) h = absurd (omega arith)

same_entry : (e : Entry) (n : ℕ) (a b c : Segment) → length e.segments ≡ 3 → e.count ≡ n → place e 0 ≡ a → place e 1 ≡ b → place e 2 ≡ c → entry_of e.tag n a b c ≡ e
same_entry e n a b c l m x y z =
    let s = three e.segments l in
    λ i. record { tag = e.tag; count = sym m i; segments = (ap₂ (λ (p q : Segment). p ∷ q ∷ c ∷ []) (sym x) (sym y) ∙ ap (λ (q : Segment). place e 0 ∷ place e 1 ∷ q ∷ []) (sym z) ∙ sym s) i }

module _ (xs : List ℕ) (k d : ℕ) (e : Entry) (g : Legal e) (t : Typed e) (c : ChainLies (descriptor_at xs) k d e) where
  -- the descriptor of segment i, with where it goes on
  abbrev on_from : ℕ → ℕ
  on_from i = (d + i + 1) % k

  abbrev step : ℕ → Descriptor
  step i = link e i (on_from i)

  head_link : 0 < e.count → descriptor_at xs (d % k) ≡ step 0
  head_link h = ap (λ j. descriptor_at xs (j % k)) (omega arith) ∙ c 0 h

  -- following NEXT
  followed : (i j : ℕ) → j ≡ i + 1 → j < e.count → descriptor_at xs ((step i).next % k) ≡ step j
  followed i j s h =
      let m : more e i ≡ true = grind (arith, nat_tests) in
      ap (λ n. descriptor_at xs (n % k)) (next_back e i (on_from i) m)
      ∙ ap (descriptor_at xs) (mod-mod (d + i + 1) k)
      ∙ ap (λ n. descriptor_at xs (n % k)) (omega arith)
      ∙ c j h

  ends : (i : ℕ) → e.count ≤ i + 1 → goes_on (step i) ≡ false
  ends i h = let m : more e i ≡ false = grind (arith, nat_tests) in goes_back e i (on_from i) ∙ m

  on : (i : ℕ) → i + 1 < e.count → goes_on (step i) ≡ true
  on i h = let m : more e i ≡ true = grind (arith, nat_tests) in goes_back e i (on_from i) ∙ m

  segment : (i : ℕ) → place e i ≡ segment_of (step i)
  segment i = sym (segment_back e i (on_from i))

  -- what is read after the first descriptor, and after the second, by whether they go on
  abbrev first_read : Bool → Entry
  first_read b = cond b (after_second xs k e.tag (step 0) (descriptor_at xs ((step 0).next % k))) (entry_of e.tag 1 (segment_of (step 0)) blank blank)

  abbrev second_read : Bool → Entry
  second_read b = cond b (entry_of e.tag 3 (segment_of (step 0)) (segment_of (step 1)) (segment_of (descriptor_at xs ((step 1).next % k)))) (entry_of e.tag 2 (segment_of (step 0)) (segment_of (step 1)) blank)

  read_one : e.count ≡ 1 → chain_read xs k (d % k) e.tag ≡ e
  unfolding chain_read
  read_one n =
      ap (after_first xs k e.tag) (head_link (omega arith))
      ∙ ap first_read (ends 0 (omega arith))
      ∙ same_entry e 1 (segment_of (step 0)) blank blank t.three_places n (segment 0) (g.rest_unused 1 (omega arith) (omega arith)) (g.rest_unused 2 (omega arith) (omega arith))

  -- two or more
  read_on : 1 < e.count → chain_read xs k (d % k) e.tag ≡ second_read (goes_on (step 1))
  unfolding chain_read
  read_on n =
      ap (after_first xs k e.tag) (head_link (omega arith))
      ∙ ap first_read (on 0 (omega arith))
      ∙ ap (after_second xs k e.tag (step 0)) (followed 0 1 refl n)

  read_two : e.count ≡ 2 → chain_read xs k (d % k) e.tag ≡ e
  read_two n =
      read_on (omega arith)
      ∙ ap second_read (ends 1 (omega arith))
      ∙ same_entry e 2 (segment_of (step 0)) (segment_of (step 1)) blank t.three_places n (segment 0) (segment 1) (g.rest_unused 2 (omega arith) (omega arith))

  read_three : e.count ≡ 3 → chain_read xs k (d % k) e.tag ≡ e
  read_three n =
      read_on (omega arith)
      ∙ ap second_read (on 1 (omega arith))
      ∙ ap (λ (u : Descriptor). entry_of e.tag 3 (segment_of (step 0)) (segment_of (step 1)) (segment_of u)) (followed 1 2 refl (omega arith))
      ∙ same_entry e 3 (segment_of (step 0)) (segment_of (step 1)) (segment_of (step 2)) t.three_places n (segment 0) (segment 1) (segment 2)

  -- what is read from the head is the entry that lies there
  pub reads_entry : chain_read xs k (d % k) e.tag ≡ e
  reads_entry = by_count e.count refl
    where
      by_count : (n : ℕ) → e.count ≡ n → chain_read xs k (d % k) e.tag ≡ e
      by_count zero n = let s = g.some_segment in absurd (omega arith)
      by_count (suc zero) n = read_one n
      by_count (suc (suc zero)) n = read_two n
      by_count (suc (suc (suc zero))) n = read_three n
      by_count (suc (suc (suc (suc m)))) n = let s = g.at_most_three in absurd (omega arith)
