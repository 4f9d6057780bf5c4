-- What a write to one slot of a region leaves of the others.
use Rattle.std.proofs.Common.{◌≡◌, ℕ, ◌+◌, ◌*◌, ◌^◌, ◌<◌, ◌≤◌, ◌≢◌, ◌⊎◌, List, length, ◌∙◌, inl, inr, mod-eq_of_lt, mul-le-mul_left, mul-suc, arith}
use native.Mathlib.Decide.{dec_lt}
use Rattle.words.specs.Numbers.{put, get}
use Rattle.words.proofs.Widths.{length-put, get_apart, reads_back}
use Rattle.split_ring.specs.declared.descriptors.Descriptor.{Descriptor}
use Rattle.split_ring.specs.declared.rings.UsedElement.{UsedElement}
use Rattle.split_ring.specs.Slots.{descriptor_place, index_place, head_place, used_index_place, used_place, descriptor_at, put_descriptor, head_at, put_head, used_at, put_used}

above : (k j : ℕ) (xs : List ℕ) (at p n : ℕ) → at + k ≤ p → get j (put k xs at n) p ≡ get j xs p
above k j xs at p n h = get_apart k j xs at p n (inr h)

below : (k j : ℕ) (xs : List ℕ) (at p n : ℕ) → p + j ≤ at → get j (put k xs at n) p ≡ get j xs p
below k j xs at p n h = get_apart k j xs at p n (inl h)

-- lengths
pub length-descriptor : (xs : List ℕ) (j : ℕ) (v : Descriptor) → length (put_descriptor xs j v) ≡ length xs
length-descriptor xs j v = simp length-put

pub length-head : (k : ℕ) (xs : List ℕ) (j h i : ℕ) → length (put_head k xs j h i) ≡ length xs
length-head k xs j h i = simp length-put

pub length-used : (k : ℕ) (xs : List ℕ) (j : ℕ) (u : UsedElement) (i : ℕ) → length (put_used k xs j u i) ≡ length xs
length-used k xs j u i = simp length-put

-- a number outside what is written: a descriptor, a head with the index, a used element with the index
pub beside_descriptor : (xs : List ℕ) (j : ℕ) (v : Descriptor) (n p : ℕ) → (p + n ≤ descriptor_place j) ⊎ (descriptor_place j + 16 ≤ p) → get n (put_descriptor xs j v) p ≡ get n xs p
beside_descriptor xs j v n p (inl h) = grind (arith, below)
beside_descriptor xs j v n p (inr h) = grind (arith, above)

pub beside_head : (k : ℕ) (xs : List ℕ) (j h i n p : ℕ) → (p + n ≤ index_place k) ⊎ (index_place k + 2 ≤ p) → (p + n ≤ head_place k j) ⊎ (head_place k j + 2 ≤ p) → get n (put_head k xs j h i) p ≡ get n xs p
beside_head k xs j h i n p a b = get_apart 2 n _ (index_place k) p _ a ∙ get_apart 2 n _ (head_place k j) p _ b

pub beside_used : (k : ℕ) (xs : List ℕ) (j : ℕ) (u : UsedElement) (i n p : ℕ) → (p + n ≤ used_index_place k) ⊎ (used_index_place k + 2 ≤ p) → (p + n ≤ used_place k j) ⊎ (used_place k j + 8 ≤ p) → get n (put_used k xs j u i) p ≡ get n xs p
beside_used k xs j u i n p a (inl h) = get_apart 2 n _ (used_index_place k) p _ a ∙ grind (arith, below)
beside_used k xs j u i n p a (inr h) = get_apart 2 n _ (used_index_place k) p _ a ∙ grind (arith, above)

-- a whole descriptor, wherever its bytes are the same
pub same_descriptor : (xs ys : List ℕ) (i : ℕ) → ((n p : ℕ) → descriptor_place i ≤ p → p + n ≤ descriptor_place i + 16 → get n ys p ≡ get n xs p) → descriptor_at ys i ≡ descriptor_at xs i
same_descriptor xs ys i f =
    let a = f 8 (descriptor_place i) (omega arith) (omega arith) in
    let b = f 4 (descriptor_place i + 8) (omega arith) (omega arith) in
    let c = f 2 (descriptor_place i + 12) (omega arith) (omega arith) in
    let e = f 2 (descriptor_place i + 14) (omega arith) (omega arith) in
    λ t. record { start = a t; length = b t; flags = c t; next = e t }

pub same_used : (k : ℕ) (xs ys : List ℕ) (i : ℕ) → ((n p : ℕ) → used_place k i ≤ p → p + n ≤ used_place k i + 8 → get n ys p ≡ get n xs p) → used_at k ys i ≡ used_at k xs i
same_used k xs ys i f =
    let a = f 4 (used_place k i) (omega arith) (omega arith) in
    let b = f 4 (used_place k i + 4) (omega arith) (omega arith) in
    λ t. record { head = a t; written = b t }

-- slots beside one another
apart_slots : (width i j : ℕ) → i ≢ j → (width * i + width ≤ width * j) ⊎ (width * j + width ≤ width * i)
apart_slots width i j ne = split (dec_lt i j)
  where
    split : Dec (i < j) → (width * i + width ≤ width * j) ⊎ (width * j + width ≤ width * i)
    split (yes h) = inl (omega (arith, mul-le-mul_left width h, mul-suc width i))
    split (no h) = let l : j < i = omega (arith, ne) in inr (omega (arith, mul-le-mul_left width l, mul-suc width j))

pub other_descriptor : (xs : List ℕ) (i j : ℕ) (v : Descriptor) → i ≢ j → descriptor_at (put_descriptor xs j v) i ≡ descriptor_at xs i
other_descriptor xs i j v ne = let a = apart_slots 16 i j ne in same_descriptor xs (put_descriptor xs j v) i (λ n p h l. beside_descriptor xs j v n p (grind arith))

pub same_descriptor_back : (xs : List ℕ) (j : ℕ) (v : Descriptor) → v.start < 2 ^ 64 → v.length < 2 ^ 32 → v.flags < 2 ^ 16 → v.next < 2 ^ 16 → descriptor_place j + 16 ≤ length xs → descriptor_at (put_descriptor xs j v) j ≡ v
same_descriptor_back xs j v a b c d h = grind (arith, above, below, reads_back, length-put, mod-eq_of_lt)

pub other_head : (k : ℕ) (xs : List ℕ) (i j h n : ℕ) → i ≢ j → head_at k (put_head k xs j h n) i ≡ head_at k xs i
other_head k xs i j h n ne = let a = apart_slots 2 i j ne in beside_head k xs j h n 2 (head_place k i) (inr (omega arith)) (grind arith)

pub head_back : (k : ℕ) (xs : List ℕ) (j h n : ℕ) → h < 2 ^ 16 → head_place k j + 2 ≤ length xs → head_at k (put_head k xs j h n) j ≡ h
head_back k xs j h n f l = grind (arith, above, reads_back, mod-eq_of_lt)

pub index_back : (k : ℕ) (xs : List ℕ) (j h n : ℕ) → n < 2 ^ 16 → index_place k + 2 ≤ length xs → get 2 (put_head k xs j h n) (index_place k) ≡ n
index_back k xs j h n f l = grind (arith, reads_back, length-put, mod-eq_of_lt)

pub other_used : (k : ℕ) (xs : List ℕ) (i j : ℕ) (u : UsedElement) (n : ℕ) → i ≢ j → used_at k (put_used k xs j u n) i ≡ used_at k xs i
other_used k xs i j u n ne = let a = apart_slots 8 i j ne in same_used k xs (put_used k xs j u n) i (λ m p h l. beside_used k xs j u n m p (inr (omega arith)) (grind arith))

pub used_back : (k : ℕ) (xs : List ℕ) (j : ℕ) (u : UsedElement) (n : ℕ) → u.head < 2 ^ 32 → u.written < 2 ^ 32 → used_place k j + 8 ≤ length xs → used_at k (put_used k xs j u n) j ≡ u
used_back k xs j u n f g l = grind (arith, above, below, reads_back, length-put, mod-eq_of_lt)

pub used_index_back : (k : ℕ) (xs : List ℕ) (j : ℕ) (u : UsedElement) (n : ℕ) → n < 2 ^ 16 → used_index_place k + 2 ≤ length xs → get 2 (put_used k xs j u n) (used_index_place k) ≡ n
used_index_back k xs j u n f l = grind (arith, reads_back, length-put, mod-eq_of_lt)
