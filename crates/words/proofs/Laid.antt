-- What a write to a part leaves: the part reads back, and what lies apart stays.
use Rattle.std.proofs.Common.{◌≡◌, ℕ, ◌+◌, ◌-◌, ◌<◌, ◌≤◌, true, false, leb, ◌⊎◌, List, [], ◌∷◌, ◌++◌, length, get_or, take, drop, replicate, sym, ap, ◌∙◌, inl, inr, arith, rules}
use borrow.Rule.Slice.PartMut.{put_mid}
use Rattle.std.proofs.lemmas.List.{places, same_lists, length-take, length-drop, take_at, drop_at, get_or-take, length-replicate, get_or-drop, drop-drop, get_or_at}
use Rattle.std.proofs.lemmas.Bool.Decides.{leb_tells, nat_tests}
use Rattle.words.specs.Bytes.{part, overwrite}

pub part_within : (at k : ℕ) (xs : List ℕ) → at + k ≤ length xs → part at k xs ≡ take k (drop at xs)
unfolding part
part_within at k xs h = grind (arith, nat_tests)

pub part_outside : (at k : ℕ) (xs : List ℕ) → length xs < at + k → part at k xs ≡ []
unfolding part
part_outside at k xs h = grind (arith, nat_tests)

pub overwrite_within : (at : ℕ) (new xs : List ℕ) → at + length new ≤ length xs → overwrite at new xs ≡ take at xs ++ (new ++ drop (at + length new) xs)
unfolding overwrite
overwrite_within at new xs h = grind (arith, nat_tests)

pub length_part : (at k : ℕ) (xs : List ℕ) → at + k ≤ length xs → length (part at k xs) ≡ k
length_part at k xs h = rw (part_within) (search (rules, places))

pub length-part_le : (at k : ℕ) (xs : List ℕ) → length (part at k xs) ≤ k
length-part_le at k xs = elim (leb_tells (at + k) (length xs)) [
  | inl t ↦ omega (arith, length_part at k xs t.1)
  | inr t ↦ omega (arith, ap (λ (ys : List ℕ). length ys) (part_outside at k xs t.1))
]

length-written : (at : ℕ) (new xs : List ℕ) → at + length new ≤ length xs → length (take at xs ++ (new ++ drop (at + length new) xs)) ≡ length xs
length-written at new xs h = search (rules, places)

pub length-overwrite : (at : ℕ) (new xs : List ℕ) → length (overwrite at new xs) ≡ length xs
unfolding overwrite
length-overwrite at new xs = grind (arith, nat_tests, length-written)

byte_written_apart : (at : ℕ) (new xs : List ℕ) (i d : ℕ) → at + length new ≤ length xs → (i < at) ⊎ (at + length new ≤ i)
    → get_or (take at xs ++ (new ++ drop (at + length new) xs)) i d ≡ get_or xs i d
byte_written_apart at new xs i d h (inl p) = search (rules, places)
byte_written_apart at new xs i d h (inr p) = search (rules, places)

pub byte_apart : (at : ℕ) (new xs : List ℕ) (i d : ℕ) → (i < at) ⊎ (at + length new ≤ i) → get_or (overwrite at new xs) i d ≡ get_or xs i d
unfolding overwrite
byte_apart at new xs i d p = grind (arith, nat_tests, byte_written_apart)

byte_written : (at : ℕ) (new xs : List ℕ) (i d : ℕ) → at + length new ≤ length xs → i < length new → get_or (take at xs ++ (new ++ drop (at + length new) xs)) (at + i) d ≡ get_or new i d
byte_written at new xs i d h l = search (rules, places)

pub byte_inside : (at : ℕ) (new xs : List ℕ) (i d : ℕ) → at + length new ≤ length xs → i < length new → get_or (overwrite at new xs) (at + i) d ≡ get_or new i d
byte_inside at new xs i d h l = ap (λ (ys : List ℕ). get_or ys (at + i) d) (overwrite_within at new xs h) ∙ byte_written at new xs i d h l

pub part_of_same : (at k : ℕ) (new xs : List ℕ) → at + k ≤ length xs → length new ≡ k → part at k (overwrite at new xs) ≡ new
part_of_same at k new xs h e =
    let l = length-overwrite at new xs in
    let w : at + k ≤ length (overwrite at new xs) = omega arith in
    let o : at + length new ≤ length xs = omega arith in
    let a : length (take at xs) ≡ at = simp length-take (omega arith) in
    part_within at k (overwrite at new xs) w
    ∙ ap (λ (ys : List ℕ). take k (drop at ys)) (overwrite_within at new xs o)
    ∙ ap (take k) (drop_at (take at xs) (new ++ drop (at + length new) xs) at a)
    ∙ take_at new (drop (at + length new) xs) k e

pub byte_of_part : (p k : ℕ) (xs : List ℕ) (i d : ℕ) → p + k ≤ length xs → i < k → get_or (part p k xs) i d ≡ get_or xs (p + i) d
byte_of_part p k xs i d h l = ap (λ (ys : List ℕ). get_or ys i d) (part_within p k xs h) ∙ get_or-take k (drop p xs) i d l ∙ get_or-drop p xs i d

pub part_apart : (p k at : ℕ) (new xs : List ℕ) → (p + k ≤ at) ⊎ (at + length new ≤ p) → part p k (overwrite at new xs) ≡ part p k xs
part_apart p k at new xs q =
    let l = length-overwrite at new xs in
    elim (leb_tells (p + k) (length xs)) [
      | inl t ↦ same_lists _ _ (length_part p k (overwrite at new xs) (omega arith) ∙ sym (length_part p k xs t.1)) (λ i d h. same t i d (omega (arith, length_part p k (overwrite at new xs) (omega arith))))
      | inr t ↦ part_outside p k (overwrite at new xs) (omega arith) ∙ sym (part_outside p k xs t.1)
    ]
  where
    same : (leb (p + k) (length xs) ≡ true) × (p + k ≤ length xs) → (i d : ℕ) → i < k → get_or (part p k (overwrite at new xs)) i d ≡ get_or (part p k xs) i d
    same t i d h =
        let l = length-overwrite at new xs in
        let away : (p + i < at) ⊎ (at + length new ≤ p + i) = elim q [ inl x ↦ inl (omega arith) | inr x ↦ inr (omega arith) ] in
        byte_of_part p k (overwrite at new xs) i d (omega arith) h ∙ byte_apart at new xs (p + i) d away ∙ sym (byte_of_part p k xs i d t.1 h)

pub overwrite_none : (at : ℕ) (xs : List ℕ) → overwrite at [] xs ≡ xs
unfolding overwrite
overwrite_none at xs = same_lists _ _ (length-overwrite at [] xs) (λ i d h. byte_apart at [] xs i d (away i))
  where
    away : (i : ℕ) → (i < at) ⊎ (at + length {A = ℕ} [] ≤ i)
    away i = elim (leb_tells at i) [ inl t ↦ inr (omega arith) | inr t ↦ inl t.1 ]

pub drop_apart : (n at : ℕ) (new xs : List ℕ) → at + length new ≤ n → drop n (overwrite at new xs) ≡ drop n xs
drop_apart n at new xs h = same_lists _ _ (length-drop n (overwrite at new xs) ∙ ap (λ l. l - n) (length-overwrite at new xs) ∙ sym (length-drop n xs))
    (λ i d _. get_or-drop n (overwrite at new xs) i d ∙ byte_apart at new xs (n + i) d (inr (omega arith)) ∙ sym (get_or-drop n xs i d))

pub byte_same : (at b : ℕ) (xs : List ℕ) (d : ℕ) → at < length xs → get_or (overwrite at (b ∷ []) xs) at d ≡ b
byte_same at b xs d h =
    let a : length (take at xs) ≡ at = simp length-take (omega arith) in
    ap (λ (ys : List ℕ). get_or ys at d) (overwrite_within at (b ∷ []) xs (omega arith)) ∙ get_or_at (take at xs) b (drop (at + 1) xs) d at a

-- the code's part and write, where the test said that the part lies within
pub part_read : (at k : ℕ) (xs : List ℕ) → true ≡ leb (at + k) (length xs) → take k (drop at xs) ≡ part at k xs
part_read at k xs h = let w : at + k ≤ length xs = grind (arith, nat_tests) in sym (part_within at k xs w)

pub part_written : (at : ℕ) (new xs : List ℕ) → true ≡ leb (at + length new) (length xs) → put_mid at (length new) xs new ≡ overwrite at new xs
part_written at new xs h =
    let w : at + length new ≤ length xs = grind (arith, nat_tests) in
    ap (λ (ys : List ℕ). take at xs ++ (new ++ ys)) (drop-drop (length new) at xs) ∙ sym (overwrite_within at new xs w)

-- the same with the lengths that slicing gives, and where the test said that the part does not lie within
pub part_sliced : (at k : ℕ) (xs : List ℕ) → true ≡ leb (at + k) (length xs) → take (at + k - at) (drop at xs) ≡ part at k xs
part_sliced at k xs h = let n : at + k - at ≡ k = omega arith in ap (λ j. take j (drop at xs)) n ∙ part_read at k xs h

pub part_not_read : (at k : ℕ) (xs : List ℕ) → false ≡ leb (at + k) (length xs) → [] ≡ part at k xs
unfolding part
part_not_read at k xs h = grind (arith, nat_tests)

pub slice_written : (at k : ℕ) (new xs : List ℕ) → true ≡ leb (at + k) (length xs) → length new ≡ k → put_mid at (at + k - at) xs new ≡ overwrite at new xs
slice_written at k new xs h l =
    let n : at + k - at ≡ length new = omega arith in
    ap (λ j. put_mid at j xs new) n ∙ part_written at new xs (h ∙ ap (λ j. leb (at + j) (length xs)) (sym l))

pub slice_not_written : (at k : ℕ) (new xs : List ℕ) → false ≡ leb (at + k) (length xs) → length new ≡ k → xs ≡ overwrite at new xs
unfolding overwrite
slice_not_written at k new xs h l = grind (arith, nat_tests)

pub zeroes_not_written : (at k : ℕ) (xs : List ℕ) → false ≡ leb (at + k) (length xs) → xs ≡ overwrite at (replicate k 0) xs
zeroes_not_written at k xs h = slice_not_written at k (replicate k 0) xs h (length-replicate {A = ℕ} k 0)
