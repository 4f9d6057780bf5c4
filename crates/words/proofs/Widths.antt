-- Numbers of every width: what is written reads back, and what lies apart stays.
use Rattle.std.proofs.Common.{◌≡◌, ℕ, zero, suc, ◌+◌, ◌*◌, ◌/◌, ◌%◌, ◌^◌, ◌<◌, ◌≤◌, true, false, leb, ◌⊎◌, List, [], ◌∷◌, length, get_or, take, drop, replicate, sym, refl, ap, ◌∙◌, inl, inr, pow-suc, arith, lit<}
use native.Mathlib.Nat.{one-le-pow}
use lib.Arith.{mod-mul}
use Rattle.std.proofs.lemmas.List.{drop_more, same_lists, length-replicate, get_or-replicate, get_or_default}
use Rattle.std.proofs.lemmas.Bool.Decides.{leb_tells, nat_tests}
use Rattle.words.specs.Bytes.{part, overwrite}
use Rattle.words.specs.Numbers.{le, value, get, put}
use Rattle.words.proofs.Laid.{part_within, part_outside, length_part, byte_of_part, part_of_same, part_apart, byte_apart, drop_apart, length-overwrite}

pub length-le : (k n : ℕ) → length (le k n) ≡ k
unfolding le
length-le zero n = refl
length-le (suc k) n = ap suc (length-le k (n / 256))

pub value_le : (k n : ℕ) → value (le k n) ≡ n % 256 ^ k
unfolding le value
value_le zero n = omega arith
value_le (suc k) n =
    let r = value_le k (n / 256) in
    let p : 256 ^ suc k ≡ 256 ^ k * 256 = pow-suc 256 k in
    let m : n % (256 ^ k * 256) ≡ (n / 256 % 256 ^ k) * 256 + n % 256 = mod-mul n (one-le-pow k 256 (lit< tt)) (lit< tt) in
    omega (arith, ap (λ q. n % q) p, m, p)

-- the code's reads, where the test said whether the number lies within
pub get_outside : (k at : ℕ) (xs : List ℕ) → false ≡ leb (at + k) (length xs) → 0 ≡ get k xs at
unfolding get value
get_outside k at xs h =
    let w : length xs < at + k = grind (arith, nat_tests) in
    sym (ap value (part_outside at k xs w))

-- the k bytes from at + i on, one by one
unfoldable pub each : ℕ → ℕ → ℕ → List ℕ → List ℕ
each zero at i xs = []
each (suc k) at i xs = get_or xs (at + i) 0 ∷ each k at (i + 1) xs

pub taken_each : (k at i : ℕ) (xs : List ℕ) → at + i + k ≤ length xs → take k (drop (at + i) xs) ≡ each k at i xs
unfolding each
taken_each zero at i xs h = refl
taken_each (suc k) at i xs h =
    let e : at + i + 1 ≡ at + (i + 1) = omega arith in
    ap (take (suc k)) (drop_more xs (at + i) 0 (omega arith))
    ∙ ap (λ j. get_or xs (at + i) 0 ∷ take k (drop j xs)) e
    ∙ ap (λ (ys : List ℕ). get_or xs (at + i) 0 ∷ ys) (taken_each k at (i + 1) xs (omega arith))

-- a number byte by byte, where its bytes lie within
pub get_inside : (k at : ℕ) (xs : List ℕ) → true ≡ leb (at + k) (length xs) → get k xs at ≡ value (each k at 0 xs)
unfolding get
get_inside k at xs h =
    let w : at + k ≤ length xs = grind (arith, nat_tests) in
    let z : at ≡ at + 0 = omega arith in
    ap value (part_within at k xs w ∙ ap (λ j. take k (drop j xs)) z ∙ taken_each k at 0 xs (omega arith))

-- the same of a byte and k more, with the first byte at its own place
pub get_from_first : (k at : ℕ) (xs : List ℕ) → true ≡ leb (at + suc k) (length xs) → get (suc k) xs at ≡ value (get_or xs at 0 ∷ each k at 1 xs)
unfolding get
get_from_first k at xs h =
    let w : at + suc k ≤ length xs = grind (arith, nat_tests) in
    ap value (part_within at (suc k) xs w ∙ ap (take (suc k)) (drop_more xs at 0 (omega arith)) ∙ ap (λ (ys : List ℕ). get_or xs at 0 ∷ ys) (taken_each k at 1 xs (omega arith)))

value_zeroes : (k : ℕ) → value (replicate k 0) ≡ 0
unfolding value
value_zeroes zero = refl
value_zeroes (suc k) = omega (arith, value_zeroes k)

pub get_zeroes : (k : ℕ) (xs : List ℕ) (at : ℕ) → ((i : ℕ) → i < k → get_or xs (at + i) 0 ≡ 0) → get k xs at ≡ 0
unfolding get
get_zeroes k xs at each_zero = elim (leb_tells (at + k) (length xs)) [
  | inl t ↦ ap value (zeroes t.1) ∙ value_zeroes k
  | inr t ↦ sym (get_outside k at xs (sym t.0))
]
  where
    zeroes : at + k ≤ length xs → part at k xs ≡ replicate k 0
    zeroes h =
        let l = length_part at k xs h in
        same_lists _ _ (l ∙ sym (length-replicate {A = ℕ} k 0)) (λ i d m.
        byte_of_part at k xs i d h (omega arith) ∙ get_or_default xs (at + i) d 0 (omega arith) ∙ each_zero i (omega arith) ∙ sym (get_or-replicate {A = ℕ} k i 0 d (omega arith)))

pub length-put : (k : ℕ) (xs : List ℕ) (at n : ℕ) → length (put k xs at n) ≡ length xs
unfolding put
length-put k xs at n = length-overwrite at (le k n) xs

pub reads_back : (k : ℕ) (xs : List ℕ) (at n : ℕ) → at + k ≤ length xs → get k (put k xs at n) at ≡ n % 256 ^ k
unfolding get put
reads_back k xs at n h = ap value (part_of_same at k (le k n) xs h (length-le k n)) ∙ value_le k n

pub get_over : (j : ℕ) (xs : List ℕ) (at p : ℕ) (new : List ℕ) → (p + j ≤ at) ⊎ (at + length new ≤ p) → get j (overwrite at new xs) p ≡ get j xs p
unfolding get
get_over j xs at p new q = ap value (part_apart p j at new xs q)

pub get_apart : (k j : ℕ) (xs : List ℕ) (at p n : ℕ) → (p + j ≤ at) ⊎ (at + k ≤ p) → get j (put k xs at n) p ≡ get j xs p
unfolding put
get_apart k j xs at p n q =
    let l = length-le k n in
    get_over j xs at p (le k n) (elim q [ inl x ↦ inl x | inr x ↦ inr (omega arith) ])

pub byte_put : (k : ℕ) (xs : List ℕ) (at n i d : ℕ) → (i < at) ⊎ (at + k ≤ i) → get_or (put k xs at n) i d ≡ get_or xs i d
unfolding put
byte_put k xs at n i d q =
    let l = length-le k n in
    byte_apart at (le k n) xs i d (elim q [ inl x ↦ inl x | inr x ↦ inr (omega arith) ])

pub drop_put : (k n : ℕ) (xs : List ℕ) (at m : ℕ) → at + k ≤ n → drop n (put k xs at m) ≡ drop n xs
unfolding put
drop_put k n xs at m h = let l = length-le k m in drop_apart n at (le k m) xs (omega arith)
