-- A console store keeps the text that fits and counts the rest.
use Rattle.std.proofs.Common.{◌≡◌, ℕ, ◌+◌, ◌-◌, ◌^◌, ◌<◌, ◌≤◌, min, true, ◌⊎◌, List, ◌++◌, length, take, drop, sym, ap, ◌∙◌, inl, inr, mod-eq_of_lt, arith}
use lib.Seq.{take-append-add}
use Rattle.std.proofs.lemmas.List.{length-take, length-drop, take_all, take_at, drop-take, drop-append-le}
use Rattle.std.proofs.lemmas.Bool.{cases_lt}
use Rattle.std.proofs.lemmas.Bool.Decides.{nat_tests}
use Rattle.words.specs.Bytes.{overwrite}
use Rattle.words.specs.Numbers.{put}
use Rattle.words.proofs.Laid.{length-overwrite, overwrite_within, overwrite_none}
use Rattle.words.proofs.Widths.{length-put, reads_back, get_apart, drop_put}
use Rattle.class.specs.Refusals.{is_store}
use Rattle.console.specs.Service.{kept_in, lost_in, room, fits, append}
use Rattle.console.specs.Log.{text_in}

take_on : (xs ys : List ℕ) (k m : ℕ) → length xs ≡ k → take (k + m) (xs ++ ys) ≡ xs ++ take m ys
take_on xs ys k m h = ap (λ j. take (j + m) (xs ++ ys)) (sym h) ∙ take-append-add xs ys m

-- a front no longer than the list
take_most : (xs : List ℕ) (m : ℕ) → take m xs ≡ take (min (length xs) m) xs
take_most xs m = elim (cases_lt m (length xs)) [
  | inl h ↦ ap (λ j. take j xs) (omega arith)
  | inr h ↦ take_all m xs h ∙ sym (take_all (min (length xs) m) xs (omega arith))
]

-- the code's cut of the text at the store's end
pub cut_at_end : (store : List ℕ) (k : ℕ) → take (min k (length store - 8)) (drop 8 store) ≡ take k (drop 8 store)
cut_at_end store k =
    let l = length-drop 8 store in
    let e : min k (length store - 8) ≡ min (length (drop 8 store)) k = omega arith in
    ap (λ j. take j (drop 8 store)) e ∙ sym (take_most (drop 8 store) k)

module _ (store line : List ℕ) (small : kept_in store < 2 ^ 32) (sound : is_store 8 store ≡ true) where
  abbrev n : ℕ
  n = fits store line

  -- the text with what fits of the line after it, before the counts are written
  abbrev grown : List ℕ
  grown = overwrite (8 + kept_in store) (take n line) store

  abbrev lost_then : ℕ
  lost_then = min (lost_in store + (length line - n)) 4294967295

  bounds : (8 ≤ length store) × (length store ≤ 4294967296)
  bounds = (grind (arith, nat_tests), grind (arith, nat_tests))

  kept_small : kept_in store + n < 2 ^ 32
  kept_small = let b = bounds in omega arith

  kept_then : kept_in (append store line) ≡ kept_in store + n
  kept_then =
      let b = bounds in
      let l = length-overwrite (8 + kept_in store) (take n line) store in
      get_apart 4 4 (put 4 grown 0 (kept_in store + n)) 4 0 lost_then (inl (omega arith))
      ∙ reads_back 4 grown 0 (kept_in store + n) (omega arith)
      ∙ mod-eq_of_lt kept_small

  lost_is : lost_in (append store line) ≡ lost_then
  lost_is =
      let b = bounds in
      let l = length-overwrite (8 + kept_in store) (take n line) store in
      let m = length-put 4 grown 0 (kept_in store + n) in
      reads_back 4 (put 4 grown 0 (kept_in store + n)) 4 lost_then (omega arith)
      ∙ mod-eq_of_lt (omega arith)

  pub counted : (kept_in (append store line) + lost_in (append store line) ≡ kept_in store + lost_in store + length line) ⊎ (lost_in (append store line) ≡ 4294967295)
  counted = elim (cases_lt (lost_in store + (length line - n)) 4294967295) [
    | inl h ↦ inl (omega (arith, kept_then, lost_is))
    | inr h ↦ inr (omega (arith, lost_is))
  ]

  text_after : text_in (append store line) ≡ take (kept_in store + n) (drop 8 grown)
  text_after =
      ap (λ k. take k (drop 8 (append store line))) kept_then
      ∙ ap (take (kept_in store + n)) (drop_put 4 8 (put 4 grown 0 (kept_in store + n)) 4 lost_then (omega arith) ∙ drop_put 4 8 grown 0 (kept_in store + n) (omega arith))

  -- where kept lies within the store
  text_within : kept_in store ≤ length store - 8 → take (kept_in store + n) (drop 8 grown) ≡ take (length store - 8) (text_in store ++ line)
  text_within h =
      let b = bounds in
      let k = kept_in store in
      let front = take n line in
      let rest = drop (8 + k + length front) store in
      let fl : length front ≡ n = simp length-take (omega arith) in
      let tl : length (text_in store) ≡ k = simp (length-take, length-drop) (omega arith) in
      let hl : 8 ≤ length (take (8 + k) store) = simp length-take (omega arith) in
      let up : length store - 8 ≡ k + room store = omega arith in
      ap (λ (s : List ℕ). take (k + n) (drop 8 s)) (overwrite_within (8 + k) front store (omega arith))
      ∙ ap (take (k + n)) (drop-append-le 8 (take (8 + k) store) (front ++ rest) hl ∙ ap (λ (s : List ℕ). s ++ (front ++ rest)) (drop-take 8 k store))
      ∙ take_on (text_in store) (front ++ rest) k n tl
      ∙ ap (λ (s : List ℕ). text_in store ++ s) (take_at front rest n fl ∙ sym (take_most line (room store)))
      ∙ sym (take_on (text_in store) line k (room store) tl)
      ∙ ap (λ m. take m (text_in store ++ line)) (sym up)

  -- where it lies beyond the end
  text_full : length store - 8 < kept_in store → take (kept_in store + n) (drop 8 grown) ≡ take (length store - 8) (text_in store ++ line)
  text_full h =
      let b = bounds in
      let k = kept_in store in
      let none : n ≡ 0 = omega arith in
      let same : grown ≡ store = ap (λ m. overwrite (8 + k) (take m line) store) none ∙ overwrite_none (8 + k) store in
      let dl = length-drop 8 store in
      let whole : text_in store ≡ drop 8 store = take_all k (drop 8 store) (omega arith) in
      ap (λ (s : List ℕ). take (k + n) (drop 8 s)) same
      ∙ take_all (k + n) (drop 8 store) (omega arith)
      ∙ sym (take_at (drop 8 store) line (length store - 8) dl)
      ∙ ap (λ (s : List ℕ). take (length store - 8) (s ++ line)) (sym whole)

  pub grows : text_in (append store line) ≡ take (length store - 8) (text_in store ++ line)
  grows = text_after ∙ elim (cases_lt (length store - 8) (kept_in store)) [ inl h ↦ text_full h | inr h ↦ text_within h ]
