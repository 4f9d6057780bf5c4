-- Items that lie one after another: what holds of every such run.
use Rattle.std.proofs.Common.{◌≡◌, ℕ, ◌+◌, ◌%◌, ◌≤◌, List, [], ◌∷◌, ◌++◌, length, refl, ap, ◌∙◌, arith}
use Rattle.positions.proofs.Modulo.{next_place}
use Rattle.queue.specs.Meaning.{All, total}
use Rattle.queue.specs.Lists.{Run, read_off, Keeps}

module _ {X : Type 0} (size span : X → ℕ) where
  pub run_forward : (At : ℕ → ℕ → X → Type 0) (d p : ℕ) (xs : List X) (d' p' : ℕ) → Run size span At d p xs d' p' → (d ≤ d') × (p ≤ p')
  unfolding Run
  run_forward At d p [] d' p' r = grind arith
  run_forward At d p (x ∷ xs) d' p' r = grind (arith, run_forward At (d + size x) (p + span x) xs d' p' r.1)

  pub run_push : (At : ℕ → ℕ → X → Type 0) (d p : ℕ) (xs : List X) (d' p' : ℕ) (x : X) → Run size span At d p xs d' p' → At d' p' x → Run size span At d p (xs ++ (x ∷ [])) (d' + size x) (p' + span x)
  unfolding Run
  run_push At d p [] d' p' x r a = rw (r.0, r.1) (a, (refl, refl))
  run_push At d p (y ∷ ys) d' p' x r a = (r.0, run_push At (d + size y) (p + span y) ys d' p' x r.1 a)

  -- a run stays where everything in its bounds does
  pub run_kept : (At At' : ℕ → ℕ → X → Type 0) (lo hi lop hip : ℕ) → Keeps size span At At' lo hi lop hip
      → (d p : ℕ) (xs : List X) (d' p' : ℕ) → lo ≤ d → d' ≤ hi → lop ≤ p → p' ≤ hip
      → Run size span At d p xs d' p' → Run size span At' d p xs d' p'
  unfolding Run
  run_kept At At' lo hi lop hip f d p [] d' p' a b c e r = r
  run_kept At At' lo hi lop hip f d p (x ∷ xs) d' p' a b c e r =
      let m = run_forward At (d + size x) (p + span x) xs d' p' r.1 in
      (f d p x a (omega arith) c (omega arith) r.0, run_kept At At' lo hi lop hip f (d + size x) (p + span x) xs d' p' (omega arith) b (omega arith) e r.1)

  -- no more positions than places
  pub run_narrow : (At : ℕ → ℕ → X → Type 0) → ((d p : ℕ) (x : X) → At d p x → span x ≤ size x) → (d p : ℕ) (xs : List X) (d' p' : ℕ) → Run size span At d p xs d' p' → p' + d ≤ d' + p
  unfolding Run
  run_narrow At f d p [] d' p' r = omega arith
  run_narrow At f d p (x ∷ xs) d' p' r = omega (arith, f d p x r.0, run_narrow At f (d + size x) (p + span x) xs d' p' r.1)

  -- what is read off is what lies there
  pub run_read : (k : ℕ) (read : ℕ → X) (At : ℕ → ℕ → X → Type 0) → ((d p : ℕ) (x : X) → At d p x → read (p % k) ≡ x)
      → (d p : ℕ) (xs : List X) (d' p' : ℕ) (a : ℕ) → a % k ≡ p % k → Run size span At d p xs d' p' → read_off span (λ q. read (q % k)) (length xs) a ≡ xs
  unfolding Run read_off
  run_read k read At f d p [] d' p' a e r = refl
  run_read k read At f d p (x ∷ xs) d' p' a e r =
      let h : read (a % k) ≡ x = ap read e ∙ f d p x r.0 in
      grind (arith, run_read k read At f (d + size x) (p + span x) xs d' p' (a + span x) (next_place k a p (span x) e) r.1)

  -- where a run ends
  pub run_places : (At : ℕ → ℕ → X → Type 0) (d p : ℕ) (xs : List X) (d' p' : ℕ) → Run size span At d p xs d' p' → d' ≡ d + total size xs
  unfolding Run
  run_places At d p [] d' p' r = omega arith
  run_places At d p (x ∷ xs) d' p' r = omega (arith, run_places At (d + size x) (p + span x) xs d' p' r.1)

  pub run_positions : (At : ℕ → ℕ → X → Type 0) (d p : ℕ) (xs : List X) (d' p' : ℕ) → Run size span At d p xs d' p' → p' ≡ p + total span xs
  unfolding Run
  run_positions At d p [] d' p' r = omega arith
  run_positions At d p (x ∷ xs) d' p' r = omega (arith, run_positions At (d + size x) (p + span x) xs d' p' r.1)

  -- what holds of whatever lies there holds of every item
  pub run_all : (At : ℕ → ℕ → X → Type 0) (P : X → Type 0) → ((d p : ℕ) (x : X) → At d p x → P x) → (d p : ℕ) (xs : List X) (d' p' : ℕ) → Run size span At d p xs d' p' → All P xs
  unfolding Run
  run_all At P f d p [] d' p' r = tt
  run_all At P f d p (x ∷ xs) d' p' r = (f d p x r.0, run_all At P f (d + size x) (p + span x) xs d' p' r.1)

-- with spans of 1 there are as many items as positions
pub total_ones : {X : Type 0} (xs : List X) → total (λ (x : X). 1) xs ≡ length xs
total_ones [] = refl
total_ones (x ∷ xs) = omega (arith, total_ones xs)
