-- The rule of the stretch holds exactly the positions passed.
use Rattle.std.proofs.Common.{◌≡◌, ℕ, ◌+◌, ◌-◌, ◌%◌, ◌<◌, ◌≤◌, Bool, true, false, ◌⊎◌, Decides, refl, inl, inr, mod-lt, arith}
use native.Mathlib.Decide.{dec_le}
use native.Mathlib.Nat.{mod_self}
use Rattle.std.proofs.lemmas.Bool.Decides.{nat_tests}
use Rattle.positions.specs.Stretch.{ahead, stretch, in_stretch}
use Rattle.positions.specs.Passed.{Passed, TellsPassed}
use Rattle.positions.proofs.Modulo.{moved_on, ahead_by}

-- how far b lies past x, as one of two differences
ahead_up : (m x b : ℕ) → x ≤ b → b < m → ahead m x b ≡ b - x
ahead_up m x b h k = grind arith

ahead_round : (m x b : ℕ) → b < x → x ≤ m → ahead m x b ≡ b + m - x
ahead_round m x b h k = grind arith

ways : (m x b : ℕ) → x ≤ m → b < m → ((x ≤ b) × (ahead m x b ≡ b - x)) ⊎ ((b < x) × (ahead m x b ≡ b + m - x))
ways m x b h k = elim (dec_le x b) [ yes l ↦ inl (l, ahead_up m x b l k) | no l ↦ inr (omega arith, ahead_round m x b (omega arith) h) ]

-- between any two positions lies a way below the modulus
pub way_there : (m a b : ℕ) → a < m → b < m → b ≡ (a + ahead m a b) % m
way_there m a b ha hb = grind arith

-- the stretch from a, moved on by s, holds what lies at most s behind its end
pub held_behind : (m a b e s t : ℕ) → b ≡ (a + s) % m → b ≡ (e + t) % m → a < m → e < m → 0 < t → t ≤ s → s < m → stretch m a b e ≡ true
held_behind m a b e s t p q ha he ht ts sm = grind (arith, nat_tests, ahead_by m a s, ahead_by m (e + 1) (t - 1))

-- what was passed is held
passed_held : (m a s e : ℕ) → a < m → e < m → s < m → Passed m a s e → stretch m a ((a + s) % m) e ≡ true
passed_held m a s e ha he sm (i, l, q) =
    let u : (a + s) % m ≡ (e + (s - i)) % m = grind (arith, moved_on m (a + i) (s - i)) in
    held_behind m a ((a + s) % m) e s (s - i) refl u ha he (omega arith) (omega arith) sm

-- an end that lies nearer past e than past a has e on its way from a
nearer : (m a b e : ℕ) → a < m → b < m → e < m → ahead m (e + 1) b < ahead m a b → ahead m a e < ahead m a b
nearer m a b e ha hb he h = omega (arith, ways m a b (omega arith) hb, ways m a e (omega arith) he, ways m (e + 1) b (omega arith) hb)

-- what is held was passed
held_passed : (m a s e : ℕ) → a < m → e < m → s < m → stretch m a ((a + s) % m) e ≡ true → Passed m a s e
held_passed m a s e ha he sm h =
    let n = nearer m a ((a + s) % m) e ha (mod-lt (a + s) (omega arith)) he in
    (ahead m a e, grind (arith, nat_tests, ahead_by m a s), way_there m a e ha he)

-- of positions the stretch from a, moved on by s, holds exactly the s positions from a on
pub stretch_holds : (m a s e : ℕ) → a < m → e < m → s < m → Decides (stretch m a ((a + s) % m) e) (Passed m a s e)
stretch_holds m a s e ha he sm = (held_passed m a s e ha he sm, passed_held m a s e ha he sm)

-- of positions the two rules say the same
pub of_positions : (m a b e : ℕ) → a < m → b < m → e < m → in_stretch m a b e ≡ stretch m a b e
of_positions m a b e ha hb he = grind (arith, nat_tests)

-- what is held is a position, and so are both ends
pub held_are_positions : (m a b e : ℕ) → in_stretch m a b e ≡ true → (a < m) × (b < m) × (e < m)
held_are_positions m a b e h = grind (arith, nat_tests)

-- a stretch that is not empty holds its first position
pub first_held : (m a s : ℕ) → a < m → 0 < s → s < m → in_stretch m a ((a + s) % m) a ≡ true
first_held m a s ha hs sm = grind (arith, nat_tests, held_behind m a ((a + s) % m) a s s, mod-lt (a + s))

-- a stretch does not hold its end
pub end_not_held : (m a b : ℕ) → in_stretch m a b b ≡ false
end_not_held m a b = grind (arith, nat_tests, ahead_round m (b + 1) b, mod-lt (b + m - a))

-- a stretch that ends where it starts holds nothing
pub empty_stretch : (m a e : ℕ) → in_stretch m a a e ≡ false
empty_stretch m a e = let start : ahead m a a ≡ 0 = grind (arith, mod_self) in grind (arith, nat_tests)

-- an answer that is the rule's tells what was passed
pub passed_told : (m a b e : ℕ) (r : Bool) → r ≡ stretch m a b e → TellsPassed m a b e r
passed_told m a b e r h s sm ha he p = grind (arith, stretch_holds m a s e ha he sm)
