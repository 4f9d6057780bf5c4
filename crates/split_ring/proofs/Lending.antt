-- Bytes that are enough for a capacity.
use Rattle.std.proofs.Common.{◌≡◌, ℕ, ◌≤◌, true, List, length, sym, subst, arith}
use Rattle.std.proofs.lemmas.Bool.Decides.{nat_tests}
use Rattle.split_ring.specs.Slots.{region_size}
use Rattle.split_ring.specs.Lent.{Serves, serves}

pub serves_true : {k : ℕ} {xs : List ℕ} → Serves k xs → serves k xs ≡ true
unfolding serves
serves_true {k} {xs} s = let a = s.least in let b = s.most in let c = s.long in grind (arith, nat_tests)

pub true_serves : (k : ℕ) (xs : List ℕ) → serves k xs ≡ true → Serves k xs
unfolding serves
true_serves k xs h = record { least = grind (arith, nat_tests); most = grind (arith, nat_tests); long = grind (arith, nat_tests) }

-- other bytes of the same length are enough too
pub still_serves : {k : ℕ} {xs ys : List ℕ} → Serves k xs → length ys ≡ length xs → Serves k ys
still_serves {k} s e = record { least = s.least; most = s.most; long = subst (λ n. region_size k ≤ n) (sym e) s.long }
