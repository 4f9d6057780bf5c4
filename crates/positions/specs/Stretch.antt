-- Positions that count up and wrap at a modulus, and the stretch from one of them up to another. Assumes nothing.
use Rattle.std.specs.Prelude.{ℕ, ◌+◌, ◌-◌, ◌%◌, Bool, ◌&&◌, nat_lt}

-- how far b lies past a, below a modulus m
abbrev pub ahead : ℕ → ℕ → ℕ → ℕ
ahead m a b = (b + m - a) % m

-- whether the stretch from a up to b holds e: (b - e - 1) mod m < (b - a) mod m
abbrev pub stretch : ℕ → ℕ → ℕ → ℕ → Bool
stretch m a b e = nat_lt (ahead m (e + 1) b) (ahead m a b)

-- the same, asked of any numbers: what is not a position below m lies in no stretch
abbrev pub in_stretch : ℕ → ℕ → ℕ → ℕ → Bool
in_stretch m a b e = (nat_lt a m && (nat_lt b m && nat_lt e m)) && stretch m a b e
