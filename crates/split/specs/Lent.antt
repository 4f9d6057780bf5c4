-- How a region is lent to a queue. Assumes nothing.
use Rattle.std.specs.Prelude.{ℕ, cond, List, Ok, Err, Result}
use denote.Ref.{MutBor}
use Rattle.split_ring.specs.declared.region.Region.{Region}
use Rattle.split_ring.specs.Lent.{serves}

-- bytes that do not serve the capacity are handed back
abbrev pub lent : MutBor (List ℕ) → ℕ → Result Region (MutBor (List ℕ))
lent r k = cond (serves k r.now) (Ok (record { bytes = r; capacity = k })) (Err r)
