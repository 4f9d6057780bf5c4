-- The first i segments lie in their descriptors, and there are as many bytes as before.
use Rattle.std.proofs.Common.{◌≡◌, length}
use Rattle.split_ring.specs.Lent.{written}
use Rattle.split_ring.specs.Chains.{laid}
use Rattle.split.proofs.chains.lay_chain.Given as goal

abbrev pub invariant-loop-i : goal.invariant-loop-i
invariant-loop-i l =
    (l.region ≡ written l.initial.region (laid l.initial.region.capacity l.initial.region.bytes.now l.first l.fn.new l.i))
    × (length l.region.bytes.now ≡ length l.initial.region.bytes.now)
