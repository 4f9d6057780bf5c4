-- A ring in which nothing has moved yet: the lists are empty.
use Rattle.std.proofs.Common.{◌≡◌, [], refl, arith}
use Rattle.words.specs.Numbers.{get}
use Rattle.queue.specs.Lists.{Run}
use Rattle.split_ring.specs.Slots.{index_place, used_index_place}
use Rattle.split_ring.specs.Ring.{Ring}
use Rattle.split_ring.specs.Sound.{Holds, Idle}

pub fresh_holds : (r : Ring) → Idle r → get 2 r.bytes (index_place r.size) ≡ 0 → get 2 r.bytes (used_index_place r.size) ≡ 0 → Holds r [] [] []
unfolding Run
fresh_holds r i a b = record {
  cuts = record { d0 = 0; d1 = 0; d2 = 0; d3 = 0; p0 = 0; p1 = 0; p2 = 0; p3 = 0 };
  lists = record {
    backs = (refl, refl);
    helds = (refl, refl);
    outs = (refl, refl);
    within = omega arith;
    capacity_is = refl;
    collected_at = cc;
    finished_at = cc;
    taken_at = cc;
    published_at = cc;
  };
  collected_from = cc;
  finished_from = cc;
  taken_from = cc;
  published_from = cc;
  index_is = cc;
  used_index_is = cc;
}
