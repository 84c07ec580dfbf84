-- What holds of a copy that has no less room.
use Rattle.lists.specs.ThreadIndex.{Found}
use Rattle.lists.specs.WaitingList.Kept.{IsKept}
use Rattle.lists.specs.declared.waiting_list.keys.Key.{Key}
use Rattle.lists.specs.declared.waiting_list.rows.Entry.{Entry}
use Rattle.std.proofs.Common.{List, arith, subst, sym, ℕ, ◌≡◌, ◌≤◌}

-- the same line, with no less room for it
pub kept_again : (es es' : List Entry) (ranks ranks' arrived arrived' : List Key) (index index' : Found)
    (room room' rank_room rank_room' arrived_room arrived_room' places : ℕ)
    → IsKept es ranks arrived index room rank_room arrived_room places
    → es' ≡ es → ranks' ≡ ranks → arrived' ≡ arrived → index' ≡ index
    → room ≤ room' → rank_room ≤ rank_room' → arrived_room ≤ arrived_room'
    → IsKept es' ranks' arrived' index' room' rank_room' arrived_room' places
kept_again es es' ranks ranks' arrived arrived' index index' room room' rank_room rank_room' arrived_room arrived_room' places
    h same ranked came found rooms rank_rooms arrived_rooms =
    subst (λ (y : List Entry × List Key × List Key × Found). IsKept y.0 y.1 y.2 y.3 room' rank_room' arrived_room' places)
    (λ i. (sym same i, sym ranked i, sym came i, sym found i))
    (record {
      once = h.once;
      indexed = h.indexed;
      known = h.known;
      fits = h.fits;
      places_fit = omega (arith, h.places_fit, rooms);
      ranks_fit = omega (arith, h.ranks_fit, rank_rooms);
      arrived_fit = omega (arith, h.arrived_fit, arrived_rooms);
      cells = h.cells;
      index_room = h.index_room;
    })
