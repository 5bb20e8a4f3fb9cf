use Rattle.std.proofs.Common.{◌≡◌, ℕ, List, ◌-◌, drop}
use Rattle.life_types.specs.declared.ty.TyId.{TyId}
use Rattle.life_types.specs.Trees.{struct_of, tree_at, AllBelow}
use Rattle.life_pset.specs.Counts.{member_place_count}
use Rattle.life_pset.proofs.counts.+room_after_places.Given as goal

-- the parts of a type have smaller numbers
abbrev pub decreases-room_after_places : goal.decreases-room_after_places
decreases-room_after_places l = l.id.0

abbrev pub invariant-loop-member : goal.invariant-loop-member
invariant-loop-member l =
    let count : List TyId → ℕ = λ ids. member_place_count (struct_of (tree_at l.types) ids) in
    record {
      left : l.left - count (drop l.member-index l.members) ≡ (l.room - 1) - count l.members;
      below : AllBelow l.fn.id.0 (drop l.member-index l.members);
    }
