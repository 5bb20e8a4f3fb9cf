use Rattle.std.proofs.Common.{◌≡◌, ℕ, List, ◌++◌, drop}
use Rattle.life_types.specs.declared.ty.TyId.{TyId}
use Rattle.life_pset.specs.declared.element.AbsPlace.{AbsPlace}
use Rattle.life_types.specs.Trees.{struct_of, tree_at, AllBelow}
use Rattle.life_pset.specs.Elements.{places_from}
use Rattle.life_pset.proofs.place_list.+push_places.Given as goal

-- the parts of a type have smaller numbers
abbrev pub decreases-push_places : goal.decreases-push_places
decreases-push_places l = l.id.0

abbrev pub invariant-loop-m : goal.invariant-loop-m
invariant-loop-m l =
    let rest : ℕ → List TyId → List AbsPlace = λ m ids. places_from l.at m (struct_of (tree_at l.types) ids) in
    record {
      added : l.all.items ++ rest l.m (drop l.m l.member-items) ≡ l.initial.all.items ++ rest 0 l.member-items;
      below : AllBelow l.fn.id.0 (drop l.m l.member-items);
    }
