-- What is counted is as much as what is listed.
use Rattle.std.proofs.Common.{◌≡◌, ◌∙◌, ◌↔◌, ℕ, ◌+◌, ◌-◌, ◌≤◌, Bool, true, false, refl, sym, ap, arith, List, [], ◌∷◌, ◌++◌, Option, Some, None, length, map, slice_get}
use Rattle.std.specs.Prelude.{IsTrue, if◌then◌else◌, nat_lt}
use Rattle.std.specs.List.{flat_map}
use Rattle.std.proofs.lemmas.Bool.{and_parts}
use Rattle.std.proofs.lemmas.Bool.Decides.{Decides-ltb}
use Rattle.std.proofs.lemmas.Grind.{flat_map-append}
use Rattle.std.proofs.lemmas.List.{length-append, length-map}
use Rattle.life_types.specs.declared.place.Place.{Place}
use Rattle.life_types.specs.Pointees.{ty_of}
use Rattle.life_types.specs.Trees.{TypeTree, View, Vector, Unique, Raw, Reference, Iterator, Span, Member, is_plain, struct_of, tree_at}
use Rattle.life_types.specs.Types.{Types}
use Rattle.life_types.specs.declared.ty.TyId.{TyId}
use Rattle.life_core.specs.Function.{Function}
use Rattle.life_core.specs.Step.{Step, End}
use Rattle.life_core.specs.Tree.{Tree, Skip, Then, Acts, Asks, Both, Either, Negated, Choice, Turns, Breaks, Continues, Returns, Stops, Spot, spots}
use Rattle.life_core.proofs.SpotLemmas.{code_spots}
use Rattle.life_core.specs.declared.program.Local.{Local}
use Rattle.life_core.specs.declared.program.LocalKind.{LocalKind}
use Rattle.life_core.specs.declared.program.LocalKind.TheVariants.{Object, Register, Range}
use Rattle.life_pset.specs.Counts.{caused_count, end_count, end_if_count, ends_count, input_place_count, input_place_count_from, location_count, location_count_from, member_place_count, member_pointer_count, object_place_count, object_place_count_from, place_count, pointer_count, step_count}
use Rattle.life_pset.specs.Elements.{Input, caused_elements, elements_of, end_causes, end_elements, end_if, ended_local, input_places, inputs_from, inputs_of, local_inputs, local_locations, local_place, locations_from, locations_in, object_places, objects_from, places_from, places_in, pointers_from, pointers_in, step_elements}
use Rattle.life_pset.specs.Causes.{spot_elements}
use Rattle.life_pset.specs.Places.{member_place, owned_place, root_place}
use Rattle.life_pset.specs.Shapes.{is_variable, shape, target_type, tree_if}
use Rattle.life_pset.specs.declared.element.AbsPlace.{AbsPlace}
use Rattle.life_pset.specs.declared.element.Element.TheVariants.{At, Invalid}
use Rattle.life_pset.proofs.CandidateLemmas.{caused_of_spots}

-- ---- locations

mutual
  pointers_counted : (at : AbsPlace) (t : TypeTree) → length (pointers_in at t) ≡ pointer_count t
  pointers_counted at (Member first others) =
      omega (arith, length-append (pointers_in (member_place at 0) first) (pointers_from at 1 others), pointers_counted (member_place at 0) first, members_counted at 1 others)
  pointers_counted at _ = refl

  members_counted : (at : AbsPlace) (m : ℕ) (t : TypeTree) → length (pointers_from at m t) ≡ member_pointer_count t
  members_counted at m (Member first others) =
      omega (arith, length-append (pointers_in (member_place at m) first) (pointers_from at (m + 1) others), pointers_counted (member_place at m) first, members_counted at (m + 1) others)
  members_counted at m _ = refl

local_counted : (types : Types) (kind : LocalKind) (id : TyId) (at : AbsPlace) → length (locations_in types kind id at) ≡ location_count types kind id
local_counted types kind id at = by (is_variable kind (ty_of types id))
  where
    by : (b : Bool) → length (if b then at ∷ [] else pointers_in at (tree_at types id)) ≡ (if b then 1 else pointer_count (tree_at types id))
    by true = refl
    by false = pointers_counted at (tree_at types id)

pub locations_counted : (types : Types) (n x : ℕ) (ls : List Local) → length (locations_from types n x ls) ≡ location_count_from types n x ls
locations_counted types n x [] = refl
locations_counted types n x (l ∷ ls) =
    omega (arith, length-append (local_locations types n x l) (locations_from types n (x + 1) ls), local_counted types l.kind (shape types n x l) (local_place x), locations_counted types n (x + 1) ls)

mutual
  -- a plain type has no pointers
  none_in_plain : (t : TypeTree) → is_plain t ≡ true → pointer_count t ≡ 0
  none_in_plain (Member first others) h =
      let both = and_parts (is_plain first) (is_plain others) h in
      omega (arith, none_in_plain first both.0, none_in_members others both.1)
  none_in_plain View h = absurd (clash h)
    where
      clash : false ≡ true → ⊥
      clash e = cc
  none_in_plain (Unique target) h = absurd (clash h)
    where
      clash : false ≡ true → ⊥
      clash e = cc
  none_in_plain (Raw target constant) h = absurd (clash h)
    where
      clash : false ≡ true → ⊥
      clash e = cc
  none_in_plain (Reference target constant) h = absurd (clash h)
    where
      clash : false ≡ true → ⊥
      clash e = cc
  none_in_plain (Iterator target constant) h = absurd (clash h)
    where
      clash : false ≡ true → ⊥
      clash e = cc
  none_in_plain (Span target constant) h = absurd (clash h)
    where
      clash : false ≡ true → ⊥
      clash e = cc
  none_in_plain _ h = refl

  none_in_members : (t : TypeTree) → is_plain t ≡ true → member_pointer_count t ≡ 0
  none_in_members (Member first others) h =
      let both = and_parts (is_plain first) (is_plain others) h in
      omega (arith, none_in_plain first both.0, none_in_members others both.1)
  none_in_members _ h = refl

pub room_of_plain : (t : TypeTree) (room : ℕ) → is_plain t ≡ true → room ≡ room - pointer_count t
room_of_plain t room h = omega (arith, none_in_plain t h)

-- a struct is counted from its first member on
pub struct_pointers : (part : TyId → TypeTree) (ids : List TyId) → pointer_count (struct_of part ids) ≡ member_pointer_count (struct_of part ids)
struct_pointers part [] = refl
struct_pointers part (id ∷ ids) = refl

-- ---- what may be pointed to

mutual
  places_counted : (at : AbsPlace) (t : TypeTree) → length (places_in at t) ≡ place_count t
  places_counted at (Vector element) = omega (arith, places_counted (owned_place at) element)
  places_counted at (Unique target) = omega (arith, places_counted (owned_place at) target)
  places_counted at (Member first others) =
      omega (arith, length-append (places_in (member_place at 0) first) (places_from at 1 others), places_counted (member_place at 0) first, member_places_counted at 1 others)
  places_counted at _ = refl

  member_places_counted : (at : AbsPlace) (m : ℕ) (t : TypeTree) → length (places_from at m t) ≡ member_place_count t
  member_places_counted at m (Member first others) =
      omega (arith, length-append (places_in (member_place at m) first) (places_from at (m + 1) others), places_counted (member_place at m) first, member_places_counted at (m + 1) others)
  member_places_counted at m _ = refl

pub struct_places : (part : TyId → TypeTree) (ids : List TyId) → place_count (struct_of part ids) ≡ 1 + member_place_count (struct_of part ids)
struct_places part [] = refl
struct_places part (id ∷ ids) = refl

object_counted : (kind : LocalKind) (t : TypeTree) (x : ℕ) → length (object_places kind t x) ≡ object_place_count kind t
object_counted Object t x = places_counted (local_place x) t
object_counted Register t x = refl
object_counted Range t x = refl

objects_counted : (types : Types) (n x : ℕ) (ls : List Local) → length (objects_from types n x ls) ≡ object_place_count_from types n x ls
objects_counted types n x [] = refl
objects_counted types n x (l ∷ ls) =
    let t = tree_at types (shape types n x l) in
    omega (arith, length-append (object_places l.kind t x) (objects_from types n (x + 1) ls), object_counted l.kind t x, objects_counted types n (x + 1) ls)

inputs_counted : (types : Types) (is : List Input) → length (flat_map (input_places types) is) ≡ input_place_count types is
inputs_counted types [] = refl
inputs_counted types (i ∷ is) =
    omega (arith, length-append (input_places types i) (flat_map (input_places types) is), places_counted (root_place i.root) (tree_if types (target_type types i.ty)), inputs_counted types is)

input_places_append : (types : Types) (is js : List Input) → input_place_count types (is ++ js) ≡ input_place_count types is + input_place_count types js
input_places_append types [] js = omega arith
input_places_append types (i ∷ is) js = omega (arith, input_places_append types is js)

all_inputs_counted : (types : Types) (n x : ℕ) (ls : List Local) → input_place_count types (inputs_from types n x ls) ≡ input_place_count_from types n x ls
all_inputs_counted types n x [] = refl
all_inputs_counted types n x (l ∷ ls) =
    omega (arith, input_places_append types (local_inputs types n x l) (inputs_from types n (x + 1) ls), all_inputs_counted types n (x + 1) ls)

-- ---- elements with causes

end_if_counted : (place : Place) (x : ℕ) (l : Local) (kind : LocalKind) → length (map Invalid (end_if kind (ended_local place x l))) ≡ end_if_count kind
end_if_counted place x l Object = refl
end_if_counted place x l Register = refl
end_if_counted place x l Range = refl

end_counted : (place : Place) (x : ℕ) (local : Option Local) → length (map Invalid (end_causes place x local)) ≡ end_count local
end_counted place x None = refl
end_counted place x (Some l) = end_if_counted place x l l.kind

ends_counted : (f : Function) (place : Place) (xs : List ℕ) → length (flat_map (end_elements f place) xs) ≡ ends_count f xs
ends_counted f place [] = refl
ends_counted f place (x ∷ xs) =
    omega (arith, length-append (end_elements f place x) (flat_map (end_elements f place) xs), end_counted place x (slice_get f.locals x), ends_counted f place xs)

step_counted : (f : Function) (place : Place) (s : Step) → length (step_elements f place s) ≡ step_count f s
step_counted f place (End xs) = ends_counted f place xs
step_counted f place _ = refl

-- the elements of points are as many as those of two parts of them
two_counted : (f : Function) (xs ys : List Spot) (m n : ℕ) → length (flat_map (spot_elements f) xs) ≡ m → length (flat_map (spot_elements f) ys) ≡ n
    → length (flat_map (spot_elements f) (xs ++ ys)) ≡ m + n
two_counted f xs ys m n p q =
    omega (arith, ap length (flat_map-append (spot_elements f) xs ys), length-append (flat_map (spot_elements f) xs) (flat_map (spot_elements f) ys), p, q)

spots_counted : (f : Function) (t : Tree) → length (flat_map (spot_elements f) (spots t)) ≡ caused_count f t
spots_counted f Skip = refl
spots_counted f (Then a b) = two_counted f (spots a) (spots b) _ _ (spots_counted f a) (spots_counted f b)
spots_counted f (Acts place i) = omega (arith, length-append (step_elements f place i) [], step_counted f place i)
spots_counted f (Asks place t) = refl
spots_counted f (Both a b) = two_counted f (spots a) (spots b) _ _ (spots_counted f a) (spots_counted f b)
spots_counted f (Either a b) = two_counted f (spots a) (spots b) _ _ (spots_counted f a) (spots_counted f b)
spots_counted f (Negated a) = spots_counted f a
spots_counted f (Choice t a b) = two_counted f (spots t) (spots a ++ spots b) _ _ (spots_counted f t) (two_counted f (spots a) (spots b) _ _ (spots_counted f a) (spots_counted f b))
spots_counted f (Turns t a b) = two_counted f (spots t) (spots a ++ spots b) _ _ (spots_counted f t) (two_counted f (spots a) (spots b) _ _ (spots_counted f a) (spots_counted f b))
spots_counted f Breaks = refl
spots_counted f Continues = refl
spots_counted f (Returns place) = refl
spots_counted f (Stops place) = refl

pub caused_counted : (f : Function) → length (caused_elements f) ≡ caused_count f f.body
caused_counted f = ap length (sym (caused_of_spots f (spots f.body) (sym (code_spots f)))) ∙ spots_counted f f.body

-- ---- elements

-- the elements are three, the places, and what has a cause
pub elements_counted : (types : Types) (f : Function)
    → length (elements_of types f) ≡ 3 + (object_place_count_from types f.parameters 0 f.locals + (input_place_count_from types f.parameters 0 f.locals + length (caused_elements f)))
elements_counted types f =
    let objects = objects_from types f.parameters 0 f.locals in
    let behind = flat_map (input_places types) (inputs_of types f) in
    omega (
      arith,
      length-append (map At objects) (map At behind ++ caused_elements f),
      length-append (map At behind) (caused_elements f),
      length-map objects At,
      length-map behind At,
      objects_counted types f.parameters 0 f.locals,
      inputs_counted types (inputs_of types f),
      all_inputs_counted types f.parameters 0 f.locals,
    )

-- ---- rooms

-- so much is left where two take their parts one after the other
pub room_after_both : (room a b : ℕ) → room - (a + b) ≡ (room - a) - b
room_after_both room a b = omega arith

pub no_room : (a : ℕ) → 0 ≡ 0 - a
no_room a = omega arith

-- what is left says whether there are few elements
pub few_elements_if : (types : Types) (f : Function) (room after first : ℕ) (ls ms : List Local) → ls ≡ f.locals → ms ≡ f.locals
    → first ≡ 2046 - caused_count f f.body → after ≡ first - object_place_count_from types f.parameters 0 ls → room ≡ after - input_place_count_from types f.parameters 0 ms
    → IsTrue (nat_lt 0 room) ↔ (length (elements_of types f) ≤ 2048)
few_elements_if types f room after first ls ms same again starts objects inputs =
    let tells = Decides-ltb 0 room in
    let o = ap (object_place_count_from types f.parameters 0) same in
    let i = ap (input_place_count_from types f.parameters 0) again in
    let c = caused_counted f in (
      λ some. omega (arith, tells.0 some, elements_counted types f, starts, objects, inputs, o, i, c),
      λ few. tells.1 (omega (arith, few, elements_counted types f, starts, objects, inputs, o, i, c)),
    )
