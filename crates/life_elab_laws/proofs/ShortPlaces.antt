-- The places of a function that is translated have eight steps at most, since no path of its locals' types has more, into an object or into what is behind a parameter.
use Rattle.std.proofs.Common.{◌≡◌, length, ◌<◌, ◌≤◌, ◌+◌, inl, ℕ, zero, suc, Bool, true, false, ◌&&◌, ◌||◌, List, [], ◌∷◌, ◌++◌, if◌then◌else◌, flat_map, map, nat_lt, slice_get, Option, Some, None, is_none, not, refl, ap, ◌∙◌, subst, sym, unwrap_or, arith, inr}
use Rattle.std.proofs.lemmas.Bool.Decides.{nat_tests}
use Rattle.life_elab_laws.proofs.ObjectTypes.{is_admitted_variable, is_target}
use Rattle.life_types.specs.Pointees.{or_void, ty_of}
use Rattle.life_types.proofs.TreeLemmas.{tree_made}
use Rattle.life_types.specs.Trees.{TypeTree, members_at, struct_of, tree_at, tree_of, tree_within}
use Rattle.life_types.specs.TypeTests.{is_pointer}
use Rattle.life_types.specs.Types.{Types}
use Rattle.life_types.specs.declared.place.Place.{Place}
use Rattle.life_types.specs.declared.ty.Ty.{Ty}
use Rattle.life_types.specs.declared.ty.Ty.TheVariants as ty
use Rattle.life_types.specs.declared.ty.TyId.{TyId}
use Rattle.life_typed.specs.BaseTypes.{type_at}
use Rattle.life_core.specs.Function.{Function}
use Rattle.life_core.specs.Linked.{Linked, code_of}
use Rattle.life_core.specs.Step.{Step, Live, End, Copy, Move, Changes, Make, Call}
use Rattle.life_core.specs.Tree.{Node, Action, Question, Return, Stop}
use Rattle.life_core.specs.declared.program.Local.{Local}
use Rattle.life_core.specs.declared.program.LocalKind.{LocalKind}
use Rattle.life_core.specs.declared.program.LocalKind.TheVariants.{Object, Register, Range}
use Rattle.life_core.specs.Kinds.{is_object}
use Rattle.life_pset.specs.Elements.{AreShort, Input, input_at, input_if, input_root, causes_of_end, caused_at, caused_elements, elements_of, end_elements, input_places, inputs_among, inputs_from, inputs_of, local_inputs, local_place, locations_in, node_elements, object_places, objects_from, places_from, places_in, step_elements, number_after}
use Rattle.life_pset.specs.Shapes.{shape, shape_if, target_of, tree_if, unslotted, member_of, member_type, members_type, target_type, ty_if}
use Rattle.life_pset.specs.declared.element.AbsPlace.{AbsPlace}
use Rattle.life_pset.specs.declared.element.Cause.{Cause}
use Rattle.life_pset.specs.declared.element.Element.{Element}
use Rattle.life_pset.specs.declared.element.Element.TheVariants as element
use Rattle.life_tree.specs.declared.limit.LimitName.TheVariants.{Path}
use Rattle.life_elab.specs.Over.{over_local, over_locals}
use Rattle.life_elab.specs.Paths.{longest, longest_behind, steps}
use Rattle.life_elab_laws.proofs.PassedNone.{first_none, not_passed}
use Rattle.life_elab_laws.proofs.StructTypes.{HasStructs}
use Rattle.life_elab_laws.proofs.AdmittedTypes.{IsAdmittedType, admits, type_admits, value_admits}
use Rattle.life_elab_laws.proofs.Shaped.{AreShaped, IsShaped}
use Rattle.life_elab_laws.proofs.HandedTypes.{IsHandedType, a_raw, a_reference, a_value, a_view, a_walker, an_alias, an_owner, a_unique, a_struct_alias, a_struct}
use Rattle.life_pset.specs.Places.{longer, member_place, owned_place, owned_step, root_place, too_long, path}
use Rattle.life_pset.specs.declared.element.Root.{Root}
use Rattle.life_elab_laws.proofs.Targets.{owner_target, struct_target, target_referred, value_target, target_unslotted}

-- ---- lists

short_append : (es ds : List Element) → AreShort es → AreShort ds → AreShort (es ++ ds)
short_append [] ds first second = second
short_append (e ∷ es) ds first second = (first.0, short_append es ds first.1 second)

short_places : (xs ys : List AbsPlace) → AreShort (map element.At xs) → AreShort (map element.At ys) → AreShort (map element.At (xs ++ ys))
short_places [] ys first second = second
short_places (x ∷ xs) ys first second = (first.0, short_places xs ys first.1 second)

short_each : {A : Type 0} (part : A → List Element) → ((x : A) → AreShort (part x)) → (xs : List A) → AreShort (flat_map part xs)
short_each part each [] = tt
short_each part each (x ∷ xs) = short_append (part x) (flat_map part xs) (each x) (short_each part each xs)

-- ---- what has a cause is no place

short_causes : (cs : List Cause) → AreShort (map element.Invalid cs)
short_causes [] = tt
short_causes (c ∷ cs) = (tt, short_causes cs)

module _ (f : Function) where
  short_step : (place : Place) (i : Step) → AreShort (step_elements f place i)
  short_step place (Live x form) = (tt, tt)
  short_step place (End xs) = short_each (end_elements f place) (λ x. short_causes (causes_of_end f place x)) xs
  short_step place (Copy to from) = (tt, tt)
  short_step place (Move to y) = (tt, (tt, (tt, tt)))
  short_step place (Changes o change) = (tt, tt)
  short_step place (Make u made) = (tt, tt)
  short_step place (Call target g xs) = (tt, tt)
  short_step place _ = tt

  short_node : (place : Place) (n : Node) → AreShort (node_elements f place n)
  short_node place (Action i) = short_step place i
  short_node place (Question t) = tt
  short_node place Return = tt
  short_node place Stop = tt

  short_caused : AreShort (caused_elements f)
  short_caused = short_each (caused_at f) (λ (l : Linked). short_node l.spot.place l.spot.node) (code_of f)

-- ---- types of variables

module _ (types : Types) (structs : HasStructs types) where
  -- what an owner has is a step further, and so is a member
  owned_room : (at : AbsPlace) (m : ℕ) → at.length + (1 + m) ≤ 8 → (owned_place at).length + m ≤ 8
  owned_room at m room = go (nat_lt at.length 8) refl
    where
      past : (a b : ℕ) → nat_lt a b ≡ false → b ≤ a
      past a b h = grind (arith, nat_tests)

      go : (b : Bool) → nat_lt at.length 8 ≡ b → (if b then longer at owned_step else too_long at).length + m ≤ 8
      go true is = omega (arith, room)
      go false is = absurd (omega (arith, room, past at.length 8 is))

  member_room : (at : AbsPlace) (k m : ℕ) → at.length + suc m ≤ 8 → k < 255 → (member_place at k).length + m ≤ 8
  member_room at k m room few = among (nat_lt k 255) refl
    where
      past : (a b : ℕ) → nat_lt a b ≡ false → b ≤ a
      past a b h = grind (arith, nat_tests)

      go : (b : Bool) → nat_lt at.length 8 ≡ b → (if b then longer at k else too_long at).length + m ≤ 8
      go true is = omega (arith, room)
      go false is = absurd (omega (arith, room, past at.length 8 is))

      among : (b : Bool) → nat_lt k 255 ≡ b → (if b then (if nat_lt at.length 8 then longer at k else too_long at) else too_long at).length + m ≤ 8
      among true is = go (nat_lt at.length 8) refl
      among false is = absurd (omega (arith, few, past k 255 is))

  -- where the longest path has room behind a place, each place there is short
  abbrev IsShortWithin : ℕ → Type 0
  IsShortWithin n = (id : TyId) (at : AbsPlace) → at.length + longest (tree_within n types id) ≤ 8 → AreShort (map element.At (places_in at (tree_within n types id)))

  members_short : (n : ℕ) (at : AbsPlace) → IsShortWithin n → (k : ℕ) (ids : List TyId) → k + length ids < 255 → at.length + longest (struct_of (tree_within n types) ids) ≤ 8
      → AreShort (map element.At (places_from at k (struct_of (tree_within n types) ids)))
  members_short n at inside k [] few room = tt
  members_short n at inside k (id ∷ ids) few room =
      let first = longest (tree_within n types id) in
      let others = longest (struct_of (tree_within n types) ids) in
      let here : at.length + suc first ≤ 8 = omega (arith, room) in
      let there : at.length + others ≤ 8 = omega (arith, room) in
      short_places (places_in (member_place at k) (tree_within n types id)) (places_from at (k + 1) (struct_of (tree_within n types) ids))
      (inside id (member_place at k) (member_room at k first here (omega (arith, few))))
      (members_short n at inside (k + 1) ids (omega (arith, few)) there)

  struct_short : (n : ℕ) (at : AbsPlace) → IsShortWithin n → (ids : List TyId) → length ids < 33 → at.length + longest (struct_of (tree_within n types) ids) ≤ 8 → AreShort (map element.At (places_in at (struct_of (tree_within n types) ids)))
  struct_short n at inside [] few room = (omega (arith, room), tt)
  struct_short n at inside (id ∷ ids) few room = (omega (arith, room), members_short n at inside 0 (id ∷ ids) (omega (arith, few)) room)

  parts_short : (n : ℕ) → IsShortWithin n → (o : Option Ty) (at : AbsPlace) → at.length + longest (tree_of types (tree_within n types) o) ≤ 8 → AreShort (map element.At (places_in at (tree_of types (tree_within n types) o)))
  parts_short n inside (Some ty.Text) at room = (omega (arith, room), (omega (arith, owned_room at 0 (omega (arith, room))), tt))
  parts_short n inside (Some (ty.Vector item)) at room = (omega (arith, room), inside item (owned_place at) (owned_room at (longest (tree_within n types item)) room))
  parts_short n inside (Some (ty.Unique target)) at room = (omega (arith, room), inside target (owned_place at) (owned_room at (longest (tree_within n types target)) room))
  parts_short n inside (Some (ty.Struct number)) at room = struct_short n at inside (members_at types number) (structs.few number) room
  parts_short n inside _ at room = (omega (arith, room), tt)

  within_short : (n : ℕ) → IsShortWithin n
  within_short zero id at room = (omega (arith, room), tt)
  within_short (suc n) id at room = parts_short n (within_short n) (slice_get types.types id.0) at room

  tree_short : (id : TyId) (at : AbsPlace) → at.length + longest (tree_at types id) ≤ 8 → AreShort (map element.At (places_in at (tree_at types id)))
  unfolding tree_at
  tree_short id at room = within_short (suc id.0) id at room

  -- a type stands as it is, also where a parameter has it
  same_shape : (parameter : Bool) (id : TyId) → is_admitted_variable types id ≡ true → shape_if types parameter id ≡ id
  same_shape false id b = refl
  same_shape true id b = go (slice_get types.types id.0) b
    where
      plain : (b : Bool) → (b || false) ≡ true → b ≡ true
      plain true e = refl
      plain false e = e

      go : (o : Option Ty) → admits types (unwrap_or o ty.Void) ≡ true → unslotted types id (or_void o) ≡ id
      go (Some (ty.Reference target false)) b = target_referred id target (ty_of types target) (target_unslotted types types (λ n x e. e) target (plain (is_target types (type_at types target)) b))
      go _ b = refl

  -- ---- objects

  -- no path into it is too long
  abbrev HasShortPaths : Local → Type 0
  HasShortPaths l = steps (tree_at types l.ty) ≤ 8

  short_object : (n x : ℕ) (l : Local) → IsShaped types l → HasShortPaths l → AreShort (map element.At (object_places l.kind (tree_at types (shape types n x l)) x))
  short_object n x l shaped few = go l.kind refl
    where
      never : (b : Bool) → (b && false) ≡ false
      never true = refl
      never false = refl

      go : (k : LocalKind) → l.kind ≡ k → AreShort (map element.At (object_places k (tree_at types (shape types n x l)) x))
      go Object is =
          let built = shaped (ap (λ (k : LocalKind). is_none l.name && not (is_object k)) is ∙ never (is_none l.name)) in
          subst (λ (id : TyId). AreShort (map element.At (places_in (local_place x) (tree_at types id)))) (sym (same_shape (nat_lt x n) l.ty built)) (tree_short l.ty (local_place x) (omega (arith, few)))
      go Register is = tt
      go Range is = tt

  abbrev HaveShortPaths : List Local → Type 0
  HaveShortPaths [] = Unit {0}
  HaveShortPaths (l ∷ ls) = HasShortPaths l × HaveShortPaths ls

  short_objects : (n x : ℕ) (ls : List Local) → AreShaped types ls → HaveShortPaths ls → AreShort (map element.At (objects_from types n x ls))
  short_objects n x [] shaped few = tt
  short_objects n x (l ∷ ls) shaped few =
      short_places (object_places l.kind (tree_at types (shape types n x l)) x) (objects_from types n (x + 1) ls) (short_object n x l shaped.0 few.0) (short_objects n (x + 1) ls shaped.1 few.1)

  -- ---- what is behind parameters

  -- what stands behind it is short
  abbrev IsShortBehind : Option TyId → Type 0
  IsShortBehind o = (r : Root) → AreShort (map element.At (places_in (root_place r) (tree_if types (target_type types o))))

  behind_short : (id : TyId) → longest_behind (tree_at types id) ≤ 8 → IsShortBehind (Some id)
  behind_short id few r = go (slice_get types.types id.0) (subst (λ (t : TypeTree). longest_behind t ≤ 8) (tree_made types structs.ordered id) few)
    where
      go : (o : Option Ty) → longest_behind (tree_of types (tree_at types) o) ≤ 8 → AreShort (map element.At (places_in (root_place r) (tree_if types (target_of (or_void o)))))
      go (Some (ty.Raw target constant)) few = tree_short target (root_place r) (omega (arith, few))
      go (Some (ty.Reference target constant)) few = tree_short target (root_place r) (omega (arith, few))
      go (Some (ty.Iterator target constant)) few = tree_short target (root_place r) (omega (arith, few))
      go (Some (ty.Span target constant)) few = tree_short target (root_place r) (omega (arith, few))
      go _ few = (omega arith, tt)

  -- .. and so it is behind its members, and theirs
  abbrev HasShortBehind : Option TyId → Type 0
  HasShortBehind None = Unit {0}
  HasShortBehind (Some id) = longest_behind (tree_at types id) ≤ 8

  members_behind : (ids : List TyId) (m : ℕ) → longest_behind (struct_of (tree_at types) ids) ≤ 8 → HasShortBehind (slice_get ids m)
  members_behind [] m few = tt
  members_behind (id ∷ ids) zero few = omega (arith, few)
  members_behind (id ∷ ids) (suc m) few = members_behind ids m (omega (arith, few))

  member_behind : (id : TyId) (m : ℕ) → longest_behind (tree_at types id) ≤ 8 → HasShortBehind (member_type types (Some id) m)
  member_behind id m few = go (slice_get types.types id.0) (subst (λ (t : TypeTree). longest_behind t ≤ 8) (tree_made types structs.ordered id) few)
    where
      go : (o : Option Ty) → longest_behind (tree_of types (tree_at types) o) ≤ 8 → HasShortBehind (member_of types (or_void o) m)
      go (Some (ty.Struct number)) few = members_behind (members_at types number) m few
      go _ few = tt

  path_behind : (ms : List ℕ) (o : Option TyId) → HasShortBehind o → HasShortBehind (members_type types o ms)
  path_behind [] o few = few
  path_behind (m ∷ ms) None few = path_behind ms None tt
  path_behind (m ∷ ms) (Some id) few = path_behind ms (member_type types (Some id) m) (member_behind id m few)

  short_behind : (o : Option TyId) → HasShortBehind o → IsShortBehind o
  short_behind None few r = (omega arith, tt)
  short_behind (Some id) few r = behind_short id few r

  -- ---- inputs whose places are short

  abbrev AreShortInputs : List Input → Type 0
  AreShortInputs [] = Unit {0}
  AreShortInputs (i ∷ is) = AreShort (map element.At (input_places types i)) × AreShortInputs is

  inputs_append : (is js : List Input) → AreShortInputs is → AreShortInputs js → AreShortInputs (is ++ js)
  inputs_append [] js first second = second
  inputs_append (i ∷ is) js first second = (first.0, inputs_append is js first.1 second)

  inputs_places : (is : List Input) → AreShortInputs is → AreShort (map element.At (flat_map (input_places types) is))
  inputs_places [] h = tt
  inputs_places (i ∷ is) h = short_places (input_places types i) (flat_map (input_places types) is) h.0 (inputs_places is h.1)

  -- whatever its locations are
  inputs_all : (x : ℕ) (id : TyId) → longest_behind (tree_at types id) ≤ 8 → (k : ℕ) (ls : List AbsPlace) → AreShortInputs (inputs_among types x id k ls)
  inputs_all x id few k [] = tt
  inputs_all x id few k (l ∷ ls) =
      inputs_append (input_if (is_pointer (ty_if types here)) (input_at x k l here)) (inputs_among types x id (number_after (is_pointer (ty_if types here)) k) ls) (one (is_pointer (ty_if types here)))
      (inputs_all x id few (number_after (is_pointer (ty_if types here)) k) ls)
    where
      here : Option TyId
      here = members_type types (Some id) (path l)

      one : (b : Bool) → AreShortInputs (input_if b (input_at x k l here))
      one false = tt
      one true = (short_behind here (path_behind (path l) (Some id) few) (input_root x k l), tt)

  -- a parameter has its own type
  handed_shape : (id : TyId) → IsHandedType types id → shape_if types true id ≡ id
  handed_shape id is = same_shape true id (go is)
    where
      serving : (t : Ty) → slice_get types.types id.0 ≡ Some t → IsAdmittedType types t → is_admitted_variable types id ≡ true
      serving t at reached = ap (λ (o : Option Ty). admits types (unwrap_or o ty.Void)) at ∙ type_admits types t reached

      go : IsHandedType types id → is_admitted_variable types id ≡ true
      go (a_value w) = value_admits types (type_at types id) w
      go (a_raw target constant at w) = serving (ty.Raw target constant) at (inl w)
      go (a_reference target constant at w) = serving (ty.Reference target constant) at (inl (value_target types (type_at types target) w))
      go (an_alias target constant at o) = serving (ty.Reference target constant) at (inl (owner_target types (type_at types target) o))
      go (a_struct_alias target constant number at s pointless) = serving (ty.Reference target constant) at (inl (struct_target types (type_at types target) pointless))
      go (a_view at) = serving ty.View at (inl refl)
      go (a_walker t at w) = serving t at (inr (inr (inl w)))
      go (an_owner t at o) = serving t at (inr (inl o))
      go (a_unique target at w) = serving (ty.Unique target) at (inr (inr (inr (inl w))))
      go (a_struct number at) = serving (ty.Struct number) at (inr (inr (inr (inr refl))))

  local_short : (n x : ℕ) (l : Local) → HasShortPaths l → (x < n → IsHandedType types l.ty) → AreShortInputs (local_inputs types n x l)
  local_short n x l few handed = go (nat_lt x n) refl
    where
      lt_of : (a b : ℕ) → nat_lt a b ≡ true → a < b
      lt_of a b h = grind (arith, nat_tests)

      go : (b : Bool) → nat_lt x n ≡ b → AreShortInputs (if b then inputs_among types x (shape_if types b l.ty) 0 (locations_in types l.kind (shape_if types b l.ty) (local_place x)) else [])
      go false is = tt
      go true is =
          subst (λ (id : TyId). AreShortInputs (inputs_among types x id 0 (locations_in types l.kind id (local_place x)))) (sym (handed_shape l.ty (handed (lt_of x n is))))
          (inputs_all x l.ty (omega (arith, few)) 0 (locations_in types l.kind l.ty (local_place x)))

  inputs_short : (n x : ℕ) (ls : List Local) → HaveShortPaths ls → ((y : ℕ) (l : Local) → slice_get ls y ≡ Some l → x + y < n → IsHandedType types l.ty) → AreShortInputs (inputs_from types n x ls)
  inputs_short n x [] few handed = tt
  inputs_short n x (l ∷ ls) few handed =
      inputs_append (local_inputs types n x l) (inputs_from types n (x + 1) ls) (local_short n x l few.0 (λ lt. handed zero l refl (omega (arith, lt))))
      (inputs_short n (x + 1) ls few.1 (λ y u at lt. handed (suc y) u at (omega (arith, lt))))

  -- ---- the whole

  -- it passes no limit on paths
  within_paths : (ls : List Local) → over_locals types ls ≡ None → HaveShortPaths ls
  within_paths [] none = tt
  within_paths (l ∷ ls) none =
      let both = first_none (over_local types l) (over_locals types ls) none in
      (not_passed (steps (tree_at types l.ty)) 8 Path l.place both.0, within_paths ls both.1)

  pub short_function : (f : Function) → over_locals types f.locals ≡ None → AreShaped types f.locals → ((y : ℕ) (l : Local) → slice_get f.locals y ≡ Some l → y < f.parameters → IsHandedType types l.ty) → AreShort (elements_of types f)
  short_function f none shaped handed =
      let few = within_paths f.locals none in
      let behind = inputs_places (inputs_of types f) (inputs_short f.parameters 0 f.locals few (λ y l at lt. handed y l at (omega (arith, lt)))) in
      let beside = short_append (map element.At (flat_map (input_places types) (inputs_of types f))) (caused_elements f) behind (short_caused f) in
      let places =
      short_append (map element.At (objects_from types f.parameters 0 f.locals)) (map element.At (flat_map (input_places types) (inputs_of types f)) ++ caused_elements f)
      (short_objects f.parameters 0 f.locals shaped few) beside in
      (tt, (tt, (tt, places)))
