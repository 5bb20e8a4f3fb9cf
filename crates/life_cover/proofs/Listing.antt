-- The locations and the places of a function are in its table: each pointer that is a local, each object, and what the owner there has.
use Rattle.std.proofs.Common.{◌≡◌, inl, inr, ℕ, zero, suc, ◌+◌, Bool, true, false, List, [], ◌∷◌, ◌++◌, map, Option, Some, None, refl, sym, ap, subst, ◌∙◌, arith, ◌<◌}
use Rattle.std.specs.Prelude.{Contains, if◌then◌else◌, slice_get, nat_lt}
use Rattle.std.specs.List.{flat_map}
use Rattle.std.proofs.lemmas.Bool.{false≢true}
use Rattle.std.proofs.lemmas.List.Elements.{Contains-append_left, Contains-append_right}
use Rattle.life_types.specs.Pointees.{or_void, ty_of}
use Rattle.life_types.specs.Trees.{struct_of as tree_struct, IsOrdered, TypeTree, Text, Vector, Unique, Void, Member, tree_at, tree_of, members_at}
use Rattle.life_types.specs.TypeTests.{is_pointer, is_unique}
use Rattle.life_types.specs.Types.{Types}
use Rattle.life_types.specs.declared.ty.Ty.{Ty}
use Rattle.life_types.specs.declared.ty.Ty.TheVariants as variant
use Rattle.life_types.specs.declared.ty.TyId.{TyId}
use Rattle.life_types.proofs.TreeLemmas.{tree_made}
use Rattle.life_core.specs.declared.program.Local.{Local}
use Rattle.life_core.specs.declared.program.LocalKind.{LocalKind}
use Rattle.life_core.specs.declared.program.LocalKind.TheVariants.{Object, Register, Range}
use Rattle.life_core.specs.Function.{Function}
use Rattle.life_core.specs.Kinds.{has_kind, is_object}
use Rattle.life_pset.specs.Elements.{caused_elements, elements_of, input_places, inputs_of, local_locations, local_place, locations_from, locations_of, object_places, objects_from, places_from, places_in, pointers_in, locations_in}
use Rattle.life_pset.specs.Places.{member_place, owned_place, stepped, owned_step, too_long}
use Rattle.life_pset.specs.Shapes.{is_variable, local_type, shape, shape_of, ty_if, is_variable_of}
use Rattle.life_pset.specs.declared.element.AbsPlace.{AbsPlace}
use Rattle.life_pset.specs.declared.element.Element.{Element}
use Rattle.life_pset.specs.declared.element.Element.TheVariants as element
use Rattle.life_proper.specs.Placed.{object_at, type_at}
use Rattle.life_rules.proofs.Giving.{at_head, cons_cases, in_tail, none_in_empty}
use Rattle.life_store.specs.Content.{Content}
use Rattle.life_store.specs.Parts.{characters_type, members_if, members_of}
use Rattle.life_store.proofs.CellLemmas.{none_some, some_same}
use Rattle.life_forest.proofs.Laying.{none_behind}
use Rattle.life_cover.specs.Regions.{Goes, Lies, Region, owned_in_type}
use Rattle.std.proofs.lemmas.Bool.Decides.{nat_tests}

-- ---- locations

pub one_pointer : (a : AbsPlace) (types : Types) (part : TyId → TypeTree) (t : Ty) → is_pointer t ≡ true → pointers_in a (tree_of types part (Some t)) ≡ a ∷ []
one_pointer a types part variant.View h = refl
one_pointer a types part (variant.Raw target constant) h = refl
one_pointer a types part (variant.Reference target constant) h = refl
one_pointer a types part (variant.Iterator target constant) h = refl
one_pointer a types part (variant.Span target constant) h = refl
one_pointer a types part _ h = absurd (false≢true h)

either : (b : Bool) (a : AbsPlace) (others : List AbsPlace) → others ≡ a ∷ [] → Contains (if b then a ∷ [] else others) a
either true a others one = at_head a []
either false a others one = subst (λ (ls : List AbsPlace). Contains ls a) (sym one) (at_head a [])

module _ (types : Types) (ordered : IsOrdered types) where
  pub own_location : (n x : ℕ) (l : Local) → is_pointer (ty_of types (shape types n x l)) ≡ true → Contains (local_locations types n x l) (local_place x)
  own_location n x l pointer = either (is_variable l.kind (ty_of types (shape types n x l))) (local_place x) (pointers_in (local_place x) (tree_at types (shape types n x l))) (ap (pointers_in (local_place x)) (tree_made types ordered (shape types n x l)) ∙ go (slice_get types.types (shape types n x l).0) pointer)
    where
      go : (o : Option Ty) → is_pointer (or_void o) ≡ true → pointers_in (local_place x) (tree_of types (tree_at types) o) ≡ local_place x ∷ []
      go None h = absurd (false≢true h)
      go (Some t) h = one_pointer (local_place x) types (tree_at types) t h

  -- .. and so is a unique_ptr
  pub unique_among : (kind : LocalKind) (id : TyId) (a : AbsPlace) → is_unique (ty_of types id) ≡ true → Contains (locations_in types kind id a) a
  unique_among kind id a unique = either (is_variable kind (ty_of types id)) a (pointers_in a (tree_at types id)) (ap (pointers_in a) (tree_made types ordered id) ∙ go (slice_get types.types id.0) unique)
    where
      go : (o : Option Ty) → is_unique (or_void o) ≡ true → pointers_in a (tree_of types (tree_at types) o) ≡ a ∷ []
      go (Some (variant.Unique target)) h = refl
      go None h = absurd (false≢true h)
      go (Some _) h = absurd (false≢true h)

  pub unique_location : (n x : ℕ) (l : Local) → is_unique (ty_of types (shape types n x l)) ≡ true → Contains (local_locations types n x l) (local_place x)
  unique_location n x l = unique_among l.kind (shape types n x l) (local_place x)

  location_among : (n : ℕ) (ls : List Local) (first k x : ℕ) (l : Local) → first + k ≡ x → slice_get ls k ≡ Some l → Contains (local_locations types n x l) (local_place x) → Contains (locations_from types n first ls) (local_place x)
  location_among n [] first k x l is e has = absurd (none_some e)
  location_among n (m ∷ ls) first zero x l is e has =
      let here : x ≡ first = omega (arith, is) in
      Contains-append_left (local_locations types n first m) (locations_from types n (first + 1) ls) (local_place x)
      (subst (λ (u : Local). Contains (local_locations types n first u) (local_place x)) (sym (some_same e)) (subst (λ y. Contains (local_locations types n y l) (local_place x)) here has))
  location_among n (m ∷ ls) first (suc k) x l is e has =
      Contains-append_right (local_locations types n first m) (locations_from types n (first + 1) ls) (local_place x) (location_among n ls (first + 1) k x l (omega (arith, is)) e has)

  -- a vector or a string that is a local has facts
  pub variable_listed : (f : Function) (x : ℕ) → is_variable_of types f.parameters x (slice_get f.locals x) ≡ true → Contains (locations_of types f) (local_place x)
  variable_listed f x variable = go (slice_get f.locals x) refl variable
    where
      go : (o : Option Local) → slice_get f.locals x ≡ o → is_variable_of types f.parameters x o ≡ true → Contains (locations_of types f) (local_place x)
      go None e h = absurd (false≢true h)
      go (Some l) e h =
          location_among f.parameters f.locals 0 x x l (omega arith) e
          (subst (λ (b : Bool). Contains (if b then local_place x ∷ [] else pointers_in (local_place x) (tree_at types (shape types f.parameters x l))) (local_place x)) (sym h) (at_head (local_place x) []))

  -- a pointer that is a local has facts
  pub pointer_listed : (f : Function) (x : ℕ) → is_pointer (type_at types f x) ≡ true → Contains (locations_of types f) (local_place x)
  pointer_listed f x pointer = go (slice_get f.locals x) refl pointer
    where
      go : (o : Option Local) → slice_get f.locals x ≡ o → is_pointer (ty_if types (shape_of types f.parameters x o)) ≡ true → Contains (locations_of types f) (local_place x)
      go None e h = absurd (false≢true h)
      go (Some l) e h = location_among f.parameters f.locals 0 x x l (omega arith) e (own_location f.parameters x l h)

  -- .. and a unique_ptr
  pub unique_listed : (f : Function) (x : ℕ) → is_unique (type_at types f x) ≡ true → Contains (locations_of types f) (local_place x)
  unique_listed f x unique = go (slice_get f.locals x) refl unique
    where
      go : (o : Option Local) → slice_get f.locals x ≡ o → is_unique (ty_if types (shape_of types f.parameters x o)) ≡ true → Contains (locations_of types f) (local_place x)
      go None e h = absurd (false≢true h)
      go (Some l) e h = location_among f.parameters f.locals 0 x x l (omega arith) e (unique_location f.parameters x l h)

-- ---- places

pub map_into : {A B : Type 0} (g : A → B) (xs : List A) (x : A) → Contains xs x → Contains (map g xs) (g x)
map_into g [] x h = absurd (none_in_empty x h)
map_into g (y ∷ ys) x h = elim (cons_cases y ys x h) [ inl e ↦ subst (λ z. Contains (map g (y ∷ ys)) (g z)) e (at_head (g y) (map g ys)) | inr more ↦ in_tail (g y) (map g ys) (g x) (map_into g ys x more) ]

-- an object is among its own places
pub place_itself : (a : AbsPlace) (t : TypeTree) → Contains (places_in a t) a
place_itself a Text = at_head a (owned_place a ∷ [])
place_itself a (Vector item) = at_head a (places_in (owned_place a) item)
place_itself a (Unique target) = at_head a (places_in (owned_place a) target)
place_itself a (Member first others) = at_head a (places_in (member_place a 0) first ++ places_from a 1 others)
place_itself a _ = at_head a []

-- so many steps from a place on
abbrev pub steps_from : AbsPlace → List ℕ → AbsPlace
steps_from a [] = a
steps_from a (s ∷ ss) = steps_from (stepped a s) ss

module _ (types : Types) (ordered : IsOrdered types) where
  characters_tree : tree_at types (characters_type types) ≡ Void
  characters_tree = tree_made types ordered (characters_type types) ∙ ap (tree_of types (tree_at types)) (none_behind types ordered types.types)

  -- the places of what an owner has are among its own
  pub owned_among : (a : AbsPlace) (id item : TyId) → owned_in_type types (slice_get types.types id.0) ≡ Some item → (z : AbsPlace) → Contains (places_in (owned_place a) (tree_at types item)) z → Contains (places_in a (tree_at types id)) z
  owned_among a id item owned z h = subst (λ (t : TypeTree). Contains (places_in a t) z) (sym (tree_made types ordered id)) (go (slice_get types.types id.0) owned)
    where
      in_tree : (t : TypeTree) → tree_at types item ≡ t → Contains (places_in (owned_place a) t) z
      in_tree t e = subst (λ (u : TypeTree). Contains (places_in (owned_place a) u) z) e h

      go : (o : Option Ty) → owned_in_type types o ≡ Some item → Contains (places_in a (tree_of types (tree_at types) o)) z
      go (Some variant.Text) e = in_tail a (owned_place a ∷ []) z (in_tree Void (ap (tree_at types) (sym (some_same e)) ∙ characters_tree))
      go (Some (variant.Vector part)) e = in_tail a (places_in (owned_place a) (tree_at types part)) z (in_tree (tree_at types part) (ap (tree_at types) (sym (some_same e))))
      go (Some (variant.Unique part)) e = in_tail a (places_in (owned_place a) (tree_at types part)) z (in_tree (tree_at types part) (ap (tree_at types) (sym (some_same e))))
      go None e = absurd (none_some e)
      go (Some _) e = absurd (none_some e)

  pub owned_itself : (a : AbsPlace) (id item : TyId) → owned_in_type types (slice_get types.types id.0) ≡ Some item → Contains (places_in a (tree_at types id)) (owned_place a)
  owned_itself a id item owned = owned_among a id item owned (owned_place a) (place_itself (owned_place a) (tree_at types item))

  -- the places of a member are among those of the struct
  member_from : (a : AbsPlace) (m : ℕ) (ids : List TyId) (j k : ℕ) (id : TyId) → m + j ≡ k → slice_get ids j ≡ Some id → (z : AbsPlace) → Contains (places_in (member_place a k) (tree_at types id)) z → Contains (places_from a m (tree_struct (tree_at types) ids)) z
  member_from a m [] j k id is e z h = absurd (none_some e)
  member_from a m (x ∷ ids) zero k id is e z h =
      let here : k ≡ m = omega (arith, is) in
      Contains-append_left (places_in (member_place a m) (tree_at types x)) (places_from a (m + 1) (tree_struct (tree_at types) ids)) z
      (subst (λ (i : TyId). Contains (places_in (member_place a m) (tree_at types i)) z) (sym (some_same e)) (subst (λ q. Contains (places_in (member_place a q) (tree_at types id)) z) here h))
  member_from a m (x ∷ ids) (suc j) k id is e z h =
      Contains-append_right (places_in (member_place a m) (tree_at types x)) (places_from a (m + 1) (tree_struct (tree_at types) ids)) z (member_from a (m + 1) ids j k id (omega (arith, is)) e z h)

  pub member_among : (a : AbsPlace) (id : TyId) (m : ℕ) (part : TyId) → slice_get (members_of types id) m ≡ Some part → (z : AbsPlace) → Contains (places_in (member_place a m) (tree_at types part)) z → Contains (places_in a (tree_at types id)) z
  member_among a id m part typed z h = subst (λ (t : TypeTree). Contains (places_in a t) z) (sym (tree_made types ordered id)) (go (slice_get types.types id.0) typed)
    where
      begun : (j : ℕ) → 0 + j ≡ j
      begun j = omega arith

      of_struct : (ids : List TyId) → slice_get ids m ≡ Some part → Contains (places_in a (tree_struct (tree_at types) ids)) z
      of_struct [] e = absurd (none_some e)
      of_struct (x ∷ ids) e = in_tail a (places_from a 0 (tree_struct (tree_at types) (x ∷ ids))) z (member_from a 0 (x ∷ ids) m m part (begun m) e z h)

      go : (o : Option Ty) → slice_get (members_if types o) m ≡ Some part → Contains (places_in a (tree_of types (tree_at types) o)) z
      go (Some (variant.Struct number)) e = of_struct (members_at types number) e
      go None e = absurd (none_some e)
      go (Some _) e = absurd (none_some e)

  -- .. so those of a place to which another goes are among its own
  module _ (c : Content) where
    pub inner_among : (ss : List ℕ) (a : AbsPlace) (from to : Region) → Lies types c ss from to → (z : AbsPlace) → Contains (places_in (steps_from a ss) (tree_at types to.ty)) z → Contains (places_in a (tree_at types from.ty)) z
    inner_among [] a from to lies z h = subst (λ (r : Region). Contains (places_in a (tree_at types r.ty)) z) (sym lies) h
    inner_among (s ∷ ss) a from to lies z h = step (inner_among ss (stepped a s) lies.0 to lies.2 z h) lies.1
      where
        lt_true : (n m : ℕ) → n < m → nat_lt n m ≡ true
        lt_true n m lt = grind (arith, nat_tests)

        step : Contains (places_in (stepped a s) (tree_at types lies.0.ty)) z → Goes types c s from lies.0 → Contains (places_in a (tree_at types from.ty)) z
        step k (inl m) =
            member_among a from.ty s lies.0.ty m.type z
            (subst (λ (p : AbsPlace). Contains (places_in p (tree_at types lies.0.ty)) z) (sym (ap (λ (b : Bool). if b then stepped a s else too_long a) (lt_true s owned_step m.small))) k)
        step k (inr o) = owned_among a from.ty lies.0.ty o.type z (subst (λ j. Contains (places_in (stepped a j) (tree_at types lies.0.ty)) z) o.owned k)

  -- ---- the objects of a function

  object_among : (n : ℕ) (ls : List Local) (first k x : ℕ) (l : Local) (z : AbsPlace) → first + k ≡ x → slice_get ls k ≡ Some l → is_object l.kind ≡ true → Contains (places_in (local_place x) (tree_at types (shape types n x l))) z → Contains (objects_from types n first ls) z
  object_among n [] first k x l z is e object has = absurd (none_some e)
  object_among n (m ∷ ls) first zero x l z is e object has =
      let here : x ≡ first = omega (arith, is) in
      Contains-append_left (object_places m.kind (tree_at types (shape types n first m)) first) (objects_from types n (first + 1) ls) z
      (subst (λ (u : Local). Contains (object_places u.kind (tree_at types (shape types n first u)) first) z) (sym (some_same e))
      (kind l.kind object (subst (λ y. Contains (places_in (local_place y) (tree_at types (shape types n y l))) z) here has)))
    where
      kind : (k : LocalKind) → is_object k ≡ true → Contains (places_in (local_place first) (tree_at types (shape types n first l))) z → Contains (object_places k (tree_at types (shape types n first l)) first) z
      kind Object o h = h
      kind Register o h = absurd (false≢true o)
      kind Range o h = absurd (false≢true o)
  object_among n (m ∷ ls) first (suc k) x l z is e object has =
      Contains-append_right (object_places m.kind (tree_at types (shape types n first m)) first) (objects_from types n (first + 1) ls) z (object_among n ls (first + 1) k x l z (omega (arith, is)) e object has)

  module _ (f : Function) where
    abbrev behind : List Element
    behind = map element.At (objects_from types f.parameters 0 f.locals) ++ (map element.At (flat_map (input_places types) (inputs_of types f)) ++ caused_elements f)

    listed : (e : Element) → Contains (map element.At (objects_from types f.parameters 0 f.locals) ++ (map element.At (flat_map (input_places types) (inputs_of types f)) ++ caused_elements f)) e → Contains (elements_of types f) e
    listed e h = in_tail element.Null (element.Own ∷ element.Static ∷ behind) e (in_tail element.Own (element.Static ∷ behind) e (in_tail element.Static behind e h))

    pub null_known : Contains (elements_of types f) element.Null
    null_known = at_head element.Null (element.Own ∷ element.Static ∷ behind)

    pub own_known : Contains (elements_of types f) element.Own
    own_known = in_tail element.Null (element.Own ∷ element.Static ∷ behind) element.Own (at_head element.Own (element.Static ∷ behind))

    pub caused_known : (e : Element) → Contains (caused_elements f) e → Contains (elements_of types f) e
    caused_known e h = listed e (Contains-append_right (map element.At (objects_from types f.parameters 0 f.locals)) (map element.At (flat_map (input_places types) (inputs_of types f)) ++ caused_elements f) e
        (Contains-append_right (map element.At (flat_map (input_places types) (inputs_of types f))) (caused_elements f) e h))

    -- each place of an object
    pub object_known : (x : ℕ) (id : TyId) (z : AbsPlace) → object_at types f x ≡ true → local_type types f x ≡ Some id → Contains (places_in (local_place x) (tree_at types id)) z → Contains (elements_of types f) (element.At z)
    object_known x id z object typed has = go (slice_get f.locals x) refl object typed
      where
        go : (o : Option Local) → slice_get f.locals x ≡ o → has_kind is_object o ≡ true → shape_of types f.parameters x o ≡ Some id → Contains (elements_of types f) (element.At z)
        go None e h t = absurd (none_some t)
        go (Some l) e h t =
            listed (element.At z) (Contains-append_left (map element.At (objects_from types f.parameters 0 f.locals)) (map element.At (flat_map (input_places types) (inputs_of types f)) ++ caused_elements f) (element.At z)
            (map_into element.At (objects_from types f.parameters 0 f.locals) z
            (object_among f.parameters f.locals 0 x x l z (omega arith) e h (subst (λ (i : TyId). Contains (places_in (local_place x) (tree_at types i)) z) (sym (some_same t)) has))))
