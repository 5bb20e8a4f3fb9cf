-- The locals of a function that is moved have the types of before, and so are its locations; its elements are those of before, moved.
use Rattle.std.proofs.Common.{◌≡◌, ◌∙◌, ◌++◌, ◌+◌, ◌&&◌, ℕ, Bool, nat_eq, List, [], ◌∷◌, Option, Some, None, Contains, map, option_map, slice_get, refl, sym, ap, ap₂, subst}
use Rattle.std.specs.List.{flat_map}
use Rattle.life_types.specs.Trees.{tree_at}
use Rattle.life_types.specs.Types.{Types}
use Rattle.life_types.specs.declared.place.Place.{Place}
use Rattle.life_types.specs.declared.ty.NameId.{NameId}
use Rattle.life_types.specs.declared.ty.TyId.{TyId}
use Rattle.life_core.specs.Function.{Function}
use Rattle.life_core.specs.Linked.{code_of}
use Rattle.life_core.specs.Operands.{Location, Operand, Name, Through}
use Rattle.life_core.specs.Step.{Step, Live, End, Copy, Move, Changes}
use Rattle.life_core.specs.Tree.{Node, Action, Question, Return, Stop}
use Rattle.life_core.specs.declared.program.Local.{Local}
use Rattle.life_core.specs.declared.program.LocalKind.{LocalKind}
use Rattle.life_core.specs.declared.program.LocalKind.TheVariants.{Object, Register, Range}
use Rattle.life_pset.specs.Elements.{Input, caused_at, caused_elements, causes_of_end, changed_in, elements_of, end_causes, end_elements, end_if, end_kind, ended_local, input_places, inputs_from, inputs_of, local_inputs, local_locations, locations_from, locations_of, moved, node_elements, object_places, objects_from, step_elements}
use Rattle.life_pset.specs.Places.{path}
use Rattle.life_pset.specs.Shapes.{is_variable_of, is_variable_place, is_variable_root, local_type, location_type, members_type, operand_type, place_type, rooted_type, shape, shape_of, target_type}
use Rattle.life_pset.specs.Table.{IsOf, table_of}
use Rattle.life_pset.specs.declared.element.AbsPlace.{AbsPlace}
use Rattle.life_pset.specs.declared.element.Cause.{Cause}
use Rattle.life_pset.specs.declared.element.Element.{Element}
use Rattle.life_pset.specs.declared.element.Element.TheVariants as element
use Rattle.life_pset.specs.declared.element.Fact.{Fact}
use Rattle.life_pset.specs.declared.element.Root.{Root}
use Rattle.life_pset.specs.declared.element.Root.TheVariants as root
use Rattle.life_pset.proofs.Numbers.{is_of_iff}
use Rattle.life_modular.proofs.MovedCode.{code_moved}
use Rattle.life_modular.proofs.MovedLists.{Contains_moved, append_moved, flat_map_each, flat_map_moved, map_moved, slice_get_map}
use Rattle.life_modular.specs.Renaming.{Renaming, moved_cause, moved_element, moved_fact, moved_function, moved_linked, moved_local, moved_node, moved_step}

module _ (r : Renaming) where
  -- ---- locals

  module _ (types : Types) where
    shape_of_moved : (n x : ℕ) (o : Option Local) → shape_of types n x (option_map (moved_local r) o) ≡ shape_of types n x o
    shape_of_moved n x None = refl
    shape_of_moved n x (Some l) = refl

    is_variable_of_moved : (n x : ℕ) (o : Option Local) → is_variable_of types n x (option_map (moved_local r) o) ≡ is_variable_of types n x o
    is_variable_of_moved n x None = refl
    is_variable_of_moved n x (Some l) = refl

    pub locations_from_moved : (n x : ℕ) (ls : List Local) → locations_from types n x (map (moved_local r) ls) ≡ locations_from types n x ls
    locations_from_moved n x [] = refl
    locations_from_moved n x (l ∷ ls) = ap (λ (more : List AbsPlace). local_locations types n x l ++ more) (locations_from_moved n (x + 1) ls)

    pub objects_from_moved : (n x : ℕ) (ls : List Local) → objects_from types n x (map (moved_local r) ls) ≡ objects_from types n x ls
    objects_from_moved n x [] = refl
    objects_from_moved n x (l ∷ ls) =
        ap (λ (more : List AbsPlace). object_places l.kind (tree_at types (shape types n x l)) x ++ more) (objects_from_moved n (x + 1) ls)

    pub inputs_from_moved : (n x : ℕ) (ls : List Local) → inputs_from types n x (map (moved_local r) ls) ≡ inputs_from types n x ls
    inputs_from_moved n x [] = refl
    inputs_from_moved n x (l ∷ ls) = ap (λ (more : List Input). local_inputs types n x l ++ more) (inputs_from_moved n (x + 1) ls)

  -- ---- causes

  end_if_moved : (kind : LocalKind) (c : Cause) → end_if kind (moved_cause r c) ≡ map (moved_cause r) (end_if kind c)
  end_if_moved Object c = refl
  end_if_moved Register c = refl
  end_if_moved Range c = refl

  -- what has a name has one still
  end_kind_moved : (place : Place) (x : ℕ) (name : Option NameId)
      → record { kind = end_kind (option_map r.name name); place = r.place place; root = x } ≡ moved_cause r (record { kind = end_kind name; place = place; root = x })
  end_kind_moved place x None = refl
  end_kind_moved place x (Some name) = refl

  end_causes_moved : (place : Place) (x : ℕ) (o : Option Local) → end_causes (r.place place) x (option_map (moved_local r) o) ≡ map (moved_cause r) (end_causes place x o)
  end_causes_moved place x None = refl
  end_causes_moved place x (Some l) = ap (end_if l.kind) (end_kind_moved place x l.name) ∙ end_if_moved l.kind (ended_local place x l)

  pub changed_in_moved : (place : Place) (o : Operand) → changed_in (r.place place) o ≡ moved_cause r (changed_in place o)
  changed_in_moved place (Name l) = refl
  changed_in_moved place (Through p members) = refl

  -- a place is where it was
  pub places_kept : (places : List AbsPlace) → map element.At places ≡ map (moved_element r) (map element.At places)
  places_kept [] = refl
  places_kept (place ∷ places) = ap (λ (more : List Element). element.At place ∷ more) (places_kept places)

  module _ (f : Function) where
    pub local_at_moved : (x : ℕ) → slice_get (moved_function r f).locals x ≡ option_map (moved_local r) (slice_get f.locals x)
    local_at_moved x = slice_get_map (moved_local r) f.locals x

    pub causes_of_end_moved : (place : Place) (x : ℕ) → causes_of_end (moved_function r f) (r.place place) x ≡ map (moved_cause r) (causes_of_end f place x)
    causes_of_end_moved place x = ap (end_causes (r.place place) x) (local_at_moved x) ∙ end_causes_moved place x (slice_get f.locals x)

    -- ---- elements that have a cause

    pub end_elements_moved : (place : Place) (x : ℕ) → end_elements (moved_function r f) (r.place place) x ≡ map (moved_element r) (end_elements f place x)
    end_elements_moved place x =
        ap (map element.Invalid) (causes_of_end_moved place x)
        ∙ map_moved (moved_cause r) (moved_element r) element.Invalid element.Invalid (causes_of_end f place x) (λ c. refl)

    pub step_elements_moved : (place : Place) (i : Step) → step_elements (moved_function r f) (r.place place) (moved_step r i) ≡ map (moved_element r) (step_elements f place i)
    step_elements_moved place (Live x form) = refl
    step_elements_moved place (End xs) = flat_map_each (moved_element r) (end_elements (moved_function r f) (r.place place)) (end_elements f place) xs (end_elements_moved place)
    step_elements_moved place (Copy to from) = ap (λ (c : Cause). element.Invalid c ∷ []) (changed_in_moved place to)
    step_elements_moved place (Move to y) =
        ap (λ (c : Cause). element.Invalid (moved (r.place place) y) ∷ element.Moved (moved (r.place place) y) ∷ element.Invalid c ∷ []) (changed_in_moved place to)
    step_elements_moved place (Changes o change) = ap (λ (c : Cause). element.Invalid c ∷ []) (changed_in_moved place o)
    step_elements_moved place _ = refl

    pub node_elements_moved : (place : Place) (n : Node) → node_elements (moved_function r f) (r.place place) (moved_node r n) ≡ map (moved_element r) (node_elements f place n)
    node_elements_moved place (Action i) = step_elements_moved place i
    node_elements_moved place (Question t) = refl
    node_elements_moved place Return = refl
    node_elements_moved place Stop = refl

    pub caused_elements_moved : caused_elements (moved_function r f) ≡ map (moved_element r) (caused_elements f)
    caused_elements_moved =
        ap (flat_map (caused_at (moved_function r f))) (code_moved r f)
        ∙ flat_map_moved (moved_linked r) (moved_element r) (caused_at (moved_function r f)) (caused_at f) (code_of f) (λ l. node_elements_moved l.spot.place l.spot.node)

    -- ---- of the whole function

    module _ (types : Types) where
      pub local_type_moved : (x : ℕ) → local_type types (moved_function r f) x ≡ local_type types f x
      local_type_moved x = ap (shape_of types f.parameters x) (local_at_moved x) ∙ shape_of_moved types f.parameters x (slice_get f.locals x)

      pub location_type_moved : (l : Location) → location_type types (moved_function r f) l ≡ location_type types f l
      location_type_moved l = ap (λ (o : Option TyId). members_type types o l.members) (local_type_moved l.local)

      pub operand_type_moved : (o : Operand) → operand_type types (moved_function r f) o ≡ operand_type types f o
      operand_type_moved (Name l) = location_type_moved l
      operand_type_moved (Through p members) = ap (λ (o : Option TyId). members_type types (target_type types o) members) (location_type_moved p)

      pub rooted_type_moved : (at : Root) → rooted_type types (moved_function r f) at ≡ rooted_type types f at
      rooted_type_moved (root.Local x) = local_type_moved x
      rooted_type_moved (root.Input parameter member) = refl

      pub place_type_moved : (a : AbsPlace) → place_type types (moved_function r f) a ≡ place_type types f a
      place_type_moved a = ap (λ (o : Option TyId). members_type types o (path a)) (rooted_type_moved a.root)

      pub is_variable_root_moved : (at : Root) → is_variable_root types (moved_function r f) at ≡ is_variable_root types f at
      is_variable_root_moved (root.Local x) = ap (is_variable_of types f.parameters x) (local_at_moved x) ∙ is_variable_of_moved types f.parameters x (slice_get f.locals x)
      is_variable_root_moved (root.Input parameter member) = refl

      pub is_variable_place_moved : (a : AbsPlace) → is_variable_place types (moved_function r f) a ≡ is_variable_place types f a
      is_variable_place_moved a = ap (λ (b : Bool). nat_eq a.length 0 && b) (is_variable_root_moved a.root)

      pub locations_of_moved : locations_of types (moved_function r f) ≡ locations_of types f
      locations_of_moved = locations_from_moved types f.parameters 0 f.locals

      pub inputs_of_moved : inputs_of types (moved_function r f) ≡ inputs_of types f
      inputs_of_moved = inputs_from_moved types f.parameters 0 f.locals

      pub elements_of_moved : elements_of types (moved_function r f) ≡ map (moved_element r) (elements_of types f)
      elements_of_moved =
          ap₂ (λ (places : List AbsPlace) (caused : List Element). element.Null ∷ element.Own ∷ element.Static ∷ (map element.At places ++ caused)) (objects_from_moved types f.parameters 0 f.locals) behind_moved
          ∙ ap (λ (es : List Element). element.Null ∷ element.Own ∷ element.Static ∷ es)
          (append_moved (moved_element r) (map element.At objects) (map element.At behind ++ caused_elements f) (places_kept objects)
          (append_moved (moved_element r) (map element.At behind) (caused_elements f) (places_kept behind) refl))
        where
          objects : List AbsPlace
          objects = objects_from types f.parameters 0 f.locals

          behind : List AbsPlace
          behind = flat_map (input_places types) (inputs_of types f)

          behind_moved : map element.At (flat_map (input_places types) (inputs_of types (moved_function r f))) ++ caused_elements (moved_function r f)
              ≡ map element.At behind ++ map (moved_element r) (caused_elements f)
          behind_moved =
              ap₂ (λ (inputs : List Input) (caused : List Element). map element.At (flat_map (input_places types) inputs) ++ caused) inputs_of_moved caused_elements_moved

      pub is_of_moved : (x : Fact) → IsOf (table_of types f) x → IsOf (table_of types (moved_function r f)) (moved_fact r x)
      is_of_moved x among =
          let here : Contains (locations_of types f) x.location × Contains (elements_of types f) x.element = (is_of_iff types f x).0 among in
          (is_of_iff types (moved_function r f) (moved_fact r x)).1 (
            subst (λ (ls : List AbsPlace). Contains ls x.location) (sym locations_of_moved) here.0,
            Contains_moved (moved_element r) (elements_of types f) elements_of_moved x.element here.1,
          )
