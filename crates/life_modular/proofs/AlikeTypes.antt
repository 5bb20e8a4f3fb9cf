-- What a type is, and what it is made of, is the same by two tables that have it alike, under new numbers; and so is the type of a place in
-- a function.
use Rattle.std.proofs.Common.{◌≡◌, ◌∙◌, ℕ, zero, suc, Bool, true, false, ◌&&◌, nat_eq, nat_lt, ◌<◌, List, [], ◌∷◌, Option, Some, None, Contains, map, option_map, slice_get, unwrap_or, refl, sym, subst, ap, ap₂, arith}
use Rattle.std.proofs.lemmas.Option.{slice_get-map}
use Rattle.life_types.specs.Pointees.{or_void, ty_of}
use Rattle.life_types.specs.Trees.{TypeTree, Member, Vector, Unique, Raw, Reference, Iterator, Span, AllBelow, HasPartsBelow, members_at, struct_of, tree_of, tree_at}
use Rattle.life_types.specs.Types.{Types}
use Rattle.life_types.specs.declared.ty.Ty.{Ty}
use Rattle.life_types.specs.declared.ty.Ty.TheVariants as ty
use Rattle.life_types.specs.declared.ty.TyId.{TyId}
use Rattle.life_core.specs.Function.{Function}
use Rattle.life_core.specs.Operands.{Location, Operand, Name, Through}
use Rattle.life_core.specs.declared.program.Local.{Local}
use Rattle.life_pset.specs.Places.{path}
use Rattle.life_pset.specs.Shapes.{is_variable, is_variable_of, is_variable_place, is_variable_root, local_type, location_type, member_of, member_type, members_type, operand_type, place_type, referred, rooted_type, shape, shape_if, shape_of, target_of, target_type, tree_if, ty_if, unslotted}
use Rattle.life_pset.specs.declared.element.AbsPlace.{AbsPlace}
use Rattle.life_pset.specs.declared.element.Root.{Root}
use Rattle.life_pset.specs.declared.element.Root.TheVariants as root
use Rattle.life_types.proofs.TreeLemmas.{tree_made}
use Rattle.life_rules.proofs.Giving.{at_head, in_tail}
use Rattle.life_modular.proofs.AlikeLists.{each_place}
use Rattle.life_modular.proofs.Renumbered.{is_variable_renumbered, local_renumbered, target_of_renumbered}
use Rattle.life_modular.specs.Renumbering.{Renumbering, renumbered_function, renumbered_local, renumbered_type}
use Rattle.life_modular.specs.Vocabulary.{Vocabulary, HasPartsIn, HaveAlike, Names}

-- the type is in the vocabulary, if there is one
abbrev pub IsNamed : Vocabulary → Option TyId → Type 0
IsNamed v None = Unit {0}
IsNamed v (Some id) = Contains v.types id

-- the local's type is in the vocabulary, if there is such a local
abbrev pub IsLocalNamed : Vocabulary → Option Local → Type 0
IsLocalNamed v None = Unit {0}
IsLocalNamed v (Some l) = Contains v.types l.ty

abbrev pub AreLocalsNamed : Vocabulary → List Local → Type 0
AreLocalsNamed v ls = (l : Local) → Contains ls l → Contains v.types l.ty

module _ {v : Vocabulary} {new : Renumbering} {these those : Types} (alike : HaveAlike v new these those) where
  -- ---- types

  void_or_renumbered : (o : Option Ty) → or_void (option_map (renumbered_type new) o) ≡ renumbered_type new (or_void o)
  void_or_renumbered None = refl
  void_or_renumbered (Some t) = refl

  pub ty_of_same : (id : TyId) → Contains v.types id → ty_of those (new.type id) ≡ renumbered_type new (ty_of these id)
  ty_of_same id named = ap or_void (alike.types id named) ∙ void_or_renumbered (slice_get these.types id.0)

  pub ty_of_named : (id : TyId) → Contains v.types id → HasPartsIn v (ty_of these id)
  ty_of_named id named = alike.parts id named

  none_or_renumbered : (o : Option (List TyId)) → unwrap_or (option_map (map new.type) o) [] ≡ map new.type (unwrap_or o [])
  none_or_renumbered None = refl
  none_or_renumbered (Some ids) = refl

  pub members_at_same : (number : ℕ) → Contains v.structs number → members_at those (new.struct number) ≡ map new.type (members_at these number)
  members_at_same number named =
      ap (λ (o : Option (List TyId)). unwrap_or o []) (alike.structs number named) ∙ none_or_renumbered (slice_get these.structs number)

  pub members_at_named : (number : ℕ) → Contains v.structs number → (id : TyId) → Contains (members_at these number) id → Contains v.types id
  members_at_named number named id among = alike.members number id named among

  -- ---- trees

  -- what is made of parts with smaller numbers is the same, where these are
  module _ (f g : TyId → TypeTree) (n : ℕ) (same : (id : TyId) → Contains v.types id → id.0 < n → g (new.type id) ≡ f id) where
    struct_of_same : (ids : List TyId) → ((id : TyId) → Contains ids id → Contains v.types id) → AllBelow n ids → struct_of g (map new.type ids) ≡ struct_of f ids
    struct_of_same [] named below = refl
    struct_of_same (id ∷ ids) named below =
        ap₂ (λ (first others : TypeTree). Member first others)
        (same id (named id (at_head id ids)) below.0)
        (struct_of_same ids (λ part among. named part (in_tail id ids part among)) below.1)

    tree_of_same : (t : Ty) → HasPartsIn v t → HasPartsBelow these n t → tree_of those g (Some (renumbered_type new t)) ≡ tree_of these f (Some t)
    tree_of_same (ty.Vector element) parts below = ap Vector (same element parts below)
    tree_of_same (ty.Unique target) parts below = ap Unique (same target parts below)
    tree_of_same (ty.Raw target constant) parts below = ap (λ (t : TypeTree). Raw t constant) (same target parts below)
    tree_of_same (ty.Reference target constant) parts below = ap (λ (t : TypeTree). Reference t constant) (same target parts below)
    tree_of_same (ty.Iterator target constant) parts below = ap (λ (t : TypeTree). Iterator t constant) (same target parts below)
    tree_of_same (ty.Span target constant) parts below = ap (λ (t : TypeTree). Span t constant) (same target parts below)
    tree_of_same (ty.Struct number) parts below =
        let all : AllBelow n (members_at these number) =
        subst (λ (o : Option (List TyId)). AllBelow n (unwrap_or o [])) (sym below.there) below.below in
        ap (struct_of g) (members_at_same number parts) ∙ struct_of_same (members_at these number) (members_at_named number parts) all
    tree_of_same _ parts below = refl

  -- .. and these have
  tree_there_same : (id : TyId) → Contains v.types id → ((part : TyId) → Contains v.types part → part.0 < id.0 → tree_at those (new.type part) ≡ tree_at these part)
      → (o : Option Ty) → slice_get these.types id.0 ≡ o → tree_of those (tree_at those) (option_map (renumbered_type new) o) ≡ tree_of these (tree_at these) o
  tree_there_same id named same None there = refl
  tree_there_same id named same (Some t) there =
      tree_of_same (tree_at these) (tree_at those) id.0 same t
      (subst (λ (o : Option Ty). HasPartsIn v (or_void o)) there (alike.parts id named))
      (alike.ordered.parts id.0 t there)

  tree_within_same : (n : ℕ) (id : TyId) → id.0 < n → Contains v.types id → tree_at those (new.type id) ≡ tree_at these id
  tree_within_same zero id deep named = absurd (omega arith)
  tree_within_same (suc n) id deep named =
      tree_made those alike.others_ordered (new.type id)
      ∙ ap (tree_of those (tree_at those)) (alike.types id named)
      ∙ tree_there_same id named (λ part among below. tree_within_same n part (omega arith) among) (slice_get these.types id.0) refl
      ∙ sym (tree_made these alike.ordered id)

  pub tree_at_same : (id : TyId) → Contains v.types id → tree_at those (new.type id) ≡ tree_at these id
  tree_at_same id named = tree_within_same (suc id.0) id (omega arith) named

  -- ---- types that may be missing

  pub ty_if_same : (o : Option TyId) → IsNamed v o → ty_if those (option_map new.type o) ≡ renumbered_type new (ty_if these o)
  ty_if_same None named = refl
  ty_if_same (Some id) named = ty_of_same id named

  pub ty_if_named : (o : Option TyId) → IsNamed v o → HasPartsIn v (ty_if these o)
  ty_if_named None named = tt
  ty_if_named (Some id) named = ty_of_named id named

  pub tree_if_same : (o : Option TyId) → IsNamed v o → tree_if those (option_map new.type o) ≡ tree_if these o
  tree_if_same None named = refl
  tree_if_same (Some id) named = tree_at_same id named

  -- ---- parts of types

  -- what a pointer points to is part of its type
  pub target_of_named : (t : Ty) → HasPartsIn v t → IsNamed v (target_of t)
  target_of_named (ty.Raw target constant) parts = parts
  target_of_named (ty.Reference target constant) parts = parts
  target_of_named (ty.Iterator target constant) parts = parts
  target_of_named (ty.Span target constant) parts = parts
  target_of_named _ parts = tt

  pub target_type_same : (o : Option TyId) → IsNamed v o → target_type those (option_map new.type o) ≡ option_map new.type (target_type these o)
  target_type_same o named = ap target_of (ty_if_same o named) ∙ target_of_renumbered new (ty_if these o)

  pub target_type_named : (o : Option TyId) → IsNamed v o → IsNamed v (target_type these o)
  target_type_named o named = target_of_named (ty_if these o) (ty_if_named o named)

  pub member_of_same : (t : Ty) → HasPartsIn v t → (m : ℕ) → member_of those (renumbered_type new t) m ≡ option_map new.type (member_of these t m)
  member_of_same (ty.Struct number) parts m =
      ap (λ (ids : List TyId). slice_get ids m) (members_at_same number parts) ∙ slice_get-map new.type (members_at these number) m
  member_of_same _ parts m = refl

  pub member_of_named : (t : Ty) → HasPartsIn v t → (m : ℕ) → IsNamed v (member_of these t m)
  member_of_named (ty.Struct number) parts m = each_place (IsNamed v) tt (members_at these number) (members_at_named number parts) m
  member_of_named _ parts m = tt

  pub member_type_same : (o : Option TyId) → IsNamed v o → (m : ℕ) → member_type those (option_map new.type o) m ≡ option_map new.type (member_type these o m)
  member_type_same o named m =
      ap (λ (t : Ty). member_of those t m) (ty_if_same o named) ∙ member_of_same (ty_if these o) (ty_if_named o named) m

  pub member_type_named : (o : Option TyId) → IsNamed v o → (m : ℕ) → IsNamed v (member_type these o m)
  member_type_named o named m = member_of_named (ty_if these o) (ty_if_named o named) m

  pub members_type_same : (o : Option TyId) → IsNamed v o → (ms : List ℕ) → members_type those (option_map new.type o) ms ≡ option_map new.type (members_type these o ms)
  members_type_same o named [] = refl
  members_type_same o named (m ∷ ms) =
      ap (λ (part : Option TyId). members_type those part ms) (member_type_same o named m)
      ∙ members_type_same (member_type these o m) (member_type_named o named m) ms

  pub members_type_named : (o : Option TyId) → IsNamed v o → (ms : List ℕ) → IsNamed v (members_type these o ms)
  members_type_named o named [] = named
  members_type_named o named (m ∷ ms) = members_type_named (member_type these o m) (member_type_named o named m) ms

  -- .. and so are those of what has the same type by both
  pub reached_same : (o : Option TyId) {p : Option TyId} → IsNamed v o → p ≡ option_map new.type o → (ms : List ℕ) → members_type those p ms ≡ option_map new.type (members_type these o ms)
  reached_same o named same ms = ap (λ (part : Option TyId). members_type those part ms) same ∙ members_type_same o named ms

  -- ---- locals

  referred_same : (id target : TyId) (t : Ty) → referred (new.type id) (new.type target) (renumbered_type new t) ≡ new.type (referred id target t)
  referred_same id target ty.View = refl
  referred_same id target _ = refl

  referred_named : (id : TyId) → Contains v.types id → (target : TyId) → Contains v.types target → (t : Ty) → Contains v.types (referred id target t)
  referred_named id named target aim (ty.Iterator item constant) = aim
  referred_named id named target aim (ty.Span item constant) = aim
  referred_named id named target aim ty.View = aim
  referred_named id named target aim (ty.Unique item) = aim
  referred_named id named target aim _ = named

  pub unslotted_same : (id : TyId) (t : Ty) → HasPartsIn v t → unslotted those (new.type id) (renumbered_type new t) ≡ new.type (unslotted these id t)
  unslotted_same id (ty.Reference target false) parts =
      ap (referred (new.type id) (new.type target)) (ty_of_same target parts) ∙ referred_same id target (ty_of these target)
  unslotted_same id _ parts = refl

  pub unslotted_named : (id : TyId) → Contains v.types id → (t : Ty) → HasPartsIn v t → Contains v.types (unslotted these id t)
  unslotted_named id named (ty.Reference target false) parts = referred_named id named target parts (ty_of these target)
  unslotted_named id named _ parts = named

  pub shape_if_same : (parameter : Bool) (id : TyId) → Contains v.types id → shape_if those parameter (new.type id) ≡ new.type (shape_if these parameter id)
  shape_if_same true id named = ap (unslotted those (new.type id)) (ty_of_same id named) ∙ unslotted_same id (ty_of these id) (ty_of_named id named)
  shape_if_same false id named = refl

  pub shape_if_named : (parameter : Bool) (id : TyId) → Contains v.types id → Contains v.types (shape_if these parameter id)
  shape_if_named true id named = unslotted_named id named (ty_of these id) (ty_of_named id named)
  shape_if_named false id named = named

  pub shape_same : (n x : ℕ) (l : Local) → Contains v.types l.ty → shape those n x (renumbered_local new l) ≡ new.type (shape these n x l)
  shape_same n x l named = shape_if_same (nat_lt x n) l.ty named

  pub shape_named : (n x : ℕ) (l : Local) → Contains v.types l.ty → Contains v.types (shape these n x l)
  shape_named n x l named = shape_if_named (nat_lt x n) l.ty named

  pub shape_of_same : (n x : ℕ) (o : Option Local) → IsLocalNamed v o → shape_of those n x (option_map (renumbered_local new) o) ≡ option_map new.type (shape_of these n x o)
  shape_of_same n x None named = refl
  shape_of_same n x (Some l) named = ap (λ (id : TyId). Some id) (shape_same n x l named)

  pub shape_of_named : (n x : ℕ) (o : Option Local) → IsLocalNamed v o → IsNamed v (shape_of these n x o)
  shape_of_named n x None named = tt
  shape_of_named n x (Some l) named = shape_named n x l named

  pub is_variable_of_same : (n x : ℕ) (o : Option Local) → IsLocalNamed v o → is_variable_of those n x (option_map (renumbered_local new) o) ≡ is_variable_of these n x o
  is_variable_of_same n x None named = refl
  is_variable_of_same n x (Some l) named =
      ap (λ (id : TyId). is_variable l.kind (ty_of those id)) (shape_same n x l named)
      ∙ ap (is_variable l.kind) (ty_of_same (shape these n x l) (shape_named n x l named))
      ∙ is_variable_renumbered new l.kind (ty_of these (shape these n x l))

  -- ---- of a function that names these types

  module _ {f : Function} (names : Names v f) where
    pub local_named : (x : ℕ) → IsLocalNamed v (slice_get f.locals x)
    local_named x = each_place (IsLocalNamed v) tt f.locals names.locals x

    pub local_type_same : (x : ℕ) → local_type those (renumbered_function new f) x ≡ option_map new.type (local_type these f x)
    local_type_same x = ap (shape_of those f.parameters x) (local_renumbered new f x) ∙ shape_of_same f.parameters x (slice_get f.locals x) (local_named x)

    pub local_type_named : (x : ℕ) → IsNamed v (local_type these f x)
    local_type_named x = shape_of_named f.parameters x (slice_get f.locals x) (local_named x)

    pub location_type_same : (l : Location) → location_type those (renumbered_function new f) l ≡ option_map new.type (location_type these f l)
    location_type_same l = reached_same (local_type these f l.local) (local_type_named l.local) (local_type_same l.local) l.members

    pub location_type_named : (l : Location) → IsNamed v (location_type these f l)
    location_type_named l = members_type_named (local_type these f l.local) (local_type_named l.local) l.members

    pub operand_type_same : (o : Operand) → operand_type those (renumbered_function new f) o ≡ option_map new.type (operand_type these f o)
    operand_type_same (Name l) = location_type_same l
    operand_type_same (Through p members) =
        reached_same
        (target_type these (location_type these f p))
        (target_type_named (location_type these f p) (location_type_named p))
        (ap (target_type those) (location_type_same p) ∙ target_type_same (location_type these f p) (location_type_named p))
        members

    pub operand_type_named : (o : Operand) → IsNamed v (operand_type these f o)
    operand_type_named (Name l) = location_type_named l
    operand_type_named (Through p members) =
        members_type_named (target_type these (location_type these f p)) (target_type_named (location_type these f p) (location_type_named p)) members

    pub rooted_type_same : (r : Root) → rooted_type those (renumbered_function new f) r ≡ option_map new.type (rooted_type these f r)
    rooted_type_same (root.Local x) = local_type_same x
    rooted_type_same (root.Input parameter member) = refl

    pub rooted_type_named : (r : Root) → IsNamed v (rooted_type these f r)
    rooted_type_named (root.Local x) = local_type_named x
    rooted_type_named (root.Input parameter member) = tt

    pub place_type_same : (a : AbsPlace) → place_type those (renumbered_function new f) a ≡ option_map new.type (place_type these f a)
    place_type_same a = reached_same (rooted_type these f a.root) (rooted_type_named a.root) (rooted_type_same a.root) (path a)

    pub place_type_named : (a : AbsPlace) → IsNamed v (place_type these f a)
    place_type_named a = members_type_named (rooted_type these f a.root) (rooted_type_named a.root) (path a)

    pub is_variable_root_same : (r : Root) → is_variable_root those (renumbered_function new f) r ≡ is_variable_root these f r
    is_variable_root_same (root.Local x) =
        ap (is_variable_of those f.parameters x) (local_renumbered new f x) ∙ is_variable_of_same f.parameters x (slice_get f.locals x) (local_named x)
    is_variable_root_same (root.Input parameter member) = refl

    pub is_variable_place_same : (a : AbsPlace) → is_variable_place those (renumbered_function new f) a ≡ is_variable_place these f a
    is_variable_place_same a = ap (λ (b : Bool). nat_eq a.length 0 && b) (is_variable_root_same a.root)
