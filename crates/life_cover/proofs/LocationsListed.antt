-- Each pointer and each unique_ptr is a location of its function: a local, or a member of one.
use Rattle.std.proofs.Common.{◌≡◌, ℕ, zero, suc, ◌+◌, Bool, true, false, ◌||◌, List, [], ◌∷◌, Option, Some, None, refl, sym, ap, subst, ◌∙◌, arith}
use Rattle.std.specs.Prelude.{Contains, if◌then◌else◌, slice_get}
use Rattle.std.proofs.lemmas.Bool.{false≢true}
use Rattle.std.proofs.lemmas.List.Elements.{Contains-append_left, Contains-append_right}
use Rattle.life_types.specs.Pointees.{or_void, ty_of}
use Rattle.life_types.specs.Trees.{struct_of as tree_struct, IsOrdered, TypeTree, tree_at, tree_of, members_at}
use Rattle.life_types.specs.TypeTests.{is_pointer, is_unique}
use Rattle.life_types.specs.Types.{HasEachOnce, Types}
use Rattle.life_types.specs.declared.ty.Ty.{Ty}
use Rattle.life_types.specs.declared.ty.Ty.TheVariants as ty
use Rattle.life_types.specs.declared.ty.TyId.{TyId}
use Rattle.life_types.proofs.TreeLemmas.{tree_made}
use Rattle.life_core.specs.declared.program.Local.{Local}
use Rattle.life_core.specs.declared.program.LocalKind.{LocalKind}
use Rattle.life_core.specs.declared.program.LocalKind.TheVariants.{Object, Register, Range}
use Rattle.life_core.specs.Function.{Function}
use Rattle.life_core.specs.Operands.{Location}
use Rattle.life_contract.specs.Located.{located}
use Rattle.life_pset.specs.Elements.{local_locations, local_place, locations_from, locations_in, locations_of, pointers_from, pointers_in}
use Rattle.life_pset.specs.Places.{member_place, members_place}
use Rattle.life_pset.specs.Shapes.{is_variable, shape, shape_of}
use Rattle.life_pset.specs.declared.element.AbsPlace.{AbsPlace}
use Rattle.life_proper.specs.Placed.{type_in}
use Rattle.life_rules.proofs.Giving.{at_head}
use Rattle.life_store.specs.Parts.{location_type, members_if, members_of, type_within}
use Rattle.life_store.proofs.CellLemmas.{none_some, some_same}
use Rattle.life_forest.proofs.SeenTypes.{pointer_solid}
use Rattle.life_forest.proofs.Shaped.{IsShaped}
use Rattle.life_forest.proofs.TypedSteps.{location_of}

-- facts are told of it where it is a local or a member
abbrev pub is_told : Ty → Bool
is_told t = is_pointer t || is_unique t

module _ (types : Types) (ordered : IsOrdered types) where
  -- ---- in an object

  one_told : (a : AbsPlace) (o : Option Ty) → is_told (or_void o) ≡ true → pointers_in a (tree_of types (tree_at types) o) ≡ a ∷ []
  one_told a None h = absurd (false≢true h)
  one_told a (Some ty.View) h = refl
  one_told a (Some (ty.Unique target)) h = refl
  one_told a (Some (ty.Raw target constant)) h = refl
  one_told a (Some (ty.Reference target constant)) h = refl
  one_told a (Some (ty.Iterator target constant)) h = refl
  one_told a (Some (ty.Span target constant)) h = refl
  one_told a (Some _) h = absurd (false≢true h)

  told_alone : (a : AbsPlace) (id : TyId) → is_told (ty_of types id) ≡ true → pointers_in a (tree_at types id) ≡ a ∷ []
  told_alone a id h = ap (pointers_in a) (tree_made types ordered id) ∙ one_told a (slice_get types.types id.0) h

  -- what a member has, the struct has
  told_from : (a : AbsPlace) (m : ℕ) (ids : List TyId) (j k : ℕ) (id : TyId) → m + j ≡ k → slice_get ids j ≡ Some id → (z : AbsPlace) → Contains (pointers_in (member_place a k) (tree_at types id)) z → Contains (pointers_from a m (tree_struct (tree_at types) ids)) z
  told_from a m [] j k id is e z h = absurd (none_some e)
  told_from a m (x ∷ ids) zero k id is e z h =
      let here : k ≡ m = omega (arith, is) in
      Contains-append_left (pointers_in (member_place a m) (tree_at types x)) (pointers_from a (m + 1) (tree_struct (tree_at types) ids)) z
      (subst (λ (i : TyId). Contains (pointers_in (member_place a m) (tree_at types i)) z) (sym (some_same e)) (subst (λ q. Contains (pointers_in (member_place a q) (tree_at types id)) z) here h))
  told_from a m (x ∷ ids) (suc j) k id is e z h =
      Contains-append_right (pointers_in (member_place a m) (tree_at types x)) (pointers_from a (m + 1) (tree_struct (tree_at types) ids)) z (told_from a (m + 1) ids j k id (omega (arith, is)) e z h)

  told_member : (a : AbsPlace) (id : TyId) (m : ℕ) (part : TyId) → slice_get (members_of types id) m ≡ Some part → (z : AbsPlace) → Contains (pointers_in (member_place a m) (tree_at types part)) z → Contains (pointers_in a (tree_at types id)) z
  told_member a id m part typed z h = subst (λ (t : TypeTree). Contains (pointers_in a t) z) (sym (tree_made types ordered id)) (go (slice_get types.types id.0) typed)
    where
      begun : (j : ℕ) → 0 + j ≡ j
      begun j = omega arith

      of_struct : (ids : List TyId) → slice_get ids m ≡ Some part → Contains (pointers_in a (tree_struct (tree_at types) ids)) z
      of_struct [] e = absurd (none_some e)
      of_struct (x ∷ ids) e = told_from a 0 (x ∷ ids) m m part (begun m) e z h

      go : (o : Option Ty) → slice_get (members_if types o) m ≡ Some part → Contains (pointers_in a (tree_of types (tree_at types) o)) z
      go (Some (ty.Struct number)) e = of_struct (members_at types number) e
      go None e = absurd (none_some e)
      go (Some _) e = absurd (none_some e)

  nowhere : (ms : List ℕ) (part : TyId) → type_within types None ms ≡ Some part → ⊥
  nowhere [] part h = none_some h
  nowhere (m ∷ ms) part h = none_some h

  -- what has members is a struct
  pub structured : (id : TyId) (m : ℕ) (ms : List ℕ) (part : TyId) → type_within types (Some id) (m ∷ ms) ≡ Some part → (number : ℕ) × (ty_of types id ≡ ty.Struct number)
  structured id m ms part typed = go (slice_get types.types id.0) typed
    where
      go : (o : Option Ty) → type_within types (slice_get (members_if types o) m) ms ≡ Some part → (number : ℕ) × (or_void o ≡ ty.Struct number)
      go (Some (ty.Struct number)) h = (number, refl)
      go None h = absurd (nowhere ms part h)
      go (Some _) h = absurd (nowhere ms part h)

  -- and no pointer
  pub pointer_memberless : (id : TyId) (m : ℕ) (ms : List ℕ) (part : TyId) → type_within types (Some id) (m ∷ ms) ≡ Some part → is_pointer (ty_of types id) ≡ false
  pointer_memberless id m ms part typed = ap is_pointer (structured id m ms part typed).1

  path_told : (ms : List ℕ) (id part : TyId) (a : AbsPlace) → type_within types (Some id) ms ≡ Some part → is_told (ty_of types part) ≡ true → Contains (pointers_in a (tree_at types id)) (members_place a ms)
  path_told [] id part a typed told = subst (λ (xs : List AbsPlace). Contains xs a) (sym (told_alone a id (ap (λ (i : TyId). is_told (ty_of types i)) (some_same typed) ∙ told))) (at_head a [])
  path_told (m ∷ ms) id part a typed told = go (λ x h. path_told ms x part (member_place a m) h told) (slice_get (members_of types id) m) refl typed
    where
      go : ((x : TyId) → type_within types (Some x) ms ≡ Some part → Contains (pointers_in (member_place a m) (tree_at types x)) (members_place (member_place a m) ms))
          → (o : Option TyId) → slice_get (members_of types id) m ≡ o → type_within types o ms ≡ Some part → Contains (pointers_in a (tree_at types id)) (members_place (member_place a m) ms)
      go again None e h = absurd (nowhere ms part h)
      go again (Some x) e h = told_member a id m x e (members_place (member_place a m) ms) (again x h)

  -- ---- in a function

  no_variable : (kind : LocalKind) (id : TyId) (m : ℕ) (x : TyId) → slice_get (members_of types id) m ≡ Some x → is_variable kind (ty_of types id) ≡ false
  no_variable Register id m x e = refl
  no_variable Range id m x e = refl
  no_variable Object id m x e = go (slice_get types.types id.0) e
    where
      go : (o : Option Ty) → slice_get (members_if types o) m ≡ Some x → is_variable Object (or_void o) ≡ false
      go (Some (ty.Struct number)) h = refl
      go None h = absurd (none_some h)
      go (Some _) h = absurd (none_some h)

  told_variable : (kind : LocalKind) (t : Ty) → is_told t ≡ true → is_variable kind t ≡ false
  told_variable Register t h = refl
  told_variable Range t h = refl
  told_variable Object ty.Text h = absurd (false≢true h)
  told_variable Object (ty.Vector element) h = absurd (false≢true h)
  told_variable Object _ h = refl

  pub told_in : (kind : LocalKind) (id part : TyId) (a : AbsPlace) (ms : List ℕ) → type_within types (Some id) ms ≡ Some part → is_told (ty_of types part) ≡ true → Contains (locations_in types kind id a) (members_place a ms)
  told_in kind id part a ms typed told =
      subst (λ (b : Bool). Contains (if b then a ∷ [] else pointers_in a (tree_at types id)) (members_place a ms)) (sym (free ms typed)) (path_told ms id part a typed told)
    where
      of_member : (m : ℕ) (ks : List ℕ) (o : Option TyId) → slice_get (members_of types id) m ≡ o → type_within types o ks ≡ Some part → is_variable kind (ty_of types id) ≡ false
      of_member m ks None e h = absurd (nowhere ks part h)
      of_member m ks (Some y) e h = no_variable kind id m y e

      free : (ks : List ℕ) → type_within types (Some id) ks ≡ Some part → is_variable kind (ty_of types id) ≡ false
      free [] h = told_variable kind (ty_of types id) (ap (λ (i : TyId). is_told (ty_of types i)) (some_same h) ∙ told)
      free (m ∷ ks) h = of_member m ks (slice_get (members_of types id) m) refl h

  pub local_told : (n x : ℕ) (l : Local) (ms : List ℕ) (part : TyId) → type_within types (Some (shape types n x l)) ms ≡ Some part → is_told (ty_of types part) ≡ true → Contains (local_locations types n x l) (members_place (local_place x) ms)
  local_told n x l ms part typed told = told_in l.kind (shape types n x l) part (local_place x) ms typed told

  among_locals : (n : ℕ) (ls : List Local) (first k x : ℕ) (l : Local) (z : AbsPlace) → first + k ≡ x → slice_get ls k ≡ Some l → Contains (local_locations types n x l) z → Contains (locations_from types n first ls) z
  among_locals n [] first k x l z is e has = absurd (none_some e)
  among_locals n (m ∷ ls) first zero x l z is e has =
      let here : x ≡ first = omega (arith, is) in
      Contains-append_left (local_locations types n first m) (locations_from types n (first + 1) ls) z
      (subst (λ (u : Local). Contains (local_locations types n first u) z) (sym (some_same e)) (subst (λ y. Contains (local_locations types n y l) z) here has))
  among_locals n (m ∷ ls) first (suc k) x l z is e has =
      Contains-append_right (local_locations types n first m) (locations_from types n (first + 1) ls) z (among_locals n ls (first + 1) k x l z (omega (arith, is)) e has)

  pub location_listed : (f : Function) → IsShaped types f → (l : Location) (part : TyId) → location_type types f l ≡ Some part → is_told (ty_of types part) ≡ true → Contains (locations_of types f) (located l)
  location_listed f shaped l part typed told = go (slice_get f.locals l.local) refl (subst (λ (id : Option TyId). type_within types id l.members ≡ Some part) (sym (shaped l.local)) typed)
    where
      go : (o : Option Local) → slice_get f.locals l.local ≡ o → type_within types (shape_of types f.parameters l.local o) l.members ≡ Some part → Contains (locations_of types f) (located l)
      go None e h = absurd (nowhere l.members part h)
      go (Some x) e h = among_locals f.parameters f.locals 0 l.local l.local x (located l) (omega arith) e (local_told f.parameters l.local x l.members part h told)

  -- a pointer
  pub pointer_listed : HasEachOnce types → (f : Function) → IsShaped types f → (l : Location) → is_pointer (type_in types f l) ≡ true → Contains (locations_of types f) (located l)
  pointer_listed once f shaped l pointer =
      let of = location_of types ordered once 0 [] f shaped l (type_in types f l) refl (pointer_solid (type_in types f l) pointer) in
      location_listed f shaped l of.number of.is (ap (λ (o : Option Ty). is_told (or_void o)) of.there ∙ told_pointer (type_in types f l) pointer)
    where
      told_pointer : (t : Ty) → is_pointer t ≡ true → is_told t ≡ true
      told_pointer t h = ap (λ b. b || is_unique t) h
