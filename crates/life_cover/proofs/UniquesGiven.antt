-- What a unique_ptr has that a parameter or a result is, or a member of one, the facts say: it may have something, or nothing.
use Rattle.std.proofs.Common.{◌≡◌, ℕ, zero, suc, ◌≤◌, ◌<◌, Bool, true, false, List, [], ◌∷◌, length, Option, Some, None, refl, sym, ap, subst, ◌∙◌, arith}
use Rattle.std.specs.Prelude.{Contains, ◌||◌, cond, if◌then◌else◌, map, nat_lt, option_map, slice_get}
use Rattle.std.specs.List.{flat_map}
use Rattle.std.proofs.lemmas.Bool.{false≢true}
use Rattle.std.proofs.lemmas.List.Elements.{Contains-append_left, Contains-append_right}
use Rattle.std.proofs.lemmas.Option.{slice_get-map}
use Rattle.life_types.specs.Pointees.{or_void, ty_of}
use Rattle.life_types.specs.TypeTests.{is_pointer, is_unique}
use Rattle.life_types.specs.Types.{HasEachOnce, Types}
use Rattle.life_types.specs.declared.ty.Ty.{Ty}
use Rattle.life_types.specs.declared.ty.Ty.TheVariants as ty
use Rattle.life_types.specs.declared.ty.TyId.{TyId}
use Rattle.life_types.specs.Trees.{IsOrdered}
use Rattle.life_core.specs.declared.program.Local.{Local}
use Rattle.life_core.specs.declared.program.LocalKind.TheVariants.{Object}
use Rattle.life_core.specs.Function.{Function}
use Rattle.life_core.specs.Operands.{Location, whole}
use Rattle.life_core.specs.Ready.{entry_ready, given_ready}
use Rattle.life_pset.specs.Elements.{AreShort, elements_of, local_inputs, local_locations, local_place}
use Rattle.life_pset.specs.Places.{members_place, path}
use Rattle.life_pset.specs.Shapes.{members_type, shape, shape_of, ty_if}
use Rattle.life_pset.specs.Shapes as shapes
use Rattle.life_pset.specs.declared.element.AbsPlace.{AbsPlace}
use Rattle.life_pset.specs.declared.element.Element.{Element}
use Rattle.life_pset.specs.declared.element.Element.TheVariants as element
use Rattle.life_pset.specs.declared.element.Fact.{Fact}
use Rattle.life_pset.proofs.Numbers.{is_of_iff}
use Rattle.life_contract.specs.Located.{located}
use Rattle.life_contract.specs.Promises.{fixed_elements, owner_elements, pointer_elements, result_locations, result_type}
use Rattle.life_contract.specs.Signatures.{Signature, signature_of}
use Rattle.life_proper.specs.Placed.{object_at, type_in}
use Rattle.life_rules.specs.Calling.{fixed_facts, fixed_into}
use Rattle.life_rules.specs.Deriving.{entry, input_facts, owner_facts}
use Rattle.life_rules.specs.Matching.{fact_at}
use Rattle.life_rules.proofs.Giving.{at_head, flat_map_into, in_tail}
use Rattle.life_store.specs.Parts.{location_type, type_within}
use Rattle.life_store.specs.State.{Named, State, is_there, ready_of}
use Rattle.life_store.proofs.CellLemmas.{none_some, some_same}
use Rattle.life_forest.proofs.OneNumber.{IsOfType}
use Rattle.life_forest.proofs.Shaped.{IsShaped, within_same}
use Rattle.life_forest.proofs.TypedSteps.{location_of}
use Rattle.life_cover.specs.Covers.{IsOwnerTold}
use Rattle.life_cover.specs.Uniques.{UniquesTold, had_at, word_in}
use Rattle.life_cover.proofs.Edges.{FactsAt}
use Rattle.life_cover.proofs.ExactLocations.{exact_path}
use Rattle.life_cover.proofs.Listing.{map_into, null_known, own_known}
use Rattle.life_cover.proofs.LocationsListed.{is_told, local_told, location_listed, told_in}
use Rattle.life_cover.proofs.PointerInputs.{facts_among}
use Rattle.life_cover.proofs.InputRoots.{lt_true}
use Rattle.life_cover.proofs.ShortLocations.{length_alike, location_short}
use Rattle.life_cover.proofs.UniqueLocations.{unique_is}

-- own and null cover whatever it has
pub any_told : (S : Fact → Type 0) (l : AbsPlace) → S (fact_at l element.Own) → S (fact_at l element.Null) → (owned : Option ℕ) → IsOwnerTold S l true owned
any_told S l own null None = record { known = element.Null; holds = null; covers = tt }
any_told S l own null (Some n) = record { known = element.Own; holds = own; covers = tt }

-- its elements
own_among : (t : Ty) → is_unique t ≡ true → Contains (owner_elements t) element.Own
own_among (ty.Unique target) e = at_head element.Own (element.Null ∷ [])
own_among _ e = absurd (false≢true e)

null_among : (t : Ty) → is_unique t ≡ true → Contains (owner_elements t) element.Null
null_among (ty.Unique target) e = in_tail element.Own (element.Null ∷ []) element.Null (at_head element.Null [])
null_among _ e = absurd (false≢true e)

-- ---- a result

module _ (types : Types) (ordered : IsOrdered types) (gf : Function) (l : Location) (number : TyId) (typed : type_within types (Some gf.result) l.members ≡ Some number) (unique : is_unique (ty_of types number) ≡ true) (target : ℕ) (short : (members_place (local_place target) l.members).length ≤ 8) where
  abbrev sig : Signature
  sig = signature_of gf

  -- its place in the result
  abbrev r : AbsPlace
  r = members_place (local_place (length (signature_of gf).parameters)) l.members

  exact : path (members_place (local_place (length (signature_of gf).parameters)) l.members) ≡ l.members
  exact =
      exact_path l.members (local_place (length (signature_of gf).parameters)) refl
      (let same = length_alike l.members (local_place (length (signature_of gf).parameters)) (local_place target) refl in omega (arith, same, short))

  result_among : Contains (result_locations types (signature_of gf)) (members_place (local_place (length (signature_of gf).parameters)) l.members)
  result_among = told_in types ordered Object gf.result number (local_place (length (signature_of gf).parameters)) l.members typed (ap (λ b. is_pointer (ty_of types number) || b) unique ∙ any_or (is_pointer (ty_of types number)))
    where
      any_or : (b : Bool) → (b || true) ≡ true
      any_or true = refl
      any_or false = refl

  -- its type
  type_is : result_type types (signature_of gf) (members_place (local_place (length (signature_of gf).parameters)) l.members) ≡ ty_of types number
  type_is =
      ap (λ (ms : List ℕ). ty_if types (members_type types (Some gf.result) ms)) exact
      ∙ ap (ty_if types) (within_same types l.members (Some gf.result) ∙ typed)

  pub result_fact : (e : Element) → Contains (owner_elements (ty_of types number)) e → Contains (fixed_into types (signature_of gf) (Some (whole target))) (fact_at (members_place (local_place target) l.members) e)
  result_fact e has =
      flat_map_into (fixed_facts types sig (local_place target)) (result_locations types sig) r (fact_at (members_place (local_place target) l.members) e) result_among
      (subst (λ (ms : List ℕ). Contains (map (fact_at (members_place (local_place target) ms)) (fixed_elements types sig (result_type types sig r))) (fact_at (members_place (local_place target) l.members) e)) (sym exact)
      (map_into (fact_at (members_place (local_place target) l.members)) (fixed_elements types sig (result_type types sig r)) e
      (subst (λ (t : Ty). Contains (fixed_elements types sig t) e) (sym type_is)
      (Contains-append_left (owner_elements (ty_of types number)) (cond (is_pointer (ty_of types number)) (pointer_elements types sig (ty_of types number)) []) e has))))

  pub own_result : Contains (fixed_into types (signature_of gf) (Some (whole target))) (fact_at (members_place (local_place target) l.members) element.Own)
  own_result = result_fact element.Own (own_among (ty_of types number) unique)

  pub null_result : Contains (fixed_into types (signature_of gf) (Some (whole target))) (fact_at (members_place (local_place target) l.members) element.Null)
  null_result = result_fact element.Null (null_among (ty_of types number) unique)

-- ---- a parameter

-- where only parameters are there
given_there : (n : ℕ) (ls : List Local) (x : ℕ) → slice_get (given_ready n ls) x ≡ Some true → x < n
given_there zero ls x e = absurd (none_given ls x e)
  where
    none_given : (us : List Local) (y : ℕ) → slice_get (given_ready zero us) y ≡ Some true → ⊥
    none_given [] y h = none_some h
    none_given (u ∷ us) zero h = false≢true (some_same h)
    none_given (u ∷ us) (suc y) h = none_given us y h
given_there (suc n) [] x e = absurd (none_some e)
given_there (suc n) (l ∷ ls) zero e = omega arith
given_there (suc n) (l ∷ ls) (suc x) e = let h = given_there n ls x e in omega (arith, h)

module _ (types : Types) (ordered : IsOrdered types) (once : HasEachOnce types) (f : Function) (shaped : IsShaped types f) (short : AreShort (elements_of types f)) (sigs : List Signature) where
  module _ (l : Location) (p : Local) (there : slice_get f.locals l.local ≡ Some p) (lt : l.local < f.parameters) (unique : is_unique (type_in types f l) ≡ true) (object : object_at types f l.local ≡ true) where
    -- its type
    of : (target : TyId) × IsOfType types (location_type types f l) (ty.Unique target)
    of = let u = unique_is (type_in types f l) unique in (u.0, location_of types ordered once 0 [] f shaped l (ty.Unique u.0) u.1 refl)

    abbrev id : TyId
    id = shape types f.parameters l.local p

    local_is : shapes.local_type types f l.local ≡ Some (shape types f.parameters l.local p)
    local_is = ap (shape_of types f.parameters l.local) there

    typed : type_within types (Some (shape types f.parameters l.local p)) l.members ≡ Some of.1.number
    typed = ap (λ (o : Option TyId). type_within types o l.members) (sym local_is ∙ shaped l.local) ∙ of.1.is

    entry_exact : path (located l) ≡ l.members
    entry_exact = exact_path l.members (local_place l.local) refl (location_short types ordered f shaped short l of.1.number object of.1.is)

    entry_type : ty_if types (members_type types (Some (shape types f.parameters l.local p)) (path (located l))) ≡ type_in types f l
    entry_type = ap (λ (ms : List ℕ). ty_if types (members_type types (Some (shape types f.parameters l.local p)) ms)) entry_exact ∙ ap (λ (o : Option TyId). ty_if types (members_type types o l.members)) (sym local_is)

    is_told_of : is_told (ty_of types of.1.number) ≡ true
    is_told_of = ap (λ (o : Option Ty). is_told (or_void o)) of.1.there

    at_entry : (e : Element) → Contains (owner_elements (type_in types f l)) e → Contains (elements_of types f) e → FactsAt sigs types f 1 (fact_at (located l) e)
    at_entry e has known =
        entry ((is_of_iff types f (fact_at (located l) e)).1 (location_listed types ordered f shaped l of.1.number of.1.is is_told_of, known))
        (facts_among types f.parameters f.locals 0 l.local l.local p (fact_at (located l) e) (omega arith) there
        (Contains-append_right (flat_map (input_facts types p.nonnull) (local_inputs types f.parameters l.local p))
        (if nat_lt l.local f.parameters then flat_map (owner_facts types id) (local_locations types f.parameters l.local p) else []) (fact_at (located l) e)
        (subst (λ (b : Bool). Contains (if b then flat_map (owner_facts types id) (local_locations types f.parameters l.local p) else []) (fact_at (located l) e)) (sym (lt_true l.local f.parameters lt))
        (flat_map_into (owner_facts types id) (local_locations types f.parameters l.local p) (located l) (fact_at (located l) e) (local_told types ordered f.parameters l.local p l.members of.1.number typed is_told_of)
        (subst (λ (t : Ty). Contains (map (fact_at (located l)) (owner_elements t)) (fact_at (located l) e)) (sym entry_type) (map_into (fact_at (located l)) (owner_elements (type_in types f l)) e has))))))

    parameter_told : (owned : Option ℕ) → IsOwnerTold (FactsAt sigs types f 1) (located l) true owned
    parameter_told =
        any_told (FactsAt sigs types f 1) (located l) (at_entry element.Own (own_among (type_in types f l) unique) (own_known types ordered f))
        (at_entry element.Null (null_among (type_in types f l) unique) (null_known types ordered f))

  pub entry_uniques : (st : State) → ready_of st ≡ entry_ready f → ((x n : ℕ) → slice_get st.cells x ≡ Some (Named n) → object_at types f x ≡ true) → UniquesTold types f (FactsAt sigs types f 1) st
  entry_uniques st bits objects l n named unique = go (slice_get f.locals l.local) refl
    where
      lt : l.local < f.parameters
      lt = given_there f.parameters f.locals l.local (ap (λ (bs : List Bool). slice_get bs l.local) (sym bits) ∙ slice_get-map is_there st.cells l.local ∙ ap (option_map is_there) named)

      nothing : shapes.local_type types f l.local ≡ None → ⊥
      nothing none = false≢true (ap (λ (o : Option TyId). is_unique (ty_if types o)) (sym (void_within l.members) ∙ ap (λ (o : Option TyId). members_type types o l.members) (sym none)) ∙ unique)
        where
          void_within : (ms : List ℕ) → members_type types None ms ≡ None
          void_within [] = refl
          void_within (m ∷ ms) = void_within ms

      go : (o : Option Local) → slice_get f.locals l.local ≡ o → IsOwnerTold (FactsAt sigs types f 1) (located l) true (had_at st.world.content n (word_in types f l))
      go None e = absurd (nothing (ap (shape_of types f.parameters l.local) e))
      go (Some p) e = parameter_told l p e lt unique (objects l.local n named) (had_at st.world.content n (word_in types f l))
