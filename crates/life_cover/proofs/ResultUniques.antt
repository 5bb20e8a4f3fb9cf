-- What a call makes of a result that is a unique_ptr, or has one as a member: facts that cover whatever it has.
use Rattle.std.proofs.Common.{◌≡◌, ℕ, ◌≤◌, Bool, true, false, List, [], ◌∷◌, Option, Some, None, refl, sym, ap, subst, ◌∙◌}
use Rattle.std.specs.Prelude.{Contains, ◌||◌}
use Rattle.std.proofs.lemmas.Bool.{and_parts, false≢true}
use Rattle.life_types.specs.Pointees.{or_void, ty_of}
use Rattle.life_types.specs.Trees.{IsOrdered}
use Rattle.life_types.specs.TypeTests.{is_pointer, is_unique, is_value, is_void}
use Rattle.life_types.specs.Types.{HasEachOnce, Types}
use Rattle.life_types.specs.declared.ty.Ty.{Ty}
use Rattle.life_types.specs.declared.ty.Ty.TheVariants as ty
use Rattle.life_types.specs.declared.ty.TyId.{TyId}
use Rattle.life_core.specs.Function.{Function}
use Rattle.life_core.specs.Operands.{Location, whole}
use Rattle.life_pset.specs.Elements.{AreShort, elements_of, locations_of}
use Rattle.life_pset.specs.Shapes.{ty_if}
use Rattle.life_pset.specs.declared.element.Element.TheVariants as element
use Rattle.life_contract.specs.Located.{located}
use Rattle.life_contract.specs.Signatures.{signature_of}
use Rattle.life_proper.specs.Placed.{is_number, object_at, register_at, type_at, type_in}
use Rattle.life_rules.specs.Calling.{fixed_into}
use Rattle.life_rules.specs.Matching.{fact_at}
use Rattle.life_store.specs.Parts.{local_type, location_type, type_within}
use Rattle.life_store.proofs.CellLemmas.{none_some, some_same}
use Rattle.life_forest.proofs.OneNumber.{IsOfType, one_type, type_there}
use Rattle.life_forest.proofs.Shaped.{IsShaped}
use Rattle.life_forest.proofs.TypedSteps.{location_of}
use Rattle.life_cover.proofs.LocationsListed.{is_told, location_listed, structured}
use Rattle.life_cover.proofs.ShortLocations.{location_short}
use Rattle.life_cover.proofs.UniqueLocations.{unique_is}
use Rattle.life_cover.proofs.UniquesGiven.{null_result, own_result}

-- the facts of a location of the local that is given the result
pub record HasUniqueFacts (types : Types) (f gf : Function) (p : Location) : Type 0 where
  pub listed : Contains (locations_of types f) (located p)
  pub own : Contains (fixed_into types (signature_of gf) (Some (whole p.local))) (fact_at (located p) element.Own)
  pub null : Contains (fixed_into types (signature_of gf) (Some (whole p.local))) (fact_at (located p) element.Null)

module _ (types : Types) (ordered : IsOrdered types) (once : HasEachOnce types) (f : Function) (shaped : IsShaped types f) (short : AreShort (elements_of types f)) (gf : Function) (x : ℕ) (points : is_pointer (ty_of types gf.result) ≡ true → is_pointer (type_at types f x) ≡ true)
    (alike : is_pointer (ty_of types gf.result) ≡ false → ty_of types gf.result ≡ type_at types f x) (sort : is_pointer (ty_of types gf.result) ≡ false → (object_at types f x || is_number types f x) ≡ true) (p : Location) (here : x ≡ p.local) (unique : is_unique (type_in types f p) ≡ true) where
  of : (target : TyId) × IsOfType types (location_type types f p) (ty.Unique target)
  of = let u = unique_is (type_in types f p) unique in (u.0, location_of types ordered once 0 [] f shaped p (ty.Unique u.0) u.1 refl)

  -- its local's type
  local_of : (id : TyId) × (local_type types f p.local ≡ Some id) × (type_within types (Some id) p.members ≡ Some of.1.number)
  local_of = go (local_type types f p.local) refl of.1.is
    where
      nowhere : (ms : List ℕ) → type_within types None ms ≡ Some of.1.number → ⊥
      nowhere [] h = none_some h
      nowhere (m ∷ ms) h = none_some h

      go : (o : Option TyId) → local_type types f p.local ≡ o → type_within types o p.members ≡ Some of.1.number → (id : TyId) × (local_type types f p.local ≡ Some id) × (type_within types (Some id) p.members ≡ Some of.1.number)
      go None e h = absurd (nowhere p.members h)
      go (Some id) e h = (id, e, h)

  type_here : type_at types f x ≡ ty_of types local_of.0
  type_here = ap (λ y. type_at types f y) here ∙ ap (ty_if types) (shaped p.local ∙ local_of.1)

  -- it is none of a sort of which neither a struct nor a unique_ptr is
  other_sort : (is_sort : Ty → Bool) → ((number : ℕ) → is_sort (ty.Struct number) ≡ false) → ((target : TyId) → is_sort (ty.Unique target) ≡ false) → is_sort (type_at types f x) ≡ false
  other_sort is_sort of_struct of_unique = ap is_sort type_here ∙ by_members p.members local_of.2
    where
      by_members : (ms : List ℕ) → type_within types (Some local_of.0) ms ≡ Some of.1.number → is_sort (ty_of types local_of.0) ≡ false
      by_members [] h = ap (λ (i : TyId). is_sort (ty_of types i)) (some_same h) ∙ ap (λ (o : Option Ty). is_sort (or_void o)) of.1.there ∙ of_unique of.0
      by_members (m ∷ ms) h = let s = structured types ordered local_of.0 m ms of.1.number h in ap is_sort s.1 ∙ of_struct s.0

  pointerless : is_pointer (ty_of types gf.result) ≡ false
  pointerless = go (is_pointer (ty_of types gf.result)) refl
    where
      go : (b : Bool) → is_pointer (ty_of types gf.result) ≡ b → is_pointer (ty_of types gf.result) ≡ false
      go true result = absurd (false≢true (sym (other_sort is_pointer (λ number. refl) (λ target. refl)) ∙ points result))
      go false e = e

  object : object_at types f p.local ≡ true
  object = subst (λ y. object_at types f y ≡ true) here (go (object_at types f x) (sort pointerless))
    where
      go : (b : Bool) → (b || is_number types f x) ≡ true → b ≡ true
      go true h = refl
      go false h = absurd (false≢true (sym (other_sort is_value (λ number. refl) (λ target. refl)) ∙ (and_parts (register_at types f x) (is_value (type_at types f x)) h).1))

  -- the result has such a location
  in_result : type_within types (Some gf.result) p.members ≡ Some of.1.number
  in_result = subst (λ (id : TyId). type_within types (Some id) p.members ≡ Some of.1.number) same local_of.2
    where
      solid : is_void (type_at types f x) ≡ false
      solid = other_sort is_void (λ number. refl) (λ target. refl)

      same : local_of.0 ≡ gf.result
      same = one_type types once local_of.0 gf.result (type_at types f x) (type_there types local_of.0 (type_at types f x) (sym type_here) solid) (type_there types gf.result (type_at types f x) (alike pointerless) solid)

  short_p : (located p).length ≤ 8
  short_p = location_short types ordered f shaped short p of.1.number object of.1.is

  unique_number : is_unique (ty_of types of.1.number) ≡ true
  unique_number = ap (λ (o : Option Ty). is_unique (or_void o)) of.1.there

  pub unique_facts : HasUniqueFacts types f gf p
  unique_facts = record {
    listed = location_listed types ordered f shaped p of.1.number of.1.is (ap (λ (o : Option Ty). is_told (or_void o)) of.1.there);
    own = own_result types ordered gf p of.1.number in_result unique_number p.local short_p;
    null = null_result types ordered gf p of.1.number in_result unique_number p.local short_p;
  }
