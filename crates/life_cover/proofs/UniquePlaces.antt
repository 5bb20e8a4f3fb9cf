-- No location of another type has the place of a unique_ptr, and no unique_ptr lies within what is copied.
use Rattle.std.proofs.Common.{◌≡◌, ℕ, ◌+◌, Bool, true, false, List, [], ◌++◌, Option, Some, None, refl, sym, ap, subst, ◌∙◌, arith}
use Rattle.std.specs.Prelude.{not, slice_get}
use Rattle.std.proofs.lemmas.Bool.{false≢true}
use Rattle.life_types.specs.Pointees.{or_void}
use Rattle.life_types.specs.Trees.{TypeTree, holds_unique, tree_at, tree_of}
use Rattle.life_types.specs.TypeTests.{is_pointer, is_unique}
use Rattle.life_types.specs.Types.{Types}
use Rattle.life_types.specs.declared.ty.Ty.{Ty}
use Rattle.life_types.specs.declared.ty.Ty.TheVariants as ty
use Rattle.life_types.specs.declared.ty.TyId.{TyId}
use Rattle.life_types.proofs.TreeLemmas.{tree_made}
use Rattle.life_core.specs.Function.{Function}
use Rattle.life_core.specs.Operands.{Location, whole}
use Rattle.life_core.specs.Operands as named
use Rattle.life_pset.specs.Elements.{local_place}
use Rattle.life_pset.specs.Places.{is_within}
use Rattle.life_pset.specs.Shapes.{has_buffer, tree_if}
use Rattle.life_pset.specs.Shapes as shapes
use Rattle.life_pset.specs.declared.element.Fact.{Fact}
use Rattle.life_pset.specs.declared.element.Root.{Root}
use Rattle.life_pset.proofs.Numbers.{exact_place}
use Rattle.life_contract.specs.Located.{is_location, located}
use Rattle.life_proper.specs.Placed.{type_at, type_in}
use Rattle.life_store.specs.Parts.{local_type, location_type, type_within, word_within}
use Rattle.life_store.specs.State.{Named, State}
use Rattle.life_forest.proofs.Members.{path_within}
use Rattle.life_forest.proofs.SeenTypes.{pointer_solid}
use Rattle.life_forest.proofs.TypedSteps.{location_of, operand_same}
use Rattle.life_cover.specs.Regions.{Region, is_in_region}
use Rattle.life_cover.specs.Uniques.{word_in}
use Rattle.life_cover.proofs.ExactLocations.{exact_location}
use Rattle.life_cover.proofs.Inside.{in_region}
use Rattle.life_cover.proofs.KnownFrames.{IsKnownFrame}
use Rattle.life_cover.proofs.NamedLocations.{IsNamedAt, named_at}
use Rattle.life_cover.proofs.OtherTypes.{copied_number}
use Rattle.life_cover.proofs.RelatedPaths.{word_along}
use Rattle.life_cover.proofs.UniqueLocations.{IsUniqueAt, unique_at}
use Rattle.life_cover.proofs.UniquesStay.{not_in}
use Rattle.life_cover.proofs.WithinLocations.{inner, type_along, within_local}

-- pointers, vectors and strings are none
pub pointer_no_unique : (t : Ty) → is_pointer t ≡ true → is_unique t ≡ false
pointer_no_unique (ty.Unique target) e = absurd (false≢true e)
pointer_no_unique _ e = refl

pub buffer_no_unique : (t : Ty) → has_buffer t ≡ true → is_unique t ≡ false
buffer_no_unique (ty.Unique target) e = absurd (false≢true e)
buffer_no_unique _ e = refl

-- nor is a local of another type at its place
pub other_whole : (types : Types) (f : Function) (p : Location) (z : ℕ) → is_unique (type_in types f p) ≡ true → is_unique (type_at types f z) ≡ false → is_location p (local_place z) ≡ false
other_whole types f p z unique other = go (is_location p (local_place z)) refl
  where
    go : (b : Bool) → is_location p (local_place z) ≡ b → is_location p (local_place z) ≡ false
    go false e = e
    go true e =
        let here : p ≡ whole z = exact_location (whole z) p (omega arith) (exact_place (local_place z) (located p) e) in
        absurd (false≢true (sym other ∙ subst (λ (q : Location). is_unique (type_in types f q) ≡ true) here unique))

module _ (types : Types) (f : Function) (rest : ℕ → ℕ) (inputs : Root → Option Region) (S : Fact → Type 0) (st : State) (k : IsKnownFrame types f rest inputs S st) (l : Location) (n : ℕ) (names : slice_get st.cells l.local ≡ Some (Named n)) (unique : is_unique (type_in types f l) ≡ true) where
  abbrev u : IsUniqueAt types f rest inputs S st k l n
  u = unique_at types f rest inputs S st k l n names unique

  pub other_place : (p : Location) → is_unique (type_in types f p) ≡ false → is_location p (located l) ≡ false
  other_place p other = go (is_location p (located l)) refl
    where
      go : (b : Bool) → is_location p (located l) ≡ b → is_location p (located l) ≡ false
      go false e = e
      go true e =
          let here : l ≡ p = sym (exact_location l p u.short (exact_place (located l) (located p) e)) in
          absurd (false≢true (sym other ∙ subst (λ (q : Location). is_unique (type_in types f q) ≡ true) here unique))

  -- ---- what is copied

  pub outside_copied : (p : Location) (number : TyId) → location_type types f p ≡ Some number → not (holds_unique (tree_if types (shapes.operand_type types f (named.Name p)))) ≡ true → is_within (located p) (located l) ≡ false
  outside_copied p number typed free = go (is_within (located p) (located l)) refl
    where
      -- it would have its word there
      inside : (place : IsNamedAt types f rest inputs S st k p n number) → p.local ≡ l.local → (ks : List ℕ) → l.members ≡ p.members ++ ks → is_in_region types (record { object = n; word = word_in types f p; ty = number }) n (word_in types f l) ≡ true
      inside place same ks members =
          in_region types (record { object = n; word = word_in types f p; ty = number }) n (word_in types f l) (record { object = refl; first = omega (arith, word); last = let fits = (path_within types k.ordered number u.number ks along).fits in let one = u.one in omega (arith, word, fits, one) })
        where
          typed_l : local_type types f l.local ≡ Some place.variable.object.ty
          typed_l = ap (local_type types f) (sym same) ∙ place.variable.type

          at_p : type_within types (Some place.variable.object.ty) p.members ≡ Some number
          at_p = ap (λ (i : Option TyId). type_within types i p.members) (sym place.variable.type) ∙ typed

          along : type_within types (Some number) ks ≡ Some u.number
          along =
              ap (λ (i : Option TyId). type_within types i ks) (sym at_p) ∙ sym (type_along types p.members ks (Some place.variable.object.ty)) ∙ ap (type_within types (Some place.variable.object.ty)) (sym members)
              ∙ ap (λ (i : Option TyId). type_within types i l.members) (sym typed_l) ∙ u.typed

          word : word_in types f l ≡ word_in types f p + word_within types (Some number) ks
          word =
              ap (λ (i : Option TyId). word_within types i l.members) typed_l ∙ ap (word_within types (Some place.variable.object.ty)) members ∙ word_along types k.ordered p.members ks place.variable.object.ty number at_p
              ∙ ap (λ (i : Option TyId). word_within types i p.members + word_within types (Some number) ks) (sym place.variable.type)

      clash : is_within (located p) (located l) ≡ true → ⊥
      clash e = by_place (named_at types f rest inputs S st k p n number (ap (slice_get st.cells) same ∙ names) typed)
        where
          same : p.local ≡ l.local
          same = within_local p l e

          by_place : IsNamedAt types f rest inputs S st k p n number → ⊥
          by_place place =
              let goes = inner types f rest inputs S st k p l place.short u.short e in
              false≢true
              (sym (not_in types f rest inputs S st k l n names unique (record { object = n; word = word_in types f p; ty = number }) place.part (copied_number types f rest inputs S st k (named.Name p) free number typed)) ∙ inside place goes.1 goes.0 goes.2)

      go : (b : Bool) → is_within (located p) (located l) ≡ b → is_within (located p) (located l) ≡ false
      go true e = absurd (clash e)
      go false e = e

  -- ---- a pointer has none in it

  holds_none : (o : Option Ty) → is_pointer (or_void o) ≡ true → holds_unique (tree_of types (tree_at types) o) ≡ false
  holds_none (Some ty.View) e = refl
  holds_none (Some (ty.Raw target constant)) e = refl
  holds_none (Some (ty.Reference target constant)) e = refl
  holds_none (Some (ty.Iterator target constant)) e = refl
  holds_none (Some (ty.Span target constant)) e = refl
  holds_none None e = absurd (false≢true e)
  holds_none (Some _) e = absurd (false≢true e)

  pub outside_pointer : (p : Location) → is_pointer (type_in types f p) ≡ true → is_within (located p) (located l) ≡ false
  outside_pointer p pointer =
      let of = location_of types k.ordered k.once 0 [] f k.shaped p (type_in types f p) refl (pointer_solid (type_in types f p) pointer) in
      let is = operand_same types k.ordered k.once 0 [] f k.shaped (named.Name p) ∙ of.is in
      outside_copied p of.number of.is
      (ap (λ (id : Option TyId). not (holds_unique (tree_if types id))) is ∙ ap (λ (t : TypeTree). not (holds_unique t)) (tree_made types k.ordered of.number)
      ∙ ap not (holds_none (slice_get types.types of.number.0) (ap (λ (o : Option Ty). is_pointer (or_void o)) of.there ∙ pointer)))
