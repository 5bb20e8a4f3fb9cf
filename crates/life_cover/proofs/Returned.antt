-- Each pointer that a function gives back, by itself or as a member, is as it promises where nothing is diagnosed.
use Rattle.std.proofs.Common.{rules, ◌≡◌, ℕ, ◌≤◌, Bool, true, false, List, [], ◌∷◌, ◌++◌, Option, Some, None, refl, sym, ap, subst, ◌∙◌, arith}
use Rattle.std.specs.Prelude.{Contains, cond, nat_eq, not, slice_get, ◌&&◌}
use Rattle.std.specs.List.{list_any}
use Rattle.std.proofs.lemmas.Bool.{false≢true}
use Rattle.std.proofs.lemmas.Bool.Decides.{nat_tests}
use Rattle.std.proofs.lemmas.List.Elements.{Contains-append_left, Contains-append_right}
use Rattle.life_types.specs.Pointees.{or_void, ty_of}
use Rattle.life_types.specs.TypeTests.{is_pointer, is_raw, is_void}
use Rattle.life_types.specs.Types.{Types, class, class_at}
use Rattle.life_types.specs.declared.place.Place.{Place}
use Rattle.life_types.specs.declared.ty.Ty.{Ty}
use Rattle.life_types.specs.declared.ty.Ty.TheVariants as ty
use Rattle.life_types.specs.declared.ty.TyId.{TyId}
use Rattle.life_core.specs.declared.program.LocalKind.{LocalKind}
use Rattle.life_core.specs.Function.{Function}
use Rattle.life_core.specs.Holdings.{Holding, held_by, held_if, result_if, result_sort, sort_of}
use Rattle.life_core.specs.Ready.{AreBits}
use Rattle.life_core.specs.Touched.{result_uses}
use Rattle.life_pset.specs.Elements.{local_place}
use Rattle.life_pset.specs.Shapes.{members_type, ty_if}
use Rattle.life_pset.specs.contracts.element.AbsPlacePartialEq.TheImpl.{ghosts as compared}
use Rattle.life_pset.specs.declared.element.AbsPlace.{AbsPlace}
use Rattle.life_pset.specs.declared.element.Cause.{Cause}
use Rattle.life_pset.specs.declared.element.Element.{Element}
use Rattle.life_pset.specs.declared.element.Element.TheVariants as element
use Rattle.life_pset.specs.declared.element.Fact.{Fact}
use Rattle.life_pset.specs.declared.element.Root.{Root}
use Rattle.life_contract.specs.Located.{is_root, is_rooted, located}
use Rattle.life_contract.specs.Promises.{lists_null, promised_places, promises_null}
use Rattle.life_contract.specs.Signatures.{signature_of}
use Rattle.life_proper.specs.OperandTypes.{is_composed}
use Rattle.life_proper.specs.WellFormedPrograms.{is_result_of}
use Rattle.life_rules.specs.Matching.{fact_at}
use Rattle.life_rules.specs.Returning.{dangling_result, is_wide, return_diags, widened_as, widened_result}
use Rattle.life_rules.specs.Texts.{has_value, is_result}
use Rattle.life_rules.specs.declared.diag.Diag.{Diag}
use Rattle.life_rules.specs.declared.diag.DiagKind.TheVariants.{ReturnDangling, ReturnWidens}
use Rattle.life_rules.specs.declared.diag.Why.TheVariants as why
use Rattle.life_rules.proofs.Giving.{at_head}
use Rattle.life_store.specs.Calls.{given_back, results, slots_back}
use Rattle.life_store.specs.Effects.{cell}
use Rattle.life_store.specs.Places.{location_cell, member_cell}
use Rattle.life_store.specs.State.{Cell, Empty, Named, Null, Number, Pointer, Points, State, Static, Target, To, Wild, ready_of}
use Rattle.life_forest.specs.Settled.{IsPoised}
use Rattle.life_forest.specs.Sorted.{PointerFits}
use Rattle.life_store.proofs.CellLemmas.{none_some, some_same}
use Rattle.life_forest.proofs.ReadyCells.{composed_is_object, object_cell, pointer_cell}
use Rattle.life_cover.specs.Covers.{Covers, IsCovered}
use Rattle.life_cover.specs.Frames.{RootStands, look_of}
use Rattle.life_cover.specs.Inputs.{StandsAt, may_change}
use Rattle.life_cover.specs.Passed.{IsPromised, IsPromisedTo, result_part}
use Rattle.life_cover.specs.Regions.{IsAt, Region}
use Rattle.life_cover.proofs.ExactLocations.{exact_path}
use Rattle.life_cover.proofs.Mutated.{which_passes}
use Rattle.life_cover.proofs.ResultTypes.{IsInputRoot, IsResultLocal, part_composed, part_solid, result_local, result_typed}
use Rattle.life_cover.proofs.Unkept.{members_root}

eq_itself : (n : ℕ) → nat_eq n n ≡ true
eq_itself n = grind (arith, nat_tests)

exact_place : (a b : AbsPlace) → compared.eq a b ≡ true → a ≡ b
exact_place a b h = search rules

-- what is no void has a value
valued : (o : Option Ty) → is_void (or_void o) ≡ false → has_value o ≡ true
valued None p = absurd (false≢true (sym p))
valued (Some ty.Void) p = absurd (false≢true (sym p))
valued (Some _) p = refl

module _ (types : Types) (number : ℕ) (f : Function) (place : Place) (S : Fact → Type 0) (clean : (x : Fact) → S x → (d : Diag) → Contains (return_diags types number f place x) d → ⊥) (ms : List ℕ) (pointer : is_pointer (ty_if types (result_part types f ms)) ≡ true)
    (short : (located (record { local = f.parameters; members = ms })).length ≤ 8) where
  abbrev l : AbsPlace
  l = located (record { local = f.parameters; members = ms })

  abbrev part : Option TyId
  part = result_part types f ms

  abbrev t : Ty
  t = ty_if types (result_part types f ms)

  told : (e : Element) → S (fact_at (located (record { local = f.parameters; members = ms })) e) → (d : Diag)
      → Contains (dangling_result number place (located (record { local = f.parameters; members = ms })) e ++ widened_as types (signature_of f) number place (located (record { local = f.parameters; members = ms })) (ty_if types (result_part types f ms)) e) d → ⊥
  told e s d h =
      clean (fact_at l e) s d
      (subst (λ b. Contains (cond b (dangling_result number place l e ++ widened_result types (signature_of f) number place l e) []) d) (sym returns)
      (subst (λ (ks : List ℕ). Contains (dangling_result number place l e ++ widened_as types (signature_of f) number place l (ty_if types (members_type types (Some f.result) ks)) e) d) (sym (exact_path ms (local_place f.parameters) refl short)) h))
    where
      returns : (is_result types f f.parameters && is_rooted f.parameters (located (record { local = f.parameters; members = ms }))) ≡ true
      returns =
          ap (λ b. (b && has_value (slice_get types.types f.result.0)) && is_rooted f.parameters l) (eq_itself f.parameters)
          ∙ ap (λ b. b && is_rooted f.parameters l) (valued (slice_get types.types f.result.0) (part_solid types f.result ms pointer))
          ∙ ap (is_root f.parameters) (members_root ms (local_place f.parameters)) ∙ eq_itself f.parameters

  never_invalid : (c : Cause) → S (fact_at (located (record { local = f.parameters; members = ms })) (element.Invalid c)) → ⊥
  never_invalid c s =
      let d : Diag = record { function = number; place = place; kind = ReturnDangling; name = l; called = None; why = why.Cause c } in
      told (element.Invalid c) s d (Contains-append_left (dangling_result number place l (element.Invalid c)) (widened_as types (signature_of f) number place l t (element.Invalid c)) d (at_head d []))

  not_wide : (e : Element) → S (fact_at (located (record { local = f.parameters; members = ms })) e) → is_wide types (signature_of f) (ty_if types (result_part types f ms)) e ≡ false
  not_wide e s = go (is_wide types (signature_of f) (ty_if types (result_part types f ms)) e) refl
    where
      d : Diag
      d = record { function = number; place = place; kind = ReturnWidens; name = l; called = None; why = why.Points e }

      go : (b : Bool) → is_wide types (signature_of f) (ty_if types (result_part types f ms)) e ≡ b → b ≡ false
      go false is = refl
      go true is = absurd (told e s d
          (Contains-append_right (dangling_result number place l e) (widened_as types (signature_of f) number place l t e) d
          (subst (λ b. Contains (cond (b && is_wide types (signature_of f) (ty_if types (result_part types f ms)) e) (d ∷ []) []) d) (sym pointer)
          (subst (λ b. Contains (cond b (d ∷ []) []) d) (sym is) (at_head d [])))))

  module _ (inputs : Root → Option Region) (st : State) where
    -- a place behind the inputs stands without the function's locals
    module _ (roots : (a : AbsPlace) → Contains (promised_places types (signature_of f) (ty_if types (result_part types f ms))) a → IsInputRoot a.root) where
      stands_alone : (a : AbsPlace) (r : Region) → IsInputRoot a.root → IsAt types st.world.content (RootStands types f (StandsAt inputs) st.cells) a r → IsAt types st.world.content (RootStands types f (StandsAt inputs) []) a r
      stands_alone a r i at_r = record { start = at_r.start; stands = subst (λ (ro : Root). RootStands types f (StandsAt inputs) [] ro at_r.start) (sym i.is) (subst (λ (ro : Root). RootStands types f (StandsAt inputs) st.cells ro at_r.start) i.is at_r.stands); lies = at_r.lies }

      place_promised : (a : AbsPlace) → S (fact_at (located (record { local = f.parameters; members = ms })) (element.At a)) → Contains (promised_places types (signature_of f) (ty_if types (result_part types f ms))) a
      place_promised a s =
          let w = which_passes (λ b. compared.eq b a) (promised_places types (signature_of f) (ty_if types (result_part types f ms))) (not_false (list_any (λ b. compared.eq b a) (promised_places types (signature_of f) (ty_if types (result_part types f ms)))) (not_wide (element.At a) s)) in
          subst (Contains (promised_places types (signature_of f) (ty_if types (result_part types f ms)))) (exact_place w.0 a w.2) w.1
        where
          not_false : (b : Bool) → not b ≡ false → b ≡ true
          not_false true e = refl
          not_false false e = absurd (false≢true (sym e))

      to_promised : (t : Target) (e : Element) → S (fact_at (located (record { local = f.parameters; members = ms })) e) → Covers types st.world.content (RootStands types f (StandsAt inputs) st.cells) (may_change types f) (look_of types (result_part types f ms)) e (To t) → IsPromisedTo types f inputs st.world.content (result_part types f ms) t
      to_promised t (element.Invalid c) s h = absurd (never_invalid c s)
      to_promised t element.Null s h = absurd h
      to_promised t (element.Moved c) s h = absurd h
      to_promised t element.Own s h = absurd h
      to_promised t element.Static s h = absurd h
      to_promised t (element.At a) s h =
          let among = place_promised a s in
          record {
            place = a;
            promised = among;
            points = record { region = h.region; lies = stands_alone a h.region (roots a among) h.lies; object = h.object; word = h.word; type = h.type; change = h.change; holds = h.holds };
          }

      null_promised : (e : Element) → S (fact_at (located (record { local = f.parameters; members = ms })) e) → Covers types st.world.content (RootStands types f (StandsAt inputs) st.cells) (may_change types f) (look_of types (result_part types f ms)) e Null → is_raw (ty_if types (result_part types f ms)) ≡ true → promises_null (signature_of f) (ty_if types (result_part types f ms)) ≡ true
      null_promised (element.Invalid c) s h raw = absurd (never_invalid c s)
      null_promised (element.Moved c) s h raw = absurd h
      null_promised element.Own s h raw = absurd h
      null_promised element.Static s h raw = absurd h
      null_promised (element.At a) s h raw = absurd h
      null_promised element.Null s h raw = go (is_raw (ty_if types (result_part types f ms))) (lists_null (signature_of f).promise) raw (not_wide element.Null s)
        where
          go : (a b : Bool) → a ≡ true → (a && not b) ≡ false → (a && b) ≡ true
          go true true e w = refl
          go true false e w = absurd (false≢true (sym w))
          go false b e w = absurd (false≢true e)

      wild_promised : (e : Element) → S (fact_at (located (record { local = f.parameters; members = ms })) e) → Covers types st.world.content (RootStands types f (StandsAt inputs) st.cells) (may_change types f) (look_of types (result_part types f ms)) e Wild → ⊥
      wild_promised (element.Invalid c) s h = never_invalid c s
      wild_promised (element.Moved c) s h = h
      wild_promised element.Own s h = h
      wild_promised element.Static s h = h
      wild_promised element.Null s h = h
      wild_promised (element.At a) s h = h

      pub result_promised : (p : Pointer) → PointerFits (ty_if types (result_part types f ms)) p → IsCovered types st.world.content (RootStands types f (StandsAt inputs) st.cells) (may_change types f) S (located (record { local = f.parameters; members = ms })) (look_of types (result_part types f ms)) p → IsPromised types f inputs st.world.content (result_part types f ms) p
      result_promised (Static c) fits h = tt
      result_promised (To t) fits h = to_promised t h.known h.holds h.covers
      result_promised Null fits h = null_promised h.known h.holds h.covers fits
      result_promised Wild fits h = wild_promised h.known h.holds h.covers

-- ---- what is given back first stands in the result's local

first_back : (o : Option Ty) (k : LocalKind) (u : Pointer) → is_pointer (or_void o) ≡ true → given_back o (result_if o (held_if (class o) k o)) (Some (Points u)) ≡ Points u ∷ []
first_back None k u p = absurd (false≢true p)
first_back (Some (ty.Raw target constant)) k u p = refl
first_back (Some (ty.Reference target constant)) k u p = refl
first_back (Some ty.View) k u p = refl
first_back (Some (ty.Iterator target constant)) k u p = refl
first_back (Some (ty.Span target constant)) k u p = refl
first_back (Some _) k u p = absurd (false≢true p)

used_alone : (o : Option Ty) (n : ℕ) → is_pointer (or_void o) ≡ true → result_uses (class o) n ≡ n ∷ []
used_alone None n p = absurd (false≢true p)
used_alone (Some (ty.Raw target constant)) n p = refl
used_alone (Some (ty.Reference target constant)) n p = refl
used_alone (Some ty.View) n p = refl
used_alone (Some (ty.Iterator target constant)) n p = refl
used_alone (Some (ty.Span target constant)) n p = refl
used_alone (Some _) n p = absurd (false≢true p)

pub pointer_back : (types : Types) (f : Function) (st : State) → IsPoised types f st → is_pointer (ty_of types f.result) ≡ true → is_result_of types f.result (slice_get types.types f.result.0) (slice_get f.locals f.parameters) ≡ true → AreBits true (ready_of st) (result_uses (class_at types f.result) f.parameters)
    → (p : Pointer) → slice_get (results types f st) 0 ≡ Some (Points p) → cell st f.parameters ≡ Some (Points p)
pointer_back types f st at_point pointer formed uses p first = there.1 ∙ ap (λ (u : Pointer). Some (Points u)) (same_pointer (sym (ap (λ (vs : List Cell). slice_get vs 0) are) ∙ first))
  where
    same_pointer : {a b : Pointer} → Some (Points a) ≡ Some (Points b) → a ≡ b
    same_pointer e = cc

    r : IsResultLocal f
    r = result_local types f formed (part_solid types f.result [] pointer)

    -- it is there
    there : (u : Pointer) × (cell st f.parameters ≡ Some (Points u))
    there = pointer_cell types f st at_point f.parameters (ap (λ (id : Option TyId). is_pointer (ty_if types id)) (result_typed types f formed (part_solid types f.result [] pointer)) ∙ pointer) (subst (AreBits true (ready_of st)) (used_alone (slice_get types.types f.result.0) f.parameters pointer) uses).0

    sort : sort_of types f f.parameters ≡ held_if (class (slice_get types.types f.result.0)) r.local.kind (slice_get types.types f.result.0)
    sort = ap (held_by types) r.there ∙ ap (λ (id : TyId). held_if (class_at types id) r.local.kind (slice_get types.types id.0)) r.type

    -- a pointer is given back as it is
    are : results types f st ≡ Points there.0 ∷ slots_back types f 0 f.parameters st
    are =
        ap (λ (v : Option Cell). given_back (slice_get types.types f.result.0) (result_sort types f) v ++ slots_back types f 0 f.parameters st) there.1
        ∙ ap (λ (h : Holding). given_back (slice_get types.types f.result.0) (result_if (slice_get types.types f.result.0) h) (Some (Points there.0)) ++ slots_back types f 0 f.parameters st) sort
        ∙ ap (λ (vs : List Cell). vs ++ slots_back types f 0 f.parameters st) (first_back (slice_get types.types f.result.0) r.local.kind there.0 pointer)

-- .. an object, too
object_first : (o : Option Ty) (k : LocalKind) (n : ℕ) → is_composed (or_void o) ≡ true → given_back o (result_if o (held_if (class o) k o)) (Some (Named n)) ≡ Named n ∷ []
object_first None k n c = absurd (false≢true c)
object_first (Some ty.Text) k n c = refl
object_first (Some (ty.Vector element)) k n c = refl
object_first (Some (ty.Unique target)) k n c = refl
object_first (Some (ty.Struct number)) k n c = refl
object_first (Some _) k n c = absurd (false≢true c)

object_used : (o : Option Ty) (n : ℕ) → is_composed (or_void o) ≡ true → result_uses (class o) n ≡ n ∷ []
object_used None n c = absurd (false≢true c)
object_used (Some ty.Text) n c = refl
object_used (Some (ty.Vector element)) n c = refl
object_used (Some (ty.Unique target)) n c = refl
object_used (Some (ty.Struct number)) n c = refl
object_used (Some _) n c = absurd (false≢true c)

pub object_back : (types : Types) (f : Function) (st : State) → IsPoised types f st → is_composed (ty_of types f.result) ≡ true → is_result_of types f.result (slice_get types.types f.result.0) (slice_get f.locals f.parameters) ≡ true → is_void (ty_of types f.result) ≡ false
    → AreBits true (ready_of st) (result_uses (class_at types f.result) f.parameters) → (n : ℕ) → slice_get (results types f st) 0 ≡ Some (Named n) → cell st f.parameters ≡ Some (Named n)
object_back types f st at_point composed formed solid uses n first = there.1 ∙ ap (λ (m : ℕ). Some (Named m)) (same (some_same (sym (ap (λ (vs : List Cell). slice_get vs 0) are) ∙ first)))
  where
    same : {a b : ℕ} → Named a ≡ Named b → a ≡ b
    same e = cc

    r : IsResultLocal f
    r = result_local types f formed solid

    there : (m : ℕ) × (cell st f.parameters ≡ Some (Named m))
    there =
        object_cell types f st at_point f.parameters (composed_is_object types f at_point.kinds f.parameters (ap (λ (id : Option TyId). is_composed (ty_if types id)) (result_typed types f formed solid) ∙ composed))
        (subst (AreBits true (ready_of st)) (object_used (slice_get types.types f.result.0) f.parameters composed) uses).0

    sort : sort_of types f f.parameters ≡ held_if (class (slice_get types.types f.result.0)) r.local.kind (slice_get types.types f.result.0)
    sort = ap (held_by types) r.there ∙ ap (λ (id : TyId). held_if (class_at types id) r.local.kind (slice_get types.types id.0)) r.type

    are : results types f st ≡ Named there.0 ∷ slots_back types f 0 f.parameters st
    are =
        ap (λ (v : Option Cell). given_back (slice_get types.types f.result.0) (result_sort types f) v ++ slots_back types f 0 f.parameters st) there.1
        ∙ ap (λ (h : Holding). given_back (slice_get types.types f.result.0) (result_if (slice_get types.types f.result.0) h) (Some (Named there.0)) ++ slots_back types f 0 f.parameters st) sort
        ∙ ap (λ (vs : List Cell). vs ++ slots_back types f 0 f.parameters st) (object_first (slice_get types.types f.result.0) r.local.kind there.0 composed)

-- so what a part of the result has stands in that local
pub result_held : (types : Types) (f : Function) (st : State) → IsPoised types f st → is_result_of types f.result (slice_get types.types f.result.0) (slice_get f.locals f.parameters) ≡ true → AreBits true (ready_of st) (result_uses (class_at types f.result) f.parameters)
    → (ms : List ℕ) (p : Pointer) → is_pointer (ty_if types (result_part types f ms)) ≡ true → member_cell types f f.parameters ms (slice_get (results types f st) 0) st.world.content ≡ Some (Points p) → location_cell types f (record { local = f.parameters; members = ms }) st ≡ Some (Points p)
result_held types f st at_point formed uses [] p pointer held = pointer_back types f st at_point pointer formed uses p held
result_held types f st at_point formed uses (m ∷ ms) p pointer held = go (slice_get (results types f st) 0) refl held
  where
    go : (o : Option Cell) → slice_get (results types f st) 0 ≡ o → member_cell types f f.parameters (m ∷ ms) o st.world.content ≡ Some (Points p) → location_cell types f (record { local = f.parameters; members = m ∷ ms }) st ≡ Some (Points p)
    go (Some (Named n)) first h =
        ap (λ (o : Option Cell). member_cell types f f.parameters (m ∷ ms) o st.world.content)
        (object_back types f st at_point (part_composed types f.result m ms pointer) formed (part_solid types f.result (m ∷ ms) pointer) uses n first) ∙ h
    go None first h = absurd (none_some h)
    go (Some Empty) first h = absurd (none_some h)
    go (Some (Number z)) first h = absurd (none_some h)
    go (Some (Points q)) first h = absurd (none_some h)
