-- The variable of a loop over a range, which is given the element that the hidden iterator stands at: its value, or a reference to it.
use Rattle.std.proofs.Common.{◌≡◌, ◌<◌, inl, inr, ℕ, zero, suc, Bool, true, false, ◌&&◌, cond, List, [], ◌∷◌, ◌++◌, drop, length, reverse, slice_get, slice_set, take, if◌then◌else◌, Option, Some, None, refl, sym, ap, ◌∙◌, subst, arith, append_assoc, unwrap_or}
use Rattle.std.proofs.lemmas.Bool.{and_parts, false≢true, or_cases}
use Rattle.life_elab_laws.proofs.ObjectTypes.{is_element, is_owner_of_values, is_admitted_variable, is_struct, is_target}
use Rattle.life_elab_laws.proofs.TypeKinds.{takes_as, takes_element}
use Rattle.life_types.specs.TypeTests.{is_value}
use Rattle.life_types.specs.Types.{Types, class}
use Rattle.life_types.specs.contracts.ty.TyPartialEq.TheImpl.{ghosts as compared}
use Rattle.life_types.specs.declared.place.Place.{Place}
use Rattle.life_types.specs.declared.ty.Ty.{Ty}
use Rattle.life_types.specs.declared.ty.Ty.TheVariants as ty
use Rattle.life_types.specs.declared.ty.TyId.{TyId}
use Rattle.life_types.specs.contracts.ty.TyIdPartialEq.TheImpl.{ghosts as id_tests}
use Rattle.life_typed.specs.BaseTypes.{type_at}
use Rattle.life_typed.specs.Conversions.{is_place_of}
use Rattle.life_typed.specs.TypedForm.{Typed, null}
use Rattle.life_typed.specs.declared.typed_expr.Category.TheVariants as category
use Rattle.life_typed.specs.declared.typed_expr.ExprType.TheVariants.{Of}
use Rattle.life_typed.specs.declared.typed_program.TypedLocal.{TypedLocal}
use Rattle.life_type_stmt.specs.Ranges.{element_place, element_type}
use Rattle.life_core.specs.Function.{Function}
use Rattle.life_core.specs.Operands.{Location, Place as Aimed, Whole, behind, object_named, whole}
use Rattle.life_core.specs.Step.{Aim, Copy, Live, Save, Step}
use Rattle.life_core.specs.Touched.{place_uses}
use Rattle.life_core.specs.Tree.{Acts, Tree, trees}
use Rattle.life_core.specs.declared.instr.Form.TheVariants.{Plain}
use Rattle.life_proper.specs.Knowing.{known_at}
use Rattle.life_proper.specs.OperandTypes.{keeps_const}
use Rattle.life_proper.specs.Placed.{is_const_place}
use Rattle.life_proper.specs.WellFormed.{is_source_of}
use Rattle.life_proper.specs.declared.known.Known.{Known}
use Rattle.life_proper.specs.declared.known.Known.TheVariants as known
use Rattle.life_well_typed.specs.Given.{is_given}
use Rattle.life_well_typed.specs.Visible.{Visible, with_next}
use Rattle.life_writer.specs.Around.{Around, own_type, type_of}
use Rattle.life_writer.specs.Giving.{aimed_at, call_to, given, initial, value_by}
use Rattle.life_writer.specs.Pointers.{Pointing, aimed, pointed}
use Rattle.life_writer.specs.Registers.{computed, conversion}
use Rattle.life_writer.specs.Temporaries.{scoped}
use Rattle.life_writer.specs.Uses.{Remaining, Uses, filled}
use Rattle.life_writer.specs.Using.{own_value, pointing, pointing_by, value}
use Rattle.life_writer.specs.Variables.{end, end_pending, variable_local}
use Rattle.life_writer.specs.Writing.{Gives, State, emit, gives, mapped, with_code, ◌>>◌}
use Rattle.life_elab.specs.Declarations.{variable as home}
use Rattle.life_elab.specs.RangeForms.{declared_from, element_at, given_element}
use Rattle.life_elab_laws.proofs.Aiming.{keeps_further}
use Rattle.life_elab_laws.proofs.Handing.{handing_none}
use Rattle.life_elab_laws.proofs.BoundVariables.{bound_under, kept_none, kept_place, temporary_below, temporary_lives, value_below, with_temporary}
use Rattle.life_elab_laws.proofs.Declaring.{begins_old, declared_under, its_local, new_below, new_none, with_new}
use Rattle.life_elab_laws.proofs.CopiedStructs.{is_copied_struct, plain_copied}
use Rattle.life_elab_laws.proofs.Elements.{element_target, element_there, one_element, owner_element, struct_within}
use Rattle.life_elab_laws.proofs.Falling.{Falls, falls_filling}
use Rattle.life_elab_laws.proofs.Filling.{aimed_filling, filling_fills}
use Rattle.life_elab_laws.proofs.Following.{Follows, follows_settled, settled}
use Rattle.life_elab_laws.proofs.FormedFits.{IsBound, IsBoundTo, at_place, by_temporary, given_bound, given_owner, given_string, given_struct, given_vector}
use Rattle.life_elab_laws.proofs.FormedVariables.{const_same}
use Rattle.life_elab_laws.proofs.Gifts.{Gift, IsGivenAs, IsPlaceOf, a_number, a_place}
use Rattle.life_elab_laws.proofs.GivenApart.{Apart}
use Rattle.life_elab_laws.proofs.Growing.{Begins, Grows, begins_before, grows_none}
use Rattle.life_elab_laws.proofs.HiddenLocals.{IsHiddenOf, a_hidden}
use Rattle.life_elab_laws.proofs.HiddenStay.{hidden_known}
use Rattle.life_elab_laws.proofs.Instructions.{as_type_part, load_part}
use Rattle.life_elab_laws.proofs.Locations.{is_location}
use Rattle.life_elab_laws.proofs.Making.{Alive}
use Rattle.life_elab_laws.proofs.NewVariables.{bound_given, location_declared, object_lives, object_placed, owner_declared, owner_lives, reference_declared, reference_kept, value_lives, value_saved}
use Rattle.life_elab_laws.proofs.OwnerBirths.{lives_falls}
use Rattle.life_elab_laws.proofs.OwnerSteps.{copy_fine, place_held, whole_filling, whole_given}
use Rattle.life_elab_laws.proofs.Parts.{Part, gives_part, then_part}
use Rattle.life_elab_laws.proofs.RangeBases.{behind_hidden}
use Rattle.life_elab_laws.proofs.Saving.{saved_falls, saved_fine}
use Rattle.life_elab_laws.proofs.Setting.{Setting}
use Rattle.life_elab_laws.proofs.Shaping.{IsFine, IsFineStep, fine_acts, fine_append}
use Rattle.life_elab_laws.proofs.StructSteps.{struct_copy_fine}
use Rattle.life_elab_laws.proofs.Targets.{owner_target, struct_named, struct_target, target_no_void, value_target}
use Rattle.life_elab_laws.proofs.TemporaryEnds.{TemporariesEnd, temporary_ends}
use Rattle.life_elab_laws.proofs.TypedKinds.{place_same}
use Rattle.life_elab_laws.proofs.Under.{DoesUnder, does_more}
use Rattle.life_elab_laws.proofs.Values.{by_owners, by_values}
use Rattle.life_elab_laws.proofs.VariablePlaces.{IsVariableType, a_raw, a_reference, a_value, a_view, a_walker, an_alias, an_owner, variable_type, a_struct, a_unique, a_struct_alias}
use Rattle.life_elab_laws.proofs.WalkerSteps.{span_given}
use Rattle.life_elab_laws.proofs.OwnLocals.{first_own}

-- where nothing is pending, nothing ends
none_ends : (n : ℕ) (place : Place) (r : State) → r.pending ≡ [] → end_pending n place r ≡ r
none_ends n place r none =
    ap (λ (p : List ℕ). record (end (reverse (drop n p)) place r) { pending = take n p }) none
    ∙ go n
    ∙ ap (λ (p : List ℕ). record r { pending = p }) (sym none)
  where
    go : (n : ℕ) → record (end (reverse (drop n [])) place r) { pending = take n [] } ≡ record r { pending = [] }
    go zero = refl
    go (suc n) = refl

module _ (a : Around) (types : Types) (texts : ℕ) (fs : List Function) (f : Function) (setting : Setting a types fs f) (v : Visible) (in_loop : Bool) (u : TypedLocal) (s : State) (h : Follows types f a v s)
    (at : slice_get a.function.locals v.declared ≡ Some u) (built : is_admitted_variable a.program.types u.ty ≡ true) (colon : Place) (id : TyId) (constant : Bool) (worth : is_element a.program.types (type_at a.program.types id) ≡ true)
    (it : ℕ) (there : it < length s.locals) (hidden : Begins types f s → IsHiddenOf types texts fs f (ty.Iterator id constant) it) where
  abbrev t : Ty
  t = type_at a.program.types id

  abbrev element : Uses
  element = element_at a.program.types colon it (Some (id, constant))

  abbrev P : Gift types texts fs f ℕ
  P = a_hidden types texts fs f (ty.Iterator id constant)

  -- all that has to be known is that the iterator is there
  abbrev pub IsThere : List Known → Type 0
  IsThere k = known_at k it ≡ known.Ready

  abbrev Born : State → Type 0
  Born s' = DoesUnder types texts fs f IsThere a (with_next v) in_loop s s'

  abbrev New : State → Type 0
  New s' = Begins types f (with_new (variable_local a u) s')

  can : TemporariesEnd types texts fs f (first_own a)
  can = temporary_ends types texts fs f (first_own a) setting.own

  type_is : (w : Ty) → slice_get a.program.types.types u.ty.0 ≡ Some w → type_of a u.ty ≡ w
  type_is w is = ap (λ (o : Option Ty). unwrap_or o ty.Void) is

  below : (s' : State) → Grows s s' → New s' → length s'.locals < length f.locals
  below s' g b = new_below types f a setting.front v u (variable_local a u) (its_local a u) (settled types f s s') (follows_settled types f a v s s' g h) at built b

  old : (s' : State) → Grows s s' → New s' → Begins types f s
  old s' g b = begins_before types f s s' g (begins_old types f a setting.front v u (variable_local a u) (its_local a u) (settled types f s s') (follows_settled types f a v s s' g h) at built b)

  -- .. where no temporaries are made
  declared : {A : Type 0} (w : Gives A) (Q : Gift types texts fs f A) (code : List Tree) → w.state.pending ≡ s.pending → (made : Part types texts fs f P it None s w Q)
      → (New w.state → Q.typed w.given → IsFine types texts fs f code)
      → (New w.state → (k : List Known) → length k ≡ length f.locals → Q.ready w.given (length w.state.locals) k → known_at k (length w.state.locals) ≡ known.Blank → Falls types f code k (slice_set k (length w.state.locals) known.Ready))
      → (New w.state → Q.typed w.given → (k : List Known) → Alive f w.state k → Q.ready w.given (length w.state.locals) k → known_at k (length w.state.locals) ≡ known.Blank → Apart f w.state (with_new (variable_local a u) w.state) (trees code))
      → Born (with_code (w.state.code ++ code) (with_new (variable_local a u) w.state))
  declared w Q code level made fine falls apart =
      let done = with_code (w.state.code ++ code) (with_new (variable_local a u) w.state) in
      subst Born (none_ends (length s.pending) colon done (level ∙ h.pending))
      (does_more types texts fs f IsThere (P.ready it (length s.locals)) (λ k e. (there, e)) a (with_next v) in_loop s (end_pending (length s.pending) colon done)
      (declared_under types texts fs f a setting.front v in_loop can colon u P it s w Q code h at built made (λ b. hidden (old w.state made.grown b)) fine falls apart
      (λ b living k knows. let j = hidden_known f it (hidden (old w.state made.grown b)).is living k knows in (j.0, j.1, (there, j.2)))))

  -- ---- the element as a place

  element_place_of : IsHiddenOf types texts fs f (ty.Iterator id constant) it → IsPlaceOf types texts fs f t constant (behind it)
  element_place_of is = behind_hidden types texts fs f it (ty.Iterator id constant) id constant t is.typed refl refl refl (element_there a.program.types types setting.front id worth) (target_no_void a.program.types t (element_target a.program.types t worth))

  place_part : Part types texts fs f P it None s (gives (behind it) s) (a_place types texts fs f t constant)
  place_part =
      gives_part types texts fs f P it None (behind it) s (a_place types texts fs f t constant) (λ b p. element_place_of p)
      (λ b k alive q. record { local = it; uses = refl; below = q.0; held = q.1 })

  -- ---- its value

  module _ (w : Ty) (v_of : is_value w ≡ true) (plain : is_value t ≡ true) where
    abbrev x : Gives ℕ
    x = value element colon w None s

    read : Part types texts fs f P it None s x (a_number types texts fs f w)
    read =
        as_type_part types texts fs f P it t w colon (λ into s. own_value element colon into s) None s v_of tt h.stands.opened
        (λ into wanted.
        then_part types texts fs f P it into s (gives (behind it) s) _ (a_place types texts fs f t constant) (a_number types texts fs f t) h.stands.opened place_part
        (load_part types texts fs f into t constant colon (behind it) s plain wanted))

    level : x.state.pending ≡ s.pending
    level = go (compared.eq (own_type element.ty) w)
      where
        go : (b : Bool) → (cond b (own_value element colon None s) (computed None w colon (conversion (own_value element colon None s).given) (own_value element colon None s).state)).state.pending ≡ s.pending
        go true = refl
        go false = refl

    -- no call gives it
    uncalled : call_to element w ≡ None
    uncalled = go (compared.eq (own_type element.ty) w && false)
      where
        go : (b : Bool) → (if b then element.call else None) ≡ None
        go true = refl
        go false = refl

    -- .. of which the variable is
    module _ (is : slice_get a.program.types.types u.ty.0 ≡ Some w) where
      value_born : Born (emit u.place (Save (object_named (length x.state.locals)) x.given) (emit u.place (Live (length x.state.locals) Plain) (with_new (variable_local a u) x.state)))
      value_born =
          let y = length x.state.locals in
          let lives = Acts u.place (Live y Plain) ∷ [] in
          let saves = Acts u.place (Save (object_named y) x.given) ∷ [] in
          let worth_of = ap is_value (type_is w is) ∙ v_of in
          let typed : Part types texts fs f P it None s x (a_number types texts fs f (type_of a u.ty)) = subst (λ (z : Ty). Part types texts fs f P it None s x (a_number types texts fs f z)) (sym (type_is w is)) read in
          subst (λ (c : List Tree). Born (with_code c (with_new (variable_local a u) x.state)))
          (sym (append_assoc x.state.code lives saves))
          (declared x (a_number types texts fs f (type_of a u.ty)) (lives ++ saves) level typed
          (λ b q.
          fine_append types texts fs f lives saves
          (fine_acts types texts fs f u.place (Live y Plain) (record { given = refl; formed = value_lives a types texts fs f setting.front u x.state b worth_of }))
          (fine_acts types texts fs f u.place (Save (object_named y) x.given) (value_saved a types texts fs f setting.front u x.state b worth_of x.given q)))
          (λ b k size q blank. saved_falls types f u.place y x.given k (omega (arith, size, below x.state read.grown b)) blank q.0 q.1)
          (λ b q k alive r blank. new_none f (variable_local a u) x.state))

      -- .. as it is written
      value_written : (given_element a (class (Some (type_of a u.ty))) u colon it element s) ≡ (emit u.place (Save (object_named (length x.state.locals)) x.given) (emit u.place (Live (length x.state.locals) Plain) (with_new (variable_local a u) x.state)))
      value_written =
          ap (λ (z : Ty). given_element a (class (Some z)) u colon it element s) (type_is w is)
          ∙ by_values (λ z. given_element a (class (Some z)) u colon it element s ≡ (initial a scoped element (type_of a u.ty) colon s >> λ rest s. rest (home a u) s).state) refl refl refl refl refl w v_of
          ∙ ap (λ (z : Ty). (initial a scoped element z colon s >> λ rest s. rest (home a u) s).state) (type_is w is)
          ∙ by_values (λ z. (initial a scoped element z colon s >> λ rest s. rest (home a u) s).state ≡ (value_by (call_to element z) colon (value element colon z None) s >> λ rest s. rest (home a u) s).state) refl refl refl refl refl w v_of
          ∙ ap (λ (o : Option (State → Gives (Location → Step))). (value_by o colon (value element colon w None) s >> λ rest s. rest (home a u) s).state) uncalled

      pub value_declared : Born (given_element a (class (Some (type_of a u.ty))) u colon it element s)
      value_declared = subst Born (sym value_written) value_born

  -- ---- a copy of it, where it is an owner or a struct

  abbrev copied : State
  copied = emit colon (Copy (object_named (length s.locals)) (behind it)) (emit u.place (Live (length s.locals) Plain) (with_new (variable_local a u) s))

  copied_born : (New s → IsFineStep types texts fs f (Live (length s.locals) Plain)) → (New s → IsPlaceOf types texts fs f t constant (behind it) → IsFineStep types texts fs f (Copy (object_named (length s.locals)) (behind it))) → Born copied
  copied_born comes copies_it =
      let y = length s.locals in
      let lives = Acts u.place (Live y Plain) ∷ [] in
      let copies = Acts colon (Copy (object_named y) (behind it)) ∷ [] in
      subst (λ (c : List Tree). Born (with_code c (with_new (variable_local a u) s)))
      (sym (append_assoc s.code lives copies))
      (declared (gives (behind it) s) (a_place types texts fs f t constant) (lives ++ copies) refl place_part
      (λ b q.
      fine_append types texts fs f lives copies (fine_acts types texts fs f u.place (Live y Plain) (comes b)) (fine_acts types texts fs f colon (Copy (object_named y) (behind it)) (copies_it b q)))
      (λ b k size q blank.
      lives_falls types f u.place colon (λ y. Copy (object_named y) (behind it)) (place_uses (behind it)) y refl k (omega (arith, size, below s (grows_none s) b)) (place_held (behind it) y k q) blank)
      (λ b q k alive r blank. new_none f (variable_local a u) s))

  copied_written : (z : Ty) → slice_get a.program.types.types u.ty.0 ≡ Some z → given_element a (class (Some z)) u colon it element s ≡ copied → given_element a (class (Some (type_of a u.ty))) u colon it element s ≡ copied
  copied_written z is written = ap (λ (q : Ty). given_element a (class (Some q)) u colon it element s) (type_is z is) ∙ written

  pub copied_declared : (z : Ty) → slice_get a.program.types.types u.ty.0 ≡ Some z → is_owner_of_values a.program.types z ≡ true → t ≡ z → Born (given_element a (class (Some (type_of a u.ty))) u colon it element s)
  copied_declared z is o same_type =
      subst Born (sym (copied_written z is (by_owner z o)))
      (copied_born (λ b. record { given = refl; formed = owner_lives a types texts fs f setting.front u s b z is o })
      (λ b q.
      let new = owner_declared a types texts fs f setting.front u s b z is o in
      copy_fine types texts fs f a.program.types z (object_named (length s.locals)) (behind it) o new.typed new.held (q.typed ∙ same_type)))
    where
      by_owner : (q : Ty) → is_owner_of_values a.program.types q ≡ true → given_element a (class (Some q)) u colon it element s ≡ copied
      by_owner = by_owners a.program.types _ refl (λ item. refl)

  pub struct_declared : (number : ℕ) → is_copied_struct types number ≡ true → slice_get a.program.types.types u.ty.0 ≡ Some (ty.Struct number) → t ≡ ty.Struct number → Born (given_element a (class (Some (type_of a u.ty))) u colon it element s)
  struct_declared number copies is same_type =
      subst Born (sym (copied_written (ty.Struct number) is refl))
      (copied_born (λ b. record { given = refl; formed = object_lives a types texts fs f setting.front u s b (ty.Struct number) is refl })
      (λ b q.
      let new = object_placed a types texts fs f setting.front u s b (ty.Struct number) is refl refl in
      struct_copy_fine types texts fs f setting.structs number copies (object_named (length s.locals)) (behind it) new.typed new.held (q.typed ∙ same_type)))

  -- ---- a view or a span of the whole of it

  module _ (z : Ty) (loc : is_location z ≡ true) (is : slice_get a.program.types.types u.ty.0 ≡ Some z)
      (seen : IsPlaceOf types texts fs f t constant (behind it) → IsGivenAs types texts fs f (Of z) (aimed (Whole (behind it)))) where
    abbrev shows : Location → Step
    shows p = Aim p (Whole (behind it))

    shown_born : Born (emit colon (shows (whole (length s.locals))) (with_new (variable_local a u) s))
    shown_born =
        let y = length s.locals in
        declared (gives (behind it) s) (a_place types texts fs f t constant) (Acts colon (shows (whole y)) ∷ []) refl place_part
        (λ b q. fine_acts types texts fs f colon (shows (whole y)) (seen q z (whole y) loc (location_declared a types texts fs f setting.front u s b z loc is).typed (inl refl)))
        (λ b k size q blank.
        falls_filling types f colon (shows (whole y)) y k
        (filling_fills f shows y k (whole_filling types texts fs f (behind it) y k q) y (location_declared a types texts fs f setting.front u s b z loc is).kept))
        (λ b q k alive r blank. new_none f (variable_local a u) s)

    -- .. as it is written
    abbrev Written : Gives Pointing → State
    Written w = (mapped (λ p. filled colon (pointed p)) w >> λ rest s. rest (home a u) s).state

    pub shown_declared : given_element a (class (Some z)) u colon it element s ≡ (initial a scoped element (type_of a u.ty) colon s >> λ rest s. rest (home a u) s).state
        → (initial a scoped element z colon s >> λ rest s. rest (home a u) s).state ≡ Written (pointing element s)
        → pointing element s ≡ gives (aimed (Whole (behind it))) s → Born (given_element a (class (Some (type_of a u.ty))) u colon it element s)
    shown_declared classed initialised points =
        subst Born
        (sym (ap (λ (q : Ty). given_element a (class (Some q)) u colon it element s) (type_is z is)
        ∙ classed
        ∙ ap (λ (q : Ty). (initial a scoped element q colon s >> λ rest s. rest (home a u) s).state) (type_is z is)
        ∙ initialised
        ∙ ap Written points))
        shown_born

  -- what an owner shows
  points_whole : (w : Ty) → t ≡ w → pointing_by w element s ≡ gives (aimed (Whole (behind it))) s → pointing element s ≡ gives (aimed (Whole (behind it))) s
  points_whole w same e = ap (λ (q : Ty). pointing_by q element s) same ∙ e

  pub view_declared : slice_get a.program.types.types u.ty.0 ≡ Some ty.View → t ≡ ty.Text → Born (given_element a (class (Some (type_of a u.ty))) u colon it element s)
  view_declared is text =
      shown_declared ty.View refl is (λ q. whole_given types texts fs f (behind it) (q.typed ∙ text)) refl refl (points_whole ty.Text text refl)

  pub span_declared : (item : TyId) (held : Bool) → slice_get a.program.types.types u.ty.0 ≡ Some (ty.Span item held) → is_element a.program.types (type_at a.program.types item) ≡ true → t ≡ ty.Vector item → keeps_const held constant ≡ true
      → Born (given_element a (class (Some (type_of a u.ty))) u colon it element s)
  span_declared item held is w vector kept =
      let one = one_element a.program.types types setting.front item w in
      shown_declared (ty.Span item held) refl is
      (λ q. span_given types texts fs f item held item (behind it) refl one (record { typed = q.typed ∙ vector; held = keeps_further held constant (is_const_place types f (behind it)) kept q.held }))
      refl refl (points_whole (ty.Vector item) vector refl)

  -- ---- a reference to it

  module _ (target : TyId) (held : Bool) (is : slice_get a.program.types.types u.ty.0 ≡ Some (ty.Reference target held)) (w : is_target a.program.types (type_at a.program.types target) ≡ true) (bound : IsBoundTo target held (category.Place id constant)) where
    -- as a place of the type that it refers to
    referred_part : Part types texts fs f P it None s (gives (behind it) s) (a_place types texts fs f (type_at a.program.types target) bound.held)
    referred_part =
        subst (λ (c : Bool). Part types texts fs f P it None s (gives (behind it) s) (a_place types texts fs f (type_at a.program.types target) c)) (const_same id target constant bound.held bound.place)
        (subst (λ (i : TyId). Part types texts fs f P it None s (gives (behind it) s) (a_place types texts fs f (type_at a.program.types i) constant)) (place_same id target constant bound.held bound.place) place_part)

    reference_born : Born (emit colon (Aim (whole (length s.locals)) (Aimed (behind it))) (with_new (variable_local a u) s))
    reference_born =
        let y = length s.locals in
        declared (gives (behind it) s) (a_place types texts fs f (type_at a.program.types target) bound.held) (Acts colon (Aim (whole y) (Aimed (behind it))) ∷ []) refl referred_part
        (λ b q.
        fine_acts types texts fs f colon (Aim (whole y) (Aimed (behind it))) (record {
          given = refl;
          formed =
              ap (λ (z : Ty). is_source_of types texts fs f z (Aimed (behind it))) (reference_declared a types texts fs f setting.front u s b target held is w)
              ∙ bound_given a types texts fs f setting.front target held bound.held (behind it) w bound.kept q;
        }))
        (λ b k size q blank.
        falls_filling types f colon (Aim (whole y) (Aimed (behind it))) y k
        (filling_fills f (λ p. Aim p (Aimed (behind it))) y k (aimed_filling f (behind it) y k q) y (reference_kept a types texts fs f setting.front u s b target held is w)))
        (λ b q k alive r blank. new_none f (variable_local a u) s)

    -- what would be built where it isn't one of its type
    abbrev kept : Gives Remaining
    kept = given element (type_of a target) colon s >> λ rest s. rest (scoped colon (type_of a target)) s >> λ x s. gives (aimed_at colon (object_named x)) s

    reference_written : given_element a (class (Some (type_of a u.ty))) u colon it element s ≡ emit colon (Aim (whole (length s.locals)) (Aimed (behind it))) (with_new (variable_local a u) s)
    reference_written =
        ap (λ (z : Ty). given_element a (class (Some z)) u colon it element s) (type_is (ty.Reference target held) is)
        ∙ ap (λ (z : Ty). (initial a scoped element z colon s >> λ rest s. rest (home a u) s).state) (type_is (ty.Reference target held) is)
        ∙ ap (λ (c : Bool). ((if c then mapped (aimed_at colon) (element.at s) else kept) >> λ rest s. rest (home a u) s).state) bound.here

    pub reference_bound : Born (given_element a (class (Some (type_of a u.ty))) u colon it element s)
    reference_bound = subst Born (sym reference_written) reference_born

  -- ---- a reference to a temporary that it is given to, in each turn

  module _ (target : TyId) (held : Bool) (is : slice_get a.program.types.types u.ty.0 ≡ Some (ty.Reference target held)) (w : is_value (type_at a.program.types target) ≡ true) (plain : is_value t ≡ true)
      (none : is_place_of (category.Place id constant) target ≡ false) where
    abbrev T : Ty
    T = type_at a.program.types target

    abbrev found : Gives ℕ
    found = x T w plain

    abbrev its_kept : State
    its_kept = with_temporary a types texts fs f colon T (inl w) found.state (value_below found.state.types T w)

    -- what is built, and the reference to it
    abbrev bound_to : Gives Remaining → State
    bound_to r = (r >> λ rest s. rest (scoped colon T) s >> λ y s. gives (aimed_at colon (object_named y)) s >> λ rest s. rest (home a u) s).state

    kept_born : Born (bound_to (value_by None colon (value element colon T None) s))
    kept_born =
        let y = length found.state.locals in
        let lives = Acts colon (Live y Plain) ∷ [] in
        let saves = Acts colon (Save (object_named y) found.given) ∷ [] in
        let aims = Acts colon (Aim (whole (length its_kept.locals)) (Aimed (object_named y))) ∷ [] in
        let done = with_code (found.state.code ++ ((lives ++ saves) ++ aims)) (with_new (variable_local a u) its_kept) in
        let N = a_number types texts fs f T in
        subst (λ (c : List Tree). Born (with_code c (with_new (variable_local a u) its_kept)))
        (sym (append_assoc (found.state.code ++ lives) saves aims ∙ append_assoc found.state.code lives (saves ++ aims)))
        (subst Born (none_ends (length s.pending) colon done (level T w plain ∙ h.pending))
        (does_more types texts fs f IsThere (P.ready it (length s.locals)) (λ k e. (there, e)) a (with_next v) in_loop s (end_pending (length s.pending) colon done)
        (bound_under a types texts fs f setting v in_loop colon u s h at built target held is w colon P it found N [] (handing_none types texts fs f P it s found N (read T w plain)) (lives ++ saves)
        (λ b q.
        fine_append types texts fs f lives saves (fine_acts types texts fs f colon (Live y Plain) (temporary_lives a types texts fs f colon T (inl w) found.state (value_below found.state.types T w) b Plain))
        (fine_acts types texts fs f colon (Save (object_named y) found.given) (saved_fine types texts fs f T found.given (object_named y) q (kept_place a types texts fs f colon T (inl w) found.state (value_below found.state.types T w) b))))
        (λ b r k size q none blank. saved_falls types f colon y found.given k (omega (arith, size, temporary_below a types texts fs f colon T (inl w) found.state (value_below found.state.types T w) b)) blank q.0 q.1)
        [] (λ z m. absurd m) (λ b q k alive r blank. kept_none a types texts fs f colon T (inl w) found.state (value_below found.state.types T w))
        hidden (λ b living k knows. let j = hidden_known f it (hidden b).is living k knows in (j.0, j.1, (there, j.2))))))

    kept_written : given_element a (class (Some (type_of a u.ty))) u colon it element s ≡ bound_to (value_by None colon (value element colon T None) s)
    kept_written =
        ap (λ (z : Ty). given_element a (class (Some z)) u colon it element s) (type_is (ty.Reference target held) is)
        ∙ ap (λ (z : Ty). (initial a scoped element z colon s >> λ rest s. rest (home a u) s).state) (type_is (ty.Reference target held) is)
        ∙ ap (λ (c : Bool). ((if c then mapped (aimed_at colon) (element.at s) else (given element T colon s >> λ rest s. rest (scoped colon T) s >> λ x s. gives (aimed_at colon (object_named x)) s)) >> λ rest s. rest (home a u) s).state) none
        ∙ ap bound_to (by_values (λ z. given element z colon s ≡ value_by (call_to element z) colon (value element colon z None) s) refl refl refl refl refl T w)
        ∙ ap (λ (o : Option (State → Gives (Location → Step))). bound_to (value_by o colon (value element colon T None) s)) (uncalled T w plain)

    pub kept_bound : Born (given_element a (class (Some (type_of a u.ty))) u colon it element s)
    kept_bound = subst Born (sym kept_written) kept_born

  -- ---- the variable of any type that it may have

  -- an element, as what is given
  abbrev as_given : Typed
  as_given = record { place = colon; ty = element_type a.program.types (id, constant); category = element_place (id, constant); form = null }

  pub element_declared : takes_element a.program.types (type_of a u.ty) (id, constant) ≡ true → is_given a.program.types (type_of a u.ty) as_given ≡ true → Born (declared_from a (Some u) colon it element s)
  element_declared takes fits = go (variable_type a.program.types u.ty built)
    where
      as_taken : (z : Ty) → slice_get a.program.types.types u.ty.0 ≡ Some z → takes_as a.program.types z id ≡ true
      as_taken z is = subst (λ (q : Ty). takes_as a.program.types q id ≡ true) (type_is z is) (and_parts (is_element a.program.types t) (takes_as a.program.types (type_of a u.ty) id) takes).1

      -- a value is given one
      plain : (z : Ty) → is_value z ≡ true → takes_as a.program.types z id ≡ true → is_value t ≡ true
      plain = by_values (λ z. takes_as a.program.types z id ≡ true → is_value t ≡ true) (λ e. e) (λ e. e) (λ e. e) (λ e. e) (λ e. e)

      refused : {X : Type 0} (z : Ty) → slice_get a.program.types.types u.ty.0 ≡ Some z → takes_as a.program.types z id ≡ false → X
      refused z is none = absurd (false≢true (sym none ∙ as_taken z is))

      given_as : (z : Ty) → slice_get a.program.types.types u.ty.0 ≡ Some z → is_given a.program.types z as_given ≡ true
      given_as z is = subst (λ (q : Ty). is_given a.program.types q as_given ≡ true) (type_is z is) fits

      owned : (z : Ty) → is_owner_of_values a.program.types z ≡ true → takes_as a.program.types z id ≡ true → is_owner_of_values a.program.types t ≡ true
      owned = by_owners a.program.types _ (λ e. owner_element a.program.types t worth e) (λ item e. owner_element a.program.types t worth e)

      structure : (number : ℕ) → is_struct t ≡ true → is_given a.program.types (ty.Struct number) as_given ≡ true → t ≡ ty.Struct number
      structure number is_one given = let found = struct_named t is_one in found.1 ∙ ap ty.Struct (given_struct a.program.types number found.0 as_given (ap Of found.1) given)

      bound : (target : TyId) (held : Bool) → slice_get a.program.types.types u.ty.0 ≡ Some (ty.Reference target held) → is_target a.program.types (type_at a.program.types target) ≡ true → IsBound a.program.types target held as_given → Born (declared_from a (Some u) colon it element s)
      bound target held is w (at_place there) = reference_bound target held is w there
      bound target held is w (by_temporary none else_given) =
          elim (or_cases (id_tests.eq id target) (is_value (type_at a.program.types target) && is_value t) (as_taken (ty.Reference target held) is)) [
            | inl same ↦ absurd (false≢true (sym none ∙ same))
            | inr values ↦ let both = and_parts (is_value (type_at a.program.types target)) (is_value t) values in kept_bound target held is both.0 both.1 none
          ]

      refers : (target : TyId) (held : Bool) → slice_get a.program.types.types u.ty.0 ≡ Some (ty.Reference target held) → is_target a.program.types (type_at a.program.types target) ≡ true → Born (declared_from a (Some u) colon it element s)
      refers target held is w = bound target held is w (given_bound a.program.types target held as_given w (given_as (ty.Reference target held) is))

      go : IsVariableType a.program.types u.ty → Born (declared_from a (Some u) colon it element s)
      go (a_value z is w) = value_declared z w (plain z w (as_taken z is)) is
      go (a_reference target held is w) = refers target held is (value_target a.program.types (type_at a.program.types target) w)
      go (an_alias target held is o) = refers target held is (owner_target a.program.types (type_at a.program.types target) o)
      go (a_struct_alias target held number is structure pointless) = refers target held is (struct_target a.program.types (type_at a.program.types target) pointless)
      go (a_raw target held is w) = refused (ty.Raw target held) is refl
      go (a_view is) = view_declared is (given_string a.program.types t as_given (owner_element a.program.types t worth (as_taken ty.View is)) refl (given_as ty.View is))
      go (a_walker (ty.Span item held) is w) =
          let to = given_vector a.program.types item held constant t as_given (owner_element a.program.types t worth (as_taken (ty.Span item held) is)) refl refl (given_as (ty.Span item held) is) in
          span_declared item held is w to.is to.kept
      go (a_walker (ty.Iterator item held) is w) = refused (ty.Iterator item held) is refl
      go (a_walker _ is w) = absurd (false≢true w)
      go (a_unique target is w) = refused (ty.Unique target) is refl
      go (a_struct number is) =
          let same = structure number (as_taken (ty.Struct number) is) (given_as (ty.Struct number) is) in
          struct_declared number (plain_copied types number (setting.plain number (struct_within a.program.types number (subst (λ (q : Ty). is_element a.program.types q ≡ true) same worth)))) is same
      go (an_owner z is o) =
          copied_declared z is o
          (given_owner a.program.types z t as_given o (owned z o (as_taken z is)) refl (given_as z is))
