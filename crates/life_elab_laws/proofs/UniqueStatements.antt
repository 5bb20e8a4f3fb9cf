-- unique_ptrs that are named or members are made to own something else, or nothing: by an assignment, and by `reset`.
use Rattle.std.proofs.Common.{◌≡◌, ℕ, inr, true, false, List, Contains, is_none, Option, Some, None, refl, slice_get, sym, ap, ◌∙◌, subst, unwrap_or, inl}
use Rattle.std.proofs.lemmas.Bool.{false≢true}
use Rattle.life_elab_laws.proofs.OwnedContents.{IsContentOf}
use Rattle.life_writer.specs.Around.{Around, own_type, type_of}
use Rattle.life_typed.specs.Delimiters.{DelimitersForm}
use Rattle.life_core.specs.Function.{Function}
use Rattle.life_elab_laws.proofs.Gifts.{Gift, a_place, nothing as no_gift}
use Rattle.life_names.specs.declared.fault.IllKind.{IllKind}
use Rattle.life_well_typed.specs.Members.{IsCalled}
use Rattle.life_well_typed.specs.Expressions.{typed_in}
use Rattle.life_elab_laws.proofs.MovedOwners.{IsNamedAt, given_moved}
use Rattle.life_elab_laws.proofs.UniqueForms.{unique_at, IsLying, IsUnique, unique_operand, unique_placed}
use Rattle.life_core.specs.declared.instr.Made.TheVariants as made
use Rattle.life_core.specs.Step.{Make}
use Rattle.life_elab_laws.proofs.Parts.{Makes, Part, then_part}
use Rattle.life_types.specs.declared.place.Place.{Place}
use Rattle.life_elab_laws.proofs.Setting.{Setting}
use Rattle.life_elab_laws.proofs.FreshUniques.{IsFresh, given_null}
use Rattle.life_elab_laws.proofs.MadeForms.{temporary_source, temporary_dead}
use Rattle.life_writer.specs.Uses.{Act}
use Rattle.life_elab_laws.proofs.ExpressionForms.{Standing, IsWhole}
use Rattle.life_writer.specs.Writing.{Gives, State, ◌>>◌, emit, gives, mapped}
use Rattle.life_types.specs.Types.{Types, class}
use Rattle.life_writer.specs.Assigning.{acted, assigned_by, moved, owner_by, replaced_by}
use Rattle.life_elab_laws.proofs.ChangeForms.{alone_written}
use Rattle.life_elab.specs.SimpleForms.{assigned, target_of, thrown}
use Rattle.life_well_typed.specs.Given.{is_given}
use Rattle.life_proper.specs.WellFormed.{is_itself}
use Rattle.life_writer.specs.Using.{location_in, operand, temporary_of}
use Rattle.life_typed.specs.TypedForm.{Form, Typed, method, whole as whole_form}
use Rattle.life_type_stmt.specs.Simples.{moved_in, named_in, onto_itself}
use Rattle.life_writer.specs.OwnerForms.{made_at, moved_from, moved_out_of, owned_operand, made_null}
use Rattle.life_core.specs.Operands.{Location, Name, Operand}
use Rattle.life_typed.specs.TypedStatement.{one}
use Rattle.life_elab_laws.proofs.VariablePlaces.{stands_later}
use Rattle.life_types.specs.declared.ty.Ty.{Ty}
use Rattle.life_types.specs.declared.ty.Ty.TheVariants as ty
use Rattle.life_types.specs.declared.ty.TyId.{TyId}
use Rattle.life_typed.specs.declared.typed_expr.Category.{Category}
use Rattle.life_typed.specs.declared.typed_expr.Category.TheVariants as category
use Rattle.life_typed.specs.declared.typed_expr.ExprType.{ExprType}
use Rattle.life_typed.specs.declared.typed_expr.ExprType.TheVariants.{Of}
use Rattle.life_typed.specs.declared.typed_expr.Method.TheVariants as methods
use Rattle.life_writer.specs.ExpressionForms.{uses, uses_if}
use Rattle.life_writer.specs.Variables.{variable}
use Rattle.life_elab_laws.proofs.ListedUniques.{IsRenewing, by_making, by_moving, by_temporary}
use Rattle.life_elab_laws.proofs.UniqueWrites.{content_there, moved_there, nulled_there, source_there}
use Rattle.life_elab_laws.proofs.VariableParts.{lies_apart, lies_stay}
use Rattle.life_elab_laws.proofs.Growing.{Grows, grows_none}
use Rattle.life_elab_laws.proofs.Making.{opened_later}
use Rattle.life_elab_laws.proofs.WrittenMembers.{IsWriting, part_writing}

module _ (a : Around) (visible : List ℕ) (types : Types) (texts : ℕ) (fs : List Function) (f : Function) (setting : Setting a types fs f) where
  abbrev Stood : State → Type 0
  Stood s = Standing a visible types texts fs f setting s

  abbrev Writes : State → State → Type 0
  Writes s s' = Makes types texts fs f None s (gives tt s') (no_gift types texts fs f)

  -- one is written where it lies, behind its place
  ways_at : (target : TyId) (l : Location) → IsWriting types texts fs f (ty.Unique target) (Name l) (λ s r. Part types texts fs f (a_place types texts fs f (ty.Unique target) false) (Name l) None s (gives tt r) (no_gift types texts fs f))
  ways_at target l = part_writing types texts fs f (ty.Unique target) (a_place types texts fs f (ty.Unique target) false) (Name l) (Name l) (λ h. h) (λ n k q. q)

  -- one that is named or a member is found behind what it is made to own, and is where it was before
  module _ (target : Form) (to : IsUnique a visible types texts fs f setting target) where
    abbrev P : Gift types texts fs f Operand
    P = a_place types texts fs f (ty.Unique to.target) false

    abbrev at : State → Location
    at s = unique_at a visible types texts fs f setting target to s

    written : {B : Type 0} (w : Gives B) (act : Operand → State → State) (s : State) → Grows s w.state → Stood s → Part types texts fs f P (Name (at s)) None s (gives tt (act (Name (at s)) w.state)) (no_gift types texts fs f)
        → Writes s (operand (uses a target) w.state >> λ o s. act o s)
    written w act s grown stands part =
        subst (λ (g : Gives Operand). Writes s (g >> λ o s. act o s)) (sym (unique_operand a visible types texts fs f setting target to w.state (stands_later a visible s w.state grown stands)))
        (subst (λ (l : Location). Writes s (act (Name l) w.state)) (sym (lies_stay a visible types texts fs f setting (uses a target).at to.lies s w.state grown))
        (then_part types texts fs f (no_gift types texts fs f) tt None s (gives (Name (at s)) s) (gives tt (act (Name (at s)) w.state)) P (no_gift types texts fs f) stands.opened (unique_placed a visible types texts fs f setting target to s stands) part))

  -- ---- nothing, also where it is a temporary

  nulled_part : (target : Form) → IsLying a visible types texts fs f setting target → (place : Place) (s : State) → Stood s → Writes s (operand (uses a target) s >> λ o s. emit place (Make (location_in o) made.Null) s)
  nulled_part target to place s stands =
      let w = to.location s in
      let P = a_place types texts fs f (ty.Unique to.target) false in
      let placed = to.placed s stands in
      subst (λ (g : Gives Operand). Writes s (g >> λ o s. emit place (Make (location_in o) made.Null) s)) (sym (to.here s stands))
      (then_part types texts fs f (no_gift types texts fs f) tt None s (mapped Name w) _ P (no_gift types texts fs f) stands.opened placed
      (nulled_there a visible types texts fs f setting (ty.Unique to.target) (Name w.given) (ways_at to.target w.given) to.target w.given (λ h. h) (λ n k q. q) place w.state (opened_later s w.state placed.grown stands.opened)))

  -- ---- `reset`

  pub reset_part : (base : Form) (given : Form) (d : DelimitersForm) (e : Typed) (behind : Place) (s : State) → e.form ≡ method base methods.Reset given d → IsLying a visible types texts fs f setting base
      → IsCalled a.program.types (typed_in base).ty (typed_in base).category methods.Reset given e → Stood s → Writes s (thrown e.category (uses a (whole_form e)) behind s)
  reset_part base given d e behind s same to h stands =
      alone_written a visible types texts fs f setting (method base methods.Reset given d) e behind s same
      (subst (λ (x : ExprType). IsCalled a.program.types x (typed_in base).category methods.Reset given e) to.is h).2
      (nulled_part base to e.place s stands)

  -- ---- assignments

  -- what is built first, as a temporary, is moved to it
  pub fresh_assigned_part : (target e : Typed) (equals behind : Place) (to : IsUnique a visible types texts fs f setting (whole_form target)) (s : State) → IsFresh a visible types texts fs f setting (whole_form e) → (uses a (whole_form e)).replacing ≡ None
      → is_given a.program.types (ty.Unique to.target) e ≡ true → Stood s → Writes s (assigned a target equals (one e) behind s)
  fresh_assigned_part target e equals behind to s from plain given stands =
      let u = uses a (whole_form e) in
      let t = ty.Unique to.target in
      let g = target_of (uses a (whole_form target)) in
      let l = unique_at a visible types texts fs f setting (whole_form target) to s in
      let built = from.builds to.target to.worth given s stands in
      let w = temporary_of u t s in
      let first = temporary_source a visible types texts fs f setting t u.place s (u.object s) (inr (inl to.worth)) built stands in
      let later = stands_later a visible s w.state first.grown stands in
      let is = later.seen to.lies.number to.lies.declared to.lies.seen to.lies.found in
      let stays : variable w.state to.lies.number ≡ variable s to.lies.number = ap (λ (vs : List ℕ). unwrap_or (slice_get vs to.lies.number) 0) first.grown.variables in
      let apart =
      lies_apart a visible types texts fs f setting (uses a (whole_form target)).at to.lies s w.given
      (λ e. temporary_dead a visible types texts fs f setting t u.place s (u.object s) (inr (inl to.worth)) built stands (subst (Contains w.state.living) (stays ∙ e) is.lives)) in
      subst (Writes s)
      (sym (ap (λ (w : Ty). assigned_by (class (Some w)) u w g equals behind s) (ap own_type to.is)
      ∙ ap (λ (k : Category). acted (owner_by k u t s) g equals) from.value
      ∙ ap (λ (r : Option (State → Gives Act)). acted (replaced_by r (temporary_of u t) s) g equals) plain))
      (written (whole_form target) to w (λ o s. moved w.given equals o s) s first.grown stands
      (source_there a visible types texts fs f setting t (Name l) (ways_at to.target l) to.target l (λ h. h) (λ n k q. q) w equals s stands.opened first apart))

  -- .. what is made anew
  content_assigned : (target : Form) (to : IsUnique a visible types texts fs f setting target) (id : TyId) (argument : Form) (closing : Place) → IsContentOf a visible types texts fs f setting to.target id argument closing → (place : Place) (s : State) → Stood s
      → Writes s (let w = owned_operand (type_of a id) (uses_if a argument) closing s in operand (uses a target) w.state >> λ o s. emit place (Make (location_in o) w.given) s)
  content_assigned target to id argument closing content place s stands =
      let w = owned_operand (type_of a id) (uses_if a argument) closing s in
      let l = unique_at a visible types texts fs f setting target to s in
      let part = content_there a visible types texts fs f setting (ty.Unique to.target) (Name l) (ways_at to.target l) to.target l (λ h. h) (λ n k q. q) id argument closing content place s stands in
      written target to w (λ o s. emit place (Make (location_in o) w.given) s) s part.grown stands part

  module _ (target e : Typed) (equals behind : Place) where
    abbrev Assigns : State → Type 0
    Assigns s = Writes s (assigned a target equals (one e) behind s)

    -- what is done to it, by what replaces what it owns, if anything does
    pub by_replacing : (owned : TyId) → target.ty ≡ Of (ty.Unique owned) → (r : Option (State → Gives Act)) (s : State) → (uses a (whole_form e)).replacing ≡ r → e.category ≡ category.Value
        → Writes s (acted (replaced_by r (temporary_of (uses a (whole_form e)) (ty.Unique owned)) s) (target_of (uses a (whole_form target))) equals) → Assigns s
    by_replacing owned is r s same held writes =
        let u = uses a (whole_form e) in
        let t = target_of (uses a (whole_form target)) in
        subst (Writes s)
        (sym (ap (λ (w : Ty). assigned_by (class (Some w)) u w t equals behind s) (ap own_type is)
        ∙ ap (λ (k : Category). acted (owner_by k u (ty.Unique owned) s) t equals) held
        ∙ ap (λ (r : Option (State → Gives Act)). acted (replaced_by r (temporary_of u (ty.Unique owned)) s) t equals) same))
        writes

    -- nothing, also where it is a temporary
    pub unique_nulled_part : (to : IsLying a visible types texts fs f setting (whole_form target)) → IsWhole a visible types texts fs f setting (whole_form e) → is_given a.program.types (ty.Unique to.target) e ≡ true → (s : State) → Stood s → Assigns s
    unique_nulled_part to from given s stands =
        let null = given_null a visible types texts fs f setting e from.kind.kind to.target given in
        by_replacing to.target to.is (Some (λ s. gives made_null s)) s (from.as_null null.0).1.0 null.1 (nulled_part (whole_form target) to equals s stands)

    -- .. of what is made, moved, or given by a call, which may stand in parentheses
    module _ (to : IsUnique a visible types texts fs f setting (whole_form target)) (from : IsFresh a visible types texts fs f setting (whole_form e)) (given : is_given a.program.types (ty.Unique to.target) e ≡ true)
        (name : IsNamedAt a visible types texts fs f setting (named_in (whole_form target)) ((uses a (whole_form target)).at)) where
      pub unique_renewed_part : IsRenewing a visible types texts fs f setting (whole_form e) → (s : State) → is_none (onto_itself (named_in (whole_form target)) (moved_in (whole_form e))) ≡ true → Stood s → Assigns s
      unique_renewed_part (by_temporary none) s other stands = fresh_assigned_part target e equals behind to s from none given stands
      unique_renewed_part (by_making place id argument closing replaces content) s other stands =
          by_replacing to.target to.is (Some (λ s. mapped (made_at place) (owned_operand (type_of a id) (uses_if a argument) closing s))) s replaces from.value
          (content_assigned (whole_form target) to id argument closing (content to.target to.worth given) place s stands)
      unique_renewed_part (by_moving moves) s other stands =
          let x = moves.number in
          let alike : moves.from.ty ≡ ty.Unique to.target = given_moved a visible types texts fs f setting (ty.Unique to.target) moves.from.ty e refl moves.from.owner moves.typed given in
          let l = unique_at a visible types texts fs f setting (whole_form target) to s in
          let free = none_there (onto_itself (named_in (whole_form target)) (Some x)) (ap (λ (o : Option ℕ). is_none (onto_itself (named_in (whole_form target)) o)) (sym moves.named) ∙ other) in
          let apart =
          ap (λ (g : Gives Operand). is_itself types texts fs f (variable s x) g.given) (sym (to.lies.here s stands))
          ∙ name.apart x moves.from.source moves.seen moves.from.found free s stands in
          by_replacing to.target to.is (Some (moved_from moves.place x)) s moves.replaces from.value
          (written (whole_form target) to (gives x s) (λ o s. moved_out_of moves.place x equals o s) s (grows_none s) stands
          (moved_there a visible types texts fs f setting (ty.Unique to.target) (Name l) (ways_at to.target l) to.target l (λ h. h) (λ n k q. q) x moves.moved moves.from alike moves.seen moves.place s stands apart))
        where
          none_there : (o : Option IllKind) → is_none o ≡ true → o ≡ None
          none_there None e = refl
          none_there (Some k) e = absurd (false≢true e)
