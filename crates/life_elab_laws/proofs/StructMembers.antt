-- The members of a struct that has come to life are given one after the other: each a value, a pointer, an owner, a unique_ptr or a struct.
use Rattle.std.proofs.Common.{◌≡◌, ◌+◌, ℕ, zero, suc, Bool, true, false, List, [], ◌∷◌, None, Some, Option, inl, inr, slice_get, refl, sym, ap, ◌∙◌, subst, arith, ◌<◌, length}
use Rattle.std.specs.Prelude.{◌&&◌}
use Rattle.std.proofs.lemmas.Bool.{and_parts, false≢true}
use Rattle.life_elab_laws.proofs.ObjectTypes.{is_owner_of_values}
use Rattle.life_types.specs.Trees.{members_at}
use Rattle.life_types.specs.TypeTests.{is_value}
use Rattle.life_types.specs.Types.{Types, class}
use Rattle.life_types.specs.declared.place.Place.{Place}
use Rattle.life_types.specs.declared.ty.Class.{Class}
use Rattle.life_types.specs.declared.ty.Class.TheVariants as classes
use Rattle.life_types.specs.declared.ty.Ty.{Ty}
use Rattle.life_types.specs.declared.ty.Ty.TheVariants as ty
use Rattle.life_types.specs.declared.ty.TyId.{TyId}
use Rattle.life_typed.specs.BaseTypes.{type_at}
use Rattle.life_typed.specs.Delimiters.{DelimitersForm, behind_first, behind_others}
use Rattle.life_typed.specs.TypedForm.{Form, nothing as no_form, ◌⨟◌}
use Rattle.life_typed.specs.declared.typed_expr.Category.{Category}
use Rattle.life_typed.specs.declared.typed_expr.Category.TheVariants as category
use Rattle.life_typed.specs.declared.typed_expr.ExprType.{ExprType}
use Rattle.life_typed.specs.declared.typed_expr.ExprType.TheVariants.{TextLiteral, Of}
use Rattle.life_typed.specs.Conversions.{fits}
use Rattle.life_type_expr.specs.Lists.{fits_at_all, is_taken}
use Rattle.life_core.specs.Function.{Function}
use Rattle.life_core.specs.Operands.{Operand, object_named, Name, whole}
use Rattle.life_proper.specs.declared.known.Known.{Known}
use Rattle.life_well_typed.specs.Expressions.{typed_in}
use Rattle.life_well_typed.specs.Given.{is_number}
use Rattle.life_well_typed.specs.Members.{are_each, can_be_listed}
use Rattle.life_writer.specs.Around.{Around, type_of}
use Rattle.life_writer.specs.Assigning.{acted, assigned, assigned_by, owner_by, replaced_by, struct_by}
use Rattle.life_writer.specs.ExpressionForms.{all_uses, uses}
use Rattle.life_writer.specs.Lists.{assigned_members, member_target}
use Rattle.life_writer.specs.Using.{temporary_of, value, with_member, location_in, pointing}
use Rattle.life_writer.specs.Variables.{variable}
use Rattle.life_writer.specs.Uses.{Act, Uses}
use Rattle.life_writer.specs.Writing.{Gives, State, gives}
use Rattle.life_elab_laws.proofs.AliasForms.{given_literal, literal_object, no_owner_given, walker_no_struct_given}
use Rattle.life_elab_laws.proofs.ExpressionForms.{IsWhole, Standing}
use Rattle.life_elab_laws.proofs.FormedFits.{given_owner}
use Rattle.life_elab_laws.proofs.Gifts.{Gift, IsPlaceOf, a_number, a_place, both}
use Rattle.life_elab_laws.proofs.CopiedStructs.{listed_copied}
use Rattle.life_elab_laws.proofs.FreshUniques.{IsFresh, given_null}
use Rattle.life_elab_laws.proofs.GivenKinds.{taken_number}
use Rattle.life_elab_laws.proofs.HandedOwners.{owner_no_unique_given, unique_no_walker_given, walker_no_unique_given}
use Rattle.life_elab_laws.proofs.ListedUniques.{IsRenewing, fresh_given, null_given}
use Rattle.life_elab_laws.proofs.MadeForms.{Builds, IsOwning, is_made, stands_there, temporary_source, held_stays, place_ready, owning_owner}
use Rattle.life_elab_laws.proofs.Making.{IsPlace}
use Rattle.life_elab_laws.proofs.MoveSteps.{a_source, moves_part, owner_moves}
use Rattle.life_elab_laws.proofs.MovedOwners.{given_moved, source_part}
use Rattle.life_elab_laws.proofs.OwnerSteps.{copies_part}
use Rattle.life_elab_laws.proofs.Parts.{Makes}
use Rattle.life_elab_laws.proofs.PointerForms.{held_typed}
use Rattle.life_elab_laws.proofs.PushedElements.{giving_no_struct, giving_number}
use Rattle.life_elab_laws.proofs.ReplacedOwners.{IsMovingAt, IsReplaced}
use Rattle.life_elab_laws.proofs.Saving.{saved_part}
use Rattle.life_elab_laws.proofs.Setting.{Setting}
use Rattle.life_elab_laws.proofs.StructSteps.{member_apart, member_placed, member_there, struct_copies_part, type_in_member}
use Rattle.life_elab_laws.proofs.StructTypes.{IsHeld, a_struct_held, a_value_held, an_owner_held, has_member, held_is, member_type_there, a_raw_held, a_unique_held, a_view_held, a_walker_held}
use Rattle.life_elab_laws.proofs.Types.{value_class, owner_class}
use Rattle.life_elab_laws.proofs.VariablePlaces.{stands_later, walker_is}
use Rattle.life_elab_laws.proofs.MadeStructs.{IsAnyStruct, as_struct, struct_at, struct_by_at, struct_typed}
use Rattle.life_elab_laws.proofs.AdmittedTypes.{struct_tabled}
use Rattle.life_elab_laws.proofs.GivenOwners.{named_ready}
use Rattle.life_elab_laws.proofs.WrittenMembers.{IsWriting, Stores}
use Rattle.life_core.specs.Step.{Copy, Move, Save}
use Rattle.life_proper.specs.Placed.{type_in}
use Rattle.life_elab_laws.proofs.Locations.{is_location}
use Rattle.life_elab_laws.proofs.ObjectForms.{IsOwner}
use Rattle.life_elab_laws.proofs.PointerMembers.{IsShown, location_class, no_raw_struct, no_raw_walker, no_view_struct, no_view_walker, no_walker_struct, owner_no_raw, owner_span, string_view, walker_walker, whole_no_walker, whole_raw, whole_view}
use Rattle.life_elab_laws.proofs.WalkerForms.{IsWalker}
use Rattle.life_elab_laws.proofs.FilledPointers.{pointer_given}

module _ (a : Around) (visible : List ℕ) (types : Types) (texts : ℕ) (fs : List Function) (f : Function) (setting : Setting a types fs f) where
  -- ---- what a member is given

  -- it has a value, is an owner, an iterator or a span, a unique_ptr that is fresh, or a struct
  pub data IsListed (form : Form) : Type 0 where
    a_value_listed : IsWhole a visible types texts fs f setting form → ((typed_in form).ty ≡ TextLiteral → (uses a form).replacing ≡ None) → IsListed form
    an_owner_listed : IsOwning a visible types texts fs f setting form → IsReplaced a visible types texts fs f setting form → IsListed form
    a_walker_listed : IsWalker a visible types texts fs f setting form → IsListed form
    a_unique_listed : IsFresh a visible types texts fs f setting form → IsRenewing a visible types texts fs f setting form → IsListed form
    a_struct_listed : IsAnyStruct a visible types texts fs f setting form → IsListed form

  abbrev pub AreListed : Form → Type 0
  AreListed (e ⨟ es) = IsListed e × AreListed es
  AreListed no_form = Unit {0}
  AreListed _ = ⊥

-- ---- one after the other, however its members are written

module _ (a : Around) (visible : List ℕ) (types : Types) (texts : ℕ) (fs : List Function) (f : Function) (setting : Setting a types fs f) (number : ℕ) (to : Operand) {Writes : State → State → Type 0}
    (ways : IsWriting types texts fs f (ty.Struct number) to Writes) where
  abbrev Stood : State → Type 0
  Stood s = Standing a visible types texts fs f setting s

  -- the struct is a local that stands before
  abbrev Lies : State → Type 0
  Lies s = (n : ℕ) × ((to ≡ Name (whole n)) × (n < length s.locals))

  -- ---- a member

  module _ (m : ℕ) (id : TyId) (there : slice_get (members_at a.program.types number) m ≡ Some id) (e : Form) (behind at : Place) (s : State) (listed : can_be_listed a.program.types id ≡ true) (taken : is_taken a.program.types (Some (type_at a.program.types id)) (typed_in e) ≡ true) (stands : Stood s) (lies : Lies s) where
    abbrev t : Ty
    t = type_at a.program.types id

    abbrev here : Operand
    here = with_member m to

    abbrev u : Uses
    u = uses a e

    -- the struct that it is of
    abbrev P : Gift types texts fs f Operand
    P = a_place types texts fs f (ty.Struct number) false

    later : slice_get (members_at types number) m ≡ Some id
    later = ap (λ (ids : List TyId). slice_get ids m) (setting.members number) ∙ there

    here_typed : IsPlaceOf types texts fs f (ty.Struct number) false to → IsPlaceOf types texts fs f t false here
    here_typed h = member_placed types texts fs f number m id t false to later (member_type_there a.program.types types setting.front id (has_member a.program.types setting.values number m id there)) h

    here_ready : (n : ℕ) (k : List Known) → IsPlace to n k → IsPlace here n k
    here_ready n k q = member_there m to n k q

    -- by its class
    as_class : (k : Class) → class (Some t) ≡ k → Writes s (assigned_by k u t (member_target m to) at behind s) → Writes s (assigned u t (member_target m to) at behind s)
    as_class k is w = subst (λ (k : Class). Writes s (assigned_by k u t (member_target m to) at behind s)) (sym is) w

    -- ---- the instructions that store something in it

    value_stores : (r : ℕ) → Stores types texts fs f (ty.Struct number) to (a_number types texts fs f t) r at (Save here r)
    value_stores r = record {
      part = λ s. saved_part types texts fs f (both types texts fs f P (a_number types texts fs f t)) (to, r) t r here at s (λ h. h.1) (λ h. here_typed h.0) (λ n k q. (q.1, here_ready n k q.0));
      kept = λ x n k blank q. held_stays a visible types texts fs f setting x r n k blank q;
      seen = λ n k q z m. absurd m;
    }

    struct_stores : (which : ℕ) (constant : Bool) (from : Operand) → t ≡ ty.Struct which → Stores types texts fs f (ty.Struct number) to (a_place types texts fs f (ty.Struct which) constant) from at (Copy here from)
    struct_stores which constant from same = record {
      part = λ s.
          struct_copies_part types texts fs f setting.structs (both types texts fs f P (a_place types texts fs f (ty.Struct which) constant)) (to, from) which (setting.copies which (listed_copied a.program.types setting.values.ordered id which same listed)) constant here from at s
          (λ h. (subst (λ (y : Ty). IsPlaceOf types texts fs f y false here) same (here_typed h.0), h.1)) (λ n k q. (here_ready n k q.0, q.1));
      kept = λ x n k blank q. place_ready a visible types texts fs f setting x from n k blank q;
      seen = λ n k q z m. absurd m;
    }

    copy_stores : (constant : Bool) (from : Operand) → is_owner_of_values a.program.types t ≡ true → Stores types texts fs f (ty.Struct number) to (a_place types texts fs f t constant) from at (Copy here from)
    copy_stores constant from owner = record {
      part = λ s.
          copies_part types texts fs f (both types texts fs f P (a_place types texts fs f t constant)) (to, from) a.program.types t constant here from at s owner
          (λ h. (here_typed h.0, h.1)) (λ n k q. (here_ready n k q.0, q.1));
      kept = λ x n k blank q. place_ready a visible types texts fs f setting x from n k blank q;
      seen = λ n k q z m. absurd m;
    }

    move_stores : (y : ℕ) (place : Place) → is_owner_of_values a.program.types t ≡ true → Stores types texts fs f (ty.Struct number) to (a_source types texts fs f t) y place (Move here y)
    move_stores y place owner = record {
      part = λ s.
          moves_part types texts fs f (both types texts fs f P (a_source types texts fs f t)) (to, y) t here y place s (owner_moves a.program.types t owner)
          (λ h. (here_typed h.0, h.1)) (λ n k q. (here_ready n k q.0, q.1)) (member_apart types texts fs f m y to);
      kept = λ x n k blank q. place_ready a visible types texts fs f setting x (object_named y) n k blank q;
      seen = λ n k q z m. named_ready a visible types texts fs f setting (object_named y) n k q z m;
    }

    -- a pointer is given what shows one
    pointer_member : is_location t ≡ true → IsShown a visible types texts fs f setting e t → Writes s (assigned u t (member_target m to) at behind s)
    pointer_member loc shown =
        as_class classes.Pointer (location_class t loc)
        (pointer_given a visible types texts fs f setting number to lies.0 m lies.1.0 t shown.source loc shown.taken typed u.place ways s (pointing u s) stands.opened lies.1.1 (shown.points s stands))
      where
        typed : IsPlaceOf types texts fs f (ty.Struct number) false to → type_in types f (location_in here) ≡ t
        typed h = type_in_member types texts fs f t m to (whole lies.0) lies.1.0 loc (here_typed h).typed

    -- ---- what it is given

    -- a value is saved there
    value_member : IsWhole a visible types texts fs f setting e → is_value t ≡ true → is_number (typed_in e).ty ≡ true → Writes s (assigned u t (member_target m to) at behind s)
    value_member is v n =
        let w = value u behind t None s in
        as_class classes.Value (value_class t v) (ways.behind s w (a_number types texts fs f t) at (Save here w.given) stands.opened (is.valued n behind t v None s tt stands) (value_stores w.given))

    -- a struct is copied, from its place or from a temporary
    struct_member : (which : ℕ) → t ≡ ty.Struct which → IsAnyStruct a visible types texts fs f setting e → Writes s (assigned u t (member_target m to) at behind s)
    struct_member which same from =
        let of = as_struct a visible types texts fs f setting e which from (subst (λ (y : Ty). is_taken a.program.types (Some y) (typed_in e) ≡ true) same taken) in
        let w = struct_at u.category u (ty.Struct which) s in
        as_class classes.Aggregate (ap (λ (y : Ty). class (Some y)) same)
        (subst (λ (y : Ty). Writes s (acted (struct_by u.category u y s) (member_target m to) at)) (sym same)
        (subst (λ (g : Gives Act). Writes s (acted g (member_target m to) at)) (sym (struct_by_at u.category u (ty.Struct which) s))
        (ways.behind s w (a_place types texts fs f (ty.Struct which) of.constant) at (Copy here w.given) stands.opened (of.found (struct_tabled a.program.types id which same) s stands) (struct_stores which of.constant w.given same))))

    -- ---- an owner

    module _ (owner : is_owner_of_values a.program.types t ≡ true) where
      as_owner : (c : Category) → (typed_in e).category ≡ c → Writes s (acted (owner_by c u t s) (member_target m to) at) → Writes s (assigned u t (member_target m to) at behind s)
      as_owner c is w =
          as_class classes.Owner (owner_class a.program.types t owner)
          (subst (λ (c : Category). Writes s (acted (owner_by c u t s) (member_target m to) at)) (sym is ∙ held_typed a visible types texts fs f setting e) w)

      -- one that is made is moved there out of its temporary
      built_member : (typed_in e).category ≡ category.Value → u.replacing ≡ None → Builds a visible types texts fs f setting t s (u.object s) → Writes s (assigned u t (member_target m to) at behind s)
      built_member held plain builds =
          let w = temporary_of u t s in
          let made = temporary_source a visible types texts fs f setting t u.place s (u.object s) (inl owner) builds stands in
          as_owner category.Value held
          (subst (λ (r : Option (State → Gives Act)). Writes s (acted (replaced_by r (temporary_of u t) s) (member_target m to) at)) (sym plain)
          (ways.behind s w (a_source types texts fs f t) at (Move here w.given) stands.opened made (move_stores w.given at owner)))

      -- .. one that is moved out of a variable comes from there
      moved_member : (typed_in e).category ≡ category.Value → {name : Option ℕ} → IsMovingAt a visible types texts fs f setting name (typed_in e).ty u.replacing → Writes s (assigned u t (member_target m to) at behind s)
      moved_member held moves =
          let y = variable s moves.number in
          let alike : moves.from.ty ≡ t = given_moved a visible types texts fs f setting t moves.from.ty (typed_in e) (owner_moves a.program.types t owner) moves.from.owner moves.typed taken in
          let made =
          subst (λ (w : Ty). Makes types texts fs f None s (gives y s) (a_source types texts fs f w)) alike
          (source_part a visible types texts fs f setting moves.number moves.moved moves.from moves.seen s stands) in
          as_owner category.Value held
          (subst (λ (r : Option (State → Gives Act)). Writes s (acted (replaced_by r (temporary_of u t) s) (member_target m to) at)) (sym moves.replaces)
          (ways.behind s (gives y s) (a_source types texts fs f t) moves.place (Move here y) stands.opened made (move_stores y moves.place owner)))

      -- .. of a literal
      literal_member : IsWhole a visible types texts fs f setting e → ((typed_in e).ty ≡ TextLiteral → u.replacing ≡ None) → Writes s (assigned u t (member_target m to) at behind s)
      literal_member whole plain =
          let literal = given_literal a visible types texts fs f setting e whole t owner taken in
          built_member literal.1 (plain literal.0) (literal_object a visible types texts fs f setting e whole t owner taken s stands)

      owner_member : IsOwning a visible types texts fs f setting e → IsReplaced a visible types texts fs f setting e → Writes s (assigned u t (member_target m to) at behind s)
      owner_member (is_made from) (inl plain) =
          built_member from.value plain
          (subst (λ (w : Ty). Builds a visible types texts fs f setting w s (u.object s)) (given_owner a.program.types t from.ty (typed_in e) owner from.owner from.is taken) (from.builds s stands))
      owner_member (is_made from) (inr moves) = moved_member from.value moves
      owner_member (stands_there from) replaced =
          let w = u.at s in
          let alike = given_owner a.program.types t from.ty (typed_in e) owner from.owner from.is taken in
          let made = subst (λ (y : Ty). Makes types texts fs f None s w (a_place types texts fs f y from.constant)) alike (from.names s stands) in
          as_owner (category.Place from.id from.constant) from.place
          (ways.behind s w (a_place types texts fs f t from.constant) at (Copy here w.given) stands.opened made (copy_stores from.constant w.given owner))

    -- ---- a unique_ptr

    unique_member : (target : TyId) → t ≡ ty.Unique target → (typed_in e).category ≡ category.Value → Writes s (acted (replaced_by u.replacing (temporary_of u (ty.Unique target)) s) (member_target m to) at) → Writes s (assigned u t (member_target m to) at behind s)
    unique_member target same held w =
        subst (λ (y : Ty). Writes s (assigned u y (member_target m to) at behind s)) (sym same)
        (subst (λ (c : Category). Writes s (acted (owner_by c u (ty.Unique target) s) (member_target m to) at)) (sym held ∙ held_typed a visible types texts fs f setting e) w)

    one_member : IsListed a visible types texts fs f setting e → Writes s (assigned u t (member_target m to) at behind s)
    one_member is = go t refl (held_is a.program.types t (has_member a.program.types setting.values number m id there)) is
      where
        taken_as : (y : Ty) → t ≡ y → is_taken a.program.types (Some y) (typed_in e) ≡ true
        taken_as y same = subst (λ (y : Ty). is_taken a.program.types (Some y) (typed_in e) ≡ true) same taken

        no_number : (y : Ty) → (typed_in e).ty ≡ Of y → is_value y ≡ false → is_number (typed_in e).ty ≡ true → ⊥
        no_number y is none n = false≢true (sym none ∙ sym (ap is_number is) ∙ n)

        fits_as : (y z : Ty) → t ≡ y → (typed_in e).ty ≡ Of z → fits_at_all (fits a.program.types y (Of z) (typed_in e).category) ≡ true
        fits_as y z same is = subst (λ (x : ExprType). fits_at_all (fits a.program.types y x (typed_in e).category) ≡ true) is (taken_as y same)

        its : IsAnyStruct a visible types texts fs f setting e → (number : ℕ) × ((typed_in e).ty ≡ Of (ty.Struct number))
        its from = struct_typed a visible types texts fs f setting e from

        owned : IsOwning a visible types texts fs f setting e → IsOwner a visible types texts fs f setting e
        owned owner = owning_owner a visible types texts fs f setting e owner

        unique_as : (y : Ty) → t ≡ y → (from : IsFresh a visible types texts fs f setting e) → fits_at_all (fits a.program.types y (Of (ty.Unique from.owned)) (typed_in e).category) ≡ true
        unique_as y same from = fits_as y (ty.Unique from.owned) same from.is

        shows : (y : Ty) → t ≡ y → is_location y ≡ true → IsShown a visible types texts fs f setting e y → Writes s (assigned u t (member_target m to) at behind s)
        shows y same loc shown = pointer_member (ap is_location same ∙ loc) (subst (IsShown a visible types texts fs f setting e) (sym same) shown)

        go : (y : Ty) → t ≡ y → IsHeld a.program.types y → IsListed a visible types texts fs f setting e → Writes s (assigned u t (member_target m to) at behind s)
        go y same (a_value_held v) (a_value_listed whole plain) = let w = ap is_value same ∙ v in value_member whole w (taken_number a.program.types t (typed_in e) w taken)
        go y same (a_value_held v) (an_owner_listed owner way) = let w = ap is_value same ∙ v in let n = taken_number a.program.types t (typed_in e) w taken in value_member (giving_number a visible types texts fs f setting e (inr owner) n) w n
        go y same (a_value_held v) (a_walker_listed from) = absurd (no_number from.ty from.is (walker_is a.program.types from.ty from.walker).value (taken_number a.program.types t (typed_in e) (ap is_value same ∙ v) taken))
        go y same (a_value_held v) (a_struct_listed from) = absurd (no_number (ty.Struct (its from).0) (its from).1 refl (taken_number a.program.types t (typed_in e) (ap is_value same ∙ v) taken))
        go y same (a_value_held v) (a_unique_listed from renews) = absurd (no_number (ty.Unique from.owned) from.is refl (taken_number a.program.types t (typed_in e) (ap is_value same ∙ v) taken))
        go y same (a_raw_held target constant raw w) (a_value_listed whole plain) =
            shows (ty.Raw target constant) (same ∙ raw) refl (whole_raw a visible types texts fs f setting e whole target constant w (taken_as (ty.Raw target constant) (same ∙ raw)))
        go y same (a_raw_held target constant raw w) (an_owner_listed owner way) = absurd (owner_no_raw a visible types texts fs f setting e (owned owner) target constant (taken_as (ty.Raw target constant) (same ∙ raw)))
        go y same (a_raw_held target constant raw w) (a_walker_listed from) = absurd (no_raw_walker a visible types texts fs f setting e from target constant w (taken_as (ty.Raw target constant) (same ∙ raw)))
        go y same (a_raw_held target constant raw w) (a_struct_listed from) = absurd (no_raw_struct a visible types texts fs f setting e (its from).0 (its from).1 target constant (taken_as (ty.Raw target constant) (same ∙ raw)))
        go y same (a_raw_held target constant raw w) (a_unique_listed from renews) = absurd (false≢true (unique_as (ty.Raw target constant) (same ∙ raw) from))
        go y same (a_view_held view) (a_value_listed whole plain) = shows ty.View (same ∙ view) refl (whole_view a visible types texts fs f setting e whole (taken_as ty.View (same ∙ view)))
        go y same (a_view_held view) (an_owner_listed owner way) = shows ty.View (same ∙ view) refl (string_view a visible types texts fs f setting e (owned owner) (taken_as ty.View (same ∙ view)))
        go y same (a_view_held view) (a_walker_listed from) = absurd (no_view_walker a visible types texts fs f setting e from (taken_as ty.View (same ∙ view)))
        go y same (a_view_held view) (a_struct_listed from) = absurd (no_view_struct a visible types texts fs f setting e (its from).0 (its from).1 (taken_as ty.View (same ∙ view)))
        go y same (a_view_held view) (a_unique_listed from renews) = absurd (false≢true (unique_as ty.View (same ∙ view) from))
        go y same (a_walker_held w) (a_value_listed whole plain) = absurd (whole_no_walker a visible types texts fs f setting e whole y w (taken_as y same))
        go y same (a_walker_held w) (an_owner_listed owner way) = shows y same (walker_is a.program.types y w).location (owner_span a visible types texts fs f setting e (owned owner) y w (taken_as y same))
        go y same (a_walker_held w) (a_walker_listed from) = shows y same (walker_is a.program.types y w).location (walker_walker a visible types texts fs f setting e from y w (taken_as y same))
        go y same (a_walker_held w) (a_struct_listed from) = absurd (no_walker_struct a visible types texts fs f setting e (its from).0 (its from).1 y w (taken_as y same))
        go y same (a_walker_held w) (a_unique_listed from renews) = absurd (walker_no_unique_given a.program.types y w from.owned (typed_in e).category (unique_as y same from))
        go y same (an_owner_held o) (a_value_listed whole plain) = literal_member (ap (is_owner_of_values a.program.types) same ∙ o) whole plain
        go y same (an_owner_held o) (an_owner_listed owner way) = owner_member (ap (is_owner_of_values a.program.types) same ∙ o) owner way
        go y same (an_owner_held o) (a_walker_listed from) = absurd (no_owner_given a.program.types y o from.ty (walker_is a.program.types from.ty from.walker).owner (typed_in e).category (fits_as y from.ty same from.is))
        go y same (an_owner_held o) (a_struct_listed from) = absurd (no_owner_given a.program.types y o (ty.Struct (its from).0) refl (typed_in e).category (fits_as y (ty.Struct (its from).0) same (its from).1))
        go y same (an_owner_held o) (a_unique_listed from renews) = absurd (no_owner_given a.program.types y o (ty.Unique from.owned) refl (typed_in e).category (unique_as y same from))
        go y same (a_struct_held which is) (a_value_listed whole plain) = absurd (giving_no_struct a visible types texts fs f setting e (inl whole) which (taken_as (ty.Struct which) (same ∙ is)))
        go y same (a_struct_held which is) (an_owner_listed owner way) = absurd (giving_no_struct a visible types texts fs f setting e (inr owner) which (taken_as (ty.Struct which) (same ∙ is)))
        go y same (a_struct_held which is) (a_walker_listed from) = absurd (walker_no_struct_given a.program.types from.ty from.walker which (typed_in e).category (fits_as (ty.Struct which) from.ty (same ∙ is) from.is))
        go y same (a_struct_held which is) (a_struct_listed from) = struct_member which (same ∙ is) from
        go y same (a_struct_held which is) (a_unique_listed from renews) = absurd (false≢true (unique_as (ty.Struct which) (same ∙ is) from))
        go y same (a_unique_held target unique w) (a_value_listed whole plain) =
            unique_member target (same ∙ unique) (given_null a visible types texts fs f setting (typed_in e) whole.kind.kind target (taken_as (ty.Unique target) (same ∙ unique))).1
            (null_given a visible types texts fs f setting number to ways m id there target (same ∙ unique) w e at s (taken_as (ty.Unique target) (same ∙ unique)) stands lies whole)
        go y same (a_unique_held target unique w) (an_owner_listed owner way) =
            let o = owned owner in absurd (owner_no_unique_given a.program.types o.ty o.owner target (typed_in e).category (fits_as (ty.Unique target) o.ty (same ∙ unique) o.is))
        go y same (a_unique_held target unique w) (a_walker_listed from) = absurd (unique_no_walker_given a.program.types from.ty from.walker target (typed_in e).category (fits_as (ty.Unique target) from.ty (same ∙ unique) from.is))
        go y same (a_unique_held target unique w) (a_struct_listed from) = absurd (false≢true (fits_as (ty.Unique target) (ty.Struct (its from).0) (same ∙ unique) (its from).1))
        go y same (a_unique_held target unique w) (a_unique_listed from renews) =
            unique_member target (same ∙ unique) from.value
            (fresh_given a visible types texts fs f setting number to ways m id there target (same ∙ unique) w e at s (taken_as (ty.Unique target) (same ∙ unique)) stands lies from renews)

  -- from one member on
  pub members_written : (m : ℕ) (ids : List TyId) → ((k : ℕ) (id : TyId) → slice_get ids k ≡ Some id → slice_get (members_at a.program.types number) (m + k) ≡ Some id) → (es : Form) (d : DelimitersForm) (s : State)
      → AreListed a visible types texts fs f setting es → are_each a.program.types ids es ≡ true → Stood s → Lies s → Writes s (assigned_members a m ids to (all_uses a es) d s)
  members_written m [] each no_form d s given all stands lies = ways.none s
  members_written m [] each (e ⨟ es) d s given all stands lies = absurd (false≢true all)
  members_written m (id ∷ ids) each no_form d s given all stands lies = absurd (false≢true all)
  members_written m (id ∷ ids) each (e ⨟ es) d s given all stands lies =
      let parts = and_parts (can_be_listed a.program.types id && is_taken a.program.types (Some (type_at a.program.types id)) (typed_in e)) (are_each a.program.types ids es) all in
      let both = and_parts (can_be_listed a.program.types id) (is_taken a.program.types (Some (type_at a.program.types id)) (typed_in e)) parts.0 in
      let r = assigned (uses a e) (type_of a id) (member_target m to) (uses a e).place (behind_first d) s in
      let here : m + zero ≡ m = omega arith in
      let first = one_member m id (subst (λ (n : ℕ). slice_get (members_at a.program.types number) n ≡ Some id) here (each zero id refl)) e (behind_first d) (uses a e).place s both.0 both.1 stands lies given.0 in
      ways.chained s r (assigned_members a (suc m) ids to (all_uses a es) (behind_others d) r) stands.opened first
      (members_written (suc m) ids (λ k y at. let next : m + suc k ≡ suc m + k = omega arith in subst (λ (n : ℕ). slice_get (members_at a.program.types number) n ≡ Some y) next (each (suc k) y at)) es (behind_others d) r given.1 parts.1
      (stands_later a visible s r (ways.grows s r first) stands)
      (let lower = lies.1.1 in let more = (ways.grows s r first).count in (lies.0, (lies.1.0, omega (arith, lower, more)))))
  members_written m [] each _ d s given all stands lies = absurd given
  members_written m (id ∷ ids) each _ d s given all stands lies = absurd given
