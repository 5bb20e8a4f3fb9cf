-- Instructions on unique_ptrs, variables and members of variables: what they are made to own, what they own, and a pointer to that.
use Rattle.std.proofs.Common.{◌≡◌, inl, inr, ℕ, Bool, true, false, cond, if◌then◌else◌, not, List, [], ◌∷◌, None, length, refl, sym, ap, ◌∙◌, subst}
use Rattle.std.proofs.lemmas.Bool.{and_from, and_parts, false≢true}
use Rattle.std.specs.List.{list_all}
use Rattle.life_types.specs.Pointees.{ty_of}
use Rattle.life_types.specs.TypeTests.{is_constant, is_value}
use Rattle.life_types.specs.Types.{Types}
use Rattle.life_types.specs.declared.place.Place.{Place}
use Rattle.life_types.specs.declared.ty.Ty.{Ty}
use Rattle.life_types.specs.declared.ty.Ty.TheVariants as ty
use Rattle.life_types.specs.declared.ty.TyId.{TyId}
use Rattle.life_typed.specs.BaseTypes.{type_at}
use Rattle.life_typed.specs.declared.typed_expr.Category.TheVariants as category
use Rattle.life_typed.specs.declared.typed_expr.ExprType.TheVariants.{Of}
use Rattle.life_core.specs.Function.{Function}
use Rattle.life_core.specs.Kinds.{is_object_at, is_register_at}
use Rattle.life_core.specs.Operands.{Get, Location, Name, Owner, behind, object_named, whole}
use Rattle.life_core.specs.Step.{Aim, Element, Make}
use Rattle.life_core.specs.Touched.{Touched, made_leaves, made_uses, nothing as no_locals, touched_by}
use Rattle.life_core.specs.declared.instr.Made.{Made}
use Rattle.life_core.specs.declared.instr.Made.TheVariants as made
use Rattle.life_core.specs.declared.operand.Which.TheVariants as which
use Rattle.life_proper.specs.GivenOver.{given_made}
use Rattle.life_proper.specs.OperandTypes.{aims_at, gets, keeps_const, owned_target, same, takes}
use Rattle.life_proper.specs.Placed.{is_const_base, is_given, is_number_of, object_at, register_at, type_in, type_of_element}
use Rattle.life_proper.specs.ReadyKnown.{are_ready, known_after}
use Rattle.life_proper.specs.WellFormed.{is_made_for, is_source_of}
use Rattle.life_proper.specs.declared.known.Known.{Known}
use Rattle.life_proper.specs.declared.known.Known.TheVariants as known
use Rattle.life_proper.proofs.ReadyTests.{both_known, uses_ready}
use Rattle.life_writer.specs.Bases.{element}
use Rattle.life_writer.specs.Pointers.{aimed}
use Rattle.life_writer.specs.Registers.{new_register}
use Rattle.life_writer.specs.Writing.{Gives, State, emit, gives}
use Rattle.life_elab_laws.proofs.ChangeSteps.{register_no_object}
use Rattle.life_elab_laws.proofs.Elements.{element_target, element_there}
use Rattle.life_elab_laws.proofs.Emitting.{new_targeted}
use Rattle.life_elab_laws.proofs.Filling.{all_there}
use Rattle.life_elab_laws.proofs.FormedVariables.{behind_place, reference_there}
use Rattle.life_elab_laws.proofs.Fronts.{IsFront, front_length, last_there}
use Rattle.life_elab_laws.proofs.Gifts.{Gift, IsGivenAs, IsPlaceOf, IsTakenBy, a_place, all_stay, nothing}
use Rattle.life_elab_laws.proofs.Growing.{Begins, added}
use Rattle.life_elab_laws.proofs.Held.{place_there}
use Rattle.life_elab_laws.proofs.Instructions.{acted_typed_part, emit_part}
use Rattle.life_elab_laws.proofs.Making.{AreHeld, IsFilling, IsPlace}
use Rattle.life_elab_laws.proofs.OperandsThere.{register_there, type_either}
use Rattle.life_elab_laws.proofs.OwnerSteps.{place_held}
use Rattle.life_elab_laws.proofs.Parts.{Part}
use Rattle.life_elab_laws.proofs.Shaped.{element_further, PlainStays}
use Rattle.life_elab_laws.proofs.Shaping.{IsFineStep, is_no_object}
use Rattle.life_elab_laws.proofs.ObjectTypes.{is_element, is_target}
use Rattle.life_elab_laws.proofs.Targets.{target_no_void, target_same, target_no_slot}
use Rattle.life_elab_laws.proofs.Types.{type_added}
use Rattle.life_elab_laws.proofs.WrittenLocals.{fits_below, fits_register}

-- the local that a value to own is in, if there is one
abbrev pub made_uses_of : Made → List ℕ
made_uses_of (made.Of r) = r ∷ []
made_uses_of _ = []

module _ (types : Types) (texts : ℕ) (fs : List Function) (f : Function) where
  -- ---- what one is made to own

  -- it fits, and nothing is given over but a number
  pub record IsMadeFor (target : TyId) (what : Made) (used : List ℕ) : Type 0 where
    pub formed : is_made_for types texts fs f (ty.Unique target) what ≡ true
    pub uses : made_uses f what ≡ used
    pub leaves : made_leaves f what ≡ []
    pub given : list_all (is_no_object types f) (given_made what) ≡ true

  pub null_fits : (target : TyId) → IsMadeFor target made.Null []
  null_fits target = record { formed = refl; uses = refl; leaves = refl; given = refl }

  pub zero_fits : (target : TyId) → IsMadeFor target made.Zero []
  zero_fits target = record { formed = refl; uses = refl; leaves = refl; given = refl }

  pub number_fits : (target : TyId) (t : Ty) (r : ℕ) → ty_of types target ≡ t → is_value t ≡ true → is_number_of types f t r ≡ true → IsMadeFor target (made.Of r) (r ∷ [])
  number_fits target t r later v number = record {
    formed =
        ap (λ (u : Ty). cond (is_value u) (is_number_of types f u r) (is_given types f u r)) later
        ∙ ap (λ (b : Bool). cond b (is_number_of types f t r) (is_given types f t r)) v ∙ number;
    uses = ap (λ (b : Bool). cond b [] (r ∷ [])) plain;
    leaves = ap (λ (b : Bool). cond b (r ∷ []) []) plain;
    given = and_from (not (is_object_at f r)) true (ap not plain) refl;
  }
    where
      plain : is_object_at f r ≡ false
      plain = register_no_object f r (and_parts (register_at types f r) _ number).0

  abbrev pub a_made : TyId → Gift types texts fs f Made
  a_made target = record {
    typed = λ m. IsMadeFor target m (made_uses_of m);
    ready = λ m n k. AreHeld (made_uses_of m) n k;
    stays = λ m n o k j h p keeps. all_stay types texts fs f (made_uses_of m) n o k j h p keeps;
  }

  void_unique : (target : TyId) → ty.Void ≡ ty.Unique target → ⊥
  void_unique target e = cc

  -- the type of one, which is a place of an object
  pub lying_type : (target : TyId) (constant : Bool) (l : Location) → IsPlaceOf types texts fs f (ty.Unique target) constant (Name l) → type_in types f l ≡ ty.Unique target
  lying_type target constant l is = go (object_at types f l.local) is.typed
    where
      go : (object : Bool) → (if object then type_in types f l else ty.Void) ≡ ty.Unique target → type_in types f l ≡ ty.Unique target
      go true e = e
      go false e = absurd (void_unique target e)

  -- .. that is a whole variable
  pub named_type : (target : TyId) (constant : Bool) (y : ℕ) → IsPlaceOf types texts fs f (ty.Unique target) constant (object_named y) → type_in types f (whole y) ≡ ty.Unique target
  named_type target constant y is = lying_type target constant (whole y) is

  -- it is made to own something
  make_fine : (target : TyId) (what : Made) (used : List ℕ) (l : Location) → IsPlaceOf types texts fs f (ty.Unique target) false (Name l) → IsMadeFor target what used → IsFineStep types texts fs f (Make l what)
  make_fine target what used l at is = record {
    given = and_from (list_all (is_no_object types f) (given_made what)) true is.given refl;
    formed = ap (λ (t : Ty). is_made_for types texts fs f t what) (lying_type target false l at) ∙ is.formed;
  }

  pub makes_part : {A : Type 0} (P : Gift types texts fs f A) (x : A) (target : TyId) (what : Made) (used : List ℕ) (l : Location) (place : Place) (s : State)
      → (P.typed x → IsPlaceOf types texts fs f (ty.Unique target) false (Name l) × IsMadeFor target what used) → ((n : ℕ) (k : List Known) → P.ready x n k → IsPlace (Name l) n k × AreHeld used n k)
      → Part types texts fs f P x None s (gives tt (emit place (Make l what) s)) (nothing types texts fs f)
  makes_part P x target what used l place s typed ready =
      acted_typed_part types texts fs f P x place (Make l what) s
      (λ p. let is = typed p in (
        make_fine target what used l is.0 is.1,
        λ n k q. let there = ready n k q in (
          ap (are_ready k) (touches is.1) ∙ uses_ready k (l.local ∷ used) [] (both_known known.Ready k (l.local ∷ []) used (place_there (Name l) n k there.0) (all_there used n k there.1)),
          ap (λ (u : Touched). known_after u k) (touches is.1),
        ),
      ))
    where
      touches : IsMadeFor target what used → touched_by f (Make l what) ≡ record no_locals { uses = l.local ∷ used }
      touches is =
          ap (λ (xs : List ℕ). record no_locals { uses = l.local ∷ xs; leaves = made_leaves f what }) is.uses
          ∙ ap (λ (xs : List ℕ). record no_locals { uses = l.local ∷ used; leaves = xs }) is.leaves

  -- ---- a pointer to what it owns

  pub got_given : (target : TyId) (constant : Bool) (from : Location) → is_element types (ty_of types target) ≡ true → IsPlaceOf types texts fs f (ty.Unique target) constant (Name from) → IsGivenAs types texts fs f (Of (ty.Raw target false)) (aimed (Get from))
  got_given target constant from v is = λ u l loc at taken. record {
    given = refl;
    formed =
        ap (λ (w : Ty). is_source_of types texts fs f w (Get from)) at
        ∙ ap (λ (w : Ty). gets types u (owned_target types w)) (lying_type target constant from is) ∙ fits u taken;
  }
    where
      same_of : {t u : Ty} → Of t ≡ Of u → t ≡ u
      same_of e = cc

      taken_by : (u : Ty) → takes types u (ty.Raw target false) ≡ true → gets types u (ty_of types target) ≡ true
      taken_by (ty.Raw found c) e = (and_parts (same (ty_of types found) (ty_of types target)) (keeps_const c false) e).0
      taken_by _ e = absurd (false≢true e)

      fits : (u : Ty) → IsTakenBy types u (Of (ty.Raw target false)) → gets types u (ty_of types target) ≡ true
      fits u (inl e) = subst (λ (w : Ty). gets types w (ty_of types target) ≡ true) (same_of e) (target_same types (ty_of types target) (element_target types (ty_of types target) v))
      fits u (inr e) = taken_by u e

  pub got_filling : (from : Location) (n : ℕ) (k : List Known) → IsPlace (Name from) n k → IsFilling f (λ p. Aim p (Get from)) n k
  got_filling from n k h = record { uses = from.local ∷ []; held = place_held (Name from) n k h; touches = λ x e. refl; parts = λ x m ms. refl; looks = λ l x m. m }

  -- ---- what it owns, which is reached through a register

  pub target_part : (few : Types) (place : Place) (target : TyId) (constant : Bool) (t : Ty) (from : Location) (s : State) → IsFront few.types types.types → PlainStays few types → IsFront few.types s.types.types → type_at few target ≡ t → is_element few t ≡ true
      → Part types texts fs f (a_place types texts fs f (ty.Unique target) constant) (Name from) None s (element place (category.Place target false) (Owner (Name from)) which.Target s) (a_place types texts fs f t false)
  target_part few place target constant t from s front stays table here v =
      emit_part types texts fs f (a_place types texts fs f (ty.Unique target) constant) (Name from) None s w place (λ r. Element (whole r) (Owner (Name from)) which.Target) (behind w.given)
      (a_place types texts fs f t false)
      (new_targeted types f place reference s fits (fits_below few s.types (front_length few.types s.types.types table) reference (ap (is_target few) here ∙ element_target few t v)))
      (λ b h. let at = at_reference b in (
        record {
          given = refl;
          formed =
              and_from (aims_at types (type_in types f (whole w.given)) (type_of_element types f (Owner (Name from)) which.Target)) _
              (ap (λ (u : Ty). aims_at types u (type_of_element types f (Owner (Name from)) which.Target)) at ∙ ap (λ (u : Ty). same (ty_of types target) (owned_target types u)) h.typed
              ∙ ap (λ (u : Ty). same u u) later ∙ target_same few t (element_target few t v))
              (ap (λ (u : Ty). keeps_const (is_constant u) (is_const_base types f (Owner (Name from)))) at);
        },
        behind_place types texts fs f (whole w.given) reference target false t (record { typed = at; kept = kept_reference b }) refl refl refl later (target_no_void few t (element_target few t v)),
      ))
      (λ r n k e p. record { ready = uses_ready k (from.local ∷ []) (r ∷ []) (place_there (Name from) n k p); after = refl })
      (λ k lt e. record { local = w.given; uses = refl; below = lt; held = e })
    where
      reference : Ty
      reference = ty.Reference target false

      w : Gives ℕ
      w = new_register place (ty.Reference target false) s

      later : ty_of types target ≡ t
      later = element_there few types front target (ap (is_element few) here ∙ v) ∙ here

      -- in the finished table it may be pointed to too
      wide : is_target types t ≡ true
      wide = element_target types t (element_further few types front stays t v)

      fits : fits_register types (ty.Reference target false) ≡ true
      fits = ap (is_target types) (sym (type_either types target) ∙ later) ∙ wide

      at_reference : Begins types f (new_register place (ty.Reference target false) s).state → type_in types f (whole (length s.locals)) ≡ ty.Reference target false
      at_reference b =
          let l = added place (ty.Reference target false) s in
          reference_there types f (length s.locals) l target false (b.locals (length s.locals) l (last_there s.locals l)) (b.table l.ty.0 (ty.Reference target false) (type_added s.types.types (ty.Reference target false))) (target_no_slot types (ty_of types target) (ap (is_target types) later ∙ wide))

      kept_reference : Begins types f (new_register place (ty.Reference target false) s).state → is_register_at f (length s.locals) ≡ true
      kept_reference b = let l = added place (ty.Reference target false) s in register_there types f (length s.locals) l (b.locals (length s.locals) l (last_there s.locals l)) refl
