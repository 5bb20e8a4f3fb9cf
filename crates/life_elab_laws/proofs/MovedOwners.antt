-- An owner that is moved out of a variable, as what another one is made of or as what is assigned to it.
use Rattle.std.specs.Prelude.{◌==◌}
use Rattle.std.proofs.Common.{◌≡◌, ℕ, Bool, true, false, if◌then◌else◌, arith, List, Contains, length, slice_get, Option, Some, None, Ok, refl, sym, ap, ◌∙◌, subst, unwrap_or, Err}
use Rattle.std.proofs.lemmas.Bool.{false≢true}
use Rattle.std.proofs.lemmas.Bool.Decides.{nat_tests}
use Rattle.life_elab_laws.proofs.ObjectTypes.{is_owner_of_values, is_walker_of_values}
use Rattle.life_elab_laws.proofs.TypeKinds.{owns_elements}
use Rattle.life_types.specs.Types.{Types, class}
use Rattle.life_types.specs.declared.place.Place.{Place}
use Rattle.life_types.specs.declared.ty.Ty.{Ty}
use Rattle.life_types.specs.declared.ty.Ty.TheVariants as ty
use Rattle.life_typed.specs.BaseTypes.{type_at}
use Rattle.life_typed.specs.TypedForm.{Typed, move}
use Rattle.life_typed.specs.declared.typed_expr.Category.TheVariants as category
use Rattle.life_typed.specs.declared.typed_expr.ExprType.{ExprType}
use Rattle.life_typed.specs.declared.typed_expr.ExprType.TheVariants.{Of}
use Rattle.life_typed.specs.declared.typed_program.TypedLocal.{TypedLocal}
use Rattle.life_type_expr.specs.Operands.{const_or, move_fault_of, moved_unless, value as value_typed}
use Rattle.life_type_stmt.specs.Simples.{onto_itself}
use Rattle.life_names.specs.declared.fault.IllKind.{IllKind}
use Rattle.life_names.specs.declared.fault.IllKind.TheVariants as kinds
use Rattle.life_core.specs.Function.{Function}
use Rattle.life_core.specs.Operands.{Operand, object_named}
use Rattle.life_core.specs.declared.program.LocalKind.{LocalKind}
use Rattle.life_core.specs.declared.program.LocalKind.TheVariants.{Object, Range, Register}
use Rattle.life_proper.specs.WellFormed.{is_itself}
use Rattle.life_well_typed.specs.Expressions.{IsMoved, IsVariable}
use Rattle.life_writer.specs.Around.{Around}
use Rattle.life_writer.specs.OwnerForms.{moved_out_of}
use Rattle.life_writer.specs.Variables.{kind as local_kind, place_of_kind, variable, variable_place}
use Rattle.life_writer.specs.Writing.{Gives, State, gives}
use Rattle.life_elab_laws.proofs.ExpressionForms.{Standing}
use Rattle.life_elab_laws.proofs.ExpressionKinds.{variable_built}
use Rattle.life_elab_laws.proofs.FormedVariables.{object_formed}
use Rattle.life_elab_laws.proofs.Gifts.{a_place, both, nothing as no_gift}
use Rattle.life_elab_laws.proofs.Making.{IsPlace}
use Rattle.life_elab_laws.proofs.MoveSteps.{moves_part, owner_moves, a_source}
use Rattle.life_elab_laws.proofs.ObjectForms.{other_number}
use Rattle.life_elab_laws.proofs.Parts.{Makes, Part, and_part, gives_part, leaf_part, then_part}
use Rattle.life_elab_laws.proofs.Setting.{Setting}
use Rattle.life_elab_laws.proofs.TypedKinds.{err_ok, none_some, ok_same}
use Rattle.life_elab_laws.proofs.Values.{by_owners, by_values, by_walkers}
use Rattle.life_elab_laws.proofs.FormedFits.{same_id, tested_as}
use Rattle.life_elab_laws.proofs.VariablePlaces.{a_raw, a_reference, a_struct, a_unique, a_value, a_view, a_walker, an_alias, an_owner, IsVariableAt, IsVariableType, kind_is, place_is, variable_there, variable_type, a_struct_alias}
use Rattle.life_proper.specs.OperandTypes.{is_owner}
use Rattle.life_type_expr.specs.Lists.{fits_at_all}
use Rattle.life_typed.specs.Conversions.{fits, is_place, unless}
use Rattle.life_typed.specs.declared.misfit.Misfit.TheVariants.{Copy, General}
use Rattle.life_types.specs.contracts.ty.TyIdPartialEq.TheImpl.{ghosts as id}
use Rattle.life_types.specs.TypeTests.{is_reference}
use Rattle.life_well_typed.specs.Given.{is_given}
use Rattle.life_elab_laws.proofs.TemporaryEnds.{named_result}

module _ (a : Around) (visible : List ℕ) (types : Types) (texts : ℕ) (fs : List Function) (f : Function) (setting : Setting a types fs f) where
  abbrev Stood : State → Type 0
  Stood s = Standing a visible types texts fs f setting s

  -- ---- what is moved

  -- an expression moves an owner out of the variable with a number
  pub record IsMovedFrom (x : ℕ) (e : Typed) : Type 0 where
    pub source : TypedLocal
    pub found : slice_get a.function.locals x ≡ Some source
    pub ty : Ty
    pub at : slice_get a.program.types.types source.ty.0 ≡ Some ty
    pub owner : is_owner ty ≡ true
    -- it is no unique_ptr, where it has elements
    pub held : owns_elements ty ≡ true → is_owner_of_values a.program.types ty ≡ true
    pub is : e.ty ≡ Of ty
    pub value : e.category ≡ category.Value

  abbrev Moves : (x : ℕ) (e : Typed) (l : TypedLocal) → Option IllKind → Type 0
  Moves x e l fault = moved_unless fault a.program.types e.place (x, l) ≡ Ok e

  -- nothing else is moved
  pub moved_from_variable : (x : ℕ) (e : Typed) → IsMoved a.program.types x (slice_get a.function.locals x) e → IsMovedFrom x e
  moved_from_variable x e h = go (slice_get a.function.locals x) refl h
    where
      go : (o : Option TypedLocal) → slice_get a.function.locals x ≡ o → IsMoved a.program.types x o e → IsMovedFrom x e
      go None found h = absurd h
      go (Some l) found h = kind (variable_type a.program.types l.ty (variable_built a.program.types a.function.locals x l setting.variables found))
        where
          moves : (t : Ty) → slice_get a.program.types.types l.ty.0 ≡ Some t → Moves x e l (move_fault_of t l.constant)
          moves t at = sym (ap (λ (o : Option Ty). moved_unless (move_fault_of (unwrap_or o ty.Void) l.constant) a.program.types e.place (x, l)) at) ∙ h

          refused : (c : Bool) (k : IllKind) → Moves x e l (const_or c (Some k)) → ⊥
          refused true k is = err_ok is
          refused false k is = err_ok is

          taken : (c : Bool) → Moves x e l (const_or c None) → value_typed e.place (type_at a.program.types l.ty) (move x) ≡ e
          taken true is = absurd (err_ok is)
          taken false is = ok_same is

          no_walker : (t : Ty) → is_walker_of_values a.program.types t ≡ true → Moves x e l (move_fault_of t l.constant) → ⊥
          no_walker = by_walkers a.program.types _ (λ target constant is. refused l.constant kinds.Unsupported is) (λ target constant is. refused l.constant kinds.Unsupported is)

          an_owner_taken : (t : Ty) → is_owner_of_values a.program.types t ≡ true → Moves x e l (move_fault_of t l.constant) → value_typed e.place (type_at a.program.types l.ty) (move x) ≡ e
          an_owner_taken = by_owners a.program.types _ (λ is. taken l.constant is) (λ item is. taken l.constant is)

          made : (t : Ty) → slice_get a.program.types.types l.ty.0 ≡ Some t → is_owner t ≡ true → (owns_elements t ≡ true → is_owner_of_values a.program.types t ≡ true) → value_typed e.place (type_at a.program.types l.ty) (move x) ≡ e → IsMovedFrom x e
          made t at o values same = record {
            source = l;
            found = found;
            ty = t;
            at = at;
            owner = o;
            held = values;
            is = sym (ap (λ (y : Typed). y.ty) same) ∙ ap (λ (o : Option Ty). Of (unwrap_or o ty.Void)) at;
            value = sym (ap (λ (y : Typed). y.category) same);
          }

          kind : IsVariableType a.program.types l.ty → IsMovedFrom x e
          kind (a_value t at w) = absurd (by_values (λ u. Moves x e l (move_fault_of u l.constant) → ⊥) (refused l.constant kinds.Unsupported) (refused l.constant kinds.Unsupported) (refused l.constant kinds.Unsupported) (refused l.constant kinds.Unsupported) (refused l.constant kinds.Unsupported) t w (moves t at))
          kind (a_raw target constant at w) = absurd (refused l.constant kinds.Unsupported (moves (ty.Raw target constant) at))
          kind (a_reference target constant at w) = absurd (refused constant kinds.Unsupported (moves (ty.Reference target constant) at))
          kind (an_alias target constant at o) = absurd (refused constant kinds.Unsupported (moves (ty.Reference target constant) at))
          kind (a_struct_alias target constant number at structure pointless) = absurd (refused constant kinds.Unsupported (moves (ty.Reference target constant) at))
          kind (a_view at) = absurd (refused l.constant kinds.Unsupported (moves ty.View at))
          kind (a_walker t at w) = absurd (no_walker t w (moves t at))
          kind (a_struct number at) = absurd (refused l.constant kinds.Unsupported (moves (ty.Struct number) at))
          kind (a_unique target at w) = made (ty.Unique target) at refl (λ n. absurd (false≢true n)) (taken l.constant (moves (ty.Unique target) at))
          kind (an_owner t at o) = made t at (owner_moves a.program.types t o) (λ n. o) (an_owner_taken t o (moves t at))

  -- it is an object, and no reference
  pub moved_kind : (t : Ty) → is_owner t ≡ true → local_kind (class (Some t)) ≡ Object
  moved_kind ty.Text o = refl
  moved_kind (ty.Vector item) o = refl
  moved_kind (ty.Unique target) o = refl
  moved_kind _ o = absurd (false≢true o)

  pub moved_plain : (t : Ty) → is_owner t ≡ true → is_reference t ≡ false
  moved_plain ty.Text o = refl
  moved_plain (ty.Vector item) o = refl
  moved_plain (ty.Unique target) o = refl
  moved_plain _ o = absurd (false≢true o)

  -- what is given it has its type
  pub given_moved : (t u : Ty) (e : Typed) → is_owner t ≡ true → is_owner u ≡ true → e.ty ≡ Of u → is_given a.program.types t e ≡ true → u ≡ t
  given_moved t u e o own is given = go t u o own (subst (λ (x : ExprType). fits_at_all (fits a.program.types t x e.category) ≡ true) is given)
    where
      tested_first : (b : Bool) → fits_at_all (if b then unless (is_place e.category) Copy else Err General) ≡ true → b ≡ true
      tested_first true h = refl
      tested_first false h = absurd (false≢true h)

      go : (t u : Ty) → is_owner t ≡ true → is_owner u ≡ true → fits_at_all (fits a.program.types t (Of u) e.category) ≡ true → u ≡ t
      go ty.Text ty.Text o own h = refl
      go ty.Text (ty.Vector found) o own h = absurd (false≢true h)
      go ty.Text (ty.Unique found) o own h = absurd (false≢true h)
      go ty.Text _ o own h = absurd (false≢true own)
      go (ty.Vector item) (ty.Vector found) o own h = ap ty.Vector (same_id found item (tested_as (id.eq found item) h))
      go (ty.Vector item) ty.Text o own h = absurd (false≢true h)
      go (ty.Vector item) (ty.Unique found) o own h = absurd (false≢true h)
      go (ty.Vector item) _ o own h = absurd (false≢true own)
      go (ty.Unique target) (ty.Unique found) o own h = ap ty.Unique (same_id found target (tested_first (id.eq found target) h))
      go (ty.Unique target) ty.Text o own h = absurd (false≢true h)
      go (ty.Unique target) (ty.Vector found) o own h = absurd (false≢true h)
      go (ty.Unique target) _ o own h = absurd (false≢true own)
      go _ u o own h = absurd (false≢true o)

  -- the variable is an object
  module _ (x : ℕ) (e : Typed) (is : IsMovedFrom x e) (c : Contains visible x) where
    pub source_part : (s : State) → Stood s → Makes types texts fs f None s (gives (variable s x) s) (a_source types texts fs f is.ty)
    source_part s stands =
        leaf_part types texts fs f (variable s x) s (a_source types texts fs f is.ty)
        (λ b. (
          object_formed types texts fs f a setting.front s b x is.source v is.ty false is.at (moved_kind is.ty is.owner) (moved_plain is.ty is.owner),
          named_result types texts fs f setting.nameless (variable s x) v.local (b.locals (variable s x) v.local v.there) (λ none. none_some (sym none ∙ v.named)),
        ))
        (λ b k alive. subst (λ (o : Operand). IsPlace o (length s.locals) k) here (variable_there a s x is.source v f k alive))
      where
        v : IsVariableAt a s x is.source
        v = stands.seen x is.source c is.found

        here : variable_place s x ≡ object_named (variable s x)
        here = place_is a s x is.source v Object (kind_is a s x is.source v is.ty is.at ∙ moved_kind is.ty is.owner)

    -- what it owns goes to another object
    pub moved_out_part : (place : Place) (to : Operand) (at : Place) (s : State) → Stood s → is_itself types texts fs f (variable s x) to ≡ false
        → Part types texts fs f (both types texts fs f (no_gift types texts fs f) (a_place types texts fs f is.ty false)) (tt, to) None s (gives tt (moved_out_of place x at to s)) (no_gift types texts fs f)
    moved_out_part place to at s stands apart =
        let Q = a_place types texts fs f is.ty false in
        let D = both types texts fs f (no_gift types texts fs f) Q in
        let from = variable s x in
        let S = a_source types texts fs f is.ty in
        let here = gives_part types texts fs f D (tt, to) None (tt, to) s D (λ b h. h) (λ b k alive h. h) in
        then_part types texts fs f D (tt, to) None s (gives ((tt, to), from) s) _ (both types texts fs f D S) (no_gift types texts fs f) stands.opened
        (and_part types texts fs f D (tt, to) s (gives (tt, to) s) (gives from s) D S stands.opened here (source_part s stands))
        (moves_part types texts fs f (both types texts fs f D S) ((tt, to), from) is.ty to (variable s x) place s is.owner (λ h. (h.0.1, h.1)) (λ n k q. (q.0.1, q.1)) apart)

  -- ---- what is assigned to

  -- two numbers that differ
  other_variable : (n x : ℕ) → onto_itself (Some n) (Some x) ≡ None → n ≡ x → ⊥
  other_variable n x free e = none_some (sym free ∙ ap (λ (m : ℕ). onto_itself (Some m) (Some x)) e ∙ itself x)
    where
      same : (x : ℕ) → (x == x) ≡ true
      same x = grind (arith, nat_tests)

      itself : (x : ℕ) → onto_itself (Some x) (Some x) ≡ Some kinds.Unsupported
      itself x = ap (λ (b : Bool). if b then Some kinds.Unsupported else None) (same x)

  -- it is no variable but the one that it names, if it names one
  pub record IsNamedAt (name : Option ℕ) (at : State → Gives Operand) : Type 0 where
    pub apart : (x : ℕ) (v : TypedLocal) → Contains visible x → slice_get a.function.locals x ≡ Some v → onto_itself name (Some x) ≡ None → (s : State) → Stood s → is_itself types texts fs f (variable s x) (at s).given ≡ false

  pub variable_named : (x : ℕ) (e : Typed) → Contains visible x → IsVariable a.program.types x (slice_get a.function.locals x) e → IsNamedAt (Some x) (λ s. gives (variable_place s x) s)
  variable_named x e c h = go (slice_get a.function.locals x) refl h
    where
      by_kind : (k : LocalKind) (n m : ℕ) → (n ≡ m → ⊥) → is_itself types texts fs f m (place_of_kind k n) ≡ false
      by_kind Object n m other = other_number n m other
      by_kind Register n m other = refl
      by_kind Range n m other = refl

      go : (o : Option TypedLocal) → slice_get a.function.locals x ≡ o → IsVariable a.program.types x o e → IsNamedAt (Some x) (λ s. gives (variable_place s x) s)
      go None found h = absurd h
      go (Some l) found h = record {
        apart = λ y v d there free s stands.
            let z = stands.seen x l c found in
            ap (is_itself types texts fs f (variable s y)) (place_is a s x l z z.local.kind refl) ∙ by_kind z.local.kind (variable s x) (variable s y) (stands.apart x y l v c found d there (other_variable x y free));
      }
