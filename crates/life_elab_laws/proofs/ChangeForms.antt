-- Members that change an owner: `push_back`, `pop_back`, `clear` and `reserve`, each of which stands alone.
use Rattle.std.proofs.Common.{◌≡◌, ℕ, Bool, true, false, cond, List, [], ◌∷◌, Option, Some, None, refl, sym, ap, ◌∙◌, subst}
use Rattle.std.proofs.lemmas.Bool.{and_parts, false≢true}
use Rattle.life_elab_laws.proofs.FormKinds.{is_changing}
use Rattle.life_elab_laws.proofs.ObjectTypes.{is_owner_of_values}
use Rattle.life_types.specs.TypeTests.{is_void}
use Rattle.life_types.specs.Types.{Types, class}
use Rattle.life_types.specs.declared.place.Place.{Place}
use Rattle.life_types.specs.declared.ty.Ty.{Ty}
use Rattle.life_types.specs.declared.ty.Ty.TheVariants as ty
use Rattle.life_typed.specs.Delimiters.{DelimitersForm, behind_first}
use Rattle.life_typed.specs.Members.{element_type, mutates}
use Rattle.life_typed.specs.TypedForm.{Form, Typed, method, nothing, typed, ◌⨟◌, whole as whole_form}
use Rattle.life_typed.specs.declared.members.MethodParameters.TheVariants as parameters
use Rattle.life_typed.specs.declared.typed_expr.Category.{Category}
use Rattle.life_typed.specs.declared.typed_expr.Category.TheVariants as category
use Rattle.life_typed.specs.declared.typed_expr.ExprType.{ExprType}
use Rattle.life_typed.specs.declared.typed_expr.ExprType.TheVariants.{Of}
use Rattle.life_typed.specs.declared.typed_expr.Method.{Method}
use Rattle.life_typed.specs.declared.typed_expr.Method.TheVariants as methods
use Rattle.life_type_expr.specs.Lists.{is_taken}
use Rattle.life_type_expr.specs.Members.{change_fault}
use Rattle.life_type_expr.specs.Operands.{const_or, is_constant}
use Rattle.life_names.specs.declared.fault.IllKind.{IllKind}
use Rattle.life_core.specs.Function.{Function}
use Rattle.life_core.specs.Operands.{Operand}
use Rattle.life_core.specs.Step.{Change, Changes, Clear, PopBack, PushBack, Reserve}
use Rattle.life_proper.specs.Placed.{is_number_of}
use Rattle.life_proper.specs.WellFormed.{is_change_of}
use Rattle.life_well_typed.specs.Expressions.{typed_in}
use Rattle.life_well_typed.specs.Members.{IsCalled, are_taken}
use Rattle.life_writer.specs.Around.{Around, own_type}
use Rattle.life_writer.specs.ExpressionForms.{all_uses, uses}
use Rattle.life_writer.specs.Giving.{given_over}
use Rattle.life_writer.specs.MethodForms.{changed, pushed_back, reserved}
use Rattle.life_writer.specs.Uses.{own}
use Rattle.life_writer.specs.Using.{operand, value}
use Rattle.life_writer.specs.Writing.{Gives, State, ◌>>◌, emit, gives}
use Rattle.life_elab.specs.SimpleForms.{thrown, thrown_by}
use Rattle.life_elab_laws.proofs.ChangeSteps.{Takes, changes_part, push_takes}
use Rattle.life_elab_laws.proofs.ExpressionForms.{Standing}
use Rattle.life_elab_laws.proofs.Gifts.{a_number, a_place, both, nothing as no_gift, IsPlaceOf}
use Rattle.life_elab_laws.proofs.GivenKinds.{taken_number}
use Rattle.life_elab_laws.proofs.ObjectForms.{IsOwner}
use Rattle.life_elab_laws.proofs.Parts.{Makes, and_part, then_part}
use Rattle.life_elab_laws.proofs.PointerForms.{own_typed}
use Rattle.life_elab_laws.proofs.Setting.{Setting}
use Rattle.life_elab_laws.proofs.TypedKinds.{none_some}
use Rattle.life_elab_laws.proofs.VariablePlaces.{stands_later}
use Rattle.life_elab_laws.proofs.ViewForms.{gives_as, IsAnswer}
use Rattle.life_elab_laws.proofs.PushedElements.{AreGiving, given_pushed, pushing_number}
use Rattle.life_elab_laws.proofs.FreeObjects.{owner_part}

-- what isn't const may be changed
pub no_const : (b : Bool) → ◌≡◌ {A = Option IllKind} (const_or b None) None → b ≡ false
no_const false e = refl
no_const true e = absurd (none_some (sym e))

pub changes_free : (m : Method) (c : Category) → mutates m ≡ true → change_fault m c ≡ None → ◌≡◌ {A = Option IllKind} (const_or (is_constant c) None) None
unfolding change_fault
changes_free m c changes e = sym (ap (λ (b : Bool). cond b (const_or (is_constant c) None) None) changes) ∙ e

module _ (a : Around) (visible : List ℕ) (types : Types) (texts : ℕ) (fs : List Function) (f : Function) (setting : Setting a types fs f) where
  abbrev Writes : State → State → Type 0
  Writes s s' = Makes types texts fs f None s (gives tt s') (no_gift types texts fs f)

  module _ (base : Form) (is : IsOwner a visible types texts fs f setting base) (free : is.constant ≡ false) where
    abbrev object : State → Gives Operand
    object s = operand (uses a base) s

    -- a change that takes nothing
    changed_part : (place : Place) (c : Change) (s : State) → is_change_of types texts fs f is.ty c ≡ true → Takes types f c [] → Standing a visible types texts fs f setting s → Writes s (changed (uses a base) place c s)
    changed_part place c s change takes stands =
        let o = object s in
        let P = a_place types texts fs f is.ty false in
        then_part types texts fs f (no_gift types texts fs f) tt None s o _ P (no_gift types texts fs f) stands.opened (owner_part a visible types texts fs f setting base is free s stands)
        (changes_part types texts fs f P o.given is.ty o.given c [] place o.state (λ h. (h, change, takes)) (λ n k q. (q, tt)))

    -- .. and one that takes a number
    numbered_part : (place : Place) (t : Ty) (number : State → Gives ℕ) (change : ℕ → Change) (s : State) → Standing a visible types texts fs f setting s
        → ((s : State) → Standing a visible types texts fs f setting s → Makes types texts fs f None s (number s) (a_number types texts fs f t))
        → ((r : ℕ) → is_number_of types f t r ≡ true → (is_change_of types texts fs f is.ty (change r) ≡ true) × Takes types f (change r) (r ∷ []))
        → Writes s (object s >> λ o s. number s >> λ n s. emit place (Changes o (change n)) s)
    numbered_part place t number change s stands second formed =
        let o = object s in
        let n = number o.state in
        let P = a_place types texts fs f is.ty false in
        let Q = a_number types texts fs f t in
        let first = owner_part a visible types texts fs f setting base is free s stands in
        then_part types texts fs f (no_gift types texts fs f) tt None s (gives (o.given, n.given) n.state) _ (both types texts fs f P Q) (no_gift types texts fs f) stands.opened
        (and_part types texts fs f (no_gift types texts fs f) tt s o n P Q stands.opened first (second o.state (stands_later a visible s o.state first.grown stands)))
        (changes_part types texts fs f (both types texts fs f P Q) (o.given, n.given) is.ty o.given (change n.given) (n.given ∷ []) place n.state
        (λ h. let c = formed n.given h.1 in (h.0, c.0, c.1)) (λ m k q. (q.0, (q.1, tt))))

    -- ---- `push_back`

    pushed_part : (given : Form) (d : DelimitersForm) (place : Place) (s : State) → AreGiving a visible types texts fs f setting given
        → are_taken a.program.types (parameters.One (element_type a.program.types is.ty)) 0 given ≡ true → Standing a visible types texts fs f setting s
        → Writes s (pushed_back (uses a base) (element_type a.program.types (own (uses a base))) (all_uses a given) d place s)
    pushed_part nothing d place s givings taken stands = absurd (false≢true taken)
    pushed_part (x ⨟ more) d place s givings taken stands =
        subst (λ (u : Ty). Writes s (pushed_back (uses a base) (element_type a.program.types u) (uses a x ∷ all_uses a more) d place s)) (sym (ap own_type (sym (own_typed a visible types texts fs f setting base) ∙ is.is)))
        (go is.ty refl is.owner (and_parts (is_taken a.program.types (Some (element_type a.program.types is.ty)) (typed_in x)) _ taken).0)
      where
        go : (t : Ty) → is.ty ≡ t → is_owner_of_values a.program.types t ≡ true → is_taken a.program.types (Some (element_type a.program.types t)) (typed_in x) ≡ true
            → Writes s (object s >> λ o s. given_over (uses a x) (element_type a.program.types t) (behind_first d) s >> λ n s. emit place (Changes o (PushBack n)) s)
        -- a string has characters
        go ty.Text at o taken =
            let number = taken_number a.program.types ty.Char (typed_in x) refl taken in
            numbered_part place ty.Char (value (uses a x) (behind_first d) ty.Char None) PushBack s stands (λ s stands. (pushing_number a visible types texts fs f setting x givings.0 number).valued number (behind_first d) ty.Char refl None s tt stands)
            (λ r h. (ap (λ (u : Ty). is_change_of types texts fs f u (PushBack r)) at ∙ h, push_takes types f ty.Char r h))
        go (ty.Vector item) at o taken =
            let to = object s in
            let P = a_place types texts fs f is.ty false in
            let first = owner_part a visible types texts fs f setting base is free s stands in
            then_part types texts fs f (no_gift types texts fs f) tt None s to _ P (no_gift types texts fs f) stands.opened first
            (given_pushed a visible types texts fs f setting P to.given to.given (λ n k q. q) item (λ h. subst (λ (u : Ty). IsPlaceOf types texts fs f u false to.given) at h) o x (behind_first d) place to.state givings.0 taken
            (stands_later a visible s to.state first.grown stands))
        go _ at o taken = absurd (false≢true o)
    pushed_part _ d place s givings taken stands = absurd givings

    -- ---- `reserve`

    reserved_part : (given : Form) (d : DelimitersForm) (place : Place) (s : State) → AreGiving a visible types texts fs f setting given → are_taken a.program.types (parameters.One ty.Size) 0 given ≡ true
        → ((r : ℕ) → is_number_of types f ty.Size r ≡ true → is_change_of types texts fs f is.ty (Reserve r) ≡ true) → Standing a visible types texts fs f setting s → Writes s (reserved (uses a base) (all_uses a given) d place s)
    reserved_part nothing d place s givings taken change stands = absurd (false≢true taken)
    reserved_part (x ⨟ more) d place s givings taken change stands =
        let number = taken_number a.program.types ty.Size (typed_in x) refl (and_parts (is_taken a.program.types (Some ty.Size) (typed_in x)) _ taken).0 in
        numbered_part place ty.Size (value (uses a x) (behind_first d) ty.Size None) Reserve s stands (λ s stands. (pushing_number a visible types texts fs f setting x givings.0 number).valued number (behind_first d) ty.Size refl None s tt stands)
        (λ r h. (change r h, record { uses = refl; leaves = refl; writes = refl; given = refl }))
    reserved_part _ d place s givings taken change stands = absurd givings

  -- ---- a statement

  -- what has no value is done alone
  pub alone_written : (form : Form) (e : Typed) (behind : Place) (s : State) → e.form ≡ form → IsAnswer (Of ty.Void, category.Value) e → Writes s ((uses a (typed e.place (Of ty.Void) category.Value form)).alone s) → Writes s (thrown e.category (uses a (whole_form e)) behind s)
  alone_written form e behind s same c writes =
      let x = gives_as (Of ty.Void, category.Value) e c in
      subst (Writes s)
      (sym (ap (λ (k : Category). thrown k (uses a (whole_form e)) behind s) x.1
      ∙ ap (λ (y : ExprType). cond (is_void (own_type y)) ((uses a (whole_form e)).alone s) (thrown_by (class (Some (own_type y))) (uses a (whole_form e)) behind s)) x.0
      ∙ ap (λ (y : ExprType). (uses a (typed e.place y e.category e.form)).alone s) x.0
      ∙ ap (λ (k : Category). (uses a (typed e.place (Of ty.Void) k e.form)).alone s) x.1
      ∙ ap (λ (g : Form). (uses a (typed e.place (Of ty.Void) category.Value g)).alone s) same))
      writes

  pub change_part : (base : Form) (m : Method) (given : Form) (d : DelimitersForm) (e : Typed) (behind : Place) (s : State) → e.form ≡ method base m given d → IsOwner a visible types texts fs f setting base
      → AreGiving a visible types texts fs f setting given → is_changing m ≡ true → IsCalled a.program.types (typed_in base).ty (typed_in base).category m given e → Standing a visible types texts fs f setting s
      → Writes s (thrown e.category (uses a (whole_form e)) behind s)
  change_part base m given d e behind s same is givings changing h stands = go is.ty refl is.owner m same changing (subst (λ (x : ExprType). IsCalled a.program.types x (typed_in base).category m given e) is.is h)
    where
      free : const_or (is_constant (typed_in base).category) None ≡ None → is.constant ≡ false
      free none = sym is.told ∙ no_const (is_constant (typed_in base).category) none

      alone : (m : Method) → e.form ≡ method base m given d → IsAnswer (Of ty.Void, category.Value) e → Writes s ((uses a (typed e.place (Of ty.Void) category.Value (method base m given d))).alone s) → Writes s (thrown e.category (uses a (whole_form e)) behind s)
      alone m same c writes = alone_written (method base m given d) e behind s same c writes

      -- the change of this type
      as_change : (t : Ty) → is.ty ≡ t → (c : Change) → is_change_of types texts fs f t c ≡ true → is_change_of types texts fs f is.ty c ≡ true
      as_change t at c h = ap (λ (u : Ty). is_change_of types texts fs f u c) at ∙ h

      pushes : (t : Ty) → is.ty ≡ t → e.form ≡ method base methods.PushBack given d → change_fault methods.PushBack (typed_in base).category ≡ None → are_taken a.program.types (parameters.One (element_type a.program.types t)) 0 given ≡ true
          → IsAnswer (Of ty.Void, category.Value) e → Writes s (thrown e.category (uses a (whole_form e)) behind s)
      pushes t at same fault taken c =
          alone methods.PushBack same c
          (pushed_part base is (free (changes_free methods.PushBack (typed_in base).category refl fault)) given d e.place s givings (subst (λ (u : Ty). are_taken a.program.types (parameters.One (element_type a.program.types u)) 0 given ≡ true) (sym at) taken) stands)

      clears : (t : Ty) → is.ty ≡ t → is_change_of types texts fs f t Clear ≡ true → e.form ≡ method base methods.Clear given d → change_fault methods.Clear (typed_in base).category ≡ None
          → IsAnswer (Of ty.Void, category.Value) e → Writes s (thrown e.category (uses a (whole_form e)) behind s)
      clears t at change same fault c =
          alone methods.Clear same c
          (changed_part base is (free (changes_free methods.Clear (typed_in base).category refl fault)) e.place Clear s (as_change t at Clear change) (record { uses = refl; leaves = refl; writes = refl; given = refl }) stands)

      go : (t : Ty) → is.ty ≡ t → is_owner_of_values a.program.types t ≡ true → (m : Method) → e.form ≡ method base m given d → is_changing m ≡ true → IsCalled a.program.types (Of t) (typed_in base).category m given e → Writes s (thrown e.category (uses a (whole_form e)) behind s)
      go ty.Text at o methods.PushBack same b c = pushes ty.Text at same c.0 c.1 c.2
      go ty.Text at o methods.Clear same b c = clears ty.Text at refl same c.0 c.2
      go ty.Text at o methods.PopBack same b c = absurd (none_some c.2)
      go ty.Text at o methods.Reserve same b c = absurd (none_some c.2)
      go ty.Text at o _ same b c = absurd (false≢true b)
      go (ty.Vector item) at o methods.PushBack same b c = pushes (ty.Vector item) at same c.0 c.1 c.2
      go (ty.Vector item) at o methods.Clear same b c = clears (ty.Vector item) at refl same c.0 c.2
      go (ty.Vector item) at o methods.PopBack same b c =
          alone methods.PopBack same c.2
          (changed_part base is (free (changes_free methods.PopBack (typed_in base).category refl c.0)) e.place PopBack s (as_change (ty.Vector item) at PopBack refl) (record { uses = refl; leaves = refl; writes = refl; given = refl }) stands)
      go (ty.Vector item) at o methods.Reserve same b c =
          alone methods.Reserve same c.2
          (reserved_part base is (free (changes_free methods.Reserve (typed_in base).category refl c.0)) given d e.place s givings c.1 (λ r h. as_change (ty.Vector item) at (Reserve r) h) stands)
      go (ty.Vector item) at o _ same b c = absurd (false≢true b)
      go _ at o m same b c = absurd (false≢true o)
