-- An owner that is given back by its name is moved out of its variable, where that is an object itself ([class.copy.elision]).
use Rattle.std.proofs.Common.{◌≡◌, ℕ, true, false, List, [], ◌∷◌, Contains, slice_get, Option, None, Some, refl, sym, ap, ◌∙◌, subst}
use Rattle.std.proofs.lemmas.Bool.{and_parts, false≢true}
use Rattle.std.proofs.lemmas.Option.{none-some, same_Some}
use Rattle.life_elab_laws.proofs.FormKinds.{is_edge, is_read_owner}
use Rattle.life_elab_laws.proofs.TypeKinds.{is_owner_type}
use Rattle.life_types.specs.Types.{Types}
use Rattle.life_types.specs.declared.place.Place.{Place}
use Rattle.life_types.specs.declared.ty.Ty.{Ty}
use Rattle.life_types.specs.declared.ty.Ty.TheVariants as ty
use Rattle.life_typed.specs.Delimiters.{DelimitersForm}
use Rattle.life_typed.specs.TypedForm.{Form, Typed, binary, call, dereference, index, local, member, method, move, paren, text_of, typed}
use Rattle.life_typed.specs.declared.typed_expr.Category.{Category}
use Rattle.life_typed.specs.declared.typed_expr.Category.TheVariants as category
use Rattle.life_typed.specs.declared.typed_expr.ExprType.{ExprType}
use Rattle.life_typed.specs.declared.typed_expr.Method.{Method}
use Rattle.life_typed.specs.declared.typed_expr.Method.TheVariants as methods
use Rattle.life_typed.specs.declared.typed_program.TypedLocal.{TypedLocal}
use Rattle.life_core.specs.Function.{Function}
use Rattle.life_core.specs.Operands.{Operand, object_named}
use Rattle.life_core.specs.Step.{Move}
use Rattle.life_core.specs.Tree.{Acts}
use Rattle.life_core.specs.declared.instr.Form.TheVariants.{Plain}
use Rattle.life_core.specs.declared.program.Local.{Local}
use Rattle.life_core.specs.declared.program.LocalKind.{LocalKind}
use Rattle.life_core.specs.declared.program.LocalKind.TheVariants.{Object, Range, Register}
use Rattle.life_proper.specs.Placed.{type_of}
use Rattle.life_well_typed.specs.Expressions.{IsExpression, IsMadeOf, IsVariable, typed_in}
use Rattle.life_writer.specs.Around.{Around}
use Rattle.life_writer.specs.Assigning.{moved}
use Rattle.life_writer.specs.ExpressionForms.{binary_uses, form_uses, uses}
use Rattle.life_writer.specs.OwnerForms.{string_of, string_of_string}
use Rattle.life_writer.specs.Rows.{row_between}
use Rattle.life_writer.specs.Uses.{Uses, lived, own}
use Rattle.life_writer.specs.Variables.{object_at, object_of_kind, variable, variable_place}
use Rattle.life_writer.specs.Writing.{Gives, State, gives}
use Rattle.life_writer.specs.declared.rows.Row.{Row}
use Rattle.life_writer.specs.declared.rows.Row.TheVariants.{Advanced, Compared, Computed, Concatenated, IsNull, Joined, NotNull}
use Rattle.life_elab.specs.StatementForms as statements
use Rattle.life_elab_laws.proofs.ExpressionForms.{Standing}
use Rattle.life_elab_laws.proofs.Gifts.{a_place, both, nothing as no_gift}
use Rattle.life_elab_laws.proofs.MadeForms.{Builds, lived_builds, new_apart, of_moved}
use Rattle.life_elab_laws.proofs.Making.{IsPlace}
use Rattle.life_elab_laws.proofs.MoveSteps.{a_source, moves_part, owner_moves}
use Rattle.life_elab_laws.proofs.ObjectForms.{IsObjectAt, object_same, variable_object}
use Rattle.life_elab_laws.proofs.Parts.{Makes, seen_part}
use Rattle.life_elab_laws.proofs.Setting.{Setting}
use Rattle.life_elab_laws.proofs.TemporaryEnds.{named_result}
use Rattle.life_elab_laws.proofs.TypedKinds.{ok_same}
use Rattle.life_elab_laws.proofs.VariablePlaces.{IsVariableAt, place_is}

-- nothing between operands has a name
row_nameless : (w : Row) (left right : Uses) (place : Place) (t : ExprType) (c : Category) → (binary_uses w left right place t c).named ≡ None
row_nameless (Computed by common) left right place t c = refl
row_nameless (Joined by) left right place t c = refl
row_nameless (IsNull side) left right place t c = refl
row_nameless (NotNull side) left right place t c = refl
row_nameless (Compared equal) left right place t c = refl
row_nameless Concatenated left right place t c = refl
row_nameless (Advanced direction) left right place t c = refl

module _ (a : Around) (visible : List ℕ) (types : Types) (texts : ℕ) (fs : List Function) (f : Function) (setting : Setting a types fs f) where
  abbrev Stood : State → Type 0
  Stood s = Standing a visible types texts fs f setting s

  -- ---- which expressions name a variable

  pub record IsNamedAs (x : ℕ) (e : Typed) (at : State → Gives Operand) : Type 0 where
    pub seen : Contains visible x
    pub source : TypedLocal
    pub found : slice_get a.function.locals x ≡ Some source
    pub same : at ≡ (λ s. gives (variable_place s x) s)
    pub object : IsObjectAt a visible types texts fs f setting e at

  string_nameless : (t : Ty) (u : Uses) (place : Place) (k : ExprType) (c : Category) → (string_of t u place k c).named ≡ None
  string_nameless ty.Text u place k c = go u.category refl
    where
      go : (b : Category) → u.category ≡ b → (string_of ty.Text u place k c).named ≡ None
      go category.Value held = ap (λ (b : Category). (string_of_string b u place k c).named) held
      go (category.Place id constant) held = ap (λ (b : Category). (string_of_string b u place k c).named) held
  string_nameless _ u place k c = refl

  edge_nameless : (m : Method) (base given : Form) (d : DelimitersForm) (place : Place) (t : ExprType) (c : Category) → is_edge m ≡ true → (form_uses a (method base m given d) place t c).named ≡ None
  edge_nameless methods.Front base given d place t c edge = refl
  edge_nameless methods.Back base given d place t c edge = refl
  edge_nameless _ base given d place t c edge = absurd (false≢true edge)

  variable_found : (x : ℕ) (e : Typed) → IsVariable a.program.types x (slice_get a.function.locals x) e → (l : TypedLocal) × (slice_get a.function.locals x ≡ Some l)
  variable_found x e h = go (slice_get a.function.locals x) refl h
    where
      go : (o : Option TypedLocal) → slice_get a.function.locals x ≡ o → IsVariable a.program.types x o e → (l : TypedLocal) × (slice_get a.function.locals x ≡ Some l)
      go None at h = absurd h
      go (Some l) at h = (l, at)

  mutual
    pub named_owner : (form : Form) → is_read_owner texts a.program form ≡ true → is_owner_type (typed_in form).ty ≡ true → IsExpression a.program a.function.locals visible form → (x : ℕ) → (uses a form).named ≡ Some x → IsNamedAs x (typed_in form) ((uses a form).at)
    named_owner (typed place t c form) b n h x at = named_made form (record { place = place; ty = t; category = c; form = form }) b n h place x at
    named_owner _ b n h x at = absurd h

    named_made : (form : Form) (e : Typed) → is_read_owner texts a.program form ≡ true → is_owner_type e.ty ≡ true → IsMadeOf a.program a.function.locals visible e form → (place : Place) (x : ℕ) → (form_uses a form place e.ty e.category).named ≡ Some x
        → IsNamedAs x e ((form_uses a form place e.ty e.category).at)
    named_made (local y) e b n h place x at =
        let l = variable_found y e h.1 in
        subst (λ (z : ℕ). IsNamedAs z e (λ s. gives (variable_place s y) s)) (same_Some y x at)
        (record { seen = h.0; source = l.0; found = l.1; same = refl; object = variable_object a visible types texts fs f setting y e n h.0 h.1 })
    named_made (paren inner closing) e b n h place x at =
        let t : (typed_in inner).ty ≡ e.ty = ap (λ (y : Typed). y.ty) (ok_same h.0) in
        let is = named_owner inner b (ap is_owner_type t ∙ n) h.1 x at in
        record { seen = is.seen; source = is.source; found = is.found; same = is.same; object = object_same a visible types texts fs f setting (typed_in inner) e ((uses a inner).at) t (ap (λ (y : Typed). y.category) (ok_same h.0)) is.object }
    named_made (move y) e b n h place x at = absurd (none-some x at)
    named_made (call g given delimiters) e b n h place x at = absurd (none-some x at)
    named_made (dereference inner) e b n h place x at = absurd (none-some x at)
    named_made (index base position closing) e b n h place x at = absurd (none-some x at)
    named_made (member base which) e b n h place x at = absurd (none-some x at)
    named_made (method base which given delimiters) e b n h place x at = absurd (none-some x (sym (edge_nameless which base given delimiters place e.ty e.category (and_parts (is_edge which) _ b).0) ∙ at))
    named_made (binary o left right) e b n h place x at = absurd (none-some x (sym (row_nameless (row_between o left right) (uses a left) (uses a right) place e.ty e.category) ∙ at))
    named_made (text_of inner closing) e b n h place x at = absurd (none-some x (sym (string_nameless (own (uses a inner)) (uses a inner) place e.ty e.category) ∙ at))
    named_made (typed place t c form) e b n h at x same = absurd h
    named_made _ e b n h place x at = absurd (false≢true b)

  -- ---- what is moved out of it

  module _ (x : ℕ) (e : Typed) (at : State → Gives Operand) (is : IsNamedAs x e at) (s : State) (stands : Stood s) where
    pub v : IsVariableAt a s x is.source
    v = stands.seen x is.source is.seen is.found

    -- it is an object, where it doesn't refer to another one
    pub is_object : (o : Option ℕ) (y : ℕ) → statements.object_named (Some x) s ≡ o → o ≡ Some y → (v.local.kind ≡ Object) × (variable s x ≡ y)
    is_object o y at same = go v.local.kind refl
      where
        told : object_of_kind v.local.kind (variable s x) ≡ Some y
        told = sym (ap (λ (q : Option Local). object_at q (variable s x)) v.there) ∙ at ∙ same

        go : (k : LocalKind) → v.local.kind ≡ k → (v.local.kind ≡ Object) × (variable s x ≡ y)
        go Object kind = (kind, same_Some (variable s x) y (sym (ap (λ (k : LocalKind). object_of_kind k (variable s x)) kind) ∙ told))
        go Register kind = absurd (none-some y (sym (ap (λ (k : LocalKind). object_of_kind k (variable s x)) kind) ∙ told))
        go Range kind = absurd (none-some y (sym (ap (λ (k : LocalKind). object_of_kind k (variable s x)) kind) ∙ told))

    module _ (kind : v.local.kind ≡ Object) where
      here : variable_place s x ≡ object_named (variable s x)
      here = place_is a s x is.source v Object kind

      pub named_builds : Builds a visible types texts fs f setting is.object.ty s (gives (lived Plain (moved (variable s x))) s)
      named_builds =
          let t = is.object.ty in
          let P = both types texts fs f (a_source types texts fs f t) (a_place types texts fs f t false) in
          lived_builds a visible types texts fs f setting true t s s (of_moved x t) (variable s x) Plain (moved (variable s x))
          (seen_part types texts fs f (no_gift types texts fs f) tt None s (gives (variable_place s x) s) (a_place types texts fs f t is.object.constant) (λ o. variable s x) (a_source types texts fs f t)
          (subst (λ (g : State → Gives Operand). Makes types texts fs f None s (g s) (a_place types texts fs f t is.object.constant)) is.same (is.object.names s stands))
          (λ b h. (
            record { typed = ap (type_of types f) (sym here) ∙ h.typed; held = refl },
            named_result types texts fs f setting.nameless (variable s x) v.local (b.locals (variable s x) v.local v.there) (λ none. none-some is.source.name (sym none ∙ v.named)),
          ))
          (λ n k h. subst (λ (o : Operand). IsPlace o n k) here h))
          refl
          (λ place to s' there still new.
          moves_part types texts fs f P (variable s x, to) t to (variable s x) place s' (owner_moves a.program.types t is.object.owner) (λ h. (h.1, h.0)) (λ n k q. (q.1, q.0)) (new_apart a visible types texts fs f setting s s' to new (variable s x) v.lives))
          (λ plain. record {
            free = λ place to s' pending. refl;
            kept = λ place to s' living. refl;
            code = λ place to s'. Acts place (Move to (variable s x)) ∷ [];
            written = λ place to s'. refl;
            looks = λ place to s' still y m. m;
          })
