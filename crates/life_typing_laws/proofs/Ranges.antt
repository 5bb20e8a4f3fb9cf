-- Loops over ranges are well typed.
use Rattle.std.proofs.Common.{◌≡◌, ℕ, Bool, true, false, Option, None, Some, List, [], ◌∷◌, Ok, length, sym, ap, subst, ◌∙◌}
use Rattle.life_types.specs.Types.{Types, HasType}
use Rattle.life_types.specs.declared.place.Place.{Place}
use Rattle.life_types.specs.declared.ty.Ty.{Ty}
use Rattle.life_types.specs.declared.ty.TyId.{TyId}
use Rattle.life_tree.specs.declared.declaration.AutoType.{AutoType}
use Rattle.life_tree.specs.declared.declaration.DeclaredType.{DeclaredType}
use Rattle.life_tree.specs.declared.declaration.DeclaredType.TheVariants as declared_type
use Rattle.life_tree.specs.declared.expr.Expr.{Expr}
use Rattle.life_tree.specs.declared.identifier.Identifier.{Identifier}
use Rattle.life_tree.specs.declared.type_name.TypeName.{TypeName}
use Rattle.life_typed.specs.BaseTypes.{type_at}
use Rattle.life_typed.specs.Conversions.{fits}
use Rattle.life_typed.specs.Programs.{ProgramForm}
use Rattle.life_typed.specs.Statements.{range_element}
use Rattle.life_typed.specs.TypedForm.{Typed}
use Rattle.life_typed.specs.declared.typed_expr.ExprType.TheVariants.{Of}
use Rattle.life_typed.specs.declared.typed_program.TypedLocal.{TypedLocal}
use Rattle.life_names.specs.Checked.{Checked, ◌>>=◌}
use Rattle.life_names.specs.Environment.{Scope, declared}
use Rattle.life_names.specs.Found.{allowed, given}
use Rattle.life_names.specs.WrittenTypes.{written_local}
use Rattle.life_names.specs.declared.fault.IllKind.TheVariants as kinds
use Rattle.life_names.specs.declared.written.Written.{Written}
use Rattle.life_type_expr.specs.Expressions.{expr_meaning}
use Rattle.life_type_expr.specs.Lists.{fits_at_all}
use Rattle.life_type_expr.specs.Operands.{is_constant, literal_allowed}
use Rattle.life_type_stmt.specs.Autos.{auto_written}
use Rattle.life_type_stmt.specs.Declarations.{local_of, redeclared}
use Rattle.life_type_stmt.specs.Given.{value_fault}
use Rattle.life_type_stmt.specs.Ranges.{RangeForm, RangeHead, auto_head, element_place, element_type, elements_of, range_head, range_of, written_head}
use Rattle.life_well_typed.specs.Statements.{IsRange, TakesElements}
use Rattle.life_well_typed.specs.Visible.{Visible, with_next}
use Rattle.life_typing_laws.specs.Sound.{Grows, IsFinal, IsSound}
use Rattle.life_typing_laws.proofs.Autos.{IsAuto, auto_is}
use Rattle.life_typing_laws.proofs.Declarations.{IsWritten, free_of, local_written}
use Rattle.life_typing_laws.proofs.Fitting.{fit_at_all, misfit_none, same_fits}
use Rattle.life_well_typed.proofs.ObjectsKept.{object_there}
use Rattle.life_well_typed.proofs.TargetsHeld.{target_at}
use Rattle.life_well_typed.specs.Tables.{IsObject}
use Rattle.life_typing_laws.proofs.Growing.{IsGrown, grown_not, grown_on, object_later, parts_there, same_type_at, stays_there, structs_stay}
use Rattle.life_typing_laws.proofs.Indexing.{indexed_there}
use Rattle.life_typing_laws.proofs.Scopes.{IsDeclared, IsFree, Moves, behind_declared, declared_is, declared_moves, declared_sound, declared_there, final_before, final_then, moves_after, sound_now}
use Rattle.life_typing_laws.proofs.Steps.{allowed_ok, bound, given_ok, same_value}
use Rattle.life_typing_laws.proofs.Typed.{IsGood, IsTyped}
use Rattle.life_typing_laws.proofs.Wholes.{expr_good}

-- ---- what is gone over

pub record IsGoneOver (name : Identifier) (e : Expr) (scope : Scope) (types : Types) (x : RangeForm × Types) : Type 0 where
  pub free : redeclared scope name.id ≡ None
  pub elements : range_element x.0.range.ty (is_constant x.0.range.category) ≡ Some x.0.element
  pub reads : expr_meaning e scope types ≡ Ok (x.0.range, x.1)

elements_is : (colon : Place) (y : Typed) (r : RangeForm) → elements_of (range_element y.ty (is_constant y.category)) colon y ≡ Ok r
    → (y ≡ r.range) × (range_element y.ty (is_constant y.category) ≡ Some r.element)
elements_is colon y r h = go (range_element y.ty (is_constant y.category)) h
  where
    go : (o : Option (TyId × Bool)) → elements_of o colon y ≡ Ok r → (y ≡ r.range) × (o ≡ Some r.element)
    go None h = absurd (cc)
    go (Some element) h =
        let same : ◌≡◌ {A = RangeForm} (record { range = y; element = element }) r = cc in
        (ap (λ (z : RangeForm). z.range) same, ap (λ (z : RangeForm). Some z.element) same)

module _ (name : Identifier) (colon : Place) where
  abbrev with_elements : Types → RangeForm → Checked RangeForm
  with_elements types r = Ok (r, types)

  abbrev behind_free : Typed × Types → Checked RangeForm
  behind_free y = given (elements_of (range_element y.0.ty (is_constant y.0.category)) colon y.0) (with_elements y.1)

  abbrev behind_range : Scope → Typed × Types → Checked RangeForm
  behind_range scope y = given (literal_allowed false y.0) (λ _. given (allowed (redeclared scope name.id) name.place) (λ _. behind_free y))

  gone_over : (e : Expr) (scope : Scope) (types : Types) (x : RangeForm × Types) → range_of name colon e scope types ≡ Ok x → IsGoneOver name e scope types x
  gone_over e scope types x h =
      let step = bound (expr_meaning e scope types) (behind_range scope) x h in
      let literal = given_ok (literal_allowed false step.value.0) (λ _. given (allowed (redeclared scope name.id) name.place) (λ _. behind_free step.value)) x step.behind in
      let free = allowed_ok (redeclared scope name.id) name.place (λ _. behind_free step.value) x literal.behind in
      let found = given_ok (elements_of (range_element step.value.0.ty (is_constant step.value.0.category)) colon step.value.0) (with_elements step.value.1) x free.1 in
      let is = elements_is colon step.value.0 found.value found.gave in
      let same = same_value {A = RangeForm} (found.value, step.value.1) x found.behind in
      subst (IsGoneOver name e scope types) same (record {
        free = free.0;
        elements = subst (λ (y : Typed). range_element y.ty (is_constant y.category) ≡ Some found.value.element) is.0 is.1;
        reads = step.gave ∙ ap (λ (y : Typed). Ok (y, step.value.1)) is.0;
      })

-- ---- the variable of a loop

pub record IsHead (name : Identifier) (v : Visible) (scope : Scope) (types : Types) (x : (RangeHead × Scope) × Types) : Type 0 where
  pub moves : Moves (name.id ∷ []) scope x.0.1 types x.1
  pub sound : IsSound (with_next v) x.0.1 x.1
  pub is : (p : ProgramForm) (locals : List TypedLocal) (result : TyId) → IsFinal p locals x.0.1 x.1 → IsRange p locals result x.0.0.local x.0.0.range v

-- what is gone over, between two tables, is well typed over the second
abbrev RangeTyped : Visible → Scope → Types → Typed → Type 0
RangeTyped v scope middle range = (p : ProgramForm) (locals : List TypedLocal) → IsFinal p locals scope middle → IsTyped p locals v middle range

module _ (name : Identifier) (v : Visible) (scope : Scope) (types : Types) (sound : IsSound v scope types) where
  -- over what is read in the middle table, it is declared over the last
  new_head : (w : Written) (r : RangeForm) (middle after : Types) (n : ℕ × Scope) → IsGrown types middle → IsGrown middle after → IsObject after w.ty → RangeTyped v scope middle r.range
      → range_element r.range.ty (is_constant r.range.category) ≡ Some r.element
      → value_fault kinds.WrongType after (type_at after w.ty) (element_type middle r.element) (element_place r.element) ≡ None → IsFree name.id scope → declared (local_of name w) scope ≡ Ok n
      → IsHead name v scope types ((record { local = n.0; range = r.range }, n.1), after)
  new_head w r middle after n early late object typed elements fault free h =
      subst (λ (m : ℕ). IsHead name v scope types ((record { local = m; range = r.range }, n.1), after)) (sym d.number)
      (subst (λ (s : Scope). IsHead name v scope types ((record { local = length scope.locals; range = r.range }, s), after)) (sym d.behind) made)
    where
      d : IsDeclared (local_of name w) scope n
      d = declared_is (local_of name w) scope n h

      there : HasType after w.ty
      there = object_there after w.ty object

      sound_middle : IsSound v scope middle
      sound_middle = sound_now v scope types middle sound early

      sound_after : IsSound v scope after
      sound_after = sound_now v scope middle after sound_middle late

      last : Moves (name.id ∷ []) scope (behind_declared (local_of name w) scope) after after
      last = declared_moves (local_of name w) v scope after sound_after object free

      fits_element : (p : ProgramForm) → Grows after p.types → HasType middle r.element.0
          → fits_at_all (fits p.types (type_at p.types w.ty) (element_type p.types r.element) (element_place r.element)) ≡ true
      fits_element p grown element_there = fit_at_all (fits p.types (type_at p.types w.ty) (element_type p.types r.element) (element_place r.element))
          (ap (λ (t : Ty). fits p.types t (element_type p.types r.element) (element_place r.element)) (same_type_at after p.types w.ty grown there)
          ∙ (ap (λ (t : Ty). fits p.types (type_at after w.ty) (Of t) (element_place r.element))
          (same_type_at after p.types r.element.0 grown (stays_there middle after r.element.0 late.grows element_there) ∙ same_type_at middle after r.element.0 late.grows element_there)
          ∙ (same_fits after p.types late.ordered grown (type_at after w.ty) (element_type middle r.element) (element_place r.element) (parts_there after w.ty late.ordered there) (stays_there middle after r.element.0 late.grows element_there)
          ∙ misfit_none kinds.WrongType (fits after (type_at after w.ty) (element_type middle r.element) (element_place r.element)) fault)))

      counted : length scope.locals ≡ v.declared
      counted = sound.declared

      made : IsHead name v scope types ((record { local = length scope.locals; range = r.range }, behind_declared (local_of name w) scope), after)
      made = record {
        moves = moves_after v (name.id ∷ []) scope (behind_declared (local_of name w) scope) types after after sound (grown_on types middle after early late) last;
        sound = declared_sound (local_of name w) v scope after sound_after object;
        is = λ p locals result final.
            let final_after : IsFinal p locals scope after = final_before p locals (name.id ∷ []) scope (behind_declared (local_of name w) scope) after after last final in
            let range_typed = typed p locals (final_then p locals scope middle after late final_after) in
            let element_there = indexed_there middle sound_middle.based r.range.ty (is_constant r.range.category) r.element range_typed.parts elements in (
              counted,
              subst (λ (o : Option TypedLocal). TakesElements p locals result o (range_element r.range.ty (is_constant r.range.category)))
                  (sym (final.kept (length scope.locals) (local_of name w) (declared_there (local_of name w) scope)))
                  (subst (λ (o : Option (TyId × Bool)). TakesElements p locals result (Some (local_of name w)) o) (sym elements) (fits_element p final.grown element_there)),
              range_typed.is,
            );
      }

-- ---- the head of a loop

module _ (name : Identifier) (scope : Scope) where
  abbrev finished : RangeForm → Types → ℕ × Scope → Checked (RangeHead × Scope)
  finished r types n = Ok ((record { local = n.0; range = r.range }, n.1), types)

  abbrev declared_over : Written → RangeForm → Types → Checked (RangeHead × Scope)
  declared_over w r types = given (declared (local_of name w) scope) (finished r types)

  abbrev element_given : Written → Types → RangeForm × Types → Checked (RangeHead × Scope)
  element_given w types r =
      given (allowed (value_fault kinds.WrongType r.1 (type_at types w.ty) (element_type r.1 r.0.element) (element_place r.0.element)) name.place) (λ _. declared_over w r.0 r.1)

  written_is : (t : TypeName) (colon : Place) (e : Expr) (v : Visible) (types : Types) (x : (RangeHead × Scope) × Types) → IsSound v scope types → written_head t name colon e scope types ≡ Ok x
      → IsHead name v scope types x
  written_is t colon e v types x sound h =
      let w = bound (written_local t name.place scope types) (λ y. range_of name colon e scope y.1 >>= element_given y.0 y.1) x h in
      let r = bound (range_of name colon e scope w.value.1) (element_given w.value.0 w.value.1) x w.behind in
      let fine = allowed_ok (value_fault kinds.WrongType r.value.1 (type_at w.value.1 w.value.0.ty) (element_type r.value.1 r.value.0.element) (element_place r.value.0.element)) name.place (λ _. declared_over w.value.0 r.value.0 r.value.1) x r.behind in
      let n = given_ok (declared (local_of name w.value.0) scope) (finished r.value.0 r.value.1) x fine.1 in
      subst (IsHead name v scope types) (same_value {A = RangeHead × Scope} ((record { local = n.value.0; range = r.value.0.range }, n.value.1), r.value.1) x n.behind)
      (of w.value r.value n.value (local_written t name.place scope types w.value sound.ordered sound.based sound.structs_there w.gave) (gone_over name colon e scope w.value.1 r.value r.gave) fine.0 n.gave)
    where
      of : (w : Written × Types) (r : RangeForm × Types) (n : ℕ × Scope) → IsWritten types w → IsGoneOver name e scope w.1 r
          → value_fault kinds.WrongType r.1 (type_at w.1 w.0.ty) (element_type r.1 r.0.element) (element_place r.0.element) ≡ None → declared (local_of name w.0) scope ≡ Ok n
          → IsHead name v scope types ((record { local = n.0; range = r.0.range }, n.1), r.1)
      of w r n is gone fault number =
          new_head name v scope types sound w.0 r.0 r.1 r.1 n (grown_on types w.1 r.1 is.grown range.grown) (grown_not r.1 range.grown.ordered) (object_later w.1 r.1 w.0.ty range.grown.grows is.object)
          (λ p locals final. range.is p locals final) gone.elements
          (subst (λ (u : Ty). value_fault kinds.WrongType r.1 u (element_type r.1 r.0.element) (element_place r.0.element) ≡ None) (sym (same_type_at w.1 r.1 w.0.ty range.grown.grows (object_there w.1 w.0.ty is.object))) fault)
          (free_of name.id scope gone.free) number
        where
          range : IsGood v scope w.1 (r.0.range, r.1)
          range = expr_good e v scope w.1 (r.0.range, r.1) gone.reads (sound_now v scope types w.1 sound is.grown)

  abbrev behind_auto : RangeForm → Written × Types → Checked (RangeHead × Scope)
  behind_auto r w = declared_over w.0 r w.1

  auto_head_is : (a : AutoType) (colon : Place) (e : Expr) (v : Visible) (types : Types) (x : (RangeHead × Scope) × Types) → IsSound v scope types → auto_head a name colon e scope types ≡ Ok x
      → IsHead name v scope types x
  auto_head_is a colon e v types x sound h =
      let r = bound (range_of name colon e scope types) (λ y. auto_written a name.place (element_type y.1 y.0.element) (element_place y.0.element) scope y.1 >>= behind_auto y.0) x h in
      let w = bound (auto_written a name.place (element_type r.value.1 r.value.0.element) (element_place r.value.0.element) scope r.value.1) (behind_auto r.value.0) x r.behind in
      let n = given_ok (declared (local_of name w.value.0) scope) (finished r.value.0 w.value.1) x w.behind in
      subst (IsHead name v scope types) (same_value {A = RangeHead × Scope} ((record { local = n.value.0; range = r.value.0.range }, n.value.1), w.value.1) x n.behind)
      (of r.value w.value n.value (gone_over name colon e scope types r.value r.gave) w.gave n.gave)
    where
      of : (r : RangeForm × Types) (w : Written × Types) (n : ℕ × Scope) → IsGoneOver name e scope types r
          → auto_written a name.place (element_type r.1 r.0.element) (element_place r.0.element) scope r.1 ≡ Ok w → declared (local_of name w.0) scope ≡ Ok n
          → IsHead name v scope types ((record { local = n.0; range = r.0.range }, n.1), w.1)
      of r w n gone gave number =
          new_head name v scope types sound w.0 r.0 r.1 w.1 n range.grown auto.grown auto.object (λ p locals final. range.is p locals final) gone.elements auto.given (free_of name.id scope gone.free) number
        where
          range : IsGood v scope types (r.0.range, r.1)
          range = expr_good e v scope types (r.0.range, r.1) gone.reads sound

          auto : IsAuto r.1 (element_type r.1 r.0.element) (element_place r.0.element) w
          auto = auto_is a name.place (element_type r.1 r.0.element) (element_place r.0.element) scope r.1 w range.grown.ordered (structs_stay types r.1 scope.structs range.grown.grows sound.structs_there) (λ objects. target_at r.1 objects r.0.element.0) gave

  pub head_is : (t : DeclaredType) (colon : Place) (e : Expr) (v : Visible) (types : Types) (x : (RangeHead × Scope) × Types) → IsSound v scope types → range_head t name colon e scope types ≡ Ok x
      → IsHead name v scope types x
  head_is (declared_type.Written t) colon e v types x sound h = written_is t colon e v types x sound h
  head_is (declared_type.Auto a) colon e v types x sound h = auto_head_is a colon e v types x sound h
