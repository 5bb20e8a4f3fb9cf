-- Assignments, steps, outputs and what is given back, where they are well typed: each expression in them is of a kind that is taken there.
use Rattle.std.proofs.Common.{◌≡◌, ◌⊎◌, inl, inr, ℕ, Bool, true, false, ◌&&◌, ◌||◌, not, List, [], ◌∷◌, Option, Some, None, refl, sym, ap, ◌∙◌, subst}
use Rattle.std.proofs.lemmas.Bool.{and_from, and_parts, false≢true, or_left, or_right}
use Rattle.life_types.specs.TypeTests.{is_reference, is_value, is_void}
use Rattle.life_types.specs.Types.{Types}
use Rattle.life_types.specs.declared.ty.Ty.{Ty}
use Rattle.life_types.specs.declared.ty.Ty.TheVariants as ty
use Rattle.life_types.specs.declared.ty.TyId.{TyId}
use Rattle.life_elab_laws.proofs.FormKinds.{are_read_arguments, are_read_elements, is_read_any, is_read_condition, is_read_condition_if, is_read_expression, is_read_fresh, is_read_owning, is_read_struct, is_read_unique, is_read_walker}
use Rattle.life_elab_laws.proofs.StatementKinds.{are_read_items, is_read_assigned, is_read_compound, is_read_renewed, is_read_returned, is_read_stepped, is_read_target}
use Rattle.life_elab_laws.proofs.TypeKinds.{is_owner_type, is_plain_type, is_struct_type, is_unique_type, is_vector_type, is_view_type, is_walker_type, is_void_type}
use Rattle.life_tree.specs.declared.operator.CompoundOperator.{CompoundOperator}
use Rattle.life_tree.specs.declared.operator.CompoundOperator.TheVariants as operator
use Rattle.life_typed.specs.Operators.{is_condition}
use Rattle.life_typed.specs.Programs.{ProgramForm}
use Rattle.life_typed.specs.Statements.{appended_to_text, can_step, compounded, counted, fitting_where, is_printed}
use Rattle.life_typed.specs.TypedForm.{Typed, forms, whole}
use Rattle.life_typed.specs.TypedStatement.{InitialForm, ItemForm, one, several, printed, line_end}
use Rattle.life_typed.specs.declared.typed_expr.ExprType.{ExprType}
use Rattle.life_typed.specs.declared.typed_expr.ExprType.TheVariants.{NullPointer, Of, TextLiteral}
use Rattle.life_typed.specs.declared.typed_program.TypedLocal.{TypedLocal}
use Rattle.life_type_expr.specs.Lists.{fits_at_all}
use Rattle.life_type_expr.specs.Operands.{is_constant}
use Rattle.life_type_stmt.specs.Simples.{is_place, type_of}
use Rattle.life_well_typed.specs.Expressions.{AreExpressions}
use Rattle.life_well_typed.specs.Given.{is_given}
use Rattle.life_well_typed.specs.Members.{is_listed}
use Rattle.life_well_typed.specs.Statements.{AreItems, Decides, DecidesIfAny, IsGiven, IsTarget}
use Rattle.life_elab_laws.proofs.KnownTypes.{vector_element}
use Rattle.life_elab_laws.proofs.TypedFits.{IsTakenAs, as_owner, as_struct, as_unique, as_value, as_walker, value_plain, value_some}
use Rattle.life_elab_laws.proofs.TypedReadings.{is_known}
use Rattle.life_elab_laws.proofs.TypedSimples.{HasReadings, Read, any_owner, any_value, made_type, owning, read, taken, target_owner, target_type}

-- ---- kinds of types

-- an expression is of one kind
abbrev pub IsKindOf : ExprType → Type 0
IsKindOf t = (is_plain_type t ≡ true) ⊎ ((is_owner_type t ≡ true) ⊎ ((is_walker_type t ≡ true) ⊎ ((is_unique_type t ≡ true) ⊎ (is_struct_type t ≡ true))))

pub kind_of : (t : ExprType) → IsKindOf t
kind_of t = go (is_owner_type t) (is_walker_type t) (is_unique_type t) (is_struct_type t)
  where
    go : (o w u s : Bool) → (not (o || (w || (u || s))) ≡ true) ⊎ ((o ≡ true) ⊎ ((w ≡ true) ⊎ ((u ≡ true) ⊎ (s ≡ true))))
    go true w u s = inr (inl refl)
    go false true u s = inr (inr (inl refl))
    go false false true s = inr (inr (inr (inl refl)))
    go false false false true = inr (inr (inr (inr refl)))
    go false false false false = inl refl

-- a number is plain
pub number_plain : (t : ExprType) (u : Ty) → t ≡ Of u → is_value u ≡ true → (is_plain_type t ≡ true) × (is_void_type t ≡ false)
number_plain t u is v = (ap is_plain_type is ∙ value_plain u v, ap is_void_type is ∙ value_some u v)

fits_where : (test : Bool) → fits_at_all (fitting_where test) ≡ true → test ≡ true
fits_where true h = refl
fits_where false h = absurd (false≢true h)

module _ (p : ProgramForm) (locals : List TypedLocal) (result : TyId) (texts : ℕ) (r : HasReadings p locals texts) (visible : List ℕ) where
  abbrev types : Types
  types = p.types

  abbrev As : Typed → Type 0
  As e = Read p locals texts r visible e

  valued : (e : Typed) → As e → (u : Ty) → e.ty ≡ Of u → is_value u ≡ true → is_read_expression texts p e ≡ true
  valued e k u is v = let n = number_plain e.ty u is v in k.value n.0 n.1

  -- ---- assignments

  module _ (target : Typed) (k : As target) (there : is_place target.ty target.category ≡ true) (t : Ty) (is : target.ty ≡ Of t) where
    plain_target : is_plain_type (Of t) ≡ true → is_read_expression texts p target ≡ true
    plain_target plain = k.value (ap is_plain_type is ∙ plain) (ap is_void_type is ∙ (target_type p locals texts r visible target k there t is).0)

    owner_target : is_owner_type (Of t) ≡ true → is_read_target texts p target ≡ true
    owner_target o = target_owner p locals texts r visible target k there (ap is_owner_type is ∙ o)

    module _ (e : Typed) (ke : As e) where
      abbrev Assigned : Type 0
      Assigned = is_read_assigned texts p target (one e) ≡ true

      abbrev structs : Bool
      structs = is_read_struct texts p (whole target) && is_read_struct texts p (whole e)

      abbrev uniques : Bool
      uniques = (is_read_unique texts p (whole target) && (is_read_expression texts p e || is_read_fresh texts p (whole e))) || structs

      abbrev walkers : Bool
      walkers = (is_read_walker texts p (whole target) && (is_read_walker texts p (whole e) || is_read_owning texts p e)) || uniques

      abbrev views : Bool
      views = ((is_view_type target.ty && is_read_expression texts p target) && is_read_owning texts p e) || walkers

      renewed : is_read_renewed texts p target e ≡ true → Assigned
      renewed h = or_right (is_read_expression texts p target && is_read_expression texts p e) (is_read_renewed texts p target e) h

      seen : views ≡ true → Assigned
      seen h = renewed (or_right (is_read_target texts p target && is_read_any texts p e) views h)

      walked : walkers ≡ true → Assigned
      walked h = seen (or_right ((is_view_type target.ty && is_read_expression texts p target) && is_read_owning texts p e) walkers h)

      owned : uniques ≡ true → Assigned
      owned h = walked (or_right (is_read_walker texts p (whole target) && (is_read_walker texts p (whole e) || is_read_owning texts p e)) uniques h)

      -- by the two kinds
      value_to_plain : is_plain_type (Of t) ≡ true → is_read_expression texts p e ≡ true → Assigned
      value_to_plain plain h =
          or_left (is_read_expression texts p target && is_read_expression texts p e) (is_read_renewed texts p target e)
          (and_from (is_read_expression texts p target) (is_read_expression texts p e) (plain_target plain) h)

      any_to_owner : is_owner_type (Of t) ≡ true → is_read_any texts p e ≡ true → Assigned
      any_to_owner o h =
          renewed (or_left (is_read_target texts p target && is_read_any texts p e) views (and_from (is_read_target texts p target) (is_read_any texts p e) (owner_target o) h))

      owner_to_view : is_view_type (Of t) ≡ true → is_plain_type (Of t) ≡ true → is_owner_type e.ty ≡ true → Assigned
      owner_to_view v plain o =
          seen (or_left ((is_view_type target.ty && is_read_expression texts p target) && is_read_owning texts p e) walkers
          (and_from (is_view_type target.ty && is_read_expression texts p target) (is_read_owning texts p e)
          (and_from (is_view_type target.ty) (is_read_expression texts p target) (ap is_view_type is ∙ v) (plain_target plain)) (owning p locals texts r visible e ke o)))

      to_walker : is_walker_type (Of t) ≡ true → (is_read_walker texts p (whole e) || is_read_owning texts p e) ≡ true → Assigned
      to_walker w h =
          walked (or_left (is_read_walker texts p (whole target) && (is_read_walker texts p (whole e) || is_read_owning texts p e)) uniques
          (and_from (is_read_walker texts p (whole target)) (is_read_walker texts p (whole e) || is_read_owning texts p e) (k.walker (ap is_walker_type is ∙ w)) h))

      to_unique : is_unique_type (Of t) ≡ true → (is_read_expression texts p e || is_read_fresh texts p (whole e)) ≡ true → Assigned
      to_unique u h =
          owned (or_left (is_read_unique texts p (whole target) && (is_read_expression texts p e || is_read_fresh texts p (whole e))) structs
          (and_from (is_read_unique texts p (whole target)) (is_read_expression texts p e || is_read_fresh texts p (whole e)) (k.unique (ap is_unique_type is ∙ u)) h))

      to_struct : is_struct_type (Of t) ≡ true → is_struct_type e.ty ≡ true → Assigned
      to_struct s of =
          owned (or_right (is_read_unique texts p (whole target) && (is_read_expression texts p e || is_read_fresh texts p (whole e))) structs
          (and_from (is_read_struct texts p (whole target)) (is_read_struct texts p (whole e)) (k.structure (ap is_struct_type is ∙ s)) (ke.structure of)))

    assigned_as : (e : Typed) → As e → IsTakenAs t e.ty e.category → is_read_assigned texts p target (one e) ≡ true
    assigned_as e ke h = go t refl h
      where
        nothing : (u : Ty) → t ≡ u → is_void u ≡ true → is_read_assigned texts p target (one e) ≡ true
        nothing u same v = absurd (false≢true (sym (target_type p locals texts r visible target k there t is).0 ∙ ap is_void same ∙ v))

        referred : (u : Ty) → t ≡ u → is_reference u ≡ true → is_read_assigned texts p target (one e) ≡ true
        referred u same v = absurd (false≢true (sym (target_type p locals texts r visible target k there t is).1 ∙ ap is_reference same ∙ v))

        valued_as : (u : Ty) → t ≡ u → is_plain_type (Of u) ≡ true → is_plain_type e.ty ≡ true → is_void_type e.ty ≡ false → is_read_assigned texts p target (one e) ≡ true
        valued_as u same plain of some = value_to_plain e ke (ap (λ (x : Ty). is_plain_type (Of x)) same ∙ plain) (ke.value of some)

        go : (u : Ty) → t ≡ u → IsTakenAs u e.ty e.category → is_read_assigned texts p target (one e) ≡ true
        go ty.Void same (as_value takes plain some) = nothing ty.Void same refl
        go ty.Bool same (as_value takes plain some) = valued_as ty.Bool same refl plain some
        go ty.Char same (as_value takes plain some) = valued_as ty.Char same refl plain some
        go ty.Int same (as_value takes plain some) = valued_as ty.Int same refl plain some
        go ty.Long same (as_value takes plain some) = valued_as ty.Long same refl plain some
        go ty.Size same (as_value takes plain some) = valued_as ty.Size same refl plain some
        go ty.View same (as_value takes plain some) = valued_as ty.View same refl plain some
        go (ty.Raw owned constant) same (as_value takes plain some) = valued_as (ty.Raw owned constant) same refl plain some
        go ty.Text same (as_value takes plain some) = any_to_owner e ke (ap (λ (x : Ty). is_owner_type (Of x)) same) (any_value p locals texts r visible e ke plain some)
        go (ty.Vector item) same (as_value takes plain some) = any_to_owner e ke (ap (λ (x : Ty). is_owner_type (Of x)) same) (any_value p locals texts r visible e ke plain some)
        go (ty.Unique owned) same (as_value takes plain some) =
            to_unique e ke (ap (λ (x : Ty). is_unique_type (Of x)) same) (or_left (is_read_expression texts p e) (is_read_fresh texts p (whole e)) (ke.value plain some))
        go (ty.Reference owned constant) same (as_value takes plain some) = referred (ty.Reference owned constant) same refl
        go _ same (as_value takes plain some) = absurd (false≢true takes)
        go ty.Text same (as_owner takes o) = any_to_owner e ke (ap (λ (x : Ty). is_owner_type (Of x)) same) (any_owner p locals texts r visible e ke o)
        go (ty.Vector item) same (as_owner takes o) = any_to_owner e ke (ap (λ (x : Ty). is_owner_type (Of x)) same) (any_owner p locals texts r visible e ke o)
        go ty.View same (as_owner takes o) = owner_to_view e ke (ap (λ (x : Ty). is_view_type (Of x)) same) (ap (λ (x : Ty). is_plain_type (Of x)) same) o
        go (ty.Span item constant) same (as_owner takes o) =
            to_walker e ke (ap (λ (x : Ty). is_walker_type (Of x)) same) (or_right (is_read_walker texts p (whole e)) (is_read_owning texts p e) (owning p locals texts r visible e ke o))
        go (ty.Reference owned constant) same (as_owner takes o) = referred (ty.Reference owned constant) same refl
        go _ same (as_owner takes o) = absurd (false≢true takes)
        go (ty.Iterator item constant) same (as_walker takes w) =
            to_walker e ke (ap (λ (x : Ty). is_walker_type (Of x)) same) (or_left (is_read_walker texts p (whole e)) (is_read_owning texts p e) (ke.walker w))
        go (ty.Span item constant) same (as_walker takes w) =
            to_walker e ke (ap (λ (x : Ty). is_walker_type (Of x)) same) (or_left (is_read_walker texts p (whole e)) (is_read_owning texts p e) (ke.walker w))
        go _ same (as_walker takes w) = absurd (false≢true takes)
        go (ty.Unique owned) same (as_unique takes u made) =
            to_unique e ke (ap (λ (x : Ty). is_unique_type (Of x)) same) (or_right (is_read_expression texts p e) (is_read_fresh texts p (whole e)) (ke.fresh u made))
        go _ same (as_unique takes u made) = absurd (false≢true takes)
        go (ty.Struct number) same (as_struct takes s) = to_struct e ke (ap (λ (x : Ty). is_struct_type (Of x)) same) s
        go (ty.Reference owned constant) same (as_struct takes s) = referred (ty.Reference owned constant) same refl
        go _ same (as_struct takes s) = absurd (false≢true takes)

    -- .. by a list
    listed_as : (list : List Typed) (initial : InitialForm) → is_known types (Of t) ≡ true → is_listed types t (forms list) ≡ true → AreExpressions p locals visible (forms list)
        → ((is_read_target texts p target && (is_vector_type target.ty && are_read_elements texts p (forms list))) || (is_read_struct texts p (whole target) && are_read_arguments texts p (forms list))) ≡ true
    listed_as list initial known h are = go t refl h
      where
        elements : Bool
        elements = is_read_target texts p target && (is_vector_type target.ty && are_read_elements texts p (forms list))

        members : Bool
        members = is_read_struct texts p (whole target) && are_read_arguments texts p (forms list)

        go : (u : Ty) → t ≡ u → is_listed types u (forms list) ≡ true → (elements || members) ≡ true
        go (ty.Vector item) same h =
            or_left elements members (and_from (is_read_target texts p target) (is_vector_type target.ty && are_read_elements texts p (forms list))
            (owner_target (ap (λ (x : Ty). is_owner_type (Of x)) same))
            (and_from (is_vector_type target.ty) (are_read_elements texts p (forms list)) (ap is_vector_type (is ∙ ap Of same))
            (r.elements visible item (forms list) (vector_element types item (subst (λ (x : Ty). is_known types (Of x) ≡ true) same known)) h are)))
        go (ty.Struct number) same h =
            or_right elements members (and_from (is_read_struct texts p (whole target)) (are_read_arguments texts p (forms list)) (k.structure (ap is_struct_type (is ∙ ap Of same)))
            (r.members visible _ (forms list) h are))
        go (ty.Reference owned constant) same h = absurd (false≢true (sym (target_type p locals texts r visible target k there t is).1 ∙ ap is_reference same))
        go _ same h = absurd (false≢true h)

  pub assigned_read : (target : Typed) (value : InitialForm) → IsTarget p locals result visible target → IsGiven p locals result visible (type_of target.ty) value → is_read_assigned texts p target value ≡ true
  assigned_read target value to given = go (made_type p locals texts r visible target k there)
    where
      k : As target
      k = read p locals texts r visible target to.1

      there : is_place target.ty target.category ≡ true
      there = (and_parts (is_place target.ty target.category) (not (is_constant target.category)) to.0).0

      by : (t : Ty) → target.ty ≡ Of t → (i : InitialForm) → IsGiven p locals result visible (type_of target.ty) i → is_read_assigned texts p target i ≡ true
      by t is (one e) given =
          let ke = read p locals texts r visible e given.1 in
          assigned_as target k there t is e ke (taken p locals texts r visible t e (subst (λ (x : ExprType). is_known types x ≡ true) is k.known) (subst (λ (x : ExprType). is_given types (type_of x) e ≡ true) is given.0) ke)
      by t is (several list) given =
          listed_as target k there t is list.elements (several list) (subst (λ (x : ExprType). is_known types x ≡ true) is k.known) (subst (λ (x : ExprType). is_listed types (type_of x) (forms list.elements) ≡ true) is given.0) given.1

      go : ((t : Ty) × (target.ty ≡ Of t)) → is_read_assigned texts p target value ≡ true
      go found = by found.0 found.1 value given

  -- ---- assignments that compute

  pub compounded_read : (target : Typed) (o : CompoundOperator) (e : Typed) → fits_at_all (compounded o (type_of target.ty) e.ty) ≡ true → IsTarget p locals result visible target → As e → is_read_compound texts p target e ≡ true
  compounded_read target o e fits to ke = go (made_type p locals texts r visible target k there)
    where
      k : As target
      k = read p locals texts r visible target to.1

      there : is_place target.ty target.category ≡ true
      there = (and_parts (is_place target.ty target.category) (not (is_constant target.category)) to.0).0

      values : Bool
      values = is_read_expression texts p target && is_read_expression texts p e

      gains : Bool
      gains = is_read_owning texts p target && is_read_any texts p e

      numbers : (t : Ty) → target.ty ≡ Of t → (x : ExprType) → e.ty ≡ x → fits_at_all (counted t x) ≡ true → is_read_compound texts p target e ≡ true
      numbers t is (Of u) at h =
          let both = and_parts (is_value t) (is_value u) (fits_where (is_value t && is_value u) h) in
          or_left values gains (and_from (is_read_expression texts p target) (is_read_expression texts p e) (valued target k t is both.0) (valued e ke u at both.1))
      numbers t is NullPointer at h = absurd (false≢true h)
      numbers t is TextLiteral at h = absurd (false≢true h)

      gained : target.ty ≡ Of ty.Text → is_read_any texts p e ≡ true → is_read_compound texts p target e ≡ true
      gained is h = or_right values gains (and_from (is_read_owning texts p target) (is_read_any texts p e) (owning p locals texts r visible target k (ap is_owner_type is)) h)

      plain : target.ty ≡ Of ty.Text → is_plain_type e.ty ≡ true → is_void_type e.ty ≡ false → is_read_compound texts p target e ≡ true
      plain is of some = gained is (any_value p locals texts r visible e ke of some)

      characters : target.ty ≡ Of ty.Text → (x : ExprType) → e.ty ≡ x → fits_at_all (appended_to_text x) ≡ true → is_read_compound texts p target e ≡ true
      characters is (Of ty.Text) at h = gained is (any_owner p locals texts r visible e ke (ap is_owner_type at))
      characters is (Of ty.View) at h = plain is (ap is_plain_type at) (ap is_void_type at)
      characters is (Of ty.Char) at h = plain is (ap is_plain_type at) (ap is_void_type at)
      characters is (Of _) at h = absurd (false≢true h)
      characters is NullPointer at h = absurd (false≢true h)
      characters is TextLiteral at h = plain is (ap is_plain_type at) (ap is_void_type at)

      added : (t : Ty) → target.ty ≡ Of t → fits_at_all (compounded operator.Add t e.ty) ≡ true → is_read_compound texts p target e ≡ true
      added ty.Text is h = characters is e.ty refl h
      added ty.Void is h = numbers ty.Void is e.ty refl h
      added ty.Bool is h = numbers ty.Bool is e.ty refl h
      added ty.Char is h = numbers ty.Char is e.ty refl h
      added ty.Int is h = numbers ty.Int is e.ty refl h
      added ty.Long is h = numbers ty.Long is e.ty refl h
      added ty.Size is h = numbers ty.Size is e.ty refl h
      added ty.View is h = numbers ty.View is e.ty refl h
      added (ty.Vector item) is h = numbers (ty.Vector item) is e.ty refl h
      added (ty.Unique owned) is h = numbers (ty.Unique owned) is e.ty refl h
      added (ty.Raw owned constant) is h = numbers (ty.Raw owned constant) is e.ty refl h
      added (ty.Reference owned constant) is h = numbers (ty.Reference owned constant) is e.ty refl h
      added (ty.Iterator owned constant) is h = numbers (ty.Iterator owned constant) is e.ty refl h
      added (ty.Span owned constant) is h = numbers (ty.Span owned constant) is e.ty refl h
      added (ty.Struct number) is h = numbers (ty.Struct number) is e.ty refl h

      by : (o : CompoundOperator) (t : Ty) → target.ty ≡ Of t → fits_at_all (compounded o t e.ty) ≡ true → is_read_compound texts p target e ≡ true
      by operator.Add t is h = added t is h
      by operator.Subtract t is h = numbers t is e.ty refl h
      by operator.Multiply t is h = numbers t is e.ty refl h
      by operator.Divide t is h = numbers t is e.ty refl h
      by operator.Remainder t is h = numbers t is e.ty refl h

      go : ((t : Ty) × (target.ty ≡ Of t)) → is_read_compound texts p target e ≡ true
      go found = by o found.0 found.1 (subst (λ (x : ExprType). fits_at_all (compounded o (type_of x) e.ty) ≡ true) found.1 fits)

  -- ---- steps

  pub stepped_read : (target : Typed) → can_step (type_of target.ty) ≡ true → As target → is_read_stepped texts p target ≡ true
  stepped_read target can k = go target.ty refl can
    where
      value : (u : Ty) → target.ty ≡ Of u → is_value u ≡ true → is_read_stepped texts p target ≡ true
      value u is v = or_left (is_read_expression texts p target) (is_read_walker texts p (whole target)) (valued target k u is v)

      go : (x : ExprType) → target.ty ≡ x → can_step (type_of x) ≡ true → is_read_stepped texts p target ≡ true
      go (Of ty.Char) is h = value ty.Char is refl
      go (Of ty.Int) is h = value ty.Int is refl
      go (Of ty.Long) is h = value ty.Long is refl
      go (Of ty.Size) is h = value ty.Size is refl
      go (Of (ty.Iterator item constant)) is h = or_right (is_read_expression texts p target) (is_read_walker texts p (whole target)) (k.walker (ap is_walker_type is))
      go (Of _) is h = absurd (false≢true h)
      go NullPointer is h = absurd (false≢true h)
      go TextLiteral is h = absurd (false≢true h)

  -- ---- conditions

  pub decides_read : (e : Typed) → Decides p locals result visible e → is_read_condition texts p e ≡ true
  decides_read e h = go e.ty refl h.0
    where
      k : As e
      k = read p locals texts r visible e h.1

      plain : is_plain_type e.ty ≡ true → is_void_type e.ty ≡ false → is_read_condition texts p e ≡ true
      plain of some = or_left (is_read_expression texts p e) (is_read_unique texts p (whole e)) (k.value of some)

      go : (x : ExprType) → e.ty ≡ x → is_condition x ≡ true → is_read_condition texts p e ≡ true
      go (Of ty.Bool) is c = plain (ap is_plain_type is) (ap is_void_type is)
      go (Of ty.Char) is c = plain (ap is_plain_type is) (ap is_void_type is)
      go (Of ty.Int) is c = plain (ap is_plain_type is) (ap is_void_type is)
      go (Of ty.Long) is c = plain (ap is_plain_type is) (ap is_void_type is)
      go (Of ty.Size) is c = plain (ap is_plain_type is) (ap is_void_type is)
      go (Of (ty.Raw owned constant)) is c = plain (ap is_plain_type is) (ap is_void_type is)
      go (Of (ty.Unique owned)) is c = or_right (is_read_expression texts p e) (is_read_unique texts p (whole e)) (k.unique (ap is_unique_type is))
      go (Of _) is c = absurd (false≢true c)
      go NullPointer is c = absurd (false≢true c)
      go TextLiteral is c = absurd (false≢true c)

  pub decides_if_read : (e : Option Typed) → DecidesIfAny p locals result visible e → is_read_condition_if texts p e ≡ true
  decides_if_read None h = refl
  decides_if_read (Some e) h = decides_read e h

  -- ---- outputs

  item_read : (e : Typed) → is_printed e.ty ≡ true → As e → is_read_any texts p e ≡ true
  item_read e can k = go e.ty refl can
    where
      plain : is_plain_type e.ty ≡ true → is_void_type e.ty ≡ false → is_read_any texts p e ≡ true
      plain of some = any_value p locals texts r visible e k of some

      go : (x : ExprType) → e.ty ≡ x → is_printed x ≡ true → is_read_any texts p e ≡ true
      go (Of ty.Bool) is c = plain (ap is_plain_type is) (ap is_void_type is)
      go (Of ty.Char) is c = plain (ap is_plain_type is) (ap is_void_type is)
      go (Of ty.Int) is c = plain (ap is_plain_type is) (ap is_void_type is)
      go (Of ty.Long) is c = plain (ap is_plain_type is) (ap is_void_type is)
      go (Of ty.Size) is c = plain (ap is_plain_type is) (ap is_void_type is)
      go (Of ty.View) is c = plain (ap is_plain_type is) (ap is_void_type is)
      go (Of ty.Text) is c = any_owner p locals texts r visible e k (ap is_owner_type is)
      go (Of _) is c = absurd (false≢true c)
      go NullPointer is c = absurd (false≢true c)
      go TextLiteral is c = plain (ap is_plain_type is) (ap is_void_type is)

  pub items_read : (is : List ItemForm) → AreItems p locals result visible is → are_read_items texts p is ≡ true
  items_read [] h = refl
  items_read (printed e ∷ is) h =
      and_from (is_read_any texts p e) (are_read_items texts p is) (item_read e h.0.0 (read p locals texts r visible e h.0.2)) (items_read is h.1)
  items_read (line_end place ∷ is) h = items_read is h.1

  -- ---- what is given back

  pub returned_read : (e : Typed) → is_void_type e.ty ≡ false → As e → is_read_returned texts p (Some e) ≡ true
  returned_read e some k = go (kind_of e.ty)
    where
      last : Bool
      last = is_read_fresh texts p (whole e) || is_read_unique texts p (whole e)

      beside : Bool
      beside = is_read_walker texts p (whole e) || (is_read_struct texts p (whole e) || last)

      go : IsKindOf e.ty → is_read_returned texts p (Some e) ≡ true
      go (inl plain) = or_left (is_read_any texts p e) beside (any_value p locals texts r visible e k plain some)
      go (inr (inl o)) = or_left (is_read_any texts p e) beside (any_owner p locals texts r visible e k o)
      go (inr (inr (inl w))) = or_right (is_read_any texts p e) beside (or_left (is_read_walker texts p (whole e)) (is_read_struct texts p (whole e) || last) (k.walker w))
      go (inr (inr (inr (inl u)))) =
          or_right (is_read_any texts p e) beside (or_right (is_read_walker texts p (whole e)) (is_read_struct texts p (whole e) || last)
          (or_right (is_read_struct texts p (whole e)) last (or_right (is_read_fresh texts p (whole e)) (is_read_unique texts p (whole e)) (k.unique u))))
      go (inr (inr (inr (inr s)))) =
          or_right (is_read_any texts p e) beside (or_right (is_read_walker texts p (whole e)) (is_read_struct texts p (whole e) || last)
          (or_left (is_read_struct texts p (whole e)) last (k.structure s)))
