-- `std::make_unique` is well typed; the type that it makes may be added to the table.
use Rattle.std.proofs.Common.{◌≡◌, ℕ, true, Option, None, Some, Ok, List, [], ◌∷◌, length, refl, sym, subst, ◌∙◌}
use Rattle.life_types.specs.Trees.{IsOrdered, TypeTree, is_plain, tree_at}
use Rattle.life_types.specs.Types.{Types, HasType}
use Rattle.life_types.specs.declared.place.Place.{Place}
use Rattle.life_types.specs.declared.ty.Ty.{Ty}
use Rattle.life_types.specs.declared.ty.Ty.TheVariants as ty
use Rattle.life_types.specs.declared.ty.TyId.{TyId}
use Rattle.life_tree.specs.declared.type_name.TypeArgument.{TypeArgument}
use Rattle.life_typed.specs.BaseTypes.{type_at}
use Rattle.life_typed.specs.Conversions.{fits}
use Rattle.life_typed.specs.Programs.{ProgramForm}
use Rattle.life_typed.specs.TypedForm.{Typed, forms, make_unique, optional_form}
use Rattle.life_typed.specs.declared.typed_program.TypedLocal.{TypedLocal}
use Rattle.life_names.specs.Checked.{Checked, ◌>>=◌}
use Rattle.life_names.specs.Environment.{Scope}
use Rattle.life_names.specs.WrittenTypes.{argument_meaning, checked_element, held_fault, made_element, written_argument}
use Rattle.life_names.specs.declared.fault.IllKind.{IllKind}
use Rattle.life_names.specs.declared.fault.IllKind.TheVariants as kinds
use Rattle.life_type_expr.specs.Expressions.{first_of, unique_made}
use Rattle.life_type_expr.specs.Lists.{ListMeaning, count_fault, is_taken, lower_kind, misfits, one_misfit, optional, passed}
use Rattle.life_type_expr.specs.Operands.{value}
use Rattle.life_well_typed.specs.Expressions.{AreExpressions, IsExpressionIfAny}
use Rattle.life_well_typed.specs.Members.{is_optional}
use Rattle.life_well_typed.specs.Visible.{Visible}
use Rattle.life_typing_laws.proofs.Fitting.{first_none, lower_none, misfit_none, same_tree_at, given_later}
use Rattle.life_well_typed.proofs.ObjectsKept.{object_there}
use Rattle.life_well_typed.specs.Tables.{IsObject}
use Rattle.life_typing_laws.proofs.Growing.{IsGrown, grown_on, object_later, parts_there, same_type_at}
use Rattle.life_typing_laws.proofs.Reading.{IsPassed, PlacesThere, passed_is}
use Rattle.life_typing_laws.proofs.Scopes.{sound_now}
use Rattle.life_typing_laws.proofs.Steps.{bound, same_value}
use Rattle.life_typing_laws.proofs.Typed.{Good, GoodList, IsGood, IsTyped, PlaceThere}
use Rattle.life_typing_laws.proofs.Written.{IsFound, argument_finds, held_plain}
use Rattle.life_typing_laws.specs.Sound.{Grows, IsFinal, IsSound}

-- ---- the element

-- it is there, in a table that has grown, and is plain
record IsElement (types : Types) (x : TyId × Types) : Type 0 where
  found : IsFound types x
  plain : is_plain (tree_at x.1 x.0) ≡ true

element_is : (a : TypeArgument) (place : Place) (v : Visible) (scope : Scope) (types : Types) (x : TyId × Types) → IsSound v scope types → made_element a place scope types ≡ Ok x → IsElement types x
element_is a place v scope types x sound e =
    let step = bound (written_argument a place scope types) (λ y. checked_element (held_fault (argument_meaning a).constant y.1 y.0) place y) x e in
    go (held_fault (argument_meaning a).constant step.value.1 step.value.0) step.value refl step.behind (argument_finds a place scope types step.value sound.ordered sound.based sound.structs_there step.gave)
  where
    go : (fault : Option IllKind) (y : TyId × Types) → held_fault (argument_meaning a).constant y.1 y.0 ≡ fault → checked_element fault place y ≡ Ok x → IsFound types y → IsElement types x
    go None y is h found =
        let same : y ≡ x = same_value y x h in
        subst (IsElement types) same (record { found = found; plain = held_plain (argument_meaning a).constant y.1 y.0 is })
    go (Some kind) y is h found = absurd (cc)

-- ---- what it is made of

module _ (old new : Types) (id : TyId) where
  abbrev Fine : List Typed → Type 0
  Fine es = misfits kinds.WrongArguments (optional id) old (lower_kind None (count_fault kinds.WrongArguments (optional id) (length es))) 0 es ≡ None

  module _ (ordered : IsOrdered old) (grows : Grows old new) (there : HasType old id) where
    one_taken : (e : Typed) → PlaceThere old e.category → one_misfit kinds.WrongArguments (optional id) old 0 e ≡ None → is_taken new (Some (type_at new id)) e ≡ true
    one_taken e place fine =
        subst (λ (t : Ty). is_taken new (Some t) e ≡ true) (sym (same_type_at old new id grows there))
        (given_later old new ordered grows (type_at old id) e (parts_there old id ordered there) place (misfit_none kinds.WrongArguments (fits old (type_at old id) e.ty e.category) fine))

    optional_taken : (es : List Typed) → PlacesThere old es → Fine es → is_optional new id (optional_form (first_of es)) ≡ true
    optional_taken [] places fine = refl
    optional_taken (e ∷ es) places fine =
        let lowest = count_fault kinds.WrongArguments (optional id) (length (e ∷ es)) in
        one_taken e places.0 (lower_none lowest (one_misfit kinds.WrongArguments (optional id) old 0 e)
        (first_none kinds.WrongArguments (optional id) old (lower_kind lowest (one_misfit kinds.WrongArguments (optional id) old 0 e)) 1 es fine)).1

optional_typed : (p : ProgramForm) (locals : List TypedLocal) (visible : List ℕ) (es : List Typed) → AreExpressions p locals visible (forms es) → IsExpressionIfAny p locals visible (optional_form (first_of es))
optional_typed p locals visible [] are = tt
optional_typed p locals visible (e ∷ es) are = are.0

-- ---- the whole

record Makes (v : Visible) (element : TypeArgument) (place : Place) (l : ListMeaning) (scope : Scope) (types : Types) (x : Typed × Types) : Type 0 where
  id : TyId × Types
  found : IsElement types id
  y : List Typed × Types
  passed : IsPassed v kinds.WrongArguments None (optional id.0) scope id.1 y
  is : ◌≡◌ {A = Typed × Types} (value place (ty.Unique id.0) (make_unique id.0 (optional_form (first_of y.0)) l.delimiters.closing), y.1) x

abbrev made_of : Place → ListMeaning → TyId → List Typed × Types → Checked Typed
made_of place l id y = Ok (value place (ty.Unique id) (make_unique id (optional_form (first_of y.0)) l.delimiters.closing), y.1)

makes : (place : Place) (element : TypeArgument) (l : ListMeaning) (v : Visible) (scope : Scope) (types : Types) (x : Typed × Types) → GoodList l → unique_made place element l scope types ≡ Ok x → IsSound v scope types
    → Makes v element place l scope types x
makes place element l v scope types x good e sound =
    let first = bound (made_element element place scope types) (λ y. passed kinds.WrongArguments None place (optional y.0) l.list scope y.1 >>= made_of place l y.0) x e in
    let step = bound (passed kinds.WrongArguments None place (optional first.value.0) l.list scope first.value.1) (made_of place l first.value.0) x first.behind in
    let found = element_is element place v scope types first.value sound first.gave in
    record {
      id = first.value;
      found = found;
      y = step.value;
      passed = passed_is kinds.WrongArguments None place (optional first.value.0) l.list v scope first.value.1 step.value good step.gave (sound_now v scope types first.value.1 sound found.found.grown);
      is = same_value (value place (ty.Unique first.value.0) (make_unique first.value.0 (optional_form (first_of step.value.0)) l.delimiters.closing), step.value.1) x step.behind;
    }

pub unique_good : (place : Place) (element : TypeArgument) (l : ListMeaning) → GoodList l → Good (unique_made place element l)
unique_good place element l good v scope types x e sound = made (makes place element l v scope types x good e sound)
  where
    made : Makes v element place l scope types x → IsGood v scope types x
    made m = subst (IsGood v scope types) m.is (record { grown = grown; is = λ p locals final. typed p locals final })
      where
        grown : IsGrown types m.y.1
        grown = grown_on types m.id.1 m.y.1 m.found.found.grown m.passed.read.grown

        sound_then : IsSound v scope m.id.1
        sound_then = sound_now v scope types m.id.1 sound m.found.found.grown

        object : IsObject m.y.1 m.id.0
        object = object_later m.id.1 m.y.1 m.id.0 m.passed.read.grown.grows m.found.found.object

        there : HasType m.y.1 m.id.0
        there = object_there m.y.1 m.id.0 object

        typed : (p : ProgramForm) (locals : List TypedLocal) → IsFinal p locals scope m.y.1
            → IsTyped p locals v m.y.1 (value place (ty.Unique m.id.0) (make_unique m.id.0 (optional_form (first_of m.y.0)) l.delimiters.closing))
        typed p locals final = record {
          is = (
            refl,
            record { object = object_later m.y.1 p.types m.id.0 final.grown object; plain = subst (λ (t : TypeTree). is_plain t ≡ true) (sym plain_still) m.found.plain },
            optional_taken m.y.1 p.types m.id.0 m.passed.read.grown.ordered final.grown there m.y.0 (subst (PlacesThere m.y.1) (sym m.passed.read.all) (m.passed.read.places p locals final)) m.passed.fine,
            optional_typed p locals v.visible m.y.0 (subst (λ (es : List Typed). AreExpressions p locals v.visible (forms es)) (sym m.passed.read.all) (m.passed.read.are p locals final)),
          );
          parts = there;
          place = tt;
        }
          where
            plain_still : tree_at p.types m.id.0 ≡ tree_at m.id.1 m.id.0
            plain_still = same_tree_at m.y.1 p.types m.passed.read.grown.ordered final.grown m.id.0 there ∙ same_tree_at m.id.1 m.y.1 m.found.found.grown.ordered m.passed.read.grown.grows m.id.0 (object_there m.id.1 m.id.0 m.found.found.object)
