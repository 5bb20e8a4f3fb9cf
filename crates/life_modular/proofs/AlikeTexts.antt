-- What is printed of a function looks only at the types and spellings that it names.
use Rattle.std.proofs.Common.{◌≡◌, ◌∙◌, ◌++◌, ap, ap₂, codes, if◌then◌else◌, nat_eq, option_and_then, option_map, refl, slice_get, ℕ, Bool, List, [], ◌∷◌, Option, Some, None}
use Rattle.life_types.specs.Places.{position_text}
use Rattle.life_types.specs.Types.{Types}
use Rattle.life_types.specs.declared.ty.NameId.{NameId}
use Rattle.life_types.specs.declared.ty.Ty.{Ty}
use Rattle.life_types.specs.declared.ty.Ty.TheVariants as ty
use Rattle.life_types.specs.declared.ty.TyId.{TyId}
use Rattle.life_core.specs.Function.{Function, member_name}
use Rattle.life_core.specs.declared.program.Local.{Local}
use Rattle.life_core.specs.declared.program.LocalKind.{LocalKind}
use Rattle.life_pset.specs.Elements.{Input}
use Rattle.life_pset.specs.Places.{owned_step, path}
use Rattle.life_pset.specs.Shapes.{local_type, ty_if}
use Rattle.life_pset.specs.declared.element.AbsPlace.{AbsPlace}
use Rattle.life_pset.specs.declared.element.Cause.{Cause}
use Rattle.life_pset.specs.declared.element.CauseKind.{CauseKind}
use Rattle.life_pset.specs.declared.element.CauseKind.TheVariants as cause
use Rattle.life_pset.specs.declared.element.Element.{Element}
use Rattle.life_pset.specs.declared.element.Element.TheVariants as element
use Rattle.life_pset.specs.declared.element.Root.{Root}
use Rattle.life_pset.specs.declared.element.Root.TheVariants as root
use Rattle.life_contract.specs.Positions.{pointed_type, step_type}
use Rattle.life_rules.specs.Texts.{Naming, Spelling, behind_type, cause_subject, cause_text, element_text, function_text, input_number, input_of, input_text, inputs_at, is_result, local_text, member_text, name_if, name_text, named, named_local, or_nothing, part_text, place_text, points_text, rooted_text, step_text, steps_text, why_text}
use Rattle.life_rules.specs.declared.diag.Why.{Why}
use Rattle.life_rules.specs.declared.diag.Why.TheVariants as why
use Rattle.life_rules.proofs.Giving.{none_in_empty}
use Rattle.life_modular.specs.Renumbering.{Renumbering, renumbered_function, renumbered_input, renumbered_local, renumbered_type}
use Rattle.life_modular.specs.Spelled.{IsSpelledAlike, SpellAlike}
use Rattle.life_modular.specs.Vocabulary.{Vocabulary, HasPartsIn, HaveAlike, Names}
use Rattle.life_modular.proofs.AlikeInputs.{AreInputsNamed, local_inputs_named}
use Rattle.life_modular.proofs.AlikeKeeping.{input_of_same}
use Rattle.life_modular.proofs.AlikeLists.{each_place}
use Rattle.life_modular.proofs.AlikePromises.{pointed_type_named, pointed_type_same, step_type_named, step_type_same}
use Rattle.life_modular.proofs.AlikeReturning.{is_result_same}
use Rattle.life_modular.proofs.AlikeTypes.{IsLocalNamed, IsNamed, local_named, local_type_named, local_type_same, ty_if_named, ty_if_same}
use Rattle.life_modular.proofs.Renumbered.{local_renumbered}
use Rattle.life_modular.proofs.SpokenCalls.{Calls, CauseCalls, ElementCalls, KindCalls}
use Rattle.life_modular.proofs.SpokenDiags.{IsCalledName, WhySpeaks}

-- the input's type is in the vocabulary, if there is such an input
abbrev IsInputNamed : Vocabulary → Option Input → Type 0
IsInputNamed v None = Unit {0}
IsInputNamed v (Some i) = IsNamed v i.ty

-- .. and the name of a local is spelled alike, if there is such a local
abbrev IsLocalSpelled : (these those : List (List ℕ)) → Option Local → Type 0
IsLocalSpelled these those None = Unit {0}
IsLocalSpelled these those (Some l) = IsSpelledAlike these those l.name

-- ---- names

pub name_same : (here there : Spelling) (name : Option NameId) → IsSpelledAlike here.texts there.texts name → name_if there name ≡ name_if here name
name_same here there None alike = refl
name_same here there (Some name) alike = ap or_nothing alike

named_same : (here there : Spelling) (result : Bool) (kind : LocalKind) (name : Option NameId) → IsSpelledAlike here.texts there.texts name
    → named there result kind name ≡ named here result kind name
named_same here there result kind None alike = refl
named_same here there result kind (Some name) alike = ap or_nothing alike

named_local_same : (new : Renumbering) (here there : Spelling) (result : Bool) (o : Option Local) → IsLocalSpelled here.texts there.texts o
    → named_local there result (option_map (renumbered_local new) o) ≡ named_local here result o
named_local_same new here there result None alike = refl
named_local_same new here there result (Some l) alike = named_same here there result l.kind l.name alike

module _ {v : Vocabulary} {new : Renumbering} {these those : Types} (alike : HaveAlike v new these those) {here there : Naming} {f : Function} (spelled : SpellAlike v new here there f) where
  -- ---- steps from what has a type

  member_text_same : (t : Ty) → HasPartsIn v t → (m : ℕ) → member_text there.spelling (renumbered_type new t) m ≡ member_text here.spelling t m
  member_text_same (ty.Struct number) among m =
      ap
      (λ (name : List ℕ). codes "." ++ name)
      (ap (λ (o : Option (List NameId)). name_if there.spelling (option_and_then (λ (members : List NameId). slice_get members m) o)) (spelled.members number among)
      ∙ name_same here.spelling there.spelling (member_name here.spelling.members number m) (spelled.member_names number m among))
  member_text_same _ parts m = refl

  step_text_same : (t : Ty) → HasPartsIn v t → (step : ℕ) → step_text there.spelling (renumbered_type new t) step ≡ step_text here.spelling t step
  step_text_same t parts step = ap (λ (member : List ℕ). if nat_eq step owned_step then codes "'" else member) (member_text_same t parts step)

  steps_text_same : (t : Ty) → HasPartsIn v t → (ss : List ℕ) → steps_text there.spelling those (renumbered_type new t) ss ≡ steps_text here.spelling these t ss
  steps_text_same t parts [] = refl
  steps_text_same t parts (s ∷ ss) =
      ap₂
      (λ (step others : List ℕ). step ++ others)
      (step_text_same t parts s)
      (ap (λ (next : Ty). steps_text there.spelling those next ss) (step_type_same alike t parts s) ∙ steps_text_same (step_type these t s) (step_type_named alike t parts s) ss)

  pub typed_steps_same : (id : Option TyId) → IsNamed v id → (ss : List ℕ)
      → steps_text there.spelling those (ty_if those (option_map new.type id)) ss ≡ steps_text here.spelling these (ty_if these id) ss
  typed_steps_same id named ss =
      ap (λ (t : Ty). steps_text there.spelling those t ss) (ty_if_same alike id named) ∙ steps_text_same (ty_if these id) (ty_if_named alike id named) ss

  behind_steps_same : (input : Option Input) → IsInputNamed v input → (ss : List ℕ)
      → steps_text there.spelling those (behind_type those (option_map (renumbered_input new) input)) ss ≡ steps_text here.spelling these (behind_type these input) ss
  behind_steps_same None named ss = steps_text_same ty.Void tt ss
  behind_steps_same (Some i) named ss =
      let parts : HasPartsIn v (ty_if these i.ty) = ty_if_named alike i.ty named in
      ap
      (λ (t : Ty). steps_text there.spelling those t ss)
      (ap (pointed_type those) (ty_if_same alike i.ty named) ∙ pointed_type_same alike (ty_if these i.ty) parts)
      ∙ steps_text_same (pointed_type these (ty_if these i.ty)) (pointed_type_named alike (ty_if these i.ty) parts) ss

  module _ (names : Names v f) where
    inputs_at_named : (n x : ℕ) (o : Option Local) → IsLocalNamed v o → AreInputsNamed v (inputs_at these n x o)
    inputs_at_named n x None named i among = absurd (none_in_empty i among)
    inputs_at_named n x (Some l) named i among = local_inputs_named alike n x l named i among

    input_of_named : (q : ℕ) (member : Option ℕ) → IsInputNamed v (input_of these f q member)
    input_of_named q member =
        let o : Option Local = slice_get f.locals q in
        each_place (IsInputNamed v) tt (inputs_at these f.parameters q o) (inputs_at_named f.parameters q o (local_named alike names q)) (input_number member)

    -- ---- places

    local_text_same : (x : ℕ) → local_text there.spelling those (renumbered_function new f) x ≡ local_text here.spelling these f x
    local_text_same x =
        ap₂ (named_local there.spelling) (is_result_same alike f names x) (local_renumbered new f x)
        ∙ named_local_same new here.spelling there.spelling (is_result these f x) (slice_get f.locals x)
        (each_place (IsLocalSpelled here.spelling.texts there.spelling.texts) tt f.locals spelled.locals x)

    part_text_same : (x : ℕ) (steps : List ℕ) → part_text there.spelling those (renumbered_function new f) x steps ≡ part_text here.spelling these f x steps
    part_text_same x steps =
        ap₂
        (λ (name part : List ℕ). name ++ part)
        (local_text_same x)
        (ap (λ (id : Option TyId). steps_text there.spelling those (ty_if those id) steps) (local_type_same alike names x)
        ∙ typed_steps_same (local_type these f x) (local_type_named alike names x) steps)

    input_text_same : (q : ℕ) (input : Option Input)
        → input_text there.spelling those (renumbered_function new f) q (option_map (renumbered_input new) input) ≡ input_text here.spelling these f q input
    input_text_same q None = ap (λ (name : List ℕ). codes "in(" ++ name ++ codes ")") (local_text_same q)
    input_text_same q (Some i) = ap (λ (part : List ℕ). codes "in(" ++ part ++ codes ")") (part_text_same q (path i.pointer))

    rooted_text_same : (r : Root) (steps : List ℕ) → rooted_text there.spelling those (renumbered_function new f) r steps ≡ rooted_text here.spelling these f r steps
    rooted_text_same (root.Local x) steps = part_text_same x steps
    rooted_text_same (root.Input q member) steps =
        let input : Option Input = input_of these f q member in
        ap
        (λ (o : Option Input). input_text there.spelling those (renumbered_function new f) q o ++ steps_text there.spelling those (behind_type those o) steps)
        (input_of_same alike f names q member)
        ∙ ap₂ (λ (given behind : List ℕ). given ++ behind) (input_text_same q input) (behind_steps_same input (input_of_named q member) steps)

    pub place_text_same : (a : AbsPlace) → place_text there.spelling those (renumbered_function new f) a ≡ place_text here.spelling these f a
    place_text_same a = rooted_text_same a.root (path a)

    -- ---- causes, elements and reasons, where the function is spelled alike that a call speaks of

    module _ (function_same : (g : ℕ) → Calls f g → function_text there g ≡ function_text here g) where
      cause_subject_same : (x : ℕ) (kind : CauseKind) → KindCalls f kind x → cause_subject there those (renumbered_function new f) x kind ≡ cause_subject here these f x kind
      cause_subject_same x cause.Uninitialised calls = ap (λ (name : List ℕ). name ++ codes " uninitialised at ") (local_text_same x)
      cause_subject_same x cause.Ended calls = ap (λ (name : List ℕ). name ++ codes " ended at ") (local_text_same x)
      cause_subject_same x cause.TemporaryEnded calls = refl
      cause_subject_same x cause.Changed calls = ap (λ (name : List ℕ). name ++ codes " changed at ") (local_text_same x)
      cause_subject_same x cause.OwnerChanged calls = refl
      cause_subject_same x cause.Moved calls = ap (λ (name : List ℕ). name ++ codes " moved at ") (local_text_same x)
      cause_subject_same g cause.Called calls = ap (λ (name : List ℕ). codes "call of " ++ name ++ codes " at ") (function_same g calls)

      cause_text_same : (c : Cause) → CauseCalls f c → cause_text there those (renumbered_function new f) c ≡ cause_text here these f c
      cause_text_same c calls = ap (λ (subject : List ℕ). subject ++ position_text c.place) (cause_subject_same c.root c.kind calls)

      element_text_same : (e : Element) → ElementCalls f e → element_text there those (renumbered_function new f) e ≡ element_text here these f e
      element_text_same (element.Invalid c) calls = ap (λ (cause : List ℕ). codes "invalid(" ++ cause ++ codes ")") (cause_text_same c calls)
      element_text_same (element.Moved c) calls = ap (λ (cause : List ℕ). codes "moved(" ++ cause ++ codes ")") (cause_text_same c calls)
      element_text_same (element.At a) calls = place_text_same a
      element_text_same _ calls = refl

      points_text_same : (e : Element) → ElementCalls f e → points_text there those (renumbered_function new f) e ≡ points_text here these f e
      points_text_same element.Null calls = refl
      points_text_same e calls = ap (λ (target : List ℕ). codes "may point to " ++ target) (element_text_same e calls)

      pub why_text_same : (w : Why) → WhySpeaks here.sigs f w
          → ((name : NameId) → IsCalledName here.sigs f name → name_text there.spelling name ≡ name_text here.spelling name)
          → why_text there those (renumbered_function new f) w ≡ why_text here these f w
      why_text_same why.Null speaks called_name_same = refl
      why_text_same (why.Cause c) speaks called_name_same = cause_text_same c speaks
      why_text_same (why.Overlap name) speaks called_name_same = ap (λ (text : List ℕ). codes "overlaps " ++ text) (called_name_same name speaks)
      why_text_same (why.Points e) speaks called_name_same = points_text_same e speaks
