-- The line of a diagnostic looks only at the types and spellings that its function and the called ones name.
use Rattle.std.proofs.Common.{◌≡◌, ◌∙◌, ◌++◌, ap, ap₂, inl, inr, map, option_map, refl, slice_get, subst, sym, ℕ, Contains, List, Option, Some, None}
use Rattle.std.proofs.lemmas.Option.{slice_get-map}
use Rattle.life_types.specs.Types.{Types}
use Rattle.life_types.specs.declared.ty.NameId.{NameId}
use Rattle.life_core.specs.Function.{Function, Program}
use Rattle.life_pset.specs.Places.{path}
use Rattle.life_pset.specs.declared.element.AbsPlace.{AbsPlace}
use Rattle.life_pset.specs.declared.element.Root.{Root}
use Rattle.life_contract.specs.Inputs.{parameter_in}
use Rattle.life_contract.specs.Signatures.{Signature, signatures_of}
use Rattle.life_contract.specs.declared.param.Param.{Param}
use Rattle.life_rules.specs.Diagnosing.{IsDiagnosed}
use Rattle.life_rules.specs.Lines.{kind_number, line_of}
use Rattle.life_rules.specs.Listing.{IsProgramDiagnosed, line_in, program_line}
use Rattle.life_rules.specs.Texts.{Naming, called_text, diag_name, function_text, name_text, naming_in, or_nothing, parameter_at, parameter_text}
use Rattle.life_rules.specs.declared.diag.Diag.{Diag}
use Rattle.life_modular.specs.Modular.{AreAlikeAt, CallsAlike, CallsName}
use Rattle.life_modular.specs.Renumbering.{Renumbering, renumbered_function, renumbered_parameter, renumbered_signature}
use Rattle.life_modular.specs.Spelled.{IsHeadSpelledAlike, IsSpelledAlike, SpellAlike}
use Rattle.life_modular.specs.Vocabulary.{Vocabulary, CalleeNames, HaveAlike, Names}
use Rattle.life_modular.proofs.AlikeCalling.{callee_renumbered}
use Rattle.life_modular.proofs.AlikeLists.{each_place}
use Rattle.life_modular.proofs.AlikePrograms.{diagnosed_here}
use Rattle.life_modular.proofs.AlikeTexts.{name_same, place_text_same, typed_steps_same, why_text_same}
use Rattle.life_modular.proofs.SpokenCalls.{Calls}
use Rattle.life_modular.proofs.SpokenDiags.{CalledSpeaks, IsCalledName, Speaks}
use Rattle.life_modular.proofs.SpokenPoints.{diagnosed_speaks}

-- the parameter's type is in the vocabulary and its name spelled alike, if there is such a parameter
abbrev IsParameterAlike : Vocabulary → (these those : List (List ℕ)) → Option Param → Type 0
IsParameterAlike v these those None = Unit {0}
IsParameterAlike v these those (Some p) = Contains v.types p.ty × IsSpelledAlike these those p.name

-- .. and the names of a signature, if there is one
abbrev IsCalleeSpelled : (these those : List (List ℕ)) → Option Signature → Type 0
IsCalleeSpelled these those callee = (sig : Signature) → callee ≡ Some sig → IsHeadSpelledAlike these those sig

parameter_at_renumbered : (new : Renumbering) (callee : Option Signature) (r : Root)
    → parameter_at (option_map (renumbered_signature new) callee) r ≡ option_map (renumbered_parameter new) (parameter_at callee r)
parameter_at_renumbered new None r = refl
parameter_at_renumbered new (Some sig) r = slice_get-map (renumbered_parameter new) sig.parameters (parameter_in r)

module _ {v : Vocabulary} {new : Renumbering} {these those : Types} (alike : HaveAlike v new these those) {here there : Naming} {f : Function} (spelled : SpellAlike v new here there f) where
  -- ---- names of what is called

  called_text_same : (callee : Option Signature) → IsCalleeSpelled here.spelling.texts there.spelling.texts callee
      → called_text there.spelling (option_map (renumbered_signature new) callee) ≡ called_text here.spelling callee
  called_text_same None heads = refl
  called_text_same (Some sig) heads = ap or_nothing (heads sig refl).name

  parameter_text_same : (o : Option Param) → IsParameterAlike v here.spelling.texts there.spelling.texts o → (steps : List ℕ)
      → parameter_text there.spelling those (option_map (renumbered_parameter new) o) steps ≡ parameter_text here.spelling these o steps
  parameter_text_same None named steps = refl
  parameter_text_same (Some p) named steps =
      ap₂ (λ (name part : List ℕ). name ++ part) (name_same here.spelling there.spelling p.name named.1) (typed_steps_same alike spelled (Some p.ty) named.0 steps)

  parameter_alike : (callee : Option Signature) → CalleeNames v callee → IsCalleeSpelled here.spelling.texts there.spelling.texts callee → (r : Root)
      → IsParameterAlike v here.spelling.texts there.spelling.texts (parameter_at callee r)
  parameter_alike None heads spelt r = tt
  parameter_alike (Some sig) heads spelt r =
      each_place
      (IsParameterAlike v here.spelling.texts there.spelling.texts)
      tt
      sig.parameters
      (λ p among. ((heads sig refl).parameters p among, (spelt sig refl).parameters p among))
      (parameter_in r)

  module _ (called : CallsName v here.sigs f) (calls : CallsAlike (map (renumbered_signature new) here.sigs) there.sigs f) where
    callee_same : (g : ℕ) → Calls f g → slice_get there.sigs g ≡ option_map (renumbered_signature new) (slice_get here.sigs g)
    callee_same g (point, (s, (is, seen))) =
        sym (seen there.sigs) ∙ sym (calls point s is) ∙ seen (map (renumbered_signature new) here.sigs) ∙ callee_renumbered new here.sigs g

    callee_named : (g : ℕ) → Calls f g → CalleeNames v (slice_get here.sigs g)
    callee_named g (point, (s, (is, seen))) sig e = called point s is sig (seen here.sigs ∙ e)

    callee_spelled : (g : ℕ) → Calls f g → IsCalleeSpelled here.spelling.texts there.spelling.texts (slice_get here.sigs g)
    callee_spelled g (point, (s, (is, seen))) sig e = spelled.heads point s sig is (seen here.sigs ∙ e)

    function_same : (g : ℕ) → Calls f g → function_text there g ≡ function_text here g
    function_same g has = ap (called_text there.spelling) (callee_same g has) ∙ called_text_same (slice_get here.sigs g) (callee_spelled g has)

    called_name_same : (name : NameId) → IsCalledName here.sigs f name → name_text there.spelling name ≡ name_text here.spelling name
    called_name_same name (g, (has, (sig, (is, named)))) =
        let head : IsHeadSpelledAlike here.spelling.texts there.spelling.texts sig = callee_spelled g has sig is in
        elim named [
          | inl e ↦ ap or_nothing (subst (λ (n : NameId). IsSpelledAlike here.spelling.texts there.spelling.texts (Some n)) e head.name)
          | inr w ↦ ap or_nothing (subst (IsSpelledAlike here.spelling.texts there.spelling.texts) w.1.1 (head.parameters w.0 w.1.0))
        ]

    -- ---- of a diagnostic

    module _ (names : Names v f) where
      diag_name_same : (o : Option ℕ) → CalledSpeaks f o → (l : AbsPlace)
          → diag_name there those (renumbered_function new f) o l ≡ diag_name here these f o l
      diag_name_same None has l = place_text_same alike spelled names l
      diag_name_same (Some g) has l =
          let callee : Option Signature = slice_get here.sigs g in
          ap (λ (o : Option Signature). parameter_text there.spelling those (parameter_at o l.root) (path l)) (callee_same g has)
          ∙ ap (λ (o : Option Param). parameter_text there.spelling those o (path l)) (parameter_at_renumbered new callee l.root)
          ∙ parameter_text_same (parameter_at callee l.root) (parameter_alike callee (callee_named g has) (callee_spelled g has) l.root) (path l)

      pub line_same : (d : Diag) → Speaks here.sigs f d → line_of there those (renumbered_function new f) d ≡ line_of here these f d
      line_same d speaks =
          ap₂
          (λ (name why : List ℕ). record { line = d.place.line; column = d.place.column; kind = kind_number d.kind; name = name; why = why })
          (diag_name_same d.called speaks.0 d.name)
          (why_text_same alike spelled names function_same d.why speaks.1 called_name_same)

-- ---- in two programs

pub same_line : (v : Vocabulary) (new : Renumbering) (p q : Program) (n : ℕ) (f : Function) → AreAlikeAt v new p q n f
    → SpellAlike v new (naming_in p) (naming_in q) f
    → (d : Diag) → d.function ≡ n → IsProgramDiagnosed p d → program_line p d ≡ program_line q d
same_line v new p q n f alike spelled d at wrong =
    let here : IsDiagnosed (signatures_of p.functions) p.types d.function f d = diagnosed_here v new p q n f alike d at wrong in
    ap (λ (o : Option Function). line_in p o d) (ap (slice_get p.functions) at ∙ alike.one)
    ∙ sym
    (ap (λ (o : Option Function). line_in q o d) (ap (slice_get q.functions) at ∙ alike.other)
    ∙ line_same alike.types spelled alike.called alike.calls alike.names d (diagnosed_speaks (signatures_of p.functions) p.types d.function f d here))
