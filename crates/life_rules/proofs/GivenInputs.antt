-- What is given for the inputs, one after the other.
use Rattle.std.proofs.Common.{◌≡◌, ◌∙◌, ◌+◌, ◌<◌, ℕ, List, [], ◌∷◌, ◌++◌, Contains, ap, get_or, inl, inr, length, map, subst, sym, take}
use Rattle.std.proofs.lemmas.List.{map-append, map_more}
use Rattle.std.proofs.lemmas.List.Elements.{Contains-push_cases}
use Rattle.life_pset.specs.Elements.{Input}
use Rattle.life_pset.specs.Inputs.{input_seen}
use Rattle.life_pset.specs.declared.element.Fact.{Fact}
use Rattle.life_pset.specs.declared.input_list.InputPointer.{InputPointer}
use Rattle.life_rules.specs.Given.{given_input, IsGiven}
use Rattle.life_rules.specs.declared.arguing.CallAt.{CallAt}
use Rattle.life_rules.specs.declared.given.Given.{Given}

pub given_more : (c : CallAt) (facts : List Fact) (inputs : List InputPointer) (k : ℕ) (x : InputPointer) (before after : List Given) (new : Given) → k < length inputs → new.input ≡ get_or inputs k x → IsGiven c facts new → after ≡ before ++ new ∷ []
    → map given_input before ≡ map input_seen (take k inputs) → ((g : Given) → Contains before g → IsGiven c facts g) → (map given_input after ≡ map input_seen (take (k + 1) inputs)) × ((g : Given) → Contains after g → IsGiven c facts g)
given_more c facts inputs k x before after new within of_input given is so_far all = (
  ap (map given_input) is
      ∙ map-append given_input before (new ∷ [])
      ∙ ap (λ (ins : List Input). ins ++ given_input new ∷ []) so_far
      ∙ ap (λ (i : InputPointer). map input_seen (take k inputs) ++ input_seen i ∷ []) of_input
      ∙ sym (map_more input_seen inputs k x within),
  λ g h.
      elim (Contains-push_cases before new g (subst (λ (gs : List Given). Contains gs g) is h)) [
        | inl was ↦ all g was
        | inr here ↦ subst (λ (one : Given). IsGiven c facts one) here given
      ],
)
