use Rattle.std.proofs.Common.{◌≡◌, [], drop, map}
use Rattle.life_core.specs.Function.{function_of}
use Rattle.life_rules.specs.Texts.{naming_of}
use Rattle.life_psets.specs.SetTexts.{ordered, shown_seen, text_of}
use Rattle.life_psets.proofs.order.ordered_texts.Given as goal

-- with the elements that are left put in their places the list is whole
abbrev pub invariant-loop-element : goal.invariant-loop-element
invariant-loop-element l =
    let text = text_of (naming_of l.names l.sigs) l.types (function_of l.f) in
    ordered (map shown_seen l.texts.items) (map text (drop l.element-index l.elements)) ≡ ordered [] (map text l.elements)
