-- A fold over a written type that looks at no address sees no difference when the type is settled.
-- For each type: what is claimed of it, a layer of parts of which it holds, and that it holds of what such a layer makes.
use Rattle.std.proofs.Common.{◌≡◌, refl, ap, sym, subst, ◌∙◌}
use Rattle.life_tree.specs.declared.type_name.Base.{Base, roll-Base}
use Rattle.life_tree.specs.declared.type_name.TypeArgument.{TypeArgument, roll-TypeArgument}
use Rattle.life_tree.specs.declared.type_name.TypeName.{TypeName, roll-TypeName}
use Rattle.life_tree.specs.declared.type_name.Base.TheFolds.{fold-Base, fold-TypeArgument, fold-TypeName}
use Rattle.life_tree.specs.declared.type_name.Base.TheFolds.{fold-roll-Base, fold-roll-TypeArgument, fold-roll-TypeName}
use Rattle.life_tree.specs.declared.type_name.Base.TheFolds.{ind-TypeArgument, ind-TypeName}
use Rattle.life_tree.specs.declared.type_name.Base.TheFolds.{map-Base, map-TypeArgument, map-TypeName}
use Rattle.life_tree.specs.declared.type_name.Base.TheOpen as type_open
use Rattle.life_unique.proofs.TypeLayers.{settle_base, settle_argument, settle_type}
use Rattle.life_unique.proofs.TypeLayers.{Claims, Layer-Base, Layer-TypeArgument, Layer-TypeName}
use Rattle.life_unique.proofs.TypeLayers.{parts_base, parts_argument, parts_type}
use Rattle.life_unique.proofs.TypeLayers.{settled_of_base, settled_of_argument, settled_of_type}
use Rattle.life_unique.specs.SettledTypes.{Opened-Base, Opened-TypeArgument, Opened-TypeName}
use Rattle.life_unique.specs.SettledTypes.{bare_argument}
use Rattle.life_unique.specs.SettledTypes.{settled_base, settled_argument, settled_type}

module _ (A B C : Type 0)
    (base_step : type_open.Base-F A B C → A)
    (argument_step : type_open.TypeArgument-F A B C → B)
    (type_step : type_open.TypeName-F A B C → C)
    (argument_blind : (l : type_open.TypeArgument-F A B C) → argument_step (bare_argument l) ≡ argument_step l) where
  abbrev of_base : Base → A
  of_base = fold-Base A B C
      base_step argument_step type_step

  abbrev of_argument : TypeArgument → B
  of_argument = fold-TypeArgument A B C
      base_step argument_step type_step

  abbrev of_type : TypeName → C
  of_type = fold-TypeName A B C
      base_step argument_step type_step

  abbrev Seen-Base : Base → Type 0
  Seen-Base x = of_base (settled_base x) ≡ of_base x

  abbrev Seen-TypeArgument : TypeArgument → Type 0
  Seen-TypeArgument x = of_argument (settled_argument x) ≡ of_argument x

  abbrev Seen-TypeName : TypeName → Type 0
  Seen-TypeName x = of_type (settled_type x) ≡ of_type x

  abbrev claims : Claims
  claims = record {
    base = Seen-Base;
    argument = Seen-TypeArgument;
    type = Seen-TypeName;
  }

  -- what is seen of a layer's parts
  abbrev of_parts_base : Opened-Base → type_open.Base-F A B C
  of_parts_base = map-Base Base TypeArgument TypeName
      A B C
      of_base of_argument of_type

  abbrev of_parts_argument : Opened-TypeArgument → type_open.TypeArgument-F A B C
  of_parts_argument = map-TypeArgument Base TypeArgument TypeName
      A B C
      of_base of_argument of_type

  abbrev of_parts_type : Opened-TypeName → type_open.TypeName-F A B C
  of_parts_type = map-TypeName Base TypeArgument TypeName
      A B C
      of_base of_argument of_type

  -- .. and of what is made of it
  base_rolled : (l : Opened-Base) → of_base (roll-Base l) ≡ base_step (of_parts_base l)
  base_rolled = fold-roll-Base A B C
      base_step argument_step type_step

  argument_rolled : (l : Opened-TypeArgument) → of_argument (roll-TypeArgument l) ≡ argument_step (of_parts_argument l)
  argument_rolled = fold-roll-TypeArgument A B C
      base_step argument_step type_step

  type_rolled : (l : Opened-TypeName) → of_type (roll-TypeName l) ≡ type_step (of_parts_type l)
  type_rolled = fold-roll-TypeName A B C
      base_step argument_step type_step

  -- .. are one, over parts that are seen as before
  base_layer : (l : Layer-Base claims) → of_parts_base (settle_base (parts_base claims l)) ≡ of_parts_base (parts_base claims l)
  base_layer (type_open.Vector name element iterator) = λ i. type_open.Vector name (element.1 i) iterator
  base_layer (type_open.UniquePtr name element) = λ i. type_open.UniquePtr name (element.1 i)
  base_layer (type_open.Span name element) = λ i. type_open.Span name (element.1 i)
  base_layer _ = refl

  argument_layer : (l : Layer-TypeArgument claims) → of_parts_argument (settle_argument (parts_argument claims l)) ≡ of_parts_argument (parts_argument claims l)
  argument_layer l = λ i. record { opening = l.opening; ty = (record { ptr = l.ty.ptr; alloc = l.ty.alloc; value = l.ty.value.1 i }); closing = l.closing }

  type_layer : (l : Layer-TypeName claims) → of_parts_type (settle_type (parts_type claims l)) ≡ of_parts_type (parts_type claims l)
  type_layer l = λ i. record { constant = l.constant; base = l.base.1 i; suffix = l.suffix }

  -- a layer's own boxes aren't looked at
  argument_bare : (l : Opened-TypeArgument) → argument_step (of_parts_argument (bare_argument l)) ≡ argument_step (of_parts_argument l)
  argument_bare l = argument_blind (of_parts_argument l)

  base_made : (x : Opened-Base) (l : Layer-Base claims) → parts_base claims l ≡ x → Seen-Base (roll-Base x)
  base_made x l e = subst (λ z. Seen-Base (roll-Base z)) e
      (ap of_base (settled_of_base (parts_base claims l))
      ∙ base_rolled (settle_base (parts_base claims l))
      ∙ ap base_step (base_layer l) ∙ sym (base_rolled (parts_base claims l)))

  argument_made : (x : Opened-TypeArgument) (l : Layer-TypeArgument claims) → parts_argument claims l ≡ x → Seen-TypeArgument (roll-TypeArgument x)
  argument_made x l e = subst (λ z. Seen-TypeArgument (roll-TypeArgument z)) e
      (ap of_argument (settled_of_argument (parts_argument claims l))
      ∙ argument_rolled (bare_argument (settle_argument (parts_argument claims l)))
      ∙ argument_bare (settle_argument (parts_argument claims l)) ∙ ap argument_step (argument_layer l) ∙ sym (argument_rolled (parts_argument claims l)))

  type_made : (x : Opened-TypeName) (l : Layer-TypeName claims) → parts_type claims l ≡ x → Seen-TypeName (roll-TypeName x)
  type_made x l e = subst (λ z. Seen-TypeName (roll-TypeName z)) e
      (ap of_type (settled_of_type (parts_type claims l))
      ∙ type_rolled (settle_type (parts_type claims l))
      ∙ ap type_step (type_layer l) ∙ sym (type_rolled (parts_type claims l)))

  pub argument_seen : (x : TypeArgument) → Seen-TypeArgument x
  argument_seen = ind-TypeArgument
      Seen-Base Seen-TypeArgument Seen-TypeName
      base_made argument_made type_made

  pub type_seen : (x : TypeName) → Seen-TypeName x
  type_seen = ind-TypeName
      Seen-Base Seen-TypeArgument Seen-TypeName
      base_made argument_made type_made
