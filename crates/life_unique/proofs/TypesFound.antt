-- A written type's tree gives the type back, settled.
-- For each type: what is claimed of it, a layer of parts of which it holds, and that it holds of what such a layer makes.
use Rattle.std.proofs.Common.{◌≡◌, refl, ap, sym, subst, ◌∙◌}
use Rattle.std.specs.declared.alloc.Global.{Global}
use Rattle.life_tree.specs.declared.fixed.TheConstants as fixed
use Rattle.life_tree.specs.Views.{whole_type}
use Rattle.life_unique.specs.Standing.{boxed_at}
use Rattle.life_unique.proofs.Tokens.{place_if_is}
use Rattle.life_unique.proofs.TypesFrom.{from_base, from_argument, from_type, suffix_is, iterator_is}
use Rattle.life_tree.specs.declared.type_name.Base.{Base, roll-Base}
use Rattle.life_tree.specs.declared.type_name.TypeArgument.{TypeArgument, roll-TypeArgument}
use Rattle.life_tree.specs.declared.type_name.TypeName.{TypeName, roll-TypeName}
use Rattle.life_tree.specs.declared.type_name.Base.TheFolds.{ind-TypeArgument, ind-TypeName}
use Rattle.life_tree.specs.declared.type_name.Base.TheOpen as type_open
use Rattle.life_unique.proofs.TypeLayers.{trees_base, trees_argument, trees_type}
use Rattle.life_unique.proofs.TypeLayers.{tree_of_base, tree_of_argument, tree_of_type}
use Rattle.life_unique.proofs.TypeLayers.{settled_of_base, settled_of_argument, settled_of_type}
use Rattle.life_unique.proofs.TypeLayers.{settle_base, settle_argument, settle_type}
use Rattle.life_unique.proofs.TypeLayers.{Claims, Layer-Base, Layer-TypeArgument, Layer-TypeName}
use Rattle.life_unique.proofs.TypeLayers.{parts_base, parts_argument, parts_type}
use Rattle.life_unique.specs.SettledTypes.{Opened-Base, Opened-TypeArgument, Opened-TypeName}
use Rattle.life_tree.specs.Views.{base_step, argument_step, type_step}
use Rattle.life_tree.specs.Views.{base_tree, argument_tree, type_view}
use Rattle.life_unique.specs.SettledTypes.{kept_argument}
use Rattle.life_unique.specs.SettledTypes.{settled_base, settled_argument, settled_type}

module _ (g : Global) where
  abbrev Found-Base : Base → Type 0
  Found-Base x = from_base g (base_tree x) ≡ settled_base x

  abbrev Found-TypeArgument : TypeArgument → Type 0
  Found-TypeArgument x = from_argument g (argument_tree x) ≡ settled_argument x

  abbrev Found-TypeName : TypeName → Type 0
  Found-TypeName x = from_type g (whole_type (type_view x)) ≡ settled_type x

  abbrev claims : Claims
  claims = record {
    base = Found-Base;
    argument = Found-TypeArgument;
    type = Found-TypeName;
  }

  -- .. is found of parts that are
  base_layer : (l : Layer-Base claims)
      → from_base g (base_step (trees_base (parts_base claims l)))
      ≡ roll-Base (settle_base (parts_base claims l))
  base_layer (type_open.Vector name element iterator) = λ i. roll-Base (type_open.Vector name (element.1 i) (iterator_is iterator i))
  base_layer (type_open.UniquePtr name element) = λ i. roll-Base (type_open.UniquePtr name (element.1 i))
  base_layer (type_open.Span name element) = λ i. roll-Base (type_open.Span name (element.1 i))
  base_layer _ = refl

  argument_layer : (l : Layer-TypeArgument claims)
      → from_argument g (argument_step (trees_argument (parts_argument claims l)))
      ≡ kept_argument (settle_argument (parts_argument claims l))
  argument_layer l = λ i. roll-TypeArgument (record { opening = l.opening; ty = boxed_at g (l.ty.value.1 i); closing = l.closing })

  type_layer : (l : Layer-TypeName claims)
      → from_type g (whole_type (type_step (trees_type (parts_type claims l))))
      ≡ roll-TypeName (settle_type (parts_type claims l))
  type_layer l = λ i. roll-TypeName (record { constant = place_if_is fixed.CONST l.constant i; base = l.base.1 i; suffix = suffix_is l.suffix i })

  base_made : (x : Opened-Base) (l : Layer-Base claims) → parts_base claims l ≡ x → Found-Base (roll-Base x)
  base_made x l e = subst (λ z. Found-Base (roll-Base z)) e
      (ap (λ t. from_base g t) (tree_of_base (parts_base claims l)) ∙ base_layer l ∙ sym (settled_of_base (parts_base claims l)))

  argument_made : (x : Opened-TypeArgument) (l : Layer-TypeArgument claims) → parts_argument claims l ≡ x → Found-TypeArgument (roll-TypeArgument x)
  argument_made x l e = subst (λ z. Found-TypeArgument (roll-TypeArgument z)) e
      (ap (λ t. from_argument g t) (tree_of_argument (parts_argument claims l)) ∙ argument_layer l ∙ sym (settled_of_argument (parts_argument claims l)))

  type_made : (x : Opened-TypeName) (l : Layer-TypeName claims) → parts_type claims l ≡ x → Found-TypeName (roll-TypeName x)
  type_made x l e = subst (λ z. Found-TypeName (roll-TypeName z)) e
      (ap (λ t. from_type g (whole_type t)) (tree_of_type (parts_type claims l)) ∙ type_layer l ∙ sym (settled_of_type (parts_type claims l)))

  pub argument_found : (x : TypeArgument) → Found-TypeArgument x
  argument_found = ind-TypeArgument
      Found-Base Found-TypeArgument Found-TypeName
      base_made argument_made type_made

  pub type_found : (x : TypeName) → Found-TypeName x
  type_found = ind-TypeName
      Found-Base Found-TypeArgument Found-TypeName
      base_made argument_made type_made
