-- Layers of written types whose parts are seen as trees, or settled.
use Rattle.std.proofs.Common.{◌≡◌}
use Rattle.life_unique.proofs.Lists.{Both}
use Rattle.life_tree.specs.Tree.{Tree}
use Rattle.life_tree.specs.declared.type_name.Base.{Base, roll-Base}
use Rattle.life_tree.specs.declared.type_name.TypeArgument.{TypeArgument, roll-TypeArgument}
use Rattle.life_tree.specs.declared.type_name.TypeName.{TypeName, roll-TypeName}
use Rattle.life_tree.specs.declared.type_name.Base.TheFolds.{fold-roll-Base, fold-roll-TypeArgument, fold-roll-TypeName}
use Rattle.life_tree.specs.Views.{base_step, argument_step, type_step}
use Rattle.life_unique.specs.SettledTypes.{kept_argument}
use Rattle.life_tree.specs.declared.type_name.Base.TheFolds.{map-Base, map-TypeArgument, map-TypeName}
use Rattle.life_tree.specs.declared.type_name.Base.TheOpen as type_open
use Rattle.life_tree.specs.Views.{TypeView, base_tree, argument_tree, type_view}
use Rattle.life_unique.specs.SettledTypes.{Opened-Base, Opened-TypeArgument, Opened-TypeName}
use Rattle.life_unique.specs.SettledTypes.{settled_base, settled_argument, settled_type}

-- what is claimed of each type
pub record Claims : Type 1 where
  pub base : Base → Type 0
  pub argument : TypeArgument → Type 0
  pub type : TypeName → Type 0

-- ---- a layer of parts of which that holds, and without it

abbrev pub Layer-Base : Claims → Type 0
Layer-Base c = type_open.Base-F
    (Both c.base) (Both c.argument) (Both c.type)

abbrev pub parts_base : (c : Claims) → Layer-Base c → Opened-Base
parts_base c = map-Base
    (Both c.base) (Both c.argument) (Both c.type)
    Base TypeArgument TypeName
    (λ z. z.0) (λ z. z.0) (λ z. z.0)

abbrev pub Layer-TypeArgument : Claims → Type 0
Layer-TypeArgument c = type_open.TypeArgument-F
    (Both c.base) (Both c.argument) (Both c.type)

abbrev pub parts_argument : (c : Claims) → Layer-TypeArgument c → Opened-TypeArgument
parts_argument c = map-TypeArgument
    (Both c.base) (Both c.argument) (Both c.type)
    Base TypeArgument TypeName
    (λ z. z.0) (λ z. z.0) (λ z. z.0)

abbrev pub Layer-TypeName : Claims → Type 0
Layer-TypeName c = type_open.TypeName-F
    (Both c.base) (Both c.argument) (Both c.type)

abbrev pub parts_type : (c : Claims) → Layer-TypeName c → Opened-TypeName
parts_type c = map-TypeName
    (Both c.base) (Both c.argument) (Both c.type)
    Base TypeArgument TypeName
    (λ z. z.0) (λ z. z.0) (λ z. z.0)

-- ---- a layer's parts as trees

abbrev pub trees_base : Opened-Base → type_open.Base-F Tree Tree TypeView
trees_base = map-Base Base TypeArgument TypeName
    Tree Tree TypeView
    base_tree argument_tree type_view

abbrev pub trees_argument : Opened-TypeArgument → type_open.TypeArgument-F Tree Tree TypeView
trees_argument = map-TypeArgument Base TypeArgument TypeName
    Tree Tree TypeView
    base_tree argument_tree type_view

abbrev pub trees_type : Opened-TypeName → type_open.TypeName-F Tree Tree TypeView
trees_type = map-TypeName Base TypeArgument TypeName
    Tree Tree TypeView
    base_tree argument_tree type_view

-- ---- a layer's parts, settled

abbrev pub settle_base : Opened-Base → Opened-Base
settle_base = map-Base Base TypeArgument TypeName
    Base TypeArgument TypeName
    settled_base settled_argument settled_type

abbrev pub settle_argument : Opened-TypeArgument → Opened-TypeArgument
settle_argument = map-TypeArgument Base TypeArgument TypeName
    Base TypeArgument TypeName
    settled_base settled_argument settled_type

abbrev pub settle_type : Opened-TypeName → Opened-TypeName
settle_type = map-TypeName Base TypeArgument TypeName
    Base TypeArgument TypeName
    settled_base settled_argument settled_type

-- ---- what is made of a layer, as a tree and settled

pub tree_of_base : (l : Opened-Base) → base_tree (roll-Base l) ≡ base_step (trees_base l)
tree_of_base = fold-roll-Base Tree Tree TypeView
    base_step argument_step type_step

pub tree_of_argument : (l : Opened-TypeArgument) → argument_tree (roll-TypeArgument l) ≡ argument_step (trees_argument l)
tree_of_argument = fold-roll-TypeArgument Tree Tree TypeView
    base_step argument_step type_step

pub tree_of_type : (l : Opened-TypeName) → type_view (roll-TypeName l) ≡ type_step (trees_type l)
tree_of_type = fold-roll-TypeName Tree Tree TypeView
    base_step argument_step type_step

pub settled_of_base : (l : Opened-Base) → settled_base (roll-Base l) ≡ roll-Base (settle_base l)
settled_of_base = fold-roll-Base Base TypeArgument TypeName
    roll-Base kept_argument roll-TypeName

pub settled_of_argument : (l : Opened-TypeArgument) → settled_argument (roll-TypeArgument l) ≡ kept_argument (settle_argument l)
settled_of_argument = fold-roll-TypeArgument Base TypeArgument TypeName
    roll-Base kept_argument roll-TypeName

pub settled_of_type : (l : Opened-TypeName) → settled_type (roll-TypeName l) ≡ roll-TypeName (settle_type l)
settled_of_type = fold-roll-TypeName Base TypeArgument TypeName
    roll-Base kept_argument roll-TypeName
