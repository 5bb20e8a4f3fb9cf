-- Written types, settled.
use Rattle.life_tree.specs.declared.type_name.Base.{Base, roll-Base}
use Rattle.life_tree.specs.declared.type_name.Base.TheFolds.{fold-Base, fold-TypeArgument, fold-TypeName}
use Rattle.life_tree.specs.declared.type_name.Base.TheOpen.{Base-F, TypeArgument-F, TypeName-F}
use Rattle.life_tree.specs.declared.type_name.TypeArgument.{TypeArgument, roll-TypeArgument}
use Rattle.life_tree.specs.declared.type_name.TypeName.{TypeName, roll-TypeName}
use Rattle.life_unique.specs.Standing.{settled_box}

-- ---- one layer, of whatever parts

abbrev pub bare_argument : {A B C : Type 0} → TypeArgument-F A B C → TypeArgument-F A B C
bare_argument a = record a { ty = settled_box a.ty }

-- ---- one layer of a whole

abbrev pub Opened-Base : Type 0
Opened-Base = Base-F Base TypeArgument TypeName

abbrev pub Opened-TypeArgument : Type 0
Opened-TypeArgument = TypeArgument-F Base TypeArgument TypeName

abbrev pub Opened-TypeName : Type 0
Opened-TypeName = TypeName-F Base TypeArgument TypeName

-- ---- .. of parts that are settled

abbrev pub kept_argument : Opened-TypeArgument → TypeArgument
kept_argument a = roll-TypeArgument (bare_argument a)

-- ---- the whole

abbrev pub settled_base : Base → Base
settled_base = fold-Base Base TypeArgument TypeName roll-Base kept_argument roll-TypeName

abbrev pub settled_argument : TypeArgument → TypeArgument
settled_argument = fold-TypeArgument Base TypeArgument TypeName roll-Base kept_argument roll-TypeName

abbrev pub settled_type : TypeName → TypeName
settled_type = fold-TypeName Base TypeArgument TypeName roll-Base kept_argument roll-TypeName
