-- What is told of a tree that isn't well formed.
use Rattle.std.specs.Prelude.{◌++◌, ℕ, List, codes}
use Rattle.life_names.specs.declared.fault.IllKind.{IllKind}
use Rattle.life_names.specs.declared.fault.IllKind.TheVariants.{UnknownName, Redeclared, WrongType, NotPlain, NotAssignable, WrongArguments, MissingReturn, ConstBroken, BadAttribute, NoBody, Unsupported}
use Rattle.life_types.specs.Places.{position_text}
use Rattle.life_types.specs.declared.place.Place.{Place}

-- what a rule that is broken is called
abbrev pub ill_name : IllKind → List ℕ
ill_name UnknownName = codes "unknown-name"
ill_name Redeclared = codes "redeclared"
ill_name WrongType = codes "wrong-type"
ill_name NotPlain = codes "not-plain"
ill_name NotAssignable = codes "not-assignable"
ill_name WrongArguments = codes "wrong-arguments"
ill_name MissingReturn = codes "missing-return"
ill_name ConstBroken = codes "const-broken"
ill_name BadAttribute = codes "bad-attribute"
ill_name NoBody = codes "no-body"
ill_name Unsupported = codes "unsupported"

abbrev pub ill_text : IllKind → Place → List ℕ
ill_text kind place = position_text place ++ codes ": ill-formed: " ++ ill_name kind
