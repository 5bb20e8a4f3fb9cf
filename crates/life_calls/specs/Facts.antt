-- What a signature says of the facts at the entry, and how facts stand in lists.
use Rattle.std.specs.Prelude.{ℕ, Bool, List, filter, length, map}
use Rattle.life_contract.specs.Inputs.{parameter_local}
use Rattle.life_contract.specs.Located.{is_rooted}
use Rattle.life_contract.specs.Signatures.{Signature}
use Rattle.life_core.specs.Function.{Function, Default}
use Rattle.life_core.specs.Tree.{Skip}
use Rattle.life_pset.specs.declared.element.AbsPlace.{AbsPlace}
use Rattle.life_pset.specs.declared.element.Element.{Element}
use Rattle.life_pset.specs.declared.element.Fact.{Fact}
use Rattle.life_rules.specs.Deriving.{entry_facts}
use Rattle.life_types.specs.Types.{Types}

-- one thing that a location may be
abbrev pub found_at : AbsPlace → Element → Fact
found_at location e = record { location = location; element = e }

abbrev pub fact_of : AbsPlace × Element → Fact
fact_of x = found_at x.0 x.1

-- a function with this head, whose body is empty
abbrev pub head_function : Signature → Function
head_function sig = record {
  name = sig.name;
  place = sig.place;
  parameters = length sig.parameters;
  result = sig.result;
  promise = Default;
  locals = map (parameter_local sig.place) sig.parameters;
  body = Skip;
}

-- the fact is of this parameter or of a member of it
abbrev pub is_of : (parameter : ℕ) → Fact → Bool
is_of parameter fact = is_rooted parameter fact.location

-- what holds of a parameter at the entry
abbrev pub pre_of : Types → Signature → (parameter : ℕ) → List Fact
pre_of types sig parameter = filter (is_of parameter) (entry_facts types (head_function sig))
