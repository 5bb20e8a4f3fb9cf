-- Names that two programs spell alike.
use Rattle.std.specs.Prelude.{◌≡◌, ℕ, List, Option, Some, None, Contains, slice_get}
use Rattle.life_types.specs.declared.ty.NameId.{NameId}
use Rattle.life_core.specs.Function.{Function, member_name}
use Rattle.life_core.specs.Linked.{spot_of}
use Rattle.life_core.specs.Tree.{Spot}
use Rattle.life_core.specs.declared.program.Local.{Local}
use Rattle.life_core.specs.declared.stmt.Point.{Point}
use Rattle.life_contract.specs.Signatures.{Signature}
use Rattle.life_contract.specs.declared.param.Param.{Param}
use Rattle.life_rules.specs.Callees.{callee_at}
use Rattle.life_rules.specs.Texts.{Naming}
use Rattle.life_modular.specs.Renumbering.{Renumbering}
use Rattle.life_modular.specs.Vocabulary.{Vocabulary}

-- the name, if there is one, has the same text among these and among those
abbrev pub IsSpelledAlike : (these those : List (List ℕ)) → Option NameId → Type 0
IsSpelledAlike these those None = Unit {0}
IsSpelledAlike these those (Some name) = slice_get those name.0 ≡ slice_get these name.0

-- .. and so have the names of a function that is called and of its parameters
pub record IsHeadSpelledAlike (these those : List (List ℕ)) (sig : Signature) : Type 0 where
  pub name : IsSpelledAlike these those (Some sig.name)
  pub parameters : (p : Param) → Contains sig.parameters p → IsSpelledAlike these those p.name

-- both spell alike what a function names: its locals, the members of the vocabulary's structs (in those under new numbers), and what
-- it calls
pub record SpellAlike (v : Vocabulary) (new : Renumbering) (these those : Naming) (f : Function) : Type 0 where
  pub locals : (l : Local) → Contains f.locals l → IsSpelledAlike these.spelling.texts those.spelling.texts l.name
  pub members : (number : ℕ) → Contains v.structs number → slice_get those.spelling.members (new.struct number) ≡ slice_get these.spelling.members number
  pub member_names : (number m : ℕ) → Contains v.structs number → IsSpelledAlike these.spelling.texts those.spelling.texts (member_name these.spelling.members number m)
  pub heads : (point : Point) (s : Spot) (sig : Signature) → spot_of f point ≡ Some s → callee_at these.sigs s.node ≡ Some sig
      → IsHeadSpelledAlike these.spelling.texts those.spelling.texts sig
