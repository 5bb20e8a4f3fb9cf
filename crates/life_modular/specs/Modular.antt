-- What the verdict of one function hangs on.
use Rattle.std.specs.Prelude.{◌≡◌, ℕ, List, Some, map, slice_get}
use Rattle.life_core.specs.Function.{Function, Program}
use Rattle.life_core.specs.Linked.{spot_of}
use Rattle.life_core.specs.Tree.{Spot}
use Rattle.life_core.specs.declared.stmt.Point.{Point}
use Rattle.life_contract.specs.Signatures.{Signature, signatures_of}
use Rattle.life_rules.specs.Callees.{callee_at}
use Rattle.life_modular.specs.Renaming.{Renaming, CallsMoved, moved_function}
use Rattle.life_modular.specs.Renumbering.{Renumbering, renumbered_function, renumbered_signature}
use Rattle.life_modular.specs.Vocabulary.{Vocabulary, CalleeNames, HaveAlike, Names}

-- what the function calls has the same signatures among these and among those
abbrev pub CallsAlike : (these those : List Signature) → Function → Type 0
CallsAlike these those f = (point : Point) (s : Spot) → spot_of f point ≡ Some s → callee_at these s.node ≡ callee_at those s.node

-- the signatures of what the function calls name types of the vocabulary alone
abbrev pub CallsName : Vocabulary → List Signature → Function → Type 0
CallsName v sigs f = (point : Point) (s : Spot) → spot_of f point ≡ Some s → CalleeNames v (callee_at sigs s.node)

-- a program's signatures, where types have other numbers
abbrev pub renumbered_signatures : Renumbering → Program → List Signature
renumbered_signatures new p = map (renumbered_signature new) (signatures_of p.functions)

-- both programs have the function with this number, the types and structs that it and what it calls name, and the signatures that it
-- calls, up to the numbers that types and structs get; all else in them may differ
pub record AreAlikeAt (v : Vocabulary) (new : Renumbering) (p q : Program) (n : ℕ) (f : Function) : Type 0 where
  pub types : HaveAlike v new p.types q.types
  pub one : slice_get p.functions n ≡ Some f
  pub other : slice_get q.functions n ≡ Some (renumbered_function new f)
  pub names : Names v f
  pub called : CallsName v (signatures_of p.functions) f
  pub calls : CallsAlike (renumbered_signatures new p) (signatures_of q.functions) f

-- .. and where the second program has the function elsewhere: at other places, and with other numbers of names, texts and functions
pub record IsMovedTo (r : Renaming) (v : Vocabulary) (new : Renumbering) (p q : Program) (n : ℕ) (f : Function) : Type 0 where
  pub types : HaveAlike v new p.types q.types
  pub one : slice_get p.functions n ≡ Some f
  pub other : slice_get q.functions (r.function n) ≡ Some (moved_function r (renumbered_function new f))
  pub names : Names v f
  pub called : CallsName v (signatures_of p.functions) f
  pub calls : CallsMoved r (renumbered_signatures new p) (signatures_of q.functions) f
