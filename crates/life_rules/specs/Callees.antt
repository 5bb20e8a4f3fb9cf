-- What is called at a point.
use Rattle.std.specs.Prelude.{◌≡◌, List, Option, Some, None, map, option_map, slice_get}
use Rattle.life_types.specs.Types.{Types}
use Rattle.life_core.specs.Step.{Step, Call}
use Rattle.life_core.specs.Tree.{Node, Action, Spot}
use Rattle.life_contract.specs.Signatures.{Signature}
use Rattle.life_contract.specs.declared.callee.Callee.{Callee}

-- the signature of what an instruction calls, if it calls a function of the program
abbrev pub callee_of : List Signature → Step → Option Signature
callee_of sigs (Call target g xs) = slice_get sigs g.0
callee_of sigs _ = None

abbrev pub callee_at : List Signature → Node → Option Signature
callee_at sigs (Action i) = callee_of sigs i
callee_at sigs _ = None

-- .. by what stands at a point of a function, which is None if it has no such point
abbrev pub callee_in : List Signature → Option Spot → Option Signature
callee_in sigs None = None
callee_in sigs (Some s) = callee_at sigs s.node

-- it is the one with this signature, in a program with these types
abbrev pub with_types : Types → Signature → Signature × Types
with_types types sig = (sig, types)

abbrev pub callee_seen : Callee → Signature × Types
callee_seen c = with_types c.types.now c.sig.now

abbrev pub IsCallee : Types → Option Signature → Option Callee → Type 0
IsCallee types sig callee = option_map callee_seen callee ≡ option_map (with_types types) sig

-- they are those of these points
abbrev pub callee_by : Types → List Signature → Spot → Option (Signature × Types)
callee_by types sigs s = option_map (with_types types) (callee_at sigs s.node)

abbrev pub AreCallees : Types → List Signature → List Spot → List (Option Callee) → Type 0
AreCallees types sigs spots callees = map (option_map callee_seen) callees ≡ map (callee_by types sigs) spots

-- the one at a place of a list, if there is such a place
abbrev pub joined : Option (Option Callee) → Option Callee
joined None = None
joined (Some callee) = callee
