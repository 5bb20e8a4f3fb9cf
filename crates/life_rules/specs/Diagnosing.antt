-- What is wrong at a point.
use Rattle.std.specs.Prelude.{ℕ, cond, ◌&&◌, List, [], ◌∷◌, ◌++◌, Option, Some, None, Contains}
use Rattle.std.specs.List.{flat_map}
use Rattle.life_types.specs.Types.{Types}
use Rattle.life_types.specs.declared.place.Place.{Place}
use Rattle.life_core.specs.Function.{Function}
use Rattle.life_core.specs.Linked.{spot_of}
use Rattle.life_core.specs.Step.{Step, Load, Save, Copy, Move, Aim, Advance, Cut, Size, Same, Cursor, Changes, Ports, Change, Erase, Set, Append, Port, WritesView}
use Rattle.life_core.specs.Step as step
use Rattle.life_core.specs.Tree.{Node, Action, Question, Return, Stop, Spot}
use Rattle.life_core.specs.Operands.{Location, Operand, Name, Through, Source, Base, Characters, whole}
use Rattle.life_core.specs.Operands as named
use Rattle.life_core.specs.declared.operand.Which.{Which}
use Rattle.life_core.specs.declared.operand.Which.TheVariants as which
use Rattle.life_core.specs.declared.stmt.Point.{Point}
use Rattle.life_pset.specs.Places.{members_place}
use Rattle.life_pset.specs.Shapes.{is_variable_place}
use Rattle.life_pset.specs.contracts.element.AbsPlacePartialEq.TheImpl.{ghosts as compared}
use Rattle.life_pset.specs.declared.element.AbsPlace.{AbsPlace}
use Rattle.life_pset.specs.declared.element.Element.{Element}
use Rattle.life_pset.specs.declared.element.Element.TheVariants as element
use Rattle.life_pset.specs.declared.element.Fact.{Fact}
use Rattle.life_rules.specs.Carrying.{is_location, located}
use Rattle.life_rules.specs.Deriving.{Derives}
use Rattle.life_contract.specs.Signatures.{Signature}
use Rattle.life_rules.specs.Arguing.{argument_diags, argument_diags_of_two}
use Rattle.life_rules.specs.Keeping.{keeping_diags}
pub use Rattle.life_rules.specs.Returning.{dangling_result, return_diags}
pub use Rattle.life_rules.specs.Telling.{told}
use Rattle.life_rules.specs.declared.diag.Diag.{Diag}
use Rattle.life_rules.specs.declared.diag.DiagKind.TheVariants.{NullUse, DanglingUse, MovedUse}
use Rattle.life_rules.specs.declared.diag.Why.TheVariants as why

-- ---- what an instruction uses

-- the pointers through which it goes
abbrev pub used_in : Operand → List Location
used_in (Name l) = []
used_in (Through p members) = p ∷ []

abbrev pub used_by_source : Source → List Location
used_by_source (named.Place o) = used_in o
used_by_source (named.Whole o) = used_in o
used_by_source _ = []

abbrev pub used_by_base : Base → List Location
used_by_base (named.Owner o) = used_in o
used_by_base (named.Pointer l) = []

abbrev pub uses : Step → List Location
uses (Load r o) = used_in o
uses (Save o r) = used_in o
uses (Copy to from) = used_in to ++ used_in from
uses (Move to y) = used_in to
uses (Aim p s) = used_by_source s
uses (step.Element p b w) = used_by_base b
uses (Cursor p b end) = used_by_base b
uses (Size r b) = used_by_base b
uses (Changes o change) = used_in o
uses _ = []

-- the views, spans and iterators that it uses
abbrev pub read_by_base : Base → List Location
read_by_base (named.Owner o) = []
read_by_base (named.Pointer l) = l ∷ []

abbrev pub read_by_characters : Characters → List Location
read_by_characters (named.View l) = l ∷ []
read_by_characters (named.Single r) = []

abbrev pub read_by_change : Change → List Location
read_by_change (Erase at into) = at ∷ []
read_by_change (Set c) = read_by_characters c
read_by_change (Append c) = read_by_characters c
read_by_change _ = []

abbrev pub read_by_port : Port → List Location
read_by_port (WritesView l) = l ∷ []
read_by_port _ = []

abbrev pub reads : Step → List Location
reads (step.Element p b w) = read_by_base b
reads (Cursor p b end) = read_by_base b
reads (Advance p q r direction) = q ∷ []
reads (Cut p q r count) = q ∷ []
reads (Size r b) = read_by_base b
reads (Same r a b equal) = a ∷ b ∷ []
reads (Changes o change) = read_by_change change
reads (Ports port) = read_by_port port
reads _ = []

-- the unique_ptrs whose target it takes
abbrev pub opened_in : Operand → List Location
opened_in (Name l) = l ∷ []
opened_in (Through p members) = []

abbrev pub opened_by_base : Base → List Location
opened_by_base (named.Owner o) = opened_in o
opened_by_base (named.Pointer l) = []

abbrev pub opened_if : Which → Base → List Location
opened_if which.Target b = opened_by_base b
opened_if _ b = []

abbrev pub opens : Step → List Location
opens (step.Element p b w) = opened_if w b
opens _ = []

-- the owners that it uses: a vector or a string there must have its buffer
abbrev pub owner_of_source : Source → List Operand
owner_of_source (named.Whole o) = o ∷ []
owner_of_source _ = []

abbrev pub owner_of_base : Base → List Operand
owner_of_base (named.Owner o) = o ∷ []
owner_of_base (named.Pointer l) = []

abbrev pub owners : Step → List Operand
owners (Copy to from) = from ∷ []
owners (Move to y) = Name (whole y) ∷ []
owners (Aim p s) = owner_of_source s
owners (step.Element p b w) = owner_of_base b
owners (Cursor p b end) = owner_of_base b
owners (Size r b) = owner_of_base b
owners (Changes o change) = o ∷ []
owners _ = []

-- ---- what one fact makes wrong

-- going through a pointer that may be this: neither through null nor through what is invalid
abbrev pub misused : ℕ → Place → AbsPlace → Element → List Diag
misused function place l element.Null = told function place NullUse l why.Null
misused function place l (element.Invalid c) = told function place DanglingUse l (why.Cause c)
misused function place l (element.Moved c) = []
misused function place l element.Own = []
misused function place l element.Static = []
misused function place l (element.At target) = []

-- using a view, a span or an iterator
abbrev pub misread : ℕ → Place → AbsPlace → Element → List Diag
misread function place l (element.Invalid c) = told function place DanglingUse l (why.Cause c)
misread function place l _ = []

-- taking the target of a unique_ptr, which one that is moved from hasn't
abbrev pub misopened : ℕ → Place → AbsPlace → Element → List Diag
misopened function place l element.Null = told function place NullUse l why.Null
misopened function place l (element.Moved c) = told function place NullUse l (why.Cause c)
misopened function place l _ = []

-- using an owner that is moved from
abbrev pub moved_use : ℕ → Place → AbsPlace → Element → List Diag
moved_use function place l (element.Moved c) = told function place MovedUse l (why.Cause c)
moved_use function place l _ = []

-- .. where the fact is about the pointer
abbrev pub misused_as : ℕ → Place → Fact → Location → List Diag
misused_as function place fact p = cond (is_location p fact.location) (misused function place fact.location fact.element) []

abbrev pub misread_as : ℕ → Place → Fact → Location → List Diag
misread_as function place fact p = cond (is_location p fact.location) (misread function place fact.location fact.element) []

abbrev pub misopened_as : ℕ → Place → Fact → Location → List Diag
misopened_as function place fact u = cond (is_location u fact.location) (misopened function place fact.location fact.element) []

-- .. or about the owner, by its name
abbrev pub moved_as : Types → ℕ → Function → Place → Fact → Operand → List Diag
moved_as types function f place fact (Name l) = cond (is_location l fact.location && is_variable_place types f fact.location) (moved_use function place fact.location fact.element) []
moved_as types function f place fact (Through p members) = []

-- what is wrong with what an instruction uses
abbrev pub use_diags : Types → ℕ → Function → Place → Step → Fact → List Diag
use_diags types function f place i fact =
    flat_map (misused_as function place fact) (uses i)
    ++ (flat_map (misread_as function place fact) (reads i)
    ++ (flat_map (misopened_as function place fact) (opens i) ++ flat_map (moved_as types function f place fact) (owners i)))

-- .. with the arguments that it hands over, and with what it changes
abbrev pub step_diags : List Signature → Types → ℕ → Function → Place → Step → Fact → List Diag
step_diags sigs types function f place i fact = use_diags types function f place i fact ++ (argument_diags sigs types function place i fact ++ keeping_diags sigs types function f place i fact)

abbrev pub node_diags : List Signature → Types → ℕ → Function → Place → Node → Fact → List Diag
node_diags sigs types function f place (Action i) fact = step_diags sigs types function f place i fact
node_diags sigs types function f place (Question t) fact = []
node_diags sigs types function f place Return fact = return_diags types function f place fact
node_diags sigs types function f place Stop fact = []

abbrev pub diags_at : List Signature → Types → ℕ → Function → Option Spot → Fact → List Diag
diags_at sigs types function f None fact = []
diags_at sigs types function f (Some s) fact = node_diags sigs types function f s.place s.node fact

-- ---- what two facts make wrong

-- using an owner behind a pointer, where a whole vector or string that the pointer points to is moved from
abbrev pub moved_target : Types → ℕ → Function → Place → Location → List ℕ → Element → Fact → List Diag
moved_target types function f place p members (element.At a) b =
    cond (compared.eq b.location (members_place a members) && is_variable_place types f b.location) (moved_use function place (located p) b.element) []
moved_target types function f place p members _ b = []

abbrev pub moved_through : Types → ℕ → Function → Place → (target owner : Fact) → Operand → List Diag
moved_through types function f place a b (Name l) = []
moved_through types function f place a b (Through p members) = cond (is_location p a.location) (moved_target types function f place p members a.element b) []

abbrev pub step_diags_of_two : List Signature → Types → ℕ → Function → Place → Step → Fact → Fact → List Diag
step_diags_of_two sigs types function f place i a b = flat_map (moved_through types function f place a b) (owners i) ++ argument_diags_of_two sigs types function f place i a b

abbrev pub node_diags_of_two : List Signature → Types → ℕ → Function → Place → Node → Fact → Fact → List Diag
node_diags_of_two sigs types function f place (Action i) a b = step_diags_of_two sigs types function f place i a b
node_diags_of_two sigs types function f place (Question t) a b = []
node_diags_of_two sigs types function f place Return a b = []
node_diags_of_two sigs types function f place Stop a b = []

abbrev pub diags_of_two : List Signature → Types → ℕ → Function → Option Spot → Fact → Fact → List Diag
diags_of_two sigs types function f None a b = []
diags_of_two sigs types function f (Some s) a b = node_diags_of_two sigs types function f s.place s.node a b

-- ---- what is wrong

-- these facts, which hold before the point, make it wrong
abbrev pub Tells : List Signature → Types → ℕ → Function → Option Spot → List Fact → Diag → Type 0
Tells sigs types function f spot [] d = ⊥
Tells sigs types function f spot (a ∷ []) d = Contains (diags_at sigs types function f spot a) d
Tells sigs types function f spot (a ∷ b ∷ []) d = Contains (diags_of_two sigs types function f spot a b) d
Tells sigs types function f spot (a ∷ b ∷ c ∷ more) d = ⊥

-- derived facts make it wrong at some point of the function with this number
abbrev pub IsDiagnosed : List Signature → Types → ℕ → Function → Diag → Type 0
IsDiagnosed sigs types function f d =
    (point : Point) × ((facts : List Fact) × (((x : Fact) → Contains facts x → Derives sigs types f point x) × Tells sigs types function f (spot_of f point) facts d))
