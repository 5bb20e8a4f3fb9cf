-- The inputs of a function: what it may change behind them, where they stand, and what a frame may touch.
use Rattle.std.specs.Prelude.{◌≡◌, ◌≢◌, ℕ, ◌<◌, Bool, true, false, cond, nat_eq, not, List, [], ◌∷◌, Option, Some, None, Contains, length, option_map, slice_get}
use Rattle.std.proofs.Common.{◌⊎◌}
use Rattle.std.specs.List.{flat_map, list_any}
use Rattle.life_types.specs.TypeTests.{is_constant}
use Rattle.life_types.specs.Types.{Types}
use Rattle.life_types.specs.declared.ty.TyId.{TyId}
use Rattle.life_core.specs.Function.{Function}
use Rattle.life_pset.specs.Elements.{Input, inputs_of}
use Rattle.life_pset.specs.Places.{path}
use Rattle.life_pset.specs.Shapes.{target_type, ty_if}
use Rattle.life_pset.specs.contracts.element.RootPartialEq.TheImpl.{ghosts as compared}
use Rattle.life_pset.specs.declared.element.Root.{Root}
use Rattle.life_pset.specs.declared.element.Root.TheVariants as root
use Rattle.life_contract.specs.Inputs.{is_mutating, parameter_number}
use Rattle.life_contract.specs.Signatures.{signature_of}
use Rattle.life_rules.specs.Texts.{input_of}
use Rattle.life_store.specs.Cells.{at}
use Rattle.life_store.specs.Content.{Content, Object}
use Rattle.life_store.specs.Parts.{characters_type}
use Rattle.life_store.specs.Places.{member_cell}
use Rattle.life_store.specs.State.{Cell, Points, To}
use Rattle.life_forest.specs.Forest.{Beneath, Foot, positive}
use Rattle.life_forest.specs.FrameTypes.{seen_type}
use Rattle.life_forest.specs.Frames.{named_in}
use Rattle.life_forest.specs.Kinds.{kinds_of}
use Rattle.life_forest.specs.Owned.{times}
use Rattle.life_cover.specs.Regions.{AreBeside, IsPart, Region, foot_of, is_in_region}

-- ---- by a function's head

-- something is said of the input, where there is one
abbrev pub test_input : (Input → Bool) → Option Input → Bool
test_input test None = false
test_input test (Some i) = test i

-- the input that a root stands for
abbrev pub input_at : Types → Function → Root → Option Input
input_at types f (root.Local x) = None
input_at types f (root.Input q member) = input_of types f q member

-- all that locals are and own may be changed, and what a pointer without const was given
abbrev pub may_change : Types → Function → Root → Bool
may_change types f (root.Local x) = true
may_change types f (root.Input q member) = test_input (λ i. not (is_constant (ty_if types i.ty))) (input_of types f q member)

-- .. and its owners, if the input is mutating
abbrev pub owning : Types → Function → Root → Bool
owning types f (root.Local x) = true
owning types f (root.Input q member) = test_input (is_mutating types (signature_of f)) (input_of types f q member)

-- ---- where the inputs of a frame stand

-- an input stands in at most one region
abbrev pub StandsAt : (inputs : Root → Option Region) → Root → Region → Type 0
StandsAt inputs r a = inputs r ≡ Some a

-- no input stands anywhere
abbrev pub no_inputs : Root → Option Region
no_inputs r = None

-- what a pointer to values of a type sees in an object of a type: the characters of a string have no number of their own
abbrev pub type_seen : Types → (target : Option TyId) → (object : TyId) → TyId
type_seen types None id = id
type_seen types (Some t) id = cond (nat_eq id.0 (length types.types)) id t

-- at a function's entry: a pointer that its caller hands over stands for the part of an object to which it points, in each slot
abbrev pub pointed : Types → (target : Option TyId) → Content → Option Cell → Option Region
pointed types target c (Some (Points (To t))) = option_map (λ (o : Object). record { object = t.object; word = t.word; ty = type_seen types target o.ty }) (at c.objects t.object)
pointed types target c _ = None

-- what is handed over for an input: all of it, or the member that is the pointer
abbrev pub input_cell : Types → Function → Content → (arguments : List Cell) → Input → Option Cell
input_cell types f c vs i = member_cell types f (parameter_number i) (path i.pointer) (slice_get vs (parameter_number i)) c

-- at the entry a root stands for what the pointer of its input points to
abbrev pub entered_at : Types → Function → Content → (arguments : List Cell) → Root → Option Input → Option Region
entered_at types f c vs r None = None
entered_at types f c vs r (Some i) = cond (compared.eq i.root r) (pointed types (seen_type types i.ty) c (input_cell types f c vs i)) None

abbrev pub entry_inputs : Types → Function → Content → (arguments : List Cell) → Root → Option Region
entry_inputs types f c vs r = entered_at types f c vs r (input_at types f r)

-- it is an input of the function, and what stands there has the type that its pointer points to, or is the characters of a string
pub record IsInput (types : Types) (f : Function) (r : Root) (a : Region) : Type 0 where
  pub input : Input
  pub is : input_at types f r ≡ Some input
  pub among : Contains (inputs_of types f) input
  pub named : input.root ≡ r
  pub type : (target_type types input.ty ≡ Some a.ty) ⊎ (a.ty ≡ characters_type types)

-- ---- what a frame may touch

abbrev pub region_if : Option Region → (here : Bool) → List Region
region_if (Some a) true = a ∷ []
region_if _ _ = []

-- where its inputs stand that are mutating
abbrev pub mutated : Types → Function → (Root → Option Region) → List Region
mutated types f inputs = flat_map (λ i. region_if (inputs i.root) (owning types f i.root)) (inputs_of types f)

-- some objects, whole, and the owners there
abbrev pub foot_with : Types → List Region → List ℕ → Foot
foot_with types regions ns = record { whole = λ n. positive (times ns n); part = λ m u. list_any (λ a. is_in_region types a m u) regions }

-- all that the frame names, and the owners behind its mutating inputs
abbrev pub frame_foot : Types → Function → (Root → Option Region) → List Cell → Foot
frame_foot types f inputs cells = foot_with types (mutated types f inputs) (named_in cells)

-- ---- the inputs stand well in a content, where this foot may be touched

-- each is an input of the function, and stands at a part of an object that was there; it isn't beneath the foot; and one that is mutating shares no
-- word with another, and isn't beneath it
pub record AreGiven (types : Types) (f : Function) (inputs : Root → Option Region) (foot : Foot) (c : Content) : Type 0 where
  pub each : (r : Root) (a : Region) → StandsAt inputs r a → IsInput types f r a
  pub part : (r : Root) (a : Region) → StandsAt inputs r a → IsPart types c a
  pub born : (r : Root) (a : Region) → StandsAt inputs r a → a.object < c.births
  pub free : (r : Root) (a : Region) → StandsAt inputs r a → Beneath (kinds_of types) c foot a.object → ⊥
  pub beside : (r s : Root) (a b : Region) → owning types f r ≡ true → r ≢ s → StandsAt inputs r a → StandsAt inputs s b → a.object ≡ b.object → AreBeside types a b
  pub over : (r s : Root) (a b : Region) → owning types f r ≡ true → r ≢ s → StandsAt inputs r a → StandsAt inputs s b → Beneath (kinds_of types) c (foot_of types b) a.object → ⊥
