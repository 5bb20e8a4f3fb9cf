-- What a call hands over for the inputs of its callee, and what comes back as a result, or in one, that is a pointer.
use Rattle.std.specs.Prelude.{◌≡◌, ℕ, true, Bool, false, List, [], Option, Some, None, Contains, slice_get}
use Rattle.life_types.specs.TypeTests.{is_pointer}
use Rattle.life_types.specs.Types.{Types}
use Rattle.life_types.specs.declared.ty.TyId.{TyId}
use Rattle.life_core.specs.Function.{Function}
use Rattle.life_core.specs.declared.program.Local.{Local}
use Rattle.life_pset.specs.Elements.{Input, inputs_of}
use Rattle.life_pset.specs.Shapes.{members_type, ty_if}
use Rattle.life_pset.specs.declared.element.AbsPlace.{AbsPlace}
use Rattle.life_pset.specs.declared.element.Root.{Root}
use Rattle.life_contract.specs.Inputs.{may_be_null, parameter_number}
use Rattle.life_contract.specs.Promises.{promised_places, promises_null}
use Rattle.life_contract.specs.Signatures.{signature_of}
use Rattle.life_store.specs.Cells.{at}
use Rattle.life_store.specs.Content.{Content, Object}
use Rattle.life_store.specs.Places.{member_cell}
use Rattle.life_store.specs.State.{Cell, Null, Pointer, Points, Static, Target, To, Wild}
use Rattle.life_cover.specs.Covers.{Holds, IsSeenAs, Look, PointsTo}
use Rattle.life_cover.specs.Frames.{RootStands, look_of}
use Rattle.life_cover.specs.Inputs.{StandsAt, input_cell, may_change, type_seen}
use Rattle.life_cover.specs.Regions.{HasPart, Region}

-- ---- what is handed over

-- the input may be null
abbrev pub takes_null : Types → Option Local → Input → Bool
takes_null types None i = false
takes_null types (Some l) i = may_be_null types l.nonnull i

-- a pointer to a part of an object that lives, which is seen as the parameter's type says
pub record IsPassedTo (types : Types) (c : Content) (look : Look) (t : Target) : Type 0 where
  pub object : Object
  pub there : at c.objects t.object ≡ Some object
  pub part : HasPart types object.ty t.word (type_seen types look.target object.ty)
  pub type : IsSeenAs types look.target (type_seen types look.target object.ty)
  pub holds : Holds c look.ranged t

-- .. or null, where it may be, or what never ends
abbrev pub IsPassed : Types → Function → Content → Input → Pointer → Type 0
IsPassed types g c i Null = takes_null types (slice_get g.locals (parameter_number i)) i ≡ true
IsPassed types g c i Wild = ⊥
IsPassed types g c i (Static s) = Unit {0}
IsPassed types g c i (To t) = IsPassedTo types c (look_of types i.ty) t

-- .. for each input
abbrev pub ArePassed : Types → Function → Content → List Cell → Type 0
ArePassed types g c vs = (i : Input) (p : Pointer) → Contains (inputs_of types g) i → input_cell types g c vs i ≡ Some (Points p) → IsPassed types g c i p

-- ---- what comes back

-- a pointer of the type to a place behind the inputs that is promised
pub record IsPromisedTo (types : Types) (g : Function) (inputs : Root → Option Region) (c : Content) (id : Option TyId) (t : Target) : Type 0 where
  pub place : AbsPlace
  pub promised : Contains (promised_places types (signature_of g) (ty_if types id)) place
  pub points : PointsTo types c (RootStands types g (StandsAt inputs) []) (may_change types g) (look_of types id) place t

-- .. or null, where that is promised, or what never ends
abbrev pub IsPromised : Types → Function → (inputs : Root → Option Region) → Content → Option TyId → Pointer → Type 0
IsPromised types g inputs c id Null = promises_null (signature_of g) (ty_if types id) ≡ true
IsPromised types g inputs c id Wild = ⊥
IsPromised types g inputs c id (Static s) = Unit {0}
IsPromised types g inputs c id (To t) = IsPromisedTo types g inputs c id t

-- the type of a part of the result
abbrev pub result_part : Types → Function → List ℕ → Option TyId
result_part types g ms = members_type types (Some g.result) ms

-- each pointer of the result, by itself or as a member of a struct
abbrev pub ArePromised : Types → Function → (inputs : Root → Option Region) → Content → List Cell → Type 0
ArePromised types g inputs c vs =
    (ms : List ℕ) (p : Pointer) → is_pointer (ty_if types (result_part types g ms)) ≡ true → member_cell types g g.parameters ms (slice_get vs 0) c ≡ Some (Points p) → IsPromised types g inputs c (result_part types g ms) p
