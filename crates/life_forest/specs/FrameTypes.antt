-- What the cells of a frame name and aim at, by the types of its locals.
use Rattle.std.specs.Prelude.{◌≡◌, ◌<◌, ℕ, List, [], ◌∷◌, Option, Some, None, slice_get}
use Rattle.life_types.specs.Types.{Types}
use Rattle.life_types.specs.declared.ty.Ty.{Ty}
use Rattle.life_types.specs.declared.ty.Ty.TheVariants as ty
use Rattle.life_types.specs.declared.ty.TyId.{TyId}
use Rattle.life_core.specs.Function.{Function}
use Rattle.life_store.specs.Cells.{at}
use Rattle.life_store.specs.Content.{Slot, Object, Content}
use Rattle.life_store.specs.Parts.{Single, characters_type, local_type, parts_if, target_in}
use Rattle.life_store.specs.State.{Target, Pointer, Null, Wild, To, Static, Cell, Named, Points, State}
use Rattle.life_forest.specs.Frames.{HasStore}
use Rattle.life_forest.specs.Within.{LiesWithin}

-- an object of the type lives, and has one slot
pub record IsVariable (c : Content) (id : Option TyId) (n : ℕ) : Type 0 where
  pub object : Object
  pub there : at c.objects n ≡ Some object
  pub type : id ≡ Some object.ty
  pub slot : Slot
  pub one : object.slots ≡ slot ∷ []

-- what a pointer of the type aims at: a view at characters, which have no number in the table
abbrev pub seen_in : Types → Option Ty → Option TyId
seen_in types (Some ty.View) = Some (characters_type types)
seen_in types t = target_in t

abbrev pub seen_type : Types → Option TyId → Option TyId
seen_type types None = None
seen_type types (Some id) = seen_in types (slice_get types.types id.0)

-- the number was given to an object, in which a value of the type begins at the pointer's word as long as it lives. Whether the pointer
-- is valid doesn't matter: no number returns, and no object changes its type
pub record Aims (types : Types) (c : Content) (id : Option TyId) (t : Target) : Type 0 where
  pub given : t.object < c.births
  pub place : (o : Object) (part : TyId) → at c.objects t.object ≡ Some o → id ≡ Some part → LiesWithin types o.ty t.word part

-- characters of a text are single values
abbrev pub IsOfText : Types → Option TyId → Option ℕ → Type 0
IsOfText types id None = Unit {0}
IsOfText types id (Some n) = parts_if types id ≡ Single

abbrev pub PointsWell : Types → Content → Option TyId → Pointer → Type 0
PointsWell types c id Null = Unit {0}
PointsWell types c id Wild = Unit {0}
PointsWell types c id (To t) = Aims types c id t
PointsWell types c id (Static s) = IsOfText types id s.text

pub record IsFrame (types : Types) (f : Function) (c : Content) (cells : List Cell) : Type 0 where
  pub objects : (x n : ℕ) → slice_get cells x ≡ Some (Named n) → IsVariable c (local_type types f x) n
  pub pointers : (x : ℕ) (p : Pointer) → slice_get cells x ≡ Some (Points p) → PointsWell types c (seen_type types (local_type types f x)) p

-- .. and there is a store, with what it has in the hand beside the rest
pub record Stands (types : Types) (f : Function) (rest : ℕ → ℕ) (st : State) : Type 0 where
  pub store : HasStore types rest st
  pub frame : IsFrame types f st.world.content st.cells
