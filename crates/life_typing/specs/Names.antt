-- The names of functions, and what may be declared again.
use Rattle.std.specs.Prelude.{ℕ, Bool, true, false, not, ◌&&◌, List, Option, Some, None, Ok, Err, length, map, slice_get, unwrap_or, if◌then◌else◌, ◌==◌}
use Rattle.std.specs.Cmp.Lexicographic.{pointwise}
use Rattle.std.specs.List.{starts_with}
use Rattle.life_types.specs.contracts.ty.TyIdPartialEq.TheImpl.{ghosts as ids}
use Rattle.life_types.specs.declared.ty.NameId.{NameId}
use Rattle.life_types.specs.declared.ty.TyId.{TyId}
use Rattle.life_tree.specs.declared.function.Function.{Function}
use Rattle.life_tree.specs.declared.function.FunctionBody.{FunctionBody}
use Rattle.life_tree.specs.declared.function.FunctionBody.TheVariants as function_body
use Rattle.life_tree.specs.declared.function.Parameter.{Parameter}
use Rattle.life_typing.specs.Answers.{Kept, ill}
use Rattle.life_names.specs.Environment.{Scope, SignatureView, function}
use Rattle.life_typing.specs.contracts.pieces.PiecePartialEq.TheImpl.{ghosts as pieces_of}
use Rattle.life_names.specs.declared.environment.Entity.{Entity}
use Rattle.life_names.specs.declared.environment.Entity.TheVariants as entity
use Rattle.life_names.specs.declared.fault.IllKind.{IllKind}
use Rattle.life_names.specs.declared.fault.IllKind.TheVariants as kinds
use Rattle.life_typing.specs.declared.names.Declared.{Declared}
use Rattle.life_typing.specs.declared.pieces.Piece.{Piece}
use Rattle.life_typed.specs.Programs as programs
use Rattle.life_typed.specs.declared.basic.TheConstants.{INT}

-- what is kept of a function beside its signature: what its declarations say beside their types, and whether one of them so far has a body
pub record DeclaredView : Type 0 where
  pub pieces : List Piece
  pub has_body : Bool

abbrev pub declared_view : Declared → DeclaredView
declared_view d = record { pieces = d.pieces.items; has_body = d.has_body }

abbrev pub declared_views : List Declared → List DeclaredView
declared_views ds = map declared_view ds

abbrev pub has_body : FunctionBody → Bool
has_body (function_body.Block b) = true
has_body (function_body.Declared place) = false

-- types are those of an earlier declaration, the parameters' as far as they are known
abbrev pub types_agree : TyId → List TyId → SignatureView → Bool
types_agree returned parameters earlier = ids.eq earlier.result returned && starts_with ids.eq earlier.parameters parameters

-- .. and so are the other pieces, and no second body comes
abbrev pub pieces_agree : List Piece → Bool → DeclaredView → Bool
pieces_agree pieces bodied earlier = pointwise pieces_of.eq earlier.pieces pieces && not (earlier.has_body && bodied)

abbrev pub both_agree : Option SignatureView → Option DeclaredView → TyId → List TyId → List Piece → Bool → Bool
both_agree None declared returned parameters pieces bodied = false
both_agree (Some s) None returned parameters pieces bodied = false
both_agree (Some s) (Some d) returned parameters pieces bodied = types_agree returned parameters s && pieces_agree pieces bodied d

-- a function may be declared again with the same types, names of parameters and attributes, and with one body at most
abbrev pub may_declare_again : Scope → List DeclaredView → ℕ → TyId → List TyId → List Piece → Bool → Bool
may_declare_again scope declared number returned parameters pieces bodied =
    both_agree (function scope number) (slice_get declared number) returned parameters pieces bodied

-- a function may have its name, where that means this so far
abbrev pub may_declare : Scope → List DeclaredView → Entity → TyId → List TyId → List Piece → Bool → Bool
may_declare scope declared entity.Unseen returned parameters pieces bodied = true
may_declare scope declared (entity.Structure number) returned parameters pieces bodied = false
may_declare scope declared (entity.Function number) returned parameters pieces bodied =
    may_declare_again scope declared number returned parameters pieces bodied
may_declare scope declared (entity.Local number) returned parameters pieces bodied = false

abbrev pub is_main : Scope → NameId → Bool
is_main scope name = programs.is_main scope.names name

-- `main` has the result `int` and no parameters
abbrev pub fits_main : TyId → List Parameter → Bool
fits_main returned parameters = ids.eq returned INT && (length parameters == 0)

abbrev pub has_flag : List Bool → NameId → Bool
has_flag flags name = unwrap_or (slice_get flags name.0) false

-- a function that is declared first gets a body somewhere in the file
abbrev pub gets_body : List Bool → Entity → NameId → Bool
gets_body bodies entity.Unseen name = has_flag bodies name
gets_body bodies (entity.Structure number) name = true
gets_body bodies (entity.Function number) name = true
gets_body bodies (entity.Local number) name = true

-- the rule that a function's name breaks, of several the one with the lowest number. It is given what the name means so far, of which names there are bodies, and what the declaration says, its types as far as they are known
abbrev pub name_fault : Scope → List DeclaredView → List Bool → Entity → Function → TyId → List TyId → List Piece → Option IllKind
name_fault scope declared bodies before f returned parameters pieces =
    if not (may_declare scope declared before returned parameters pieces (has_body f.body)) then Some kinds.Redeclared
    else (if is_main scope f.name.id && not (fits_main returned f.parameters.items) then Some kinds.WrongType
    else (if not (gets_body bodies before f.name.id) then Some kinds.NoBody else None))

abbrev pub unless_broken : Function → Option IllKind → Kept
unless_broken f None = Ok tt
unless_broken f (Some kind) = Err (ill kind f.name.place)

abbrev pub name_rules : Scope → List DeclaredView → List Bool → Entity → Function → TyId → List TyId → List Piece → Kept
name_rules scope declared bodies before f returned parameters pieces =
    unless_broken f (name_fault scope declared bodies before f returned parameters pieces)
