-- Functions.
use Rattle.std.specs.Prelude.{ℕ, Bool, true, false, List, [], ◌∷◌, ◌++◌, Option, Some, None, Ok, Err, slice_get, slice_set}
use Rattle.life_types.specs.Types.{Types}
use Rattle.life_types.specs.declared.place.Place.{Place}
use Rattle.life_types.specs.declared.ty.TyId.{TyId}
use Rattle.life_tree.specs.declared.function.Function.{Function}
use Rattle.life_tree.specs.declared.function.FunctionBody.{FunctionBody}
use Rattle.life_tree.specs.declared.function.FunctionBody.TheVariants as function_body
use Rattle.life_tree.specs.declared.stmt.Block.{Block}
use Rattle.life_typed.specs.TypedStatement.{StmtForm, block, no_more}
use Rattle.life_typed.specs.declared.typed_program.TypedLocal.{TypedLocal}
use Rattle.life_typing.specs.Answers.{Answer, Kept, ◌>>◌}
use Rattle.life_typing.specs.Attributes.{function_attributes}
use Rattle.life_type_stmt.specs.Bodies.{body}
use Rattle.life_names.specs.Environment.{Scope, meaning, function_declared, without_locals}
use Rattle.life_typing.specs.Headers as headers
use Rattle.life_typing.specs.Names.{DeclaredView, is_main, name_rules}
use Rattle.life_typing.specs.Parameters.{parameter_rules, parameters_declared, parameters_forgotten}
use Rattle.life_typing.specs.Pieces.{pieces}
use Rattle.life_typed.specs.Programs.{FunctionForm}
use Rattle.life_typing.specs.Progress.{ProgressView}
use Rattle.life_typing.specs.Promises.{parameter_promises, result_promise}
use Rattle.life_names.specs.declared.environment.Entity.{Entity}
use Rattle.life_names.specs.declared.environment.Entity.TheVariants as entity
use Rattle.life_typing.specs.declared.functions.HeaderParts.{HeaderParts}
use Rattle.life_typing.specs.declared.headers.Returned.{Returned}
use Rattle.life_typing.specs.declared.pieces.Piece.{Piece}
use Rattle.life_typing.specs.declared.pointing.Pointing.{Pointing}

-- ---- headers

-- what a header says: its types, and what else it says, piece by piece
pub record PartsView : Type 0 where
  pub returned : TyId
  pub parameters : List TyId
  pub pieces : List Piece

abbrev pub parts_view : HeaderParts → PartsView
parts_view h = record { returned = h.returned; parameters = h.parameters.items; pieces = h.pieces.items }

-- the rules on the name and on the parameters, behind a result that is well formed
abbrev pub behind_result : Scope → List DeclaredView → List Bool → Entity → Function → Option Returned → headers.Known → List Piece → List Bool → Kept
behind_result scope declared bodies before f None known said hides = Ok tt
behind_result scope declared bodies before f (Some returned) known said hides =
    name_rules scope declared bodies before f returned.ty known.types said >> λ _.
    parameter_rules scope known.reaches hides 0 f.parameters.items

abbrev pub result_pointing : Option Returned → Option Pointing
result_pointing None = None
result_pointing (Some returned) = Some returned.pointing

-- the rules on a header, in the order of its text, as far as its types are known
abbrev pub header_rules : Scope → List DeclaredView → List Bool → Entity → Function → Option Returned → headers.Known → List Piece → List Bool → Kept
header_rules scope declared bodies before f returned known said hides =
    function_attributes scope (result_pointing returned) known.reaches f.attributes.items >> λ _.
    behind_result scope declared bodies before f returned known said hides

abbrev pub checked_with : List DeclaredView → List Bool → Entity → Function → Option Returned → headers.Known → List Bool → Scope → Answer (List Piece × Scope)
checked_with declared bodies before f returned known hides scope =
    header_rules scope declared bodies before f returned known (pieces scope f) hides >> λ _. Ok (pieces scope f, scope)

-- the parameters are visible in the rules on their header
abbrev pub declared_and_checked : List DeclaredView → List Bool → Entity → Function → Option Returned → headers.Known → Scope → Answer (List Piece × Scope)
declared_and_checked declared bodies before f returned known scope =
    parameters_declared known.types f.parameters.items scope >> λ x.
    checked_with declared bodies before f returned known x.0 x.1

abbrev pub sound_header : Returned → headers.Known → Types → ProgressView → List Piece × Scope → PartsView × ProgressView
sound_header returned known types p x =
    (record { returned = returned.ty; parameters = known.types; pieces = x.0 }, record p { scope = x.1; types = types })

-- where a type is ill, what breaks a rule before it is told, and else that
abbrev pub header_with : List Bool → Entity → Function → ProgressView → headers.Header → Answer (PartsView × ProgressView)
header_with bodies before f p (headers.sound returned known types) =
    declared_and_checked p.declared bodies before f (Some returned) known p.scope >> λ x. Ok (sound_header returned known types p x)
header_with bodies before f p (headers.ill_at returned known fault) =
    declared_and_checked p.declared bodies before f returned known p.scope >> λ _. Err fault

-- a header whose rules are kept, with its parameters declared, where the function's name meant this before
abbrev pub header : List Bool → Entity → Function → ProgressView → Answer (PartsView × ProgressView)
header bodies before f p =
    header_with bodies before f (record p { scope = headers.function_seen f p.scope }) (headers.header_types p.pointing f p.scope p.types)

-- ---- what is declared

-- a function whose body hasn't come yet
abbrev pub without_body : Function → TyId → Scope → FunctionForm
without_body f returned scope = record {
  name = f.name.id;
  place = f.name.place;
  first_place = f.name.place;
  result = returned;
  parameters = parameter_promises scope f.parameters.items;
  promise = result_promise scope f.attributes.items f.parameters.items;
  locals = [];
  body = block no_more f.name.place;
}

abbrev pub with_first : Function → PartsView → ProgressView → ProgressView
with_first f h p = record p {
  functions = p.functions ++ without_body f h.returned p.scope ∷ [];
  declared = p.declared ++ record { pieces = h.pieces; has_body = false } ∷ [];
}

abbrev pub declared_first : Function → PartsView → ProgressView → Answer (ℕ × ProgressView)
declared_first f h p =
    function_declared f.name.id f.name.place (record { result = h.returned; parameters = h.parameters }) p.scope >> λ x.
    Ok (x.0, record (with_first f h p) { scope = x.1 })

-- for the first time, or again
abbrev pub declared : Entity → Function → PartsView → ProgressView → Answer (ℕ × ProgressView)
declared entity.Unseen f h p = declared_first f h p
declared (entity.Structure number) f h p = declared_first f h p
declared (entity.Function number) f h p = Ok (number, p)
declared (entity.Local number) f h p = declared_first f h p

-- ---- bodies

abbrev pub changed_at : {A : Type 0} → ℕ → (A → A) → List A → Option A → List A
changed_at number change all None = all
changed_at number change all (Some x) = slice_set all number (change x)

-- what has this number is changed
abbrev pub changed : {A : Type 0} → ℕ → (A → A) → List A → List A
changed number change all = changed_at number change all (slice_get all number)

abbrev pub with_body : ℕ → Place → List TypedLocal → StmtForm → List FunctionForm → List FunctionForm
with_body number place locals found functions = changed number (λ f. record f { place = place; locals = locals; body = found }) functions

abbrev pub with_body_noted : ℕ → List DeclaredView → List DeclaredView
with_body_noted number all = changed number (λ d. record d { has_body = true }) all

abbrev pub body_kept : Function → ℕ → ProgressView → StmtForm → Scope → Types → ProgressView
body_kept f number p found scope types = record p {
  scope = without_locals scope;
  types = types;
  functions = with_body number f.name.place scope.locals found p.functions;
  declared = with_body_noted number p.declared;
}

abbrev pub body_defined : Function → ℕ → TyId → Block → ProgressView → Answer ProgressView
body_defined f number returned b p =
    body returned (is_main p.scope f.name.id) b p.scope p.types >> λ x. Ok (body_kept f number p (x.0).0 (x.0).1 x.1)

abbrev pub behind_header_as : FunctionBody → Function → ℕ → TyId → ProgressView → Answer ProgressView
behind_header_as (function_body.Block b) f number returned p = body_defined f number returned b p
behind_header_as (function_body.Declared place) f number returned p = Ok (record p { scope = without_locals p.scope })

abbrev pub behind_header : Function → ℕ → TyId → ProgressView → Answer ProgressView
behind_header f number returned p = behind_header_as f.body f number returned p

abbrev pub with_parameters_forgotten : Function → ProgressView → ProgressView
with_parameters_forgotten f p = record p { scope = parameters_forgotten f.parameters.items p.scope }

-- a function, where it is given of which names there are bodies in the file
abbrev pub with_function : List Bool → Function → ProgressView → Answer ProgressView
with_function bodies f p =
    header bodies (meaning p.scope f.name.id) f p >> λ x.
    declared (meaning p.scope f.name.id) f x.0 x.1 >> λ y.
    behind_header f y.0 x.0.returned y.1 >> λ z.
    Ok (with_parameters_forgotten f z)
