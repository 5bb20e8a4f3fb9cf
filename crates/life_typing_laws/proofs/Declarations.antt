-- Declarations of variables.
use Rattle.std.proofs.Common.{◌≡◌, ℕ, Bool, true, false, Option, None, Some, Ok, List, [], ◌∷◌, length, refl, sym, ap, subst, ◌∙◌, true≢false}
use Rattle.life_types.specs.Trees.{IsOrdered}
use Rattle.life_types.specs.Types.{Types, HasParts, HasType}
use Rattle.life_types.specs.declared.place.Place.{Place}
use Rattle.life_types.specs.declared.ty.NameId.{NameId}
use Rattle.life_types.specs.declared.ty.Ty.{Ty}
use Rattle.life_types.specs.declared.ty.TyId.{TyId}
use Rattle.life_tree.specs.declared.declaration.AutoType.{AutoType}
use Rattle.life_tree.specs.declared.declaration.Declaration.{Declaration}
use Rattle.life_tree.specs.declared.declaration.DeclaredType.{DeclaredType}
use Rattle.life_tree.specs.declared.declaration.DeclaredType.TheVariants as declared_type
use Rattle.life_tree.specs.declared.declaration.InitialValue.{InitialValue}
use Rattle.life_tree.specs.declared.declaration.InitialValue.TheVariants as initial_value
use Rattle.life_tree.specs.declared.declaration.Initializer.{Initializer}
use Rattle.life_tree.specs.declared.declaration.Initializer.TheVariants as initializer
use Rattle.life_tree.specs.declared.expr.InitList.{InitList, out-InitList}
use Rattle.life_tree.specs.declared.identifier.Identifier.{Identifier}
use Rattle.life_tree.specs.declared.type_name.TypeName.{TypeName}
use Rattle.life_typed.specs.BaseTypes.{base_types, type_at}
use Rattle.life_typed.specs.Conversions.{fits}
use Rattle.life_typed.specs.Programs.{ProgramForm}
use Rattle.life_typed.specs.TypedStatement.{DeclarationForm, InitialForm, ListForm, one, several}
use Rattle.life_typed.specs.TypedForm.{Typed, forms}
use Rattle.life_typed.specs.declared.typed_program.TypedLocal.{TypedLocal}
use Rattle.life_names.specs.Checked.{Checked, ◌>>=◌}
use Rattle.life_names.specs.Environment.{Scope, declared}
use Rattle.life_names.specs.Found.{allowed, given}
use Rattle.life_names.specs.WrittenTypes.{is_const_value, with_const, written, written_local}
use Rattle.life_names.specs.declared.environment.Entity.TheVariants as entity
use Rattle.life_names.specs.declared.fault.IllKind.TheVariants as kinds
use Rattle.life_names.specs.declared.written.Written.{Written}
use Rattle.life_type_expr.specs.Expressions.{expr_meaning}
use Rattle.life_type_expr.specs.Lists.{lower_kind}
use Rattle.life_type_stmt.specs.Autos.{auto_given, auto_local, auto_value, lone_elements, lone_list}
use Rattle.life_type_stmt.specs.Declarations.{auto_declaration, declaration, declaration_by, default_fault, local_of, redeclared, variable_fault, visible_fault, written_declaration}
use Rattle.life_type_stmt.specs.Given.{given_first}
use Rattle.life_well_typed.specs.Given.{is_given}
use Rattle.life_well_typed.specs.Members.{is_listed}
use Rattle.life_well_typed.specs.Statements.{IsDeclaration, IsInitialised}
use Rattle.life_well_typed.specs.Visible.{Visible, with_next}
use Rattle.life_typing_laws.proofs.Autos.{auto_is}
use Rattle.life_typing_laws.proofs.Fitting.{given_later, lower_none, misfit_none}
use Rattle.life_well_typed.proofs.ObjectsKept.{object_there}
use Rattle.life_well_typed.specs.Tables.{HasObjects, HasTargetIfAny, IsObject}
use Rattle.life_typing_laws.proofs.Present.{typed_target}
use Rattle.life_typing_laws.proofs.Growing.{IsGrown, grown_not, grown_on, object_later, parts_there, same_type_at, structs_stay}
use Rattle.life_typing_laws.proofs.Scopes.{IsDeclared, IsFree, Moves, behind_declared, declared_is, declared_moves, declared_sound, declared_there, final_before, final_then, moves_after, sound_now}
use Rattle.life_typing_laws.specs.Sound.{Grows, HasStructs, IsFinal, IsSound}
use Rattle.life_typing_laws.proofs.Steps.{allowed_ok, bound, given_ok, same_value}
use Rattle.life_typing_laws.proofs.Typed.{PlaceThere, place_stays}
use Rattle.life_typing_laws.proofs.Values.{FirstRead, Nothing, One, Several, Value, ValueRead, first_is, none_read, one_read, some_read}
use Rattle.life_typing_laws.proofs.Written.{written_finds}

-- ---- what a declaration does

-- no rule is broken by what a variable of this type is given, where there is this table
abbrev pub IsGivenTo : Types → TyId → Option InitialForm → Type 0
IsGivenTo types id first = variable_fault types (type_at types id) first ≡ None

-- .. it is given to it, in a table that has grown
abbrev pub IsTaken : Types → TyId → Option InitialForm → Type 0
IsTaken types id None = default_fault (type_at types id) ≡ None
IsTaken types id (Some (one e)) = is_given types (type_at types id) e ≡ true
IsTaken types id (Some (several l)) = Unit {0}

pub record IsNew (name : Identifier) (v : Visible) (scope : Scope) (types : Types) (x : (DeclarationForm × Scope) × Types) : Type 0 where
  pub moves : Moves (name.id ∷ []) scope x.0.1 types x.1
  pub sound : IsSound (with_next v) x.0.1 x.1
  pub is : (p : ProgramForm) (locals : List TypedLocal) (result : TyId) → IsFinal p locals x.0.1 x.1 → IsDeclaration p locals result x.0.0 v

-- a list needs the parts of the type that it initialises
abbrev pub NeedsParts : Types → Ty → Option InitialForm → Type 0
NeedsParts types t (Some (several l)) = HasParts types t
NeedsParts types t first = Unit {0}

-- the type of an expression that is a place is there
abbrev pub FirstPlace : Types → Option InitialForm → Type 0
FirstPlace types (Some (one e)) = PlaceThere types e.category
FirstPlace types first = Unit {0}

first_place_stays : (old new : Types) (first : Option InitialForm) → Grows old new → FirstPlace old first → FirstPlace new first
first_place_stays old new None grows there = tt
first_place_stays old new (Some (one e)) grows there = place_stays old new grows e.category there
first_place_stays old new (Some (several l)) grows there = tt

-- nothing, or a value of this type that is well typed, over a table that has grown
pub record IsRead (v : Visible) (t : Ty) (first : Option InitialForm) (scope : Scope) (types after : Types) : Type 0 where
  pub grown : IsGrown types after
  pub place : (p : ProgramForm) (locals : List TypedLocal) → IsFinal p locals scope after → FirstPlace after first
  pub typed : (p : ProgramForm) (locals : List TypedLocal) (result : TyId) (id : TyId) → IsFinal p locals scope after → IsTaken p.types id first
      → type_at p.types id ≡ t → NeedsParts types t first → (l : TypedLocal) → l.ty ≡ id → IsInitialised p locals result v.visible (Some l) first

value_of : (v : Visible) (t : Ty) (scope : Scope) (types : Types) (y : InitialForm × Types) → ValueRead v t scope types y → IsRead v t (Some y.0) scope types y.1
value_of v t scope types y (One value) = subst (λ (f : InitialForm). IsRead v t (Some f) scope types y.1) value.is (record {
  grown = value.grown;
  place = λ p locals final. (value.typed p locals final).place;
  typed = λ p locals result id final given of parts l is.
      (subst (λ (i : TyId). is_given p.types (type_at p.types i) value.value ≡ true) (sym is) given, (value.typed p locals final).is);
})
value_of v t scope types y (Several read) = subst (λ (f : InitialForm). IsRead v t (Some f) scope types y.1) read.is (record {
  grown = read.grown;
  place = λ p locals final. tt;
  typed = λ p locals result id final given of parts l is.
      let there = read.typed p locals final parts in
      (subst (λ (u : Ty). is_listed p.types u (forms read.list.elements) ≡ true) (sym of ∙ sym (ap (type_at p.types) is)) there.0, there.1);
})

read_of : (v : Visible) (t : Ty) (scope : Scope) (types : Types) (x : Option InitialForm × Types) → IsOrdered types → FirstRead v t scope types x → IsRead v t x.0 scope types x.1
read_of v t scope types x ordered (Nothing none same) =
    subst (λ (f : Option InitialForm). IsRead v t f scope types x.1) (sym none) (subst (λ (s : Types). IsRead v t None scope types s) (sym same) (record {
      grown = grown_not types ordered;
      place = λ p locals final. tt;
      typed = λ p locals result id final given of parts l is. subst (λ (i : TyId). default_fault (type_at p.types i) ≡ None) (sym is) given;
    }))
read_of v t scope types x ordered (Value value first) = subst (λ (f : Option InitialForm). IsRead v t f scope types x.1) (sym first.is) (value_of v t scope types (value, x.1) first.read)

taken_later : (old new : Types) (id : TyId) (first : Option InitialForm) → IsOrdered old → Grows old new → HasType old id → FirstPlace old first → IsGivenTo old id first → IsTaken new id first
taken_later old new id None ordered grows there place fine = subst (λ (t : Ty). default_fault t ≡ None) (sym (same_type_at old new id grows there)) fine
taken_later old new id (Some (one e)) ordered grows there place fine =
    subst (λ (t : Ty). is_given new t e ≡ true) (sym (same_type_at old new id grows there))
    (given_later old new ordered grows (type_at old id) e (parts_there old id ordered there) place (misfit_none kinds.WrongType (fits old (type_at old id) e.ty e.category) fine))
taken_later old new id (Some (several l)) ordered grows there place fine = tt

-- a name that may be declared means no function
pub free_of : (name : NameId) (scope : Scope) → redeclared scope name ≡ None → IsFree name scope
free_of name scope fine n e = never (rw e at fine)
  where
    never : visible_fault (entity.Function n) ≡ None → ⊥
    never h = cc

-- a variable of this type, which isn't void, is declared over the last table, with what it was given between the first and the middle one
module _ (name : Identifier) (v : Visible) (scope : Scope) (types : Types) (sound : IsSound v scope types) where
  new_local : (w : Written) (first : Option InitialForm) (before middle after : Types) (n : ℕ × Scope) → IsGrown types before → IsGrown middle after → IsObject after w.ty
      → IsRead v (type_at after w.ty) first scope before middle → NeedsParts before (type_at after w.ty) first → IsGivenTo after w.ty first → IsFree name.id scope → declared (local_of name w) scope ≡ Ok n
      → IsNew name v scope types ((record { local = n.0; name = name; value = first }, n.1), after)
  new_local w first before middle after n early late object read needs given_to free h =
      subst (λ (m : ℕ). IsNew name v scope types ((record { local = m; name = name; value = first }, n.1), after)) (sym d.number)
      (subst (λ (s : Scope). IsNew name v scope types ((record { local = length scope.locals; name = name; value = first }, s), after)) (sym d.behind) made)
    where
      d : IsDeclared (local_of name w) scope n
      d = declared_is (local_of name w) scope n h

      there : HasType after w.ty
      there = object_there after w.ty object

      grown : IsGrown types after
      grown = grown_on types before after early (grown_on before middle after read.grown late)

      sound_after : IsSound v scope after
      sound_after = sound_now v scope types after sound grown

      last : Moves (name.id ∷ []) scope (behind_declared (local_of name w) scope) after after
      last = declared_moves (local_of name w) v scope after sound_after object free

      counted : length scope.locals ≡ v.declared
      counted = sound.declared

      made : IsNew name v scope types ((record { local = length scope.locals; name = name; value = first }, behind_declared (local_of name w) scope), after)
      made = record {
        moves = moves_after v (name.id ∷ []) scope (behind_declared (local_of name w) scope) types after after sound grown last;
        sound = declared_sound (local_of name w) v scope after sound_after object;
        is = λ p locals result final.
            let final_after : IsFinal p locals scope after = final_before p locals (name.id ∷ []) scope (behind_declared (local_of name w) scope) after after last final in
            let final_middle : IsFinal p locals scope middle = final_then p locals scope middle after late final_after in (
              counted,
              subst (λ (o : Option TypedLocal). IsInitialised p locals result v.visible o first) (sym (final.kept (length scope.locals) (local_of name w) (declared_there (local_of name w) scope)))
                  (read.typed p locals result w.ty final_middle
                  (taken_later after p.types w.ty first late.ordered final.grown there (first_place_stays middle after first late.grows (read.place p locals final_middle)) given_to) (same_type_at after p.types w.ty final.grown there) needs (local_of name w) refl),
            );
      }

needs_parts : (types : Types) (t : Ty) (first : Option InitialForm) → HasParts types t → NeedsParts types t first
needs_parts types t None parts = tt
needs_parts types t (Some (one e)) parts = tt
needs_parts types t (Some (several l)) parts = parts

-- ---- with a type that is written

pub record IsWritten (types : Types) (x : Written × Types) : Type 0 where
  pub grown : IsGrown types x.1
  pub object : IsObject x.1 x.0.ty

pub local_written : (t : TypeName) (place : Place) (scope : Scope) (types : Types) (x : Written × Types) → IsOrdered types → Grows base_types types → HasStructs types scope.structs → written_local t place scope types ≡ Ok x
    → IsWritten types x
local_written t place scope types x ordered base structs h =
    let step = bound (written t place scope types) (with_const (is_const_value t)) x h in
    let found = written_finds t place scope types step.value ordered base structs step.gave in
    let same : ◌≡◌ {A = Written × Types} (record { ty = step.value.0; constant = is_const_value t }, step.value.1) x =
    same_value {A = Written} (record { ty = step.value.0; constant = is_const_value t }, step.value.1) x step.behind in
    subst (IsWritten types) same (record { grown = found.grown; object = found.object })

module _ (name : Identifier) (scope : Scope) where
  abbrev pub finished : Written → Option InitialForm → Types → ℕ × Scope → Checked (DeclarationForm × Scope)
  finished w first types n = Ok ((record { local = n.0; name = name; value = first }, n.1), types)

  abbrev pub declared_with : Written → Option InitialForm → Types → Checked (DeclarationForm × Scope)
  declared_with w first types = given (declared (local_of name w) scope) (finished w first types)

  abbrev pub behind_first : Written → Ty → Option InitialForm × Types → Checked (DeclarationForm × Scope)
  behind_first w t v = given (allowed (lower_kind (redeclared scope name.id) (variable_fault v.1 t v.0)) name.place) (λ _. declared_with w v.0 v.1)

  abbrev pub behind_written : Option Initializer → Written × Types → Checked (DeclarationForm × Scope)
  behind_written i w = given_first (type_at w.1 w.0.ty) i scope w.1 >>= behind_first w.0 (type_at w.1 w.0.ty)

  written_new : (t : TypeName) (i : Option Initializer) (v : Visible) (types : Types) (x : (DeclarationForm × Scope) × Types) → IsSound v scope types → written_declaration t name i scope types ≡ Ok x
      → IsNew name v scope types x
  written_new t i v types x sound h =
      let w = bound (written_local t name.place scope types) (behind_written i) x h in
      let own = type_at w.value.1 w.value.0.ty in
      let is = local_written t name.place scope types w.value sound.ordered sound.based sound.structs_there w.gave in
      let first = bound (given_first own i scope w.value.1) (behind_first w.value.0 own) x w.behind in
      let fine = allowed_ok (lower_kind (redeclared scope name.id) (variable_fault first.value.1 own first.value.0)) name.place (λ _. declared_with w.value.0 first.value.0 first.value.1) x first.behind in
      let number = given_ok (declared (local_of name w.value.0) scope) (finished w.value.0 first.value.0 first.value.1) x fine.1 in
      let same = same_value {A = DeclarationForm × Scope} ((record { local = number.value.0; name = name; value = first.value.0 }, number.value.1), first.value.1) x number.behind in
      let read = read_of v own scope w.value.1 first.value is.grown.ordered (first_is own i v scope w.value.1 first.value first.gave (sound_now v scope types w.value.1 sound is.grown)) in
      let faults = lower_none (redeclared scope name.id) (variable_fault first.value.1 own first.value.0) fine.0 in
      subst (IsNew name v scope types) same
      (of v types sound w.value first.value number.value is read faults.1 (free_of name.id scope faults.0) number.gave)
    where
      -- the type stays what it is behind what is given to it
      of : (v : Visible) (types : Types) → IsSound v scope types → (w : Written × Types) (first : Option InitialForm × Types) (n : ℕ × Scope) → IsWritten types w
          → IsRead v (type_at w.1 w.0.ty) first.0 scope w.1 first.1 → variable_fault first.1 (type_at w.1 w.0.ty) first.0 ≡ None → IsFree name.id scope → declared (local_of name w.0) scope ≡ Ok n
          → IsNew name v scope types ((record { local = n.0; name = name; value = first.0 }, n.1), first.1)
      of v types sound w first n is read fault free number =
          new_local name v scope types sound w.0 first.0 w.1 first.1 first.1 n is.grown (grown_not first.1 read.grown.ordered) (object_later w.1 first.1 w.0.ty read.grown.grows is.object)
          (subst (λ (t : Ty). IsRead v t first.0 scope w.1 first.1) (sym same) read)
          (needs_parts w.1 (type_at first.1 w.0.ty) first.0 (subst (HasParts w.1) (sym same) (parts_there w.1 w.0.ty is.grown.ordered there)))
          (subst (λ (t : Ty). variable_fault first.1 t first.0 ≡ None) (sym same) fault) free number
        where
          there : HasType w.1 w.0.ty
          there = object_there w.1 w.0.ty is.object

          same : type_at first.1 w.0.ty ≡ type_at w.1 w.0.ty
          same = same_type_at w.1 first.1 w.0.ty read.grown.grows there

-- ---- with `auto`

-- a list has no type
abbrev is_single : InitialForm → Bool
is_single (one e) = true
is_single (several l) = false

abbrev is_single_first : Option InitialForm → Bool
is_single_first None = true
is_single_first (Some value) = is_single value

auto_single : (a : AutoType) (place : Place) (first : Option InitialForm) (scope : Scope) (types : Types) (w : Written × Types) → auto_local a place first scope types ≡ Ok w → is_single_first first ≡ true
auto_single a place None scope types w h = refl
auto_single a place (Some (one e)) scope types w h = refl
auto_single a place (Some (several l)) scope types w h = absurd (cc)

single_needs : (types : Types) (t : Ty) (first : Option InitialForm) → is_single_first first ≡ true → NeedsParts types t first
single_needs types t None single = tt
single_needs types t (Some (one e)) single = tt
single_needs types t (Some (several l)) single = absurd (cc)

several_never : {P : Type 0} (l : ListForm) (types : Types) (x : InitialForm × Types) → ◌≡◌ {A = Checked InitialForm} (Ok (several l, types)) (Ok x) → is_single x.0 ≡ true → P
several_never l types x h single =
    let form : several l ≡ x.0 = ap (λ (z : InitialForm × Types). z.0) (same_value (several l, types) x h) in
    absurd (true≢false (sym (subst (λ (i : InitialForm). is_single i ≡ true) (sym form) single)))

lone_never : {P : Type 0} (l : InitList) (scope : Scope) (types : Types) (x : InitialForm × Types) → lone_list l scope types ≡ Ok x → is_single x.0 ≡ true → P
lone_never l scope types x h single =
    let step = bound (lone_elements (out-InitList l).list.items scope types)
    (λ y. Ok (several (record { opening = (out-InitList l).opening; elements = y.0; delimiters = record { commas = (out-InitList l).commas.items; closing = (out-InitList l).closing } }), y.1)) x h in
    several_never (record { opening = (out-InitList l).opening; elements = step.value.0; delimiters = record { commas = (out-InitList l).commas.items; closing = (out-InitList l).closing } }) step.value.1 x step.behind single

auto_value_is : (t : Ty) (i : InitialValue) (v : Visible) (scope : Scope) (types : Types) (x : InitialForm × Types) → auto_value i scope types ≡ Ok x → is_single x.0 ≡ true → IsSound v scope types → ValueRead v t scope types x
auto_value_is t (initial_value.Expr e) v scope types x h single sound =
    let step = bound (expr_meaning e.value scope types) (λ y. Ok (one y.0, y.1)) x h in
    One (one_read e.value v scope types step.value x step.gave step.behind sound)
auto_value_is t (initial_value.List l) v scope types x h single sound = lone_never l scope types x h single

some_single : (y : InitialForm × Types) (x : Option InitialForm × Types) → ◌≡◌ {A = Checked (Option InitialForm)} (Ok (Some y.0, y.1)) (Ok x) → is_single_first x.0 ≡ true → is_single y.0 ≡ true
some_single y x h single = subst (λ (z : Option InitialForm × Types). is_single_first z.0 ≡ true) (sym (same_value {A = Option InitialForm} (Some y.0, y.1) x h)) single

auto_first_is : (t : Ty) (i : Option Initializer) (v : Visible) (scope : Scope) (types : Types) (x : Option InitialForm × Types) → auto_given i scope types ≡ Ok x → is_single_first x.0 ≡ true → IsSound v scope types
    → FirstRead v t scope types x
auto_first_is t None v scope types x h single sound = none_read v t scope types x h
auto_first_is t (Some (initializer.Equals equals value)) v scope types x h single sound =
    let step = bound (auto_value value scope types) (λ y. Ok (Some y.0, y.1)) x h in
    some_read v t scope types step.value x step.behind (auto_value_is t value v scope types step.value step.gave (some_single step.value x step.behind single) sound)
auto_first_is t (Some (initializer.List l)) v scope types x h single sound =
    let step = bound (lone_list l scope types) (λ y. Ok (Some y.0, y.1)) x h in
    some_read v t scope types step.value x step.behind (lone_never l scope types step.value step.gave (some_single step.value x step.behind single))

-- what it is given is well typed, so its type holds objects
first_target : (v : Visible) (t : Ty) (scope : Scope) (types : Types) (x : Option InitialForm × Types) → IsSound v scope types → Grows types x.1 → FirstRead v t scope types x
    → (e : Typed) → x.0 ≡ Some (one e) → HasObjects x.1 → HasTargetIfAny x.1 e.ty
first_target v t scope types x sound grows (Nothing none same) e is objects = absurd (never (sym none ∙ is))
  where
    never : ◌≡◌ {A = Option InitialForm} None (Some (one e)) → ⊥
    never h = cc
first_target v t scope types x sound grows (Value value first) e is objects = of first.read (same_first (sym first.is ∙ is))
  where
    same_first : ◌≡◌ {A = Option InitialForm} (Some value) (Some (one e)) → value ≡ one e
    same_first h = cc

    same_one : (y : Typed) → ◌≡◌ {A = InitialForm} (one y) (one e) → y ≡ e
    same_one y h = cc

    of : ValueRead v t scope types (value, x.1) → value ≡ one e → HasTargetIfAny x.1 e.ty
    of (One read) same = subst (λ (y : Typed). HasTargetIfAny x.1 y.ty) (same_one read.value (read.is ∙ same)) (typed_target v scope types x.1 read.value sound grows objects read.typed)
    of (Several read) same = absurd (never (read.is ∙ same))
      where
        never : several read.list ≡ one e → ⊥
        never h = cc

-- .. by what it is given
local_auto : (a : AutoType) (place : Place) (first : Option InitialForm) (scope : Scope) (types : Types) (x : Written × Types) → IsOrdered types → HasStructs types scope.structs
    → ((e : Typed) → first ≡ Some (one e) → HasObjects types → HasTargetIfAny types e.ty) → auto_local a place first scope types ≡ Ok x → (IsWritten types x) × IsGivenTo x.1 x.0.ty first
local_auto a place None scope types x ordered structs target h = absurd (cc)
local_auto a place (Some (one e)) scope types x ordered structs target h =
    let auto = auto_is a place e.ty e.category scope types x ordered structs (target e refl) h in
    (record { grown = auto.grown; object = auto.object }, auto.given)
local_auto a place (Some (several l)) scope types x ordered structs target h = absurd (cc)

module _ (name : Identifier) (scope : Scope) where
  abbrev pub behind_local : Option InitialForm → Written × Types → Checked (DeclarationForm × Scope)
  behind_local first w = declared_with name scope w.0 first w.1

  abbrev pub behind_given : AutoType → Option InitialForm × Types → Checked (DeclarationForm × Scope)
  behind_given a v = given (allowed (redeclared scope name.id) name.place) (λ _. auto_local a name.place v.0 scope v.1 >>= behind_local v.0)

  auto_new : (a : AutoType) (i : Option Initializer) (v : Visible) (types : Types) (x : (DeclarationForm × Scope) × Types) → IsSound v scope types → auto_declaration a name i scope types ≡ Ok x → IsNew name v scope types x
  auto_new a i v types x sound h =
      let first = bound (auto_given i scope types) (behind_given a) x h in
      let fine = allowed_ok (redeclared scope name.id) name.place (λ _. auto_local a name.place first.value.0 scope first.value.1 >>= behind_local first.value.0) x first.behind in
      let w = bound (auto_local a name.place first.value.0 scope first.value.1) (behind_local first.value.0) x fine.1 in
      let number = given_ok (declared (local_of name w.value.0) scope) (finished name scope w.value.0 first.value.0 w.value.1) x w.behind in
      let same = same_value {A = DeclarationForm × Scope} ((record { local = number.value.0; name = name; value = first.value.0 }, number.value.1), w.value.1) x number.behind in
      let single = auto_single a name.place first.value.0 scope first.value.1 w.value w.gave in
      let own = type_at w.value.1 w.value.0.ty in
      let gave = auto_first_is own i v scope types first.value first.gave single sound in
      let read = read_of v own scope types first.value sound.ordered gave in
      let auto = local_auto a name.place first.value.0 scope first.value.1 w.value read.grown.ordered (structs_stay types first.value.1 scope.structs read.grown.grows sound.structs_there)
      (λ e is objects. first_target v own scope types first.value sound read.grown.grows gave e is objects) w.gave in
      subst (IsNew name v scope types) same
      (new_local name v scope types sound w.value.0 first.value.0 types first.value.1 w.value.1 number.value (grown_not types sound.ordered) auto.0.grown auto.0.object read (single_needs types own first.value.0 single) auto.1 (free_of name.id scope fine.0) number.gave)

-- ---- all declarations

pub declaration_new : (d : Declaration) (v : Visible) (scope : Scope) (types : Types) (x : (DeclarationForm × Scope) × Types) → IsSound v scope types → declaration d scope types ≡ Ok x → IsNew d.name v scope types x
declaration_new d v scope types x sound h = by d.ty h
  where
    by : (t : DeclaredType) → declaration_by t d.name d.initializer scope types ≡ Ok x → IsNew d.name v scope types x
    by (declared_type.Written t) h = written_new d.name scope t d.initializer v types x sound h
    by (declared_type.Auto a) h = auto_new d.name scope a d.initializer v types x sound h
