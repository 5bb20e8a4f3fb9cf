-- Each function of a program is what its name means, from its first declaration on.
use Rattle.std.proofs.Common.{◌≡◌, ⊎_elim, ℕ, ◌+◌, ◌<◌, Bool, true, false, not, Option, None, Some, Ok, List, [], ◌∷◌, length, slice_get, refl, sym, ap, subst, ◌∙◌, arith, length-append}
use Rattle.life_types.specs.Types.{Types}
use Rattle.life_types.specs.declared.place.Place.{Place}
use Rattle.life_types.specs.declared.ty.NameId.{NameId}
use Rattle.life_types.specs.declared.ty.TyId.{TyId}
use Rattle.life_types.proofs.TreeLemmas.{in_more, within}
use Rattle.life_tree.specs.declared.function.Function.{Function}
use Rattle.life_tree.specs.declared.function.FunctionBody.{FunctionBody}
use Rattle.life_tree.specs.declared.function.FunctionBody.TheVariants as function_body
use Rattle.life_tree.specs.declared.program.StructDefinition.{StructDefinition}
use Rattle.life_tree.specs.declared.stmt.Block.{Block}
use Rattle.life_typed.specs.Programs.{FunctionForm}
use Rattle.life_typed.specs.TypedStatement.{StmtForm}
use Rattle.life_names.specs.Environment.{Scope, StructureView, meaning, seen_as, structure_declared, with_structure, without_locals}
use Rattle.life_names.specs.declared.environment.Entity.{Entity}
use Rattle.life_names.specs.declared.environment.Entity.TheVariants as entity
use Rattle.life_names.specs.declared.fault.IllKind.{IllKind}
use Rattle.life_names.specs.declared.fault.IllKind.TheVariants as kinds
use Rattle.life_type_stmt.specs.Bodies.{body}
use Rattle.life_typing.specs.Functions as functions
use Rattle.life_typing.specs.Functions.{PartsView, behind_header_as, body_kept, changed, changed_at, with_parameters_forgotten, without_body}
use Rattle.life_typing.specs.Headers.{function_seen, seen_unless}
use Rattle.life_typing.specs.Names.{is_main}
use Rattle.life_typing.specs.Parameters.{is_seen}
use Rattle.life_typing.specs.Progress.{ProgressView}
use Rattle.life_typing.specs.Structs as structs
use Rattle.life_typing.specs.Structs.{added_unless_empty, found_structure, member_types, named_structure, types_of, unless}
use Rattle.life_typing_laws.proofs.Bodies.{body_said}
use Rattle.life_typing_laws.proofs.Declaring.{behind_first, by_way, function_is, numbered_is, parts, signature, with_header}
use Rattle.life_typing_laws.proofs.Headers.{HeaderIs}
use Rattle.life_typing_laws.proofs.HeadersStay.{function_seen_stays, header_stays}
use Rattle.life_typing_laws.proofs.Parameters.{names_of}
use Rattle.life_typing_laws.proofs.Scopes.{IsFree, IsIn, forgotten_functions, forgotten_keeps, forgotten_size, set_else, set_length, set_other, set_there}
use Rattle.life_typing_laws.proofs.Staying.{Stays, StaysIn, free_not_seen, free_unseen, seen_keeps, stays_on}
use Rattle.life_typing_laws.proofs.Yields.{Finds, Yields, finds_behind, finds_ok, finds_then}
use Rattle.life_typing_laws.proofs.Went.{forgotten_are}

-- ---- each function is what its name means

-- .. which is none of these names; there are as many functions as the scope has, and so many names
pub record AreMeant (size : ℕ) (names : List NameId) (p : ProgressView) : Type 0 where
  pub means : (k : ℕ) (g : FunctionForm) → slice_get p.functions k ≡ Some g → (IsIn names g.name.0 → ⊥) × (slice_get p.scope.visible g.name.0 ≡ Some (entity.Function k))
  pub forms : length p.functions ≡ length p.scope.functions
  pub named : length p.scope.visible ≡ size

-- behind what leaves them as they were
meant_on : (size : ℕ) (names : List NameId) (p : ProgressView) (after : ProgressView) → after.functions ≡ p.functions → AreMeant size [] p → Stays names p.scope after.scope → AreMeant size names after
meant_on size names p after same meant stays = record {
  means = λ k g e. stays.keeps g.name.0 k (meant.means k g (subst (λ (fs : List FunctionForm). slice_get fs k ≡ Some g) same e)).1;
  forms = ap length same ∙ meant.forms ∙ ap length (sym stays.functions);
  named = stays.size ∙ meant.named;
}

-- ---- declared by a header

module _ (size : ℕ) (bodies : List Bool) (f : Function) (p : ProgressView) (room : f.name.id.0 < size) (meant : AreMeant size [] p) (x : PartsView × ProgressView)
    (h : HeaderIs bodies (meaning p.scope f.name.id) f p x) where
  abbrev parameters : List NameId
  parameters = names_of f.parameters.items

  stays : Stays parameters p.scope h.scope
  stays = stays_on None parameters p.scope (function_seen f p.scope) h.scope (function_seen_stays f p.scope) (header_stays bodies (meaning p.scope f.name.id) f p x h)

  abbrev entity_now : Entity
  entity_now = entity.Function (length h.scope.functions)

  abbrev IsMeant : ℕ → FunctionForm → Type 0
  IsMeant k g = (IsIn parameters g.name.0 → ⊥) × (slice_get (behind_first h).scope.visible g.name.0 ≡ Some (entity.Function k))

  -- one that was declared before has another name
  older : (k : ℕ) (g : FunctionForm) → meaning p.scope f.name.id ≡ entity.Unseen → slice_get p.functions k ≡ Some g → IsMeant k g
  older k g unseen e =
      let before = (meant.means k g e).1 in
      let kept = stays.keeps g.name.0 k before in (
        kept.0,
        set_else h.scope.visible f.name.id.0 g.name.0 entity_now (λ same. free_unseen f.name.id p.scope unseen k (subst (λ (i : ℕ). slice_get p.scope.visible i ≡ Some (entity.Function k)) (sym same) before)) ∙ kept.1,
      )

  -- the name of the one that is declared is none of a parameter, and has room
  newest : meaning p.scope f.name.id ≡ entity.Unseen → IsMeant (length h.scope.functions) (without_body f h.returned.ty h.scope)
  newest unseen =
      let there = within p.scope.visible f.name.id.0 (omega (arith, room, meant.named)) in
      let seen : slice_get (function_seen f p.scope).visible f.name.id.0 ≡ Some (entity.Function 0) =
      subst (λ (s : Scope). slice_get s.visible f.name.id.0 ≡ Some (entity.Function 0)) (sym (ap (λ (e : Entity). seen_unless e f p.scope) unseen))
      (set_there p.scope.visible f.name.id.0 there.item (entity.Function 0) there.there) in
      let kept = (header_stays bodies (meaning p.scope f.name.id) f p x h).keeps f.name.id.0 0 seen in
      (kept.0, set_there h.scope.visible f.name.id.0 (entity.Function 0) entity_now kept.1)

  first : meaning p.scope f.name.id ≡ entity.Unseen → AreMeant size parameters (behind_first h)
  first unseen = record {
    means = λ k g e. ⊎_elim (λ old. older k g unseen old) (λ last. new k g last.0 last.1) (in_more p.functions (without_body f h.returned.ty h.scope) k g e);
    forms = length-append p.functions (without_body f h.returned.ty h.scope ∷ []) ∙ ap (λ (n : ℕ). n + 1) still ∙ sym (length-append h.scope.functions (signature h ∷ []));
    named = set_length h.scope.visible f.name.id.0 entity_now ∙ stays.size ∙ meant.named;
  }
    where
      still : length p.functions ≡ length h.scope.functions
      still = meant.forms ∙ ap length (sym stays.functions)

      new : (k : ℕ) (g : FunctionForm) → k ≡ length p.functions → without_body f h.returned.ty h.scope ≡ g → IsMeant k g
      new k g last is = subst (IsMeant k) is (subst (λ (n : ℕ). IsMeant n (without_body f h.returned.ty h.scope)) (sym (last ∙ still)) (newest unseen))

  declared_meant : (y : ℕ × ProgressView) → functions.declared (meaning p.scope f.name.id) f (parts h) (with_header h) ≡ Ok y → AreMeant size parameters y.1
  declared_meant = by_way h (λ (y : ℕ × ProgressView). AreMeant size parameters y.1) (λ number is agree. meant_on size parameters p (with_header h) refl meant stays) (λ flagged unseen. first unseen)

-- ---- with a body

-- one that is changed keeps its name
record HasBeen (fs : List FunctionForm) (k : ℕ) (g : FunctionForm) : Type 0 where
  old : FunctionForm
  there : slice_get fs k ≡ Some old
  name : old.name ≡ g.name

has_been : (number : ℕ) (change : FunctionForm → FunctionForm) → ((g : FunctionForm) → g.name ≡ (change g).name) → (fs : List FunctionForm) (k : ℕ) (g : FunctionForm) → slice_get (changed number change fs) k ≡ Some g
    → HasBeen fs k g
has_been number change named fs k g e = of (slice_get fs number) refl e
  where
    of : (o : Option FunctionForm) → slice_get fs number ≡ o → slice_get (changed_at number change fs o) k ≡ Some g → HasBeen fs k g
    of None is h = record { old = g; there = h; name = refl }
    of (Some x) is h =
        ⊎_elim (λ here. record { old = x; there = subst (λ (i : ℕ). slice_get fs i ≡ Some x) here.0 is; name = named x ∙ ap (λ (f : FunctionForm). f.name) here.1 })
        (λ there. record { old = g; there = there; name = refl }) (set_other fs number k (change x) g h)

-- behind the function
left : (size : ℕ) (f : Function) (z : ProgressView) → AreMeant size (names_of f.parameters.items) z → AreMeant size [] (with_parameters_forgotten f z)
left size f z meant =
    subst (λ (s : Scope). AreMeant size [] (record z { scope = s })) (sym (forgotten_are f.parameters.items z.scope)) (record {
      means = λ k g e. let m = meant.means k g e in (λ none. none, forgotten_keeps (names_of f.parameters.items) z.scope g.name.0 m.0 ∙ m.1);
      forms = meant.forms ∙ ap length (sym (forgotten_functions (names_of f.parameters.items) z.scope));
      named = forgotten_size (names_of f.parameters.items) z.scope ∙ meant.named;
    })

body_stays : (returned : TyId) (main : Bool) (b : Block) (scope : Scope) (types : Types) → Yields (StaysIn {A = StmtForm} [] scope) (body returned main b scope types)
body_stays returned main b scope types x e = (body_said returned main b scope types x e).stays

-- there are as many
changed_size : {A : Type 0} (number : ℕ) (change : A → A) (all : List A) → length (changed number change all) ≡ length all
changed_size {A = A} number change all = of (slice_get all number)
  where
    of : (o : Option A) → length (changed_at number change all o) ≡ length all
    of None = refl
    of (Some x) = set_length all number (change x)

body_meant : (size : ℕ) (f : Function) (number : ℕ) (q : ProgressView) (w : (StmtForm × Scope) × Types) → AreMeant size (names_of f.parameters.items) q → Stays [] q.scope w.0.1
    → AreMeant size (names_of f.parameters.items) (body_kept f number q w.0.0 w.0.1 w.1)
body_meant size f number q w meant stays = record {
  means = λ k g e.
      let been = has_been number (λ (c : FunctionForm). record c { place = f.name.place; locals = w.0.1.locals; body = w.0.0 }) (λ c. refl) q.functions k g e in
      let m = meant.means k been.old been.there in
      subst (λ (name : NameId). (IsIn (names_of f.parameters.items) name.0 → ⊥) × (slice_get w.0.1.visible name.0 ≡ Some (entity.Function k))) been.name (m.0, (stays.keeps been.old.name.0 k m.1).1);
  forms = changed_size number (λ (c : FunctionForm). record c { place = f.name.place; locals = w.0.1.locals; body = w.0.0 }) q.functions ∙ meant.forms ∙ ap length (sym stays.functions);
  named = stays.size ∙ meant.named;
}

behind_meant : (size : ℕ) (b : FunctionBody) (f : Function) (number : ℕ) (returned : TyId) (q : ProgressView) → AreMeant size (names_of f.parameters.items) q
    → Finds (AreMeant size (names_of f.parameters.items)) (behind_header_as b f number returned q)
behind_meant size (function_body.Block b) f number returned q meant =
    finds_then (λ (w : (StmtForm × Scope) × Types). Stays [] q.scope w.0.1) (AreMeant size (names_of f.parameters.items)) _ _ (body_stays returned (is_main q.scope f.name.id) b q.scope q.types)
    (λ w stays. finds_ok (AreMeant size (names_of f.parameters.items)) (body_kept f number q w.0.0 w.0.1 w.1) (body_meant size f number q w meant stays))
behind_meant size (function_body.Declared place) f number returned q meant =
    finds_ok (AreMeant size (names_of f.parameters.items)) (record q { scope = without_locals q.scope }) (record { means = meant.means; forms = meant.forms; named = meant.named })

-- ---- definitions

pub function_meant : (size : ℕ) (bodies : List Bool) (f : Function) (p : ProgressView) → f.name.id.0 < size → AreMeant size [] p → Finds (AreMeant size []) (functions.with_function bodies f p)
function_meant size bodies f p room meant q e =
    let it = function_is bodies f p q e in
    subst (AreMeant size []) it.is
    (left size f it.z (behind_meant size f.body f it.y.0 it.h.returned.ty it.y.1 (declared_meant size bodies f p room meant it.x it.h it.y it.declared) it.z it.behind))

-- a struct's members change neither the scope nor the functions
record HasFound (s : StructDefinition) (p : ProgressView) (x : StructureView × ProgressView) : Type 0 where
  unseen : is_seen p.scope s.name.id ≡ false
  scope : x.1.scope ≡ p.scope
  functions : x.1.functions ≡ p.functions

finds_unless : (b : Bool) (kind : IllKind) (place : Place) → Finds (λ _. b ≡ false) (unless (not b) kind place)
finds_unless false kind place u e = refl
finds_unless true kind place u e = absurd (cc)

found_is : (s : StructDefinition) (p : ProgressView) → Finds (HasFound s p) (found_structure s p)
found_is s p =
    finds_then (λ _. is_seen p.scope s.name.id ≡ false) (HasFound s p) (unless (not (is_seen p.scope s.name.id)) kinds.Redeclared s.name.place) _
    (finds_unless (is_seen p.scope s.name.id) kinds.Redeclared s.name.place) (λ _ unseen.
    finds_behind (HasFound s p) (member_types s.members.items p.scope p.types) _ (λ x.
    finds_behind (HasFound s p) (added_unless_empty s.name.place (types_of x.0) x.1) _ (λ y. finds_ok (HasFound s p) _ (record { unseen = unseen; scope = refl; functions = refl }))))

named_meant : (size : ℕ) (s : StructDefinition) (p : ProgressView) (x : StructureView × ProgressView) → AreMeant size [] p → HasFound s p x → Finds (AreMeant size []) (named_structure s x)
named_meant size s p x meant found = finds_then (λ (y : ℕ × Scope). Stays [] p.scope y.1) (AreMeant size []) (structure_declared s.name.id s.name.place x.0 x.1.scope) _ declared (λ y stays.
    finds_ok (AreMeant size []) _ (meant_on size [] p _ found.functions meant stays))
  where
    declared : Finds (λ (y : ℕ × Scope). Stays [] p.scope y.1) (structure_declared s.name.id s.name.place x.0 x.1.scope)
    declared y e =
        let number = numbered_is (length x.1.scope.structs) s.name.place (seen_as s.name.id (entity.Structure (length x.1.scope.structs)) (with_structure x.0 x.1.scope)) y e in
        subst (λ (z : ℕ × Scope). Stays [] p.scope z.1) number (record {
          keeps = λ k n e. (
            λ none. none,
            (seen_keeps s.name.id (entity.Structure (length x.1.scope.structs)) x.1.scope
                (subst (IsFree s.name.id) (sym found.scope) (free_not_seen s.name.id p.scope found.unseen)) k n (subst (λ (z : Scope). slice_get z.visible k ≡ Some (entity.Function n)) (sym found.scope) e)).1,
          );
          functions = ap (λ (z : Scope). z.functions) found.scope;
          size = set_length x.1.scope.visible s.name.id.0 (entity.Structure (length x.1.scope.structs)) ∙ ap (λ (z : Scope). length z.visible) found.scope;
        })

pub structure_meant : (size : ℕ) (s : StructDefinition) (p : ProgressView) → AreMeant size [] p → Finds (AreMeant size []) (structs.with_structure s p)
structure_meant size s p meant = finds_then (HasFound s p) (AreMeant size []) (found_structure s p) (named_structure s) (found_is s p) (λ x found. named_meant size s p x meant found)
