-- Loops, returns, branches and the other statements.
use Rattle.std.proofs.Common.{◌≡◌, ◌⊎◌, inl, inr, ⊎_elim, ◌||◌, ℕ, slice_get, Bool, true, false, Option, None, Some, List, [], ◌∷◌, Ok, Box, length, refl, sym, ap, subst, ◌∙◌}
use Rattle.std.specs.declared.alloc.Global.{Global}
use Rattle.life_types.specs.TypeTests.{is_void}
use Rattle.life_types.specs.Types.{Types, HasParts, HasType}
use Rattle.life_types.specs.declared.place.Place.{Place}
use Rattle.life_types.specs.declared.ty.NameId.{NameId}
use Rattle.life_types.specs.declared.ty.Ty.{Ty}
use Rattle.life_types.specs.declared.ty.Ty.TheVariants as ty
use Rattle.life_types.specs.declared.ty.TyId.{TyId}
use Rattle.life_tree.specs.declared.expr.Expr.{Expr}
use Rattle.life_tree.specs.declared.simple.Simple.{Simple}
use Rattle.life_tree.specs.declared.stmt.ForStart.{ForStart}
use Rattle.life_tree.specs.declared.stmt.ForStart.TheVariants as for_start
use Rattle.life_tree.specs.declared.stmt.PrintPart.{PrintPart}
use Rattle.life_typed.specs.BaseTypes.{type_at}
use Rattle.life_typed.specs.Conversions.{fits}
use Rattle.life_typed.specs.Programs.{ProgramForm}
use Rattle.life_typed.specs.TypedForm.{Typed}
use Rattle.life_typed.specs.TypedStatement as typed
use Rattle.life_typed.specs.TypedStatement.{ForStartForm, ItemForm, SimpleForm, StmtForm, no_more, stmt_forms}
use Rattle.life_typed.specs.declared.typed_program.TypedLocal.{TypedLocal}
use Rattle.life_names.specs.Checked.{Checked, ◌>>=◌}
use Rattle.life_names.specs.Environment.{Scope, forgotten}
use Rattle.life_names.specs.Found.{allowed, given}
use Rattle.life_names.specs.declared.fault.IllKind.TheVariants as kinds
use Rattle.life_type_stmt.specs.Conditions.{condition, items, optional_condition, unless}
use Rattle.life_type_stmt.specs.Declarations.{declaration}
use Rattle.life_type_stmt.specs.Given.{given_expr}
use Rattle.life_type_stmt.specs.Returns.{moves_out, named_local, result_fault, returned}
use Rattle.life_type_stmt.specs.Simples.{named_in, optional_simple, simple_statement}
use Rattle.life_type_stmt.specs.Statements.{Part, for_start_part, in_loop, in_loop_only, in_turn, optional_part, start_names}
use Rattle.life_well_typed.specs.Given.{is_given}
use Rattle.life_well_typed.specs.Statements.{IsReturned, IsStart, IsStatement, named_local as kept_local}
use Rattle.life_well_typed.specs.Visible.{Visible, after, after_start}
use Rattle.life_typing_laws.proofs.Domains.{Around}
use Rattle.life_typing_laws.proofs.Declarations.{IsNew, declaration_new}
use Rattle.life_typing_laws.proofs.Each.{EachHolds}
use Rattle.life_typing_laws.proofs.Fitting.{given_later, misfit_none}
use Rattle.life_typing_laws.proofs.Growing.{IsGrown, grown_not, grown_on, grows_on, parts_stay, parts_there, same_type_at, stays_there}
use Rattle.life_typing_laws.proofs.Reading.{append_none}
use Rattle.life_typing_laws.proofs.Scopes.{Moves, final_before, final_remembered, final_then, forgotten_locals, moves_after, moves_behind, moves_not, moves_on, sound_behind, sound_now, table_moves}
use Rattle.life_typing_laws.specs.Sound.{IsFinal, IsSound, Keeps}
use Rattle.life_typing_laws.proofs.Simples.{optional_simple_is, simple_is}
use Rattle.life_typing_laws.proofs.Statements.{Alone, GoodPart, IsPart, condition_is, items_are, optional_condition_is, still}
use Rattle.life_typing_laws.proofs.Steps.{allowed_ok, bound, given_ok, same_value}
use Rattle.life_typing_laws.proofs.Turns.{BranchesAre, GoodBranch, IsBranch, branches_are}
use Rattle.life_typing_laws.proofs.Values.{given_expr_reads, unless_none}
use Rattle.life_typing_laws.proofs.Wholes.{expr_good}

-- ---- statements without statements in them

pub empty_good : (place : Place) → GoodPart (λ around scope types. Ok ((typed.empty place, scope), types))
empty_good place around v scope types x h sound there = still around v scope types x sound (typed.empty place) types h (grown_not types sound.ordered) refl (λ p locals final. tt)

abbrev pub sentence_part : Simple → Place → Part
sentence_part s semicolon around scope types = simple_statement s scope types >>= (λ x. Ok ((typed.sentence x.0 semicolon, scope), x.1))

pub sentence_good : (s : Simple) (semicolon : Place) → GoodPart (sentence_part s semicolon)
sentence_good s semicolon around v scope types x h sound there =
    let step = bound {B = StmtForm × Scope} (simple_statement s scope types) (λ (y : SimpleForm × Types). Ok ((typed.sentence y.0 semicolon, scope), y.1)) x h in
    let done = simple_is s v scope types step.value step.gave sound in
    still around v scope types x sound (typed.sentence step.value.0 semicolon) step.value.1 step.behind done.grown refl (λ p locals final. done.is p locals around.result final)

abbrev pub print_part : List PrintPart → Place → Part
print_part ps semicolon around scope types = items ps scope types >>= (λ x. Ok ((typed.print x.0 semicolon, scope), x.1))

pub print_good : (ps : List PrintPart) (semicolon : Place) → GoodPart (print_part ps semicolon)
print_good ps semicolon around v scope types x h sound there =
    let step = bound {B = StmtForm × Scope} (items ps scope types) (λ (y : List ItemForm × Types). Ok ((typed.print y.0 semicolon, scope), y.1)) x h in
    let printed = items_are ps v scope types step.value step.gave sound in
    still around v scope types x sound (typed.print step.value.0 semicolon) step.value.1 step.behind printed.grown refl (λ p locals final. printed.are p locals around.result final)

abbrev pub assert_part : Place → Expr → Place → Place → Part
assert_part keyword decides closing semicolon around scope types = condition decides scope types >>= (λ x. Ok ((typed.assertion keyword x.0 closing semicolon, scope), x.1))

pub assert_good : (keyword : Place) (decides : Expr) (closing semicolon : Place) → GoodPart (assert_part keyword decides closing semicolon)
assert_good keyword decides closing semicolon around v scope types x h sound there =
    let step = bound {B = StmtForm × Scope} (condition decides scope types) (λ (y : Typed × Types). Ok ((typed.assertion keyword y.0 closing semicolon, scope), y.1)) x h in
    let decided = condition_is decides v scope types step.value step.gave sound in
    still around v scope types x sound (typed.assertion keyword step.value.0 closing semicolon) step.value.1 step.behind decided.grown refl (λ p locals final. decided.is p locals around.result final)

-- `break` and `continue`, which stand in a loop
abbrev pub jump_part : StmtForm → Place → Part
jump_part s keyword around scope types = given (in_loop_only around.in_loop s keyword) (λ s. Ok ((s, scope), types))

loop_only : (b : Bool) (s : StmtForm) (keyword : Place) (t : StmtForm) → in_loop_only b s keyword ≡ Ok t → (b ≡ true) × (s ≡ t)
loop_only true s keyword t e = let same : s ≡ t = cc in (refl, same)
loop_only false s keyword t e = absurd (cc)

jumped : (s t : StmtForm) (scope : Scope) (types : Types) (x : (StmtForm × Scope) × Types) → s ≡ t → ◌≡◌ {A = Checked (StmtForm × Scope)} (Ok ((t, scope), types)) (Ok x)
    → ◌≡◌ {A = Checked (StmtForm × Scope)} (Ok ((s, scope), types)) (Ok x)
jumped s t scope types x same h = subst (λ (u : StmtForm). ◌≡◌ {A = Checked (StmtForm × Scope)} (Ok ((u, scope), types)) (Ok x)) (sym same) h

jump_good : (s : StmtForm) (keyword : Place) → ((v : Visible) → after s v ≡ v)
    → ((p : ProgramForm) (locals : List TypedLocal) (result : TyId) (v : Visible) (looping : Bool) → looping ≡ true → IsStatement p locals result s looping v) → GoodPart (jump_part s keyword)
jump_good s keyword behind_it is around v scope types x h sound there =
    let step = given_ok {B = StmtForm × Scope} (in_loop_only around.in_loop s keyword) (λ (t : StmtForm). Ok ((t, scope), types)) x h in
    let only = loop_only around.in_loop s keyword step.value step.gave in
    still around v scope types x sound s types (jumped s step.value scope types x only.1 step.behind) (grown_not types sound.ordered) (behind_it v) (λ p locals final. is p locals around.result v around.in_loop only.0)

pub break_good : (keyword semicolon : Place) → GoodPart (jump_part (typed.loop_break keyword semicolon) keyword)
break_good keyword semicolon = jump_good (typed.loop_break keyword semicolon) keyword (λ v. refl) (λ p locals result v looping inside. inside)

pub continue_good : (keyword semicolon : Place) → GoodPart (jump_part (typed.loop_continue keyword semicolon) keyword)
continue_good keyword semicolon = jump_good (typed.loop_continue keyword semicolon) keyword (λ v. refl) (λ p locals result v looping inside. inside)

-- ---- returns

-- what is moved out is a variable of the finished function too
module _ (result : TyId) (scope : Scope) (locals : List TypedLocal) (keeps : Keeps scope.locals locals) where
  still_named : (t : Ty) (named : Option ℕ) → moves_out t result (named_local scope named) ≡ true → moves_out t result (kept_local locals named) ≡ true
  still_named t None h = h
  still_named t (Some x) h = go (slice_get scope.locals x) refl h
    where
      none_moved : (u : Ty) → moves_out u result None ≡ true → moves_out u result (slice_get locals x) ≡ true
      none_moved (ty.Unique target) h = absurd (cc)
      none_moved _ h = absurd (cc)

      go : (o : Option TypedLocal) → slice_get scope.locals x ≡ o → moves_out t result o ≡ true → moves_out t result (slice_get locals x) ≡ true
      go None is h = none_moved t h
      go (Some l) is h = subst (λ (o : Option TypedLocal). moves_out t result o ≡ true) (sym (keeps x l is)) h

-- a `std::unique_ptr` that is moved out needn't fit
result_given : (t : Ty) (moved : Bool) (types : Types) (e : Typed) → result_fault (is_void t) moved types t e ≡ None → (is_void t ≡ false) × ((moved ≡ true) ⊎ (fits types t e.ty e.category ≡ Ok tt))
result_given t moved types e h = go (is_void t) moved h
  where
    go : (nothing moved : Bool) → result_fault nothing moved types t e ≡ None → (nothing ≡ false) × ((moved ≡ true) ⊎ (fits types t e.ty e.category ≡ Ok tt))
    go true moved h = absurd (cc)
    go false true h = (refl, inl refl)
    go false false h = (refl, inr (misfit_none kinds.WrongType (fits types t e.ty e.category) h))

either : (a b : Bool) → (a ≡ true) ⊎ (b ≡ true) → (a || b) ≡ true
either true b e = refl
either false b e = ⊎_elim (λ h. absurd (cc)) (λ h. h) e

pub record IsGivenBack (result : TyId) (v : Visible) (scope : Scope) (types : Types) (x : Option Typed × Types) : Type 0 where
  pub grown : IsGrown types x.1
  pub is : (p : ProgramForm) (locals : List TypedLocal) → IsFinal p locals scope x.1 → IsReturned p locals result v.visible x.0

abbrev behind_returned : TyId → Place → Scope → Types → Typed × Types → Checked (Option Typed)
behind_returned result keyword scope types x =
    given (allowed (result_fault (is_void (type_at types result)) (moves_out (type_at types result) result (named_local scope (named_in x.0.form))) x.1 (type_at types result) x.0) keyword) (λ _. Ok (Some x.0, x.1))

returned_is : (result : TyId) (keyword : Place) (e : Option (Box Expr Global)) (v : Visible) (scope : Scope) (types : Types) (x : Option Typed × Types) → returned result keyword e scope types ≡ Ok x
    → IsSound v scope types → HasType types result → IsGivenBack result v scope types x
returned_is result keyword None v scope types x h sound there =
    let fine = allowed_ok {B = Option Typed} (unless (is_void (type_at types result)) kinds.WrongType) keyword (λ _. Ok (None, types)) x h in
    subst (IsGivenBack result v scope types) (same_value {A = Option Typed} (None, types) x fine.1) (record {
      grown = grown_not types sound.ordered;
      is = λ p locals final. subst (λ (t : Ty). is_void t ≡ true) (sym (same_type_at types p.types result final.grown there)) (unless_none (is_void (type_at types result)) kinds.WrongType fine.0);
    })
returned_is result keyword (Some e) v scope types x h sound there =
    let step = bound (given_expr (type_at types result) e.value scope types) (behind_returned result keyword scope types) x h in
    let named = named_local scope (named_in step.value.0.form) in
    let fine = allowed_ok (result_fault (is_void (type_at types result)) (moves_out (type_at types result) result named) step.value.1 (type_at types result) step.value.0) keyword
    (λ _. Ok (Some step.value.0, step.value.1)) x step.behind in
    let good = expr_good e.value v scope types step.value (given_expr_reads (type_at types result) e.value scope types step.value step.gave) sound in
    subst (IsGivenBack result v scope types) (same_value {A = Option Typed} (Some step.value.0, step.value.1) x fine.1) (record {
      grown = good.grown;
      is = λ p locals final.
          let typed = good.is p locals final in
          let given = result_given (type_at types result) (moves_out (type_at types result) result named) step.value.1 step.value.0 fine.0 in
          let same : type_at p.types result ≡ type_at types result = same_type_at types p.types result (grows_on types step.value.1 p.types good.grown.grows final.grown) there in
          let parts : HasParts step.value.1 (type_at types result) = parts_stay types step.value.1 (type_at types result) good.grown.grows (parts_there types result sound.ordered there) in (
            subst (λ (t : Ty). is_void t ≡ false) (sym same) given.0,
            subst (λ (t : Ty). (moves_out t result (kept_local locals (named_in step.value.0.form)) || is_given p.types t step.value.0) ≡ true) (sym same)
                (either (moves_out (type_at types result) result (kept_local locals (named_in step.value.0.form))) (is_given p.types (type_at types result) step.value.0)
                (⊎_elim (λ moved. inl (still_named result scope locals final.kept (type_at types result) (named_in step.value.0.form) moved))
                (λ fit. inr (given_later step.value.1 p.types good.grown.ordered final.grown (type_at types result) step.value.0 parts typed.place fit)) given.1)),
            typed.is,
          );
    })

abbrev pub return_part : Place → Option (Box Expr Global) → Place → Part
return_part keyword value semicolon around scope types = returned around.result keyword value scope types >>= (λ x. Ok ((typed.returned keyword x.0 semicolon, scope), x.1))

pub return_good : (keyword : Place) (value : Option (Box Expr Global)) (semicolon : Place) → GoodPart (return_part keyword value semicolon)
return_good keyword value semicolon around v scope types x h sound there =
    let step = bound {B = StmtForm × Scope} (returned around.result keyword value scope types) (λ (y : Option Typed × Types). Ok ((typed.returned keyword y.0 semicolon, scope), y.1)) x h in
    let back = returned_is around.result keyword value v scope types step.value step.gave sound there in
    still around v scope types x sound (typed.returned keyword step.value.0 semicolon) step.value.1 step.behind back.grown refl (λ p locals final. back.is p locals final)

-- ---- `while`

abbrev pub looped : Place → Typed → Place → (StmtForm × Scope) × Types → Checked (StmtForm × Scope)
looped keyword decides closing y = Ok ((typed.while_loop keyword decides closing y.0.0, y.0.1), y.1)

abbrev pub behind_decided : Place → Place → Part → Around → Scope → Typed × Types → Checked (StmtForm × Scope)
behind_decided keyword closing body around scope x = body (in_loop around) scope x.1 >>= looped keyword x.0 closing

abbrev pub while_part : Place → Expr → Place → Part → Part
while_part keyword decides closing body around scope types = condition decides scope types >>= behind_decided keyword closing body around scope

pub while_good : (keyword : Place) (decides : Expr) (closing : Place) (body : Part) → GoodPart body → Alone body → GoodPart (while_part keyword decides closing body)
while_good keyword decides closing body good one around v scope types x h sound there =
    let first = bound (condition decides scope types) (behind_decided keyword closing body around scope) x h in
    let second = bound (body (in_loop around) scope first.value.1) (looped keyword first.value.0 closing) x first.behind in
    let same = same_value {A = StmtForm × Scope} ((typed.while_loop keyword first.value.0 closing second.value.0.0, second.value.0.1), second.value.1) x second.behind in
    let decided = condition_is decides v scope types first.value first.gave sound in
    let inner : IsPart [] (in_loop around) v scope first.value.1 second.value =
    good (in_loop around) v scope first.value.1 second.value second.gave (sound_now v scope types first.value.1 sound decided.grown) (stays_there types first.value.1 around.result decided.grown.grows there) in
    let moved : Moves [] scope second.value.0.1 types second.value.1 = moves_after v [] scope second.value.0.1 types first.value.1 second.value.1 sound decided.grown inner.moves in
    subst (IsPart [] around v scope types) same (record {
      moves = moved;
      sound = sound_behind v (after second.value.0.0 v) scope second.value.0.1 types second.value.1 sound moved inner.sound.declared;
      is = λ p locals final. (
        decided.is p locals around.result (final_before p locals [] scope second.value.0.1 first.value.1 second.value.1 inner.moves final),
        one (in_loop around) scope first.value.1 second.value second.gave,
        inner.is p locals final,
      );
    })

-- ---- a branch

abbrev pub branched : Place → Typed → Place → (StmtForm × Scope) × Types → Checked (StmtForm × Scope)
branched keyword decides closing y = Ok ((typed.branch keyword decides closing y.0.0, y.0.1), y.1)

abbrev pub behind_condition : Place → Place → Part → Around → Scope → Typed × Types → Checked (StmtForm × Scope)
behind_condition keyword closing body around scope x = body around scope x.1 >>= branched keyword x.0 closing

abbrev pub branch_of : Place → Expr → Place → Part → Part
branch_of keyword decides closing body around scope types = condition decides scope types >>= behind_condition keyword closing body around scope

pub branch_good : (keyword : Place) (decides : Expr) (closing : Place) (body : Part) → GoodPart body → Alone body → GoodBranch (branch_of keyword decides closing body)
branch_good keyword decides closing body good one around v scope types x h sound there =
    let first = bound (condition decides scope types) (behind_condition keyword closing body around scope) x h in
    let second = bound (body around scope first.value.1) (branched keyword first.value.0 closing) x first.behind in
    let same = same_value {A = StmtForm × Scope} ((typed.branch keyword first.value.0 closing second.value.0.0, second.value.0.1), second.value.1) x second.behind in
    let decided = condition_is decides v scope types first.value first.gave sound in
    let inner : IsPart [] around v scope first.value.1 second.value =
    good around v scope first.value.1 second.value second.gave (sound_now v scope types first.value.1 sound decided.grown) (stays_there types first.value.1 around.result decided.grown.grows there) in
    let moved : Moves [] scope second.value.0.1 types second.value.1 = moves_after v [] scope second.value.0.1 types first.value.1 second.value.1 sound decided.grown inner.moves in
    subst (IsBranch around v scope types) same (record {
      moves = moved;
      sound = sound_behind v (after second.value.0.0 v) scope second.value.0.1 types second.value.1 sound moved inner.sound.declared;
      is = λ p locals final others are. (
        decided.is p locals around.result (final_before p locals [] scope second.value.0.1 first.value.1 second.value.1 inner.moves final),
        one around scope first.value.1 second.value second.gave,
        inner.is p locals final,
        are,
      );
    })

-- ---- `if`

pub none_good : GoodPart (optional_part None)
none_good around v scope types x h sound there = still around v scope types x sound no_more types h (grown_not types sound.ordered) refl (λ p locals final. tt)

abbrev pub with_last : List StmtForm → (StmtForm × Scope) × Types → Checked (StmtForm × Scope)
with_last branches y = Ok ((typed.branching (stmt_forms branches) y.0.0, y.0.1), y.1)

abbrev pub behind_branches : Option Part → Around → (List StmtForm × Scope) × Types → Checked (StmtForm × Scope)
behind_branches last around x = optional_part last around x.0.1 x.1 >>= with_last x.0.0

abbrev pub if_of : List Part → Option Part → Part
if_of branches last around scope types = in_turn branches around scope types >>= behind_branches last around

pub if_good : (branches : List Part) (last : Option Part) → EachHolds GoodBranch branches → GoodPart (optional_part last) → Alone (optional_part last) → GoodPart (if_of branches last)
if_good branches last good held one around v scope types x h sound there =
    let first = bound (in_turn branches around scope types) (behind_branches last around) x h in
    let second = bound (optional_part last around first.value.0.1 first.value.1) (with_last first.value.0.0) x first.behind in
    let same = same_value {A = StmtForm × Scope} ((typed.branching (stmt_forms first.value.0.0) second.value.0.0, second.value.0.1), second.value.1) x second.behind in
    let all : BranchesAre around v scope types first.value = branches_are branches around v scope types first.value good first.gave sound there in
    let middle : Visible = after (stmt_forms first.value.0.0) v in
    let ending : IsPart [] around middle first.value.0.1 first.value.1 second.value =
    held around middle first.value.0.1 first.value.1 second.value second.gave all.sound (stays_there types first.value.1 around.result all.moves.grown.grows there) in
    subst (IsPart [] around v scope types) same (record {
      moves = moves_on [] [] scope first.value.0.1 second.value.0.1 types first.value.1 second.value.1 all.moves ending.moves;
      sound = ending.sound;
      is = λ p locals final. (
        all.are p locals (final_before p locals [] first.value.0.1 second.value.0.1 first.value.1 second.value.1 ending.moves final),
        one around first.value.0.1 first.value.1 second.value second.gave,
        ending.is p locals final,
      );
    })

-- ---- `for`

pub record IsStarted (names : List NameId) (v : Visible) (scope : Scope) (types : Types) (x : (Option ForStartForm × Scope) × Types) : Type 0 where
  pub moves : Moves names scope x.0.1 types x.1
  pub sound : IsSound (after_start x.0.0 v) x.0.1 x.1
  pub is : (p : ProgramForm) (locals : List TypedLocal) (result : TyId) → IsFinal p locals x.0.1 x.1 → IsStart p locals result x.0.0 v

start_is : (s : Option ForStart) (v : Visible) (scope : Scope) (types : Types) (x : (Option ForStartForm × Scope) × Types) → for_start_part s scope types ≡ Ok x → IsSound v scope types
    → IsStarted (start_names s) v scope types x
start_is None v scope types x h sound =
    subst (IsStarted [] v scope types) (same_value {A = Option ForStartForm × Scope} ((None, scope), types) x h)
    (record { moves = moves_not v scope types sound; sound = sound; is = λ p locals result final. tt })
start_is (Some (for_start.Declaration d)) v scope types x h sound =
    let step = bound {B = Option ForStartForm × Scope} (declaration d.value scope types) (λ y. Ok ((Some (typed.declared_first y.0.0), y.0.1), y.1)) x h in
    let same = same_value {A = Option ForStartForm × Scope} ((Some (typed.declared_first step.value.0.0), step.value.0.1), step.value.1) x step.behind in
    let new : IsNew d.value.name v scope types step.value = declaration_new d.value v scope types step.value sound step.gave in
    subst (IsStarted (d.value.name.id ∷ []) v scope types) same (record { moves = new.moves; sound = new.sound; is = new.is })
start_is (Some (for_start.Simple s)) v scope types x h sound =
    let step = bound {B = Option ForStartForm × Scope} (simple_statement s.value scope types) (λ (y : SimpleForm × Types). Ok ((Some (typed.done_first y.0), scope), y.1)) x h in
    let same = same_value {A = Option ForStartForm × Scope} ((Some (typed.done_first step.value.0), scope), step.value.1) x step.behind in
    let done = simple_is s.value v scope types step.value step.gave sound in
    subst (IsStarted [] v scope types) same (record {
      moves = table_moves v scope types step.value.1 sound done.grown;
      sound = sound_now v scope types step.value.1 sound done.grown;
      is = λ p locals result final. done.is p locals result final;
    })

-- the parts of a `for`, with its body
module _ (keyword first_semicolon second_semicolon closing : Place) (start : Option ForStart) (decides : Option (Box Expr Global)) (stepping : Option (Box Simple Global)) (body : Part) where
  abbrev pub whole_for : Option ForStartForm → Option Typed → Option SimpleForm → (StmtForm × Scope) × Types → Checked (StmtForm × Scope)
  whole_for s c t w = Ok ((typed.for_loop keyword s first_semicolon c second_semicolon t closing w.0.0, forgotten (start_names start) w.0.1), w.1)

  abbrev pub behind_step : Around → Option ForStartForm × Scope → Option Typed → Option SimpleForm × Types → Checked (StmtForm × Scope)
  behind_step around s c z = body (in_loop around) s.1 z.1 >>= whole_for s.0 c z.0

  abbrev pub behind_test : Around → Option ForStartForm × Scope → Option Typed × Types → Checked (StmtForm × Scope)
  behind_test around s y = optional_simple stepping s.1 y.1 >>= behind_step around s y.0

  abbrev pub behind_start : Around → (Option ForStartForm × Scope) × Types → Checked (StmtForm × Scope)
  behind_start around x = optional_condition decides x.0.1 x.1 >>= behind_test around x.0

  abbrev pub for_of : Part
  for_of around scope types = for_start_part start scope types >>= behind_start around

  pub for_good : GoodPart body → Alone body → GoodPart for_of
  for_good good one around v scope types x h sound there =
      let a = bound (for_start_part start scope types) (behind_start around) x h in
      let b = bound (optional_condition decides a.value.0.1 a.value.1) (behind_test around a.value.0) x a.behind in
      let c = bound (optional_simple stepping a.value.0.1 b.value.1) (behind_step around a.value.0 b.value.0) x b.behind in
      let d = bound (body (in_loop around) a.value.0.1 c.value.1) (whole_for a.value.0.0 b.value.0 c.value.0) x c.behind in
      let form : StmtForm = typed.for_loop keyword a.value.0.0 first_semicolon b.value.0 second_semicolon c.value.0 closing d.value.0.0 in
      let out : Scope = forgotten (start_names start) d.value.0.1 in
      let same = same_value {A = StmtForm × Scope} ((form, out), d.value.1) x d.behind in
      let started : IsStarted (start_names start) v scope types a.value = start_is start v scope types a.value a.gave sound in
      let w : Visible = after_start a.value.0.0 v in
      let decided = optional_condition_is decides w a.value.0.1 a.value.1 b.value b.gave started.sound in
      let sound_b : IsSound w a.value.0.1 b.value.1 = sound_now w a.value.0.1 a.value.1 b.value.1 started.sound decided.grown in
      let stepped = optional_simple_is stepping w a.value.0.1 b.value.1 c.value c.gave sound_b in
      let head : IsGrown a.value.1 c.value.1 = grown_on a.value.1 b.value.1 c.value.1 decided.grown stepped.grown in
      let inner : IsPart [] (in_loop around) w a.value.0.1 c.value.1 d.value =
      good (in_loop around) w a.value.0.1 c.value.1 d.value d.gave (sound_now w a.value.0.1 a.value.1 c.value.1 started.sound head)
      (stays_there types c.value.1 around.result (grows_on types a.value.1 c.value.1 started.moves.grown.grows head.grows) there) in
      let moved : Moves (start_names start) scope d.value.0.1 types d.value.1 =
      subst (λ (ns : List NameId). Moves ns scope d.value.0.1 types d.value.1) (append_none (start_names start))
      (moves_on (start_names start) [] scope a.value.0.1 d.value.0.1 types a.value.1 d.value.1 started.moves (moves_after w [] a.value.0.1 d.value.0.1 a.value.1 c.value.1 d.value.1 started.sound head inner.moves)) in
      let left : Moves [] scope out types d.value.1 = moves_behind (start_names start) scope d.value.0.1 types d.value.1 moved in
      subst (IsPart [] around v scope types) same (record {
        moves = left;
        sound = sound_behind v (after d.value.0.0 w) scope out types d.value.1 sound left (ap length (forgotten_locals (start_names start) d.value.0.1) ∙ inner.sound.declared);
        is = λ p locals final.
            let last : IsFinal p locals d.value.0.1 d.value.1 = final_remembered p locals (start_names start) d.value.0.1 d.value.1 final in
            let at_step : IsFinal p locals a.value.0.1 c.value.1 = final_before p locals [] a.value.0.1 d.value.0.1 c.value.1 d.value.1 inner.moves last in
            let at_test : IsFinal p locals a.value.0.1 b.value.1 = final_then p locals a.value.0.1 b.value.1 c.value.1 stepped.grown at_step in (
              started.is p locals around.result (final_then p locals a.value.0.1 a.value.1 b.value.1 decided.grown at_test),
              decided.is p locals around.result at_test,
              stepped.is p locals around.result at_step,
              one (in_loop around) a.value.0.1 c.value.1 d.value d.gave,
              inner.is p locals last,
            );
      })
