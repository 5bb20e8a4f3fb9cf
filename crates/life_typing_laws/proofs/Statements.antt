-- Statements: what each rule of the grammar gives is well typed.
use Rattle.std.proofs.Common.{◌≡◌, Bool, true, false, Option, None, Some, List, [], ◌∷◌, Ok, Box, sym, subst}
use Rattle.std.specs.declared.alloc.Global.{Global}
use Rattle.life_types.specs.Types.{Types, HasType}
use Rattle.life_types.specs.declared.ty.NameId.{NameId}
use Rattle.life_types.specs.declared.ty.TyId.{TyId}
use Rattle.life_tree.specs.declared.expr.Expr.{Expr}
use Rattle.life_tree.specs.declared.stmt.PrintItem.{PrintItem}
use Rattle.life_tree.specs.declared.stmt.PrintItem.TheVariants as print_item
use Rattle.life_tree.specs.declared.stmt.PrintPart.{PrintPart}
use Rattle.life_typed.specs.Programs.{ProgramForm}
use Rattle.life_typed.specs.Statements.{is_printed}
use Rattle.life_typed.specs.TypedForm.{Typed}
use Rattle.life_typed.specs.TypedStatement as typed
use Rattle.life_typed.specs.TypedStatement.{ItemForm, StmtForm}
use Rattle.life_typed.specs.declared.typed_program.TypedLocal.{TypedLocal}
use Rattle.life_names.specs.Checked.{Checked, ◌>>=◌}
use Rattle.life_names.specs.Environment.{Scope}
use Rattle.life_names.specs.Found.{allowed, given}
use Rattle.life_names.specs.declared.fault.IllKind.TheVariants as kinds
use Rattle.life_type_expr.specs.Expressions.{additive_meaning}
use Rattle.life_type_stmt.specs.Conditions.{condition, item, items, optional_condition, part_item, unless}
use Rattle.life_type_stmt.specs.Each.{each}
use Rattle.life_type_stmt.specs.Statements.{ItemPart, Part, name_before}
use Rattle.life_well_typed.specs.Statements.{AreItems, Decides, DecidesIfAny, IsItem, IsStatement, is_one}
use Rattle.life_well_typed.specs.Visible.{Visible, after}
use Rattle.life_typing_laws.proofs.Domains.{Around}
use Rattle.life_typing_laws.proofs.Growing.{IsGrown, grown_not, grown_on}
use Rattle.life_typing_laws.proofs.Scopes.{Moves, final_then, sound_now, table_moves}
use Rattle.life_typing_laws.specs.Sound.{IsFinal, IsSound}
use Rattle.life_typing_laws.proofs.Steps.{allowed_ok, bound, same_value}
use Rattle.life_typing_laws.proofs.Values.{condition_reads, unless_none}
use Rattle.life_typing_laws.proofs.Wholes.{additive_apart, additive_good, expr_good}

-- ---- what a part of a tree does

-- it moves on, what holds before it holds behind it, and what it gives is well typed in the end
pub record IsPart (names : List NameId) (around : Around) (v : Visible) (scope : Scope) (types : Types) (x : (StmtForm × Scope) × Types) : Type 0 where
  pub moves : Moves names scope x.0.1 types x.1
  pub sound : IsSound (after x.0.0 v) x.0.1 x.1
  pub is : (p : ProgramForm) (locals : List TypedLocal) → IsFinal p locals x.0.1 x.1 → IsStatement p locals around.result x.0.0 around.in_loop v

abbrev pub Gives : List NameId → Part → Type 0
Gives names part =
    (around : Around) (v : Visible) (scope : Scope) (types : Types) (x : (StmtForm × Scope) × Types) → part around scope types ≡ Ok x
    → IsSound v scope types → HasType types around.result → IsPart names around v scope types x

-- a statement: it declares nothing that is visible behind it
abbrev pub GoodPart : Part → Type 0
GoodPart = Gives []

-- .. and is one
abbrev pub Alone : Part → Type 0
Alone part = (around : Around) (scope : Scope) (types : Types) (x : (StmtForm × Scope) × Types) → part around scope types ≡ Ok x → is_one x.0.0 ≡ true

-- a part of a block declares at most its name
abbrev pub GoodItem : ItemPart → Type 0
GoodItem i = Gives (name_before i.declares []) i.part

-- a block
abbrev pub is_block : StmtForm → Bool
is_block (typed.block items closing) = true
is_block _ = false

pub record GoodBlock (part : Part) : Type 0 where
  pub good : GoodPart part
  pub block : (around : Around) (scope : Scope) (types : Types) (x : (StmtForm × Scope) × Types) → part around scope types ≡ Ok x → is_block x.0.0 ≡ true

-- ---- statements that declare nothing

module _ (around : Around) (v : Visible) (scope : Scope) (types : Types) (x : (StmtForm × Scope) × Types) (sound : IsSound v scope types) where
  -- .. over a table that has grown
  pub still : (s : StmtForm) (t : Types) → ◌≡◌ {A = Checked (StmtForm × Scope)} (Ok ((s, scope), t)) (Ok x) → IsGrown types t → after s v ≡ v
      → ((p : ProgramForm) (locals : List TypedLocal) → IsFinal p locals scope t → IsStatement p locals around.result s around.in_loop v) → IsPart [] around v scope types x
  still s t h grown behind_it is =
      subst (IsPart [] around v scope types) (same_value {A = StmtForm × Scope} ((s, scope), t) x h) (record {
        moves = table_moves v scope types t sound grown;
        sound = subst (λ (w : Visible). IsSound w scope t) (sym behind_it) (sound_now v scope types t sound grown);
        is = is;
      })

-- ---- what decides

pub record IsDecided (v : Visible) (scope : Scope) (types : Types) (x : Typed × Types) : Type 0 where
  pub grown : IsGrown types x.1
  pub is : (p : ProgramForm) (locals : List TypedLocal) (result : TyId) → IsFinal p locals scope x.1 → Decides p locals result v.visible x.0

pub condition_is : (e : Expr) (v : Visible) (scope : Scope) (types : Types) (x : Typed × Types) → condition e scope types ≡ Ok x → IsSound v scope types → IsDecided v scope types x
condition_is e v scope types x h sound =
    let reads = condition_reads e scope types x h in
    let good = expr_good e v scope types x reads.0 sound in
    record { grown = good.grown; is = λ p locals result final. (reads.1, (good.is p locals final).is) }

pub record IsDecidedIfAny (v : Visible) (scope : Scope) (types : Types) (x : Option Typed × Types) : Type 0 where
  pub grown : IsGrown types x.1
  pub is : (p : ProgramForm) (locals : List TypedLocal) (result : TyId) → IsFinal p locals scope x.1 → DecidesIfAny p locals result v.visible x.0

pub optional_condition_is : (e : Option (Box Expr Global)) (v : Visible) (scope : Scope) (types : Types) (x : Option Typed × Types) → optional_condition e scope types ≡ Ok x → IsSound v scope types
    → IsDecidedIfAny v scope types x
optional_condition_is None v scope types x h sound =
    subst (IsDecidedIfAny v scope types) (same_value {A = Option Typed} (None, types) x h) (record { grown = grown_not types sound.ordered; is = λ p locals result final. tt })
optional_condition_is (Some e) v scope types x h sound =
    let step = bound (condition e.value scope types) (λ y. Ok (Some y.0, y.1)) x h in
    let decided = condition_is e.value v scope types step.value step.gave sound in
    subst (IsDecidedIfAny v scope types) (same_value {A = Option Typed} (Some step.value.0, step.value.1) x step.behind) (record { grown = decided.grown; is = decided.is })

-- ---- what is printed

pub record ArePrinted (v : Visible) (scope : Scope) (types : Types) (x : List ItemForm × Types) : Type 0 where
  pub grown : IsGrown types x.1
  pub are : (p : ProgramForm) (locals : List TypedLocal) (result : TyId) → IsFinal p locals scope x.1 → AreItems p locals result v.visible x.0

abbrev printed_with : Typed × Types → Checked ItemForm
printed_with x = given (allowed (unless (is_printed x.0.ty) kinds.WrongType) x.0.place) (λ _. Ok (typed.printed x.0, x.1))

pub record IsPrinted (v : Visible) (scope : Scope) (types : Types) (x : ItemForm × Types) : Type 0 where
  pub grown : IsGrown types x.1
  pub is : (p : ProgramForm) (locals : List TypedLocal) (result : TyId) → IsFinal p locals scope x.1 → IsItem p locals result v.visible x.0

item_is : (i : PrintItem) (v : Visible) (scope : Scope) (types : Types) (x : ItemForm × Types) → item i scope types ≡ Ok x → IsSound v scope types → IsPrinted v scope types x
item_is (print_item.Value e) v scope types x h sound =
    let step = bound (additive_meaning e scope types) printed_with x h in
    let fine = allowed_ok (unless (is_printed step.value.0.ty) kinds.WrongType) step.value.0.place (λ _. Ok (typed.printed step.value.0, step.value.1)) x step.behind in
    let good = additive_good e v scope types step.value step.gave sound in
    subst (IsPrinted v scope types) (same_value {A = ItemForm} (typed.printed step.value.0, step.value.1) x fine.1) (record {
      grown = good.grown;
      is = λ p locals result final. (unless_none (is_printed step.value.0.ty) kinds.WrongType fine.0, additive_apart e scope types step.value step.gave, (good.is p locals final).is);
    })
item_is (print_item.EndLine name) v scope types x h sound =
    subst (IsPrinted v scope types) (same_value {A = ItemForm} (typed.line_end name.word, types) x h) (record { grown = grown_not types sound.ordered; is = λ p locals result final. tt })

abbrev more_items : List PrintPart → Scope → ItemForm × Types → Checked (List ItemForm)
more_items ps scope y = each part_item ps scope y.1 >>= (λ ys. Ok (y.0 ∷ ys.0, ys.1))

pub items_are : (ps : List PrintPart) (v : Visible) (scope : Scope) (types : Types) (x : List ItemForm × Types) → items ps scope types ≡ Ok x → IsSound v scope types → ArePrinted v scope types x
items_are [] v scope types x h sound =
    subst (ArePrinted v scope types) (same_value {A = List ItemForm} ([], types) x h) (record { grown = grown_not types sound.ordered; are = λ p locals result final. tt })
items_are (i ∷ ps) v scope types x h sound =
    let first = bound (part_item i scope types) (more_items ps scope) x h in
    let rest = bound (each part_item ps scope first.value.1) (λ ys. Ok (first.value.0 ∷ ys.0, ys.1)) x first.behind in
    let one = item_is i.item v scope types first.value first.gave sound in
    let others = items_are ps v scope first.value.1 rest.value rest.gave (sound_now v scope types first.value.1 sound one.grown) in
    subst (ArePrinted v scope types) (same_value {A = List ItemForm} (first.value.0 ∷ rest.value.0, rest.value.1) x rest.behind) (record {
      grown = grown_on types first.value.1 rest.value.1 one.grown others.grown;
      are = λ p locals result final. (one.is p locals result (final_then p locals scope first.value.1 rest.value.1 others.grown final), others.are p locals result final);
    })
