-- Statements one after the other: in blocks, and the branches of an `if`.
use Rattle.std.proofs.Common.{◌≡◌, true, Option, None, Some, List, [], ◌∷◌, ◌++◌, Ok, length, refl, ap, subst, ◌∙◌}
use Rattle.life_types.specs.Types.{Types, HasType}
use Rattle.life_types.specs.declared.place.Place.{Place}
use Rattle.life_types.specs.declared.ty.NameId.{NameId}
use Rattle.life_typed.specs.Programs.{ProgramForm}
use Rattle.life_typed.specs.TypedStatement as typed
use Rattle.life_typed.specs.TypedStatement.{StmtForm, chain, stmt_forms}
use Rattle.life_typed.specs.declared.typed_program.TypedLocal.{TypedLocal}
use Rattle.life_names.specs.Checked.{Checked, ◌>>=◌}
use Rattle.life_names.specs.Environment.{Scope, forgotten}
use Rattle.life_type_stmt.specs.Statements.{ItemPart, Part, block_part, in_turn, name_before, names_of, parts_of}
use Rattle.life_well_typed.specs.Statements.{AreBranches, IsStatement}
use Rattle.life_well_typed.specs.Visible.{Visible, after}
use Rattle.life_typing_laws.proofs.Domains.{Around}
use Rattle.life_typing_laws.proofs.Each.{EachHolds}
use Rattle.life_typing_laws.proofs.Growing.{stays_there}
use Rattle.life_typing_laws.proofs.Scopes.{Moves, final_before, final_remembered, forgotten_locals, moves_not, moves_on, moves_behind, sound_behind}
use Rattle.life_typing_laws.specs.Sound.{IsFinal, IsSound}
use Rattle.life_typing_laws.proofs.Statements.{GoodBlock, GoodItem, Gives, IsPart, is_block}
use Rattle.life_typing_laws.proofs.Steps.{bound, same_value}

-- ---- in a block

pub record AreParts (names : List NameId) (around : Around) (v : Visible) (scope : Scope) (types : Types) (x : (List StmtForm × Scope) × Types) : Type 0 where
  pub moves : Moves names scope x.0.1 types x.1
  pub sound : IsSound (after (stmt_forms x.0.0) v) x.0.1 x.1
  pub are : (p : ProgramForm) (locals : List TypedLocal) → IsFinal p locals x.0.1 x.1 → IsStatement p locals around.result (stmt_forms x.0.0) around.in_loop v

abbrev pub with_first : (StmtForm × Scope) × Types → (List StmtForm × Scope) × Types → Checked (List StmtForm × Scope)
with_first y ys = Ok ((y.0.0 ∷ ys.0.0, ys.0.1), ys.1)

abbrev pub with_others : List Part → Around → (StmtForm × Scope) × Types → Checked (List StmtForm × Scope)
with_others ps around y = in_turn ps around y.0.1 y.1 >>= with_first y

name_joined : (d : Option NameId) (names : List NameId) → name_before d [] ++ names ≡ name_before d names
name_joined None names = refl
name_joined (Some name) names = refl

parts_are : (is : List ItemPart) (around : Around) (v : Visible) (scope : Scope) (types : Types) (x : (List StmtForm × Scope) × Types) → EachHolds GoodItem is → in_turn (parts_of is) around scope types ≡ Ok x
    → IsSound v scope types → HasType types around.result → AreParts (names_of is) around v scope types x
parts_are [] around v scope types x good h sound there =
    subst (AreParts [] around v scope types) (same_value {A = List StmtForm × Scope} (([], scope), types) x h)
    (record { moves = moves_not v scope types sound; sound = sound; are = λ p locals final. tt })
parts_are (i ∷ is) around v scope types x good h sound there =
    let first = bound (i.part around scope types) (with_others (parts_of is) around) x h in
    let rest = bound (in_turn (parts_of is) around first.value.0.1 first.value.1) (with_first first.value) x first.behind in
    let same = same_value {A = List StmtForm × Scope} ((first.value.0.0 ∷ rest.value.0.0, rest.value.0.1), rest.value.1) x rest.behind in
    let one : IsPart (name_before i.declares []) around v scope types first.value = good.0 around v scope types first.value first.gave sound there in
    let others : AreParts (names_of is) around (after first.value.0.0 v) first.value.0.1 first.value.1 rest.value =
    parts_are is around (after first.value.0.0 v) first.value.0.1 first.value.1 rest.value good.1 rest.gave one.sound (stays_there types first.value.1 around.result one.moves.grown.grows there) in
    subst (AreParts (name_before i.declares (names_of is)) around v scope types) same (record {
      moves = subst (λ (ns : List NameId). Moves ns scope rest.value.0.1 types rest.value.1) (name_joined i.declares (names_of is))
          (moves_on (name_before i.declares []) (names_of is) scope first.value.0.1 rest.value.0.1 types first.value.1 rest.value.1 one.moves others.moves);
      sound = others.sound;
      are = λ p locals final. (one.is p locals (final_before p locals (names_of is) first.value.0.1 rest.value.0.1 first.value.1 rest.value.1 others.moves final), others.are p locals final);
    })

abbrev closed : List ItemPart → Place → (List StmtForm × Scope) × Types → Checked (StmtForm × Scope)
closed is closing x = Ok ((typed.block (stmt_forms x.0.0) closing, forgotten (names_of is) x.0.1), x.1)

pub block_good : (is : List ItemPart) (closing : Place) → EachHolds GoodItem is → GoodBlock (block_part is closing)
block_good is closing good = record {
  good = gives;
  block = λ around scope types x h.
      let step = bound (in_turn (parts_of is) around scope types) (closed is closing) x h in
      subst (λ (y : (StmtForm × Scope) × Types). is_block y.0.0 ≡ true) (same_value {A = StmtForm × Scope} ((typed.block (stmt_forms step.value.0.0) closing, forgotten (names_of is) step.value.0.1), step.value.1) x step.behind) refl;
}
  where
    gives : Gives [] (block_part is closing)
    gives around v scope types x h sound there =
        let step = bound (in_turn (parts_of is) around scope types) (closed is closing) x h in
        let same = same_value {A = StmtForm × Scope} ((typed.block (stmt_forms step.value.0.0) closing, forgotten (names_of is) step.value.0.1), step.value.1) x step.behind in
        let inner = parts_are is around v scope types step.value good step.gave sound there in
        let out : Moves [] scope (forgotten (names_of is) step.value.0.1) types step.value.1 = moves_behind (names_of is) scope step.value.0.1 types step.value.1 inner.moves in
        subst (IsPart [] around v scope types) same (record {
          moves = out;
          sound = sound_behind v (after (stmt_forms step.value.0.0) v) scope (forgotten (names_of is) step.value.0.1) types step.value.1 sound out
              (ap length (forgotten_locals (names_of is) step.value.0.1) ∙ inner.sound.declared);
          is = λ p locals final. inner.are p locals (final_remembered p locals (names_of is) step.value.0.1 step.value.1 final);
        })

-- ---- the branches of an `if`

pub record IsBranch (around : Around) (v : Visible) (scope : Scope) (types : Types) (x : (StmtForm × Scope) × Types) : Type 0 where
  pub moves : Moves [] scope x.0.1 types x.1
  pub sound : IsSound (after x.0.0 v) x.0.1 x.1
  pub is : (p : ProgramForm) (locals : List TypedLocal) → IsFinal p locals x.0.1 x.1
      → (others : StmtForm) → AreBranches p locals around.result others around.in_loop (after x.0.0 v) → AreBranches p locals around.result (chain x.0.0 others) around.in_loop v

abbrev pub GoodBranch : Part → Type 0
GoodBranch part =
    (around : Around) (v : Visible) (scope : Scope) (types : Types) (x : (StmtForm × Scope) × Types) → part around scope types ≡ Ok x
    → IsSound v scope types → HasType types around.result → IsBranch around v scope types x

pub record BranchesAre (around : Around) (v : Visible) (scope : Scope) (types : Types) (x : (List StmtForm × Scope) × Types) : Type 0 where
  pub moves : Moves [] scope x.0.1 types x.1
  pub sound : IsSound (after (stmt_forms x.0.0) v) x.0.1 x.1
  pub are : (p : ProgramForm) (locals : List TypedLocal) → IsFinal p locals x.0.1 x.1 → AreBranches p locals around.result (stmt_forms x.0.0) around.in_loop v

pub branches_are : (ps : List Part) (around : Around) (v : Visible) (scope : Scope) (types : Types) (x : (List StmtForm × Scope) × Types) → EachHolds GoodBranch ps → in_turn ps around scope types ≡ Ok x
    → IsSound v scope types → HasType types around.result → BranchesAre around v scope types x
branches_are [] around v scope types x good h sound there =
    subst (BranchesAre around v scope types) (same_value {A = List StmtForm × Scope} (([], scope), types) x h)
    (record { moves = moves_not v scope types sound; sound = sound; are = λ p locals final. tt })
branches_are (part ∷ ps) around v scope types x good h sound there =
    let first = bound (part around scope types) (with_others ps around) x h in
    let rest = bound (in_turn ps around first.value.0.1 first.value.1) (with_first first.value) x first.behind in
    let same = same_value {A = List StmtForm × Scope} ((first.value.0.0 ∷ rest.value.0.0, rest.value.0.1), rest.value.1) x rest.behind in
    let one : IsBranch around v scope types first.value = good.0 around v scope types first.value first.gave sound there in
    let others : BranchesAre around (after first.value.0.0 v) first.value.0.1 first.value.1 rest.value =
    branches_are ps around (after first.value.0.0 v) first.value.0.1 first.value.1 rest.value good.1 rest.gave one.sound (stays_there types first.value.1 around.result one.moves.grown.grows there) in
    subst (BranchesAre around v scope types) same (record {
      moves = moves_on [] [] scope first.value.0.1 rest.value.0.1 types first.value.1 rest.value.1 one.moves others.moves;
      sound = others.sound;
      are = λ p locals final.
          one.is p locals (final_before p locals [] first.value.0.1 rest.value.0.1 first.value.1 rest.value.1 others.moves final) (stmt_forms rest.value.0.0) (others.are p locals final);
    })
