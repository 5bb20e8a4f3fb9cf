-- Declarations in a block and loops over ranges are well typed.
use Rattle.std.proofs.Common.{◌≡◌, [], Box, ◌∷◌, Ok, length, ap, subst, ◌∙◌}
use Rattle.std.specs.declared.alloc.Global.{Global}
use Rattle.life_types.specs.Types.{Types}
use Rattle.life_types.specs.declared.place.Place.{Place}
use Rattle.life_tree.specs.declared.declaration.Declaration.{Declaration}
use Rattle.life_tree.specs.declared.stmt.BlockItem.TheOpen as open_stmt
use Rattle.life_typed.specs.TypedStatement as typed
use Rattle.life_typed.specs.TypedStatement.{StmtForm}
use Rattle.life_names.specs.Checked.{Checked, ◌>>=◌}
use Rattle.life_names.specs.Environment.{Scope, forgotten}
use Rattle.life_type_stmt.specs.Declarations.{declaration}
use Rattle.life_type_stmt.specs.Ranges.{RangeHead, range_head}
use Rattle.life_type_stmt.specs.Statements.{ItemPart, Part, in_loop, item_step, range_for_step}
use Rattle.life_typing_laws.proofs.Domains.{Around}
use Rattle.life_typing_laws.proofs.Declarations.{IsNew, declaration_new}
use Rattle.life_typing_laws.specs.Sound.{IsFinal}
use Rattle.life_well_typed.specs.Visible.{after, with_next}
use Rattle.life_typing_laws.proofs.Growing.{stays_there}
use Rattle.life_typing_laws.proofs.Ranges.{IsHead, head_is}
use Rattle.life_typing_laws.proofs.Scopes.{Moves, final_before, final_remembered, forgotten_locals, moves_behind, moves_on, sound_behind}
use Rattle.life_typing_laws.proofs.Statements.{Alone, GoodItem, GoodPart, IsPart}
use Rattle.life_typing_laws.proofs.Steps.{bound, same_value}

-- ---- loops over ranges

abbrev pub ranged : open_stmt.RangeFor-F ItemPart Part Part Part Part Part Part Part Part Part → RangeHead → (StmtForm × Scope) × Types → Checked (StmtForm × Scope)
ranged f head y = Ok ((typed.range_loop f.keyword head.local f.name f.colon head.range f.closing y.0.0, forgotten (f.name.id ∷ []) y.0.1), y.1)

abbrev pub behind_head : open_stmt.RangeFor-F ItemPart Part Part Part Part Part Part Part Part Part → Around → (RangeHead × Scope) × Types → Checked (StmtForm × Scope)
behind_head f around x = f.body.value (in_loop around) x.0.1 x.1 >>= ranged f x.0.0

pub range_good : (f : open_stmt.RangeFor-F ItemPart Part Part Part Part Part Part Part Part Part) → GoodPart f.body.value → Alone f.body.value → GoodPart (range_for_step f)
range_good f good one around v scope types x h sound there =
    let first = bound (range_head f.ty f.name f.colon f.range.value scope types) (behind_head f around) x h in
    let second = bound (f.body.value (in_loop around) first.value.0.1 first.value.1) (ranged f first.value.0.0) x first.behind in
    whole first.value second.value first.gave second.gave
    (same_value {A = StmtForm × Scope} ((typed.range_loop f.keyword first.value.0.0.local f.name f.colon first.value.0.0.range f.closing second.value.0.0, forgotten (f.name.id ∷ []) second.value.0.1), second.value.1) x second.behind)
  where
    whole : (a : (RangeHead × Scope) × Types) (b : (StmtForm × Scope) × Types) → range_head f.ty f.name f.colon f.range.value scope types ≡ Ok a → f.body.value (in_loop around) a.0.1 a.1 ≡ Ok b
        → ◌≡◌ {A = (StmtForm × Scope) × Types} ((typed.range_loop f.keyword a.0.0.local f.name f.colon a.0.0.range f.closing b.0.0, forgotten (f.name.id ∷ []) b.0.1), b.1) x → IsPart [] around v scope types x
    whole a b a_gave b_gave same =
        subst (IsPart [] around v scope types) same (record {
          moves = left;
          sound = sound_behind v (after b.0.0 (with_next v)) scope (forgotten (f.name.id ∷ []) b.0.1) types b.1 sound left (ap length (forgotten_locals (f.name.id ∷ []) b.0.1) ∙ inner.sound.declared);
          is = λ p locals final.
              let last : IsFinal p locals b.0.1 b.1 = final_remembered p locals (f.name.id ∷ []) b.0.1 b.1 final in (
                head.is p locals around.result (final_before p locals [] a.0.1 b.0.1 a.1 b.1 inner.moves last),
                one (in_loop around) a.0.1 a.1 b b_gave,
                inner.is p locals last,
              );
        })
      where
        head : IsHead f.name v scope types a
        head = head_is f.name scope f.ty f.colon f.range.value v types a sound a_gave

        inner : IsPart [] (in_loop around) (with_next v) a.0.1 a.1 b
        inner = good (in_loop around) (with_next v) a.0.1 a.1 b b_gave head.sound (stays_there types a.1 around.result head.moves.grown.grows there)

        left : Moves [] scope (forgotten (f.name.id ∷ []) b.0.1) types b.1
        left = moves_behind (f.name.id ∷ []) scope b.0.1 types b.1 (moves_on (f.name.id ∷ []) [] scope a.0.1 b.0.1 types a.1 b.1 head.moves inner.moves)

-- ---- parts of a block

pub declare_good : (d : Box Declaration Global) (semicolon : Place) → GoodItem (item_step (open_stmt.Declare d semicolon))
declare_good d semicolon around v scope types x h sound there =
    let step = bound {B = StmtForm × Scope} (declaration d.value scope types) (λ y. Ok ((typed.declaration y.0.0 semicolon, y.0.1), y.1)) x h in
    let same = same_value {A = StmtForm × Scope} ((typed.declaration step.value.0.0 semicolon, step.value.0.1), step.value.1) x step.behind in
    let new : IsNew d.value.name v scope types step.value = declaration_new d.value v scope types step.value sound step.gave in
    subst (IsPart (d.value.name.id ∷ []) around v scope types) same (record { moves = new.moves; sound = new.sound; is = λ p locals final. new.is p locals around.result final })
