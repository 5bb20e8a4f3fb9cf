-- What is near by the machine's pointer is near by the meaning's.
use Rattle.std.proofs.Common.{◌≡◌, ◌+◌, ◌≤◌, ◌^◌, Option, Some, None, subst, ◌∙◌}
use Rattle.std.proofs.lemmas.Option.{none-some, same_Some}
use Rattle.std.specs.Prelude.{option_map}
use Rattle.life_types.specs.Types.{Types}
use Rattle.life_core.specs.Function.{Function}
use Rattle.life_core.specs.Operands.{Location}
use Rattle.life_store.specs.Places.{location_cell}
use Rattle.life_store.specs.State as state
use Rattle.life_store.specs.State.{State}
use Rattle.life_pointers.specs.Pointers.{characters_seen, pointer_seen}
use Rattle.life_pointers.specs.declared.pointer.Pointer.{Pointer}
use Rattle.life_pointers.specs.declared.pointer.Pointer.TheVariants as leads
use Rattle.life_cells.specs.Cells.{pointer_in}
use Rattle.life_cells.specs.Typed.{CanEnd}
use Rattle.life_interp.specs.Near.{IsNear, IsNearIf}

seen_near : (p : Pointer) (s : state.Characters) → pointer_seen p ≡ state.Static s → IsNear p → s.index + s.count + 1 ≤ 2 ^ 63
seen_near leads.Null s e near = absurd (unlike e)
  where
    unlike : state.Null ≡ state.Static s → ⊥
    unlike h = cc
seen_near leads.Wild s e near = absurd (unlike e)
  where
    unlike : state.Wild ≡ state.Static s → ⊥
    unlike h = cc
seen_near (leads.To index count word object moment) s e near = absurd (unlike e)
  where
    unlike : pointer_seen (leads.To index count word object moment) ≡ state.Static s → ⊥
    unlike h = cc
seen_near (leads.Static c) s e near = subst (λ (x : state.Characters). x.index + x.count + 1 ≤ 2 ^ 63) (same e) near
  where
    same : state.Static (characters_seen c) ≡ state.Static s → characters_seen c ≡ s
    same h = cc

pub near_end : (types : Types) (f : Function) (l : Location) (st : State) (p : Option Pointer) → option_map pointer_seen p ≡ pointer_in (location_cell types f l st) → IsNearIf p → CanEnd types f l st
near_end types f l st p is near = λ s holds. go p (is ∙ held (location_cell types f l st) s holds) near
  where
    held : (o : Option state.Cell) (s : state.Characters) → o ≡ Some (state.Points (state.Static s)) → pointer_in o ≡ Some (state.Static s)
    held o s h = λ i. pointer_in (h i)

    go : {s : state.Characters} (q : Option Pointer) → option_map pointer_seen q ≡ Some (state.Static s) → IsNearIf q → s.index + s.count + 1 ≤ 2 ^ 63
    go {s} None e n = absurd (none-some (state.Static s) e)
    go {s} (Some q) e n = seen_near q s (same_Some (pointer_seen q) (state.Static s) e) n
