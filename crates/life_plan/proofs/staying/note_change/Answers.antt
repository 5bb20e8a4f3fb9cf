use Rattle.std.proofs.Common.{◌∙◌, ◌≡◌, ◌<◌, List, Some, ap, length, refl, subst, sym}
use Rattle.std.proofs.lemmas.Option.{slice_get-get_or}
use Rattle.std.specs.Prelude.{slice_get}
use Rattle.life_plan.specs.declared.staying.Becoming.{Becoming}
use Rattle.life_plan.proofs.Changing.{becomes_in, becomes_new, sized_in, sized_new}
use Rattle.life_plan.proofs.staying.note_change.Goals as goal

-- the change that stands there
at : (c : goal.After-becoming-1) → slice_get c.args.becoming.now.items c.in-Some.k ≡ Some c.index_mut.result.now
at c =
    let within : c.in-Some.k < length c.args.becoming.now.items = subst (λ (xs : List Becoming). c.in-Some.k < length xs) c.deref.ensures.value c.in-Some.ensures.0 in
    slice_get-get_or c.args.becoming.now.items c.in-Some.k c.index_mut.result.now within ∙ ap Some (sym c.index_mut.ensures.value)

is : (c : goal.After-becoming-1) → c.index_mut.result.now.element ≡ c.args.m
is c = c.in-Some.ensures.1 c.index_mut.result.now (subst (λ (xs : List Becoming). slice_get xs c.in-Some.k ≡ Some c.index_mut.result.now) (sym c.deref.ensures.value) (at c))

pub returns-in-Some-clause-noted : goal.returns-in-Some-clause-noted
returns-in-Some-clause-noted c =
    let changes = c.args.becoming.now.items in
    let k = c.in-Some.k in
    let b = c.index_mut.result.now in
    becomes_in changes k c.args.e c.args.m b (record { element = b.element; from = c.insert.new.self }) (at c) (is c) refl c.insert.ensures.added

pub returns-in-Some-clause-sized : goal.returns-in-Some-clause-sized
returns-in-Some-clause-sized c =
    let b = c.index_mut.result.now in
    sized_in c.args.count c.args.becoming.now.items c.in-Some.k b (record { element = b.element; from = c.insert.new.self }) (at c) refl c.insert.ensures.limit c.requires.sized

pub returns-in_ok-push-in-None-clause-noted : goal.returns-in_ok-push-in-None-clause-noted
returns-in_ok-push-in-None-clause-noted c =
    rw c.in_ok-push-in-None.ensures.items
    (becomes_new c.args.becoming.now.items c.args.count c.args.e c.args.m c.in_ok-change-in-None.change c.in_ok-change-in-None.ensures)

pub returns-in_ok-push-in-None-clause-sized : goal.returns-in_ok-push-in-None-clause-sized
returns-in_ok-push-in-None-clause-sized c =
    rw c.in_ok-push-in-None.ensures.items
    (sized_new c.args.count c.args.becoming.now.items c.args.e c.args.m c.in_ok-change-in-None.change c.requires.second c.in_ok-change-in-None.ensures c.requires.sized)
