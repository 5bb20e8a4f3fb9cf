use Rattle.std.proofs.Common.{◌≡◌, List, [], length, ap, subst, sym, ◌∙◌, arith}
use Rattle.std.proofs.lemmas.Option.{slice_get_read}
use Rattle.life_store.specs.Content.{Content}
use Rattle.life_store.specs.Effects.{Got, Setting}
use Rattle.life_store.specs.Owners.{fresh, object_with}
use Rattle.life_store.specs.Parts.{parts_at}
use Rattle.life_store.specs.declared.run.Growth.TheVariants.{Always}
use Rattle.life_seen.specs.Housed.{Shows}
use Rattle.life_seen.specs.Kinds.{kinds_of}
use Rattle.life_seen.specs.Seen.{seen}
use Rattle.life_seen.proofs.References.{later_then}
use Rattle.life_values.specs.Fresh.{leaves_wrote, AreBlank, CanFill, Comes}
use Rattle.life_values.specs.Layouts.{AreLaid}
use Rattle.life_values.specs.declared.layout.Leaf.{Leaf}
use Rattle.life_cells.specs.Fits.{meant}
use Rattle.life_interp.specs.Births.{BearsNothing}
use Rattle.life_interp.proofs.BirthLemmas.{none_came, unborn_so}
use Rattle.life_interp.proofs.FreshObjects.{blank, born_ref, can_fill, counted, few_leaves, is_blank, laid_here, no_room, no_room_behind, object_came, object_counts, there}
use Rattle.life_interp.proofs.births.fresh_object.Goals as goal

pub index-layout-requires : goal.index-layout-requires
index-layout-requires g c = let all = c.args.layouts.now.all in omega (arith, c.requires.known, c.requires.layouts.laid.0, all.ok.0)

pub born_sized-requires-clause-wide : goal.born_sized-requires-clause-wide
born_sized-requires-clause-wide g c =
    let types = c.args.types.now in
    let kinds = kinds_of types in
    let content = g.S.Store.content c.args.store.now in
    let rows = g.S.Store.rows c.args.store.now in
    let all = c.args.layouts.now.all in
    let laid = c.requires.layouts.laid in
    let layout = c.index-layout.result.now in
    let here = slice_get_read all.items all.len c.args.ty.0 layout all.ok.0 (omega (arith, c.requires.known, laid.0, all.ok.0)) c.index-layout.ensures in
    let width = (laid_here types c.requires.ordered all.items laid c.args.ty layout here c.args.form content rows c.requires.housed).width in
    let wide = c.requires.wide c.args.ty in
    omega (arith, width, wide)

pub returns-in-Err-clause-bears : goal.returns-in-Err-clause-bears
returns-in-Err-clause-bears g c = λ s e.
    let types = c.args.types.now in
    let kinds = kinds_of types in
    let content = g.S.Store.content c.args.store.now in
    let rows = g.S.Store.rows c.args.store.now in
    let all = c.args.layouts.now.all in
    let laid = c.requires.layouts.laid in
    let layout = c.index-layout.result.now in
    let here = slice_get_read all.items all.len c.args.ty.0 layout all.ok.0 (omega (arith, c.requires.known, laid.0, all.ok.0)) c.index-layout.ensures in
    let made = object_with s c.args.ty (parts_at types c.args.ty) (fresh s c.args.form (parts_at types c.args.ty)) (meant types content rows) in
    subst (BearsNothing made) (sym c.unborn.ensures)
    (unborn_so made c.in-Err.fault (λ h. no_room types c.requires.ordered all.items laid c.args.ty layout here c.args.form content rows c.requires.housed s (let full = c.in-Err.ensures.cells h in omega (arith, full, e))))

pub fresh-requires : goal.fresh-requires
fresh-requires g c =
    let types = c.args.types.now in
    let kinds = kinds_of types in
    let content = g.S.Store.content c.args.store.now in
    let rows = g.S.Store.rows c.args.store.now in
    let all = c.args.layouts.now.all in
    let laid = c.requires.layouts.laid in
    let layout = c.index-layout.result.now in
    let here = slice_get_read all.items all.len c.args.ty.0 layout all.ok.0 (omega (arith, c.requires.known, laid.0, all.ok.0)) c.index-layout.ensures in
    let d = g.S.Store.content c.born_sized.new.store in
    let new = g.S.Store.rows c.born_sized.new.store in
    let r = c.in-Ok.object in
    let q = c.in-Ok.ensures in
    let shows = q.shows kinds c.requires.housed in
    let width = (laid_here types c.requires.ordered all.items laid c.args.ty layout here c.args.form content rows c.requires.housed).width in
    let narrow = c.requires.layouts.narrow c.args.ty in
    let few = few_leaves types c.requires.ordered all.items laid c.args.ty layout here c.args.form content rows c.requires.housed r q.number d new shows q.placed in
    let births = (counted types c.requires.ordered all.items laid c.args.ty layout here c.args.form content rows c.requires.housed r q.number d new shows q.placed).0 in
    let clock = (counted types c.requires.ordered all.items laid c.args.ty layout here c.args.form content rows c.requires.housed r q.number d new shows q.placed).1 in
    let leaves = ap (λ (ls : List Leaf). length ls) c.deref-in-Ok.ensures.value in
    record {
      layouts = subst (AreLaid types) (sym c.deref.ensures.value) laid;
      wide = c.requires.wide;
      can = subst (λ (ls : List Leaf). CanFill kinds (record { object = r; slot = 0; word = 0 }) ls d new) (sym c.deref-in-Ok.ensures.value) (can_fill types c.requires.ordered all.items laid c.args.ty layout here c.args.form content rows c.requires.housed r q.number d new shows q.placed (omega (arith, width, narrow)));
      births = omega (arith, births, few, leaves, width, narrow, c.requires.countable.births);
      clock = omega (arith, clock, c.requires.countable.clock);
    }

pub returns-in-Err-fresh-clause-bears : goal.returns-in-Err-fresh-clause-bears
returns-in-Err-fresh-clause-bears g c = λ s e.
    let types = c.args.types.now in
    let kinds = kinds_of types in
    let content = g.S.Store.content c.args.store.now in
    let rows = g.S.Store.rows c.args.store.now in
    let all = c.args.layouts.now.all in
    let laid = c.requires.layouts.laid in
    let layout = c.index-layout.result.now in
    let here = slice_get_read all.items all.len c.args.ty.0 layout all.ok.0 (omega (arith, c.requires.known, laid.0, all.ok.0)) c.index-layout.ensures in
    let d = g.S.Store.content c.born_sized.new.store in
    let new = g.S.Store.rows c.born_sized.new.store in
    let r = c.in-Ok.object in
    let q = c.in-Ok.ensures in
    let shows = q.shows kinds c.requires.housed in
    let made = object_with s c.args.ty (parts_at types c.args.ty) (fresh s c.args.form (parts_at types c.args.ty)) (meant types content rows) in
    let room = q.room in
    let now = g.S.Store.content c.fresh.new.store in
    let after = g.S.Store.rows c.fresh.new.store in
    let wrote = leaves_wrote s types c.args.form r.birth 0 0 layout.leaves.items (seen kinds d new) in
    let came = subst (λ (ls : List Leaf). Comes kinds (leaves_wrote s types c.args.form r.birth 0 0 ls (seen kinds d new)) c.fresh.result now after) c.deref-in-Ok.ensures.value (c.fresh.ensures.comes s (e ∙ sym c.born_sized.ensures.limit)) in
    subst (BearsNothing made) (sym c.unborn-in-Err-fresh.ensures)
    (unborn_so made c.in-Err-fresh.fault (λ h. no_room_behind types c.requires.ordered all.items laid c.args.ty layout here c.args.form content rows c.requires.housed r q.number d new shows q.placed s (omega (arith, room, e))
    (none_came kinds wrote c.fresh.result c.in-Err-fresh.fault now after came c.in-Err-fresh.is h)))

pub returns-in-Ok-fresh : goal.returns-in-Ok-fresh
returns-in-Ok-fresh g c =
    let types = c.args.types.now in
    let kinds = kinds_of types in
    let content = g.S.Store.content c.args.store.now in
    let rows = g.S.Store.rows c.args.store.now in
    let all = c.args.layouts.now.all in
    let laid = c.requires.layouts.laid in
    let layout = c.index-layout.result.now in
    let here = slice_get_read all.items all.len c.args.ty.0 layout all.ok.0 (omega (arith, c.requires.known, laid.0, all.ok.0)) c.index-layout.ensures in
    let d = g.S.Store.content c.born_sized.new.store in
    let new = g.S.Store.rows c.born_sized.new.store in
    let r = c.in-Ok.object in
    let q = c.in-Ok.ensures in
    let shows = q.shows kinds c.requires.housed in
    let now = g.S.Store.content c.fresh.new.store in
    let after = g.S.Store.rows c.fresh.new.store in
    let room = q.room in
    let births = (counted types c.requires.ordered all.items laid c.args.ty layout here c.args.form content rows c.requires.housed r q.number d new shows q.placed).0 in
    let later = c.in-Ok-fresh.ensures.later in
    record {
      bears = λ s e.
          let came : (x : Content) × (leaves_wrote s types c.args.form r.birth 0 0 layout.leaves.items (seen kinds d new) ≡ Got x) × Shows kinds now after x =
          subst (λ (ls : List Leaf). (x : Content) × (leaves_wrote s types c.args.form r.birth 0 0 ls (seen kinds d new) ≡ Got x) × Shows kinds now after x) c.deref-in-Ok.ensures.value (c.in-Ok-fresh.ensures.comes s (e ∙ sym c.born_sized.ensures.limit)) in
          (came.0, object_came types c.requires.ordered all.items laid c.args.ty layout here c.args.form content rows c.requires.housed r q.number d new shows q.placed s (omega (arith, room, e)) came.0 came.1, came.2, born_ref d now new after r later (omega (arith, births, q.number)) q.placed);
      rowed = λ rowed. c.in-Ok-fresh.ensures.rowed (blank types c.requires.ordered all.items laid c.args.ty layout here c.args.form content rows c.requires.housed r q.number d new shows q.placed) (there types c.requires.ordered all.items laid c.args.ty layout here c.args.form content rows c.requires.housed r q.number d new shows q.placed)
          (subst (λ (ls : List Leaf). AreBlank ls 0 0 (blank types c.requires.ordered all.items laid c.args.ty layout here c.args.form content rows c.requires.housed r q.number d new shows q.placed)) (sym c.deref-in-Ok.ensures.value) (is_blank types c.requires.ordered all.items laid c.args.ty layout here c.args.form content rows c.requires.housed r q.number d new shows q.placed (blank types c.requires.ordered all.items laid c.args.ty layout here c.args.form content rows c.requires.housed r q.number d new shows q.placed) (there types c.requires.ordered all.items laid c.args.ty layout here c.args.form content rows c.requires.housed r q.number d new shows q.placed))) (q.rowed kinds rowed);
      later = later_then content d now rows new after q.later later;
      grows =
          let s : Setting = record { given = record { growth = Always; cells = g.S.Store.limit c.args.store.now; depth = 0 }; texts = [] } in
          let came : (x : Content) × (leaves_wrote s types c.args.form r.birth 0 0 layout.leaves.items (seen kinds d new) ≡ Got x) × Shows kinds now after x =
          subst (λ (ls : List Leaf). (x : Content) × (leaves_wrote s types c.args.form r.birth 0 0 ls (seen kinds d new) ≡ Got x) × Shows kinds now after x) c.deref-in-Ok.ensures.value (c.in-Ok-fresh.ensures.comes s (sym c.born_sized.ensures.limit)) in
          let counts = object_counts types c.requires.ordered all.items laid c.args.ty layout here c.args.form content rows c.requires.housed r q.number d new shows q.placed s room came.0 came.1 in
          let some : now.births ≡ came.0.births = ap (λ (x : Content). x.births) came.2.is in
          let time : now.clock ≡ came.0.clock = ap (λ (x : Content). x.clock) came.2.is in
          let few = counts.0 in
          let ticks = counts.1 in
          record { births = omega (arith, some, few, room, c.requires.room); clock = omega (arith, time, ticks) };
      limit = c.fresh.ensures.limit ∙ c.born_sized.ensures.limit;
    }
