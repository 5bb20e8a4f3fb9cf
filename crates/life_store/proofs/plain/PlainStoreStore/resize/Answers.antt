use Rattle.std.proofs.Common.{◌≡◌, ◌+◌, Option, IsSome, None, Some, ap, subst, refl, sym, ◌∙◌, arith}
use Rattle.std.proofs.lemmas.List.{set-set}
use Rattle.std.specs.Prelude.{slice_set}
use Rattle.life_store.specs.Cells.{Cells}
use Rattle.life_store.specs.Content.{Object, Content, with_resize}
use Rattle.life_store.specs.PlainRows.{Table, content_of, entry_at, entry_resized, rows_of}
use Rattle.life_store.specs.References.{CanResize}
use Rattle.life_store.specs.declared.plain_rows.Entry.{Entry}
use Rattle.life_store.proofs.Past.{past_changed, past_later, past_there}
use Rattle.life_store.proofs.StoreLemmas.{found, missing, changed_now, none_there, object_there, some_there}
use Rattle.life_store.proofs.plain.PlainStoreStore.resize.Goals as goal

pub resize_at-requires : goal.resize_at-requires
resize_at-requires c = record {
  fits = object_there c.self.inside c.args.self.now c.args.object (CanResize c.args.length c.args.since) c.self.invariant c.self.view_is c.requires.fits;
  later = past_there c.self.inside.clock c.self.inside.rows.items c.args.object c.self.invariant.past;
}

pub returns-then-not-resize_at-clause-lives : goal.returns-then-not-resize_at-clause-lives
returns-then-not-resize_at-clause-lives c = missing c.self.inside c.args.self.now c.args.object c.self.invariant c.self.view_is (none_there (entry_at c.self.inside.rows.items c.args.object) (sym c.resize_at.ensures.lives ∙ c.if-not-resize_at.true))

pub invariant_of-self-2 : goal.invariant_of-self-2
invariant_of-self-2 c =
    let a = c.self.inside in
    let moment = a.clock + 1 in
    let went = some_there (entry_at a.rows.items c.args.object) (λ (e : Entry). c.resize_at.new.rows.items ≡ slice_set a.rows.items c.args.object.row (Some (entry_resized moment c.args.length c.args.since e))) (sym c.resize_at.ensures.lives ∙ c.if-not-resize_at.false) c.resize_at.ensures.resized in
    let e = went.0 in
    let f = entry_resized moment c.args.length c.args.since e in
    let second = went.2 ∙ sym (set-set a.rows.items c.args.object.row None (Some f)) in
    let ch = changed_now a c.args.object e f (slice_set a.rows.items c.args.object.row None) c.resize_at.new.rows.items c.self.invariant went.1 refl refl second in
    record {
      numbered = ch.numbered;
      past = past_changed moment f (omega arith) a.rows.items (slice_set a.rows.items c.args.object.row None) c.resize_at.new.rows.items c.args.object (past_later a.clock moment a.rows.items (omega arith) c.self.invariant.past) refl second;
      live = omega (arith, ch.costs, c.self.invariant.live);
      within = c.self.invariant.within;
      small = c.self.invariant.small;
      taken = ch.taken;
    }

pub returns-clause-lives : goal.returns-clause-lives
returns-clause-lives c =
    let a = c.self.inside in
    let went = some_there (entry_at a.rows.items c.args.object) (λ (e : Entry). c.resize_at.new.rows.items ≡ slice_set a.rows.items c.args.object.row (Some (entry_resized (a.clock + 1) c.args.length c.args.since e))) (sym c.resize_at.ensures.lives ∙ c.if-not-resize_at.false) c.resize_at.ensures.resized in
    subst (λ (o : Option Object). IsSome o) (sym (found a c.args.self.now c.args.object went.0 c.self.invariant c.self.view_is went.1)) refl

pub returns-clause-resized : goal.returns-clause-resized
returns-clause-resized c =
    let a = c.self.inside in
    let moment = a.clock + 1 in
    let went = some_there (entry_at a.rows.items c.args.object) (λ (e : Entry). c.resize_at.new.rows.items ≡ slice_set a.rows.items c.args.object.row (Some (entry_resized moment c.args.length c.args.since e))) (sym c.resize_at.ensures.lives ∙ c.if-not-resize_at.false) c.resize_at.ensures.resized in
    let e = went.0 in
    let f = entry_resized moment c.args.length c.args.since e in
    let ch = changed_now a c.args.object e f (slice_set a.rows.items c.args.object.row None) c.resize_at.new.rows.items c.self.invariant went.1 refl refl (went.2 ∙ sym (set-set a.rows.items c.args.object.row None (Some f))) in
    let holding : Cells Object → Content = λ m. record { objects = m; births = a.births; clock = moment } in
    rw (found a c.args.self.now c.args.object e c.self.invariant c.self.view_is went.1)
    (ap holding ch.objects
    ∙ ap (λ (t : Table). with_resize c.args.object.birth c.args.length c.args.since e.object (content_of t)) c.self.view_is)

pub returns-clause-rows_stay : goal.returns-clause-rows_stay
returns-clause-rows_stay c =
    let a = c.self.inside in
    let moment = a.clock + 1 in
    let went = some_there (entry_at a.rows.items c.args.object) (λ (e : Entry). c.resize_at.new.rows.items ≡ slice_set a.rows.items c.args.object.row (Some (entry_resized moment c.args.length c.args.since e))) (sym c.resize_at.ensures.lives ∙ c.if-not-resize_at.false) c.resize_at.ensures.resized in
    let e = went.0 in
    let f = entry_resized moment c.args.length c.args.since e in
    let ch = changed_now a c.args.object e f (slice_set a.rows.items c.args.object.row None) c.resize_at.new.rows.items c.self.invariant went.1 refl refl (went.2 ∙ sym (set-set a.rows.items c.args.object.row None (Some f))) in
    ch.places ∙ ap (λ (t : Table). rows_of t) c.self.view_is
