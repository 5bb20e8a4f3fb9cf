use Rattle.std.proofs.Common.{◌+◌, Option, IsSome, ap, subst, refl, sym, ◌∙◌, arith}
use Rattle.life_store.specs.Cells.{Cells, set, unset}
use Rattle.life_store.specs.Content.{Object, Content, with_rename}
use Rattle.life_store.specs.PlainRows.{Table, content_of, rows_of}
use Rattle.life_store.specs.References.{IsFreeRow}
use Rattle.life_store.proofs.Past.{past_changed, past_entry}
use Rattle.life_store.proofs.StoreLemmas.{found, missing, row_stays, emptied_free, renamed_now}
use Rattle.life_store.proofs.plain.PlainStoreStore.rename.Goals as goal

pub returns-in_default-clause-lives : goal.returns-in_default-clause-lives
returns-in_default-clause-lives c = missing c.self.inside c.args.self.now c.args.object c.self.invariant c.self.view_is c.in_default.ensures.0

pub put_entry-requires : goal.put_entry-requires
put_entry-requires c = row_stays c.self.inside.rows.items c.take_entry.new.rows.items c.args.object c.in-Some.entry c.in-Some.ensures.0 c.in-Some.ensures.1

pub invariant_of-self-2 : goal.invariant_of-self-2
invariant_of-self-2 c =
    let ex = renamed_now c.self.inside c.args.object c.in-Some.entry c.in-Some.entry.object c.take_entry.new.rows.items c.put_entry.new.rows.items c.self.invariant c.in-Some.ensures.0 c.in-Some.ensures.1 c.put_entry.ensures in
    record {
      numbered = ex.numbered;
      past = past_changed c.self.inside.clock (record { birth = c.self.inside.births; object = c.in-Some.entry.object }) (past_entry c.self.inside.clock c.self.inside.rows.items c.args.object c.in-Some.entry c.self.invariant.past c.in-Some.ensures.0) c.self.inside.rows.items c.take_entry.new.rows.items c.put_entry.new.rows.items c.args.object c.self.invariant.past c.in-Some.ensures.1 c.put_entry.ensures;
      live = omega (arith, ex.costs, c.self.invariant.live);
      within = c.self.invariant.within;
      small = c.self.invariant.small;
      taken = ex.taken;
    }

pub returns-clause-lives : goal.returns-clause-lives
returns-clause-lives c = subst (λ (o : Option Object). IsSome o) (sym (found c.self.inside c.args.self.now c.args.object c.in-Some.entry c.self.invariant c.self.view_is c.in-Some.ensures.0)) refl

pub returns-clause-renamed : goal.returns-clause-renamed
returns-clause-renamed c =
    let ex = renamed_now c.self.inside c.args.object c.in-Some.entry c.in-Some.entry.object c.take_entry.new.rows.items c.put_entry.new.rows.items c.self.invariant c.in-Some.ensures.0 c.in-Some.ensures.1 c.put_entry.ensures in
    let holding : Cells Object → Content = λ m. record { objects = m; births = c.self.inside.births + 1; clock = c.self.inside.clock } in
    rw (found c.self.inside c.args.self.now c.args.object c.in-Some.entry c.self.invariant c.self.view_is c.in-Some.ensures.0)
    (ap holding ex.objects ∙ ap (λ (t : Table). with_rename c.args.object.birth c.in-Some.entry.object (content_of t)) c.self.view_is)

pub returns-clause-free : goal.returns-clause-free
returns-clause-free c =
    subst (λ (t : Table). IsFreeRow (unset (rows_of t) c.args.object.birth) c.args.object.row) c.self.view_is (emptied_free c.self.inside c.args.object c.in-Some.entry c.self.invariant c.in-Some.ensures.0)

pub returns-clause-row : goal.returns-clause-row
returns-clause-row c =
    let ex = renamed_now c.self.inside c.args.object c.in-Some.entry c.in-Some.entry.object c.take_entry.new.rows.items c.put_entry.new.rows.items c.self.invariant c.in-Some.ensures.0 c.in-Some.ensures.1 c.put_entry.ensures in
    ex.places ∙ ap (λ (t : Table). set (unset (rows_of t) c.args.object.birth) c.self.inside.births c.args.object.row) c.self.view_is
