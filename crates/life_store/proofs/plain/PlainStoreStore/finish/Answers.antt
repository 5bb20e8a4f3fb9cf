use Rattle.std.proofs.Common.{Option, IsSome, ap, subst, refl, sym, ◌∙◌, arith}
use Rattle.life_store.specs.Cells.{Cells, unset}
use Rattle.life_store.specs.Content.{Object, Content, without}
use Rattle.life_store.specs.PlainRows.{Table, ArePast, content_of, rows_of}
use Rattle.life_store.proofs.Past.{past_emptied}
use Rattle.life_store.proofs.StoreLemmas.{found, missing, emptied_now}
use Rattle.life_store.proofs.plain.PlainStoreStore.finish.Goals as goal

pub returns-in_default-clause-lives : goal.returns-in_default-clause-lives
returns-in_default-clause-lives c = missing c.self.inside c.args.self.now c.args.object c.self.invariant c.self.view_is c.in_default.ensures.0

pub overflow_sub-self : goal.overflow_sub-self
overflow_sub-self c =
    let gone = emptied_now c.self.inside c.args.object c.in-Some.entry c.take_entry.new.rows.items c.self.invariant c.in-Some.ensures.0 c.in-Some.ensures.1 in
    omega (arith, gone.costs, c.cost.ensures.cost, c.self.invariant.live)

pub invariant_of-self-2 : goal.invariant_of-self-2
invariant_of-self-2 c =
    let gone = emptied_now c.self.inside c.args.object c.in-Some.entry c.take_entry.new.rows.items c.self.invariant c.in-Some.ensures.0 c.in-Some.ensures.1 in
    record {
      numbered = gone.numbered;
      past = subst (ArePast c.self.inside.clock) (sym c.in-Some.ensures.1) (past_emptied c.self.inside.clock c.self.inside.rows.items c.args.object.row c.self.invariant.past);
      live = omega (arith, gone.costs, c.cost.ensures.cost, c.self.invariant.live);
      within = omega (arith, c.self.invariant.within);
      small = c.self.invariant.small;
      taken = rw c.min-self-inside.ensures gone.taken;
    }

pub returns-clause-lives : goal.returns-clause-lives
returns-clause-lives c = subst (λ (o : Option Object). IsSome o) (sym (found c.self.inside c.args.self.now c.args.object c.in-Some.entry c.self.invariant c.self.view_is c.in-Some.ensures.0)) refl

pub returns-clause-ended : goal.returns-clause-ended
returns-clause-ended c =
    let gone = emptied_now c.self.inside c.args.object c.in-Some.entry c.take_entry.new.rows.items c.self.invariant c.in-Some.ensures.0 c.in-Some.ensures.1 in
    let holding : Cells Object → Content = λ m. record { objects = m; births = c.self.inside.births; clock = c.self.inside.clock } in
    ap holding gone.objects ∙ ap (λ (t : Table). without c.args.object.birth (content_of t)) c.self.view_is

pub returns-clause-row : goal.returns-clause-row
returns-clause-row c =
    let gone = emptied_now c.self.inside c.args.object c.in-Some.entry c.take_entry.new.rows.items c.self.invariant c.in-Some.ensures.0 c.in-Some.ensures.1 in
    gone.places ∙ ap (λ (t : Table). unset (rows_of t) c.args.object.birth) c.self.view_is
