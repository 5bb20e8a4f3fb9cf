use Rattle.std.proofs.Common.{◌≡◌, Option, IsSome, None, Some, ap, subst, refl, sym, ◌∙◌, arith}
use Rattle.std.proofs.lemmas.List.{set-set}
use Rattle.std.specs.Prelude.{slice_set}
use Rattle.life_store.specs.Cells.{Cells}
use Rattle.life_store.specs.Content.{Object, Content, with_object, with_word}
use Rattle.life_store.specs.PlainRows.{Table, content_of, entry_at, entry_with, rows_of}
use Rattle.life_store.specs.declared.plain_rows.Entry.{Entry}
use Rattle.life_store.proofs.Past.{past_changed, past_entry}
use Rattle.life_store.proofs.StoreLemmas.{found, missing, changed_now, none_there, some_there, word_there}
use Rattle.life_store.proofs.plain.PlainStoreStore.put.Goals as goal

pub put_word-requires : goal.put_word-requires
put_word-requires c = word_there c.self.inside c.args.self.now c.args.object c.args.slot c.args.word c.self.invariant c.self.view_is c.requires

pub returns-then-not-put_word-clause-lives : goal.returns-then-not-put_word-clause-lives
returns-then-not-put_word-clause-lives c = missing c.self.inside c.args.self.now c.args.object c.self.invariant c.self.view_is (none_there (entry_at c.self.inside.rows.items c.args.object) (sym c.put_word.ensures.lives ∙ c.if-not-put_word.true))

pub invariant_of-self-2 : goal.invariant_of-self-2
invariant_of-self-2 c =
    let a = c.self.inside in
    let put = some_there (entry_at a.rows.items c.args.object) (λ (e : Entry). c.put_word.new.rows.items ≡ slice_set a.rows.items c.args.object.row (Some (entry_with c.args.slot c.args.word c.args.value e))) (sym c.put_word.ensures.lives ∙ c.if-not-put_word.false) c.put_word.ensures.put in
    let e = put.0 in
    let f = entry_with c.args.slot c.args.word c.args.value e in
    let second = put.2 ∙ sym (set-set a.rows.items c.args.object.row None (Some f)) in
    let ch = changed_now a c.args.object e f (slice_set a.rows.items c.args.object.row None) c.put_word.new.rows.items c.self.invariant put.1 refl refl second in
    record {
      numbered = ch.numbered;
      past = past_changed a.clock f (past_entry a.clock a.rows.items c.args.object e c.self.invariant.past put.1) a.rows.items (slice_set a.rows.items c.args.object.row None) c.put_word.new.rows.items c.args.object c.self.invariant.past refl second;
      live = omega (arith, ch.costs, c.self.invariant.live);
      within = c.self.invariant.within;
      small = c.self.invariant.small;
      taken = ch.taken;
    }

pub returns-clause-lives : goal.returns-clause-lives
returns-clause-lives c =
    let a = c.self.inside in
    let put = some_there (entry_at a.rows.items c.args.object) (λ (e : Entry). c.put_word.new.rows.items ≡ slice_set a.rows.items c.args.object.row (Some (entry_with c.args.slot c.args.word c.args.value e))) (sym c.put_word.ensures.lives ∙ c.if-not-put_word.false) c.put_word.ensures.put in
    subst (λ (o : Option Object). IsSome o) (sym (found a c.args.self.now c.args.object put.0 c.self.invariant c.self.view_is put.1)) refl

pub returns-clause-written : goal.returns-clause-written
returns-clause-written c =
    let a = c.self.inside in
    let put = some_there (entry_at a.rows.items c.args.object) (λ (e : Entry). c.put_word.new.rows.items ≡ slice_set a.rows.items c.args.object.row (Some (entry_with c.args.slot c.args.word c.args.value e))) (sym c.put_word.ensures.lives ∙ c.if-not-put_word.false) c.put_word.ensures.put in
    let e = put.0 in
    let f = entry_with c.args.slot c.args.word c.args.value e in
    let ch = changed_now a c.args.object e f (slice_set a.rows.items c.args.object.row None) c.put_word.new.rows.items c.self.invariant put.1 refl refl (put.2 ∙ sym (set-set a.rows.items c.args.object.row None (Some f))) in
    let holding : Cells Object → Content = λ m. record { objects = m; births = a.births; clock = a.clock } in
    rw (found a c.args.self.now c.args.object e c.self.invariant c.self.view_is put.1)
    (ap holding ch.objects
    ∙ ap (λ (t : Table). with_object c.args.object.birth (with_word c.args.slot c.args.word c.args.value e.object) (content_of t)) c.self.view_is)

pub returns-clause-rows_stay : goal.returns-clause-rows_stay
returns-clause-rows_stay c =
    let a = c.self.inside in
    let put = some_there (entry_at a.rows.items c.args.object) (λ (e : Entry). c.put_word.new.rows.items ≡ slice_set a.rows.items c.args.object.row (Some (entry_with c.args.slot c.args.word c.args.value e))) (sym c.put_word.ensures.lives ∙ c.if-not-put_word.false) c.put_word.ensures.put in
    let e = put.0 in
    let f = entry_with c.args.slot c.args.word c.args.value e in
    let ch = changed_now a c.args.object e f (slice_set a.rows.items c.args.object.row None) c.put_word.new.rows.items c.self.invariant put.1 refl refl (put.2 ∙ sym (set-set a.rows.items c.args.object.row None (Some f))) in
    ch.places ∙ ap (λ (t : Table). rows_of t) c.self.view_is
