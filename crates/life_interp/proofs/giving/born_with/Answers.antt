use Rattle.std.proofs.Common.{◌≡◌, ◌+◌, Option, IfSome, ap, rules, subst, sym, ◌∙◌, arith}
use Rattle.std.proofs.lemmas.Int.{to_z-of_z}
use mir.Val.{SFits}
use Rattle.std.specs.Int.{w64, cast_unsigned}
use Rattle.life_store.specs.Content.{Content, Object}
use Rattle.life_store.specs.Doing.{Next, put_cell}
use Rattle.life_store.specs.Cells.{at}
use Rattle.life_store.specs.Kinds.{kind_in}
use Rattle.life_store.specs.Parts.{Parts, parts_at}
use Rattle.life_store.specs.References.{Rows, HasWord}
use Rattle.life_store.specs.State as state
use Rattle.life_seen.specs.Kinds.{kinds_of}
use Rattle.life_seen.specs.Named.{names_of}
use Rattle.life_seen.proofs.LiveWords.{live_words_seen}
use Rattle.life_seen.proofs.References.{later_then}
use Rattle.life_seen.proofs.WholePointers.{whole_pointers}
use Rattle.life_cells.specs.Cells.{state_of}
use Rattle.life_cells.specs.Fits.{meant}
use Rattle.life_cells.specs.declared.cell.Cell.TheVariants as held
use Rattle.life_cells.proofs.FitLemmas.{cells_later, set_fits}
use Rattle.life_interp.proofs.FitLemmas.{later_rows}
use Rattle.life_interp.proofs.GiveLemmas.{born_with_is, given_gives, shows_given}
use Rattle.life_interp.proofs.LocalLemmas.{birth_fails, on_next_ends}
use Rattle.life_interp.proofs.RowsStaying.{given_stay}
use Rattle.life_interp.proofs.NumberLemmas.{new_has_word, new_value, ref_placed}
use Rattle.life_cells.proofs.LocationLemmas.{put_now}
use Rattle.life_interp.proofs.giving.born_with.Goals as goal

pub returns-in-Err-clause-step : goal.returns-in-Err-clause-step
returns-in-Err-clause-step g c = λ s e output input.
    on_next_ends _ c.in-Err.ending _
    (birth_fails s c.args.ty c.args.local (g.S.Store.content c.args.store.now) c.args.types.now (g.S.Store.rows c.args.store.now) c.args.cells.now.items (g.S.Store.limit c.args.store.now) c.in-Err.ending output input c.in-Err.ensures.full e)

pub put_number-requires : goal.put_number-requires
put_number-requires g c =
    let q = c.in-Ok.ensures in
    let kinds = kinds_of c.args.types.now in
    let m = meant c.args.types.now (g.S.Store.content c.args.store.now) (g.S.Store.rows c.args.store.now) in
    let d = g.S.Store.content c.new_object.new.store in
    let new = g.S.Store.rows c.new_object.new.store in
    let v = new_value kinds m d new c.in-Ok.object c.args.ty (q.shows kinds c.requires.fits.housed) q.number q.placed in
    subst (λ (o : Option Object). IfSome o (HasWord 0 0)) (sym v.there) (new_has_word kinds d new c.in-Ok.object c.args.ty m.clock v)

pub returns-in-Ok : goal.returns-in-Ok
returns-in-Ok g c =
    let q = c.in-Ok.ensures in
    let types = c.args.types.now in
    let kinds = kinds_of types in
    let content = g.S.Store.content c.args.store.now in
    let rows = g.S.Store.rows c.args.store.now in
    let m = meant types content rows in
    let d = g.S.Store.content c.new_object.new.store in
    let new = g.S.Store.rows c.new_object.new.store in
    let e = g.S.Store.content c.put_number.new.store in
    let after = g.S.Store.rows c.put_number.new.store in
    let r = c.in-Ok.object in
    let housed = c.requires.fits.housed in
    let born = q.shows kinds housed in
    let v = new_value kinds m d new r c.args.ty born q.number q.placed in
    let plain = ap (λ (o : Object). kinds o.ty 0) v.is ∙ ap (λ (q : Parts). kind_in q 0) c.requires.value in
    let fits : SFits w64 c.args.number = search rules in
    let word : c.cast_unsigned.result ≡ cast_unsigned w64 c.args.number = c.cast_unsigned.ensures ∙ ap (cast_unsigned w64) (to_z-of_z w64 c.args.number fits) in
    let shows = shows_given kinds m d e new after r c.args.ty c.args.number c.cast_unsigned.result q.number born.is word v (c.put_number.ensures.shows kinds v.object (record { housed = born.housed; there = v.there; plain = plain })) in
    let births : e.births ≡ content.births + 1 = ap (λ (x : Content). x.births) shows.is in
    let clock : e.clock ≡ content.clock + 1 = ap (λ (x : Content). x.clock) shows.is in
    let were : d.births ≡ content.births + 1 = ap (λ (x : Content). x.births) born.is in
    let later = later_then content d e rows new after q.later (later_rows d e new after (omega (arith, births, were)) c.put_number.ensures.rows) in
    record {
      step = λ s is output input.
          let live = live_words_seen kinds (names_of content rows) content in
          born_with_is s c.args.ty c.args.number c.args.local m c.args.cells.now.items output input (λ lt. omega (arith, lt, is, q.room, live))
          ∙ ap (λ (x : Content). Next (put_cell c.args.local (state.Named m.births) (state_of x c.args.cells.now.items output input))) (sym shows.is)
          ∙ ap (λ n. Next (put_cell c.args.local (state.Named n) (state_of (meant types e after) c.args.cells.now.items output input))) (sym q.number)
          ∙ ap Next (put_now (meant types e after) c.args.cells.now.items c.put_at.new.cells.items c.args.local (held.Object r) output input c.put_at.ensures);
      fits =
          rw c.put_at.ensures
          (record {
            housed = shows.housed;
            rowed = c.put_number.ensures.rowed kinds v.object (record { housed = born.housed; there = v.there; plain = plain }) (whole_pointers (parts_at types v.object.ty)) (q.rowed kinds c.requires.fits.rowed);
            countable = record { births = omega (arith, births, c.requires.countable.births); clock = omega (arith, clock, c.requires.countable.clock) };
            held = set_fits e after c.args.cells.now.items c.args.local (held.Object r) (cells_later content e rows after later c.args.cells.now.items c.requires.fits.held)
                (ref_placed e after r (omega (arith, births, q.number)) (ap (λ (x : Rows). at x r.birth) c.put_number.ensures.rows ∙ q.placed));
          });
      later = later;
      gives = given_gives kinds content e rows after c.args.number c.args.ty (g.S.Store.limit c.args.store.now) housed q.room shows.is;
      stay = given_stay kinds content e rows after c.args.number c.args.ty housed shows later;
      limit = c.put_number.ensures.limit ∙ c.new_object.ensures.limit;
    }
