use Rattle.std.proofs.Common.{arith, ℕ, IfSome, IsSome, Option, ap, refl, subst, sym, ◌∙◌}
use Rattle.life_core.specs.Operands.{location_of}
use Rattle.life_store.specs.Cells.{at}
use Rattle.life_store.specs.Content.{Content, Object}
use Rattle.life_store.specs.Held as words
use Rattle.life_store.specs.Kinds.{Pointing}
use Rattle.life_seen.specs.Kinds.{kinds_of}
use Rattle.life_words.specs.Numbers.{HasWords}
use Rattle.life_pointers.specs.Pointers.{pointer_seen}
use Rattle.life_pointers.specs.Words.{HasWholeWords, IsPointer}
use Rattle.life_pointers.proofs.Later.{can_store}
use Rattle.life_cells.specs.Fits.{meant, Keeps}
use Rattle.life_cells.specs.Scopes.{function_in, types_in}
use Rattle.life_cells.specs.Typed.{member_of}
use Rattle.life_cells.proofs.FitLemmas.{count_kept}
use Rattle.life_cells.proofs.LocationLemmas.{wrote_births, wrote_clock}
use Rattle.life_cells.proofs.Stored.{has_words, is_pointer, small_word, stored}
use Rattle.life_cells.proofs.locations.write_member.Goals as goal

pub member_word-word-requires : goal.member_word-word-requires
member_word-word-requires g c =
    let types = types_in c.args.scope.now in
    let f = function_in c.args.scope.now in
    let l = location_of c.args.location.now in
    let content = g.S.Store.content c.args.store.now in
    let rows = g.S.Store.rows c.args.store.now in
    let word = member_of types f l in
    let s = stored types (Pointing 0) 5 content rows c.args.object word c.requires.fits.housed c.requires.object c.requires.holds in
    small_word word 5 s.object s.lies (omega arith)

pub write_pointer-requires-clause-lives : goal.write_pointer-requires-clause-lives
write_pointer-requires-clause-lives g c =
    let types = types_in c.args.scope.now in
    let f = function_in c.args.scope.now in
    let l = location_of c.args.location.now in
    let content = g.S.Store.content c.args.store.now in
    let rows = g.S.Store.rows c.args.store.now in
    let word = member_of types f l in
    let s = stored types (Pointing 0) 5 content rows c.args.object word c.requires.fits.housed c.requires.object c.requires.holds in
    subst (λ (x : Option Object). IsSome x) (sym s.there) refl

pub write_pointer-requires-clause-has : goal.write_pointer-requires-clause-has
write_pointer-requires-clause-has g c =
    let types = types_in c.args.scope.now in
    let f = function_in c.args.scope.now in
    let l = location_of c.args.location.now in
    let content = g.S.Store.content c.args.store.now in
    let rows = g.S.Store.rows c.args.store.now in
    let word = member_of types f l in
    let s = stored types (Pointing 0) 5 content rows c.args.object word c.requires.fits.housed c.requires.object c.requires.holds in
    let same = c.member_word-word.ensures in
    subst (λ (x : Option Object). IfSome x (HasWords 0 c.member_word-word.result 5)) (sym s.there) (subst (λ (w : ℕ). HasWords 0 w 5 s.object) (sym same) (has_words types (Pointing 0) 5 content rows c.args.object word s))

pub write_pointer-requires-clause-storable : goal.write_pointer-requires-clause-storable
write_pointer-requires-clause-storable g c =
    let content = g.S.Store.content c.args.store.now in
    let rows = g.S.Store.rows c.args.store.now in
    can_store content rows c.requires.fits.countable c.args.pointer c.requires.pointer

pub returns-clause-is : goal.returns-clause-is
returns-clause-is g c =
    let types = types_in c.args.scope.now in
    let f = function_in c.args.scope.now in
    let l = location_of c.args.location.now in
    let content = g.S.Store.content c.args.store.now in
    let rows = g.S.Store.rows c.args.store.now in
    let word = member_of types f l in
    let s = stored types (Pointing 0) 5 content rows c.args.object word c.requires.fits.housed c.requires.object c.requires.holds in
    let same = c.member_word-word.ensures in
    let pointer = subst (λ (w : ℕ). IsPointer (kinds_of types) content rows c.args.object w s.object) (sym same) (is_pointer types content rows c.args.object word c.requires.fits.housed s) in
    let ws = words.pointer_words (pointer_seen c.args.pointer) in
    let m = meant types content rows in
    let shows = c.write_pointer.ensures.shows (kinds_of types) s.object pointer in
    shows.is ∙ ap (λ (w : ℕ). words.wrote c.args.object.birth 0 w ws m) same

pub returns-clause-fits : goal.returns-clause-fits
returns-clause-fits g c =
    let types = types_in c.args.scope.now in
    let f = function_in c.args.scope.now in
    let l = location_of c.args.location.now in
    let content = g.S.Store.content c.args.store.now in
    let rows = g.S.Store.rows c.args.store.now in
    let word = member_of types f l in
    let s = stored types (Pointing 0) 5 content rows c.args.object word c.requires.fits.housed c.requires.object c.requires.holds in
    let same = c.member_word-word.ensures in
    let pointer = subst (λ (w : ℕ). IsPointer (kinds_of types) content rows c.args.object w s.object) (sym same) (is_pointer types content rows c.args.object word c.requires.fits.housed s) in
    let after = g.S.Store.content c.write_pointer.new.store in
    let placed = g.S.Store.rows c.write_pointer.new.store in
    let ws = words.pointer_words (pointer_seen c.args.pointer) in
    let m = meant types content rows in
    let shows = c.write_pointer.ensures.shows (kinds_of types) s.object pointer in
    let whole = subst (λ (w : ℕ). HasWholeWords 0 w s.object) (sym same) s.whole in
    let keeps : Keeps content after rows placed = record {
      rows = c.write_pointer.ensures.rows;
      births = ap (λ (x : Content). x.births) shows.is ∙ wrote_births c.args.object.birth 0 c.member_word-word.result ws m (at m.objects c.args.object.birth);
      clock = ap (λ (x : Content). x.clock) shows.is ∙ wrote_clock c.args.object.birth 0 c.member_word-word.result ws m (at m.objects c.args.object.birth);
    } in
    record { housed = shows.housed; rowed = c.write_pointer.ensures.rowed (kinds_of types) s.object pointer whole c.requires.pointer c.requires.fits.rowed; countable = count_kept content after rows placed keeps c.requires.fits.countable; held = tt }

pub returns-clause-keeps : goal.returns-clause-keeps
returns-clause-keeps g c =
    let types = types_in c.args.scope.now in
    let f = function_in c.args.scope.now in
    let l = location_of c.args.location.now in
    let content = g.S.Store.content c.args.store.now in
    let rows = g.S.Store.rows c.args.store.now in
    let word = member_of types f l in
    let s = stored types (Pointing 0) 5 content rows c.args.object word c.requires.fits.housed c.requires.object c.requires.holds in
    let same = c.member_word-word.ensures in
    let pointer = subst (λ (w : ℕ). IsPointer (kinds_of types) content rows c.args.object w s.object) (sym same) (is_pointer types content rows c.args.object word c.requires.fits.housed s) in
    let after = g.S.Store.content c.write_pointer.new.store in
    let placed = g.S.Store.rows c.write_pointer.new.store in
    let ws = words.pointer_words (pointer_seen c.args.pointer) in
    let m = meant types content rows in
    let shows = c.write_pointer.ensures.shows (kinds_of types) s.object pointer in
    let keeps : Keeps content after rows placed = record {
      rows = c.write_pointer.ensures.rows;
      births = ap (λ (x : Content). x.births) shows.is ∙ wrote_births c.args.object.birth 0 c.member_word-word.result ws m (at m.objects c.args.object.birth);
      clock = ap (λ (x : Content). x.clock) shows.is ∙ wrote_clock c.args.object.birth 0 c.member_word-word.result ws m (at m.objects c.args.object.birth);
    } in
    keeps
