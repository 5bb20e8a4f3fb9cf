use Rattle.std.proofs.Common.{arith, ℕ, IfSome, IsSome, Option, ap, refl, subst, sym, ◌∙◌}
use Rattle.life_core.specs.Operands.{location_of}
use Rattle.life_store.specs.Content.{Object}
use Rattle.life_store.specs.Held as words
use Rattle.life_store.specs.Kinds.{Pointing}
use Rattle.life_seen.specs.Kinds.{kinds_of}
use Rattle.life_words.specs.Numbers.{HasWords}
use Rattle.life_pointers.specs.Words.{IsPointer}
use Rattle.life_cells.specs.Fits.{meant}
use Rattle.life_cells.specs.Scopes.{function_in, types_in}
use Rattle.life_cells.specs.Typed.{member_of}
use Rattle.life_cells.proofs.Stored.{has_words, is_pointer, small_word, stored}
use Rattle.life_cells.proofs.locations.member_pointer.Goals as goal

pub member_word-word-requires : goal.member_word-word-requires
member_word-word-requires g c =
    let types = types_in c.args.scope.now in
    let f = function_in c.args.scope.now in
    let l = location_of c.args.location.now in
    let content = g.S.Store.content c.args.store.now in
    let rows = g.S.Store.rows c.args.store.now in
    let word = member_of types f l in
    let s = stored types (Pointing 0) 5 content rows c.args.object word c.requires.fits.housed c.requires.object c.requires.holds in
    small_word word 5 s.object s.lies (omega arith)

pub read_pointer-requires-clause-lives : goal.read_pointer-requires-clause-lives
read_pointer-requires-clause-lives g c =
    let types = types_in c.args.scope.now in
    let f = function_in c.args.scope.now in
    let l = location_of c.args.location.now in
    let content = g.S.Store.content c.args.store.now in
    let rows = g.S.Store.rows c.args.store.now in
    let word = member_of types f l in
    let s = stored types (Pointing 0) 5 content rows c.args.object word c.requires.fits.housed c.requires.object c.requires.holds in
    subst (λ (x : Option Object). IsSome x) (sym s.there) refl

pub read_pointer-requires-clause-has : goal.read_pointer-requires-clause-has
read_pointer-requires-clause-has g c =
    let types = types_in c.args.scope.now in
    let f = function_in c.args.scope.now in
    let l = location_of c.args.location.now in
    let content = g.S.Store.content c.args.store.now in
    let rows = g.S.Store.rows c.args.store.now in
    let word = member_of types f l in
    let s = stored types (Pointing 0) 5 content rows c.args.object word c.requires.fits.housed c.requires.object c.requires.holds in
    let same = c.member_word-word.ensures in
    subst (λ (x : Option Object). IfSome x (HasWords 0 c.member_word-word.result 5)) (sym s.there) (subst (λ (w : ℕ). HasWords 0 w 5 s.object) (sym same) (has_words types (Pointing 0) 5 content rows c.args.object word s))

pub returns-clause-is : goal.returns-clause-is
returns-clause-is g c =
    let types = types_in c.args.scope.now in
    let f = function_in c.args.scope.now in
    let l = location_of c.args.location.now in
    let content = g.S.Store.content c.args.store.now in
    let rows = g.S.Store.rows c.args.store.now in
    let word = member_of types f l in
    let s = stored types (Pointing 0) 5 content rows c.args.object word c.requires.fits.housed c.requires.object c.requires.holds in
    let same = c.member_word-word.ensures in
    let pointer = subst (λ (w : ℕ). IsPointer (kinds_of types) content rows c.args.object w s.object) (sym same) (is_pointer types content rows c.args.object word c.requires.fits.housed s) in
    c.read_pointer.ensures.is (kinds_of types) s.object pointer c.requires.fits.rowed ∙ ap (λ (w : ℕ). words.pointer_in (words.words_at (meant types content rows) c.args.object.birth 0 w 5)) same

pub returns-clause-fits : goal.returns-clause-fits
returns-clause-fits g c =
    let types = types_in c.args.scope.now in
    let f = function_in c.args.scope.now in
    let l = location_of c.args.location.now in
    let content = g.S.Store.content c.args.store.now in
    let rows = g.S.Store.rows c.args.store.now in
    let word = member_of types f l in
    let s = stored types (Pointing 0) 5 content rows c.args.object word c.requires.fits.housed c.requires.object c.requires.holds in
    let same = c.member_word-word.ensures in
    let pointer = subst (λ (w : ℕ). IsPointer (kinds_of types) content rows c.args.object w s.object) (sym same) (is_pointer types content rows c.args.object word c.requires.fits.housed s) in
    c.read_pointer.ensures.fits (kinds_of types) s.object pointer c.requires.fits.rowed
