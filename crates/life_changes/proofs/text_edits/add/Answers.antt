use Rattle.std.proofs.Common.{◌≡◌, ◌++◌, ℕ, List, Some, IfSome, Option, length, ap, subst, ◌∙◌}
use Rattle.life_store.specs.Content.{Object}
use Rattle.life_store.specs.Edits.{rewritten}
use Rattle.life_store.specs.References.{object_of}
use Rattle.life_seen.specs.Kinds.{kinds_of}
use Rattle.life_pointers.specs.Owned.{spot_seen}
use Rattle.life_cells.specs.Fits.{meant}
use Rattle.life_cells.specs.Scopes.{texts_in, types_in}
use Rattle.life_changes.specs.Steps.{Gets}
use Rattle.life_changes.proofs.GivenWords.{all_inside, own_words}
use Rattle.life_changes.proofs.text_edits.add.Goals as goal

pub collected-requires-clause-inside : goal.collected-requires-clause-inside
collected-requires-clause-inside g c =
    let types = types_in c.args.scope.now in
    let limit = g.S.Store.limit c.args.store.now in
    let content = g.S.Store.content c.args.store.now in
    let rows = g.S.Store.rows c.args.store.now in
    let m = meant types content rows in
    let hand = c.requires.owner.0 in
    let own = c.requires.owner.1 in
    let size = λ (o : Object) (e : object_of content rows c.args.buffer ≡ Some o). subst (λ (x : Option Object). IfSome x (λ y. c.length.result ≡ length y.slots)) e c.length.ensures.slots in
    all_inside types limit c.args.depth hand c.args.ty c.args.spot c.args.buffer content rows own c.args.characters c.requires.text c.length.result size

pub returns-in-Ok-clause-rewritten : goal.returns-in-Ok-clause-rewritten
returns-in-Ok-clause-rewritten g c = λ s given.
    let types = types_in c.args.scope.now in
    let limit = g.S.Store.limit c.args.store.now in
    let content = g.S.Store.content c.args.store.now in
    let rows = g.S.Store.rows c.args.store.now in
    let m = meant types content rows in
    let hand = c.requires.owner.0 in
    let own = c.requires.owner.1 in
    let size = λ (o : Object) (e : object_of content rows c.args.buffer ≡ Some o). subst (λ (x : Option Object). IfSome x (λ y. c.length.result ≡ length y.slots)) e c.length.ensures.slots in
    let all = c.deref.ensures.value ∙ c.in-Ok.ensures ∙ ap (λ (ws : List ℕ). ws ++ c.args.words.now) (own_words types limit c.args.depth hand c.args.ty c.args.spot c.args.buffer content rows own c.args.characters c.requires.text (texts_in c.args.scope.now) c.length.result size) in
    subst (λ (ws : List ℕ). Gets (kinds_of types) (rewritten s c.args.characters (spot_seen c.args.spot) c.args.buffer.birth ws m) c.put.result (g.S.Store.content c.put.new.store) (g.S.Store.rows c.put.new.store)) all
    (c.put.ensures.rewritten s given)
