use Rattle.std.proofs.Common.{[], ◌∷◌, ◌++◌, ap, sym, ◌∙◌}
use Rattle.life_store.specs.Edits.{characters_of, edited, rewritten}
use Rattle.life_store.specs.Parts.{parts_at, Parts}
use Rattle.life_seen.specs.Kinds.{kinds_of}
use Rattle.life_pointers.specs.Owned.{spot_seen}
use Rattle.life_cells.specs.Fits.{meant}
use Rattle.life_cells.specs.Scopes.{types_in}
use Rattle.life_changes.specs.Edits.{edit_of}
use Rattle.life_changes.specs.declared.edit.Edit.{Edit as Editing}
use Rattle.life_changes.specs.declared.edit.Edit.TheVariants as editing
use Rattle.life_changes.proofs.Editing.{gets_same}
use Rattle.life_changes.proofs.text_edits.edit_text.Goals as goal

pub returns-in-Push-clause-edited : goal.returns-in-Push-clause-edited
returns-in-Push-clause-edited g c = λ s given.
    let types = types_in c.args.scope.now in
    let content = g.S.Store.content c.args.store.now in
    let rows = g.S.Store.rows c.args.store.now in
    let m = meant types content rows in
    let p = parts_at types c.args.ty in
    let spot = spot_seen c.args.spot in
    let b = c.args.buffer.birth in
    gets_same (kinds_of types) (rewritten s c.args.characters spot b (characters_of m b ++ (c.in-Push.number ∷ [])) m) (edited s p spot b (edit_of c.args.edit) m) c.add.result _ _
    (sym (ap (λ (e : Editing). edited s p spot b (edit_of e) m) c.in-Push.is ∙ ap (λ (q : Parts). edited s q spot b (edit_of (editing.Push c.in-Push.number)) m) c.requires.text)) (c.add.ensures.rewritten s given)

pub returns-in-Clear-clause-edited : goal.returns-in-Clear-clause-edited
returns-in-Clear-clause-edited g c = λ s given.
    let types = types_in c.args.scope.now in
    let content = g.S.Store.content c.args.store.now in
    let rows = g.S.Store.rows c.args.store.now in
    let m = meant types content rows in
    let p = parts_at types c.args.ty in
    let spot = spot_seen c.args.spot in
    let b = c.args.buffer.birth in
    gets_same (kinds_of types) (rewritten s c.args.characters spot b ([]) m) (edited s p spot b (edit_of c.args.edit) m) c.put.result _ _
    (sym (ap (λ (e : Editing). edited s p spot b (edit_of e) m) c.in-Clear.is ∙ ap (λ (q : Parts). edited s q spot b (edit_of (editing.Clear)) m) c.requires.text)) (c.put.ensures.rewritten s given)

pub returns-in-Put-clause-edited : goal.returns-in-Put-clause-edited
returns-in-Put-clause-edited g c = λ s given.
    let types = types_in c.args.scope.now in
    let content = g.S.Store.content c.args.store.now in
    let rows = g.S.Store.rows c.args.store.now in
    let m = meant types content rows in
    let p = parts_at types c.args.ty in
    let spot = spot_seen c.args.spot in
    let b = c.args.buffer.birth in
    gets_same (kinds_of types) (rewritten s c.args.characters spot b (c.in-Put.words.now) m) (edited s p spot b (edit_of c.args.edit) m) c.put-in-Put.result _ _
    (sym (ap (λ (e : Editing). edited s p spot b (edit_of e) m) c.in-Put.is ∙ ap (λ (q : Parts). edited s q spot b (edit_of (editing.Put c.in-Put.words)) m) c.requires.text)) (c.put-in-Put.ensures.rewritten s given)

pub returns-in-Add-clause-edited : goal.returns-in-Add-clause-edited
returns-in-Add-clause-edited g c = λ s given.
    let types = types_in c.args.scope.now in
    let content = g.S.Store.content c.args.store.now in
    let rows = g.S.Store.rows c.args.store.now in
    let m = meant types content rows in
    let p = parts_at types c.args.ty in
    let spot = spot_seen c.args.spot in
    let b = c.args.buffer.birth in
    gets_same (kinds_of types) (rewritten s c.args.characters spot b (characters_of m b ++ c.in-Add.words.now) m) (edited s p spot b (edit_of c.args.edit) m) c.add-in-Add.result _ _
    (sym (ap (λ (e : Editing). edited s p spot b (edit_of e) m) c.in-Add.is ∙ ap (λ (q : Parts). edited s q spot b (edit_of (editing.Add c.in-Add.words)) m) c.requires.text)) (c.add-in-Add.ensures.rewritten s given)

pub returns-in-Pop-clause-edited : goal.returns-in-Pop-clause-edited
returns-in-Pop-clause-edited g c = λ s given.
    let types = types_in c.args.scope.now in
    let content = g.S.Store.content c.args.store.now in
    let rows = g.S.Store.rows c.args.store.now in
    let m = meant types content rows in
    let p = parts_at types c.args.ty in
    let spot = spot_seen c.args.spot in
    let b = c.args.buffer.birth in
    ap (λ (e : Editing). edited s p spot b (edit_of e) m) c.in-Pop.is ∙ ap (λ (q : Parts). edited s q spot b (edit_of (editing.Pop)) m) c.requires.text

pub returns-in-Reserve-clause-edited : goal.returns-in-Reserve-clause-edited
returns-in-Reserve-clause-edited g c = λ s given.
    let types = types_in c.args.scope.now in
    let content = g.S.Store.content c.args.store.now in
    let rows = g.S.Store.rows c.args.store.now in
    let m = meant types content rows in
    let p = parts_at types c.args.ty in
    let spot = spot_seen c.args.spot in
    let b = c.args.buffer.birth in
    ap (λ (e : Editing). edited s p spot b (edit_of e) m) c.in-Reserve.is ∙ ap (λ (q : Parts). edited s q spot b (edit_of (editing.Reserve c.in-Reserve.field-0)) m) c.requires.text
