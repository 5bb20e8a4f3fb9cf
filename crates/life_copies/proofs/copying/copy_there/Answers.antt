use Rattle.std.proofs.Common.{Ok, Err, sym, subst, ◌∙◌}
use Rattle.life_store.specs.Parts.{parts_at}
use Rattle.life_seen.specs.Kinds.{kinds_of}
use Rattle.life_values.specs.Copied.{ComesCopied}
use Rattle.life_values.specs.Moved.{place}
use Rattle.life_values.proofs.Beginning.{width_of_type}
use Rattle.life_moves.specs.CopiedTo.{copied_over, CanCopyTo}
use Rattle.life_pointers.specs.Owned.{spot_seen}
use Rattle.life_cells.specs.Fits.{meant}
use Rattle.life_cells.specs.Scopes.{function_in, types_in}
use Rattle.life_changes.specs.Owners.{widened}
use Rattle.life_changes.specs.Steps.{Gets}
use Rattle.life_copies.specs.Values.{AreApart}
use Rattle.life_copies.proofs.Behind.{grows_behind}
use Rattle.life_copies.proofs.Copied.{behind_copy, can_copy, copied_gets, fits_copy}
use Rattle.life_copies.proofs.copying.copy_there.Goals as goal

pub copy_value-requires-clause-layouts : goal.copy_value-requires-clause-layouts
copy_value-requires-clause-layouts g c = c.args.scope.now.laid

pub copy_value-requires-clause-ordered : goal.copy_value-requires-clause-ordered
copy_value-requires-clause-ordered g c = c.requires.source.owner.served.ordered

pub copy_value-requires-clause-wide : goal.copy_value-requires-clause-wide
copy_value-requires-clause-wide g c = c.requires.source.owner.served.wide

pub copy_value-requires-clause-can : goal.copy_value-requires-clause-can
copy_value-requires-clause-can g c =
    subst (λ a. CanCopyTo (types_in c.args.scope.now) (g.S.Store.limit c.args.store.now) c.args.depth c.args.ty a c.wide-2.result (g.S.Store.content c.args.store.now) (g.S.Store.rows c.args.store.now)) (sym c.wide.ensures)
    (subst (λ b. CanCopyTo (types_in c.args.scope.now) (g.S.Store.limit c.args.store.now) c.args.depth c.args.ty (widened c.args.from) b (g.S.Store.content c.args.store.now) (g.S.Store.rows c.args.store.now)) (sym c.wide-2.ensures)
    (can_copy (types_in c.args.scope.now) (function_in c.args.scope.now) (g.S.Store.limit c.args.store.now) c.args.depth c.args.ty c.args.from c.args.to (g.S.Store.content c.args.store.now) (g.S.Store.rows c.args.store.now) c.args.cells.now c.requires.source c.requires.target c.requires.copied
    (subst (AreApart c.args.from c.args.to) (c.width_of.ensures ∙ width_of_type (types_in c.args.scope.now) c.args.scope.now.layouts.now c.args.scope.now.laid c.args.ty) (c.overlaps.ensures c.if-overlaps.false))))

pub returns-in-Err-clause-gets : goal.returns-in-Err-clause-gets
returns-in-Err-clause-gets g c s cells =
    subst (λ why. Gets {A = Unit {0}} (kinds_of (types_in c.args.scope.now)) (copied_over s (parts_at (types_in c.args.scope.now) c.args.ty) (spot_seen c.args.from) (spot_seen c.args.to) (meant (types_in c.args.scope.now) (g.S.Store.content c.args.store.now) (g.S.Store.rows c.args.store.now))) (Err why) (g.S.Store.content c.copy_value.new.store) (g.S.Store.rows c.copy_value.new.store)) (sym c.failed.ensures)
    (copied_gets {A = Unit {0}} (kinds_of (types_in c.args.scope.now)) (copied_over s (parts_at (types_in c.args.scope.now) c.args.ty) (spot_seen c.args.from) (spot_seen c.args.to) (meant (types_in c.args.scope.now) (g.S.Store.content c.args.store.now) (g.S.Store.rows c.args.store.now))) (Err c.in-Err.fault) (g.S.Store.content c.copy_value.new.store) (g.S.Store.rows c.copy_value.new.store)
    (subst (λ a. ComesCopied {A = Unit {0}} (kinds_of (types_in c.args.scope.now)) (copied_over s (parts_at (types_in c.args.scope.now) c.args.ty) (place a) (spot_seen c.args.to) (meant (types_in c.args.scope.now) (g.S.Store.content c.args.store.now) (g.S.Store.rows c.args.store.now))) (Err c.in-Err.fault) (g.S.Store.content c.copy_value.new.store) (g.S.Store.rows c.copy_value.new.store)) c.wide.ensures
    (subst (λ b. ComesCopied {A = Unit {0}} (kinds_of (types_in c.args.scope.now)) (copied_over s (parts_at (types_in c.args.scope.now) c.args.ty) (place c.wide.result) (place b) (meant (types_in c.args.scope.now) (g.S.Store.content c.args.store.now) (g.S.Store.rows c.args.store.now))) (Err c.in-Err.fault) (g.S.Store.content c.copy_value.new.store) (g.S.Store.rows c.copy_value.new.store)) c.wide-2.ensures
    (c.in-Err.ensures.copied s cells))))

pub returns-in-Ok-clause-gets : goal.returns-in-Ok-clause-gets
returns-in-Ok-clause-gets g c =
    (λ s cells. copied_gets {A = Unit {0}} (kinds_of (types_in c.args.scope.now)) (copied_over s (parts_at (types_in c.args.scope.now) c.args.ty) (spot_seen c.args.from) (spot_seen c.args.to) (meant (types_in c.args.scope.now) (g.S.Store.content c.args.store.now) (g.S.Store.rows c.args.store.now))) (Ok tt) (g.S.Store.content c.copy_value.new.store) (g.S.Store.rows c.copy_value.new.store)
    (subst (λ a. ComesCopied {A = Unit {0}} (kinds_of (types_in c.args.scope.now)) (copied_over s (parts_at (types_in c.args.scope.now) c.args.ty) (place a) (spot_seen c.args.to) (meant (types_in c.args.scope.now) (g.S.Store.content c.args.store.now) (g.S.Store.rows c.args.store.now))) (Ok tt) (g.S.Store.content c.copy_value.new.store) (g.S.Store.rows c.copy_value.new.store)) c.wide.ensures
    (subst (λ b. ComesCopied {A = Unit {0}} (kinds_of (types_in c.args.scope.now)) (copied_over s (parts_at (types_in c.args.scope.now) c.args.ty) (place c.wide.result) (place b) (meant (types_in c.args.scope.now) (g.S.Store.content c.args.store.now) (g.S.Store.rows c.args.store.now))) (Ok tt) (g.S.Store.content c.copy_value.new.store) (g.S.Store.rows c.copy_value.new.store)) c.wide-2.ensures
    (c.in-Ok.ensures.copied s cells))))

pub returns-in-Ok-clause-fits : goal.returns-in-Ok-clause-fits
returns-in-Ok-clause-fits g c =
    fits_copy (types_in c.args.scope.now) (function_in c.args.scope.now) (g.S.Store.limit c.args.store.now) c.args.depth c.args.ty c.args.from c.args.to (g.S.Store.content c.args.store.now) (g.S.Store.rows c.args.store.now) c.args.cells.now c.requires.source c.requires.target (g.S.Store.content c.copy_value.new.store) (g.S.Store.rows c.copy_value.new.store)
    (λ s cells. copied_gets {A = Unit {0}} (kinds_of (types_in c.args.scope.now)) (copied_over s (parts_at (types_in c.args.scope.now) c.args.ty) (spot_seen c.args.from) (spot_seen c.args.to) (meant (types_in c.args.scope.now) (g.S.Store.content c.args.store.now) (g.S.Store.rows c.args.store.now))) (Ok tt) (g.S.Store.content c.copy_value.new.store) (g.S.Store.rows c.copy_value.new.store)
    (subst (λ a. ComesCopied {A = Unit {0}} (kinds_of (types_in c.args.scope.now)) (copied_over s (parts_at (types_in c.args.scope.now) c.args.ty) (place a) (spot_seen c.args.to) (meant (types_in c.args.scope.now) (g.S.Store.content c.args.store.now) (g.S.Store.rows c.args.store.now))) (Ok tt) (g.S.Store.content c.copy_value.new.store) (g.S.Store.rows c.copy_value.new.store)) c.wide.ensures
    (subst (λ b. ComesCopied {A = Unit {0}} (kinds_of (types_in c.args.scope.now)) (copied_over s (parts_at (types_in c.args.scope.now) c.args.ty) (place c.wide.result) (place b) (meant (types_in c.args.scope.now) (g.S.Store.content c.args.store.now) (g.S.Store.rows c.args.store.now))) (Ok tt) (g.S.Store.content c.copy_value.new.store) (g.S.Store.rows c.copy_value.new.store)) c.wide-2.ensures
    (c.in-Ok.ensures.copied s cells))))
    (c.in-Ok.ensures.rowed c.requires.source.owner.ready.fits.rowed) c.in-Ok.ensures.later

pub returns-in-Ok-clause-bounded : goal.returns-in-Ok-clause-bounded
returns-in-Ok-clause-bounded g c =
    (behind_copy (types_in c.args.scope.now) (function_in c.args.scope.now) (g.S.Store.limit c.args.store.now) c.args.depth c.args.ty c.args.from c.args.to (g.S.Store.content c.args.store.now) (g.S.Store.rows c.args.store.now) c.args.cells.now c.requires.source c.requires.target (g.S.Store.content c.copy_value.new.store) (g.S.Store.rows c.copy_value.new.store)
    (λ s cells. copied_gets {A = Unit {0}} (kinds_of (types_in c.args.scope.now)) (copied_over s (parts_at (types_in c.args.scope.now) c.args.ty) (spot_seen c.args.from) (spot_seen c.args.to) (meant (types_in c.args.scope.now) (g.S.Store.content c.args.store.now) (g.S.Store.rows c.args.store.now))) (Ok tt) (g.S.Store.content c.copy_value.new.store) (g.S.Store.rows c.copy_value.new.store)
    (subst (λ a. ComesCopied {A = Unit {0}} (kinds_of (types_in c.args.scope.now)) (copied_over s (parts_at (types_in c.args.scope.now) c.args.ty) (place a) (spot_seen c.args.to) (meant (types_in c.args.scope.now) (g.S.Store.content c.args.store.now) (g.S.Store.rows c.args.store.now))) (Ok tt) (g.S.Store.content c.copy_value.new.store) (g.S.Store.rows c.copy_value.new.store)) c.wide.ensures
    (subst (λ b. ComesCopied {A = Unit {0}} (kinds_of (types_in c.args.scope.now)) (copied_over s (parts_at (types_in c.args.scope.now) c.args.ty) (place c.wide.result) (place b) (meant (types_in c.args.scope.now) (g.S.Store.content c.args.store.now) (g.S.Store.rows c.args.store.now))) (Ok tt) (g.S.Store.content c.copy_value.new.store) (g.S.Store.rows c.copy_value.new.store)) c.wide-2.ensures
    (c.in-Ok.ensures.copied s cells))))).bounded

pub returns-in-Ok-clause-grows : goal.returns-in-Ok-clause-grows
returns-in-Ok-clause-grows g c =
    grows_behind (types_in c.args.scope.now) (g.S.Store.limit c.args.store.now) (g.S.Store.content c.args.store.now) (g.S.Store.content c.copy_value.new.store) (g.S.Store.rows c.args.store.now) (g.S.Store.rows c.copy_value.new.store)
    (behind_copy (types_in c.args.scope.now) (function_in c.args.scope.now) (g.S.Store.limit c.args.store.now) c.args.depth c.args.ty c.args.from c.args.to (g.S.Store.content c.args.store.now) (g.S.Store.rows c.args.store.now) c.args.cells.now c.requires.source c.requires.target (g.S.Store.content c.copy_value.new.store) (g.S.Store.rows c.copy_value.new.store)
    (λ s cells. copied_gets {A = Unit {0}} (kinds_of (types_in c.args.scope.now)) (copied_over s (parts_at (types_in c.args.scope.now) c.args.ty) (spot_seen c.args.from) (spot_seen c.args.to) (meant (types_in c.args.scope.now) (g.S.Store.content c.args.store.now) (g.S.Store.rows c.args.store.now))) (Ok tt) (g.S.Store.content c.copy_value.new.store) (g.S.Store.rows c.copy_value.new.store)
    (subst (λ a. ComesCopied {A = Unit {0}} (kinds_of (types_in c.args.scope.now)) (copied_over s (parts_at (types_in c.args.scope.now) c.args.ty) (place a) (spot_seen c.args.to) (meant (types_in c.args.scope.now) (g.S.Store.content c.args.store.now) (g.S.Store.rows c.args.store.now))) (Ok tt) (g.S.Store.content c.copy_value.new.store) (g.S.Store.rows c.copy_value.new.store)) c.wide.ensures
    (subst (λ b. ComesCopied {A = Unit {0}} (kinds_of (types_in c.args.scope.now)) (copied_over s (parts_at (types_in c.args.scope.now) c.args.ty) (place c.wide.result) (place b) (meant (types_in c.args.scope.now) (g.S.Store.content c.args.store.now) (g.S.Store.rows c.args.store.now))) (Ok tt) (g.S.Store.content c.copy_value.new.store) (g.S.Store.rows c.copy_value.new.store)) c.wide-2.ensures
    (c.in-Ok.ensures.copied s cells)))))
