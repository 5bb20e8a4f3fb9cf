use Rattle.std.proofs.Common.{◌≡◌, [], ◌∷◌, rules, sym, ap, ◌∙◌}
use Rattle.std.proofs.lemmas.Int.{to_z-of_z}
use Rattle.std.specs.Int.{cast_unsigned, w64}
use mir.Val.{SFits}
use Rattle.life_store.specs.Doing.{copied_to, on_character}
use Rattle.life_store.specs.Effects.{word_of_number}
use Rattle.life_store.specs.Parts.{parts_at}
use Rattle.life_pointers.specs.Attempts.{itself}
use Rattle.life_pointers.specs.Owned.{spot_seen}
use Rattle.life_pointers.specs.Pointers.{characters_seen}
use Rattle.life_cells.specs.Cells.{state_of}
use Rattle.life_cells.specs.Fits.{meant}
use Rattle.life_cells.specs.Scopes.{function_in, types_in}
use Rattle.life_cells.proofs.StepLemmas.{stopped}
use Rattle.life_copies.proofs.Behind.{grows_behind}
use Rattle.life_copies.proofs.Characters.{behind_character, character_written, fits_character, later_character, word_there}
use Rattle.life_copies.proofs.copying.copy_character.Goals as goal

pub put_number-requires : goal.put_number-requires
put_number-requires g c = word_there (types_in c.args.scope.now) (function_in c.args.scope.now) (g.S.Store.limit c.args.store.now) c.args.depth c.args.ty c.args.target (g.S.Store.content c.args.store.now) (g.S.Store.rows c.args.store.now) c.args.cells.now c.requires.target c.requires.single

pub returns-in-Err-clause-step : goal.returns-in-Err-clause-step
returns-in-Err-clause-step g c s texts = λ output input.
    ap (λ ts. on_character ts (characters_seen c.args.characters) (λ z. copied_to s (parts_at (types_in c.args.scope.now) c.args.ty) (spot_seen c.args.target) (word_of_number z ∷ []) (state_of (meant (types_in c.args.scope.now) (g.S.Store.content c.args.store.now) (g.S.Store.rows c.args.store.now)) c.args.cells.now output input))) texts
    ∙ c.in-Err.ensures.is (λ z. copied_to s (parts_at (types_in c.args.scope.now) c.args.ty) (spot_seen c.args.target) (word_of_number z ∷ []) (state_of (meant (types_in c.args.scope.now) (g.S.Store.content c.args.store.now) (g.S.Store.rows c.args.store.now)) c.args.cells.now output input))
    ∙ stopped itself (λ z. copied_to s (parts_at (types_in c.args.scope.now) c.args.ty) (spot_seen c.args.target) (word_of_number z ∷ []) (state_of (meant (types_in c.args.scope.now) (g.S.Store.content c.args.store.now) (g.S.Store.rows c.args.store.now)) c.args.cells.now output input)) c.in-Err.stop

pub returns-in-Ok-clause-step : goal.returns-in-Ok-clause-step
returns-in-Ok-clause-step g c s texts = λ output input.
    let fits : SFits w64 c.in-Ok.value = search rules in
    let word : c.cast_unsigned.result ≡ cast_unsigned w64 c.in-Ok.value = c.cast_unsigned.ensures ∙ ap (cast_unsigned w64) (to_z-of_z w64 c.in-Ok.value fits) in
    ap (λ ts. on_character ts (characters_seen c.args.characters) (λ z. copied_to s (parts_at (types_in c.args.scope.now) c.args.ty) (spot_seen c.args.target) (word_of_number z ∷ []) (state_of (meant (types_in c.args.scope.now) (g.S.Store.content c.args.store.now) (g.S.Store.rows c.args.store.now)) c.args.cells.now output input))) texts
    ∙ c.in-Ok.ensures.is (λ z. copied_to s (parts_at (types_in c.args.scope.now) c.args.ty) (spot_seen c.args.target) (word_of_number z ∷ []) (state_of (meant (types_in c.args.scope.now) (g.S.Store.content c.args.store.now) (g.S.Store.rows c.args.store.now)) c.args.cells.now output input))
    ∙ ap (λ x. copied_to s (parts_at (types_in c.args.scope.now) c.args.ty) (spot_seen c.args.target) (x ∷ []) (state_of (meant (types_in c.args.scope.now) (g.S.Store.content c.args.store.now) (g.S.Store.rows c.args.store.now)) c.args.cells.now output input)) (sym word)
    ∙ character_written (types_in c.args.scope.now) (function_in c.args.scope.now) (g.S.Store.limit c.args.store.now) c.args.depth c.args.ty c.args.target (g.S.Store.content c.args.store.now) (g.S.Store.rows c.args.store.now) c.args.cells.now c.requires.target c.requires.single c.cast_unsigned.result (g.S.Store.content c.put_number.new.store) (g.S.Store.rows c.put_number.new.store) c.put_number.ensures.shows s output input

pub returns-in-Ok-clause-fits : goal.returns-in-Ok-clause-fits
returns-in-Ok-clause-fits g c = fits_character (types_in c.args.scope.now) (function_in c.args.scope.now) (g.S.Store.limit c.args.store.now) c.args.depth c.args.ty c.args.target (g.S.Store.content c.args.store.now) (g.S.Store.rows c.args.store.now) c.args.cells.now c.requires.target c.requires.single c.cast_unsigned.result (g.S.Store.content c.put_number.new.store) (g.S.Store.rows c.put_number.new.store) c.put_number.ensures.shows c.put_number.ensures.rowed c.put_number.ensures.rows

pub returns-in-Ok-clause-bounded : goal.returns-in-Ok-clause-bounded
returns-in-Ok-clause-bounded g c = (behind_character (types_in c.args.scope.now) (function_in c.args.scope.now) (g.S.Store.limit c.args.store.now) c.args.depth c.args.ty c.args.target (g.S.Store.content c.args.store.now) (g.S.Store.rows c.args.store.now) c.args.cells.now c.requires.target c.requires.single c.cast_unsigned.result (g.S.Store.content c.put_number.new.store) (g.S.Store.rows c.put_number.new.store) c.put_number.ensures.shows).bounded

pub returns-in-Ok-clause-later : goal.returns-in-Ok-clause-later
returns-in-Ok-clause-later g c = later_character (types_in c.args.scope.now) (function_in c.args.scope.now) (g.S.Store.limit c.args.store.now) c.args.depth c.args.ty c.args.target (g.S.Store.content c.args.store.now) (g.S.Store.rows c.args.store.now) c.args.cells.now c.requires.target c.requires.single c.cast_unsigned.result (g.S.Store.content c.put_number.new.store) (g.S.Store.rows c.put_number.new.store) c.put_number.ensures.shows c.put_number.ensures.rows

pub returns-in-Ok-clause-grows : goal.returns-in-Ok-clause-grows
returns-in-Ok-clause-grows g c =
    grows_behind (types_in c.args.scope.now) (g.S.Store.limit c.args.store.now) (g.S.Store.content c.args.store.now) (g.S.Store.content c.put_number.new.store) (g.S.Store.rows c.args.store.now) (g.S.Store.rows c.put_number.new.store)
    (behind_character (types_in c.args.scope.now) (function_in c.args.scope.now) (g.S.Store.limit c.args.store.now) c.args.depth c.args.ty c.args.target (g.S.Store.content c.args.store.now) (g.S.Store.rows c.args.store.now) c.args.cells.now c.requires.target c.requires.single c.cast_unsigned.result (g.S.Store.content c.put_number.new.store) (g.S.Store.rows c.put_number.new.store) c.put_number.ensures.shows)
