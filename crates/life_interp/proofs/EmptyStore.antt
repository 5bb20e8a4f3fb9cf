-- A run begins with a store that holds nothing.
use Rattle.std.proofs.Common.{◌≡◌, sym, subst, ◌∙◌}
use Rattle.life_types.specs.Types.{Types}
use Rattle.life_store.specs.Cells.{none}
use Rattle.life_store.specs.Content.{Content, empty_content}
use Rattle.life_store.specs.References.{Rows}
use Rattle.life_seen.specs.Housed.{IsHoused}
use Rattle.life_seen.specs.Kinds.{kinds_of}
use Rattle.life_seen.specs.Rowed.{AreRowed}
use Rattle.life_seen.proofs.Empty.{empty_rowed, shows_empty}
use Rattle.life_cells.specs.Fits.{meant}

pub housed_nothing : (types : Types) (c : Content) (rows : Rows) → c ≡ empty_content → rows ≡ none → IsHoused (kinds_of types) c rows
housed_nothing types c rows empty vacant =
    subst (λ (x : Content). IsHoused (kinds_of types) x rows) (sym empty)
    (subst (λ (x : Rows). IsHoused (kinds_of types) empty_content x) (sym vacant) (shows_empty (kinds_of types)).housed)

pub rowed_nothing : (types : Types) (c : Content) (rows : Rows) → c ≡ empty_content → rows ≡ none → AreRowed (kinds_of types) c rows
rowed_nothing types c rows empty vacant =
    subst (λ (x : Content). AreRowed (kinds_of types) x rows) (sym empty)
    (subst (λ (x : Rows). AreRowed (kinds_of types) empty_content x) (sym vacant) (empty_rowed (kinds_of types)))

-- .. as the meaning begins
pub meant_empty : (types : Types) (c : Content) (rows : Rows) → c ≡ empty_content → rows ≡ none → meant types c rows ≡ empty_content
meant_empty types c rows empty vacant = (λ i. meant types (empty i) (vacant i)) ∙ (shows_empty (kinds_of types)).is
