-- Where a value of one type lies in the words of a value of another, and pointers to such places.
use Rattle.std.specs.Prelude.{◌≡◌, ◌≤◌, ◌<◌, ℕ, ◌+◌, true, Some}
use Rattle.life_types.specs.Types.{Types}
use Rattle.life_types.specs.declared.ty.TyId.{TyId}
use Rattle.life_store.specs.Cells.{at}
use Rattle.life_store.specs.Content.{Object, Content}
use Rattle.life_store.specs.Parts.{parts_at, width_at}
use Rattle.life_store.specs.Places.{is_valid}
use Rattle.life_store.specs.State.{Target}
use Rattle.life_forest.specs.Kinds.{owned_type}
use Rattle.life_store.specs.Kinds.{kind_in}

pub record LiesWithin (types : Types) (whole : TyId) (w : ℕ) (part : TyId) : Type 0 where
  pub fits : w + width_at types part ≤ width_at types whole
  pub words : (u : ℕ) → u < width_at types part → kind_in (parts_at types whole) (w + u) ≡ kind_in (parts_at types part) u
  pub owners : (u : ℕ) → u < width_at types part → owned_type (parts_at types whole) (w + u) ≡ owned_type (parts_at types part) u

-- a valid pointer's word is where its target's type begins
abbrev pub AimsWell : Types → Content → TyId → Target → Type 0
AimsWell types c target t = is_valid c t ≡ true → (o : Object) → at c.objects t.object ≡ Some o → LiesWithin types o.ty t.word target
