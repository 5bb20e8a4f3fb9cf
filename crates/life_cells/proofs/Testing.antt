-- What a test for null asks, by what is read of a location.
use Rattle.std.proofs.Common.{◌≡◌, ℕ, true, false, List, [], ◌∷◌, Option, Some, None, Err, refl, sym, ap, ◌∙◌}
use Rattle.std.proofs.lemmas.Bool.{false≢true}
use Rattle.life_types.specs.Types.{Types}
use Rattle.life_types.specs.Trees.{members_at}
use Rattle.life_types.specs.declared.ty.Ty.{Ty}
use Rattle.life_types.specs.declared.ty.Ty.TheVariants as variant
use Rattle.life_types.specs.declared.ty.TyId.{TyId}
use Rattle.life_core.specs.Function.{Function}
use Rattle.life_core.specs.Operands.{Location}
use Rattle.life_store.specs.Content.{Content}
use Rattle.life_store.specs.Doing.{owned_pointer}
use Rattle.life_store.specs.Edits.{owned_at}
use Rattle.life_store.specs.Effects.{Got, GotLost}
use Rattle.life_store.specs.Meaning.{member_tested, tested}
use Rattle.life_store.specs.Parts.{Parts, Single, Raw, Iterates, Views, Text, Vector, Unique, Member, NoMember, local_type, location_parts, parts_of, struct_of, word_within}
use Rattle.life_store.specs.Places.{Spot, member_cell, owner_spot_if}
use Rattle.life_store.specs.State.{Cell, Empty, Named, Number, Points}
use Rattle.life_pointers.specs.Attempts.{tried}
use Rattle.life_pointers.specs.Owned.{spot_seen}
use Rattle.life_pointers.specs.declared.stop.Stop.{Stop}
use Rattle.life_pointers.specs.declared.stop.Stop.TheVariants as stop
use Rattle.life_cells.specs.Asked.{is_owning_one, is_unique}
use Rattle.life_cells.specs.Cells.{pointer_in}
use Rattle.life_cells.specs.Typed.{is_nil}

got_lost : (spot : Spot) → Got spot ≡ GotLost → ⊥
got_lost spot e = cc

same_got : (s t : Spot) → Got s ≡ Got t → s ≡ t
same_got s t e = cc

stopped_got : (e : Stop) (spot : Spot) → tried spot_seen (Err e) ≡ Got spot → ⊥
stopped_got (stop.Trap kind) spot e = cc
stopped_got (stop.Fault kind) spot e = cc
stopped_got stop.Lost spot e = cc

module _ (types : Types) (f : Function) (l : Location) (m : Content) where
  abbrev owned : Spot → Option Cell
  owned spot = Some (Points (owned_pointer m (owned_at m spot)))

  -- ---- a local

  owner_at_first : (v : Option Cell) (spot : Spot) → l.members ≡ [] → Got spot ≡ owner_spot_if types f l v → tested types f l [] v m ≡ owned spot
  owner_at_first None spot none e = absurd (got_lost spot e)
  owner_at_first (Some Empty) spot none e = absurd (got_lost spot e)
  owner_at_first (Some (Named n)) spot none e =
      ap owned (sym (same_got spot _ e ∙ ap (λ (ms : List ℕ). record { object = n; index = 0; word = word_within types (local_type types f l.local) ms }) none))
  owner_at_first (Some (Number z)) spot none e = absurd (got_lost spot e)
  owner_at_first (Some (Points p)) spot none e = absurd (got_lost spot e)

  no_owner : (v : Option Cell) (e : Stop) → tried spot_seen (Err e) ≡ owner_spot_if types f l v → pointer_in v ≡ pointer_in (tested types f l [] v m)
  no_owner None e is = refl
  no_owner (Some Empty) e is = refl
  no_owner (Some (Named n)) e is = absurd (stopped_got e _ is)
  no_owner (Some (Number z)) e is = refl
  no_owner (Some (Points p)) e is = refl

  pub local_owned : (v : Option Cell) (spot : Spot) → l.members ≡ [] → Got spot ≡ owner_spot_if types f l v → tested types f l l.members v m ≡ owned spot
  local_owned v spot none e = ap (λ (ms : List ℕ). tested types f l ms v m) none ∙ owner_at_first v spot none e

  pub local_pointing : (v : Option Cell) (e : Stop) → l.members ≡ [] → tried spot_seen (Err e) ≡ owner_spot_if types f l v → pointer_in v ≡ pointer_in (tested types f l l.members v m)
  local_pointing v e none is = no_owner v e is ∙ ap (λ (ms : List ℕ). pointer_in (tested types f l ms v m)) (sym none)

  -- ---- a member

  of_member : (v : Option Cell) (ms : List ℕ) → is_nil ms ≡ false → tested types f l ms v m ≡ member_tested types f l (location_parts types f l) v m
  of_member v [] e = absurd (false≢true (sym e))
  of_member v (x ∷ xs) e = refl

  unique_owned : (p : Parts) (v : Option Cell) (spot : Spot) → is_unique p ≡ true → Got spot ≡ owner_spot_if types f l v → member_tested types f l p v m ≡ owned spot
  unique_owned (Unique ty target) None spot is e = absurd (got_lost spot e)
  unique_owned (Unique ty target) (Some Empty) spot is e = absurd (got_lost spot e)
  unique_owned (Unique ty target) (Some (Named n)) spot is e = ap owned (sym (same_got spot _ e))
  unique_owned (Unique ty target) (Some (Number z)) spot is e = absurd (got_lost spot e)
  unique_owned (Unique ty target) (Some (Points p)) spot is e = absurd (got_lost spot e)
  unique_owned _ v spot is e = absurd (false≢true is)

  none_in : (v : Option Cell) (ms : List ℕ) (e : Stop) → is_nil ms ≡ false → tried spot_seen (Err e) ≡ owner_spot_if types f l v → None ≡ pointer_in (member_cell types f l.local ms v m)
  none_in v [] e some is = absurd (false≢true (sym some))
  none_in None (x ∷ xs) e some is = refl
  none_in (Some Empty) (x ∷ xs) e some is = refl
  none_in (Some (Named n)) (x ∷ xs) e some is = absurd (stopped_got e _ is)
  none_in (Some (Number z)) (x ∷ xs) e some is = refl
  none_in (Some (Points p)) (x ∷ xs) e some is = refl

  unique_none : (p : Parts) (v : Option Cell) (e : Stop) → is_unique p ≡ true → is_nil l.members ≡ false → tried spot_seen (Err e) ≡ owner_spot_if types f l v → None ≡ pointer_in (member_tested types f l p v m)
  unique_none (Unique ty target) None e is some stopped = none_in None l.members e some stopped
  unique_none (Unique ty target) (Some Empty) e is some stopped = none_in (Some Empty) l.members e some stopped
  unique_none (Unique ty target) (Some (Named n)) e is some stopped = absurd (stopped_got e _ stopped)
  unique_none (Unique ty target) (Some (Number z)) e is some stopped = none_in (Some (Number z)) l.members e some stopped
  unique_none (Unique ty target) (Some (Points p)) e is some stopped = none_in (Some (Points p)) l.members e some stopped
  unique_none _ v e is some stopped = absurd (false≢true is)

  plain_member : (p : Parts) (v : Option Cell) → is_unique p ≡ false → member_cell types f l.local l.members v m ≡ member_tested types f l p v m
  plain_member (Unique ty target) v is = absurd (false≢true (sym is))
  plain_member Single v is = refl
  plain_member Raw v is = refl
  plain_member Iterates v is = refl
  plain_member Views v is = refl
  plain_member (Text ty) v is = refl
  plain_member (Vector ty element) v is = refl
  plain_member (Member first others) v is = refl
  plain_member NoMember v is = refl

  pub member_owned : (v : Option Cell) (spot : Spot) → is_nil l.members ≡ false → is_unique (location_parts types f l) ≡ true → Got spot ≡ owner_spot_if types f l v → tested types f l l.members v m ≡ owned spot
  member_owned v spot some unique e = of_member v l.members some ∙ unique_owned (location_parts types f l) v spot unique e

  pub member_none : (v : Option Cell) (e : Stop) → is_nil l.members ≡ false → is_unique (location_parts types f l) ≡ true → tried spot_seen (Err e) ≡ owner_spot_if types f l v → None ≡ pointer_in (tested types f l l.members v m)
  member_none v e some unique is = unique_none (location_parts types f l) v e unique some is ∙ ap pointer_in (sym (of_member v l.members some))

  pub member_pointing : (v : Option Cell) → is_nil l.members ≡ false → is_unique (location_parts types f l) ≡ false → pointer_in (member_cell types f l.local l.members v m) ≡ pointer_in (tested types f l l.members v m)
  member_pointing v some plain = ap pointer_in (plain_member (location_parts types f l) v plain ∙ sym (of_member v l.members some))

-- ---- by the type

no_struct : (part : TyId → Parts) (ids : List TyId) → is_unique (struct_of part ids) ≡ false
no_struct part [] = refl
no_struct part (id ∷ ids) = refl

pub unique_by_type : (types : Types) (part : TyId → Parts) (ty : Option Ty) → is_unique (parts_of types part ty) ≡ is_owning_one ty
unique_by_type types part None = refl
unique_by_type types part (Some variant.Void) = refl
unique_by_type types part (Some variant.Bool) = refl
unique_by_type types part (Some variant.Char) = refl
unique_by_type types part (Some variant.Int) = refl
unique_by_type types part (Some variant.Long) = refl
unique_by_type types part (Some variant.Size) = refl
unique_by_type types part (Some variant.Text) = refl
unique_by_type types part (Some variant.View) = refl
unique_by_type types part (Some (variant.Vector element)) = refl
unique_by_type types part (Some (variant.Unique target)) = refl
unique_by_type types part (Some (variant.Raw target constant)) = refl
unique_by_type types part (Some (variant.Reference target constant)) = refl
unique_by_type types part (Some (variant.Iterator target constant)) = refl
unique_by_type types part (Some (variant.Span target constant)) = refl
unique_by_type types part (Some (variant.Struct number)) = no_struct part (members_at types number)
