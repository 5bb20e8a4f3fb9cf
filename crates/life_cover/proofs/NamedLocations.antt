-- A local that names an object, or a member of it: where it lies by the rules, and in its object.
use Rattle.std.proofs.Common.{◌≡◌, ℕ, ◌+◌, ◌≤◌, Option, Some, refl, sym, ap, subst, ◌∙◌, arith}
use Rattle.std.specs.Prelude.{slice_get}
use Rattle.life_types.specs.Types.{Types}
use Rattle.life_types.specs.declared.ty.TyId.{TyId}
use Rattle.life_core.specs.Function.{Function}
use Rattle.life_core.specs.Operands.{Location}
use Rattle.life_pset.specs.Elements.{local_place}
use Rattle.life_pset.specs.declared.element.Fact.{Fact}
use Rattle.life_pset.specs.declared.element.Root.{Root}
use Rattle.life_contract.specs.Located.{located}
use Rattle.life_store.specs.Parts.{local_type, location_type, type_within, word_within}
use Rattle.life_store.specs.State.{Named, State}
use Rattle.life_forest.specs.FrameTypes.{IsVariable}
use Rattle.life_forest.specs.Within.{LiesWithin}
use Rattle.life_cover.specs.Frames.{RootStands}
use Rattle.life_cover.specs.Inputs.{StandsAt}
use Rattle.life_cover.specs.Regions.{IsAt, IsPart, Region}
use Rattle.life_cover.specs.Uniques.{word_in}
use Rattle.life_cover.proofs.ExactLocations.{room_length}
use Rattle.life_cover.proofs.KnownFrames.{IsKnownFrame, object_named}
use Rattle.life_cover.proofs.Making.{IsItsPath}
use Rattle.life_cover.proofs.MemberReach.{IsReady, ready}
use Rattle.life_cover.proofs.ObjectParts.{part_within}
use Rattle.life_cover.proofs.Opening.{place_part}
use Rattle.life_cover.proofs.Stepping.{members_at}

begun : (w : ℕ) → 0 + w ≡ w
begun w = omega arith

module _ (types : Types) (f : Function) (rest : ℕ → ℕ) (inputs : Root → Option Region) (S : Fact → Type 0) (st : State) (k : IsKnownFrame types f rest inputs S st) where
  pub record IsNamedAt (l : Location) (n : ℕ) (number : TyId) : Type 0 where
    pub variable : IsVariable st.world.content (local_type types f l.local) n
    pub lies : IsAt types st.world.content (RootStands types f (StandsAt inputs) st.cells) (located l) (record { object = n; word = word_in types f l; ty = number })
    pub path : IsItsPath (located l)
    pub short : (located l).length ≤ 8
    pub part : IsPart types st.world.content (record { object = n; word = word_in types f l; ty = number })
    pub within : LiesWithin types variable.object.ty (word_in types f l) number

  module _ (l : Location) (n : ℕ) (number : TyId) (named : slice_get st.cells l.local ≡ Some (Named n)) (typed : location_type types f l ≡ Some number) where
    abbrev v : IsVariable st.world.content (local_type types f l.local) n
    v = k.stands.frame.objects l.local n named

    abbrev start : Region
    start = record { object = n; word = 0; ty = (k.stands.frame.objects l.local n named).object.ty }

    at_start : IsAt types st.world.content (RootStands types f (StandsAt inputs) st.cells) (local_place l.local) start
    at_start = record { start = start; stands = (named, refl, v.type); lies = refl }

    inside : type_within types (Some v.object.ty) l.members ≡ Some number
    inside = subst (λ (id : Option TyId). type_within types id l.members ≡ Some number) v.type typed

    is_ready : IsReady types k.ordered f k.shaped k.short st (λ x m e. object_named types f rest inputs S st k x m e) inputs k.given.each l.members (local_place l.local)
    is_ready = ready types k.ordered f k.shaped k.short st (λ x m e. object_named types f rest inputs S st k x m e) inputs k.given.each l.members (local_place l.local) start number (record { eight = refl; made = refl }) at_start inside

    word : 0 + word_within types (Some v.object.ty) l.members ≡ word_in types f l
    word = begun (word_within types (Some v.object.ty) l.members) ∙ ap (λ (id : Option TyId). word_within types id l.members) (sym v.type)

    at_l : IsAt types st.world.content (RootStands types f (StandsAt inputs) st.cells) (located l) (record { object = n; word = word_in types f l; ty = number })
    at_l =
        subst (λ w. IsAt types st.world.content (RootStands types f (StandsAt inputs) st.cells) (located l) (record { object = n; word = w; ty = number })) word
        (members_at types st.world.content (RootStands types f (StandsAt inputs) st.cells) l.members (local_place l.local) start number is_ready.room is_ready.small inside at_start)

    part_of : IsPart types st.world.content (record { object = n; word = word_in types f l; ty = number })
    part_of = place_part types f rest inputs S st k (located l) (record { object = n; word = word_in types f l; ty = number }) at_l

    pub named_at : IsNamedAt l n number
    named_at = record {
      variable = v;
      lies = at_l;
      path = is_ready.path;
      short = let room = is_ready.room.fits in let long = room_length l.members (local_place l.local) is_ready.room is_ready.small in omega (arith, room, long);
      part = part_of;
      within = part_within types k.ordered v.object.ty (word_in types f l) number (part_of v.object v.there);
    }
