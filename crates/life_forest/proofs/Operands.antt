-- What an operand names is a place of its type.
use Rattle.std.proofs.Common.{◌≡◌, ℕ, ◌+◌, ◌<◌, Bool, true, false, List, [], ◌∷◌, length, Option, Some, None, refl, sym, ap, subst, ◌∙◌, arith}
use Rattle.std.specs.Prelude.{nat_lt, slice_get}
use Rattle.life_types.specs.Trees.{IsOrdered, members_at}
use Rattle.life_types.specs.Types.{Types}
use Rattle.life_types.specs.declared.ty.Ty.{Ty}
use Rattle.life_types.specs.declared.ty.Ty.TheVariants as ty
use Rattle.life_types.specs.declared.ty.TyId.{TyId}
use Rattle.life_core.specs.Function.{Function}
use Rattle.life_core.specs.Operands.{Location, Operand, Name, Through}
use Rattle.life_store.specs.Cells.{at}
use Rattle.life_store.specs.Content.{Object, Content}
use Rattle.life_store.specs.Effects.{Effect, cell, on_got}
use Rattle.life_store.specs.Parts.{Single, local_type, location_type, members_if, operand_type, parts_at, parts_if, parts_of, struct_of, target_in, target_type, type_within, word_within}
use Rattle.life_store.specs.Places.{Found, Here, Fixed, Outside, Wrong, Astray, Spot, behind_cell, found_if, found_in, found_text, here_if, is_valid, locate, location_cell, member_cell, named_by, on_found, on_location, on_spot, operand_word, owner_spot_if, pointer_word, reached_if, reached_in}
use Rattle.life_store.specs.State.{Pointer, Null, Wild, To, Static, Cell, Empty, Named, Number, Points, State}
use Rattle.life_store.proofs.CellLemmas.{none_some, some_same}
use Rattle.life_forest.specs.FrameTypes.{IsFrame, IsOfText, PointsWell, seen_in, seen_type}
use Rattle.life_forest.specs.Frames.{OnNext}
use Rattle.life_forest.specs.Within.{LiesWithin}
use Rattle.life_forest.proofs.FrameChanges.{lt_of}
use Rattle.life_forest.proofs.Laying.{parts_made}
use Rattle.life_forest.proofs.Members.{path_within, within_then}

-- a place of the type, with the word at which it begins
pub record IsPlace (types : Types) (c : Content) (part : TyId) (n i w : ℕ) (o : Object) : Type 0 where
  pub there : at c.objects n ≡ Some o
  pub slot : i < length o.slots
  pub within : LiesWithin types o.ty w part

abbrev pub FoundWell : Types → Content → TyId → ℕ → Found → Type 0
FoundWell types c part w (Here n i o) = IsPlace types c part n i w o
FoundWell types c part w (Fixed s) = parts_at types part ≡ Single
FoundWell types c part w Outside = Unit {0}
FoundWell types c part w (Wrong kind) = Unit {0}
FoundWell types c part w Astray = Unit {0}

-- what the pointer aims at that stands at the location
abbrev pub AimsFrom : Types → Function → State → Location → Type 0
AimsFrom types f st l = (p : Pointer) → location_cell types f l st ≡ Some (Points p) → PointsWell types st.world.content (seen_type types (location_type types f l)) p

abbrev pub OperandAims : Types → Function → State → Operand → Type 0
OperandAims types f st (Name l) = Unit {0}
OperandAims types f st (Through p members) = AimsFrom types f st p

seen_too : (types : Types) (o : Option Ty) (part : TyId) → target_in o ≡ Some part → seen_in types o ≡ Some part
seen_too types (Some ty.View) part e = absurd (none_some e)
seen_too types (Some (ty.Raw target constant)) part e = e
seen_too types (Some (ty.Reference target constant)) part e = e
seen_too types (Some (ty.Iterator target constant)) part e = e
seen_too types (Some (ty.Span target constant)) part e = e
seen_too types (Some _) part e = absurd (none_some e)
seen_too types None part e = absurd (none_some e)

target_seen : (types : Types) (id : Option TyId) (part : TyId) → target_type types id ≡ Some part → seen_type types id ≡ Some part
target_seen types None part e = absurd (none_some e)
target_seen types (Some id) part e = seen_too types (slice_get types.types id.0) part e

module _ (types : Types) (ordered : IsOrdered types) (f : Function) (st : State) (frame : IsFrame types f st.world.content st.cells) where
  abbrev c : Content
  c = st.world.content

  -- a whole local
  pub whole_aims : (l : Location) → l.members ≡ [] → AimsFrom types f st l
  whole_aims l whole p e =
      subst (λ (ms : List ℕ). PointsWell types c (seen_type types (type_within types (local_type types f l.local) ms)) p) (sym whole)
      (frame.pointers l.local p (sym (ap (λ (ms : List ℕ). member_cell types f l.local ms (cell st l.local) c) whole) ∙ e))

  -- ---- members of a local's object

  no_type : (ms : List ℕ) (part : TyId) → type_within types None ms ≡ Some part → ⊥
  no_type [] part e = none_some e
  no_type (m ∷ ms) part e = none_some e

  member_place : (x : ℕ) (ms : List ℕ) (part : TyId) (n : ℕ) → cell st x ≡ Some (Named n) → type_within types (local_type types f x) ms ≡ Some part
      → (o : Object) × IsPlace types c part n 0 (word_within types (local_type types f x) ms) o
  member_place x ms part n named typed =
      let v = frame.objects x n named in (
        v.object,
        record {
          there = v.there;
          slot = let l = ap (length) v.one in omega arith;
          within = subst (λ (id : Option TyId). LiesWithin types v.object.ty (word_within types id ms) part) (sym v.type)
              (path_within types ordered v.object.ty part ms (sym (ap (λ (id : Option TyId). type_within types id ms) v.type) ∙ typed));
        },
      )

  pub place_named : (l : Location) (part : TyId) → location_type types f l ≡ Some part → (n : ℕ) → cell st l.local ≡ Some (Named n)
      → (o : Object) × IsPlace types c part n 0 (word_within types (local_type types f l.local) l.members) o
  place_named l part typed n named = member_place l.local l.members part n named typed

  named_well : (l : Location) (part : TyId) → location_type types f l ≡ Some part → (v : Option Cell) → cell st l.local ≡ v → FoundWell types c part (word_within types (local_type types f l.local) l.members) (named_by c v)
  named_well l part typed None e = tt
  named_well l part typed (Some Empty) e = tt
  named_well l part typed (Some (Number z)) e = tt
  named_well l part typed (Some (Points p)) e = tt
  named_well l part typed (Some (Named n)) e =
      let place = place_named l part typed n e in
      subst (λ (x : Option Object). FoundWell types c part (word_within types (local_type types f l.local) l.members) (found_in x n 0)) (sym place.1.there) (if_here (nat_lt 0 (length place.0.slots)) place.0 place.1)
    where
      if_here : (b : Bool) (o : Object) → IsPlace types c part n 0 (word_within types (local_type types f l.local) l.members) o → FoundWell types c part (word_within types (local_type types f l.local) l.members) (here_if b n 0 o)
      if_here true o place = place
      if_here false o place = tt

  -- ---- what a pointer aims at

  -- a single value has no members
  single_within : (id : TyId) (ms : List ℕ) (part : TyId) → parts_at types id ≡ Single → type_within types (Some id) ms ≡ Some part → parts_at types part ≡ Single
  single_within id [] part single e = sym (ap (parts_at types) (some_same e)) ∙ single
  single_within id (m ∷ ms) part single e = absurd (no_type ms part (sym (ap (λ (ids : List TyId). type_within types (slice_get ids m) ms) (no_members (slice_get types.types id.0) refl)) ∙ e))
    where
      struct : (ids : List TyId) → struct_of (parts_at types) ids ≡ Single → ⊥
      struct [] k = cc
      struct (x ∷ ids) k = cc

      no_members : (o : Option Ty) → slice_get types.types id.0 ≡ o → members_if types o ≡ []
      no_members (Some (ty.Struct number)) there = absurd (struct (members_at types number) (sym (parts_made types ordered id ∙ ap (parts_of types (parts_at types)) there) ∙ single))
      no_members None there = refl
      no_members (Some _) there = refl

  through_well : (p : Location) (members : List ℕ) (part : TyId) (target : Option TyId) → target_type types (location_type types f p) ≡ target → type_within types target members ≡ Some part → (v : Option Cell)
      → ((q : Pointer) → v ≡ Some (Points q) → PointsWell types c (seen_type types (location_type types f p)) q) → FoundWell types c part (pointer_word v + word_within types target members) (behind_cell c v)
  through_well p members part target is typed None aims = tt
  through_well p members part target is typed (Some Empty) aims = tt
  through_well p members part target is typed (Some (Named n)) aims = tt
  through_well p members part target is typed (Some (Number z)) aims = tt
  through_well p members part target is typed (Some (Points Null)) aims = tt
  through_well p members part target is typed (Some (Points Wild)) aims = tt
  through_well p members part None is typed (Some (Points (Static s))) aims = absurd (no_type members part typed)
  through_well p members part (Some target) is typed (Some (Points (Static s))) aims = text s.text (aims (Static s) refl)
    where
      text : (n : Option ℕ) → IsOfText types (seen_type types (location_type types f p)) n → FoundWell types c part (0 + word_within types (Some target) members) (found_text n s)
      text None of = tt
      text (Some n) of = single_within target members part (sym (ap (parts_if types) (target_seen types (location_type types f p) target is)) ∙ of) typed
  through_well p members part None is typed (Some (Points (To t))) aims = absurd (no_type members part typed)
  through_well p members part (Some target) is typed (Some (Points (To t))) aims = if_valid (is_valid c t)
    where
      reached : (b : Bool) (o : Object) → nat_lt t.index (length o.slots) ≡ b → at c.objects t.object ≡ Some o → FoundWell types c part (t.word + word_within types (Some target) members) (reached_if b t.object t.index o)
      reached true o small there = record {
        there = there;
        slot = lt_of t.index (length o.slots) small;
        within = within_then types o.ty target part t.word (word_within types (Some target) members) ((aims (To t) refl).place o target there (target_seen types (location_type types f p) target is)) (path_within types ordered target part members typed);
      }
      reached false o small there = tt

      found : (x : Option Object) → at c.objects t.object ≡ x → FoundWell types c part (t.word + word_within types (Some target) members) (reached_in x t.object t.index)
      found None e = tt
      found (Some o) e = reached (nat_lt t.index (length o.slots)) o refl e

      if_valid : (b : Bool) → FoundWell types c part (t.word + word_within types (Some target) members) (found_if b c t)
      if_valid true = found (at c.objects t.object) refl
      if_valid false = tt

  -- ---- operands

  pub operand_well : (o : Operand) (part : TyId) → operand_type types f o ≡ Some part → OperandAims types f st o → FoundWell types c part (operand_word types f o st) (locate types f o st)
  operand_well (Name l) part typed aims = named_well l part typed (cell st l.local) refl
  operand_well (Through p members) part typed aims = through_well p members part (target_type types (location_type types f p)) refl typed (location_cell types f p st) aims

  -- what is done with the place that an operand names
  pub on_spot_next : (o : Operand) (part : TyId) (go : Spot → Effect) (Q : State → Type 0) → operand_type types f o ≡ Some part → OperandAims types f st o
      → ((n i w : ℕ) (object : Object) → IsPlace types c part n i w object → OnNext (go (record { object = n; index = i; word = w })) Q) → OnNext (on_spot types f o st go) Q
  on_spot_next o part go Q typed aims each = over (locate types f o st) (operand_well o part typed aims)
    where
      over : (found : Found) → FoundWell types c part (operand_word types f o st) found → OnNext (on_found found (λ n i object. go (record { object = n; index = i; word = operand_word types f o st }))) Q
      over (Here n i object) place = each n i (operand_word types f o st) object place
      over (Fixed s) place = tt
      over Outside place = tt
      over (Wrong kind) place = tt
      over Astray place = tt

  -- .. and a location
  pub on_location_next : (l : Location) (part : TyId) (go : Spot → Effect) (Q : State → Type 0) → location_type types f l ≡ Some part
      → ((n w : ℕ) (object : Object) → IsPlace types c part n 0 w object → OnNext (go (record { object = n; index = 0; word = w })) Q) → OnNext (on_location types f l st go) Q
  on_location_next l part go Q typed each = over (cell st l.local) refl
    where
      over : (v : Option Cell) → cell st l.local ≡ v → OnNext (on_got (owner_spot_if types f l v) go) Q
      over None e = tt
      over (Some Empty) e = tt
      over (Some (Number z)) e = tt
      over (Some (Points p)) e = tt
      over (Some (Named n)) e = let place = place_named l part typed n e in each n (word_within types (local_type types f l.local) l.members) place.0 place.1
