-- A vector or a string is changed, by its name or through a pointer, with which nothing is wrong: there is no fault, and the facts behind it
-- cover all pointers of the frame.
use Rattle.std.proofs.Common.{◌≡◌, ℕ, zero, suc, ◌+◌, ◌*◌, ◌<◌, Bool, true, false, List, [], ◌∷◌, ◌++◌, length, Option, Some, None, refl, sym, ap, subst, ◌∙◌, arith}
use Rattle.std.specs.Prelude.{ℤ, cond, nat_lt}
use Rattle.std.specs.Int.{cast_unsigned, w64}
use Rattle.std.proofs.lemmas.Bool.Decides.{nat_tests}
use Rattle.life_types.specs.Trees.{IsOrdered}
use Rattle.life_types.specs.TypeTests.{is_pointer}
use Rattle.life_types.specs.Types.{Types}
use Rattle.life_types.specs.declared.place.Place.{Place}
use Rattle.life_types.specs.declared.ty.TyId.{TyId}
use Rattle.life_core.specs.Function.{Function}
use Rattle.life_core.specs.Operands.{Location, Operand}
use Rattle.life_core.specs.Operands as named
use Rattle.life_core.specs.Step.{Append, Change, Changes, Clear, PopBack, PushBack, Reserve, Set}
use Rattle.life_pset.specs.Elements.{changed as owner_named, owner_changed}
use Rattle.life_pset.specs.Places.{path, under}
use Rattle.life_pset.specs.declared.element.AbsPlace.{AbsPlace}
use Rattle.life_pset.specs.declared.element.Element.TheVariants as element
use Rattle.life_pset.specs.declared.element.Fact.{Fact}
use Rattle.life_pset.specs.declared.element.Root.{Root}
use Rattle.life_contract.specs.Located.{located}
use Rattle.life_contract.specs.Signatures.{Signature}
use Rattle.life_proper.specs.Placed.{type_in}
use Rattle.life_rules.specs.Carrying.{writes}
use Rattle.life_rules.proofs.Giving.{at_head}
use Rattle.life_store.specs.Content.{Content, live_words_of, with_birth}
use Rattle.life_store.specs.Doing.{changed, does, edits, on_given, pushes}
use Rattle.life_store.specs.Edits.{Edit, Add, Clear as ClearAll, Pop, Push, Put, Reserve as Room, capacity_of, characters_of, edited, grown, owned_at, popped, pushed, regrown, reserved, rewritten, size_of, with_room}
use Rattle.life_store.specs.Effects.{Attempt, Got, GotTrap, GotFault, GotLost, Effect, Next, Setting, cell, got_or, on_got, on_number, put_content, then_get, word_of_number}
use Rattle.life_store.specs.Held.{resized_at}
use Rattle.life_store.specs.Owners.{Words, birth, sized_birth}
use Rattle.life_store.specs.Parts.{Parts, Single, Text, Vector, operand_parts, operand_type, parts_at, parts_if, width}
use Rattle.life_store.specs.Places.{Spot, location_cell}
use Rattle.life_store.specs.State.{Cell, Empty, Named, Number, Pointer, Points, State}
use Rattle.life_store.specs.declared.run.FaultKind.TheVariants as fault
use Rattle.life_store.specs.declared.run.TrapKind.TheVariants as trap
use Rattle.life_forest.specs.Forest.{Touches}
use Rattle.life_forest.specs.Kinds.{kinds_of}
use Rattle.life_forest.specs.Typed.{IsStore}
use Rattle.life_forest.specs.Within.{LiesWithin}
use Rattle.life_forest.proofs.Coming.{IfGot}
use Rattle.life_cover.specs.Covers.{IsCovered, Look}
use Rattle.life_cover.specs.Frames.{LocationsCovered, RootStands, look_in}
use Rattle.life_cover.specs.Kills.{Closed, LeftBy}
use Rattle.life_cover.specs.Regions.{Region, foot_of}
use Rattle.life_cover.specs.Roots.{AreRooted}
use Rattle.life_cover.proofs.Buffers.{clear_touches, pop_touches, push_touches, reserve_touches, rewrite_touches}
use Rattle.life_cover.proofs.Changes.{place_cover}
use Rattle.life_cover.proofs.Inside.{lies_true}
use Rattle.life_cover.proofs.Left.{left_by_name, left_through}
use Rattle.life_cover.proofs.Pointers.{IfRight, OnRight, right_then}
use Rattle.life_cover.proofs.Reaching.{IsReached, spot_is}
use Rattle.life_cover.proofs.Using.{Faultless}

-- ---- no births are faults

pub right_got : {A : Type 0} (x : Attempt A) (P : A → Type 0) → IfGot x P → Faultless x → IfRight x P
right_got (Got a) P h k = h
right_got (GotTrap kind) P h k = tt
right_got (GotFault kind) P h k = k
right_got GotLost P h k = tt

pub faultless_then : {A B : Type 0} (x : Attempt A) (go : A → Attempt B) → Faultless x → ((a : A) → Faultless (go a)) → Faultless (then_get x go)
faultless_then (Got a) go h each = each a
faultless_then (GotTrap kind) go h each = tt
faultless_then (GotFault kind) go h each = h
faultless_then GotLost go h each = tt

pub faultless_if : {A : Type 0} (b : Bool) (x y : Attempt A) → Faultless x → Faultless y → Faultless (cond b x y)
faultless_if true x y h k = h
faultless_if false x y h k = k

pub birth_faultless : (s : Setting) (ty : TyId) (w capacity : ℕ) (c : Content) → Faultless (birth s ty w capacity c)
birth_faultless s ty w capacity c = faultless_if {A = ℕ × Content} (nat_lt s.given.cells (live_words_of c + (2 + w * capacity))) (GotTrap trap.Cells) (Got (c.births, with_birth ty w capacity c)) tt tt

regrown_faultless : (s : Setting) (ty : TyId) (element : Parts) (b capacity size : ℕ) (c : Content) → Faultless (regrown s ty element b capacity size c)
regrown_faultless s ty element b capacity size c = faultless_then (birth s ty (width element) capacity c) _ (birth_faultless s ty (width element) capacity c) (λ f. tt)

reserved_faultless : (s : Setting) (ty : TyId) (element : Parts) (spot : Spot) (b capacity : ℕ) (c : Content) → Faultless (reserved s ty element spot b capacity c)
reserved_faultless s ty element spot b capacity c =
    faultless_if {A = Content} (nat_lt (capacity_of c b) capacity) (then_get (regrown s ty element b capacity (size_of c b) c) _) (Got c) (faultless_then (regrown s ty element b capacity (size_of c b) c) _ (regrown_faultless s ty element b capacity (size_of c b) c) (λ f. tt)) tt

pub pushed_faultless : (s : Setting) (ty : TyId) (element : Parts) (spot : Spot) (b : ℕ) (value : Content → Words) (c : Content) → Faultless (pushed s ty element spot b value c)
pushed_faultless s ty element spot b value c =
    faultless_then (with_room s ty element b c) _
    (faultless_if (nat_lt (size_of c b) (capacity_of c b)) (Got (b, resized_at b (size_of c b + 1) (size_of c b) c)) (regrown s ty element b (grown s.given.growth (size_of c b) (capacity_of c b)) (size_of c b + 1) c) tt
    (regrown_faultless s ty element b (grown s.given.growth (size_of c b) (capacity_of c b)) (size_of c b + 1) c))
    (λ f. tt)

pub rewritten_faultless : (s : Setting) (ty : TyId) (spot : Spot) (b : ℕ) (words : List ℕ) (c : Content) → Faultless (rewritten s ty spot b words c)
rewritten_faultless s ty spot b words c = faultless_then (sized_birth s ty 1 (length words) c) _ (faultless_then (birth s ty 1 (length words) c) _ (birth_faultless s ty 1 (length words) c) (λ f. tt)) (λ f. tt)

pub number_right : (v : Option Cell) (go : ℤ → Effect) (Q : State → Type 0) → ((z : ℤ) → OnRight (go z) Q) → OnRight (on_number v go) Q
number_right None go Q each = tt
number_right (Some Empty) go Q each = tt
number_right (Some (Named n)) go Q each = tt
number_right (Some (Points p)) go Q each = tt
number_right (Some (Number z)) go Q each = each z

pub right_more : {A : Type 0} (x : Attempt A) (P Q : A → Type 0) → IfRight x P → ((a : A) → P a → Q a) → IfRight x Q
right_more (Got a) P Q h more = more a h
right_more (GotTrap kind) P Q h more = tt
right_more (GotFault kind) P Q h more = h
right_more GotLost P Q h more = tt

lt_true : (a b : ℕ) → a < b → nat_lt a b ≡ true
lt_true a b h = grind (arith, nat_tests)

-- what the rules leave of the facts where an operand is changed
pub operand_left : (types : Types) (f : Function) (st : State) (Input : Root → Region → Type 0) (may_change : Root → Bool) (sigs : List Signature) (place : Place) (change : Change) (S S' : Fact → Type 0) (o : Operand) (r : IsReached types f st Input may_change S o)
    → Closed sigs types f place (Changes o change) S S' → (Stands : Root → Region → Type 0) → LeftBy Stands (under r.place) (writes (Changes o change)) S S'
operand_left types f st Input may_change sigs place change S S' (named.Name l) r closed Stands =
    subst (λ (a : AbsPlace). LeftBy Stands (under a) (writes (Changes (named.Name l) change)) S S') (sym r.by)
    (left_by_name sigs types f place (Changes (named.Name l) change) S S' closed Stands (record { owner = located l; cause = owner_named place l.local }) refl (λ e. refl) (at_head (element.Invalid (owner_named place l.local)) []))
operand_left types f st Input may_change sigs place change S S' (named.Through p members) r closed Stands =
    subst (λ (a : AbsPlace). LeftBy Stands (under a) (writes (Changes (named.Through p members) change)) S S') (sym r.by.2)
    (left_through sigs types f place (Changes (named.Through p members) change) S S' closed Stands p members r.by.0 r.by.1 (λ x y. refl) (λ e. refl) (at_head (element.Invalid (owner_changed place)) []))

-- so a change of what an operand is leaves all other pointers covered
pub operand_changed : (types : Types) (ordered : IsOrdered types) (f : Function) (hand : ℕ → ℕ) (st : State) (store : IsStore types hand st.world.content) (Input : Root → Region → Type 0) (may_change owning : Root → Bool)
    (rooted : AreRooted types st.world.content (RootStands types f Input st.cells) owning) (sigs : List Signature) (place : Place) (change : Change) (S S' : Fact → Type 0) (o : Operand) (r : IsReached types f st Input may_change S o) → owning r.place.root ≡ true
    → Closed sigs types f place (Changes o change) S S' → (d : Content) → Touches (kinds_of types) (foot_of types r.region) st.world.content d → (q : AbsPlace) (look : Look) (v : Pointer) → writes (Changes o change) q ≡ false
    → IsCovered types st.world.content (RootStands types f Input st.cells) may_change S q look v → IsCovered types d (RootStands types f Input st.cells) may_change S' q look v
operand_changed types ordered f hand st store Input may_change owning rooted sigs place change S S' o r own closed d touch =
    place_cover types ordered hand st.world.content d store (RootStands types f Input st.cells) may_change owning rooted r.place r.region own r.lies touch (writes (Changes o change)) S S'
    (operand_left types f st Input may_change sigs place change S S' o r closed (RootStands types f Input st.cells))

module _ (types : Types) (ordered : IsOrdered types) (f : Function) (hand : ℕ → ℕ) (st : State) (store : IsStore types hand st.world.content) (Input : Root → Region → Type 0) (may_change owning : Root → Bool)
    (rooted : AreRooted types st.world.content (RootStands types f Input st.cells) owning) (sigs : List Signature) (place : Place) (S S' : Fact → Type 0) (old : LocationsCovered types f Input may_change S st)
    (o : Operand) (r : IsReached types f st Input may_change S o) (own : owning r.place.root ≡ true)
    (held : (d : Content) → Touches (kinds_of types) (foot_of types r.region) st.world.content d → (l : Location) (v : Pointer) → is_pointer (type_in types f l) ≡ true → location_cell types f l (put_content d st) ≡ Some (Points v) → location_cell types f l st ≡ Some (Points v)) (typed : operand_type types f o ≡ Some r.region.ty) (b : ℕ)
    (owned : owned_at st.world.content (record { object = r.region.object; index = r.index; word = r.region.word }) ≡ Some b) (s : Setting) where
  abbrev c : Content
  c = st.world.content

  abbrev spot : Spot
  spot = record { object = r.region.object; index = r.index; word = r.region.word }

  parts_are : operand_parts types f o ≡ parts_at types r.region.ty
  parts_are = ap (parts_if types) typed

  pub within : LiesWithin types r.holder.ty r.region.word r.region.ty
  within = lies_true types ordered hand st.world.content store (path r.place) r.lies.start r.region (rooted.fits r.place.root r.lies.start r.lies.stands) r.lies.lies r.holder r.there

  -- what touches only what it owns leaves all covered
  pub touched_covered : (change : Change) → Closed sigs types f place (Changes o change) S S' → ((a : AbsPlace) → writes (Changes o change) a ≡ false) → (d : Content)
      → Touches (kinds_of types) (foot_of types r.region) st.world.content d → LocationsCovered types f Input may_change S' (put_content d st)
  touched_covered change closed none d touch l v pointer e =
      operand_changed types ordered f hand st store Input may_change owning rooted sigs place change S S' o r own closed d touch (located l) (look_in types f l) v (none (located l)) (old l v pointer (held d touch l v pointer e))

  edit_right : (p : Parts) (edit : Edit) (Q : State → Type 0) → IfRight (edited s p (record { object = r.region.object; index = r.index; word = r.region.word }) b edit st.world.content) (λ d. Q (put_content d st)) → OnRight (edits s p (record { object = r.region.object; index = r.index; word = r.region.word }) edit st) Q
  edit_right p edit Q h =
      subst (λ w. OnRight (on_got (got_or w (GotFault fault.Moved)) go) Q) (sym owned)
      (right_then (edited s p spot b edit st.world.content) (λ d. Next (put_content d st)) (λ d. Q (put_content d st)) Q h (λ d k. k))
    where
      go : ℕ → Effect
      go m = on_got (edited s p spot m edit st.world.content) (λ d. Next (put_content d st))

  -- a change that is an edit
  by_edit : (p : Parts) → parts_at types r.region.ty ≡ p → (change : Change) (Q : State → Type 0) → OnRight (changed s types f p (record { object = r.region.object; index = r.index; word = r.region.word }) change st) Q → OnRight (does s types f (Changes o change) st) Q
  by_edit p is change Q h =
      subst (λ e. OnRight e Q) (sym (spot_is types f st Input may_change S o r (λ sp. changed s types f (operand_parts types f o) sp change st)))
      (subst (λ q. OnRight (changed s types f q spot change st) Q) (sym (parts_are ∙ is)) h)

  -- ---- vectors

  module _ (ty : TyId) (element : Parts) (is_vector : parts_at types r.region.ty ≡ Vector ty element) where
    pub pop_kind : Closed sigs types f place (Changes o PopBack) S S' → OnRight (does s types f (Changes o PopBack) st) (LocationsCovered types f Input may_change S')
    pop_kind closed =
        by_edit (Vector ty element) is_vector PopBack (LocationsCovered types f Input may_change S')
        (edit_right (Vector ty element) Pop (LocationsCovered types f Input may_change S') (sizes (size_of st.world.content b)))
      where
        sizes : (size : ℕ) → IfRight (popped element b size st.world.content) (λ d. LocationsCovered types f Input may_change S' (put_content d st))
        sizes zero = tt
        sizes (suc k) = touched_covered PopBack closed (λ y. refl) _ (pop_touches types ordered hand st.world.content store r.region.object r.index r.region.word r.region.ty r.holder r.there within r.small ty element is_vector b owned k)

    pub clear_kind : Closed sigs types f place (Changes o Clear) S S' → OnRight (does s types f (Changes o Clear) st) (LocationsCovered types f Input may_change S')
    clear_kind closed =
        by_edit (Vector ty element) is_vector Clear (LocationsCovered types f Input may_change S')
        (edit_right (Vector ty element) ClearAll (LocationsCovered types f Input may_change S')
        (touched_covered Clear closed (λ y. refl) _ (clear_touches types ordered hand st.world.content store r.region.object r.index r.region.word r.region.ty r.holder r.there within r.small ty element is_vector b owned)))

    pub reserve_kind : (count : ℕ) → Closed sigs types f place (Changes o (Reserve count)) S S' → OnRight (does s types f (Changes o (Reserve count)) st) (LocationsCovered types f Input may_change S')
    reserve_kind count closed =
        by_edit (Vector ty element) is_vector (Reserve count) (LocationsCovered types f Input may_change S')
        (number_right (cell st count) (λ z. edits s (Vector ty element) spot (Room (cast_unsigned w64 z)) st) (LocationsCovered types f Input may_change S')
        (λ z. edit_right (Vector ty element) (Room (cast_unsigned w64 z)) (LocationsCovered types f Input may_change S')
        (right_more (reserved s ty element spot b (cast_unsigned w64 z) st.world.content) (Touches (kinds_of types) (foot_of types r.region) st.world.content) (λ d. LocationsCovered types f Input may_change S' (put_content d st))
        (right_got (reserved s ty element spot b (cast_unsigned w64 z) st.world.content) (Touches (kinds_of types) (foot_of types r.region) st.world.content)
        (reserve_touches types ordered hand st.world.content store r.region.object r.index r.region.word r.region.ty r.holder r.there within r.small ty element is_vector b owned s (cast_unsigned w64 z)) (reserved_faultless s ty element spot b (cast_unsigned w64 z) st.world.content))
        (λ d touch. touched_covered (Reserve count) closed (λ y. refl) d touch))))

  -- a number is added
  pub push_kind : (ty : TyId) → parts_at types r.region.ty ≡ Vector ty Single → (y : ℕ) (z : ℤ) → cell st y ≡ Some (Number z) → Closed sigs types f place (Changes o (PushBack y)) S S'
      → OnRight (does s types f (Changes o (PushBack y)) st) (LocationsCovered types f Input may_change S')
  push_kind ty is_vector y z number closed =
      by_edit (Vector ty Single) is_vector (PushBack y) (LocationsCovered types f Input may_change S')
      (subst (λ v. OnRight (pushes s types f (Vector ty Single) spot y v st) (LocationsCovered types f Input may_change S')) (sym number)
      (edit_right (Vector ty Single) (Push (λ d. (word_of_number z ∷ [], d))) (LocationsCovered types f Input may_change S')
      (right_more (pushed s ty Single spot b (λ d. (word_of_number z ∷ [], d)) st.world.content) (Touches (kinds_of types) (foot_of types r.region) st.world.content) (λ d. LocationsCovered types f Input may_change S' (put_content d st))
      (right_got (pushed s ty Single spot b (λ d. (word_of_number z ∷ [], d)) st.world.content) (Touches (kinds_of types) (foot_of types r.region) st.world.content)
      (push_touches types ordered hand st.world.content store r.region.object r.index r.region.word r.region.ty r.holder r.there within r.small ty Single is_vector b owned s (word_of_number z ∷ []) refl (λ k. refl))
      (pushed_faultless s ty Single spot b (λ d. (word_of_number z ∷ [], d)) st.world.content))
      (λ d touch. touched_covered (PushBack y) closed (λ w. refl) d touch))))

  -- ---- strings

  module _ (ty : TyId) (is_text : parts_at types r.region.ty ≡ Text ty) where
    rewrite_right : (change : Change) → Closed sigs types f place (Changes o change) S S' → ((a : AbsPlace) → writes (Changes o change) a ≡ false) → (words : List ℕ)
        → IfRight (rewritten s ty (record { object = r.region.object; index = r.index; word = r.region.word }) b words st.world.content) (λ d. LocationsCovered types f Input may_change S' (put_content d st))
    rewrite_right change closed none words =
        right_more (rewritten s ty spot b words st.world.content) (Touches (kinds_of types) (foot_of types r.region) st.world.content) (λ d. LocationsCovered types f Input may_change S' (put_content d st))
        (right_got (rewritten s ty spot b words st.world.content) (Touches (kinds_of types) (foot_of types r.region) st.world.content)
        (rewrite_touches types ordered hand st.world.content store r.region.object r.index r.region.word r.region.ty r.holder r.there within r.small ty is_text b owned s words) (rewritten_faultless s ty spot b words st.world.content))
        (λ d touch. touched_covered change closed none d touch)

    pub clear_text_kind : Closed sigs types f place (Changes o Clear) S S' → OnRight (does s types f (Changes o Clear) st) (LocationsCovered types f Input may_change S')
    clear_text_kind closed =
        by_edit (Text ty) is_text Clear (LocationsCovered types f Input may_change S')
        (edit_right (Text ty) ClearAll (LocationsCovered types f Input may_change S') (rewrite_right Clear closed (λ y. refl) []))

    -- a character is added
    pub push_character_kind : (y : ℕ) (z : ℤ) → cell st y ≡ Some (Number z) → Closed sigs types f place (Changes o (PushBack y)) S S'
        → OnRight (does s types f (Changes o (PushBack y)) st) (LocationsCovered types f Input may_change S')
    push_character_kind y z number closed =
        by_edit (Text ty) is_text (PushBack y) (LocationsCovered types f Input may_change S')
        (subst (λ v. OnRight (pushes s types f (Text ty) spot y v st) (LocationsCovered types f Input may_change S')) (sym number)
        (edit_right (Text ty) (Push (λ d. (word_of_number z ∷ [], d))) (LocationsCovered types f Input may_change S') (rewrite_right (PushBack y) closed (λ w. refl) (characters_of st.world.content b ++ (word_of_number z ∷ [])))))

    -- set to characters, or appended to, where these are those of a view that may be used, or one character
    module _ (given : named.Characters) (can : (go : List ℕ → Effect) (Q : State → Type 0) → ((ws : List ℕ) → OnRight (go ws) Q) → OnRight (on_given s types f given st go) Q) where
      pub set_kind : Closed sigs types f place (Changes o (Set given)) S S' → OnRight (does s types f (Changes o (Set given)) st) (LocationsCovered types f Input may_change S')
      set_kind closed =
          by_edit (Text ty) is_text (Set given) (LocationsCovered types f Input may_change S')
          (can (λ ws. edits s (Text ty) spot (Put ws) st) (LocationsCovered types f Input may_change S')
          (λ ws. edit_right (Text ty) (Put ws) (LocationsCovered types f Input may_change S') (rewrite_right (Set given) closed (λ y. refl) ws)))

      pub append_kind : Closed sigs types f place (Changes o (Append given)) S S' → OnRight (does s types f (Changes o (Append given)) st) (LocationsCovered types f Input may_change S')
      append_kind closed =
          by_edit (Text ty) is_text (Append given) (LocationsCovered types f Input may_change S')
          (can (λ ws. edits s (Text ty) spot (Add ws) st) (LocationsCovered types f Input may_change S')
          (λ ws. edit_right (Text ty) (Add ws) (LocationsCovered types f Input may_change S') (rewrite_right (Append given) closed (λ y. refl) (characters_of st.world.content b ++ ws))))
