-- A call that is given owners: what is given over stands before it, and is gone behind it; its result goes to a register, or to a temporary that it brings to life.
use Rattle.std.proofs.Common.{◌≡◌, ◌<◌, ◌≤◌, ◌⊎◌, inl, inr, ℕ, Bool, true, false, ◌&&◌, List, [], ◌∷◌, ◌++◌, flat_map, length, slice_get, slice_set, Option, Some, None, refl, sym, ap, ◌∙◌, subst, arith, append_assoc, append-nil, if◌then◌else◌}
use Rattle.std.proofs.lemmas.Bool.{and_from, false≢true}
use Rattle.std.proofs.lemmas.Option.{slice_get_within}
use Rattle.life_types.specs.Pointees.{ty_of}
use Rattle.life_types.specs.TypeTests.{is_value}
use Rattle.life_types.specs.Types.{Types}
use Rattle.life_types.specs.declared.place.Place.{Place}
use Rattle.life_types.specs.declared.ty.Ty.{Ty}
use Rattle.life_types.specs.declared.ty.Ty.TheVariants as ty
use Rattle.life_types.specs.declared.ty.TyId.{TyId}
use Rattle.life_typed.specs.Programs.{FunctionForm}
use Rattle.life_core.specs.Function.{Function}
use Rattle.life_core.specs.Kinds.{is_object_at}
use Rattle.life_core.specs.Operands.{Argument, GivenOver, Location, PointerOf, Slot, Value, whole}
use Rattle.life_core.specs.Touched.{argument_leaves, argument_uses, if_object, touched_by, unless_object}
use Rattle.life_core.specs.Tree.{Acts, Tree, trees}
use Rattle.life_proper.specs.GivenOver.{given_argument, given_spot}
use Rattle.life_proper.specs.Knowing.{known_at, same}
use Rattle.life_proper.specs.ReadyKnown.{are_known, are_ready, can_leave, is_known, known_after, set_known}
use Rattle.life_proper.specs.WellFormed.{goes_to, is_call}
use Rattle.life_proper.specs.declared.known.Known.{Known}
use Rattle.life_proper.specs.declared.known.Known.TheVariants as known
use Rattle.life_proper.proofs.ReadyTests.{all_ready, both_known, one_known}
use Rattle.life_well_typed.specs.Expressions.{parameter_types}
use Rattle.life_writer.specs.Calls.{called, called_alone}
use Rattle.life_writer.specs.Registers.{computed, target}
use Rattle.life_writer.specs.Writing.{Gives, State, emit, gives}
use Rattle.life_elab_laws.proofs.Among.{Among, Apart, ascend_apart}
use Rattle.life_elab_laws.proofs.BornLocals.{Bears, codes_bear}
use Rattle.life_elab_laws.proofs.CallParts.{call_formed, goes_value}
use Rattle.life_elab_laws.proofs.Calls.{IsCallee, one_local}
use Rattle.life_elab_laws.proofs.Emitting.{Targets, keeps_set, nameless_no_object, targeted}
use Rattle.life_elab_laws.proofs.Falling.{Falls, falls_acts, falls_append}
use Rattle.life_elab_laws.proofs.Gifts.{AreFit, AreHandedFor, Gift, a_number, all_handed, nothing as no_gift}
use Rattle.life_elab_laws.proofs.GivenApart.{AreApart, Open, given_of, nil_right, parts_of, then_opens}
use Rattle.life_elab_laws.proofs.LookedLocals.{looked_argument, looked_of, looked_spot}
use Rattle.life_elab_laws.proofs.Growing.{Begins, Grows, begins_before, grows_then}
use Rattle.life_elab_laws.proofs.HandedArguments.{Hands}
use Rattle.life_elab_laws.proofs.Handing.{GoesHanding, RunsHanding}
use Rattle.life_elab_laws.proofs.Held.{blank_there, one_there, ready_there}
use Rattle.life_elab_laws.proofs.UnseenLocals.{all_leave, set_there, used_there}
use Rattle.life_elab_laws.proofs.Instructions.{IsIntoOf, into_of_later, is_into, target_number}
use Rattle.life_elab_laws.proofs.Knowledge.{at_set}
use Rattle.life_elab_laws.proofs.Making.{Alive, IsBeside, keeps_then}
use Rattle.life_elab_laws.proofs.Parts.{Goes, Makes}
use Rattle.life_elab_laws.proofs.Shaping.{IsFine, fine_append, fine_gives}
use Rattle.life_elab_laws.proofs.StillThere.{alive_grown, alive_set}
use Rattle.life_elab_laws.proofs.WrittenLocals.{AddsRegisters, registers_then}

-- ---- what a call touches

module _ (f : Function) where
  -- what is given over are objects
  abbrev pub AreObjects : List Argument → Type 0
  AreObjects xs = (x : ℕ) → Among x (flat_map given_argument xs) → is_object_at f x ≡ true

  handed_used : (ids : List TyId) (xs : List Argument) (n : ℕ) (k : List Known) → AreHandedFor ids xs n k → AreObjects xs → are_known known.Ready k (flat_map (argument_uses f) xs) ≡ true
  handed_used [] [] n k h o = refl
  handed_used (id ∷ ids) (Value r ∷ xs) n k h o = and_from (is_known known.Ready k r) (are_known known.Ready k (flat_map (argument_uses f) xs)) (ready_there k r h.0.1) (handed_used ids xs n k h.1 o)
  handed_used (id ∷ ids) (PointerOf l ∷ xs) n k h o =
      and_from (is_known known.Ready k l.local) (are_known known.Ready k (flat_map (argument_uses f) xs)) (ready_there k l.local (ap (known_at k) h.0.is ∙ h.0.held)) (handed_used ids xs n k h.1 o)
  handed_used (id ∷ ids) (GivenOver x ∷ xs) n k h o =
      ap (λ (b : Bool). are_known known.Ready k ((if b then [] else x ∷ []) ++ flat_map (argument_uses f) xs)) (o x (inl refl)) ∙ handed_used ids xs n k h.1 (λ y m. o y (inr m))
  handed_used _ _ n k h o = absurd h

  handed_leave : (xs : List Argument) → AreObjects xs → flat_map (argument_leaves f) xs ≡ flat_map given_argument xs
  handed_leave [] o = refl
  handed_leave (Value r ∷ xs) o = handed_leave xs o
  handed_leave (PointerOf l ∷ xs) o = handed_leave xs o
  handed_leave (Slot l ∷ xs) o = handed_leave xs o
  handed_leave (GivenOver x ∷ xs) o =
      ap (λ (b : Bool). (if b then x ∷ [] else []) ++ flat_map (argument_leaves f) xs) (o x (inl refl)) ∙ ap (λ (ys : List ℕ). x ∷ ys) (handed_leave xs (λ y m. o y (inr m)))

  -- no slot is handed
  pub handed_looks : (ids : List TyId) (xs : List Argument) (n : ℕ) (k : List Known) → AreHandedFor ids xs n k → flat_map looked_argument xs ≡ []
  handed_looks [] [] n k h = refl
  handed_looks (id ∷ ids) (Value r ∷ xs) n k h = handed_looks ids xs n k h.1
  handed_looks (id ∷ ids) (PointerOf l ∷ xs) n k h = handed_looks ids xs n k h.1
  handed_looks (id ∷ ids) (GivenOver x ∷ xs) n k h = handed_looks ids xs n k h.1
  handed_looks _ _ n k h = absurd h

  module _ (g : ℕ) (ids : List TyId) (xs : List Argument) (n : ℕ) (k : List Known) (numbers : AreHandedFor ids xs n k) (objects : AreObjects xs) (apart : Apart (flat_map given_argument xs))
      (blank : (x : ℕ) → Among x (flat_map given_argument xs) → known_at k x ≡ known.Blank) where
    abbrev over : List ℕ
    over = flat_map given_argument xs

    -- where they are there
    abbrev j : List Known
    j = set_known known.Ready over k

    used : are_known known.Ready j (flat_map (argument_uses f) xs ++ []) ≡ true
    used = both_known known.Ready j (flat_map (argument_uses f) xs) [] (used_there over apart k blank (flat_map (argument_uses f) xs) (handed_used ids xs n k numbers objects)) refl

    leaves : can_leave j (flat_map (argument_leaves f) xs) ≡ true
    leaves = ap (can_leave j) (handed_leave xs objects) ∙ (all_leave over apart k blank).0

    gone : set_known known.Blank (flat_map (argument_leaves f) xs) j ≡ k
    gone = ap (λ (ys : List ℕ). set_known known.Blank ys j) (handed_leave xs objects) ∙ (all_leave over apart k blank).1

    -- its result goes to a local that isn't given over
    pub handed_ready : (x : ℕ) → are_known known.Blank k (if_object f x) ≡ true → (Among x over → ⊥) → are_ready j (touched_by f (called g xs (whole x))) ≡ true
    handed_ready x born aside = all_ready j (touched_by f (called g xs (whole x))) used leaves (go (is_object_at f x) born)
      where
        go : (b : Bool) → are_known known.Blank k (if b then x ∷ [] else []) ≡ true → are_known known.Blank j (if b then x ∷ [] else []) ≡ true
        go true h = ap (λ (b : Known). same b known.Blank && true) (set_there x known.Ready k over aside).1 ∙ h
        go false h = refl

    pub handed_after : (x : ℕ) → known_after (touched_by f (called g xs (whole x))) j ≡ slice_set k x known.Ready
    handed_after x =
        ap (set_known known.Ready (if_object f x ++ unless_object f x)) gone
        ∙ ap (λ (here : List ℕ). set_known known.Ready here k) (one_local (is_object_at f x) x)

    -- .. or to a member of one, which is there before
    pub handed_part_ready : (x m : ℕ) (ms : List ℕ) → known_at k x ≡ known.Ready → (Among x over → ⊥) → are_ready j (touched_by f (called g xs (record { local = x; members = m ∷ ms }))) ≡ true
    handed_part_ready x m ms held aside =
        all_ready j (touched_by f (called g xs (record { local = x; members = m ∷ ms })))
        (both_known known.Ready j (flat_map (argument_uses f) xs) (x ∷ []) (used_there over apart k blank (flat_map (argument_uses f) xs) (handed_used ids xs n k numbers objects)) (one_there j x ((set_there x known.Ready k over aside).1 ∙ held)))
        leaves refl

    pub handed_part_after : (x m : ℕ) (ms : List ℕ) → known_after (touched_by f (called g xs (record { local = x; members = m ∷ ms }))) j ≡ k
    handed_part_after x m ms = gone

    pub handed_alone_ready : are_ready j (touched_by f (called_alone g xs)) ≡ true
    handed_alone_ready = all_ready j (touched_by f (called_alone g xs)) used leaves refl

    pub handed_alone_after : known_after (touched_by f (called_alone g xs)) j ≡ k
    handed_alone_after = gone

module _ (types : Types) (texts : ℕ) (fs : List Function) (f : Function) where
  -- ---- the local that takes the result

  -- it is a register, or new
  pub record Receives (into : Option ℕ) (s : State) (x : ℕ) (v : State) : Type 0 where
    pub grown : Grows s v
    pub registers : AddsRegisters types s v
    pub unwritten : v.code ≡ s.code
    pub opens : (y : ℕ) → Open v y → Open s y ⊎ ((length s.locals ≤ y) × (y < length v.locals))
    pub below : x < length v.locals
    pub beside : (y : ℕ) → y < length s.locals → IsBeside into y → x ≡ y → ⊥
    pub aside : Begins types f v → (y : ℕ) → y < length s.locals → is_object_at f y ≡ true → x ≡ y → ⊥
    pub new : Begins types f v → is_object_at f x ≡ true → length s.locals ≤ x
    pub blank : Begins types f v → (k : List Known) → Alive f s k → are_known known.Blank k (if_object f x) ≡ true
    pub there : Begins types f v → (k : List Known) → Alive f s k → known_at (slice_set k x known.Ready) x ≡ known.Ready
    pub alive : Begins types f v → (k : List Known) → Alive f s k → Alive f v (slice_set k x known.Ready)

  pub register_receives : (into : Option ℕ) (s : State) (w : Gives ℕ) → Targets types f into s w → Receives into s w.given w.state
  register_receives into s w t = record {
    grown = t.grown;
    registers = t.registers;
    unwritten = t.unwritten;
    opens = λ y o. elim o [ inl m ↦ inl (inl (subst (Among y) t.grown.living m)) | inr m ↦ inl (inr (subst (Among y) t.level m)) ];
    below = t.below;
    beside = t.beside;
    aside = λ b y lt object e. false≢true (sym (nameless_no_object f w.given (t.there b)) ∙ ap (is_object_at f) e ∙ object);
    new = λ b object. absurd (false≢true (sym (nameless_no_object f w.given (t.there b)) ∙ object));
    blank = λ b k alive. ap (λ (object : Bool). are_known known.Blank k (if object then w.given ∷ [] else [])) (nameless_no_object f w.given (t.there b));
    there = λ b k alive. at_set k w.given known.Ready (let is = t.there b in omega (arith, alive.sized, slice_get_within f.locals w.given is.local is.there));
    alive = λ b k alive. alive_set f w.state k w.given (t.there b) (alive_grown f s w.state k t.level t.grown alive);
  }

  -- ---- the call

  module _ (g : ℕ) (of : FunctionForm) (callee : IsCallee types fs g of) (s : State) (w : Gives (List Argument)) (hands : Hands types texts fs f (parameter_types (Some of)) s w) where
    abbrev ids : List TyId
    ids = parameter_types (Some of)

    abbrev given : List ℕ
    given = flat_map given_argument w.given

    own_each : Apart given
    own_each = ascend_apart (length s.locals) given hands.ascend

    formed : (to : Option Location) → AreFit types texts fs f ids w.given → goes_to types texts fs f (ty_of types of.result) to ≡ true → is_call types texts fs f (slice_get fs g) to w.given ≡ true
    formed to is goes = call_formed types texts fs f g w.given of to callee is goes

    -- what is looked at and given over, in all
    seen_in_all : (calls : List Tree) → looked_of (trees calls) ≡ [] → looked_of (trees (hands.code ++ calls)) ≡ looked_of (trees hands.code)
    seen_in_all calls none = parts_of looked_spot hands.code calls ∙ ap (λ (ys : List ℕ). looked_of (trees hands.code) ++ ys) none ∙ append-nil (looked_of (trees hands.code))

    given_in_all : (calls : List Tree) → given_of (trees calls) ≡ given → given_of (trees (hands.code ++ calls)) ≡ given_of (trees hands.code) ++ given
    given_in_all calls same = parts_of given_spot hands.code calls ∙ ap (λ (ys : List ℕ). given_of (trees hands.code) ++ ys) same

    all_apart : (calls : List Tree) (v : State) → looked_of (trees calls) ≡ [] → given_of (trees calls) ≡ given → AreApart f s v (looked_of (trees hands.code)) (given_of (trees hands.code) ++ given)
        → AreApart f s v (looked_of (trees (hands.code ++ calls))) (given_of (trees (hands.code ++ calls)))
    all_apart calls v none same h =
        subst (λ (xs : List ℕ). AreApart f s v xs (given_of (trees (hands.code ++ calls)))) (sym (seen_in_all calls none))
        (subst (AreApart f s v (looked_of (trees hands.code))) (sym (given_in_all calls same)) h)

    -- it may bring a local to life
    pub born_fine : (x : ℕ) (place : Place) → AreFit types texts fs f ids w.given → goes_to types texts fs f (ty_of types of.result) (Some (whole x)) ≡ true → IsFine types texts fs f (Acts place (called g w.given (whole x)) ∷ [])
    born_fine x place is goes = fine_gives types texts fs f place (called g w.given (whole x)) refl (formed (Some (whole x)) is goes)

    pub born_falls : (x : ℕ) (place : Place) → RunsHanding types texts fs f (no_gift types texts fs f) tt given s w (all_handed types texts fs f ids) hands.code → (k : List Known) → AreHandedFor ids w.given (length w.state.locals) k
        → ((y : ℕ) → Among y given → known_at k y ≡ known.Blank) → known_at k x ≡ known.Blank → (Among x given → ⊥)
        → Falls types f (Acts place (called g w.given (whole x)) ∷ []) (set_known known.Ready given k) (slice_set k x known.Ready)
    born_falls x place r k numbers blank born aside =
        subst (Falls types f (Acts place (called g w.given (whole x)) ∷ []) (set_known known.Ready given k)) (handed_after f g ids w.given (length w.state.locals) k numbers r.objects own_each blank x)
        (falls_acts types f place (called g w.given (whole x)) (set_known known.Ready given k)
        (handed_ready f g ids w.given (length w.state.locals) k numbers r.objects own_each blank x (one (is_object_at f x)) aside))
      where
        one : (object : Bool) → are_known known.Blank k (if object then x ∷ [] else []) ≡ true
        one true = one_known known.Blank k x (blank_there k x born)
        one false = refl

    -- what is given over are its arguments, and it looks at nothing
    pub born_named : (x : ℕ) (place : Place) (y : ℕ) → Among y (given_of (trees (Acts place (called g w.given (whole x)) ∷ []))) → Among y [] ⊎ Among y given
    born_named x place y m = inr (subst (Among y) (append-nil given) m)

    pub born_looks : (x : ℕ) (place : Place) (k : List Known) → AreHandedFor ids w.given (length w.state.locals) k → looked_of (trees (Acts place (called g w.given (whole x)) ∷ [])) ≡ []
    born_looks x place k numbers = append-nil (flat_map looked_argument w.given) ∙ handed_looks f ids w.given (length w.state.locals) k numbers

    -- its result goes to a local
    module _ {C : Type 0} (into : Option ℕ) (x : ℕ) (v : State) (y : C) (O : Gift types texts fs f C) (place : Place) (to : Receives into w.state x v) (goes : Begins types f v → goes_to types texts fs f (ty_of types of.result) (Some (whole x)) ≡ true)
        (typed : Begins types f v → O.typed y) (ready : (k : List Known) → known_at k x ≡ known.Ready → O.ready y (length v.locals) k) where
      abbrev calls : List Tree
      calls = Acts place (called g w.given (whole x)) ∷ []

      abbrev done : Gives C
      done = gives y (emit place (called g w.given (whole x)) v)

      module _ (b : Begins types f v) (r : RunsHanding types texts fs f (no_gift types texts fs f) tt given s w (all_handed types texts fs f ids) hands.code) where
        calls_fine : IsFine types texts fs f calls
        calls_fine = fine_gives types texts fs f place (called g w.given (whole x)) refl (formed (Some (whole x)) r.typed (goes b))

        aside : Among x given → ⊥
        aside m = to.aside b x (hands.below x m) (r.objects x m) refl

        calls_bear : Bears f w.state (trees calls)
        calls_bear z object m = elim (subst (Among z) (one_local (is_object_at f x) x) (nil_right f (if_object f x ++ unless_object f x) z m)) [
          | inl e ↦ inr (subst (λ (q : ℕ). length w.state.locals ≤ q) e (to.new b (ap (is_object_at f) e ∙ object)))
          | inr none ↦ absurd none
        ]

        goes_on : (k : List Known) → GoesHanding types texts fs f given s w (all_handed types texts fs f ids) hands.code k → Goes types texts fs f into s done O (hands.code ++ calls) k
        goes_on k q = record {
          after = slice_set q.after x known.Ready;
          falls =
              falls_append types f hands.code calls k (set_known known.Ready given q.after) (slice_set q.after x known.Ready) q.falls
              (subst (Falls types f calls (set_known known.Ready given q.after)) (handed_after f g ids w.given (length w.state.locals) q.after q.gives r.objects own_each q.blank x)
              (falls_acts types f place (called g w.given (whole x)) (set_known known.Ready given q.after)
              (handed_ready f g ids w.given (length w.state.locals) q.after q.gives r.objects own_each q.blank x (to.blank b q.after q.alive) aside)));
          keeps =
              keeps_then f (length s.locals) (length w.state.locals) into k q.after (slice_set q.after x known.Ready) hands.grown.count q.keeps
              (keeps_set f (length w.state.locals) into x known.Ready q.after to.beside);
          gives = ready (slice_set q.after x known.Ready) (to.there b q.after q.alive);
          alive = to.alive b q.after q.alive;
          apart = λ under.
              all_apart calls v (append-nil (flat_map looked_argument w.given) ∙ handed_looks f ids w.given (length w.state.locals) q.after q.gives) (append-nil given)
              (then_opens f s w.state v (looked_of (trees hands.code)) (given_of (trees hands.code) ++ given) to.grown.count to.opens under (q.apart under));
          bears = codes_bear f s w.state hands.code calls hands.grown q.bears calls_bear;
        }

      pub call_received : Makes types texts fs f into s done O
      call_received = record {
        grown = grows_then s w.state v hands.grown to.grown;
        registers = registers_then types s w.state v to.grown.types hands.registers to.registers;
        code = hands.code ++ calls;
        written = ap (λ (c : List Tree). c ++ calls) (to.unwritten ∙ hands.written) ∙ append_assoc s.code hands.code calls;
        runs = λ b p. let r = hands.runs (begins_before types f w.state v to.grown b) tt in record {
          fine = fine_append types texts fs f hands.code calls r.fine (calls_fine b r);
          typed = typed b;
          goes = λ k alive q. goes_on b r k (r.goes k alive tt);
        };
      }

    -- .. a number to a register
    pub call_part : (into : Option ℕ) (t : Ty) (place : Place) → ty_of types of.result ≡ t → is_value t ≡ true → IsIntoOf t s into → Makes types texts fs f into s (computed into t place (λ r. called g w.given (whole r)) w.state) (a_number types texts fs f t)
    call_part into t place own v wanted =
        let later = into_of_later t s w.state into hands.grown wanted in
        let r = target place into t w.state in
        call_received into r.given r.state r.given (a_number types texts fs f t) place (register_receives into w.state r (targeted types f place t w.state into v (is_into t w.state into later)))
        (λ b. ap (λ (u : Ty). goes_to types texts fs f u (Some (whole r.given))) own ∙ goes_value types texts fs f t r.given v (target_number types texts fs f place into t w.state v later b))
        (λ b. target_number types texts fs f place into t w.state v later b)
        (λ k there. ((targeted types f place t w.state into v (is_into t w.state into later)).below, there))

    -- .. or it has none
    module _ (place : Place) (void : ty_of types of.result ≡ ty.Void) where
      abbrev calls_alone : List Tree
      calls_alone = Acts place (called_alone g w.given) ∷ []

      abbrev done_alone : Gives (Unit {0})
      done_alone = gives tt (emit place (called_alone g w.given) w.state)

      alone_goes : (r : RunsHanding types texts fs f (no_gift types texts fs f) tt given s w (all_handed types texts fs f ids) hands.code) (k : List Known) → GoesHanding types texts fs f given s w (all_handed types texts fs f ids) hands.code k
          → Goes types texts fs f None s done_alone (no_gift types texts fs f) (hands.code ++ calls_alone) k
      alone_goes r k q = record {
        after = q.after;
        falls =
            falls_append types f hands.code calls_alone k (set_known known.Ready given q.after) q.after q.falls
            (subst (Falls types f calls_alone (set_known known.Ready given q.after)) (handed_alone_after f g ids w.given (length w.state.locals) q.after q.gives r.objects own_each q.blank)
            (falls_acts types f place (called_alone g w.given) (set_known known.Ready given q.after)
            (handed_alone_ready f g ids w.given (length w.state.locals) q.after q.gives r.objects own_each q.blank)));
        keeps = q.keeps;
        gives = tt;
        alive = q.alive;
        apart = λ under. all_apart calls_alone w.state (append-nil (flat_map looked_argument w.given) ∙ handed_looks f ids w.given (length w.state.locals) q.after q.gives) (append-nil given) (q.apart under);
        bears = codes_bear f s w.state hands.code calls_alone hands.grown q.bears (λ z object m. absurd m);
      }

      pub alone_call_part : Makes types texts fs f None s done_alone (no_gift types texts fs f)
      alone_call_part = record {
        grown = hands.grown;
        registers = hands.registers;
        code = hands.code ++ calls_alone;
        written = ap (λ (c : List Tree). c ++ calls_alone) hands.written ∙ append_assoc s.code hands.code calls_alone;
        runs = λ b p. let r = hands.runs b tt in record {
          fine = fine_append types texts fs f hands.code calls_alone r.fine
              (fine_gives types texts fs f place (called_alone g w.given) refl (formed None r.typed (ap (λ (u : Ty). goes_to types texts fs f u None) void)));
          typed = tt;
          goes = λ k alive q. alone_goes r k (r.goes k alive tt);
        };
      }
