-- What an expression gives a pointer: what stands there already, or an instruction with a hole; or a call, to which owners may be given over, so they are gone only where the hole is filled.
use Rattle.std.proofs.Common.{◌≡◌, inl, inr, ℕ, Bool, true, false, ◌||◌, not, nat_eq, if◌then◌else◌, List, [], ◌∷◌, ◌++◌, flat_map, length, slice_get, Option, Some, is_some, None, refl, sym, ap, ◌∙◌, subst, append_assoc, append-nil}
use Rattle.std.proofs.lemmas.Bool.{false≢true}
use Rattle.std.specs.List.{list_any}
use Rattle.life_types.specs.Pointees.{ty_of}
use Rattle.life_types.specs.Trees.{HasPartsBelow}
use Rattle.life_types.specs.Types.{Types}
use Rattle.life_types.specs.declared.place.Place.{Place}
use Rattle.life_types.specs.declared.ty.Ty.{Ty}
use Rattle.life_types.specs.declared.ty.TyId.{TyId}
use Rattle.life_typed.specs.Programs.{FunctionForm}
use Rattle.life_typed.specs.declared.typed_expr.ExprType.{ExprType}
use Rattle.life_typed.specs.declared.typed_expr.ExprType.TheVariants.{Of}
use Rattle.life_core.specs.Function.{Function}
use Rattle.life_core.specs.Kinds.{is_object_at, is_register_at}
use Rattle.life_core.specs.Operands.{Argument, Location, whole}
use Rattle.life_core.specs.Touched.{by_members, if_object, unless_object}
use Rattle.life_core.specs.Tree.{Acts, Tree, trees}
use Rattle.life_core.specs.declared.program.Local.{Local}
use Rattle.life_proper.specs.Knowing.{known_at}
use Rattle.life_proper.specs.GivenOver.{given_argument, given_spot, is_handed_in}
use Rattle.life_proper.specs.Placed.{type_in}
use Rattle.life_proper.specs.ReadyKnown.{are_known, set_known}
use Rattle.life_proper.specs.WellFormed.{goes_to}
use Rattle.life_proper.specs.declared.known.Known.{Known}
use Rattle.life_proper.specs.declared.known.Known.TheVariants as known
use Rattle.life_well_typed.specs.Expressions.{parameter_types}
use Rattle.life_writer.specs.Calls.{called}
use Rattle.life_writer.specs.Pointers.{By, Pointing, located}
use Rattle.life_writer.specs.Registers.{new_register}
use Rattle.life_writer.specs.Writing.{Gives, State, emit, gives, mapped}
use Rattle.life_elab_laws.proofs.Among.{Among, Apart, among_either, among_left, among_right, ascend_apart}
use Rattle.life_elab_laws.proofs.BornLocals.{born_of, codes_bear}
use Rattle.life_elab_laws.proofs.CallParts.{call_formed}
use Rattle.life_elab_laws.proofs.Calls.{IsCallee, no_object as no_register_object, one_local}
use Rattle.life_elab_laws.proofs.Emitting.{Targets, new_targeted}
use Rattle.life_elab_laws.proofs.Falling.{Falls, falls_acts, falls_append}
use Rattle.life_elab_laws.proofs.Gifts.{IsAt, IsTakenBy, a_pointer, a_pointing, all_handed, both, nothing as no_gift}
use Rattle.life_elab_laws.proofs.GivenApart.{given_of, nil_right, parts_of}
use Rattle.life_elab_laws.proofs.LookedLocals.{looked_argument, looked_of, looked_spot}
use Rattle.life_elab_laws.proofs.Growing.{Grows}
use Rattle.life_elab_laws.proofs.HandedArguments.{Hands}
use Rattle.life_elab_laws.proofs.Handing.{GoesHanding, HandingAlone, RunsHanding, fewer_apart, handing_none, handing_then}
use Rattle.life_elab_laws.proofs.HandingCalls.{call_received, handed_after, handed_looks, handed_part_after, handed_part_ready, handed_ready, register_receives}
use Rattle.life_elab_laws.proofs.Instructions.{location_at}
use Rattle.life_elab_laws.proofs.KeptGiven.{any_among}
use Rattle.life_elab_laws.proofs.Locations.{is_location}
use Rattle.life_elab_laws.proofs.Making.{is_named, lies_by}
use Rattle.life_elab_laws.proofs.Parts.{Goes, Makes}
use Rattle.life_elab_laws.proofs.Shaping.{IsFine, fine_append, fine_gives}
use Rattle.life_elab_laws.proofs.UnseenLocals.{set_itself}
use Rattle.life_elab_laws.proofs.WrittenLocals.{fits_register}
use Rattle.life_types.specs.declared.ty.NameId.{NameId}

module _ (types : Types) (texts : ℕ) (fs : List Function) (f : Function) where
  -- a call that gives a pointer
  pub record IsPointedCall (t : ExprType) (s : State) (w : Gives Pointing) : Type 0 where
    pub function : ℕ
    pub of : FunctionForm
    pub callee : IsCallee types fs function of
    pub given : Gives (List Argument)
    pub hands : Hands types texts fs f (parameter_types (Some of)) s given
    pub is : w ≡ mapped (λ (xs : List Argument). By (called function xs)) given
    pub own : t ≡ Of (ty_of types of.result)
    -- it goes to whatever takes such a pointer
    pub goes : (u : Ty) (l : Location) → type_in types f l ≡ u → IsTakenBy types u t → goes_to types texts fs f (ty_of types of.result) (Some l) ≡ true

  pub data GivesPointer (t : ExprType) (s : State) (w : Gives Pointing) : Type 0 where
    gives_plainly : Makes types texts fs f None s w (a_pointing types texts fs f t) → GivesPointer t s w
    gives_called : IsPointedCall t s w → GivesPointer t s w

  pub pointer_grown : (t : ExprType) (s : State) (w : Gives Pointing) → GivesPointer t s w → Grows s w.state
  pointer_grown t s w (gives_plainly first) = first.grown
  pointer_grown t s w (gives_called c) = subst (λ (g : Gives Pointing). Grows s g.state) (sym c.is) c.hands.grown

  module _ (t : ExprType) (s : State) (w : Gives Pointing) (c : IsPointedCall t s w) where
    abbrev v : State
    v = c.given.state

    abbrev over : List ℕ
    over = flat_map given_argument c.given.given

    -- ---- its result comes to a register

    pub call_located : (u : Ty) (place : Place) → t ≡ Of u → is_location u ≡ true → fits_register types u ≡ true → HasPartsBelow v.types (length v.types.types) u → Makes types texts fs f None s (located place u w.given w.state) (a_pointer types texts fs f u)
    call_located u place own loc fits below =
        let r = new_register place u v in
        let targets : Targets types f None v r = new_targeted types f place u v fits below in
        subst (λ (g : Gives Pointing). Makes types texts fs f None s (located place u g.given g.state) (a_pointer types texts fs f u)) (sym c.is)
        (call_received types texts fs f c.function c.of c.callee s c.given c.hands None r.given r.state (whole r.given) (a_pointer types texts fs f u) place (register_receives types texts fs f None v r targets)
        (λ b. c.goes u (whole r.given) (location_at types texts fs f place u v loc b).typed (inl own))
        (λ b. location_at types texts fs f place u v loc b)
        (λ k there. record { local = r.given; is = refl; below = targets.below; held = there }))

    -- ---- its result is assigned to a pointer, which is found behind its arguments

    module _ (u : Ty) (l : Gives Location) (place : Place) (second : Makes types texts fs f None v l (a_pointer types texts fs f u)) (taken : IsTakenBy types u t) where
      abbrev ids : List TyId
      ids = parameter_types (Some c.of)

      abbrev calls : List Tree
      calls = Acts place (called c.function c.given.given l.given) ∷ []

      hands : HandingAlone types texts fs f over s (gives (c.given.given, l.given) l.state) (both types texts fs f (all_handed types texts fs f ids) (a_pointer types texts fs f u))
      hands =
          subst (λ (xs : List ℕ). HandingAlone types texts fs f xs s (gives (c.given.given, l.given) l.state) (both types texts fs f (all_handed types texts fs f ids) (a_pointer types texts fs f u))) (append-nil over)
          (handing_then types texts fs f over [] s c.given l (all_handed types texts fs f ids) (a_pointer types texts fs f u) c.hands (handing_none types texts fs f (no_gift types texts fs f) tt v l (a_pointer types texts fs f u) second))

      module _ (r : RunsHanding types texts fs f (no_gift types texts fs f) tt over s (gives (c.given.given, l.given) l.state) (both types texts fs f (all_handed types texts fs f ids) (a_pointer types texts fs f u)) hands.code) where
        at : IsAt types texts fs f u l.given
        at = r.typed.1

        abbrev x : ℕ
        x = l.given.local

        -- a register is no object, and what has a name isn't given over
        aside : Among x over → ⊥
        aside m = go l.given.members at.kept
          where
            named : (o : Option Local) → slice_get f.locals x ≡ o → is_named o ≡ true → ⊥
            named None e h = false≢true h
            named (Some it) e h = false≢true (sym (ap (λ (name : Option NameId). is_some name) (r.nameless x m it e)) ∙ h)

            go : (members : List ℕ) → lies_by members (is_register_at f x) (is_named (slice_get f.locals x)) ≡ true → ⊥
            go [] kept = false≢true (sym (no_register_object (slice_get f.locals x) kept) ∙ r.objects x m)
            go (n ∷ ns) kept = named (slice_get f.locals x) refl kept

        -- so it stays where it is
        kept_target : (members : List ℕ) → not (list_any (is_handed_in c.given.given) (by_members members [] (x ∷ []))) ≡ true
        kept_target [] = refl
        kept_target (m ∷ ms) = none_there (list_any (nat_eq x) over) refl
          where
            none_there : (b : Bool) → list_any (nat_eq x) over ≡ b → not (b || false) ≡ true
            none_there true e = absurd (aside (any_among x over e))
            none_there false e = refl

        calls_fine : IsFine types texts fs f calls
        calls_fine = fine_gives types texts fs f place (called c.function c.given.given l.given) (kept_target l.given.members) (call_formed types texts fs f c.function c.given.given c.of (Some l.given) c.callee r.typed.0 (c.goes u l.given at.typed taken))

        abbrev part : List ℕ → Location
        part members = record { local = x; members = members }

        module _ (k : List Known) (q : GoesHanding types texts fs f over s (gives (c.given.given, l.given) l.state) (both types texts fs f (all_handed types texts fs f ids) (a_pointer types texts fs f u)) hands.code k) where
          held : known_at q.after x ≡ known.Ready
          held = ap (known_at q.after) q.gives.1.is ∙ q.gives.1.held

          falls : Falls types f calls (set_known known.Ready over q.after) q.after
          falls = go l.given.members at.kept
            where
              own_each : Apart over
              own_each = ascend_apart (length s.locals) over hands.ascend

              go : (members : List ℕ) → lies_by members (is_register_at f x) (is_named (slice_get f.locals x)) ≡ true → Falls types f (Acts place (called c.function c.given.given (part members)) ∷ []) (set_known known.Ready over q.after) q.after
              go [] kept =
                  subst (Falls types f (Acts place (called c.function c.given.given (whole x)) ∷ []) (set_known known.Ready over q.after))
                  (handed_after f c.function ids c.given.given (length l.state.locals) q.after q.gives.0 r.objects own_each q.blank x ∙ set_itself q.after x known.Ready held)
                  (falls_acts types f place (called c.function c.given.given (whole x)) (set_known known.Ready over q.after)
                  (handed_ready f c.function ids c.given.given (length l.state.locals) q.after q.gives.0 r.objects own_each q.blank x
                  (ap (λ (b : Bool). are_known known.Blank q.after (if b then x ∷ [] else [])) (no_register_object (slice_get f.locals x) kept)) aside))
              go (m ∷ ms) kept =
                  subst (Falls types f (Acts place (called c.function c.given.given (part (m ∷ ms))) ∷ []) (set_known known.Ready over q.after))
                  (handed_part_after f c.function ids c.given.given (length l.state.locals) q.after q.gives.0 r.objects own_each q.blank x m ms)
                  (falls_acts types f place (called c.function c.given.given (part (m ∷ ms))) (set_known known.Ready over q.after)
                  (handed_part_ready f c.function ids c.given.given (length l.state.locals) q.after q.gives.0 r.objects own_each q.blank x m ms held aside))

          goes_on : Goes types texts fs f None s (gives tt (emit place (called c.function c.given.given l.given) l.state)) (no_gift types texts fs f) (hands.code ++ calls) k
          goes_on = record {
            after = q.after;
            falls = falls_append types f hands.code calls k (set_known known.Ready over q.after) q.after q.falls falls;
            keeps = q.keeps;
            gives = tt;
            alive = q.alive;
            apart = λ under.
                fewer_apart types texts fs f s l.state (looked_of (trees hands.code)) (given_of (trees hands.code) ++ over) (looked_of (trees (hands.code ++ calls))) (given_of (trees (hands.code ++ calls)))
                (λ y m. elim (among_either (looked_of (trees hands.code)) (looked_of (trees calls)) y (subst (Among y) (parts_of looked_spot hands.code calls) m)) [
                  | inl seen ↦ seen
                  | inr seen ↦ absurd (subst (Among y) (append-nil (flat_map looked_argument c.given.given) ∙ handed_looks f ids c.given.given (length l.state.locals) q.after q.gives.0) seen)
                ])
                (λ y m. elim (among_either (given_of (trees hands.code)) (given_of (trees calls)) y (subst (Among y) (parts_of given_spot hands.code calls) m)) [
                  | inl gone ↦ among_left (given_of (trees hands.code)) over y gone
                  | inr gone ↦ among_right (given_of (trees hands.code)) over y (subst (Among y) (append-nil over) gone)
                ])
                (q.apart under);
            bears = codes_bear f s l.state hands.code calls hands.grown q.bears (λ z object m. absurd (bears_none z object m));
          }
            where
              bears_none : (z : ℕ) → is_object_at f z ≡ true → Among z (born_of f (trees calls)) → ⊥
              bears_none z object = go l.given.members at.kept
                where
                  go : (members : List ℕ) → lies_by members (is_register_at f x) (is_named (slice_get f.locals x)) ≡ true → Among z (born_of f (trees (Acts place (called c.function c.given.given (part members)) ∷ []))) → ⊥
                  go [] kept m = elim (subst (Among z) (one_local (is_object_at f x) x) (nil_right f (if_object f x ++ unless_object f x) z m)) [
                    | inl e ↦ false≢true (sym (no_register_object (slice_get f.locals x) kept) ∙ ap (is_object_at f) e ∙ object)
                    | inr none ↦ none
                  ]
                  go (n ∷ ns) kept none = none

      pub call_assigned : Makes types texts fs f None s (gives tt (emit place (called c.function c.given.given l.given) l.state)) (no_gift types texts fs f)
      call_assigned = record {
        grown = hands.grown;
        registers = hands.registers;
        code = hands.code ++ calls;
        written = ap (λ (c : List Tree). c ++ calls) hands.written ∙ append_assoc s.code hands.code calls;
        runs = λ b p. let r = hands.runs b tt in record {
          fine = fine_append types texts fs f hands.code calls r.fine (calls_fine r);
          typed = tt;
          goes = λ k alive q. goes_on r k (r.goes k alive tt);
        };
      }
