-- A pointer that is a member of an object is given something, whether others see the object or not: what it is given is found before, or a call gives it, to which owners may be given over.
use Rattle.std.proofs.Common.{◌≡◌, ◌<◌, inl, inr, ℕ, Bool, true, false, ◌||◌, not, nat_eq, List, [], ◌∷◌, flat_map, length, slice_set, Some, refl, sym, ap, ◌∙◌, subst, arith}
use Rattle.std.specs.List.{list_any}
use Rattle.life_types.specs.Types.{Types}
use Rattle.life_types.specs.declared.place.Place.{Place}
use Rattle.life_types.specs.declared.ty.Ty.{Ty}
use Rattle.life_types.specs.declared.ty.Ty.TheVariants as ty
use Rattle.life_types.specs.declared.ty.TyId.{TyId}
use Rattle.life_typed.specs.declared.typed_expr.ExprType.{ExprType}
use Rattle.life_core.specs.Function.{Function}
use Rattle.life_core.specs.Operands.{Location, Operand, object_named, whole}
use Rattle.life_core.specs.Touched.{by_members}
use Rattle.life_core.specs.Tree.{Acts}
use Rattle.life_proper.specs.GivenOver.{given_argument, is_handed_in}
use Rattle.life_proper.specs.Knowing.{known_at}
use Rattle.life_proper.specs.Placed.{type_in}
use Rattle.life_proper.specs.ReadyKnown.{set_known}
use Rattle.life_proper.specs.declared.known.Known.{Known}
use Rattle.life_proper.specs.declared.known.Known.TheVariants as known
use Rattle.life_writer.specs.Around.{Around}
use Rattle.life_writer.specs.Calls.{called}
use Rattle.life_writer.specs.Pointers.{As, By, Pointing, pointed}
use Rattle.life_writer.specs.Using.{location_in, with_member}
use Rattle.life_writer.specs.Writing.{Gives, State, emit}
use Rattle.life_well_typed.specs.Expressions.{parameter_types}
use Rattle.life_elab_laws.proofs.Aiming.{pointed_fine, pointed_keeps, pointed_ready}
use Rattle.life_elab_laws.proofs.Among.{Among, Apart, ascend_apart, ascend_low}
use Rattle.life_elab_laws.proofs.CallParts.{call_formed}
use Rattle.life_elab_laws.proofs.Falling.{Falls, falls_acts}
use Rattle.life_elab_laws.proofs.Gifts.{Gift, IsPlaceOf, a_place, a_pointing, all_handed, both, takes_from}
use Rattle.life_elab_laws.proofs.HandingCalls.{handed_looks, handed_part_after, handed_part_ready}
use Rattle.life_elab_laws.proofs.Instructions.{acted_as_part}
use Rattle.life_elab_laws.proofs.KeptGiven.{any_among}
use Rattle.life_elab_laws.proofs.Locations.{is_location}
use Rattle.life_elab_laws.proofs.LookedLocals.{looked_step}
use Rattle.life_elab_laws.proofs.MadeForms.{all_held_stay, handed_ready, pointer_ready}
use Rattle.life_elab_laws.proofs.Making.{AreHeld, IsOpen, IsPointing}
use Rattle.life_elab_laws.proofs.PointedCalls.{GivesPointer, IsPointedCall, gives_called, gives_plainly}
use Rattle.life_elab_laws.proofs.Setting.{Setting}
use Rattle.life_elab_laws.proofs.Shaping.{fine_gives}
use Rattle.life_elab_laws.proofs.StructSteps.{fills_member, member_pointer}
use Rattle.life_elab_laws.proofs.WrittenMembers.{IsWriting, Stores, StoresOver}

module _ (a : Around) (visible : List ℕ) (types : Types) (texts : ℕ) (fs : List Function) (f : Function) (setting : Setting a types fs f) where
  -- what it is given stays ready where another local comes to life
  pointing_ready : (x : ℕ) (p : Pointing) (n : ℕ) (k : List Known) → known_at k x ≡ known.Blank → IsPointing f p n k → IsPointing f p n (slice_set k x known.Ready)
  pointing_ready x (By step) n k blank h = record { uses = h.uses; held = all_held_stay a visible types texts fs f setting x h.uses n k blank h.held; touches = h.touches; parts = h.parts; looks = h.looks }
  pointing_ready x (As l) n k blank h = pointer_ready a visible types texts fs f setting x l n k blank h

  held_among : (xs : List ℕ) (n : ℕ) (k : List Known) → AreHeld xs n k → (z : ℕ) → Among z xs → known_at k z ≡ known.Ready
  held_among [] n k h z m = absurd m
  held_among (x ∷ xs) n k h z (inl e) = subst (λ (v : ℕ). known_at k v ≡ known.Ready) e h.0.1
  held_among (x ∷ xs) n k h z (inr m) = held_among xs n k h.1 z m

  -- .. and is all that is looked at
  pointing_seen : (p : Pointing) (l : Location) (n : ℕ) (k : List Known) → IsPointing f p n k → (z : ℕ) → Among z (looked_step (pointed p l)) → known_at k z ≡ known.Ready
  pointing_seen (By step) l n k h z m = held_among h.uses n k h.held z (h.looks l z m)
  pointing_seen (As q) l n k h z m = absurd m

  -- ---- a member of an object, which is a local

  module _ (number : ℕ) (to : Operand) (named m : ℕ) (is : to ≡ object_named named) (u : Ty) (source : ExprType) (location : is_location u ≡ true) (taken : takes_from types u source ≡ true)
      (typed : IsPlaceOf types texts fs f (ty.Struct number) false to → type_in types f (location_in (with_member m to)) ≡ u) (place : Place) where
    abbrev l : Location
    l = location_in (with_member m to)

    abbrev P : Gift types texts fs f Operand
    P = a_place types texts fs f (ty.Struct number) false

    -- what is found before
    pointer_stores : (p : Pointing) → Stores types texts fs f (ty.Struct number) to (a_pointing types texts fs f source) p place (pointed p l)
    pointer_stores p = record {
      part = λ s.
          acted_as_part types texts fs f (both types texts fs f P (a_pointing types texts fs f source)) (to, p) place (pointed p l) s
          (λ h. pointed_fine types texts fs f l u source p location (typed h.0) taken h.1)
          (λ h n k q. pointed_ready f l n n p k (member_pointer m to (whole named) is n k q.0) q.1 (fills_member f m to (whole named) is))
          (λ h n j k q. pointed_keeps f l n n p k (member_pointer m to (whole named) is n k q.0) q.1 j (fills_member f m to (whole named) is));
      kept = λ x n k blank q. pointing_ready x p n k blank q;
      seen = λ n k q z among. pointing_seen p l n k q z among;
    }

    -- .. or what a call gives, which is done where the object stands before
    module _ (s : State) (w : Gives Pointing) (c : IsPointedCall types texts fs f source s w) (lower : named < length s.locals) where
      abbrev over : List ℕ
      over = flat_map given_argument c.given.given

      abbrev ids : List TyId
      ids = parameter_types (Some c.of)

      abbrev member : Location
      member = record { local = named; members = m ∷ [] }

      -- what is given over is newer
      older : Among named over → ⊥
      older among = let le = ascend_low (length s.locals) over named c.hands.ascend among in omega (arith, lower, le)

      stays_there : not (list_any (is_handed_in c.given.given) (by_members (m ∷ []) [] (named ∷ []))) ≡ true
      stays_there = none_there (list_any (nat_eq named) over) refl
        where
          none_there : (b : Bool) → list_any (nat_eq named) over ≡ b → not (b || false) ≡ true
          none_there true e = absurd (older (any_among named over e))
          none_there false e = refl

      own_each : Apart over
      own_each = ascend_apart (length s.locals) over c.hands.ascend

      here : l ≡ member
      here = ap (λ (o : Operand). location_in (with_member m o)) is

      call_stores : StoresOver types texts fs f (ty.Struct number) to (all_handed types texts fs f ids) c.given.given over place (called c.function c.given.given member)
      call_stores = record {
        fine = λ h fit objects.
            fine_gives types texts fs f place (called c.function c.given.given member) stays_there
            (call_formed types texts fs f c.function c.given.given c.of (Some member) c.callee fit (c.goes u member (subst (λ (q : Location). type_in types f q ≡ u) here (typed h)) (inr taken)));
        falls = λ n k h q objects blank.
            let it = member_pointer m to (whole named) is n k h in
            let there : known_at k named ≡ known.Ready = subst (λ (x : ℕ). known_at k x ≡ known.Ready) (sym it.is ∙ ap (λ (q : Location). q.local) here) it.held in
            subst (Falls types f (Acts place (called c.function c.given.given member) ∷ []) (set_known known.Ready over k))
            (handed_part_after f c.function ids c.given.given n k q objects own_each blank named m [])
            (falls_acts types f place (called c.function c.given.given member) (set_known known.Ready over k)
            (handed_part_ready f c.function ids c.given.given n k q objects own_each blank named m [] there older));
        kept = λ x n k blank aside q. handed_ready a visible types texts fs f setting x ids c.given.given n k blank aside q;
        looks = λ n k q. handed_looks f ids c.given.given n k q;
        gives = λ y among. among;
        bears = λ objects y among. among;
      }

    -- however its members are written
    module _ {Writes : State → State → Type 0} (ways : IsWriting types texts fs f (ty.Struct number) to Writes) (s : State) (w : Gives Pointing) (opened : IsOpen s) (lower : named < length s.locals) where
      pub pointer_given : GivesPointer types texts fs f source s w → Writes s (emit place (pointed w.given l) w.state)
      pointer_given (gives_plainly first) = ways.behind s w (a_pointing types texts fs f source) place (pointed w.given l) opened first (pointer_stores w.given)
      pointer_given (gives_called c) =
          subst (λ (v : Gives Pointing). Writes s (emit place (pointed v.given l) v.state)) (sym c.is)
          (subst (λ (q : Location). Writes s (emit place (called c.function c.given.given q) c.given.state)) (sym (here s w c lower))
          (ways.over (over s w c lower) s c.given (all_handed types texts fs f (ids s w c lower)) place (called c.function c.given.given (member s w c lower)) c.hands (call_stores s w c lower)))
