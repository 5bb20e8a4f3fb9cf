-- An instruction that takes an owner which is given over to it: the owner stands before it, and is gone behind it.
use Rattle.std.proofs.Common.{◌≡◌, inl, ℕ, Bool, true, false, List, [], ◌∷◌, ◌++◌, refl, sym, ap, ◌∙◌, subst, arith, if◌then◌else◌}
use Rattle.life_elab_laws.proofs.ObjectTypes.{is_owner_of_values}
use Rattle.life_types.specs.TypeTests.{is_value}
use Rattle.life_types.specs.Types.{Types}
use Rattle.life_types.specs.declared.place.Place.{Place}
use Rattle.life_types.specs.declared.ty.Ty.{Ty}
use Rattle.life_core.specs.Function.{Function}
use Rattle.life_core.specs.Kinds.{is_object_at}
use Rattle.life_core.specs.Operands.{Location, Operand}
use Rattle.life_core.specs.Step.{Make, Step}
use Rattle.life_core.specs.Touched.{Touched, nothing as no_locals, touched_by}
use Rattle.life_core.specs.Tree.{Acts}
use Rattle.life_core.specs.declared.instr.Made.TheVariants as made
use Rattle.life_proper.specs.GivenOver.{given_step}
use Rattle.life_proper.specs.Knowing.{known_at}
use Rattle.life_proper.specs.Placed.{is_consumed, is_given, is_number_of}
use Rattle.life_proper.specs.ReadyKnown.{are_known, are_ready, can_leave, known_after, set_known}
use Rattle.life_proper.specs.WellFormed.{is_well_formed_step}
use Rattle.life_proper.specs.declared.known.Known.{Known}
use Rattle.life_proper.specs.declared.known.Known.TheVariants as known
use Rattle.life_proper.proofs.ReadyTests.{all_ready}
use Rattle.life_elab_laws.proofs.Among.{Among, Apart, ascend_apart}
use Rattle.life_elab_laws.proofs.Falling.{Falls, falls_acts}
use Rattle.life_elab_laws.proofs.Gifts.{IsPlaceOf, a_given}
use Rattle.life_elab_laws.proofs.Knowledge.{beside_set}
use Rattle.life_elab_laws.proofs.LookedLocals.{looked_step}
use Rattle.life_elab_laws.proofs.Making.{IsPlace}
use Rattle.life_elab_laws.proofs.Shaping.{fine_gives, step_keeps}
use Rattle.life_elab_laws.proofs.UnseenLocals.{all_leave, used_there}
use Rattle.life_elab_laws.proofs.WrittenMembers.{StoresOver}
use Rattle.life_elab_laws.proofs.Values.{by_owners}

-- what is no value is consumed as what is given over
pub owner_plain : (few : Types) (t : Ty) → is_owner_of_values few t ≡ true → is_value t ≡ false
owner_plain few = by_owners few _ refl (λ item. refl)

pub object_consumed : (types : Types) (f : Function) (t u : Ty) (x : ℕ) → is_value t ≡ false → u ≡ t → is_given types f t x ≡ true → is_consumed types f u x ≡ true
object_consumed types f t u x plain holds given =
    ap (λ (w : Ty). is_consumed types f w x) holds
    ∙ ap (λ (b : Bool). if b then is_number_of types f t x else is_given types f t x) plain ∙ given

-- an instruction on these locals takes x, and looks at nothing
pub record Takes (f : Function) (uses : List ℕ) (x : ℕ) (step : Step) : Type 0 where
  pub keeps : step_keeps f step ≡ true
  pub touches : is_object_at f x ≡ true → touched_by f step ≡ record no_locals { uses = uses; leaves = x ∷ [] }
  pub looks : looked_step step ≡ []
  pub gives : given_step step ≡ x ∷ []

-- a unique_ptr is made to own it
pub made_takes : (f : Function) (l : Location) (x : ℕ) → Takes f (l.local ∷ []) x (Make l (made.Of x))
made_takes f l x = record {
  keeps = refl;
  touches = λ object. ap (λ (b : Bool). record no_locals { uses = l.local ∷ (if b then [] else x ∷ []); leaves = if b then x ∷ [] else [] }) object;
  looks = refl;
  gives = refl;
}

-- so it is a way to store that owner in an object, or in a member of it
module _ (types : Types) (texts : ℕ) (fs : List Function) (f : Function) (t u : Ty) (to : Operand) (uses : List ℕ) (x : ℕ) (step : Step) (at : Place) (takes : Takes f uses x step)
    (formed : IsPlaceOf types texts fs f u false to → is_object_at f x ≡ true → is_given types f t x ≡ true → is_well_formed_step types texts fs f step ≡ true)
    (ready : (n : ℕ) (k : List Known) → IsPlace to n k → are_known known.Ready k uses ≡ true) where
  alone : Apart (x ∷ [])
  alone = ascend_apart 0 (x ∷ []) (omega arith, tt)

  -- where it is there
  module _ (object : is_object_at f x ≡ true) (n : ℕ) (k : List Known) (p : IsPlace to n k) (blank : (y : ℕ) → Among y (x ∷ []) → known_at k y ≡ known.Blank) where
    abbrev j : List Known
    j = set_known known.Ready (x ∷ []) k

    leaves : (can_leave j (x ∷ []) ≡ true) × (set_known known.Blank (x ∷ []) j ≡ k)
    leaves = all_leave (x ∷ []) alone k blank

    is_ready : are_ready j (touched_by f step) ≡ true
    is_ready = ap (are_ready j) (takes.touches object) ∙ all_ready j (record no_locals { uses = uses; leaves = x ∷ [] }) (used_there (x ∷ []) alone k blank uses (ready n k p)) leaves.0 refl

    gone : known_after (touched_by f step) j ≡ k
    gone = ap (λ (v : Touched). known_after v j) (takes.touches object) ∙ leaves.1

    falls : Falls types f (Acts at step ∷ []) j k
    falls = subst (Falls types f (Acts at step ∷ []) j) gone (falls_acts types f at step j is_ready)

  pub takes_over : StoresOver types texts fs f u to (a_given types texts fs f t) x (x ∷ []) at step
  takes_over = record {
    fine = λ p given objects. fine_gives types texts fs f at step takes.keeps (formed p (objects x (inl refl)) given);
    falls = λ n k p q objects blank. falls (objects x (inl refl)) n k p blank;
    kept = λ y n k blank aside q. (q.0, beside_set k y x known.Ready (λ e. aside (inl (sym e))) ∙ q.1);
    looks = λ n k q. takes.looks;
    gives = λ z m. subst (Among z) takes.gives m;
    bears = λ objects z m. subst (Among z) (ap (λ (v : Touched). v.births ++ v.writes) (takes.touches (objects x (inl refl)))) m;
  }
