-- What a part of an expression gives: which type it has in the finished function, and what is known of it where so many locals are there.
use Rattle.std.proofs.Common.{◌≡◌, ◌<◌, ◌≤◌, ◌⊎◌, ℕ, Bool, true, List, [], ◌∷◌, flat_map, None, ◌∙◌, arith}
use Rattle.life_types.specs.TypeTests.{is_raw, is_view}
use Rattle.life_types.specs.Types.{Types}
use Rattle.life_types.specs.declared.ty.Ty.{Ty}
use Rattle.life_types.specs.declared.ty.TyId.{TyId}
use Rattle.life_typed.specs.declared.typed_expr.ExprType.{ExprType}
use Rattle.life_typed.specs.declared.typed_expr.ExprType.TheVariants.{NullPointer, Of, TextLiteral}
use Rattle.life_core.specs.Function.{Function}
use Rattle.life_core.specs.Operands.{Argument, GivenOver, Location, Operand, PointerOf, Value}
use Rattle.life_core.specs.Step.{Step}
use Rattle.life_proper.specs.GivenOver.{given_argument}
use Rattle.life_proper.specs.OperandTypes.{keeps_const, takes}
use Rattle.life_proper.specs.Placed.{is_const_place, is_given, is_number_of, type_in, type_of}
use Rattle.life_proper.specs.WellFormed.{are_arguments_for, have_own_slots}
use Rattle.life_proper.specs.Knowing.{known_at}
use Rattle.life_proper.specs.declared.known.Known.{Known}
use Rattle.life_proper.specs.declared.known.Known.TheVariants as known
use Rattle.life_writer.specs.Pointers.{As, By, Pointing}
use Rattle.life_elab_laws.proofs.Locations.{is_location}
use Rattle.life_elab_laws.proofs.Making.{AreHeld, IsFilling, IsHeld, IsPlace, IsPointer, IsPointing, Keeps, lies_in}
use Rattle.life_elab_laws.proofs.Shaping.{IsFineStep}

-- an object that is given over
abbrev pub IsTaken : ℕ → ℕ → List Known → Type 0
IsTaken x n k = (x < n) × (known_at k x ≡ known.Blank)

-- a number in a register, or a pointer, for each of these
abbrev pub AreNumbersFor : List TyId → List Argument → ℕ → List Known → Type 0
AreNumbersFor [] [] n k = Unit {0}
AreNumbersFor (id ∷ ids) (Value r ∷ xs) n k = IsHeld r n k × AreNumbersFor ids xs n k
AreNumbersFor (id ∷ ids) (PointerOf l ∷ xs) n k = IsPointer l n k × AreNumbersFor ids xs n k
AreNumbersFor _ _ n k = ⊥

-- what a pointer of a type may be given: what it is itself, a pointer that it takes, nullptr, or a literal
abbrev pub takes_from : Types → Ty → ExprType → Bool
takes_from types t (Of u) = takes types t u
takes_from types t NullPointer = is_raw t
takes_from types t TextLiteral = is_view t

abbrev pub IsTakenBy : Types → Ty → ExprType → Type 0
IsTakenBy types u t = (t ≡ Of u) ⊎ (takes_from types u t ≡ true)

-- .. or an object that is given over
abbrev pub AreHandedFor : List TyId → List Argument → ℕ → List Known → Type 0
AreHandedFor [] [] n k = Unit {0}
AreHandedFor (id ∷ ids) (Value r ∷ xs) n k = IsHeld r n k × AreHandedFor ids xs n k
AreHandedFor (id ∷ ids) (PointerOf l ∷ xs) n k = IsPointer l n k × AreHandedFor ids xs n k
AreHandedFor (id ∷ ids) (GivenOver x ∷ xs) n k = IsTaken x n k × AreHandedFor ids xs n k
AreHandedFor _ _ n k = ⊥

module _ (types : Types) (texts : ℕ) (fs : List Function) (f : Function) where
  -- what is ready stays so where the locals that are there keep what is known of them
  pub record Gift (A : Type 0) : Type 1 where
    pub typed : A → Type 0
    pub ready : A → ℕ → List Known → Type 0
    pub stays : (x : A) (n m : ℕ) (k j : List Known) → n ≤ m → ready x n k → Keeps f n None k j → ready x m j

  abbrev pub nothing : Gift (Unit {0})
  nothing = record { typed = λ x. Unit {0}; ready = λ x n k. Unit {0}; stays = λ x n m k j h p keeps. tt }

  -- one and another
  abbrev pub both : {A B : Type 0} → Gift A → Gift B → Gift (A × B)
  both Q O = record {
    typed = λ x. Q.typed x.0 × O.typed x.1;
    ready = λ x n k. Q.ready x.0 n k × O.ready x.1 n k;
    stays = λ x n m k j h p keeps. (Q.stays x.0 n m k j h p.0 keeps, O.stays x.1 n m k j h p.1 keeps);
  }

  -- ---- a number of a type, in a register

  abbrev pub IsNumberOf : Ty → ℕ → Type 0
  IsNumberOf t r = is_number_of types f t r ≡ true

  pub held_stays : (r n m : ℕ) (k j : List Known) → n ≤ m → IsHeld r n k → Keeps f n None k j → IsHeld r m j
  held_stays r n m k j h p keeps = (omega (arith, h, p.0), keeps.below r p.0 tt ∙ p.1)

  abbrev pub a_number : Ty → Gift ℕ
  a_number t = record { typed = IsNumberOf t; ready = IsHeld; stays = held_stays }

  -- ---- a place of a type, which is const only where this is

  pub record IsPlaceOf (t : Ty) (constant : Bool) (o : Operand) : Type 0 where
    pub typed : type_of types f o ≡ t
    pub held : keeps_const constant (is_const_place types f o) ≡ true

  pub place_stays : (o : Operand) (n m : ℕ) (k j : List Known) → n ≤ m → IsPlace o n k → Keeps f n None k j → IsPlace o m j
  place_stays o n m k j h p keeps = record { local = p.local; uses = p.uses; below = omega (arith, p.below, h); held = keeps.below p.local p.below tt ∙ p.held }

  abbrev pub a_place : Ty → Bool → Gift Operand
  a_place t constant = record { typed = IsPlaceOf t constant; ready = IsPlace; stays = place_stays }

  -- ---- a location that holds a pointer of a type: a register, or a member of a variable

  pub record IsAt (t : Ty) (l : Location) : Type 0 where
    pub typed : type_in types f l ≡ t
    pub kept : lies_in f l ≡ true

  pub pointer_stays : (l : Location) (n m : ℕ) (k j : List Known) → n ≤ m → IsPointer l n k → Keeps f n None k j → IsPointer l m j
  pointer_stays l n m k j h p keeps = record { local = p.local; is = p.is; below = omega (arith, p.below, h); held = keeps.below p.local p.below tt ∙ p.held }

  abbrev pub a_pointer : Ty → Gift Location
  a_pointer t = record { typed = IsAt t; ready = IsPointer; stays = pointer_stays }

  -- ---- what is given to a pointer by an expression of a type

  -- an instruction with a hole can stand for each pointer that takes what is given
  abbrev pub IsGivenAs : ExprType → Pointing → Type 0
  IsGivenAs t (By step) = (u : Ty) (l : Location) → is_location u ≡ true → type_in types f l ≡ u → IsTakenBy types u t → IsFineStep types texts fs f (step l)
  IsGivenAs (Of t) (As l) = IsAt t l
  IsGivenAs NullPointer (As l) = ⊥
  IsGivenAs TextLiteral (As l) = ⊥

  pub all_stay : (xs : List ℕ) (n m : ℕ) (k j : List Known) → n ≤ m → AreHeld xs n k → Keeps f n None k j → AreHeld xs m j
  all_stay [] n m k j h p keeps = tt
  all_stay (x ∷ xs) n m k j h p keeps = (held_stays x n m k j h p.0 keeps, all_stay xs n m k j h p.1 keeps)

  pub filling_stays : (step : Location → Step) (n m : ℕ) (k j : List Known) → n ≤ m → IsFilling f step n k → Keeps f n None k j → IsFilling f step m j
  filling_stays step n m k j h p keeps = record { uses = p.uses; held = all_stay p.uses n m k j h p.held keeps; touches = p.touches; parts = p.parts; looks = p.looks }

  pub pointing_stays : (p : Pointing) (n m : ℕ) (k j : List Known) → n ≤ m → IsPointing f p n k → Keeps f n None k j → IsPointing f p m j
  pointing_stays (By step) n m k j h p keeps = filling_stays step n m k j h p keeps
  pointing_stays (As l) n m k j h p keeps = pointer_stays l n m k j h p keeps

  abbrev pub a_pointing : ExprType → Gift Pointing
  a_pointing t = record { typed = IsGivenAs t; ready = IsPointing f; stays = pointing_stays }

  -- ---- values in registers, for parameters of these types

  pub record AreHanded (ids : List TyId) (xs : List Argument) : Type 0 where
    pub fit : are_arguments_for types texts fs f ids xs ≡ true
    pub own : have_own_slots types texts fs f xs ≡ true
    pub given : flat_map given_argument xs ≡ []

  pub numbers_stay : (ids : List TyId) (xs : List Argument) (n m : ℕ) (k j : List Known) → n ≤ m → AreNumbersFor ids xs n k → Keeps f n None k j → AreNumbersFor ids xs m j
  numbers_stay [] [] n m k j h p keeps = tt
  numbers_stay (id ∷ ids) (Value r ∷ xs) n m k j h p keeps = (held_stays r n m k j h p.0 keeps, numbers_stay ids xs n m k j h p.1 keeps)
  numbers_stay (id ∷ ids) (PointerOf l ∷ xs) n m k j h p keeps = (pointer_stays l n m k j h p.0 keeps, numbers_stay ids xs n m k j h p.1 keeps)
  numbers_stay _ _ n m k j h p keeps = absurd p

  abbrev pub arguments : List TyId → Gift (List Argument)
  arguments ids = record { typed = AreHanded ids; ready = AreNumbersFor ids; stays = numbers_stay ids }

  -- .. or owners that are given over

  pub record AreFit (ids : List TyId) (xs : List Argument) : Type 0 where
    pub fit : are_arguments_for types texts fs f ids xs ≡ true
    pub own : have_own_slots types texts fs f xs ≡ true

  pub taken_stays : (x n m : ℕ) (k j : List Known) → n ≤ m → IsTaken x n k → Keeps f n None k j → IsTaken x m j
  taken_stays x n m k j h p keeps = (omega (arith, h, p.0), keeps.below x p.0 tt ∙ p.1)

  pub handed_stay : (ids : List TyId) (xs : List Argument) (n m : ℕ) (k j : List Known) → n ≤ m → AreHandedFor ids xs n k → Keeps f n None k j → AreHandedFor ids xs m j
  handed_stay [] [] n m k j h p keeps = tt
  handed_stay (id ∷ ids) (Value r ∷ xs) n m k j h p keeps = (held_stays r n m k j h p.0 keeps, handed_stay ids xs n m k j h p.1 keeps)
  handed_stay (id ∷ ids) (PointerOf l ∷ xs) n m k j h p keeps = (pointer_stays l n m k j h p.0 keeps, handed_stay ids xs n m k j h p.1 keeps)
  handed_stay (id ∷ ids) (GivenOver x ∷ xs) n m k j h p keeps = (taken_stays x n m k j h p.0 keeps, handed_stay ids xs n m k j h p.1 keeps)
  handed_stay _ _ n m k j h p keeps = absurd p

  abbrev pub all_handed : List TyId → Gift (List Argument)
  all_handed ids = record { typed = AreFit ids; ready = AreHandedFor ids; stays = handed_stay ids }

  -- ---- an owner that is given over, which what is known doesn't see

  abbrev pub a_given : Ty → Gift ℕ
  a_given t = record { typed = λ x. is_given types f t x ≡ true; ready = IsTaken; stays = taken_stays }
