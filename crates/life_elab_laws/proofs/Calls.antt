-- Calls: arguments in registers, and what a function that is called takes and gives.
use Rattle.std.proofs.Common.{◌≡◌, ℕ, Bool, true, false, List, [], ◌∷◌, ◌++◌, cond, flat_map, slice_get, Option, Some, None, refl, ap, ◌∙◌, sym, append_assoc}
use Rattle.std.proofs.lemmas.Bool.{and_from, false≢true}
use Rattle.life_types.specs.Types.{Types}
use Rattle.life_types.specs.declared.ty.TyId.{TyId}
use Rattle.life_typed.specs.Programs.{FunctionForm}
use Rattle.life_core.specs.Function.{Function}
use Rattle.life_core.specs.Kinds.{has_kind, is_object, is_object_at, is_register, is_register_at}
use Rattle.life_core.specs.Operands.{Argument, PointerOf, Value, whole}
use Rattle.life_core.specs.Touched.{argument_leaves, argument_uses, if_object, nothing, touched_by, unless_object}
use Rattle.life_core.specs.declared.program.Local.{Local}
use Rattle.life_core.specs.declared.program.LocalKind.{LocalKind}
use Rattle.life_core.specs.declared.program.LocalKind.TheVariants.{Object, Range, Register}
use Rattle.life_proper.specs.declared.known.Known.{Known}
use Rattle.life_proper.specs.declared.known.Known.TheVariants as known
use Rattle.life_proper.specs.Knowing.{known_at}
use Rattle.life_proper.specs.ReadyKnown.{are_known, are_ready, can_leave, is_known, known_after, set_known}
use Rattle.life_proper.specs.WellFormed.{types_taken}
use Rattle.life_proper.proofs.ReadyTests.{all_ready, both_known, one_known}
use Rattle.life_writer.specs.Calls.{called, called_alone}
use Rattle.life_well_typed.specs.Expressions.{parameter_types}
use Rattle.life_elab_laws.proofs.Among.{among_left}
use Rattle.life_elab_laws.proofs.Falling.{Fills}
use Rattle.life_elab_laws.proofs.Gifts.{AreNumbersFor}
use Rattle.life_elab_laws.proofs.Held.{blank_there, ready_there}
use Rattle.life_elab_laws.proofs.LookedLocals.{arguments_used}
use Rattle.life_elab_laws.proofs.Making.{AreHeld, IsFilling}
use Rattle.life_elab_laws.proofs.ViewSteps.{pointer_is_held}
use Rattle.life_elab_laws.proofs.Filling.{only_uses}

-- ---- functions

-- the core function with this number takes values of the types that the typed one takes, and gives what that gives
pub record IsCallee (types : Types) (fs : List Function) (g : ℕ) (of : FunctionForm) : Type 0 where
  pub core : Function
  pub there : slice_get fs g ≡ Some core
  pub typed : types_taken core ≡ parameter_types (Some of)
  pub gives : core.result ≡ of.result

-- ---- a call is ready where its arguments are there

-- an object is born with the result, and a register written
pub one_local : (object : Bool) (x : ℕ) → cond object (x ∷ []) [] ++ cond object [] (x ∷ []) ≡ x ∷ []
one_local true x = refl
one_local false x = refl

pub no_object : (o : Option Local) → has_kind is_register o ≡ true → has_kind is_object o ≡ false
no_object None e = refl
no_object (Some l) e = go l.kind e
  where
    go : (k : LocalKind) → is_register k ≡ true → is_object k ≡ false
    go Object e = absurd (false≢true e)
    go Register e = refl
    go Range e = refl

module _ (f : Function) where
  numbers_there : (ids : List TyId) (xs : List Argument) (n : ℕ) (k : List Known) → AreNumbersFor ids xs n k → are_known known.Ready k (flat_map (argument_uses f) xs) ≡ true
  numbers_there [] [] n k h = refl
  numbers_there (id ∷ ids) (Value r ∷ xs) n k h =
      and_from (is_known known.Ready k r) (are_known known.Ready k (flat_map (argument_uses f) xs)) (ready_there k r h.0.1) (numbers_there ids xs n k h.1)
  numbers_there (id ∷ ids) (PointerOf l ∷ xs) n k h =
      and_from (is_known known.Ready k l.local) (are_known known.Ready k (flat_map (argument_uses f) xs)) (ready_there k l.local (ap (known_at k) h.0.is ∙ h.0.held)) (numbers_there ids xs n k h.1)
  numbers_there _ _ n k h = absurd h

  numbers_held : (ids : List TyId) (xs : List Argument) (n : ℕ) (k : List Known) → AreNumbersFor ids xs n k → AreHeld (flat_map (argument_uses f) xs ++ []) n k
  numbers_held [] [] n k h = tt
  numbers_held (id ∷ ids) (Value r ∷ xs) n k h = (h.0, numbers_held ids xs n k h.1)
  numbers_held (id ∷ ids) (PointerOf l ∷ xs) n k h = (pointer_is_held l n k h.0, numbers_held ids xs n k h.1)
  numbers_held _ _ n k h = absurd h

  -- nothing is given over
  numbers_stay : (ids : List TyId) (xs : List Argument) (n : ℕ) (k : List Known) → AreNumbersFor ids xs n k → flat_map (argument_leaves f) xs ≡ []
  numbers_stay [] [] n k h = refl
  numbers_stay (id ∷ ids) (Value r ∷ xs) n k h = numbers_stay ids xs n k h.1
  numbers_stay (id ∷ ids) (PointerOf l ∷ xs) n k h = numbers_stay ids xs n k h.1
  numbers_stay _ _ n k h = absurd h

  module _ (g : ℕ) (ids : List TyId) (xs : List Argument) (n : ℕ) (k : List Known) (numbers : AreNumbersFor ids xs n k) where
    used : are_known known.Ready k (flat_map (argument_uses f) xs ++ []) ≡ true
    used = both_known known.Ready k (flat_map (argument_uses f) xs) [] (numbers_there ids xs n k numbers) refl

    stay : flat_map (argument_leaves f) xs ≡ []
    stay = numbers_stay ids xs n k numbers

    call_fills : (x : ℕ) → are_known known.Blank k (if_object f x) ≡ true → Fills f k (called g xs (whole x)) x
    call_fills x born = record {
      ready = all_ready k (touched_by f (called g xs (whole x))) used (ap (can_leave k) stay) born;
      after =
          ap (λ (gone : List ℕ). set_known known.Ready (if_object f x ++ unless_object f x) (set_known known.Blank gone k)) stay
          ∙ ap (λ (here : List ℕ). set_known known.Ready here k) (one_local (is_object_at f x) x);
    }

    -- its result goes to a register
    pub written_fills : (r : ℕ) → is_register_at f r ≡ true → Fills f k (called g xs (whole r)) r
    written_fills r e = call_fills r (ap (λ (object : Bool). are_known known.Blank k (cond object (r ∷ []) [])) (no_object (slice_get f.locals r) e))

    -- .. whichever it is
    pub called_filling : IsFilling f (called g xs) n k
    called_filling = record {
      uses = flat_map (argument_uses f) xs ++ [];
      held = numbers_held ids xs n k numbers;
      touches = λ x e.
          ap (λ (gone : List ℕ). record nothing { uses = flat_map (argument_uses f) xs ++ []; leaves = gone; births = if_object f x; writes = unless_object f x }) stay
          ∙ ap (λ (object : Bool). record nothing { uses = flat_map (argument_uses f) xs ++ []; births = cond object (x ∷ []) []; writes = cond object [] (x ∷ []) }) (no_object (slice_get f.locals x) e);
      parts = λ x m ms. ap (λ (gone : List ℕ). record nothing { uses = flat_map (argument_uses f) xs ++ x ∷ []; leaves = gone }) stay ∙ only_uses (sym (append_assoc (flat_map (argument_uses f) xs) [] (x ∷ [])));
      looks = λ l x m. among_left (flat_map (argument_uses f) xs) [] x (arguments_used f xs x m);
    }

    -- .. or brings to life what isn't there
    pub born_fills : (x : ℕ) → known_at k x ≡ known.Blank → Fills f k (called g xs (whole x)) x
    born_fills x blank = call_fills x (go (is_object_at f x))
      where
        go : (object : Bool) → are_known known.Blank k (cond object (x ∷ []) []) ≡ true
        go true = one_known known.Blank k x (blank_there k x blank)
        go false = refl

    -- .. or is thrown away
    pub alone_ready : are_ready k (touched_by f (called_alone g xs)) ≡ true
    alone_ready = all_ready k (touched_by f (called_alone g xs)) used (ap (can_leave k) stay) refl

    pub alone_after : known_after (touched_by f (called_alone g xs)) k ≡ k
    alone_after = ap (λ (gone : List ℕ). set_known known.Blank gone k) stay
