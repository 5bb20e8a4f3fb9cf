-- A temporary comes to life: an object without a name, which is pending from there on.
use Rattle.std.proofs.Common.{◌≡◌, ◌<◌, ◌⊎◌, inl, inr, ℕ, true, false, List, [], ◌∷◌, ◌++◌, Contains, length, slice_get, slice_set, Some, None, refl, ap, ◌∙◌, subst, arith, length-append, ◌≤◌}
use Rattle.std.proofs.lemmas.Bool.{and_parts, false≢true, or_left}
use Rattle.std.specs.List.{list_all}
use Rattle.std.proofs.lemmas.Option.{slice_get_within}
use Rattle.life_elab_laws.proofs.ObjectTypes.{is_owner_of_values, is_unique_of_element}
use Rattle.life_types.specs.TypeTests.{is_pointer, is_reference}
use Rattle.life_types.specs.Types.{Types}
use Rattle.life_types.specs.declared.place.Place.{Place}
use Rattle.life_types.specs.declared.ty.Ty.{Ty}
use Rattle.life_types.specs.declared.ty.Ty.TheVariants as ty
use Rattle.life_core.specs.Function.{Function}
use Rattle.life_core.specs.Operands.{Operand, object_named}
use Rattle.life_core.specs.Step.{Live, Step}
use Rattle.life_core.specs.Tree.{Acts, trees}
use Rattle.life_core.specs.declared.instr.Form.{Form}
use Rattle.life_core.specs.declared.program.Local.{Local}
use Rattle.life_core.specs.declared.program.LocalKind.TheVariants.{Object}
use Rattle.life_proper.specs.GivenOver.{given_step}
use Rattle.life_proper.specs.Knowing.{known_at}
use Rattle.life_proper.specs.Placed.{object_at}
use Rattle.life_proper.specs.Placed as placed
use Rattle.life_proper.specs.WellFormed.{can_live}
use Rattle.life_proper.specs.declared.known.Known.{Known}
use Rattle.life_proper.specs.declared.known.Known.TheVariants as known
use Rattle.life_writer.specs.Registers.{type_number, typed_with}
use Rattle.life_writer.specs.Temporaries.{nameless_of, temporary}
use Rattle.life_writer.specs.Writing.{Gives, State, emit, gives}
use Rattle.life_elab_laws.proofs.Among.{Among, among_contains, among_either, among_left, among_right, ascend_more}
use Rattle.life_elab_laws.proofs.BornLocals.{filled_bears}
use Rattle.life_elab_laws.proofs.Emitting.{keeps_set}
use Rattle.life_elab_laws.proofs.Falling.{Fills, falls_filling}
use Rattle.life_elab_laws.proofs.FormedVariables.{object_place, owner_no_reference}
use Rattle.life_elab_laws.proofs.Fronts.{front_append, last_there}
use Rattle.life_elab_laws.proofs.Gifts.{Gift, IsPlaceOf, a_place, nothing}
use Rattle.life_elab_laws.proofs.GivenApart.{given_of, one_pending, step_apart, then_opens}
use Rattle.life_elab_laws.proofs.LookedLocals.{looked_of}
use Rattle.life_elab_laws.proofs.Growing.{Begins, Grows}
use Rattle.life_elab_laws.proofs.Knowledge.{at_set, beside_set, set_length}
use Rattle.life_elab_laws.proofs.Making.{Alive, IsOpen}
use Rattle.life_elab_laws.proofs.OperandsThere.{object_there, type_there, value_no_reference}
use Rattle.life_elab_laws.proofs.OrderedTypes.{HasPartsIn, type_ordered}
use Rattle.life_elab_laws.proofs.Parts.{Goes, Makes, Part}
use Rattle.life_elab_laws.proofs.PendingTemporaries.{ArePending, ArePendingIn, IsTemporary, temporary_later}
use Rattle.life_elab_laws.proofs.Saving.{live_fills}
use Rattle.life_elab_laws.proofs.Shaping.{IsFineStep, fine_acts, is_no_object, step_keeps}
use Rattle.life_elab_laws.proofs.Types.{type_added, types_before}
use Rattle.life_elab_laws.proofs.Values.{by_owners, by_values}
use Rattle.life_elab_laws.proofs.WrittenLocals.{AddsRegisters, FitsTemporary, register_pushed}

-- a temporary is no pointer
pub temporary_plain : (types : Types) (t : Ty) → FitsTemporary types t → is_pointer t ≡ false
temporary_plain types t (inl value) = by_values (λ u. is_pointer u ≡ false) refl refl refl refl refl t value
temporary_plain types t (inr (inl owner)) = go t owner
  where
    go : (u : Ty) → is_owner_of_values types u ≡ true → is_pointer u ≡ false
    go = by_owners types _ refl (λ item. refl)
temporary_plain types t (inr (inr (inr structure))) = ap is_pointer structure.is
temporary_plain types t (inr (inr (inl unique))) = go t unique
  where
    go : (u : Ty) → is_unique_of_element types u ≡ true → is_pointer u ≡ false
    go (ty.Unique target) w = refl
    go _ w = absurd (false≢true w)

pub no_reference : (types : Types) (t : Ty) → FitsTemporary types t → is_reference t ≡ false
no_reference types t (inl value) = value_no_reference t value
no_reference types t (inr (inl owner)) = owner_no_reference types t owner
no_reference types t (inr (inr (inr structure))) = ap is_reference structure.is
no_reference types t (inr (inr (inl unique))) = go t unique
  where
    go : (u : Ty) → is_unique_of_element types u ≡ true → is_reference u ≡ false
    go (ty.Unique target) w = refl
    go _ w = absurd (false≢true w)

module _ (types : Types) (texts : ℕ) (fs : List Function) (f : Function) (place : Place) (step : ℕ → Step) (t : Ty) (s : State) (fits : FitsTemporary types t)
    (opened : IsOpen s) (low : ℕ) (before : ArePending low s) (within : HasPartsIn s.types t) where
  -- its number, and its local
  abbrev pub x : ℕ
  x = length s.locals

  abbrev l : Local
  l = nameless_of Object place (type_number t (typed_with t s))

  -- where its place in memory is known
  abbrev pub begun : State
  begun = ((temporary place t).begins s).state

  -- .. and an instruction has brought it to life
  abbrev pub born : Gives Operand
  born = gives (object_named x) (emit place (step x) begun)

  -- ---- what is written grows

  own : (n : ℕ) → n ≤ length s.locals → IsTemporary n begun.locals begun.types.types x
  own n le = record {
    beyond = le;
    local = l;
    there = last_there s.locals l;
    nameless = refl;
    kind = refl;
    ty = t;
    typed = type_added s.types.types t;
    plain = temporary_plain types t fits;
  }

  below : (y : ℕ) → Among y s.pending → y < x
  below y m = let was = before.each y m in slice_get_within s.locals y was.local was.there

  pends : (n : ℕ) → ArePending n s → ArePendingIn n begun.locals begun.types.types s.living (s.pending ++ x ∷ [])
  pends n p = record {
    past = omega (arith, p.past, length-append s.locals (l ∷ []));
    ascend = ascend_more 0 s.pending x before.ascend (omega arith) below;
    each = λ y m. each y (among_either s.pending (x ∷ []) y m);
    beside = λ y m. beside y (among_either s.pending (x ∷ []) y m);
  }
    where
      each : (y : ℕ) → Among y s.pending ⊎ Among y (x ∷ []) → IsTemporary n begun.locals begun.types.types y
      each y (inl old) = temporary_later _ s.locals begun.locals s.types.types begun.types.types y (front_append s.locals (l ∷ [])) (types_before s.types.types t) (p.each y old)
      each y (inr (inl e)) = subst (IsTemporary n begun.locals begun.types.types) e (own n p.past)
      each y (inr (inr none)) = absurd none

      beside : (y : ℕ) → Among y s.pending ⊎ Among y (x ∷ []) → Contains s.living y → ⊥
      beside y (inl old) c = before.beside y old c
      beside y (inr (inl e)) c = let lt = opened y c in omega (arith, e, lt)
      beside y (inr (inr none)) c = none

  pub born_grows : Grows s born.state
  born_grows = record {
    locals = front_append s.locals (l ∷ []);
    types = types_before s.types.types t;
    count = omega (arith, length-append s.locals (l ∷ []));
    variables = refl;
    living = refl;
    pending = front_append s.pending (x ∷ []);
    fresh = λ y m lt. elim (among_either s.pending (x ∷ []) y m) [ inl old ↦ old | inr new ↦ elim new [ inl e ↦ absurd (omega (arith, e, lt)) | inr none ↦ absurd none ] ];
    pends = λ n p. pends n p;
    outside = refl;
  }

  pub born_registers : AddsRegisters types s born.state
  born_registers = (
    register_pushed types begun.types s.locals l (record { nameless = refl; ty = t; typed = type_added s.types.types t; fits = inr (inl (refl, fits)) }),
    type_ordered s.types t within,
  )

  -- ---- in the finished function

  module _ (b : Begins types f born.state) where
    there : slice_get f.locals x ≡ Some l
    there = b.locals x l (last_there s.locals l)

    pub born_object : object_at types f x ≡ true
    born_object = object_there types f x l there refl

    pub born_typed : placed.type_at types f x ≡ t
    born_typed = type_there types f x l t there (b.table l.ty.0 t (type_added s.types.types t)) (no_reference types t fits)

    pub born_lives : can_live types texts fs f x ≡ true
    born_lives = or_left (object_at types f x) _ born_object

    pub born_place : IsPlaceOf types texts fs f t false (object_named x)
    born_place = object_place types texts fs f x t false born_object born_typed

    -- ---- on a way

    module _ (k : List Known) (alive : Alive f s k) where
      pub born_within : x < length k
      born_within = omega (arith, alive.sized, slice_get_within f.locals x l there)

      -- it isn't there before
      pub born_blank : known_at k x ≡ known.Blank
      born_blank = alive.blank x l there refl (λ m. let far = opened x (among_contains s.living x m) in omega (arith, far)) (λ m. let far = below x m in omega (arith, far))

      pub born_alive : Alive f born.state (slice_set k x known.Ready)
      born_alive = record {
        sized = set_length k x known.Ready ∙ alive.sized;
        living = λ y c. beside_set k x y known.Ready (λ e. let far = opened y c in omega (arith, e, far)) ∙ alive.living y c;
        pending = λ y m. pending y (among_either s.pending (x ∷ []) y m);
        blank = λ y z at lasts out no.
            beside_set k x y known.Ready (λ e. no (among_right s.pending (x ∷ []) y (inl e)))
            ∙ alive.blank y z at lasts out (λ m. no (among_left s.pending (x ∷ []) y m));
      }
        where
          pending : (y : ℕ) → Among y s.pending ⊎ Among y (x ∷ []) → known_at (slice_set k x known.Ready) y ≡ known.Ready
          pending y (inl old) = beside_set k x y known.Ready (λ e. let far = below y old in omega (arith, e, far)) ∙ alive.pending y old
          pending y (inr (inl e)) = subst (λ (z : ℕ). known_at (slice_set k x known.Ready) z ≡ known.Ready) e (at_set k x known.Ready born_within)
          pending y (inr (inr none)) = absurd none

  -- behind what gave y
  module _ {A : Type 0} (P : Gift types texts fs f A) (y : A) (fine : Begins types f born.state → P.typed y → IsFineStep types texts fs f (step x))
      (fills : (k : List Known) → P.ready y x k → known_at k x ≡ known.Blank → Fills f k (step x) x) where
    goes : Begins types f born.state → P.typed y → (k : List Known) → Alive f s k → P.ready y x k → Goes types texts fs f None s born (a_place types texts fs f t false) (Acts place (step x) ∷ []) k
    goes b p k alive q = record {
      after = slice_set k x known.Ready;
      falls = falls_filling types f place (step x) x k (fills k q blank);
      keeps = keeps_set f x None x known.Ready k (λ y lt b e. omega (arith, lt, e));
      gives = record { local = x; uses = refl; below = omega (arith, length-append s.locals (l ∷ [])); held = at_set k x known.Ready (born_within b k alive) };
      alive = born_alive b k alive;
      apart = λ under.
          then_opens f s s born.state (looked_of (trees (Acts place (step x) ∷ []))) (given_of (trees (Acts place (step x) ∷ []))) born_grows.count
          (λ y o. one_pending x (length born.state.locals) s.living s.pending y (omega (arith, length-append s.locals (l ∷ []))) o) under
          (step_apart f types (step x) place s k alive (fills k q blank).ready (and_parts (list_all (is_no_object types f) (given_step (step x))) (step_keeps f (step x)) (fine b p).given).0 under);
      bears = filled_bears f (step x) place s k alive x (fills k q blank).after (λ object. omega arith);
    }
      where
        blank : known_at k x ≡ known.Blank
        blank = born_blank b k alive

    pub born_part : Part types texts fs f P y None s born (a_place types texts fs f t false)
    born_part = record {
      grown = born_grows;
      registers = born_registers;
      code = Acts place (step x) ∷ [];
      written = refl;
      runs = λ b p. record {
        fine = fine_acts types texts fs f place (step x) (fine b p);
        typed = born_place b;
        goes = λ k alive q. goes b p k alive q;
      };
    }

-- .. by itself
module _ (types : Types) (texts : ℕ) (fs : List Function) (f : Function) (place : Place) (form : Form) (t : Ty) (s : State) (fits : FitsTemporary types t)
    (opened : IsOpen s) (low : ℕ) (before : ArePending low s) (within : HasPartsIn s.types t) where
  abbrev lives : ℕ → Step
  lives x = Live x form

  abbrev pub lived_there : Gives Operand
  lived_there = born types texts fs f place lives t s fits opened low before within

  pub lived_fine : Begins types f lived_there.state → IsFineStep types texts fs f (Live (length s.locals) form)
  lived_fine b = record { given = refl; formed = born_lives types texts fs f place lives t s fits opened low before within b }

  pub lived_part : Makes types texts fs f None s lived_there (a_place types texts fs f t false)
  lived_part =
      born_part types texts fs f place lives t s fits opened low before within (nothing types texts fs f) tt
      (λ b p. lived_fine b) (λ k q blank. live_fills types f (length s.locals) form k blank)
