-- Single instructions that write a register: what is asked of each, and that it is a part behind what its operands give.
use Rattle.std.proofs.Common.{◌≡◌, ◌<◌, inl, inr, ℕ, Bool, true, false, ◌&&◌, cond, List, [], ◌∷◌, ◌++◌, length, slice_set, Option, Some, None, refl, sym, ap, ◌∙◌, subst, arith, zero, suc}
use Rattle.std.proofs.lemmas.Bool.{and_from, and_parts, false≢true}
use Rattle.std.specs.List.{list_all}
use Rattle.std.proofs.lemmas.Option.{slice_get_within}
use Rattle.std.specs.Prelude.{ℤ}
use Rattle.life_types.specs.Trees.{HasPartsBelow}
use Rattle.life_types.specs.TypeTests.{is_raw, is_value}
use Rattle.life_types.specs.Types.{Types}
use Rattle.life_types.specs.contracts.ty.TyPartialEq.TheImpl.{ghosts as compared}
use Rattle.life_types.specs.declared.place.Place.{Place}
use Rattle.life_types.specs.declared.ty.Ty.{Ty}
use Rattle.life_types.specs.declared.ty.Ty.TheVariants as ty
use Rattle.life_typed.specs.declared.typed_expr.ExprType.{ExprType}
use Rattle.life_typed.specs.declared.typed_expr.ExprType.TheVariants.{NullPointer, Of, TextLiteral}
use Rattle.life_core.specs.Function.{Function}
use Rattle.life_core.specs.Kinds.{is_register_at}
use Rattle.life_core.specs.Operands.{Location, Operand, whole}
use Rattle.life_core.specs.Step.{Same, Step}
use Rattle.life_core.specs.Touched.{operation_uses, place_uses, touched_by}
use Rattle.life_core.specs.Tree.{Acts, trees}
use Rattle.life_core.specs.declared.operation.Operation.{Operation}
use Rattle.life_core.specs.declared.operation.Operation.TheVariants as operation
use Rattle.life_core.specs.declared.operation.Operator.{Operator}
use Rattle.life_proper.specs.GivenOver.{given_step}
use Rattle.life_proper.specs.Knowing.{known_at}
use Rattle.life_proper.specs.OperandTypes.{is_promoted}
use Rattle.life_proper.specs.OperandTypes as operands
use Rattle.life_proper.specs.Placed.{is_number, is_number_of, type_at, type_in}
use Rattle.life_proper.specs.ReadyKnown.{are_known, are_ready, known_after}
use Rattle.life_proper.specs.WellFormed.{answer_of, is_operation_of}
use Rattle.life_proper.specs.declared.known.Known.{Known}
use Rattle.life_proper.specs.declared.known.Known.TheVariants as known
use Rattle.life_proper.proofs.ReadyTests.{uses_ready}
use Rattle.life_writer.specs.Pointers.{As, By, Pointing, located}
use Rattle.life_writer.specs.Registers.{as_type, computed, constant, conversion, converted, eval, load, new_register, target}
use Rattle.life_writer.specs.Values as values
use Rattle.life_writer.specs.Writing.{Gives, State, emit, gives}
use Rattle.life_elab_laws.proofs.BornLocals.{filled_bears, still_bears}
use Rattle.life_elab_laws.proofs.Emitting.{IsInto, IsNameless, IsWanted, Targets, keeps_set, nameless_no_object, nameless_register, new_targeted, targeted}
use Rattle.life_elab_laws.proofs.Falling.{Fills, falls_acts, falls_filling}
use Rattle.life_elab_laws.proofs.Fronts.{last_there}
use Rattle.life_elab_laws.proofs.Filling.{filling_fills}
use Rattle.life_elab_laws.proofs.FormedVariables.{location_no_reference}
use Rattle.life_elab_laws.proofs.Gifts.{Gift, IsAt, IsGivenAs, IsTakenBy, a_number, a_place, a_pointer, a_pointing, both, nothing}
use Rattle.life_elab_laws.proofs.Among.{Among}
use Rattle.life_elab_laws.proofs.GivenApart.{given_of, step_apart, then_opens}
use Rattle.life_elab_laws.proofs.LookedLocals.{looked_of}
use Rattle.life_elab_laws.proofs.Growing.{Begins, Grows, added, grows_none}
use Rattle.life_elab_laws.proofs.Held.{one_there, place_there, two_there}
use Rattle.life_elab_laws.proofs.Knowledge.{at_set}
use Rattle.life_elab_laws.proofs.Locations.{is_location}
use Rattle.life_elab_laws.proofs.Making.{IsOpen, IsPointer, Keeps, keeps_all, Alive}
use Rattle.life_elab_laws.proofs.OperandsThere.{number_any, number_there, number_typed, register_there, type_there, value_same}
use Rattle.life_elab_laws.proofs.Parts.{Makes, Part, Runs, and_part, gives_part, then_part}
use Rattle.life_elab_laws.proofs.Shaping.{IsFineStep, fine_acts, is_no_object, step_keeps}
use Rattle.life_elab_laws.proofs.Types.{same_types, type_added}
use Rattle.life_elab_laws.proofs.WrittenLocals.{fits_register, registers_none}
use Rattle.life_elab_laws.proofs.StillThere.{alive_grown, alive_same, alive_set}

-- ---- the register that is written

-- the one that is wanted has this type
abbrev pub IsIntoOf : Ty → State → Option ℕ → Type 0
IsIntoOf t s None = Unit {0}
IsIntoOf t s (Some r) = (is : IsWanted s r) × (is.ty ≡ t)

pub into_of_later : (t : Ty) (s s' : State) (into : Option ℕ) → Grows s s' → IsIntoOf t s into → IsIntoOf t s' into
into_of_later t s s' None g h = tt
into_of_later t s s' (Some r) g h = (
  record {
    local = h.0.local;
    there = g.locals r h.0.local h.0.there;
    nameless = h.0.nameless;
    kind = h.0.kind;
    ty = h.0.ty;
    typed = g.types h.0.local.ty.0 h.0.ty h.0.typed;
    value = h.0.value;
  },
  h.1,
)

pub is_into : (t : Ty) (s : State) (into : Option ℕ) → IsIntoOf t s into → IsInto s into
is_into t s None h = tt
is_into t s (Some r) h = h.0

module _ (types : Types) (texts : ℕ) (fs : List Function) (f : Function) where
  abbrev G : Type 0 → Type 1
  G A = Gift types texts fs f A

  -- ---- an instruction that writes a register, behind what gave x

  pub emit_part : {A C : Type 0} (P : G A) (x : A) (into : Option ℕ) (s : State) (w : Gives ℕ) (place : Place) (step : ℕ → Step) (y : C) (O : G C)
      → Targets types f into s w
      → (Begins types f w.state → P.typed x → IsFineStep types texts fs f (step w.given) × O.typed y)
      → ((r n : ℕ) (k : List Known) → is_register_at f r ≡ true → P.ready x n k → Fills f k (step r) r)
      → ((k : List Known) → w.given < length w.state.locals → known_at k w.given ≡ known.Ready → O.ready y (length w.state.locals) k)
      → Part types texts fs f P x into s (gives y (emit place (step w.given) w.state)) O
  emit_part P x into s w place step y O t typed fills given = record {
    grown = t.grown;
    registers = t.registers;
    code = Acts place (step w.given) ∷ [];
    written = ap (λ c. c ++ Acts place (step w.given) ∷ []) t.unwritten;
    runs = λ b p. runs (t.there b) (typed b p);
  }
    where
      runs : IsNameless f w.given → IsFineStep types texts fs f (step w.given) × O.typed y → Runs types texts fs f P x into s (gives y (emit place (step w.given) w.state)) O (Acts place (step w.given) ∷ [])
      runs is fine = record {
        fine = fine_acts types texts fs f place (step w.given) fine.0;
        typed = fine.1;
        goes = λ k alive p. record {
          after = slice_set k w.given known.Ready;
          falls = falls_filling types f place (step w.given) w.given k (fills w.given (length s.locals) k (nameless_register f w.given is) p);
          keeps = keeps_set f (length s.locals) into w.given known.Ready k t.beside;
          gives = given (slice_set k w.given known.Ready) t.below (at_set k w.given known.Ready (omega (arith, alive.sized, slice_get_within f.locals w.given is.local is.there)));
          alive = alive_set f w.state k w.given is (alive_grown f s w.state k t.level t.grown alive);
          apart = λ below.
              then_opens f s s w.state (looked_of (trees (Acts place (step w.given) ∷ []))) (given_of (trees (Acts place (step w.given) ∷ []))) t.grown.count
              (λ y o. elim o [ inl m ↦ inl (inl (subst (Among y) t.grown.living m)) | inr m ↦ inl (inr (subst (Among y) t.level m)) ]) below
              (step_apart f types (step w.given) place s k alive (fills w.given (length s.locals) k (nameless_register f w.given is) p).ready
              (and_parts (list_all (is_no_object types f) (given_step (step w.given))) (step_keeps f (step w.given)) fine.0.given).0 below);
          bears = filled_bears f (step w.given) place s k alive w.given (fills w.given (length s.locals) k (nameless_register f w.given is) p).after (λ object. absurd (false≢true (sym (nameless_no_object f w.given is) ∙ object)));
        };
      }

  -- ---- instructions that compute

  -- what is asked of an instruction that computes a number of a type from what gave x
  pub record Computes {A : Type 0} (P : G A) (x : A) (t : Ty) (step : ℕ → Step) : Type 0 where
    pub fills : (r n : ℕ) (k : List Known) → is_register_at f r ≡ true → P.ready x n k → Fills f k (step r) r
    pub fine : (r : ℕ) → is_number_of types f t r ≡ true → P.typed x → IsFineStep types texts fs f (step r)

  pub target_number : (place : Place) (into : Option ℕ) (t : Ty) (s : State) → is_value t ≡ true → IsIntoOf t s into → Begins types f (target place into t s).state → is_number_of types f t (target place into t s).given ≡ true
  target_number place None t s v wanted b =
      number_there types f (length s.locals) (added place t s) t (b.locals (length s.locals) (added place t s) (last_there s.locals (added place t s))) refl
      (b.table (added place t s).ty.0 t (type_added s.types.types t)) v
  target_number place (Some x) t s v wanted b =
      number_there types f x wanted.0.local t (b.locals x wanted.0.local wanted.0.there) wanted.0.kind
      (b.table wanted.0.local.ty.0 t (wanted.0.typed ∙ ap Some wanted.1)) v

  pub computed_part : {A : Type 0} (P : G A) (x : A) (into : Option ℕ) (t : Ty) (place : Place) (step : ℕ → Step) (s : State) → is_value t ≡ true → IsIntoOf t s into → Computes P x t step
      → Part types texts fs f P x into s (computed into t place step s) (a_number types texts fs f t)
  computed_part P x into t place step s v wanted is =
      let w = target place into t s in
      emit_part P x into s w place step w.given (a_number types texts fs f t) (targeted types f place t s into v (is_into t s into wanted))
      (λ b p. let here = target_number place into t s v wanted b in (is.fine w.given here p, here))
      is.fills (λ k lt e. (lt, e))

  -- an operation between registers
  pub evaluates : {A : Type 0} (P : G A) (x : A) (t : Ty) (o : Operation) → ((n : ℕ) (k : List Known) → P.ready x n k → are_known known.Ready k (operation_uses o) ≡ true) → (P.typed x → is_operation_of types texts fs f t o ≡ true)
      → Computes P x t (eval o)
  evaluates P x t o ready formed = record {
    fills = λ r n k e p. record { ready = uses_ready k (operation_uses o) (r ∷ []) (ready n k p); after = refl };
    fine = λ r e p. record {
      given = refl;
      formed =
          and_from (is_number types f r) (is_operation_of types texts fs f (type_at types f r) o) (number_any types f t r e)
          (subst (λ (u : Ty). is_operation_of types texts fs f u o ≡ true) (number_typed types f t r e) (formed p));
    };
  }

  pub is_constant : {A : Type 0} (P : G A) (x : A) (t : Ty) (n : ℤ) → Computes P x t (constant n)
  is_constant P x t n = evaluates P x t (operation.Number n) (λ m k p. refl) (λ p. refl)

  -- ---- leaves

  pub constant_part : (into : Option ℕ) (t : Ty) (place : Place) (n : ℤ) (s : State) → is_value t ≡ true → IsIntoOf t s into → Makes types texts fs f into s (computed into t place (constant n) s) (a_number types texts fs f t)
  constant_part into t place n s v wanted = computed_part (nothing types texts fs f) tt into t place (constant n) s v wanted (is_constant (nothing types texts fs f) tt t n)

  pub input_part : (into : Option ℕ) (t : Ty) (place : Place) (s : State) → t ≡ ty.Long → IsIntoOf t s into → Makes types texts fs f into s (computed into t place values.input s) (a_number types texts fs f t)
  input_part into t place s long wanted =
      computed_part (nothing types texts fs f) tt into t place values.input s (ap is_value long) wanted
      (record {
        fills = λ r n k e p. record { ready = refl; after = refl };
        fine = λ r e p. record { given = refl; formed = subst (λ (u : Ty). is_number_of types f u r ≡ true) long e };
      })

  -- ---- from one register

  pub negation_part : (into : Option ℕ) (t : Ty) (place : Place) (from : ℕ) (s : State) → is_value t ≡ true → is_promoted t ≡ true → IsIntoOf t s into
      → Part types texts fs f (a_number types texts fs f t) from into s (computed into t place (values.negated from) s) (a_number types texts fs f t)
  negation_part into t place from s v p wanted =
      computed_part (a_number types texts fs f t) from into t place (values.negated from) s v wanted
      (evaluates (a_number types texts fs f t) from t (operation.Negate from) (λ n k h. one_there k from h.1) (λ h. and_from (is_promoted t) (is_number_of types f t from) p h))

  pub conversion_part : (into : Option ℕ) (u t : Ty) (place : Place) (from : ℕ) (s : State) → is_value t ≡ true → IsIntoOf t s into
      → Part types texts fs f (a_number types texts fs f u) from into s (computed into t place (conversion from) s) (a_number types texts fs f t)
  conversion_part into u t place from s v wanted =
      computed_part (a_number types texts fs f u) from into t place (conversion from) s v wanted
      (evaluates (a_number types texts fs f u) from t (operation.Convert from) (λ n k h. one_there k from h.1) (λ h. number_any types f u from h))

  -- .. from two of one type

  operator_formed : (u : Ty) (o : Operator) (x y : ℕ) → is_promoted u ≡ true → is_value (answer_of o u) ≡ true → is_number_of types f u x ≡ true → is_number_of types f u y ≡ true
      → is_operation_of types texts fs f (answer_of o u) (operation.Binary o x y) ≡ true
  operator_formed u o x y p v one other =
      subst (λ (w : Ty). (is_promoted w && (is_number_of types f w x && (is_number_of types f w y && same_type w))) ≡ true) (number_typed types f u x one)
      (and_from (is_promoted u) _ p (and_from (is_number_of types f u x) _ one (and_from (is_number_of types f u y) (same_type u) other (value_same (answer_of o u) v))))
    where
      same_type : Ty → Bool
      same_type w = operands.same (answer_of o u) (answer_of o w)

  pub operator_part : (into : Option ℕ) (u t : Ty) (place : Place) (o : Operator) (x : ℕ × ℕ) (s : State) → is_promoted u ≡ true → answer_of o u ≡ t → is_value t ≡ true → IsIntoOf t s into
      → Part types texts fs f (both types texts fs f (a_number types texts fs f u) (a_number types texts fs f u)) x into s (computed into t place (values.binary o x.0 x.1) s) (a_number types texts fs f t)
  operator_part into u t place o x s p answers v wanted =
      let P = both types texts fs f (a_number types texts fs f u) (a_number types texts fs f u) in
      computed_part P x into t place (values.binary o x.0 x.1) s v wanted
      (evaluates P x t (operation.Binary o x.0 x.1)
      (λ n k h. two_there k x.0 x.1 h.0.1 h.1.1)
      (λ h. subst (λ (a : Ty). is_operation_of types texts fs f a (operation.Binary o x.0 x.1) ≡ true) answers
      (operator_formed u o x.0 x.1 p (ap is_value answers ∙ v) h.0 h.1)))

  -- .. from a place

  pub load_part : (into : Option ℕ) (t : Ty) (constant : Bool) (place : Place) (o : Operand) (s : State) → is_value t ≡ true → IsIntoOf t s into
      → Part types texts fs f (a_place types texts fs f t constant) o into s (computed into t place (load o) s) (a_number types texts fs f t)
  load_part into t constant place o s v wanted =
      computed_part (a_place types texts fs f t constant) o into t place (load o) s v wanted
      (record {
        fills = λ r n k e p. record { ready = uses_ready k (place_uses o) (r ∷ []) (place_there o n k p); after = refl };
        fine = λ r e h. record { given = refl; formed = subst (λ (u : Ty). is_number_of types f u r ≡ true) (sym h.typed) e };
      })

  -- ---- behind other parts

  -- what is read from a place
  pub read_part : (t : Ty) (constant : Bool) (place : Place) (at : State → Gives Operand) (into : Option ℕ) (s : State) → is_value t ≡ true → IsIntoOf t s into → IsOpen s
      → Makes types texts fs f None s (at s) (a_place types texts fs f t constant) → Makes types texts fs f into s (values.read t place at into s) (a_number types texts fs f t)
  read_part t constant place at into s v wanted opened first =
      then_part types texts fs f (nothing types texts fs f) tt into s (at s) _ (a_place types texts fs f t constant) (a_number types texts fs f t) opened first
      (load_part into t constant place (at s).given (at s).state v (into_of_later t s (at s).state into first.grown wanted))

  -- one operand and an operation
  pub negated_part : (t : Ty) (place : Place) (value : State → Gives ℕ) (into : Option ℕ) (s : State) → is_value t ≡ true → is_promoted t ≡ true → IsIntoOf t s into → IsOpen s
      → Makes types texts fs f None s (value s) (a_number types texts fs f t) → Makes types texts fs f into s (computed into t place (values.negated (value s).given) (value s).state) (a_number types texts fs f t)
  negated_part t place value into s v p wanted opened first =
      then_part types texts fs f (nothing types texts fs f) tt into s (value s) _ (a_number types texts fs f t) (a_number types texts fs f t) opened first
      (negation_part into t place (value s).given (value s).state v p (into_of_later t s (value s).state into first.grown wanted))

  -- a value as one of another type
  pub as_type_part : {A : Type 0} (P : G A) (x : A) (from to : Ty) (place : Place) (given : Option ℕ → State → Gives ℕ) (into : Option ℕ) (s : State) → is_value to ≡ true → IsIntoOf to s into → IsOpen s
      → ((into : Option ℕ) → IsIntoOf from s into → Part types texts fs f P x into s (given into s) (a_number types texts fs f from))
      → Part types texts fs f P x into s (as_type from to place given into s) (a_number types texts fs f to)
  as_type_part P x from to place given into s v wanted opened value = go (compared.eq from to) refl
    where
      other : Part types texts fs f P x into s (computed into to place (conversion (given None s).given) (given None s).state) (a_number types texts fs f to)
      other =
          let first = value None tt in
          then_part types texts fs f P x into s (given None s) _ (a_number types texts fs f from) (a_number types texts fs f to) opened first
          (conversion_part into from to place (given None s).given (given None s).state v (into_of_later to s (given None s).state into first.grown wanted))

      go : (b : Bool) → compared.eq from to ≡ b → Part types texts fs f P x into s (cond b (given into s) (computed into to place (conversion (given None s).given) (given None s).state)) (a_number types texts fs f to)
      go true e =
          let one = same_types from to e in
          subst (λ (t : Ty). Part types texts fs f P x into s (given into s) (a_number types texts fs f t)) one (value into (subst (λ (t : Ty). IsIntoOf t s into) (sym one) wanted))
      go false e = other

  -- .. that is there already
  pub converted_part : (from to : Ty) (place : Place) (r : ℕ) (s : State) → is_value to ≡ true → IsOpen s
      → Part types texts fs f (a_number types texts fs f from) r None s (converted from to place r s) (a_number types texts fs f to)
  converted_part from to place r s v opened = as_type_part (a_number types texts fs f from) r from to place there None s v tt opened (λ into h. stays into h)
    where
      there : Option ℕ → State → Gives ℕ
      there into s = gives r s

      stays : (into : Option ℕ) → IsIntoOf from s into → Part types texts fs f (a_number types texts fs f from) r into s (there into s) (a_number types texts fs f from)
      stays into h = gives_part types texts fs f (a_number types texts fs f from) r into r s (a_number types texts fs f from) (λ b e. e) (λ b k alive e. e)

  -- an operator between two
  pub operated_part : (into : Option ℕ) (u t : Ty) (place : Place) (o : Operator) (left right : State → Gives ℕ) (s : State) → is_promoted u ≡ true → answer_of o u ≡ t → is_value t ≡ true → IsIntoOf t s into → IsOpen s
      → (first : Makes types texts fs f None s (left s) (a_number types texts fs f u)) → Makes types texts fs f None (left s).state (right (left s).state) (a_number types texts fs f u)
      → Makes types texts fs f into s (values.operated into t place o left right s) (a_number types texts fs f t)
  operated_part into u t place o left right s p answers v wanted opened first second =
      let P = a_number types texts fs f u in
      let l = left s in
      let r = right l.state in
      then_part types texts fs f (nothing types texts fs f) tt into s (gives (l.given, r.given) r.state) _ (both types texts fs f P P) (a_number types texts fs f t) opened
      (and_part types texts fs f (nothing types texts fs f) tt s l r P P opened first second)
      (operator_part into u t place o (l.given, r.given) r.state p answers v (into_of_later t l.state r.state into second.grown (into_of_later t s l.state into first.grown wanted)))

  -- ---- pointers

  pub location_at : (place : Place) (t : Ty) (s : State) → is_location t ≡ true → Begins types f (new_register place t s).state → IsAt types texts fs f t (whole (new_register place t s).given)
  location_at place t s loc b =
      let l = added place t s in
      record {
        typed = type_there types f _ l t (b.locals _ l (last_there s.locals l)) (b.table l.ty.0 t (type_added s.types.types t)) (location_no_reference t loc);
        kept = register_there types f _ l (b.locals _ l (last_there s.locals l)) refl;
      }

  -- a variable is where it is, and anything else comes into a register that takes it
  located_from : (source : ExprType) (t : Ty) → IsTakenBy types t source → ((l : Location) → IsGivenAs types texts fs f source (As l) → IsAt types texts fs f t l)
      → (p : Pointing) (place : Place) (s : State) → is_location t ≡ true → fits_register types t ≡ true → HasPartsBelow s.types (length s.types.types) t
      → Part types texts fs f (a_pointing types texts fs f source) p None s (located place t p s) (a_pointer types texts fs f t)
  located_from source t taken here (As l) place s loc fits below =
      gives_part types texts fs f (a_pointing types texts fs f source) (As l) None l s (a_pointer types texts fs f t) (λ b h. here l h) (λ b k alive h. h)
  located_from source t taken here (By step) place s loc fits below =
      let w = new_register place t s in
      emit_part (a_pointing types texts fs f source) (By step) None s w place (λ r. step (whole r)) (whole w.given) (a_pointer types texts fs f t)
      (new_targeted types f place t s fits below)
      (λ b h. let at = location_at place t s loc b in (h t (whole w.given) loc at.typed taken, at))
      (λ r n k e h. filling_fills f step n k h r e)
      (λ k lt e. record { local = w.given; is = refl; below = lt; held = e })

  pub located_part : (p : Pointing) (t : Ty) (place : Place) (s : State) → is_location t ≡ true → fits_register types t ≡ true → HasPartsBelow s.types (length s.types.types) t
      → Part types texts fs f (a_pointing types texts fs f (Of t)) p None s (located place t p s) (a_pointer types texts fs f t)
  located_part p t place s loc fits below = located_from (Of t) t (inl refl) (λ l h. h) p place s loc fits below

  -- .. a literal into one of a view
  pub literal_located_part : (p : Pointing) (place : Place) (s : State) → Part types texts fs f (a_pointing types texts fs f TextLiteral) p None s (located place ty.View p s) (a_pointer types texts fs f ty.View)
  literal_located_part p place s = located_from TextLiteral ty.View (inr refl) (λ l h. absurd h) p place s refl refl tt

  -- .. and nothing into one of a raw pointer
  pub null_located_part : (p : Pointing) (t : Ty) (place : Place) (s : State) → is_raw t ≡ true → is_location t ≡ true → fits_register types t ≡ true → HasPartsBelow s.types (length s.types.types) t
      → Part types texts fs f (a_pointing types texts fs f NullPointer) p None s (located place t p s) (a_pointer types texts fs f t)
  null_located_part p t place s raw loc fits below = located_from NullPointer t (inr raw) (λ l h. absurd h) p place s loc fits below

  -- two views are compared
  pub same_part : (into : Option ℕ) (t : Ty) (place : Place) (equal : Bool) (x : Location × Location) (s : State) → t ≡ ty.Bool → is_value t ≡ true → IsIntoOf t s into
      → Part types texts fs f (both types texts fs f (a_pointer types texts fs f ty.View) (a_pointer types texts fs f ty.View)) x into s (computed into t place (λ n. Same n x.0 x.1 equal) s) (a_number types texts fs f t)
  same_part into t place equal x s bool v wanted =
      let P = a_pointer types texts fs f ty.View in
      computed_part (both types texts fs f P P) x into t place (λ n. Same n x.0 x.1 equal) s v wanted
      (record {
        fills = λ r n k e p. record { ready = uses_ready k (x.0.local ∷ x.1.local ∷ []) (r ∷ []) (two_there k x.0.local x.1.local (pointer_held x.0 n k p.0) (pointer_held x.1 n k p.1)); after = refl };
        fine = λ r e h. record {
          given = refl;
          formed =
              and_from (is_number_of types f ty.Bool r) (operands.are_compared types (type_in types f x.0) (type_in types f x.1)) (subst (λ (u : Ty). is_number_of types f u r ≡ true) bool e)
              (ap (λ (u : Ty). operands.are_compared types u (type_in types f x.1)) h.0.typed ∙ ap (operands.are_compared types ty.View) h.1.typed);
        };
      })
    where
      pointer_held : (l : Location) (n : ℕ) (k : List Known) → IsPointer l n k → known_at k l.local ≡ known.Ready
      pointer_held l n k p = ap (known_at k) p.is ∙ p.held

  -- ---- an instruction that leaves all that is known

  -- .. by what its operands are
  pub acted_typed_part : {A : Type 0} (P : G A) (x : A) (place : Place) (i : Step) (s : State)
      → (P.typed x → IsFineStep types texts fs f i × ((n : ℕ) (k : List Known) → P.ready x n k → (are_ready k (touched_by f i) ≡ true) × (known_after (touched_by f i) k ≡ k)))
      → Part types texts fs f P x None s (gives tt (emit place i s)) (nothing types texts fs f)
  acted_typed_part P x place i s acts = record {
    grown = grows_none s;
    registers = registers_none types s;
    code = Acts place i ∷ [];
    written = refl;
    runs = λ b p. let is = acts p in record {
      fine = fine_acts types texts fs f place i is.0;
      typed = tt;
      goes = λ k alive q. let here = is.1 (length s.locals) k q in record {
        after = known_after (touched_by f i) k;
        falls = falls_acts types f place i k here.0;
        keeps = subst (Keeps f (length s.locals) None k) (sym here.1) (keeps_all f (length s.locals) None k);
        gives = tt;
        alive = subst (Alive f s) (sym here.1) alive;
        apart = step_apart f types i place s k alive here.0 (and_parts (list_all (is_no_object types f) (given_step i)) (step_keeps f i) is.0.given).0;
        bears = still_bears f i place s k alive (λ x. ap (λ (j : List Known). known_at j x) here.1);
      };
    };
  }

  pub acted_as_part : {A : Type 0} (P : G A) (x : A) (place : Place) (i : Step) (s : State) → (P.typed x → IsFineStep types texts fs f i)
      → (P.typed x → (n : ℕ) (k : List Known) → P.ready x n k → are_ready k (touched_by f i) ≡ true) → (P.typed x → (n m : ℕ) (k : List Known) → P.ready x n k → Keeps f m None k (known_after (touched_by f i) k))
      → Part types texts fs f P x None s (gives tt (emit place i s)) (nothing types texts fs f)
  acted_as_part P x place i s fine ready after = record {
    grown = grows_none s;
    registers = registers_none types s;
    code = Acts place i ∷ [];
    written = refl;
    runs = λ b h. record {
      fine = fine_acts types texts fs f place i (fine h);
      typed = tt;
      goes = λ k alive p. record {
        after = known_after (touched_by f i) k;
        falls = falls_acts types f place i k (ready h (length s.locals) k p);
        keeps = after h (length s.locals) (length s.locals) k p;
        gives = tt;
        alive = alive_same f s k (known_after (touched_by f i) k) (after h (length s.locals) zero k p).sized (λ y. (after h (length s.locals) (suc y) k p).below y (omega arith) tt) alive;
        apart = step_apart f types i place s k alive (ready h (length s.locals) k p) (and_parts (list_all (is_no_object types f) (given_step i)) (step_keeps f i) (fine h).given).0;
        bears = still_bears f i place s k alive (λ x. (after h (length s.locals) (suc x) k p).below x (omega arith) tt);
      };
    };
  }

  -- .. whatever the types of its operands are
  pub acted_part : {A : Type 0} (P : G A) (x : A) (place : Place) (i : Step) (s : State) → (P.typed x → IsFineStep types texts fs f i) → ((n : ℕ) (k : List Known) → P.ready x n k → are_ready k (touched_by f i) ≡ true)
      → ((n m : ℕ) (k : List Known) → P.ready x n k → Keeps f m None k (known_after (touched_by f i) k))
      → Part types texts fs f P x None s (gives tt (emit place i s)) (nothing types texts fs f)
  acted_part P x place i s fine ready after = acted_as_part P x place i s fine (λ h. ready) (λ h. after)
