-- A test that is well formed and ready doesn't stray, and leaves the state as it is.
use Rattle.std.proofs.Common.{◌≡◌, ◌⊎◌, inl, inr, ⊎_elim, ℕ, zero, suc, true, false, ◌||◌, List, [], ◌∷◌, Option, Some, refl, sym, subst}
use Rattle.std.proofs.lemmas.Bool.{false≢true}
use Rattle.std.specs.Prelude.{ℤ, pos, negsuc}
use Rattle.life_types.specs.TypeTests.{is_pointer, is_raw, is_unique, is_void}
use Rattle.life_types.specs.Types.{Types}
use Rattle.life_types.specs.declared.ty.Ty.{Ty}
use Rattle.life_types.specs.declared.ty.Ty.TheVariants as ty
use Rattle.life_core.specs.Function.{Function}
use Rattle.life_core.specs.Ready.{AreBits, IsThere}
use Rattle.life_core.specs.Step.{Test, NonZero, NotNull}
use Rattle.life_core.specs.Touched.{test_uses}
use Rattle.life_pset.specs.Shapes.{members_type, ty_if}
use Rattle.life_pset.specs.Shapes as shapes
use Rattle.life_proper.specs.OperandTypes.{is_composed}
use Rattle.life_proper.specs.WellFormed.{is_well_formed_test}
use Rattle.life_store.specs.Effects.{cell}
use Rattle.life_store.specs.Meaning.{Verdict, Holds, Fails, Cut, by_number, by_pointer, member_tested, number_test, pointer_test, test_at, tested, whole_tested}
use Rattle.life_store.specs.Parts.{Parts, Single, Raw, Iterates, Views, Text, Vector, Unique, Member, NoMember, location_parts}
use Rattle.life_store.specs.State.{Pointer, Null, Wild, To, Static, Cell, Named, State, ready_of}
use Rattle.life_forest.specs.Settled.{IsPoised}
use Rattle.life_forest.proofs.ReadyCells.{composed_is_object, member_is_object, number_cell, object_cell, pointer_cell}

-- an answer, and in the same state
abbrev pub Answers : State → Verdict → Type 0
Answers st (Holds n after) = after ≡ st
Answers st (Fails n after) = after ≡ st
Answers st (Cut stop w) = ⊥

number_answers : (z : ℤ) (n : ℕ) (st : State) → Answers st (by_number z n st)
number_answers (pos zero) n st = refl
number_answers (pos (suc k)) n st = refl
number_answers (negsuc k) n st = refl

pointer_answers : (p : Pointer) (n : ℕ) (st : State) → Answers st (by_pointer p n st)
pointer_answers Null n st = refl
pointer_answers Wild n st = refl
pointer_answers (To t) n st = refl
pointer_answers (Static c) n st = refl

-- what may be null is a pointer or an owner
nullable : (t : Ty) → (is_raw t || is_unique t) ≡ true → (is_pointer t ≡ true) ⊎ (is_composed t ≡ true)
nullable (ty.Raw target constant) e = inl refl
nullable (ty.Unique target) e = inr refl
nullable _ e = absurd (false≢true e)

nullable_solid : (t : Ty) → (is_raw t || is_unique t) ≡ true → is_void t ≡ false
nullable_solid ty.Void e = absurd (false≢true e)
nullable_solid _ e = refl

module _ (types : Types) (f : Function) (st : State) (at_point : IsPoised types f st) where
  -- a local
  whole_answers : (x n : ℕ) → (is_raw (ty_if types (shapes.local_type types f x)) || is_unique (ty_if types (shapes.local_type types f x))) ≡ true → IsThere (ready_of st) x → Answers st (pointer_test (whole_tested (cell st x) st.world.content) n st)
  whole_answers x n e there =
      ⊎_elim
      (λ pointer. let p = pointer_cell types f st at_point x pointer there in subst (λ (v : Option Cell). Answers st (pointer_test (whole_tested v st.world.content) n st)) (sym p.1) (pointer_answers p.0 n st))
      (λ composed. let m = object_cell types f st at_point x (composed_is_object types f at_point.kinds x composed) there in subst (λ (v : Option Cell). Answers st (pointer_test (whole_tested v st.world.content) n st)) (sym m.1) (pointer_answers _ n st))
      (nullable (ty_if types (shapes.local_type types f x)) e)

  -- .. and a member of one
  member_answers : (x m : ℕ) (ms : List ℕ) (k n : ℕ) (p : Parts) → Answers st (pointer_test (member_tested types f (record { local = x; members = m ∷ ms }) p (Some (Named k)) st.world.content) n st)
  member_answers x m ms k n (Unique id target) = pointer_answers _ n st
  member_answers x m ms k n Single = pointer_answers _ n st
  member_answers x m ms k n Raw = pointer_answers _ n st
  member_answers x m ms k n Iterates = pointer_answers _ n st
  member_answers x m ms k n Views = pointer_answers _ n st
  member_answers x m ms k n (Text id) = pointer_answers _ n st
  member_answers x m ms k n (Vector id element) = pointer_answers _ n st
  member_answers x m ms k n (Member first others) = pointer_answers _ n st
  member_answers x m ms k n NoMember = pointer_answers _ n st

  null_answers : (x : ℕ) (ms : List ℕ) (n : ℕ) → (is_raw (ty_if types (members_type types (shapes.local_type types f x) ms)) || is_unique (ty_if types (members_type types (shapes.local_type types f x) ms))) ≡ true → IsThere (ready_of st) x
      → Answers st (pointer_test (tested types f (record { local = x; members = ms }) ms (cell st x) st.world.content) n st)
  null_answers x [] n e there = whole_answers x n e there
  null_answers x (m ∷ ms) n e there =
      let k = object_cell types f st at_point x (member_is_object types f at_point.kinds x m ms (nullable_solid (ty_if types (members_type types (shapes.local_type types f x) (m ∷ ms))) e)) there in
      subst (λ (v : Option Cell). Answers st (pointer_test (member_tested types f (record { local = x; members = m ∷ ms }) (location_parts types f (record { local = x; members = m ∷ ms })) v st.world.content) n st)) (sym k.1)
      (member_answers x m ms k.0 n (location_parts types f (record { local = x; members = m ∷ ms })))

  pub test_settles : (texts : ℕ) (fs : List Function) (t : Test) (n : ℕ) → is_well_formed_test types texts fs f t ≡ true → AreBits true (ready_of st) (test_uses t) → Answers st (test_at types f t n st)
  test_settles texts fs (NonZero r) n e uses =
      let z = number_cell types f st at_point r e uses.0 in
      subst (λ (v : Option Cell). Answers st (number_test v n st)) (sym z.1) (number_answers z.0 n st)
  test_settles texts fs (NotNull l) n e uses = null_answers l.local l.members n e uses.0
