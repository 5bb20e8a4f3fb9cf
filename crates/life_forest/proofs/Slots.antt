-- A parameter that is a slot is there at each point: nothing ends it, and nothing takes it.
use Rattle.std.proofs.Common.{◌≡◌, ℕ, zero, suc, ◌<◌, Bool, true, false, ◌&&◌, not, if◌then◌else◌, List, [], ◌∷◌, ◌++◌, Option, Some, None, refl, sym, ap, subst, ◌∙◌, arith}
use Rattle.std.proofs.lemmas.Bool.{and_parts, false≢true}
use Rattle.std.specs.List.{list_all}
use Rattle.std.specs.Prelude.{flat_map, nat_lt, slice_get, slice_set}
use Rattle.life_types.specs.Pointees.{ty_of}
use Rattle.life_types.specs.Trees.{IsOrdered, tree_at}
use Rattle.life_types.specs.TypeTests.{is_value, is_void}
use Rattle.life_types.specs.Types.{Types, is_slot_at}
use Rattle.life_types.specs.declared.ty.Ty.{Ty}
use Rattle.life_types.specs.declared.ty.Ty.TheVariants as ty
use Rattle.life_types.specs.declared.ty.TyId.{TyId}
use Rattle.life_types.proofs.TreeLemmas.{tree_made}
use Rattle.life_core.specs.declared.instr.Made.{Made}
use Rattle.life_core.specs.declared.instr.Made.TheVariants as made
use Rattle.life_core.specs.declared.program.Local.{Local}
use Rattle.life_core.specs.declared.program.LocalKind.{LocalKind}
use Rattle.life_core.specs.declared.program.LocalKind.TheVariants.{Object, Register, Range}
use Rattle.life_core.specs.Function.{Function}
use Rattle.life_core.specs.Kinds.{has_kind, is_object, is_register}
use Rattle.life_core.specs.Linked.{Linked, code_of, numbered}
use Rattle.life_core.specs.Operands.{Argument, GivenOver, PointerOf, Slot, Location}
use Rattle.life_core.specs.Operands as source
use Rattle.life_core.specs.Proper.{Reaches, bits_past, goes_on, starts}
use Rattle.life_core.specs.Ready.{IsThere, Ready, entry_ready, given_ready, set_bits}
use Rattle.life_core.specs.Step.{Change, PushBack, Step, Live, End, Eval, Load, Save, Copy, Move, Aim, Repoint, Element, Cursor, Advance, Cut, Size, Same, Changes, Make, Call, Ports}
use Rattle.life_core.specs.Touched.{argument_leaves, change_leaves, if_object, made_leaves, touched_by}
use Rattle.life_core.specs.Tree.{Node, Action, Question, Return, Stop}
use Rattle.life_pset.specs.Shapes.{shape, shape_if}
use Rattle.life_proper.specs.OperandTypes.{is_composed, owned_target, same}
use Rattle.life_proper.specs.Placed.{is_consumed, is_given, is_number_of, is_slot_local, object_at, register_at, result_at, slot_at, type_at, type_in, type_of}
use Rattle.life_proper.specs.WellFormed.{are_arguments_for, can_end, is_argument_for, is_call, is_change_of, is_made_for, is_well_formed_node, is_well_formed_step, types_taken}
use Rattle.life_proper.specs.WellFormedPrograms.{is_well_formed_function, is_well_formed_local, may_stand}
use Rattle.life_proper.proofs.SortedNodes.{formed_parts}
use Rattle.life_store.proofs.CellLemmas.{none_some}
use Rattle.life_forest.proofs.FrameChanges.{lt_of}
use Rattle.life_forest.proofs.Shaped.{local_formed, slot_falls}

-- each point is well formed
abbrev pub ArePointsFormed : Types → ℕ → List Function → Function → Type 0
ArePointsFormed types texts fs f = (p : ℕ) (l : Linked) → numbered (code_of f) p ≡ Some l → is_well_formed_node types texts fs f l.spot.node ≡ true

-- what is a register isn't an object
pub register_only : (o : Option Local) → has_kind is_register o ≡ true → has_kind is_object o ≡ false
register_only None e = absurd (false≢true e)
register_only (Some l) e = go l.kind e
  where
    go : (k : LocalKind) → is_register k ≡ true → is_object k ≡ false
    go Object h = absurd (false≢true h)
    go Register h = refl
    go Range h = absurd (false≢true h)

-- ---- bits that are set

there_on : (bits : Ready) (x y : ℕ) → IsThere bits y → IsThere (slice_set bits x true) y
there_on [] x y h = h
there_on (b ∷ bits) zero zero h = refl
there_on (b ∷ bits) zero (suc y) h = h
there_on (b ∷ bits) (suc x) zero h = h
there_on (b ∷ bits) (suc x) (suc y) h = there_on bits x y h

there_off : (bits : Ready) (x y : ℕ) → (x ≡ y → ⊥) → IsThere bits y → IsThere (slice_set bits x false) y
there_off [] x y ne h = h
there_off (b ∷ bits) zero zero ne h = absurd (ne refl)
there_off (b ∷ bits) zero (suc y) ne h = h
there_off (b ∷ bits) (suc x) zero ne h = h
there_off (b ∷ bits) (suc x) (suc y) ne h = there_off bits x y (λ e. ne (ap suc e)) h

all_on : (xs : List ℕ) (bits : Ready) (y : ℕ) → IsThere bits y → IsThere (set_bits true xs bits) y
all_on [] bits y h = h
all_on (x ∷ xs) bits y h = all_on xs (slice_set bits x true) y (there_on bits x y h)

-- the parameters
given_there : (n : ℕ) (ls : List Local) (x : ℕ) (l : Local) → x < n → slice_get ls x ≡ Some l → IsThere (given_ready n ls) x
given_there n [] x l lt there = absurd (none_some there)
given_there zero (y ∷ ys) x l lt there = absurd (omega arith)
given_there (suc n) (y ∷ ys) zero l lt there = refl
given_there (suc n) (y ∷ ys) (suc x) l lt there = given_there n ys x l (omega arith) there

module _ (types : Types) (ordered : IsOrdered types) (texts : ℕ) (fs : List Function) (f : Function) where
  -- ---- what goes is no slot

  abbrev NoSlots : List ℕ → Type 0
  NoSlots [] = Unit {0}
  NoSlots (x ∷ xs) = (slot_at types f x ≡ false) × NoSlots xs

  both_free : (xs ys : List ℕ) → NoSlots xs → NoSlots ys → NoSlots (xs ++ ys)
  both_free [] ys h k = k
  both_free (x ∷ xs) ys h k = (h.0, both_free xs ys h.1 k)

  all_off : (xs : List ℕ) (bits : Ready) (y : ℕ) → slot_at types f y ≡ true → NoSlots xs → IsThere bits y → IsThere (set_bits false xs bits) y
  all_off [] bits y slot free h = h
  all_off (x ∷ xs) bits y slot free h =
      all_off xs (slice_set bits x false) y slot free.1 (there_off bits x y (λ e. false≢true (sym free.0 ∙ ap (slot_at types f) e ∙ slot)) h)

  is_free : (x : ℕ) → not (slot_at types f x) ≡ true → slot_at types f x ≡ false
  is_free x e = go (slot_at types f x) e
    where
      go : (b : Bool) → not b ≡ true → b ≡ false
      go true h = absurd (false≢true h)
      go false h = refl

  ends_free : (xs : List ℕ) → list_all (can_end types texts fs f) xs ≡ true → NoSlots xs
  ends_free [] e = tt
  ends_free (x ∷ xs) e =
      let both = and_parts (can_end types texts fs f x) (list_all (can_end types texts fs f) xs) e in
      (is_free x (and_parts (not (result_at types f x)) (not (slot_at types f x)) (and_parts _ (not (result_at types f x) && not (slot_at types f x)) both.0).1).1, ends_free xs both.1)

  given_free : (t : Ty) (x : ℕ) → is_given types f t x ≡ true → NoSlots (if_object f x)
  given_free t x e = go (object_at types f x)
    where
      free : slot_at types f x ≡ false
      free = is_free x (and_parts (not (slot_at types f x)) (same t (type_at types f x)) (and_parts (not (result_at types f x)) _ (and_parts (object_at types f x) _ e).1).1).0

      go : (b : Bool) → NoSlots (if b then x ∷ [] else [])
      go true = (free, tt)
      go false = tt

  consumed_free : (t : Ty) (x : ℕ) → is_consumed types f t x ≡ true → NoSlots (if_object f x)
  consumed_free t x e = go (is_value t) e
    where
      go : (b : Bool) → (if b then is_number_of types f t x else is_given types f t x) ≡ true → NoSlots (if_object f x)
      go true h =
          subst (λ (b : Bool). NoSlots (if b then x ∷ [] else [])) (sym (register_only (slice_get f.locals x) (and_parts (register_at types f x) (is_value t && same t (type_at types f x)) h).0)) tt
      go false h = given_free t x h

  change_free : (t : Ty) (c : Change) → is_change_of types texts fs f t c ≡ true → NoSlots (change_leaves f c)
  change_free ty.Text (PushBack x) e =
      subst (λ (b : Bool). NoSlots (if b then x ∷ [] else [])) (sym (register_only (slice_get f.locals x) (and_parts (register_at types f x) _ e).0)) tt
  change_free (ty.Vector element) (PushBack x) e = consumed_free (ty_of types element) x e
  change_free _ (PushBack x) e = absurd (false≢true e)
  change_free t _ e = tt

  made_free : (t : Ty) (m : Made) → is_made_for types texts fs f t m ≡ true → NoSlots (made_leaves f m)
  made_free t made.Null e = tt
  made_free t made.Zero e = tt
  made_free t (made.Of x) e = consumed_free (owned_target types t) x e

  argument_free : (id : TyId) (x : Argument) → is_argument_for types texts fs f id x ≡ true → NoSlots (argument_leaves f x)
  argument_free id (source.Value r) e = tt
  argument_free id (GivenOver x) e = given_free (ty_of types id) x (and_parts (is_composed (ty_of types id)) (is_given types f (ty_of types id) x) e).1
  argument_free id (PointerOf l) e = tt
  argument_free id (Slot l) e = tt

  arguments_free : (ids : List TyId) (xs : List Argument) → are_arguments_for types texts fs f ids xs ≡ true → NoSlots (flat_map (argument_leaves f) xs)
  arguments_free [] [] e = tt
  arguments_free [] (x ∷ xs) e = absurd (false≢true e)
  arguments_free (id ∷ ids) [] e = absurd (false≢true e)
  arguments_free (id ∷ ids) (x ∷ xs) e =
      let both = and_parts (is_argument_for types texts fs f id x) (are_arguments_for types texts fs f ids xs) e in
      both_free (argument_leaves f x) (flat_map (argument_leaves f) xs) (argument_free id x both.0) (arguments_free ids xs both.1)

  call_free : (o : Option Function) (target : Option Location) (xs : List Argument) → is_call types texts fs f o target xs ≡ true → NoSlots (flat_map (argument_leaves f) xs)
  call_free None target xs e = absurd (false≢true e)
  call_free (Some g) target xs e = arguments_free (types_taken g) xs (and_parts (are_arguments_for types texts fs f (types_taken g) xs) _ e).0

  leaves_free : (i : Step) → is_well_formed_step types texts fs f i ≡ true → NoSlots (touched_by f i).leaves
  leaves_free (End xs) e = ends_free xs e
  leaves_free (Changes o c) e = change_free (type_of types f o) c (and_parts (is_change_of types texts fs f (type_of types f o) c) _ e).0
  leaves_free (Make u m) e = made_free (type_in types f u) m e
  leaves_free (Call target g xs) e = call_free (slice_get fs g.0) target xs e
  leaves_free (Live x form) e = tt
  leaves_free (Eval r operation) e = tt
  leaves_free (Load r o) e = tt
  leaves_free (Save o r) e = tt
  leaves_free (Copy to from) e = tt
  leaves_free (Move to y) e = tt
  leaves_free (Aim p s) e = tt
  leaves_free (Repoint p q) e = tt
  leaves_free (Element p b w) e = tt
  leaves_free (Cursor p b end) e = tt
  leaves_free (Advance p q r way) e = tt
  leaves_free (Cut p q r count) e = tt
  leaves_free (Size r b) e = tt
  leaves_free (Same r a b equal) e = tt
  leaves_free (Ports p) e = tt

  -- a point passes, and the slot is still there
  slot_past : (n : Node) → is_well_formed_node types texts fs f n ≡ true → (bits : Ready) (x : ℕ) → slot_at types f x ≡ true → IsThere bits x → IsThere (bits_past types f n bits) x
  slot_past (Action i) e bits x slot h =
      let t = touched_by f i in
      all_on (t.births ++ t.writes) (set_bits false t.leaves bits) x (all_off t.leaves bits x slot (leaves_free i e) h)
  slot_past (Question t) e bits x slot h = h
  slot_past Return e bits x slot h = h
  slot_past Stop e bits x slot h = h

  -- ---- at the entry, where it is a parameter

  module _ (names : ℕ) (formed : is_well_formed_function types names texts fs f ≡ true) where
    slot_given : (x : ℕ) → slot_at types f x ≡ true → IsThere (entry_ready f) x
    slot_given x slot = go (slice_get f.locals x) refl slot
      where
        is_parameter : (l : Local) → is_slot_at types l.ty ≡ true → (b : Bool) → nat_lt x f.parameters ≡ b → is_well_formed_local types names f.parameters x l ≡ true → nat_lt x f.parameters ≡ true
        is_parameter l slot_type true e h = e
        is_parameter l slot_type false e h =
            absurd (slot_falls types ordered (slice_get types.types l.ty.0) slot_type
            (ap may_stand (sym (tree_made types ordered l.ty)) ∙ ap (λ (b : Bool). may_stand (tree_at types (shape_if types b l.ty))) (sym e)
            ∙ (and_parts (may_stand (tree_at types (shape types f.parameters x l))) _ (and_parts (not (is_void (ty_of types l.ty))) _ h).1).0))

        go : (o : Option Local) → slice_get f.locals x ≡ o → is_slot_local types f o ≡ true → IsThere (entry_ready f) x
        go None there h = absurd (false≢true h)
        go (Some l) there h =
            given_there f.parameters f.locals x l
            (lt_of x f.parameters (is_parameter l h (nat_lt x f.parameters) refl (local_formed types ordered names f.parameters f.locals x l (formed_parts types names texts fs f formed).locals there))) there

    -- ---- and so at each point

    pub slots_stay : ArePointsFormed types texts fs f → (p : ℕ) (bits : Ready) → Reaches types f p bits → (x : ℕ) → slot_at types f x ≡ true → IsThere bits x
    slots_stay points p _ (starts e) x slot = slot_given x slot
    slots_stay points q _ (goes_on {p} {bits} {l} {lead} before here among to) x slot = slot_past l.spot.node (points p l here) bits x slot (slots_stay points p bits before x slot)
