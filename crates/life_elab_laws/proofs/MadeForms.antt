-- Owners that are made: what is found first, and the act that makes one of it, where a variable or a temporary has come to life.
use Rattle.std.proofs.Common.{◌≡◌, ◌<◌, ◌≤◌, inr, ℕ, Bool, true, false, List, [], ◌∷◌, ◌++◌, Contains, length, length-append, slice_get, None, refl, sym, ap, ◌∙◌, subst, arith, unwrap_or, not, inl, flat_map, slice_set}
use Rattle.std.proofs.lemmas.Bool.{false≢true}
use Rattle.life_elab_laws.proofs.ObjectTypes.{is_owner_of_values}
use Rattle.life_types.specs.Types.{Types}
use Rattle.life_types.specs.declared.place.Place.{Place}
use Rattle.life_types.specs.declared.ty.Ty.{Ty}
use Rattle.life_types.specs.declared.ty.Ty.TheVariants as ty
use Rattle.life_types.specs.declared.ty.TyId.{TyId}
use Rattle.life_typed.specs.TypedForm.{Form, Typed}
use Rattle.life_typed.specs.declared.typed_expr.Category.{Category}
use Rattle.life_typed.specs.declared.typed_expr.Category.TheVariants as category
use Rattle.life_typed.specs.declared.typed_expr.ExprType.TheVariants.{Of}
use Rattle.life_type_expr.specs.Operands.{is_constant}
use Rattle.life_core.specs.Function.{Function}
use Rattle.life_core.specs.Operands.{Argument, Location, Operand, object_named, GivenOver, PointerOf, Value}
use Rattle.life_core.specs.Step.{Live}
use Rattle.life_core.specs.declared.instr.Form.{Form as LiveForm}
use Rattle.life_core.specs.declared.instr.Form.TheVariants.{Plain}
use Rattle.life_core.specs.declared.program.LocalKind.TheVariants.{Object}
use Rattle.life_well_typed.specs.Expressions.{typed_in}
use Rattle.life_writer.specs.Building.{Destination}
use Rattle.life_writer.specs.Around.{Around, own_type}
use Rattle.life_writer.specs.Characters.{Seen, InRegister, InString, InView}
use Rattle.life_writer.specs.ExpressionForms.{uses}
use Rattle.life_writer.specs.Registers.{type_number, typed_with}
use Rattle.life_writer.specs.Temporaries.{nameless_of, temporary}
use Rattle.life_writer.specs.Uses.{Act, Remaining, lived, own}
use Rattle.life_writer.specs.Using.{operand, operand_by, temporary_of}
use Rattle.life_writer.specs.Writing.{Gives, State, ◌>>◌, gives, mapped, with_code}
use Rattle.life_core.specs.declared.instr.Made.{Made}
use Rattle.life_elab_laws.proofs.UniqueSteps.{a_made, made_uses_of}
use Rattle.life_elab_laws.proofs.AdmittedTypes.{IsBuilt}
use Rattle.life_elab_laws.proofs.AppendForms.{a_found, IsFoundAt}
use Rattle.life_elab_laws.proofs.Coming.{Comes, came, came_part, lived_comes}
use Rattle.life_elab_laws.proofs.ExpressionForms.{Placed, Standing}
use Rattle.life_proper.specs.WellFormed.{is_itself}
use Rattle.life_writer.specs.Variables.{variable}
use Rattle.life_elab_laws.proofs.Gifts.{Gift, a_given, a_place, a_pointer, all_handed, both, nothing as no_gift, AreHandedFor}
use Rattle.life_elab_laws.proofs.Growing.{Grows}
use Rattle.life_elab_laws.proofs.Handing.{HandingAlone, handing_none}
use Rattle.life_elab_laws.proofs.ObjectForms.{IsObjectAt, IsOwner, object_owner, object_same, other_number}
use Rattle.life_elab_laws.proofs.OrderedTypes.{HasPartsIn}
use Rattle.life_elab_laws.proofs.Parts.{Makes, Part, keep_part, seen_part}
use Rattle.life_elab_laws.proofs.PlainActs.{IsPlainAct, seen_names}
use Rattle.life_elab_laws.proofs.PointerForms.{held_typed, own_typed}
use Rattle.life_elab_laws.proofs.Setting.{Setting}
use Rattle.life_elab_laws.proofs.Shaped.{built_later}
use Rattle.life_elab_laws.proofs.TemporaryBirths.{born_grows}
use Rattle.life_elab_laws.proofs.VariablePlaces.{stands_later}
use Rattle.life_elab_laws.proofs.WrittenLocals.{built_below}
use Rattle.life_elab_laws.proofs.MoveSteps.{a_source}
use Rattle.life_elab_laws.proofs.TemporaryEnds.{beyond_result}
use Rattle.life_elab_laws.proofs.OwnLocals.{first_own}
use Rattle.life_proper.specs.Placed.{result_at}
use Rattle.life_proper.specs.GivenOver.{given_argument}
use Rattle.life_proper.specs.Knowing.{known_at}
use Rattle.life_proper.specs.declared.known.Known.{Known}
use Rattle.life_proper.specs.declared.known.Known.TheVariants as known
use Rattle.life_elab_laws.proofs.Among.{Among}
use Rattle.life_elab_laws.proofs.Knowledge.{beside_set}
use Rattle.life_elab_laws.proofs.Making.{AreHeld, IsHeld, IsOpen, IsPlace, IsPointer}
use Rattle.life_core.specs.declared.program.LocalKind.TheVariants.{Object}
use Rattle.life_writer.specs.Registers.{type_number, typed_with}

-- of what an owner is made: of two texts, of another one of its type at a place, which is const or not, of what a view sees, of elements, which are found one after the other, or of what the
-- variable with a number owns; or a call gives it, which takes parameters of these types; or a unique_ptr to a type, of what it is made to own, or of an owner of a type that is given over to it
pub data Making : Type 0 where
  of_texts : Making
  of_copy : (t : Ty) (constant : Bool) → Making
  of_view : Making
  of_elements : Making
  of_call : List TyId → Making
  of_moved : (x : ℕ) (t : Ty) → Making
  of_target : (target : TyId) → Making
  of_content : (t : Ty) → Making

-- .. which stand there
abbrev pub Found : Making → Type 0
Found of_texts = Seen × Seen
Found (of_copy t constant) = Operand
Found of_view = Location
Found of_elements = Unit {0}
Found (of_call ids) = List Argument
Found (of_moved x t) = ℕ
Found (of_target target) = Made
Found (of_content t) = ℕ

-- .. and may be looked at
abbrev pub looked_found : (m : Making) → Found m → List ℕ
looked_found of_texts x = seen_names x.0 ++ seen_names x.1
looked_found (of_copy t constant) x = []
looked_found of_view x = []
looked_found of_elements x = []
looked_found (of_call ids) x = []
looked_found (of_moved x t) y = y ∷ []
looked_found (of_target target) what = []
looked_found (of_content t) y = []

module _ (a : Around) (visible : List ℕ) (types : Types) (texts : ℕ) (fs : List Function) (f : Function) (setting : Setting a types fs f) where
  abbrev Stood : State → Type 0
  Stood s = Standing a visible types texts fs f setting s

  abbrev PlacedAs : Ty → Bool → State → Gives Operand → Type 0
  PlacedAs t constant s w = Placed a visible types texts fs f setting t constant s w

  -- ---- what makes an owner of a type, where that has come to life

  -- what is found before
  abbrev pub gift_of : (m : Making) → Gift types texts fs f (Found m)
  gift_of of_texts = both types texts fs f (a_found types texts fs f) (a_found types texts fs f)
  gift_of (of_copy t constant) = a_place types texts fs f t constant
  gift_of of_view = a_pointer types texts fs f ty.View
  gift_of of_elements = no_gift types texts fs f
  gift_of (of_call ids) = all_handed types texts fs f ids
  gift_of (of_moved x t) = a_source types texts fs f t
  gift_of (of_target target) = a_made types texts fs f target
  gift_of (of_content t) = a_given types texts fs f t

  -- .. which is given over, where a call or a unique_ptr takes it
  abbrev pub given_found : (m : Making) → Found m → List ℕ
  given_found (of_call ids) xs = flat_map given_argument xs
  given_found (of_content t) y = y ∷ []
  given_found _ x = []

  -- what is there is another local than one that isn't
  ready_stays : (x y : ℕ) (k : List Known) → known_at k x ≡ known.Blank → known_at k y ≡ known.Ready → known_at (slice_set k x known.Ready) y ≡ known.Ready
  ready_stays x y k blank there = beside_set k x y known.Ready (λ e. clash (sym blank ∙ ap (known_at k) e ∙ there)) ∙ there
    where
      clash : ◌≡◌ {A = Known} known.Blank known.Ready → ⊥
      clash e = cc

  pub held_stays : (x r n : ℕ) (k : List Known) → known_at k x ≡ known.Blank → IsHeld r n k → IsHeld r n (slice_set k x known.Ready)
  held_stays x r n k blank h = (h.0, ready_stays x r k blank h.1)

  pub all_held_stay : (x : ℕ) (rs : List ℕ) (n : ℕ) (k : List Known) → known_at k x ≡ known.Blank → AreHeld rs n k → AreHeld rs n (slice_set k x known.Ready)
  all_held_stay x [] n k blank h = tt
  all_held_stay x (r ∷ rs) n k blank h = (held_stays x r n k blank h.0, all_held_stay x rs n k blank h.1)

  pub place_ready : (x : ℕ) (o : Operand) (n : ℕ) (k : List Known) → known_at k x ≡ known.Blank → IsPlace o n k → IsPlace o n (slice_set k x known.Ready)
  place_ready x o n k blank h = record { local = h.local; uses = h.uses; below = h.below; held = ready_stays x h.local k blank h.held }

  pub pointer_ready : (x : ℕ) (l : Location) (n : ℕ) (k : List Known) → known_at k x ≡ known.Blank → IsPointer l n k → IsPointer l n (slice_set k x known.Ready)
  pointer_ready x l n k blank h = record { local = h.local; is = h.is; below = h.below; held = ready_stays x h.local k blank h.held }

  seen_ready : (x : ℕ) (y : Seen) (n : ℕ) (k : List Known) → known_at k x ≡ known.Blank → IsFoundAt types texts fs f y n k → IsFoundAt types texts fs f y n (slice_set k x known.Ready)
  seen_ready x (InString place o) n k blank h = place_ready x o n k blank h
  seen_ready x (InView l) n k blank h = pointer_ready x l n k blank h
  seen_ready x (InRegister r) n k blank h = held_stays x r n k blank h

  pub handed_ready : (x : ℕ) (ids : List TyId) (xs : List Argument) (n : ℕ) (k : List Known) → known_at k x ≡ known.Blank → (Among x (flat_map given_argument xs) → ⊥) → AreHandedFor ids xs n k → AreHandedFor ids xs n (slice_set k x known.Ready)
  handed_ready x [] [] n k blank aside h = tt
  handed_ready x (id ∷ ids) (Value r ∷ xs) n k blank aside h = (held_stays x r n k blank h.0, handed_ready x ids xs n k blank aside h.1)
  handed_ready x (id ∷ ids) (PointerOf l ∷ xs) n k blank aside h = (pointer_ready x l n k blank h.0, handed_ready x ids xs n k blank aside h.1)
  handed_ready x (id ∷ ids) (GivenOver y ∷ xs) n k blank aside h =
      ((h.0.0, beside_set k x y known.Ready (λ e. aside (inl (sym e))) ∙ h.0.1), handed_ready x ids xs n k blank (λ m. aside (inr m)) h.1)
  handed_ready x _ _ n k blank aside h = absurd h

  pub found_stays : (x : ℕ) (m : Making) (y : Found m) (n : ℕ) (k : List Known) → known_at k x ≡ known.Blank → (Among x (given_found m y) → ⊥) → (gift_of m).ready y n k → (gift_of m).ready y n (slice_set k x known.Ready)
  found_stays x of_texts y n k blank aside h = (seen_ready x y.0 n k blank h.0, seen_ready x y.1 n k blank h.1)
  found_stays x (of_copy t constant) y n k blank aside h = place_ready x y n k blank h
  found_stays x of_view y n k blank aside h = pointer_ready x y n k blank h
  found_stays x of_elements y n k blank aside h = tt
  found_stays x (of_call ids) y n k blank aside h = handed_ready x ids y n k blank aside h
  found_stays x (of_moved z t) y n k blank aside h = place_ready x (object_named y) n k blank h
  found_stays x (of_target target) y n k blank aside h = all_held_stay x (made_uses_of y) n k blank h
  found_stays x (of_content t) y n k blank aside h = (h.0, beside_set k x y known.Ready (λ e. aside (inl (sym e))) ∙ h.1)

  -- behind which each variable is the local that it was
  abbrev pub Steady : State → State → Type 0
  Steady s s' = (n : ℕ) → Contains visible n → variable s' n ≡ variable s n

  pub steady_same : (s s' : State) → s'.variables ≡ s.variables → Steady s s'
  steady_same s s' e n c = ap (λ (vs : List ℕ). unwrap_or (slice_get vs n) 0) e

  -- what comes to life is a local, and none of the variables
  pub record IsNew (s s' : State) (to : Operand) : Type 0 where
    pub number : ℕ
    pub is : to ≡ object_named number
    pub below : number < length s'.locals
    pub apart : (y : ℕ) → Contains s.living y → number ≡ y → ⊥

  pub one_new : (s s' : State) (n : ℕ) → IsOpen s → length s.locals ≤ n → n < length s'.locals → IsNew s s' (object_named n)
  one_new s s' n opened h below = record { number = n; is = refl; below = below; apart = λ y c e. let lt = opened y c in omega (arith, e, h, lt) }

  pub new_apart : (s s' : State) (to : Operand) → IsNew s s' to → (y : ℕ) → Contains s.living y → is_itself types texts fs f y to ≡ false
  new_apart s s' to h y c = ap (is_itself types texts fs f y) h.is ∙ other_number h.number y (h.apart y c)

  -- plain is what no list builds
  pub record BuildsIn (plain : Bool) (t : Ty) (s : State) (w : Gives Remaining) : Type 0 where
    pub making : Making
    pub found : Found making
    -- owners that are found are given over by what brings it to life
    pub over : List ℕ
    pub hands : HandingAlone types texts fs f over s (gives found w.state) (gift_of making)
    pub comes : Comes types texts fs f over s (gives found w.state) (gift_of making) hands t
    pub act : Act
    pub lives : (d : Destination) (r : State) → w.given d r ≡ (d.begins r >> λ x r. gives x (act d.place (object_named x) (with_code (r.code ++ comes.code d.place x) r)))
    pub acts : (place : Place) (to : Operand) (s' : State) → Stood s' → Steady w.state s' → IsNew s s' to
        → Part types texts fs f (both types texts fs f (gift_of making) (a_place types texts fs f t false)) (found, to) None s' (gives tt (act place to s')) (no_gift types texts fs f)
    pub alone : plain ≡ true → IsPlainAct act (looked_found making found) (Steady w.state)
    -- what is found stays ready where another local comes to life
    pub stays : (x n : ℕ) (k : List Known) → known_at k x ≡ known.Blank → (Among x over → ⊥) → (gift_of making).ready found n k → (gift_of making).ready found n (slice_set k x known.Ready)

  -- .. what comes to life by itself, and is filled then
  pub lived_builds : (plain : Bool) (t : Ty) (s r : State) (making : Making) (found : Found making) (form : LiveForm) (act : Act) → Makes types texts fs f None s (gives found r) (gift_of making) → given_found making found ≡ []
      → ((place : Place) (to : Operand) (s' : State) → Stood s' → Steady r s' → IsNew s s' to → Part types texts fs f (both types texts fs f (gift_of making) (a_place types texts fs f t false)) (found, to) None s' (gives tt (act place to s')) (no_gift types texts fs f))
      → (plain ≡ true → IsPlainAct act (looked_found making found) (Steady r)) → BuildsIn plain t s (gives (lived form act) r)
  lived_builds plain t s r making found form act part none acts alone = record {
    making = making;
    found = found;
    over = [];
    hands = handing_none types texts fs f (no_gift types texts fs f) tt s (gives found r) (gift_of making) part;
    comes = lived_comes types texts fs f s (gives found r) (gift_of making) part form t;
    act = act;
    lives = λ d r. refl;
    acts = acts;
    alone = alone;
    stays = λ x n k blank aside ready. found_stays x making found n k blank (λ m. subst (Among x) none m) ready;
  }

  abbrev pub Builds : Ty → State → Gives Remaining → Type 0
  Builds t s w = BuildsIn true t s w

  -- which is one way of being built
  pub less_plain : {plain : Bool} (t : Ty) (s : State) (w : Gives Remaining) → BuildsIn plain t s w → BuildsIn false t s w
  less_plain t s w is = record {
    making = is.making;
    found = is.found;
    over = is.over;
    hands = is.hands;
    comes = is.comes;
    act = is.act;
    lives = is.lives;
    acts = is.acts;
    alone = λ e. absurd (false≢true e);
    stays = is.stays;
  }

  -- .. as a temporary
  module _ {plain : Bool} (t : Ty) (place : Place) (s : State) (w : Gives Remaining) (owner : IsBuilt a.program.types t) (is : BuildsIn plain t s w) (stands : Stood s) where
    pub later : Stood w.state
    later = stands_later a visible s w.state is.hands.grown stands

    pub v : IsBuilt types t
    v = built_later a.program.types types setting.front setting.plain t owner

    pub within : HasPartsIn w.state.types t
    within = built_below a.program.types w.state.types later.table t owner

    -- it comes to life, and is pending
    abbrev pub born : Gives Operand
    born = came types texts fs f is.over s (gives is.found w.state) (gift_of is.making) is.hands t is.comes place (inr v) later.opened _ later.pends within

    pub born_further : Grows w.state born.state
    born_further = born_grows types texts fs f place (λ y. Live y Plain) t w.state (inr v) later.opened _ later.pends within

    born_there : length w.state.locals < length born.state.locals
    born_there = omega (arith, length-append w.state.locals (nameless_of Object place (type_number t (typed_with t w.state)) ∷ []))

    -- .. behind what was found
    pub born_part : Makes types texts fs f None s (gives (is.found, born.given) born.state) (both types texts fs f (gift_of is.making) (a_place types texts fs f t false))
    born_part = came_part types texts fs f is.over s (gives is.found w.state) (gift_of is.making) is.hands t is.comes place (inr v) later.opened _ later.pends within

    -- .. and is built
    abbrev pub built : State
    built = is.act place born.given born.state

    pub act_part : Part types texts fs f (both types texts fs f (gift_of is.making) (a_place types texts fs f t false)) (is.found, born.given) None born.state (gives tt built) (no_gift types texts fs f)
    act_part = is.acts place born.given born.state (stands_later a visible w.state born.state born_further later) (steady_same w.state born.state born_further.variables) (one_new s born.state (length w.state.locals) stands.opened is.hands.grown.count born_there)

    pub built_part : Makes types texts fs f None s (gives ((is.found, born.given), tt) built) (both types texts fs f (both types texts fs f (gift_of is.making) (a_place types texts fs f t false)) (no_gift types texts fs f))
    built_part =
        let G = no_gift types texts fs f in
        let Q = a_place types texts fs f t false in
        let B = both types texts fs f (gift_of is.making) Q in
        keep_part types texts fs f G tt s (gives (is.found, born.given) born.state) (gives tt built) B G stands.opened born_part act_part

    pub temporary_made : PlacedAs t false s (mapped object_named (w.given (temporary place t) w.state))
    temporary_made =
        let G = no_gift types texts fs f in
        let Q = a_place types texts fs f t false in
        let B = both types texts fs f (gift_of is.making) Q in
        subst (λ (g : Gives ℕ). PlacedAs t false s (mapped object_named g)) (sym (is.lives (temporary place t) w.state))
        (seen_part types texts fs f G tt None s (gives ((is.found, born.given), tt) built) (both types texts fs f B G) (λ y. y.0.1) Q built_part (λ b h. h.0.1) (λ n k h. h.0.1))

    -- it is no variable
    pub temporary_dead : (let r = w.given (temporary place t) w.state in Contains r.state.living r.given) → ⊥
    temporary_dead c =
        let told = subst (λ (g : Gives ℕ). Contains g.state.living g.given) (is.lives (temporary place t) w.state) c in
        let far = later.opened (length w.state.locals) (subst (λ (xs : List ℕ). Contains xs (length w.state.locals)) (act_part.grown.living ∙ born_further.living) told) in
        omega (arith, far)

    -- .. and none of the locals that were there
    pub temporary_beyond : length s.locals ≤ (w.given (temporary place t) w.state).given
    temporary_beyond = subst (λ (g : Gives ℕ). length s.locals ≤ g.given) (sym (is.lives (temporary place t) w.state)) (is.hands.grown.count)

    pub temporary_below : (let r = w.given (temporary place t) w.state in r.given < length r.state.locals)
    temporary_below =
        subst (λ (g : Gives ℕ). g.given < length g.state.locals) (sym (is.lives (temporary place t) w.state))
        (omega (arith, born_there, act_part.grown.count))

    -- .. nor the result
    pub temporary_spare : not (result_at types f (w.given (temporary place t) w.state).given) ≡ true
    temporary_spare =
        subst (λ (g : Gives ℕ). not (result_at types f g.given) ≡ true) (sym (is.lives (temporary place t) w.state))
        (beyond_result types texts fs f (first_own a) (length w.state.locals) setting.own later.pends.past)

    -- so it may be moved
    pub temporary_source : Makes types texts fs f None s (w.given (temporary place t) w.state) (a_source types texts fs f t)
    temporary_source = record {
      grown = temporary_made.grown;
      registers = temporary_made.registers;
      code = temporary_made.code;
      written = temporary_made.written;
      runs = λ b p. let r = temporary_made.runs b p in record {
        fine = r.fine;
        typed = (r.typed, temporary_spare);
        goes = λ k alive q. let g = r.goes k alive q in record { after = g.after; falls = g.falls; keeps = g.keeps; gives = g.gives; alive = g.alive; apart = g.apart; bears = g.bears };
      };
    }

  -- ---- an expression that makes one

  pub record IsMadeAt (e : Typed) (object : State → Gives Remaining) : Type 0 where
    pub ty : Ty
    pub is : e.ty ≡ Of ty
    pub owner : is_owner_of_values a.program.types ty ≡ true
    pub value : e.category ≡ category.Value
    pub builds : (s : State) → Stood s → Builds ty s (object s)

  abbrev pub IsMade : Form → Type 0
  IsMade form = IsMadeAt (typed_in form) ((uses a form).object)

  pub made_same : (e e' : Typed) (object : State → Gives Remaining) → e.ty ≡ e'.ty → e.category ≡ e'.category → IsMadeAt e object → IsMadeAt e' object
  made_same e e' object t c is = record { ty = is.ty; is = sym t ∙ is.is; owner = is.owner; value = sym c ∙ is.value; builds = is.builds }

  -- where a place is wanted it is a temporary
  pub made_temporary : (form : Form) → (is : IsMade form) → (s : State) → operand (uses a form) s ≡ mapped object_named (temporary_of (uses a form) is.ty s)
  made_temporary form is s =
      ap (λ (c : Category). operand_by c (uses a form).at (temporary_of (uses a form) (own (uses a form))) s) (sym (held_typed a visible types texts fs f setting form) ∙ is.value)
      ∙ ap (λ (t : Ty). mapped object_named (temporary_of (uses a form) t s)) (ap own_type (sym (own_typed a visible types texts fs f setting form) ∙ is.is))

  pub made_placed : (form : Form) → (is : IsMade form) → (s : State) → Stood s → PlacedAs is.ty false s (operand (uses a form) s)
  made_placed form is s stands =
      subst (PlacedAs is.ty false s) (sym (made_temporary form is s)) (temporary_made is.ty (uses a form).place s ((uses a form).object s) (inl is.owner) (is.builds s stands) stands)

  -- .. of which that is asked which is asked of it
  pub made_owner : (form : Form) → IsMade form → IsOwner a visible types texts fs f setting form
  made_owner form is = record { ty = is.ty; is = is.is; owner = is.owner; constant = false; told = ap is_constant is.value; names = λ s stands. made_placed form is s stands }

  -- ---- an owner of either kind

  pub data IsOwningAt (e : Typed) (at : State → Gives Operand) (object : State → Gives Remaining) : Type 0 where
    stands_there : IsObjectAt a visible types texts fs f setting e at → IsOwningAt e at object
    is_made : IsMadeAt e object → IsOwningAt e at object

  abbrev pub IsOwning : Form → Type 0
  IsOwning form = IsOwningAt (typed_in form) ((uses a form).at) ((uses a form).object)

  pub owning_same : (e e' : Typed) (at : State → Gives Operand) (object : State → Gives Remaining) → e.ty ≡ e'.ty → e.category ≡ e'.category → IsOwningAt e at object → IsOwningAt e' at object
  owning_same e e' at object t c (stands_there is) = stands_there (object_same a visible types texts fs f setting e e' at t c is)
  owning_same e e' at object t c (is_made is) = is_made (made_same e e' object t c is)

  pub owning_owner : (form : Form) → IsOwning form → IsOwner a visible types texts fs f setting form
  owning_owner form (stands_there is) = object_owner a visible types texts fs f setting form is
  owning_owner form (is_made is) = made_owner form is
