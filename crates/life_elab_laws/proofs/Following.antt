-- What has been written of a function and what is visible, between statements.
use Rattle.std.proofs.Common.{◌≡◌, ◌<◌, ◌≤◌, ◌||◌, ℕ, zero, suc, Bool, true, false, List, [], ◌∷◌, Contains, length, slice_get, take, Option, Some, None, refl, sym, ap, ◌∙◌, subst, unwrap_or, arith}
use Rattle.std.proofs.lemmas.Option.{none-some, slice_get_within, same_Some}
use Rattle.life_types.specs.TypeTests.{is_pointer, is_void}
use Rattle.life_types.specs.Types.{Types, class}
use Rattle.life_typed.specs.BaseTypes.{type_at}
use Rattle.life_typed.specs.declared.typed_program.TypedLocal.{TypedLocal}
use Rattle.life_core.specs.Function.{Function}
use Rattle.life_core.specs.declared.program.Local.{Local}
use Rattle.life_core.specs.declared.program.LocalKind.TheVariants.{Register, Object}
use Rattle.life_proper.specs.Placed.{object_at}
use Rattle.life_proper.specs.Placed as placed
use Rattle.life_proper.specs.declared.known.Known.{Known}
use Rattle.life_well_typed.specs.Visible.{Visible, behind}
use Rattle.life_writer.specs.Around.{Around, result_local}
use Rattle.life_writer.specs.Variables.{variable}
use Rattle.life_writer.specs.Writing.{State}
use Rattle.life_elab_laws.proofs.Among.{Among, Ascend, among_contains, contains_among}
use Rattle.life_elab_laws.proofs.Exits.{AreLasting, Knows}
use Rattle.life_elab_laws.proofs.Fronts.{IsFront, front_itself, front_length, front_then, front_taken}
use Rattle.life_elab_laws.proofs.Growing.{Begins, Grows, bare}
use Rattle.life_elab_laws.proofs.Making.{Alive}
use Rattle.life_elab_laws.proofs.Shaped.{is_passing}
use Rattle.life_elab_laws.proofs.VariablePlaces.{IsVariableAt, Stands}
use Rattle.life_elab_laws.proofs.PendingTemporaries.{none_pending}
use Rattle.life_elab_laws.proofs.OwnLocals.{first_own}
use Rattle.life_core.specs.declared.program.LocalKind.{LocalKind}
use Rattle.life_elab.specs.ProgramForms.{result_kind}

-- the local of what lives: of a variable, or of a temporary that lives as long as one
pub record IsLivingBare (low : ℕ) (s : State) (y : ℕ) : Type 0 where
  -- without a name it is one of the function's own, which begin there
  pub beyond : (l : Local) → slice_get s.locals y ≡ Some l → l.name ≡ None → low ≤ y
  pub local : Local
  pub there : slice_get s.locals y ≡ Some local
  pub lasts : is_passing local ≡ false

abbrev pub IsLiving : ℕ → State → ℕ → Type 0
IsLiving low s y = IsLivingBare low (bare s) y

-- the local of the result is there, of its type
pub record IsResultLocal (sort : LocalKind) (a : Around) (s : State) : Type 0 where
  pub local : Local
  pub there : slice_get s.locals (result_local a) ≡ Some local
  pub nameless : local.name ≡ None
  pub kind : local.kind ≡ sort
  pub typed : slice_get s.types.types local.ty.0 ≡ Some (type_at a.program.types a.function.result)

-- .. which is a register, or an object
abbrev pub IsResultRegister : Around → State → Type 0
IsResultRegister a s = IsResultLocal Register a s

abbrev pub IsResultObject : Around → State → Type 0
IsResultObject a s = IsResultLocal Object a s

-- .. where the function gives something back
abbrev pub HasRegister : Around → State → Type 0
HasRegister a s = is_void (type_at a.program.types a.function.result) ≡ false → IsResultLocal (result_kind (class (Some (type_at a.program.types a.function.result)))) a s

pub register_later : (a : Around) (s s' : State) → IsFront s.locals s'.locals → IsFront s.types.types s'.types.types → HasRegister a s → HasRegister a s'
register_later a s s' locals table h some = let is = h some in record {
  local = is.local;
  there = locals (result_local a) is.local is.there;
  nameless = is.nameless;
  kind = is.kind;
  typed = table is.local.ty.0 (type_at a.program.types a.function.result) is.typed;
}

-- what ends: an object or a pointer
abbrev pub may_end : Types → Function → ℕ → Bool
may_end types f x = object_at types f x || is_pointer (placed.type_at types f x)

-- ---- lists

pub take_itself : (xs : List ℕ) → take (length xs) xs ≡ xs
take_itself [] = refl
take_itself (x ∷ xs) = ap (λ (ys : List ℕ). x ∷ ys) (take_itself xs)

pub take_front : (n m : ℕ) (xs : List ℕ) → n ≤ m → take n (take m xs) ≡ take n xs
take_front zero m xs h = refl
take_front (suc n) zero xs h = absurd (omega (arith, h))
take_front (suc n) (suc m) [] h = refl
take_front (suc n) (suc m) (x ∷ xs) h = ap (λ (ys : List ℕ). x ∷ ys) (take_front n m xs (omega (arith, h)))

-- ---- between statements

module _ (types : Types) (f : Function) where
  pub record FollowsBare (a : Around) (v : Visible) (s : State) : Type 0 where
    pub count : length s.variables ≡ v.declared
    pub visible : (x : ℕ) → Contains v.visible x → x < v.declared
    pub stands : Stands a v.visible s
    pub ascend : Ascend 0 s.living
    pub outside : s.outside ≤ length s.living
    pub living : (y : ℕ) → Among y s.living → IsLiving (first_own a) s y
    pub sorts : Begins types f s → (y : ℕ) → Among y s.living → may_end types f y ≡ true
    -- no temporary does
    pub pending : s.pending ≡ []

  abbrev pub Follows : Around → Visible → State → Type 0
  Follows a v s = FollowsBare a v (bare s)

  -- between statements all that is asked of expressions is there
  pub knows_alive : (a : Around) (v : Visible) (s : State) → Follows a v s → (k : List Known) → Knows f s.living k → Alive f s k
  knows_alive a v s follows k h = record {
    sized = h.sized;
    living = λ y c. h.alive y (contains_among s.living y c);
    pending = λ y m. absurd (none y m);
    blank = λ y l there lasts a b. h.blank y l there lasts a;
  }
    where
      none : (y : ℕ) → Among y s.pending → ⊥
      none y m = subst (Among y) follows.pending m

  -- .. and behind them, where no temporaries are left
  pub alive_knows : (s : State) (k : List Known) → s.pending ≡ [] → Alive f s k → Knows f s.living k
  alive_knows s k none h = record {
    sized = h.sized;
    alive = λ y m. h.living y (among_contains s.living y m);
    blank = λ y l there lasts m. h.blank y l there lasts m (λ p. subst (Among y) none p);
  }

  pub follows_lasting : (a : Around) (v : Visible) (s : State) → Follows a v s → Begins types f s → AreLasting f s.living
  follows_lasting a v s h b y m = let is = h.living y m in (is.local, b.locals y is.local is.there, is.lasts)

  pub follows_below : (a : Around) (v : Visible) (s : State) → Follows a v s → (y : ℕ) → Among y s.living → y < length s.locals
  follows_below a v s h y m = let is = h.living y m in slice_get_within s.locals y is.local is.there

  -- ---- statements add to what has been written

  pub record AddsBare (s s' : State) : Type 0 where
    pub locals : IsFront s.locals s'.locals
    pub table : IsFront s.types.types s'.types.types
    pub variables : IsFront s.variables s'.variables
    pub living : take (length s.living) s'.living ≡ s.living
    pub pending : s'.pending ≡ s.pending
    pub outside : s'.outside ≡ s.outside

  abbrev pub Adds : State → State → Type 0
  Adds s s' = AddsBare (bare s) (bare s')

  length_front : (xs ys : List ℕ) → take (length xs) ys ≡ xs → length xs ≤ length ys
  length_front [] ys e = omega arith
  length_front (x ∷ xs) [] e = absurd (clash e)
    where
      clash : [] ≡ x ∷ xs → ⊥
      clash e = cc
  length_front (x ∷ xs) (y ∷ ys) e = let more = length_front xs ys (tail e) in omega (arith, more)
    where
      rest : List ℕ → List ℕ
      rest [] = []
      rest (z ∷ zs) = zs

      tail : y ∷ take (length xs) ys ≡ x ∷ xs → take (length xs) ys ≡ xs
      tail e = ap rest e

  pub adds_none : (s : State) → Adds s s
  adds_none s = record { locals = front_itself s.locals; table = front_itself s.types.types; variables = front_itself s.variables; living = take_itself s.living; pending = refl; outside = refl }

  pub adds_then : (s t u : State) → Adds s t → Adds t u → Adds s u
  adds_then s t u g h = record {
    locals = front_then s.locals t.locals u.locals g.locals h.locals;
    table = front_then s.types.types t.types.types u.types.types g.table h.table;
    variables = front_then s.variables t.variables u.variables g.variables h.variables;
    living =
        sym (take_front (length s.living) (length t.living) u.living (length_front s.living t.living g.living))
        ∙ ap (take (length s.living)) h.living ∙ g.living;
    pending = h.pending ∙ g.pending;
    outside = h.outside ∙ g.outside;
  }

  pub grows_adds : (s s' : State) → s'.pending ≡ s.pending → Grows s s' → Adds s s'
  grows_adds s s' level g = record {
    locals = g.locals;
    table = g.types;
    variables = subst (IsFront s.variables) (sym g.variables) (front_itself s.variables);
    living = ap (take (length s.living)) g.living ∙ take_itself s.living;
    pending = level;
    outside = g.outside;
  }

  pub begins_added : (s s' : State) → Adds s s' → Begins types f s' → Begins types f s
  begins_added s s' g b = record {
    locals = front_then s.locals s'.locals f.locals g.locals b.locals;
    table = front_then s.types.types s'.types.types types.types g.table b.table;
  }

  -- ---- what is visible stays where nothing is declared, and is again where a block ends

  pub same_variable : (s s' : State) (x : ℕ) → IsFront s.variables s'.variables → x < length s.variables → variable s' x ≡ variable s x
  same_variable s s' x front lt = go (slice_get s.variables x) refl
    where
      go : (o : Option ℕ) → slice_get s.variables x ≡ o → variable s' x ≡ variable s x
      go (Some y) at = ap (λ (o : Option ℕ). unwrap_or o 0) (front x y at) ∙ sym (ap (λ (o : Option ℕ). unwrap_or o 0) at)
      go None at = absurd (never s.variables x lt at)
        where
          never : (xs : List ℕ) (n : ℕ) → n < length xs → slice_get xs n ≡ None → ⊥
          never [] n lt e = omega (arith, lt)
          never (z ∷ zs) zero lt e = none-some z (sym e)
          never (z ∷ zs) (suc n) lt e = never zs n (omega (arith, lt)) e

  pub follows_again : (a : Around) (v : Visible) (s s' : State) (n : ℕ) → Follows a v s → IsFront s.locals s'.locals → IsFront s.types.types s'.types.types → IsFront s.variables s'.variables → s'.living ≡ s.living → s'.pending ≡ s.pending → s'.outside ≤ length s'.living
      → length s'.variables ≡ n → v.declared ≤ n → Follows a (record { declared = n; visible = v.visible }) s'
  follows_again a v s s' n h locals table variables living pending outside count more = record {
    count = count;
    visible = λ x c. omega (arith, h.visible x c, more);
    stands = record {
      table = front_then a.program.types.types s.types.types s'.types.types h.stands.table table;
      opened = λ y c. let is = later y (contains_among s.living y (subst (λ (ys : List ℕ). Contains ys y) living c)) in slice_get_within s'.locals y is.local is.there;
      pends = none_pending _ s'.locals s'.types.types s'.living s'.pending (omega (arith, h.stands.pends.past, front_length s.locals s'.locals locals)) (pending ∙ h.pending);
      seen = λ x u c at. moved x u c (h.stands.seen x u c at);
      apart = λ x y u w c at d there other e. h.stands.apart x y u w c at d there other (sym (stays x c) ∙ e ∙ stays y d);
    };
    ascend = subst (Ascend 0) (sym living) h.ascend;
    outside = outside;
    living = λ y m. later y (subst (Among y) living m);
    sorts = λ b y m. h.sorts (record { locals = front_then s.locals s'.locals f.locals locals b.locals; table = front_then s.types.types s'.types.types types.types table b.table }) y (subst (Among y) living m);
    pending = pending ∙ h.pending;
  }
    where
      later : (y : ℕ) → Among y s.living → IsLiving (first_own a) s' y
      later y m = let is = h.living y m in record {
        beyond = λ l at none. is.beyond is.local is.there (ap (λ (z : Local). z.name) (same_Some is.local l (sym (locals y is.local is.there) ∙ at)) ∙ none);
        local = is.local;
        there = locals y is.local is.there;
        lasts = is.lasts;
      }

      stays : (x : ℕ) → Contains v.visible x → variable s' x ≡ variable s x
      stays x c = same_variable s s' x variables (omega (arith, h.visible x c, h.count))

      moved : (x : ℕ) (u : TypedLocal) → Contains v.visible x → IsVariableAt a s x u → IsVariableAt a s' x u
      moved x u c is = record {
        local = is.local;
        there = ap (slice_get s'.locals) (stays x c) ∙ locals (variable s x) is.local is.there;
        typed = is.typed;
        kind = is.kind;
        named = is.named;
        lives = subst (λ (ys : List ℕ). Contains ys (variable s' x)) (sym living) (subst (Contains s.living) (sym (stays x c)) is.lives);
      }

  pub follows_grown : (a : Around) (v : Visible) (s s' : State) → s'.pending ≡ s.pending → Grows s s' → Follows a v s → Follows a v s'
  follows_grown a v s s' level g h = follows_again a v s s' v.declared h g.locals g.types (subst (IsFront s.variables) (sym g.variables) (front_itself s.variables)) g.living level (omega (arith, g.outside, ap length g.living, h.outside)) (ap length g.variables ∙ h.count) (omega arith)

  -- .. and where temporaries are pending, once they have ended
  abbrev pub settled : State → State → State
  settled s s' = record s' { pending = take (length s.pending) s'.pending }

  pub follows_settled : (a : Around) (v : Visible) (s s' : State) → Grows s s' → Follows a v s → Follows a v (settled s s')
  follows_settled a v s s' g h =
      follows_again a v s (settled s s') v.declared h g.locals g.types (subst (IsFront s.variables) (sym g.variables) (front_itself s.variables)) g.living (front_taken s.pending s'.pending g.pending)
      (omega (arith, g.outside, ap length g.living, h.outside)) (ap length g.variables ∙ h.count) (omega arith)

  pub adds_settled : (s s' : State) → Grows s s' → Adds s (settled s s')
  adds_settled s s' g = record {
    locals = g.locals;
    table = g.types;
    variables = subst (IsFront s.variables) (sym g.variables) (front_itself s.variables);
    living = ap (take (length s.living)) g.living ∙ take_itself s.living;
    pending = front_taken s.pending s'.pending g.pending;
    outside = g.outside;
  }

  -- what was visible before is visible again, where the same lives
  pub visible_again : (a : Around) (v u : Visible) (s t : State) → Follows a v s → Adds s t → Follows a u t → t.living ≡ s.living → Follows a (behind v u) t
  visible_again a v u s t h adds later level =
      follows_again a v s t u.declared h adds.locals adds.table adds.variables level adds.pending (omega (arith, adds.outside, ap length level, h.outside)) later.count
      (omega (arith, h.count, later.count, front_length s.variables t.variables adds.variables))
