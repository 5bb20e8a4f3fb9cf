-- Places in variables: the whole of one, or a member of it, of a member of it ..; they are there without anything that is written.
use Rattle.std.proofs.Common.{◌≡◌, ◌++◌, ℕ, false, List, [], ◌∷◌, Contains, Some, is_some, slice_get, refl, sym, ap, ◌∙◌, subst, unwrap_or}
use Rattle.life_types.specs.Types.{Types, class}
use Rattle.life_types.specs.declared.ty.Ty.{Ty}
use Rattle.life_typed.specs.declared.typed_program.TypedLocal.{TypedLocal}
use Rattle.life_core.specs.Function.{Function}
use Rattle.life_core.specs.Operands.{Location, Name, Operand}
use Rattle.life_core.specs.declared.program.LocalKind.TheVariants.{Object}
use Rattle.life_proper.specs.WellFormed.{is_itself}
use Rattle.life_writer.specs.Around.{Around}
use Rattle.life_writer.specs.Using.{with_member}
use Rattle.life_writer.specs.Variables.{kind, variable, variable_place}
use Rattle.life_writer.specs.Writing.{Gives, State, gives, mapped}
use Rattle.life_elab_laws.proofs.ExpressionForms.{Standing}
use Rattle.life_elab_laws.proofs.Growing.{Grows}
use Rattle.life_elab_laws.proofs.ObjectForms.{other_number}
use Rattle.life_elab_laws.proofs.Setting.{Setting}
use Rattle.life_elab_laws.proofs.StructSteps.{LiesNamed}
use Rattle.life_elab_laws.proofs.VariablePlaces.{IsVariableAt, kind_is, place_is}

module _ (a : Around) (visible : List ℕ) (types : Types) (texts : ℕ) (fs : List Function) (f : Function) (setting : Setting a types fs f) where
  abbrev Stood : State → Type 0
  Stood s = Standing a visible types texts fs f setting s

  pub record LiesIn (at : State → Gives Operand) : Type 0 where
    pub number : ℕ
    pub declared : TypedLocal
    pub found : slice_get a.function.locals number ≡ Some declared
    pub seen : Contains visible number
    pub members : List ℕ
    pub here : (s : State) → Stood s → at s ≡ gives (Name (record { local = variable s number; members = members })) s

  -- a variable that is an object
  pub variable_lies : (x : ℕ) (v : TypedLocal) (t : Ty) → Contains visible x → slice_get a.function.locals x ≡ Some v → slice_get a.program.types.types v.ty.0 ≡ Some t → kind (class (Some t)) ≡ Object → LiesIn (λ s. gives (variable_place s x) s)
  variable_lies x v t seen found of_type object = record {
    number = x;
    declared = v;
    found = found;
    seen = seen;
    members = [];
    here = λ s stands. let it = stands.seen x v seen found in ap (λ (o : Operand). gives o s) (place_is a s x v it Object (kind_is a s x v it t of_type ∙ object));
  }

  module _ (at : State → Gives Operand) (is : LiesIn at) where
    abbrev pub lies_at : State → Location
    lies_at s = record { local = variable s is.number; members = is.members }

    -- a member of it
    pub member_within : (which : ℕ) → LiesIn (λ s. mapped (with_member which) (at s))
    member_within which = record {
      number = is.number;
      declared = is.declared;
      found = is.found;
      seen = is.seen;
      members = is.members ++ which ∷ [];
      here = λ s stands. ap (λ (w : Gives Operand). mapped (with_member which) w) (is.here s stands);
    }

    -- the variable has a name
    module _ (s : State) (stands : Stood s) where
      abbrev v : IsVariableAt a s is.number is.declared
      v = stands.seen is.number is.declared is.seen is.found

      pub lies_named : LiesNamed (at s).state (at s).given
      lies_named = subst (λ (w : Gives Operand). LiesNamed w.state w.given) (sym (is.here s stands)) (record {
        location = lies_at s;
        is = refl;
        local = v.local;
        there = v.there;
        named = ap is_some v.named;
      })

    -- it stays where it was
    pub lies_stay : (s r : State) → Grows s r → lies_at r ≡ lies_at s
    lies_stay s r grown = ap (λ (vs : List ℕ). (let l : Location = record { local = unwrap_or (slice_get vs is.number) 0; members = is.members } in l)) grown.variables

    -- .. and is no other local
    pub lies_apart : (s : State) (y : ℕ) → (variable s is.number ≡ y → ⊥) → is_itself types texts fs f y (Name (lies_at s)) ≡ false
    lies_apart s y other = go is.members
      where
        go : (members : List ℕ) → is_itself types texts fs f y (Name (record { local = variable s is.number; members = members })) ≡ false
        go [] = other_number (variable s is.number) y other
        go (m ∷ members) = refl
