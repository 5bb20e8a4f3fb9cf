-- What the diagnostics of a function speak of: functions that it calls, and names of these.
use Rattle.std.proofs.Common.{◌≡◌, ◌⊎◌, ◌++◌, ◌&&◌, cond, refl, slice_get, true, false, ℕ, Bool, Contains, List, [], Option, Some, None}
use Rattle.std.specs.List.{flat_map}
use Rattle.life_types.specs.Trees.{holds_owner}
use Rattle.life_types.specs.Types.{Types}
use Rattle.life_types.specs.declared.place.Place.{Place}
use Rattle.life_types.specs.declared.ty.NameId.{NameId}
use Rattle.life_core.specs.Function.{Function}
use Rattle.life_core.specs.Operands.{Argument, Operand, Name, Through}
use Rattle.life_core.specs.Step.{Step, Copy, Move, Changes, Call}
use Rattle.life_core.specs.Tree.{Action}
use Rattle.life_pset.specs.Elements.{Input, called, owner_changed}
use Rattle.life_pset.specs.Shapes.{is_variable_place, operand_type, tree_if}
use Rattle.life_pset.specs.declared.element.AbsPlace.{AbsPlace}
use Rattle.life_pset.specs.declared.element.Cause.{Cause}
use Rattle.life_pset.specs.declared.element.Element.{Element}
use Rattle.life_pset.specs.declared.element.Element.TheVariants as element
use Rattle.life_pset.specs.declared.element.Fact.{Fact}
use Rattle.life_pset.specs.declared.element.Root.{Root}
use Rattle.life_pset.specs.declared.element.Root.TheVariants as root
use Rattle.life_contract.specs.Arguments.{is_mutating_argument}
use Rattle.life_contract.specs.Signatures.{Signature}
use Rattle.life_contract.specs.declared.param.Param.{Param}
use Rattle.life_rules.specs.Carrying.{is_location}
use Rattle.life_rules.specs.Diagnosing.{misopened, misopened_as, misread, misread_as, misused, misused_as, moved_as, moved_use, opens, owners, reads, use_diags, uses}
use Rattle.life_rules.specs.Keeping.{is_kept, keeping_diags, kept_by_call, kept_input, kept_root, kept_target, kept_through}
use Rattle.life_rules.specs.Telling.{told, told_of}
use Rattle.life_rules.specs.Texts.{input_of}
use Rattle.life_rules.specs.declared.diag.Diag.{Diag}
use Rattle.life_rules.specs.declared.diag.DiagKind.{DiagKind}
use Rattle.life_rules.specs.declared.diag.Why.{Why}
use Rattle.life_rules.specs.declared.diag.Why.TheVariants as why
use Rattle.life_rules.proofs.Giving.{none_in_empty}
use Rattle.life_modular.proofs.AlikeLists.{each_append, each_flat_map, each_one}
use Rattle.life_modular.proofs.SpokenCalls.{Calls, CallsHere, CauseCalls, ElementCalls}

-- the name is the function's or a parameter's
abbrev pub IsNameOf : Signature → NameId → Type 0
IsNameOf sig name = (sig.name ≡ name) ⊎ ((p : Param) × (Contains sig.parameters p × (p.name ≡ Some name)))

-- .. of a function that is called
abbrev pub IsCalledName : List Signature → Function → NameId → Type 0
IsCalledName sigs f name = (g : ℕ) × (Calls f g × ((sig : Signature) × ((slice_get sigs g ≡ Some sig) × IsNameOf sig name)))

-- a reason speaks of such names, and of calls of the function
abbrev pub WhySpeaks : List Signature → Function → Why → Type 0
WhySpeaks sigs f why.Null = Unit {0}
WhySpeaks sigs f (why.Cause c) = CauseCalls f c
WhySpeaks sigs f (why.Overlap name) = IsCalledName sigs f name
WhySpeaks sigs f (why.Points e) = ElementCalls f e

-- the called function that a diagnostic tells of, if it tells of one, is called
abbrev pub CalledSpeaks : Function → Option ℕ → Type 0
CalledSpeaks f None = Unit {0}
CalledSpeaks f (Some g) = Calls f g

-- a diagnostic speaks of nothing else
abbrev pub Speaks : List Signature → Function → Diag → Type 0
Speaks sigs f d = CalledSpeaks f d.called × WhySpeaks sigs f d.why

module _ (sigs : List Signature) (types : Types) (function : ℕ) (f : Function) where
  abbrev pub EachSpeaks : List Diag → Type 0
  EachSpeaks ds = (d : Diag) → Contains ds d → Speaks sigs f d

  pub none_speaks : EachSpeaks []
  none_speaks d among = absurd (none_in_empty d among)

  pub if_speaks : (here : Bool) (ds : List Diag) → EachSpeaks ds → EachSpeaks (cond here ds [])
  if_speaks true ds speaks = speaks
  if_speaks false ds speaks = none_speaks

  pub both_speak : (xs ys : List Diag) → EachSpeaks xs → EachSpeaks ys → EachSpeaks (xs ++ ys)
  both_speak xs ys = each_append (Speaks sigs f) xs ys

  pub each_speaks : {A : Type 0} (g : A → List Diag) (xs : List A) → ((x : A) → EachSpeaks (g x)) → EachSpeaks (flat_map g xs)
  each_speaks g xs each = each_flat_map (Speaks sigs f) g xs (λ x _. each x)

  pub told_speaks : (place : Place) (kind : DiagKind) (l : AbsPlace) (w : Why) → WhySpeaks sigs f w → EachSpeaks (told function place kind l w)
  told_speaks place kind l w speaks = each_one (Speaks sigs f) (record { function = function; place = place; kind = kind; name = l; called = None; why = w }) (tt, speaks)

  pub told_of_speaks : (place : Place) (g : ℕ) → Calls f g → (kind : DiagKind) (l : AbsPlace) (w : Why) → WhySpeaks sigs f w → EachSpeaks (told_of function place g kind l w)
  told_of_speaks place g calls kind l w speaks = each_one (Speaks sigs f) (record { function = function; place = place; kind = kind; name = l; called = Some g; why = w }) (calls, speaks)

  module _ (place : Place) where
    -- ---- what an instruction uses

    misused_speaks : (l : AbsPlace) (e : Element) → ElementCalls f e → EachSpeaks (misused function place l e)
    misused_speaks l element.Null calls = told_speaks place _ l why.Null tt
    misused_speaks l (element.Invalid c) calls = told_speaks place _ l (why.Cause c) calls
    misused_speaks l _ calls = none_speaks

    misread_speaks : (l : AbsPlace) (e : Element) → ElementCalls f e → EachSpeaks (misread function place l e)
    misread_speaks l (element.Invalid c) calls = told_speaks place _ l (why.Cause c) calls
    misread_speaks l _ calls = none_speaks

    misopened_speaks : (l : AbsPlace) (e : Element) → ElementCalls f e → EachSpeaks (misopened function place l e)
    misopened_speaks l element.Null calls = told_speaks place _ l why.Null tt
    misopened_speaks l (element.Moved c) calls = told_speaks place _ l (why.Cause c) calls
    misopened_speaks l _ calls = none_speaks

    pub moved_use_speaks : (l : AbsPlace) (e : Element) → ElementCalls f e → EachSpeaks (moved_use function place l e)
    moved_use_speaks l (element.Moved c) calls = told_speaks place _ l (why.Cause c) calls
    moved_use_speaks l _ calls = none_speaks

    module _ (x : Fact) (calls : ElementCalls f x.element) where
      moved_as_speaks : (o : Operand) → EachSpeaks (moved_as types function f place x o)
      moved_as_speaks (Name l) =
          if_speaks (is_location l x.location && is_variable_place types f x.location) (moved_use function place x.location x.element) (moved_use_speaks x.location x.element calls)
      moved_as_speaks (Through p members) = none_speaks

      pub use_speaks : (i : Step) → EachSpeaks (use_diags types function f place i x)
      use_speaks i =
          both_speak (flat_map (misused_as function place x) (uses i)) _
          (each_speaks (misused_as function place x) (uses i) (λ p. if_speaks (is_location p x.location) (misused function place x.location x.element) (misused_speaks x.location x.element calls)))
          (both_speak (flat_map (misread_as function place x) (reads i)) _
          (each_speaks (misread_as function place x) (reads i) (λ p. if_speaks (is_location p x.location) (misread function place x.location x.element) (misread_speaks x.location x.element calls)))
          (both_speak (flat_map (misopened_as function place x) (opens i)) (flat_map (moved_as types function f place x) (owners i))
          (each_speaks (misopened_as function place x) (opens i) (λ p. if_speaks (is_location p x.location) (misopened function place x.location x.element) (misopened_speaks x.location x.element calls)))
          (each_speaks (moved_as types function f place x) (owners i) moved_as_speaks)))

    -- ---- what it changes behind a parameter that keeps it

    kept_input_speaks : (c : Cause) → CauseCalls f c → (input : Option Input) → EachSpeaks (kept_input function place c input)
    kept_input_speaks c calls None = none_speaks
    kept_input_speaks c calls (Some i) = told_speaks place _ i.pointer (why.Cause c) calls

    kept_root_speaks : (c : Cause) → CauseCalls f c → (r : Root) → EachSpeaks (kept_root types function f place c r)
    kept_root_speaks c calls (root.Local x) = none_speaks
    kept_root_speaks c calls (root.Input q member) =
        let input : Option Input = input_of types f q member in
        if_speaks (is_kept (slice_get f.locals q)) (kept_input function place c input) (kept_input_speaks c calls input)

    kept_target_speaks : (c : Cause) → CauseCalls f c → (e : Element) → EachSpeaks (kept_target types function f place c e)
    kept_target_speaks c calls (element.At a) = kept_root_speaks c calls a.root
    kept_target_speaks c calls _ = none_speaks

    kept_through_speaks : (x : Fact) (o : Operand) → EachSpeaks (kept_through types function f place x o)
    kept_through_speaks x (Name l) = none_speaks
    kept_through_speaks x (Through p members) =
        if_speaks (is_location p x.location) (kept_target types function f place (owner_changed place) x.element) (kept_target_speaks (owner_changed place) tt x.element)

    kept_by_call_speaks : (g : ℕ) → Calls f g → (callee : Option Signature) (xs : List Argument) (x : Fact) → EachSpeaks (kept_by_call types function f place g callee xs x)
    kept_by_call_speaks g calls None xs x = none_speaks
    kept_by_call_speaks g calls (Some sig) xs x =
        if_speaks (is_mutating_argument types sig xs x.location) (kept_target types function f place (called place g) x.element) (kept_target_speaks (called place g) calls x.element)

    pub keeping_speaks : (i : Step) → ((g : ℕ) → CallsHere (Action i) g → Calls f g) → (x : Fact) → EachSpeaks (keeping_diags sigs types function f place i x)
    keeping_speaks (Copy to from) here x = if_speaks (holds_owner (tree_if types (operand_type types f to))) (kept_through types function f place x to) (kept_through_speaks x to)
    keeping_speaks (Move to y) here x = kept_through_speaks x to
    keeping_speaks (Changes o change) here x = kept_through_speaks x o
    keeping_speaks (Call target g xs) here x = kept_by_call_speaks g.0 (here g.0 (λ all. refl)) (slice_get sigs g.0) xs x
    keeping_speaks _ here x = none_speaks
