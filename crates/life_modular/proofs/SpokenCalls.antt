-- What causes speak of that are derived in a function: a call is one of the function.
use Rattle.std.proofs.Common.{◌≡◌, ap, refl, slice_get, suc, ℕ, Contains, List, [], ◌∷◌, ◌++◌, Option, Some, None, map, option_map}
use Rattle.std.specs.List.{flat_map}
use Rattle.life_types.specs.Types.{Types}
use Rattle.life_types.specs.declared.place.Place.{Place}
use Rattle.life_types.specs.declared.ty.NameId.{NameId}
use Rattle.life_core.specs.Function.{Function}
use Rattle.life_core.specs.Linked.{code_of, spot_of, spot_of_linked}
use Rattle.life_core.specs.Operands.{Operand, Name, Through}
use Rattle.life_core.specs.Step.{Step, Live, End, Copy, Move, Changes, Make, Call}
use Rattle.life_core.specs.Tree.{Node, Action, Spot}
use Rattle.life_core.specs.declared.program.Local.{Local}
use Rattle.life_core.specs.declared.program.LocalKind.{LocalKind}
use Rattle.life_core.specs.declared.program.LocalKind.TheVariants.{Object, Register, Range}
use Rattle.life_core.specs.declared.stmt.Point.{Point}
use Rattle.life_pset.specs.Elements.{called, caused_at, caused_elements, causes_of_end, changed, changed_in, elements_of, end_causes, end_elements, end_if, end_kind, ended_local, input_places, inputs_of, moved, node_elements, objects_from, step_elements, uninitialised}
use Rattle.life_pset.specs.Table.{IsOf, table_of}
use Rattle.life_pset.specs.declared.element.AbsPlace.{AbsPlace}
use Rattle.life_pset.specs.declared.element.Cause.{Cause}
use Rattle.life_pset.specs.declared.element.CauseKind.{CauseKind}
use Rattle.life_pset.specs.declared.element.CauseKind.TheVariants as cause
use Rattle.life_pset.specs.declared.element.Element.{Element}
use Rattle.life_pset.specs.declared.element.Element.TheVariants as element
use Rattle.life_pset.specs.declared.element.Fact.{Fact}
use Rattle.life_pset.proofs.Numbering.{contains_numbered}
use Rattle.life_pset.proofs.Numbers.{is_of_iff}
use Rattle.life_contract.specs.Signatures.{Signature}
use Rattle.life_rules.specs.Callees.{callee_at}
use Rattle.life_rules.specs.Deriving.{Derives, along, entry}
use Rattle.life_rules.proofs.Giving.{none_in_empty}
use Rattle.life_modular.proofs.AlikeLists.{each_append, each_flat_map, each_map, each_more, each_one}

-- what stands here calls the function with this number, whatever its signature is
abbrev pub CallsHere : Node → ℕ → Type 0
CallsHere n g = (sigs : List Signature) → callee_at sigs n ≡ slice_get sigs g

-- .. and so does some point of the function
abbrev pub Calls : Function → ℕ → Type 0
Calls f g = (point : Point) × ((s : Spot) × ((spot_of f point ≡ Some s) × CallsHere s.node g))

-- what a cause of this kind speaks of, if it is a call, is called
abbrev pub KindCalls : Function → CauseKind → ℕ → Type 0
KindCalls f cause.Called g = Calls f g
KindCalls f _ x = Unit {0}

abbrev pub CauseCalls : Function → Cause → Type 0
CauseCalls f c = KindCalls f c.kind c.root

-- .. and so of an element that has a cause
abbrev pub ElementCalls : Function → Element → Type 0
ElementCalls f (element.Invalid c) = CauseCalls f c
ElementCalls f (element.Moved c) = CauseCalls f c
ElementCalls f _ = Unit {0}

module _ (f : Function) where
  abbrev EachCalls : List Element → Type 0
  EachCalls es = (e : Element) → Contains es e → ElementCalls f e

  none_calls : EachCalls []
  none_calls e among = absurd (none_in_empty e among)

  -- ---- what an instruction causes

  pub changed_calls : (place : Place) (o : Operand) → CauseCalls f (changed_in place o)
  changed_calls place (Name l) = tt
  changed_calls place (Through p members) = tt

  ended_calls : (name : Option NameId) (x : ℕ) → KindCalls f (end_kind name) x
  ended_calls None x = tt
  ended_calls (Some name) x = tt

  end_if_calls : (k : LocalKind) (c : Cause) → CauseCalls f c → (d : Cause) → Contains (end_if k c) d → CauseCalls f d
  end_if_calls Object c calls d among = each_one (CauseCalls f) c calls d among
  end_if_calls Register c calls d among = absurd (none_in_empty d among)
  end_if_calls Range c calls d among = absurd (none_in_empty d among)

  end_causes_call : (place : Place) (x : ℕ) (o : Option Local) (c : Cause) → Contains (end_causes place x o) c → CauseCalls f c
  end_causes_call place x None c among = absurd (none_in_empty c among)
  end_causes_call place x (Some l) c among = end_if_calls l.kind (ended_local place x l) (ended_calls l.name x) c among

  end_calls : (place : Place) (xs : List ℕ) → EachCalls (flat_map (end_elements f place) xs)
  end_calls place xs =
      each_flat_map (ElementCalls f) (end_elements f place) xs (λ x _.
      each_map (ElementCalls f) element.Invalid (causes_of_end f place x) (end_causes_call place x (slice_get f.locals x)))

  step_calls : (place : Place) (i : Step) → ((g : ℕ) → CallsHere (Action i) g → Calls f g) → EachCalls (step_elements f place i)
  step_calls place (Live x form) here = each_one (ElementCalls f) (element.Invalid (uninitialised place x)) tt
  step_calls place (End xs) here = end_calls place xs
  step_calls place (Copy to from) here = each_one (ElementCalls f) (element.Invalid (changed_in place to)) (changed_calls place to)
  step_calls place (Move to y) here =
      let last : List Element = element.Invalid (changed_in place to) ∷ [] in
      each_more (ElementCalls f) (element.Invalid (moved place y)) (element.Moved (moved place y) ∷ last) tt
      (each_more (ElementCalls f) (element.Moved (moved place y)) last tt (each_one (ElementCalls f) (element.Invalid (changed_in place to)) (changed_calls place to)))
  step_calls place (Changes o change) here = each_one (ElementCalls f) (element.Invalid (changed_in place o)) (changed_calls place o)
  step_calls place (Make u made) here = each_one (ElementCalls f) (element.Invalid (changed place u.local)) tt
  step_calls place (Call target g xs) here = each_one (ElementCalls f) (element.Invalid (called place g.0)) (here g.0 (λ sigs. refl))
  step_calls place _ here = none_calls

  node_calls : (place : Place) (n : Node) → ((g : ℕ) → CallsHere n g → Calls f g) → EachCalls (node_elements f place n)
  node_calls place (Action i) here = step_calls place i here
  node_calls place _ here = none_calls

  -- ---- what is derived

  caused_calls : EachCalls (caused_elements f)
  caused_calls =
      each_flat_map (ElementCalls f) (caused_at f) (code_of f) (λ l among.
      let at = contains_numbered (code_of f) l among in
      node_calls l.spot.place l.spot.node (λ g calls. (record { 0 = suc at.0 }, (l.spot, (ap (option_map spot_of_linked) at.1, calls)))))

  places_call : (xs : List AbsPlace) → EachCalls (map element.At xs)
  places_call xs = each_map (ElementCalls f) element.At xs (λ a among. tt)

  element_calls : (types : Types) → EachCalls (elements_of types f)
  element_calls types =
      let objects : List Element = map element.At (objects_from types f.parameters 0 f.locals) in
      let behind : List Element = map element.At (flat_map (input_places types) (inputs_of types f)) in
      let all : List Element = objects ++ (behind ++ caused_elements f) in
      let places : EachCalls all =
      each_append (ElementCalls f) objects (behind ++ caused_elements f)
      (places_call (objects_from types f.parameters 0 f.locals))
      (each_append (ElementCalls f) behind (caused_elements f) (places_call (flat_map (input_places types) (inputs_of types f))) caused_calls) in
      each_more (ElementCalls f) element.Null (element.Own ∷ element.Static ∷ all) tt
      (each_more (ElementCalls f) element.Own (element.Static ∷ all) tt (each_more (ElementCalls f) element.Static all tt places))

  is_derived_of : {sigs : List Signature} {types : Types} {point : Point} {x : Fact} → Derives sigs types f point x → IsOf (table_of types f) x
  is_derived_of (entry is among) = is
  is_derived_of (along edge premises among held carries) = carries.0

  pub derived_calls : {sigs : List Signature} {types : Types} {point : Point} {x : Fact} → Derives sigs types f point x → ElementCalls f x.element
  derived_calls {sigs} {types} {point} {x} derived = element_calls types x.element ((is_of_iff types f x).0 (is_derived_of derived)).1
