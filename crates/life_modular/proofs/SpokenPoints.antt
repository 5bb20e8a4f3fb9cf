-- What the diagnostics at a point speak of: the function that is called there, and what its derived facts speak of.
use Rattle.std.proofs.Common.{◌≡◌, ◌++◌, ◌∷◌, ◌&&◌, cond, refl, slice_get, true, false, unwrap_or, ℕ, Bool, Contains, List, [], Option, Some, None, inl, inr}
use Rattle.std.specs.List.{flat_map}
use Rattle.life_types.specs.TypeTests.{is_pointer}
use Rattle.life_types.specs.Types.{Types}
use Rattle.life_types.specs.declared.place.Place.{Place}
use Rattle.life_types.specs.declared.ty.NameId.{NameId}
use Rattle.life_types.specs.declared.ty.Ty.{Ty}
use Rattle.life_core.specs.Function.{Function}
use Rattle.life_core.specs.Linked.{spot_of}
use Rattle.life_core.specs.Operands.{Argument, Location, Operand, Name, Through}
use Rattle.life_core.specs.Step.{Step, Call}
use Rattle.life_core.specs.Tree.{Node, Action, Question, Return, Stop, Spot}
use Rattle.life_core.specs.declared.stmt.Point.{Point}
use Rattle.life_pset.specs.Elements.{Input}
use Rattle.life_pset.specs.Places.{members_place}
use Rattle.life_pset.specs.Shapes.{is_variable_place}
use Rattle.life_pset.specs.contracts.element.AbsPlacePartialEq.TheImpl.{ghosts as compared}
use Rattle.life_pset.specs.declared.element.AbsPlace.{AbsPlace}
use Rattle.life_pset.specs.declared.element.Element.{Element}
use Rattle.life_pset.specs.declared.element.Element.TheVariants as element
use Rattle.life_pset.specs.declared.element.Fact.{Fact}
use Rattle.life_contract.specs.Arguments.{is_argument_of}
use Rattle.life_contract.specs.Breaking.{NotAdmitted, Dangles, breaks_apart, breaks_at, of_pairs}
use Rattle.life_contract.specs.Inputs.{admits_null, input_parameter, inputs_of_signature, parameter_number}
use Rattle.life_contract.specs.Located.{is_rooted}
use Rattle.life_contract.specs.Promises.{result_type}
use Rattle.life_contract.specs.Signatures.{Signature, signature_of}
use Rattle.life_contract.specs.declared.param.Param.{Param}
use Rattle.life_rules.specs.Arguing.{argument_diags, argument_diags_of_two, broken_at, broken_by, broken_by_two, known_name, moved_argument, moved_at, moved_behind, overlapping_at, told_break}
use Rattle.life_rules.specs.Carrying.{is_location, located}
use Rattle.life_rules.specs.Deriving.{Derives}
use Rattle.life_rules.specs.Diagnosing.{IsDiagnosed, Tells, diags_at, diags_of_two, moved_target, moved_through, moved_use, node_diags, node_diags_of_two, owners, use_diags}
use Rattle.life_rules.specs.Keeping.{keeping_diags}
use Rattle.life_rules.specs.Returning.{dangling_result, is_wide, return_diags, widened_result}
use Rattle.life_rules.specs.Telling.{told}
use Rattle.life_rules.specs.Texts.{is_result}
use Rattle.life_rules.specs.declared.diag.Diag.{Diag}
use Rattle.life_rules.specs.declared.diag.DiagKind.TheVariants.{ArgNull, ArgDangling, ArgOverlap, ReturnDangling, ReturnWidens}
use Rattle.life_rules.specs.declared.diag.Why.TheVariants as why
use Rattle.life_rules.proofs.Giving.{at_head, in_tail}
use Rattle.life_modular.proofs.AlikeLists.{each_of_pairs, each_place}
use Rattle.life_modular.proofs.SpokenCalls.{Calls, CallsHere, ElementCalls, derived_calls}
use Rattle.life_modular.proofs.SpokenDiags.{EachSpeaks, IsNameOf, Speaks, both_speak, each_speaks, if_speaks, keeping_speaks, moved_use_speaks, none_speaks, told_of_speaks, told_speaks, use_speaks}

-- ---- names of a parameter

parameter_name : (sig : Signature) (p : Param) → Contains sig.parameters p → (name : Option NameId) → p.name ≡ name → IsNameOf sig (unwrap_or name sig.name)
parameter_name sig p among None is = inl refl
parameter_name sig p among (Some name) is = inr (p, (among, is))

known_speaks : (sig : Signature) (n : ℕ) → IsNameOf sig (known_name sig.name (slice_get sig.parameters n))
known_speaks sig n = each_place (λ (o : Option Param). IsNameOf sig (known_name sig.name o)) (inl refl) sig.parameters (λ p among. parameter_name sig p among p.name refl) n

module _ (sigs : List Signature) (types : Types) (function : ℕ) (f : Function) where
  abbrev AreSpoken : List Diag → Type 0
  AreSpoken ds = EachSpeaks sigs types function f ds

  nothing : AreSpoken []
  nothing = none_speaks sigs types function f

  both : (xs ys : List Diag) → AreSpoken xs → AreSpoken ys → AreSpoken (xs ++ ys)
  both xs ys = both_speak sigs types function f xs ys

  given : (here : Bool) (ds : List Diag) → AreSpoken ds → AreSpoken (cond here ds [])
  given here ds = if_speaks sigs types function f here ds

  each : {A : Type 0} (g : A → List Diag) (xs : List A) → ((x : A) → AreSpoken (g x)) → AreSpoken (flat_map g xs)
  each g xs = each_speaks sigs types function f g xs

  module _ (place : Place) where
    -- ---- the arguments of a call

    module _ (g : ℕ) (calls : Calls f g) where
      breaks_speak : (sig : Signature) (i : Input) (e : Element) → ElementCalls f e → AreSpoken (flat_map (told_break function place g i) (breaks_at types sig i e))
      breaks_speak sig i element.Null called = by_admitted (admits_null types sig i)
        where
          by_admitted : (admitted : Bool) → AreSpoken (flat_map (told_break function place g i) (cond admitted [] (NotAdmitted ∷ [])))
          by_admitted true = nothing
          by_admitted false = both (told_break function place g i NotAdmitted) [] (told_of_speaks sigs types function f place g calls ArgNull i.pointer why.Null tt) nothing
      breaks_speak sig i (element.Invalid c) called =
          both (told_break function place g i (Dangles c)) [] (told_of_speaks sigs types function f place g calls ArgDangling i.pointer (why.Cause c) called) nothing
      breaks_speak sig i _ called = nothing

      broken_by_speaks : (callee : Option Signature) (xs : List Argument) (x : Fact) → ElementCalls f x.element → AreSpoken (broken_by types function place g callee xs x)
      broken_by_speaks None xs x called = nothing
      broken_by_speaks (Some sig) xs x called =
          each (broken_at types function place g sig xs x) (inputs_of_signature types sig) (λ i.
          given (is_argument_of xs i x.location) (flat_map (told_break function place g i) (breaks_at types sig i x.element)) (breaks_speak sig i x.element called))

      moved_argument_speaks : (i : Input) (e : Element) → ElementCalls f e → AreSpoken (moved_argument function place g i e)
      moved_argument_speaks i (element.Moved c) called = told_of_speaks sigs types function f place g calls ArgDangling i.pointer (why.Cause c) called
      moved_argument_speaks i _ called = nothing

      moved_behind_speaks : (i : Input) (e : Element) (b : Fact) → ElementCalls f b.element → AreSpoken (moved_behind types function f place g i e b)
      moved_behind_speaks i (element.At a) b called =
          given (compared.eq b.location a && is_variable_place types f b.location) (moved_argument function place g i b.element) (moved_argument_speaks i b.element called)
      moved_behind_speaks i _ b called = nothing

      overlapping_speaks : (sig : Signature) → slice_get sigs g ≡ Some sig → (xs : List Argument) (a b : Fact) (i j : Input) → AreSpoken (overlapping_at types function place g sig xs a b i j)
      overlapping_speaks sig is xs a b i j =
          let name : NameId = known_name sig.name (input_parameter sig j) in
          given ((is_argument_of xs i a.location && is_argument_of xs j b.location) && breaks_apart types sig i j a.element b.element) _
          (told_of_speaks sigs types function f place g calls ArgOverlap i.pointer (why.Overlap name) (g, (calls, (sig, (is, known_speaks sig (parameter_number j))))))

      broken_by_two_speaks : (callee : Option Signature) → slice_get sigs g ≡ callee → (xs : List Argument) (a b : Fact) → ElementCalls f b.element
          → AreSpoken (broken_by_two types function f place g callee xs a b)
      broken_by_two_speaks None is xs a b called = nothing
      broken_by_two_speaks (Some sig) is xs a b called =
          both (flat_map (moved_at types function f place g xs a b) (inputs_of_signature types sig)) (of_pairs (overlapping_at types function place g sig xs a b) (inputs_of_signature types sig))
          (each (moved_at types function f place g xs a b) (inputs_of_signature types sig) (λ i.
          given (is_argument_of xs i a.location) (moved_behind types function f place g i a.element b) (moved_behind_speaks i a.element b called)))
          (each_of_pairs (Speaks sigs f) (overlapping_at types function place g sig xs a b) (inputs_of_signature types sig) (overlapping_speaks sig is xs a b))

    arguments_speak : (i : Step) → ((g : ℕ) → CallsHere (Action i) g → Calls f g) → (x : Fact) → ElementCalls f x.element → AreSpoken (argument_diags sigs types function place i x)
    arguments_speak (Call target g xs) here x called = broken_by_speaks g.0 (here g.0 (λ all. refl)) (slice_get sigs g.0) xs x called
    arguments_speak _ here x called = nothing

    arguments_of_two_speak : (i : Step) → ((g : ℕ) → CallsHere (Action i) g → Calls f g) → (a b : Fact) → ElementCalls f b.element
        → AreSpoken (argument_diags_of_two sigs types function f place i a b)
    arguments_of_two_speak (Call target g xs) here a b called = broken_by_two_speaks g.0 (here g.0 (λ all. refl)) (slice_get sigs g.0) refl xs a b called
    arguments_of_two_speak _ here a b called = nothing

    -- ---- an owner behind a pointer

    moved_target_speaks : (p : Location) (members : List ℕ) (e : Element) (b : Fact) → ElementCalls f b.element → AreSpoken (moved_target types function f place p members e b)
    moved_target_speaks p members (element.At a) b called =
        given (compared.eq b.location (members_place a members) && is_variable_place types f b.location) (moved_use function place (located p) b.element)
        (moved_use_speaks sigs types function f place (located p) b.element called)
    moved_target_speaks p members _ b called = nothing

    moved_through_speaks : (a b : Fact) → ElementCalls f b.element → (o : Operand) → AreSpoken (moved_through types function f place a b o)
    moved_through_speaks a b called (Name l) = nothing
    moved_through_speaks a b called (Through p members) = given (is_location p a.location) (moved_target types function f place p members a.element b) (moved_target_speaks p members a.element b called)

    -- ---- a result

    dangling_speaks : (l : AbsPlace) (e : Element) → ElementCalls f e → AreSpoken (dangling_result function place l e)
    dangling_speaks l (element.Invalid c) called = told_speaks sigs types function f place ReturnDangling l (why.Cause c) called
    dangling_speaks l _ called = nothing

    return_speaks : (x : Fact) → ElementCalls f x.element → AreSpoken (return_diags types function f place x)
    return_speaks x called =
        let sig : Signature = signature_of f in
        let t : Ty = result_type types sig x.location in
        let wide : List Diag = widened_result types sig function place x.location x.element in
        let all : List Diag = dangling_result function place x.location x.element ++ wide in
        given (is_result types f f.parameters && is_rooted f.parameters x.location) all
        (both (dangling_result function place x.location x.element) wide
        (dangling_speaks x.location x.element called)
        (given (is_pointer t && is_wide types sig t x.element) (told function place ReturnWidens x.location (why.Points x.element))
        (told_speaks sigs types function f place ReturnWidens x.location (why.Points x.element) called)))

    -- ---- at a point

    node_speaks : (n : Node) → ((g : ℕ) → CallsHere n g → Calls f g) → (x : Fact) → ElementCalls f x.element → AreSpoken (node_diags sigs types function f place n x)
    node_speaks (Action i) here x called =
        both (use_diags types function f place i x) (argument_diags sigs types function place i x ++ keeping_diags sigs types function f place i x)
        (use_speaks sigs types function f place x called i)
        (both (argument_diags sigs types function place i x) (keeping_diags sigs types function f place i x)
        (arguments_speak i here x called)
        (keeping_speaks sigs types function f place i here x))
    node_speaks (Question t) here x called = nothing
    node_speaks Return here x called = return_speaks x called
    node_speaks Stop here x called = nothing

    node_of_two_speaks : (n : Node) → ((g : ℕ) → CallsHere n g → Calls f g) → (a b : Fact) → ElementCalls f b.element → AreSpoken (node_diags_of_two sigs types function f place n a b)
    node_of_two_speaks (Action i) here a b called =
        both (flat_map (moved_through types function f place a b) (owners i)) (argument_diags_of_two sigs types function f place i a b)
        (each (moved_through types function f place a b) (owners i) (moved_through_speaks a b called))
        (arguments_of_two_speak i here a b called)
    node_of_two_speaks _ here a b called = nothing

  module _ (point : Point) where
    point_speaks : (o : Option Spot) → spot_of f point ≡ o → (x : Fact) → ElementCalls f x.element → AreSpoken (diags_at sigs types function f o x)
    point_speaks None is x called = nothing
    point_speaks (Some s) is x called = node_speaks s.place s.node (λ g calls. (point, (s, (is, calls)))) x called

    point_of_two_speaks : (o : Option Spot) → spot_of f point ≡ o → (a b : Fact) → ElementCalls f b.element → AreSpoken (diags_of_two sigs types function f o a b)
    point_of_two_speaks None is a b called = nothing
    point_of_two_speaks (Some s) is a b called = node_of_two_speaks s.place s.node (λ g calls. (point, (s, (is, calls)))) a b called

    tells_speak : (facts : List Fact) → ((x : Fact) → Contains facts x → Derives sigs types f point x) → (d : Diag) → Tells sigs types function f (spot_of f point) facts d → Speaks sigs f d
    tells_speak [] held d told = absurd told
    tells_speak (x ∷ []) held d told = point_speaks (spot_of f point) refl x (derived_calls f (held x (at_head x []))) d told
    tells_speak (a ∷ b ∷ []) held d told = point_of_two_speaks (spot_of f point) refl a b (derived_calls f (held b (in_tail a (b ∷ []) b (at_head b [])))) d told
    tells_speak (a ∷ b ∷ c ∷ more) held d told = absurd told

  pub diagnosed_speaks : (d : Diag) → IsDiagnosed sigs types function f d → Speaks sigs f d
  diagnosed_speaks d (point, (facts, (held, told))) = tells_speak point facts held d told
