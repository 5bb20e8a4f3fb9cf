-- Where nothing is diagnosed at a call: an argument may be neither invalid nor null where that isn't admitted, what a mutating one points to isn't kept,
-- no vector and no string to which one points is moved from, and no two of which one is mutating overlap.
use Rattle.std.proofs.Common.{◌≡◌, ℕ, Bool, true, false, List, [], ◌∷◌, ◌++◌, Option, Some, None, refl, sym, ap, subst, ◌∙◌}
use Rattle.std.specs.Prelude.{Contains, cond, slice_get, ◌&&◌, ◌||◌}
use Rattle.std.specs.List.{flat_map}
use Rattle.std.proofs.lemmas.List.Elements.{Contains-append_left, Contains-append_right}
use Rattle.life_types.specs.Types.{Types}
use Rattle.life_types.specs.declared.place.Place.{Place}
use Rattle.life_core.specs.declared.program.FnId.{FnId}
use Rattle.life_core.specs.Function.{Function}
use Rattle.life_core.specs.Operands.{Argument, Location}
use Rattle.life_core.specs.Step.{Call}
use Rattle.life_pset.specs.Elements.{Input, called}
use Rattle.life_pset.specs.Places.{overlap}
use Rattle.life_pset.specs.Shapes.{is_variable_place}
use Rattle.life_pset.specs.contracts.element.AbsPlacePartialEq.TheImpl.{ghosts as compared}
use Rattle.life_pset.specs.declared.element.AbsPlace.{AbsPlace}
use Rattle.life_pset.specs.declared.element.Cause.{Cause}
use Rattle.life_pset.specs.declared.element.Element.{Element}
use Rattle.life_pset.specs.declared.element.Element.TheVariants as element
use Rattle.life_pset.specs.declared.element.Fact.{Fact}
use Rattle.life_pset.specs.declared.element.Root.TheVariants as root
use Rattle.life_pset.proofs.Numbers.{place_laws}
use Rattle.life_contract.specs.Arguments.{is_argument_of, is_mutating_argument}
use Rattle.life_contract.specs.Breaking.{Break, NotAdmitted, Dangles, breaks_apart, breaks_at, of_pairs}
use Rattle.life_contract.specs.Inputs.{admits_null, input_parameter, inputs_of_signature, is_mutating}
use Rattle.life_contract.specs.Signatures.{Signature}
use Rattle.life_rules.specs.Arguing.{argument_diags, argument_diags_of_two, broken_at, broken_by, broken_by_two, known_name, moved_argument, moved_at, moved_behind, overlapping_at, told_break}
use Rattle.life_rules.specs.Diagnosing.{moved_through, owners, use_diags}
use Rattle.life_rules.specs.Keeping.{is_kept, keeping_diags, kept_by_call, kept_input, kept_root, kept_target}
use Rattle.life_rules.specs.Matching.{fact_at}
use Rattle.life_rules.specs.Texts.{input_of}
use Rattle.life_rules.specs.declared.diag.Diag.{Diag}
use Rattle.life_rules.specs.declared.diag.DiagKind.TheVariants.{ArgDangling, ArgNull, ArgOverlap, KeepsBroken}
use Rattle.life_rules.specs.declared.diag.Why.TheVariants as why
use Rattle.life_rules.proofs.Giving.{at_head, flat_map_into}
use Rattle.life_cover.proofs.Mutated.{some_passes}
use Rattle.life_cover.proofs.PointerKinds.{IsClean, IsCleanOfTwo}

-- ---- a call

module _ (sigs : List Signature) (types : Types) (n : ℕ) (f : Function) (place : Place) (S : Fact → Type 0) (target : Option Location) (g : FnId) (xs : List Argument) (sig : Signature) (at_g : slice_get sigs g.0 ≡ Some sig) where
  -- ---- one argument

  module _ (clean : IsClean sigs types n f place (Call target g xs) S) (i : Input) (among : Contains (inputs_of_signature types sig) i) (l : AbsPlace) (argument : is_argument_of xs i l ≡ true) where
    no_break : (e : Element) (b : Break) → S (fact_at l e) → Contains (breaks_at types sig i e) b → ⊥
    no_break e b s has = go b refl
      where
        x : Fact
        x = fact_at l e

        wrong : (d : Diag) → Contains (told_break n place g.0 i b) d → ⊥
        wrong d told =
            clean x s d
            (Contains-append_right (use_diags types n f place (Call target g xs) x) (argument_diags sigs types n place (Call target g xs) x ++ keeping_diags sigs types n f place (Call target g xs) x) d
            (Contains-append_left (argument_diags sigs types n place (Call target g xs) x) (keeping_diags sigs types n f place (Call target g xs) x) d
            (subst (λ (o : Option Signature). Contains (broken_by types n place g.0 o xs x) d) (sym at_g)
            (flat_map_into (broken_at types n place g.0 sig xs x) (inputs_of_signature types sig) i d among
            (subst (λ t. Contains (cond t (flat_map (told_break n place g.0 i) (breaks_at types sig i e)) []) d) (sym argument)
            (flat_map_into (told_break n place g.0 i) (breaks_at types sig i e) b d has told))))))

        go : (c : Break) → b ≡ c → ⊥
        go NotAdmitted e = wrong (record { function = n; place = place; kind = ArgNull; name = i.pointer; called = Some g.0; why = why.Null }) (subst (λ (u : Break). Contains (told_break n place g.0 i u) (record { function = n; place = place; kind = ArgNull; name = i.pointer; called = Some g.0; why = why.Null })) (sym e) (at_head (record { function = n; place = place; kind = ArgNull; name = i.pointer; called = Some g.0; why = why.Null }) []))
        go (Dangles c) e = wrong (record { function = n; place = place; kind = ArgDangling; name = i.pointer; called = Some g.0; why = why.Cause c }) (subst (λ (u : Break). Contains (told_break n place g.0 i u) (record { function = n; place = place; kind = ArgDangling; name = i.pointer; called = Some g.0; why = why.Cause c })) (sym e) (at_head (record { function = n; place = place; kind = ArgDangling; name = i.pointer; called = Some g.0; why = why.Cause c }) []))

    pub not_invalid : (c : Cause) → S (fact_at l (element.Invalid c)) → ⊥
    not_invalid c s = no_break (element.Invalid c) (Dangles c) s (at_head (Dangles c) [])

    pub null_admitted : S (fact_at l element.Null) → admits_null types sig i ≡ true
    null_admitted s = go (admits_null types sig i) refl
      where
        go : (b : Bool) → admits_null types sig i ≡ b → b ≡ true
        go true e = refl
        go false e = absurd (no_break element.Null NotAdmitted s (subst (λ t. Contains (cond t [] (NotAdmitted ∷ [])) NotAdmitted) (sym e) (at_head NotAdmitted [])))

    -- a mutating one
    module _ (mutating : is_mutating types sig i ≡ true) where
      pub mutating_argument : is_mutating_argument types sig xs l ≡ true
      mutating_argument = some_passes (λ j. is_mutating types sig j && is_argument_of xs j l) (inputs_of_signature types sig) i among (ap (λ b. b && is_argument_of xs i l) mutating ∙ argument)

      pub argument_unkept : (a : AbsPlace) → S (fact_at l (element.At a)) → (q : ℕ) (member : Option ℕ) (input : Input) → a.root ≡ root.Input q member → input_of types f q member ≡ Some input → is_kept (slice_get f.locals q) ≡ false
      argument_unkept a s q member input rooted is = go (is_kept (slice_get f.locals q)) refl
        where
          x : Fact
          x = fact_at l (element.At a)

          d : Diag
          d = record { function = n; place = place; kind = KeepsBroken; name = input.pointer; called = None; why = why.Cause (called place g.0) }

          told : is_kept (slice_get f.locals q) ≡ true → keeping_diags sigs types n f place (Call target g xs) x ≡ d ∷ []
          told kept =
              ap (λ (o : Option Signature). kept_by_call types n f place g.0 o xs x) at_g
              ∙ ap (λ b. cond b (kept_target types n f place (called place g.0) (element.At a)) []) mutating_argument
              ∙ ap (kept_root types n f place (called place g.0)) rooted
              ∙ ap (λ b. cond b (kept_input n place (called place g.0) (input_of types f q member)) []) kept
              ∙ ap (kept_input n place (called place g.0)) is

          go : (b : Bool) → is_kept (slice_get f.locals q) ≡ b → b ≡ false
          go false e = refl
          go true e = absurd (clean x s d
              (Contains-append_right (use_diags types n f place (Call target g xs) x) (argument_diags sigs types n place (Call target g xs) x ++ keeping_diags sigs types n f place (Call target g xs) x) d
              (Contains-append_right (argument_diags sigs types n place (Call target g xs) x) (keeping_diags sigs types n f place (Call target g xs) x) d
              (subst (λ (ds : List Diag). Contains ds d) (sym (told e)) (at_head d [])))))

  -- ---- two arguments

  module _ (clean : IsCleanOfTwo sigs types n f place (Call target g xs) S) where
    -- a vector or a string to which an argument points isn't moved from
    pub not_moved : (i : Input) → Contains (inputs_of_signature types sig) i → (l a : AbsPlace) → is_argument_of xs i l ≡ true → S (fact_at l (element.At a)) → is_variable_place types f a ≡ true → (c : Cause) → S (fact_at a (element.Moved c)) → ⊥
    not_moved i among l a argument s variable c t =
        clean (fact_at l (element.At a)) (fact_at a (element.Moved c)) s t d
        (Contains-append_right (flat_map (moved_through types n f place (fact_at l (element.At a)) (fact_at a (element.Moved c))) (owners (Call target g xs))) (argument_diags_of_two sigs types n f place (Call target g xs) (fact_at l (element.At a)) (fact_at a (element.Moved c))) d
        (subst (λ (o : Option Signature). Contains (broken_by_two types n f place g.0 o xs (fact_at l (element.At a)) (fact_at a (element.Moved c))) d) (sym at_g)
        (Contains-append_left (flat_map (moved_at types n f place g.0 xs (fact_at l (element.At a)) (fact_at a (element.Moved c))) (inputs_of_signature types sig)) (of_pairs (overlapping_at types n place g.0 sig xs (fact_at l (element.At a)) (fact_at a (element.Moved c))) (inputs_of_signature types sig)) d
        (flat_map_into (moved_at types n f place g.0 xs (fact_at l (element.At a)) (fact_at a (element.Moved c))) (inputs_of_signature types sig) i d among
        (subst (λ u. Contains (cond u (moved_behind types n f place g.0 i (element.At a) (fact_at a (element.Moved c))) []) d) (sym argument)
        (subst (λ u. Contains (cond u (moved_argument n place g.0 i (element.Moved c)) []) d) (sym passes) (at_head d [])))))))
      where
        d : Diag
        d = record { function = n; place = place; kind = ArgDangling; name = i.pointer; called = Some g.0; why = why.Cause c }

        passes : (compared.eq a a && is_variable_place types f a) ≡ true
        passes = ap (λ u. u && is_variable_place types f a) (place_laws.refl a) ∙ variable

    -- .. and two of which one is mutating don't overlap
    pub not_overlapping : (i j : Input) (l m a b : AbsPlace) → ((h : Input → Input → List Diag) (d : Diag) → Contains (h i j) d → Contains (of_pairs h (inputs_of_signature types sig)) d) → is_argument_of xs i l ≡ true → is_argument_of xs j m ≡ true → S (fact_at l (element.At a)) → S (fact_at m (element.At b))
        → (is_mutating types sig i || is_mutating types sig j) ≡ true → overlap a b ≡ true → ⊥
    not_overlapping i j l m a b in_order first second s t mutating same =
        clean (fact_at l (element.At a)) (fact_at m (element.At b)) s t d
        (Contains-append_right (flat_map (moved_through types n f place (fact_at l (element.At a)) (fact_at m (element.At b))) (owners (Call target g xs))) (argument_diags_of_two sigs types n f place (Call target g xs) (fact_at l (element.At a)) (fact_at m (element.At b))) d
        (subst (λ (o : Option Signature). Contains (broken_by_two types n f place g.0 o xs (fact_at l (element.At a)) (fact_at m (element.At b))) d) (sym at_g)
        (Contains-append_right (flat_map (moved_at types n f place g.0 xs (fact_at l (element.At a)) (fact_at m (element.At b))) (inputs_of_signature types sig)) (of_pairs (overlapping_at types n place g.0 sig xs (fact_at l (element.At a)) (fact_at m (element.At b))) (inputs_of_signature types sig)) d
        (in_order (overlapping_at types n place g.0 sig xs (fact_at l (element.At a)) (fact_at m (element.At b))) d
        (subst (λ u. Contains (cond u (d ∷ []) []) d) (sym passes) (at_head d []))))))
      where
        d : Diag
        d = record { function = n; place = place; kind = ArgOverlap; name = i.pointer; called = Some g.0; why = why.Overlap (known_name sig.name (input_parameter sig j)) }

        passes : ((is_argument_of xs i l && is_argument_of xs j m) && breaks_apart types sig i j (element.At a) (element.At b)) ≡ true
        passes =
            ap (λ u. (u && is_argument_of xs j m) && breaks_apart types sig i j (element.At a) (element.At b)) first
            ∙ ap (λ u. u && breaks_apart types sig i j (element.At a) (element.At b)) second
            ∙ ap (λ u. u && overlap a b) mutating
            ∙ same
