-- Lists of facts none of which points into a local: how they are put together, and those of a function's entry.
use Rattle.std.proofs.Common.{◌≡◌, inl, inr, ℕ, ◌+◌, Bool, true, false, List, [], ◌∷◌, ◌++◌, map, Option, Some, None, refl, sym, ap, subst, ◌∙◌}
use Rattle.std.specs.Prelude.{Contains, cond, if◌then◌else◌, nat_lt}
use Rattle.std.specs.List.{flat_map}
use Rattle.std.proofs.lemmas.List.Elements.{Contains-append_cases}
use Rattle.life_types.specs.TypeTests.{is_pointer}
use Rattle.life_types.specs.Types.{Types}
use Rattle.life_types.specs.declared.ty.Ty.{Ty}
use Rattle.life_types.specs.declared.ty.Ty.TheVariants as ty
use Rattle.life_types.specs.declared.ty.TyId.{TyId}
use Rattle.life_core.specs.declared.program.Local.{Local}
use Rattle.life_pset.specs.Elements.{Input, input_at, input_if, input_root, inputs_among, local_inputs, local_locations, number_after}
use Rattle.life_pset.specs.Places.{longer, member_place, members_place, owned_place, owned_step, path, root_place, stepped, too_long}
use Rattle.life_pset.specs.Shapes.{members_type, shape, ty_if}
use Rattle.life_pset.specs.declared.element.AbsPlace.{AbsPlace}
use Rattle.life_pset.specs.declared.element.Element.{Element}
use Rattle.life_pset.specs.declared.element.Element.TheVariants as element
use Rattle.life_pset.specs.declared.element.Fact.{Fact}
use Rattle.life_pset.specs.declared.element.Root.TheVariants as root
use Rattle.life_contract.specs.Promises.{owner_elements}
use Rattle.life_contract.specs.Inputs.{may_be_null}
use Rattle.life_rules.specs.Carrying.{after_kill}
use Rattle.life_rules.specs.Deriving.{entry_facts_from, input_facts, owner_facts, parameter_facts}
use Rattle.life_rules.specs.Matching.{fact_at, facts_at, given_if, given_over, part_of, points_under, position_in, reached, unless}
use Rattle.life_rules.specs.declared.kill.Kill.{Kill}
use Rattle.life_rules.proofs.Giving.{cons_cases, flat_map_from, none_in_empty}

-- ---- roots

pub stepped_same : (a : AbsPlace) (s : ℕ) → (stepped a s).root ≡ a.root
stepped_same a s = go (nat_lt a.length 8)
  where
    go : (b : Bool) → (if b then longer a s else too_long a).root ≡ a.root
    go true = refl
    go false = refl

pub member_same : (a : AbsPlace) (m : ℕ) → (member_place a m).root ≡ a.root
member_same a m = go (nat_lt m owned_step)
  where
    go : (b : Bool) → (if b then stepped a m else too_long a).root ≡ a.root
    go true = stepped_same a m
    go false = refl

pub members_same : (a : AbsPlace) (ms : List ℕ) → (members_place a ms).root ≡ a.root
members_same a [] = refl
members_same a (m ∷ ms) = members_same (member_place a m) ms ∙ member_same a m

pub part_same : (owned : Bool) (a : AbsPlace) → (part_of owned a).root ≡ a.root
part_same true a = stepped_same a owned_step
part_same false a = refl

-- ---- facts that point elsewhere

module _ (x : ℕ) where
  abbrev pub IsElsewhere : Element → Type 0
  IsElsewhere (element.At a) = a.root ≡ root.Local x → ⊥
  IsElsewhere _ = Unit {0}

  abbrev pub AreElsewhere : List Fact → Type 0
  AreElsewhere facts = (y : Fact) → Contains facts y → IsElsewhere y.element

  pub none_elsewhere : AreElsewhere []
  none_elsewhere y h = absurd (none_in_empty y h)

  pub more_elsewhere : (a : Fact) (facts : List Fact) → IsElsewhere a.element → AreElsewhere facts → AreElsewhere (a ∷ facts)
  more_elsewhere a facts h more y has = elim (cons_cases a facts y has) [ inl e ↦ subst (λ (z : Fact). IsElsewhere z.element) e h | inr later ↦ more y later ]

  pub one_elsewhere : (l : AbsPlace) (e : Element) → IsElsewhere e → AreElsewhere (fact_at l e ∷ [])
  one_elsewhere l e h = more_elsewhere (fact_at l e) [] h none_elsewhere

  pub both_elsewhere : (one two : List Fact) → AreElsewhere one → AreElsewhere two → AreElsewhere (one ++ two)
  both_elsewhere one two h k y has = elim (Contains-append_cases one two y has) [ inl here ↦ h y here | inr there ↦ k y there ]

  pub each_elsewhere : {A : Type 0} (g : A → List Fact) (xs : List A) → ((a : A) → Contains xs a → AreElsewhere (g a)) → AreElsewhere (flat_map g xs)
  each_elsewhere g xs each y has = let r = flat_map_from g xs y has in each r.0 r.1.0 y r.1.1

  pub mapped_elsewhere : {A : Type 0} (g : A → Fact) (xs : List A) → ((a : A) → IsElsewhere (g a).element) → AreElsewhere (map g xs)
  mapped_elsewhere g [] each = none_elsewhere
  mapped_elsewhere g (a ∷ xs) each = more_elsewhere (g a) (map g xs) (each a) (mapped_elsewhere g xs each)

  pub if_elsewhere : (b : Bool) (facts : List Fact) → AreElsewhere facts → AreElsewhere (cond b facts [])
  if_elsewhere true facts h = h
  if_elsewhere false facts h = none_elsewhere

  pub unless_elsewhere : (b : Bool) (a : Fact) → IsElsewhere a.element → AreElsewhere (unless b a)
  unless_elsewhere true a h = none_elsewhere
  unless_elsewhere false a h = more_elsewhere a [] h none_elsewhere

  -- .. of an element, if there is one
  abbrev pub IsElsewhereIf : Option Element → Type 0
  IsElsewhereIf None = Unit {0}
  IsElsewhereIf (Some e) = IsElsewhere e

  pub facts_elsewhere : (l : AbsPlace) (e : Option Element) → IsElsewhereIf e → AreElsewhere (facts_at l e)
  facts_elsewhere l None h = none_elsewhere
  facts_elsewhere l (Some e) h = one_elsewhere l e h

  -- ---- what is made of a place, and of an element

  pub place_elsewhere : (a b : AbsPlace) → b.root ≡ a.root → IsElsewhere (element.At a) → IsElsewhere (element.At b)
  place_elsewhere a b same h e = h (sym same ∙ e)

  pub reached_elsewhere : (owned : Bool) (ms : List ℕ) (e : Element) → IsElsewhere e → IsElsewhereIf (reached owned ms e)
  reached_elsewhere owned ms element.Null h = tt
  reached_elsewhere owned ms (element.Invalid c) h = tt
  reached_elsewhere owned ms (element.Moved c) h = tt
  reached_elsewhere owned ms element.Own h = tt
  reached_elsewhere owned ms element.Static h = tt
  reached_elsewhere owned ms (element.At a) h = place_elsewhere a (part_of owned (members_place a ms)) (part_same owned (members_place a ms) ∙ members_same a ms) h

  pub position_elsewhere : (ms : List ℕ) (e : Element) → IsElsewhere e → IsElsewhereIf (position_in ms e)
  position_elsewhere ms element.Null h = tt
  position_elsewhere ms (element.Invalid c) h = tt
  position_elsewhere ms (element.Moved c) h = tt
  position_elsewhere ms element.Own h = tt
  position_elsewhere ms element.Static h = tt
  position_elsewhere ms (element.At a) h = place_elsewhere a (owned_place (members_place a ms)) (stepped_same (members_place a ms) owned_step ∙ members_same a ms) h

  pub over_elsewhere : (e : Element) → IsElsewhereIf (given_over e)
  over_elsewhere element.Null = tt
  over_elsewhere (element.Invalid c) = tt
  over_elsewhere (element.Moved c) = tt
  over_elsewhere element.Own = tt
  over_elsewhere element.Static = tt
  over_elsewhere (element.At a) = tt

  pub kill_elsewhere : (k : Option Kill) (e : Element) → IsElsewhere e → IsElsewhere (after_kill k e)
  kill_elsewhere None e h = h
  kill_elsewhere (Some k) e h = go (points_under k.owner e)
    where
      go : (b : Bool) → IsElsewhere (if b then element.Invalid k.cause else e)
      go true = tt
      go false = h

  -- ---- at the entry

  pub elements_elsewhere : (l : AbsPlace) (t : Ty) → AreElsewhere (map (fact_at l) (owner_elements t))
  elements_elsewhere l (ty.Unique target) = more_elsewhere (fact_at l element.Own) (fact_at l element.Null ∷ []) tt (one_elsewhere l element.Null tt)
  elements_elsewhere l ty.Text = one_elsewhere l element.Own tt
  elements_elsewhere l (ty.Vector item) = one_elsewhere l element.Own tt
  elements_elsewhere l _ = none_elsewhere

  -- an input's root is no local
  abbrev IsOutside : Input → Type 0
  IsOutside i = i.root ≡ root.Local x → ⊥

  pub inputs_outside : (types : Types) (q : ℕ) (id : TyId) (k : ℕ) (ls : List AbsPlace) (i : Input) → Contains (inputs_among types q id k ls) i → IsOutside i
  inputs_outside types q id k [] i has = absurd (none_in_empty i has)
  inputs_outside types q id k (l ∷ ls) i has =
      elim (Contains-append_cases (input_if (is_pointer (ty_if types (members_type types (Some id) (path l)))) (input_at q k l (members_type types (Some id) (path l)))) (inputs_among types q id (number_after (is_pointer (ty_if types (members_type types (Some id) (path l)))) k) ls) i has) [
        | inl first ↦ one (is_pointer (ty_if types (members_type types (Some id) (path l)))) first
        | inr later ↦ inputs_outside types q id (number_after (is_pointer (ty_if types (members_type types (Some id) (path l)))) k) ls i later
      ]
    where
      outside : (j : Input) → input_at q k l (members_type types (Some id) (path l)) ≡ j → IsOutside j
      outside j e h = unlike (ap (λ (z : Input). z.root) e ∙ h)
        where
          unlike : input_root q k l ≡ root.Local x → ⊥
          unlike g = cc

      one : (b : Bool) → Contains (input_if b (input_at q k l (members_type types (Some id) (path l)))) i → IsOutside i
      one false h = absurd (none_in_empty i h)
      one true h = elim (cons_cases (input_at q k l (members_type types (Some id) (path l))) [] i h) [ inl e ↦ outside i e | inr none ↦ absurd (none_in_empty i none) ]

  pub input_elsewhere : (types : Types) (nonnull : Bool) (i : Input) → IsOutside i → AreElsewhere (input_facts types nonnull i)
  input_elsewhere types nonnull i outside =
      more_elsewhere (fact_at i.pointer (element.At (root_place i.root))) (given_if (may_be_null types nonnull i) (fact_at i.pointer element.Null)) outside
      (if_elsewhere (may_be_null types nonnull i) (fact_at i.pointer element.Null ∷ []) (one_elsewhere i.pointer element.Null tt))

  pub parameter_elsewhere : (types : Types) (n q : ℕ) (l : Local) → AreElsewhere (parameter_facts types n q l)
  parameter_elsewhere types n q l =
      both_elsewhere (flat_map (input_facts types l.nonnull) (local_inputs types n q l)) (if nat_lt q n then flat_map (owner_facts types (shape types n q l)) (local_locations types n q l) else [])
      (each_elsewhere (input_facts types l.nonnull) (local_inputs types n q l) (λ i has. input_elsewhere types l.nonnull i (outside (nat_lt q n) i has)))
      (owners (nat_lt q n))
    where
      outside : (b : Bool) (i : Input) → Contains (if b then inputs_among types q (shape types n q l) 0 (local_locations types n q l) else []) i → IsOutside i
      outside true i has = inputs_outside types q (shape types n q l) 0 (local_locations types n q l) i has
      outside false i has = absurd (none_in_empty i has)

      owners : (b : Bool) → AreElsewhere (if b then flat_map (owner_facts types (shape types n q l)) (local_locations types n q l) else [])
      owners true = each_elsewhere (owner_facts types (shape types n q l)) (local_locations types n q l) (λ a has. elements_elsewhere a (ty_if types (members_type types (Some (shape types n q l)) (path a))))
      owners false = none_elsewhere

  pub entry_elsewhere : (types : Types) (n q : ℕ) (ls : List Local) → AreElsewhere (entry_facts_from types n q ls)
  entry_elsewhere types n q [] = none_elsewhere
  entry_elsewhere types n q (l ∷ ls) = both_elsewhere (parameter_facts types n q l) (entry_facts_from types n (q + 1) ls) (parameter_elsewhere types n q l) (entry_elsewhere types n (q + 1) ls)
