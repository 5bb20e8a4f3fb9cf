-- Which derived facts say that a local was moved from: those that a move of it makes, and those that are kept. What all other rules make says so of
-- nothing.
use Rattle.std.proofs.Common.{inl, inr, ℕ, ◌+◌, Bool, true, false, List, [], ◌∷◌, ◌++◌, map, Option, Some, None, subst}
use Rattle.std.specs.Prelude.{Contains, cond, if◌then◌else◌, not, nat_eq, nat_lt, slice_get, ◌&&◌}
use Rattle.std.specs.List.{flat_map, list_any}
use Rattle.std.proofs.lemmas.List.Elements.{Contains-append_cases}
use Rattle.life_types.specs.TypeTests.{is_pointer, is_unique}
use Rattle.life_types.specs.Types.{Types}
use Rattle.life_types.specs.declared.place.Place.{Place}
use Rattle.life_types.specs.declared.ty.Ty.{Ty}
use Rattle.life_types.specs.declared.ty.Ty.TheVariants as ty
use Rattle.life_types.specs.declared.ty.TyId.{TyId}
use Rattle.life_core.specs.declared.instr.Form.{Form}
use Rattle.life_core.specs.declared.instr.Form.TheVariants as form
use Rattle.life_core.specs.declared.instr.Made.{Made}
use Rattle.life_core.specs.declared.instr.Made.TheVariants as made
use Rattle.life_core.specs.declared.program.Local.{Local}
use Rattle.life_core.specs.Function.{Function}
use Rattle.life_core.specs.Operands.{Argument, Location, Operand, Source, whole}
use Rattle.life_core.specs.Operands as named
use Rattle.life_core.specs.Step.{Change, Erase}
use Rattle.life_pset.specs.Elements.{Input, causes_of_end, local_inputs, local_locations, called, owner_changed}
use Rattle.life_pset.specs.Places.{path, root_place, members_place}
use Rattle.life_pset.specs.Shapes.{is_variable_place, location_type, members_type, shape, ty_if}
use Rattle.life_pset.specs.declared.element.AbsPlace.{AbsPlace}
use Rattle.life_pset.specs.declared.element.Element.{Element}
use Rattle.life_pset.specs.declared.element.Element.TheVariants as element
use Rattle.life_pset.specs.declared.element.Fact.{Fact}
use Rattle.life_pset.specs.declared.element.Root.{Root}
use Rattle.life_pset.specs.declared.element.Root.TheVariants as root
use Rattle.life_contract.specs.Inputs.{inputs_of_signature, may_be_null}
use Rattle.life_contract.specs.Located.{is_location, located}
use Rattle.life_contract.specs.Promises.{fixed_elements, owner_elements, pointer_elements, promised_behind, promises_null, promises_static, result_locations, result_type, element_if}
use Rattle.life_contract.specs.Signatures.{Signature}
use Rattle.life_contract.specs.Arguments.{is_argument_of, is_mutating_argument}
use Rattle.life_rules.specs.Calling.{called_none, called_one, called_two, fixed_facts, is_in_target, killed_by_call, passed_element, passed_fact, passed_facts, passed_for, result_at}
use Rattle.life_rules.specs.Carrying.{aimed_from, born, born_facts, ended_element, ended_facts, ended_root, invalid_facts, killed_fact, killed_facts, killed_through, killed_under, locations_of_local, made_element, moved_facts, named_in, named_position, named_target, own_type, position_facts, reached_from, whole_facts, writes}
use Rattle.life_rules.specs.Deriving.{entry_facts_from, input_facts, owner_facts, parameter_facts}
use Rattle.life_rules.specs.Matching.{fact_at, facts_at, given_over, gotten, is_rooted_among, points_under, position_in, reached}
use Rattle.life_rules.specs.declared.kill.Kill.{Kill}
use Rattle.life_rules.specs.declared.kill.KillPair.{KillPair}
use Rattle.life_rules.proofs.Giving.{cons_cases, flat_map_from, none_in_empty, at_head, in_tail}
use Rattle.life_core.specs.Step.{Step}

-- ---- lists of facts of which something holds

module _ (P : Fact → Type 0) where
  abbrev pub Each : List Fact → Type 0
  Each facts = (y : Fact) → Contains facts y → P y

  pub none_each : Each []
  none_each y h = absurd (none_in_empty y h)

  pub more_each : (a : Fact) (facts : List Fact) → P a → Each facts → Each (a ∷ facts)
  more_each a facts h more y has = elim (cons_cases a facts y has) [ inl e ↦ subst P e h | inr later ↦ more y later ]

  pub one_each : (a : Fact) → P a → Each (a ∷ [])
  one_each a h = more_each a [] h none_each

  pub both_each : (one two : List Fact) → Each one → Each two → Each (one ++ two)
  both_each one two h k y has = elim (Contains-append_cases one two y has) [ inl here ↦ h y here | inr there ↦ k y there ]

  pub all_each : {A : Type 0} (g : A → List Fact) (xs : List A) → ((a : A) → Each (g a)) → Each (flat_map g xs)
  all_each g xs each y has = let r = flat_map_from g xs y has in each r.0 y r.1.1

  pub mapped_each : {A : Type 0} (g : A → Fact) (xs : List A) → ((a : A) → Contains xs a → P (g a)) → Each (map g xs)
  mapped_each g [] each = none_each
  mapped_each g (a ∷ xs) each = more_each (g a) (map g xs) (each a (at_head a xs)) (mapped_each g xs (λ b has. each b (in_tail a xs b has)))

  pub if_each : (b : Bool) (facts : List Fact) → Each facts → Each (cond b facts [])
  if_each true facts h = h
  if_each false facts h = none_each

-- ---- facts that say of nothing that it was moved from

abbrev pub IsCalm : Element → Type 0
IsCalm (element.Moved c) = ⊥
IsCalm _ = Unit {0}

abbrev pub IsCalmIf : Option Element → Type 0
IsCalmIf None = Unit {0}
IsCalmIf (Some e) = IsCalm e

abbrev pub IsCalmFact : Fact → Type 0
IsCalmFact y = IsCalm y.element

abbrev pub AreCalm : List Fact → Type 0
AreCalm = Each IsCalmFact

pub facts_calm : (l : AbsPlace) (e : Option Element) → IsCalmIf e → AreCalm (facts_at l e)
facts_calm l None h = none_each IsCalmFact
facts_calm l (Some e) h = one_each IsCalmFact (fact_at l e) h

-- ---- what is made of an element

pub reached_calm : (owned : Bool) (ms : List ℕ) (e : Element) → IsCalmIf (reached owned ms e)
reached_calm owned ms element.Null = tt
reached_calm owned ms (element.Invalid c) = tt
reached_calm owned ms (element.Moved c) = tt
reached_calm owned ms element.Own = tt
reached_calm owned ms element.Static = tt
reached_calm owned ms (element.At a) = tt

pub position_calm : (ms : List ℕ) (e : Element) → IsCalmIf (position_in ms e)
position_calm ms element.Null = tt
position_calm ms (element.Invalid c) = tt
position_calm ms (element.Moved c) = tt
position_calm ms element.Own = tt
position_calm ms element.Static = tt
position_calm ms (element.At a) = tt

pub gotten_calm : (u : AbsPlace) (e : Element) → IsCalmIf (gotten u e)
gotten_calm u element.Null = tt
gotten_calm u (element.Invalid c) = tt
gotten_calm u (element.Moved c) = tt
gotten_calm u element.Own = tt
gotten_calm u element.Static = tt
gotten_calm u (element.At a) = tt

pub over_calm : (e : Element) → IsCalmIf (given_over e)
over_calm element.Null = tt
over_calm (element.Invalid c) = tt
over_calm (element.Moved c) = tt
over_calm element.Own = tt
over_calm element.Static = tt
over_calm (element.At a) = tt

pub named_calm : (owned : Bool) (o : Operand) → IsCalmIf (named_in owned o)
named_calm owned (named.Name l) = tt
named_calm owned (named.Through p ms) = tt

owners_calm : (t : Ty) (e : Element) → Contains (owner_elements t) e → IsCalm e
owners_calm (ty.Unique target) e has = elim (cons_cases element.Own (element.Null ∷ []) e has) [
  | inl is ↦ subst IsCalm is tt
  | inr later ↦ elim (cons_cases element.Null [] e later) [ inl is ↦ subst IsCalm is tt | inr none ↦ absurd (none_in_empty e none) ]
]
owners_calm ty.Text e has = elim (cons_cases element.Own [] e has) [ inl is ↦ subst IsCalm is tt | inr none ↦ absurd (none_in_empty e none) ]
owners_calm (ty.Vector item) e has = elim (cons_cases element.Own [] e has) [ inl is ↦ subst IsCalm is tt | inr none ↦ absurd (none_in_empty e none) ]
owners_calm _ e has = absurd (none_in_empty e has)

-- ---- at the entry

input_calm : (types : Types) (nonnull : Bool) (i : Input) → AreCalm (input_facts types nonnull i)
input_calm types nonnull i =
    more_each IsCalmFact (fact_at i.pointer (element.At (root_place i.root))) (cond (may_be_null types nonnull i) (fact_at i.pointer element.Null ∷ []) []) tt
    (if_each IsCalmFact (may_be_null types nonnull i) (fact_at i.pointer element.Null ∷ []) (one_each IsCalmFact (fact_at i.pointer element.Null) tt))

owner_calm : (types : Types) (id : TyId) (l : AbsPlace) → AreCalm (owner_facts types id l)
owner_calm types id l = mapped_each IsCalmFact (fact_at l) (owner_elements (ty_if types (members_type types (Some id) (path l)))) (λ e has. owners_calm (ty_if types (members_type types (Some id) (path l))) e has)

parameter_calm : (types : Types) (n q : ℕ) (l : Local) → AreCalm (parameter_facts types n q l)
parameter_calm types n q l =
    both_each IsCalmFact (flat_map (input_facts types l.nonnull) (local_inputs types n q l)) (if nat_lt q n then flat_map (owner_facts types (shape types n q l)) (local_locations types n q l) else [])
    (all_each IsCalmFact (input_facts types l.nonnull) (local_inputs types n q l) (λ i. input_calm types l.nonnull i)) (owners (nat_lt q n))
  where
    owners : (b : Bool) → AreCalm (if b then flat_map (owner_facts types (shape types n q l)) (local_locations types n q l) else [])
    owners true = all_each IsCalmFact (owner_facts types (shape types n q l)) (local_locations types n q l) (λ a. owner_calm types (shape types n q l) a)
    owners false = none_each IsCalmFact

pub entry_calm : (types : Types) (n q : ℕ) (ls : List Local) → AreCalm (entry_facts_from types n q ls)
entry_calm types n q [] = none_each IsCalmFact
entry_calm types n q (l ∷ ls) = both_each IsCalmFact (parameter_facts types n q l) (entry_facts_from types n (q + 1) ls) (parameter_calm types n q l) (entry_calm types n (q + 1) ls)

-- ---- what the rules make

pub born_calm : (place : Place) (y : ℕ) (form : Form) (t : Ty) → IsCalmIf (born place y form t)
born_calm place y form ty.View = tt
born_calm place y form (ty.Span target constant) = tt
born_calm place y form (ty.Iterator target constant) = tt
born_calm place y form.Plain (ty.Raw target constant) = tt
born_calm place y form.Zero (ty.Raw target constant) = tt
born_calm place y form.Plain (ty.Reference target constant) = tt
born_calm place y form.Zero (ty.Reference target constant) = tt
born_calm place y form (ty.Unique target) = tt
born_calm place y form ty.Text = tt
born_calm place y form (ty.Vector item) = tt
born_calm place y form _ = tt

pub target_calm : (s : Source) → IsCalmIf (named_target s)
target_calm named.Null = tt
target_calm (named.Text n) = tt
target_calm named.Empty = tt
target_calm (named.Place o) = named_calm false o
target_calm (named.Whole o) = named_calm true o
target_calm (named.Get u) = tt

pub made_calm : (m : Made) → IsCalm (made_element m)
made_calm made.Null = tt
made_calm made.Zero = tt
made_calm (made.Of y) = tt

module _ (types : Types) (f : Function) (place : Place) where
  pub live_calm : (y : ℕ) (form : Form) → AreCalm (flat_map (born_facts types f place y form) (locations_of_local types f y))
  live_calm y form =
      all_each IsCalmFact (born_facts types f place y form) (locations_of_local types f y)
      (λ l. facts_calm l (born place y form (ty_if types (members_type types (own_type (slice_get f.locals y)) (path l)))) (born_calm place y form (ty_if types (members_type types (own_type (slice_get f.locals y)) (path l)))))

  pub whole_calm : (o : Operand) → AreCalm (whole_facts types f o)
  whole_calm (named.Name l) = if_each IsCalmFact (is_variable_place types f (located l)) (fact_at (located l) element.Own ∷ []) (one_each IsCalmFact (fact_at (located l) element.Own) tt)
  whole_calm (named.Through p ms) = none_each IsCalmFact

  pub position_none_calm : (o : Operand) (c : Change) → AreCalm (named_position o c)
  position_none_calm o (Erase at into) = facts_calm (located into) (named_in true o) (named_calm true o)
  position_none_calm o _ = none_each IsCalmFact

  module _ (a : Fact) where
    pub killed_calm : (ks : KillPair) (i : Step) → AreCalm (killed_facts ks i a)
    killed_calm ks i = both_each IsCalmFact (killed_fact ks.first i a) (killed_fact ks.second i a) (one ks.first) (one ks.second)
      where
        one : (k : Option Kill) → AreCalm (killed_fact k i a)
        one None = none_each IsCalmFact
        one (Some k) = if_each IsCalmFact (points_under k.owner a.element && not (writes i a.location)) (fact_at a.location (element.Invalid k.cause) ∷ []) (one_each IsCalmFact (fact_at a.location (element.Invalid k.cause)) tt)

    pub ended_calm : (xs : List ℕ) → AreCalm (ended_facts f place xs a)
    ended_calm xs = dropped (is_rooted_among xs a.location)
      where
        by_root : (r : Root) → AreCalm (ended_root f place xs a.location r)
        by_root (root.Local y) = if_each IsCalmFact (list_any (λ z. nat_eq z y) xs) (invalid_facts a.location (causes_of_end f place y)) (mapped_each IsCalmFact (λ c. fact_at a.location (element.Invalid c)) (causes_of_end f place y) (λ c has. tt))
        by_root (root.Input q member) = none_each IsCalmFact

        by_element : (e : Element) → AreCalm (ended_element f place xs a.location e)
        by_element element.Null = none_each IsCalmFact
        by_element (element.Invalid c) = none_each IsCalmFact
        by_element (element.Moved c) = none_each IsCalmFact
        by_element element.Own = none_each IsCalmFact
        by_element element.Static = none_each IsCalmFact
        by_element (element.At b) = by_root b.root

        dropped : (b : Bool) → AreCalm (cond b [] (ended_element f place xs a.location a.element))
        dropped true = none_each IsCalmFact
        dropped false = by_element a.element

    pub through_calm : (p : Location) (owned : Bool) (o : Operand) → AreCalm (reached_from p owned o a)
    through_calm p owned (named.Name l) = none_each IsCalmFact
    through_calm p owned (named.Through q ms) = if_each IsCalmFact (is_location q a.location) (facts_at (located p) (reached owned ms a.element)) (facts_calm (located p) (reached owned ms a.element) (reached_calm owned ms a.element))

    pub aimed_calm : (p : Location) (s : Source) → AreCalm (aimed_from p s a)
    aimed_calm p (named.Place o) = through_calm p false o
    aimed_calm p (named.Whole o) = through_calm p true o
    aimed_calm p (named.Get u) = if_each IsCalmFact (is_location u a.location) (facts_at (located p) (gotten (located u) a.element)) (facts_calm (located p) (gotten (located u) a.element) (gotten_calm (located u) a.element))
    aimed_calm p named.Null = none_each IsCalmFact
    aimed_calm p (named.Text n) = none_each IsCalmFact
    aimed_calm p named.Empty = none_each IsCalmFact

    pub moved_calm : (to : Operand) (y : ℕ) → AreCalm (moved_facts types f to y a)
    moved_calm (named.Name to) y = if_each IsCalmFact (is_location (whole y) a.location && is_unique (ty_if types (location_type types f to))) (facts_at (located to) (given_over a.element)) (facts_calm (located to) (given_over a.element) (over_calm a.element))
    moved_calm (named.Through p ms) y = none_each IsCalmFact

    pub position_one_calm : (o : Operand) (c : Change) → AreCalm (position_facts o c a)
    position_one_calm (named.Name l) (Erase at into) = none_each IsCalmFact
    position_one_calm (named.Through q ms) (Erase at into) = if_each IsCalmFact (is_location q a.location) (facts_at (located into) (position_in ms a.element)) (facts_calm (located into) (position_in ms a.element) (position_calm ms a.element))
    position_one_calm o _ = none_each IsCalmFact

    -- .. of two
    pub through_two_calm : (i : Step) (o : Operand) (b : Fact) → AreCalm (killed_through place i o a b)
    through_two_calm i (named.Name l) b = none_each IsCalmFact
    through_two_calm i (named.Through p ms) b = if_each IsCalmFact (is_location p a.location) (killed_under place i ms a.element b) (by_element a.element)
      where
        by_element : (e : Element) → AreCalm (killed_under place i ms e b)
        by_element (element.At t) = if_each IsCalmFact (points_under (members_place t ms) b.element && not (writes i b.location)) (fact_at b.location (element.Invalid (owner_changed place)) ∷ []) (one_each IsCalmFact (fact_at b.location (element.Invalid (owner_changed place))) tt)
        by_element element.Null = none_each IsCalmFact
        by_element (element.Invalid c) = none_each IsCalmFact
        by_element (element.Moved c) = none_each IsCalmFact
        by_element element.Own = none_each IsCalmFact
        by_element element.Static = none_each IsCalmFact

-- ---- calls

module _ (types : Types) where
  fixed_calm : (sig : Signature) (t : Ty) (e : Element) → Contains (fixed_elements types sig t) e → IsCalm e
  fixed_calm sig t e has = elim (Contains-append_cases (owner_elements t) (cond (is_pointer t) (pointer_elements types sig t) []) e has) [
    | inl owner ↦ owners_calm t e owner
    | inr pointer ↦ pointers (is_pointer t) pointer
  ]
    where
      one : (b : Bool) (z : Element) → IsCalm z → Contains (element_if b z) e → IsCalm e
      one true z calm h = elim (cons_cases z [] e h) [ inl is ↦ subst IsCalm is calm | inr none ↦ absurd (none_in_empty e none) ]
      one false z calm h = absurd (none_in_empty e h)

      pointers : (b : Bool) → Contains (cond b (pointer_elements types sig t) []) e → IsCalm e
      pointers true h = elim (Contains-append_cases (element_if (promises_null sig t) element.Null) (element_if (promises_static types sig t) element.Static) e h) [
        | inl null ↦ one (promises_null sig t) element.Null tt null
        | inr static ↦ one (promises_static types sig t) element.Static tt static
      ]
      pointers false h = absurd (none_in_empty e h)

  pub called_none_calm : (sig : Option Signature) (target : Option Location) → AreCalm (called_none types sig target)
  called_none_calm None target = none_each IsCalmFact
  called_none_calm (Some sig) None = none_each IsCalmFact
  called_none_calm (Some sig) (Some l) =
      all_each IsCalmFact (fixed_facts types sig (located l)) (result_locations types sig)
      (λ r. mapped_each IsCalmFact (fact_at (result_at (located l) r)) (fixed_elements types sig (result_type types sig r)) (λ e has. fixed_calm sig (result_type types sig r) e has))

  passed_calm : (sig : Signature) (target : AbsPlace) (i : Input) (e : Element) → AreCalm (passed_element types sig target i e)
  passed_calm sig target i (element.At a) =
      all_each IsCalmFact (passed_facts types sig i target a) (result_locations types sig) (λ r. mapped_each IsCalmFact (passed_fact target a r) (promised_behind types sig (result_type types sig r) i) (λ p has. tt))
  passed_calm sig target i _ = none_each IsCalmFact

  pub called_one_calm : (sig : Option Signature) (xs : List Argument) (target : Option Location) (a : Fact) → AreCalm (called_one types sig xs target a)
  called_one_calm None xs target a = none_each IsCalmFact
  called_one_calm (Some sig) xs None a = none_each IsCalmFact
  called_one_calm (Some sig) xs (Some l) a =
      all_each IsCalmFact (passed_for types sig xs (located l) a) (inputs_of_signature types sig)
      (λ i. if_each IsCalmFact (is_argument_of xs i a.location) (passed_element types sig (located l) i a.element) (passed_calm sig (located l) i a.element))

  pub called_two_calm : (place : Place) (g : ℕ) (sig : Option Signature) (xs : List Argument) (target : Option Location) (a b : Fact) → AreCalm (called_two types place g sig xs target a b)
  called_two_calm place g None xs target a b = none_each IsCalmFact
  called_two_calm place g (Some sig) xs target a b = if_each IsCalmFact (is_mutating_argument types sig xs a.location) (killed_by_call place g target a.element b) (by_element a.element)
    where
      by_element : (e : Element) → AreCalm (killed_by_call place g target e b)
      by_element (element.At t) = if_each IsCalmFact (points_under t b.element && not (is_in_target target b.location)) (fact_at b.location (element.Invalid (called place g)) ∷ []) (one_each IsCalmFact (fact_at b.location (element.Invalid (called place g))) tt)
      by_element _ = none_each IsCalmFact
