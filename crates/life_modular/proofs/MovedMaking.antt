-- What an instruction writes, kills and makes, as far as that hangs on no type: where it stands elsewhere, it makes the same, moved.
use Rattle.std.proofs.Common.{◌≡◌, ◌∙◌, ◌&&◌, ◌||◌, ℕ, Bool, true, false, cond, if◌then◌else◌, not, List, [], ◌∷◌, Option, Some, None, map, option_map, refl, ap, ap₂}
use Rattle.life_types.specs.declared.place.Place.{Place}
use Rattle.life_types.specs.declared.ty.Ty.{Ty}
use Rattle.life_types.specs.declared.ty.Ty.TheVariants as ty
use Rattle.life_core.specs.Operands.{Base, Location, Operand, Source, whole}
use Rattle.life_core.specs.Operands as named
use Rattle.life_core.specs.Step.{Step, Live, End, Copy, Move, Aim, Repoint, Advance, Cut, Cursor, Changes, Make, Call, Change, Erase, Test}
use Rattle.life_core.specs.Step as step
use Rattle.life_core.specs.declared.instr.Form.{Form}
use Rattle.life_core.specs.declared.instr.Form.TheVariants as form
use Rattle.life_core.specs.declared.instr.Made.{Made}
use Rattle.life_core.specs.declared.instr.Made.TheVariants as made
use Rattle.life_pset.specs.Elements.{owner_changed}
use Rattle.life_pset.specs.Places.{members_place}
use Rattle.life_pset.specs.declared.element.AbsPlace.{AbsPlace}
use Rattle.life_pset.specs.declared.element.Cause.{Cause}
use Rattle.life_pset.specs.declared.element.Element.{Element}
use Rattle.life_pset.specs.declared.element.Element.TheVariants as element
use Rattle.life_pset.specs.declared.element.Fact.{Fact}
use Rattle.life_contract.specs.Located.{is_location, located}
use Rattle.life_rules.specs.Carrying.{after_kill, aimed_from, born, element_from, invalid_facts, is_killed, is_killed_by, killed_fact, killed_facts, killed_through, killed_under, made_element, named_element, named_in, named_kill, named_position, named_target, one_kill, position_facts, position_from, reached_from, stops_at, taken, writes}
use Rattle.life_rules.specs.Matching.{fact_at, facts_at, facts_if, given_if, gotten, points_under, position_in, reached}
use Rattle.life_rules.specs.declared.kill.Kill.{Kill}
use Rattle.life_rules.specs.declared.kill.KillPair.{KillPair}
use Rattle.life_modular.specs.Renaming.{Renaming, moved_cause, moved_element, moved_fact, moved_source, moved_step}
use Rattle.life_modular.proofs.MovedLists.{append_moved, cond_moved, map_moved}
use Rattle.life_modular.proofs.MovedMatching.{facts_if_moved, given_if_moved, gotten_moved, is_held_moved, is_null_moved, points_under_moved, position_in_moved, reached_moved}

-- ---- what an instruction changes by its name

abbrev pub moved_kill : Renaming → Kill → Kill
moved_kill r k = record { owner = k.owner; cause = moved_cause r k.cause }

abbrev pub moved_kills : Renaming → KillPair → KillPair
moved_kills r ks = record { first = option_map (moved_kill r) ks.first; second = option_map (moved_kill r) ks.second }

module _ (r : Renaming) where
  -- ---- what it writes

  pub writes_moved : (i : Step) (l : AbsPlace) → writes (moved_step r i) l ≡ writes i l
  writes_moved (Aim p s) l = refl
  writes_moved _ l = refl

  -- ---- what it kills

  is_killed_by_moved : (k : Option Kill) (e : Element) → is_killed_by (option_map (moved_kill r) k) (moved_element r e) ≡ is_killed_by k e
  is_killed_by_moved None e = refl
  is_killed_by_moved (Some k) e = points_under_moved r k.owner e

  pub is_killed_moved : (ks : KillPair) (e : Element) → is_killed (moved_kills r ks) (moved_element r e) ≡ is_killed ks e
  is_killed_moved ks e = ap₂ (λ (one other : Bool). one || other) (is_killed_by_moved ks.first e) (is_killed_by_moved ks.second e)

  invalid_unless_moved : (under : Bool) (c : Cause) (e : Element)
      → (if under then element.Invalid (moved_cause r c) else moved_element r e) ≡ moved_element r (if under then element.Invalid c else e)
  invalid_unless_moved true c e = refl
  invalid_unless_moved false c e = refl

  pub after_kill_moved : (k : Option Kill) (e : Element) → after_kill (option_map (moved_kill r) k) (moved_element r e) ≡ moved_element r (after_kill k e)
  after_kill_moved None e = refl
  after_kill_moved (Some k) e =
      ap (λ (under : Bool). if under then element.Invalid (moved_cause r k.cause) else moved_element r e) (points_under_moved r k.owner e)
      ∙ invalid_unless_moved (points_under k.owner e) k.cause e

  killed_fact_moved : (k : Option Kill) (i : Step) (x : Fact) → killed_fact (option_map (moved_kill r) k) (moved_step r i) (moved_fact r x) ≡ map (moved_fact r) (killed_fact k i x)
  killed_fact_moved None i x = refl
  killed_fact_moved (Some k) i x =
      ap₂
      (λ (under written : Bool). given_if (under && not written) (fact_at x.location (element.Invalid (moved_cause r k.cause))))
      (points_under_moved r k.owner x.element) (writes_moved i x.location)
      ∙ given_if_moved r (points_under k.owner x.element && not (writes i x.location)) (fact_at x.location (element.Invalid k.cause))

  pub killed_facts_moved : (ks : KillPair) (i : Step) (x : Fact) → killed_facts (moved_kills r ks) (moved_step r i) (moved_fact r x) ≡ map (moved_fact r) (killed_facts ks i x)
  killed_facts_moved ks i x =
      append_moved (moved_fact r) (killed_fact ks.first i x) (killed_fact ks.second i x) (killed_fact_moved ks.first i x) (killed_fact_moved ks.second i x)

  killed_under_moved : (place : Place) (i : Step) (members : List ℕ) (e : Element) (b : Fact)
      → killed_under (r.place place) (moved_step r i) members (moved_element r e) (moved_fact r b) ≡ map (moved_fact r) (killed_under place i members e b)
  killed_under_moved place i members (element.At a) b =
      ap₂
      (λ (under written : Bool). given_if (under && not written) (fact_at b.location (element.Invalid (owner_changed (r.place place)))))
      (points_under_moved r (members_place a members) b.element) (writes_moved i b.location)
      ∙ given_if_moved r (points_under (members_place a members) b.element && not (writes i b.location)) (fact_at b.location (element.Invalid (owner_changed place)))
  killed_under_moved place i members _ b = refl

  pub killed_through_moved : (place : Place) (i : Step) (o : Operand) (a b : Fact)
      → killed_through (r.place place) (moved_step r i) o (moved_fact r a) (moved_fact r b) ≡ map (moved_fact r) (killed_through place i o a b)
  killed_through_moved place i (named.Name l) a b = refl
  killed_through_moved place i (named.Through p members) a b =
      cond_moved (moved_fact r) (is_location p a.location) (killed_under place i members a.element b) [] (killed_under_moved place i members a.element b) refl

  pub named_kill_moved : (place : Place) (o : Operand) → named_kill (r.place place) o ≡ option_map (moved_kill r) (named_kill place o)
  named_kill_moved place (named.Name l) = refl
  named_kill_moved place (named.Through p members) = refl

  -- .. if this holds
  pub killed_if_moved : (owner : Bool) (place : Place) (o : Operand)
      → (if owner then one_kill (named_kill (r.place place) o) else one_kill None) ≡ moved_kills r (if owner then one_kill (named_kill place o) else one_kill None)
  killed_if_moved true place o = ap one_kill (named_kill_moved place o)
  killed_if_moved false place o = refl

  -- ---- what it makes of no fact

  pub born_moved : (place : Place) (x : ℕ) (form : Form) (t : Ty) → born (r.place place) x form t ≡ option_map (moved_element r) (born place x form t)
  born_moved place x form.Plain (ty.Raw target constant) = refl
  born_moved place x form.Zero (ty.Raw target constant) = refl
  born_moved place x form.Plain (ty.Reference target constant) = refl
  born_moved place x form.Zero (ty.Reference target constant) = refl
  born_moved place x form _ = refl

  named_at_moved : (l : AbsPlace) (owned : Bool) (o : Operand) → facts_at l (named_in owned o) ≡ map (moved_fact r) (facts_at l (named_in owned o))
  named_at_moved l owned (named.Name q) = refl
  named_at_moved l owned (named.Through q members) = refl

  pub named_target_moved : (l : AbsPlace) (s : Source) → facts_at l (named_target (moved_source r s)) ≡ map (moved_fact r) (facts_at l (named_target s))
  named_target_moved l (named.Place o) = named_at_moved l false o
  named_target_moved l (named.Whole o) = named_at_moved l true o
  named_target_moved l _ = refl

  pub named_element_moved : (l : AbsPlace) (b : Base) → facts_at l (named_element b) ≡ map (moved_fact r) (facts_at l (named_element b))
  named_element_moved l (named.Owner o) = named_at_moved l true o
  named_element_moved l (named.Pointer p) = refl

  pub named_position_moved : (o : Operand) (change : Change) → named_position o change ≡ map (moved_fact r) (named_position o change)
  named_position_moved o (Erase at into) = named_at_moved (located into) true o
  named_position_moved o _ = refl

  pub made_moved : (l : AbsPlace) (what : Made) → fact_at l (made_element what) ∷ [] ≡ map (moved_fact r) (fact_at l (made_element what) ∷ [])
  made_moved l made.Null = refl
  made_moved l made.Zero = refl
  made_moved l (made.Of x) = refl

  -- ---- what it makes of one

  pub invalid_facts_moved : (l : AbsPlace) (cs : List Cause) → invalid_facts l (map (moved_cause r) cs) ≡ map (moved_fact r) (invalid_facts l cs)
  invalid_facts_moved l cs =
      map_moved (moved_cause r) (moved_fact r) (λ (c : Cause). fact_at l (element.Invalid c)) (λ (c : Cause). fact_at l (element.Invalid c)) cs (λ c. refl)

  pub taken_moved : (p q : Location) (x : Fact) → taken p q (moved_fact r x) ≡ map (moved_fact r) (taken p q x)
  taken_moved p q x = given_if_moved r (is_location q x.location) (fact_at (located p) x.element)

  reached_from_moved : (p : Location) (owned : Bool) (o : Operand) (x : Fact) → reached_from p owned o (moved_fact r x) ≡ map (moved_fact r) (reached_from p owned o x)
  reached_from_moved p owned (named.Name l) x = refl
  reached_from_moved p owned (named.Through q members) x =
      ap (facts_if (is_location q x.location) (located p)) (reached_moved r owned members x.element)
      ∙ facts_if_moved r (is_location q x.location) (located p) (reached owned members x.element)

  pub aimed_from_moved : (p : Location) (s : Source) (x : Fact) → aimed_from p (moved_source r s) (moved_fact r x) ≡ map (moved_fact r) (aimed_from p s x)
  aimed_from_moved p (named.Place o) x = reached_from_moved p false o x
  aimed_from_moved p (named.Whole o) x = reached_from_moved p true o x
  aimed_from_moved p (named.Get u) x =
      ap (facts_if (is_location u x.location) (located p)) (gotten_moved r (located u) x.element)
      ∙ facts_if_moved r (is_location u x.location) (located p) (gotten (located u) x.element)
  aimed_from_moved p _ x = refl

  pub element_from_moved : (p : Location) (b : Base) (x : Fact) → element_from p b (moved_fact r x) ≡ map (moved_fact r) (element_from p b x)
  element_from_moved p (named.Owner o) x = reached_from_moved p true o x
  element_from_moved p (named.Pointer q) x = taken_moved p q x

  position_from_moved : (p : Location) (o : Operand) (x : Fact) → position_from p o (moved_fact r x) ≡ map (moved_fact r) (position_from p o x)
  position_from_moved p (named.Name l) x = refl
  position_from_moved p (named.Through q members) x =
      ap (facts_if (is_location q x.location) (located p)) (position_in_moved r members x.element)
      ∙ facts_if_moved r (is_location q x.location) (located p) (position_in members x.element)

  pub position_facts_moved : (o : Operand) (change : Change) (x : Fact) → position_facts o change (moved_fact r x) ≡ map (moved_fact r) (position_facts o change x)
  position_facts_moved o (Erase at into) x = position_from_moved into o x
  position_facts_moved o _ x = refl

  -- ---- tests

  pub stops_at_moved : (t : Test) (branch : Option Bool) (x : Fact) → stops_at t branch (moved_fact r x) ≡ stops_at t branch x
  stops_at_moved (step.NonZero n) branch x = refl
  stops_at_moved (step.NotNull p) None x = refl
  stops_at_moved (step.NotNull p) (Some holds) x =
      ap₂ (λ (null held : Bool). is_location p x.location && cond holds null held) (is_null_moved r x.element) (is_held_moved r x.element)
