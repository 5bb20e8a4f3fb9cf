-- What an instruction makes of facts that don't point into a local that is given over doesn't point into it either: nothing aims there, and what is
-- handed on keeps the roots of its places.
use Rattle.std.proofs.Common.{◌≡◌, ℕ, Bool, true, false, ◌&&◌, not, List, [], ◌∷◌, ◌++◌, Option, Some, None, sym, ap, ◌∙◌}
use Rattle.std.specs.Prelude.{cond, if◌then◌else◌, nat_eq, slice_get}
use Rattle.std.specs.List.{list_any}
use Rattle.std.proofs.lemmas.Bool.{false≢true}
use Rattle.life_types.specs.Trees.{holds_owner}
use Rattle.life_types.specs.TypeTests.{is_pointer, is_unique}
use Rattle.life_types.specs.Types.{Types}
use Rattle.life_types.specs.declared.place.Place.{Place}
use Rattle.life_types.specs.declared.ty.Ty.{Ty}
use Rattle.life_types.specs.declared.ty.Ty.TheVariants as ty
use Rattle.life_core.specs.declared.instr.Form.{Form}
use Rattle.life_core.specs.declared.instr.Form.TheVariants as form
use Rattle.life_core.specs.declared.instr.Made.{Made}
use Rattle.life_core.specs.declared.instr.Made.TheVariants as made
use Rattle.life_core.specs.Function.{Function}
use Rattle.life_core.specs.Operands.{Base, Location, Operand, Source, whole}
use Rattle.life_core.specs.Operands as named
use Rattle.life_core.specs.Step.{Advance, Aim, Call, Change, Changes, Copy, Cursor, Cut, End, Erase, Live, Make, Move, Repoint, Step}
use Rattle.life_core.specs.Step as step
use Rattle.life_pset.specs.Elements.{causes_of_end, local_place, moved, owner_changed}
use Rattle.life_pset.specs.Places.{is_within, members_place, path}
use Rattle.life_pset.specs.Shapes.{is_variable_place, location_type, members_type, operand_type, place_type, tree_if, ty_if}
use Rattle.life_pset.specs.declared.element.Element.{Element}
use Rattle.life_pset.specs.declared.element.Element.TheVariants as element
use Rattle.life_pset.specs.declared.element.Fact.{Fact}
use Rattle.life_pset.specs.declared.element.Root.{Root}
use Rattle.life_pset.specs.declared.element.Root.TheVariants as root
use Rattle.life_contract.specs.Located.{is_location, located}
use Rattle.life_contract.specs.Signatures.{Signature}
use Rattle.life_proper.specs.GivenOver.{is_kept, is_kept_place, keeps_given}
use Rattle.life_rules.specs.Carrying.{after_kill, aimed_from, born, born_facts, copied_facts, copied_location, drops, element_from, ended_element, ended_facts, ended_root, from_none, from_one, from_two, invalid_facts, killed_fact, killed_facts, killed_through, killed_under, kills, locations_of_local, made_element, makes, moved_facts, named_in, named_position, named_target, own_type, position_facts, reached_from, taken, whole_facts, writes}
use Rattle.life_rules.specs.Matching.{fact_at, facts_at, given_over, gotten, is_rooted_among, part_of, points_under, position_in, reached, unless}
use Rattle.life_rules.specs.declared.kill.Kill.{Kill}
use Rattle.life_cover.proofs.Elsewhere.{AreElsewhere, IsElsewhere, IsElsewhereIf, both_elsewhere, each_elsewhere, facts_elsewhere, if_elsewhere, kill_elsewhere, mapped_elsewhere, members_same, more_elsewhere, none_elsewhere, one_elsewhere, over_elsewhere, part_same, position_elsewhere, reached_elsewhere, unless_elsewhere}
use Rattle.life_cover.proofs.CalledElsewhere.{called_none_elsewhere, called_one_elsewhere, called_two_elsewhere}

module _ (x : ℕ) (sigs : List Signature) (types : Types) (f : Function) (gone : is_kept types f x ≡ false) (place : Place) where
  -- what is kept is another local
  kept_elsewhere : (y : ℕ) → is_kept types f y ≡ true → root.Local y ≡ root.Local x → ⊥
  kept_elsewhere y kept e = false≢true (sym gone ∙ ap (is_kept types f) (sym (local_same e)) ∙ kept)
    where
      local_same : {a b : ℕ} → root.Local a ≡ root.Local b → a ≡ b
      local_same h = cc

  located_elsewhere : (owned : Bool) (l : Location) → is_kept types f l.local ≡ true → IsElsewhere x (element.At (part_of owned (located l)))
  located_elsewhere owned l kept e = kept_elsewhere l.local kept (sym (part_same owned (located l) ∙ members_same (local_place l.local) l.members) ∙ e)

  named_elsewhere : (owned : Bool) (o : Operand) → is_kept_place types f o ≡ true → IsElsewhereIf x (named_in owned o)
  named_elsewhere owned (named.Name l) kept = located_elsewhere owned l kept
  named_elsewhere owned (named.Through p ms) kept = tt

  born_elsewhere : (y : ℕ) (form : Form) (t : Ty) → IsElsewhereIf x (born place y form t)
  born_elsewhere y form ty.View = tt
  born_elsewhere y form (ty.Span target constant) = tt
  born_elsewhere y form (ty.Iterator target constant) = tt
  born_elsewhere y form.Plain (ty.Raw target constant) = tt
  born_elsewhere y form.Zero (ty.Raw target constant) = tt
  born_elsewhere y form.Plain (ty.Reference target constant) = tt
  born_elsewhere y form.Zero (ty.Reference target constant) = tt
  born_elsewhere y form (ty.Unique target) = tt
  born_elsewhere y form ty.Text = tt
  born_elsewhere y form (ty.Vector item) = tt
  born_elsewhere y form _ = tt

  whole_elsewhere : (o : Operand) → AreElsewhere x (whole_facts types f o)
  whole_elsewhere (named.Name l) = if_elsewhere x (is_variable_place types f (located l)) (fact_at (located l) element.Own ∷ []) (one_elsewhere x (located l) element.Own tt)
  whole_elsewhere (named.Through p ms) = none_elsewhere x

  aimed_elsewhere : (p : Location) (s : Source) → keeps_given types f (Aim p s) ≡ true → IsElsewhereIf x (named_target s)
  aimed_elsewhere p named.Null kept = tt
  aimed_elsewhere p (named.Text n) kept = tt
  aimed_elsewhere p named.Empty kept = tt
  aimed_elsewhere p (named.Place o) kept = named_elsewhere false o kept
  aimed_elsewhere p (named.Whole o) kept = named_elsewhere true o kept
  aimed_elsewhere p (named.Get u) kept = tt

  made_elsewhere : (m : Made) → IsElsewhere x (made_element m)
  made_elsewhere made.Null = tt
  made_elsewhere made.Zero = tt
  made_elsewhere (made.Of y) = tt

  -- of no fact
  pub from_none_elsewhere : (i : Step) → keeps_given types f i ≡ true → AreElsewhere x (from_none sigs types f place i)
  from_none_elsewhere (Live y form) kept =
      each_elsewhere x (born_facts types f place y form) (locations_of_local types f y)
      (λ l has. facts_elsewhere x l (born place y form (ty_if types (members_type types (own_type (slice_get f.locals y)) (path l)))) (born_elsewhere y form (ty_if types (members_type types (own_type (slice_get f.locals y)) (path l)))))
  from_none_elsewhere (Copy to from) kept = whole_elsewhere to
  from_none_elsewhere (Move to y) kept = more_elsewhere x (fact_at (local_place y) (element.Moved (moved place y))) (whole_facts types f to) tt (whole_elsewhere to)
  from_none_elsewhere (Aim p s) kept = facts_elsewhere x (located p) (named_target s) (aimed_elsewhere p s kept)
  from_none_elsewhere (step.Element p (named.Owner o) which) kept = facts_elsewhere x (located p) (named_in true o) (named_elsewhere true o kept)
  from_none_elsewhere (step.Element p (named.Pointer l) which) kept = none_elsewhere x
  from_none_elsewhere (Cursor p (named.Owner o) end) kept = facts_elsewhere x (located p) (named_in true o) (named_elsewhere true o kept)
  from_none_elsewhere (Cursor p (named.Pointer l) end) kept = none_elsewhere x
  from_none_elsewhere (Changes o change) kept = by_change change kept
    where
      by_change : (c : Change) → keeps_given types f (Changes o c) ≡ true → AreElsewhere x (named_position o c)
      by_change (Erase at into) k = facts_elsewhere x (located into) (named_in true o) (named_elsewhere true o k)
      by_change _ k = none_elsewhere x
  from_none_elsewhere (Make u m) kept = one_elsewhere x (located u) (made_element m) (made_elsewhere m)
  from_none_elsewhere (Call target g xs) kept = called_none_elsewhere x types (slice_get sigs g.0) target
  from_none_elsewhere _ kept = none_elsewhere x

  -- of one
  module _ (a : Fact) (away : IsElsewhere x a.element) where
    killed_elsewhere : (k : Option Kill) (i : Step) → AreElsewhere x (killed_fact k i a)
    killed_elsewhere None i = none_elsewhere x
    killed_elsewhere (Some k) i = if_elsewhere x (points_under k.owner a.element && not (writes i a.location)) (fact_at a.location (element.Invalid k.cause) ∷ []) (one_elsewhere x a.location (element.Invalid k.cause) tt)

    ended_elsewhere : (xs : List ℕ) → AreElsewhere x (ended_facts f place xs a)
    ended_elsewhere xs = dropped (is_rooted_among xs a.location)
      where
        by_root : (r : Root) → AreElsewhere x (ended_root f place xs a.location r)
        by_root (root.Local y) = if_elsewhere x (list_any (λ z. nat_eq z y) xs) (invalid_facts a.location (causes_of_end f place y)) (mapped_elsewhere x (λ c. fact_at a.location (element.Invalid c)) (causes_of_end f place y) (λ c. tt))
        by_root (root.Input q member) = none_elsewhere x

        by_element : (e : Element) → AreElsewhere x (ended_element f place xs a.location e)
        by_element element.Null = none_elsewhere x
        by_element (element.Invalid c) = none_elsewhere x
        by_element (element.Moved c) = none_elsewhere x
        by_element element.Own = none_elsewhere x
        by_element element.Static = none_elsewhere x
        by_element (element.At b) = by_root b.root

        dropped : (b : Bool) → AreElsewhere x (cond b [] (ended_element f place xs a.location a.element))
        dropped true = none_elsewhere x
        dropped false = by_element a.element

    taken_elsewhere : (p q : Location) → AreElsewhere x (taken p q a)
    taken_elsewhere p q = if_elsewhere x (is_location q a.location) (fact_at (located p) a.element ∷ []) (one_elsewhere x (located p) a.element away)

    through_elsewhere : (p : Location) (owned : Bool) (o : Operand) → AreElsewhere x (reached_from p owned o a)
    through_elsewhere p owned (named.Name l) = none_elsewhere x
    through_elsewhere p owned (named.Through q ms) = if_elsewhere x (is_location q a.location) (facts_at (located p) (reached owned ms a.element)) (facts_elsewhere x (located p) (reached owned ms a.element) (reached_elsewhere x owned ms a.element away))

    gotten_elsewhere : (u : Location) → is_kept types f u.local ≡ true → (e : Element) → IsElsewhereIf x (gotten (located u) e)
    gotten_elsewhere u kept element.Null = tt
    gotten_elsewhere u kept (element.Invalid c) = tt
    gotten_elsewhere u kept (element.Moved c) = tt
    gotten_elsewhere u kept element.Own = located_elsewhere true u kept
    gotten_elsewhere u kept element.Static = tt
    gotten_elsewhere u kept (element.At b) = tt

    copied_elsewhere : (k : Option Kill) (to from : Operand) → AreElsewhere x (copied_facts types f k to from a)
    copied_elsewhere k (named.Name to) (named.Name from) =
        if_elsewhere x (is_within (located from) a.location && is_pointer (ty_if types (place_type types f a.location))) (fact_at (copied_location (located from) (located to) a.location) (after_kill k a.element) ∷ [])
        (one_elsewhere x (copied_location (located from) (located to) a.location) (after_kill k a.element) (kill_elsewhere x k a.element away))
    copied_elsewhere k (named.Name to) (named.Through q ms) = none_elsewhere x
    copied_elsewhere k (named.Through q ms) from = none_elsewhere x

    moved_elsewhere : (o : Operand) (y : ℕ) → AreElsewhere x (moved_facts types f o y a)
    moved_elsewhere (named.Name to) y =
        if_elsewhere x (is_location (whole y) a.location && is_unique (ty_if types (location_type types f to))) (facts_at (located to) (given_over a.element)) (facts_elsewhere x (located to) (given_over a.element) (over_elsewhere x a.element))
    moved_elsewhere (named.Through q ms) y = none_elsewhere x

    source_elsewhere : (p : Location) (s : Source) → keeps_given types f (Aim p s) ≡ true → AreElsewhere x (aimed_from p s a)
    source_elsewhere p named.Null kept = none_elsewhere x
    source_elsewhere p (named.Text n) kept = none_elsewhere x
    source_elsewhere p named.Empty kept = none_elsewhere x
    source_elsewhere p (named.Place o) kept = through_elsewhere p false o
    source_elsewhere p (named.Whole o) kept = through_elsewhere p true o
    source_elsewhere p (named.Get u) kept = if_elsewhere x (is_location u a.location) (facts_at (located p) (gotten (located u) a.element)) (facts_elsewhere x (located p) (gotten (located u) a.element) (gotten_elsewhere u kept a.element))

    base_elsewhere : (p : Location) (b : Base) → AreElsewhere x (element_from p b a)
    base_elsewhere p (named.Owner o) = through_elsewhere p true o
    base_elsewhere p (named.Pointer q) = taken_elsewhere p q

    change_elsewhere : (o : Operand) (c : Change) → AreElsewhere x (position_facts o c a)
    change_elsewhere (named.Name l) (Erase at into) = none_elsewhere x
    change_elsewhere (named.Through q ms) (Erase at into) = if_elsewhere x (is_location q a.location) (facts_at (located into) (position_in ms a.element)) (facts_elsewhere x (located into) (position_in ms a.element) (position_elsewhere x ms a.element away))
    change_elsewhere o _ = none_elsewhere x

    makes_elsewhere : (i : Step) → keeps_given types f i ≡ true → AreElsewhere x (makes sigs types f place i a)
    makes_elsewhere (End xs) kept = ended_elsewhere xs
    makes_elsewhere (Copy to from) kept = copied_elsewhere (kills types f place (Copy to from)).first to from
    makes_elsewhere (Move to y) kept = moved_elsewhere to y
    makes_elsewhere (Aim p s) kept = source_elsewhere p s kept
    makes_elsewhere (Repoint p q) kept = taken_elsewhere p q
    makes_elsewhere (Advance p q r way) kept = taken_elsewhere p q
    makes_elsewhere (Cut p q r count) kept = taken_elsewhere p q
    makes_elsewhere (step.Element p b which) kept = base_elsewhere p b
    makes_elsewhere (Cursor p b end) kept = base_elsewhere p b
    makes_elsewhere (Changes o c) kept = change_elsewhere o c
    makes_elsewhere (Call target g xs) kept = called_one_elsewhere x types (slice_get sigs g.0) xs target a away
    makes_elsewhere _ kept = none_elsewhere x

    pub from_one_elsewhere : (i : Step) → keeps_given types f i ≡ true → AreElsewhere x (from_one sigs types f place i a)
    from_one_elsewhere i kept =
        both_elsewhere x (unless (drops types f place i a) a) (killed_facts (kills types f place i) i a ++ makes sigs types f place i a) (unless_elsewhere x (drops types f place i a) a away)
        (both_elsewhere x (killed_facts (kills types f place i) i a) (makes sigs types f place i a)
        (both_elsewhere x (killed_fact (kills types f place i).first i a) (killed_fact (kills types f place i).second i a) (killed_elsewhere (kills types f place i).first i) (killed_elsewhere (kills types f place i).second i))
        (makes_elsewhere i kept))

  -- of two
  under_elsewhere : (i : Step) (ms : List ℕ) (e : Element) (b : Fact) → AreElsewhere x (killed_under place i ms e b)
  under_elsewhere i ms (element.At a) b = if_elsewhere x (points_under (members_place a ms) b.element && not (writes i b.location)) (fact_at b.location (element.Invalid (owner_changed place)) ∷ []) (one_elsewhere x b.location (element.Invalid (owner_changed place)) tt)
  under_elsewhere i ms _ b = none_elsewhere x

  two_elsewhere : (i : Step) (o : Operand) (a b : Fact) → AreElsewhere x (killed_through place i o a b)
  two_elsewhere i (named.Name l) a b = none_elsewhere x
  two_elsewhere i (named.Through p ms) a b = if_elsewhere x (is_location p a.location) (killed_under place i ms a.element b) (under_elsewhere i ms a.element b)

  pub from_two_elsewhere : (i : Step) → (a b : Fact) → AreElsewhere x (from_two sigs types f place i a b)
  from_two_elsewhere (Copy to from) a b = held (holds_owner (tree_if types (operand_type types f to)))
    where
      held : (t : Bool) → AreElsewhere x (if t then killed_through place (Copy to from) to a b else [])
      held true = two_elsewhere (Copy to from) to a b
      held false = none_elsewhere x
  from_two_elsewhere (Move to y) a b = past (points_under (local_place y) b.element)
    where
      past : (t : Bool) → AreElsewhere x (if t then [] else killed_through place (Move to y) to a b)
      past true = none_elsewhere x
      past false = two_elsewhere (Move to y) to a b
  from_two_elsewhere (Changes o c) a b = two_elsewhere (Changes o c) o a b
  from_two_elsewhere (Call target g xs) a b = called_two_elsewhere x types place g.0 (slice_get sigs g.0) xs target a b
  from_two_elsewhere _ a b = none_elsewhere x
