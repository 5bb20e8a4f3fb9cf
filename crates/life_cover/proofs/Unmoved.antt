-- No derived fact says that a local was moved from which no instruction moves, in a proper function.
use Rattle.std.proofs.Common.{◌≡◌, ◌≢◌, ℕ, Bool, true, false, ◌&&◌, not, List, [], ◌∷◌, ◌++◌, Option, Some, None, refl, sym, ap, subst, ◌∙◌, arith}
use Rattle.std.specs.Prelude.{Contains, cond, if◌then◌else◌, option_map, slice_get}
use Rattle.std.proofs.lemmas.Bool.{and_parts, false≢true}
use Rattle.life_types.specs.Trees.{holds_owner}
use Rattle.life_types.specs.TypeTests.{is_iterator, is_pointer, is_void}
use Rattle.life_types.specs.Types.{Types}
use Rattle.life_types.specs.declared.place.Place.{Place}
use Rattle.life_types.specs.declared.ty.Ty.{Ty}
use Rattle.life_types.specs.declared.ty.Ty.TheVariants as ty
use Rattle.life_types.specs.Pointees.{ty_of}
use Rattle.life_core.specs.declared.stmt.Edge.{Edge}
use Rattle.life_core.specs.declared.stmt.Point.{Point}
use Rattle.life_core.specs.Function.{Function}
use Rattle.life_core.specs.Linked.{Linked, code_of, numbered, spot_of, spot_of_linked}
use Rattle.life_core.specs.Operands.{Location, Operand, whole}
use Rattle.life_core.specs.Operands as named
use Rattle.life_core.specs.Step.{Advance, Aim, Call, Changes, Copy, Cursor, Cut, End, Live, Make, Move, Repoint, Size, Step}
use Rattle.life_core.specs.Step as step
use Rattle.life_core.specs.Tree.{Action, Node, Question, Return, Spot, Stop}
use Rattle.life_core.specs.declared.operand.Which.{Which}
use Rattle.life_core.specs.declared.operand.Which.TheVariants as which
use Rattle.life_pset.specs.Elements.{local_place, moved}
use Rattle.life_pset.specs.Places.{is_within}
use Rattle.life_pset.specs.Shapes.{operand_type, place_type, tree_if, ty_if}
use Rattle.life_pset.specs.declared.element.AbsPlace.{AbsPlace}
use Rattle.life_pset.specs.declared.element.Element.{Element}
use Rattle.life_pset.specs.declared.element.Element.TheVariants as element
use Rattle.life_pset.specs.declared.element.Fact.{Fact}
use Rattle.life_pset.specs.declared.element.Root.TheVariants as root
use Rattle.life_pset.proofs.Numbers.{exact_place}
use Rattle.life_contract.specs.Located.{is_location, located}
use Rattle.life_contract.specs.Signatures.{Signature}
use Rattle.life_proper.specs.OperandTypes.{are_alike, is_owner, is_range, same, seen_element, takes, aims_at, walks}
use Rattle.life_proper.specs.Placed.{object_at, type_at, type_in, type_of, element_of, is_number, is_number_of, type_of_element, result_at}
use Rattle.life_proper.specs.WellFormed.{is_well_formed_node, is_well_formed_step}
use Rattle.life_proper.specs.GivenOver.{all_keep_given, given_spot, is_kept, node_keeps_given, spot_keeps_given}
use Rattle.life_proper.proofs.HeldSorts.{same_is}
use Rattle.life_proper.proofs.SpotTests.{point_tested}
use Rattle.life_rules.specs.Carrying.{Gives, after_kill, copied_facts, copied_location, drops, from_none, from_one, from_two, killed_facts, killed_through, kills, made_element, makes, named_in, node_none, node_one, node_two, none_at, one_at, stops_at, taken, two_at, whole_facts}
use Rattle.life_rules.specs.Deriving.{Derives, along, entry}
use Rattle.life_rules.specs.Matching.{fact_at, points_under, unless}
use Rattle.life_rules.specs.declared.kill.Kill.{Kill}
use Rattle.life_rules.proofs.Giving.{at_head, none_in_empty}
use Rattle.life_store.proofs.CellLemmas.{none_some, some_same}
use Rattle.life_forest.proofs.Slots.{ArePointsFormed}
use Rattle.life_forest.proofs.OneNumber.{also_solid}
use Rattle.life_cover.specs.Lacking.{IsUnmoved}
use Rattle.life_cover.proofs.CalmFacts.{AreCalm, Each, IsCalm, IsCalmFact, aimed_calm, both_each, called_none_calm, called_one_calm, called_two_calm, ended_calm, entry_calm, facts_calm, if_each, killed_calm, live_calm, made_calm, more_each, moved_calm, named_calm, none_each, one_each, position_none_calm, position_one_calm, target_calm, through_calm, through_two_calm, whole_calm}
use Rattle.life_cover.proofs.Edges.{FactsAt}
use Rattle.life_cover.proofs.ExactLocations.{exact_location}
use Rattle.life_cover.proofs.Unnamed.{given_away}

-- of the local no fact says that it was moved from, and of no pointer or member
abbrev IsQuietAt : Types → Function → ℕ → Element → AbsPlace → Type 0
IsQuietAt types f x (element.Moved c) l = (y : ℕ) × (y ≢ x) × (l ≡ local_place y) × (is_pointer (type_at types f y) ≡ false)
IsQuietAt types f x _ l = Unit {0}

abbrev IsQuiet : Types → Function → ℕ → Fact → Type 0
IsQuiet types f x y = IsQuietAt types f x y.element y.location

calm_quiet : (types : Types) (f : Function) (x : ℕ) (facts : List Fact) → AreCalm facts → Each (IsQuiet types f x) facts
calm_quiet types f x facts calm y has = go y.element (calm y has)
  where
    go : (e : Element) → IsCalm e → IsQuietAt types f x e y.location
    go element.Null h = tt
    go (element.Invalid c) h = tt
    go (element.Moved c) h = absurd h
    go element.Own h = tt
    go element.Static h = tt
    go (element.At a) h = tt

-- a vector, a string and a unique_ptr are no pointers
owner_no_pointer : (t : Ty) → is_owner t ≡ true → is_pointer t ≡ false
owner_no_pointer ty.Text e = refl
owner_no_pointer (ty.Vector element) e = refl
owner_no_pointer (ty.Unique target) e = refl
owner_no_pointer _ e = absurd (false≢true e)

and_false : (a b : Bool) → b ≡ false → (a && b) ≡ false
and_false true b e = e
and_false false b e = refl

-- what takes another one's facts is of pointers
takes_pointer : (types : Types) (t u : Ty) → are_alike types t u ≡ true → is_pointer u ≡ true
takes_pointer types (ty.Raw t c) (ty.Raw u d) e = refl
takes_pointer types (ty.Reference t c) (ty.Reference u d) e = refl
takes_pointer types (ty.Iterator t c) (ty.Iterator u d) e = refl
takes_pointer types (ty.Span t c) (ty.Span u d) e = refl
takes_pointer types ty.View ty.View e = refl
takes_pointer types _ _ e = absurd (false≢true e)

seen_pointer : (types : Types) (t : Ty) → is_void (seen_element types t) ≡ false → is_pointer t ≡ true
seen_pointer types ty.View e = refl
seen_pointer types (ty.Span target constant) e = refl
seen_pointer types _ e = absurd (false≢true (sym e))

module _ (types : Types) (sigs : List Signature) (texts : ℕ) (fs : List Function) (f : Function) (x : ℕ) (place : Place) where
  abbrev Quiet : List Fact → Type 0
  Quiet facts = Each (IsQuiet types f x) facts

  -- what is kept, unless it is dropped
  itself_quiet : (b : Bool) (a : Fact) → IsQuiet types f x a → Quiet (unless b a)
  itself_quiet true a h = none_each (IsQuiet types f x)
  itself_quiet false a h = one_each (IsQuiet types f x) a h

  taken_quiet : (p q : Location) → is_pointer (type_in types f q) ≡ true → (a : Fact) → IsQuiet types f x a → Quiet (taken p q a)
  taken_quiet p q pointer a h = go (is_location q a.location) refl
    where
      by_element : (e : Element) → IsQuietAt types f x e a.location → a.location ≡ located q → IsQuietAt types f x e (located p)
      by_element element.Null k is = tt
      by_element (element.Invalid c) k is = tt
      by_element (element.Moved c) k is =
          let here : q ≡ whole k.0 = exact_location (whole k.0) q (omega arith) (sym k.2 ∙ is) in
          absurd (false≢true (sym k.3 ∙ subst (λ (l : Location). is_pointer (type_in types f l) ≡ true) here pointer))
      by_element element.Own k is = tt
      by_element element.Static k is = tt
      by_element (element.At b) k is = tt

      go : (b : Bool) → is_location q a.location ≡ b → Quiet (cond b (fact_at (located p) a.element ∷ []) [])
      go true e = one_each (IsQuiet types f x) (fact_at (located p) a.element) (by_element a.element h (exact_place a.location (located q) e))
      go false e = none_each (IsQuiet types f x)

  copied_quiet : (k : Option Kill) (to from : Operand) (a : Fact) → IsQuiet types f x a → Quiet (copied_facts types f k to from a)
  copied_quiet k (named.Through p ms) from a h = none_each (IsQuiet types f x)
  copied_quiet k (named.Name to) (named.Through p ms) a h = none_each (IsQuiet types f x)
  copied_quiet k (named.Name to) (named.Name from) a h = by_element a.element h
    where
      abbrev_here : Bool
      abbrev_here = is_within (located from) a.location && is_pointer (ty_if types (place_type types f a.location))

      after_calm : (j : Option Kill) (e : Element) → IsCalm e → IsCalm (after_kill j e)
      after_calm None e c = c
      after_calm (Some j) e c = go (points_under j.owner e)
        where
          go : (b : Bool) → IsCalm (if b then element.Invalid j.cause else e)
          go true = tt
          go false = c

      calm : (e : Element) → IsCalm e → Quiet (cond abbrev_here (fact_at (copied_location (located from) (located to) a.location) (after_kill k e) ∷ []) [])
      calm e c = calm_quiet types f x _ (if_each IsCalmFact abbrev_here (fact_at (copied_location (located from) (located to) a.location) (after_kill k e) ∷ []) (one_each IsCalmFact (fact_at (copied_location (located from) (located to) a.location) (after_kill k e)) (after_calm k e c)))

      by_element : (e : Element) → IsQuietAt types f x e a.location → Quiet (cond abbrev_here (fact_at (copied_location (located from) (located to) a.location) (after_kill k e) ∷ []) [])
      by_element element.Null q = calm element.Null tt
      by_element (element.Invalid c) q = calm (element.Invalid c) tt
      by_element (element.Moved c) q =
          subst (λ b. Quiet (cond b (fact_at (copied_location (located from) (located to) a.location) (after_kill k (element.Moved c)) ∷ []) []))
          (sym (and_false (is_within (located from) a.location) (is_pointer (ty_if types (place_type types f a.location))) (ap (λ (l : AbsPlace). is_pointer (ty_if types (place_type types f l))) q.2 ∙ q.3))) (none_each (IsQuiet types f x))
      by_element element.Own q = calm element.Own tt
      by_element element.Static q = calm element.Static tt
      by_element (element.At b) q = calm (element.At b) tt

  -- ---- of an instruction that is well formed, and doesn't move the local

  abbrev pub KeepsOff : Step → Type 0
  KeepsOff i = (to : Operand) (y : ℕ) → i ≡ Move to y → y ≢ x

  none_quiet : (i : Step) → is_well_formed_step types texts fs f i ≡ true → KeepsOff i → Quiet (from_none sigs types f place i)
  none_quiet (Live y form) e off = calm_quiet types f x _ (live_calm types f place y form)
  none_quiet (Copy to from) e off = calm_quiet types f x _ (whole_calm types f place to)
  none_quiet (Move to y) e off =
      let outer = and_parts (is_owner (type_of types f to)) _ e in
      let alike = (and_parts (same (type_of types f to) (type_at types f y)) _ (and_parts (object_at types f y) _ outer.1).1).0 in
      more_each (IsQuiet types f x) (fact_at (local_place y) (element.Moved (moved place y))) (whole_facts types f to)
      (y, off to y refl, refl, ap is_pointer (sym (same_is (type_of types f to) (type_at types f y) alike)) ∙ owner_no_pointer (type_of types f to) outer.0)
      (calm_quiet types f x _ (whole_calm types f place to))
  none_quiet (Aim p s) e off = calm_quiet types f x _ (facts_calm (located p) _ (target_calm s))
  none_quiet (step.Element p (named.Owner o) which) e off = calm_quiet types f x _ (facts_calm (located p) (named_in true o) (named_calm true o))
  none_quiet (step.Element p (named.Pointer l) which) e off = none_each (IsQuiet types f x)
  none_quiet (Cursor p (named.Owner o) end) e off = calm_quiet types f x _ (facts_calm (located p) (named_in true o) (named_calm true o))
  none_quiet (Cursor p (named.Pointer l) end) e off = none_each (IsQuiet types f x)
  none_quiet (Changes o change) e off = calm_quiet types f x _ (position_none_calm types f place o change)
  none_quiet (Make u m) e off = calm_quiet types f x (fact_at (located u) (made_element m) ∷ []) (one_each IsCalmFact (fact_at (located u) (made_element m)) (made_calm m))
  none_quiet (Call target g xs) e off = calm_quiet types f x _ (called_none_calm types _ target)
  none_quiet _ e off = none_each (IsQuiet types f x)

  -- ---- .. of one fact

  -- what is aimed at is something
  aims_solid : (t u : Ty) → aims_at types t u ≡ true → is_void u ≡ false
  aims_solid (ty.Raw target constant) u e = also_solid (ty_of types target) u e
  aims_solid (ty.Reference target constant) u e = also_solid (ty_of types target) u e
  aims_solid _ u e = absurd (false≢true e)

  walks_solid : (t u : Ty) → walks types t u ≡ true → is_void u ≡ false
  walks_solid (ty.Iterator target constant) u e = also_solid (ty_of types target) u e
  walks_solid _ u e = absurd (false≢true e)

  item_pointer : (l : Location) (w : Which) → is_void (type_of_element types f (named.Pointer l) w) ≡ false → is_pointer (type_in types f l) ≡ true
  item_pointer l (which.Index r) e = chosen (is_number_of types f ty.Size r) e
    where
      chosen : (b : Bool) → is_void (if b then seen_element types (type_in types f l) else ty.Void) ≡ false → is_pointer (type_in types f l) ≡ true
      chosen true h = seen_pointer types (type_in types f l) h
      chosen false h = absurd (false≢true (sym h))
  item_pointer l which.First e = seen_pointer types (type_in types f l) e
  item_pointer l which.Last e = seen_pointer types (type_in types f l) e
  item_pointer l which.Target e = absurd (false≢true (sym e))

  makes_quiet : (i : Step) → is_well_formed_step types texts fs f i ≡ true → (a : Fact) → IsQuiet types f x a → Quiet (makes sigs types f place i a)
  makes_quiet (End xs) e a h = calm_quiet types f x _ (ended_calm types f place a xs)
  makes_quiet (Copy to from) e a h = copied_quiet (kills types f place (Copy to from)).first to from a h
  makes_quiet (Move to y) e a h = calm_quiet types f x _ (moved_calm types f place a to y)
  makes_quiet (Aim p s) e a h = calm_quiet types f x _ (aimed_calm types f place a p s)
  makes_quiet (Repoint p q) e a h = taken_quiet p q (takes_pointer types (type_in types f p) (type_in types f q) (and_parts (are_alike types (type_in types f p) (type_in types f q)) _ e).0) a h
  makes_quiet (Advance p q r direction) e a h =
      let taken_from = (and_parts (takes types (type_in types f p) (type_in types f q)) (is_number types f r) (and_parts (is_iterator (type_in types f p)) _ e).1).0 in
      taken_quiet p q (takes_pointer types (type_in types f p) (type_in types f q) (and_parts (are_alike types (type_in types f p) (type_in types f q)) _ taken_from).0) a h
  makes_quiet (Cut p q r count) e a h =
      let taken_from = (and_parts (takes types (type_in types f p) (type_in types f q)) _ (and_parts (is_range (type_in types f p)) _ e).1).0 in
      taken_quiet p q (takes_pointer types (type_in types f p) (type_in types f q) (and_parts (are_alike types (type_in types f p) (type_in types f q)) _ taken_from).0) a h
  makes_quiet (step.Element p (named.Owner o) w) e a h = calm_quiet types f x _ (through_calm types f place a p true o)
  makes_quiet (step.Element p (named.Pointer q) w) e a h =
      taken_quiet p q (item_pointer q w (aims_solid (type_in types f p) (type_of_element types f (named.Pointer q) w) (and_parts (aims_at types (type_in types f p) (type_of_element types f (named.Pointer q) w)) _ e).0)) a h
  makes_quiet (Cursor p (named.Owner o) end) e a h = calm_quiet types f x _ (through_calm types f place a p true o)
  makes_quiet (Cursor p (named.Pointer q) end) e a h =
      taken_quiet p q (seen_pointer types (type_in types f q) (walks_solid (type_in types f p) (element_of types f (named.Pointer q)) (and_parts (walks types (type_in types f p) (element_of types f (named.Pointer q))) _ e).0)) a h
  makes_quiet (Changes o change) e a h = calm_quiet types f x _ (position_one_calm types f place a o change)
  makes_quiet (Call target g xs) e a h = calm_quiet types f x _ (called_one_calm types _ xs target a)
  makes_quiet _ e a h = none_each (IsQuiet types f x)

  one_quiet : (i : Step) → is_well_formed_step types texts fs f i ≡ true → (a : Fact) → IsQuiet types f x a → Quiet (from_one sigs types f place i a)
  one_quiet i e a h =
      both_each (IsQuiet types f x) (unless (drops types f place i a) a) (killed_facts (kills types f place i) i a ++ makes sigs types f place i a) (itself_quiet (drops types f place i a) a h)
      (both_each (IsQuiet types f x) (killed_facts (kills types f place i) i a) (makes sigs types f place i a) (calm_quiet types f x _ (killed_calm types f place a (kills types f place i) i)) (makes_quiet i e a h))

  -- ---- .. and of two

  two_calm : (i : Step) (a b : Fact) → AreCalm (from_two sigs types f place i a b)
  two_calm (Copy to from) a b = owns (holds_owner (tree_if types (operand_type types f to)))
    where
      owns : (c : Bool) → AreCalm (if c then killed_through place (Copy to from) to a b else [])
      owns true = through_two_calm types f place a (Copy to from) to b
      owns false = none_each IsCalmFact
  two_calm (Move to y) a b = under_y (points_under (local_place y) b.element)
    where
      under_y : (c : Bool) → AreCalm (if c then [] else killed_through place (Move to y) to a b)
      under_y true = none_each IsCalmFact
      under_y false = through_two_calm types f place a (Move to y) to b
  two_calm (Changes o change) a b = through_two_calm types f place a (Changes o change) o b
  two_calm (Call target g xs) a b = called_two_calm types place g.0 (slice_get sigs g.0) xs target a b
  two_calm _ a b = none_each IsCalmFact

  -- ---- of what stands at a point

  abbrev pub NodeKeepsOff : Node → Type 0
  NodeKeepsOff n = (i : Step) → n ≡ Action i → KeepsOff i

  pub none_node : (n : Node) → is_well_formed_node types texts fs f n ≡ true → NodeKeepsOff n → Quiet (node_none sigs types f place n)
  none_node (Action i) e off = none_quiet i e (off i refl)
  none_node (Question t) e off = none_each (IsQuiet types f x)
  none_node Return e off = none_each (IsQuiet types f x)
  none_node Stop e off = none_each (IsQuiet types f x)

  pub one_node : (n : Node) → is_well_formed_node types texts fs f n ≡ true → (branch : Option Bool) (a : Fact) → IsQuiet types f x a → Quiet (node_one sigs types f place branch n a)
  one_node (Action i) e branch a h = one_quiet i e a h
  one_node (Question t) e branch a h = itself_quiet (stops_at t branch a) a h
  one_node Return e branch a h = one_each (IsQuiet types f x) a h
  one_node Stop e branch a h = one_each (IsQuiet types f x) a h

  pub two_node : (n : Node) (a b : Fact) → Quiet (node_two sigs types f place n a b)
  two_node (Action i) a b = calm_quiet types f x _ (two_calm i a b)
  two_node (Question t) a b = none_each (IsQuiet types f x)
  two_node Return a b = none_each (IsQuiet types f x)
  two_node Stop a b = none_each (IsQuiet types f x)

-- ---- all derived facts

-- no instruction moves the local
abbrev pub IsNeverMoved : Function → ℕ → Type 0
IsNeverMoved f x = (p : ℕ) (l : Linked) (to : Operand) (y : ℕ) → numbered (code_of f) p ≡ Some l → l.spot.node ≡ Action (Move to y) → y ≢ x

module _ (types : Types) (sigs : List Signature) (texts : ℕ) (fs : List Function) (f : Function) (points : ArePointsFormed types texts fs f) (x : ℕ) (never : IsNeverMoved f x) where
  module _ (edge : Edge) where
    -- what stands at its first point
    spots_formed : (o : Option Linked) → numbered (code_of f) edge.from.0 ≡ o → (s : Spot) → option_map spot_of_linked o ≡ Some s → (is_well_formed_node types texts fs f s.node ≡ true) × ((i : Step) → s.node ≡ Action i → (to : Operand) (y : ℕ) → i ≡ Move to y → y ≢ x)
    spots_formed None e s is = absurd (none_some is)
    spots_formed (Some l) e s is =
        let same : l.spot ≡ s = some_same is in
        (subst (λ (t : Spot). is_well_formed_node types texts fs f t.node ≡ true) same (points edge.from.0 l e), λ i at to y moves. never edge.from.0 l to y e (ap (λ (t : Spot). t.node) same ∙ at ∙ ap Action moves))

    formed : (s : Spot) → spot_of f edge.from ≡ Some s → (is_well_formed_node types texts fs f s.node ≡ true) × ((i : Step) → s.node ≡ Action i → (to : Operand) (y : ℕ) → i ≡ Move to y → y ≢ x)
    formed s is = spots_formed (numbered (code_of f) edge.from.0) refl s is

    given_quiet : (o : Option Spot) → spot_of f edge.from ≡ o → (premises : List Fact) (y : Fact) → ((a : Fact) → Contains premises a → IsQuiet types f x a) → Gives sigs types f edge premises y → IsQuiet types f x y
    given_quiet None e [] y quiet has = absurd (none_in_empty y (subst (λ (o : Option Spot). Contains (none_at sigs types f o) y) e has))
    given_quiet (Some s) e [] y quiet has = none_node types sigs texts fs f x s.place s.node (formed s e).0 (formed s e).1 y (subst (λ (o : Option Spot). Contains (none_at sigs types f o) y) e has)
    given_quiet None e (a ∷ []) y quiet has = absurd (none_in_empty y (subst (λ (o : Option Spot). Contains (one_at sigs types f edge.branch o a) y) e has))
    given_quiet (Some s) e (a ∷ []) y quiet has =
        one_node types sigs texts fs f x s.place s.node (formed s e).0 edge.branch a (quiet a (at_head a [])) y (subst (λ (o : Option Spot). Contains (one_at sigs types f edge.branch o a) y) e has)
    given_quiet None e (a ∷ b ∷ []) y quiet has = absurd (none_in_empty y (subst (λ (o : Option Spot). Contains (two_at sigs types f o a b) y) e has))
    given_quiet (Some s) e (a ∷ b ∷ []) y quiet has = two_node types sigs texts fs f x s.place s.node a b y (subst (λ (o : Option Spot). Contains (two_at sigs types f o a b) y) e has)
    given_quiet o e (a ∷ b ∷ d ∷ more) y quiet has = absurd has

  derived_quiet : {p : Point} {y : Fact} → Derives sigs types f p y → IsQuiet types f x y
  derived_quiet (entry of held) = calm_quiet types f x _ (entry_calm types f.parameters 0 f.locals) _ held
  derived_quiet (along edge premises among held carries) = given_quiet edge (spot_of f edge.from) refl premises _ (λ a has. derived_quiet (held a has)) carries.1

  -- so no fact says that it was moved from
  pub derived_unmoved : (p : ℕ) → IsUnmoved (FactsAt sigs types f p) x
  derived_unmoved p cause s = let q = derived_quiet s in q.1 (local_same (sym (ap (λ (a : AbsPlace). a.root) q.2)))
    where
      local_same : {a b : ℕ} → root.Local a ≡ root.Local b → a ≡ b
      local_same h = cc

-- ---- locals that are never moved

module _ (types : Types) (texts : ℕ) (fs : List Function) (f : Function) (points : ArePointsFormed types texts fs f) (x : ℕ) where
  formed_move : (p : ℕ) (l : Linked) (to : Operand) (y : ℕ) → numbered (code_of f) p ≡ Some l → l.spot.node ≡ Action (Move to y) → is_well_formed_step types texts fs f (Move to y) ≡ true
  formed_move p l to y at is = subst (λ (n : Node). is_well_formed_node types texts fs f n ≡ true) is (points p l at)

  pub never_register : object_at types f x ≡ false → IsNeverMoved f x
  never_register register p l to y at is same =
      let outer = and_parts (is_owner (type_of types f to)) _ (formed_move p l to y at is) in
      false≢true (sym register ∙ subst (λ z. object_at types f z ≡ true) same (and_parts (object_at types f y) _ outer.1).0)

  pub never_result : result_at types f x ≡ true → IsNeverMoved f x
  never_result result p l to y at is equal =
      let outer = and_parts (is_owner (type_of types f to)) _ (formed_move p l to y at is) in
      let alike = and_parts (same (type_of types f to) (type_at types f y)) _ (and_parts (object_at types f y) _ outer.1).1 in
      not_both (result_at types f y) (subst (λ z. result_at types f z ≡ true) (sym equal) result) (and_parts (not (result_at types f y)) _ alike.1).0
    where
      not_both : (b : Bool) → b ≡ true → not b ≡ true → ⊥
      not_both true e n = false≢true n
      not_both false e n = false≢true e

  pub never_given : all_keep_given types f ≡ true → is_kept types f x ≡ false → IsNeverMoved f x
  never_given kept gone p l to y at is same =
      let keeps = point_tested (spot_keeps_given types f) f p l kept at in
      false≢true (sym gone ∙ subst (λ z. is_kept types f z ≡ true) same (subst (λ (n : Node). node_keeps_given types f n ≡ true) is keeps))

  -- what an instruction gives over
  pub given_never : all_keep_given types f ≡ true → (p : ℕ) (l : Linked) → numbered (code_of f) p ≡ Some l → Contains (given_spot l.spot) x → IsNeverMoved f x
  given_never kept p l here has = go (object_at types f x) refl
    where
      go : (b : Bool) → object_at types f x ≡ b → IsNeverMoved f x
      go true object = never_given kept (given_away types f p l x here object has)
      go false register = never_register register
