-- What an edge carries, where the function stands elsewhere: the same facts, moved.
use Rattle.std.proofs.Common.{◌≡◌, ◌∙◌, ◌++◌, ◌&&◌, ◌||◌, ℕ, Bool, if◌then◌else◌, nat_eq, slice_get, List, [], ◌∷◌, Option, Some, None, map, option_map, refl, ap, ap₂}
use Rattle.std.specs.List.{flat_map, list_any}
use Rattle.life_types.specs.Trees.{holds_owner}
use Rattle.life_types.specs.TypeTests.{is_pointer, is_unique}
use Rattle.life_types.specs.Types.{Types}
use Rattle.life_types.specs.declared.place.Place.{Place}
use Rattle.life_types.specs.declared.ty.Ty.{Ty}
use Rattle.life_types.specs.declared.ty.TyId.{TyId}
use Rattle.life_core.specs.Function.{Function}
use Rattle.life_core.specs.Linked.{spot_of}
use Rattle.life_core.specs.Operands.{Base, Location, Operand, Source, whole}
use Rattle.life_core.specs.Operands as named
use Rattle.life_core.specs.Step.{Step, Live, End, Copy, Move, Aim, Repoint, Advance, Cut, Cursor, Changes, Make, Call, Change, Erase, Test}
use Rattle.life_core.specs.Step as step
use Rattle.life_core.specs.Tree.{Node, Action, Question, Return, Stop, Spot}
use Rattle.life_core.specs.declared.instr.Form.{Form}
use Rattle.life_core.specs.declared.program.Local.{Local}
use Rattle.life_core.specs.declared.stmt.Edge.{Edge}
use Rattle.life_pset.specs.Elements.{causes_of_end, local_place, moved}
use Rattle.life_pset.specs.Places.{is_within, path}
use Rattle.life_pset.specs.Shapes.{is_variable_place, location_type, members_type, operand_type, place_type, tree_if, ty_if}
use Rattle.life_pset.specs.declared.element.AbsPlace.{AbsPlace}
use Rattle.life_pset.specs.declared.element.Element.{Element}
use Rattle.life_pset.specs.declared.element.Element.TheVariants as element
use Rattle.life_pset.specs.declared.element.Fact.{Fact}
use Rattle.life_pset.specs.declared.element.Root.{Root}
use Rattle.life_pset.specs.declared.element.Root.TheVariants as root
use Rattle.life_contract.specs.Located.{is_location, located}
use Rattle.life_contract.specs.Signatures.{Signature}
use Rattle.life_rules.specs.Callees.{callee_at}
use Rattle.life_rules.specs.Calling.{called_none, called_one, called_two}
use Rattle.life_rules.specs.Carrying.{Gives, after_kill, born, born_facts, copied_facts, copied_from, copied_location, drops, ended_element, ended_facts, ended_root, from_none, from_one, from_two, invalid_facts, is_gone, is_killed, killed_facts, killed_through, kills, locations_at, locations_of_local, makes, moved_facts, named_kill, node_none, node_one, node_two, none_at, one_at, one_kill, own_type, stops_at, two_at, whole_facts}
use Rattle.life_rules.specs.Matching.{fact_at, facts_at, facts_if, given_if, given_over, is_rooted_among, points_under, unless}
use Rattle.life_rules.specs.declared.kill.Kill.{Kill}
use Rattle.life_rules.specs.declared.kill.KillPair.{KillPair}
use Rattle.life_modular.specs.Renaming.{CallsMoved, Renaming, moved_element, moved_fact, moved_function, moved_local, moved_node, moved_signature, moved_spot, moved_step}
use Rattle.life_modular.proofs.MovedCalling.{called_none_moved, called_one_moved, called_two_moved}
use Rattle.life_modular.proofs.MovedCode.{spot_moved}
use Rattle.life_modular.proofs.MovedElements.{causes_of_end_moved, is_variable_place_moved, local_at_moved, location_type_moved, operand_type_moved, place_type_moved}
use Rattle.life_modular.proofs.MovedLists.{Contains_moved, append_moved, cond_moved, flat_map_each}
use Rattle.life_modular.proofs.MovedMaking.{after_kill_moved, aimed_from_moved, born_moved, element_from_moved, invalid_facts_moved, is_killed_moved, killed_facts_moved, killed_if_moved, killed_through_moved, made_moved, moved_kill, moved_kills, named_element_moved, named_kill_moved, named_position_moved, named_target_moved, position_facts_moved, stops_at_moved, taken_moved, writes_moved}
use Rattle.life_modular.proofs.MovedMatching.{facts_at_moved, facts_if_moved, given_if_moved, given_over_moved, if_moved, points_among_moved, points_under_moved, unless_moved}

module _ (r : Renaming) (types : Types) (f : Function) where
  -- ---- what is killed and dropped

  pub kills_moved : (place : Place) (i : Step) → kills types (moved_function r f) (r.place place) (moved_step r i) ≡ moved_kills r (kills types f place i)
  kills_moved place (Copy to from) =
      ap (λ (id : Option TyId). if holds_owner (tree_if types id) then one_kill (named_kill (r.place place) to) else one_kill None) (operand_type_moved r f types to)
      ∙ killed_if_moved r (holds_owner (tree_if types (operand_type types f to))) place to
  kills_moved place (Move to y) = ap (λ (k : Option Kill). record { first = Some (record { owner = local_place y; cause = moved (r.place place) y }); second = k }) (named_kill_moved r place to)
  kills_moved place (Changes o change) = ap one_kill (named_kill_moved r place o)
  kills_moved place _ = refl

  is_gone_moved : (place : Place) (i : Step) (e : Element) → is_gone types (moved_function r f) (r.place place) (moved_step r i) (moved_element r e) ≡ is_gone types f place i e
  is_gone_moved place (End xs) e = points_among_moved r xs e
  is_gone_moved place i e = ap (λ (ks : KillPair). is_killed ks (moved_element r e)) (kills_moved place i) ∙ is_killed_moved r (kills types f place i) e

  pub drops_moved : (place : Place) (i : Step) (x : Fact) → drops types (moved_function r f) (r.place place) (moved_step r i) (moved_fact r x) ≡ drops types f place i x
  drops_moved place i x = ap₂ (λ (gone written : Bool). gone || written) (is_gone_moved place i x.element) (writes_moved r i x.location)

  -- ---- what is made of no fact

  locations_at_moved : (n x : ℕ) (o : Option Local) → locations_at types n x (option_map (moved_local r) o) ≡ locations_at types n x o
  locations_at_moved n x None = refl
  locations_at_moved n x (Some l) = refl

  locations_of_local_moved : (x : ℕ) → locations_of_local types (moved_function r f) x ≡ locations_of_local types f x
  locations_of_local_moved x = ap (locations_at types f.parameters x) (local_at_moved r f x) ∙ locations_at_moved f.parameters x (slice_get f.locals x)

  own_type_moved : (o : Option Local) → own_type (option_map (moved_local r) o) ≡ own_type o
  own_type_moved None = refl
  own_type_moved (Some l) = refl

  born_facts_moved : (place : Place) (x : ℕ) (form : Form) (l : AbsPlace)
      → born_facts types (moved_function r f) (r.place place) x form l ≡ map (moved_fact r) (born_facts types f place x form l)
  born_facts_moved place x form l =
      let t : Ty = ty_if types (members_type types (own_type (slice_get f.locals x)) (path l)) in
      ap
      (λ (id : Option TyId). facts_at l (born (r.place place) x form (ty_if types (members_type types id (path l)))))
      (ap own_type (local_at_moved r f x) ∙ own_type_moved (slice_get f.locals x))
      ∙ ap (facts_at l) (born_moved r place x form t)
      ∙ facts_at_moved r l (born place x form t)

  whole_facts_moved : (o : Operand) → whole_facts types (moved_function r f) o ≡ map (moved_fact r) (whole_facts types f o)
  whole_facts_moved (named.Name l) =
      ap (λ (is : Bool). given_if is (fact_at (located l) element.Own)) (is_variable_place_moved r f types (located l))
      ∙ given_if_moved r (is_variable_place types f (located l)) (fact_at (located l) element.Own)
  whole_facts_moved (named.Through p members) = refl

  -- ---- what is made of one

  ended_root_moved : (place : Place) (xs : List ℕ) (l : AbsPlace) (root : Root)
      → ended_root (moved_function r f) (r.place place) xs l root ≡ map (moved_fact r) (ended_root f place xs l root)
  ended_root_moved place xs l (root.Local x) =
      cond_moved (moved_fact r) (list_any (λ y. nat_eq y x) xs) (invalid_facts l (causes_of_end f place x)) []
      (ap (invalid_facts l) (causes_of_end_moved r f place x) ∙ invalid_facts_moved r l (causes_of_end f place x)) refl
  ended_root_moved place xs l (root.Input parameter member) = refl

  ended_element_moved : (place : Place) (xs : List ℕ) (l : AbsPlace) (e : Element)
      → ended_element (moved_function r f) (r.place place) xs l (moved_element r e) ≡ map (moved_fact r) (ended_element f place xs l e)
  ended_element_moved place xs l (element.At b) = ended_root_moved place xs l b.root
  ended_element_moved place xs l _ = refl

  ended_facts_moved : (place : Place) (xs : List ℕ) (x : Fact) → ended_facts (moved_function r f) (r.place place) xs (moved_fact r x) ≡ map (moved_fact r) (ended_facts f place xs x)
  ended_facts_moved place xs x =
      cond_moved (moved_fact r) (is_rooted_among xs x.location) [] (ended_element f place xs x.location x.element) refl (ended_element_moved place xs x.location x.element)

  copied_from_moved : (k : Option Kill) (to from : AbsPlace) (x : Fact)
      → copied_from types (moved_function r f) (option_map (moved_kill r) k) to from (moved_fact r x) ≡ map (moved_fact r) (copied_from types f k to from x)
  copied_from_moved k to from x =
      ap₂
      (λ (id : Option TyId) (e : Element). given_if (is_within from x.location && is_pointer (ty_if types id)) (fact_at (copied_location from to x.location) e))
      (place_type_moved r f types x.location) (after_kill_moved r k x.element)
      ∙ given_if_moved r
      (is_within from x.location && is_pointer (ty_if types (place_type types f x.location)))
      (fact_at (copied_location from to x.location) (after_kill k x.element))

  copied_facts_moved : (k : Option Kill) (to from : Operand) (x : Fact)
      → copied_facts types (moved_function r f) (option_map (moved_kill r) k) to from (moved_fact r x) ≡ map (moved_fact r) (copied_facts types f k to from x)
  copied_facts_moved k (named.Name to) (named.Name from) x = copied_from_moved k (located to) (located from) x
  copied_facts_moved k _ _ x = refl

  moved_facts_moved : (to : Operand) (y : ℕ) (x : Fact) → moved_facts types (moved_function r f) to y (moved_fact r x) ≡ map (moved_fact r) (moved_facts types f to y x)
  moved_facts_moved (named.Name to) y x =
      ap₂
      (λ (id : Option TyId) (e : Option Element). facts_if (is_location (whole y) x.location && is_unique (ty_if types id)) (located to) e)
      (location_type_moved r f types to) (given_over_moved r x.element)
      ∙ facts_if_moved r (is_location (whole y) x.location && is_unique (ty_if types (location_type types f to))) (located to) (given_over x.element)
  moved_facts_moved (named.Through p members) y x = refl

  module _ (these those : List Signature) where
    -- the signature of what is called is the moved one
    abbrev IsCallMoved : Node → Type 0
    IsCallMoved n = callee_at those (moved_node r n) ≡ option_map (moved_signature r) (callee_at these n)

    -- ---- of an instruction

    pub from_none_moved : (place : Place) (i : Step) → IsCallMoved (Action i)
        → from_none those types (moved_function r f) (r.place place) (moved_step r i) ≡ map (moved_fact r) (from_none these types f place i)
    from_none_moved place (Live x form) calls =
        ap (flat_map (born_facts types (moved_function r f) (r.place place) x form)) (locations_of_local_moved x)
        ∙ flat_map_each (moved_fact r) (born_facts types (moved_function r f) (r.place place) x form) (born_facts types f place x form) (locations_of_local types f x) (born_facts_moved place x form)
    from_none_moved place (Copy to from) calls = whole_facts_moved to
    from_none_moved place (Move to y) calls = ap (λ (xs : List Fact). fact_at (local_place y) (element.Moved (moved (r.place place) y)) ∷ xs) (whole_facts_moved to)
    from_none_moved place (Aim p s) calls = named_target_moved r (located p) s
    from_none_moved place (step.Element p b which) calls = named_element_moved r (located p) b
    from_none_moved place (Cursor p b end) calls = named_element_moved r (located p) b
    from_none_moved place (Changes o change) calls = named_position_moved r o change
    from_none_moved place (Make u what) calls = made_moved r (located u) what
    from_none_moved place (Call target g xs) calls =
        ap (λ (callee : Option Signature). called_none types callee target) calls ∙ called_none_moved r types (slice_get these g.0) target
    from_none_moved place _ calls = refl

    pub makes_moved : (place : Place) (i : Step) (x : Fact) → IsCallMoved (Action i)
        → makes those types (moved_function r f) (r.place place) (moved_step r i) (moved_fact r x) ≡ map (moved_fact r) (makes these types f place i x)
    makes_moved place (End xs) x calls = ended_facts_moved place xs x
    makes_moved place (Copy to from) x calls =
        ap (λ (ks : KillPair). copied_facts types (moved_function r f) ks.first to from (moved_fact r x)) (kills_moved place (Copy to from))
        ∙ copied_facts_moved (kills types f place (Copy to from)).first to from x
    makes_moved place (Move to y) x calls = moved_facts_moved to y x
    makes_moved place (Aim p s) x calls = aimed_from_moved r p s x
    makes_moved place (Repoint p q) x calls = taken_moved r p q x
    makes_moved place (Advance p q n direction) x calls = taken_moved r p q x
    makes_moved place (Cut p q n count) x calls = taken_moved r p q x
    makes_moved place (step.Element p b which) x calls = element_from_moved r p b x
    makes_moved place (Cursor p b end) x calls = element_from_moved r p b x
    makes_moved place (Changes o change) x calls = position_facts_moved r o change x
    makes_moved place (Call target g xs) x calls =
        ap (λ (callee : Option Signature). called_one types callee xs target (moved_fact r x)) calls ∙ called_one_moved r types (slice_get these g.0) xs target x
    makes_moved place _ x calls = refl

    pub from_one_moved : (place : Place) (i : Step) (x : Fact) → IsCallMoved (Action i)
        → from_one those types (moved_function r f) (r.place place) (moved_step r i) (moved_fact r x) ≡ map (moved_fact r) (from_one these types f place i x)
    from_one_moved place i x calls =
        append_moved (moved_fact r) (unless (drops types f place i x) x) (killed_facts (kills types f place i) i x ++ makes these types f place i x)
        (ap (λ (gone : Bool). unless gone (moved_fact r x)) (drops_moved place i x) ∙ unless_moved r (drops types f place i x) x)
        (
        append_moved (moved_fact r) (killed_facts (kills types f place i) i x) (makes these types f place i x)
        (ap (λ (ks : KillPair). killed_facts ks (moved_step r i) (moved_fact r x)) (kills_moved place i) ∙ killed_facts_moved r (kills types f place i) i x)
        (makes_moved place i x calls)
        )

    pub from_two_moved : (place : Place) (i : Step) (a b : Fact) → IsCallMoved (Action i)
        → from_two those types (moved_function r f) (r.place place) (moved_step r i) (moved_fact r a) (moved_fact r b) ≡ map (moved_fact r) (from_two these types f place i a b)
    from_two_moved place (Copy to from) a b calls =
        ap
        (λ (id : Option TyId). if holds_owner (tree_if types id) then killed_through (r.place place) (Copy to from) to (moved_fact r a) (moved_fact r b) else [])
        (operand_type_moved r f types to)
        ∙ if_moved (moved_fact r) (holds_owner (tree_if types (operand_type types f to))) (killed_through place (Copy to from) to a b) [] (killed_through_moved r place (Copy to from) to a b) refl
    from_two_moved place (Move to y) a b calls =
        ap (λ (under : Bool). if under then [] else killed_through (r.place place) (Move to y) to (moved_fact r a) (moved_fact r b)) (points_under_moved r (local_place y) b.element)
        ∙ if_moved (moved_fact r) (points_under (local_place y) b.element) [] (killed_through place (Move to y) to a b) refl (killed_through_moved r place (Move to y) to a b)
    from_two_moved place (Changes o change) a b calls = killed_through_moved r place (Changes o change) o a b
    from_two_moved place (Call target g xs) a b calls =
        ap (λ (callee : Option Signature). called_two types (r.place place) (r.function g.0) callee xs target (moved_fact r a) (moved_fact r b)) calls
        ∙ called_two_moved r types place g.0 (slice_get these g.0) xs target a b
    from_two_moved place _ a b calls = refl

    -- ---- of a point

    node_none_moved : (place : Place) (n : Node) → IsCallMoved n
        → node_none those types (moved_function r f) (r.place place) (moved_node r n) ≡ map (moved_fact r) (node_none these types f place n)
    node_none_moved place (Action i) calls = from_none_moved place i calls
    node_none_moved place _ calls = refl

    node_one_moved : (place : Place) (branch : Option Bool) (n : Node) (x : Fact) → IsCallMoved n
        → node_one those types (moved_function r f) (r.place place) branch (moved_node r n) (moved_fact r x) ≡ map (moved_fact r) (node_one these types f place branch n x)
    node_one_moved place branch (Action i) x calls = from_one_moved place i x calls
    node_one_moved place branch (Question t) x calls =
        ap (λ (stopped : Bool). unless stopped (moved_fact r x)) (stops_at_moved r t branch x) ∙ unless_moved r (stops_at t branch x) x
    node_one_moved place branch Return x calls = refl
    node_one_moved place branch Stop x calls = refl

    node_two_moved : (place : Place) (n : Node) (a b : Fact) → IsCallMoved n
        → node_two those types (moved_function r f) (r.place place) (moved_node r n) (moved_fact r a) (moved_fact r b) ≡ map (moved_fact r) (node_two these types f place n a b)
    node_two_moved place (Action i) a b calls = from_two_moved place i a b calls
    node_two_moved place _ a b calls = refl

    -- what is called at a point, if anything is, has the moved signature
    abbrev AreCallsMovedAt : Option Spot → Type 0
    AreCallsMovedAt o = (s : Spot) → o ≡ Some s → IsCallMoved s.node

    none_at_moved : (o : Option Spot) → AreCallsMovedAt o
        → none_at those types (moved_function r f) (option_map (moved_spot r) o) ≡ map (moved_fact r) (none_at these types f o)
    none_at_moved None calls = refl
    none_at_moved (Some s) calls = node_none_moved s.place s.node (calls s refl)

    one_at_moved : (branch : Option Bool) (o : Option Spot) (x : Fact) → AreCallsMovedAt o
        → one_at those types (moved_function r f) branch (option_map (moved_spot r) o) (moved_fact r x) ≡ map (moved_fact r) (one_at these types f branch o x)
    one_at_moved branch None x calls = refl
    one_at_moved branch (Some s) x calls = node_one_moved s.place branch s.node x (calls s refl)

    two_at_moved : (o : Option Spot) (a b : Fact) → AreCallsMovedAt o
        → two_at those types (moved_function r f) (option_map (moved_spot r) o) (moved_fact r a) (moved_fact r b) ≡ map (moved_fact r) (two_at these types f o a b)
    two_at_moved None a b calls = refl
    two_at_moved (Some s) a b calls = node_two_moved s.place s.node a b (calls s refl)

    -- ---- of an edge

    pub gives_moved : CallsMoved r these those f → (edge : Edge) (premises : List Fact) (x : Fact)
        → Gives these types f edge premises x → Gives those types (moved_function r f) edge (map (moved_fact r) premises) (moved_fact r x)
    gives_moved calls edge [] x given =
        Contains_moved (moved_fact r) (none_at these types f (spot_of f edge.from))
        (ap (none_at those types (moved_function r f)) (spot_moved r f edge.from) ∙ none_at_moved (spot_of f edge.from) (calls edge.from)) x given
    gives_moved calls edge (a ∷ []) x given =
        Contains_moved (moved_fact r) (one_at these types f edge.branch (spot_of f edge.from) a)
        (
        ap (λ (o : Option Spot). one_at those types (moved_function r f) edge.branch o (moved_fact r a)) (spot_moved r f edge.from)
        ∙ one_at_moved edge.branch (spot_of f edge.from) a (calls edge.from)
        )
        x given
    gives_moved calls edge (a ∷ b ∷ []) x given =
        Contains_moved (moved_fact r) (two_at these types f (spot_of f edge.from) a b)
        (
        ap (λ (o : Option Spot). two_at those types (moved_function r f) o (moved_fact r a) (moved_fact r b)) (spot_moved r f edge.from)
        ∙ two_at_moved (spot_of f edge.from) a b (calls edge.from)
        )
        x given
    gives_moved calls edge (a ∷ b ∷ c ∷ more) x given = given
