-- Nothing is told of facts about locations that a point neither names nor reaches.
use Rattle.std.proofs.Common.{◌≡◌, ℕ, Bool, true, false, true≢false, cond, if◌then◌else◌, List, [], ◌∷◌, ◌++◌, Option, Some, None, refl, ap, sym, ◌∙◌}
use Rattle.std.specs.Prelude.{◌&&◌, ◌||◌, slice_get}
use Rattle.std.specs.List.{flat_map}
use Rattle.life_types.specs.Trees.{holds_owner}
use Rattle.life_types.specs.Types.{Types}
use Rattle.life_types.specs.declared.place.Place.{Place}
use Rattle.life_core.specs.Function.{Function}
use Rattle.life_core.specs.Operands.{Argument, Base, Characters, Location, Name, Operand, Source, Through, whole}
use Rattle.life_core.specs.Operands as named
use Rattle.life_core.specs.Step.{Step, Live, End, Eval, Load, Save, Copy, Move, Aim, Repoint, Advance, Cut, Size, Same, Cursor, Changes, Make, Call, Ports, Change, Erase, Set, Append, Port, WritesView}
use Rattle.life_core.specs.Step as step
use Rattle.life_core.specs.Tree.{Node, Action, Question, Return, Stop, Spot}
use Rattle.life_core.specs.declared.operand.Which.{Which}
use Rattle.life_core.specs.declared.operand.Which.TheVariants as which
use Rattle.life_pset.specs.Elements.{Input}
use Rattle.life_pset.specs.Places.{members_place}
use Rattle.life_pset.specs.Shapes.{is_variable_place, operand_type, tree_if}
use Rattle.life_pset.specs.contracts.element.AbsPlacePartialEq.TheImpl.{ghosts as compared}
use Rattle.life_pset.specs.declared.element.AbsPlace.{AbsPlace}
use Rattle.life_pset.specs.declared.element.Element.{Element}
use Rattle.life_pset.specs.declared.element.Element.TheVariants as element
use Rattle.life_pset.specs.declared.element.Fact.{Fact}
use Rattle.life_contract.specs.Arguments.{is_argument_of, is_in_arguments, is_mutating_argument}
use Rattle.life_contract.specs.Breaking.{of_pairs}
use Rattle.life_contract.specs.Inputs.{inputs_of_signature}
use Rattle.life_contract.specs.Located.{is_location}
use Rattle.life_contract.specs.Signatures.{Signature}
use Rattle.life_rules.proofs.Calls.{broken_by_two_none, no_argument, no_mutating, or_first, or_second}
use Rattle.life_rules.proofs.Nothing.{and_first, and_second, cond_none, either_none, flat_map_empty, pairs_empty}
use Rattle.life_rules.specs.Arguing.{argument_diags, argument_diags_of_two, broken_by, broken_by_two, moved_at, moved_behind, overlapping_at}
use Rattle.life_rules.specs.Diagnosing.{diags_at, diags_of_two, misopened_as, misread_as, misused_as, moved_as, moved_target, moved_through, node_diags, node_diags_of_two, opened_by_base, opened_if, opens, owner_of_base, owner_of_source, owners, read_by_base, read_by_change, read_by_characters, read_by_port, reads, step_diags, step_diags_of_two, use_diags, used_by_base, used_by_source, used_in, uses}
use Rattle.life_rules.specs.Keeping.{keeping_diags, kept_by_call, kept_through}
use Rattle.life_rules.specs.ToldAt.{base_names, base_reaches, change_names, characters_name, is_operand, is_through, names, names_some, node_tells, node_tells_some, port_names, reaches, source_names, source_names_some, source_reaches, spot_tells, step_tells}
use Rattle.life_rules.specs.declared.diag.Diag.{Diag}

-- ---- one fact, about what isn't named

module _ (types : Types) (function : ℕ) (f : Function) (place : Place) (x : Fact) where
  not_location : (facts : List Diag) (p : Location) → is_location p x.location ≡ false → cond (is_location p x.location) facts [] ++ [] ≡ []
  not_location facts p h = rw h refl

  unused : (o : Operand) → is_operand o x.location ≡ false → flat_map (misused_as function place x) (used_in o) ≡ []
  unused (Name l) h = refl
  unused (Through p members) h = not_location _ p h

  unused_both : (o p : Operand) → is_operand o x.location ≡ false → is_operand p x.location ≡ false → flat_map (misused_as function place x) (used_in o ++ used_in p) ≡ []
  unused_both (Name l) p h k = unused p k
  unused_both (Through q members) p h k = rw (cond_none (is_location q x.location) _ h) (unused p k)

  unmoved : (o : Operand) → is_operand o x.location ≡ false → moved_as types function f place x o ++ [] ≡ []
  unmoved (Name l) h = rw (cond_none (is_location l x.location && is_variable_place types f x.location) _ (and_first (is_location l x.location) _ h)) refl
  unmoved (Through p members) h = refl

  -- where the used, the read, the opened and the owners tell nothing
  nothing_used : (i : Step) → flat_map (misused_as function place x) (uses i) ≡ [] → flat_map (misread_as function place x) (reads i) ≡ [] → flat_map (misopened_as function place x) (opens i) ≡ []
      → flat_map (moved_as types function f place x) (owners i) ≡ [] → use_diags types function f place i x ≡ []
  nothing_used i a b c d = rw (a, b, c, d) refl

  base_unused : (b : Base) → base_names b x.location ≡ false → flat_map (misused_as function place x) (used_by_base b) ≡ []
  base_unused (named.Owner o) h = unused o h
  base_unused (named.Pointer q) h = refl

  base_unread : (b : Base) → base_names b x.location ≡ false → flat_map (misread_as function place x) (read_by_base b) ≡ []
  base_unread (named.Owner o) h = refl
  base_unread (named.Pointer q) h = not_location _ q h

  base_unopened : (w : Which) (b : Base) → base_names b x.location ≡ false → flat_map (misopened_as function place x) (opened_if w b) ≡ []
  base_unopened which.Target (named.Owner (Name l)) h = not_location _ l h
  base_unopened which.Target (named.Owner (Through p members)) h = refl
  base_unopened which.Target (named.Pointer q) h = refl
  base_unopened _ b h = refl

  base_unmoved : (b : Base) → base_names b x.location ≡ false → flat_map (moved_as types function f place x) (owner_of_base b) ≡ []
  base_unmoved (named.Owner o) h = unmoved o h
  base_unmoved (named.Pointer q) h = refl

  source_unused : (s : Source) → source_names s x.location ≡ false → flat_map (misused_as function place x) (used_by_source s) ≡ []
  source_unused (named.Place o) h = unused o h
  source_unused (named.Whole o) h = unused o h
  source_unused _ h = refl

  source_unmoved : (s : Source) → source_names s x.location ≡ false → flat_map (moved_as types function f place x) (owner_of_source s) ≡ []
  source_unmoved (named.Whole o) h = unmoved o h
  source_unmoved _ h = refl

  characters_unread : (c : Characters) → characters_name c x.location ≡ false → flat_map (misread_as function place x) (read_by_characters c) ≡ []
  characters_unread (named.View l) h = not_location _ l h
  characters_unread (named.Single r) h = refl

  change_unread : (c : Change) → change_names c x.location ≡ false → flat_map (misread_as function place x) (read_by_change c) ≡ []
  change_unread (Erase at into) h = not_location _ at h
  change_unread (Set c) h = characters_unread c h
  change_unread (Append c) h = characters_unread c h
  change_unread _ h = refl

  port_unread : (p : Port) → port_names p x.location ≡ false → flat_map (misread_as function place x) (read_by_port p) ≡ []
  port_unread (WritesView l) h = not_location _ l h
  port_unread _ h = refl

  same_unread : (a b : Location) → is_location a x.location ≡ false → is_location b x.location ≡ false → misread_as function place x a ++ (misread_as function place x b ++ []) ≡ []
  same_unread a b h k = rw (h, k) refl

  use_untold : (i : Step) → names i x.location ≡ false → use_diags types function f place i x ≡ []
  use_untold (Load r o) h = nothing_used (Load r o) (unused o h) refl refl refl
  use_untold (Save o r) h = nothing_used (Save o r) (unused o h) refl refl refl
  use_untold (Copy to from) h =
      let a = or_first (is_operand to x.location) _ h in
      let b = or_second (is_operand to x.location) _ h in
      nothing_used (Copy to from) (unused_both to from a b) refl refl (unmoved from b)
  use_untold (Move to y) h =
      nothing_used (Move to y) (unused to (or_first (is_operand to x.location) _ h)) refl refl (unmoved (Name (whole y)) (or_second (is_operand to x.location) _ h))
  use_untold (Aim p s) h = nothing_used (Aim p s) (source_unused s h) refl refl (source_unmoved s h)
  use_untold (step.Element p b w) h = nothing_used (step.Element p b w) (base_unused b h) (base_unread b h) (base_unopened w b h) (base_unmoved b h)
  use_untold (Cursor p b end) h = nothing_used (Cursor p b end) (base_unused b h) (base_unread b h) refl (base_unmoved b h)
  use_untold (Advance p q r direction) h = nothing_used (Advance p q r direction) refl (not_location _ q h) refl refl
  use_untold (Cut p q r count) h = nothing_used (Cut p q r count) refl (not_location _ q h) refl refl
  use_untold (Size r b) h = nothing_used (Size r b) (base_unused b h) (base_unread b h) refl (base_unmoved b h)
  use_untold (Same r a b equal) h =
      nothing_used (Same r a b equal) refl (same_unread a b (or_first (is_location a x.location) _ h) (or_second (is_location a x.location) _ h)) refl refl
  use_untold (Changes o change) h =
      let a = or_first (is_operand o x.location) _ h in
      nothing_used (Changes o change) (unused o a) (change_unread change (or_second (is_operand o x.location) _ h)) refl (unmoved o a)
  use_untold (Ports port) h = nothing_used (Ports port) refl (port_unread port h) refl refl
  use_untold _ h = refl

  argument_untold : (sigs : List Signature) (i : Step) → names i x.location ≡ false → argument_diags sigs types function place i x ≡ []
  argument_untold sigs (Call target g xs) h = by_signature (slice_get sigs g.0) where
    by_signature : (sig : Option Signature) → broken_by types function place g.0 sig xs x ≡ []
    by_signature None = refl
    by_signature (Some sig) = flat_map_empty _ (inputs_of_signature types sig) (λ i. cond_none (is_argument_of xs i x.location) _ (no_argument xs i x.location h))
  argument_untold sigs _ h = refl

  unkept : (o : Operand) → is_operand o x.location ≡ false → kept_through types function f place x o ≡ []
  unkept (Name l) h = refl
  unkept (Through p members) h = cond_none (is_location p x.location) _ h

  keeping_untold : (sigs : List Signature) (i : Step) → names i x.location ≡ false → keeping_diags sigs types function f place i x ≡ []
  keeping_untold sigs (Copy to from) h = either_none (holds_owner (tree_if types (operand_type types f to))) _ (unkept to (or_first (is_operand to x.location) _ h))
  keeping_untold sigs (Move to y) h = unkept to (or_first (is_operand to x.location) _ h)
  keeping_untold sigs (Changes o change) h = unkept o (or_first (is_operand o x.location) _ h)
  keeping_untold sigs (Call target g xs) h = by_signature (slice_get sigs g.0) where
    by_signature : (sig : Option Signature) → kept_by_call types function f place g.0 sig xs x ≡ []
    by_signature None = refl
    by_signature (Some sig) = cond_none (is_mutating_argument types sig xs x.location) _ (no_mutating types sig xs x.location h)
  keeping_untold sigs _ h = refl

  step_untold : (sigs : List Signature) (i : Step) → step_tells types f i x.location ≡ false → step_diags sigs types function f place i x ≡ []
  step_untold sigs i h =
      let k = or_first (names i x.location) _ h in
      rw (use_untold i k, argument_untold sigs i k, keeping_untold sigs i k) refl

-- facts at a location that isn't told make nothing wrong
pub untold : (sigs : List Signature) (types : Types) (function : ℕ) (f : Function) (spot : Option Spot) (x : Fact) → spot_tells types f spot x.location ≡ false → diags_at sigs types function f spot x ≡ []
untold sigs types function f None x h = refl
untold sigs types function f (Some s) x h = at_node s.node h where
  at_node : (n : Node) → node_tells types f n x.location ≡ false → node_diags sigs types function f s.place n x ≡ []
  at_node (Action i) k = step_untold types function f s.place x sigs i k
  at_node (Question t) k = refl
  at_node Return k = cond_none _ _ k
  at_node Stop k = refl

-- ---- two facts

module _ (types : Types) (function : ℕ) (f : Function) (place : Place) (a b : Fact) where
  -- .. the first of which is about what isn't named
  first_unmoved : (o : Operand) → is_operand o a.location ≡ false → moved_through types function f place a b o ++ [] ≡ []
  first_unmoved (Name l) h = refl
  first_unmoved (Through p members) h = not_location types function f place a _ p h

  first_by_source : (s : Source) → source_names s a.location ≡ false → flat_map (moved_through types function f place a b) (owner_of_source s) ≡ []
  first_by_source (named.Whole o) h = first_unmoved o h
  first_by_source _ h = refl

  first_by_base : (c : Base) → base_names c a.location ≡ false → flat_map (moved_through types function f place a b) (owner_of_base c) ≡ []
  first_by_base (named.Owner o) h = first_unmoved o h
  first_by_base (named.Pointer q) h = refl

  first_by_step : (i : Step) → names i a.location ≡ false → flat_map (moved_through types function f place a b) (owners i) ≡ []
  first_by_step (Copy to from) h = first_unmoved from (or_second (is_operand to a.location) _ h)
  first_by_step (Move to y) h = refl
  first_by_step (Aim p s) h = first_by_source s h
  first_by_step (step.Element p c w) h = first_by_base c h
  first_by_step (Cursor p c end) h = first_by_base c h
  first_by_step (Size r c) h = first_by_base c h
  first_by_step (Changes o change) h = first_unmoved o (or_first (is_operand o a.location) _ h)
  first_by_step _ h = refl

  first_argument : (sigs : List Signature) (i : Step) → names i a.location ≡ false → argument_diags_of_two sigs types function f place i a b ≡ []
  first_argument sigs (Call target g xs) h = broken_by_two_none types function f place g.0 (slice_get sigs g.0) xs a b h
  first_argument sigs _ h = refl

  first_of_step : (sigs : List Signature) (i : Step) → step_tells types f i a.location ≡ false → step_diags_of_two sigs types function f place i a b ≡ []
  first_of_step sigs i h =
      let k = or_first (names i a.location) _ h in
      rw (first_by_step i k, first_argument sigs i k) refl

  -- .. the second of which is about what isn't reached
  unreached_target : (p : Location) (members : List ℕ) (e : Element) → is_variable_place types f b.location ≡ false → moved_target types function f place p members e b ≡ []
  unreached_target p members (element.At t) h = cond_none (compared.eq b.location (members_place t members) && is_variable_place types f b.location) _ (and_second (compared.eq b.location (members_place t members)) _ h)
  unreached_target p members _ h = refl

  either_way : (here : Bool) (ds : List Diag) → ds ≡ [] → cond here ds [] ++ [] ≡ []
  either_way true ds h = rw h refl
  either_way false ds h = refl

  second_unmoved : (o : Operand) → (is_through o && is_variable_place types f b.location) ≡ false → moved_through types function f place a b o ++ [] ≡ []
  second_unmoved (Name l) h = refl
  second_unmoved (Through p members) h = either_way (is_location p a.location) _ (unreached_target p members a.element h)

  second_by_source : (s : Source) → (source_reaches s && is_variable_place types f b.location) ≡ false → flat_map (moved_through types function f place a b) (owner_of_source s) ≡ []
  second_by_source (named.Whole o) h = second_unmoved o h
  second_by_source _ h = refl

  second_by_base : (c : Base) → (base_reaches c && is_variable_place types f b.location) ≡ false → flat_map (moved_through types function f place a b) (owner_of_base c) ≡ []
  second_by_base (named.Owner o) h = second_unmoved o h
  second_by_base (named.Pointer q) h = refl

  second_by_step : (i : Step) → (reaches i && is_variable_place types f b.location) ≡ false → flat_map (moved_through types function f place a b) (owners i) ≡ []
  second_by_step (Copy to from) h = second_unmoved from h
  second_by_step (Move to y) h = refl
  second_by_step (Aim p s) h = second_by_source s h
  second_by_step (step.Element p c w) h = second_by_base c h
  second_by_step (Cursor p c end) h = second_by_base c h
  second_by_step (Size r c) h = second_by_base c h
  second_by_step (Changes o change) h = second_unmoved o h
  second_by_step _ h = refl

  unreached_behind : (g : ℕ) (i : Input) (e : Element) → is_variable_place types f b.location ≡ false → moved_behind types function f place g i e b ≡ []
  unreached_behind g i (element.At t) h = cond_none (compared.eq b.location t && is_variable_place types f b.location) _ (and_second (compared.eq b.location t) _ h)
  unreached_behind g i _ h = refl

  in_either : (here : Bool) (ds : List Diag) → ds ≡ [] → cond here ds [] ≡ []
  in_either true ds h = h
  in_either false ds h = refl

  second_broken : (g : ℕ) (sig : Option Signature) (xs : List Argument) → is_in_arguments xs b.location ≡ false → is_variable_place types f b.location ≡ false → broken_by_two types function f place g sig xs a b ≡ []
  second_broken g None xs h k = refl
  second_broken g (Some sig) xs h k =
      ap (λ (ds : List Diag). ds ++ of_pairs (overlapping_at types function place g sig xs a b) (inputs_of_signature types sig))
      (flat_map_empty (moved_at types function f place g xs a b) (inputs_of_signature types sig) (λ i. in_either (is_argument_of xs i a.location) _ (unreached_behind g i a.element k)))
      ∙ pairs_empty (overlapping_at types function place g sig xs a b) (inputs_of_signature types sig) (λ i j. cond_none _ _ (and_first (is_argument_of xs i a.location && is_argument_of xs j b.location) _ (and_second (is_argument_of xs i a.location) _ (no_argument xs j b.location h))))

  second_argument : (sigs : List Signature) (i : Step) → names i b.location ≡ false → (reaches i && is_variable_place types f b.location) ≡ false → argument_diags_of_two sigs types function f place i a b ≡ []
  second_argument sigs (Call target g xs) h k = second_broken g.0 (slice_get sigs g.0) xs h k
  second_argument sigs _ h k = refl

  second_of_step : (sigs : List Signature) (i : Step) → step_tells types f i b.location ≡ false → step_diags_of_two sigs types function f place i a b ≡ []
  second_of_step sigs i h =
      let k = or_second (names i b.location) _ h in
      rw (second_by_step i k, second_argument sigs i (or_first (names i b.location) _ h) k) refl

pub first_untold : (sigs : List Signature) (types : Types) (function : ℕ) (f : Function) (spot : Option Spot) (a b : Fact) → spot_tells types f spot a.location ≡ false → diags_of_two sigs types function f spot a b ≡ []
first_untold sigs types function f None a b h = refl
first_untold sigs types function f (Some s) a b h = at_node s.node h where
  at_node : (n : Node) → node_tells types f n a.location ≡ false → node_diags_of_two sigs types function f s.place n a b ≡ []
  at_node (Action i) k = first_of_step types function f s.place a b sigs i k
  at_node (Question t) k = refl
  at_node Return k = refl
  at_node Stop k = refl

pub second_untold : (sigs : List Signature) (types : Types) (function : ℕ) (f : Function) (spot : Option Spot) (a b : Fact) → spot_tells types f spot b.location ≡ false → diags_of_two sigs types function f spot a b ≡ []
second_untold sigs types function f None a b h = refl
second_untold sigs types function f (Some s) a b h = at_node s.node h where
  at_node : (n : Node) → node_tells types f n b.location ≡ false → node_diags_of_two sigs types function f s.place n a b ≡ []
  at_node (Action i) k = second_of_step types function f s.place a b sigs i k
  at_node (Question t) k = refl
  at_node Return k = refl
  at_node Stop k = refl

-- ---- points that tell of no location

aims_at_none : (types : Types) (f : Function) (p : Location) (s : Source) (location : AbsPlace) → source_names_some s ≡ false → step_tells types f (Aim p s) location ≡ false
aims_at_none types f p (named.Place o) location h = absurd (true≢false h)
aims_at_none types f p (named.Whole o) location h = absurd (true≢false h)
aims_at_none types f p _ location h = refl

names_none : (types : Types) (f : Function) (i : Step) (location : AbsPlace) → names_some i ≡ false → step_tells types f i location ≡ false
names_none types f (Live x form) location h = refl
names_none types f (End xs) location h = refl
names_none types f (Eval r operation) location h = refl
names_none types f (Repoint p q) location h = refl
names_none types f (Make u made) location h = refl
names_none types f (Aim p s) location h = aims_at_none types f p s location h
names_none types f _ location h = absurd (true≢false h)

pub tells_none : (types : Types) (f : Function) (spot : Spot) → node_tells_some types f spot.node ≡ false → (location : AbsPlace) → spot_tells types f (Some spot) location ≡ false
tells_none types f spot h location = at_node spot.node h where
  at_node : (n : Node) → node_tells_some types f n ≡ false → node_tells types f n location ≡ false
  at_node (Action i) k = names_none types f i location k
  at_node (Question t) k = refl
  at_node Return k = rw k refl
  at_node Stop k = refl
